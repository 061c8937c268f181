-- The netlist after the network, then the refutation after it.
use Rattle.std.proofs.Common.{◌≡◌, ◌<◌, ◌≤◌, drop, length, sym, ap, arith}
use Rattle.std.proofs.lemmas.Result.{err_from_is_err_and, IfErr-weaker, on_ok_weaker}
use Rattle.tsc_text.specs.declared.section.Section.{Section}
use Rattle.text_sections.specs.Denoted.{net_from, plan_from}
use Rattle.text_sections.specs.Refused.{IsRefusedBy, first_of, netlist_section_refusal}
use Rattle.text_sections.proofs.BehindLemmas.{no_netlist}
use Rattle.text_sections.proofs.DenotedLemmas.{plan_denoted}
use Rattle.proof_answers.specs.Refused.{proof_refusal_from, refutation_after, refutation_refusal}
use Rattle.proof_answers.proofs.Few.{small_net}
use Rattle.proof_answers.proofs.Replies.{allowed_refutation, refused_netlist, refused_refutation, reply_after}
use Rattle.proof_answers.proofs.auditing.proof_from.Goals as goal

pub returns-then-from-len-clause-refused : goal.returns-then-from-len-clause-refused
returns-then-from-len-clause-refused c =
    let lines = c.args.lines.now in
    let from = c.args.from in
    let past : length lines ≤ from = omega (arith, c.if-from-len.true, c.len.ensures.count) in
    no_netlist
    (first_of (netlist_section_refusal lines from) (refutation_refusal c.args.source.now.circuit (net_from lines from).circuit (plan_from lines from) (refutation_after lines from)))
    lines from past

pub returns-in_err-read-clause-refused : goal.returns-in_err-read-clause-refused
returns-in_err-read-clause-refused c =
    let there : c.args.from < length c.args.lines.now = omega (arith, c.if-from-len.false, c.len.ensures.count) in
    let p = err_from_is_err_and c.from_residual.result c.from_residual.ensures.1 in rw (p.1, p.2) (
    refused_netlist c.args.source.now.circuit c.args.lines.now c.args.from c.in_err-read.field-0.0 there c.in_err-read.ensures.refused)

pub proof_read-requires-clause-small : goal.proof_read-requires-clause-small
proof_read-requires-clause-small c = small_net c.args.lines.now c.args.from c.in_ok-read.read.net c.in_ok-read.ensures.exact c.requires.few

pub returns-clause-answers : goal.returns-clause-answers
returns-clause-answers c =
    let lines = c.args.lines.now in
    let from = c.args.from in
    let read = c.in_ok-read.read in
    let rest : drop c.section.result.next lines ≡ refutation_after lines from = ap (λ (s : Section). drop s.next lines) c.section.ensures.section in
    reply_after lines from read.net read.plan (drop c.section.result.next lines) c.in_ok-read.ensures.exact
    (sym (plan_denoted lines from read.net read.plan c.in_ok-read.ensures.exact c.in_ok-read.ensures.denoted)) rest c.proof_read.result c.args.source.now c.proof_read.ensures.answers

pub returns-clause-allowed : goal.returns-clause-allowed
returns-clause-allowed c =
    let lines = c.args.lines.now in
    let from = c.args.from in
    let read = c.in_ok-read.read in
    let there : from < length lines = omega (arith, c.if-from-len.false, c.len.ensures.count) in
    let rest : drop c.section.result.next lines ≡ refutation_after lines from = ap (λ (s : Section). drop s.next lines) c.section.ensures.section in
    on_ok_weaker c.proof_read.result (λ allowed.
    allowed_refutation lines from read.net read.plan (drop c.section.result.next lines) c.in_ok-read.ensures.exact
    (sym (plan_denoted lines from read.net read.plan c.in_ok-read.ensures.exact c.in_ok-read.ensures.denoted)) rest c.args.source.now.circuit there c.in_ok-read.ensures.allowed allowed)
    c.proof_read.ensures.allowed

pub returns-clause-refused : goal.returns-clause-refused
returns-clause-refused c =
    let lines = c.args.lines.now in
    let from = c.args.from in
    let read = c.in_ok-read.read in
    let C = c.args.source.now.circuit in
    let there : from < length lines = omega (arith, c.if-from-len.false, c.len.ensures.count) in
    let rest : drop c.section.result.next lines ≡ refutation_after lines from = ap (λ (s : Section). drop s.next lines) c.section.ensures.section in
    IfErr-weaker c.proof_read.result (IsRefusedBy (refutation_refusal C read.net.circuit read.plan (drop c.section.result.next lines)))
    (IsRefusedBy (proof_refusal_from C lines from)) (λ given refused.
    refused_refutation lines from read.net read.plan (drop c.section.result.next lines) c.in_ok-read.ensures.exact
    (sym (plan_denoted lines from read.net read.plan c.in_ok-read.ensures.exact c.in_ok-read.ensures.denoted)) rest C given there c.in_ok-read.ensures.allowed refused)
    c.proof_read.ensures.refused
