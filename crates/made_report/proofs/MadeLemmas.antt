-- The machine of a made text: nothing refuses it, and its netlist has the stated counts.
use Rattle.std.proofs.Common.{◌≡◌, refl, arith, ℕ, ◌+◌, ◌*◌, ◌^◌, ◌<◌, ◌≤◌, Bool, true, false, cond, ◌==◌, nat_lt, if◌then◌else◌, List, [], ◌∷◌, ◌++◌, codes, length, filter, Option, None, Some, ap, ap₂, sym, ◌∙◌, subst, ne_eqb}
use Rattle.std.specs.List.{list_all, range_with_len, sum_by}
use Rattle.std.proofs.lemmas.Bool.{and_parts, false≢true, le-ltb, ltb-false, ltb-true}
use Rattle.std.proofs.lemmas.List.Sums.{sum_by-cons}
use Rattle.fault_secure.specs.Circuit.{nets}
use Rattle.fault_secure.specs.CodePlan.{CodePlan}
use Rattle.fault_secure.specs.declared.code.Code.TheVariants.{Berger}
use Rattle.fault_secure.specs.Logic.{StateTable, States, Transition, starts_at}
use Rattle.tsc_net.specs.NetlistOf.{NetlistOf}
use Rattle.tsc_net.specs.Limits.{most_nets}
use Rattle.tsc_text.specs.Bytes.{bad_line}
use Rattle.tsc_text.specs.Lines.{lines_of}
use Rattle.audit.specs.Verdict.{FitsSource, audit_points}
use Rattle.audit.specs.declared.verdict.Verdict.{Verdict}
use Rattle.audit.specs.declared.verdict.Verdict.TheVariants.{Yes}
use Rattle.machine_maker.specs.Summary.{summary_text}
use Rattle.machine_maker.specs.declared.summary.Figures.{Figures}
use Rattle.std.proofs.lemmas.List.{append_assoc}
use Rattle.netlist_answers.specs.VerdictText.{verdict_text}
use Rattle.kiss_read.specs.Refusal.{refusal}
use Rattle.machine_lines.specs.MachineSize.{row_count}
use Rattle.machine_maker.specs.MadeMachine.{IsMade, names_state_below}
use Rattle.machine_synth.specs.MachineBound.{check_count, machine_bound, state_weight}
use Rattle.machine_synth.specs.MachineNetlist.{IsMachineNetlist}
use Rattle.machine_synth.proofs.Bounds.{check_is, weight_is}
use Rattle.machine_synth.proofs.MachineJoin.{state_count}
use Rattle.tsc_synth.specs.MachineLimits.{has_too_many_states, takes_too_many_covers}
use Rattle.refusals.specs.declared.refusal.Refusal.{Refusal}
use Rattle.refusals.specs.declared.text_refusal.TextRefusal.{TextRefusal}
use Rattle.text_sections.specs.Denoted.{machine_in, machine_lines}
use Rattle.made_report.specs.Made.{figures_of, machine_limits_refusal, make_refusal, report_of}
use Rattle.text_sections.specs.Refused.{IsRefusedBy, behind_machine, byte_refusal, first_of, machine_lines_refusal, machine_refusal}
use Rattle.netlist_answers.specs.Refused.{audit_points_refusal, has_too_many_audit_points}
use Rattle.answers.specs.Refused.{limits_refusal, size_refusal, states_refusal}
use Rattle.tsc_synth.proofs.RowCount.{met-once}

-- ---- the rows, counted a state at a time

abbrev at_state : List Transition → ℕ → ℕ
at_state rows q = length (filter (λ (r : Transition). starts_at r.from q) rows)

-- a row that names a state is one of that state alone
one_more : (row : Transition) (rows : List Transition) (q : ℕ) → at_state (row ∷ rows) q ≡ cond (starts_at row.from q) 1 0 + at_state rows q
one_more row rows q = by (starts_at row.from q)
  where
    by : (b : Bool) → length (cond b (row ∷ filter (λ (r : Transition). starts_at r.from q) rows) (filter (λ (r : Transition). starts_at r.from q) rows))
        ≡ cond b 1 0 + length (filter (λ (r : Transition). starts_at r.from q) rows)
    by true = omega arith
    by false = omega arith

no_rows : (qs : List ℕ) → sum_by (at_state []) qs ≡ 0
no_rows [] = refl
no_rows (q ∷ qs) = let a = sum_by-cons (at_state []) q qs in let b = no_rows qs in omega (arith, a, b)

row_and_rows : (row : Transition) (rows : List Transition) (qs : List ℕ)
    → sum_by (at_state (row ∷ rows)) qs ≡ sum_by (λ q. cond (starts_at row.from q) 1 0) qs + sum_by (at_state rows) qs
row_and_rows row rows [] = refl
row_and_rows row rows (q ∷ qs) =
    let a = sum_by-cons (at_state (row ∷ rows)) q qs in
    let b = one_more row rows q in
    let c = row_and_rows row rows qs in
    let d = sum_by-cons (λ q. cond (starts_at row.from q) 1 0) q qs in
    let e = sum_by-cons (at_state rows) q qs in
    omega (arith, a, b, c, d, e)

once : (states : ℕ) (from : Option ℕ) → names_state_below states from ≡ true → sum_by (λ q. cond (starts_at from q) 1 0) (range_with_len 0 states) ≡ 1
once states None named = absurd (false≢true named)
once states (Some from) named = met-once from 0 states (omega arith) (let low = ltb-true from states named in omega (arith, low))

rows_once : (states : ℕ) (rows : List Transition) → list_all (λ (row : Transition). names_state_below states row.from) rows ≡ true
    → sum_by (at_state rows) (range_with_len 0 states) ≡ length rows
rows_once states [] named = no_rows (range_with_len 0 states)
rows_once states (row ∷ rows) named =
    let parts = and_parts (names_state_below states row.from) (list_all (λ (row : Transition). names_state_below states row.from) rows) named in
    let a = row_and_rows row rows (range_with_len 0 states) in
    let b = once states row.from parts.0 in
    let c = rows_once states rows parts.1 in
    omega (arith, a, b, c)

-- ---- the bound

rows_counted : (M : StateTable) → M.states ≡ 48 → length M.rows ≡ 192 → list_all (λ (row : Transition). names_state_below 48 row.from) M.rows ≡ true → row_count M ≡ 192
rows_counted M states rows named =
    ap (λ n. sum_by (at_state M.rows) (range_with_len 0 n)) states ∙ (rows_once 48 M.rows named ∙ rows)

pub bound_is : (M : StateTable) → M.inputs ≡ 7 → M.outputs ≡ 8 → M.states ≡ 48 → length M.rows ≡ 192
    → list_all (λ (row : Transition). names_state_below 48 row.from) M.rows ≡ true → machine_bound M Berger ≡ 37148
bound_is M inputs outputs states rows named =
    let counted = rows_counted M states rows named in
    rw (counted, inputs, outputs, states) refl

-- ---- nothing refuses it

not_past : (n : ℕ) → nat_lt n n ≡ false
not_past n = le-ltb n n (omega arith)

module _ (text : List ℕ) (is : IsMade text) where
  pub limits : machine_limits_refusal (machine_in text) ≡ None
  limits =
      let M = machine_in text in
      let few : has_too_many_states M ≡ false = ap (nat_lt 924) is.states in
      let small : takes_too_many_covers Berger M ≡ false = ap (nat_lt 1048576) (bound_is M is.inputs is.outputs is.states is.rows is.named) in
      let points : has_too_many_audit_points (States M) ≡ false = ap₂ (λ n i. nat_lt 1048576 (n * 2 ^ i)) is.states is.inputs in
      rw (few, small, points) refl

  whole : behind_machine (lines_of text) ≡ None
  whole = rw (is.whole, not_past (length (lines_of text))) refl

  pub lines_allowed : machine_lines_refusal (lines_of text) ≡ None
  lines_allowed =
      let read : machine_refusal (refusal (machine_lines (lines_of text))) ≡ None = ap machine_refusal is.lines in
      ap (λ r. first_of r (behind_machine (lines_of text))) read ∙ whole

  -- nothing refuses a made text as `make` reads it: neither its bytes, its lines, the limits of a machine nor those of an audit
  pub never_refused : make_refusal text ≡ None
  never_refused =
      let M = machine_in text in
      let few : has_too_many_states M ≡ false = ap (nat_lt 924) is.states in
      let small : takes_too_many_covers Berger M ≡ false = ap (nat_lt 1048576) (bound_is M is.inputs is.outputs is.states is.rows is.named) in
      let points : has_too_many_audit_points (States M) ≡ false = ap₂ (λ n i. nat_lt 1048576 (n * 2 ^ i)) is.states is.inputs in
      let bytes : byte_refusal (bad_line text) ≡ None = ap byte_refusal is.bytes in
      let read : machine_refusal (refusal (machine_lines (lines_of text))) ≡ None = ap machine_refusal is.lines in
      ap (λ r. first_of (first_of (first_of r (machine_lines_refusal (lines_of text))) (limits_refusal Berger M)) (audit_points_refusal (has_too_many_audit_points (States M)))) bytes
      ∙ (ap (λ r. first_of (first_of (first_of r (behind_machine (lines_of text))) (limits_refusal Berger M)) (audit_points_refusal (has_too_many_audit_points (States M)))) read
      ∙ (ap (λ r. first_of (first_of r (limits_refusal Berger M)) (audit_points_refusal (has_too_many_audit_points (States M)))) whole
      ∙ (ap (λ b. first_of (first_of (states_refusal b) (size_refusal (takes_too_many_covers Berger M))) (audit_points_refusal (has_too_many_audit_points (States M)))) few
      ∙ (ap (λ b. first_of (size_refusal b) (audit_points_refusal (has_too_many_audit_points (States M)))) small
      ∙ ap audit_points_refusal points))))

-- ---- the netlist has the source's counts

some_latches : (latches states : ℕ) → 0 < latches → (if latches == 0 then 1 else states) ≡ states
some_latches latches states some = ap (λ b. if b then 1 else states) (ne_eqb latches 0 (λ e. omega arith))

-- the netlist of a machine has as many inputs, outputs and states as the machine
pub machine_fits : (M : StateTable) (inputs outputs : List (List ℕ)) (N : NetlistOf) (P : CodePlan) → IsMachineNetlist M inputs outputs N P
    → FitsSource (States M) N.circuit P
machine_fits M inputs outputs N P is =
    let half : P.latches ≡ 2 * P.weight = is.plan.half in
    let some : 1 ≤ P.weight = is.plan.least.some in
    record {
      inputs = is.given.count;
      outputs = is.plan.outputs;
      states = some_latches P.latches (length P.states) (omega (arith, half, some)) ∙ state_count M P is.plan;
    }

-- how many checks and latches it has
pub checks_are : (M : StateTable) (inputs outputs : List (List ℕ)) (N : NetlistOf) (P : CodePlan) → IsMachineNetlist M inputs outputs N P
    → P.code ≡ Berger → 0 < M.outputs → M.outputs ≤ 64 → length P.checks ≡ check_count Berger M.outputs
checks_are M inputs outputs N P is code some most =
    let count : check_count P.code P.outputs ≡ length P.checks =
    check_is P.code P.outputs (length P.checks) (let e = is.plan.outputs in omega (arith, e, some)) (let e = is.plan.outputs in omega (arith, e, most)) is.plan.width in
    sym count ∙ ap₂ check_count code is.plan.outputs

-- the netlist of a machine of at most 924 states has twice as many latches as the weight of its state words
pub latches_are : (M : StateTable) (inputs outputs : List (List ℕ)) (N : NetlistOf) (P : CodePlan) → IsMachineNetlist M inputs outputs N P
    → M.states ≤ 924 → P.latches ≡ length N.circuit.latches → length N.circuit.latches ≡ 2 * state_weight M.states
latches_are M inputs outputs N P is few same =
    sym same ∙ (is.plan.half ∙ ap (λ m. 2 * m) (sym (weight_is M.states few P.weight is.plan.least)))

-- ---- the report

pub report_written : (number : ℕ) (M : StateTable) (figures : Figures) (net : NetlistOf) (verdict : Verdict) (summary audited line all : List ℕ)
    → figures ≡ figures_of M → summary ≡ summary_text number figures → audited ≡ summary ++ codes "audit " → line ≡ verdict_text net verdict
    → verdict ≡ Yes → all ≡ audited ++ line → all ≡ report_of number M
report_written number M figures net verdict summary audited line all f s a l v w =
    w
    ∙ (ap₂ (λ x y. x ++ y) (a ∙ ap (λ x. x ++ codes "audit ") (s ∙ ap (summary_text number) f)) (l ∙ ap (verdict_text net) v)
    ∙ append_assoc (summary_text number (figures_of M)) (codes "audit ") (codes "yes" ++ 10 ∷ []))

-- the limits of a machine that are kept
pub kept_bound : (M : StateTable) → limits_refusal Berger M ≡ None → machine_bound M Berger ≤ 1048576
kept_bound M none = by (has_too_many_states M) (takes_too_many_covers Berger M) refl none
  where
    by : (a b : Bool) → takes_too_many_covers Berger M ≡ b → first_of (states_refusal a) (size_refusal b) ≡ None → machine_bound M Berger ≤ 1048576
    by true b e f = cc
    by false true e f = cc
    by false false e f = ltb-false 1048576 (machine_bound M Berger) e

pub kept_states : (M : StateTable) → limits_refusal Berger M ≡ None → M.states ≤ 924
kept_states M none = by (has_too_many_states M) refl none
  where
    by : (a : Bool) → has_too_many_states M ≡ a → first_of (states_refusal a) (size_refusal (takes_too_many_covers Berger M)) ≡ None → M.states ≤ 924
    by true e f = cc
    by false e f = ltb-false 924 M.states e

-- a machine that is not refused for its points has at most 1,048,576 of them
pub kept_points : (M : StateTable) → audit_points_refusal (has_too_many_audit_points (States M)) ≡ None → audit_points (States M) ≤ 1048576
kept_points M none = by (has_too_many_audit_points (States M)) refl none
  where
    by : (a : Bool) → has_too_many_audit_points (States M) ≡ a → audit_points_refusal a ≡ None → audit_points (States M) ≤ 1048576
    by true e f = cc
    by false e f = ltb-false 1048576 (audit_points (States M)) e

-- a machine's netlist has few latches and few nets
bit_small : (b : Bool) → cond b 1 0 ≤ 1
bit_small true = omega arith
bit_small false = omega arith

weight_small : (states : ℕ) → state_weight states ≤ 6
weight_small states =
    let a = bit_small (nat_lt 2 states) in
    let b = bit_small (nat_lt 6 states) in
    let c = bit_small (nat_lt 20 states) in
    let d = bit_small (nat_lt 70 states) in
    let e = bit_small (nat_lt 252 states) in
    omega (arith, a, b, c, d, e)

pub few_latches : (M : StateTable) (inputs outputs : List (List ℕ)) (N : NetlistOf) (P : CodePlan) → IsMachineNetlist M inputs outputs N P
    → M.states ≤ 924 → P.latches ≡ length N.circuit.latches → length N.circuit.latches ≤ 64
few_latches M inputs outputs N P is few same =
    let are = latches_are M inputs outputs N P is few same in
    let small = weight_small M.states in
    omega (arith, are, small)

pub few_nets : (M : StateTable) (inputs outputs : List (List ℕ)) (N : NetlistOf) (P : CodePlan) → IsMachineNetlist M inputs outputs N P
    → M.inputs ≤ 64 → length N.circuit.latches ≤ 64 → length N.circuit.nodes ≤ 1048576 → nets N.circuit ≤ most_nets
few_nets M inputs outputs N P is few latches nodes = let count = is.given.count in omega (arith, few, latches, nodes, count)

-- where nothing is refused, only memory may be missing
pub only_memory : (refusal : Option TextRefusal) (given : Refusal) → refusal ≡ None → IsRefusedBy refusal given → IsRefusedBy None given
only_memory refusal given none refused = let P : Option TextRefusal → Type 0 = λ r. IsRefusedBy r given in subst P none refused
