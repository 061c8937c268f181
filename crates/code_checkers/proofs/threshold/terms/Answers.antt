use Rattle.std.proofs.Common.{ℕ, List, sym, subst, arith}
use Rattle.code_checkers.specs.Draft.{meanings, AreAdded}
use Rattle.code_checkers.specs.Threshold.{thresholds}
use Rattle.code_checkers.proofs.Halves.{length-added, terms_added}
use Rattle.code_checkers.proofs.threshold.terms.Goals as goal

pub add_terms-requires-clause-most : goal.add_terms-requires-clause-most
add_terms-requires-clause-most c =
    omega (
      arith,
      length-added c.args.draft.now c.thresholds.new.draft c.args.a.now c.in_ok-firsts.firsts.items c.in_ok-firsts.ensures.added,
      length-added c.thresholds.new.draft c.thresholds-2.new.draft c.args.b.now c.in_ok-seconds.seconds.items c.in_ok-seconds.ensures.added,
    )

pub add_terms-requires-clause-small : goal.add_terms-requires-clause-small
add_terms-requires-clause-small c =
    omega (
      arith,
      length-added c.args.draft.now c.thresholds.new.draft c.args.a.now c.in_ok-firsts.firsts.items c.in_ok-firsts.ensures.added,
      length-added c.thresholds.new.draft c.thresholds-2.new.draft c.args.b.now c.in_ok-seconds.seconds.items c.in_ok-seconds.ensures.added,
    )

pub returns : goal.returns
returns c =
    let a = c.args.draft.now in
    let b = c.thresholds.new.draft in
    let d = c.thresholds-2.new.draft in
    let first = subst (λ (row : List ℕ). AreAdded a b (thresholds (meanings a c.args.a.now)) row) (sym c.deref.ensures.value) c.in_ok-firsts.ensures.added in
    let second = subst (λ (row : List ℕ). AreAdded b d (thresholds (meanings b c.args.b.now)) row) (sym c.deref-2.ensures.value) c.in_ok-seconds.ensures.added in
    record { added = terms_added a b d c.add_terms.new.draft c.args.a.now c.args.b.now c.deref.result.now c.deref-2.result.now c.in_ok-terms.terms.items c.args.m c.requires.b first second c.in_ok-terms.ensures.added }
