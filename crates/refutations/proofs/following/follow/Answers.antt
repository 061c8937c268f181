use Rattle.std.proofs.Common.{ℕ, sym, subst}
use Rattle.refutations.specs.Checking.{HoldWithin}
use Rattle.refutations.proofs.Soundness.{found_within}
use Rattle.refutations.proofs.following.follow.Goals as goal

pub reduced-requires : goal.reduced-requires
reduced-requires c = record {
  within = found_within _ c.args.clauses.now.clauses _ _
      (subst (λ (n : ℕ). HoldWithin n c.args.clauses.now.clauses) (sym c.loop-hint.invariant.sized) c.requires.within) c.in-Some.ensures.found;
}
