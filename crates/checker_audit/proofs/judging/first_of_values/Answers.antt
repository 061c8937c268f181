use Rattle.std.proofs.Common.{ℕ, ◌+◌, Bool, not, refl, subst, arith}
use Rattle.tsc_bits.specs.Bits.{bits_of}
use Rattle.checker_audit.specs.Misjudged.{monitored_count, IsTried}
use Rattle.checker_audit.proofs.judging.first_of_values.Goals as goal

pub returns-in-Some : goal.returns-in-Some
returns-in-Some c =
    let N = c.args.net.now.circuit in
    let P = c.args.plan.now in
    let first = c.in-Some.ensures.first in
    let says = λ (p : ℕ) (b : Bool). IsTried N P (bits_of (monitored_count N P) (c.args.base + p)) (not b) in
    record {
      answer = record {
        at = c.in-Some.at;
        is = refl;
        within = first.within;
        wrong = subst (says c.in-Some.at) first.marked (c.misjudged-wrong.ensures.tried c.args.base c.in-Some.at (omega arith) c.requires.shows);
        before = λ p below. subst (says p) (first.before p below) (c.misjudged-wrong.ensures.tried c.args.base p (omega arith) c.requires.shows);
      };
    }

pub returns-in-None : goal.returns-in-None
returns-in-None c =
    let N = c.args.net.now.circuit in
    let P = c.args.plan.now in
    record {
      answer = λ p low.
          subst (λ (b : Bool). IsTried N P (bits_of (monitored_count N P) (c.args.base + p)) (not b)) (c.in-None.ensures.first p low)
          (c.misjudged-wrong.ensures.tried c.args.base p (omega arith) c.requires.shows);
    }
