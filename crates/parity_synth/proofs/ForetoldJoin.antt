-- A netlist with foretold checks and their checker is self-checking.
use Rattle.std.proofs.Common.{◌≡◌, ℕ, ◌≤◌, Bool, false, List, [], length, Some, refl, sym, ◌∙◌, subst, arith}
use Rattle.std.proofs.lemmas.Grind.{common_steps}
use Rattle.fault_secure.specs.Circuit.{Circuit, bit}
use Rattle.fault_secure.specs.StuckAt.{NoFault}
use Rattle.fault_secure.specs.Closed.{IsClosed}
use Rattle.fault_secure.specs.Settle.{Settles, Acyclic}
use Rattle.fault_secure.specs.Run.{init_state}
use Rattle.fault_secure.specs.declared.code.Code.TheVariants.{Parity}
use Rattle.fault_secure.specs.CodePlan.{CodePlan, word, HasShape, HasGroups, IsWellMade, IsPlanOf, IsCodeword}
use Rattle.fault_secure.specs.Logic.Logic.{Network}
use Rattle.fault_secure.specs.FaultSecure.{state_at, next_in, StepFollows}
use Rattle.fault_secure.specs.SoundStructure.{SuitsCode, HasSoundStructure}
use Rattle.fault_secure.specs.OneRun.{HasOneValuation}
use Rattle.fault_secure.proofs.OneRun.{one_valuation}
use Rattle.code_checkers.specs.Block.{RailsRealise, IsSoundChecker}
use Rattle.code_checkers.proofs.Block.{checker_sound}
use Rattle.code_checkers.specs.SelfChecking.{IsSelfChecking}
use Rattle.parity_code.specs.Foretold.{IsForetoldFunction}
use Rattle.parity_code.proofs.ForetoldFunction.{disjoint_cones, foretold_answers, foretold_codeword, function_sound}

module _ (C N : Circuit) (P : CodePlan) (top : ℕ) (source : Acyclic C) (acyclic : Acyclic N) (closed : IsClosed N) (code : P.code ≡ Parity) (made : IsWellMade P) (plan : IsPlanOf N P)
    (f : IsForetoldFunction C N P top) (stated : RailsRealise N P) where
  has_groups : HasGroups P
  has_groups = subst (λ code. HasShape code P) code made.shape

  no_latches : P.latches ≡ 0
  no_latches = plan.latches ∙ f.own.latchless.1

  no_weight : P.weight ≡ 0
  no_weight = let none : (P.states ≡ []) × (P.weight ≡ 0) = made.states.none no_latches in none.1

  -- without latches the state is 0
  one_state : (s : List Bool) → state_at P s ≡ Some 0
  one_state s = let e : P.latches ≡ 0 = no_latches in grind (arith, common_steps)

  checker : IsSoundChecker N P
  checker = checker_sound N P made plan stated

  structure : HasSoundStructure N P
  structure = record {
    well_made = made;
    plan_of = plan;
    closed = closed;
    acyclic = acyclic;
    rails = checker.rails;
    reads = checker.reads;
    suits = subst (λ code. SuitsCode code N P) (sym code) (disjoint_cones C N P top f has_groups.within);
    checker = checker.decides;
  }

  fits : top ≤ length N.nodes
  fits = (function_sound C N P top f source.rank source.ranks).fits

  step : (q : ℕ) (s x v : List Bool) → state_at P s ≡ Some q → Settles N NoFault (bit x) (bit s) v → StepFollows (Network C) N P s x v
  step q s x v at settles =
      let one : HasOneValuation C NoFault (bit x) (λ _. false) = one_valuation C NoFault (bit x) (λ _. false) source in
      record {
        here = q;
        next = 0;
        traced = at;
        arrives = one_state (next_in N v);
        outputs = record {
          valuation = one.valuation;
          settles = one.settles;
          answers = sym (foretold_answers C N P top f source.rank source.ranks fits (bit x) (bit s) (λ _. false) v one.valuation settles one.settles);
        };
        next_allowed = refl;
      }

  codeword : (q : ℕ) (s x v : List Bool) → state_at P s ≡ Some q → Settles N NoFault (bit x) (bit s) v → IsCodeword P (word N P v)
  codeword q s x v at settles =
      let one : HasOneValuation C NoFault (bit x) (λ _. false) = one_valuation C NoFault (bit x) (λ _. false) source in
      foretold_codeword C N P top f source.rank source.ranks fits (bit x) (bit s) (λ _. false) v one.valuation settles one.settles code no_weight has_groups.within

  pub foretold_self_checking : IsSelfChecking (Network C) N P
  foretold_self_checking = record { structure = structure; rails = stated; follows = record { starts = one_state (init_state N); steps = step; codewords = codeword } }
