-- What is self-checking for a network is so for a source with free bits that has its values, under a plan of version 2.
use Rattle.std.proofs.Common.{◌≡◌, ℕ, ◌++◌, ◌+◌, List, inr, length, refl, sym, ap, ◌∙◌, subst}
use Rattle.fault_secure.specs.declared.code.Code.{Code}
use Rattle.fault_secure.specs.declared.code.Code.TheVariants.{Parity, Berger, MOutOfN}
use Rattle.fault_secure.specs.Circuit.{Circuit}
use Rattle.fault_secure.specs.CodePlan.{CodePlan}
use Rattle.fault_secure.specs.Logic.{Loose, Network}
use Rattle.structure_laws.specs.LooseSource.{with_version}
use Rattle.structure_laws.proofs.LooseSource.{follows_with_free_bits, function_over, sound_under_any_version}
use Rattle.synth_ways.specs.declared.way.Way.{Way}
use Rattle.synth_ways.specs.declared.way.Way.TheVariants as way
use Rattle.tsc_cover.specs.Cover.{CoverTable}
use Rattle.tsc_net.specs.NetlistOf.{NetlistOf}
use Rattle.code_checkers.specs.Block.{IsGateNode, RailsRealise, Realises}
use Rattle.code_checkers.specs.Checker.{code_pairs, rail1, rail2, state_pairs}
use Rattle.code_checkers.specs.SelfChecking.{IsSelfChecking}
use Rattle.code_checkers.specs.Signal.{Pair, Signal}
use Rattle.code_checkers.specs.Signal.Signal.{Word, Buf, Not, And, Or, Xor}
use Rattle.code_checkers.specs.TwoRail.{tree}
use Rattle.tsc_synth.specs.WayNetlist.{IsNetlistOf}

module _ (P : CodePlan) (version : ℕ) where
  abbrev Q : CodePlan
  Q = with_version version P

  -- the checker of a plan doesn't look at its version
  pairs_under : (code : Code) → code_pairs code Q ≡ code_pairs code P
  pairs_under Parity = refl
  pairs_under Berger = refl
  pairs_under MOutOfN = refl

  abbrev last : List Pair → Pair
  last pairs = tree (pairs ++ state_pairs (P.outputs + length P.checks) P.latches P.weight)

  module _ (N : Circuit) where
    gate_under : (net : ℕ) (cover : CoverTable) (reads : List ℕ) → IsGateNode N P net cover reads → IsGateNode N Q net cover reads
    gate_under net cover reads h = record {
      driver = h.driver;
      is_node = h.is_node;
      outside = λ inside. h.outside (function_over P version N h.driver inside);
      drives = h.drives;
      is_gate = h.is_gate;
    }

    realised_under : (signal : Signal) (net : ℕ) → Realises N P signal net → Realises N Q signal net
    realised_under (Word place) net h = h
    realised_under (Buf a) net (m, gate, first) = (m, gate_under net _ _ gate, realised_under a m first)
    realised_under (Not a) net (m, gate, first) = (m, gate_under net _ _ gate, realised_under a m first)
    realised_under (And a b) net (m, n, gate, first, second) = (m, n, gate_under net _ _ gate, realised_under a m first, realised_under b n second)
    realised_under (Or a b) net (m, n, gate, first, second) = (m, n, gate_under net _ _ gate, realised_under a m first, realised_under b n second)
    realised_under (Xor a b) net (m, n, gate, first, second) = (m, n, gate_under net _ _ gate, realised_under a m first, realised_under b n second)

    rails_under : RailsRealise N P → RailsRealise N Q
    rails_under h = record {
      first = subst (λ signal. Realises N Q signal P.rail1) (ap (λ pairs. Buf (last pairs).first) (sym (pairs_under P.code))) (realised_under (rail1 P) P.rail1 h.first);
      second = subst (λ signal. Realises N Q signal P.rail2) (ap (λ pairs. Buf (last pairs).second) (sym (pairs_under P.code))) (realised_under (rail2 P) P.rail2 h.second);
    }

pub checking_with_free_bits : (V F N : Circuit) (P Q : CodePlan) → Q ≡ with_version 2 P → IsSelfChecking (Network V) N P → IsSelfChecking (Loose V F) N Q
checking_with_free_bits V F N P Q is h =
    subst (IsSelfChecking (Loose V F) N) (sym is) (record {
      structure = sound_under_any_version N P 2 (inr refl) h.structure;
      rails = rails_under P 2 N h.rails;
      follows = follows_with_free_bits V F N P 2 h.follows;
    })

-- a synthesis of a network writes version 1
version_is : (how : Way) (S N : NetlistOf) (P : CodePlan) → IsNetlistOf how S N P → P.version ≡ 1
version_is way.Parity S N P exact = ap (λ (p : CodePlan). p.version) exact.plan
version_is way.Duplex S N P exact = ap (λ (p : CodePlan). p.version) exact.plan
version_is way.Berger S N P exact = exact.plan.version
version_is way.MOutOfN S N P exact = exact.plan.version

-- so the plan is its own plan under version 1
pub first_version : (how : Way) (S N : NetlistOf) (P Q : CodePlan) → IsNetlistOf how S N P → Q ≡ with_version 2 P → with_version 1 Q ≡ P
first_version how S N P Q exact is =
    ap (with_version 1) is ∙ ap (λ version. with_version version P) (sym (version_is how S N P exact))
