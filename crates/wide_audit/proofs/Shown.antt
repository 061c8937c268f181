-- What a wide verdict names: the nets of its reason are nets of the netlist, and its input has as many bits as the netlist has inputs.
use Rattle.std.proofs.Common.{ℕ, ◌<◌, inl, inr, [], ◌∷◌, List, length, slice_index, arith, sym, ap, subst}
use Rattle.tsc_cover.specs.Cover.{CoverTable}
use Rattle.fault_secure.specs.Circuit.{Circuit, nets, node_net, pin_net}
use Rattle.fault_secure.specs.Closed.{IsClosed}
use Rattle.fault_secure.specs.CodePlan.{CodePlan, IsPlanOf}
use Rattle.fault_secure.specs.Depends.{Depends}
use Rattle.fault_secure.specs.Depends.Depends.{itself, through}
use Rattle.fault_secure.proofs.DependsLemmas.{depends_there}
use Rattle.code_checkers.specs.Signal.{Signal}
use Rattle.code_checkers.specs.Signal.Signal.{Word, Buf, Not, And, Or, Xor}
use Rattle.code_checkers.specs.Block.{IsGateNode}
use Rattle.code_checkers.specs.Checker.{rail1, rail2}
use Rattle.checker_audit.specs.FirstMisfit.{IsFirstMisfit, IsFirstMismatch}
use Rattle.structure_audit.specs.StructureReason.{IsFirstInnerRail}
use Rattle.audit.specs.declared.verdict.Reason.TheVariants as reason
use Rattle.wide_audit.specs.declared.verdict.WideReason.TheVariants as wide
use Rattle.wide_audit.specs.declared.verdict.WideVerdict.TheVariants.{Yes, No}
use Rattle.wide_audit.specs.Laws.{WideVerdictsAreShown}

-- the net of a node is a net
node_is_net : (N : Circuit) (q : ℕ) → q < length N.nodes → node_net N q < nets N
node_is_net N q h = omega arith

-- a net that depends on a node is a net
dependent_is_net : (N : Circuit) (q net : ℕ) → Depends N q net → net < nets N
dependent_is_net N q net (itself _ there is) = rw is (node_is_net N q there)
dependent_is_net N q net (through _ j pin there is has further) = rw is (node_is_net N j there)

-- a rail is a net
rail_is_net : (N : Circuit) (P : CodePlan) (net : ℕ) → IsPlanOf N P → IsFirstInnerRail N P net → net < nets N
rail_is_net N P net plan (inl is) = rw is.0 plan.rails.0
rail_is_net N P net plan (inr is) = rw is.1 plan.rails.1

-- the nets at the pins of a gate's node are nets
module _ (N : Circuit) (P : CodePlan) (closed : IsClosed N) where
  pin_is_net : (net pin : ℕ) (cover : CoverTable) (reads : List ℕ) (g : IsGateNode N P net cover reads) → pin < length reads → pin_net N g.driver pin < nets N
  pin_is_net net pin cover reads g has =
      closed.pins g.driver pin g.is_node (subst (λ (r : List ℕ). pin < length r) (sym (ap (λ n. n.reads) g.is_gate)) has)

  first_is_net : (net m : ℕ) (cover : CoverTable) (reads : List ℕ) → IsGateNode N P net cover (m ∷ reads) → m < nets N
  first_is_net net m cover reads g = rw (← ap (λ n. slice_index n.reads 0) g.is_gate) (pin_is_net net 0 cover (m ∷ reads) g (omega arith))

  second_is_net : (net m n : ℕ) (cover : CoverTable) → IsGateNode N P net cover (m ∷ (n ∷ [])) → n < nets N
  second_is_net net m n cover g = rw (← ap (λ n. slice_index n.reads 1) g.is_gate) (pin_is_net net 1 cover (m ∷ (n ∷ [])) g (omega arith))

  -- the first net that doesn't fit its gate is a net, where the walk begins at one
  misfit_is_net : (s : Signal) (net bad : ℕ) → net < nets N → IsFirstMisfit N P s net bad → bad < nets N
  misfit_is_net (Word place) net bad h is = rw is.0 h
  misfit_is_net (Buf a) net bad h (inl is) = rw is.0 h
  misfit_is_net (Buf a) net bad h (inr is) = misfit_is_net a is.0 bad (first_is_net net is.0 _ _ is.1) is.2
  misfit_is_net (Not a) net bad h (inl is) = rw is.0 h
  misfit_is_net (Not a) net bad h (inr is) = misfit_is_net a is.0 bad (first_is_net net is.0 _ _ is.1) is.2
  misfit_is_net (And a b) net bad h (inl is) = rw is.0 h
  misfit_is_net (And a b) net bad h (inr (m, n, g, inl is)) = misfit_is_net a m bad (first_is_net net m _ _ g) is
  misfit_is_net (And a b) net bad h (inr (m, n, g, inr is)) = misfit_is_net b n bad (second_is_net net m n _ g) is.1
  misfit_is_net (Or a b) net bad h (inl is) = rw is.0 h
  misfit_is_net (Or a b) net bad h (inr (m, n, g, inl is)) = misfit_is_net a m bad (first_is_net net m _ _ g) is
  misfit_is_net (Or a b) net bad h (inr (m, n, g, inr is)) = misfit_is_net b n bad (second_is_net net m n _ g) is.1
  misfit_is_net (Xor a b) net bad h (inl is) = rw is.0 h
  misfit_is_net (Xor a b) net bad h (inr (m, n, g, inl is)) = misfit_is_net a m bad (first_is_net net m _ _ g) is
  misfit_is_net (Xor a b) net bad h (inr (m, n, g, inr is)) = misfit_is_net b n bad (second_is_net net m n _ g) is.1

  mismatch_is_net : (bad : ℕ) → IsPlanOf N P → IsFirstMismatch N P bad → bad < nets N
  mismatch_is_net bad plan (inl is) = misfit_is_net (rail1 P) P.rail1 bad plan.rails.0 is
  mismatch_is_net bad plan (inr is) = misfit_is_net (rail2 P) P.rail2 bad plan.rails.1 is.1

pub wide_verdicts_are_shown : WideVerdictsAreShown
wide_verdicts_are_shown rows S N P Yes closed plan is = tt
wide_verdicts_are_shown rows S N P (No (wide.Word input)) closed plan is = is.1
wide_verdicts_are_shown rows S N P (No (wide.Output input place)) closed plan is = is.1
wide_verdicts_are_shown rows S N P (No (wide.Structure (reason.Shape what))) closed plan is = tt
wide_verdicts_are_shown rows S N P (No (wide.Structure (reason.Rails net))) closed plan is = rail_is_net N P net.number plan is.1
wide_verdicts_are_shown rows S N P (No (wide.Structure (reason.Reads at pin))) closed plan is = rw is.1.1.1 (node_is_net N is.1.1.0 is.1.1.2.breaks.is_node)
wide_verdicts_are_shown rows S N P (No (wide.Structure (reason.Sign at pin))) closed plan is = rw is.1.3.1 (node_is_net N is.1.3.0 is.1.3.2.breaks.is_node)
wide_verdicts_are_shown rows S N P (No (wide.Structure reason.Latched)) closed plan is = tt
wide_verdicts_are_shown rows S N P (No (wide.Structure (reason.Shares group first second at))) closed plan is =
    let found = is.1.4.here.nets in
    let first_depends : Depends N found.driver first.number = found.common.of_first in
    let second_depends : Depends N found.driver second.number = found.common.of_second in (
      dependent_is_net N found.driver first.number first_depends,
      dependent_is_net N found.driver second.number second_depends,
      rw found.drives (node_is_net N found.driver (depends_there N found.driver first.number first_depends)),
    )
wide_verdicts_are_shown rows S N P (No (wide.Structure reason.Reset)) closed plan is = tt
wide_verdicts_are_shown rows S N P (No (wide.Structure (reason.Next state input))) closed plan is = absurd is
wide_verdicts_are_shown rows S N P (No (wide.Structure (reason.Word state input))) closed plan is = absurd is
wide_verdicts_are_shown rows S N P (No (wide.Structure (reason.Output state input place))) closed plan is = absurd is
wide_verdicts_are_shown rows S N P (No (wide.Structure (reason.CheckerWord value width))) closed plan is =
    let checker = is.1.1 in record { few = rw checker.1 (omega (arith, checker.0)); fits = rw checker.1 checker.2.0 }
wide_verdicts_are_shown rows S N P (No (wide.Structure (reason.CheckerNet net))) closed plan is = mismatch_is_net N P closed net.number plan is.1.1.1
