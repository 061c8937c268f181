use Rattle.std.proofs.Common.{◌≡◌, ℕ, List, ◌++◌, Option, refl, sym, ap, ◌∙◌}
use Rattle.blif_read.specs.declared.clocks.Clock.{Clock}
use Rattle.buffered_sink.proofs.PrintLemmas.{begin, cut, ends, exits, more}
use Rattle.blif_write.specs.RegisterText.{clock_words}
use Rattle.module_join.specs.declared.part.Part.{Part}
use Rattle.module_join.specs.JointNet.{PlannedOf, joint_clock}
use Rattle.module_join.specs.JoinParts.{parts_as}
use Rattle.joint_text.specs.JointText.{joint_bytes}
use Rattle.joint_text.specs.JointNamed.{prefix_of}
use Rattle.joint_text.specs.JointTextLaws.{AreJoinable}
use Rattle.joint_text.specs.Portions.{head_text, latches_text, nodes_text, tail_text}
use Rattle.joint_text.proofs.JointIsNamed.{joint_portions}
use Rattle.joint_text.proofs.printing.print_parts.Goals as goal

-- what is left after the head, and after the latches
abbrev behind_latches : List PlannedOf → List ℕ
behind_latches parts = nodes_text (prefix_of parts) 0 parts ++ tail_text parts

abbrev behind_head : List PlannedOf → List ℕ
behind_head parts = latches_text (clock_words (joint_clock parts)) (prefix_of parts) 0 parts ++ behind_latches parts

first : (parts : List PlannedOf) (head : List ℕ) → AreJoinable parts → head ≡ head_text parts → joint_bytes parts ≡ head ++ behind_head parts
first parts head are is = joint_portions parts are ∙ ap (λ (h : List ℕ). h ++ behind_head parts) (sym is)

-- the latches have the clock of the joint
clocked : (parts : List PlannedOf) (clock : Option Clock) → clock ≡ joint_clock parts
    → behind_head parts ≡ latches_text (clock_words clock) (prefix_of parts) 0 parts ++ behind_latches parts
clocked parts clock is = ap (λ (k : Option Clock). latches_text (clock_words k) (prefix_of parts) 0 parts ++ behind_latches parts) (sym is)

pub returns-in_err-print : goal.returns-in_err-print
returns-in_err-print g c =
    let parts = parts_as c.args.parts.now in
    record {
      printed = exits _ c.from_residual.result c.from_residual.ensures.1
          (cut (behind_head parts) (begin _ _) c.in_err-print.ensures.printed (first parts _ c.requires.joinable (c.as_slice.ensures.whole ∙ c.requires.head)));
    }

pub returns-in_err-print_latches : goal.returns-in_err-print_latches
returns-in_err-print_latches g c =
    let parts = parts_as c.args.parts.now in
    record {
      printed = exits _ c.from_residual-in_err-print_latches.result c.from_residual-in_err-print_latches.ensures.1
          (cut (behind_latches parts)
          (more (behind_head parts) (begin _ _) c.in_ok-print.ensures.printed (first parts _ c.requires.joinable (c.as_slice.ensures.whole ∙ c.requires.head)))
          c.in_err-print_latches.ensures.printed
          (clocked parts _ (c.joint_clock.ensures.clock ∙ ap (λ (ps : List Part). joint_clock (parts_as ps)) c.as_slice-2.ensures.whole)));
    }

pub returns-in_err-print_nodes : goal.returns-in_err-print_nodes
returns-in_err-print_nodes g c =
    let parts = parts_as c.args.parts.now in
    record {
      printed = exits _ c.from_residual-in_err-print_nodes.result c.from_residual-in_err-print_nodes.ensures.1
          (cut (tail_text parts)
          (more (behind_latches parts)
          (more (behind_head parts) (begin _ _) c.in_ok-print.ensures.printed (first parts _ c.requires.joinable (c.as_slice.ensures.whole ∙ c.requires.head)))
          c.in_ok-print_latches.ensures.printed
          (clocked parts _ (c.joint_clock.ensures.clock ∙ ap (λ (ps : List Part). joint_clock (parts_as ps)) c.as_slice-2.ensures.whole)))
          c.in_err-print_nodes.ensures.printed refl);
    }

pub returns : goal.returns
returns g c =
    let parts = parts_as c.args.parts.now in
    record {
      printed = ends c.print-2.result _ c.as_slice-3.result.now
          (more c.as_slice-3.result.now
          (more (behind_latches parts)
          (more (behind_head parts) (begin _ _) c.in_ok-print.ensures.printed (first parts _ c.requires.joinable (c.as_slice.ensures.whole ∙ c.requires.head)))
          c.in_ok-print_latches.ensures.printed
          (clocked parts _ (c.joint_clock.ensures.clock ∙ ap (λ (ps : List Part). joint_clock (parts_as ps)) c.as_slice-2.ensures.whole)))
          c.in_ok-print_nodes.ensures.printed
          (ap (λ (t : List ℕ). nodes_text (prefix_of parts) 0 parts ++ t) (sym (c.as_slice-3.ensures.whole ∙ c.requires.tail))))
          c.print-2.ensures.printed;
    }
