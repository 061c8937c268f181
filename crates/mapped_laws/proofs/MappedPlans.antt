-- A netlist that is mapped stays secure with the plan that the plan lines state for it.
use Rattle.std.proofs.Common.{◌≡◌, Some, slice_index, sym, subst, ◌∙◌}
use Rattle.fault_secure.specs.CodePlan.{CodePlan}
use Rattle.blif_read.specs.PlanText.{plan_with}
use Rattle.mapping_laws.specs.Mapping.{moved_plan}
use Rattle.mapping_reading.specs.ReadMapping.{some_block}
use Rattle.mapping_reading.specs.ReadMappingLaws.{IsSecureInAll}
use Rattle.mapping_reading.specs.Pins.{at_of}
use Rattle.mapping_reading.specs.NamedMapping.{moved_by_name}
use Rattle.mapping_reading.proofs.NamesMoved.{names_stay_secure}
use Rattle.mapped_laws.specs.MappedLaws.{section_net, MappedPlansAreSecure, PutPlanLinesAreSecure}
use Rattle.mapped_laws.proofs.BuiltNetlists.{section_is_built}
use Rattle.mapped_laws.proofs.PlanMoved.{plans_move_by_name}
use Rattle.mapped_laws.proofs.PlanWords.{put_plan_lines_move}

pub mapped_plans_are_secure : MappedPlansAreSecure
mapped_plans_are_secure M head lines N G first second names reads planned allowed secure =
    let Holds : CodePlan → Type 0 = λ P. IsSecureInAll M N.circuit G.circuit (some_block N.circuit (slice_index reads.blocks)) P in
    let stays = names_stay_secure N G (slice_index reads.blocks) second.closed reads.pinned.blocked.found.ordered reads.reads in
    subst Holds (sym (plans_move_by_name head lines N G first second names planned allowed)) (stays.secure M (plan_with head lines N) secure)

same_plan : (P Q : CodePlan) → Some P ≡ Some Q → P ≡ Q
same_plan P Q e = cc

-- where N is secure against one failing cell, G that reads as N mapped is secure with the put plan lines, in all senses
pub put_plan_lines_are_secure : PutPlanLinesAreSecure
put_plan_lines_are_secure M kind lines others P Q put reads planned stated secure =
    let N = section_net lines in
    let G = section_net others in
    let Holds : CodePlan → Type 0 = λ R. IsSecureInAll M N.circuit G.circuit (some_block N.circuit (slice_index reads.blocks)) R in
    let stays = names_stay_secure N G (slice_index reads.blocks) (section_is_built kind others put.readable).closed reads.pinned.blocked.found.ordered reads.reads in
    let moved = put_plan_lines_move kind lines others P put planned in
    subst Holds (same_plan (moved_plan (at_of G.circuit (moved_by_name N G)) P) Q (sym moved ∙ stated)) (stays.secure M P secure)
