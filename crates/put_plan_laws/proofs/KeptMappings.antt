-- What was found of a section without plan lines holds of it with those of the netlist that it is mapped from.
use Rattle.std.proofs.Common.{◌≡◌, ℕ, List, slice_index, refl, sym, subst}
use Rattle.tsc_text.specs.TextLine.{TextLine}
use Rattle.blif_read.specs.declared.kinds.Kind.TheVariants.{Unplanned}
use Rattle.tsc_net.specs.NetlistOf.{NetlistOf}
use Rattle.mapping_reading.specs.ReadMapping.{some_block}
use Rattle.mapping_reading.specs.ReadMappingLaws.{IsSecureInAll}
use Rattle.mapping_reading.specs.NamedMapping.{moved_by_name, HasSameNames}
use Rattle.mapping_audit.specs.MappedAnswer.{IsReadSo}
use Rattle.mapped_laws.specs.MappedLaws.{section_net, ArePutInto}
use Rattle.mapped_laws.proofs.MappedPlans.{put_plan_lines_are_secure}
use Rattle.put_plan_laws.specs.PutPlans.{ArePutBeside, ReadsMapped, PutPlanLinesKeepMappings, AuditedNetlistsTakePlans}
use Rattle.put_plan_laws.proofs.OtherLines.{plan_lines_change_no_netlist}
use Rattle.put_plan_laws.proofs.OtherFaults.{put_plan_lines_are_passed_over}
use Rattle.put_plan_laws.proofs.PutLines.{put_plan_lines_are_allowed_as_a_netlist}

abbrev Reads : NetlistOf → NetlistOf → Type 0
Reads N G = IsReadSo N.circuit G.circuit (moved_by_name N G)

-- the same netlist reads so by the same blocks
kept_reads : (N G H : NetlistOf) → G ≡ H → (read : Reads N G) → (again : Reads N H) × (again.blocks ≡ read.blocks)
kept_reads N G H e read =
    let Kept : NetlistOf → Type 0 = λ K. (again : Reads N K) × (again.blocks ≡ read.blocks) in
    let here : Kept G = (read, refl) in
    subst Kept e here

module _ (lines bare others : List TextLine) (put : ArePutBeside lines bare others) where
  same_net : section_net bare ≡ section_net others
  same_net = plan_lines_change_no_netlist bare others (sym put.same)

  put_into : ArePutInto Unplanned lines others
  put_into = record {
    allowed = put.allowed;
    readable = put_plan_lines_are_passed_over bare others put.same put.readable;
    words = put.words;
    names = subst (HasSameNames (section_net lines)) same_net put.names;
  }

  again : (read : ReadsMapped lines bare) → (read_again : ReadsMapped lines others) × (read_again.blocks ≡ read.blocks)
  again = kept_reads (section_net lines) (section_net bare) (section_net others) same_net

pub put_plan_lines_keep_mappings : PutPlanLinesKeepMappings
put_plan_lines_keep_mappings lines bare others put = record {
  allowed = put_plan_lines_are_allowed_as_a_netlist lines others (put_into lines bare others put);
  names = (put_into lines bare others put).names;
  reads = again lines bare others put;
}

pub audited_netlists_take_plans : AuditedNetlistsTakePlans
audited_netlists_take_plans M lines bare others P Q put read planned stated secure =
    let N = section_net lines in
    let G = section_net others in
    let there = again lines bare others put read in
    let Holds : List ℕ → Type 0 = λ blocks. IsSecureInAll M N.circuit G.circuit (some_block N.circuit (slice_index blocks)) Q in
    subst Holds there.1 (put_plan_lines_are_secure M Unplanned lines others P Q (put_into lines bare others put) there.0 planned stated secure)
