use Rattle.structure_laws.proofs.FaultList.{holds_the_listed, holds_none_twice}
use Rattle.structure_laws.proofs.fault_list.each_listed_fault_once.Goals as goal

pub returns : goal.returns
returns c = record { listed = holds_the_listed; once = holds_none_twice }
