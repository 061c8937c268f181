use Rattle.structure_laws.proofs.UnorderedLists.{unordered_codes}
use Rattle.structure_laws.proofs.unordered.unordered_codes.Goals as goal

pub returns : goal.returns
returns c = record { unordered = unordered_codes }
