use Rattle.std.proofs.lemmas.Slice.Eq.{slice_eq-Decides}
use Rattle.tsc_cover.proofs.Row.{row-Decides}
use Rattle.mapping_audit.proofs.same_gate.same_rows.Goals as goal

pub returns : goal.returns
returns c = record { same = slice_eq-Decides row-Decides _ _ _ c.eq.ensures }
