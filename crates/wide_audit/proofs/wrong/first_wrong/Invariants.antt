use Rattle.std.proofs.Common.{ℕ, ◌<◌, length, slice_index}
use Rattle.diagrams.specs.Cofactors.{Function}
use Rattle.diagrams.specs.Building.{StandsFor}
use Rattle.wide_audit.specs.FirstWrong.{IsFirstWrong}
use Rattle.wide_audit.proofs.wrong.first_wrong.Given as goal

abbrev pub invariant-loop-place : goal.invariant-loop-place
invariant-loop-place l = (rails : Function) (differs : ℕ → Function) → StandsFor l.diagrams rails l.rows.word → ((place : ℕ) → place < length l.rows.outputs.items → StandsFor l.diagrams (differs place) (slice_index l.rows.outputs.items place)) → IsFirstWrong l.diagrams.inputs rails differs l.place l.found
