-- Names of which none stands twice are different.
use Rattle.std.proofs.Common.{List, ℕ, ◌++◌, sym, ap₂, ◌∙◌}
use Rattle.std.specs.Option.{is_some}
use Rattle.tsc_net.specs.NetFault.{first_repeat}
use Rattle.table_lines.proofs.NameLists.{none_twice}
use Rattle.table_lines.proofs.names.given_names.Goals as goal

pub returns-clause-distinct : goal.returns-clause-distinct
returns-clause-distinct c =
    none_twice _
    (ap₂ (λ (a b : List (List ℕ)). is_some (first_repeat (a ++ b))) (sym c.as_slice.ensures.whole) (sym c.as_slice-2.ensures.whole) ∙ sym c.if-has_repeat.ensures.repeat)
