-- The small table, and one that has 1 where its second output is free.
use Rattle.std.specs.Prelude.{◌≡◌, List, [], ◌∷◌, codes, refl, None}
use Rattle.tsc_text.specs.TextLine.{TextLine}
use Rattle.pla_read.specs.TableText.{table_text}
use Rattle.pla_read.specs.Refusal.{refusal}
use Rattle.table_laws.specs.SmallTable.{line_of_two, small_table}
use Rattle.table_refinement.specs.TableRefinement.{Refines}

-- `.i 2`, `.o 2`, and the rows `11 11` and `0- 01`
abbrev pub chosen_table : List TextLine
chosen_table =
    line_of_two 1 (codes ".i") (codes "2") ∷ line_of_two 2 (codes ".o") (codes "2")
    ∷ line_of_two 3 (codes "11") (codes "11") ∷ line_of_two 4 (codes "0-") (codes "01") ∷ []

refusal-chosen : refusal chosen_table ≡ None
refusal-chosen = refl

-- it refines the small table, whose second output is free at 11; and that one doesn't refine it
pub record SmallTablesRefine : Type 0 where
  pub refines : Refines (table_text chosen_table) (table_text small_table)
  pub no_more : Refines (table_text small_table) (table_text chosen_table) → ⊥
