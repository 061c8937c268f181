-- A table in which nothing is free.
use Rattle.std.proofs.Common.{◌≡◌, ℕ, zero, suc, ◌<◌, Bool, false, not, ◌&&◌, ◌||◌, List, [], ◌∷◌, length, map, sym, ap, subst, refl, ◌∙◌}
use Rattle.std.specs.List.{list_any}
use Rattle.std.proofs.lemmas.Bool.{false≢true}
use Rattle.fault_secure.specs.Circuit.{Circuit, bit}
use Rattle.fault_secure.specs.Logic.{lets_pass}
use Rattle.source_laws.specs.LooseRefinement.{FreesNothing}
use Rattle.source_laws.proofs.LooseRefinement.{unfreed_are_networks}
use Rattle.tsc_text.specs.TextLine.{TextLine, the_word}
use Rattle.pla_read.specs.RowText.{row_at, says}
use Rattle.pla_read.specs.Selections.{inputs_of, outputs_of, rows_of}
use Rattle.pla_read.specs.TableText.{is_free, is_one, table_text, TableOf}
use Rattle.table_refinement.specs.TableRefinement.{AreNetworksOf}
use Rattle.table_refinement.specs.Unfreed.{IsUnfreed, TypeFFreesNothing, UnfreedTablesAreNetworks}
use Rattle.table_refinement.proofs.Inputs.{at_cut, cut, cut_many, one_there}
use Rattle.table_refinement.proofs.TextNetworks.{texts_are_networks}

never_has : (T : TableOf) (V F : Circuit) → AreNetworksOf T V F → IsUnfreed T → FreesNothing F (length V.outputs)
never_has T V F nets none x place inside h =
    let within : place < T.outputs = subst (λ n. place < n) nets.value_outputs inside in
    let in_f : place < length F.outputs = subst (λ n. place < n) (sym nets.free_outputs) within in
    false≢true (sym (none (cut T.inputs x) place (cut_many T.inputs x) within)
    ∙ at_cut (is_free T) F nets.frees T.inputs x place nets.free_inputs in_f ∙ one_there (is_free T) F nets.frees x place in_f h)

pub unfreed_tables_are_networks : UnfreedTablesAreNetworks
unfreed_tables_are_networks lines version sound none =
    unfreed_are_networks _ _ version (never_has (table_text lines) _ _ (texts_are_networks lines sound) none)

-- ---- of type f

none_said : (mark : ℕ) (word : List ℕ) (place : ℕ) → bit (map (says false mark) word) place ≡ false
none_said mark [] place = refl
none_said mark (c ∷ word) zero = refl
none_said mark (c ∷ word) (suc place) = none_said mark word place

none_left : (x : List Bool) (place : ℕ) (rows : List TextLine)
    → list_any (λ row. bit row.free place && lets_pass 0 row.input x) (map (row_at false) rows) ≡ false
none_left x place [] = refl
none_left x place (line ∷ rows) =
    let none : bit (row_at false line).free place ≡ false = none_said 45 (the_word line 1) place in
    ap (λ b. (b && lets_pass 0 (row_at false line).input x) || list_any (λ row. bit row.free place && lets_pass 0 row.input x) (map (row_at false) rows)) none
    ∙ none_left x place rows

pub type_f_frees_nothing : TypeFFreesNothing
type_f_frees_nothing lines f x place sized within =
    let table : Bool → TableOf = λ frees. record { inputs = inputs_of lines; outputs = outputs_of lines; rows = map (row_at frees) (rows_of lines) } in
    ap (λ frees. is_free (table frees) x place) f ∙ ap (λ b. b && not (is_one (table false) x place)) (none_left x place (rows_of lines))
