-- The two small tables, compared at each input.
use Rattle.std.proofs.Common.{◌≡◌, ℕ, zero, suc, ◌<◌, ◌⊎◌, inl, inr, Bool, true, false, List, [], ◌∷◌, length, IsTrue, refl, arith}
use Rattle.std.proofs.lemmas.Bool.{false≢true}
use Rattle.pla_read.specs.TableText.{is_free, is_one, table_text, TableOf}
use Rattle.table_laws.specs.SmallTable.{small_table}
use Rattle.table_refinement.specs.SmallRefinement.{chosen_table, SmallTablesRefine}

abbrev A : TableOf
A = table_text small_table

abbrev B : TableOf
B = table_text chosen_table

-- what holds at the four inputs holds at each of two bits
at_two : (Holds : List Bool → Type 0) → ((a b : Bool) → Holds (a ∷ b ∷ [])) → (x : List Bool) → length x ≡ 2 → Holds x
at_two Holds h [] e = absurd (omega arith)
at_two Holds h (a ∷ []) e = absurd (omega arith)
at_two Holds h (a ∷ b ∷ []) e = h a b
at_two Holds h (a ∷ b ∷ c ∷ x) e = absurd (omega arith)

value_at : (place : ℕ) → place < 2 → (a b : Bool) → IsTrue (is_free A (a ∷ b ∷ []) place) ⊎ (is_one B (a ∷ b ∷ []) place ≡ is_one A (a ∷ b ∷ []) place)
value_at zero h true true = inr refl
value_at zero h true false = inr refl
value_at zero h false true = inr refl
value_at zero h false false = inr refl
value_at (suc zero) h true true = inl refl
value_at (suc zero) h true false = inr refl
value_at (suc zero) h false true = inr refl
value_at (suc zero) h false false = inr refl
value_at (suc (suc place)) h a b = absurd (omega arith)

free_at : (place : ℕ) → place < 2 → (a b : Bool) → IsTrue (is_free B (a ∷ b ∷ []) place) → IsTrue (is_free A (a ∷ b ∷ []) place)
free_at zero h true true e = e
free_at zero h true false e = e
free_at zero h false true e = e
free_at zero h false false e = e
free_at (suc zero) h true true e = refl
free_at (suc zero) h true false e = e
free_at (suc zero) h false true e = e
free_at (suc zero) h false false e = e
free_at (suc (suc place)) h a b e = absurd (omega arith)

pub small_tables_refine : SmallTablesRefine
small_tables_refine = record {
  refines = record {
    inputs = refl;
    outputs = refl;
    values = λ x place sized inside. at_two (λ x. IsTrue (is_free A x place) ⊎ (is_one B x place ≡ is_one A x place)) (value_at place inside) x sized;
    frees = λ x place sized inside. at_two (λ x. IsTrue (is_free B x place) → IsTrue (is_free A x place)) (free_at place inside) x sized;
  };
  no_more = λ r. false≢true (r.frees (true ∷ true ∷ []) 1 refl (omega arith) refl);
}
