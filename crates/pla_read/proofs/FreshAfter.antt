-- The names of parts behind so many fresh ones.
use Rattle.std.proofs.Common.{◌≡◌, ℕ, zero, suc, ◌+◌, List, [], ◌∷◌, ◌++◌, map, length, drop, refl, sym, ap, ap₂, ◌∙◌, arith, append_assoc}
use Rattle.std.specs.Fn.{iterate}
use Rattle.std.specs.List.{range_with_len}
use Rattle.std.proofs.lemmas.List.{append-nil, drop-append-le, drop_all}
use Rattle.tsc_net.specs.Parts.{fresh_of, fresh_text, free_number, next_fresh, with_fresh, FreshNames, PartsOf}
use Rattle.pla_read.specs.FreeParts.{begun, fresh_texts}

abbrev place_in : PartsOf → FreshNames
place_in p = fresh_of p p.fresh

-- the number stays, and the count goes on
pub number_after : (k : ℕ) (p : PartsOf) → (place_in (iterate with_fresh k p)).number ≡ (place_in p).number
number_after zero p = refl
number_after (suc k) p = number_after k (with_fresh p)

pub next_after : (k : ℕ) (p : PartsOf) → (place_in (iterate with_fresh k p)).next ≡ (place_in p).next + k
next_after zero p = omega arith
next_after (suc k) p = omega (arith, next_after k (with_fresh p))

pub names_after : (k : ℕ) (p : PartsOf) → (iterate with_fresh k p).names ≡ p.names ++ map (fresh_text (place_in p).number) (range_with_len (place_in p).next k)
names_after zero p = sym (append-nil p.names)
names_after (suc k) p =
    names_after k (with_fresh p) ∙ append_assoc p.names (next_fresh p ∷ []) (map (fresh_text (place_in p).number) (range_with_len ((place_in p).next + 1) k))

-- what comes behind the names that were there
behind : (xs ys : List (List ℕ)) → drop (length xs) (xs ++ ys) ≡ ys
behind xs ys = drop-append-le (length xs) xs ys (omega arith) ∙ ap (λ l. l ++ ys) (drop_all (length xs) xs (omega arith))

came : (k : ℕ) (p q : PartsOf) → q ≡ iterate with_fresh k p → drop (length p.names) q.names ≡ map (fresh_text (place_in p).number) (range_with_len (place_in p).next k)
came k p q is =
    ap (λ (r : PartsOf). drop (length p.names) r.names) is ∙ ap (drop (length p.names)) (names_after k p)
    ∙ behind p.names (map (fresh_text (place_in p).number) (range_with_len (place_in p).next k))

-- the first fresh names behind the beginning, and those behind these
pub first_came : (inputs outputs : List (List ℕ)) (k : ℕ) (p q : PartsOf) → p ≡ begun inputs outputs → q ≡ iterate with_fresh k p
    → drop (length p.names) q.names ≡ fresh_texts (inputs ++ outputs) 0 k
first_came inputs outputs k p q begin_is is =
    came k p q is ∙ ap (λ (r : PartsOf). map (fresh_text (place_in r).number) (range_with_len (place_in r).next k)) begin_is

pub then_came : (inputs outputs : List (List ℕ)) (j k : ℕ) (p q r : PartsOf) → p ≡ begun inputs outputs → q ≡ iterate with_fresh j p → r ≡ iterate with_fresh k q
    → drop (length q.names) r.names ≡ fresh_texts (inputs ++ outputs) j k
then_came inputs outputs j k p q r begin_is first is =
    let from : q ≡ iterate with_fresh j (begun inputs outputs) = first ∙ ap (iterate with_fresh j) begin_is in
    let number : (place_in q).number ≡ free_number (inputs ++ outputs) = ap (λ (s : PartsOf). (place_in s).number) from ∙ number_after j (begun inputs outputs) in
    let next : (place_in q).next ≡ j = ap (λ (s : PartsOf). (place_in s).next) from ∙ next_after j (begun inputs outputs) ∙ omega arith in
    came k q r is ∙ ap₂ (λ a b. map (fresh_text a) (range_with_len b k)) number next
