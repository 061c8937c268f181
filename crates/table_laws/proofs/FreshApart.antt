-- Fresh names, so many beside some names and then some more: all are different.
use Rattle.std.proofs.Common.{◌≡◌, ℕ, zero, suc, ◌+◌, ◌<◌, ◌^◌, false, if◌then◌else◌, List, [], ◌∷◌, ◌++◌, map, length, Some, sym, ap, subst, arith, append_assoc}
use Rattle.std.specs.List.{range_with_len}
use Rattle.std.proofs.lemmas.List.{append-nil}
use Rattle.tsc_net.specs.Names.{has_text, with_text, IsNumbering}
use Rattle.tsc_net.specs.Parts.{free_number, fresh_text}
use Rattle.tsc_net.specs.PartsView.{IsFreshUnused}
use Rattle.tsc_net.specs.declared.fresh.FreshPart.{FreshPart}
use Rattle.tsc_net.proofs.FreshNumbers.{free-isnt-taken, next-is-new, unused-first, unused-next}
use Rattle.tsc_net.proofs.NameLemmas.{numbering-with_text}
use Rattle.pla_read.specs.FreeParts.{fresh_texts}

abbrev place : ℕ → ℕ → FreshPart
place number next = record { number = number; next = next }

-- the names are different, and no fresh name of the number from this count on is among them
record AreApart (names : List (List ℕ)) (number next : ℕ) : Type 0 where
  distinct : IsNumbering names
  unused : IsFreshUnused names (Some (place number next))

-- so they are with some fresh names more
apart_with : (count : ℕ) (names : List (List ℕ)) (number next : ℕ) → next + count < 2 ^ 32 → AreApart names number next
    → AreApart (names ++ map (fresh_text number) (range_with_len next count)) number (next + count)
apart_with zero names number next small apart =
    subst (λ list. AreApart list number (next + 0)) (sym (append-nil names)) (subst (AreApart names number) (let e : next ≡ next + 0 = omega arith in e) apart)
apart_with (suc count) names number next small apart =
    let text : List ℕ = fresh_text number next in
    let new : has_text names text ≡ false = next-is-new names (place number next) (omega arith) apart.unused in
    let whole : with_text names text ≡ names ++ text ∷ [] = ap (λ b. if b then names else names ++ text ∷ []) new in
    let more : AreApart (names ++ text ∷ []) number (next + 1) = record {
      distinct = subst IsNumbering whole (numbering-with_text names text apart.distinct);
      unused = unused-next names (place number next) (omega arith) apart.unused;
    } in
    let rest : List (List ℕ) = map (fresh_text number) (range_with_len (next + 1) count) in
    subst (λ list. AreApart list number (next + suc count)) (append_assoc names (text ∷ []) rest)
    (subst (AreApart ((names ++ text ∷ []) ++ rest) number) (let e : next + 1 + count ≡ next + suc count = omega arith in e)
    (apart_with count (names ++ text ∷ []) number (next + 1) (omega arith) more))

pub fresh_apart : (names : List (List ℕ)) (count : ℕ) → length names < 2 ^ 32 → count + count < 2 ^ 32 → IsNumbering names
    → IsNumbering ((names ++ fresh_texts names 0 count) ++ fresh_texts names count count)
fresh_apart names count few small distinct =
    let number : ℕ = free_number names in
    let start : AreApart names number 0 = record { distinct = distinct; unused = unused-first names (place number 0) (free-isnt-taken names few) } in
    let more : AreApart (names ++ fresh_texts names 0 count) number count =
    subst (AreApart (names ++ fresh_texts names 0 count) number) (let e : 0 + count ≡ count = omega arith in e) (apart_with count names number 0 (omega arith) start) in
    (apart_with count (names ++ fresh_texts names 0 count) number count small more).distinct
