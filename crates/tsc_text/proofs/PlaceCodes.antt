-- The numbers that stand for words.
use Rattle.std.proofs.Common.{◌≡◌, ℕ, ◌+◌, ◌*◌, ◌/◌, ◌%◌, cond, List, [], ◌∷◌, ◌++◌, map, length, get_or, eqb, refl, ap, ◌∙◌, arith}
use Rattle.std.proofs.lemmas.Bool.{eqb-true}
use Rattle.std.proofs.lemmas.Nat.{div-mul-add, mod-mul-add}
use Rattle.std.proofs.lemmas.List.{get_or_append_left, map-append}
use Rattle.std.proofs.lemmas.List.Elements.{All-head, All-tail}
use Rattle.std.specs.List.{All}
use Rattle.std.proofs.Math.Seq.{get_or-append_seam}
use Rattle.tsc_text.specs.declared.places.Place.{Place}
use Rattle.tsc_text.specs.PlaceCode.{AreCodes, IsCode, place_of}
use Rattle.tsc_text.proofs.ReaderSteps.{by_test}

-- the number of a longer word
place_of-longer : (longer : List Place) (count : ℕ) → place_of longer (count * 64 + 63) ≡ get_or longer count (record { start = 0; past = 0 })
place_of-longer longer count =
    let code : ℕ = count * 64 + 63 in
    let none : Place = record { start = 0; past = 0 } in
    let rest : Place = record { start = code / 64; past = code / 64 + code % 64 } in
    ap (λ (n : ℕ). cond (eqb n 63) (get_or longer (code / 64) none) rest) (mod-mul-add count 64 63 (omega arith))
    ∙ ap (λ (i : ℕ). get_or longer i none) (div-mul-add count 64 63 (omega arith))

-- one longer word more changes no number's place
place_of-more : (longer : List Place) (p : Place) (code : ℕ) → IsCode (length longer) code → place_of (longer ++ p ∷ []) code ≡ place_of longer code
place_of-more longer p code h =
    let none : Place = record { start = 0; past = 0 } in
    let rest : Place = record { start = code / 64; past = code / 64 + code % 64 } in
    by_test (eqb (code % 64) 63) (λ v. cond v (get_or (longer ++ p ∷ []) (code / 64) none) rest ≡ cond v (get_or longer (code / 64) none) rest)
    (λ t. get_or_append_left longer (p ∷ []) none (code / 64) (h (eqb-true (code % 64) 63 t)))
    (λ _. refl)

places-more : (longer : List Place) (p : Place) (codes : List ℕ) → All (IsCode (length longer)) codes → map (place_of (longer ++ p ∷ [])) codes ≡ map (place_of longer) codes
places-more longer p [] h = refl
places-more longer p (c ∷ cs) h =
    ap (λ (x : Place). x ∷ map (place_of (longer ++ p ∷ [])) cs) (place_of-more longer p c (All-head (IsCode (length longer)) c cs h))
    ∙ ap (λ (xs : List Place). place_of longer c ∷ xs) (places-more longer p cs (All-tail (IsCode (length longer)) c cs h))

-- a longer word is pushed
places-longer : (longer : List Place) (codes : List ℕ) (p : Place) → AreCodes longer codes →
    map (place_of (longer ++ p ∷ [])) (codes ++ (length longer * 64 + 63) ∷ []) ≡ map (place_of longer) codes ++ p ∷ []
places-longer longer codes p k =
    map-append (place_of (longer ++ p ∷ [])) codes ((length longer * 64 + 63) ∷ [])
    ∙ ap (λ (xs : List Place). xs ++ place_of (longer ++ p ∷ []) (length longer * 64 + 63) ∷ []) (places-more longer p codes k.listed)
    ∙ ap (λ (x : Place). map (place_of longer) codes ++ x ∷ []) (place_of-longer (longer ++ p ∷ []) (length longer) ∙ get_or-append_seam longer p [] (record { start = 0; past = 0 }))

-- the same of the lists that are then held
pub pushed-longer : (longer more : List Place) (codes new : List ℕ) (p : Place) (count : ℕ) → count ≡ length longer → more ≡ longer ++ p ∷ [] → AreCodes longer codes →
    new ≡ codes ++ (count * 64 + 63) ∷ [] → map (place_of more) new ≡ map (place_of longer) codes ++ p ∷ []
pushed-longer longer more codes new p count n m k e =
    ap (λ (xs : List Place). map (place_of xs) new) m
    ∙ ap (map (place_of (longer ++ p ∷ []))) (e ∙ ap (λ (i : ℕ). codes ++ (i * 64 + 63) ∷ []) n)
    ∙ places-longer longer codes p k
