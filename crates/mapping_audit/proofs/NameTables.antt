-- Tables by names, one by one.
use Rattle.std.proofs.Common.{◌≡◌, ℕ, ◌+◌, ◌<◌, ◌≤◌, suc, inl, inr, false, cond, List, [], ◌∷◌, ◌++◌, length, take, Some, None, slice_index_or, get_or, sym, ◌∙◌, ap, subst, arith}
use Rattle.std.specs.Cmp.Lexicographic.{nat_list_eq_equiv}
use Rattle.std.specs.Str.{bytes_eq}
use Rattle.std.proofs.Math.Seq.{take-suc}
use Rattle.std.proofs.lemmas.Bool.{cases_Bool}
use Rattle.std.proofs.lemmas.List.{ext_get_or, get_or-take, length-take-le, length-map, get_or-map}
use Rattle.fault_secure.specs.Circuit.{LatchOf, no_latch}
use Rattle.tsc_net.specs.Named.{NamedLatch}
use Rattle.tsc_net.specs.NetlistOf.{named_latches, names_of}
use Rattle.tsc_net.specs.Names.{has_text, text_at, place_of_text, find_text, IsNumbering}
use Rattle.tsc_net.proofs.MarkLemmas.{has_text-other, place-kept, has_text-here, place-here}
use Rattle.tsc_net.proofs.NameLemmas.{bytes_eq_same, place_within, place_past, text_at_place, find-there, find-absent}
use Rattle.mapping_reading.specs.NamedMapping.{named_latch}
use Rattle.mapping_reading.proofs.NamesMoved.{length_named_latches, latch_named}

-- ---- where a text is found among the names so far

-- the name of the next net isn't among them
next_is_new : (names : List (List ℕ)) (k : ℕ) → IsNumbering names → k < length names → has_text (take k names) (text_at names k) ≡ false
next_is_new names k numbering within = elim (cases_Bool (has_text (take k names) (text_at names k))) [
  | inl there ↦
      let count : length (take k names) ≡ k = length-take-le k names (omega arith) in
      let early : place_of_text (take k names) (text_at names k) < length (take k names) = place_within (take k names) (text_at names k) there in
      let same : text_at names (place_of_text (take k names) (text_at names k)) ≡ text_at names k
      = sym (get_or-take k names (place_of_text (take k names) (text_at names k)) [] (omega arith)) ∙ text_at_place (take k names) (text_at names k) there in
      let place : place_of_text (take k names) (text_at names k) ≡ k = numbering.distinct (place_of_text (take k names) (text_at names k)) k (omega arith) within same in
      absurd (omega arith)
  | inr absent ↦ absent
]

-- a text after a new one went last
find_pushed : (texts : List (List ℕ)) (new t : List ℕ) → has_text texts new ≡ false → find_text (texts ++ new ∷ []) t ≡ cond (bytes_eq new t) (Some (length texts)) (find_text texts t)
find_pushed texts new t absent = elim (cases_Bool (bytes_eq new t)) [
  | inl same ↦
      subst (λ (u : List ℕ). find_text (texts ++ new ∷ []) u ≡ Some (length texts)) (bytes_eq_same new t same)
      (find-there (texts ++ new ∷ []) new (has_text-here texts new) ∙ ap Some (place-here texts new absent))
      ∙ sym (ap (λ b. cond b (Some (length texts)) (find_text texts t)) same)
  | inr other ↦ kept (nat_list_eq_equiv.symm t new ∙ other) ∙ sym (ap (λ b. cond b (Some (length texts)) (find_text texts t)) other)
]
  where
    kept : bytes_eq t new ≡ false → find_text (texts ++ new ∷ []) t ≡ find_text texts t
    kept other = elim (cases_Bool (has_text texts t)) [
      | inl there ↦
          find-there (texts ++ new ∷ []) t (has_text-other texts new t other ∙ there) ∙ ap Some (place-kept texts new t there) ∙ sym (find-there texts t there)
      | inr none ↦ find-absent (texts ++ new ∷ []) t (has_text-other texts new t other ∙ none) ∙ sym (find-absent texts t none)
    ]

-- one net more: its name is found at its number, and any other text where it was
pub find_more : (names : List (List ℕ)) (k : ℕ) → IsNumbering names → k < length names → (t : List ℕ)
    → find_text (take (k + 1) names) t ≡ cond (bytes_eq (text_at names k) t) (Some k) (find_text (take k names) t)
find_more names k numbering within t =
    (let after : k + 1 ≡ suc k = omega arith in ap (λ n. find_text (take n names) t) after) ∙ ap (λ (texts : List (List ℕ)). find_text texts t) (take-suc names k [] within)
    ∙ find_pushed (take k names) (text_at names k) t (next_is_new names k numbering within)
    ∙ ap (λ n. cond (bytes_eq (text_at names k) t) (Some n) (find_text (take k names) t)) (length-take-le k names (omega arith))

-- a text that isn't found has no place
pub place_none : (names : List (List ℕ)) (t : List ℕ) → None ≡ find_text names t → length names ≡ place_of_text names t
place_none names t e = elim (cases_Bool (has_text names t)) [
  | inl there ↦ absurd (none_some (place_of_text names t) (e ∙ find-there names t there))
  | inr absent ↦ sym (place_past names t absent)
]
  where
    none_some : (a : ℕ) → None ≡ Some a → ⊥
    none_some a h = cc

-- ---- inputs

pub inputs_same : (a b : List (List ℕ)) (n m : ℕ) → n ≤ length a → m ≤ length b → n ≡ m → ((k : ℕ) → k < n → text_at a k ≡ text_at b k) → take n a ≡ take m b
inputs_same a b n m low low' same each =
    let count : length (take n a) ≡ n = length-take-le n a low in
    let count' : length (take m b) ≡ m = length-take-le m b low' in
    ext_get_or [] (take n a) (take m b) (count ∙ same ∙ sym count') (λ k h. get_or-take n a k [] (omega arith) ∙ each k (omega arith) ∙ sym (get_or-take m b k [] (omega arith)))

pub inputs_count : (a b : List (List ℕ)) (n m : ℕ) → n ≤ length a → m ≤ length b → take n a ≡ take m b → n ≡ m
inputs_count a b n m low low' same = sym (length-take-le n a low) ∙ ap length same ∙ length-take-le m b low'

-- ---- lists of the names of nets

pub names_same : (a b : List (List ℕ)) (xs ys : List ℕ) → length xs ≡ length ys
    → ((k : ℕ) → k < length xs → text_at a (slice_index_or xs k 0) ≡ text_at b (slice_index_or ys k 0)) → names_of a xs ≡ names_of b ys
names_same a b xs ys same each =
    let count : length (names_of a xs) ≡ length xs = length-map xs (text_at a) in
    let count' : length (names_of b ys) ≡ length ys = length-map ys (text_at b) in
    ext_get_or [] (names_of a xs) (names_of b ys) (omega arith)
    (λ k h. get_or-map (text_at a) xs k 0 [] (omega arith) ∙ each k (omega arith) ∙ sym (get_or-map (text_at b) ys k 0 [] (omega arith)))

pub names_count : (a b : List (List ℕ)) (xs ys : List ℕ) → names_of a xs ≡ names_of b ys → length xs ≡ length ys
names_count a b xs ys same = sym (length-map xs (text_at a)) ∙ ap length same ∙ length-map ys (text_at b)

pub name_same : (a b : List (List ℕ)) (xs ys : List ℕ) (k : ℕ) → names_of a xs ≡ names_of b ys → k < length xs → text_at a (slice_index_or xs k 0) ≡ text_at b (slice_index_or ys k 0)
name_same a b xs ys k same h =
    let count : length xs ≡ length ys = names_count a b xs ys same in
    sym (get_or-map (text_at a) xs k 0 [] h) ∙ ap (λ (list : List (List ℕ)). get_or list k []) same ∙ get_or-map (text_at b) ys k 0 [] (omega arith)

-- ---- latches

no_named_latch : NamedLatch
no_named_latch = record { reads = []; out = []; init = false }

pub latches_same : (a b : List (List ℕ)) (from to : ℕ) (xs ys : List LatchOf) → length xs ≡ length ys
    → ((k : ℕ) → k < length xs → named_latch a (from + k) (slice_index_or xs k no_latch) ≡ named_latch b (to + k) (slice_index_or ys k no_latch))
    → named_latches a from xs ≡ named_latches b to ys
latches_same a b from to xs ys same each =
    let count : length (named_latches a from xs) ≡ length xs = length_named_latches a from xs in
    let count' : length (named_latches b to ys) ≡ length ys = length_named_latches b to ys in
    ext_get_or no_named_latch (named_latches a from xs) (named_latches b to ys) (omega arith)
    (λ k h. latch_named a from xs k no_named_latch (omega arith) ∙ each k (omega arith) ∙ sym (latch_named b to ys k no_named_latch (omega arith)))

pub latches_count : (a b : List (List ℕ)) (from to : ℕ) (xs ys : List LatchOf) → named_latches a from xs ≡ named_latches b to ys → length xs ≡ length ys
latches_count a b from to xs ys same = sym (length_named_latches a from xs) ∙ ap length same ∙ length_named_latches b to ys

pub latch_same : (a b : List (List ℕ)) (from to : ℕ) (xs ys : List LatchOf) (k : ℕ) → named_latches a from xs ≡ named_latches b to ys → k < length xs
    → named_latch a (from + k) (slice_index_or xs k no_latch) ≡ named_latch b (to + k) (slice_index_or ys k no_latch)
latch_same a b from to xs ys k same h =
    let count : length xs ≡ length ys = latches_count a b from to xs ys same in
    sym (latch_named a from xs k no_named_latch h) ∙ ap (λ (list : List NamedLatch). get_or list k no_named_latch) same ∙ latch_named b to ys k no_named_latch (omega arith)
