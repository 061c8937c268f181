-- Names that are marked once each: of so many names so many can be.
use Rattle.std.proofs.Common.{◌≡◌, ℕ, ◌+◌, ◌<◌, ◌≤◌, ◌⊎◌, false, List, [], length, take, get_or, slice_index, All, sym, ap, ◌∙◌, arith, inl, inr, true≢false}
use Rattle.std.proofs.lemmas.Bool.{cases_lt}
use Rattle.std.proofs.lemmas.List.{get_or-map, get_or-take, length-map, length-take-le}
use Rattle.std.proofs.lemmas.List.Elements.{All-get_or}
use Rattle.tsc_bits.proofs.Pigeonhole.{OneToOne, pigeonhole}
use Rattle.tsc_net.specs.Names.{has_text, text_at}
use Rattle.tsc_net.specs.PartsView.{text_of, texts_of, IsName}
use Rattle.tsc_net.specs.declared.ids.Name.{Name}
use Rattle.tsc_net.specs.inner.NetNames.{AreMarks}
use Rattle.tsc_net.proofs.NameLemmas.{has_text_at}
use Rattle.tsc_net.proofs.MarkLemmas.{unmarked}

-- the number of the name at a place
abbrev pub number_at : List Name → ℕ → ℕ
number_at list place = (get_or list place (record { number = 0 })).number

-- the first names are different ones
abbrev pub AreOnce : List Name → ℕ → Type 0
AreOnce list place = OneToOne (number_at list) place

module _ (names : List (List ℕ)) (list : List Name) (i : ℕ) (within : i < length list) (once : AreOnce list i)
    (new : has_text (texts_of names (take i list)) (text_at names (number_at list i)) ≡ false) where
  -- no name before has this number
  apart : (j : ℕ) → j < i → number_at list j ≡ number_at list i → ⊥
  apart j before same =
      let none : Name = record { number = 0 } in
      let seen = texts_of names (take i list) in
      let sized : length seen ≡ i = length-map (take i list) (text_of names) ∙ length-take-le i list (omega arith) in
      let there : text_at seen j ≡ text_at names (number_at list i) = at j before ∙ ap (text_at names) same in
      absurd (true≢false (sym (has_text_at seen (text_at names (number_at list i)) j (omega arith) there) ∙ new))
    where
      at : (j : ℕ) → j < i → text_at (texts_of names (take i list)) j ≡ text_at names (number_at list j)
      at j before =
          get_or-map (text_of names) (take i list) j (record { number = 0 }) [] (omega (arith, length-take-le i list (omega arith)))
          ∙ ap (text_of names) (get_or-take i list j (record { number = 0 }) before)

  -- with one more name they still are
  pub once-more : AreOnce list (i + 1)
  once-more a b ha hb same = by (cases_lt a i) (cases_lt b i)
    where
      by : (a < i) ⊎ (i ≤ a) → (b < i) ⊎ (i ≤ b) → a ≡ b
      by (inl ka) (inl kb) = once a b ka kb same
      by (inl ka) (inr kb) = let e : b ≡ i = omega arith in absurd (apart a ka (same ∙ ap (number_at list) e))
      by (inr ka) (inl kb) = let e : a ≡ i = omega arith in absurd (apart b kb (sym same ∙ ap (number_at list) e))
      by (inr ka) (inr kb) = omega arith

-- so there are at most as many as names
pub once-few : (names : List (List ℕ)) (list : List Name) (i : ℕ) → All (IsName names) list → i ≤ length list → AreOnce list i → i ≤ length names
once-few names list i all within once =
    pigeonhole i (length names) (number_at list) (λ j h. All-get_or (IsName names) list j (record { number = 0 }) (omega arith) all) once

-- where the name's mark is clear it is another one than those before it
pub once-marked : (names : List (List ℕ)) (list : List Name) (marks : List ℕ) (i : ℕ) → All (IsName names) list → i < length list
    → AreMarks names (texts_of names (take i list)) marks → slice_index marks (number_at list i) ≡ 0 → AreOnce list i → AreOnce list (i + 1)
once-marked names list marks i all within are clear once =
    let known : number_at list i < length names = All-get_or (IsName names) list i (record { number = 0 }) within all in
    once-more names list i within once
    (unmarked (texts_of names (take i list)) (text_at names (number_at list i)) (sym (are.marked (number_at list i) known) ∙ clear))
