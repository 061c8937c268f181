-- The names that came where parts were extended: they are fresh names over the parts, and differ from each other.
use Rattle.std.proofs.Common.{◌≡◌, ℕ, zero, suc, ◌+◌, ◌-◌, ◌^◌, ◌<◌, ◌≤◌, List, [], ◌∷◌, ◌++◌, map, length, drop, All, Contains, refl, sym, ◌∙◌, ap, subst, arith, append_assoc, append-nil, length-append}
use Rattle.std.specs.Fn.{iterate}
use Rattle.std.specs.List.{range_with_len}
use Rattle.std.proofs.Math.Seq.{drop-append_seam}
use Rattle.std.proofs.lemmas.List.{get_or-append_right}
use Rattle.std.proofs.lemmas.List.FromFn.{length-map-range_with_len, get_or-map-range_with_len}
use Rattle.std.proofs.lemmas.List.Elements.{All-contains}
use Rattle.tsc_net.specs.Names.{text_at, IsNumbering}
use Rattle.tsc_net.specs.Parts.{PartsOf, with_fresh, next_fresh, fresh_of, fresh_text}
use Rattle.gate_net.specs.Written.{Extends}
use Rattle.gate_net.specs.Added.{added_names, IsFresh}
use Rattle.gate_net.proofs.Texts.{numbering_append, lacks}
use Rattle.unate_synth.specs.Composed.{IsFreshName}
use Rattle.unate_synth.proofs.FreshParts.{fresh_names_behind}
use Rattle.unate_synth.proofs.FreshTexts.{fresh_differ}

-- the number and the first count of the fresh names over parts
abbrev number_over : PartsOf → ℕ
number_over p = (fresh_of p p.fresh).number

-- and where their counts go on
abbrev first_over : PartsOf → ℕ
first_over p = (fresh_of p p.fresh).next

-- the texts of so many fresh names over parts
abbrev fresh_over : PartsOf → ℕ → List (List ℕ)
fresh_over p count = map (fresh_text (number_over p)) (range_with_len (first_over p) count)

-- the names with so many fresh ones more
names_over : (count : ℕ) (p : PartsOf) → (iterate with_fresh count p).names ≡ p.names ++ fresh_over p count
names_over zero p = sym (append-nil p.names)
names_over (suc count) p =
    (fresh_names_behind (number_over p) count (first_over p + 1) (with_fresh p) refl).0
    ∙ append_assoc p.names (next_fresh p ∷ []) (map (fresh_text (number_over p)) (range_with_len (first_over p + 1) count))

module _ (p q : PartsOf) (h : Extends p q) where
  -- the names are those that stood and then the fresh ones
  names_are : q.names ≡ p.names ++ fresh_over p h.fresh.count
  names_are = h.fresh.names ∙ names_over h.fresh.count p

  -- so many came
  came_counted : length (fresh_over p h.fresh.count) ≡ h.fresh.count
  came_counted = length-map-range_with_len (fresh_text (number_over p)) (first_over p) h.fresh.count

  -- the text at a place among them
  came_at : (k : ℕ) → k < h.fresh.count → text_at (fresh_over p h.fresh.count) k ≡ fresh_text (number_over p) (first_over p + k)
  came_at k low = get_or-map-range_with_len (fresh_text (number_over p)) (first_over p) h.fresh.count k (first_over p + k) [] low refl

  -- a name that came is a fresh name over the parts
  pub came_fresh : length q.names < 2 ^ 32 → (i : ℕ) → length p.names ≤ i → i < length q.names → IsFreshName p (text_at q.names i)
  came_fresh few i from within =
      let low : i - length p.names < h.fresh.count = omega (arith, ap length names_are, length-append p.names (fresh_over p h.fresh.count), came_counted) in (
        first_over p + (i - length p.names),
        omega (arith, within, few),
        ap (λ (names : List (List ℕ)). text_at names i) names_are
            ∙ get_or-append_right p.names (fresh_over p h.fresh.count) (length p.names) i [] refl from
            ∙ came_at (i - length p.names) low,
      )

  -- different names still have different texts, where none of those that came had stood before
  pub came_numbering : IsNumbering p.names → length q.names < 2 ^ 32 → All (IsFresh p) (added_names p q) → IsNumbering q.names
  came_numbering numbering few fresh = subst IsNumbering (sym names_are) (numbering_append p.names (fresh_over p h.fresh.count) numbering among apart)
    where
      among : IsNumbering (fresh_over p h.fresh.count)
      among = record {
        distinct = λ a b la lb e. (
            let low : a < h.fresh.count = omega (arith, came_counted) in
            let lower : b < h.fresh.count = omega (arith, came_counted) in
            let most : h.fresh.count < 2 ^ 32 = omega (arith, ap length names_are, length-append p.names (fresh_over p h.fresh.count), came_counted) in
            let same : first_over p + a ≡ first_over p + b
            = fresh_differ (number_over p) (first_over p + a) (first_over p + b) (omega arith) (omega arith) (sym (came_at a low) ∙ e ∙ came_at b lower) in
            omega arith);
      }

      came_are : drop (length p.names) q.names ≡ fresh_over p h.fresh.count
      came_are = ap (drop (length p.names)) names_are ∙ drop-append_seam p.names (fresh_over p h.fresh.count)

      apart : (t : List ℕ) → Contains p.names t → Contains (fresh_over p h.fresh.count) t → ⊥
      apart t c d = lacks p.names t (All-contains (IsFresh p) (added_names p q) t fresh (subst (λ (texts : List (List ℕ)). Contains texts t) (sym came_are) d)) c
