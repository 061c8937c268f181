-- One fresh name more.
use Rattle.std.proofs.Common.{◌≡◌, ℕ, ◌+◌, ◌-◌, ◌<◌, ◌≤◌, suc, List, [], ◌∷◌, ◌++◌, map, take, length, slice_index_or, All, Option, Some, None, true, false, if◌then◌else◌, refl, sym, ◌∙◌, ap, ap₂, subst, arith, length-append}
use Rattle.std.specs.Fn.{iterate}
use Rattle.std.specs.List.{range_with_len}
use Rattle.std.specs.Option.{option_map}
use Rattle.std.proofs.lemmas.List.{take-append-le, map-append}
use Rattle.std.proofs.lemmas.List.FromFn.{map-range_with_len_more, length-map-range_with_len, get_or-map-range_with_len}
use Rattle.std.proofs.lemmas.List.Elements.{All-from_get_or}
use Rattle.tsc_net.specs.PartsView.{IsName}
use Rattle.tsc_net.specs.Names.{has_text, with_text, place_of_text, find_text, IsNumbering}
use Rattle.tsc_net.specs.PlanView.{net_numbers}
use Rattle.tsc_net.specs.Parts.{PartsOf, with_fresh, next_fresh, fresh_text}
use Rattle.tsc_net.specs.declared.ids.NetId.{NetId}
use Rattle.tsc_net.specs.declared.ids.Name.{Name}
use Rattle.tsc_net.proofs.NameLemmas.{numbering-with_text, find-there}
use Rattle.net_building.specs.Names.{numbered}

-- one of those that are left
pub fresh_more : (start here next : PartsOf) (count place : ℕ) → place < count → iterate with_fresh (count - place) here ≡ iterate with_fresh count start → next ≡ with_fresh here
    → iterate with_fresh (count - (place + 1)) next ≡ iterate with_fresh count start
fresh_more start here next count place low left is =
    let step : count - place ≡ suc (count - (place + 1)) = omega arith in
    ap (iterate with_fresh (count - (place + 1))) is ∙ sym (ap (λ n. iterate with_fresh n here) step) ∙ left

pub fresh_counted : (p q : PartsOf) → q ≡ with_fresh p → length q.names ≡ length p.names + 1
fresh_counted p q is = ap (λ (r : PartsOf). length r.names) is ∙ length-append p.names (next_fresh p ∷ [])

-- the netlist by names stays, and the names that were there stand first
pub fresh_named : (p q : PartsOf) → q ≡ with_fresh p → q.named ≡ p.named
fresh_named p q is = ap (λ (r : PartsOf). r.named) is

pub fresh_first : (n : ℕ) (p q : PartsOf) → q ≡ with_fresh p → n ≤ length p.names → take n q.names ≡ take n p.names
fresh_first n p q is low = ap (λ (r : PartsOf). take n r.names) is ∙ take-append-le n p.names (next_fresh p ∷ []) low

-- different names still have different texts
pub fresh_distinct : (p q : PartsOf) → q ≡ with_fresh p → has_text p.names (next_fresh p) ≡ false → IsNumbering p.names → IsNumbering q.names
fresh_distinct p q is new numbering =
    let whole : with_text p.names (next_fresh p) ≡ p.names ++ next_fresh p ∷ [] = ap (λ b. if b then p.names else p.names ++ next_fresh p ∷ []) new in
    subst IsNumbering (whole ∙ sym (ap (λ (r : PartsOf). r.names) is)) (numbering-with_text p.names (next_fresh p) numbering)

-- the numbers of the names that came go up
pub number_more : (names after : List Name) (name : Name) (first count : ℕ) → names ≡ map numbered (range_with_len first count) → name.number ≡ first + count → after ≡ names ++ name ∷ []
    → after ≡ map numbered (range_with_len first (count + 1))
number_more names after name first count so_far is pushed =
    pushed ∙ ap₂ (λ (list : List Name) (n : ℕ). list ++ numbered n ∷ []) so_far is ∙ sym (map-range_with_len_more numbered first count (first + count) refl)

-- the names that came are so many, and names of the parts
pub fresh_sized : (names : List Name) (first count : ℕ) → names ≡ map numbered (range_with_len first count) → length names ≡ count
fresh_sized names first count are = ap length are ∙ length-map-range_with_len numbered first count

-- names that are numbered in a row up to the end of a table are names of it
pub fresh_are_names : (texts : List (List ℕ)) (names : List Name) (first count : ℕ) → names ≡ map numbered (range_with_len first count) → length texts ≡ first + count → All (IsName texts) names
fresh_are_names texts names first count are long =
    All-from_get_or (IsName texts) names (numbered 0) (λ k low. (
    let sized : length names ≡ count = fresh_sized names first count are in
    let at : slice_index_or names k (numbered 0) ≡ numbered (first + k)
    = ap (λ (list : List Name). slice_index_or list k (numbered 0)) are ∙ get_or-map-range_with_len numbered first count k (first + k) (numbered 0) (omega arith) refl in
    subst (IsName texts) (sym at) (in_texts k (omega arith))))
  where
    in_texts : (k : ℕ) → k < count → first + k < length texts
    in_texts k low = omega arith
