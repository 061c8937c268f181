-- Plan lines and their names, one after the other.
use Rattle.std.proofs.Common.{◌≡◌, ◌==◌, ◌++◌, nat_lt, cond, zero, drop, take, position, ℕ, suc, ◌+◌, ◌-◌, ◌<◌, ◌≤◌, Bool, true, false, not, List, [], ◌∷◌, length, get_or, map, refl, sym, ap, ◌∙◌, Option, None, Some}
use Rattle.std.proofs.lemmas.List.{drop_all, drop_more, length-map}
use Rattle.std.specs.List.{slice_range, list_any, position_or_len}
use Rattle.std.specs.Option.{is_some, unwrap_or}
use Rattle.tsc_net.specs.Names.{find_text}
use Rattle.tsc_text.specs.TextLine.{TextLine, no_line, the_line}
use Rattle.blif_read.specs.PlanText.{code_line, kind_in_plan, names_at, net_named, output_place, source_outputs}
use Rattle.tsc_net.specs.NetlistOf.{NetlistOf}
use Rattle.blif_read.specs.PlanFault.{first_unknown}
use Rattle.tsc_bits.proofs.Ranges.{range_cons, range_none, range_push}
use Rattle.tsc_net.specs.PlanView.{net_numbers}
use Rattle.tsc_net.specs.declared.ids.NetId.{NetId}
use Rattle.tsc_bits.proofs.Lists.{map-push}
use Rattle.tsc_net.proofs.NetNumbers.{numbers_counted}

pub code_here : (lines : List TextLine) (at : ℕ) → at < length lines → (the_line lines at).is_plan ≡ true
    → code_line (drop at lines) ≡ Some (the_line lines at)
code_here lines at h e = rw (drop_more lines at no_line h, e) refl

pub code_later : (lines : List TextLine) (at : ℕ) → at < length lines → (the_line lines at).is_plan ≡ false
    → code_line (drop at lines) ≡ code_line (drop (at + 1) lines)
code_later lines at h e = rw (drop_more lines at no_line h, e) refl

pub code_end : (lines : List TextLine) (at : ℕ) → length lines ≤ at → code_line (drop at lines) ≡ None
code_end lines at h = rw (drop_all at lines h) refl

pub unknown_here : (nets words : List (List ℕ)) (place to : ℕ) → place < to → to ≤ length words → not (is_some (find_text nets (get_or words place []))) ≡ true
    → list_any (λ name. not (is_some (find_text nets name))) (slice_range words place to) ≡ true
unknown_here nets words place to h w e = rw (range_cons words place to [] h w, e) refl

pub unknown_later : (nets words : List (List ℕ)) (place to : ℕ) → place < to → to ≤ length words → not (is_some (find_text nets (get_or words place []))) ≡ false
    → list_any (λ name. not (is_some (find_text nets name))) (slice_range words place to) ≡ list_any (λ name. not (is_some (find_text nets name))) (slice_range words (place + 1) to)
unknown_later nets words place to h w e = rw (range_cons words place to [] h w, e) refl

pub unknown_end : (nets words : List (List ℕ)) (place to : ℕ) → to ≤ place
    → list_any (λ name. not (is_some (find_text nets name))) (slice_range words place to) ≡ false
unknown_end nets words place to h = rw (range_none words place to h) refl

pub first_here : (nets : List (List ℕ)) (here rest : List TextLine) (line : TextLine) → here ≡ line ∷ rest
    → list_any (λ name. not (is_some (find_text nets name))) (names_at (kind_in_plan line) line) ≡ true → first_unknown nets here ≡ Some line.number
first_here nets here rest line is e = rw (is, e) refl

pub first_later : (nets : List (List ℕ)) (here rest : List TextLine) (line : TextLine) → here ≡ line ∷ rest
    → list_any (λ name. not (is_some (find_text nets name))) (names_at (kind_in_plan line) line) ≡ false → first_unknown nets here ≡ first_unknown nets rest
first_later nets here rest line is e = rw (is, e) refl

pub first_end : (nets : List (List ℕ)) (lines : List TextLine) (at : ℕ) → length lines ≤ at → first_unknown nets (drop at lines) ≡ None
first_end nets lines at h = rw (drop_all at lines h) refl

-- one more name, and what it is mapped to
pub named_more : {X : Type 0} (g : X → ℕ) (f : List ℕ → ℕ) (xs more : List X) (x : X) (words : List (List ℕ)) (from place : ℕ)
    → map g xs ≡ map f (slice_range words from place) → more ≡ xs ++ x ∷ [] → g x ≡ f (get_or words place []) → from ≤ place → place < length words
    → map g more ≡ map f (slice_range words from (place + 1))
named_more g f xs more x words from place e m t h w =
    ap (λ l. map g l) m ∙ (map-push g xs x ∙ (ap (λ l. l ++ g x ∷ []) e ∙ (ap (λ y. map f (slice_range words from place) ++ y ∷ []) t
    ∙ (sym (map-push f (slice_range words from place) (get_or words place [])) ∙ ap (λ l. map f l) (sym (range_push words from place [] h w))))))

pub placed_more : (f : List ℕ → ℕ) (xs more : List ℕ) (x : ℕ) (words : List (List ℕ)) (from place : ℕ)
    → xs ≡ map f (slice_range words from place) → more ≡ xs ++ x ∷ [] → x ≡ f (get_or words place []) → from ≤ place → place < length words
    → more ≡ map f (slice_range words from (place + 1))
placed_more f xs more x words from place e m t h w =
    m ∙ (ap (λ l. l ++ x ∷ []) e ∙ (ap (λ y. map f (slice_range words from place) ++ y ∷ []) t
    ∙ (sym (map-push f (slice_range words from place) (get_or words place [])) ∙ ap (λ l. map f l) (sym (range_push words from place [] h w)))))

pub position-map : {X : Type 0} (f : X → ℕ) (p : ℕ → Bool) (xs : List X) → position (λ x. p (f x)) xs ≡ position p (map f xs)
position-map {X} f p xs = by _ _ _ _ (walked xs) (sym (length-map xs f))
  where
    walked : (xs : List X) → position_or_len (λ x. p (f x)) xs ≡ position_or_len p (map f xs)
    walked [] = refl
    walked (x ∷ xs) = ap (λ n. cond (not (p (f x))) (1 + n) 0) (walked xs)

    by : (a b m n : ℕ) → a ≡ b → m ≡ n → cond (nat_lt a m) (Some a) None ≡ cond (nat_lt b n) (Some b) None
    by a b m n e f = cc

map-take : {X : Type 0} (f : X → ℕ) (n : ℕ) (xs : List X) → map f (take n xs) ≡ take n (map f xs)
map-take f zero xs = refl
map-take f (suc n) [] = refl
map-take f (suc n) (x ∷ xs) = ap (λ l. f x ∷ l) (map-take f n xs)

-- the place of a number among the first numbers of nets
pub output_found : (outputs : List NetId) (all : List ℕ) (number count : ℕ) → net_numbers outputs ≡ all
    → position (λ output. output.number == number) (take count outputs) ≡ position (λ output. output == number) (take count all)
output_found outputs all number count e =
    position-map (λ (output : NetId). output.number) (λ x. x == number) (take count outputs)
    ∙ ap (λ l. position (λ x. x == number) l) (map-take (λ (output : NetId). output.number) count outputs ∙ ap (λ l. take count l) e)

pub output_is : (net : NetlistOf) (name : List ℕ) (outputs : List NetId) (number count : ℕ) (found : Option ℕ)
    → net_numbers outputs ≡ net.circuit.outputs → number ≡ net_named net name → count ≡ length outputs - 2
    → found ≡ position (λ output. output.number == number) (take count outputs) → unwrap_or found count ≡ output_place net name
output_is net name outputs number count found o n c f =
    let k : count ≡ source_outputs net = c ∙ ap (λ l. l - 2) (numbers_counted outputs net.circuit.outputs o) in
    let p : found ≡ position (λ output. output == net_named net name) (take (source_outputs net) net.circuit.outputs) =
    f ∙ (output_found outputs net.circuit.outputs number count o
    ∙ (ap (λ m. position (λ output. output == m) (take count net.circuit.outputs)) n
    ∙ ap (λ m. position (λ output. output == net_named net name) (take m net.circuit.outputs)) k)) in
    ap (λ m. unwrap_or m count) p ∙ ap (λ m. unwrap_or (position (λ output. output == net_named net name) (take (source_outputs net) net.circuit.outputs)) m) k
