-- Which nets live after a list of nets was released.
use Rattle.std.proofs.Common.{◌≡◌, ℕ, ◌+◌, ◌<◌, ◌==◌, ◌&&◌, ◌||◌, not, nat_lt, Bool, true, false, List, [], ◌∷◌, ◌++◌, length, take, slice_index, slice_index_or, refl, sym, ap, ◌∙◌, subst, inl, inr}
use Rattle.std.proofs.lemmas.Bool.{cases_eq, eq-eqb, ne_eqb}
use Rattle.std.proofs.lemmas.List.{map_more}
use Rattle.tsc_net.specs.Order.{has_place}
use Rattle.tsc_net.specs.PlanView.{net_numbers}
use Rattle.tsc_net.specs.declared.ids.NetId.{NetId}
use Rattle.tsc_net.proofs.OrderLists.{has_place-push}
use Rattle.lane_rows.proofs.HoldingLemmas.{less}

-- which nets live after those of a list were released, at a place: the others, and those that are needed there or later
abbrev pub left_of : (ℕ → Bool) → List ℕ → List ℕ → ℕ → ℕ → Bool
left_of live nets ends place other = live other && (not (has_place nets other) || nat_lt place (slice_index ends other))

none_more : (a h : Bool) → a ≡ (a && (not false || h))
none_more true h = refl
none_more false h = refl

pub left_of_none : (live : ℕ → Bool) (ends : List ℕ) (place other : ℕ) → live other ≡ left_of live [] ends place other
left_of_none live ends place other = none_more (live other) (nat_lt place (slice_index ends other))

same_net : (a b h : Bool) → ((a && (not b || h)) && (not true || h)) ≡ (a && (not (b || (true || false)) || h))
same_net true true true = refl
same_net true true false = refl
same_net true false true = refl
same_net true false false = refl
same_net false b h = refl

other_net : (a b g h : Bool) → ((a && (not b || h)) && (not false || g)) ≡ (a && (not (b || (false || false)) || h))
other_net true true g true = refl
other_net true true g false = refl
other_net true false g h = refl
other_net false b g h = refl

-- one net more
left_of_push : (live : ℕ → Bool) (nets ends : List ℕ) (place net other : ℕ)
    → less (left_of live nets ends place) net (nat_lt place (slice_index ends net)) other ≡ left_of live (nets ++ net ∷ []) ends place other
left_of_push live nets ends place net other =
    elim (cases_eq net other) [
      | inl e ↦ subst (λ n. less (left_of live nets ends place) n (nat_lt place (slice_index ends n)) other ≡ (live other && (not (has_place nets other || (n == other || false)) || nat_lt place (slice_index ends other)))) (sym e)
          (ap (λ b. (left_of live nets ends place other) && (not b || nat_lt place (slice_index ends other))) (eq-eqb other other refl)
          ∙ same_net (live other) (has_place nets other) (nat_lt place (slice_index ends other))
          ∙ ap (λ b. live other && (not (has_place nets other || (b || false)) || nat_lt place (slice_index ends other))) (sym (eq-eqb other other refl)))
      | inr apart ↦
          ap (λ b. (left_of live nets ends place other) && (not b || nat_lt place (slice_index ends net))) (ne_eqb net other apart)
          ∙ other_net (live other) (has_place nets other) (nat_lt place (slice_index ends net)) (nat_lt place (slice_index ends other))
          ∙ ap (λ b. live other && (not (has_place nets other || (b || false)) || nat_lt place (slice_index ends other))) (sym (ne_eqb net other apart))
    ]
    ∙ ap (λ b. live other && (not b || nat_lt place (slice_index ends other))) (sym (has_place-push nets net other))

-- the net at the next place of a list
pub left_of_more : (live : ℕ → Bool) (nets : List NetId) (ends : List ℕ) (place i : ℕ) (d : NetId) (other : ℕ) → i < length nets
    → less (left_of live (net_numbers (take i nets)) ends place) (slice_index_or nets i d).number (nat_lt place (slice_index ends (slice_index_or nets i d).number)) other
    ≡ left_of live (net_numbers (take (i + 1) nets)) ends place other
left_of_more live nets ends place i d other h =
    left_of_push live (net_numbers (take i nets)) ends place (slice_index_or nets i d).number other
    ∙ ap (λ (list : List ℕ). left_of live list ends place other) (sym (map_more (λ (net : NetId). net.number) nets i d h))
