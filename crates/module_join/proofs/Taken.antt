-- The names that are taken: none of them begins as the joint's own names do.
use Rattle.std.proofs.Common.{◌≡◌, ℕ, ◌+◌, ◌^◌, ◌<◌, ◌≤◌, ◌||◌, Bool, true, false, List, [], ◌∷◌, ◌++◌, length, All, Option, None, Some, refl, sym, ap, ◌∙◌, inl, inr, arith, true≢false}
use Rattle.std.specs.List.{list_any}
use Rattle.std.specs.Str.{bytes_eq}
use Rattle.std.proofs.lemmas.Bool.{cases_Bool, cond-true, cond-false, or_parts}
use Rattle.std.proofs.lemmas.List.Elements.{All-nil, All-cons, All-head, All-tail}
use Rattle.std.proofs.lemmas.List.Folds.{list_any-append}
use Rattle.blif_read.specs.declared.clocks.Clock.{Clock}
use Rattle.tsc_net.specs.Names.{has_text, with_text, place_of_text}
use Rattle.tsc_net.specs.Parts.{begins_with}
use Rattle.tsc_net.proofs.NameLemmas.{bytes_eq_same, place_within, text_at_place, has_added, length-with_text-most}
use Rattle.tsc_net.proofs.FreshNumbers.{free-isnt-taken-under}
use Rattle.module_join.specs.JointNet.{PlannedOf, joint_inputs, joint_clock, with_control, taken_names, joint_prefix}

-- where a test fails on a list of texts, it fails on each
pub fails_each : (p : List ℕ → Bool) (names : List (List ℕ)) → list_any p names ≡ false → All (λ t. p t ≡ false) names
fails_each p [] h = All-nil (λ t. p t ≡ false)
fails_each p (t ∷ names) h =
    let both = or_parts (p t) (list_any p names) h in All-cons (λ t. p t ≡ false) t names both.0 (fails_each p names both.1)

-- where it fails on a list with one more text, it fails on the list
fails_fewer : (p : List ℕ → Bool) (names : List (List ℕ)) (t : List ℕ) → list_any p (with_text names t) ≡ false → list_any p names ≡ false
fails_fewer p names t h = elim (cases_Bool (has_text names t)) [
  | inl there ↦ sym (ap (list_any p) (cond-true (has_text names t) names (names ++ t ∷ []) there)) ∙ h
  | inr absent ↦
      (or_parts (list_any p names) (list_any p (t ∷ [])) (sym (ap (list_any p) (cond-false (has_text names t) names (names ++ t ∷ []) absent) ∙ list_any-append p names (t ∷ [])) ∙ h)).0
]

-- and on that text
fails_added : (p : List ℕ → Bool) (names : List (List ℕ)) (t : List ℕ) → list_any p (with_text names t) ≡ false → p t ≡ false
fails_added p names t h =
    let all = with_text names t in
    let there = has_added names t in
    ap p (sym (text_at_place all t there)) ∙ fails_each p all h (place_of_text all t) [] (place_within all t there)

-- so of the control of a clock after the names
fails_names : (p : List ℕ → Bool) (names : List (List ℕ)) (clock : Option Clock) → list_any p (with_control names clock) ≡ false → list_any p names ≡ false
fails_names p names None h = h
fails_names p names (Some clock) h = fails_fewer p names clock.control h

-- the control is one more name at most
pub length-with_control : (names : List (List ℕ)) (clock : Option Clock) → length (with_control names clock) ≤ length names + 1
length-with_control names None = omega arith
length-with_control names (Some clock) = length-with_text-most names clock.control

-- a text that doesn't begin so is none of those that do
pub fails_has : (p : List ℕ → Bool) (names : List (List ℕ)) (t : List ℕ) → p t ≡ false → All (λ u. p u ≡ true) names → has_text names t ≡ false
fails_has p [] t fails passes = refl
fails_has p (u ∷ names) t fails passes = elim (cases_Bool (bytes_eq t u)) [
  | inl same ↦ absurd (true≢false (sym (ap p (bytes_eq_same t u same) ∙ All-head (λ u. p u ≡ true) u names passes) ∙ fails))
  | inr other ↦ ap (λ b. b || has_text names t) other ∙ fails_has p names t fails (All-tail (λ u. p u ≡ true) u names passes)
]

module _ (parts : List PlannedOf) (few : length (joint_inputs parts) + 1 < 2 ^ 32) where
  free : list_any (begins_with (joint_prefix (taken_names parts))) (taken_names parts) ≡ false
  free = free-isnt-taken-under 112 (taken_names parts) (omega (arith, length-with_control (joint_inputs parts) (joint_clock parts)))

  -- no input begins as the joint's own names do
  pub inputs_begin_otherwise : All (λ t. begins_with (joint_prefix (taken_names parts)) t ≡ false) (joint_inputs parts)
  inputs_begin_otherwise =
      let p : List ℕ → Bool = begins_with (joint_prefix (taken_names parts)) in
      fails_each p (joint_inputs parts) (fails_names p (joint_inputs parts) (joint_clock parts) free)

  -- nor does the control of the joint's clock
  pub control_begins_otherwise : (clock : Clock) → joint_clock parts ≡ Some clock → begins_with (joint_prefix (taken_names parts)) clock.control ≡ false
  control_begins_otherwise clock is =
      let p : List ℕ → Bool = begins_with (joint_prefix (taken_names parts)) in
      fails_added p (joint_inputs parts) clock.control (ap (λ c. list_any p (with_control (joint_inputs parts) c)) (sym is) ∙ free)
