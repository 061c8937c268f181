-- Bits that are put at different nets.
use Rattle.std.proofs.Common.{◌≡◌, ℕ, zero, suc, ◌<◌, ◌==◌, ◌⊎◌, inl, inr, Bool, true, false, if◌then◌else◌, List, [], ◌∷◌, ◌++◌, map, length, set, slice_index_or, Contains, refl, sym, ◌∙◌, ap, ap₂, subst, arith}
use Rattle.std.specs.List.{list_any}
use Rattle.std.proofs.lemmas.Bool.{cases_Bool, cases_eq, false≢true, eq-eqb}
use Rattle.std.proofs.lemmas.List.{length-set, get_or-set_same, get_or-set_other}
use Rattle.std.proofs.lemmas.List.Elements.{Contains-append_left, Contains-push, Contains-push_cases}
use Rattle.std.proofs.lemmas.List.Folds.{list_any_at}
use Rattle.std.proofs.lemmas.Grind.{common_steps}
use Rattle.fault_secure.specs.Circuit.{bit}
use Rattle.checker_audit.specs.Misjudged.{with_net, with_nets}
use Rattle.node_lanes.specs.Settling.{with_bits}

-- no net stands twice
abbrev pub AreDifferent : List ℕ → Type 0
AreDifferent [] = Unit {0}
AreDifferent (net ∷ nets) = (Contains nets net → ⊥) × AreDifferent nets

pub here : (x : ℕ) (xs : List ℕ) → Contains (x ∷ xs) x
here x xs = (0, omega arith, refl)

pub there : (x y : ℕ) (xs : List ℕ) → Contains xs y → Contains (x ∷ xs) y
there x y xs (k, within, is) = (suc k, omega arith, is)

pub cons_cases : (x y : ℕ) (xs : List ℕ) → Contains (x ∷ xs) y → (x ≡ y) ⊎ Contains xs y
cons_cases x y xs (zero, within, is) = inl is
cons_cases x y xs (suc k, within, is) = inr (k, omega arith, is)

pub nothing : (y : ℕ) → Contains [] y → ⊥
nothing y (k, within, is) = omega arith

pub put_other : (v : List Bool) (nets : List ℕ) (bits : List Bool) (net : ℕ) → (Contains nets net → ⊥) → bit (with_bits v nets bits) net ≡ bit v net
put_other v [] bits net apart = refl
put_other v (n ∷ nets) [] net apart = refl
put_other v (n ∷ nets) (b ∷ bits) net apart =
    put_other (set v n b) nets bits net (λ c. apart (there n net nets c))
    ∙ get_or-set_other v n net b false (λ e. apart (subst (Contains (n ∷ nets)) (sym e) (here n nets)))

-- the nets have the bits that are put
pub put_gives : (v : List Bool) (nets : List ℕ) (bits : List Bool) → AreDifferent nets → length nets ≡ length bits → ((net : ℕ) → Contains nets net → net < length v)
    → map (bit (with_bits v nets bits)) nets ≡ bits
put_gives v [] [] apart sized within = refl
put_gives v [] (b ∷ bits) apart sized within = absurd (omega arith)
put_gives v (n ∷ nets) [] apart sized within = absurd (omega arith)
put_gives v (n ∷ nets) (b ∷ bits) apart sized within =
    ap₂ ◌∷◌
    (put_other (set v n b) nets bits n apart.0 ∙ get_or-set_same v n b false (within n (here n nets)))
    (put_gives (set v n b) nets bits apart.1 (omega arith) (λ net c. (let l = length-set v n b in let w = within net (there n net nets c) in omega arith)))

absent : (nets : List ℕ) (net : ℕ) → list_any (λ other. other == net) nets ≡ false → Contains nets net → ⊥
absent nets net none (k, within, is) = false≢true (sym none ∙ list_any_at (λ other. other == net) nets k net within (eq-eqb (slice_index_or nets k net) net is))

present : (nets : List ℕ) (net : ℕ) → list_any (λ other. other == net) nets ≡ true → Contains nets net
present [] net some = absurd (false≢true some)
present (n ∷ nets) net some = elim (cases_eq n net) [
  | inl same ↦ (0, omega arith, same)
  | inr other ↦ there n net nets (present nets net (later n net nets other some))
]
  where
    later : (n net : ℕ) (nets : List ℕ) → (n ≡ net → ⊥) → list_any (λ other. other == net) (n ∷ nets) ≡ true → list_any (λ other. other == net) nets ≡ true
    later n net nets other some = grind (arith, common_steps)

different_push : (nets : List ℕ) (net : ℕ) → AreDifferent nets → (Contains nets net → ⊥) → AreDifferent (nets ++ net ∷ [])
different_push [] net apart new = (nothing net, tt)
different_push (n ∷ nets) net apart new = (
  λ c. elim (Contains-push_cases nets net n c) [ inl old ↦ apart.0 old | inr e ↦ new (subst (λ m. Contains (n ∷ nets) m) (sym e) (here n nets)) ],
  different_push nets net apart.1 (λ c. new (there n net nets c)),
)

with_net-there : (nets : List ℕ) (net : ℕ) → list_any (λ other. other == net) nets ≡ true → with_net nets net ≡ nets
with_net-there nets net e = ap (λ (b : Bool). if b then nets else nets ++ net ∷ []) e

with_net-new : (nets : List ℕ) (net : ℕ) → list_any (λ other. other == net) nets ≡ false → with_net nets net ≡ nets ++ net ∷ []
with_net-new nets net e = ap (λ (b : Bool). if b then nets else nets ++ net ∷ []) e

different_with : (nets : List ℕ) (net : ℕ) → AreDifferent nets → AreDifferent (with_net nets net)
different_with nets net apart = elim (cases_Bool (list_any (λ other. other == net) nets)) [
  | inl e ↦ subst AreDifferent (sym (with_net-there nets net e)) apart
  | inr e ↦ subst AreDifferent (sym (with_net-new nets net e)) (different_push nets net apart (absent nets net e))
]

pub different_nets : (nets more : List ℕ) → AreDifferent nets → AreDifferent (with_nets nets more)
different_nets nets [] apart = apart
different_nets nets (net ∷ more) apart = different_nets (with_net nets net) more (different_with nets net apart)

with_net-has : (nets : List ℕ) (net : ℕ) → Contains (with_net nets net) net
with_net-has nets net = elim (cases_Bool (list_any (λ other. other == net) nets)) [
  | inl e ↦ subst (λ l. Contains l net) (sym (with_net-there nets net e)) (present nets net e)
  | inr e ↦ subst (λ l. Contains l net) (sym (with_net-new nets net e)) (Contains-push nets net)
]

with_net-keeps : (nets : List ℕ) (net other : ℕ) → Contains nets other → Contains (with_net nets net) other
with_net-keeps nets net other c = elim (cases_Bool (list_any (λ other. other == net) nets)) [
  | inl e ↦ subst (λ l. Contains l other) (sym (with_net-there nets net e)) c
  | inr e ↦ subst (λ l. Contains l other) (sym (with_net-new nets net e)) (Contains-append_left nets (net ∷ []) other c)
]

with_nets-keeps : (nets more : List ℕ) (other : ℕ) → Contains nets other → Contains (with_nets nets more) other
with_nets-keeps nets [] other c = c
with_nets-keeps nets (net ∷ more) other c = with_nets-keeps (with_net nets net) more other (with_net-keeps nets net other c)

-- each net of the list stands among the different ones
pub with_nets-has : (nets more : List ℕ) (other : ℕ) → Contains more other → Contains (with_nets nets more) other
with_nets-has nets [] other c = absurd (nothing other c)
with_nets-has nets (net ∷ more) other c = elim (cons_cases net other more c) [
  | inl e ↦ with_nets-keeps (with_net nets net) more other (subst (Contains (with_net nets net)) e (with_net-has nets net))
  | inr later ↦ with_nets-has (with_net nets net) more other later
]

with_net-from : (nets : List ℕ) (net other : ℕ) → Contains (with_net nets net) other → Contains nets other ⊎ (net ≡ other)
with_net-from nets net other c = elim (cases_Bool (list_any (λ other. other == net) nets)) [
  | inl e ↦ inl (subst (λ l. Contains l other) (with_net-there nets net e) c)
  | inr e ↦ Contains-push_cases nets net other (subst (λ l. Contains l other) (with_net-new nets net e) c)
]

-- and each of the different ones stands in the list
pub with_nets-from : (nets more : List ℕ) (other : ℕ) → Contains (with_nets nets more) other → Contains nets other ⊎ Contains more other
with_nets-from nets [] other c = inl c
with_nets-from nets (net ∷ more) other c = elim (with_nets-from (with_net nets net) more other c) [
  | inl old ↦ elim (with_net-from nets net other old) [
    | inl older ↦ inl older
    | inr e ↦ inr (subst (Contains (net ∷ more)) e (here net more))
  ]
  | inr later ↦ inr (there net other more later)
]
