-- The phases of a signal have its value and the other value.
use Rattle.std.specs.Prelude.{◌≡◌, ℕ, Bool, true, false, not, ◌&&◌, ◌||◌, refl}
use Rattle.std.proofs.Common.{◌∙◌, ap}
use Rattle.tsc_bits.specs.Counting.{differ}
use Rattle.gate_net.specs.Signal.{Signal, value}
use Rattle.gate_net.specs.Signal.Signal.{Zero, One, Input, State, Not, And, Or, Xor}
use Rattle.push_negations.specs.NormalForm.{phases_of}

not_twice : (p : Bool) → p ≡ not (not p)
not_twice true = refl
not_twice false = refl

not_and : (p q : Bool) → (not p || not q) ≡ not (p && q)
not_and true q = refl
not_and false q = refl

not_or : (p q : Bool) → (not p && not q) ≡ not (p || q)
not_or true q = refl
not_or false q = refl

differ_cover : (p q : Bool) → (p && not q) || (not p && q) ≡ differ p q
differ_cover true true = refl
differ_cover true false = refl
differ_cover false true = refl
differ_cover false false = refl

agree_cover : (p q : Bool) → (p && q) || (not p && not q) ≡ not (differ p q)
agree_cover true true = refl
agree_cover true false = refl
agree_cover false true = refl
agree_cover false false = refl

-- a function of two bits at equal bits
both : (f : Bool → Bool → Bool) (p p' q q' : Bool) → p ≡ p' → q ≡ q' → f p q ≡ f p' q'
both f p p' q q' e e' = ap (λ b. f b q) e ∙ ap (f p') e'

-- the positive phase has the signal's value, and the negative one the other value
pub phases_value : (x s : ℕ → Bool) (signal : Signal) → (value x s (phases_of signal).positive ≡ value x s signal) × (value x s (phases_of signal).negative ≡ not (value x s signal))
phases_value x s Zero = (refl, refl)
phases_value x s One = (refl, refl)
phases_value x s (Input i) = (refl, refl)
phases_value x s (State i) = (refl, refl)
phases_value x s (Not a) = let of_a = phases_value x s a in (of_a.1, of_a.0 ∙ not_twice (value x s a))
phases_value x s (And a b) =
    let of_a = phases_value x s a in
    let of_b = phases_value x s b in
    (both (λ p q. p && q) _ _ _ _ of_a.0 of_b.0, both (λ p q. p || q) _ _ _ _ of_a.1 of_b.1 ∙ not_and (value x s a) (value x s b))
phases_value x s (Or a b) =
    let of_a = phases_value x s a in
    let of_b = phases_value x s b in
    (both (λ p q. p || q) _ _ _ _ of_a.0 of_b.0, both (λ p q. p && q) _ _ _ _ of_a.1 of_b.1 ∙ not_or (value x s a) (value x s b))
phases_value x s (Xor a b) =
    let of_a = phases_value x s a in
    let of_b = phases_value x s b in (
      both (λ p q. p || q) _ _ _ _ (both (λ p q. p && q) _ _ _ _ of_a.0 of_b.1) (both (λ p q. p && q) _ _ _ _ of_a.1 of_b.0) ∙ differ_cover (value x s a) (value x s b),
      both (λ p q. p || q) _ _ _ _ (both (λ p q. p && q) _ _ _ _ of_a.0 of_b.0) (both (λ p q. p && q) _ _ _ _ of_a.1 of_b.1) ∙ agree_cover (value x s a) (value x s b),
    )
