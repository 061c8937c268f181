-- Words of two valuations: equal, or one below the other.
use Rattle.std.proofs.Common.{◌≡◌, ℕ, suc, Bool, true, false, List, [], ◌∷◌, ◌++◌, map, Contains, refl, sym, ap₂, ◌∙◌, inl, inr, arith}
use Rattle.std.proofs.lemmas.Bool.{false≢true}
use Rattle.structure_laws.specs.OneWay.{Moves}
use Rattle.structure_laws.specs.Unordered.{Below}

Contains-tail : (n : ℕ) (ns : List ℕ) (m : ℕ) → Contains ns m → Contains (n ∷ ns) m
Contains-tail n ns m c = (suc c.0, omega (arith, c.1), c.2)

-- words are equal where the bits of their nets are
pub same_word : (g h : ℕ → Bool) (ns : List ℕ) → ((net : ℕ) → Contains ns net → g net ≡ h net) → map g ns ≡ map h ns
same_word g h [] same = refl
same_word g h (n ∷ ns) same = ap₂ ◌∷◌ (same n (0, omega arith, refl)) (same_word g h ns (λ m c. same m (Contains-tail n ns m c)))

-- equal words have equal parts
pub same_parts : (g h : ℕ → Bool) (ns ms : List ℕ) → map g (ns ++ ms) ≡ map h (ns ++ ms) → (map g ns ≡ map h ns) × (map g ms ≡ map h ms)
same_parts g h [] ms e = (refl, e)
same_parts g h (n ∷ ns) ms e = let rest = same_parts g h ns ms (cc) in (ap₂ ◌∷◌ (cc) rest.0, rest.1)

-- moved towards true the second word covers the first, moved towards false the first the second
pub word_up : (g h : ℕ → Bool) (ns : List ℕ) → ((net : ℕ) → Contains ns net → Moves true (g net) (h net)) → Below (map g ns) (map h ns)
word_up g h [] moves = tt
word_up g h (n ∷ ns) moves =
    (λ one. elim (moves n (0, omega arith, refl)) [ inl e ↦ sym e ∙ one | inr e ↦ e ], word_up g h ns (λ m c. moves m (Contains-tail n ns m c)))

pub word_down : (g h : ℕ → Bool) (ns : List ℕ) → ((net : ℕ) → Contains ns net → Moves false (g net) (h net)) → Below (map h ns) (map g ns)
word_down g h [] moves = tt
word_down g h (n ∷ ns) moves =
    (λ one. elim (moves n (0, omega arith, refl)) [ inl e ↦ e ∙ one | inr e ↦ absurd (false≢true (sym e ∙ one)) ], word_down g h ns (λ m c. moves m (Contains-tail n ns m c)))
