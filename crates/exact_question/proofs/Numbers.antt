-- At the number of a variable stands the variable; and lists that are spread.
use Rattle.std.proofs.Common.{◌≡◌, ℕ, zero, suc, ◌<◌, Bool, true, false, ◌&&◌, List, [], ◌∷◌, length, nat_eq, if◌then◌else◌, slice_index_or, All, Contains, refl, sym, ap, ◌∙◌, arith}
use Rattle.std.proofs.lemmas.Bool.{eqb-true, eq-eqb, and_parts, false≢true}
use Rattle.std.proofs.lemmas.List.Elements.{All-nil, All-append, Contains-append_left, Contains-append_right}
use Rattle.exact_question.specs.Variables.{Source, Right, Failing, Variable, Input, Net, Row, Choice, Gate, Differs, Chosen, OutputDiffers, Odd, RailsDiffer, Unheard, Key, keyed, key, is_key, number_of, spread}

-- ---- keys

-- the variable of a key
abbrev of_key : Key → Variable
of_key k = slice_index_or
    (Input k.first ∷ Net Source k.first ∷ Net Right k.first ∷ Net Failing k.first
    ∷ Row Source k.first k.second ∷ Row Right k.first k.second ∷ Row Failing k.first k.second
    ∷ Choice k.first ∷ Gate k.first ∷ Differs k.first ∷ Chosen k.first ∷ OutputDiffers k.first ∷ Odd k.first k.second
    ∷ RailsDiffer Source ∷ RailsDiffer Right ∷ RailsDiffer Failing ∷ []) k.kind Unheard

has_key : (v : Variable) → of_key (key v) ≡ v
has_key (Input i) = refl
has_key (Net Source j) = refl
has_key (Net Right j) = refl
has_key (Net Failing j) = refl
has_key (Row Source j r) = refl
has_key (Row Right j r) = refl
has_key (Row Failing j r) = refl
has_key (Choice j) = refl
has_key (Gate j) = refl
has_key (Differs j) = refl
has_key (Chosen j) = refl
has_key (OutputDiffers k) = refl
has_key (Odd g k) = refl
has_key (RailsDiffer Source) = refl
has_key (RailsDiffer Right) = refl
has_key (RailsDiffer Failing) = refl
has_key Unheard = refl

same_key : (a b : Key) → is_key a b ≡ true → a ≡ b
same_key a b is =
    let first = and_parts (nat_eq a.kind b.kind) (nat_eq a.first b.first && nat_eq a.second b.second) is in
    let rest = and_parts (nat_eq a.first b.first) (nat_eq a.second b.second) first.1 in
    ap (λ n. keyed n a.first a.second) (eqb-true a.kind b.kind first.0)
    ∙ ap (λ n. keyed b.kind n a.second) (eqb-true a.first b.first rest.0)
    ∙ ap (λ n. keyed b.kind b.first n) (eqb-true a.second b.second rest.1)

-- a key is itself
pub key_itself : (k : Key) → is_key k k ≡ true
key_itself k = rw (eq-eqb k.kind k.kind refl, eq-eqb k.first k.first refl, eq-eqb k.second k.second refl) refl

-- variables with one key are the same
pub same_variable : (v w : Variable) → is_key (key v) (key w) ≡ true → v ≡ w
same_variable v w is = sym (has_key v) ∙ ap of_key (same_key (key v) (key w) is) ∙ has_key w

-- ---- numbers

-- at the number of a variable of the list stands the variable
pub at_number : (v : Variable) (vs : List Variable) (d : Variable) → Contains vs v → slice_index_or vs (number_of v vs) d ≡ v
at_number v [] d at = absurd (let inside = at.1 in omega arith)
at_number v (w ∷ ws) d at = by (λ later. at_number v ws d later) (is_key (key v) (key w)) refl at
  where
    by : (Contains ws v → slice_index_or ws (number_of v ws) d ≡ v) → (b : Bool) → is_key (key v) (key w) ≡ b → Contains (w ∷ ws) v → slice_index_or (w ∷ ws) (if b then 0 else suc (number_of v ws)) d ≡ v
    by rest true is at = sym (same_variable v w is)
    by rest false is (zero, inside, here) = absurd (false≢true (sym is ∙ ap (λ u. is_key (key v) (key u)) here ∙ key_itself (key v)))
    by rest false is (suc k, inside, here) = rest (k, omega arith, here)

-- ---- spread lists

pub All-spread : {A B : Type 0} (P : B → Type 0) (f : ℕ → A → List B) (items : List A) (d : A)
    → ((k : ℕ) → k < length items → All P (f k (slice_index_or items k d))) → All P (spread f items)
All-spread P f [] d each = All-nil P
All-spread P f (a ∷ as_) d each =
    All-append P (f 0 a) (spread (λ k. f (suc k)) as_) (each 0 (omega arith)) (All-spread P (λ k. f (suc k)) as_ d (λ k inside. each (suc k) (omega arith)))

pub Contains-spread : {A B : Type 0} (f : ℕ → A → List B) (items : List A) (d : A) (k : ℕ) (b : B) → k < length items
    → Contains (f k (slice_index_or items k d)) b → Contains (spread f items) b
Contains-spread f [] d k b inside at = absurd (omega arith)
Contains-spread f (a ∷ as_) d zero b inside at = Contains-append_left (f 0 a) (spread (λ k. f (suc k)) as_) b at
Contains-spread f (a ∷ as_) d (suc k) b inside at =
    Contains-append_right (f 0 a) (spread (λ i. f (suc i)) as_) b (Contains-spread (λ i. f (suc i)) as_ d k b (omega arith) at)

pub contains_first : {A : Type 0} (a : A) (as_ : List A) → Contains (a ∷ as_) a
contains_first a as_ = (0, omega arith, refl)

pub contains_later : {A : Type 0} (a b : A) (as_ : List A) → Contains as_ b → Contains (a ∷ as_) b
contains_later a b as_ at = let inside = at.1 in (suc at.0, omega arith, at.2)
