-- A cover's truth moves the way that its pins move, where no pin that differs has the wrong sign.
use Rattle.std.proofs.Common.{◌≡◌, ℕ, suc, Bool, true, false, not, ◌&&◌, ◌||◌, if◌then◌else◌, List, [], ◌∷◌, length, refl, ap, ◌∙◌, inl, inr, arith}
use Rattle.std.specs.List.{list_any}
use Rattle.std.proofs.lemmas.Bool.{false≢true, true≢false, or_from, or_left, or_right, and_from, and_right}
use Rattle.tsc_bits.specs.Bits.{same}
use Rattle.tsc_cover.specs.Cover.{Literal, Free, Wants, accepts, asks_for, row_matches, CoverTable, some_row_matches, truth, literal_at, wrong_sign}
use Rattle.fault_secure.specs.Circuit.{bit}
use Rattle.structure_laws.specs.OneWay.{Moves}
use Rattle.tsc_bits.proofs.Bools.{not-not}

-- nothing moves towards `true` and arrives at `false`
unmoved : (d a b : Bool) → Moves d a b → (b ≡ d → ⊥) → a ≡ b
unmoved d a b (inl e) h = e
unmoved d a b (inr e) h = absurd (h e)

pub moves-and : (e a b c d : Bool) → Moves e a b → Moves e c d → Moves e (a && c) (b && d)
moves-and true a true c true p q = inr refl
moves-and true a true c false p q = inl (and_right a c (unmoved true c false q false≢true))
moves-and true a false c d p q = inl (ap (λ z. z && c) (unmoved true a false p false≢true))
moves-and false a true c true p q = inl (and_from a c (unmoved false a true p true≢false) (unmoved false c true q true≢false))
moves-and false a true c false p q = inr refl
moves-and false a false c d p q = inr refl

pub moves-or : (e a b c d : Bool) → Moves e a b → Moves e c d → Moves e (a || c) (b || d)
moves-or true a true c d p q = inr refl
moves-or true a false c true p q = inr refl
moves-or true a false c false p q = inl (or_from a c (unmoved true a false p false≢true) (unmoved true c false q false≢true))
moves-or false a true c d p q = inl (or_left a c (unmoved false a true p true≢false))
moves-or false a false c true p q = inl (or_right a c (unmoved false c true q true≢false))
moves-or false a false c false p q = inr refl

pub moves-not : (d a b : Bool) → Moves d a b → Moves (not d) (not a) (not b)
moves-not d a b (inl e) = inl (ap not e)
moves-not d a b (inr e) = inr (ap not e)

-- an on-set is 1 where a row matches, an off-set where none does
choose_moves : (on d a b : Bool) → Moves (same on d) a b → Moves d (if on then a else not a) (if on then b else not b)
choose_moves true d a b m = m
choose_moves false d a b (inl e) = inl (ap not e)
choose_moves false d a b (inr e) = inr (ap not e ∙ not-not d)

literal_moves : (on d a b : Bool) (l : Literal) → Moves d a b → (asks_for (not on) l ≡ true → a ≡ b) → Moves (same on d) (accepts l a) (accepts l b)
literal_moves on d a b Free m right = inl refl
literal_moves true d a b (Wants true) m right = m
literal_moves true d a b (Wants false) m right = inl (ap (same false) (right refl))
literal_moves false d a b (Wants false) m right = moves-not d a b m
literal_moves false d a b (Wants true) m right = inl (ap (same true) (right refl))

row_moves : (on d : Bool) (row : List Literal) (xs ys : List Bool) → length xs ≡ length ys
    → ((pin : ℕ) → Moves d (bit xs pin) (bit ys pin))
    → ((pin : ℕ) → asks_for (not on) (literal_at row pin) ≡ true → bit xs pin ≡ bit ys pin)
    → Moves (same on d) (row_matches row xs) (row_matches row ys)
row_moves on d [] xs ys sized m right = inl refl
row_moves on d (l ∷ row) [] [] sized m right = inl refl
row_moves on d (l ∷ row) [] (y ∷ ys) sized m right = absurd (omega arith)
row_moves on d (l ∷ row) (x ∷ xs) [] sized m right = absurd (omega arith)
row_moves on d (l ∷ row) (x ∷ xs) (y ∷ ys) sized m right =
    moves-and (same on d) (accepts l x) (accepts l y) (row_matches row xs) (row_matches row ys)
    (literal_moves on d x y l (m 0) (right 0))
    (row_moves on d row xs ys (omega arith) (λ pin. m (suc pin)) (λ pin. right (suc pin)))

some_row_moves : (on d : Bool) (rows : List (List Literal)) (xs ys : List Bool) → length xs ≡ length ys
    → ((pin : ℕ) → Moves d (bit xs pin) (bit ys pin))
    → ((pin : ℕ) → list_any (λ row. asks_for (not on) (literal_at row pin)) rows ≡ true → bit xs pin ≡ bit ys pin)
    → Moves (same on d) (some_row_matches rows xs) (some_row_matches rows ys)
some_row_moves on d [] xs ys sized m right = inl refl
some_row_moves on d (row ∷ rows) xs ys sized m right =
    moves-or (same on d) (row_matches row xs) (row_matches row ys) (some_row_matches rows xs) (some_row_matches rows ys)
    (row_moves on d row xs ys sized m (λ pin h. right pin (or_left (asks_for (not on) (literal_at row pin)) (list_any (λ row. asks_for (not on) (literal_at row pin)) rows) h)))
    (some_row_moves on d rows xs ys sized m (λ pin h. right pin (or_right (asks_for (not on) (literal_at row pin)) (list_any (λ row. asks_for (not on) (literal_at row pin)) rows) h)))

-- the truth of a cover moves towards d where its pins do and those of the wrong sign stay
pub truth_moves : (c : CoverTable) (d : Bool) (xs ys : List Bool) → length xs ≡ length ys
    → ((pin : ℕ) → Moves d (bit xs pin) (bit ys pin))
    → ((pin : ℕ) → wrong_sign c pin ≡ true → bit xs pin ≡ bit ys pin)
    → Moves d (truth c xs) (truth c ys)
truth_moves c d xs ys sized m right =
    choose_moves c.on d (some_row_matches c.rows xs) (some_row_matches c.rows ys) (some_row_moves c.on d c.rows xs ys sized m right)
