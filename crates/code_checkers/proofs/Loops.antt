-- The steps of the loops that build thresholds, chains and counters.
use Rattle.std.specs.Prelude.{◌≡◌, ℕ, suc, ◌+◌, ◌-◌, ◌*◌, ◌^◌, ◌<◌, ◌≤◌, ◌==◌, Bool, true, false, List, [], ◌∷◌, ◌++◌, map, length, drop, get_or, refl}
use Rattle.std.proofs.Common.{sym, ◌∙◌, ap, arith}
use Rattle.std.proofs.lemmas.List.{drop_more, drop_all, drop-drop, append_assoc}
use Rattle.code_checkers.specs.Signal.{Signal, Pair, words_from, chain_from, chain}
use Rattle.code_checkers.specs.Signal.Signal.{Word, Not, And, Or, Xor}
use Rattle.code_checkers.specs.Checker.{group_pairs, count_pairs}
use Rattle.code_checkers.specs.Tree.{word_pairs}
use Rattle.code_checkers.specs.Counter.{add_carry, count_from}
use Rattle.code_checkers.specs.Threshold.{row_from, thresholds_from, both_reach, terms_from, every_second}

-- what is left of a list begins with the item at hand
pub drop_at : {X : Type 0} (xs : List X) (i : ℕ) (d x : X) → i < length xs → x ≡ get_or xs i d → drop i xs ≡ x ∷ drop (i + 1) xs
drop_at xs i d x lt e = drop_more xs i d lt ∙ ap (λ y. y ∷ drop (i + 1) xs) (sym e)

pub row_step : (made row goal : List Signal) (carried x t d : Signal) (i : ℕ) → i < length row → t ≡ get_or row i d
    → made ++ row_from carried x (drop i row) ≡ goal → (made ++ Or t carried ∷ []) ++ row_from (And t x) x (drop (i + 1) row) ≡ goal
row_step made row goal carried x t d i lt e h =
    append_assoc made (Or t carried ∷ []) (row_from (And t x) x (drop (i + 1) row)) ∙ ap (λ rest. made ++ row_from carried x rest) (sym (drop_at row i d t lt e)) ∙ h

pub row_end : (made row goal : List Signal) (carried x : Signal) (i : ℕ) → length row ≤ i
    → made ++ row_from carried x (drop i row) ≡ goal → made ++ carried ∷ [] ≡ goal
row_end made row goal carried x i end h = ap (λ rest. made ++ row_from carried x rest) (sym (drop_all i row end)) ∙ h

pub thresholds_step : (row signals goal : List Signal) (x d : Signal) (i : ℕ) → i < length signals → x ≡ get_or signals i d
    → thresholds_from row (drop i signals) ≡ goal → thresholds_from (row_from x x row) (drop (i + 1) signals) ≡ goal
thresholds_step row signals goal x d i lt e h = ap (thresholds_from row) (sym (drop_at signals i d x lt e)) ∙ h

pub chain_step : (gate : Signal → Signal → Signal) (signals : List Signal) (goal made x d : Signal) (i : ℕ) → i < length signals → x ≡ get_or signals i d
    → chain_from gate made (drop i signals) ≡ goal → chain_from gate (gate made x) (drop (i + 1) signals) ≡ goal
chain_step gate signals goal made x d i lt e h = ap (chain_from gate made) (sym (drop_at signals i d x lt e)) ∙ h

pub terms_step : (made firsts seconds goal : List Signal) (term : Signal) (m t count : ℕ) → t < count → term ≡ both_reach firsts seconds (m + t - length seconds) (length seconds - t)
    → made ++ terms_from firsts seconds m t (count - t) ≡ goal → (made ++ term ∷ []) ++ terms_from firsts seconds m (t + 1) (count - (t + 1)) ≡ goal
terms_step made firsts seconds goal term m t count lt e h =
    let n : count - t ≡ suc (count - (t + 1)) = omega arith in
    append_assoc made (term ∷ []) (terms_from firsts seconds m (t + 1) (count - (t + 1)))
    ∙ ap (λ s. made ++ s ∷ terms_from firsts seconds m (t + 1) (count - (t + 1))) e
    ∙ ap (λ k. made ++ terms_from firsts seconds m t k) (sym n)
    ∙ h

pub every_second-tail : {X : Type 0} (xs : List X) → every_second false xs ≡ every_second true (drop 1 xs)
every_second-tail [] = refl
every_second-tail (x ∷ xs) = refl

pub second_step : {X : Type 0} (half xs goal : List X) (x d : X) (i : ℕ) → i < length xs → x ≡ get_or xs i d
    → half ++ every_second true (drop i xs) ≡ goal → (half ++ x ∷ []) ++ every_second true (drop (i + 2) xs) ≡ goal
second_step half xs goal x d i lt e h =
    let rest : every_second true (drop (i + 2) xs) ≡ every_second false (drop (i + 1) xs) = sym (every_second-tail (drop (i + 1) xs) ∙ ap (every_second true) (drop-drop 1 (i + 1) xs ∙ ap (λ n. drop n xs) (plus_two i))) in
    append_assoc half (x ∷ []) (every_second true (drop (i + 2) xs))
    ∙ ap (λ ys. half ++ x ∷ ys) rest
    ∙ ap (λ ys. half ++ every_second true ys) (sym (drop_at xs i d x lt e))
    ∙ h
  where
    plus_two : (n : ℕ) → n + 1 + 1 ≡ n + 2
    plus_two n = omega arith

pub carry_step : (grows : Bool) (made bits goal : List Signal) (carried b d : Signal) (i : ℕ) → i < length bits → b ≡ get_or bits i d
    → made ++ add_carry grows carried (drop i bits) ≡ goal → (made ++ Xor b carried ∷ []) ++ add_carry grows (And b carried) (drop (i + 1) bits) ≡ goal
carry_step grows made bits goal carried b d i lt e h =
    append_assoc made (Xor b carried ∷ []) (add_carry grows (And b carried) (drop (i + 1) bits)) ∙ ap (λ rest. made ++ add_carry grows carried rest) (sym (drop_at bits i d b lt e)) ∙ h

pub count_step : (bits signals goal : List Signal) (x d : Signal) (number i : ℕ) → i < length signals → x ≡ get_or signals i d
    → count_from number bits (drop i signals) ≡ goal → count_from (number + 1) (add_carry (number == 2 ^ length bits) (Not x) bits) (drop (i + 1) signals) ≡ goal
count_step bits signals goal x d number i lt e h = ap (count_from number bits) (sym (drop_at signals i d x lt e)) ∙ h

pub words_step : (made goal : List Signal) (first offset count : ℕ) → offset < count
    → made ++ words_from (first + offset) (count - offset) ≡ goal → (made ++ Word (first + offset) ∷ []) ++ words_from (first + (offset + 1)) (count - (offset + 1)) ≡ goal
words_step made goal first offset count lt h =
    let n : count - offset ≡ suc (count - (offset + 1)) = omega arith in
    let place : first + (offset + 1) ≡ first + offset + 1 = omega arith in
    append_assoc made (Word (first + offset) ∷ []) (words_from (first + (offset + 1)) (count - (offset + 1)))
    ∙ ap (λ p. made ++ Word (first + offset) ∷ words_from p (count - (offset + 1))) place
    ∙ ap (λ k. made ++ words_from (first + offset) k) (sym n)
    ∙ h

pub word_pairs_step : (made goal : List Pair) (k count : ℕ) → k < count
    → made ++ word_pairs (2 * k) (count - k) ≡ goal → (made ++ record { first = Word (2 * k); second = Word (2 * k + 1) } ∷ []) ++ word_pairs (2 * (k + 1)) (count - (k + 1)) ≡ goal
word_pairs_step made goal k count lt h =
    let n : count - k ≡ suc (count - (k + 1)) = omega arith in
    let place : 2 * (k + 1) ≡ 2 * k + 2 = omega arith in
    append_assoc made (record { first = Word (2 * k); second = Word (2 * k + 1) } ∷ []) (word_pairs (2 * (k + 1)) (count - (k + 1)))
    ∙ ap (λ p. made ++ record { first = Word (2 * k); second = Word (2 * k + 1) } ∷ word_pairs p (count - (k + 1))) place
    ∙ ap (λ j. made ++ word_pairs (2 * k) j) (sym n)
    ∙ h

pub group_step : (made goal : List Signal) (group : List ℕ) (i x d : ℕ) → i < length group → x ≡ get_or group i d
    → made ++ map Word (drop i group) ≡ goal → (made ++ Word x ∷ []) ++ map Word (drop (i + 1) group) ≡ goal
group_step made goal group i x d lt e h =
    append_assoc made (Word x ∷ []) (map Word (drop (i + 1) group)) ∙ ap (λ rest. made ++ map Word rest) (sym (drop_at group i d x lt e)) ∙ h

pub count_pairs_step : (made goal : List Pair) (bits : List Signal) (check i : ℕ) (b d : Signal) → i < length bits → b ≡ get_or bits i d
    → made ++ count_pairs check (drop i bits) ≡ goal → (made ++ record { first = Not b; second = Word check } ∷ []) ++ count_pairs (check + 1) (drop (i + 1) bits) ≡ goal
count_pairs_step made goal bits check i b d lt e h =
    append_assoc made (record { first = Not b; second = Word check } ∷ []) (count_pairs (check + 1) (drop (i + 1) bits))
    ∙ ap (λ rest. made ++ count_pairs check rest) (sym (drop_at bits i d b lt e)) ∙ h

pub group_pairs_step : (made goal : List Pair) (group : List ℕ) (before after : List (List ℕ)) (check : ℕ) → before ≡ group ∷ after
    → made ++ group_pairs check before ≡ goal → (made ++ record { first = chain Xor (map Word group); second = Word check } ∷ []) ++ group_pairs (check + 1) after ≡ goal
group_pairs_step made goal group before after check e h =
    append_assoc made (record { first = chain Xor (map Word group); second = Word check } ∷ []) (group_pairs (check + 1) after)
    ∙ ap (λ (groups : List (List ℕ)). made ++ group_pairs check groups) (sym e) ∙ h
