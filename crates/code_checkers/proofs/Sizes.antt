-- How many gates a checker has: each of its signals stands in a list that is no longer.
use Rattle.std.specs.Prelude.{◌≡◌, ℕ, zero, suc, ◌+◌, ◌-◌, ◌*◌, ◌/◌, ◌<◌, ◌≤◌, ◌==◌, ◌^◌, Bool, true, false, not, if◌then◌else◌, List, [], ◌∷◌, ◌++◌, map, reverse, length, slice_index_or, get_or, All, Contains, refl}
use Rattle.std.specs.List.{sum_by, list_any, prefix_len, position_or_len}
use Rattle.std.proofs.Common.{sym, ◌∙◌, ap, subst, arith, inl, inr}
use Rattle.std.proofs.Math.Nat.{mul-le-mul}
use Rattle.std.proofs.lemmas.Bool.{cases_lt, cases_Bool, true≢false}
use Rattle.std.proofs.lemmas.List.{append_assoc, length-append, length-map, length-reverse, get_or_past}
use Rattle.std.proofs.lemmas.List.Sums.{sum_by-cons, prefix_len_passes, prefix_len_stops}
use Rattle.std.proofs.lemmas.List.Elements.{All-nil, All-cons, All-head, All-tail, All-append, Contains-append_left, Contains-append_right}
use Rattle.std.proofs.lemmas.List.Sorted.{All-permutation, IsPermutation-reverse}
use Rattle.tsc_bits.proofs.Pigeonhole.{pigeonhole}
use Rattle.fault_secure.specs.declared.code.Code.{Code}
use Rattle.fault_secure.specs.declared.code.Code.TheVariants.{Parity, Berger, MOutOfN}
use Rattle.fault_secure.specs.CodePlan.{CodePlan}
use Rattle.code_checkers.specs.Signal.{Signal, Pair, words_from, chain_from, chain}
use Rattle.code_checkers.specs.Signal.Signal.{Word, Buf, Not, And, Or, Xor}
use Rattle.code_checkers.specs.Threshold.{row_from, thresholds_from, thresholds, threshold, both_reach, terms_from, every_second, is_odd, terms, threshold_pair}
use Rattle.code_checkers.specs.Counter.{add_carry, count_from, count_zeros}
use Rattle.code_checkers.specs.TwoRail.{cell, level, levels, head_pair}
use Rattle.code_checkers.specs.Checker.{group_pairs, count_pairs, code_pairs, state_pairs, pairs_of, last_pair, rail1, rail2}
use Rattle.code_checkers.specs.Gates.{signal_at, signals_of}
use Rattle.code_checkers.specs.GateList.{GateList, IsCheckerOf}
use Rattle.code_checkers.specs.Walk.{same_signal, with_signal, walk}
use Rattle.code_checkers.specs.Size.{stretch_gates, code_gates, code_pairs_most, checker_size}
use Rattle.code_checkers.proofs.Gates.{length-signals_of}
use Rattle.code_checkers.proofs.Sharing.{same_signal-refl, same_signal-true}
use Rattle.code_checkers.proofs.Thresholds.{length-terms_from}
use Rattle.code_checkers.proofs.Words.{length-words_from}

-- each part of the signal stands in the list, itself among them
abbrev pub Parts : List Signal → Signal → Type 0
Parts L (Word p) = Contains L (Word p)
Parts L (Buf a) = Contains L (Buf a) × Parts L a
Parts L (Not a) = Contains L (Not a) × Parts L a
Parts L (And a b) = Contains L (And a b) × Parts L a × Parts L b
Parts L (Or a b) = Contains L (Or a b) × Parts L a × Parts L b
Parts L (Xor a b) = Contains L (Xor a b) × Parts L a × Parts L b

there : (L M : List Signal) (s : Signal) → Contains L s → Contains (L ++ M) s
there L M s h = Contains-append_left L M s h

pub longer : (L M : List Signal) (s : Signal) → Parts L s → Parts (L ++ M) s
longer L M (Word p) h = there L M (Word p) h
longer L M (Buf a) h = (there L M (Buf a) h.0, longer L M a h.1)
longer L M (Not a) h = (there L M (Not a) h.0, longer L M a h.1)
longer L M (And a b) h = (there L M (And a b) h.0, longer L M a h.1, longer L M b h.2)
longer L M (Or a b) h = (there L M (Or a b) h.0, longer L M a h.1, longer L M b h.2)
longer L M (Xor a b) h = (there L M (Xor a b) h.0, longer L M a h.1, longer L M b h.2)

pub all-longer : (L M xs : List Signal) → All (Parts L) xs → All (Parts (L ++ M)) xs
all-longer L M xs h = λ k d lt. longer L M (get_or xs k d) (h k d lt)

first-new : (L M : List Signal) (s : Signal) → Contains (L ++ s ∷ M) s
first-new L M s = Contains-append_right L (s ∷ M) s (0, omega arith, refl)

second-new : (L M : List Signal) (r s : Signal) → Contains (L ++ r ∷ (s ∷ M)) s
second-new L M r s = Contains-append_right L (r ∷ (s ∷ M)) s (1, omega arith, refl)

-- the list with at most n signals more holds each part of these
pub record Holds (L : List Signal) (n : ℕ) (signals : List Signal) : Type 0 where
  pub more : List Signal
  pub few : length more ≤ n
  pub all : All (Parts (L ++ more)) signals

none-more : (L signals : List Signal) → All (Parts L) signals → Holds L 0 signals
none-more L signals h = record { more = []; few = omega arith; all = all-longer L [] signals h }

at-most : (L signals : List Signal) (m n : ℕ) → m ≤ n → Holds L m signals → Holds L n signals
at-most L signals m n le h = record { more = h.more; few = (let few = h.few in omega arith); all = h.all }

-- what is held when more was added twice
after : (L xs ys : List Signal) (m n : ℕ) (h : Holds L m xs) → Holds (L ++ h.more) n ys → Holds L (m + n) ys
after L xs ys m n h k = record {
  more = h.more ++ k.more;
  few = (let a = h.few in let b = k.few in omega (arith, length-append h.more k.more));
  all = subst (λ (M : List Signal). All (Parts M) ys) (append_assoc L h.more k.more) k.all;
}

both : (L xs ys : List Signal) (m n : ℕ) (h : Holds L m xs) → Holds (L ++ h.more) n ys → Holds L (m + n) (xs ++ ys)
both L xs ys m n h k = after L xs (xs ++ ys) m n h (record { more = k.more; few = k.few; all = All-append (Parts ((L ++ h.more) ++ k.more)) xs ys (all-longer (L ++ h.more) k.more xs h.all) k.all })

-- one signal more
one-more : (L ys : List Signal) (s : Signal) (n : ℕ) → Holds (L ++ s ∷ []) n ys → Holds L (suc n) ys
one-more L ys s n k = record {
  more = s ∷ k.more;
  few = (let few = k.few in omega arith);
  all = subst (λ (M : List Signal). All (Parts M) ys) (append_assoc L (s ∷ []) k.more) k.all;
}

two-more : (L ys : List Signal) (r s : Signal) (n : ℕ) → Holds (L ++ r ∷ (s ∷ [])) n ys → Holds L (2 + n) ys
two-more L ys r s n k = record {
  more = r ∷ (s ∷ k.more);
  few = (let few = k.few in omega arith);
  all = subst (λ (M : List Signal). All (Parts M) ys) (append_assoc L (r ∷ (s ∷ [])) k.more) k.all;
}

-- a gate that has its operands
abbrev IsGate : (Signal → Signal → Signal) → Type 0
IsGate gate = (L : List Signal) (a b : Signal) → Contains L (gate a b) → Parts L a → Parts L b → Parts L (gate a b)

or-gate : IsGate Or
or-gate L a b here x y = (here, x, y)

xor-gate : IsGate Xor
xor-gate L a b here x y = (here, x, y)

chain_from-holds : (gate : Signal → Signal → Signal) → IsGate gate → (L : List Signal) (made : Signal) (xs : List Signal) → Parts L made → All (Parts L) xs
    → Holds L (length xs) (chain_from gate made xs ∷ [])
chain_from-holds gate is L made [] h all = none-more L (made ∷ []) (All-cons (Parts L) made [] h (All-nil (Parts L)))
chain_from-holds gate is L made (x ∷ xs) h all =
    let new : List Signal = L ++ gate made x ∷ [] in
    one-more L (chain_from gate (gate made x) xs ∷ []) (gate made x) (length xs)
    (chain_from-holds gate is new (gate made x) xs
    (is new made x (first-new L [] (gate made x)) (longer L (gate made x ∷ []) made h) (longer L (gate made x ∷ []) x (All-head (Parts L) x xs all)))
    (all-longer L (gate made x ∷ []) xs (All-tail (Parts L) x xs all)))

chain-holds : (gate : Signal → Signal → Signal) → IsGate gate → (L : List Signal) → Parts L (Word 0) → (xs : List Signal) → All (Parts L) xs
    → Holds L (length xs) (chain gate xs ∷ [])
chain-holds gate is L start [] all = none-more L (Word 0 ∷ []) (All-cons (Parts L) (Word 0) [] start (All-nil (Parts L)))
chain-holds gate is L start (x ∷ xs) all =
    at-most L (chain_from gate x xs ∷ []) (length xs) (suc (length xs)) (omega arith) (chain_from-holds gate is L x xs (All-head (Parts L) x xs all) (All-tail (Parts L) x xs all))

words-hold : (L : List Signal) (p n : ℕ) → Holds L n (words_from p n)
words-hold L p zero = none-more L [] (All-nil (Parts L))
words-hold L p (suc n) =
    let h = words-hold (L ++ Word p ∷ []) (p + 1) n in
    let first : Parts ((L ++ Word p ∷ []) ++ h.more) (Word p) = there (L ++ Word p ∷ []) h.more (Word p) (first-new L [] (Word p)) in
    one-more L (words_from p (suc n)) (Word p) n
    (record { more = h.more; few = h.few; all = All-cons (Parts ((L ++ Word p ∷ []) ++ h.more)) (Word p) (words_from (p + 1) n) first h.all })

places-hold : (L : List Signal) (places : List ℕ) → Holds L (length places) (map Word places)
places-hold L [] = none-more L [] (All-nil (Parts L))
places-hold L (p ∷ places) =
    let h = places-hold (L ++ Word p ∷ []) places in
    let first : Parts ((L ++ Word p ∷ []) ++ h.more) (Word p) = there (L ++ Word p ∷ []) h.more (Word p) (first-new L [] (Word p)) in
    one-more L (map Word (p ∷ places)) (Word p) (length places)
    (record { more = h.more; few = h.few; all = All-cons (Parts ((L ++ Word p ∷ []) ++ h.more)) (Word p) (map Word places) first h.all })

-- thresholds
row-holds : (L : List Signal) (carried x : Signal) (row : List Signal) → Parts L carried → Parts L x → All (Parts L) row → Holds L (2 * length row) (row_from carried x row)
row-holds L carried x [] c h all = none-more L (carried ∷ []) (All-cons (Parts L) carried [] c (All-nil (Parts L)))
row-holds L carried x (t ∷ row) c h all =
    let new : List Signal = L ++ Or t carried ∷ (And t x ∷ []) in
    let M : List Signal = Or t carried ∷ (And t x ∷ []) in
    let at : Parts L t = All-head (Parts L) t row all in
    let first : Parts new (Or t carried) = (first-new L (And t x ∷ []) (Or t carried), longer L M t at, longer L M carried c) in
    let second : Parts new (And t x) = (second-new L [] (Or t carried) (And t x), longer L M t at, longer L M x h) in
    let k = row-holds new (And t x) x row second (longer L M x h) (all-longer L M row (All-tail (Parts L) t row all)) in
    at-most L (row_from carried x (t ∷ row)) (2 + 2 * length row) (2 * length (t ∷ row)) (omega arith)
    (two-more L (row_from carried x (t ∷ row)) (Or t carried) (And t x) (2 * length row)
    (record { more = k.more; few = k.few; all = All-cons (Parts (new ++ k.more)) (Or t carried) (row_from (And t x) x row) (longer new k.more (Or t carried) first) k.all }))

length-row : (carried x : Signal) (row : List Signal) → length (row_from carried x row) ≡ suc (length row)
length-row carried x [] = refl
length-row carried x (t ∷ row) = ap suc (length-row (And t x) x row)

-- twice r for each of n, where r rises
abbrev rows_gates : ℕ → ℕ → ℕ
rows_gates r zero = 0
rows_gates r (suc n) = 2 * r + rows_gates (suc r) n

thresholds-hold : (L row xs : List Signal) (r : ℕ) → length row ≡ r → All (Parts L) row → All (Parts L) xs → Holds L (rows_gates r (length xs)) (thresholds_from row xs)
thresholds-hold L row [] r e held all = none-more L row held
thresholds-hold L row (x ∷ xs) r e held all =
    let h = at-most L (row_from x x row) (2 * length row) (2 * r) (omega arith) (row-holds L x x row (All-head (Parts L) x xs all) (All-head (Parts L) x xs all) held) in
    after L (row_from x x row) (thresholds_from (row_from x x row) xs) (2 * r) (rows_gates (suc r) (length xs)) h
    (thresholds-hold (L ++ h.more) (row_from x x row) xs (suc r) (length-row x x row ∙ ap suc e) h.all (all-longer L h.more xs (All-tail (Parts L) x xs all)))

square : (r n : ℕ) → rows_gates r n ≤ 2 * (r * n) + n * n
square r zero = omega arith
square r (suc n) =
    let rest = square (suc r) n in omega (arith, rest)

at_or : (L row : List Signal) (k : ℕ) → Parts L (Word 0) → All (Parts L) row → Parts L (slice_index_or row k (Word 0))
at_or L row k start all = elim (cases_lt k (length row)) [
  | inl lt ↦ all k (Word 0) lt
  | inr le ↦ subst (Parts L) (sym (get_or_past row k (Word 0) le)) start
]

reach-holds : (L firsts seconds : List Signal) (i j : ℕ) → Parts L (Word 0) → All (Parts L) firsts → All (Parts L) seconds → Holds L 1 (both_reach firsts seconds i j ∷ [])
reach-holds L firsts seconds zero j start a b =
    at-most L (threshold seconds j ∷ []) 0 1 (omega arith) (none-more L (threshold seconds j ∷ []) (All-cons (Parts L) (threshold seconds j) [] (at_or L seconds (j - 1) start b) (All-nil (Parts L))))
reach-holds L firsts seconds (suc i) zero start a b =
    at-most L (threshold firsts (suc i) ∷ []) 0 1 (omega arith) (none-more L (threshold firsts (suc i) ∷ []) (All-cons (Parts L) (threshold firsts (suc i)) [] (at_or L firsts (suc i - 1) start a) (All-nil (Parts L))))
reach-holds L firsts seconds (suc i) (suc j) start a b =
    let x : Signal = threshold firsts (suc i) in
    let y : Signal = threshold seconds (suc j) in
    let new : List Signal = L ++ And x y ∷ [] in
    let made : Parts new (And x y) = (first-new L [] (And x y), longer L (And x y ∷ []) x (at_or L firsts (suc i - 1) start a), longer L (And x y ∷ []) y (at_or L seconds (suc j - 1) start b)) in
    one-more L (And x y ∷ []) (And x y) 0 (none-more new (And x y ∷ []) (All-cons (Parts new) (And x y) [] made (All-nil (Parts new))))

terms-hold : (L firsts seconds : List Signal) (m t count : ℕ) → Parts L (Word 0) → All (Parts L) firsts → All (Parts L) seconds → Holds L count (terms_from firsts seconds m t count)
terms-hold L firsts seconds m t zero start a b = none-more L [] (All-nil (Parts L))
terms-hold L firsts seconds m t (suc count) start a b =
    let term : Signal = both_reach firsts seconds (m + t - length seconds) (length seconds - t) in
    let h = reach-holds L firsts seconds (m + t - length seconds) (length seconds - t) start a b in
    at-most L (terms_from firsts seconds m t (suc count)) (1 + count) (suc count) (omega arith)
    (both L (term ∷ []) (terms_from firsts seconds m (t + 1) count) 1 count h
    (terms-hold (L ++ h.more) firsts seconds m (t + 1) count (longer L h.more (Word 0) start) (all-longer L h.more firsts a) (all-longer L h.more seconds b)))

every-all : (P : Signal → Type 0) (chosen : Bool) (xs : List Signal) → All P xs → All P (every_second chosen xs)
every-all P chosen [] all = All-nil P
every-all P true (x ∷ xs) all = All-cons P x (every_second false xs) (All-head P x xs all) (every-all P false xs (All-tail P x xs all))
every-all P false (x ∷ xs) all = every-all P true xs (All-tail P x xs all)

length-every : (chosen : Bool) (xs : List Signal) → length (every_second chosen xs) ≤ length xs
length-every chosen [] = omega arith
length-every true (x ∷ xs) = let rest = length-every false xs in omega (arith, rest)
length-every false (x ∷ xs) = let rest = length-every true xs in omega (arith, rest)

-- the two signals of pairs
abbrev pub sides : List Pair → List Signal
sides [] = []
sides (p ∷ pairs) = p.first ∷ (p.second ∷ sides pairs)

half-holds : (L terms : List Signal) (chosen : Bool) → Parts L (Word 0) → All (Parts L) terms → Holds L (length terms) (chain Or (every_second chosen terms) ∷ [])
half-holds L terms chosen start all =
    at-most L (chain Or (every_second chosen terms) ∷ []) (length (every_second chosen terms)) (length terms) (length-every chosen terms)
    (chain-holds Or or-gate L start (every_second chosen terms) (every-all (Parts L) chosen terms all))

thresholds-of-hold : (L xs : List Signal) → All (Parts L) xs → Holds L (length xs * length xs) (thresholds xs)
thresholds-of-hold L xs all =
    at-most L (thresholds xs) (rows_gates 0 (length xs)) (length xs * length xs) (let most = square 0 (length xs) in omega (arith, most))
    (thresholds-hold L [] xs 0 refl (All-nil (Parts L)) all)

threshold_pair-holds : (L A B : List Signal) (m a b : ℕ) → length A ≡ a → length B ≡ b → Parts L (Word 0) → All (Parts L) A → All (Parts L) B
    → Holds L (a * a + b * b + 3 * (a + b + 1)) (sides (threshold_pair A B m ∷ []))
threshold_pair-holds L A B m a b at_a at_b start all_a all_b =
    let f = thresholds-of-hold L A all_a in
    let L1 : List Signal = L ++ f.more in
    let g = thresholds-of-hold L1 B (all-longer L f.more B all_b) in
    let L2 : List Signal = L1 ++ g.more in
    let start2 : Parts L2 (Word 0) = longer L1 g.more (Word 0) (longer L f.more (Word 0) start) in
    let count : ℕ = length A + length B + 1 - m in
    let ts : List Signal = terms A B m in
    let h = terms-hold L2 (thresholds A) (thresholds B) m 0 count start2 (all-longer L1 g.more (thresholds A) f.all) g.all in
    let L3 : List Signal = L2 ++ h.more in
    let one : Bool = is_odd (m + length B) in
    let j = half-holds L3 ts one (longer L2 h.more (Word 0) start2) h.all in
    let L4 : List Signal = L3 ++ j.more in
    let k = half-holds L4 ts (not one) (longer L3 j.more (Word 0) (longer L2 h.more (Word 0) start2)) (all-longer L3 j.more ts h.all) in
    let size : length ts ≡ count = length-terms_from (thresholds A) (thresholds B) m 0 count in
    let two = both L3 (chain Or (every_second one ts) ∷ []) (chain Or (every_second (not one) ts) ∷ []) (length ts) (length ts) j k in
    let out : List Signal = sides (threshold_pair A B m ∷ []) in
    let three = after L2 ts out count (length ts + length ts) h two in
    let four = after L1 (thresholds B) out (length B * length B) (count + (length ts + length ts)) g three in
    let five = after L (thresholds A) out (length A * length A) (length B * length B + (count + (length ts + length ts))) f four in
    let square_a : length A * length A ≡ a * a = ap (λ n. n * n) at_a in
    let square_b : length B * length B ≡ b * b = ap (λ n. n * n) at_b in
    at-most L out (length A * length A + (length B * length B + (count + (length ts + length ts)))) (a * a + b * b + 3 * (a + b + 1))
    (omega (arith, square_a, square_b, size, at_a, at_b)) five

-- the counter
carry-holds : (L : List Signal) (grows : Bool) (carry : Signal) (bits : List Signal) → Parts L carry → All (Parts L) bits → Holds L (2 * length bits) (add_carry grows carry bits)
carry-holds L true carry [] c all = none-more L (carry ∷ []) (All-cons (Parts L) carry [] c (All-nil (Parts L)))
carry-holds L false carry [] c all = none-more L [] (All-nil (Parts L))
carry-holds L grows carry (b ∷ bits) c all =
    let M : List Signal = Xor b carry ∷ (And b carry ∷ []) in
    let new : List Signal = L ++ M in
    let at : Parts L b = All-head (Parts L) b bits all in
    let first : Parts new (Xor b carry) = (first-new L (And b carry ∷ []) (Xor b carry), longer L M b at, longer L M carry c) in
    let second : Parts new (And b carry) = (second-new L [] (Xor b carry) (And b carry), longer L M b at, longer L M carry c) in
    let k = carry-holds new grows (And b carry) bits second (all-longer L M bits (All-tail (Parts L) b bits all)) in
    at-most L (add_carry grows carry (b ∷ bits)) (2 + 2 * length bits) (2 * length (b ∷ bits)) (omega arith)
    (two-more L (add_carry grows carry (b ∷ bits)) (Xor b carry) (And b carry) (2 * length bits)
    (record { more = k.more; few = k.few; all = All-cons (Parts (new ++ k.more)) (Xor b carry) (add_carry grows (And b carry) bits) (longer new k.more (Xor b carry) first) k.all }))

length-carry : (grows : Bool) (carry : Signal) (bits : List Signal) → length (add_carry grows carry bits) ≤ suc (length bits)
length-carry true carry [] = omega arith
length-carry false carry [] = omega arith
length-carry grows carry (b ∷ bits) = let rest = length-carry grows (And b carry) bits in omega (arith, rest)

-- a Not and two gates for each bit, for each of n signals, where each may add a bit
abbrev counter_gates : ℕ → ℕ → ℕ
counter_gates b zero = 0
counter_gates b (suc n) = suc (2 * b) + counter_gates (suc b) n

count-holds : (L : List Signal) (i b : ℕ) (bits xs : List Signal) → length bits ≤ b → All (Parts L) bits → All (Parts L) xs → Holds L (counter_gates b (length xs)) (count_from i bits xs)
count-holds L i b bits [] few held all = none-more L bits held
count-holds L i b bits (x ∷ xs) few held all =
    let new : List Signal = L ++ Not x ∷ [] in
    let made : Parts new (Not x) = (first-new L [] (Not x), longer L (Not x ∷ []) x (All-head (Parts L) x xs all)) in
    let grows : Bool = i == 2 ^ length bits in
    let next : List Signal = add_carry grows (Not x) bits in
    let h = at-most new next (2 * length bits) (2 * b) (omega arith) (carry-holds new grows (Not x) bits made (all-longer L (Not x ∷ []) bits held)) in
    let sized = length-carry grows (Not x) bits in
    let k = count-holds (new ++ h.more) (i + 1) (suc b) next xs (omega (arith, sized, few)) h.all (all-longer new h.more xs (all-longer L (Not x ∷ []) xs (All-tail (Parts L) x xs all))) in
    at-most L (count_from (i + 1) next xs) (suc (2 * b + counter_gates (suc b) (length xs))) (counter_gates b (length (x ∷ xs))) (omega arith)
    (one-more L (count_from (i + 1) next xs) (Not x) (2 * b + counter_gates (suc b) (length xs)) (after new next (count_from (i + 1) next xs) (2 * b) (counter_gates (suc b) (length xs)) h k))

length-count : (i : ℕ) (bits xs : List Signal) → length (count_from i bits xs) ≤ length bits + length xs
length-count i bits [] = omega arith
length-count i bits (x ∷ xs) =
    let next : List Signal = add_carry (i == 2 ^ length bits) (Not x) bits in
    let rest = length-count (i + 1) next xs in
    let sized = length-carry (i == 2 ^ length bits) (Not x) bits in
    omega (arith, rest, sized)

counter-square : (b n : ℕ) → counter_gates b n ≤ 2 * (b * n) + n * n
counter-square b zero = omega arith
counter-square b (suc n) = let rest = counter-square (suc b) n in omega (arith, rest)

-- pairs
count_pairs-hold : (L : List Signal) (check : ℕ) (bits : List Signal) → All (Parts L) bits → Holds L (2 * length bits) (sides (count_pairs check bits))
count_pairs-hold L check [] all = none-more L [] (All-nil (Parts L))
count_pairs-hold L check (b ∷ bits) all =
    let M : List Signal = Not b ∷ (Word check ∷ []) in
    let new : List Signal = L ++ M in
    let first : Parts new (Not b) = (first-new L (Word check ∷ []) (Not b), longer L M b (All-head (Parts L) b bits all)) in
    let second : Parts new (Word check) = second-new L [] (Not b) (Word check) in
    let k = count_pairs-hold new (check + 1) bits (all-longer L M bits (All-tail (Parts L) b bits all)) in
    let rest : List Signal = sides (count_pairs (check + 1) bits) in
    at-most L (sides (count_pairs check (b ∷ bits))) (2 + 2 * length bits) (2 * length (b ∷ bits)) (omega arith)
    (two-more L (sides (count_pairs check (b ∷ bits))) (Not b) (Word check) (2 * length bits)
    (record { more = k.more; few = k.few; all = All-cons (Parts (new ++ k.more)) (Not b) (Word check ∷ rest) (longer new k.more (Not b) first) (All-cons (Parts (new ++ k.more)) (Word check) rest (longer new k.more (Word check) second) k.all) }))

group-holds : (L : List Signal) (check : ℕ) (group : List ℕ) → Parts L (Word 0) → Holds L (2 * length group + 1) (chain Xor (map Word group) ∷ (Word check ∷ []))
group-holds L check group start =
    let f = places-hold L group in
    let L1 : List Signal = L ++ f.more in
    let h = chain-holds Xor xor-gate L1 (longer L f.more (Word 0) start) (map Word group) f.all in
    let k = words-hold (L1 ++ h.more) check 1 in
    let out : List Signal = chain Xor (map Word group) ∷ (Word check ∷ []) in
    let two = both L1 (chain Xor (map Word group) ∷ []) (Word check ∷ []) (length (map Word group)) 1 h k in
    at-most L out (length group + (length (map Word group) + 1)) (2 * length group + 1) (omega (arith, length-map group Word))
    (after L (map Word group) out (length group) (length (map Word group) + 1) f two)

group_pairs-hold : (L : List Signal) (check : ℕ) (groups : List (List ℕ)) → Parts L (Word 0) → Holds L (sum_by (λ group. 2 * length group + 1) groups) (sides (group_pairs check groups))
group_pairs-hold L check [] start = none-more L [] (All-nil (Parts L))
group_pairs-hold L check (group ∷ groups) start =
    let h = group-holds L check group start in
    let first : List Signal = chain Xor (map Word group) ∷ (Word check ∷ []) in
    let rest : List Signal = sides (group_pairs (check + 1) groups) in
    at-most L (sides (group_pairs check (group ∷ groups))) ((2 * length group + 1) + sum_by (λ group. 2 * length group + 1) groups) (sum_by (λ group. 2 * length group + 1) (group ∷ groups))
    (omega (arith, sum_by-cons (λ (group : List ℕ). 2 * length group + 1) group groups))
    (both L first rest (2 * length group + 1) (sum_by (λ group. 2 * length group + 1) groups) h (group_pairs-hold (L ++ h.more) (check + 1) groups (longer L h.more (Word 0) start)))

stretch-holds : (L : List Signal) (p a b m : ℕ) → Parts L (Word 0) → Holds L (stretch_gates a b) (sides (threshold_pair (words_from p a) (words_from (p + a) b) m ∷ []))
stretch-holds L p a b m start =
    let f = words-hold L p a in
    let L1 : List Signal = L ++ f.more in
    let g = words-hold L1 (p + a) b in
    let L2 : List Signal = L1 ++ g.more in
    let A : List Signal = words_from p a in
    let B : List Signal = words_from (p + a) b in
    let out : List Signal = sides (threshold_pair A B m ∷ []) in
    let h = threshold_pair-holds L2 A B m a b (length-words_from p a) (length-words_from (p + a) b) (longer L1 g.more (Word 0) (longer L f.more (Word 0) start)) (all-longer L1 g.more A f.all) g.all in
    at-most L out (a + (b + (a * a + b * b + 3 * (a + b + 1)))) (stretch_gates a b) (omega arith)
    (after L A out a (b + (a * a + b * b + 3 * (a + b + 1))) f (after L1 B out b (a * a + b * b + 3 * (a + b + 1)) g h))

berger-holds : (L : List Signal) (outputs : ℕ) → Holds L (outputs + (outputs * outputs + 2 * outputs)) (sides (count_pairs outputs (reverse (count_zeros (words_from 0 outputs)))))
berger-holds L outputs =
    let xs : List Signal = words_from 0 outputs in
    let f = words-hold L 0 outputs in
    let L1 : List Signal = L ++ f.more in
    let bits : List Signal = count_zeros xs in
    let size : length xs ≡ outputs = length-words_from 0 outputs in
    let most : counter_gates 0 (length xs) ≤ length xs * length xs = (let h = counter-square 0 (length xs) in omega (arith, h)) in
    let square_is : length xs * length xs ≡ outputs * outputs = ap (λ n. n * n) size in
    let g = at-most L1 bits (counter_gates 0 (length xs)) (outputs * outputs) (omega (arith, most, square_is)) (count-holds L1 1 0 [] xs (omega arith) (All-nil (Parts L1)) f.all) in
    let L2 : List Signal = L1 ++ g.more in
    let few : length bits ≤ outputs = (let h = length-count 1 [] xs in omega (arith, h, size)) in
    let turned : List Signal = reverse bits in
    let out : List Signal = sides (count_pairs outputs turned) in
    let h = at-most L2 out (2 * length turned) (2 * outputs) (omega (arith, length-reverse bits, few))
    (count_pairs-hold L2 outputs turned (All-permutation (Parts L2) bits turned (IsPermutation-reverse bits) g.all)) in
    after L xs out outputs (outputs * outputs + 2 * outputs) f (after L1 bits out (outputs * outputs) (2 * outputs) g h)

code_pairs-hold : (code : Code) (L : List Signal) (P : CodePlan) → Parts L (Word 0) → Holds L (code_gates code P) (sides (code_pairs code P))
code_pairs-hold Parity L P start = group_pairs-hold L P.outputs P.groups start
code_pairs-hold Berger L P start = berger-holds L P.outputs
code_pairs-hold MOutOfN L P start =
    let from : 0 + P.outputs ≡ P.outputs = omega arith in
    subst (λ (place : ℕ). Holds L (stretch_gates P.outputs (length P.checks)) (sides (threshold_pair (words_from 0 P.outputs) (words_from place (length P.checks)) P.outputs ∷ []))) from
    (stretch-holds L 0 P.outputs (length P.checks) P.outputs start)

state_pairs-hold : (L : List Signal) (place latches weight : ℕ) → Parts L (Word 0) → Holds L (stretch_gates latches latches) (sides (state_pairs place latches weight))
state_pairs-hold L place zero weight start = at-most L [] 0 (stretch_gates 0 0) (omega arith) (none-more L [] (All-nil (Parts L)))
state_pairs-hold L place (suc n) weight start =
    let half : ℕ = suc n / 2 in
    let rest : ℕ = suc n - suc n / 2 in
    let low : half ≤ suc n = half-low n in
    let below : rest ≤ suc n = omega arith in
    at-most L (sides (state_pairs place (suc n) weight)) (stretch_gates half rest) (stretch_gates (suc n) (suc n))
    (stretch-more half rest (suc n) low below) (stretch-holds L place half rest weight start)
  where
    half-low : (n : ℕ) → suc n / 2 ≤ suc n
    half-low n = omega arith

    stretch-more : (a b n : ℕ) → a ≤ n → b ≤ n → stretch_gates a b ≤ stretch_gates n n
    stretch-more a b n le le' =
        let aa : a * a ≤ n * n = mul-le-mul le le in
        let bb : b * b ≤ n * n = mul-le-mul le' le' in
        omega (arith, aa, bb)

sides-append : (xs ys : List Pair) → sides (xs ++ ys) ≡ sides xs ++ sides ys
sides-append [] ys = refl
sides-append (p ∷ xs) ys = ap (λ (rest : List Signal). p.first ∷ (p.second ∷ rest)) (sides-append xs ys)

pairs-hold : (L : List Signal) (P : CodePlan) → Parts L (Word 0) → Holds L (code_gates P.code P + stretch_gates P.latches P.latches) (sides (pairs_of P))
pairs-hold L P start =
    let place : ℕ = P.outputs + length P.checks in
    let h = code_pairs-hold P.code L P start in
    let k = state_pairs-hold (L ++ h.more) place P.latches P.weight (longer L h.more (Word 0) start) in
    subst (Holds L (code_gates P.code P + stretch_gates P.latches P.latches)) (sym (sides-append (code_pairs P.code P) (state_pairs place P.latches P.weight)))
    (both L (sides (code_pairs P.code P)) (sides (state_pairs place P.latches P.weight)) (code_gates P.code P) (stretch_gates P.latches P.latches) h k)

length-code_pairs : (code : Code) (P : CodePlan) → length (code_pairs code P) ≤ code_pairs_most code P
length-code_pairs Parity P = let h = groups P.outputs P.groups in omega (arith, h)
  where
    groups : (check : ℕ) (gs : List (List ℕ)) → length (group_pairs check gs) ≡ length gs
    groups check [] = refl
    groups check (g ∷ gs) = ap suc (groups (check + 1) gs)
length-code_pairs Berger P =
    let xs : List Signal = words_from 0 P.outputs in
    let h = counted P.outputs (reverse (count_zeros xs)) in
    let few = length-count 1 [] xs in
    omega (arith, h, length-reverse (count_zeros xs), few, length-words_from 0 P.outputs)
  where
    counted : (check : ℕ) (bits : List Signal) → length (count_pairs check bits) ≡ length bits
    counted check [] = refl
    counted check (b ∷ bits) = ap suc (counted (check + 1) bits)
length-code_pairs MOutOfN P = omega arith

length-pairs : (P : CodePlan) → length (pairs_of P) ≤ code_pairs_most P.code P + 1
length-pairs P =
    let place : ℕ = P.outputs + length P.checks in
    omega (arith, length-append (code_pairs P.code P) (state_pairs place P.latches P.weight), length-code_pairs P.code P, one place P.latches P.weight)
  where
    one : (place latches weight : ℕ) → length (state_pairs place latches weight) ≤ 1
    one place zero weight = omega arith
    one place (suc n) weight = omega arith

-- the list holds the sides of pairs, and with six gates for each pair no more than `most`
pub record HoldsPairs (L : List Signal) (most : ℕ) (pairs : List Pair) : Type 0 where
  pub more : List Signal
  pub few : length more + 6 * length pairs ≤ most
  pub all : All (Parts (L ++ more)) (sides pairs)

cell-parts : (L : List Signal) (a b : Pair) → Parts L a.first → Parts L a.second → Parts L b.first → Parts L b.second → Holds L 6 ((cell a b).first ∷ ((cell a b).second ∷ []))
cell-parts L a b p q r s =
    let x : Signal = And a.first b.first in
    let y : Signal = And a.second b.second in
    let x' : Signal = And a.first b.second in
    let y' : Signal = And a.second b.first in
    let M : List Signal = x ∷ (y ∷ (Or x y ∷ (x' ∷ (y' ∷ (Or x' y' ∷ []))))) in
    let at : (k : ℕ) (s : Signal) → k < 6 → slice_index_or M k s ≡ s → Contains (L ++ M) s = λ k s lt e. Contains-append_right L M s (k, lt, e) in
    let w : (s : Signal) → Parts L s → Parts (L ++ M) s = λ s h. longer L M s h in
    let first : Parts (L ++ M) (Or x y) = (at 2 (Or x y) (omega arith) refl, (at 0 x (omega arith) refl, w a.first p, w b.first r), (at 1 y (omega arith) refl, w a.second q, w b.second s)) in
    let second : Parts (L ++ M) (Or x' y') = (at 5 (Or x' y') (omega arith) refl, (at 3 x' (omega arith) refl, w a.first p, w b.second s), (at 4 y' (omega arith) refl, w a.second q, w b.first r)) in
    record { more = M; few = omega arith; all = All-cons (Parts (L ++ M)) (Or x y) (Or x' y' ∷ []) first (All-cons (Parts (L ++ M)) (Or x' y') [] second (All-nil (Parts (L ++ M)))) }

pub level-holds : (L : List Signal) (pairs : List Pair) → All (Parts L) (sides pairs) → HoldsPairs L (6 * length pairs) (level pairs)
level-holds L [] all = record { more = []; few = omega arith; all = all-longer L [] [] all }
level-holds L (a ∷ []) all = record { more = []; few = omega arith; all = all-longer L [] (sides (a ∷ [])) all }
level-holds L (a ∷ (b ∷ pairs)) all =
    let rest : List Signal = sides pairs in
    let at1 = All-tail (Parts L) a.first (a.second ∷ (b.first ∷ (b.second ∷ rest))) all in
    let at2 = All-tail (Parts L) a.second (b.first ∷ (b.second ∷ rest)) at1 in
    let at3 = All-tail (Parts L) b.first (b.second ∷ rest) at2 in
    let at4 = All-tail (Parts L) b.second rest at3 in
    let h = cell-parts L a b (All-head (Parts L) a.first (a.second ∷ (b.first ∷ (b.second ∷ rest))) all) (All-head (Parts L) a.second (b.first ∷ (b.second ∷ rest)) at1) (All-head (Parts L) b.first (b.second ∷ rest) at2) (All-head (Parts L) b.second rest at3) in
    let k = level-holds (L ++ h.more) pairs (all-longer L h.more rest at4) in
    let out : List Signal = sides (cell a b ∷ level pairs) in
    let cells : List Signal = (cell a b).first ∷ ((cell a b).second ∷ []) in
    let joined : All (Parts ((L ++ h.more) ++ k.more)) out = All-append (Parts ((L ++ h.more) ++ k.more)) cells (sides (level pairs)) (all-longer (L ++ h.more) k.more cells h.all) k.all in
    record {
      more = h.more ++ k.more;
      few = (let x = h.few in let y = k.few in omega (arith, length-append h.more k.more, x, y));
      all = subst (λ (M : List Signal). All (Parts M) out) (append_assoc L h.more k.more) joined;
    }

pub levels-hold : (count : ℕ) (L : List Signal) (most : ℕ) (pairs : List Pair) → HoldsPairs L most pairs → HoldsPairs L most (levels count pairs)
levels-hold zero L most pairs h = h
levels-hold (suc count) L most pairs h =
    let k = level-holds (L ++ h.more) pairs h.all in
    levels-hold count L most (level pairs) (record {
      more = h.more ++ k.more;
      few = (let x = h.few in let y = k.few in omega (arith, length-append h.more k.more, x, y));
      all = subst (λ (M : List Signal). All (Parts M) (sides (level pairs))) (append_assoc L h.more k.more) k.all;
    })

pub head-parts : (L : List Signal) (pairs : List Pair) → Parts L (Word 0) → All (Parts L) (sides pairs) → Parts L (head_pair pairs).first × Parts L (head_pair pairs).second
head-parts L [] start all = (start, start)
head-parts L (p ∷ pairs) start all = (All-head (Parts L) p.first (p.second ∷ sides pairs) all, All-head (Parts L) p.second (sides pairs) (All-tail (Parts L) p.first (p.second ∷ sides pairs) all))

-- a list no longer than the stated size has each part of both rails
record HasRails (P : CodePlan) : Type 0 where
  list : List Signal
  few : length list ≤ checker_size P
  first : Parts list (rail1 P)
  second : Parts list (rail2 P)

has_rails : (P : CodePlan) → HasRails P
has_rails P =
    let L : List Signal = Word 0 ∷ [] in
    let start : Parts L (Word 0) = (0, omega arith, refl) in
    let pairs : List Pair = pairs_of P in
    let size : ℕ = code_gates P.code P + stretch_gates P.latches P.latches in
    let h = pairs-hold L P start in
    let k = levels-hold (length pairs) (L ++ h.more) (6 * length pairs) pairs (record { more = []; few = omega arith; all = all-longer (L ++ h.more) [] (sides pairs) h.all }) in
    let M : List Signal = (L ++ h.more) ++ k.more in
    let last = head-parts M (levels (length pairs) pairs) (longer (L ++ h.more) k.more (Word 0) (longer L h.more (Word 0) start)) k.all in
    let N : List Signal = rail1 P ∷ (rail2 P ∷ []) in
    let one : length h.more ≤ size = h.few in
    let two = k.few in
    let three = length-pairs P in
    record {
      list = M ++ N;
      few = omega (arith, length-append M N, length-append (L ++ h.more) k.more, length-append L h.more, one, two, three);
      first = (first-new M (rail2 P ∷ []) (rail1 P), longer M N (last_pair P).first last.0);
      second = (second-new M [] (rail1 P) (rail2 P), longer M N (last_pair P).second last.1);
    }

-- what a walk writes stands in a list that has each part of the signal
with_signal-stays : (L signals : List Signal) (s : Signal) → All (Contains L) signals → Contains L s → All (Contains L) (with_signal signals s)
with_signal-stays L signals s all here = elim (cases_Bool (list_any (same_signal s) signals)) [
  | inl e ↦ subst (All (Contains L)) (sym (ap (λ (b : Bool). if b then signals else signals ++ s ∷ []) e)) all
  | inr e ↦ subst (All (Contains L)) (sym (ap (λ (b : Bool). if b then signals else signals ++ s ∷ []) e)) (All-append (Contains L) signals (s ∷ []) all (All-cons (Contains L) s [] here (All-nil (Contains L))))
]

pub walk-stays : (L : List Signal) (s : Signal) (signals : List Signal) → Parts L s → All (Contains L) signals → All (Contains L) (walk s signals)
walk-stays L (Word p) signals h all = with_signal-stays L signals (Word p) all h
walk-stays L (Buf a) signals h all = with_signal-stays L (walk a signals) (Buf a) (walk-stays L a signals h.1 all) h.0
walk-stays L (Not a) signals h all = with_signal-stays L (walk a signals) (Not a) (walk-stays L a signals h.1 all) h.0
walk-stays L (And a b) signals h all = with_signal-stays L (walk b (walk a signals)) (And a b) (walk-stays L b (walk a signals) h.2 (walk-stays L a signals h.1 all)) h.0
walk-stays L (Or a b) signals h all = with_signal-stays L (walk b (walk a signals)) (Or a b) (walk-stays L b (walk a signals) h.2 (walk-stays L a signals h.1 all)) h.0
walk-stays L (Xor a b) signals h all = with_signal-stays L (walk b (walk a signals)) (Xor a b) (walk-stays L b (walk a signals) h.2 (walk-stays L a signals h.1 all)) h.0

-- where a signal that is in a list stands first
position-found : (L : List Signal) (s : Signal) → Contains L s → (position_or_len (same_signal s) L < length L) × (same_signal s (signal_at L (position_or_len (same_signal s) L)) ≡ true)
position-found L s c = (within, not-false (same_signal s (signal_at L (position_or_len (same_signal s) L))) (prefix_len_stops other L (Word 0) within))
  where
    other : Signal → Bool
    other x = not (same_signal s x)

    not-false : (b : Bool) → not b ≡ false → b ≡ true
    not-false true e = refl
    not-false false e = absurd (true≢false e)

    passed : length L ≤ prefix_len other L → ⊥
    passed le = (let lt = c.1 in
        let passes : other (slice_index_or L c.0 s) ≡ true = prefix_len_passes other L c.0 s (omega (arith, lt, le)) in
        let here : other (slice_index_or L c.0 s) ≡ other s = ap other c.2 in
        let own : other s ≡ false = ap not (same_signal-refl s) in
        true≢false (sym passes ∙ here ∙ own))

    within : prefix_len other L < length L
    within = elim (cases_lt (prefix_len other L) (length L)) [
      | inl lt ↦ lt
      | inr le ↦ absurd (passed le)
    ]

-- different signals of a list are no more than it has
pub few-of : (L signals : List Signal) → All (Contains L) signals → ((i k : ℕ) → i < length signals → k < length signals → signal_at signals i ≡ signal_at signals k → i ≡ k) → length signals ≤ length L
few-of L signals all distinct = pigeonhole (length signals) (length L) place into once
  where
    place : ℕ → ℕ
    place i = position_or_len (same_signal (signal_at signals i)) L

    found : (i : ℕ) → i < length signals → (place i < length L) × (same_signal (signal_at signals i) (signal_at L (place i)) ≡ true)
    found i lt = (let c = all i (Word 0) lt in position-found L (signal_at signals i) c)

    into : (i : ℕ) → i < length signals → place i < length L
    into i lt = (found i lt).0

    once : (i k : ℕ) → i < length signals → k < length signals → place i ≡ place k → i ≡ k
    once i k lt lt' e =
        distinct i k lt lt'
        (same_signal-true (signal_at signals i) (signal_at L (place i)) (found i lt).1
        ∙ ap (signal_at L) e
        ∙ sym (same_signal-true (signal_at signals k) (signal_at L (place k)) (found k lt').1))

-- the gates of a plan's checker are no more than the stated size
pub checker-few : (P : CodePlan) (made : GateList) → IsCheckerOf P made → length made.gates ≤ checker_size P
checker-few P made is =
    let has = has_rails P in
    let L : List Signal = has.list in
    let walked : All (Contains L) (walk (rail2 P) (walk (rail1 P) [])) = walk-stays L (rail2 P) (walk (rail1 P) []) has.second (walk-stays L (rail1 P) [] has.first (All-nil (Contains L))) in
    let all : All (Contains L) (signals_of made.gates) = subst (All (Contains L)) (sym is.signals) walked in
    let sized : length (signals_of made.gates) ≡ length made.gates = length-signals_of made.gates in
    let most : length (signals_of made.gates) ≤ length L = few-of L (signals_of made.gates) all (λ i k lt lt' e. is.distinct i k (omega (arith, lt, sized)) (omega (arith, lt', sized)) e) in
    let few = has.few in
    omega (arith, sized, most, few)
