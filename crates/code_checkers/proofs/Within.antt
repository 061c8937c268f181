-- A checker reads only places of its plan's word.
use Rattle.std.specs.Prelude.{◌≡◌, ℕ, zero, suc, ◌+◌, ◌-◌, ◌/◌, ◌<◌, ◌≤◌, ◌==◌, ◌^◌, Bool, true, false, not, if◌then◌else◌, List, [], ◌∷◌, ◌++◌, map, reverse, length, slice_index_or}
use Rattle.std.specs.List.{AllByRecursion, list_any}
use Rattle.std.proofs.Common.{sym, ◌∙◌, ap, subst, arith, inl, inr}
use Rattle.std.proofs.lemmas.List.{reverse-append}
use Rattle.std.proofs.lemmas.List.Elements.{recursion_from_All}
use Rattle.std.proofs.lemmas.Bool.{cases_Bool}
use Rattle.fault_secure.specs.declared.code.Code.{Code}
use Rattle.fault_secure.specs.declared.code.Code.TheVariants.{Parity, Berger, MOutOfN}
use Rattle.fault_secure.specs.CodePlan.{CodePlan, IsWellMade, HasShape, concat_places}
use Rattle.code_checkers.specs.declared.gate.CheckGate.TheVariants as gate
use Rattle.code_checkers.specs.Signal.{Signal, Pair, words_from, chain_from, chain}
use Rattle.code_checkers.specs.Signal.Signal.{Word, Buf, Not, And, Or, Xor}
use Rattle.code_checkers.specs.Threshold.{row_from, thresholds_from, thresholds, both_reach, terms_from, every_second, is_odd, terms, threshold_pair}
use Rattle.code_checkers.specs.Counter.{add_carry, count_from, count_zeros}
use Rattle.code_checkers.specs.TwoRail.{level, levels, head_pair}
use Rattle.code_checkers.specs.Checker.{group_pairs, count_pairs, code_pairs, state_pairs, pairs_of, last_pair, rail1, rail2}
use Rattle.code_checkers.specs.Gates.{signal_of, signals_of, meaning, gate_at}
use Rattle.code_checkers.specs.Walk.{same_signal, with_signal, walk}
use Rattle.code_checkers.specs.GateList.{GateList, IsCheckerOf}
use Rattle.code_checkers.specs.Within.{IsWithin, ReadsWord}
use Rattle.code_checkers.proofs.Halves.{half_all}
use Rattle.code_checkers.proofs.Sharing.{meaning_is}
use Rattle.code_checkers.proofs.Decides.{width_of}

append_all : {X : Type 0} (P : X → Type 0) (xs ys : List X) → AllByRecursion P xs → AllByRecursion P ys → AllByRecursion P (xs ++ ys)
append_all P [] ys all more = more
append_all P (x ∷ xs) ys all more = (all.0, append_all P xs ys all.1 more)

reverse_all : {X : Type 0} (P : X → Type 0) (xs : List X) → AllByRecursion P xs → AllByRecursion P (reverse xs)
reverse_all P [] all = tt
reverse_all P (x ∷ xs) all = subst (AllByRecursion P) (sym (reverse-append (x ∷ []) xs)) (append_all P (reverse xs) (x ∷ []) (reverse_all P xs all.1) (all.0, tt))

module _ (n : ℕ) (some : 0 < n) where
  AllIn : List Signal → Type 0
  AllIn signals = AllByRecursion (IsWithin n) signals

  PairIn : Pair → Type 0
  PairIn p = IsWithin n p.first × IsWithin n p.second

  PairsIn : List Pair → Type 0
  PairsIn pairs = AllByRecursion PairIn pairs

  words_in : (place count : ℕ) → place + count ≤ n → AllIn (words_from place count)
  unfolding AllIn
  words_in place zero h = tt
  words_in place (suc count) h = (omega arith, words_in (place + 1) count (omega arith))

  row_in : (carried x : Signal) (row : List Signal) → IsWithin n carried → IsWithin n x → AllIn row → AllIn (row_from carried x row)
  unfolding AllIn
  row_in carried x [] c h all = (c, tt)
  row_in carried x (t ∷ row) c h all = ((all.0, c), row_in (And t x) x row (all.0, h) h all.1)

  thresholds_in : (row signals : List Signal) → AllIn row → AllIn signals → AllIn (thresholds_from row signals)
  unfolding AllIn
  thresholds_in row [] r all = r
  thresholds_in row (x ∷ signals) r all = thresholds_in (row_from x x row) signals (row_in x x row all.0 all.0 r) all.1

  at_in : (signals : List Signal) (k : ℕ) → AllIn signals → IsWithin n (slice_index_or signals k (Word 0))
  unfolding AllIn
  at_in [] k all = some
  at_in (x ∷ signals) zero all = all.0
  at_in (x ∷ signals) (suc k) all = at_in signals k all.1

  reach_in : (firsts seconds : List Signal) (i j : ℕ) → AllIn firsts → AllIn seconds → IsWithin n (both_reach firsts seconds i j)
  reach_in firsts seconds zero j f s = at_in seconds (j - 1) s
  reach_in firsts seconds (suc i) zero f s = at_in firsts (suc i - 1) f
  reach_in firsts seconds (suc i) (suc j) f s = (at_in firsts (suc i - 1) f, at_in seconds (suc j - 1) s)

  terms_in : (firsts seconds : List Signal) (m t count : ℕ) → AllIn firsts → AllIn seconds → AllIn (terms_from firsts seconds m t count)
  unfolding AllIn
  terms_in firsts seconds m t zero f s = tt
  terms_in firsts seconds m t (suc count) f s = (reach_in firsts seconds (m + t - length seconds) (length seconds - t) f s, terms_in firsts seconds m (t + 1) count f s)

  or_from_in : (made : Signal) (signals : List Signal) → IsWithin n made → AllIn signals → IsWithin n (chain_from Or made signals)
  unfolding AllIn
  or_from_in made [] m all = m
  or_from_in made (x ∷ signals) m all = or_from_in (Or made x) signals (m, all.0) all.1

  or_in : (signals : List Signal) → AllIn signals → IsWithin n (chain Or signals)
  unfolding AllIn
  or_in [] all = some
  or_in (x ∷ signals) all = or_from_in x signals all.0 all.1

  xor_from_in : (made : Signal) (signals : List Signal) → IsWithin n made → AllIn signals → IsWithin n (chain_from Xor made signals)
  unfolding AllIn
  xor_from_in made [] m all = m
  xor_from_in made (x ∷ signals) m all = xor_from_in (Xor made x) signals (m, all.0) all.1

  xor_in : (signals : List Signal) → AllIn signals → IsWithin n (chain Xor signals)
  unfolding AllIn
  xor_in [] all = some
  xor_in (x ∷ signals) all = xor_from_in x signals all.0 all.1

  threshold_pair_in : (A B : List Signal) (m : ℕ) → AllIn A → AllIn B → PairIn (threshold_pair A B m)
  unfolding AllIn PairIn
  threshold_pair_in A B m a b =
      let all : AllIn (terms A B m) = terms_in (thresholds A) (thresholds B) m 0 (length A + length B + 1 - m) (thresholds_in [] A tt a) (thresholds_in [] B tt b) in (
        or_in (every_second (is_odd (m + length B)) (terms A B m)) (half_all (IsWithin n) (is_odd (m + length B)) (terms A B m) all),
        or_in (every_second (not (is_odd (m + length B))) (terms A B m)) (half_all (IsWithin n) (not (is_odd (m + length B))) (terms A B m) all),
      )

  carry_in : (grows : Bool) (carry : Signal) (bits : List Signal) → IsWithin n carry → AllIn bits → AllIn (add_carry grows carry bits)
  unfolding AllIn
  carry_in true carry [] c all = (c, tt)
  carry_in false carry [] c all = tt
  carry_in grows carry (b ∷ bits) c all = ((all.0, c), carry_in grows (And b carry) bits (all.0, c) all.1)

  count_in : (i : ℕ) (bits signals : List Signal) → AllIn bits → AllIn signals → AllIn (count_from i bits signals)
  unfolding AllIn
  count_in i bits [] b all = b
  count_in i bits (x ∷ signals) b all = count_in (i + 1) (add_carry (i == 2 ^ length bits) (Not x) bits) signals (carry_in (i == 2 ^ length bits) (Not x) bits all.0 b) all.1

  count_pairs_in : (check : ℕ) (bits : List Signal) → check + length bits ≤ n → AllIn bits → PairsIn (count_pairs check bits)
  unfolding AllIn PairIn PairsIn
  count_pairs_in check [] h all = tt
  count_pairs_in check (b ∷ bits) h all = ((all.0, omega arith), count_pairs_in (check + 1) bits (omega arith) all.1)

  group_in : (group : List ℕ) → AllByRecursion (λ place. place < n) group → AllIn (map Word group)
  unfolding AllIn
  group_in [] all = tt
  group_in (p ∷ group) all = (all.0, group_in group all.1)

  front_all : (P : ℕ → Type 0) (xs ys : List ℕ) → AllByRecursion P (xs ++ ys) → AllByRecursion P xs × AllByRecursion P ys
  front_all P [] ys all = (tt, all)
  front_all P (x ∷ xs) ys all = let rest = front_all P xs ys all.1 in ((all.0, rest.0), rest.1)

  group_pairs_in : (check : ℕ) (groups : List (List ℕ)) → check + length groups ≤ n → AllByRecursion (λ place. place < n) (concat_places groups) → PairsIn (group_pairs check groups)
  unfolding PairIn PairsIn
  group_pairs_in check [] h all = tt
  group_pairs_in check (group ∷ groups) h all =
      let parts = front_all (λ place. place < n) group (concat_places groups) all in
      ((xor_in (map Word group) (group_in group parts.0), omega arith), group_pairs_in (check + 1) groups (omega arith) parts.1)

  level_in : (pairs : List Pair) → PairsIn pairs → PairsIn (level pairs)
  unfolding PairIn PairsIn
  level_in [] all = tt
  level_in (a ∷ []) all = all
  level_in (a ∷ (b ∷ pairs)) all =
      let x = all.0 in
      let y = all.1.0 in
      ((((x.0, y.0), (x.1, y.1)), ((x.0, y.1), (x.1, y.0))), level_in pairs all.1.1)

  levels_in : (count : ℕ) (pairs : List Pair) → PairsIn pairs → PairsIn (levels count pairs)
  levels_in zero pairs all = all
  levels_in (suc count) pairs all = levels_in count (level pairs) (level_in pairs all)

  head_in : (pairs : List Pair) → PairsIn pairs → PairIn (head_pair pairs)
  unfolding PairIn PairsIn
  head_in [] all = (some, some)
  head_in (a ∷ pairs) all = all.0

  with_signal_in : (signals : List Signal) (s : Signal) → AllIn signals → IsWithin n s → AllIn (with_signal signals s)
  unfolding AllIn
  with_signal_in signals s all h = elim (cases_Bool (list_any (same_signal s) signals)) [
    | inl e ↦ subst (AllByRecursion (IsWithin n)) (sym (ap (λ (b : Bool). if b then signals else signals ++ s ∷ []) e)) all
    | inr e ↦ subst (AllByRecursion (IsWithin n)) (sym (ap (λ (b : Bool). if b then signals else signals ++ s ∷ []) e)) (append_all (IsWithin n) signals (s ∷ []) all (h, tt))
  ]

  walk_in : (s : Signal) (signals : List Signal) → IsWithin n s → AllIn signals → AllIn (walk s signals)
  walk_in (Word p) signals h all = with_signal_in signals (Word p) all h
  walk_in (Buf a) signals h all = with_signal_in (walk a signals) (Buf a) (walk_in a signals h all) h
  walk_in (Not a) signals h all = with_signal_in (walk a signals) (Not a) (walk_in a signals h all) h
  walk_in (And a b) signals h all = with_signal_in (walk b (walk a signals)) (And a b) (walk_in b (walk a signals) h.1 (walk_in a signals h.0 all)) h
  walk_in (Or a b) signals h all = with_signal_in (walk b (walk a signals)) (Or a b) (walk_in b (walk a signals) h.1 (walk_in a signals h.0 all)) h
  walk_in (Xor a b) signals h all = with_signal_in (walk b (walk a signals)) (Xor a b) (walk_in b (walk a signals) h.1 (walk_in a signals h.0 all)) h

  code_pairs_in : (code : Code) (P : CodePlan) → HasShape code P → P.outputs + length P.checks ≤ n → PairsIn (code_pairs code P)
  unfolding AllIn PairsIn
  code_pairs_in Parity P shape h =
      group_pairs_in P.outputs P.groups (omega (arith, shape.paired)) (recursion_from_All (λ place. place < n) (concat_places P.groups) (λ k d lt. omega (arith, shape.within k d lt)))
  code_pairs_in Berger P shape h =
      count_pairs_in P.outputs (reverse (count_zeros (words_from 0 P.outputs))) (omega (arith, width_of P shape))
      (reverse_all (IsWithin n) (count_zeros (words_from 0 P.outputs)) (count_in 1 [] (words_from 0 P.outputs) tt (words_in 0 P.outputs (omega arith))))
  code_pairs_in MOutOfN P shape h =
      (threshold_pair_in (words_from 0 P.outputs) (words_from P.outputs (length P.checks)) P.outputs (words_in 0 P.outputs (omega arith)) (words_in P.outputs (length P.checks) h), tt)

  state_pairs_in : (place latches weight : ℕ) → place + latches ≤ n → PairsIn (state_pairs place latches weight)
  unfolding PairsIn
  state_pairs_in place zero weight h = tt
  state_pairs_in place (suc latches) weight h =
      let half : suc latches / 2 ≤ suc latches = omega arith in (
        threshold_pair_in (words_from place (suc latches / 2)) (words_from (place + suc latches / 2) (suc latches - suc latches / 2)) weight
            (words_in place (suc latches / 2) (omega arith)) (words_in (place + suc latches / 2) (suc latches - suc latches / 2) (omega arith)),
        tt,
      )

  last_in : (P : CodePlan) → IsWellMade P → P.outputs + length P.checks + P.latches ≤ n → PairIn (last_pair P)
  unfolding PairsIn
  last_in P made h =
      let all : PairsIn (pairs_of P) =
      append_all PairIn (code_pairs P.code P) (state_pairs (P.outputs + length P.checks) P.latches P.weight)
      (code_pairs_in P.code P made.shape (omega arith)) (state_pairs_in (P.outputs + length P.checks) P.latches P.weight h) in
      head_in (levels (length (pairs_of P)) (pairs_of P)) (levels_in (length (pairs_of P)) (pairs_of P) all)

  read_within : (P : CodePlan) (made : GateList) → IsWellMade P → IsCheckerOf P made → P.outputs + length P.checks + P.latches ≤ n
      → (place word : ℕ) → place < length made.gates → gate_at made.gates place ≡ gate.Word word → word < n
  unfolding AllIn PairIn
  read_within P made well h fits place word lt is =
      let last = last_in P well fits in
      let all : AllByRecursion (IsWithin n) (signals_of made.gates) =
      subst (AllByRecursion (IsWithin n)) (sym h.signals) (walk_in (rail2 P) (walk (rail1 P) []) last.1 (walk_in (rail1 P) [] last.0 tt)) in
      let means : meaning made.gates place ≡ Word word = meaning_is made.gates place h.ordered lt ∙ ap (λ g. signal_of (signals_of made.gates) g) is in
      subst (IsWithin n) means (at_in (signals_of made.gates) place all)

-- the checker of a well-made plan reads only places of its word
pub reads_word : (P : CodePlan) (made : GateList) → IsWellMade P → IsCheckerOf P made → ReadsWord P made
reads_word P made well h place word lt is =
    let some : 0 < P.outputs + length P.checks + P.latches = omega (arith, well.some_output) in
    read_within (P.outputs + length P.checks + P.latches) some P made well h (omega arith) place word lt is
