-- The checker of parity groups reads only places of their word, however many outputs there are.
use Rattle.std.specs.List.{AllByRecursion, list_any}
use Rattle.std.proofs.Common.{◌≡◌, ℕ, zero, suc, ◌+◌, ◌<◌, ◌≤◌, inl, inr, Bool, if◌then◌else◌, List, [], ◌∷◌, ◌++◌, map, length, slice_index_or, All, sym, ap, ◌∙◌, subst, arith}
use Rattle.std.proofs.lemmas.Bool.{cases_Bool}
use Rattle.std.proofs.lemmas.List.Elements.{recursion_from_All}
use Rattle.fault_secure.specs.CodePlan.{concat_places}
use Rattle.code_checkers.specs.declared.gate.CheckGate.TheVariants as gate
use Rattle.code_checkers.specs.Signal.{Signal, Pair, chain_from, chain}
use Rattle.code_checkers.specs.Signal.Signal.{Word, Buf, Not, And, Or, Xor}
use Rattle.code_checkers.specs.TwoRail.{level, levels, head_pair, tree}
use Rattle.code_checkers.specs.Checker.{group_pairs}
use Rattle.code_checkers.specs.Gates.{signal_of, signals_of, meaning}
use Rattle.code_checkers.specs.Walk.{same_signal, with_signal, walk}
use Rattle.code_checkers.specs.GateList.{GateList, IsGroupChecker}
use Rattle.code_checkers.specs.Within.{IsWithin}
use Rattle.code_checkers.proofs.Sharing.{meaning_is}

append_all : {X : Type 0} (P : X → Type 0) (xs ys : List X) → AllByRecursion P xs → AllByRecursion P ys → AllByRecursion P (xs ++ ys)
append_all P [] ys all more = more
append_all P (x ∷ xs) ys all more = (all.0, append_all P xs ys all.1 more)

module _ (n : ℕ) (some : 0 < n) where
  AllIn : List Signal → Type 0
  AllIn signals = AllByRecursion (IsWithin n) signals

  PairIn : Pair → Type 0
  PairIn p = IsWithin n p.first × IsWithin n p.second

  PairsIn : List Pair → Type 0
  PairsIn pairs = AllByRecursion PairIn pairs

  xor_from_in : (made : Signal) (places : List ℕ) → IsWithin n made → AllByRecursion (λ place. place < n) places → IsWithin n (chain_from Xor made (map Word places))
  xor_from_in made [] m all = m
  xor_from_in made (p ∷ places) m all = xor_from_in (Xor made (Word p)) places (m, all.0) all.1

  xor_in : (places : List ℕ) → AllByRecursion (λ place. place < n) places → IsWithin n (chain Xor (map Word places))
  xor_in [] all = some
  xor_in (p ∷ places) all = xor_from_in (Word p) places all.0 all.1

  front_all : (xs ys : List ℕ) → AllByRecursion (λ place. place < n) (xs ++ ys) → AllByRecursion (λ place. place < n) xs × AllByRecursion (λ place. place < n) ys
  front_all [] ys all = (tt, all)
  front_all (x ∷ xs) ys all = let rest = front_all xs ys all.1 in ((all.0, rest.0), rest.1)

  group_pairs_in : (check : ℕ) (groups : List (List ℕ)) → check + length groups ≤ n → AllByRecursion (λ place. place < n) (concat_places groups) → PairsIn (group_pairs check groups)
  unfolding PairIn PairsIn
  group_pairs_in check [] h all = tt
  group_pairs_in check (group ∷ groups) h all =
      let parts = front_all group (concat_places groups) all in
      ((xor_in group parts.0, omega arith), group_pairs_in (check + 1) groups (omega arith) parts.1)

  level_in : (pairs : List Pair) → PairsIn pairs → PairsIn (level pairs)
  unfolding PairIn PairsIn
  level_in [] all = tt
  level_in (a ∷ []) all = all
  level_in (a ∷ (b ∷ pairs)) all =
      let x = all.0 in
      let y = all.1.0 in
      ((((x.0, y.0), (x.1, y.1)), ((x.0, y.1), (x.1, y.0))), level_in pairs all.1.1)

  levels_in : (count : ℕ) (pairs : List Pair) → PairsIn pairs → PairsIn (levels count pairs)
  levels_in zero pairs all = all
  levels_in (suc count) pairs all = levels_in count (level pairs) (level_in pairs all)

  head_in : (pairs : List Pair) → PairsIn pairs → PairIn (head_pair pairs)
  unfolding PairIn PairsIn
  head_in [] all = (some, some)
  head_in (a ∷ pairs) all = all.0

  with_signal_in : (signals : List Signal) (s : Signal) → AllIn signals → IsWithin n s → AllIn (with_signal signals s)
  unfolding AllIn
  with_signal_in signals s all h = elim (cases_Bool (list_any (same_signal s) signals)) [
    | inl e ↦ subst (AllByRecursion (IsWithin n)) (sym (ap (λ (b : Bool). if b then signals else signals ++ s ∷ []) e)) all
    | inr e ↦ subst (AllByRecursion (IsWithin n)) (sym (ap (λ (b : Bool). if b then signals else signals ++ s ∷ []) e)) (append_all (IsWithin n) signals (s ∷ []) all (h, tt))
  ]

  walk_in : (s : Signal) (signals : List Signal) → IsWithin n s → AllIn signals → AllIn (walk s signals)
  walk_in (Word p) signals h all = with_signal_in signals (Word p) all h
  walk_in (Buf a) signals h all = with_signal_in (walk a signals) (Buf a) (walk_in a signals h all) h
  walk_in (Not a) signals h all = with_signal_in (walk a signals) (Not a) (walk_in a signals h all) h
  walk_in (And a b) signals h all = with_signal_in (walk b (walk a signals)) (And a b) (walk_in b (walk a signals) h.1 (walk_in a signals h.0 all)) h
  walk_in (Or a b) signals h all = with_signal_in (walk b (walk a signals)) (Or a b) (walk_in b (walk a signals) h.1 (walk_in a signals h.0 all)) h
  walk_in (Xor a b) signals h all = with_signal_in (walk b (walk a signals)) (Xor a b) (walk_in b (walk a signals) h.1 (walk_in a signals h.0 all)) h

  at_in : (signals : List Signal) (k : ℕ) → AllIn signals → IsWithin n (slice_index_or signals k (Word 0))
  unfolding AllIn
  at_in [] k all = some
  at_in (x ∷ signals) zero all = all.0
  at_in (x ∷ signals) (suc k) all = at_in signals k all.1

  last_in : (check : ℕ) (groups : List (List ℕ)) → check + length groups ≤ n → All (λ place. place < n) (concat_places groups) → PairIn (tree (group_pairs check groups))
  last_in check groups h within =
      head_in (levels (length (group_pairs check groups)) (group_pairs check groups))
      (levels_in (length (group_pairs check groups)) (group_pairs check groups)
      (group_pairs_in check groups h (recursion_from_All (λ place. place < n) (concat_places groups) within)))

  -- the gates for the groups stand for places of the word alone: for those of the groups, and their checks
  pub groups_read : (check : ℕ) (groups : List (List ℕ)) (made : GateList) → check + length groups ≤ n → All (λ place. place < n) (concat_places groups) → IsGroupChecker check groups made
      → (place word : ℕ) → place < length made.gates → slice_index_or made.gates place (gate.Word 0) ≡ gate.Word word → word < n
  unfolding AllIn PairIn
  groups_read check groups made fits within h place word lt is =
      let last = last_in check groups fits within in
      let all : AllByRecursion (IsWithin n) (signals_of made.gates)
      = subst (AllByRecursion (IsWithin n)) (sym h.signals)
      (walk_in (Buf (tree (group_pairs check groups)).second) (walk (Buf (tree (group_pairs check groups)).first) []) last.1 (walk_in (Buf (tree (group_pairs check groups)).first) [] last.0 tt)) in
      let means : meaning made.gates place ≡ Word word = meaning_is made.gates place h.ordered lt ∙ ap (λ g. signal_of (signals_of made.gates) g) is in
      subst (IsWithin n) means (at_in (signals_of made.gates) place all)
