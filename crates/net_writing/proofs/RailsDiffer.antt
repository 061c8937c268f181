-- The two rails of a checker are different gates, and neither is a place of the word.
use Rattle.std.proofs.Common.{◌≡◌, ℕ, zero, suc, ◌+◌, ◌-◌, ◌<◌, ◌≤◌, Bool, true, false, List, [], ◌∷◌, ◌++◌, map, take, drop, length, replicate, All, refl, sym, ◌∙◌, ap, arith, length-append}
use Rattle.std.specs.List.{list_all}
use Rattle.std.proofs.lemmas.Bool.{and_parts}
use Rattle.std.proofs.lemmas.List.{length-replicate, take_all}
use Rattle.std.proofs.lemmas.List.Sums.{sum_by-append}
use Rattle.std.proofs.lemmas.List.Elements.{All-head, All-tail}
use Rattle.tsc_bits.specs.Counting.{ones}
use Rattle.tsc_bits.proofs.Bools.{differ-iff}
use Rattle.tsc_bits.proofs.Counting.{ones-cons}
use Rattle.tsc_bits.proofs.Lists.{front, back, all_left, all_right}
use Rattle.fault_secure.specs.declared.code.Code.{Code}
use Rattle.fault_secure.specs.declared.code.Code.TheVariants.{Parity, Berger, MOutOfN}
use Rattle.fault_secure.specs.CodePlan.{CodePlan, IsWellMade, HasShape, outputs_of, checks_of, concat_places}
use Rattle.code_checkers.specs.declared.gate.CheckGate.TheVariants as gate
use Rattle.code_checkers.specs.Signal.{Signal, Pair, value, pair_differs, chain, chain_from}
use Rattle.code_checkers.specs.Signal.Signal.{Word, Buf, Not, And, Or, Xor}
use Rattle.code_checkers.specs.Gates.{signals_of, signal_of, meaning, gate_at}
use Rattle.code_checkers.specs.GateList.{GateList, IsCheckerOf}
use Rattle.code_checkers.specs.TwoRail.{cell, level, levels, head_pair, tree}
use Rattle.code_checkers.specs.Checker.{group_pairs, count_pairs, code_pairs, state_pairs, pairs_of, last_pair}
use Rattle.code_checkers.proofs.TwoRail.{level_some}
use Rattle.code_checkers.proofs.Sharing.{meaning_is}
use Rattle.code_checkers.proofs.Decides.{code_pairs-decide, state_pairs-decide, pairs_of-some}

-- the two signals of a pair aren't the same
abbrev pub IsApart : Pair → Type 0
IsApart p = p.first ≡ p.second → ⊥

-- and so for each pair of a list
abbrev pub ArePairsApart : List Pair → Type 0
ArePairsApart [] = Unit {0}
ArePairsApart (p ∷ pairs) = IsApart p × ArePairsApart pairs

-- a pair that differs on some word is apart
apart_by : (w : List Bool) (p : Pair) → pair_differs w p ≡ true → IsApart p
apart_by w p e same = (differ-iff (value w p.first) (value w p.second)).0 e (ap (value w) same)

-- one pair that differs on a word
one_apart : (w : List Bool) (p : Pair) → list_all (pair_differs w) (p ∷ []) ≡ true → ArePairsApart (p ∷ [])
one_apart w p e = (apart_by w p (and_parts (pair_differs w p) true e).0, tt)

-- a cell is apart where its second pair is
cell_apart : (a b : Pair) → IsApart b → IsApart (cell a b)
cell_apart a b apart same = apart (inner (cell a b) refl same)
  where
    inner : (c : Pair) → c ≡ cell a b → c.first ≡ c.second → b.first ≡ b.second
    inner c e f =
        let both : Or (And a.first b.first) (And a.second b.second) ≡ Or (And a.first b.second) (And a.second b.first) = same in
        cc

-- a level of pairs that are apart is apart
level_apart : (pairs : List Pair) → ArePairsApart pairs → ArePairsApart (level pairs)
level_apart [] h = tt
level_apart (a ∷ []) h = h
level_apart (a ∷ (b ∷ pairs)) h = (cell_apart a b h.1.0, level_apart pairs h.1.1)

-- and what is left of some levels, too
levels_apart : (count : ℕ) (pairs : List Pair) → 0 < length pairs → ArePairsApart pairs → IsApart (head_pair (levels count pairs))
levels_apart zero [] some h = absurd (omega arith)
levels_apart zero (a ∷ pairs) some h = h.0
levels_apart (suc count) pairs some h = levels_apart count (level pairs) (level_some pairs some) (level_apart pairs h)

-- the tree of pairs that are apart is apart
pub tree_apart : (pairs : List Pair) → 0 < length pairs → ArePairsApart pairs → IsApart (tree pairs)
tree_apart pairs some h = levels_apart (length pairs) pairs some h

-- pairs after others
apart_append : (front back : List Pair) → ArePairsApart front → ArePairsApart back → ArePairsApart (front ++ back)
apart_append [] back h k = k
apart_append (p ∷ front) back h k = (h.0, apart_append front back h.1 k)

-- a chain of more than one signal is no place of the word
chain_no_word : (a b : Signal) (signals : List Signal) (place : ℕ) → chain_from Xor (Xor a b) signals ≡ Word place → ⊥
chain_no_word a b [] place e = cc
chain_no_word a b (c ∷ signals) place e = chain_no_word (Xor a b) c signals place e

-- the chain of a group is another signal than a place after its own
group_apart : (group : List ℕ) (check : ℕ) → 0 < length group → All (λ place. place < check) group → chain Xor (map Word group) ≡ Word check → ⊥
group_apart [] check some within e = absurd (omega arith)
group_apart (place ∷ []) check some within e =
    let low : place < check = All-head (λ (n : ℕ). n < check) place [] within in
    let same : place ≡ check = cc in
    absurd (omega arith)
group_apart (place ∷ (other ∷ group)) check some within e = chain_no_word (Word place) (Word other) (map Word group) check e

-- what holds of two lists, one after the other, holds of the first
-- the pairs of groups are apart
groups_apart : (outputs check : ℕ) (groups : List (List ℕ)) → outputs ≤ check → All (λ group. 0 < length group) groups → All (λ place. place < outputs) (concat_places groups) → ArePairsApart (group_pairs check groups)
groups_apart outputs check [] low filled within = tt
groups_apart outputs check (group ∷ groups) low filled within = (
  group_apart group check (All-head (λ (g : List ℕ). 0 < length g) group groups filled) (λ k d there. (let b = all_left (λ place. place < outputs) group (concat_places groups) within k d there in omega arith)),
  groups_apart outputs (check + 1) groups (omega arith) (All-tail (λ (g : List ℕ). 0 < length g) group groups filled) (all_right (λ place. place < outputs) group (concat_places groups) within),
)

-- the pairs of counted bits are apart
counts_apart : (check : ℕ) (bits : List Signal) → ArePairsApart (count_pairs check bits)
counts_apart check [] = tt
counts_apart check (b ∷ bits) = (no_word, counts_apart (check + 1) bits)
  where
    no_word : Not b ≡ Word check → ⊥
    no_word e = cc

-- so many ones
all_ones : (n : ℕ) → ones (replicate n true) ≡ n
all_ones zero = refl
all_ones (suc n) = ones-cons true (replicate n true) ∙ omega (arith, all_ones n)

-- and no ones among zeros
no_ones : (n : ℕ) → ones (replicate n false) ≡ 0
no_ones zero = refl
no_ones (suc n) = ones-cons false (replicate n false) ∙ omega (arith, no_ones n)

-- the pairs of a code are apart
pub code_apart : (code : Code) (P : CodePlan) → 0 < P.outputs → HasShape code P → ArePairsApart (code_pairs code P)
code_apart Parity P some shape = groups_apart P.outputs P.outputs P.groups (omega arith) shape.filled shape.within
code_apart Berger P some shape = counts_apart P.outputs _
code_apart MOutOfN P some shape = one_apart w _ ((code_pairs-decide MOutOfN P w some shape long).1 checked)
  where
    w : List Bool
    w = replicate P.outputs true ++ replicate (length P.checks) false

    long : P.outputs + length P.checks ≤ length (replicate P.outputs true ++ replicate (length P.checks) false)
    long = omega (arith, length-append (replicate P.outputs true) (replicate (length P.checks) false), length-replicate P.outputs true, length-replicate (length P.checks) false)

    outputs : ones (outputs_of P (replicate P.outputs true ++ replicate (length P.checks) false)) ≡ P.outputs
    outputs = ap ones (front P.outputs (replicate P.outputs true) (replicate (length P.checks) false) (length-replicate P.outputs true)) ∙ all_ones P.outputs

    checks : ones (checks_of P (replicate P.outputs true ++ replicate (length P.checks) false)) ≡ 0
    checks =
        ap (λ (bits : List Bool). ones (take (length P.checks) bits)) (back P.outputs (replicate P.outputs true) (replicate (length P.checks) false) (length-replicate P.outputs true))
        ∙ ap ones (take_all (length P.checks) (replicate (length P.checks) false) (omega (arith, length-replicate (length P.checks) false))) ∙ no_ones (length P.checks)

    checked : ones (outputs_of P (replicate P.outputs true ++ replicate (length P.checks) false)) + ones (checks_of P (replicate P.outputs true ++ replicate (length P.checks) false)) ≡ P.outputs
    checked = omega (arith, outputs, checks)

-- and so is that of the next state
pub state_apart : (place latches weight : ℕ) → (0 < latches → (0 < weight) × (weight < latches)) → (latches ≡ 0 → weight ≡ 0) → ArePairsApart (state_pairs place latches weight)
state_apart place zero weight some none = tt
state_apart place (suc latches) weight some none = one_apart w _ ((state_pairs-decide place (suc latches) weight w none some sized).1 weighed)
  where
    rest : List Bool
    rest = replicate weight true ++ replicate (suc latches - weight) false

    w : List Bool
    w = replicate place false ++ (replicate weight true ++ replicate (suc latches - weight) false)

    sized : length (replicate place false ++ (replicate weight true ++ replicate (suc latches - weight) false)) ≡ place + suc latches
    sized =
        let bounds : (0 < weight) × (weight < suc latches) = some (omega arith) in
        omega (arith, length-append (replicate place false) (replicate weight true ++ replicate (suc latches - weight) false), length-append (replicate weight true) (replicate (suc latches - weight) false), length-replicate place false, length-replicate weight true, length-replicate (suc latches - weight) false)

    weighed : ones (drop place (replicate place false ++ (replicate weight true ++ replicate (suc latches - weight) false))) ≡ weight
    weighed =
        ap ones (back place (replicate place false) (replicate weight true ++ replicate (suc latches - weight) false) (length-replicate place false))
        ∙ sum_by-append _ (replicate weight true) (replicate (suc latches - weight) false) ∙ omega (arith, all_ones weight, no_ones (suc latches - weight))

-- the last pair of a well-made plan is apart
pub last_apart : (P : CodePlan) → IsWellMade P → IsApart (last_pair P)
last_apart P made =
    tree_apart (pairs_of P) (pairs_of-some P made)
    (apart_append (code_pairs P.code P) (state_pairs (P.outputs + length P.checks) P.latches P.weight) (code_apart P.code P made.some_output made.shape)
    (state_apart (P.outputs + length P.checks) P.latches P.weight (λ h. (let s = made.states.some h in (s.1, s.2))) (λ h. (made.states.none h).1)))

module _ (P : CodePlan) (made : GateList) (is : IsCheckerOf P made) where
  -- the rails of a checker are different gates
  pub rails_differ : IsWellMade P → made.rail1 ≡ made.rail2 → ⊥
  rails_differ well same =
      last_apart P well (inner (last_pair P) (sym is.first ∙ ap (meaning made.gates) same ∙ is.second))
    where
      inner : (p : Pair) → Buf p.first ≡ Buf p.second → p.first ≡ p.second
      inner p e = cc

  -- a place that means a Buf is no place of the word
  buf_no_word : (place word : ℕ) (a : Signal) → place < length made.gates → meaning made.gates place ≡ Buf a → gate_at made.gates place ≡ gate.Word word → ⊥
  buf_no_word place word a there means e =
      let other : Buf a ≡ Word word = sym means ∙ meaning_is made.gates place is.ordered there ∙ ap (signal_of (signals_of made.gates)) e in
      cc

  -- the first rail is no place of the word
  pub rail1_no_word : (word : ℕ) → gate_at made.gates made.rail1 ≡ gate.Word word → ⊥
  rail1_no_word word e = buf_no_word made.rail1 word (last_pair P).first is.first_within is.first e

  -- nor is the second
  pub rail2_no_word : (word : ℕ) → gate_at made.gates made.rail2 ≡ gate.Word word → ⊥
  rail2_no_word word e = buf_no_word made.rail2 word (last_pair P).second is.second_within is.second e
