-- The pair of a parity group differs exactly where its outputs and its check have an odd number of ones.
use Rattle.std.specs.Prelude.{◌≡◌, ℕ, suc, ◌+◌, ◌<◌, ◌==◌, Bool, ◌&&◌, List, [], ◌∷◌, ◌++◌, map, length, count_by, All, refl}
use Rattle.std.specs.List.{list_all, AllByRecursion}
use Rattle.std.proofs.Common.{sym, ◌∙◌, ap, arith, add-one}
use Rattle.std.proofs.lemmas.List.{map-append}
use Rattle.std.proofs.lemmas.List.Elements.{recursion_from_All}
use Rattle.fault_secure.specs.Circuit.{bit}
use Rattle.fault_secure.specs.CodePlan.{CodePlan, HasGroups, bits_at, members_from, concat_places}
use Rattle.tsc_bits.specs.Counting.{differ, odd}
use Rattle.code_checkers.specs.Signal.{Signal, value, pair_differs, chain_from, chain}
use Rattle.code_checkers.specs.Signal.Signal.{Word, Xor}
use Rattle.code_checkers.specs.Checker.{group_pairs}
use Rattle.tsc_bits.proofs.Bools.{differ-false, differ-assoc, odd-push}

chain_from-odd : (w : List Bool) (made : Signal) (places : List ℕ) → value w (chain_from Xor made (map Word places)) ≡ differ (value w made) (odd (bits_at w places))
chain_from-odd w made [] = sym (differ-false (value w made))
chain_from-odd w made (p ∷ places) =
    chain_from-odd w (Xor made (Word p)) places ∙ differ-assoc (value w made) (bit w p) (odd (bits_at w places))

-- the chain over the outputs of a group is 1 exactly where they have an odd number of ones
pub chain-odd : (w : List Bool) (group : List ℕ) → 0 < length group → value w (chain Xor (map Word group)) ≡ odd (bits_at w group)
chain-odd w [] filled = absurd (omega arith)
chain-odd w (p ∷ places) filled = chain_from-odd w (Word p) places

group-odd : (w : List Bool) (group : List ℕ) (check : ℕ) → 0 < length group → differ (value w (chain Xor (map Word group))) (bit w check) ≡ odd (bits_at w (group ++ check ∷ []))
group-odd w group check filled =
    ap (λ b. differ b (bit w check)) (chain-odd w group filled)
    ∙ sym (ap odd (map-append (bit w) group (check ∷ [])) ∙ odd-push (bits_at w group) (bit w check))

groups-odd : (w : List Bool) (check : ℕ) (groups : List (List ℕ)) → AllByRecursion (λ group. 0 < length group) groups
    → list_all (pair_differs w) (group_pairs check groups) ≡ list_all (λ group. odd (bits_at w group)) (members_from check groups)
groups-odd w check [] filled = refl
groups-odd w check (group ∷ groups) filled =
    ap (λ b. b && list_all (pair_differs w) (group_pairs (check + 1) groups)) (group-odd w group check filled.0)
    ∙ ap (λ b. odd (bits_at w (group ++ check ∷ [])) && b) (ap (λ n. list_all (pair_differs w) (group_pairs n groups)) (add-one check) ∙ groups-odd w (suc check) groups filled.1)

-- every group's pair differs exactly where every group is odd
pub group_pairs-differ : (w : List Bool) (check : ℕ) (groups : List (List ℕ)) → All (λ group. 0 < length group) groups
    → list_all (pair_differs w) (group_pairs check groups) ≡ list_all (λ group. odd (bits_at w group)) (members_from check groups)
group_pairs-differ w check groups filled = groups-odd w check groups (recursion_from_All _ groups filled)

-- a plan with outputs has a group
some_group : (groups : List (List ℕ)) → count_by (λ other. 0 == other) (concat_places groups) ≡ 1 → 0 < length groups
some_group [] h = absurd (omega arith)
some_group (group ∷ groups) h = omega arith

pub HasGroups-some : (P : CodePlan) → HasGroups P → 0 < P.outputs → 0 < length P.groups
HasGroups-some P h some = some_group P.groups (h.once 0 some)

pub length-group_pairs : (check : ℕ) (groups : List (List ℕ)) → length (group_pairs check groups) ≡ length groups
length-group_pairs check [] = refl
length-group_pairs check (group ∷ groups) = ap suc (length-group_pairs (check + 1) groups)
