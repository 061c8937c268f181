-- The gates for the groups of a twin are those of its checker.
use Rattle.std.specs.List.{range_with_len, sum_by}
use Rattle.std.proofs.Common.{◌≡◌, ℕ, zero, suc, ◌+◌, ◌*◌, ◌<◌, ◌≤◌, List, [], ◌∷◌, ◌++◌, map, length, All, refl, sym, ap, ◌∙◌, subst, arith, length-append}
use Rattle.std.proofs.lemmas.List.{append-nil, get_or-map, length-map}
use Rattle.std.proofs.lemmas.List.FromFn.{length-range_with_len}
use Rattle.std.proofs.lemmas.List.Sums.{sum_by-cons}
use Rattle.std.proofs.lemmas.List.Elements.{All-append, All-push, All-weaker}
use Rattle.fault_secure.specs.Circuit.{Circuit}
use Rattle.fault_secure.specs.declared.code.Code.TheVariants.{Parity}
use Rattle.fault_secure.specs.CodePlan.{CodePlan, concat_places}
use Rattle.tsc_net.specs.declared.plan.Group.{Group}
use Rattle.code_checkers.specs.Signal.{Pair}
use Rattle.code_checkers.specs.Signal.Signal.{Buf}
use Rattle.code_checkers.specs.TwoRail.{tree}
use Rattle.code_checkers.specs.Checker.{group_pairs}
use Rattle.code_checkers.specs.GateList.{GateList, IsWalkOf, IsCheckerOf, IsGroupChecker}
use Rattle.code_checkers.proofs.Sizes.{checker-few}
use Rattle.register_synth.specs.TwinCircuit.{showing, with_watch, watched_word}
use Rattle.register_synth.proofs.GroupsWithin.{groups_read}
use Rattle.register_synth.proofs.WatchedGroups.{concat_push, stretch_below}
use Rattle.twin_synth.specs.TwinGates.{StandWithin}

-- one place more
pub stretch_more : (first count : ℕ) → range_with_len first (count + 1) ≡ range_with_len first count ++ (first + count) ∷ []
stretch_more first zero = ap (λ n. n ∷ []) (let e : first ≡ first + 0 = omega arith in e)
stretch_more first (suc count) =
    ap (range_with_len first) (let e : suc count + 1 ≡ suc (count + 1) = omega arith in e)
    ∙ ap (λ rest. first ∷ rest)
    (stretch_more (first + 1) count ∙ ap (λ n. range_with_len (first + 1) count ++ n ∷ []) (let e : first + 1 + count ≡ first + suc count = omega arith in e))

-- with the group of the watch there are no fewer groups
pub watch_counted : (outputs watched : ℕ) (groups : List (List ℕ)) → length groups ≤ length (with_watch outputs watched groups)
watch_counted outputs zero groups = omega arith
watch_counted outputs (suc more) groups = omega (arith, length-append groups (range_with_len outputs (suc more) ∷ []))

-- each of them has a place
pub watch_filled : (outputs watched : ℕ) (groups : List (List ℕ)) → All (λ group. 0 < length group) groups → All (λ group. 0 < length group) (with_watch outputs watched groups)
watch_filled outputs zero groups all = all
watch_filled outputs (suc more) groups all = All-push (λ group. 0 < length group) groups (range_with_len outputs (suc more)) all (omega arith)

-- and so has each group with these places
pub groups_filled : (outputs watched : ℕ) (groups : List (List ℕ)) (made : List Group) → map (λ (group : Group). group.places) made ≡ with_watch outputs watched groups
    → All (λ group. 0 < length group) groups → All (λ (group : Group). 0 < length group.places) made
groups_filled outputs watched groups made are all k d low =
    let here = get_or-map (λ (group : Group). group.places) made k d d.places low in
    let filled = subst (All (λ (group : List ℕ). 0 < length group)) (sym are) (watch_filled outputs watched groups all) in
    let there = filled k d.places (omega (arith, low, length-map made (λ (group : Group). group.places))) in
    subst (λ (places : List ℕ). 0 < length places) here there

-- the places of the groups stand below the outputs and what is watched
pub watch_within : (outputs watched : ℕ) (groups : List (List ℕ)) → All (λ place. place < outputs) (concat_places groups)
    → (most : ℕ) → outputs + watched ≤ most → All (λ place. place < most) (concat_places (with_watch outputs watched groups))
watch_within outputs zero groups within most h = All-weaker (λ place. place < outputs) (λ place. place < most) (λ place low. omega arith) (concat_places groups) within
watch_within outputs (suc more) groups within most h =
    subst (All (λ place. place < most)) (sym (concat_push groups (range_with_len outputs (suc more))))
    (All-append (λ place. place < most) (concat_places groups) (range_with_len outputs (suc more))
    (All-weaker (λ place. place < outputs) (λ place. place < most) (λ place low. omega arith) (concat_places groups) within)
    (stretch_below outputs (suc more) most h))

-- the gates for the groups are the checker of the twin of each source with so many outputs
pub checker_made : (outputs watched : ℕ) (groups places : List (List ℕ)) (made : GateList) → places ≡ with_watch outputs watched groups
    → IsGroupChecker (outputs + watched) places made → (T : Circuit) → length T.outputs ≡ outputs → IsCheckerOf (watched_word watched T groups) made
checker_made outputs watched groups places made are is T e =
    let sized : outputs + watched ≡ length (showing watched T).outputs = omega (arith, e, length-append T.outputs (range_with_len T.inputs watched), length-range_with_len T.inputs watched) in
    let pairs : group_pairs (outputs + watched) places ≡ group_pairs (length (showing watched T).outputs) (with_watch (length T.outputs) watched groups) ++ []
    = ap (λ n. group_pairs n places) sized ∙ ap (group_pairs (length (showing watched T).outputs)) (are ∙ ap (λ n. with_watch n watched groups) (sym e))
    ∙ sym (append-nil (group_pairs (length (showing watched T).outputs) (with_watch (length T.outputs) watched groups))) in
    subst (λ (list : List Pair). IsWalkOf (Buf (tree list).first) (Buf (tree list).second) made) pairs is

-- and they stand for places of its word alone
pub words_within : (outputs watched : ℕ) (groups places : List (List ℕ)) (made : GateList) → places ≡ with_watch outputs watched groups → 0 < length groups
    → IsGroupChecker (outputs + watched) places made → All (λ place. place < outputs) (concat_places groups)
    → StandWithin (outputs + watched + length (with_watch outputs watched groups)) made
words_within outputs watched groups places made are some is within =
    let most : ℕ = outputs + watched + length (with_watch outputs watched groups) in
    groups_read most (omega (arith, some, watch_counted outputs watched groups)) (outputs + watched) (with_watch outputs watched groups) made (omega arith)
    (watch_within outputs watched groups within most (omega arith)) (subst (λ list. IsGroupChecker (outputs + watched) list made) are is)

-- ---- how many gates

-- the places of the groups, and one for each group
places_counted : (groups : List (List ℕ)) → sum_by (λ group. 2 * length group + 1) groups ≡ 2 * length (concat_places groups) + length groups
places_counted [] = refl
places_counted (group ∷ groups) =
    omega (arith, sum_by-cons (λ group. 2 * length group + 1) group groups, length-append group (concat_places groups), places_counted groups)

watch_places : (outputs watched : ℕ) (groups : List (List ℕ)) → length (concat_places (with_watch outputs watched groups)) ≡ length (concat_places groups) + watched
watch_places outputs zero groups = omega arith
watch_places outputs (suc more) groups =
    omega (
      arith,
      ap length (concat_push groups (range_with_len outputs (suc more))),
      length-append (concat_places groups) (range_with_len outputs (suc more)),
      length-range_with_len outputs (suc more),
    )

watch_few : (outputs watched : ℕ) (groups : List (List ℕ)) → length (with_watch outputs watched groups) ≤ length groups + 1
watch_few outputs zero groups = omega arith
watch_few outputs (suc more) groups = omega (arith, length-append groups (range_with_len outputs (suc more) ∷ []))

-- two for each place and seven for each group, and some more, are enough
pub gates_few : (outputs watched : ℕ) (groups places : List (List ℕ)) (made : GateList) → places ≡ with_watch outputs watched groups
    → IsGroupChecker (outputs + watched) places made → length made.gates ≤ 2 * (length (concat_places groups) + watched) + 7 * length groups + 19
gates_few outputs watched groups places made are is =
    let plan : CodePlan = record {
      version = 1;
      code = Parity;
      outputs = outputs + watched;
      checks = [];
      groups = with_watch outputs watched groups;
      latches = 0;
      weight = 0;
      states = [];
      rail1 = 0;
      rail2 = 0;
    } in
    let pairs : group_pairs (outputs + watched) places ≡ group_pairs (outputs + watched) (with_watch outputs watched groups) ++ []
    = ap (group_pairs (outputs + watched)) are ∙ sym (append-nil (group_pairs (outputs + watched) (with_watch outputs watched groups))) in
    let few : length made.gates ≤ sum_by (λ group. 2 * length group + 1) (with_watch outputs watched groups) + 3 + 6 * (length (with_watch outputs watched groups) + 1) + 3
    = checker-few plan made (subst (λ (list : List Pair). IsWalkOf (Buf (tree list).first) (Buf (tree list).second) made) pairs is) in
    omega (arith, few, places_counted (with_watch outputs watched groups), watch_places outputs watched groups, watch_few outputs watched groups)
