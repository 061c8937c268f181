-- How many checks a well-made plan has at most, and how many nets it monitors.
use Rattle.std.proofs.Common.{◌≡◌, ℕ, suc, ◌+◌, ◌<◌, ◌≤◌, List, [], ◌∷◌, ◌++◌, length, take, refl, ap, All, arith, length-append}
use Rattle.std.proofs.lemmas.List.{length-map, length-take-le}
use Rattle.std.proofs.lemmas.List.Elements.{All-head, All-tail, All-take, All-append, All-map}
use Rattle.tsc_bits.proofs.Below.{all_below, few_below}
use Rattle.fault_secure.specs.Circuit.{Circuit, LatchOf, nets}
use Rattle.fault_secure.specs.Closed.{IsClosed}
use Rattle.fault_secure.specs.CodePlan.{CodePlan, concat_places, members_from, monitored, next_nets, HasShape, IsPlanOf, IsWellMade}
use Rattle.fault_secure.specs.declared.code.Code.{Code}
use Rattle.fault_secure.specs.declared.code.Code.TheVariants.{Parity, Berger, MOutOfN}

-- groups that aren't empty have at least as many places as there are groups
pub filled : (groups : List (List ℕ)) → All (λ group. 0 < length group) groups → length groups ≤ length (concat_places groups)
filled [] h = omega arith
filled (group ∷ groups) h =
    let here : 0 < length group = All-head (λ (g : List ℕ). 0 < length g) group groups h in
    let rest = filled groups (All-tail (λ (g : List ℕ). 0 < length g) group groups h) in
    omega (arith, length-append group (concat_places groups))

by_code : (code : Code) (P : CodePlan) → P.outputs ≤ 64 → HasShape code P → length P.checks ≤ 64
by_code Parity P most shape =
    let places = filled P.groups shape.filled in
    let all = all_below P.outputs (concat_places P.groups) shape.within in
    let few = few_below P.outputs (concat_places P.groups) shape.once in
    let paired = shape.paired in
    omega arith
by_code Berger P most shape = let short : length P.checks ≤ 7 = shape.1.1 7 (omega arith) in omega arith
by_code MOutOfN P most shape = let same : length P.checks ≡ P.outputs = shape.1 in omega arith

-- a well-made plan has at most 64 checks
pub few_checks : (P : CodePlan) → IsWellMade P → length P.checks ≤ 64
few_checks P made = by_code P.code P made.most_outputs made.shape

-- a check a group
pub length-members_from : (check : ℕ) (groups : List (List ℕ)) → length (members_from check groups) ≡ length groups
length-members_from check [] = refl
length-members_from check (group ∷ groups) = ap suc (length-members_from (suc check) groups)

-- the monitored nets are the outputs, the checks and the nets at the latch inputs
pub monitored_count : (N : Circuit) (P : CodePlan) → IsPlanOf N P → length (monitored N P) ≡ P.outputs + length P.checks + length N.latches
monitored_count N P is =
    let outputs : length (take P.outputs N.outputs) ≡ P.outputs = (let e = is.outputs in length-take-le P.outputs N.outputs (omega (arith, e))) in
    let front = length-append (take P.outputs N.outputs) P.checks in
    let whole = length-append (take P.outputs N.outputs ++ P.checks) (next_nets N) in
    let next : length (next_nets N) ≡ length N.latches = length-map N.latches (λ l. l.reads) in
    omega (arith, outputs, front, whole, next)

-- the monitored nets are nets of the circuit
pub monitored_within : (N : Circuit) (P : CodePlan) → IsClosed N → IsPlanOf N P → All (λ net. net < nets N) (monitored N P)
monitored_within N P closed plan =
    All-append (λ net. net < nets N) (take P.outputs N.outputs ++ P.checks) (next_nets N)
    (All-append (λ net. net < nets N) (take P.outputs N.outputs) P.checks (All-take (λ net. net < nets N) P.outputs N.outputs closed.outputs) plan.checks)
    (All-map (λ net. net < nets N) (λ (l : LatchOf). l.reads) N.latches closed.latches)
