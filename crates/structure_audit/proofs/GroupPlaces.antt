-- The places of the word that the groups of a plan have: within the word, and each list as it is written out.
use Rattle.std.proofs.Common.{◌≡◌, ℕ, zero, suc, ◌+◌, ◌<◌, ◌≤◌, List, [], ◌∷◌, ◌++◌, length, slice_index_or, All, sym, ap, subst, arith}
use Rattle.std.proofs.lemmas.List.{get_or_past, length-map}
use Rattle.std.proofs.lemmas.List.Elements.{All-push, All-nil, All-weaker}
use Rattle.fault_secure.specs.declared.code.Code.TheVariants.{Parity}
use Rattle.fault_secure.specs.Circuit.{Circuit}
use Rattle.fault_secure.specs.CodePlan.{CodePlan, monitored, members, concat_places, HasGroups, HasShape, IsWellMade, IsPlanOf}
use Rattle.tsc_net.specs.PlanView.{net_numbers}
use Rattle.tsc_net.specs.declared.ids.NetId.{NetId}
use Rattle.net_cones.proofs.MemberPlaces.{member_at}
use Rattle.structure_audit.specs.StructureReason.{places_of}
use Rattle.fault_secure.proofs.PlanSizes.{few_checks}
use Rattle.tsc_bits.proofs.Lists.{all_left, all_right}
use Rattle.fault_secure.proofs.PlanSizes.{length-members_from, monitored_count}

-- the places of a group: those of its outputs and that of its check
pub places_are : (P : CodePlan) (g : ℕ) → g < length P.groups → places_of P g ≡ slice_index_or P.groups g [] ++ (P.outputs + g) ∷ []
places_are P g within = member_at P.outputs P.groups g within

-- past the groups there are none
pub places_past : (P : CodePlan) (g : ℕ) → length P.groups ≤ g → length (places_of P g) ≡ 0
places_past P g past = ap length (get_or_past (members P) g [] (let e = length-members_from P.outputs P.groups in omega arith))

group_within : (n : ℕ) (groups : List (List ℕ)) (g : ℕ) → All (λ place. place < n) (concat_places groups) → All (λ place. place < n) (slice_index_or groups g [])
group_within n [] g all = All-nil (λ place. place < n)
group_within n (group ∷ groups) zero all = all_left (λ place. place < n) group (concat_places groups) all
group_within n (group ∷ groups) (suc g) all = group_within n groups g (all_right (λ place. place < n) group (concat_places groups) all)

module _ (P : CodePlan) (made : IsWellMade P) (parity : P.code ≡ Parity) where
  has_groups : HasGroups P
  has_groups = subst (λ code. HasShape code P) parity made.shape

  pub few_groups : length P.groups ≤ 64
  few_groups = let few = few_checks P made in let e = has_groups.paired in omega arith

  -- each place of a group is a place of the word, before the next state's
  pub places_within : (g : ℕ) → g < length P.groups → All (λ place. place < P.outputs + length P.checks) (places_of P g)
  places_within g there =
      let paired : length P.checks ≡ length P.groups = has_groups.paired in
      subst (All (λ place. place < P.outputs + length P.checks)) (sym (places_are P g there))
      (All-push (λ place. place < P.outputs + length P.checks) (slice_index_or P.groups g []) (P.outputs + g)
      (All-weaker (λ place. place < P.outputs) (λ place. place < P.outputs + length P.checks) (λ place low. omega arith) (slice_index_or P.groups g []) (group_within P.outputs P.groups g has_groups.within))
      (omega arith))

  pub places_few : (g : ℕ) → g < length P.groups → All (λ place. place < 128) (places_of P g)
  places_few g there =
      let most : P.outputs ≤ 64 = made.most_outputs in
      let few : length P.checks ≤ 64 = few_checks P made in
      All-weaker (λ place. place < P.outputs + length P.checks) (λ place. place < 128) (λ place low. omega arith) (places_of P g) (places_within g there)

pub word_few : (N : Circuit) (P : CodePlan) → IsWellMade P → IsPlanOf N P → length N.latches ≡ 0 → length (monitored N P) ≤ 128
word_few N P made plan none =
    let e = monitored_count N P plan in
    let few = few_checks P made in
    let most = made.most_outputs in
    omega arith

pub word_nets_few : (N : Circuit) (P : CodePlan) (word : List NetId) → IsWellMade P → IsPlanOf N P → length N.latches ≡ 0 → net_numbers word ≡ monitored N P → length word ≤ 128
word_nets_few N P word made plan none is =
    let few = word_few N P made plan none in
    let count : length (net_numbers word) ≡ length word = length-map word (λ (n : NetId). n.number) in
    let same : length (net_numbers word) ≡ length (monitored N P) = ap length is in
    omega arith
