use Rattle.std.proofs.Common.{◌≡◌, ◌+◌, ◌<◌, ◌++◌, ◌∷◌, [], ℕ, List, map, length, slice_index_or, sym, ◌∙◌, ap, ap₂, arith, rules}
use Rattle.std.proofs.lemmas.List.{get_or-map, length-map}
use Rattle.fault_secure.specs.CodePlan.{CodePlan}
use Rattle.tsc_net.specs.declared.plan.Group.{Group}
use Rattle.structure_audit.specs.StructureReason.{places_of}
use Rattle.structure_audit.proofs.GroupPlaces.{places_are}
use Rattle.structure_audit.proofs.shared.line_places.Goals as goal

-- the places that are gathered from a kept group
gathered : (P : CodePlan) (groups : List Group) (outputs g : ℕ) (group : Group) (list items made : List ℕ) → map (λ (k : Group). k.places) groups ≡ P.groups → outputs ≡ P.outputs
    → g < length P.groups → group ≡ slice_index_or groups g group → list ≡ group.places → items ≡ list → made ≡ items ++ (outputs + g) ∷ [] → made ≡ places_of P g
gathered P groups outputs g group list items made kept same there at list_is items_are made_is =
    let count : length (map (λ (k : Group). k.places) groups) ≡ length groups = length-map groups (λ (k : Group). k.places) in
    let all : length (map (λ (k : Group). k.places) groups) ≡ length P.groups = ap length kept in
    let here : slice_index_or P.groups g [] ≡ group.places
    = ap (λ (list : List (List ℕ)). slice_index_or list g []) (sym kept) ∙ get_or-map (λ (k : Group). k.places) groups g group [] (omega arith) ∙ ap (λ (k : Group). k.places) (sym at) in
    made_is ∙ ap₂ (λ (xs : List ℕ) (n : ℕ). xs ++ (n + g) ∷ []) (items_are ∙ list_is ∙ sym here) same ∙ sym (places_are P g there)

pub returns : goal.returns
returns c =
    let longer : c.push.new.self ≡ c.in_ok-places.places ++ (c.plan.inside.outputs + c.args.group) ∷ [] = search rules in
    record {
      places = gathered c.args.plan.now c.plan.inside.groups c.plan.inside.outputs c.args.group c.get.result.now c.as_slice-outputs.result.now c.in_ok-places.places c.push.new.self
          (ap (λ (P : CodePlan). P.groups) c.plan.view_is) (ap (λ (P : CodePlan). P.outputs) c.plan.view_is) c.requires.group c.get.ensures.item c.as_slice-outputs.ensures.whole c.in_ok-places.ensures.same longer;
    }
