-- The steps of the loops over the outputs of a part, and over the parts.
use Rattle.std.proofs.Common.{◌≡◌, ℕ, ◌+◌, ◌<◌, ◌≤◌, List, [], ◌++◌, take, drop, length, get_or, Some, slice_get, sym, ap, ◌∙◌, append_assoc, arith}
use Rattle.std.proofs.lemmas.List.{length-map, length-take-le, get_or-map, get_or-take, drop_all}
use Rattle.code_checkers.proofs.Loops.{drop_at}
use Rattle.tsc_net.specs.Names.{with_text, text_at}
use Rattle.tsc_net.specs.PlanView.{net_numbers}
use Rattle.tsc_net.specs.declared.ids.NetId.{NetId}
use Rattle.module_join.specs.declared.part.Part.{Part}
use Rattle.module_join.specs.JointNet.{PlannedOf, with_texts}
use Rattle.module_join.specs.JoinLaws.{IsShownBy}
use Rattle.module_join.specs.JoinParts.{planned_as, parts_as}
use Rattle.joint_text.specs.JointNamed.{part_label, names_under, shown_names, shown_from, rail_pair, rail_names}
use Rattle.joint_text.proofs.PartSteps.{part_more}

module _ (label : List ℕ) (p : PlannedOf) (is : IsShownBy p.net.circuit p.plan) where
  abbrev shown : List ℕ
  shown = take p.plan.outputs p.net.circuit.outputs

  many : length (take p.plan.outputs p.net.circuit.outputs) ≡ p.plan.outputs
  many = let sized = is.outputs in length-take-le p.plan.outputs p.net.circuit.outputs (omega arith)

  pub shown_length : length (shown_names label p) ≡ p.plan.outputs
  shown_length = length-map shown (text_at (names_under label p.net)) ∙ many

  -- the name of the output at a place
  shown_at : (list : List NetId) (place : ℕ) (d : NetId) → net_numbers list ≡ p.net.circuit.outputs → place < p.plan.outputs
      → get_or (shown_names label p) place [] ≡ text_at (names_under label p.net) (get_or list place d).number
  shown_at list place d numbers low =
      let sized = is.outputs in
      let f : NetId → ℕ = λ id. id.number in
      let long : length list ≡ length p.net.circuit.outputs = sym (length-map list f) ∙ ap length numbers in
      get_or-map (text_at (names_under label p.net)) shown place 0 [] (omega (arith, many))
      ∙ ap (text_at (names_under label p.net))
      (get_or-take p.plan.outputs p.net.circuit.outputs place 0 low
      ∙ ap (λ (ns : List ℕ). get_or ns place 0) (sym numbers)
      ∙ get_or-map f list place d 0 (omega arith))

  -- a name that is added was the first of those that were left
  pub shown_step : (list : List NetId) (place : ℕ) (d : NetId) (seen : List (List ℕ)) (text : List ℕ) → net_numbers list ≡ p.net.circuit.outputs → place < p.plan.outputs
      → text ≡ text_at (names_under label p.net) (get_or list place d).number
      → with_texts (with_text seen text) (drop (place + 1) (shown_names label p)) ≡ with_texts seen (drop place (shown_names label p))
  shown_step list place d seen text numbers low is_text =
      ap (with_texts seen) (sym (drop_at (shown_names label p) place [] text (omega (arith, shown_length)) (is_text ∙ sym (shown_at list place d numbers low))))

  pub shown_end : (place : ℕ) (seen : List (List ℕ)) → p.plan.outputs ≤ place → with_texts seen (drop place (shown_names label p)) ≡ seen
  shown_end place seen e = ap (with_texts seen) (drop_all place (shown_names label p) (omega (arith, shown_length)))

-- one part more
pub part_shown : (prefix label : List ℕ) (parts : List Part) (place : ℕ) (p : Part) (seen next goal : List (List ℕ))
    → slice_get parts place ≡ Some p → label ≡ part_label prefix place → next ≡ with_texts seen (shown_names label (planned_as p))
    → shown_from prefix place seen (parts_as (drop place parts)) ≡ goal
    → shown_from prefix (place + 1) next (parts_as (drop (place + 1) parts)) ≡ goal
part_shown prefix label parts place p seen next goal found is added h =
    ap (λ (names : List (List ℕ)). shown_from prefix (place + 1) names (parts_as (drop (place + 1) parts)))
    (added ∙ ap (λ (l : List ℕ). with_texts seen (shown_names l (planned_as p))) is)
    ∙ ap (shown_from prefix place seen) (sym (part_more parts place p found))
    ∙ h

pub part_rails : (prefix label : List ℕ) (parts : List Part) (place : ℕ) (p : Part) (seen next goal : List (List ℕ))
    → slice_get parts place ≡ Some p → label ≡ part_label prefix place → next ≡ seen ++ rail_pair label (planned_as p)
    → seen ++ rail_names prefix place (parts_as (drop place parts)) ≡ goal
    → next ++ rail_names prefix (place + 1) (parts_as (drop (place + 1) parts)) ≡ goal
part_rails prefix label parts place p seen next goal found is added h =
    let rest = rail_names prefix (place + 1) (parts_as (drop (place + 1) parts)) in
    ap (λ (names : List (List ℕ)). names ++ rest) (added ∙ ap (λ (l : List ℕ). seen ++ rail_pair l (planned_as p)) is)
    ∙ append_assoc seen (rail_pair (part_label prefix place) (planned_as p)) rest
    ∙ ap (λ (ps : List PlannedOf). seen ++ rail_names prefix place ps) (sym (part_more parts place p found))
    ∙ h
