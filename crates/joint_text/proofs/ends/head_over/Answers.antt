use Rattle.std.proofs.Common.{◌≡◌, ℕ, List, [], length, IfOk, ap, sym, subst, ◌∙◌, arith}
use Rattle.std.proofs.lemmas.List.{length-map}
use Rattle.std.proofs.lemmas.Option.{get_or_from_slice_get}
use Rattle.tsc_net.specs.Names.{text_at}
use Rattle.module_join.specs.JoinParts.{planned_as, parts_as}
use Rattle.joint_text.specs.JointNamed.{prefix_of, rail_names}
use Rattle.joint_text.proofs.EndTexts.{head_is}
use Rattle.joint_text.proofs.TreeLines.{gate_names-length}
use Rattle.joint_text.proofs.ends.head_over.Goals as goal

pub get-requires : goal.get-requires
get-requires c =
    let long = gate_names-length (prefix_of (parts_as c.args.parts.now)) (rail_names (prefix_of (parts_as c.args.parts.now)) 0 (parts_as c.args.parts.now)) 0 c.args.tree.now.gates.gates in
    omega (arith, c.requires.tree.first_within, ap length c.requires.names, long, c.rail1.ensures.rail)

pub get-requires-2 : goal.get-requires-2
get-requires-2 c =
    let long = gate_names-length (prefix_of (parts_as c.args.parts.now)) (rail_names (prefix_of (parts_as c.args.parts.now)) 0 (parts_as c.args.parts.now)) 0 c.args.tree.now.gates.gates in
    omega (arith, c.requires.tree.second_within, ap length c.requires.names, long, c.rail2.ensures.rail)

pub returns : goal.returns
returns c =
    let names = c.args.tree.now.names in
    record {
      head = subst (λ (t : List ℕ). IfOk c.head_lines.result (λ head. head ≡ t))
          (head_is (parts_as c.args.parts.now) (length c.args.parts.now) (sym (length-map c.args.parts.now planned_as)) c.args.tree.now.gates c.args.tree.now.names
          c.requires.tree c.requires.names c.args.inputs.now c.in_ok-shown.shown c.as_slice-rail1.result.now c.as_slice-rail2.result.now
          c.requires.inputs c.in_ok-shown.ensures.names
          (c.as_slice-rail1.ensures.whole ∙ sym (get_or_from_slice_get names c.rail1.result _ [] c.get.ensures.found) ∙ ap (text_at names) c.rail1.ensures.rail)
          (c.as_slice-rail2.ensures.whole ∙ sym (get_or_from_slice_get names c.rail2.result _ [] c.get-2.ensures.found) ∙ ap (text_at names) c.rail2.ensures.rail))
          c.head_lines.ensures.head;
    }
