use Rattle.std.proofs.Common.{List, [], ◌∷◌, Bool, slice_index, get_or, sym, subst, arith}
use Rattle.std.proofs.lemmas.List.{get_or_default, length-map}
use Rattle.net_cones.specs.Cones.{MarksCone}
use Rattle.tsc_net.specs.PlanView.{net_numbers}
use Rattle.tsc_net.specs.declared.ids.NetId.{NetId}
use Rattle.unheard_cells.proofs.SpanLemmas.{one_root, wider_spans}
use Rattle.unheard_cells.proofs.spans.add_place.Goals as goal

pub returns-clause-spans : goal.returns-clause-spans
returns-clause-spans c =
    let N = c.args.net.now.circuit in
    let list = c.args.list.now in
    let place = c.args.place in
    let none : NetId = record { number = 0 } in
    let root : NetId = get_or list place none in
    wider_spans N (net_numbers list) place c.deref.result.now c.args.spans.now c.widen_marked.new.spans
    (omega (arith, length-map list (λ (net : NetId). net.number), c.requires.place)) c.requires.spans
    (subst (λ (marks : List Bool). MarksCone N (slice_index (net_numbers list) place ∷ []) marks) (sym c.deref.ensures.value)
    (one_root N list place root c.in_ok-marks.marks.items c.requires.place (get_or_default list place none root c.requires.place) c.in_ok-marks.ensures.marks))
    c.widen_marked.ensures.sized c.widen_marked.ensures.widened
