use Rattle.std.proofs.Common.{◌≡◌, ℕ, ◌+◌, ◌-◌, ◌∷◌, List, length, drop, take, slice_index_or, sym, ap, ◌∙◌, arith}
use Rattle.std.proofs.lemmas.List.{length_push, length-drop, drop-map, take_all}
use Rattle.tsc_net.specs.PlanView.{net_numbers}
use Rattle.tsc_net.specs.declared.ids.NetId.{NetId}
use Rattle.unheard_cells.proofs.SpanLemmas.{near_more}
use Rattle.unheard_cells.proofs.watched.near_lists.Goals as goal

pub loop-low-preserved : goal.loop-low-preserved
loop-low-preserved c =
    let P = c.args.plan.now in
    let shown = c.args.shown.now in
    let low = c.loop-low.low in
    let near = c.loop-low.near in
    let list = c.in_ok-list.list in
    let whole : take (length shown - low) (drop low shown) ≡ drop low shown = take_all (length shown - low) (drop low shown) (omega (arith, length-drop low shown)) in
    let here = c.in_ok-list.ensures.rails ∙ ap (λ (rest : List NetId). P.rail1 ∷ (P.rail2 ∷ net_numbers rest)) whole ∙ ap (λ (rest : List ℕ). P.rail1 ∷ (P.rail2 ∷ rest)) (sym (drop-map (λ (net : NetId). net.number) low shown)) in
    record {
      sized = ap length c.in_ok-push.ensures.ok ∙ length_push near list ∙ ap (λ (n : ℕ). n + 1) c.loop-low.invariant.sized;
      each = λ k d below.
          ap (λ (lists : List (List NetId)). net_numbers (slice_index_or lists k d)) c.in_ok-push.ensures.ok
          ∙ near_more P (net_numbers shown) near low list c.loop-low.invariant.sized c.loop-low.invariant.each here k d below;
    }
