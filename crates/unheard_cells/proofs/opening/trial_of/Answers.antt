use Rattle.std.proofs.Common.{◌≡◌, ℕ, List, length, Result, Ok, Err, IfOk, sym, ap, ◌∙◌, subst}
use Rattle.fault_secure.specs.Circuit.{Circuit}
use Rattle.fault_secure.specs.CodePlan.{CodePlan, IsPlanOf}
use Rattle.tsc_net.specs.PlanView.{net_numbers}
use Rattle.tsc_net.specs.declared.ids.NetId.{NetId}
use Rattle.tsc_net.proofs.NetNumbers.{numbers_counted}
use Rattle.lane_sim.specs.Points.{ArePointsOf}
use Rattle.unheard_cells.specs.There.{shown_nets, watched_nets}
use Rattle.unheard_cells.specs.Spans.{AreSpansOf}
use Rattle.unheard_cells.specs.Trial.{AreNear, IsTrialOf}
use Rattle.unheard_cells.specs.declared.spans.Span.{Span}
use Rattle.unheard_cells.specs.declared.trial.Trial.{Trial}
use Rattle.unheard_cells.proofs.WatchLemmas.{shown_below}
use Rattle.unheard_cells.proofs.opening.trial_of.Goals as goal

made : {E : Type 0} (N : Circuit) (P : CodePlan) (watch : List NetId) (near : List (List NetId)) (spans : List Span) (r : Result Trial E) → IsPlanOf N P → net_numbers watch ≡ watched_nets N P
    → AreNear P (shown_nets N P) near → AreSpansOf N (shown_nets N P) (length (shown_nets N P)) spans → IfOk r (λ trial. trial.bench.circuit ≡ N) → IfOk r (λ trial. ArePointsOf N trial.points)
    → IfOk r (λ trial. trial.watch ≡ watch) → IfOk r (λ trial. trial.near ≡ near) → IfOk r (λ trial. trial.spans.items ≡ spans) → IfOk r (IsTrialOf N P)
made N P watch near spans (Ok trial) plan watched are_near are_spans circuit points same_watch same_near same_spans = record {
  plan = plan;
  circuit = circuit;
  points = points;
  watch = ap net_numbers same_watch ∙ watched;
  near = subst (AreNear P (shown_nets N P)) (sym same_near) are_near;
  spans = subst (AreSpansOf N (shown_nets N P) (length (shown_nets N P))) (sym same_spans) are_spans;
}
made N P watch near spans (Err e) plan watched are_near are_spans circuit points same_watch same_near same_spans = tt

pub node_spans-requires : goal.node_spans-requires
node_spans-requires c = record {
  within = shown_below c.args.net.now.circuit c.args.plan.now c.as_slice-2.result.now c.nets-nets.ensures.checked.closed (ap net_numbers c.as_slice-2.ensures.whole ∙ c.in_ok-shown.ensures.shown);
}

pub returns : goal.returns
returns c =
    let N = c.args.net.now.circuit in
    let P = c.args.plan.now in
    let shown = shown_nets N P in
    let near_is = ap net_numbers c.as_slice.ensures.whole ∙ c.in_ok-shown.ensures.shown in
    let spans_is = ap net_numbers c.as_slice-2.ensures.whole ∙ c.in_ok-shown.ensures.shown in
    let counted = numbers_counted c.as_slice-2.result.now shown spans_is in
    record {
      trial = made N P c.args.watch c.in_ok-near.near c.in_ok-spans.spans.items c.open_trial.result c.requires.plan c.requires.watch
          (subst (λ (list : List ℕ). AreNear P list c.in_ok-near.near) near_is c.in_ok-near.ensures.near)
          (subst (λ (list : List ℕ). AreSpansOf N list (length shown) c.in_ok-spans.spans.items) spans_is
          (subst (λ (n : ℕ). AreSpansOf N (net_numbers c.as_slice-2.result.now) n c.in_ok-spans.spans.items) counted c.in_ok-spans.ensures.spans))
          c.open_trial.ensures.circuit c.open_trial.ensures.points c.open_trial.ensures.watch c.open_trial.ensures.near c.open_trial.ensures.spans;
    }
