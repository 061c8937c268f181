use Rattle.std.proofs.Common.{◌≡◌, ℕ, Bool, List, Result, Ok, Err, IfOk, sym, ◌∙◌, ap, subst}
use Rattle.fault_secure.specs.Circuit.{Circuit}
use Rattle.net_cones.specs.Cones.{MarksCone, marked, IsCone}
use Rattle.net_cones.specs.ConeMarks.{cone_marks, cone_of}
use Rattle.net_cones.proofs.MarkedCone.{marked_cone}
use Rattle.tsc_net.specs.PlanView.{net_numbers}
use Rattle.net_cones.proofs.cones.cone_places.Goals as goal

copied : {E : Type 0} (C : Circuit) (roots : List ℕ) (marks seen : List Bool) (places : List ℕ) (r : Result (List ℕ) E) → MarksCone C roots marks → seen ≡ marks → places ≡ marked seen
    → IfOk r (λ list. list ≡ places) → IfOk r (IsCone C roots)
copied C roots marks seen places (Ok list) is same from here = subst (IsCone C roots) (sym (here ∙ from ∙ ap marked same)) (marked_cone C roots marks is)
copied C roots marks seen places (Err e) is same from here = here

computed : {E : Type 0} (C : Circuit) (roots : List ℕ) (marks seen : List Bool) (places : List ℕ) (r : Result (List ℕ) E) → marks ≡ cone_marks C roots → seen ≡ marks → places ≡ marked seen
    → IfOk r (λ list. list ≡ places) → IfOk r (λ list. list ≡ cone_of C roots)
computed C roots marks seen places (Ok list) is same from here = here ∙ from ∙ ap marked (same ∙ is)
computed C roots marks seen places (Err e) is same from here = here

pub returns : goal.returns
returns c = record {
  cone = copied c.args.net.now.circuit (net_numbers c.args.roots.now) c.in_ok-marks.marks.items c.deref.result.now _ c.from_slice.result
      c.in_ok-marks.ensures.marks c.deref.ensures.value (c.deref-2.ensures.value ∙ c.in_ok-places.ensures.places) c.from_slice.ensures.same;
  computed = computed c.args.net.now.circuit (net_numbers c.args.roots.now) c.in_ok-marks.marks.items c.deref.result.now _ c.from_slice.result
      c.in_ok-marks.ensures.computed c.deref.ensures.value (c.deref-2.ensures.value ∙ c.in_ok-places.ensures.places) c.from_slice.ensures.same;
}
