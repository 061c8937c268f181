-- The moved plan is a plan of the mapped netlist, and well made.
use Rattle.std.proofs.Common.{ℕ, ◌+◌, ◌<◌, slice_index, length, sym, ap, subst, ◌∙◌, arith}
use Rattle.std.proofs.lemmas.List.{length-map, get_or-map}
use Rattle.std.proofs.lemmas.List.Elements.{All-map, All-weaker}
use Rattle.fault_secure.specs.declared.code.Code.{Code}
use Rattle.fault_secure.specs.declared.code.Code.TheVariants.{Parity, Berger, MOutOfN}
use Rattle.fault_secure.specs.Circuit.{nets}
use Rattle.fault_secure.specs.CodePlan.{CodePlan, IsBergerWidth, HasShape}
use Rattle.mapping_laws.specs.Mapping.{moved_plan}
use Rattle.mapping_laws.specs.MappingLaws.{MovedPlanIsPlan, MovedPlanIsWellMade}
use Rattle.mapping_laws.proofs.MappedBits.{same_latches}

pub moved_plan_is_plan : MovedPlanIsPlan
moved_plan_is_plan N G at block P m plan = record {
  outputs = ap length m.outputs ∙ length-map N.outputs at ∙ plan.outputs;
  rail1 = ap (λ ns. slice_index ns P.outputs) m.outputs ∙ get_or-map at N.outputs P.outputs 0 0 (omega (arith, plan.outputs)) ∙ ap at plan.rail1;
  rail2 = ap (λ ns. slice_index ns (P.outputs + 1)) m.outputs ∙ get_or-map at N.outputs (P.outputs + 1) 0 0 (omega (arith, plan.outputs)) ∙ ap at plan.rail2;
  checks = All-map (λ net. net < nets G) at P.checks (All-weaker (λ net. net < nets N) (λ net. at net < nets G) m.inside P.checks plan.checks);
  rails = (m.inside P.rail1 plan.rails.0, m.inside P.rail2 plan.rails.1);
  latches = plan.latches ∙ sym (same_latches N G at block m);
}

-- a code asks of the moved plan how many checks there are, and these are as many
shape_moved : (at : ℕ → ℕ) (P : CodePlan) (code : Code) → HasShape code P → HasShape code (moved_plan at P)
shape_moved at P Parity h = record { paired = length-map P.checks at ∙ h.paired; filled = h.filled; within = h.within; once = h.once }
shape_moved at P Berger h = (h.0, subst (IsBergerWidth P.outputs) (sym (length-map P.checks at)) h.1)
shape_moved at P MOutOfN h = (h.0, length-map P.checks at ∙ h.1)

pub moved_plan_is_well_made : MovedPlanIsWellMade
moved_plan_is_well_made at P h = record {
  versioned = h.versioned;
  some_output = h.some_output;
  most_outputs = h.most_outputs;
  shape = shape_moved at P P.code h.shape;
  states = record {
    none = h.states.none;
    some = h.states.some;
    sized = h.states.sized;
    weighed = h.states.weighed;
    distinct = h.states.distinct;
  };
}
