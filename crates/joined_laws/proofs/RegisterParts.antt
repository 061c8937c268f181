-- What a synthesis of two copies answers to a source with registers is a part of a joint, secure for that source under the plan that is read of it.
use Rattle.std.proofs.Common.{◌≡◌, ℕ, ◌+◌, ◌-◌, Bool, List, length, Option, Some, refl, sym, ap, subst, ◌∙◌, arith}
use Rattle.std.specs.Prelude.{slice_index_or}
use Rattle.std.specs.Option.{unwrap_or}
use Rattle.tsc_text.specs.Lines.{lines_of}
use Rattle.tsc_text.specs.TextLine.{TextLine}
use Rattle.fault_secure.specs.Circuit.{Circuit}
use Rattle.fault_secure.specs.CodePlan.{CodePlan, IsPlanOf}
use Rattle.tsc_net.specs.NetlistOf.{NetlistOf, netlist_of}
use Rattle.blif_read.specs.Denotes.{plan_at, plan_text}
use Rattle.blif_read.specs.NamedText.{named_text}
use Rattle.blif_read.specs.PlanText.{code_line, seen_net}
use Rattle.blif_read.specs.RegisterFault.{lists_states}
use Rattle.blif_read.specs.declared.kinds.Kind.TheVariants.{AnyPlan}
use Rattle.blif_write.specs.RegisterText.{clock_words, lists_of, register_plan_lines}
use Rattle.blif_write.specs.Told.{clocked_before_end}
use Rattle.register_laws.specs.RegisterPlan.{RegisterPlan, IsRegisterPlanOf}
use Rattle.register_laws.specs.RegisterSecure.{IsRegisterSecure}
use Rattle.register_joints.specs.PartSource.{IsSeenAlike, IsPartSecure, Registers}
use Rattle.register_joints.proofs.JoinedParts.{register_secure_is_part}
use Rattle.register_synth.specs.Kept.{kept_part}
use Rattle.register_synth.specs.TwinCircuit.{twin_circuit, watched_plan}
use Rattle.twin_synth.specs.TwinNetlist.{register_plan, watched_of}
use Rattle.text_sections.specs.Denoted.{clock_in, first_any_plan, first_lines, netlist_in, no_plan}
use Rattle.answers.specs.TwinAnswers.{IsRegisterSynthesis}

-- ---- the plan that is read

-- what a joint sees of the plan that lines state: the outputs except the last two, which are the rails
abbrev outputs_seen : Circuit → ℕ
outputs_seen N = length N.outputs - 2

-- a plan of a netlist is seen as one that lines state for it, which see the netlist with its registers as further inputs or not
seen_alike : (N : NetlistOf) (P : CodePlan) → IsPlanOf N.circuit P → (lines : List TextLine) (head : TextLine) → code_line lines ≡ Some head
    → IsSeenAlike P (unwrap_or (plan_text AnyPlan lines N) no_plan)
seen_alike N P is lines head coded =
    let outs = N.circuit.outputs in
    let count : P.outputs ≡ outputs_seen N.circuit = (let e = is.outputs in omega (arith, e)) in
    let Alike : Option TextLine → Type 0 = λ first. IsSeenAlike P (unwrap_or (plan_at first lines (seen_net (lists_states lines) N)) no_plan) in
    let made : Alike (Some head) = record {
      outputs = count;
      rail1 = sym is.rail1 ∙ ap (λ n. slice_index_or outs n 0) count;
      rail2 = sym is.rail2 ∙ ap (λ n. slice_index_or outs (n + 1) 0) count;
    } in
    subst Alike (sym coded) made

-- ---- the answer

module _ (watching : Bool) (source answer : List ℕ) (made : IsRegisterSynthesis watching source answer) where
  abbrev S : Circuit
  S = (netlist_in source).circuit

  -- its plan, as one of a netlist with latches
  abbrev P : RegisterPlan
  P = register_plan (length made.net.circuit.latches) made.plan made.watch

  -- the lines of its section
  abbrev section : List TextLine
  section = clocked_before_end (clock_words (clock_in source)) made.net (register_plan_lines made.net made.plan (lists_of made.watch))

  section_is : first_lines (lines_of answer) ≡ section
  section_is = ap first_lines made.told.told.lines ∙ made.told.told.section

  net_is : netlist_in answer ≡ made.net
  net_is = ap (λ lines. netlist_of (named_text lines)) section_is ∙ made.told.told.same

  -- its circuit and plan, as the synthesis makes them of the two copies
  abbrev circuit : Circuit
  circuit =
      twin_circuit (watched_of watching made.secure.twin.registers) (kept_part S made.secure.twin.registers made.secure.twin.covers) made.secure.twin.groups

  abbrev plan : RegisterPlan
  plan =
      watched_plan (watched_of watching made.secure.twin.registers) (kept_part S made.secure.twin.registers made.secure.twin.covers) made.secure.twin.groups

  -- the plan is of the netlist
  planned : IsRegisterPlanOf made.net.circuit P
  planned =
      subst (λ C. IsRegisterPlanOf C P) (sym (ap (λ (n : NetlistOf). n.circuit) made.secure.twin.net))
      (subst (IsRegisterPlanOf circuit) (sym made.secure.twin.plan) made.secure.twin.whole.twin.planned)

  -- a joint sees in it what it sees in the plan that is read
  alike : IsSeenAlike P.plan (first_any_plan (lines_of answer))
  alike =
      let Alike : List TextLine → NetlistOf → Type 0 = λ lines net. IsSeenAlike P.plan (unwrap_or (plan_text AnyPlan lines net) no_plan) in
      let here : Alike section made.net = seen_alike made.net P.plan planned.plan_of section _ refl in
      subst (λ lines. Alike lines (netlist_in answer)) (sym section_is) (subst (Alike section) (sym net_is) here)

  pub registers_are_part : IsPartSecure (Registers S) (netlist_in answer).circuit (first_any_plan (lines_of answer))
  registers_are_part =
      let cells : IsRegisterSecure S (netlist_in answer).circuit P =
      subst (λ (n : NetlistOf). IsRegisterSecure S n.circuit P) (sym net_is) made.secure.cells in
      register_secure_is_part S (netlist_in answer).circuit P (first_any_plan (lines_of answer)) alike cells
