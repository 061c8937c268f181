-- The twin of a source with registers, as it is answered.
use Rattle.std.specs.Prelude.{nat_lt}
use Rattle.std.proofs.Common.{◌≡◌, ℕ, ◌+◌, ◌<◌, ◌≤◌, ◌^◌, ◌∙◌, refl, Bool, true, false, List, [], ◌∷◌, ◌++◌, length, Option, None, All, sym, ap, subst, arith}
use Rattle.std.proofs.lemmas.List.Elements.{All-append, All-cons, All-head, All-nil, All-weaker}
use Rattle.fault_secure.specs.Circuit.{Circuit, nets}
use Rattle.fault_secure.specs.CodePlan.{CodePlan, IsPlanOf}
use Rattle.synth_ways.specs.declared.way.Way.TheVariants.{Duplex}
use Rattle.tsc_net.specs.NetlistOf.{IsBuilt, NetlistOf}
use Rattle.blif_read.specs.declared.clocks.Clock.{Clock}
use Rattle.blif_write.specs.NetLines.{AreNets}
use Rattle.blif_write.specs.RegisterText.{lists_of, register_plan_lines, register_text, registers_as_inputs}
use Rattle.blif_write.specs.Told.{IsTellable, TellsRegisters}
use Rattle.register_laws.specs.RegisterPlan.{RegisterPlan, IsRegisterPlanOf, IsWatchList}
use Rattle.register_laws.specs.RegisterSecure.{IsRegisterSecure, IsRegisterFaultSecure}
use Rattle.register_synth.specs.Kept.{kept_part}
use Rattle.register_synth.specs.TwinCircuit.{twin_circuit, watched_plan}
use Rattle.twin_synth.specs.TwinNetlist.{IsTwinNetlist, register_plan, watched_of}
use Rattle.twin_synth.specs.TwinNetlist.{twin_netlist}
use Rattle.twin_synth.proofs.TwinTellable.{twin_is_tellable}
use Rattle.tsc_synth.specs.CoverBound.{cover_bound, is_too_large, is_too_large_twin, twin_bound, watch_bound}
use Rattle.blif_read.specs.declared.kinds.Kind.TheVariants.{Registers}
use Rattle.refusals.specs.declared.refusal.Refusal.{Refusal}
use Rattle.text_sections.specs.Denoted.{clock_in, netlist_in}
use Rattle.text_sections.specs.Refused.{IsRefusedBy, text_refusal}
use Rattle.text_sections.proofs.SectionLemmas.{allowed_both, refused_later}
use Rattle.answers.specs.Refused.{size_refusal, twin_refusal}
use Rattle.answers.specs.NetworkAnswers.{IsSynthesis}
use Rattle.answers.specs.TwinAnswers.{IsRegisterSynthesis, IsTwinAnswer, IsTwinFor}

module _ (S : NetlistOf) (clock : Option Clock) (watching : Bool) (N : NetlistOf) (P : CodePlan) (watch : List ℕ) (is : IsTwinNetlist S clock watching N P watch) where
  abbrev made : Circuit
  made = twin_circuit (watched_of watching is.registers) (kept_part S.circuit is.registers is.covers) is.groups

  abbrev plan : RegisterPlan
  plan = register_plan (length N.circuit.latches) P watch

  -- what holds of the stated circuit and plan holds of these
  of_these : (Q : Circuit → RegisterPlan → Type 0) → Q made (watched_plan (watched_of watching is.registers) (kept_part S.circuit is.registers is.covers) is.groups) → Q N.circuit plan
  of_these Q h = subst (λ C. Q C plan) (sym (ap (λ (n : NetlistOf). n.circuit) is.net)) (subst (Q made) (sym is.plan) h)

  planned : IsRegisterPlanOf N.circuit plan
  planned = of_these IsRegisterPlanOf is.whole.twin.planned

  nets_same : (net : ℕ) → net < nets N.circuit → net < nets (registers_as_inputs N.circuit)
  nets_same net h = omega arith

  -- the plan is of the netlist with its registers as further inputs
  pub plan_of_inputs : IsPlanOf (registers_as_inputs N.circuit) P
  plan_of_inputs =
      let is_of = planned.plan_of in
      record {
        outputs = is_of.outputs;
        rail1 = is_of.rail1;
        rail2 = is_of.rail2;
        checks = All-weaker (λ net. net < nets N.circuit) (λ net. net < nets (registers_as_inputs N.circuit)) nets_same P.checks is_of.checks;
        rails = (nets_same P.rail1 is_of.rails.0, nets_same P.rail2 is_of.rails.1);
        latches = is.latches;
      }

  watch_inside : (list : List ℕ) → All (IsWatchList N.circuit) (lists_of list) → AreNets N.circuit list
  watch_inside [] all = All-nil (λ net. net < nets N.circuit)
  watch_inside (net ∷ more) all =
      let w = All-head (IsWatchList N.circuit) (net ∷ more) [] all in
      let P : List ℕ → Type 0 = AreNets N.circuit in
      subst P (sym w.parts)
      (All-append (λ net. net < nets N.circuit) w.registers (w.check ∷ [])
      (All-weaker (λ net. (N.circuit.inputs ≤ net) × (net < N.circuit.inputs + length N.circuit.latches)) (λ net. net < nets N.circuit) (λ net h. omega (arith, h.1)) w.registers w.latches)
      (All-cons (λ net. net < nets N.circuit) w.check [] w.inside (All-nil (λ net. net < nets N.circuit))))

  -- what is watched are nets of it
  pub watch_nets : AreNets N.circuit watch
  watch_nets = watch_inside watch planned.watched

  -- and it is secure
  pub twin_for : length N.circuit.nodes ≤ twin_bound watching S.circuit → IsTwinFor watching S clock N P watch
  twin_for few = record {
    twin = is;
    covers = few;
    cells = of_these (IsRegisterSecure S.circuit) is.whole.twin.secure;
    secure = of_these (IsRegisterFaultSecure S.circuit) is.whole.twin.fault_secure;
  }

  -- and a text tells it, where one tells the source
  pub tellable : IsBuilt S → IsTellable S → IsBuilt N → IsTellable N
  tellable checked told built =
      subst IsTellable (sym is.net)
      (twin_is_tellable S clock is.registers is.covers is.groups (watched_of watching is.registers) checked told is.kept
      (subst (λ (n : NetlistOf). nets n.circuit < 2 ^ 32) is.net built.few))

-- ---- the answer

-- the text of the twin of the source that a text denotes
pub register_synthesis : (watching : Bool) (text answer : List ℕ) (source N : NetlistOf) (clock : Option Clock) (P : CodePlan) (watch : List ℕ) → netlist_in text ≡ source → clock_in text ≡ clock
    → answer ≡ register_text clock N P (lists_of watch) → TellsRegisters clock answer N (register_plan_lines N P (lists_of watch)) → IsTwinFor watching source clock N P watch
    → IsRegisterSynthesis watching text answer
register_synthesis watching text answer source N clock P watch source_is clock_is written told secure = record {
  net = N;
  plan = P;
  watch = watch;
  written = subst (λ c. answer ≡ register_text c N P (lists_of watch)) (sym clock_is) written;
  told = subst (λ c. TellsRegisters c answer N (register_plan_lines N P (lists_of watch))) (sym clock_is) told;
  secure = subst (λ c. IsTwinFor watching (netlist_in text) c N P watch) (sym clock_is) (subst (λ s. IsTwinFor watching s clock N P watch) (sym source_is) secure);
}

-- of a source without registers the bound on covers is that of a network
pub network_bound : (watching : Bool) (C : Circuit) → length C.latches ≡ 0 → is_too_large_twin watching C ≡ is_too_large Duplex C
network_bound watching C none =
    ap (nat_lt 1048576) (ap (λ n. cover_bound Duplex C + watch_bound watching n) none ∙ ap (λ n. cover_bound Duplex C + n) (free watching) ∙ plus-zero (cover_bound Duplex C))
  where
    free : (b : Bool) → watch_bound b 0 ≡ 0
    free true = refl
    free false = refl

    plus-zero : (n : ℕ) → n + 0 ≡ n
    plus-zero n = omega arith

-- the answer to a source without registers, and to one with some
pub of_network : (watching : Bool) (text answer : List ℕ) (source : NetlistOf) → netlist_in text ≡ source → length source.circuit.latches ≡ 0 → IsSynthesis Duplex text answer
    → IsTwinAnswer watching text answer
of_network watching text answer source is none made =
    let same : length (netlist_in text).circuit.latches ≡ 0 = ap (λ (n : NetlistOf). length n.circuit.latches) is ∙ none in
    record { network = λ _. made; registers = λ some. absurd (omega (arith, some, same)) }

pub of_registers : (watching : Bool) (text answer : List ℕ) (source : NetlistOf) → netlist_in text ≡ source → (length source.circuit.latches ≡ 0 → ⊥) → IsRegisterSynthesis watching text answer
    → IsTwinAnswer watching text answer
of_registers watching text answer source is some made =
    record { network = λ none. absurd (some (sym (ap (λ (n : NetlistOf). length n.circuit.latches) is) ∙ none)); registers = λ _. made }

-- ---- what refuses it

module _ (watching : Bool) (text : List ℕ) (source : NetlistOf) (is : netlist_in text ≡ source) (allowed : text_refusal Registers text ≡ None) where
  bound_is : is_too_large_twin watching source.circuit ≡ is_too_large_twin watching (netlist_in text).circuit
  bound_is = ap (λ (n : NetlistOf). is_too_large_twin watching n.circuit) (sym is)

  pub twin_allowed : size_refusal (is_too_large_twin watching source.circuit) ≡ None → twin_refusal watching text ≡ None
  twin_allowed fits =
      allowed_both (text_refusal Registers text) (size_refusal (is_too_large_twin watching (netlist_in text).circuit)) allowed (ap size_refusal (sym bound_is) ∙ fits)

  pub twin_refused : (given : Refusal) → IsRefusedBy (size_refusal (is_too_large_twin watching source.circuit)) given → IsRefusedBy (twin_refusal watching text) given
  twin_refused given refused =
      refused_later (text_refusal Registers text) (size_refusal (is_too_large_twin watching (netlist_in text).circuit)) given allowed
      (subst (λ b. IsRefusedBy (size_refusal b) given) bound_is refused)

  module _ (none : length source.circuit.latches ≡ 0) where
    pub network_allowed : size_refusal (is_too_large Duplex source.circuit) ≡ None → twin_refusal watching text ≡ None
    network_allowed fits = twin_allowed (ap size_refusal (network_bound watching source.circuit none) ∙ fits)

    pub network_refused : (given : Refusal) → IsRefusedBy (size_refusal (is_too_large Duplex source.circuit)) given → IsRefusedBy (twin_refusal watching text) given
    network_refused given refused = twin_refused given (subst (λ b. IsRefusedBy (size_refusal b) given) (sym (network_bound watching source.circuit none)) refused)
