-- A text that is simulated: what is refused of it, and its answer.
use Rattle.std.proofs.Common.{◌≡◌, ℕ, Bool, true, false, List, drop, Option, None, Result, Ok, Err, refl, sym, ◌∙◌, ap, subst}
use Rattle.tsc_text.specs.Bytes.{bad_line}
use Rattle.tsc_text.specs.Lines.{lines_of}
use Rattle.tsc_text.specs.TextLine.{TextLine}
use Rattle.tsc_text.specs.declared.section.Section.{Section}
use Rattle.fault_secure.specs.Circuit.{Circuit}
use Rattle.fault_secure.specs.CodePlan.{CodePlan, IsPlanOf}
use Rattle.fault_sim.specs.PlanNets.{HasPlanNets}
use Rattle.fault_sim.proofs.PlanNets.{opened_plan_nets, plan_nets}
use Rattle.blif_read.specs.PlanText.{seen_circuit}
use Rattle.tsc_net.specs.NetlistOf.{NetlistOf}
use Rattle.blif_read.specs.declared.kinds.Kind.TheVariants.{AnyPlan}
use Rattle.buffered_sink.specs.Output.{Output}
use Rattle.refusals.specs.declared.refusal.Refusal.{Refusal}
use Rattle.refusals.specs.declared.text_refusal.TextRefusal.{TextRefusal}
use Rattle.refusals.specs.declared.refusal.Refusal.TheVariants.{WriteFault}
use Rattle.netlist_answers.specs.SimEnds.{EndsWith, RunEnds, SimulationEnds, TextEnds}
use Rattle.commands.specs.declared.sim_words.SimFault.{SimFault}
use Rattle.netlist_answers.specs.Answers.{IsSimulation}
use Rattle.text_sections.specs.Refused.{IsRefusedBy, byte_refusal, first_of, first_refusal}
use Rattle.netlist_answers.specs.Refused.{run_refusal, sim_lines_refusal, sim_refusal}
use Rattle.text_sections.specs.Denoted.{first_any_plan, first_net, first_section, lines_behind}
use Rattle.netlist_answers.specs.Simulated.{IsRunOf}
use Rattle.text_sections.proofs.SectionLemmas.{allowed_both, refused_first, refused_later}

-- the nets of a plan, whether it lists states or not
pub any_plan_nets : (lists : Bool) (N : Circuit) (P : CodePlan) → IsPlanOf (seen_circuit lists N) P → HasPlanNets N P
any_plan_nets true N P is = plan_nets N P is
any_plan_nets false N P is = opened_plan_nets N P is

-- a text whose lines are refused, or allowed
pub refused_sim : (fault : SimFault) (text : List ℕ) (lines : List TextLine) (given : Refusal)
    → lines ≡ lines_of text → bad_line text ≡ None → IsRefusedBy (sim_lines_refusal fault lines) given → IsRefusedBy (sim_refusal fault text) given
refused_sim fault text lines given are sound refused =
    let P : List TextLine → Type 0 = λ l. IsRefusedBy (sim_lines_refusal fault l) given in
    refused_later (byte_refusal (bad_line text)) (sim_lines_refusal fault (lines_of text)) given (ap byte_refusal sound) (subst P are refused)

pub allowed_sim : (fault : SimFault) (text : List ℕ) (lines : List TextLine)
    → lines ≡ lines_of text → bad_line text ≡ None → sim_lines_refusal fault lines ≡ None → sim_refusal fault text ≡ None
allowed_sim fault text lines are sound allowed =
    allowed_both (byte_refusal (bad_line text)) (sim_lines_refusal fault (lines_of text)) (ap byte_refusal sound) (ap (sim_lines_refusal fault) (sym are) ∙ allowed)

-- lines that begin with a netlist, and its run over the lines behind it
module _ (fault : SimFault) (lines : List TextLine) (net : NetlistOf) (section : Section) (is : net ≡ first_net lines) (at : section ≡ first_section lines) where
  simulation : (plan : CodePlan) (bytes : List ℕ) → plan ≡ first_any_plan lines
      → IsRunOf fault net plan (drop section.next lines) bytes → IsSimulation fault lines bytes
  simulation plan bytes denoted run =
      let P : NetlistOf → Type 0 = λ n. IsRunOf fault n plan (drop section.next lines) bytes in
      let Q : Section → Type 0 = λ s. IsRunOf fault (first_net lines) plan (drop s.next lines) bytes in
      let S : CodePlan → Type 0 = λ p. IsRunOf fault (first_net lines) p (lines_behind lines) bytes in
      subst S denoted (subst Q at (subst P is run))

-- the answer, seen of the text
simulation-of : (fault : SimFault) (text : List ℕ) (lines : List TextLine) (bytes : List ℕ)
    → lines ≡ lines_of text → IsSimulation fault lines bytes → IsSimulation fault (lines_of text) bytes
simulation-of fault text lines bytes are made = let P : List TextLine → Type 0 = λ l. IsSimulation fault l bytes in subst P are made

-- ---- how a simulation ends, seen of the netlist, of the lines and of the text

module _ (A B : List ℕ → Type 0) (r q : Option TextRefusal) (before after : Output) (answers : (answer : List ℕ) → A answer → B answer) (allowed : r ≡ None → q ≡ None)
    (refused : (given : Refusal) → IsRefusedBy r given → IsRefusedBy q given) where
  ends_with : {T : Type 0} (result : Result T Refusal) → EndsWith A r result before after → EndsWith B q result before after
  ends_with (Ok done) ends = (ends.0, answers ends.0 ends.1, allowed ends.2, ends.3)
  ends_with (Err WriteFault) ends = (ends.0, answers ends.0 ends.1, allowed ends.2, ends.3)
  ends_with (Err given) ends = (refused given ends.0, ends.1)

-- lines that begin with a netlist which is not refused, seen of the netlist's run
module _ (fault : SimFault) (lines : List TextLine) (net : NetlistOf) (section : Section) (is : net ≡ first_net lines) (at : section ≡ first_section lines) where
  -- the run over what stands behind the section
  behind : run_refusal fault net (drop section.next lines) ≡ run_refusal fault (first_net lines) (lines_behind lines)
  behind = ap (λ n. run_refusal fault n (drop section.next lines)) is ∙ ap (λ s. run_refusal fault (first_net lines) (drop s.next lines)) at

  pub lines_end : {T : Type 0} (plan : CodePlan) (result : Result T Refusal) (before after : Output) → first_refusal AnyPlan lines ≡ None
      → plan ≡ first_any_plan lines → RunEnds fault net plan (drop section.next lines) result before after → SimulationEnds fault lines result before after
  lines_end plan result before after sound denoted ends =
      let r : Option TextRefusal = run_refusal fault net (drop section.next lines) in
      let first : Option TextRefusal = first_refusal AnyPlan lines in
      let later : Option TextRefusal = run_refusal fault (first_net lines) (lines_behind lines) in
      let refused : (given : Refusal) → IsRefusedBy r given → IsRefusedBy (sim_lines_refusal fault lines) given =
      λ given p. let P : Option TextRefusal → Type 0 = λ o. IsRefusedBy o given in refused_later first later given sound (subst P behind p) in
      ends_with (IsRunOf fault net plan (drop section.next lines)) (IsSimulation fault lines) r (sim_lines_refusal fault lines) before after
      (λ bytes run. simulation fault lines net section is at plan bytes denoted run) (λ none. allowed_both first later sound (sym behind ∙ none)) refused result ends

-- the same of a text without a bad byte, seen of its lines
pub text_ends : {T : Type 0} (fault : SimFault) (text : List ℕ) (lines : List TextLine) (result : Result T Refusal) (before after : Output)
    → lines ≡ lines_of text → bad_line text ≡ None → SimulationEnds fault lines result before after → TextEnds fault text result before after
text_ends fault text lines result before after are sound ends =
    ends_with (IsSimulation fault lines) (IsSimulation fault (lines_of text)) (sim_lines_refusal fault lines) (sim_refusal fault text) before after
    (λ bytes made. simulation-of fault text lines bytes are made) (λ none. allowed_sim fault text lines are sound none)
    (λ given refused. refused_sim fault text lines given are sound refused) result ends

-- ---- what refuses a text is no failed write, so that a refused simulation ends with nothing printed

module _ (A : List ℕ → Type 0) (first later : Option TextRefusal) (at : Output) where
  first_ends : (given : Refusal) → IsRefusedBy first given → EndsWith {T = Unit {0}} A (first_of first later) (Err given) at at
  first_ends WriteFault refused = absurd refused
  first_ends given refused = (refused_first first later given refused, refl)

-- its lines, and its bytes
pub refused_lines_end : (fault : SimFault) (lines : List TextLine) (at : Output) (given : Refusal)
    → IsRefusedBy (first_refusal AnyPlan lines) given → SimulationEnds {T = Unit {0}} fault lines (Err given) at at
refused_lines_end fault lines at given refused =
    first_ends (IsSimulation fault lines) (first_refusal AnyPlan lines) (run_refusal fault (first_net lines) (lines_behind lines)) at given refused

pub refused_text_ends : (fault : SimFault) (text : List ℕ) (at : Output) (given : Refusal)
    → IsRefusedBy (byte_refusal (bad_line text)) given → TextEnds {T = Unit {0}} fault text (Err given) at at
refused_text_ends fault text at given refused =
    first_ends (IsSimulation fault (lines_of text)) (byte_refusal (bad_line text)) (sim_lines_refusal fault (lines_of text)) at given refused
