-- A mapping of what a synthesis of two copies answered is secure for the source.
use Rattle.std.proofs.Common.{◌≡◌, Bool, List, ℕ, length, ap, sym, subst, ◌∙◌}
use Rattle.tsc_net.specs.NetlistOf.{NetlistOf, netlist_of}
use Rattle.blif_read.specs.NamedText.{named_text}
use Rattle.register_laws.specs.RegisterPlan.{RegisterPlan}
use Rattle.register_laws.specs.RegisterSecure.{IsRegisterSecure}
use Rattle.register_laws.proofs.MappedRegisters.{register_secure_is_alarm_secure}
use Rattle.twin_synth.specs.TwinNetlist.{register_plan}
use Rattle.text_sections.specs.Denoted.{first_net, netlist_in}
use Rattle.answers.specs.TwinAnswers.{IsRegisterSynthesis}
use Rattle.own_mapping_laws.specs.MappedTwins.{MappedTwinsAreSecure}

-- the answer denotes its netlist
denoted : (watching : Bool) (source answer : List ℕ) (twin : IsRegisterSynthesis watching source answer) → netlist_in answer ≡ twin.net
denoted watching source answer twin =
    let told = twin.told.told in
    ap first_net told.lines ∙ (ap (λ lines. netlist_of (named_text lines)) told.section ∙ told.same)

pub mapped_twins_are_secure : MappedTwinsAreSecure
mapped_twins_are_secure watching source answer text twin first is =
    let S = (netlist_in source).circuit in
    let N = (netlist_in text).circuit in
    let P : RegisterPlan = register_plan (length twin.net.circuit.latches) twin.plan twin.watch in
    let secure : IsRegisterSecure S N P =
    subst (λ (n : NetlistOf). IsRegisterSecure S n.circuit P) (sym (first ∙ denoted watching source answer twin)) twin.secure.cells in
    let alarmed = register_secure_is_alarm_secure S N P secure in
    record {
      cells = is.secure.registers.secure S P secure;
      blocks = is.secure.registers.blocks S P alarmed;
      faults = is.secure.registers.faults S P alarmed;
    }
