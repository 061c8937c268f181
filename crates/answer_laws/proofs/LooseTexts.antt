-- The bytes of a table's netlist under parity, and over one shared copy, are computed from the network of its values alone.
use Rattle.std.proofs.Common.{◌≡◌, ℕ, List, ◌∙◌, ap, ap₂}
use Rattle.fault_secure.specs.CodePlan.{CodePlan}
use Rattle.synth_ways.specs.declared.way.Way.TheVariants.{Parity, Duplex}
use Rattle.structure_laws.specs.LooseSource.{with_version}
use Rattle.blif_write.specs.Layout.{netlist_text}
use Rattle.parity_synth.specs.ParityNet.{parity_plan}
use Rattle.duplex_synth.specs.DuplexNet.{duplex_plan}
use Rattle.text_sections.specs.Denoted.{plan_in, values_in}
use Rattle.answers.specs.Answers.{IsLooseSynthesis}
use Rattle.answer_laws.specs.LooseTexts.{loose_duplex_text, loose_parity_text}

-- a plan of version 2 is that with version 1, with version 2
again : (P Q : CodePlan) → P.version ≡ 2 → with_version 1 P ≡ Q → P ≡ with_version 2 Q
again P Q two is = ap (λ (n : ℕ). with_version n P) two ∙ ap (with_version 2) is

pub parity_bytes : (text answer : List ℕ) → IsLooseSynthesis Parity text answer → answer ≡ loose_parity_text (values_in text)
parity_bytes text answer made =
    let exact = made.secure.chosen.exact in
    made.written ∙ ap₂ netlist_text exact.net (again (plan_in answer) (parity_plan (values_in text).circuit) made.secure.version exact.plan)

pub duplex_bytes : (text answer : List ℕ) → IsLooseSynthesis Duplex text answer → answer ≡ loose_duplex_text (values_in text)
duplex_bytes text answer made =
    let exact = made.secure.chosen.exact in
    made.written ∙ ap₂ netlist_text exact.net (again (plan_in answer) (duplex_plan (values_in text).circuit) made.secure.version exact.plan)
