-- The plan of an answer that is read as a netlist whose plan lists its states is the one that is read where a plan may list none.
use Rattle.std.proofs.Common.{◌≡◌, ℕ, List, None}
use Rattle.tsc_text.specs.Bytes.{bad_line}
use Rattle.tsc_text.specs.Lines.{lines_of}
use Rattle.blif_read.specs.declared.kinds.Kind.TheVariants.{Netlist}
use Rattle.text_sections.specs.Denoted.{first_any_plan, plan_in}
use Rattle.text_sections.specs.Refused.{byte_refusal, first_refusal, left_over, lines_refusal, text_refusal}
use Rattle.text_sections.proofs.AnyPlans.{any_first_plan}
use Rattle.text_sections.proofs.SectionLemmas.{none_first, none_later}

pub same_plan : (answer : List ℕ) → text_refusal Netlist answer ≡ None → first_any_plan (lines_of answer) ≡ plan_in answer
same_plan answer readable =
    any_first_plan (lines_of answer)
    (none_first (first_refusal Netlist (lines_of answer)) (left_over (lines_of answer))
    (none_later (byte_refusal (bad_line answer)) (lines_refusal Netlist (lines_of answer)) readable))
