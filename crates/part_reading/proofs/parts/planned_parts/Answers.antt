-- They are counted, then read.
use Rattle.std.proofs.Common.{◌≡◌, ◌<◌, ◌≤◌, List, None, Option, length, sym, subst, ◌∙◌, arith}
use Rattle.std.proofs.lemmas.Result.{IfErr-weaker, IfOk-weaker, on_ok_weaker}
use Rattle.module_join.specs.declared.part.Part.{Part}
use Rattle.refusals.specs.declared.text_refusal.TextRefusal.{TextRefusal}
use Rattle.text_sections.specs.Refused.{IsRefusedBy}
use Rattle.part_reading.specs.PartRefusal.{parts_refusal, sections_refusal}
use Rattle.part_reading.specs.Parts.{parts_of, sections_behind, sections_of}
use Rattle.part_reading.proofs.PartLemmas.{all_clocked, few_parts, refused_count, refused_parts}
use Rattle.part_reading.proofs.parts.planned_parts.Goals as goal

pub returns-then-section_count-gt-MOST_PARTS-clause-refused : goal.returns-then-section_count-gt-MOST_PARTS-clause-refused
returns-then-section_count-gt-MOST_PARTS-clause-refused c =
    let many : 64 < length (sections_behind c.args.lines.now) = omega (arith, c.if-section_count-gt-MOST_PARTS.true, c.section_count.ensures.count) in
    refused_count c.args.lines.now many

pub returns-clause-few : goal.returns-clause-few
returns-clause-few c =
    let lines = c.args.lines.now in
    let few : length (sections_behind lines) ≤ 64 = omega (arith, c.if-section_count-gt-MOST_PARTS.false, c.section_count.ensures.count) in
    IfOk-weaker c.read_parts.result (λ (parts : List Part). parts ≡ parts_of lines) (λ (parts : List Part). length parts ≤ 64)
    (λ parts is. few_parts lines parts is few) c.read_parts.ensures.exact

pub returns-clause-allowed : goal.returns-clause-allowed
returns-clause-allowed c =
    let lines = c.args.lines.now in
    let few : length (sections_behind lines) ≤ 64 = omega (arith, c.if-section_count-gt-MOST_PARTS.false, c.section_count.ensures.count) in
    on_ok_weaker c.read_parts.result (λ allowed. refused_parts lines few ∙ allowed) c.read_parts.ensures.allowed

pub returns-clause-refused : goal.returns-clause-refused
returns-clause-refused c =
    let lines = c.args.lines.now in
    let few : length (sections_behind lines) ≤ 64 = omega (arith, c.if-section_count-gt-MOST_PARTS.false, c.section_count.ensures.count) in
    IfErr-weaker c.read_parts.result (IsRefusedBy (sections_refusal None (sections_of lines))) (IsRefusedBy (parts_refusal lines))
    (λ given refused. let P : Option TextRefusal → Type 0 = λ r. IsRefusedBy r given in subst P (sym (refused_parts lines few)) refused)
    c.read_parts.ensures.refused

pub returns-clause-clocked : goal.returns-clause-clocked
returns-clause-clocked c = all_clocked c.args.lines.now c.read_parts.result c.read_parts.ensures.exact c.read_parts.ensures.allowed
