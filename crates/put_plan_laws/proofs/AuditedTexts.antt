-- The plan lines of a text's first netlist, put into the section of its second one.
use Rattle.std.proofs.Common.{◌≡◌, ℕ, Bool, true, false, if◌then◌else◌, nat_lt, List, length, Option, None, Some, sym, ap, ◌∙◌}
use Rattle.std.specs.Option.{unwrap_or}
use Rattle.tsc_text.specs.Bytes.{bad_line}
use Rattle.tsc_text.specs.Lines.{lines_of}
use Rattle.tsc_text.specs.TextLine.{TextLine}
use Rattle.fault_secure.specs.CodePlan.{CodePlan}
use Rattle.blif_read.specs.Denotes.{plan_text, plan_at, refusal, refusal_of_plan}
use Rattle.blif_read.specs.PlanText.{plan_with}
use Rattle.blif_read.specs.Refusal.{netlist_refusal}
use Rattle.blif_read.specs.declared.kinds.Kind.TheVariants.{AnyPlan, Netlist, Unplanned}
use Rattle.refusals.specs.declared.text_refusal.TextRefusal.TheVariants.{NoNetlist}
use Rattle.text_sections.specs.Denoted.{first_lines, first_section, netlist_in, no_plan, plan_in}
use Rattle.text_sections.specs.Refused.{behind_refusal, byte_refusal, first_refusal, last_refusal}
use Rattle.text_sections.proofs.SectionLemmas.{none_later, section_allowed}
use Rattle.mapping_answers.specs.MappedSections.{mapped_lines_refusal, mapped_refusal}
use Rattle.mapped_laws.specs.MappedReplies.{mapped_section}
use Rattle.mapped_laws.proofs.PlanMoved.{IsAllowed, is_allowed}
use Rattle.mapped_laws.proofs.PlanWords.{both_allowed}
use Rattle.put_plan_laws.specs.PutPlans.{ArePutBeside, AuditedTextsTakePlans}
use Rattle.put_plan_laws.proofs.KeptMappings.{put_plan_lines_keep_mappings, audited_netlists_take_plans}

behind_allowed : (lines : List TextLine) (from : ℕ) → behind_refusal Unplanned lines from ≡ None → last_refusal Unplanned lines from ≡ None
behind_allowed lines from e = by (nat_lt from (length lines)) e
  where
    by : (b : Bool) → (if b then last_refusal Unplanned lines from else Some NoNetlist) ≡ None → last_refusal Unplanned lines from ≡ None
    by true e = e
    by false e = cc

mapped_is_allowed : (text : List ℕ) → mapped_refusal text ≡ None → refusal Unplanned (mapped_section text) ≡ None
mapped_is_allowed text allowed =
    let lines = lines_of text in
    let past = (first_section lines).next in
    section_allowed Unplanned lines past
    (behind_allowed lines past
    (none_later (first_refusal AnyPlan lines) (behind_refusal Unplanned lines past)
    (none_later (byte_refusal (bad_line text)) (mapped_lines_refusal lines) allowed)))

told : (o : Option CodePlan) (P : CodePlan) → o ≡ Some P → o ≡ Some (unwrap_or o no_plan)
told o P e = e ∙ ap (λ Q. Some Q) (sym (ap (λ o. unwrap_or o no_plan) e))

-- the first netlist's section states its plan
plan_is_stated : (text : List ℕ) → refusal Netlist (first_lines (lines_of text)) ≡ None → plan_text Netlist (first_lines (lines_of text)) (netlist_in text) ≡ Some (plan_in text)
plan_is_stated text listed =
    let N = netlist_in text in
    let section = first_lines (lines_of text) in
    let plan : IsAllowed section N =
    is_allowed section N (both_allowed (netlist_refusal Netlist section) (refusal_of_plan Netlist section) listed).1 in
    told (plan_text Netlist section N) (plan_with plan.head section N) (ap (λ o. plan_at o section N) plan.is)

pub audited_texts_take_plans : AuditedTextsTakePlans
audited_texts_take_plans M text others Q allowed listed is same words =
    let section = first_lines (lines_of text) in
    let bare = mapped_section text in
    let put : ArePutBeside section bare others = record {
      allowed = listed;
      readable = mapped_is_allowed text allowed;
      same = same;
      words = words;
      names = is.names;
    } in (
      (put_plan_lines_keep_mappings section bare others put).allowed,
      λ stated secure. audited_netlists_take_plans M section bare others (plan_in text) Q put is.reads (plan_is_stated text listed) stated secure,
    )
