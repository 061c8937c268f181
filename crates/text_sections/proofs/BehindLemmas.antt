-- A section behind another is refused as the last one; where no line stands there it is none.
use Rattle.std.proofs.Common.{◌≡◌, ℕ, ◌<◌, ◌≤◌, List, length, Option, None, Some, if◌then◌else◌, ap, sym, subst, ◌∙◌}
use Rattle.std.specs.Prelude.{nat_lt}
use Rattle.std.proofs.lemmas.Bool.{lt-ltb, le-ltb}
use Rattle.tsc_text.specs.TextLine.{TextLine}
use Rattle.refusals.specs.declared.refusal.Refusal.{Refusal}
use Rattle.refusals.specs.declared.text_refusal.TextRefusal.{TextRefusal}
use Rattle.refusals.specs.declared.text_refusal.TextRefusal.TheVariants.{NoNetlist}
use Rattle.text_sections.specs.Refused.{IsRefusedBy}

-- what refuses the section as the last one, and where it is looked for
module _ (last : Option TextRefusal) (lines : List TextLine) (from : ℕ) where
  -- where a line stands behind the other section, this one is refused as the last
  same_refusal : from < length lines → (if nat_lt from (length lines) then last else Some NoNetlist) ≡ last
  same_refusal there = ap (λ b. if b then last else Some NoNetlist) (lt-ltb from (length lines) there)

  -- where a line stands from that place on, what refuses the section as the last one refuses it after another
  pub refused_last : (given : Refusal) → from < length lines → IsRefusedBy last given → IsRefusedBy (if nat_lt from (length lines) then last else Some NoNetlist) given
  refused_last given there refused =
      let P : Option TextRefusal → Type 0 = λ r. IsRefusedBy r given in subst P (sym (same_refusal there)) refused

  -- where a line stands from that place on, a section that is allowed as the last one is allowed after another
  pub allowed_last : from < length lines → last ≡ None → (if nat_lt from (length lines) then last else Some NoNetlist) ≡ None
  allowed_last there allowed = same_refusal there ∙ allowed

  -- else there is none
  pub no_netlist : length lines ≤ from → (if nat_lt from (length lines) then last else Some NoNetlist) ≡ Some NoNetlist
  no_netlist past = ap (λ b. if b then last else Some NoNetlist) (le-ltb from (length lines) past)
