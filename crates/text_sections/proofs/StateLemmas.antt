-- A section that is read as a netlist whose plan lists its states lacks none: so what nothing refuses as such a netlist is refused by nothing as
-- a netlist with its plan, and the other way round.
use Rattle.std.proofs.Common.{◌≡◌, ℕ, Bool, true, false, not, ◌&&◌, if◌then◌else◌, List, length, None, Some, refl, sym, ap, ◌∙◌, subst}
use Rattle.std.specs.Prelude.{nat_lt}
use Rattle.std.specs.Option.{is_some}
use Rattle.tsc_text.specs.Bytes.{bad_line}
use Rattle.tsc_text.specs.Lines.{lines_of}
use Rattle.tsc_text.specs.TextLine.{TextLine}
use Rattle.tsc_net.specs.NetlistOf.{NetlistOf}
use Rattle.blif_read.specs.RegisterFault.{lists_states}
use Rattle.blif_read.specs.declared.kinds.Kind.TheVariants.{AnyPlan, Netlist}
use Rattle.refusals.specs.declared.refusal.Refusal.{Refusal}
use Rattle.refusals.specs.declared.text_refusal.TextRefusal.TheVariants.{NoNetlist, NoStates}
use Rattle.text_sections.specs.Denoted.{lines_from, net_from}
use Rattle.text_sections.specs.Refused.{IsRefusedBy, behind_refusal, byte_refusal, first_of, lacks_states, last_netlist_refusal, last_refusal, left_behind, netlist_refusal, netlist_section_refusal, netlist_text_refusal, refusal_from, text_refusal}
use Rattle.text_sections.proofs.AnyPlans.{stateless}
use Rattle.text_sections.proofs.SectionLemmas.{allowed_both, first_allowed, none_first, none_later, refused_later}

-- ---- when a section lacks states

both_false : (a b : Bool) → b ≡ false → (a && b) ≡ false
both_false true b e = e
both_false false b e = refl

module _ (lines : List TextLine) (from : ℕ) where
  abbrev section : List TextLine
  section = lines_from lines from

  abbrev has_bare : NetlistOf → Bool
  has_bare net = nat_lt 0 (length net.circuit.latches) && not (lists_states section)

  -- one that is read as a netlist whose plan lists its states doesn't
  pub lists_all : refusal_from Netlist lines from ≡ None → lacks_states lines from ≡ false
  lists_all e = both_false (not (is_some (refusal_from AnyPlan lines from))) (has_bare (net_from lines from)) (by (lists_states section) refl)
    where
      by : (b : Bool) → lists_states section ≡ b → has_bare (net_from lines from) ≡ false
      by true is = both_false (nat_lt 0 (length (net_from lines from).circuit.latches)) (not (lists_states section)) (ap not is)
      by false is = ap (λ n. nat_lt 0 n && not (lists_states section)) (stateless section (first_allowed Netlist lines from e) is)

-- ---- a text as a netlist with its plan, and as one whose plan lists the states

module _ (lines : List TextLine) (from : ℕ) where
  -- a section
  pub listed_section : refusal_from Netlist lines from ≡ None → netlist_section_refusal lines from ≡ None
  listed_section e = ap (λ b. if b then Some NoStates else refusal_from Netlist lines from) (lists_all lines from e) ∙ e

  -- the last section
  pub last_listed : last_netlist_refusal lines from ≡ None → last_refusal Netlist lines from ≡ None
  last_listed e = by (lacks_states lines from) e
    where
      by : (b : Bool) → (if b then first_of (left_behind lines from) (Some NoStates) else last_refusal Netlist lines from) ≡ None → last_refusal Netlist lines from ≡ None
      by true e = let none : Some NoStates ≡ None = none_later (left_behind lines from) (Some NoStates) e in cc
      by false e = e

  pub listed_last : last_refusal Netlist lines from ≡ None → last_netlist_refusal lines from ≡ None
  listed_last e =
      ap (λ b. if b then first_of (left_behind lines from) (Some NoStates) else last_refusal Netlist lines from)
      (lists_all lines from (none_first (refusal_from Netlist lines from) (left_behind lines from) e))
      ∙ e

  -- the last section, after another
  pub behind_listed : netlist_refusal lines from ≡ None → behind_refusal Netlist lines from ≡ None
  behind_listed e = by (nat_lt from (length lines)) e
    where
      by : (b : Bool) → (if b then last_netlist_refusal lines from else Some NoNetlist) ≡ None → (if b then last_refusal Netlist lines from else Some NoNetlist) ≡ None
      by true e = last_listed e
      by false e = cc

-- a text
pub text_listed : (text : List ℕ) → netlist_text_refusal text ≡ None → text_refusal Netlist text ≡ None
text_listed text e =
    allowed_both (byte_refusal (bad_line text)) (last_refusal Netlist (lines_of text) 0) (none_first (byte_refusal (bad_line text)) (last_netlist_refusal (lines_of text) 0) e)
    (last_listed (lines_of text) 0 (none_later (byte_refusal (bad_line text)) (last_netlist_refusal (lines_of text) 0) e))

pub listed_text : (text : List ℕ) → text_refusal Netlist text ≡ None → netlist_text_refusal text ≡ None
listed_text text e =
    allowed_both (byte_refusal (bad_line text)) (last_netlist_refusal (lines_of text) 0) (none_first (byte_refusal (bad_line text)) (last_refusal Netlist (lines_of text) 0) e)
    (listed_last (lines_of text) 0 (none_later (byte_refusal (bad_line text)) (last_refusal Netlist (lines_of text) 0) e))

-- ---- a text of whose lines it is known what they are

pub refused_netlist_lines : (text : List ℕ) (lines : List TextLine) (given : Refusal)
    → lines ≡ lines_of text → bad_line text ≡ None → IsRefusedBy (last_netlist_refusal lines 0) given → IsRefusedBy (netlist_text_refusal text) given
refused_netlist_lines text lines given are sound refused =
    let P : List TextLine → Type 0 = λ l. IsRefusedBy (last_netlist_refusal l 0) given in
    refused_later (byte_refusal (bad_line text)) (last_netlist_refusal (lines_of text) 0) given (ap byte_refusal sound) (subst P are refused)

pub allowed_netlist_lines : (text : List ℕ) (lines : List TextLine)
    → lines ≡ lines_of text → bad_line text ≡ None → last_netlist_refusal lines 0 ≡ None → netlist_text_refusal text ≡ None
allowed_netlist_lines text lines are sound allowed =
    allowed_both (byte_refusal (bad_line text)) (last_netlist_refusal (lines_of text) 0) (ap byte_refusal sound)
    (ap (λ l. last_netlist_refusal l 0) (sym are) ∙ allowed)
