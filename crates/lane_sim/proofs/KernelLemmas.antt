-- A gate where the fault is elsewhere has what it has without a fault.
use Rattle.std.proofs.Common.{◌≡◌, ℕ, ◌*◌, ◌<◌, Bool, cond, eqb, ◌&&◌, ◌||◌, List, [], ◌∷◌, length, All, refl, sym, ap, ap₂, ◌∙◌, subst, arith, map}
use Rattle.std.proofs.lemmas.Bool.{cond-false, ne_eqb}
use Rattle.std.specs.List.{list_any}
use Rattle.std.proofs.lemmas.List.Elements.{All-head, All-tail}
use Rattle.tsc_bits.specs.Bits.{same}
use Rattle.fault_secure.specs.StuckAt.{StuckAt, NoFault, Stem, Pin, on_stem, on_pin}
use Rattle.lane_sim.specs.Lanes.{HasLanes}
use Rattle.lane_sim.specs.Gate.{IsOperand, HaveOperands, SpansHaveOperands, term_operand, span_bit, operand_bit, term_bit, each_bit, some_bit, gate_bit, IsElsewhere}
use Rattle.lane_sim.specs.TwoPins.{table_bit}
use Rattle.lane_sim.specs.Operation.{first_operand, second_operand, table_of, two_bit, free_bit}
use Rattle.lane_sim.specs.declared.gate.TwoPins.{TwoPins}
use Rattle.lane_sim.specs.Points.{source_bit}
use Rattle.lane_sim.specs.Spans.{piece, pieces}
use Rattle.lane_sim.specs.declared.gate.ListRange.{ListRange}
use Rattle.lane_sim.proofs.SpanLemmas.{all_unmapped, piece_of_pieces}
use Rattle.lane_sim.specs.declared.gate.Operand.{Operand}
use Rattle.lane_sim.specs.declared.gate.Operand.TheVariants.{Points, Row}
use Rattle.lane_sim.specs.declared.gate.Term.{Term}

-- the same bits in other words
pub HasLanes-along : (count : ℕ) (words : List ℕ) (bits other : ℕ → Bool) → ((p : ℕ) → p < count * 64 → bits p ≡ other p) → HasLanes count words bits → HasLanes count words other
HasLanes-along count words bits other same has = record { sized = has.sized; lanes = λ p inside. has.lanes p inside ∙ same p inside }

-- the node's own stem isn't held
driver_free : (driver first : ℕ) (f : StuckAt) → IsElsewhere driver first f → (b : Bool) → on_stem f driver b ≡ b
driver_free driver first NoFault elsewhere b = refl
driver_free driver first (Stem at held) elsewhere b = cond-false (eqb at driver) held b (ne_eqb at driver elsewhere.1)
driver_free driver first (Pin at index held) elsewhere b = refl

-- nor that of an input or a latch output
source_free : (driver first : ℕ) (f : StuckAt) → IsElsewhere driver first f → (net : ℕ) → net < first → (b : Bool) → on_stem f net b ≡ b
source_free driver first NoFault elsewhere net below b = refl
source_free driver first (Stem at held) elsewhere net below b =
    let beyond = elsewhere.0 in cond-false (eqb at net) held b (ne_eqb at net (λ is. omega arith))
source_free driver first (Pin at index held) elsewhere net below b = refl

-- nor one of its pins
pin_free : (driver first : ℕ) (f : StuckAt) → IsElsewhere driver first f → (pin : ℕ) (b : Bool) → on_pin f driver pin b ≡ b
pin_free driver first NoFault elsewhere pin b = refl
pin_free driver first (Stem at held) elsewhere pin b = refl
pin_free driver first (Pin at index held) elsewhere pin b = ap (λ t. cond (t && eqb index pin) held b) (ne_eqb at driver elsewhere)

module _ (driver first : ℕ) (f : StuckAt) (words : List ℕ) (rows : List ℕ) (p : ℕ) (sized : length words ≡ first * 16) (elsewhere : IsElsewhere driver first f) where
  operand_free : (operand : Operand) → IsOperand words rows operand → operand_bit f words rows p operand ≡ operand_bit NoFault words rows p operand
  operand_free (Points net) inside = source_free driver first f elsewhere net (omega arith) (source_bit words net p)
  operand_free (Row row) inside = refl

  term_free : (term : Term) → IsOperand words rows (term_operand term) → term_bit f driver words rows p term ≡ term_bit NoFault 0 words rows p term
  term_free term inside = ap (same term.wants) (pin_free driver first f elsewhere term.pin _ ∙ operand_free (term_operand term) inside)

  each_free : (terms : List Term) → All (λ term. IsOperand words rows (term_operand term)) terms → each_bit f driver words rows p terms ≡ each_bit NoFault 0 words rows p terms
  each_free [] inside = refl
  each_free (term ∷ terms) inside =
      ap₂ ◌&&◌ (term_free term (All-head (λ term. IsOperand words rows (term_operand term)) term terms inside))
      (each_free terms (All-tail (λ term. IsOperand words rows (term_operand term)) term terms inside))

  some_free : (terms : List (List Term)) → HaveOperands words rows terms → some_bit f driver words rows p terms ≡ some_bit NoFault 0 words rows p terms
  some_free [] inside = refl
  some_free (row ∷ terms) inside =
      ap₂ ◌||◌ (each_free row (All-head (All (λ term. IsOperand words rows (term_operand term))) row terms inside))
      (some_free terms (All-tail (All (λ term. IsOperand words rows (term_operand term))) row terms inside))

  pub gate_free : (on : Bool) (terms : List (List Term)) → HaveOperands words rows terms → gate_bit NoFault 0 words rows p on terms ≡ gate_bit f driver words rows p on terms
  gate_free on terms inside =
      sym (driver_free driver first f elsewhere _ ∙ ap (same on) (some_free terms inside))

  -- a gate of two pins
  pub two_free : (two : TwoPins) → IsOperand words rows (first_operand two) → IsOperand words rows (second_operand two)
      → free_bit words rows p two ≡ two_bit f driver words rows p two
  two_free two one other =
      sym (driver_free driver first f elsewhere _
      ∙ ap₂ (table_bit (table_of two)) (pin_free driver first f elsewhere 0 _ ∙ operand_free (first_operand two) one) (pin_free driver first f elsewhere 1 _ ∙ operand_free (second_operand two) other))

-- ---- rows as spans

list_any-mapped : {X Y : Type 0} (test : X → Bool) (h : Y → X) (ys : List Y) → list_any (λ y. test (h y)) ys ≡ list_any test (map h ys)
list_any-mapped test h [] = refl
list_any-mapped test h (y ∷ ys) = ap (λ b. test (h y) || b) (list_any-mapped test h ys)

pub span_bit_is : (f : StuckAt) (driver : ℕ) (words : List ℕ) (rows : List ℕ) (p : ℕ) (terms : List Term) (spans : List ListRange)
    → span_bit f driver words rows p terms spans ≡ some_bit f driver words rows p (pieces terms spans)
span_bit_is f driver words rows p terms spans = list_any-mapped (each_bit f driver words rows p) (piece terms) spans

-- the operands of the terms in a span of rows
pub operands_in_span : (words : List ℕ) (block : List ℕ) (terms : List Term) (rows : List ListRange) (span : ListRange)
    → HaveOperands words block (piece (pieces terms rows) span) → SpansHaveOperands words block terms (piece rows span)
operands_in_span words block terms rows span have =
    all_unmapped (All (λ term. IsOperand words block (term_operand term))) (piece terms) (piece rows span) []
    (subst (HaveOperands words block) (piece_of_pieces terms rows span) have)
