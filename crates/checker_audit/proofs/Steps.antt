-- The steps of a walk, over its stack.
use Rattle.std.proofs.Common.{◌≡◌, ℕ, ◌+◌, ◌<◌, true, false, List, [], ◌∷◌, ◌++◌, map, length, slice_index, slice_index_or, refl, sym, ◌∙◌, ap, subst, arith}
use Rattle.std.specs.BTreeSet.{BTreeSet}
use Rattle.std.proofs.lemmas.List.{reverse-append, length-append, get_or_append_left, get_or_push}
use Rattle.std.proofs.lemmas.Grind.{common_steps}
use Rattle.fault_secure.specs.Circuit.{Circuit}
use Rattle.fault_secure.specs.CodePlan.{CodePlan}
use Rattle.tsc_cover.specs.Cover.{CoverTable}
use Rattle.tsc_cover.specs.Gates.{buf_cover, not_cover, and_cover, or_cover, xor_cover}
use Rattle.code_checkers.specs.declared.gate.CheckGate.{CheckGate}
use Rattle.code_checkers.specs.declared.gate.CheckGate.TheVariants as gate
use Rattle.code_checkers.specs.Signal.{Signal}
use Rattle.code_checkers.specs.Signal.Signal.{Word, Buf, Not, And, Or, Xor}
use Rattle.code_checkers.specs.Gates.{meaning, AreOrdered, gate_at}
use Rattle.code_checkers.specs.Nodes.{cover_of, reads_of}
use Rattle.code_checkers.specs.Block.{IsGateNode}
use Rattle.checker_audit.specs.declared.asked.Asked.{Asked}
use Rattle.checker_audit.specs.Matching.{question, questions, size, total_size, IsGateOver, IsNoGate, AreWithin, IsOpened, IsPending, Leads, IsWalking, HasStepped, WasAsked}
use Rattle.checker_audit.specs.Noting.{Notes}
use Rattle.checker_audit.proofs.Walking.{opened_leads, opened_pending, opened_size, stops, seen_skips, seen_pending}

-- the top of the stack is asked first
questions_top : (gates : List CheckGate) (stack : List Asked) (asked : Asked) → questions gates (stack ++ asked ∷ []) ≡ question gates asked ∷ questions gates stack
questions_top gates stack asked = ap (map (question gates)) (reverse-append stack (asked ∷ []))

size_some : (s : Signal) → 0 < size s
size_some (Word place) = omega arith
size_some (Buf a) = omega arith
size_some (Not a) = omega arith
size_some (And a b) = omega arith
size_some (Or a b) = omega arith
size_some (Xor a b) = omega arith

front_within : (gates : List CheckGate) (stack : List Asked) (asked : Asked) → AreWithin gates (stack ++ asked ∷ []) → AreWithin gates stack
front_within gates stack asked within k d low =
    let more : k < length (stack ++ asked ∷ []) = omega (arith, length-append stack (asked ∷ [])) in
    subst (λ (a : Asked). a.place < length gates) (get_or_append_left stack (asked ∷ []) d k low) (within k d more)

pub top_within : (gates : List CheckGate) (stack : List Asked) (asked : Asked) → AreWithin gates (stack ++ asked ∷ []) → asked.place < length gates
top_within gates stack asked within =
    let more : length stack < length (stack ++ asked ∷ []) = omega (arith, length-append stack (asked ∷ [])) in
    subst (λ (a : Asked). a.place < length gates) (get_or_push stack asked asked (length stack) refl) (within (length stack) asked more)

module _ (N : Circuit) (P : CodePlan) (gates : List CheckGate) (seen new : BTreeSet ℕ) (stack : List Asked) (asked : Asked) (walking : IsWalking N P gates seen (stack ++ asked ∷ []))
    (notes : Notes seen new asked) where
  leads : Leads N P (question gates asked ∷ questions gates stack)
  leads = subst (Leads N P) (questions_top gates stack asked) walking.leads

  pending : IsPending N P gates (WasAsked seen) (question gates asked ∷ questions gates stack)
  pending = subst (IsPending N P gates (WasAsked seen)) (questions_top gates stack asked) walking.pending

  pub walk_place : asked.place < length gates
  walk_place = top_within gates stack asked walking.within

  pub walk_within : AreWithin gates stack
  walk_within = front_within gates stack asked walking.within

  -- a net that was asked before is passed over
  pub step_skips : WasAsked seen asked.place asked.net.number → HasStepped N P gates asked new stack stack true
  step_skips was =
      let next = seen_skips N P gates (WasAsked seen) asked.place asked.net.number (questions gates stack) leads pending was in (
        record {
          leads = next.0;
          pending = seen_pending N P gates (WasAsked seen) (WasAsked new) asked.place asked.net.number notes (questions gates stack) pending was;
          within = walk_within;
        },
        (let s = size_some (meaning gates asked.place) in omega arith),
      )

  module _ (ordered : AreOrdered gates) where
    pub step_opens : (after : List Asked) → IsOpened N P gates asked stack after → HasStepped N P gates asked new stack after true
    step_opens after opened = (
      record {
        leads = subst (Leads N P) (sym opened.stack)
            (opened_leads N P gates (WasAsked seen) (WasAsked new) asked.place asked.net.number notes ordered walk_place opened.pins opened.over (questions gates stack) leads);
        pending = subst (IsPending N P gates (WasAsked new)) (sym opened.stack)
            (opened_pending N P gates (WasAsked seen) (WasAsked new) asked.place asked.net.number notes ordered walk_place opened.pins opened.over (questions gates stack) pending);
        within = opened.within;
      },
      subst (λ asks. total_size asks < size (meaning gates asked.place) + total_size (questions gates stack)) (sym opened.stack)
          (opened_size N P gates (WasAsked seen) (WasAsked new) asked.place asked.net.number notes ordered walk_place opened.pins opened.over (questions gates stack)),
    )

    pub step_stops : (after : List Asked) → IsNoGate N P (gate_at gates asked.place) asked.net.number → HasStepped N P gates asked new stack after false
    step_stops after misfit = stops N P gates asked.place asked.net.number (questions gates stack) ordered walk_place leads misfit

-- the gate at a place, whatever stands past the end
pub gate_is : (gates : List CheckGate) (place : ℕ) (g : CheckGate) → place < length gates → g ≡ slice_index_or gates place g → gate_at gates place ≡ g
gate_is gates place g within is = same gates place (gate.Word 0) g within ∙ sym is
  where
    same : (gates : List CheckGate) (place : ℕ) (a b : CheckGate) → place < length gates → slice_index_or gates place a ≡ slice_index_or gates place b
    same gates place a b within = grind (arith, common_steps)

module _ (N : Circuit) (P : CodePlan) (net : ℕ) where
  pub no_gate : (g : CheckGate) → 0 < length (reads_of g) → ((reads : List ℕ) → IsGateNode N P net (cover_of g) reads → ⊥) → IsNoGate N P g net
  no_gate (gate.Word place) some none = absurd (omega arith)
  no_gate (gate.Buf a) some none = λ m is. none (m ∷ []) is
  no_gate (gate.Not a) some none = λ m is. none (m ∷ []) is
  no_gate (gate.And a b) some none = λ m n is. none (m ∷ (n ∷ [])) is
  no_gate (gate.Or a b) some none = λ m n is. none (m ∷ (n ∷ [])) is
  no_gate (gate.Xor a b) some none = λ m n is. none (m ∷ (n ∷ [])) is

  of_one : (cover : CoverTable) (pins : List ℕ) → length pins ≡ 1 → IsGateNode N P net cover pins → IsGateNode N P net cover (slice_index pins 0 ∷ [])
  of_one cover [] sized is = absurd (omega arith)
  of_one cover (m ∷ []) sized is = is
  of_one cover (m ∷ (n ∷ pins)) sized is = absurd (omega arith)

  of_two : (cover : CoverTable) (pins : List ℕ) → length pins ≡ 2 → IsGateNode N P net cover pins → IsGateNode N P net cover (slice_index pins 0 ∷ (slice_index pins 1 ∷ []))
  of_two cover [] sized is = absurd (omega arith)
  of_two cover (m ∷ []) sized is = absurd (omega arith)
  of_two cover (m ∷ (n ∷ [])) sized is = is
  of_two cover (m ∷ (n ∷ (k ∷ pins))) sized is = absurd (omega arith)

  pub gate_over : (g : CheckGate) (pins : List ℕ) → 0 < length (reads_of g) → length pins ≡ length (reads_of g) → IsGateNode N P net (cover_of g) pins → IsGateOver N P g net pins
  gate_over (gate.Word place) pins some sized is = absurd (omega arith)
  gate_over (gate.Buf a) pins some sized is = of_one buf_cover pins sized is
  gate_over (gate.Not a) pins some sized is = of_one not_cover pins sized is
  gate_over (gate.And a b) pins some sized is = of_two and_cover pins sized is
  gate_over (gate.Or a b) pins some sized is = of_two or_cover pins sized is
  gate_over (gate.Xor a b) pins some sized is = of_two xor_cover pins sized is

pub some_reads : (g : CheckGate) → ((place : ℕ) → g ≡ gate.Word place → ⊥) → 0 < length (reads_of g)
some_reads (gate.Word place) other = absurd (other place refl)
some_reads (gate.Buf a) other = omega arith
some_reads (gate.Not a) other = omega arith
some_reads (gate.And a b) other = omega arith
some_reads (gate.Or a b) other = omega arith
some_reads (gate.Xor a b) other = omega arith
