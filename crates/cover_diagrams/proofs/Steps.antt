-- Rows that grow, and what an operation makes of rows that stand for functions.
use Rattle.std.proofs.Common.{◌≡◌, ℕ, ◌<◌, ◌≤◌, Bool, true, false, not, IsTrue, List, length, refl, sym, ap, ◌∙◌, subst, arith}
use Rattle.std.proofs.lemmas.Bool.{false≢true}
use Rattle.tsc_bits.specs.Bits.{same}
use Rattle.tsc_cover.specs.Cover.{Wants, asks_for}
use Rattle.tsc_cover.specs.Row.{literal}
use Rattle.diagrams.specs.declared.memo.Operation.{Operation}
use Rattle.diagrams.specs.declared.memo.Operation.TheVariants.{And, Xor}
use Rattle.diagrams.specs.Operations.{combined}
use Rattle.diagrams.specs.Decisions.{value, IsDiagram}
use Rattle.diagrams.specs.Cofactors.{Function, Same, IsCofactorOfOne}
use Rattle.diagrams.specs.Building.{DiagramState, any_input, combined_rows, AreMade, StandsFor}
use Rattle.diagrams.proofs.CofactorLemmas.{of_one-same}
use Rattle.diagrams.proofs.Growing.{Extends-refl, Extends-trans}
use Rattle.diagrams.proofs.Shortcuts.{value-constant}
use Rattle.diagrams.proofs.Waits.{made_alone, stands_kept}
use Rattle.cover_diagrams.specs.Covering.{Grows, negation, with_literal, IsLiteralKept}

-- diagrams that stay as they are have grown
pub Grows-refl : (state : DiagramState) → IsDiagram state.inputs state.rows → length state.rows ≤ state.room → Grows state state
Grows-refl state D within = record { inputs = refl; room = refl; diagram = D; within = within; extends = Extends-refl state.rows }

-- diagrams that grew twice have grown
pub Grows-trans : (a b c : DiagramState) → Grows a b → Grows b c → Grows a c
Grows-trans a b c m n = record {
  inputs = n.inputs ∙ m.inputs;
  room = n.room ∙ m.room;
  diagram = n.diagram;
  within = n.within;
  extends = Extends-trans a.rows b.rows c.rows m.extends n.extends;
}

-- what is made for the sake of one function grows
pub Grows-made : (old new : DiagramState) (f : Function) → ((fs : List Function) → IsCofactorOfOne old.inputs fs f → AreMade old new fs) → Grows old new
Grows-made old new f made =
    let m = made_alone old new f made in
    record { inputs = m.inputs; room = m.room; diagram = m.diagram; within = m.within; extends = m.extends }

-- a row that stands for a function stands for it after the diagrams grew
pub Grows-stands : (old new : DiagramState) (f : Function) (k : ℕ) → IsDiagram old.inputs old.rows → Grows old new → StandsFor old f k → StandsFor new f k
Grows-stands old new f k D g stands = stands_kept old new f f k D g.extends g.inputs (λ x. refl) stands

-- what an operation makes of two rows is what it makes of their functions
pub combined_same : (state : DiagramState) (operation : Operation) (f g : Function) (a b : ℕ) → StandsFor state f a → StandsFor state g b →
    Same state.inputs (combined_rows operation state.rows a b) (λ x. combined operation (f x) (g x))
combined_same state operation f g a b F G = record {
  at = λ x sized. ap (λ v. combined operation v (value state.rows b x)) (F.is.at x sized) ∙ ap (λ v. combined operation (f x) v) (G.is.at x sized);
}

pub one_stands : (state : DiagramState) → IsDiagram state.inputs state.rows → StandsFor state any_input 1
one_stands state D = record {
  node = let two = D.constants in omega arith;
  is = record { at = λ x sized. value-constant state.inputs state.rows 1 x D (omega arith) sized };
}

xor-one : (b : Bool) → combined Xor b true ≡ not b
xor-one true = refl
xor-one false = refl

-- the XOR with 1 is the negation
pub negated_same : (state : DiagramState) (p : Function) (pin : ℕ) → IsDiagram state.inputs state.rows → StandsFor state p pin → Same state.inputs (combined_rows Xor state.rows pin 1) (negation p)
negated_same state p pin D P =
    let both = combined_same state Xor p any_input pin 1 P (one_stands state D) in
    record { at = λ x sized. both.at x sized ∙ xor-one (p x) }

-- a row stands for its own function
pub own_stands : (state : DiagramState) (k : ℕ) → k < length state.rows → StandsFor state (value state.rows k) k
own_stands state k node = record { node = node; is = record { at = λ x sized. refl } }

-- a literal that asks
pub wanted_kept : (inputs : ℕ) (fs : List Function) (f p : Function) (care wanted : Bool) → care ≡ true → IsLiteralKept inputs fs f (literal care wanted) p → IsLiteralKept inputs fs f (Wants wanted) p
wanted_kept inputs fs f p care wanted cares kept = subst (λ (t : Bool). IsLiteralKept inputs fs f (literal t wanted) p) cares kept

pub wanted_stands : (state : DiagramState) (f p : Function) (k : ℕ) (care wanted : Bool) → care ≡ true → StandsFor state (with_literal f (Wants wanted) p) k → StandsFor state (with_literal f (literal care wanted) p) k
wanted_stands state f p k care wanted cares stands = subst (λ (t : Bool). StandsFor state (with_literal f (literal t wanted) p) k) (sym cares) stands

zero-asked : (wanted : Bool) → wanted ≡ false → IsTrue (asks_for false (Wants wanted))
zero-asked true e = absurd (false≢true (sym e))
zero-asked false e = refl

pub negation_kept : (inputs : ℕ) (fs : List Function) (f p : Function) (wanted : Bool) → IsLiteralKept inputs fs f (Wants wanted) p → wanted ≡ false → IsCofactorOfOne inputs fs (negation p)
negation_kept inputs fs f p wanted kept e = kept.negated (zero-asked wanted e)

-- the AND with a literal's row
pub and_same : (state : DiagramState) (f p : Function) (so_far asked : ℕ) (wanted : Bool) → StandsFor state f so_far → StandsFor state (λ x. same wanted (p x)) asked →
    Same state.inputs (combined_rows And state.rows so_far asked) (with_literal f (Wants wanted) p)
and_same state f p so_far asked wanted F L = combined_same state And f (λ x. same wanted (p x)) so_far asked F L

pub and_needed : (old mid : DiagramState) (fs : List Function) (f p : Function) (so_far asked : ℕ) (wanted : Bool) → IsDiagram old.inputs old.rows → Grows old mid → StandsFor old f so_far →
    StandsFor mid (λ x. same wanted (p x)) asked → IsLiteralKept old.inputs fs f (Wants wanted) p → IsCofactorOfOne mid.inputs fs (combined_rows And mid.rows so_far asked)
and_needed old mid fs f p so_far asked wanted D grown F L kept =
    of_one-same mid.inputs fs _ _ (subst (λ (i : ℕ). IsCofactorOfOne i fs (with_literal f (Wants wanted) p)) (sym grown.inputs) kept.joined)
    (and_same mid f p so_far asked wanted (Grows-stands old mid f so_far D grown F) L)
