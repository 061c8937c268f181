-- Results that need no walk.
use Rattle.std.proofs.Common.{◌≡◌, ℕ, ◌<◌, ◌≤◌, Bool, true, false, ◌&&◌, ◌||◌, not, cond, nat_eq, inl, inr, List, length, slice_index_or, refl, sym, ap, ◌∙◌, subst, arith}
use Rattle.std.proofs.lemmas.List.{drop_all}
use Rattle.std.proofs.Math.Logic.{⊎_elim}
use Rattle.tsc_bits.proofs.Bools.{and-true, and-false, or-true, or-false}
use Rattle.diagrams.specs.declared.decision.Decision.{Decision}
use Rattle.diagrams.specs.declared.memo.Operation.{Operation}
use Rattle.diagrams.specs.declared.memo.Operation.TheVariants.{And, Or, Xor}
use Rattle.diagrams.specs.Decisions.{walk, value, IsAt, IsDiagram}
use Rattle.diagrams.specs.Cofactors.{Same}
use Rattle.diagrams.specs.Operations.{IsShortcut}
use Rattle.diagrams.specs.Building.{DiagramState, combined_rows, choice, input_bit, StandsFor}
use Rattle.diagrams.proofs.Walks.{value-at, input_of_constant}

and_self : (b : Bool) → b ≡ b && b
and_self true = refl
and_self false = refl

or_self : (b : Bool) → b ≡ b || b
or_self true = refl
or_self false = refl

xor_self : (b : Bool) → false ≡ cond b (not b) b
xor_self true = refl
xor_self false = refl

xor-false : (b : Bool) → b ≡ cond b (not false) false
xor-false true = refl
xor-false false = refl

pub and_zero_left : (f g : ℕ) → f ≡ 0 → IsShortcut And f g 0
and_zero_left f g e = subst (λ (k : ℕ). IsShortcut And k g 0) (sym e) (record { is = λ v v0 v1. rw v0 refl; among = inl refl })

pub and_zero_right : (f g : ℕ) → g ≡ 0 → IsShortcut And f g 0
and_zero_right f g e = subst (λ (k : ℕ). IsShortcut And f k 0) (sym e) (record { is = λ v v0 v1. rw v0 (sym (and-false (v f))); among = inr (inl refl) })

pub and_one_left : (f g : ℕ) → f ≡ 1 → IsShortcut And f g g
and_one_left f g e = subst (λ (k : ℕ). IsShortcut And k g g) (sym e) (record { is = λ v v0 v1. rw v1 refl; among = inr (inl refl) })

pub and_one_right : (f g : ℕ) → g ≡ 1 → IsShortcut And f g f
and_one_right f g e = subst (λ (k : ℕ). IsShortcut And f k f) (sym e) (record { is = λ v v0 v1. rw v1 (sym (and-true (v f))); among = inl refl })

pub and_same : (f g : ℕ) → f ≡ g → IsShortcut And f g f
and_same f g e = subst (λ (k : ℕ). IsShortcut And f k f) e (record { is = λ v v0 v1. and_self (v f); among = inl refl })

pub or_zero_left : (f g : ℕ) → f ≡ 0 → IsShortcut Or f g g
or_zero_left f g e = subst (λ (k : ℕ). IsShortcut Or k g g) (sym e) (record { is = λ v v0 v1. rw v0 refl; among = inr (inl refl) })

pub or_zero_right : (f g : ℕ) → g ≡ 0 → IsShortcut Or f g f
or_zero_right f g e = subst (λ (k : ℕ). IsShortcut Or f k f) (sym e) (record { is = λ v v0 v1. rw v0 (sym (or-false (v f))); among = inl refl })

pub or_one_left : (f g : ℕ) → f ≡ 1 → IsShortcut Or f g 1
or_one_left f g e = subst (λ (k : ℕ). IsShortcut Or k g 1) (sym e) (record { is = λ v v0 v1. rw v1 refl; among = inl refl })

pub or_one_right : (f g : ℕ) → g ≡ 1 → IsShortcut Or f g 1
or_one_right f g e = subst (λ (k : ℕ). IsShortcut Or f k 1) (sym e) (record { is = λ v v0 v1. rw v1 (sym (or-true (v f))); among = inr (inl refl) })

pub or_same : (f g : ℕ) → f ≡ g → IsShortcut Or f g f
or_same f g e = subst (λ (k : ℕ). IsShortcut Or f k f) e (record { is = λ v v0 v1. or_self (v f); among = inl refl })

pub xor_zero_left : (f g : ℕ) → f ≡ 0 → IsShortcut Xor f g g
xor_zero_left f g e = subst (λ (k : ℕ). IsShortcut Xor k g g) (sym e) (record { is = λ v v0 v1. rw v0 refl; among = inr (inl refl) })

pub xor_zero_right : (f g : ℕ) → g ≡ 0 → IsShortcut Xor f g f
xor_zero_right f g e = subst (λ (k : ℕ). IsShortcut Xor f k f) (sym e) (record { is = λ v v0 v1. rw v0 (xor-false (v f)); among = inl refl })

pub xor_same : (f g : ℕ) → f ≡ g → IsShortcut Xor f g 0
xor_same f g e = subst (λ (k : ℕ). IsShortcut Xor f k 0) e (record { is = λ v v0 v1. rw v0 (xor_self (v f)); among = inr (inr (omega arith)) })

-- the value of a constant
pub value-constant : (inputs : ℕ) (rows : List Decision) (k : ℕ) (x : List Bool) → IsDiagram inputs rows → k < 2 → length x ≡ inputs → value rows k x ≡ nat_eq k 1
value-constant inputs rows k x D small sized =
    let two = D.constants in
    let e = input_of_constant inputs rows D k small in
    let at : IsAt rows inputs k = record { node = omega arith; above = omega arith } in
    value-at rows inputs k x at ∙ ap (λ rest. nat_eq (walk rows inputs k rest) 1) (drop_all inputs x (omega arith))

pub shortcut_stands : (state : DiagramState) (operation : Operation) (f g r : ℕ) → IsDiagram state.inputs state.rows → f < length state.rows → g < length state.rows → IsShortcut operation f g r →
    StandsFor state (combined_rows operation state.rows f g) r
shortcut_stands state operation f g r D node_f node_g short = record {
  node = let two = D.constants in ⊎_elim (λ e. omega arith) (λ other. ⊎_elim (λ e. omega arith) (λ small. omega arith) other) short.among;
  is = record {
    at = λ x sized. short.is (λ k. value state.rows k x)
        (value-constant state.inputs state.rows 0 x D (omega arith) sized) (value-constant state.inputs state.rows 1 x D (omega arith) sized);
  };
}

-- a constant decides no input
pub constant_is_at : (inputs : ℕ) (rows : List Decision) (level k : ℕ) → IsDiagram inputs rows → k < 2 → level ≤ inputs → IsAt rows level k
constant_is_at inputs rows level k D small inside = let two = D.constants in let e = input_of_constant inputs rows D k small in record { node = omega arith; above = omega arith }

-- the choice between the constants is the input
pub choice-constants : (inputs : ℕ) (rows : List Decision) (input : ℕ) → IsDiagram inputs rows → Same inputs (choice rows input 0 1) (input_bit input)
choice-constants inputs rows input D = record {
  at = λ x sized. by_bit (slice_index_or x input false) (value rows 1 x) (value rows 0 x)
      (value-constant inputs rows 1 x D (omega arith) sized) (value-constant inputs rows 0 x D (omega arith) sized);
}
  where
    by_bit : (b one zero : Bool) → one ≡ true → zero ≡ false → cond b one zero ≡ b
    by_bit true one zero e f = e
    by_bit false one zero e f = f
