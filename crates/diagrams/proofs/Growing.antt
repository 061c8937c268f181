-- Rows that are added.
use Rattle.std.proofs.Common.{◌≡◌, ℕ, zero, suc, ◌+◌, ◌<◌, ◌≤◌, Bool, true, false, cond, nat_eq, List, [], ◌∷◌, ◌++◌, length, slice_index_or, refl, sym, ap, ◌∙◌, subst, arith, length-append}
use Rattle.std.proofs.lemmas.Bool.{cases_eq, cases_lt}
use Rattle.std.proofs.Math.ListN.{get_or-append}
use Rattle.std.proofs.Math.Seq.{get_or-append_seam}
use Rattle.std.proofs.Math.Logic.{⊎_elim}
use Rattle.diagrams.specs.declared.decision.Decision.{Decision}
use Rattle.diagrams.specs.declared.memo.Operation.{Operation}
use Rattle.diagrams.specs.Decisions.{row, step, walk, value, no_decision, IsAt, IsDecision, IsDiagram}
use Rattle.diagrams.specs.Cofactors.{Function, Same, IsCofactorOfOne}
use Rattle.diagrams.specs.Operations.{combined}
use Rattle.diagrams.specs.Building.{DiagramState, combined_rows, choice, Extends, AreMade}
use Rattle.diagrams.proofs.Walks.{step-at, step-past, value-step}
use Rattle.diagrams.proofs.Canonical.{one_row_each}
use Rattle.diagrams.proofs.CofactorLemmas.{of_one-same}

-- the ends of a row are rows
ends_inside : (inputs : ℕ) (rows : List Decision) → IsDiagram inputs rows → (k : ℕ) (b : Bool) → k < length rows → cond b (row rows k).high (row rows k).low < length rows
ends_inside inputs rows D zero true node = let e = ap (λ d. d.high) D.zero in let two = D.constants in omega arith
ends_inside inputs rows D zero false node = let e = ap (λ d. d.low) D.zero in let two = D.constants in omega arith
ends_inside inputs rows D (suc zero) true node = let e = ap (λ d. d.high) D.one in let two = D.constants in omega arith
ends_inside inputs rows D (suc zero) false node = let e = ap (λ d. d.low) D.one in let two = D.constants in omega arith
ends_inside inputs rows D (suc (suc k)) true node = (D.decides (suc (suc k)) (omega arith) node).high.node
ends_inside inputs rows D (suc (suc k)) false node = (D.decides (suc (suc k)) (omega arith) node).low.node

pub step-inside : (inputs : ℕ) (rows : List Decision) → IsDiagram inputs rows → (level k : ℕ) (b : Bool) → k < length rows → step rows level k b < length rows
step-inside inputs rows D level k b node = ⊎_elim
    (λ here. subst (λ (j : ℕ). j < length rows) (sym (step-at rows level k b here)) (ends_inside inputs rows D k b node))
    (λ past. subst (λ (j : ℕ). j < length rows) (sym (step-past rows level k b past)) node)
    (cases_eq (row rows k).input level)

-- walks from old rows stay
walk-kept : (inputs : ℕ) (old new : List Decision) → IsDiagram inputs old → Extends old new → (level k : ℕ) (x : List Bool) → k < length old → walk new level k x ≡ walk old level k x
walk-kept inputs old new D more level k [] node = refl
walk-kept inputs old new D more level k (b ∷ x) node =
    ap (λ (d : Decision). walk new (suc level) (cond (nat_eq d.input level) (cond b d.high d.low) k) x) (more.kept k node)
    ∙ walk-kept inputs old new D more (suc level) (step old level k b) x (step-inside inputs old D level k b node)

pub value-kept : (inputs : ℕ) (old new : List Decision) → IsDiagram inputs old → Extends old new → (k : ℕ) (x : List Bool) → k < length old → value new k x ≡ value old k x
value-kept inputs old new D more k x node = ap (λ j. nat_eq j 1) (walk-kept inputs old new D more 0 k x node)

pub combined-kept : (inputs : ℕ) (old new : List Decision) → IsDiagram inputs old → Extends old new → (operation : Operation) (f g : ℕ) (x : List Bool) → f < length old → g < length old →
    combined_rows operation new f g x ≡ combined_rows operation old f g x
combined-kept inputs old new D more operation f g x node_f node_g =
    ap (λ v. combined operation v (value new g x)) (value-kept inputs old new D more f x node_f) ∙ ap (λ v. combined operation (value old f x) v) (value-kept inputs old new D more g x node_g)

pub IsAt-kept : (old new : List Decision) → Extends old new → (level k : ℕ) → IsAt old level k → IsAt new level k
IsAt-kept old new more level k at = record { node = let a = at.node in let b = more.longer in omega arith; above = subst (λ (d : Decision). level ≤ d.input) (sym (more.kept k at.node)) at.above }

-- rows extend themselves
pub Extends-refl : (rows : List Decision) → Extends rows rows
Extends-refl rows = record { longer = omega arith; kept = λ k node. refl }

-- rows that were extended twice have been extended
pub Extends-trans : (a b c : List Decision) → Extends a b → Extends b c → Extends a c
Extends-trans a b c m n = record {
  longer = let p = m.longer in let q = n.longer in omega arith;
  kept = λ k node. n.kept k (let p = m.longer in omega arith) ∙ m.kept k node;
}

-- a row after the others
pub row-push : (rows : List Decision) (d : Decision) → row (rows ++ d ∷ []) (length rows) ≡ d
row-push rows d = get_or-append_seam rows d [] no_decision

pub length-push : (rows : List Decision) (d : Decision) → length (rows ++ d ∷ []) ≡ length rows + 1
length-push rows d = length-append rows (d ∷ [])

pub Extends-push : (rows : List Decision) (d : Decision) → Extends rows (rows ++ d ∷ [])
Extends-push rows d = record { longer = omega (arith, length-push rows d); kept = λ k node. get_or-append rows (d ∷ []) no_decision k node }

IsDecision-kept : (inputs : ℕ) (old new : List Decision) (d : Decision) → Extends old new → IsDecision inputs old d → IsDecision inputs new d
IsDecision-kept inputs old new d more decides = record {
  input = decides.input;
  low = IsAt-kept old new more _ _ decides.low;
  high = IsAt-kept old new more _ _ decides.high;
  differ = decides.differ;
}

pub IsDiagram-push : (inputs : ℕ) (rows : List Decision) (d : Decision) → IsDiagram inputs rows → IsDecision inputs rows d →
    ((k : ℕ) → 2 ≤ k → k < length rows → row rows k ≡ d → ⊥) → IsDiagram inputs (rows ++ d ∷ [])
IsDiagram-push inputs rows d D decides absent =
    let new = rows ++ d ∷ [] in
    let more = Extends-push rows d in
    let two = D.constants in
    let count = length-push rows d in
    let decides_new = IsDecision-kept inputs rows new d more decides in
    record {
      constants = omega arith;
      zero = more.kept 0 (omega arith) ∙ D.zero;
      one = more.kept 1 (omega arith) ∙ D.one;
      decides = λ k big node. ⊎_elim
          (λ before. subst (λ (e : Decision). IsDecision inputs new e) (sym (more.kept k before)) (IsDecision-kept inputs rows new (row rows k) more (D.decides k big before)))
          (λ last. let here : length rows ≡ k = omega arith in
          subst (λ (n : ℕ). IsDecision inputs new (row new n)) here (subst (λ (e : Decision). IsDecision inputs new e) (sym (row-push rows d)) decides_new))
          (cases_lt k (length rows));
      once = λ j k big before node same. ⊎_elim
          (λ inside. D.once j k big before inside (sym (more.kept j (omega arith)) ∙ (same ∙ more.kept k inside)))
          (λ last. let here : k ≡ length rows = omega arith in
          absent j big (omega arith) (sym (more.kept j (omega arith)) ∙ (same ∙ (ap (row new) here ∙ row-push rows d))))
          (cases_lt k (length rows));
    }

-- a row that decides so stands for the choice
pub value-row : (inputs : ℕ) (rows : List Decision) (d : Decision) (k : ℕ) → IsDiagram inputs rows → k < length rows → row rows k ≡ d → d.input < inputs →
    Same inputs (value rows k) (choice rows d.input d.low d.high)
value-row inputs rows d k D node own inside = record {
  at = λ x sized.
      let here : (row rows k).input ≡ d.input = ap (λ e. e.input) own in
      let b = slice_index_or x d.input false in
      let at : IsAt rows d.input k = record { node = node; above = omega arith } in
      let by_bit : (t : Bool) → value rows (cond t (row rows k).high (row rows k).low) x ≡ cond t (value rows d.high x) (value rows d.low x) =
      λ t. elim t as (λ s. value rows (cond s (row rows k).high (row rows k).low) x ≡ cond s (value rows d.high x) (value rows d.low x))
      [ true ↦ ap (λ e. value rows e.high x) own | false ↦ ap (λ e. value rows e.low x) own ] in
      value-step inputs rows D d.input k x at inside sized ∙ (ap (λ j. value rows j x) (step-at rows d.input k b here) ∙ by_bit b);
}

-- the choice of old rows stays
pub choice-kept : (inputs : ℕ) (old new : List Decision) → IsDiagram inputs old → Extends old new → (input low high : ℕ) (x : List Bool) → low < length old → high < length old →
    choice new input low high x ≡ choice old input low high x
choice-kept inputs old new D more input low high x node_low node_high =
    let b = slice_index_or x input false in
    ap (λ v. cond b v (value new low x)) (value-kept inputs old new D more high x node_high) ∙ ap (λ v. cond b (value old high x) v) (value-kept inputs old new D more low x node_low)

-- the row that was added stands for the choice
pub value-push : (inputs : ℕ) (rows : List Decision) (d : Decision) → IsDiagram inputs rows → IsDecision inputs rows d → IsDiagram inputs (rows ++ d ∷ []) →
    Same inputs (value (rows ++ d ∷ []) (length rows)) (choice rows d.input d.low d.high)
value-push inputs rows d D decides D_new = record {
  at = λ x sized.
      let count = length-push rows d in
      let own = value-row inputs (rows ++ d ∷ []) d (length rows) D_new (omega arith) (row-push rows d) decides.input in
      own.at x sized ∙ choice-kept inputs rows (rows ++ d ∷ []) D (Extends-push rows d) d.input d.low d.high x decides.low.node decides.high.node;
}

-- nothing was added
pub AreMade-refl : (state : DiagramState) (fs : List Function) → IsDiagram state.inputs state.rows → length state.rows ≤ state.room → AreMade state state fs
AreMade-refl state fs D within = record {
  inputs = refl;
  room = refl;
  diagram = D;
  within = within;
  extends = Extends-refl state.rows;
  cofactors = λ k from node. absurd (omega arith);
}

-- one row was added for the sake of these functions, and then more
pub AreMade-trans : (a b c : DiagramState) (fs : List Function) → AreMade a b fs → AreMade b c fs → AreMade a c fs
AreMade-trans a b c fs m n = record {
  inputs = n.inputs ∙ m.inputs;
  room = n.room ∙ m.room;
  diagram = n.diagram;
  within = n.within;
  extends = Extends-trans a.rows b.rows c.rows m.extends n.extends;
  cofactors = λ k from node. ⊎_elim
      (λ first. of_one-same c.inputs fs (value b.rows k) (value c.rows k)
      (subst (λ (i : ℕ). IsCofactorOfOne i fs (value b.rows k)) (sym n.inputs) (m.cofactors k from first))
      (record { at = λ x sized. value-kept b.inputs b.rows c.rows m.diagram n.extends k x first }))
      (λ later. n.cofactors k later node)
      (cases_lt k (length b.rows));
}

state-same : (a b : DiagramState) → a.inputs ≡ b.inputs → a.room ≡ b.room → a.rows ≡ b.rows → a ≡ b
state-same a b i m r =
    let made : ℕ → ℕ → List Decision → DiagramState = λ inputs room rows. record { inputs = inputs; room = room; rows = rows } in
    ap (λ n. made n a.room a.rows) i ∙ (ap (λ n. made b.inputs n a.rows) m ∙ ap (λ ds. made b.inputs b.room ds) r)

-- a decision that isn't there is added for the sake of functions of which its choice is a cofactor
pub AreMade-push : (old new : DiagramState) (d : Decision) (fs : List Function) → IsDiagram old.inputs old.rows → IsDecision old.inputs old.rows d →
    ((k : ℕ) → 2 ≤ k → k < length old.rows → row old.rows k ≡ d → ⊥) → length old.rows < old.room →
    new.inputs ≡ old.inputs → new.room ≡ old.room → new.rows ≡ old.rows ++ d ∷ [] →
    IsCofactorOfOne old.inputs fs (choice old.rows d.input d.low d.high) → AreMade old new fs
AreMade-push old new d fs D decides absent room same_inputs same_room same_rows needed =
    let rows = old.rows ++ d ∷ [] in
    let D_new = IsDiagram-push old.inputs old.rows d D decides absent in
    let count = length-push old.rows d in
    let made : AreMade old (record { inputs = old.inputs; room = old.room; rows = rows }) fs = record {
      inputs = refl;
      room = refl;
      diagram = D_new;
      within = omega arith;
      extends = Extends-push old.rows d;
      cofactors = λ k from node. let here : length old.rows ≡ k = omega arith in
          subst (λ (n : ℕ). IsCofactorOfOne old.inputs fs (value rows n)) here (of_one-same old.inputs fs _ _ needed (value-push old.inputs old.rows d D decides D_new));
    } in
    subst (λ (s : DiagramState). AreMade old s fs) (state-same _ new (sym same_inputs) (sym same_room) (sym same_rows)) made

-- no row stands for the choice of a decision that isn't there
pub no_row : (inputs : ℕ) (rows : List Decision) (d : Decision) → IsDiagram inputs rows → IsDecision inputs rows d →
    ((k : ℕ) → 2 ≤ k → k < length rows → row rows k ≡ d → ⊥) → (k : ℕ) → k < length rows → Same inputs (value rows k) (choice rows d.input d.low d.high) → ⊥
no_row inputs rows d D decides absent k node same =
    let D_new = IsDiagram-push inputs rows d D decides absent in
    let own = value-push inputs rows d D decides D_new in
    let count = length-push rows d in
    let e = one_row_each inputs (rows ++ d ∷ []) D_new k (length rows) (omega arith) (omega arith)
    (record { at = λ x sized. value-kept inputs rows (rows ++ d ∷ []) D (Extends-push rows d) k x node ∙ (same.at x sized ∙ sym (own.at x sized)) }) in
    omega arith
