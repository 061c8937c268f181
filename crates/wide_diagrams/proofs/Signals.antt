-- Rows of a checker's gates: what stands for a gate's signal, and one gate more.
use Rattle.std.proofs.Common.{◌≡◌, ℕ, zero, suc, ◌<◌, Bool, true, false, List, [], ◌∷◌, map, length, slice_index, slice_index_or, refl, sym, ap, ◌∙◌, subst, arith}
use Rattle.std.specs.List.{AllByRecursion}
use Rattle.tsc_bits.specs.Counting.{differ}
use Rattle.fault_secure.specs.CodePlan.{CodePlan}
use Rattle.code_checkers.specs.declared.gate.CheckGate.{CheckGate}
use Rattle.code_checkers.specs.declared.gate.CheckGate.TheVariants as gate
use Rattle.code_checkers.specs.Signal.{Signal, value}
use Rattle.code_checkers.specs.Signal.Signal.{Word, Xor}
use Rattle.code_checkers.specs.Checker.{rail1, rail2}
use Rattle.code_checkers.specs.Walk.{walk}
use Rattle.code_checkers.specs.Gates.{signal_of, signals_of, meaning, AreOrdered}
use Rattle.code_checkers.specs.GateList.{GateList, IsCheckerOf}
use Rattle.code_checkers.proofs.Gates.{length-signals_of}
use Rattle.code_checkers.proofs.Sharing.{meaning_is}
use Rattle.diagrams.specs.declared.memo.Operation.TheVariants as operation
use Rattle.diagrams.specs.Operations.{combined}
use Rattle.diagrams.specs.Cofactors.{Function, Same, IsCofactorOfOne}
use Rattle.diagrams.specs.Building.{DiagramState, StandsFor}
use Rattle.diagrams.proofs.CofactorLemmas.{of_one-same}
use Rattle.diagrams.proofs.Waits.{stands_same}
use Rattle.cover_diagrams.specs.Covering.{HasRow, values}
use Rattle.wide_diagrams.specs.Stated.{signal_function, difference, checker_functions}
use Rattle.circuit_diagrams.specs.Steps.{AreKept, AreBuilt}
use Rattle.wide_diagrams.specs.GateRows.{SignalsStand}
use Rattle.circuit_diagrams.proofs.Lists.{each-append, each-front, each-back, each-map, map-at}

-- XOR
xor_is : (a b : Bool) → combined operation.Xor a b ≡ differ a b
xor_is true b = refl
xor_is false b = refl

pub xor_same : (inputs : ℕ) (ws : List Function) (a b : Signal) → Same inputs (λ x. combined operation.Xor (signal_function ws a x) (signal_function ws b x)) (signal_function ws (Xor a b))
xor_same inputs ws a b = record { at = λ x sized. xor_is (value (values ws x) a) (value (values ws x) b) }

pub xor_needed : (inputs : ℕ) (kept ws : List Function) (a b : Signal) → IsCofactorOfOne inputs kept (signal_function ws (Xor a b)) → IsCofactorOfOne inputs kept (λ x. combined operation.Xor (signal_function ws a x) (signal_function ws b x))
xor_needed inputs kept ws a b needed = of_one-same inputs kept _ _ needed (xor_same inputs ws a b)

pub xor_stands : (state : DiagramState) (ws : List Function) (a b : Signal) (row : ℕ) → StandsFor state (λ x. combined operation.Xor (signal_function ws a x) (signal_function ws b x)) row → StandsFor state (signal_function ws (Xor a b)) row
xor_stands state ws a b row stands = stands_same state _ _ state.inputs row refl (xor_same state.inputs ws a b) stands

-- the signal of a gate
pub gate_means : (gates : List CheckGate) (k : ℕ) (g : CheckGate) → AreOrdered gates → k < length gates → g ≡ slice_index_or gates k g → signal_of (signals_of gates) g ≡ meaning gates k
gate_means gates k g ordered inside is =
    ap (signal_of (signals_of gates)) (is ∙ default gates k g (gate.Word 0) inside) ∙ sym (meaning_is gates k ordered inside)
  where
    default : (xs : List CheckGate) (k : ℕ) (d e : CheckGate) → k < length xs → slice_index_or xs k d ≡ slice_index_or xs k e
    default [] k d e inside = absurd (omega arith)
    default (x ∷ xs) zero d e inside = refl
    default (x ∷ xs) (suc k) d e inside = default xs k d e (omega arith)

-- the gates of a plan's checker
pub checker_kept : (inputs : ℕ) (kept ws : List Function) (P : CodePlan) (made : GateList) → IsCheckerOf P made → AreKept inputs kept (checker_functions P ws) → (k : ℕ) → k < length made.gates →
    IsCofactorOfOne inputs kept (signal_function ws (meaning made.gates k))
checker_kept inputs kept ws P made is all k inside =
    let Q : Function → Type 0 = IsCofactorOfOne inputs kept in
    let gates = each-front Q (map (signal_function ws) (walk (rail2 P) (walk (rail1 P) []))) _ all in
    let here = subst (λ (ss : List Signal). AllByRecursion Q (map (signal_function ws) ss)) (sym is.signals) gates in
    let count = length-signals_of made.gates in
    map-at Q (signal_function ws) (signals_of made.gates) (Word 0) k here (omega (arith, count, inside))

pub rails_kept : (inputs : ℕ) (kept ws : List Function) (P : CodePlan) → AreKept inputs kept (checker_functions P ws) → IsCofactorOfOne inputs kept (difference (signal_function ws (rail1 P)) (signal_function ws (rail2 P)))
rails_kept inputs kept ws P all = (each-back (IsCofactorOfOne inputs kept) (map (signal_function ws) (walk (rail2 P) (walk (rail1 P) []))) _ all).0

pub checker_has_rows : (state : DiagramState) (ws : List Function) (P : CodePlan) (made : GateList) (rows : List ℕ) (row : ℕ) → IsCheckerOf P made → SignalsStand state ws (signals_of made.gates) (length made.gates) rows →
    StandsFor state (difference (signal_function ws (rail1 P)) (signal_function ws (rail2 P))) row → AreBuilt state (checker_functions P ws)
checker_has_rows state ws P made rows row is stand rails =
    let Q : Function → Type 0 = HasRow state in
    let count = length-signals_of made.gates in
    let here = each-map Q (signal_function ws) (signals_of made.gates) (Word 0) (λ k inside. (slice_index rows k, stand k (omega (arith, count, inside)))) in
    each-append Q (map (signal_function ws) (walk (rail2 P) (walk (rail1 P) []))) _ (subst (λ (ss : List Signal). AllByRecursion Q (map (signal_function ws) ss)) is.signals here) ((row, rails), tt)

pub rail_stands : (state : DiagramState) (ws : List Function) (made : GateList) (signal : Signal) (place rail : ℕ) (rows : List ℕ) → place ≡ rail → meaning made.gates rail ≡ signal → rail < length made.gates →
    SignalsStand state ws (signals_of made.gates) (length made.gates) rows → StandsFor state (signal_function ws signal) (slice_index rows place)
rail_stands state ws made signal place rail rows is means inside stand =
    subst (λ (n : ℕ). StandsFor state (signal_function ws signal) (slice_index rows n)) (sym is)
    (subst (λ (s : Signal). StandsFor state (signal_function ws s) (slice_index rows rail)) means (stand rail inside))
