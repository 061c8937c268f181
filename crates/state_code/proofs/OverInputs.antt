-- Networks that grow by gates that negate only inputs and are no bits of the state.
use Rattle.std.specs.Prelude.{◌≡◌, ℕ, true, false, List, [], ◌∷◌, ◌++◌, length, Result, Ok, Err, OnOk, OnErr, IfOk, slice_get, Some}
use Rattle.std.proofs.Common.{◌<◌, sym, ◌∙◌, subst, arith}
use Rattle.std.proofs.lemmas.List.Elements.{All-from_recursion, All-append, All-from_get_or}
use Rattle.std.proofs.lemmas.Option.{get_or_from_slice_get}
use Rattle.gate_net.specs.declared.line.Line.{Line}
use Rattle.gate_net.specs.declared.gate.Gate.{Gate}
use Rattle.gate_net.specs.declared.gate.Gate.TheVariants as gate
use Rattle.gate_net.specs.Gates.{GateNetwork, gate_at, with_gate, ReadsBelow, ReadsWithin, IsHashed}
use Rattle.gate_net.specs.Growth.{Grows}
use Rattle.gate_net.specs.Negations.{is_state, negates_inputs, NegatesOnlyInputs}
use Rattle.gate_net.proofs.Kept.{grows_twice, gate_kept}
use Rattle.gate_net.proofs.Once.{by_cases, none_twice}
use Rattle.state_code.specs.Lines.{GrowsWithout, GrowsOverInputs}
use Rattle.state_code.proofs.Without.{without_none, without_added, negates_still}

-- a network that stays
pub over_none : (G : GateNetwork) → GrowsOverInputs G G
over_none G =
    let same : GrowsWithout is_state G G = without_none is_state G in
    record { grows = same.grows; none = same.none; signs = λ h. h }

pub over_twice : (a b c : GateNetwork) → GrowsOverInputs a b → GrowsOverInputs b c → GrowsOverInputs a c
over_twice a b c h k = record {
  grows = grows_twice a b c h.grows k.grows;
  none = none_twice a b c is_state h.grows k.grows h.none k.none;
  signs = λ was. k.signs (h.signs was);
}

-- the gates that were there read earlier lines, as those of the grown network do
still_ordered : (old new : GateNetwork) (n : ℕ) → Grows old new → IsHashed new → n < length old.gates → ReadsBelow new n (gate_at old.gates n)
still_ordered old new n grows sound lt =
    subst (ReadsBelow new n) (gate_kept old new (record { number = n }) grows lt) (sound.ordered n (omega (arith, grows.count, lt)))

-- a gate more that negates only an input
signs_added : (old new : GateNetwork) (g : Gate) → Grows old new → IsHashed new → ReadsWithin old g → negates_inputs old.gates g ≡ true → NegatesOnlyInputs old → NegatesOnlyInputs (with_gate old g)
signs_added old new g grows sound reads plain negates =
    by_cases NegatesOnlyInputs old g negates
    (λ missing.
    All-append (λ h. negates_inputs (old.gates ++ g ∷ []) h ≡ true) old.gates (g ∷ [])
    (All-from_get_or (λ h. negates_inputs (old.gates ++ g ∷ []) h ≡ true) old.gates gate.Zero
    (λ n lt. negates_still old new (g ∷ []) n (gate_at old.gates n) (omega (arith, lt)) (still_ordered old new n grows sound lt) ∙ negates n gate.Zero lt))
    (All-from_recursion (λ h. negates_inputs (old.gates ++ g ∷ []) h ≡ true) (g ∷ []) (negates_still old old (g ∷ []) (length old.gates) g (omega arith) reads ∙ plain, tt)))

-- a gate that was asked for, whether it came or memory was missing
pub over_either : {X E : Type 0} (result : Result X E) (old new : GateNetwork) (g : Gate) → IsHashed new → ReadsWithin old g → OnOk result (new ≡ with_gate old g) → OnErr result (new ≡ old) → is_state g ≡ false → negates_inputs old.gates g ≡ true → GrowsOverInputs old new
over_either (Ok line) old new g sound reads once refused plain negates =
    let came : GrowsWithout is_state old new = without_added is_state old new g once plain in
    record { grows = came.grows; none = came.none; signs = λ was. subst NegatesOnlyInputs (sym once) (signs_added old new g came.grows sound reads negates was) }
over_either (Err error) old new g sound reads once refused plain negates = subst (GrowsOverInputs old) (sym refused) (over_none old)

-- the gate of the line that was answered
pub stored_at : {E : Type 0} (result : Result Line E) (gates : List Gate) (g : Gate) → IfOk result (λ line. slice_get gates line.number ≡ Some g) → IfOk result (λ line. gate_at gates line.number ≡ g)
stored_at (Ok line) gates g h = get_or_from_slice_get gates line.number g gate.Zero h
stored_at (Err error) gates g h = tt
