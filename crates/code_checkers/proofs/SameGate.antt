-- The derived `==` of gates is the same gate.
use Rattle.std.specs.Prelude.{◌≡◌, Bool, List, ◌++◌, [], ◌∷◌, if◌then◌else◌, refl}
use Rattle.std.specs.List.{list_any}
use Rattle.std.proofs.Common.{ap}
use Rattle.std.proofs.Math.Path.{fun_ext}
use Rattle.code_checkers.specs.declared.gate.CheckGate.{CheckGate}
use Rattle.code_checkers.specs.declared.gate.CheckGate.TheVariants as gate
use Rattle.code_checkers.specs.contracts.gate.CheckGatePartialEq.TheImpl.{eq-value}
use Rattle.code_checkers.specs.Walk.{same_gate, with_gate}

gates_alike : (g h : CheckGate) → eq-value.it g h ≡ same_gate g h
gates_alike (gate.Word a) (gate.Word c) = refl
gates_alike (gate.Buf a) (gate.Buf c) = refl
gates_alike (gate.Not a) (gate.Not c) = refl
gates_alike (gate.And a b) (gate.And c d) = refl
gates_alike (gate.Or a b) (gate.Or c d) = refl
gates_alike (gate.Xor a b) (gate.Xor c d) = refl
gates_alike _ _ = refl

pub with_gate_alike : (gates : List CheckGate) (g : CheckGate) → (if list_any (eq-value.it g) gates then gates else gates ++ g ∷ []) ≡ with_gate gates g
with_gate_alike gates g = ap (λ (test : CheckGate → Bool). if list_any test gates then gates else gates ++ g ∷ []) (fun_ext (gates_alike g))
