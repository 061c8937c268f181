-- The same gate, and the derived `==` of gates.
use Rattle.std.specs.Prelude.{◌≡◌, ℕ, true, refl}
use Rattle.std.proofs.Common.{ap, ap₂}
use Rattle.std.proofs.lemmas.Bool.{and_from, and_parts, eq-eqb, eqb-true, false≢true}
use Rattle.gate_net.specs.declared.line.Line.{Line}
use Rattle.gate_net.specs.declared.gate.Gate.{Gate}
use Rattle.gate_net.specs.declared.gate.Gate.TheVariants as gate
use Rattle.gate_net.specs.contracts.gate.GatePartialEq.TheImpl.{eq-value}
use Rattle.gate_net.specs.Gates.{same_line, same_gate}

pub gates_alike : (g h : Gate) → eq-value.it g h ≡ same_gate g h
gates_alike gate.Zero gate.Zero = refl
gates_alike gate.One gate.One = refl
gates_alike (gate.Input a) (gate.Input c) = refl
gates_alike (gate.State a) (gate.State c) = refl
gates_alike (gate.Not a) (gate.Not c) = refl
gates_alike (gate.And a b) (gate.And c d) = refl
gates_alike (gate.Or a b) (gate.Or c d) = refl
gates_alike (gate.Xor a b) (gate.Xor c d) = refl
gates_alike _ _ = refl

pub same_gate-refl : (g : Gate) → same_gate g g ≡ true
same_gate-refl gate.Zero = refl
same_gate-refl gate.One = refl
same_gate-refl (gate.Input a) = eq-eqb a a refl
same_gate-refl (gate.State a) = eq-eqb a a refl
same_gate-refl (gate.Not a) = eq-eqb a.number a.number refl
same_gate-refl (gate.And a b) = and_from _ _ (eq-eqb a.number a.number refl) (eq-eqb b.number b.number refl)
same_gate-refl (gate.Or a b) = and_from _ _ (eq-eqb a.number a.number refl) (eq-eqb b.number b.number refl)
same_gate-refl (gate.Xor a b) = and_from _ _ (eq-eqb a.number a.number refl) (eq-eqb b.number b.number refl)

-- lines that are the same are equal
line_is : (a b : Line) → same_line a b ≡ true → a ≡ b
line_is a b e = ap (λ (n : ℕ). let line : Line = record { number = n } in line) (eqb-true a.number b.number e)

-- so are gates
pub same_gate-is : (g h : Gate) → same_gate g h ≡ true → g ≡ h
same_gate-is gate.Zero gate.Zero e = refl
same_gate-is gate.One gate.One e = refl
same_gate-is (gate.Input a) (gate.Input c) e = ap (λ (i : ℕ). gate.Input i) (eqb-true a c e)
same_gate-is (gate.State a) (gate.State c) e = ap (λ (i : ℕ). gate.State i) (eqb-true a c e)
same_gate-is (gate.Not a) (gate.Not c) e = ap (λ (l : Line). gate.Not l) (line_is a c e)
same_gate-is (gate.And a b) (gate.And c d) e = let parts = and_parts (same_line a c) (same_line b d) e in ap₂ (λ (k l : Line). gate.And k l) (line_is a c parts.0) (line_is b d parts.1)
same_gate-is (gate.Or a b) (gate.Or c d) e = let parts = and_parts (same_line a c) (same_line b d) e in ap₂ (λ (k l : Line). gate.Or k l) (line_is a c parts.0) (line_is b d parts.1)
same_gate-is (gate.Xor a b) (gate.Xor c d) e = let parts = and_parts (same_line a c) (same_line b d) e in ap₂ (λ (k l : Line). gate.Xor k l) (line_is a c parts.0) (line_is b d parts.1)
same_gate-is _ _ e = absurd (false≢true e)
