-- Signals that negate only inputs: the signs at the pins of the nodes that realise them.
use Rattle.std.proofs.Common.{◌≡◌, ℕ, zero, suc, ◌+◌, ◌<◌, ◌≤◌, inl, inr, true, List, [], ◌∷◌, length, slice_index, slice_index_or, IsFalse, All, refl, sym, subst, arith}
use Rattle.std.proofs.lemmas.Bool.{false≢true}
use Rattle.std.proofs.lemmas.List.Elements.{All-map}
use Rattle.tsc_cover.specs.Cover.{CoverTable, zero_cover, wrong_sign}
use Rattle.tsc_cover.specs.Gates.{buf_cover, not_cover, and_cover, or_cover}
use Rattle.fault_secure.specs.Circuit.{Circuit, NodeOf}
use Rattle.fault_secure.specs.CodePlan.{CodePlan, monitored}
use Rattle.fault_secure.specs.Depends.{Depends}
use Rattle.fault_secure.specs.Structure.{IsUnate}
use Rattle.gate_net.specs.declared.line.Line.{Line}
use Rattle.gate_net.specs.declared.gate.Gate.{Gate}
use Rattle.gate_net.specs.declared.gate.Gate.TheVariants as gate
use Rattle.gate_net.specs.Signal.{Signal}
use Rattle.gate_net.specs.Signal.Signal.{Zero, One, Input, State, Not, And, Or, Xor}
use Rattle.gate_net.specs.Gates.{GateNetwork, IsHashed, IsLine, AreLines, ReadsBelow, gate_at, gate_signal, meaning, meanings}
use Rattle.gate_net.specs.Negations.{is_input, negates_inputs, NegatesOnlyInputs}
use Rattle.gate_net.specs.Realised.{one_cover, IsGateBefore, RealisesBefore, RealisesByBuf, RealisesRoot, AllRealise, IsInputBit, NegatesInputs, HasRightSigns}
use Rattle.gate_net.proofs.Signals.{meaning_is}
use Rattle.gate_net.proofs.Realised.{past_latches, by_gate}

-- the signs of a gate's node are those of the gate
gate_signs : (N : Circuit) (hi net : ℕ) (cover : CoverTable) (reads : List ℕ) (g : IsGateBefore N hi net cover reads)
    → ((pin : ℕ) → pin < length reads → N.inputs ≤ slice_index reads pin → IsFalse (wrong_sign cover pin)) → HasRightSigns N g.driver
gate_signs N hi net cover reads g signs =
    subst (λ (n : NodeOf). (pin : ℕ) → pin < length n.reads → N.inputs ≤ slice_index n.reads pin → IsFalse (wrong_sign n.cover pin)) (sym g.is_gate) signs

signs_of_buf : (N : Circuit) (m pin : ℕ) → pin < 1 → N.inputs ≤ slice_index (m ∷ []) pin → IsFalse (wrong_sign buf_cover pin)
signs_of_buf N m zero lt out = refl
signs_of_buf N m (suc pin) lt out = absurd (omega arith)

signs_of_not : (N : Circuit) (m pin : ℕ) → m < N.inputs → pin < 1 → N.inputs ≤ slice_index (m ∷ []) pin → IsFalse (wrong_sign not_cover pin)
signs_of_not N m zero low lt out = absurd (omega arith)
signs_of_not N m (suc pin) low lt out = absurd (omega arith)

signs_of_and : (N : Circuit) (m n pin : ℕ) → pin < 2 → N.inputs ≤ slice_index (m ∷ (n ∷ [])) pin → IsFalse (wrong_sign and_cover pin)
signs_of_and N m n zero lt out = refl
signs_of_and N m n (suc zero) lt out = refl
signs_of_and N m n (suc (suc pin)) lt out = absurd (omega arith)

signs_of_or : (N : Circuit) (m n pin : ℕ) → pin < 2 → N.inputs ≤ slice_index (m ∷ (n ∷ [])) pin → IsFalse (wrong_sign or_cover pin)
signs_of_or N m n zero lt out = refl
signs_of_or N m n (suc zero) lt out = refl
signs_of_or N m n (suc (suc pin)) lt out = absurd (omega arith)

module _ (N : Circuit) (hi : ℕ) where
  Right : ℕ → Type 0
  Right q = HasRightSigns N q

  constant_right : (net : ℕ) (cover : CoverTable) (g : IsGateBefore N hi net cover []) → Right g.driver
  unfolding Right
  constant_right net cover g = gate_signs N hi net cover [] g (λ pin lt out. absurd (omega arith))

  buf_right : (net m : ℕ) (g : IsGateBefore N hi net buf_cover (m ∷ [])) → Right g.driver
  unfolding Right
  buf_right net m g = gate_signs N hi net buf_cover (m ∷ []) g (signs_of_buf N m)

  not_right : (net m : ℕ) (g : IsGateBefore N hi net not_cover (m ∷ [])) → m < N.inputs → Right g.driver
  unfolding Right
  not_right net m g low = gate_signs N hi net not_cover (m ∷ []) g (λ pin lt out. signs_of_not N m pin low lt out)

  and_right : (net m n : ℕ) (g : IsGateBefore N hi net and_cover (m ∷ (n ∷ []))) → Right g.driver
  unfolding Right
  and_right net m n g = gate_signs N hi net and_cover (m ∷ (n ∷ [])) g (signs_of_and N m n)

  or_right : (net m n : ℕ) (g : IsGateBefore N hi net or_cover (m ∷ (n ∷ []))) → Right g.driver
  unfolding Right
  or_right net m n g = gate_signs N hi net or_cover (m ∷ (n ∷ [])) g (signs_of_or N m n)

  -- a negated signal's net is an input's
  input_low : (a : Signal) (net : ℕ) → IsInputBit a → RealisesBefore N hi a net → net < N.inputs
  input_low (Input i) net is r = let low = r.0 in let at = r.1 in omega arith
  input_low Zero net is r = absurd is
  input_low One net is r = absurd is
  input_low (State i) net is r = absurd is
  input_low (Not a) net is r = absurd is
  input_low (And a b) net is r = absurd is
  input_low (Or a b) net is r = absurd is
  input_low (Xor a b) net is r = absurd is

  low_right : (net q : ℕ) → net < N.inputs + length N.latches → Depends N q net → Right q
  low_right net q low d = let past = past_latches N q net d in absurd (omega arith)

  signs : (signal : Signal) (net q : ℕ) → NegatesInputs signal → RealisesBefore N hi signal net → Depends N q net → Right q
  signs Zero net q u r d = by_gate N hi Right q net zero_cover [] r (constant_right net zero_cover r) tt d
  signs One net q u r d = by_gate N hi Right q net one_cover [] r (constant_right net one_cover r) tt d
  signs (Input i) net q u r d = low_right net q (let low = r.0 in let at = r.1 in omega arith) d
  signs (State i) net q u r d = low_right net q (let low = r.0 in let at = r.1 in omega arith) d
  signs (Not a) net q u r d =
      let low : r.0 < N.inputs = input_low a r.0 u r.2 in
      by_gate N hi Right q net not_cover (r.0 ∷ []) r.1 (not_right net r.0 r.1 low) (low_right r.0 q (omega arith), tt) d
  signs (And a b) net q u r d = by_gate N hi Right q net and_cover (r.0 ∷ (r.1 ∷ [])) r.2 (and_right net r.0 r.1 r.2) (signs a r.0 q u.0 r.3, (signs b r.1 q u.1 r.4, tt)) d
  signs (Or a b) net q u r d = by_gate N hi Right q net or_cover (r.0 ∷ (r.1 ∷ [])) r.2 (or_right net r.0 r.1 r.2) (signs a r.0 q u.0 r.3, (signs b r.1 q u.1 r.4, tt)) d
  signs (Xor a b) net q u r d = absurd u

  signs_by_buf : (signal : Signal) (net q : ℕ) → NegatesInputs signal → RealisesByBuf N hi signal net → Depends N q net → Right q
  signs_by_buf signal net q u r d = by_gate N hi Right q net buf_cover (r.0 ∷ []) r.1 (buf_right net r.0 r.1) (signs signal r.0 q u r.2, tt) d

  signs_of_root : (signal : Signal) (net q : ℕ) → NegatesInputs signal → RealisesRoot N hi signal net → Depends N q net → Right q
  signs_of_root signal net q u (inl r) d = signs signal net q u r d
  signs_of_root signal net q u (inr r) d = signs_by_buf signal net q u r d

pub root_signs : (N : Circuit) (hi : ℕ) (signal : Signal) (net q : ℕ) → NegatesInputs signal → RealisesRoot N hi signal net → Depends N q net → HasRightSigns N q
unfolding Right
root_signs N hi signal net q u r d = signs_of_root N hi signal net q u r d

each_right : (N : Circuit) (hi q : ℕ) (signals : List Signal) (nets : List ℕ) → All NegatesInputs signals → AllRealise N hi signals nets
    → (k d : ℕ) → k < length nets → Depends N q (slice_index_or nets k d) → HasRightSigns N q
each_right N hi q signals [] u h k d lt depends = absurd (omega arith)
each_right N hi q [] (net ∷ nets) u h k d lt depends = absurd h
each_right N hi q (signal ∷ signals) (net ∷ nets) u h zero d lt depends = root_signs N hi signal net q (u 0 signal (omega arith)) h.0 depends
each_right N hi q (signal ∷ signals) (net ∷ nets) u h (suc k) d lt depends =
    each_right N hi q signals nets (λ j e below. u (suc j) e (omega arith)) h.1 k d (omega arith) depends

-- a plan whose monitored nets all realise signals that negate only inputs is unate
pub plan_unate : (N : Circuit) (P : CodePlan) (hi : ℕ) (signals : List Signal) → All NegatesInputs signals → AllRealise N hi signals (monitored N P) → IsUnate N P
plan_unate N P hi signals u h = record {
  signs = λ q pin there is has out.
      each_right N hi q signals (monitored N P) u h is.monitors.0 is.net is.monitors.1 (subst (Depends N q) (sym is.monitors.2) is.depends) pin has out;
}

-- an input's line means the bit of an input
input_bit : (G : GateNetwork) (g : Gate) → is_input g ≡ true → IsInputBit (gate_signal G g)
input_bit G (gate.Input i) e = tt
input_bit G _ e = absurd (false≢true e)

-- where each gate negates only inputs, so does what a line below a bound means
module _ (G : GateNetwork) (sound : IsHashed G) (negates : NegatesOnlyInputs G) where
  by_lines : (g : Gate) (n : ℕ) → n ≤ length G.gates → ReadsBelow G n g → negates_inputs G.gates g ≡ true
      → ((line : Line) → line.number < n → NegatesInputs (meaning G line)) → NegatesInputs (gate_signal G g)
  by_lines (gate.Not a) n le reads e below =
      subst IsInputBit (sym (meaning_is G a sound (omega (arith, reads)))) (input_bit G (gate_at G.gates a.number) e)
  by_lines (gate.And a b) n le reads e below = (below a reads.0, below b reads.1)
  by_lines (gate.Or a b) n le reads e below = (below a reads.0, below b reads.1)
  by_lines (gate.Xor a b) n le reads e below = absurd (false≢true e)
  by_lines _ n le reads e below = tt

  line_negates_below : (bound : ℕ) (line : Line) → line.number < bound → IsLine G line → NegatesInputs (meaning G line)
  line_negates_below zero line lt within = absurd (omega arith)
  line_negates_below (suc bound) line lt within =
      subst NegatesInputs (sym (meaning_is G line sound within))
      (by_lines (gate_at G.gates line.number) line.number (omega arith) (sound.ordered line.number within) (negates line.number gate.Zero within)
      (λ other less. line_negates_below bound other (omega arith) (omega arith)))

  pub line_negates : (line : Line) → IsLine G line → NegatesInputs (meaning G line)
  line_negates line within = line_negates_below (suc line.number) line (omega arith) within

-- lines of hashed gates that negate only inputs mean signals that negate only inputs
pub lines_negate : (G : GateNetwork) (lines : List Line) → IsHashed G → NegatesOnlyInputs G → AreLines G lines → All NegatesInputs (meanings G lines)
lines_negate G lines sound negates within =
    All-map NegatesInputs (meaning G) lines (λ k d lt. line_negates G sound negates (slice_index_or lines k d) (within k d lt))
