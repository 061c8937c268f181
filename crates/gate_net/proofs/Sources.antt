-- Names of inputs and latches: where no two are the same, a name stands for one input or one latch.
use Rattle.std.proofs.Common.{◌≡◌, ℕ, ◌+◌, ◌-◌, ◌<◌, ◌≤◌, ◌⊎◌, inl, inr, true, false, List, [], length, refl, sym, ◌∙◌, ap, arith}
use Rattle.std.proofs.lemmas.Bool.{cases_lt, false≢true}
use Rattle.std.proofs.lemmas.List.{length-append, length-map, get_or_append_left, get_or-append-add}
use Rattle.tsc_net.specs.Named.{Named, latch_outs}
use Rattle.tsc_net.specs.Names.{text_at, has_text, IsNumbering}
use Rattle.tsc_net.proofs.NameLemmas.{has_text_at}
use Rattle.gate_net.specs.declared.gate.Gate.{Gate}
use Rattle.gate_net.specs.declared.gate.Gate.TheVariants as gate
use Rattle.gate_net.specs.Gates.{GateNetwork, gate_signal}
use Rattle.gate_net.specs.Negations.{is_input}
use Rattle.gate_net.specs.NodesOfLines.{has_node}
use Rattle.gate_net.specs.Written.{NameRealises}
use Rattle.gate_net.specs.Added.{sources}

-- the input or the latch at a place among both
abbrev source_by : (n j : ℕ) → (j < n) ⊎ (n ≤ j) → Gate
source_by n j (inl low) = gate.Input j
source_by n j (inr high) = gate.State (j - n)

abbrev source_at : ℕ → ℕ → Gate
source_at n j = source_by n j (cases_lt j n)

input_by : (n i : ℕ) (c : (i < n) ⊎ (n ≤ i)) → i < n → gate.Input i ≡ source_by n i c
input_by n i (inl low) lt = refl
input_by n i (inr high) lt = absurd (omega arith)

state_by : (n i : ℕ) (c : (n + i < n) ⊎ (n ≤ n + i)) → gate.State i ≡ source_by n (n + i) c
state_by n i (inl low) = absurd (omega arith)
state_by n i (inr high) = ap gate.State (let e : i ≡ n + i - n = omega arith in e)

-- where the name of a gate that is an input or a latch stands
pub record StandsAt (N : Named) (g : Gate) (text : List ℕ) : Type 0 where
  pub place : ℕ
  pub within : place < length (sources N)
  pub has : text_at (sources N) place ≡ text
  pub is : g ≡ source_at (length N.inputs) place

stands_at : (N : Named) (lo : ℕ) (G : GateNetwork) (g : Gate) (text : List ℕ) → has_node g ≡ false → NameRealises N lo (gate_signal G g) text → StandsAt N g text
stands_at N lo G (gate.Input i) text e r = record {
  place = i;
  within = (let low = r.0 in omega (arith, length-append N.inputs (latch_outs N)));
  has = get_or_append_left N.inputs (latch_outs N) [] i r.0 ∙ sym r.1;
  is = input_by (length N.inputs) i (cases_lt i (length N.inputs)) r.0;
}
stands_at N lo G (gate.State i) text e r = record {
  place = length N.inputs + i;
  within = (let low = r.0 in omega (arith, length-append N.inputs (latch_outs N), length-map N.latches (λ l. l.out)));
  has = get_or-append-add N.inputs (latch_outs N) i [] ∙ sym r.1;
  is = state_by (length N.inputs) i (cases_lt (length N.inputs + i) (length N.inputs));
}
stands_at N lo G gate.Zero text e r = absurd (false≢true (sym e))
stands_at N lo G gate.One text e r = absurd (false≢true (sym e))
stands_at N lo G (gate.Not a) text e r = absurd (false≢true (sym e))
stands_at N lo G (gate.And a b) text e r = absurd (false≢true (sym e))
stands_at N lo G (gate.Or a b) text e r = absurd (false≢true (sym e))
stands_at N lo G (gate.Xor a b) text e r = absurd (false≢true (sym e))

-- two gates without nodes that have the same name are the same
pub same_source : (N : Named) (lo : ℕ) (G : GateNetwork) (g h : Gate) (t u : List ℕ) → IsNumbering (sources N) → has_node g ≡ false → has_node h ≡ false
    → NameRealises N lo (gate_signal G g) t → NameRealises N lo (gate_signal G h) u → t ≡ u → g ≡ h
same_source N lo G g h t u distinct a b r s e =
    let p : StandsAt N g t = stands_at N lo G g t a r in
    let q : StandsAt N h u = stands_at N lo G h u b s in
    p.is ∙ ap (source_at (length N.inputs)) (distinct.distinct p.place q.place p.within q.within (p.has ∙ e ∙ sym q.has)) ∙ sym q.is

-- the name of an input is one of the inputs
pub input_named : (N : Named) (lo : ℕ) (G : GateNetwork) (g : Gate) (text : List ℕ) → is_input g ≡ true → NameRealises N lo (gate_signal G g) text → has_text N.inputs text ≡ true
input_named N lo G (gate.Input i) text e r = has_text_at N.inputs text i r.0 (sym r.1)
input_named N lo G _ text e r = absurd (false≢true e)
