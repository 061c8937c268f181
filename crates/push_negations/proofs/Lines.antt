-- Lines that mean the phases of signals, as the network grows.
use Rattle.std.specs.Prelude.{◌≡◌, ℕ, ◌+◌, ◌<◌, ◌≤◌, true, List, [], ◌∷◌, length, slice_index_or, All, refl}
use Rattle.std.proofs.Common.{sym, ◌∙◌, ap, subst, arith}
use Rattle.std.proofs.lemmas.List.{length-append}
use Rattle.gate_net.specs.declared.line.Line.{Line}
use Rattle.gate_net.specs.declared.gate.Gate.{Gate}
use Rattle.gate_net.specs.declared.gate.Gate.TheVariants as gate
use Rattle.gate_net.specs.Signal.{Signal}
use Rattle.gate_net.specs.Signal.Signal.{Input, Not, And, Or, Xor}
use Rattle.gate_net.specs.Gates.{GateNetwork, IsHashed, IsLine, meaning, signal_at, gate_signal, with_gate, ReadsWithin}
use Rattle.gate_net.specs.Growth.{Grows, IsAdded}
use Rattle.gate_net.specs.Negations.{NegatesOnlyInputs, negates_inputs, is_input}
use Rattle.gate_net.proofs.Kept.{grows_not, grows_twice, line_kept, gate_kept, gate_signal-kept}
use Rattle.gate_net.proofs.Once.{by_cases}
use Rattle.gate_net.proofs.Negated.{with_gate-negates, input_line}
use Rattle.push_negations.specs.declared.phases.Phases.{Phases}
use Rattle.push_negations.specs.NormalForm.{phases_of}
use Rattle.push_negations.specs.Phases.{IsNormal, GrowsBy, Means, IsPair, HasPhases, HaveAllPhases}

-- a network that stays has grown by none
pub stayed : (N : GateNetwork) (most : ℕ) → IsNormal N → GrowsBy most N N
stayed N most normal = record { grows = grows_not N; normal = normal; few = omega arith }

-- growing twice
pub grown_twice : (m n k : ℕ) (a b c : GateNetwork) → m + n ≤ k → GrowsBy m a b → GrowsBy n b c → GrowsBy k a c
grown_twice m n k a b c le h i = record { grows = grows_twice a b c h.grows i.grows; normal = i.normal; few = omega (arith, h.few, i.few, le) }

-- one gate more, which negates only an input
pub grown_by_gate : (old new : GateNetwork) (g : Gate) → IsNormal old → ReadsWithin old g → negates_inputs old.gates g ≡ true → new ≡ with_gate old g → IsHashed new → Grows old new → GrowsBy 1 old new
grown_by_gate old new g normal reads negation e sound grows = record {
  grows = grows;
  normal = record { sound = sound; negations = subst NegatesOnlyInputs (sym e) (with_gate-negates old g normal.sound normal.negations reads negation) };
  few = subst (λ (N : GateNetwork). length N.gates ≤ length old.gates + 1) (sym e) (by_cases (λ (N : GateNetwork). length N.gates ≤ length old.gates + 1) old g (omega arith) (λ missing. omega (arith, length-append old.gates (g ∷ []))));
}

-- what an added line means
pub means_added : (old new : GateNetwork) (signal : Signal) (line : Line) → IsAdded old new signal line → Means new signal line
means_added old new signal line h = record { means = h.means; within = h.within }

-- a line keeps what it means
pub means_kept : (old new : GateNetwork) (signal : Signal) (line : Line) → Grows old new → Means old signal line → Means new signal line
means_kept old new signal line h m = record { means = h.keeps line m.within ∙ m.means; within = line_kept old new line h m.within }

-- a gate over kept lines
pub means_gate : (start old new : GateNetwork) (g : Gate) (line : Line) → Grows start old → ReadsWithin start g → Means new (gate_signal old g) line → Means new (gate_signal start g) line
means_gate start old new g line h reads m = record { means = m.means ∙ gate_signal-kept start old g h reads; within = m.within }

-- a gate reads what it read
pub reads_kept : (old new : GateNetwork) (g : Gate) → Grows old new → ReadsWithin old g → ReadsWithin new g
reads_kept old new gate.Zero h r = tt
reads_kept old new gate.One h r = tt
reads_kept old new (gate.Input i) h r = subst (λ (n : ℕ). i < n) (sym h.inputs) r
reads_kept old new (gate.State i) h r = subst (λ (n : ℕ). i < n) (sym h.states) r
reads_kept old new (gate.Not a) h r = line_kept old new a h r
reads_kept old new (gate.And a b) h r = (line_kept old new a h r.0, line_kept old new b h r.1)
reads_kept old new (gate.Or a b) h r = (line_kept old new a h r.0, line_kept old new b h r.1)
reads_kept old new (gate.Xor a b) h r = (line_kept old new a h r.0, line_kept old new b h r.1)

-- a gate negates what it negated
pub negation_kept : (old new : GateNetwork) (g : Gate) → Grows old new → ReadsWithin old g → negates_inputs old.gates g ≡ true → negates_inputs new.gates g ≡ true
negation_kept old new (gate.Not a) h r e = ap is_input (gate_kept old new a h r) ∙ e
negation_kept old new (gate.Xor a b) h r e = e
negation_kept old new _ h r e = refl

-- a Not over an input negates an input
pub negates_input : (N : GateNetwork) (line : Line) (i : ℕ) → IsNormal N → Means N (Input i) line → negates_inputs N.gates (gate.Not line) ≡ true
negates_input N line i normal m = input_line N line i normal.sound m.within m.means

-- a pair keeps the phases that its lines mean
pub phases_kept : (old new : GateNetwork) (signal : Signal) (pair : Phases) → Grows old new → HasPhases old signal pair → HasPhases new signal pair
phases_kept old new signal pair h m = record { positive = means_kept old new _ pair.positive h m.positive; negative = means_kept old new _ pair.negative h m.negative }

-- an input and its Not
pub input_phases : (mid new : GateNetwork) (i : ℕ) (pair : Phases) → Grows mid new → Means mid (Input i) pair.positive → Means new (Not (meaning mid pair.positive)) pair.negative → HasPhases new (Input i) pair
input_phases mid new i pair h p n = record {
  positive = means_kept mid new (Input i) pair.positive h p;
  negative = record { means = n.means ∙ ap Not p.means; within = n.within };
}

-- a gate of two operands over lines that mean what they should
gate_of_two : (N old : GateNetwork) (f : Signal → Signal → Signal) (a b line : Line) (p q : Signal) → Means old p a → Means old q b → Means N (f (meaning old a) (meaning old b)) line → Means N (f p q) line
gate_of_two N old f a b line p q ma mb m = record { means = m.means ∙ ap (λ s. f s (meaning old b)) ma.means ∙ ap (f p) mb.means; within = m.within }

-- the cover of two products
pub cover_means : (N old : GateNetwork) (a b c d line : Line) (p q r t : Signal) → Means old p a → Means old q b → Means old r c → Means old t d
    → Means N (Or (And (meaning old a) (meaning old b)) (And (meaning old c) (meaning old d))) line → Means N (Or (And p q) (And r t)) line
cover_means N old a b c d line p q r t ma mb mc md m = record {
  means = m.means ∙ ap (λ s. Or (And s (meaning old b)) (And (meaning old c) (meaning old d))) ma.means ∙ ap (λ s. Or (And p s) (And (meaning old c) (meaning old d))) mb.means
      ∙ ap (λ s. Or (And p q) (And s (meaning old d))) mc.means ∙ ap (λ s. Or (And p q) (And r s)) md.means;
  within = m.within;
}

-- the cover that is made gate by gate
pub cover_made : (old first second new : GateNetwork) (a b c d one two line : Line) → Grows old first → Grows first second
    → IsLine old a → IsLine old b → IsLine old c → IsLine old d
    → Means first (And (meaning old a) (meaning old b)) one → Means second (And (meaning first c) (meaning first d)) two → Means new (Or (meaning second one) (meaning second two)) line
    → Means new (Or (And (meaning old a) (meaning old b)) (And (meaning old c) (meaning old d))) line
cover_made old first second new a b c d one two line h i la lb lc ld m n k =
    let kept_c : Means first (meaning old c) c = record { means = h.keeps c lc; within = line_kept old first c h lc } in
    let kept_d : Means first (meaning old d) d = record { means = h.keeps d ld; within = line_kept old first d h ld } in
    gate_of_two new second Or one two line (And (meaning old a) (meaning old b)) (And (meaning old c) (meaning old d))
    (means_kept first second (And (meaning old a) (meaning old b)) one i m)
    (gate_of_two second first And c d two (meaning old c) (meaning old d) kept_c kept_d n) k

-- both phases of a negated signal
pub not_phases : (N : GateNetwork) (p : Signal) (a pair : Phases) → pair.positive ≡ a.negative → pair.negative ≡ a.positive → HasPhases N p a → HasPhases N (Not p) pair
not_phases N p a pair e f h = record {
  positive = subst (Means N (phases_of p).negative) (sym e) h.negative;
  negative = subst (Means N (phases_of p).positive) (sym f) h.positive;
}

-- both phases of an And
pub and_phases : (old new : GateNetwork) (a b pair : Phases) (p q : Signal)
    → Means new (And (meaning old a.positive) (meaning old b.positive)) pair.positive → Means new (Or (meaning old a.negative) (meaning old b.negative)) pair.negative
    → HasPhases old p a → HasPhases old q b → HasPhases new (And p q) pair
and_phases old new a b pair p q m n ha hb = record {
  positive = gate_of_two new old And a.positive b.positive pair.positive _ _ ha.positive hb.positive m;
  negative = gate_of_two new old Or a.negative b.negative pair.negative _ _ ha.negative hb.negative n;
}

-- both phases of an Or
pub or_phases : (old new : GateNetwork) (a b pair : Phases) (p q : Signal)
    → Means new (Or (meaning old a.positive) (meaning old b.positive)) pair.positive → Means new (And (meaning old a.negative) (meaning old b.negative)) pair.negative
    → HasPhases old p a → HasPhases old q b → HasPhases new (Or p q) pair
or_phases old new a b pair p q m n ha hb = record {
  positive = gate_of_two new old Or a.positive b.positive pair.positive _ _ ha.positive hb.positive m;
  negative = gate_of_two new old And a.negative b.negative pair.negative _ _ ha.negative hb.negative n;
}

-- both phases of an Xor, the positive one made first
pub xor_phases : (old mid new : GateNetwork) (a b pair : Phases) (p q : Signal) → Grows old mid → Grows mid new
    → Means mid (Or (And (meaning old a.positive) (meaning old b.negative)) (And (meaning old a.negative) (meaning old b.positive))) pair.positive
    → Means new (Or (And (meaning mid a.positive) (meaning mid b.positive)) (And (meaning mid a.negative) (meaning mid b.negative))) pair.negative
    → HasPhases old p a → HasPhases old q b → HasPhases new (Xor p q) pair
xor_phases old mid new a b pair p q h i m n ha hb =
    let ka = phases_kept old mid p a h ha in
    let kb = phases_kept old mid q b h hb in
    record {
      positive = means_kept mid new _ pair.positive i (cover_means mid old a.positive b.negative a.negative b.positive pair.positive _ _ _ _ ha.positive hb.negative ha.negative hb.positive m);
      negative = cover_means new mid a.positive b.positive a.negative b.negative pair.negative _ _ _ _ ka.positive kb.positive ka.negative kb.negative n;
    }

-- the phases that are read at a line
pub phases_read : (N : GateNetwork) (signals : List Signal) (pairs : List Phases) (line : Line) (pair : Phases) → HaveAllPhases N signals pairs → line.number < length pairs → pair ≡ slice_index_or pairs line.number pair
    → HasPhases N (signal_at signals line.number) pair
phases_read N signals pairs line pair h lt e = subst (HasPhases N (signal_at signals line.number)) (sym e) (h line.number pair lt)

-- what holds of all pairs holds of one that is read
pub pair_read : (N : GateNetwork) (pairs : List Phases) (line : Line) (pair : Phases) → All (IsPair N) pairs → line.number < length pairs → pair ≡ slice_index_or pairs line.number pair → IsPair N pair
pair_read N pairs line pair all lt e = subst (IsPair N) (sym e) (all line.number pair lt)

-- pairs that mean phases are the network's
pub pairs_within : (N : GateNetwork) (signals : List Signal) (pairs : List Phases) → HaveAllPhases N signals pairs → All (IsPair N) pairs
pairs_within N signals pairs h = λ place d lt. ((h place d lt).positive.within, (h place d lt).negative.within)
