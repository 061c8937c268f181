-- A network whose lines have their phases in another: line by line, and what follows once all lines have.
use Rattle.std.specs.Prelude.{◌≡◌, ℕ, ◌+◌, ◌*◌, ◌^◌, ◌<◌, ◌≤◌, Bool, true, List, [], ◌∷◌, ◌++◌, length, map, take, slice_index_or, All, refl}
use Rattle.std.specs.List.{sum_by, AllByRecursion}
use Rattle.std.proofs.Common.{sym, ◌∙◌, ap, subst, arith, inl, inr}
use Rattle.std.proofs.lemmas.Bool.{cases_lt, false≢true}
use Rattle.std.proofs.lemmas.List.{length-append, get_or_push, get_or_append_left, length-map, get_or-map}
use Rattle.std.proofs.lemmas.List.Elements.{recursion_from_All}
use Rattle.std.proofs.lemmas.List.Sums.{sum_by_more, sum_by-cons, sum_by-take-le}
use Rattle.gate_net.specs.declared.line.Line.{Line}
use Rattle.gate_net.specs.declared.gate.Gate.{Gate}
use Rattle.gate_net.specs.declared.gate.Gate.TheVariants as gate
use Rattle.gate_net.specs.Signal.{Signal, value}
use Rattle.gate_net.specs.Signal.Signal.{Zero}
use Rattle.gate_net.specs.Gates.{GateNetwork, IsHashed, IsLine, AreLines, ReadsBelow, meaning, meanings, signal_at, signals_of, signal_of, gate_at, line_value, line_values}
use Rattle.gate_net.specs.Negations.{NegatesOnlyInputs, is_zero}
use Rattle.gate_net.proofs.Signals.{meaning_is}
use Rattle.gate_net.proofs.Negated.{zero_line}
use Rattle.push_negations.specs.declared.phases.Phases.{Phases}
use Rattle.push_negations.specs.NormalForm.{phases_of}
use Rattle.push_negations.specs.Pushed.{most_lines, HaveValues, KeepZeros}
use Rattle.push_negations.specs.Phases.{GrowsBy, Means, HasPhases, HaveAllPhases, IsPushed, no_phases, positive_at}
use Rattle.push_negations.proofs.NormalForm.{phases_value}
use Rattle.push_negations.proofs.Lines.{phases_kept}

-- a network without gates
pub pushed_none : (old new : GateNetwork) → new ≡ record { inputs = old.inputs; states = old.states; gates = [] } → IsHashed new → IsPushed old new []
pushed_none old new e sound = record {
  inputs = ap (λ (N : GateNetwork). N.inputs) e;
  states = ap (λ (N : GateNetwork). N.states) e;
  normal = record { sound = sound; negations = subst NegatesOnlyInputs (sym e) (λ k d lt. absurd (omega arith)) };
  phases = λ place d lt. absurd (omega arith);
  few = omega (arith, ap (λ (N : GateNetwork). length N.gates) e);
}

-- a gate reads the same in a network over as many inputs and state bits
pub reads_there : (old new : GateNetwork) (n : ℕ) (g : Gate) → new.inputs ≡ old.inputs → new.states ≡ old.states → ReadsBelow old n g → ReadsBelow new n g
reads_there old new n gate.Zero i s r = tt
reads_there old new n gate.One i s r = tt
reads_there old new n (gate.Input k) i s r = subst (λ (m : ℕ). k < m) (sym i) r
reads_there old new n (gate.State k) i s r = subst (λ (m : ℕ). k < m) (sym s) r
reads_there old new n (gate.Not a) i s r = r
reads_there old new n (gate.And a b) i s r = r
reads_there old new n (gate.Or a b) i s r = r
reads_there old new n (gate.Xor a b) i s r = r

-- the gate of the next line reads lines that have their phases
pub next_reads : (old new : GateNetwork) (pairs : List Phases) (n : ℕ) → IsHashed old → IsPushed old new pairs → length pairs ≡ n → n < length old.gates → ReadsBelow new (length pairs) (gate_at old.gates n)
next_reads old new pairs n sound pushed e lt =
    subst (λ (m : ℕ). ReadsBelow new m (gate_at old.gates n)) (sym e) (reads_there old new n (gate_at old.gates n) pushed.inputs pushed.states (sound.ordered n lt))

-- one line more
pushed_step : (old mid new : GateNetwork) (pairs pairs' : List Phases) (pair : Phases) (n : ℕ) → IsHashed old → IsPushed old mid pairs → length pairs ≡ n → n < length old.gates
    → GrowsBy (most_lines (gate_at old.gates n)) mid new → HasPhases new (signal_of (signals_of old.gates) (gate_at old.gates n)) pair → pairs' ≡ pairs ++ pair ∷ []
    → IsPushed old new pairs'
pushed_step old mid new pairs pairs' pair n sound pushed e lt grown phases pushes = subst (IsPushed old new) (sym pushes) (record {
  inputs = grown.grows.inputs ∙ pushed.inputs;
  states = grown.grows.states ∙ pushed.states;
  normal = grown.normal;
  phases = at;
  few = subst (λ (m : ℕ). length new.gates ≤ sum_by most_lines (take m old.gates)) (sym (length-append pairs (pair ∷ []) ∙ omega (arith, e))) few;
})
  where
    here : HasPhases new (signal_at (signals_of old.gates) n) pair
    here = let line : Line = record { number = n } in subst (λ (signal : Signal). HasPhases new signal pair) (sym (meaning_is old line sound lt)) phases

    at : HaveAllPhases new (signals_of old.gates) (pairs ++ pair ∷ [])
    at place d below = elim (cases_lt place (length pairs)) [
      | inl earlier ↦ subst (HasPhases new (signal_at (signals_of old.gates) place)) (sym (get_or_append_left pairs (pair ∷ []) d place earlier)) (phases_kept mid new _ _ grown.grows (pushed.phases place d earlier))
      | inr last ↦
          let is_last : length pairs ≡ place = omega (arith, length-append pairs (pair ∷ [])) in
          subst (HasPhases new (signal_at (signals_of old.gates) place)) (sym (get_or_push pairs pair d place is_last)) (subst (λ (m : ℕ). HasPhases new (signal_at (signals_of old.gates) m) pair) (sym e ∙ is_last) here)
    ]

    few : length new.gates ≤ sum_by most_lines (take (n + 1) old.gates)
    few = omega (arith, grown.few, sum_by_more most_lines old.gates n gate.Zero lt, subst (λ (m : ℕ). length mid.gates ≤ sum_by most_lines (take m old.gates)) e pushed.few)

-- there is room for a line more
pub line_room : (old mid : GateNetwork) (pairs : List Phases) (n : ℕ) (g : Gate) → IsPushed old mid pairs → length pairs ≡ n → n < length old.gates → g ≡ gate_at old.gates n
    → sum_by most_lines old.gates < 2 ^ 32 → length mid.gates + most_lines g < 2 ^ 32
line_room old mid pairs n g pushed count lt is room =
    let few = subst (λ (m : ℕ). length mid.gates ≤ sum_by most_lines (take m old.gates)) count pushed.few in
    let more = sum_by_more most_lines old.gates n gate.Zero lt in
    let part = sum_by-take-le most_lines old.gates (n + 1) in
    let same : most_lines g ≡ most_lines (gate_at old.gates n) = ap most_lines is in
    omega (arith, few, more, part, same, room)

-- one line more, whose phases were added over those of the lines before
pub pushed_more : (old mid new : GateNetwork) (pairs seen pairs' : List Phases) (pair : Phases) (n : ℕ) (g : Gate) → IsHashed old → IsPushed old mid pairs → length pairs ≡ n → n < length old.gates
    → seen ≡ pairs → g ≡ gate_at old.gates n
    → GrowsBy (most_lines g) mid new → ((signals : List Signal) → HaveAllPhases mid signals seen → HasPhases new (signal_of signals g) pair) → pairs' ≡ pairs ++ pair ∷ []
    → IsPushed old new pairs'
pushed_more old mid new pairs seen pairs' pair n g sound pushed count lt same is grown phases pushes =
    pushed_step old mid new pairs pairs' pair n sound pushed count lt (subst (λ (h : Gate). GrowsBy (most_lines h) mid new) is grown)
    (subst (λ (h : Gate). HasPhases new (signal_of (signals_of old.gates) h) pair) is (phases (signals_of old.gates) (subst (HaveAllPhases mid (signals_of old.gates)) (sym same) pushed.phases)))
    pushes

-- once every line has its phases
module _ (old new : GateNetwork) (pairs : List Phases) (pushed : IsPushed old new pairs) (every : length pairs ≡ length old.gates) where
  pub positive_means : (line : Line) → IsLine old line → Means new (phases_of (meaning old line)).positive (positive_at pairs line)
  positive_means line within = (pushed.phases line.number no_phases (omega (arith, every, within))).positive

  pub positive_value : (x s : ℕ → Bool) (line : Line) → IsLine old line → line_value new x s (positive_at pairs line) ≡ line_value old x s line
  positive_value x s line within = ap (value x s) (positive_means line within).means ∙ (phases_value x s (meaning old line)).0

  values_by : (x s : ℕ → Bool) (lines : List Line) → AllByRecursion (IsLine old) lines → line_values new x s (map (positive_at pairs) lines) ≡ line_values old x s lines
  values_by x s [] all = refl
  values_by x s (line ∷ lines) all = ap (λ b. b ∷ line_values new x s (map (positive_at pairs) lines)) (positive_value x s line all.0) ∙ ap (λ bits. line_value old x s line ∷ bits) (values_by x s lines all.1)

  means_by : (lines : List Line) → AllByRecursion (IsLine old) lines → meanings new (map (positive_at pairs) lines) ≡ map (λ signal. (phases_of signal).positive) (meanings old lines)
  means_by [] all = refl
  means_by (line ∷ lines) all = ap (λ signal. signal ∷ meanings new (map (positive_at pairs) lines)) (positive_means line all.0).means ∙ ap (λ signals. (phases_of (meaning old line)).positive ∷ signals) (means_by lines all.1)

  positive_of : (lines : List Line) (place : ℕ) (d : Line) → place < length lines → slice_index_or (map (positive_at pairs) lines) place d ≡ positive_at pairs (slice_index_or lines place d)
  positive_of lines place d lt = get_or-map (positive_at pairs) lines place d d lt

  module _ (lines made : List Line) (within : AreLines old lines) (e : made ≡ map (positive_at pairs) lines) where
    pub pushed_count : length made ≡ length lines
    pushed_count = ap length e ∙ length-map lines (positive_at pairs)

    at : (place : ℕ) (d : Line) → place < length lines → slice_index_or made place d ≡ positive_at pairs (slice_index_or lines place d)
    at place d lt = ap (λ (ls : List Line). slice_index_or ls place d) e ∙ positive_of lines place d lt

    pub pushed_within : AreLines new made
    pushed_within = λ place d lt.
        let below : place < length lines = omega (arith, pushed_count) in
        subst (IsLine new) (sym (at place d below)) (positive_means (slice_index_or lines place d) (within place d below)).within

    pub pushed_means : meanings new made ≡ map (λ signal. (phases_of signal).positive) (meanings old lines)
    pushed_means = ap (meanings new) e ∙ means_by lines (recursion_from_All (IsLine old) lines within)

    pub pushed_values : HaveValues old lines new made
    pushed_values = λ x s. ap (line_values new x s) e ∙ values_by x s lines (recursion_from_All (IsLine old) lines within)

  pub pushed_few : length new.gates ≤ sum_by most_lines old.gates
  pushed_few = omega (arith, pushed.few, sum_by-take-le most_lines old.gates (length pairs))

is_zero-true : (g : Gate) → is_zero g ≡ true → g ≡ gate.Zero
is_zero-true gate.Zero h = refl
is_zero-true _ h = absurd (false≢true h)

-- a line that has the gate 0 means 0
means_zero : (N : GateNetwork) (line : Line) → IsHashed N → IsLine N line → is_zero (gate_at N.gates line.number) ≡ true → meaning N line ≡ Zero
means_zero N line sound within e = meaning_is N line sound within ∙ ap (signal_of (signals_of N.gates)) (is_zero-true (gate_at N.gates line.number) e)

-- lines that have the gate 0 keep it
pub pushed_zeros : (old new : GateNetwork) (pairs : List Phases) (lines made : List Line) → IsPushed old new pairs → length pairs ≡ length old.gates → IsHashed old → AreLines old lines → made ≡ map (positive_at pairs) lines
    → KeepZeros old lines new made
pushed_zeros old new pairs lines made pushed every sound within e = λ place d lt zero.
    let line : Line = slice_index_or lines place d in
    let there : Means new (phases_of (meaning old line)).positive (positive_at pairs line) = positive_means old new pairs pushed every line (within place d lt) in
    let means : meaning new (positive_at pairs line) ≡ Zero = there.means ∙ ap (λ (signal : Signal). (phases_of signal).positive) (means_zero old line sound (within place d lt) zero) in
    subst (λ (l : Line). is_zero (gate_at new.gates l.number) ≡ true) (sym (at old new pairs pushed every lines made within e place d lt)) (zero_line new (positive_at pairs line) pushed.normal.sound there.within means)

-- wanted lines have their phases
pub wanted_within : (old : GateNetwork) (pairs : List Phases) (lines : List Line) → length pairs ≡ length old.gates → AreLines old lines → All (λ (line : Line). line.number < length pairs) lines
wanted_within old pairs lines every within = λ place d lt. omega (arith, every, within place d lt)

-- pushing negations makes at most six lines of one
six-most : (g : Gate) → most_lines g ≤ 6
six-most gate.Zero = omega arith
six-most gate.One = omega arith
six-most (gate.Input i) = omega arith
six-most (gate.State i) = omega arith
six-most (gate.Not a) = omega arith
six-most (gate.And a b) = omega arith
six-most (gate.Or a b) = omega arith
six-most (gate.Xor a b) = omega arith

-- pushing negations makes at most six lines for each of some gates
pub six-times : (gates : List Gate) → sum_by most_lines gates ≤ 6 * length gates
six-times [] = omega arith
six-times (g ∷ gates) = let rest = six-times gates in let all = sum_by-cons most_lines g gates in let one = six-most g in omega (arith, rest, all, one)
