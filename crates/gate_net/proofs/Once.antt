-- A gate that is written where it isn't among the gates yet.
use Rattle.std.specs.Prelude.{◌≡◌, ℕ, ◌+◌, ◌<◌, ◌≤◌, ◌^◌, Bool, true, false, if◌then◌else◌, List, [], ◌∷◌, ◌++◌, length, slice_get, Some, refl}
use Rattle.std.specs.List.{list_any}
use Rattle.std.proofs.Common.{sym, ◌∙◌, ap, subst, arith, inl, inr}
use Rattle.std.proofs.lemmas.List.{length-append, get_or_push, get_or_append_left, take_at, drop_at, drop_all}
use Rattle.std.proofs.lemmas.List.Elements.{All-append, All-from_recursion}
use Rattle.std.proofs.lemmas.List.Folds.{list_any_at}
use Rattle.std.proofs.lemmas.Option.{slice_get_within, get_or_from_slice_get}
use Rattle.std.proofs.lemmas.Bool.{cases_Bool, cases_lt, false≢true}
use Rattle.gate_net.specs.declared.line.Line.{Line}
use Rattle.gate_net.specs.declared.gate.Gate.{Gate}
use Rattle.gate_net.specs.declared.gate.Gate.TheVariants as gate
use Rattle.gate_net.specs.Gates.{GateNetwork, gate_at, gate_signal, IsLine, ReadsBelow, ReadsWithin, IsHashed, same_gate, gates_with, with_gate}
use Rattle.gate_net.specs.Growth.{Grows, added_gates, IsAdded}
use Rattle.gate_net.specs.Negations.{HasNo}
use Rattle.gate_net.proofs.Signals.{signal_at-push, meaning_is}
use Rattle.gate_net.proofs.SameGate.{same_gate-refl}
use Rattle.gate_net.proofs.Kept.{grows_not, gate_signal-kept, added_twice}

-- networks with the same parts are the same
same_parts : (G H : GateNetwork) → G.inputs ≡ H.inputs → G.states ≡ H.states → G.gates ≡ H.gates → G ≡ H
same_parts G H i s e =
    ap (λ (n : ℕ). let made : GateNetwork = record { inputs = n; states = G.states; gates = G.gates } in made) i
    ∙ ap (λ (n : ℕ). let made : GateNetwork = record { inputs = H.inputs; states = n; gates = G.gates } in made) s
    ∙ ap (λ (gs : List Gate). let made : GateNetwork = record { inputs = H.inputs; states = H.states; gates = gs } in made) e

-- the network with a gate more at the end
abbrev pub pushed : GateNetwork → Gate → GateNetwork
pushed G g = record { inputs = G.inputs; states = G.states; gates = G.gates ++ g ∷ [] }

-- the network with other gates
abbrev pub over : GateNetwork → List Gate → GateNetwork
over G gates = record { inputs = G.inputs; states = G.states; gates = gates }

-- a gate that is there already changes nothing
pub with_gate-there : (G : GateNetwork) (g : Gate) → list_any (same_gate g) G.gates ≡ true → with_gate G g ≡ G
with_gate-there G g e = ap (λ (b : Bool). over G (if b then G.gates else G.gates ++ g ∷ [])) e

pub with_gate-missing : (G : GateNetwork) (g : Gate) → list_any (same_gate g) G.gates ≡ false → with_gate G g ≡ pushed G g
with_gate-missing G g e = ap (λ (b : Bool). over G (if b then G.gates else G.gates ++ g ∷ [])) e

-- for both cases of a gate that is written
pub by_cases : (P : GateNetwork → Type 0) (G : GateNetwork) (g : Gate) → P G → (list_any (same_gate g) G.gates ≡ false → P (pushed G g)) → P (with_gate G g)
by_cases P G g there missing = elim (cases_Bool (list_any (same_gate g) G.gates)) [
  | inl e ↦ subst P (sym (with_gate-there G g e)) there
  | inr e ↦ subst P (sym (with_gate-missing G g e)) (missing e)
]

pushed_grows : (G : GateNetwork) (g : Gate) → Grows G (pushed G g)
pushed_grows G g = record {
  inputs = refl;
  states = refl;
  first = take_at G.gates (g ∷ []) (length G.gates) refl;
  count = omega (arith, length-append G.gates (g ∷ []));
  keeps = λ line h. signal_at-push G.gates g line.number h;
}

-- with a gate the network has grown
pub with_gate-grows : (G : GateNetwork) (g : Gate) → Grows G (with_gate G g)
with_gate-grows G g = by_cases (Grows G) G g (grows_not G) (λ e. pushed_grows G g)

-- with a gate at most one gate comes
pub few_more : (old new : GateNetwork) (g : Gate) → new ≡ with_gate old g → length new.gates ≤ length old.gates + 1
few_more old new g e =
    subst (λ (G : GateNetwork). length G.gates ≤ length old.gates + 1) (sym e)
    (by_cases (λ (G : GateNetwork). length G.gates ≤ length old.gates + 1) old g (omega arith) (λ missing. omega (arith, length-append old.gates (g ∷ []))))

-- the reads of a gate are the same over any gates
reads_over : (G : GateNetwork) (gates : List Gate) (n : ℕ) (g : Gate) → ReadsBelow G n g → ReadsBelow (over G gates) n g
reads_over G gates n gate.Zero r = tt
reads_over G gates n gate.One r = tt
reads_over G gates n (gate.Input i) r = r
reads_over G gates n (gate.State i) r = r
reads_over G gates n (gate.Not a) r = r
reads_over G gates n (gate.And a b) r = r
reads_over G gates n (gate.Or a b) r = r
reads_over G gates n (gate.Xor a b) r = r

-- a gate that isn't there stands at no place
not_there : (gates : List Gate) (g : Gate) (k : ℕ) → list_any (same_gate g) gates ≡ false → k < length gates → g ≡ gate_at gates k → ⊥
not_there gates g k e lt same = false≢true (sym e ∙ list_any_at (same_gate g) gates k gate.Zero lt (ap (same_gate g) (sym same) ∙ same_gate-refl g))

pushed_sound : (G : GateNetwork) (g : Gate) → IsHashed G → ReadsWithin G g → length G.gates + 1 < 2 ^ 32 → list_any (same_gate g) G.gates ≡ false → IsHashed (pushed G g)
pushed_sound G g sound reads room e = record { ordered = ordered; distinct = distinct; few = omega (arith, length-append G.gates (g ∷ []), room) }
  where
    all : List Gate
    all = G.gates ++ g ∷ []

    ordered : (n : ℕ) → n < length (G.gates ++ g ∷ []) → ReadsBelow (over G (G.gates ++ g ∷ [])) n (gate_at (G.gates ++ g ∷ []) n)
    ordered n lt = elim (cases_lt n (length G.gates)) [
      | inl old ↦ subst (ReadsBelow (over G (G.gates ++ g ∷ [])) n) (sym (get_or_append_left G.gates (g ∷ []) gate.Zero n old)) (reads_over G (G.gates ++ g ∷ []) n (gate_at G.gates n) (sound.ordered n old))
      | inr new ↦
          let last : length G.gates ≡ n = omega (arith, length-append G.gates (g ∷ [])) in
          subst (ReadsBelow (over G (G.gates ++ g ∷ [])) n) (sym (get_or_push G.gates g gate.Zero n last))
          (reads_over G (G.gates ++ g ∷ []) n g (subst (λ (m : ℕ). ReadsBelow G m g) last reads))
    ]

    old_at : (n : ℕ) → n < length G.gates → gate_at (G.gates ++ g ∷ []) n ≡ gate_at G.gates n
    old_at n lt = get_or_append_left G.gates (g ∷ []) gate.Zero n lt

    new_at : (n : ℕ) → length G.gates ≡ n → gate_at (G.gates ++ g ∷ []) n ≡ g
    new_at n last = get_or_push G.gates g gate.Zero n last

    distinct : (m n : ℕ) → m < length (G.gates ++ g ∷ []) → n < length (G.gates ++ g ∷ []) → gate_at (G.gates ++ g ∷ []) m ≡ gate_at (G.gates ++ g ∷ []) n → m ≡ n
    distinct m n at_m at_n same = elim (cases_lt m (length G.gates)) [
      | inl old_m ↦ elim (cases_lt n (length G.gates)) [
        | inl old_n ↦ sound.distinct m n old_m old_n (sym (old_at m old_m) ∙ same ∙ old_at n old_n)
        | inr new_n ↦ absurd (not_there G.gates g m e old_m (sym (new_at n (omega (arith, length-append G.gates (g ∷ [])))) ∙ sym same ∙ old_at m old_m))
      ]
      | inr new_m ↦ elim (cases_lt n (length G.gates)) [
        | inl old_n ↦ absurd (not_there G.gates g n e old_n (sym (new_at m (omega (arith, length-append G.gates (g ∷ [])))) ∙ same ∙ old_at n old_n))
        | inr new_n ↦ omega (arith, length-append G.gates (g ∷ []))
      ]
    ]

pub with_gate-sound : (G : GateNetwork) (g : Gate) → IsHashed G → ReadsWithin G g → length G.gates + 1 < 2 ^ 32 → IsHashed (with_gate G g)
with_gate-sound G g sound reads room = by_cases IsHashed G g sound (pushed_sound G g sound reads room)

-- the line at which the gate stands was added with its signal
pub with_gate-added : (G : GateNetwork) (g : Gate) (line : Line) → IsHashed G → ReadsWithin G g → length G.gates + 1 < 2 ^ 32
    → slice_get (with_gate G g).gates line.number ≡ Some g → IsAdded G (with_gate G g) (gate_signal G g) line
with_gate-added G g line sound reads room stored =
    let within : IsLine (with_gate G g) line = slice_get_within (with_gate G g).gates line.number g stored in
    let grows = with_gate-grows G g in
    let here : gate_at (with_gate G g).gates line.number ≡ g = get_or_from_slice_get (with_gate G g).gates line.number g gate.Zero stored in
    record {
      means = meaning_is (with_gate G g) line (with_gate-sound G g sound reads room) within ∙ ap (gate_signal (with_gate G g)) here ∙ gate_signal-kept G (with_gate G g) g grows reads;
      within = within;
      grows = grows;
    }

-- none came where the gate was there, and else this gate
pub with_gate-gates : (G : GateNetwork) (g : Gate) → added_gates G (with_gate G g) ≡ (if list_any (same_gate g) G.gates then [] else g ∷ [])
with_gate-gates G g = elim (cases_Bool (list_any (same_gate g) G.gates)) [
  | inl e ↦ ap (added_gates G) (with_gate-there G g e) ∙ drop_all (length G.gates) G.gates (omega arith) ∙ sym (ap (λ (b : Bool). if b then [] else g ∷ []) e)
  | inr e ↦ ap (added_gates G) (with_gate-missing G g e) ∙ drop_at G.gates (g ∷ []) (length G.gates) refl ∙ sym (ap (λ (b : Bool). if b then [] else g ∷ []) e)
]

-- a test that fails on the gate and on all gates before fails on all gates
pub with_gate-none : (G : GateNetwork) (g : Gate) (test : Gate → Bool) → HasNo test G.gates → test g ≡ false → HasNo test (with_gate G g).gates
with_gate-none G g test none e = by_cases (λ (H : GateNetwork). HasNo test H.gates) G g none (λ missing. All-append (λ h. test h ≡ false) G.gates (g ∷ []) none (All-from_recursion (λ h. test h ≡ false) (g ∷ []) (e, tt)))

-- a test that fails on the gate fails on what came with it
pub with_gate-none_added : (G : GateNetwork) (g : Gate) (test : Gate → Bool) → test g ≡ false → HasNo test (added_gates G (with_gate G g))
with_gate-none_added G g test e = subst (HasNo test) (sym (with_gate-gates G g)) (by (list_any (same_gate g) G.gates))
  where
    by : (b : Bool) → HasNo test (if b then [] else g ∷ [])
    by true = All-from_recursion (λ h. test h ≡ false) [] tt
    by false = All-from_recursion (λ h. test h ≡ false) (g ∷ []) (e, tt)

-- a test that fails on what came in each of two steps
pub none_twice : (a b c : GateNetwork) (test : Gate → Bool) → Grows a b → Grows b c → HasNo test (added_gates a b) → HasNo test (added_gates b c) → HasNo test (added_gates a c)
none_twice a b c test h k one two = subst (HasNo test) (sym (added_twice a b c h k)) (All-append (λ g. test g ≡ false) (added_gates a b) (added_gates b c) one two)

-- what the code wrote into a network that it sees from inside
module _ (G inside new : GateNetwork) (g : Gate) (seen : inside ≡ G) (i : new.inputs ≡ inside.inputs) (s : new.states ≡ inside.states) (e : new.gates ≡ gates_with inside.gates g) where
  is_with : new ≡ with_gate inside g
  is_with = same_parts new (with_gate inside g) i s e

  pub written_once : new ≡ with_gate G g
  written_once = is_with ∙ ap (λ (H : GateNetwork). with_gate H g) seen

  pub written_sound : IsHashed inside → ReadsWithin G g → length inside.gates < 4294967295 → IsHashed new
  written_sound sound reads room = subst IsHashed (sym is_with) (with_gate-sound inside g sound (subst (λ (H : GateNetwork). ReadsWithin H g) (sym seen) reads) (omega (arith, room)))

  pub written_added : (line : Line) → IsHashed inside → ReadsWithin G g → length inside.gates < 4294967295 → slice_get new.gates line.number ≡ Some g → IsAdded G new (gate_signal G g) line
  written_added line sound reads room stored =
      subst (λ (H : GateNetwork). IsAdded G H (gate_signal G g) line) (sym written_once)
      (with_gate-added G g line (subst IsHashed seen sound) reads (omega (arith, subst (λ (H : GateNetwork). length H.gates < 4294967295) seen room))
      (subst (λ (H : GateNetwork). slice_get H.gates line.number ≡ Some g) written_once stored))
