-- What is kept as a network of gates grows.
use Rattle.std.specs.Prelude.{◌≡◌, ℕ, ◌+◌, ◌<◌, Bool, List, [], ◌∷◌, ◌++◌, length, take, drop, slice_index_or, get_or, refl}
use Rattle.std.specs.List.{AllByRecursion}
use Rattle.std.proofs.Common.{sym, ◌∙◌, ap, subst, arith}
use Rattle.std.proofs.lemmas.List.{map-append, map_more, get_or-map, take-take, get_or_append_left, take_all, take-append-drop, drop-append-le}
use Rattle.std.proofs.lemmas.List.Elements.{recursion_from_All, All-push}
use Rattle.gate_net.specs.declared.line.Line.{Line}
use Rattle.gate_net.specs.declared.gate.Gate.{Gate}
use Rattle.gate_net.specs.declared.gate.Gate.TheVariants as gate
use Rattle.gate_net.specs.Signal.{Signal, value, values}
use Rattle.gate_net.specs.Signal.Signal.{Not, And, Or, Xor}
use Rattle.gate_net.specs.Gates.{GateNetwork, gate_at, IsLine, AreLines, meaning, meanings, gate_signal, line_value, line_values, ReadsWithin}
use Rattle.gate_net.specs.Growth.{Grows, added_gates, IsAdded, AreAdded, Computes, ComputesAll}

-- a network that stays has grown
pub grows_not : (G : GateNetwork) → Grows G G
grows_not G = record { inputs = refl; states = refl; first = take_all (length G.gates) G.gates (omega arith); count = omega arith; keeps = λ line h. refl }

-- a network that grew twice has grown
pub grows_twice : (a b c : GateNetwork) → Grows a b → Grows b c → Grows a c
grows_twice a b c h k = record {
  inputs = k.inputs ∙ h.inputs;
  states = k.states ∙ h.states;
  first = sym (take-take (length a.gates) (length b.gates) c.gates h.count) ∙ ap (take (length a.gates)) k.first ∙ h.first;
  count = omega (arith, h.count, k.count);
  keeps = λ line lt. k.keeps line (omega (arith, h.count)) ∙ h.keeps line lt;
}

-- the gates that came in two steps
pub added_twice : (a b c : GateNetwork) → Grows a b → Grows b c → added_gates a c ≡ added_gates a b ++ added_gates b c
added_twice a b c h k =
    ap (drop (length a.gates)) (sym (take-append-drop (length b.gates) c.gates) ∙ ap (λ (gs : List Gate). gs ++ drop (length b.gates) c.gates) k.first)
    ∙ drop-append-le (length a.gates) b.gates (drop (length b.gates) c.gates) h.count

-- the gates are the old ones and those that came
pub grown_gates : (a b : GateNetwork) → Grows a b → b.gates ≡ a.gates ++ added_gates a b
grown_gates a b h = sym (take-append-drop (length a.gates) b.gates) ∙ ap (λ (gs : List Gate). gs ++ drop (length a.gates) b.gates) h.first

-- an earlier line keeps its gate
pub gate_kept : (a b : GateNetwork) (line : Line) → Grows a b → IsLine a line → gate_at b.gates line.number ≡ gate_at a.gates line.number
gate_kept a b line h within =
    ap (λ (gs : List Gate). gate_at gs line.number) (grown_gates a b h) ∙ get_or_append_left a.gates (added_gates a b) gate.Zero line.number within

-- an earlier line is a line still
pub line_kept : (a b : GateNetwork) (line : Line) → Grows a b → IsLine a line → IsLine b line
line_kept a b line h within = omega (arith, h.count)

-- earlier lines are lines still
pub lines_kept : (a b : GateNetwork) (lines : List Line) → Grows a b → AreLines a lines → AreLines b lines
lines_kept a b lines h within = λ k d lt. line_kept a b (slice_index_or lines k d) h (within k d lt)

meanings_kept_by : (a b : GateNetwork) (lines : List Line) → Grows a b → AllByRecursion (IsLine a) lines → meanings b lines ≡ meanings a lines
meanings_kept_by a b [] h all = refl
meanings_kept_by a b (line ∷ lines) h all = ap (λ s. s ∷ meanings b lines) (h.keeps line all.0) ∙ ap (λ ss. meaning a line ∷ ss) (meanings_kept_by a b lines h all.1)

-- what lines mean is kept
pub meanings_kept : (a b : GateNetwork) (lines : List Line) → Grows a b → AreLines a lines → meanings b lines ≡ meanings a lines
meanings_kept a b lines h within = meanings_kept_by a b lines h (recursion_from_All _ lines within)

-- the value of a line is kept
pub value_kept : (a b : GateNetwork) (x s : ℕ → Bool) (line : Line) → Grows a b → IsLine a line → line_value b x s line ≡ line_value a x s line
value_kept a b x s line h within = ap (value x s) (h.keeps line within)

-- the values of lines are those of what they mean
pub values_of_meanings : (G : GateNetwork) (x s : ℕ → Bool) (lines : List Line) → line_values G x s lines ≡ values x s (meanings G lines)
values_of_meanings G x s [] = refl
values_of_meanings G x s (line ∷ lines) = ap (λ bits. line_value G x s line ∷ bits) (values_of_meanings G x s lines)

-- the values of lines are kept
pub values_kept : (a b : GateNetwork) (x s : ℕ → Bool) (lines : List Line) → Grows a b → AreLines a lines → line_values b x s lines ≡ line_values a x s lines
values_kept a b x s lines h within = values_of_meanings b x s lines ∙ ap (values x s) (meanings_kept a b lines h within) ∙ sym (values_of_meanings a x s lines)

-- a gate over kept lines means what it meant
pub gate_signal-kept : (a b : GateNetwork) (g : Gate) → Grows a b → ReadsWithin a g → gate_signal b g ≡ gate_signal a g
gate_signal-kept a b (gate.Not x) h r = ap Not (h.keeps x r)
gate_signal-kept a b (gate.And x y) h r = ap (λ s. And s (meaning b y)) (h.keeps x r.0) ∙ ap (And (meaning a x)) (h.keeps y r.1)
gate_signal-kept a b (gate.Or x y) h r = ap (λ s. Or s (meaning b y)) (h.keeps x r.0) ∙ ap (Or (meaning a x)) (h.keeps y r.1)
gate_signal-kept a b (gate.Xor x y) h r = ap (λ s. Xor s (meaning b y)) (h.keeps x r.0) ∙ ap (Xor (meaning a x)) (h.keeps y r.1)
gate_signal-kept a b _ h r = refl

-- one line more, by its bit
pub bits_pushed : (a b c : GateNetwork) (lines lines' : List Line) (line : Line) (bit : (ℕ → Bool) → (ℕ → Bool) → Bool)
    → Grows a b → AreLines b lines → Computes b c bit line → lines' ≡ lines ++ line ∷ [] → ComputesAll a c (λ x s. line_values b x s lines ++ bit x s ∷ []) lines'
bits_pushed a b c lines lines' line bit h within added e =
    subst (λ (made : List Line). ComputesAll a c (λ x s. line_values b x s lines ++ bit x s ∷ []) made) (sym e) (record {
      values = λ x s. map-append (line_value c x s) lines (line ∷ []) ∙ ap (λ bits. bits ++ line_value c x s line ∷ []) (values_kept b c x s lines added.grows within) ∙ ap (λ t. line_values b x s lines ++ t ∷ []) (added.value x s);
      within = All-push (IsLine c) lines line (lines_kept b c lines added.grows within) added.within;
      grows = grows_twice a b c h added.grows;
    })

-- the bit at a place of a list of lines, seen in a network that grew
pub bit_read : (a b : GateNetwork) (x s : ℕ → Bool) (lines : List Line) (i : ℕ) (d : Line) → Grows a b → AreLines a lines → i < length lines
    → get_or (line_values a x s lines) i (line_value a x s d) ≡ line_value b x s (get_or lines i d)
bit_read a b x s lines i d h within lt = get_or-map (line_value a x s) lines i d (line_value a x s d) lt ∙ sym (value_kept a b x s (get_or lines i d) h (within i d lt))

-- a step of a loop over lines, in a network that has grown from the first, by values
pub values_step : (start here : GateNetwork) (x s : ℕ → Bool) (lines : List Line) (i : ℕ) (d : Line) → Grows start here → AreLines start lines → i < length lines
    → line_values start x s (take (i + 1) lines) ≡ line_values start x s (take i lines) ++ line_value here x s (get_or lines i d) ∷ []
values_step start here x s lines i d h within lt =
    map_more (line_value start x s) lines i d lt ∙ ap (λ (b : Bool). line_values start x s (take i lines) ++ b ∷ []) (sym (value_kept start here x s (get_or lines i d) h (within i d lt)))

-- a line that was added with a signal computes the signal's value
pub added_computes : (a b : GateNetwork) (signal : Signal) (line : Line) → IsAdded a b signal line → Computes a b (λ x s. value x s signal) line
added_computes a b signal line h = record { value = λ x s. ap (value x s) h.means; within = h.within; grows = h.grows }

pub all_added_compute : (a b : GateNetwork) (signals : List Signal) (lines : List Line) → AreAdded a b signals lines → ComputesAll a b (λ x s. values x s signals) lines
all_added_compute a b signals lines h = record { values = λ x s. values_of_meanings b x s lines ∙ ap (values x s) h.mean; within = h.within; grows = h.grows }
