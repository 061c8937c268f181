-- What the lines of a list of gates mean.
use Rattle.std.specs.Prelude.{◌≡◌, ℕ, zero, suc, ◌+◌, ◌<◌, List, [], ◌∷◌, ◌++◌, length, refl}
use Rattle.std.proofs.Common.{sym, ◌∙◌, ap, subst, arith}
use Rattle.std.proofs.lemmas.List.{append-nil, append_assoc, length-append, get_or_at, get_or_append_left}
use Rattle.gate_net.specs.declared.line.Line.{Line}
use Rattle.gate_net.specs.declared.gate.Gate.{Gate}
use Rattle.gate_net.specs.declared.gate.Gate.TheVariants as gate
use Rattle.gate_net.specs.Signal.{Signal}
use Rattle.gate_net.specs.Signal.Signal.{Zero, Not, And, Or, Xor}
use Rattle.gate_net.specs.Gates.{GateNetwork, gate_at, signal_at, signal_of, signals_from, signals_of, meaning, gate_signal, IsLine, ReadsBelow, IsHashed}

signals_from-push : (signals : List Signal) (gates : List Gate) (g : Gate) → signals_from signals (gates ++ g ∷ []) ≡ signals_from signals gates ++ signal_of (signals_from signals gates) g ∷ []
signals_from-push signals [] g = refl
signals_from-push signals (h ∷ gates) g = signals_from-push (signals ++ signal_of signals h ∷ []) gates g

pub signals_of-push : (gates : List Gate) (g : Gate) → signals_of (gates ++ g ∷ []) ≡ signals_of gates ++ signal_of (signals_of gates) g ∷ []
signals_of-push gates g = signals_from-push [] gates g

length-signals_from : (signals : List Signal) (gates : List Gate) → length (signals_from signals gates) ≡ length signals + length gates
length-signals_from signals [] = omega arith
length-signals_from signals (g ∷ gates) =
    length-signals_from (signals ++ signal_of signals g ∷ []) gates ∙ omega (arith, length-append signals (signal_of signals g ∷ []))

pub length-signals_of : (gates : List Gate) → length (signals_of gates) ≡ length gates
length-signals_of gates = length-signals_from [] gates ∙ omega arith

-- a gate more leaves what earlier places mean
pub signal_at-push : (gates : List Gate) (g : Gate) (n : ℕ) → n < length gates → signal_at (signals_of (gates ++ g ∷ [])) n ≡ signal_at (signals_of gates) n
signal_at-push gates g n h =
    ap (λ signals. signal_at signals n) (signals_of-push gates g)
    ∙ get_or_append_left (signals_of gates) (signal_of (signals_of gates) g ∷ []) Zero n (omega (arith, length-signals_of gates))

-- a gate that reads places of the front means the same there
signal_of-front : (G : GateNetwork) (signals more : List Signal) (g : Gate) → ReadsBelow G (length signals) g → signal_of (signals ++ more) g ≡ signal_of signals g
signal_of-front G s m (gate.Not a) r = ap Not (get_or_append_left s m Zero a.number r)
signal_of-front G s m (gate.And a b) r = ap (λ z. And z (signal_at (s ++ m) b.number)) (get_or_append_left s m Zero a.number r.0) ∙ ap (And (signal_at s a.number)) (get_or_append_left s m Zero b.number r.1)
signal_of-front G s m (gate.Or a b) r = ap (λ z. Or z (signal_at (s ++ m) b.number)) (get_or_append_left s m Zero a.number r.0) ∙ ap (Or (signal_at s a.number)) (get_or_append_left s m Zero b.number r.1)
signal_of-front G s m (gate.Xor a b) r = ap (λ z. Xor z (signal_at (s ++ m) b.number)) (get_or_append_left s m Zero a.number r.0) ∙ ap (Xor (signal_at s a.number)) (get_or_append_left s m Zero b.number r.1)
signal_of-front G s m _ r = refl

-- signals begin with those that they are made from
pub signals_from-front : (signals : List Signal) (gates : List Gate) → (more : List Signal) × (signals_from signals gates ≡ signals ++ more)
signals_from-front signals [] = ([], sym (append-nil signals))
signals_from-front signals (g ∷ gates) =
    let rest = signals_from-front (signals ++ signal_of signals g ∷ []) gates in
    (signal_of signals g ∷ rest.0, rest.1 ∙ append_assoc signals (signal_of signals g ∷ []) rest.0)

-- the signal at a place is that of its gate
signals_from-at : (G : GateNetwork) (signals : List Signal) (gates : List Gate) (k n : ℕ) → n ≡ length signals + k → k < length gates → ReadsBelow G n (gate_at gates k)
    → signal_at (signals_from signals gates) n ≡ signal_of (signals_from signals gates) (gate_at gates k)
signals_from-at G signals [] k n at lt reads = absurd (omega arith)
signals_from-at G signals (g ∷ gates) zero n at lt reads =
    let s : Signal = signal_of signals g in
    let rest = signals_from-front (signals ++ s ∷ []) gates in
    let place : n ≡ length signals = omega arith in
    let below : ReadsBelow G (length signals) g = subst (λ (m : ℕ). ReadsBelow G m g) place reads in
    let e : signals_from signals (g ∷ gates) ≡ signals ++ s ∷ rest.0 = rest.1 ∙ append_assoc signals (s ∷ []) rest.0 in
    ap (λ (ss : List Signal). signal_at ss n) e ∙ get_or_at signals s rest.0 Zero n (sym place)
    ∙ sym (ap (λ (ss : List Signal). signal_of ss g) e ∙ signal_of-front G signals (s ∷ rest.0) g below)
signals_from-at G signals (g ∷ gates) (suc k) n at lt reads =
    signals_from-at G (signals ++ signal_of signals g ∷ []) gates k n (omega (arith, length-append signals (signal_of signals g ∷ []))) (omega arith) reads

-- a line means the signal of its gate
pub meaning_is : (G : GateNetwork) (line : Line) → IsHashed G → IsLine G line → meaning G line ≡ gate_signal G (gate_at G.gates line.number)
meaning_is G line sound lt = signals_from-at G [] G.gates line.number line.number (omega arith) lt (sound.ordered line.number lt)
