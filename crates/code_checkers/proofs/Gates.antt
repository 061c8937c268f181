-- What the places of a list of gates mean.
use Rattle.std.specs.Prelude.{◌≡◌, ℕ, ◌+◌, ◌<◌, List, [], ◌∷◌, ◌++◌, length, refl}
use Rattle.std.proofs.Common.{sym, ◌∙◌, ap, subst, arith}
use Rattle.std.proofs.lemmas.List.{length-append, get_or_append_left, get_or_push}
use Rattle.code_checkers.specs.declared.gate.CheckGate.{CheckGate}
use Rattle.code_checkers.specs.Signal.{Signal}
use Rattle.code_checkers.specs.Signal.Signal.{Word}
use Rattle.code_checkers.specs.Gates.{signal_at, signal_of, signals_from, signals_of, meaning}
use Rattle.code_checkers.specs.Draft.{IsAdded}

signals_from-push : (signals : List Signal) (gates : List CheckGate) (g : CheckGate) → signals_from signals (gates ++ g ∷ []) ≡ signals_from signals gates ++ signal_of (signals_from signals gates) g ∷ []
signals_from-push signals [] g = refl
signals_from-push signals (h ∷ gates) g = signals_from-push (signals ++ signal_of signals h ∷ []) gates g

pub signals_of-push : (gates : List CheckGate) (g : CheckGate) → signals_of (gates ++ g ∷ []) ≡ signals_of gates ++ signal_of (signals_of gates) g ∷ []
signals_of-push gates g = signals_from-push [] gates g

length-signals_from : (signals : List Signal) (gates : List CheckGate) → length (signals_from signals gates) ≡ length signals + length gates
length-signals_from signals [] = omega arith
length-signals_from signals (g ∷ gates) =
    length-signals_from (signals ++ signal_of signals g ∷ []) gates ∙ omega (arith, length-append signals (signal_of signals g ∷ []))

-- there are as many signals as gates
pub length-signals_of : (gates : List CheckGate) → length (signals_of gates) ≡ length gates
length-signals_of gates = length-signals_from [] gates ∙ omega arith

pub meaning-push : (gates : List CheckGate) (g : CheckGate) (place : ℕ) → place < length gates → meaning (gates ++ g ∷ []) place ≡ meaning gates place
meaning-push gates g place h =
    ap (λ signals. signal_at signals place) (signals_of-push gates g)
    ∙ get_or_append_left (signals_of gates) (signal_of (signals_of gates) g ∷ []) (Word 0) place (omega (arith, length-signals_of gates))

pub meaning-new : (gates : List CheckGate) (g : CheckGate) → meaning (gates ++ g ∷ []) (length gates) ≡ signal_of (signals_of gates) g
meaning-new gates g =
    ap (λ signals. signal_at signals (length gates)) (signals_of-push gates g)
    ∙ get_or_push (signals_of gates) (signal_of (signals_of gates) g) (Word 0) (length gates) (length-signals_of gates)

pub push_added : (gates inside new : List CheckGate) (g : CheckGate) (place : ℕ) → inside ≡ gates → new ≡ inside ++ g ∷ [] → place ≡ length inside → IsAdded gates new (signal_of (signals_of gates) g) place
push_added gates inside new g place seen e at =
    let pushed : new ≡ gates ++ g ∷ [] = e ∙ ap (λ gs. gs ++ g ∷ []) seen in
    let last : place ≡ length gates = at ∙ ap length seen in
    subst (λ (gs : List CheckGate). IsAdded gates gs (signal_of (signals_of gates) g) place) (sym pushed)
    (subst (λ (p : ℕ). IsAdded gates (gates ++ g ∷ []) (signal_of (signals_of gates) g) p) (sym last) (record {
      means = meaning-new gates g;
      within = omega (arith, length-append gates (g ∷ []));
      keeps = record { grows = omega (arith, length-append gates (g ∷ [])); same = meaning-push gates g };
    }))
