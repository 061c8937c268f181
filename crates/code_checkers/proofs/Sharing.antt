-- Writing each signal once is the walk.
use Rattle.std.specs.Prelude.{◌≡◌, ℕ, zero, suc, ◌+◌, ◌<◌, ◌≤◌, ◌==◌, Bool, true, false, ◌||◌, if◌then◌else◌, List, [], ◌∷◌, ◌++◌, length, get_or, set, slice_get, slice_index_or, Option, Some, None, refl}
use Rattle.std.specs.List.{list_any}
use Rattle.std.proofs.Common.{sym, ◌∙◌, ap, subst, arith, ⊎_elim, inl, inr}
use Rattle.std.proofs.lemmas.List.{append-nil, append_assoc, get_or_at, get_or_push, length-append, length-set, get_or_append_left, get_or-set_same, get_or-set_other}
use Rattle.std.proofs.lemmas.List.Folds.{list_any_at}
use Rattle.std.proofs.lemmas.Option.{slice_get_within, get_or_from_slice_get}
use Rattle.std.proofs.lemmas.Bool.{and_parts, and_from, eqb-true, eq-eqb, cases_Bool, cases_eq, cases_lt, false≢true}
use Rattle.code_checkers.specs.declared.gate.CheckGate.{CheckGate}
use Rattle.code_checkers.specs.declared.gate.CheckGate.TheVariants as gate
use Rattle.code_checkers.specs.Signal.{Signal}
use Rattle.code_checkers.specs.Signal.Signal.{Word, Buf, Not, And, Or, Xor}
use Rattle.code_checkers.specs.Gates.{signal_at, signal_of, signals_from, signals_of, meaning, ReadsBelow, AreOrdered, gate_at}
use Rattle.code_checkers.specs.Draft.{Keeps, IsAdded}
use Rattle.code_checkers.specs.Walk.{same_signal, with_signal, walk, same_gate, with_gate, IsSharing}
use Rattle.code_checkers.proofs.Gates.{length-signals_of, signals_of-push, meaning-push, meaning-new}
use Rattle.code_checkers.proofs.Kept.{Keeps-refl}

-- each signal is found to be the same as itself
pub same_signal-refl : (a : Signal) → same_signal a a ≡ true
same_signal-refl (Word a) = eq-eqb a a refl
same_signal-refl (Buf a) = same_signal-refl a
same_signal-refl (Not a) = same_signal-refl a
same_signal-refl (And a b) = and_from _ _ (same_signal-refl a) (same_signal-refl b)
same_signal-refl (Or a b) = and_from _ _ (same_signal-refl a) (same_signal-refl b)
same_signal-refl (Xor a b) = and_from _ _ (same_signal-refl a) (same_signal-refl b)

-- signals that are found to be the same are equal
pub same_signal-true : (a b : Signal) → same_signal a b ≡ true → a ≡ b
same_signal-true (Word a) (Word c) h = ap Word (eqb-true a c h)
same_signal-true (Buf a) (Buf c) h = ap Buf (same_signal-true a c h)
same_signal-true (Not a) (Not c) h = ap Not (same_signal-true a c h)
same_signal-true (And a b) (And c d) h = let parts = and_parts (same_signal a c) (same_signal b d) h in ap (λ x. And x b) (same_signal-true a c parts.0) ∙ ap (And c) (same_signal-true b d parts.1)
same_signal-true (Or a b) (Or c d) h = let parts = and_parts (same_signal a c) (same_signal b d) h in ap (λ x. Or x b) (same_signal-true a c parts.0) ∙ ap (Or c) (same_signal-true b d parts.1)
same_signal-true (Xor a b) (Xor c d) h = let parts = and_parts (same_signal a c) (same_signal b d) h in ap (λ x. Xor x b) (same_signal-true a c parts.0) ∙ ap (Xor c) (same_signal-true b d parts.1)
same_signal-true _ _ h = absurd (false≢true h)

same_gate-refl : (g : CheckGate) → same_gate g g ≡ true
same_gate-refl (gate.Word a) = eq-eqb a a refl
same_gate-refl (gate.Buf a) = eq-eqb a a refl
same_gate-refl (gate.Not a) = eq-eqb a a refl
same_gate-refl (gate.And a b) = and_from _ _ (eq-eqb a a refl) (eq-eqb b b refl)
same_gate-refl (gate.Or a b) = and_from _ _ (eq-eqb a a refl) (eq-eqb b b refl)
same_gate-refl (gate.Xor a b) = and_from _ _ (eq-eqb a a refl) (eq-eqb b b refl)

same_gate-true : (g h : CheckGate) → same_gate g h ≡ true → g ≡ h
same_gate-true (gate.Word a) (gate.Word c) h = ap gate.Word (eqb-true a c h)
same_gate-true (gate.Buf a) (gate.Buf c) h = ap gate.Buf (eqb-true a c h)
same_gate-true (gate.Not a) (gate.Not c) h = ap gate.Not (eqb-true a c h)
same_gate-true (gate.And a b) (gate.And c d) h = let parts = and_parts (a == c) (b == d) h in ap (λ x. gate.And x b) (eqb-true a c parts.0) ∙ ap (gate.And c) (eqb-true b d parts.1)
same_gate-true (gate.Or a b) (gate.Or c d) h = let parts = and_parts (a == c) (b == d) h in ap (λ x. gate.Or x b) (eqb-true a c parts.0) ∙ ap (gate.Or c) (eqb-true b d parts.1)
same_gate-true (gate.Xor a b) (gate.Xor c d) h = let parts = and_parts (a == c) (b == d) h in ap (λ x. gate.Xor x b) (eqb-true a c parts.0) ∙ ap (gate.Xor c) (eqb-true b d parts.1)
same_gate-true _ _ h = absurd (false≢true h)

-- a test that some item passes, some item at a place passes
found : {X : Type 0} (p : X → Bool) (xs : List X) (d : X) → list_any p xs ≡ true → (k : ℕ) × (k < length xs) × (p (get_or xs k d) ≡ true)
found p [] d h = absurd (false≢true h)
found p (x ∷ xs) d h = elim (cases_Bool (p x)) [
  | inl e ↦ (0, omega arith, e)
  | inr e ↦ let rest = found p xs d (sym (ap (λ b. b || list_any p xs) e) ∙ h) in (suc rest.0, omega (arith, rest.1), rest.2)
]

-- a gate over kept places means what it meant
signal_of-kept : (a b : List CheckGate) (g : CheckGate) → Keeps a b → ReadsBelow (length a) g → signal_of (signals_of b) g ≡ signal_of (signals_of a) g
signal_of-kept a b (gate.Word p) k r = refl
signal_of-kept a b (gate.Buf x) k r = ap Buf (k.same x r)
signal_of-kept a b (gate.Not x) k r = ap Not (k.same x r)
signal_of-kept a b (gate.And x y) k r = ap (λ s. And s (meaning b y)) (k.same x r.0) ∙ ap (And (meaning a x)) (k.same y r.1)
signal_of-kept a b (gate.Or x y) k r = ap (λ s. Or s (meaning b y)) (k.same x r.0) ∙ ap (Or (meaning a x)) (k.same y r.1)
signal_of-kept a b (gate.Xor x y) k r = ap (λ s. Xor s (meaning b y)) (k.same x r.0) ∙ ap (Xor (meaning a x)) (k.same y r.1)

-- a gate that reads places of the front means the same there
signal_of-front : (signals more : List Signal) (g : CheckGate) → ReadsBelow (length signals) g → signal_of (signals ++ more) g ≡ signal_of signals g
signal_of-front s m (gate.Word p) r = refl
signal_of-front s m (gate.Buf x) r = ap Buf (get_or_append_left s m (Word 0) x r)
signal_of-front s m (gate.Not x) r = ap Not (get_or_append_left s m (Word 0) x r)
signal_of-front s m (gate.And x y) r = ap (λ z. And z (signal_at (s ++ m) y)) (get_or_append_left s m (Word 0) x r.0) ∙ ap (And (signal_at s x)) (get_or_append_left s m (Word 0) y r.1)
signal_of-front s m (gate.Or x y) r = ap (λ z. Or z (signal_at (s ++ m) y)) (get_or_append_left s m (Word 0) x r.0) ∙ ap (Or (signal_at s x)) (get_or_append_left s m (Word 0) y r.1)
signal_of-front s m (gate.Xor x y) r = ap (λ z. Xor z (signal_at (s ++ m) y)) (get_or_append_left s m (Word 0) x r.0) ∙ ap (Xor (signal_at s x)) (get_or_append_left s m (Word 0) y r.1)

-- signals begin with those that they are made from
signals_from-front : (signals : List Signal) (gates : List CheckGate) → (more : List Signal) × (signals_from signals gates ≡ signals ++ more)
signals_from-front signals [] = ([], sym (append-nil signals))
signals_from-front signals (g ∷ gates) =
    let rest = signals_from-front (signals ++ signal_of signals g ∷ []) gates in
    (signal_of signals g ∷ rest.0, rest.1 ∙ append_assoc signals (signal_of signals g ∷ []) rest.0)

-- the signal at a place is that of its gate
signals_from-at : (signals : List Signal) (gates : List CheckGate) (k n : ℕ) → n ≡ length signals + k → k < length gates → ReadsBelow n (gate_at gates k)
    → signal_at (signals_from signals gates) n ≡ signal_of (signals_from signals gates) (gate_at gates k)
signals_from-at signals [] k n at lt reads = absurd (omega arith)
signals_from-at signals (g ∷ gates) zero n at lt reads =
    let s : Signal = signal_of signals g in
    let rest = signals_from-front (signals ++ s ∷ []) gates in
    let place : n ≡ length signals = omega arith in
    let below : ReadsBelow (length signals) g = subst (λ (m : ℕ). ReadsBelow m g) place reads in
    let e : signals_from signals (g ∷ gates) ≡ signals ++ s ∷ rest.0 = rest.1 ∙ append_assoc signals (s ∷ []) rest.0 in
    ap (λ (ss : List Signal). signal_at ss n) e ∙ get_or_at signals s rest.0 (Word 0) n (sym place)
    ∙ sym (ap (λ (ss : List Signal). signal_of ss g) e ∙ signal_of-front signals (s ∷ rest.0) g below)
signals_from-at signals (g ∷ gates) (suc k) n at lt reads =
    signals_from-at (signals ++ signal_of signals g ∷ []) gates k n (omega (arith, length-append signals (signal_of signals g ∷ []))) (omega arith) reads

-- in ordered gates a place means the signal of its gate
pub meaning_is : (gates : List CheckGate) (k : ℕ) → AreOrdered gates → k < length gates → meaning gates k ≡ signal_of (signals_of gates) (gate_at gates k)
meaning_is gates k ordered lt = signals_from-at [] gates k k (omega arith) lt (ordered k lt)

-- a gate that reads only places below m reads only places below each n that is at least m
pub reads_more : (m n : ℕ) (g : CheckGate) → m ≤ n → ReadsBelow m g → ReadsBelow n g
reads_more m n (gate.Word p) h r = tt
reads_more m n (gate.Buf x) h r = omega arith
reads_more m n (gate.Not x) h r = omega arith
reads_more m n (gate.And x y) h r = (omega (arith, r.0), omega (arith, r.1))
reads_more m n (gate.Or x y) h r = (omega (arith, r.0), omega (arith, r.1))
reads_more m n (gate.Xor x y) h r = (omega (arith, r.0), omega (arith, r.1))

-- each signal stands once
AreDistinct : List CheckGate → Type 0
AreDistinct gates = (i j : ℕ) → i < length gates → j < length gates → meaning gates i ≡ meaning gates j → i ≡ j

-- gates that mean the same signal are the same gate
signal_of-injective : (gates : List CheckGate) (g h : CheckGate) → AreDistinct gates → ReadsBelow (length gates) g → ReadsBelow (length gates) h
    → signal_of (signals_of gates) g ≡ signal_of (signals_of gates) h → g ≡ h
unfolding AreDistinct
signal_of-injective gates (gate.Word a) (gate.Word c) distinct at_g at_h e = let same : a ≡ c = cc in ap gate.Word same
signal_of-injective gates (gate.Buf a) (gate.Buf c) distinct at_g at_h e = let same : meaning gates a ≡ meaning gates c = cc in ap gate.Buf (distinct a c at_g at_h same)
signal_of-injective gates (gate.Not a) (gate.Not c) distinct at_g at_h e = let same : meaning gates a ≡ meaning gates c = cc in ap gate.Not (distinct a c at_g at_h same)
signal_of-injective gates (gate.And a b) (gate.And c d) distinct at_g at_h e =
    let left : meaning gates a ≡ meaning gates c = cc in
    let right : meaning gates b ≡ meaning gates d = cc in
    ap (λ x. gate.And x b) (distinct a c at_g.0 at_h.0 left) ∙ ap (gate.And c) (distinct b d at_g.1 at_h.1 right)
signal_of-injective gates (gate.Or a b) (gate.Or c d) distinct at_g at_h e =
    let left : meaning gates a ≡ meaning gates c = cc in
    let right : meaning gates b ≡ meaning gates d = cc in
    ap (λ x. gate.Or x b) (distinct a c at_g.0 at_h.0 left) ∙ ap (gate.Or c) (distinct b d at_g.1 at_h.1 right)
signal_of-injective gates (gate.Xor a b) (gate.Xor c d) distinct at_g at_h e =
    let left : meaning gates a ≡ meaning gates c = cc in
    let right : meaning gates b ≡ meaning gates d = cc in
    ap (λ x. gate.Xor x b) (distinct a c at_g.0 at_h.0 left) ∙ ap (gate.Xor c) (distinct b d at_g.1 at_h.1 right)
signal_of-injective gates _ _ distinct at_g at_h e = cc

-- the gate is among the gates where its signal is among theirs
contains_alike : (gates : List CheckGate) (g : CheckGate) → AreOrdered gates → AreDistinct gates → ReadsBelow (length gates) g
    → list_any (same_signal (signal_of (signals_of gates) g)) (signals_of gates) ≡ list_any (same_gate g) gates
contains_alike gates g ordered distinct reads = ⊎_elim there missing (cases_Bool (list_any (same_gate g) gates))
  where
    there : list_any (same_gate g) gates ≡ true → list_any (same_signal (signal_of (signals_of gates) g)) (signals_of gates) ≡ list_any (same_gate g) gates
    there e =
        let at = found (same_gate g) gates (gate.Word 0) e in
        let same : g ≡ gate_at gates at.0 = same_gate-true g (gate_at gates at.0) at.2 in
        let means : meaning gates at.0 ≡ signal_of (signals_of gates) g = meaning_is gates at.0 ordered at.1 ∙ ap (signal_of (signals_of gates)) (sym same) in
        list_any_at (same_signal (signal_of (signals_of gates) g)) (signals_of gates) at.0 (Word 0) (omega (arith, length-signals_of gates, at.1))
        (ap (same_signal (signal_of (signals_of gates) g)) means ∙ same_signal-refl (signal_of (signals_of gates) g)) ∙ sym e

    missing : list_any (same_gate g) gates ≡ false → list_any (same_signal (signal_of (signals_of gates) g)) (signals_of gates) ≡ list_any (same_gate g) gates
    missing e = elim (cases_Bool (list_any (same_signal (signal_of (signals_of gates) g)) (signals_of gates))) [
      | inl t ↦
          let at = found (same_signal (signal_of (signals_of gates) g)) (signals_of gates) (Word 0) t in
          let lt : at.0 < length gates = omega (arith, length-signals_of gates, at.1) in
          let means : signal_of (signals_of gates) g ≡ signal_of (signals_of gates) (gate_at gates at.0) =
          same_signal-true (signal_of (signals_of gates) g) (meaning gates at.0) at.2 ∙ meaning_is gates at.0 ordered lt in
          let same : g ≡ gate_at gates at.0 = signal_of-injective gates g (gate_at gates at.0) distinct reads (reads_more at.0 (length gates) (gate_at gates at.0) (omega (arith, lt)) (ordered at.0 lt)) means in
          absurd (false≢true (sym e ∙ list_any_at (same_gate g) gates at.0 (gate.Word 0) lt (ap (same_gate g) (sym same) ∙ same_gate-refl g)))
      | inr f ↦ f ∙ sym e
    ]

with_gate-there : (gates : List CheckGate) (g : CheckGate) → list_any (same_gate g) gates ≡ true → with_gate gates g ≡ gates
with_gate-there gates g e = ap (λ (b : Bool). if b then gates else gates ++ g ∷ []) e

with_gate-missing : (gates : List CheckGate) (g : CheckGate) → list_any (same_gate g) gates ≡ false → with_gate gates g ≡ gates ++ g ∷ []
with_gate-missing gates g e = ap (λ (b : Bool). if b then gates else gates ++ g ∷ []) e

-- writing a gate once is writing its signal once
with_gate-signals : (gates : List CheckGate) (g : CheckGate) → AreOrdered gates → AreDistinct gates → ReadsBelow (length gates) g
    → signals_of (with_gate gates g) ≡ with_signal (signals_of gates) (signal_of (signals_of gates) g)
with_gate-signals gates g ordered distinct reads = ⊎_elim there missing (cases_Bool (list_any (same_gate g) gates))
  where
    there : list_any (same_gate g) gates ≡ true → signals_of (with_gate gates g) ≡ with_signal (signals_of gates) (signal_of (signals_of gates) g)
    there e =
        ap signals_of (with_gate-there gates g e)
        ∙ sym (ap (λ (b : Bool). if b then signals_of gates else signals_of gates ++ signal_of (signals_of gates) g ∷ []) (contains_alike gates g ordered distinct reads ∙ e))

    missing : list_any (same_gate g) gates ≡ false → signals_of (with_gate gates g) ≡ with_signal (signals_of gates) (signal_of (signals_of gates) g)
    missing e =
        ap signals_of (with_gate-missing gates g e) ∙ signals_of-push gates g
        ∙ sym (ap (λ (b : Bool). if b then signals_of gates else signals_of gates ++ signal_of (signals_of gates) g ∷ []) (contains_alike gates g ordered distinct reads ∙ e))

with_gate-keeps : (gates : List CheckGate) (g : CheckGate) → Keeps gates (with_gate gates g)
with_gate-keeps gates g = elim (cases_Bool (list_any (same_gate g) gates)) [
  | inl e ↦ subst (Keeps gates) (sym (with_gate-there gates g e)) (Keeps-refl gates)
  | inr e ↦ subst (Keeps gates) (sym (with_gate-missing gates g e)) (record { grows = omega (arith, length-append gates (g ∷ [])); same = meaning-push gates g })
]

push_ordered : (gates : List CheckGate) (g : CheckGate) → AreOrdered gates → ReadsBelow (length gates) g → AreOrdered (gates ++ g ∷ [])
push_ordered gates g ordered reads k lt = elim (cases_lt k (length gates)) [
  | inl old ↦ subst (ReadsBelow k) (sym (get_or_append_left gates (g ∷ []) (gate.Word 0) k old)) (ordered k old)
  | inr new ↦
      let last : length gates ≡ k = omega (arith, length-append gates (g ∷ [])) in
      subst (ReadsBelow k) (sym (get_or_push gates g (gate.Word 0) k last)) (subst (λ (n : ℕ). ReadsBelow n g) last reads)
]

with_gate-ordered : (gates : List CheckGate) (g : CheckGate) → AreOrdered gates → ReadsBelow (length gates) g → AreOrdered (with_gate gates g)
with_gate-ordered gates g ordered reads = elim (cases_Bool (list_any (same_gate g) gates)) [
  | inl e ↦ subst AreOrdered (sym (with_gate-there gates g e)) ordered
  | inr e ↦ subst AreOrdered (sym (with_gate-missing gates g e)) (push_ordered gates g ordered reads)
]

-- a signal that isn't there stands at no place
not_there : (gates : List CheckGate) (s : Signal) (k : ℕ) → list_any (same_signal s) (signals_of gates) ≡ false → k < length gates → s ≡ meaning gates k → ⊥
not_there gates s k e lt same =
    false≢true (sym e ∙ list_any_at (same_signal s) (signals_of gates) k (Word 0) (omega (arith, length-signals_of gates)) (ap (same_signal s) (sym same) ∙ same_signal-refl s))

push_distinct : (gates : List CheckGate) (g : CheckGate) → AreDistinct gates → list_any (same_signal (signal_of (signals_of gates) g)) (signals_of gates) ≡ false → AreDistinct (gates ++ g ∷ [])
unfolding AreDistinct
push_distinct gates g distinct e i j at_i at_j same =
    elim (cases_lt i (length gates)) [
      | inl lt_i ↦ elim (cases_lt j (length gates)) [
        | inl lt_j ↦ distinct i j lt_i lt_j (sym (meaning-push gates g i lt_i) ∙ same ∙ meaning-push gates g j lt_j)
        | inr ge_j ↦
            let last : j ≡ length gates = omega (arith, length-append gates (g ∷ [])) in
            absurd (not_there gates (signal_of (signals_of gates) g) i e lt_i (sym (ap (meaning (gates ++ g ∷ [])) last ∙ meaning-new gates g) ∙ sym same ∙ meaning-push gates g i lt_i))
      ]
      | inr ge_i ↦
          let last_i : i ≡ length gates = omega (arith, length-append gates (g ∷ [])) in
          elim (cases_lt j (length gates)) [
            | inl lt_j ↦ absurd (not_there gates (signal_of (signals_of gates) g) j e lt_j (sym (ap (meaning (gates ++ g ∷ [])) last_i ∙ meaning-new gates g) ∙ same ∙ meaning-push gates g j lt_j))
            | inr ge_j ↦ omega (arith, length-append gates (g ∷ []))
          ]
    ]

with_gate-distinct : (gates : List CheckGate) (g : CheckGate) → AreOrdered gates → AreDistinct gates → ReadsBelow (length gates) g → AreDistinct (with_gate gates g)
with_gate-distinct gates g ordered distinct reads = elim (cases_Bool (list_any (same_gate g) gates)) [
  | inl e ↦ subst AreDistinct (sym (with_gate-there gates g e)) distinct
  | inr e ↦ subst AreDistinct (sym (with_gate-missing gates g e)) (push_distinct gates g distinct (contains_alike gates g ordered distinct reads ∙ e))
]

-- a gate of a place of the draft was written and noted: what that gives
pub record IsWritten (draft gates new : List CheckGate) (places : List (Option ℕ)) (g : CheckGate) (there : ℕ) : Type 0 where
  pub signals : signals_of new ≡ with_signal (signals_of gates) (signal_of (signals_of gates) g)
  pub added : IsAdded gates new (signal_of (signals_of gates) g) there
  pub shares : IsSharing draft new places

pub written : (draft gates new : List CheckGate) (places noted : List (Option ℕ)) (g : CheckGate) (place there : ℕ)
    → IsSharing draft gates places → place < length draft → ReadsBelow (length gates) g → meaning draft place ≡ signal_of (signals_of gates) g
    → new ≡ with_gate gates g → slice_get new there ≡ Some g → noted ≡ set places place (Some there)
    → IsWritten draft gates new noted g there
unfolding AreDistinct
written draft gates new places noted g place there h lt reads means e stored note =
    record { signals = ap signals_of e ∙ with_gate-signals gates g h.ordered h.distinct reads; added = added; shares = shares }
  where
    keeps : Keeps gates new
    keeps = subst (Keeps gates) (sym e) (with_gate-keeps gates g)

    ordered : AreOrdered new
    ordered = subst AreOrdered (sym e) (with_gate-ordered gates g h.ordered reads)

    within : there < length new
    within = slice_get_within new there g stored

    stands : meaning new there ≡ signal_of (signals_of gates) g
    stands =
        meaning_is new there ordered within
        ∙ ap (signal_of (signals_of new)) (get_or_from_slice_get new there g (gate.Word 0) stored)
        ∙ signal_of-kept gates new g keeps reads

    added : IsAdded gates new (signal_of (signals_of gates) g) there
    added = record { means = stands; within = within; keeps = keeps }

    at_place : (p q : ℕ) → p < length noted → slice_index_or noted p None ≡ Some q → (p ≡ place → ⊥) → (q < length new) × (meaning new q ≡ meaning draft p)
    at_place p q lt_p is other =
        let before : slice_index_or places p None ≡ Some q = sym (ap (λ (os : List (Option ℕ)). slice_index_or os p None) note ∙ get_or-set_other places place p (Some there) None other) ∙ is in
        let old = h.noted p q (omega (arith, ap length note, length-set places place (Some there))) before in
        (omega (arith, old.0, keeps.grows), keeps.same q old.0 ∙ old.1)

    at_new : (q : ℕ) → slice_index_or noted place None ≡ Some q → (q < length new) × (meaning new q ≡ meaning draft place)
    at_new q is =
        let now : Some there ≡ Some q = sym (ap (λ (os : List (Option ℕ)). slice_index_or os place None) note ∙ get_or-set_same places place (Some there) None (omega (arith, h.sized))) ∙ is in
        let same : there ≡ q = cc in
        subst (λ (k : ℕ). (k < length new) × (meaning new k ≡ meaning draft place)) same (within, stands ∙ sym means)

    shares : IsSharing draft new noted
    shares = record {
      sized = ap length note ∙ length-set places place (Some there) ∙ h.sized;
      ordered = ordered;
      distinct = subst AreDistinct (sym e) (with_gate-distinct gates g h.ordered h.distinct reads);
      noted = λ p q lt_p is. elim (cases_eq p place) [
        | inl at ↦ subst (λ (k : ℕ). (q < length new) × (meaning new q ≡ meaning draft k)) (sym at) (at_new q (sym (ap (λ k. slice_index_or noted k None) at) ∙ is))
        | inr other ↦ at_place p q lt_p is other
      ];
    }

-- a walk over a signal that stands there, below a bound, changes nothing
with_signal-there : (gates : List CheckGate) (place : ℕ) (s : Signal) → place < length gates → meaning gates place ≡ s → with_signal (signals_of gates) s ≡ signals_of gates
with_signal-there gates place s lt e =
    ap (λ (b : Bool). if b then signals_of gates else signals_of gates ++ s ∷ [])
    (list_any_at (same_signal s) (signals_of gates) place (Word 0) (omega (arith, length-signals_of gates)) (ap (same_signal s) e ∙ same_signal-refl s))

-- the walk over the signal of a gate
walk_gate : List CheckGate → CheckGate → List Signal → List Signal
walk_gate gates g ss = walk (signal_of (signals_of gates) g) ss

walk_gate-there : (gates : List CheckGate) (g : CheckGate) (place n : ℕ) → place < length gates → ReadsBelow n g → meaning gates place ≡ signal_of (signals_of gates) g
    → ((k : ℕ) → k < n → walk (meaning gates k) (signals_of gates) ≡ signals_of gates)
    → walk_gate gates g (signals_of gates) ≡ signals_of gates
unfolding walk_gate
walk_gate-there gates (gate.Word p) place n lt reads means below = with_signal-there gates place _ lt means
walk_gate-there gates (gate.Buf a) place n lt reads means below = ap (λ (ss : List Signal). with_signal ss (Buf (meaning gates a))) (below a reads) ∙ with_signal-there gates place _ lt means
walk_gate-there gates (gate.Not a) place n lt reads means below = ap (λ (ss : List Signal). with_signal ss (Not (meaning gates a))) (below a reads) ∙ with_signal-there gates place _ lt means
walk_gate-there gates (gate.And a b) place n lt reads means below =
    ap (λ (ss : List Signal). with_signal (walk (meaning gates b) ss) (And (meaning gates a) (meaning gates b))) (below a reads.0)
    ∙ ap (λ (ss : List Signal). with_signal ss (And (meaning gates a) (meaning gates b))) (below b reads.1)
    ∙ with_signal-there gates place _ lt means
walk_gate-there gates (gate.Or a b) place n lt reads means below =
    ap (λ (ss : List Signal). with_signal (walk (meaning gates b) ss) (Or (meaning gates a) (meaning gates b))) (below a reads.0)
    ∙ ap (λ (ss : List Signal). with_signal ss (Or (meaning gates a) (meaning gates b))) (below b reads.1)
    ∙ with_signal-there gates place _ lt means
walk_gate-there gates (gate.Xor a b) place n lt reads means below =
    ap (λ (ss : List Signal). with_signal (walk (meaning gates b) ss) (Xor (meaning gates a) (meaning gates b))) (below a reads.0)
    ∙ ap (λ (ss : List Signal). with_signal ss (Xor (meaning gates a) (meaning gates b))) (below b reads.1)
    ∙ with_signal-there gates place _ lt means

walk_below : (bound : ℕ) (gates : List CheckGate) → AreOrdered gates → (k : ℕ) → k < bound → k < length gates → walk (meaning gates k) (signals_of gates) ≡ signals_of gates
unfolding walk_gate
walk_below zero gates ordered k lt within = absurd (omega arith)
walk_below (suc bound) gates ordered k lt within =
    let means : meaning gates k ≡ signal_of (signals_of gates) (gate_at gates k) = meaning_is gates k ordered within in
    ap (λ (s : Signal). walk s (signals_of gates)) means
    ∙ walk_gate-there gates (gate_at gates k) k k within (ordered k within) means (λ j h. walk_below bound gates ordered j (omega arith) (omega arith))

-- where a signal stands, a walk over it changes nothing
pub walk_there : (gates : List CheckGate) (k : ℕ) → AreOrdered gates → k < length gates → walk (meaning gates k) (signals_of gates) ≡ signals_of gates
walk_there gates k ordered within = walk_below (suc k) gates ordered k (omega arith) within
