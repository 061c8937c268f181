-- The tree over so many pairs is there: its signals, as gates, are a walk over its rails.
use Rattle.std.proofs.Common.{◌≡◌, ℕ, zero, suc, ◌+◌, ◌<◌, ◌≤◌, Bool, true, false, ◌||◌, if◌then◌else◌, List, [], ◌∷◌, ◌++◌, map, length, refl, sym, ap, ap₂, subst, ◌∙◌, append_assoc, append-nil, arith, inl, inr, true≢false}
use Rattle.std.specs.List.{list_any}
use Rattle.std.proofs.lemmas.Bool.{cases_Bool, cases_lt, or_right, false≢true}
use Rattle.std.proofs.lemmas.List.{length-append, length-map}
use Rattle.std.proofs.lemmas.List.Folds.{list_any-append}
use Rattle.code_checkers.specs.Signal.{Signal}
use Rattle.code_checkers.specs.Signal.Signal.{Word, Buf, Not, And, Or, Xor}
use Rattle.code_checkers.specs.Gates.{signal_at, signal_of, signals_from, signals_of, meaning, ReadsBelow, gate_at}
use Rattle.code_checkers.specs.GateList.{IsWalkOf}
use Rattle.code_checkers.specs.Walk.{same_signal, with_signal, walk}
use Rattle.code_checkers.specs.CheckerNodes.{place_of, gate_of, gates_of}
use Rattle.code_checkers.specs.Tree.{tree_rail1, tree_rail2}
use Rattle.code_checkers.proofs.Sharing.{same_signal-refl, same_signal-true}
use Rattle.module_join.specs.TreeNodes.{TreeIsMade}

-- the signal stands in the list
abbrev has : List Signal → Signal → Bool
has signals s = list_any (same_signal s) signals

-- what a signal is over stands there
abbrev IsOver : List Signal → Signal → Type 0
IsOver before (Word p) = Unit {0}
IsOver before (Buf a) = has before a ≡ true
IsOver before (Not a) = has before a ≡ true
IsOver before (And a b) = (has before a ≡ true) × (has before b ≡ true)
IsOver before (Or a b) = (has before a ≡ true) × (has before b ≡ true)
IsOver before (Xor a b) = (has before a ≡ true) × (has before b ≡ true)

-- after some signals each signal is new, and over earlier ones
abbrev Goes : List Signal → List Signal → Type 0
Goes before [] = Unit {0}
Goes before (s ∷ signals) = IsOver before s × (has before s ≡ false) × Goes (before ++ s ∷ []) signals

has_more : (before more : List Signal) (s : Signal) → has before s ≡ true → has (before ++ more) s ≡ true
has_more before more s h = list_any-append (same_signal s) before more ∙ ap (λ b. b || list_any (same_signal s) more) h

has_last : (before : List Signal) (s : Signal) → has (before ++ s ∷ []) s ≡ true
has_last before s =
    list_any-append (same_signal s) before (s ∷ [])
    ∙ ap (λ b. has before s || (b || false)) (same_signal-refl s)
    ∙ or_right (has before s) true refl

goes_push : (before signals : List Signal) (s : Signal) → Goes before signals → IsOver (before ++ signals) s → has (before ++ signals) s ≡ false → Goes before (signals ++ s ∷ [])
goes_push before [] s h over new = (
  subst (λ (l : List Signal). IsOver l s) (append-nil before) over,
  subst (λ (l : List Signal). has l s ≡ false) (append-nil before) new,
  tt,
)
goes_push before (t ∷ signals) s h over new = (
  h.0,
  h.1,
  goes_push (before ++ t ∷ []) signals s h.2
      (subst (λ (l : List Signal). IsOver l s) (sym (append_assoc before (t ∷ []) signals)) over)
      (subst (λ (l : List Signal). has l s ≡ false) (sym (append_assoc before (t ∷ []) signals)) new),
)

-- ---- one signal more

with_there : (signals : List Signal) (s : Signal) → has signals s ≡ true → with_signal signals s ≡ signals
with_there signals s e = ap (λ (b : Bool). if b then signals else signals ++ s ∷ []) e

with_new : (signals : List Signal) (s : Signal) → has signals s ≡ false → with_signal signals s ≡ signals ++ s ∷ []
with_new signals s e = ap (λ (b : Bool). if b then signals else signals ++ s ∷ []) e

with_goes : (signals : List Signal) (s : Signal) → Goes [] signals → IsOver signals s → Goes [] (with_signal signals s)
with_goes signals s h over = elim (cases_Bool (list_any (same_signal s) signals)) [
  | inl e ↦ subst (λ (l : List Signal). Goes [] l) (sym (with_there signals s e)) h
  | inr e ↦ subst (λ (l : List Signal). Goes [] l) (sym (with_new signals s e)) (goes_push [] signals s h over e)
]

with_has : (signals : List Signal) (s : Signal) → has (with_signal signals s) s ≡ true
with_has signals s = elim (cases_Bool (list_any (same_signal s) signals)) [
  | inl e ↦ subst (λ (l : List Signal). has l s ≡ true) (sym (with_there signals s e)) e
  | inr e ↦ subst (λ (l : List Signal). has l s ≡ true) (sym (with_new signals s e)) (has_last signals s)
]

with_keeps : (signals : List Signal) (s t : Signal) → has signals t ≡ true → has (with_signal signals s) t ≡ true
with_keeps signals s t h = elim (cases_Bool (list_any (same_signal s) signals)) [
  | inl e ↦ subst (λ (l : List Signal). has l t ≡ true) (sym (with_there signals s e)) h
  | inr e ↦ subst (λ (l : List Signal). has l t ≡ true) (sym (with_new signals s e)) (has_more signals (s ∷ []) t h)
]

-- ---- a walk

walk_keeps : (s t : Signal) (signals : List Signal) → has signals t ≡ true → has (walk s signals) t ≡ true
walk_keeps (Word p) t signals h = with_keeps signals (Word p) t h
walk_keeps (Buf a) t signals h = with_keeps (walk a signals) (Buf a) t (walk_keeps a t signals h)
walk_keeps (Not a) t signals h = with_keeps (walk a signals) (Not a) t (walk_keeps a t signals h)
walk_keeps (And a b) t signals h = with_keeps (walk b (walk a signals)) (And a b) t (walk_keeps b t (walk a signals) (walk_keeps a t signals h))
walk_keeps (Or a b) t signals h = with_keeps (walk b (walk a signals)) (Or a b) t (walk_keeps b t (walk a signals) (walk_keeps a t signals h))
walk_keeps (Xor a b) t signals h = with_keeps (walk b (walk a signals)) (Xor a b) t (walk_keeps b t (walk a signals) (walk_keeps a t signals h))

walk_has : (s : Signal) (signals : List Signal) → has (walk s signals) s ≡ true
walk_has (Word p) signals = with_has signals (Word p)
walk_has (Buf a) signals = with_has (walk a signals) (Buf a)
walk_has (Not a) signals = with_has (walk a signals) (Not a)
walk_has (And a b) signals = with_has (walk b (walk a signals)) (And a b)
walk_has (Or a b) signals = with_has (walk b (walk a signals)) (Or a b)
walk_has (Xor a b) signals = with_has (walk b (walk a signals)) (Xor a b)

walk_goes : (s : Signal) (signals : List Signal) → Goes [] signals → Goes [] (walk s signals)
walk_goes (Word p) signals h = with_goes signals (Word p) h tt
walk_goes (Buf a) signals h = with_goes (walk a signals) (Buf a) (walk_goes a signals h) (walk_has a signals)
walk_goes (Not a) signals h = with_goes (walk a signals) (Not a) (walk_goes a signals h) (walk_has a signals)
walk_goes (And a b) signals h =
    with_goes (walk b (walk a signals)) (And a b) (walk_goes b (walk a signals) (walk_goes a signals h))
    (walk_keeps b a (walk a signals) (walk_has a signals), walk_has b (walk a signals))
walk_goes (Or a b) signals h =
    with_goes (walk b (walk a signals)) (Or a b) (walk_goes b (walk a signals) (walk_goes a signals h))
    (walk_keeps b a (walk a signals) (walk_has a signals), walk_has b (walk a signals))
walk_goes (Xor a b) signals h =
    with_goes (walk b (walk a signals)) (Xor a b) (walk_goes b (walk a signals) (walk_goes a signals h))
    (walk_keeps b a (walk a signals) (walk_has a signals), walk_has b (walk a signals))

-- ---- where a signal stands

place_first : (t a : Signal) (signals : List Signal) → same_signal a t ≡ true → place_of (t ∷ signals) a ≡ 0
place_first t a signals e = rw e refl

place_later : (t a : Signal) (signals : List Signal) → same_signal a t ≡ false → place_of (t ∷ signals) a ≡ suc (place_of signals a)
place_later t a signals e =
    let one : place_of (t ∷ signals) a ≡ 1 + place_of signals a = rw e refl in
    one ∙ omega arith

place_in : (before rest : List Signal) (a : Signal) → has before a ≡ true
    → (place_of (before ++ rest) a < length before) × (signal_at before (place_of (before ++ rest) a) ≡ a)
place_in [] rest a h = absurd (false≢true h)
place_in (t ∷ before) rest a h = elim (cases_Bool (same_signal a t)) [
  | inl e ↦ (
    subst (λ (k : ℕ). k < suc (length before)) (sym (place_first t a (before ++ rest) e)) (omega arith),
    ap (signal_at (t ∷ before)) (place_first t a (before ++ rest) e) ∙ sym (same_signal-true a t e),
  )
  | inr e ↦
      let later = place_in before rest a (sym (ap (λ b. b || has before a) e) ∙ h) in (
        subst (λ (k : ℕ). k < suc (length before)) (sym (place_later t a (before ++ rest) e)) (omega (arith, later.0)),
        ap (signal_at (t ∷ before)) (place_later t a (before ++ rest) e) ∙ later.1,
      )
]

-- ---- the gates of signals of which each is over earlier ones

module _ (signals : List Signal) where
  there : (before rest : List Signal) (a : Signal) → before ++ rest ≡ signals → has before a ≡ true
      → (place_of signals a < length before) × (signal_at before (place_of signals a) ≡ a)
  there before rest a is h = subst (λ (l : List Signal). (place_of l a < length before) × (signal_at before (place_of l a) ≡ a)) is (place_in before rest a h)

  gate_means : (before rest : List Signal) (s : Signal) → before ++ rest ≡ signals → IsOver before s → signal_of before (gate_of signals s) ≡ s
  gate_means before rest (Word p) is over = refl
  gate_means before rest (Buf a) is over = ap Buf (there before rest a is over).1
  gate_means before rest (Not a) is over = ap Not (there before rest a is over).1
  gate_means before rest (And a b) is over = ap₂ And (there before rest a is over.0).1 (there before rest b is over.1).1
  gate_means before rest (Or a b) is over = ap₂ Or (there before rest a is over.0).1 (there before rest b is over.1).1
  gate_means before rest (Xor a b) is over = ap₂ Xor (there before rest a is over.0).1 (there before rest b is over.1).1

  gate_reads : (before rest : List Signal) (s : Signal) (n : ℕ) → before ++ rest ≡ signals → length before ≤ n → IsOver before s → ReadsBelow n (gate_of signals s)
  gate_reads before rest (Word p) n is low over = tt
  gate_reads before rest (Buf a) n is low over = omega (arith, (there before rest a is over).0)
  gate_reads before rest (Not a) n is low over = omega (arith, (there before rest a is over).0)
  gate_reads before rest (And a b) n is low over = (omega (arith, (there before rest a is over.0).0), omega (arith, (there before rest b is over.1).0))
  gate_reads before rest (Or a b) n is low over = (omega (arith, (there before rest a is over.0).0), omega (arith, (there before rest b is over.1).0))
  gate_reads before rest (Xor a b) n is low over = (omega (arith, (there before rest a is over.0).0), omega (arith, (there before rest b is over.1).0))

  signals_are : (before rest : List Signal) → before ++ rest ≡ signals → Goes before rest → signals_from before (map (gate_of signals) rest) ≡ signals
  signals_are before [] is goes = sym (append-nil before) ∙ is
  signals_are before (s ∷ rest) is goes =
      ap (λ (t : Signal). signals_from (before ++ t ∷ []) (map (gate_of signals) rest)) (gate_means before (s ∷ rest) s is goes.0)
      ∙ signals_are (before ++ s ∷ []) rest (append_assoc before (s ∷ []) rest ∙ is) goes.2

  reads_below : (before rest : List Signal) (k n : ℕ) → before ++ rest ≡ signals → Goes before rest → n ≡ length before + k → k < length (map (gate_of signals) rest)
      → ReadsBelow n (gate_at (map (gate_of signals) rest) k)
  reads_below before [] k n is goes at h = absurd (omega arith)
  reads_below before (s ∷ rest) zero n is goes at h = gate_reads before (s ∷ rest) s n is (omega arith) goes.0
  reads_below before (s ∷ rest) (suc k) n is goes at h =
      reads_below (before ++ s ∷ []) rest k n (append_assoc before (s ∷ []) rest ∙ is) goes.2 (omega (arith, length-append before (s ∷ []))) (omega arith)

-- a signal that stood before stands nowhere after
new_behind : (before rest : List Signal) (s : Signal) (k : ℕ) → Goes before rest → has before s ≡ true → k < length rest → s ≡ signal_at rest k → ⊥
new_behind before [] s k goes h within e = absurd (omega arith)
new_behind before (t ∷ rest) s zero goes h within e = true≢false (sym h ∙ ap (has before) e ∙ goes.1)
new_behind before (t ∷ rest) s (suc k) goes h within e = new_behind (before ++ t ∷ []) rest s k goes.2 (has_more before (t ∷ []) s h) (omega arith) e

apart : (before rest : List Signal) (i k : ℕ) → Goes before rest → i < k → k < length rest → signal_at rest i ≡ signal_at rest k → ⊥
apart before [] i k goes lt within e = absurd (omega arith)
apart before (s ∷ rest) i zero goes lt within e = absurd (omega arith)
apart before (s ∷ rest) zero (suc k) goes lt within e = new_behind (before ++ s ∷ []) rest s k goes.2 (has_last before s) (omega arith) e
apart before (s ∷ rest) (suc i) (suc k) goes lt within e = apart (before ++ s ∷ []) rest i k goes.2 (omega arith) (omega arith) e

-- the signals of a walk over two signals, as gates
module _ (one other : Signal) where
  abbrev walked : List Signal
  walked = walk other (walk one [])

  goes : Goes [] (walk other (walk one []))
  goes = walk_goes other (walk one []) (walk_goes one [] tt)

  signals_of_walk : signals_of (gates_of (walk other (walk one []))) ≡ walk other (walk one [])
  signals_of_walk = signals_are walked [] walked refl goes

  stands : (a : Signal) → has (walk other (walk one [])) a ≡ true
      → (place_of (walk other (walk one [])) a < length (gates_of (walk other (walk one [])))) × (meaning (gates_of (walk other (walk one []))) (place_of (walk other (walk one [])) a) ≡ a)
  stands a h =
      let at = there walked walked [] a (append-nil walked) h in (
        omega (arith, at.0, length-map walked (gate_of walked)),
        ap (λ (l : List Signal). signal_at l (place_of walked a)) signals_of_walk ∙ at.1,
      )

  has_one : has (walk other (walk one [])) one ≡ true
  has_one = walk_keeps other one (walk one []) (walk_has one [])

  has_other : has (walk other (walk one [])) other ≡ true
  has_other = walk_has other (walk one [])

  distinct : (i k : ℕ) → i < length (gates_of (walk other (walk one []))) → k < length (gates_of (walk other (walk one [])))
      → meaning (gates_of (walk other (walk one []))) i ≡ meaning (gates_of (walk other (walk one []))) k → i ≡ k
  distinct i k at_i at_k e =
      let sized = length-map walked (gate_of walked) in
      let same : signal_at walked i ≡ signal_at walked k =
      sym (ap (λ (l : List Signal). signal_at l i) signals_of_walk) ∙ e ∙ ap (λ (l : List Signal). signal_at l k) signals_of_walk in
      elim (cases_lt i k) [
        | inl lt ↦ absurd (apart [] walked i k goes lt (omega (arith, sized)) same)
        | inr ge ↦ elim (cases_lt k i) [
          | inl lt ↦ absurd (apart [] walked k i goes lt (omega (arith, sized)) (sym same))
          | inr le ↦ omega arith
        ]
      ]

  pub walk_is : IsWalkOf one other (record {
    gates = gates_of (walk other (walk one []));
    rail1 = place_of (walk other (walk one [])) one;
    rail2 = place_of (walk other (walk one [])) other;
  })
  walk_is = record {
    signals = signals_of_walk;
    first = (stands one has_one).1;
    second = (stands other has_other).1;
    first_within = (stands one has_one).0;
    second_within = (stands other has_other).0;
    ordered = λ place h. reads_below walked [] walked place place refl goes (omega arith) h;
    distinct = distinct;
  }

-- for each number of pairs the stated tree is a tree over so many pairs
pub tree_is_made : TreeIsMade
tree_is_made pairs = walk_is (tree_rail1 pairs) (tree_rail2 pairs)
