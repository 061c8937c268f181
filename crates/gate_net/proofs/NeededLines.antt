-- Marks of lines that are needed: one more, what a gate reads, and all from the last line to the first.
use Rattle.std.proofs.Common.{◌≡◌, ℕ, ◌+◌, ◌<◌, ◌≤◌, ◌⊎◌, inl, inr, Bool, true, false, List, [], ◌∷◌, ◌++◌, length, take, get_or, set, All, Contains, IsTrue, refl, sym, ◌∙◌, subst, arith, true≢false}
use Rattle.std.proofs.lemmas.Bool.{cases_lt}
use Rattle.std.proofs.lemmas.List.{get_or-set_same, get_or-set_other, length-set, take_more, take_all}
use Rattle.std.proofs.lemmas.List.Elements.{All-nil, All-cons, All-contains, Contains-append_cases, Contains-get_or}
use Rattle.fault_secure.specs.Circuit.{bit}
use Rattle.gate_net.specs.declared.line.Line.{Line}
use Rattle.gate_net.specs.declared.gate.Gate.{Gate}
use Rattle.gate_net.specs.declared.gate.Gate.TheVariants as gate
use Rattle.gate_net.specs.Gates.{GateNetwork, IsHashed, AreLines, ReadsBelow, gate_at}
use Rattle.gate_net.specs.NodesOfLines.{operands}
use Rattle.gate_net.specs.Needed.{IsNeeded, MarksNeeded, MarksOperands}
use Rattle.gate_net.specs.Needed.IsNeeded.{itself, through}

-- one mark more
marked : (marks : List Bool) (j : ℕ) → j < length marks → IsTrue (bit (set marks j true) j)
marked marks j lt = get_or-set_same marks j true false lt

by_place : (C : Type 0) (j n : ℕ) → ((j ≡ n) → C) → ((n ≡ j → ⊥) → C) → C
by_place C j n same other = elim (cases_lt n j) [
  | inl low ↦ other (λ (e : n ≡ j). omega arith)
  | inr high ↦ elim (cases_lt j n) [
    | inl low ↦ other (λ (e : n ≡ j). omega arith)
    | inr le ↦ same (omega arith)
  ]
]

pub keeps_mark : (marks : List Bool) (j n : ℕ) → j < length marks → IsTrue (bit marks n) → IsTrue (bit (set marks j true) n)
keeps_mark marks j n lt h = by_place (IsTrue (bit (set marks j true) n)) j n
    (λ same. subst (λ (m : ℕ). IsTrue (bit (set marks j true) m)) same (marked marks j lt))
    (λ apart. get_or-set_other marks j n true false apart ∙ h)

pub only_mark : (marks : List Bool) (j n : ℕ) → IsTrue (bit (set marks j true) n) → IsTrue (bit marks n) ⊎ (j ≡ n)
only_mark marks j n h = by_place (IsTrue (bit marks n) ⊎ (j ≡ n)) j n (λ same. inr same) (λ apart. inl (sym (get_or-set_other marks j n true false apart) ∙ h))

-- the wanted lines, one more
pub record MarksWanted (G : GateNetwork) (wanted first : List Line) (marks : List Bool) : Type 0 where
  pub sized : length marks ≡ length G.gates
  pub sound : (n : ℕ) → IsTrue (bit marks n) → IsNeeded G wanted n
  pub rooted : (line : Line) → Contains first line → IsTrue (bit marks line.number)

pub none-wanted : (G : GateNetwork) (wanted : List Line) (marks : List Bool) → length marks ≡ length G.gates → ((n : ℕ) → bit marks n ≡ false) → MarksWanted G wanted (take 0 wanted) marks
none-wanted G wanted marks sized none = record {
  sized = sized;
  sound = λ n h. absurd (true≢false (sym h ∙ none n));
  rooted = λ line c. absurd (let lt = c.1 in omega (arith, lt));
}

pub wanted-more : (G : GateNetwork) (wanted : List Line) (marks new : List Bool) (i : ℕ) (d : Line) → i < length wanted → AreLines G wanted → MarksWanted G wanted (take i wanted) marks
    → new ≡ set marks (get_or wanted i d).number true → MarksWanted G wanted (take (i + 1) wanted) new
wanted-more G wanted marks new i d lt lines before is = subst (MarksWanted G wanted (take (i + 1) wanted)) (sym is) (record {
  sized = length-set marks line.number true ∙ before.sized;
  sound = sound;
  rooted = λ other c. rooted other (subst (λ (list : List Line). Contains list other) (take_more wanted i d lt) c);
})
  where
    line : Line
    line = get_or wanted i d

    within : line.number < length marks
    within = let below = lines i d lt in omega (arith, below, before.sized)

    sound : (n : ℕ) → IsTrue (bit (set marks line.number true) n) → IsNeeded G wanted n
    sound n h = elim (only_mark marks line.number n h) [
      | inl old ↦ before.sound n old
      | inr same ↦ subst (IsNeeded G wanted) same (itself line (Contains-get_or wanted i d lt))
    ]

    last : (other : Line) → Contains (line ∷ []) other → IsTrue (bit (set marks line.number true) other.number)
    last other c = subst (λ (l : Line). IsTrue (bit (set marks line.number true) l.number)) (only (line ∷ []) other c) (marked marks line.number within)
      where
        only : (list : List Line) (other : Line) → Contains (line ∷ []) other → line ≡ other
        only list other c = All-contains (λ (l : Line). line ≡ l) (line ∷ []) other (All-cons (λ (l : Line). line ≡ l) line [] refl (All-nil (λ (l : Line). line ≡ l))) c

    rooted : (other : Line) → Contains (take i wanted ++ line ∷ []) other → IsTrue (bit (set marks line.number true) other.number)
    rooted other c = elim (Contains-append_cases (take i wanted) (line ∷ []) other c) [
      | inl old ↦ keeps_mark marks line.number other.number within (before.rooted other old)
      | inr new ↦ last other new
    ]

pub wanted-all : (G : GateNetwork) (wanted : List Line) (marks : List Bool) (i : ℕ) → length wanted ≤ i → MarksWanted G wanted (take i wanted) marks → MarksNeeded G wanted (length G.gates) marks
wanted-all G wanted marks i through_all h = record {
  sized = h.sized;
  sound = h.sound;
  rooted = λ line c. h.rooted line (subst (λ (list : List Line). Contains list line) (sym (take_all i wanted through_all)) c);
  closed = λ n line low lt mark c. absurd (omega arith);
}

-- what a gate reads is below it
pub operand-below : (G : GateNetwork) (n : ℕ) (g : Gate) (line : Line) → ReadsBelow G n g → Contains (operands g) line → line.number < n
operand-below G n g line reads c = All-contains (λ (l : Line). l.number < n) (operands g) line (by g reads) c
  where
    P : Line → Type 0
    P l = l.number < n

    none : All (λ (l : Line). l.number < n) []
    none = All-nil (λ (l : Line). l.number < n)

    two : (a b : Line) → a.number < n → b.number < n → All (λ (l : Line). l.number < n) (a ∷ (b ∷ []))
    two a b x y = All-cons (λ (l : Line). l.number < n) a (b ∷ []) x (All-cons (λ (l : Line). l.number < n) b [] y none)

    by : (g : Gate) → ReadsBelow G n g → All (λ (l : Line). l.number < n) (operands g)
    by gate.Zero r = none
    by gate.One r = none
    by (gate.Input i) r = none
    by (gate.State i) r = none
    by (gate.Not a) r = All-cons (λ (l : Line). l.number < n) a [] r none
    by (gate.And a b) r = two a b r.0 r.1
    by (gate.Or a b) r = two a b r.0 r.1
    by (gate.Xor a b) r = two a b r.0 r.1

-- a line further down
pub marks-more : (G : GateNetwork) (wanted : List Line) (old new : List Bool) (left place : ℕ) → left ≡ place + 1 → place < length G.gates → IsHashed G → MarksNeeded G wanted left old → MarksOperands G place old new
    → MarksNeeded G wanted place new
marks-more G wanted old new left place is inside sound before step = record {
  sized = step.sized ∙ before.sized;
  sound = λ n h. elim (step.sound n h) [
    | inl was ↦ before.sound n was
    | inr read ↦ subst (IsNeeded G wanted) read.1.2 (through place read.1.0 inside (before.sound place read.0) read.1.1)
  ];
  rooted = λ line c. step.keeps line.number (before.rooted line c);
  closed = λ n line low lt mark c. by_place (IsTrue (bit new line.number)) place n
      (λ same. step.all (here mark same) line (subst (λ (m : ℕ). Contains (operands (gate_at G.gates m)) line) (sym same) c))
      (λ apart. step.keeps line.number (before.closed n line (omega (arith, is, low, apart)) lt (there n mark (omega (arith, low, apart))) c));
}
  where
    here : {n : ℕ} → IsTrue (bit new n) → place ≡ n → IsTrue (bit old place)
    here {n} mark same = elim (step.sound place (subst (λ (m : ℕ). IsTrue (bit new m)) (sym same) mark)) [
      | inl was ↦ was
      | inr read ↦ read.0
    ]

    there : (n : ℕ) → IsTrue (bit new n) → place < n → IsTrue (bit old n)
    there n mark past = elim (step.sound n mark) [
      | inl was ↦ was
      | inr read ↦ absurd (let low = operand-below G place (gate_at G.gates place) read.1.0 (sound.ordered place inside) read.1.1 in omega (arith, low, past, read.1.2))
    ]
