-- Which faults are in a batch, and what is written of them.
use Rattle.std.proofs.Common.{◌≡◌, ℕ, ◌+◌, ◌<◌, ◌≤◌, false, List, length, set, take, get_or, refl, sym, ap, subst, ◌∙◌, inl, inr, All, arith, add-one}
use Rattle.std.specs.Prelude.{slice_index, slice_index_or}
use Rattle.std.proofs.lemmas.Bool.{cases_eq, both_ways}
use Rattle.std.proofs.lemmas.List.{get_or-map, get_or-set_same, get_or-set_other, get_or-take, length-take-le}
use Rattle.std.proofs.lemmas.List.Elements.{All-get_or, All-from_get_or}
use Rattle.fault_secure.specs.StuckAt.{StuckAt, NoFault, fault_cell}
use Rattle.tsc_net.specs.Fault.{stuck_at}
use Rattle.tsc_net.specs.declared.fault.Fault.{Fault}
use Rattle.tsc_net.specs.declared.fault.Fault.TheVariants.{Stem as TheStem}
use Rattle.fault_lanes.specs.Batch.{batch_fault}
use Rattle.fault_grades.specs.Grade.{grade_as, grade_at, is_left}
use Rattle.fault_grades.specs.Batch.{kept_fault, IsBatch, Adds, Passes, TakesUp, AreWritten}
use Rattle.fault_grades.specs.declared.grade.Grade.{Grade as Kept}
use Rattle.fault_grades.specs.declared.grade.Grade.TheVariants.{Unseen as Neither}

-- what stands past the faults of a list
abbrev pub blank : Fault
blank = TheStem (record { number = 0 }) false

-- no fault is listed before the first
pub batch_first : (faults : List StuckAt) (grades : List Kept) (from : ℕ) (places : List ℕ) (listed : List Fault) → length places ≡ 1023 → length listed ≡ 1023 → IsBatch faults grades from 0 from places listed
batch_first faults grades from places listed one two = record {
  few = omega arith;
  places_sized = one;
  listed_sized = two;
  before = λ at low. absurd (omega arith);
  same = λ at low. absurd (omega arith);
  whole = λ place above below left. absurd (omega arith);
}

more_added : (faults : List StuckAt) (grades : List Kept) (from count count' next : ℕ) (places : List ℕ) (listed : List Fault) (places' : List ℕ) (listed' : List Fault) → count < 1023 → length places' ≡ 1023 → length listed' ≡ 1023
    → Adds faults next count count' places listed places' listed' → IsBatch faults grades from count next places listed → IsBatch faults grades from count' (next + 1) places' listed'
more_added faults grades from count count' next places listed places' listed' room one two adds old = record {
  few = (let e = adds.one in omega arith);
  places_sized = one;
  listed_sized = two;
  before = λ at low. elim (cases_eq at count) [
    | inl last ↦ (let e : slice_index places' at ≡ next = ap (slice_index places') last ∙ adds.there in omega arith)
    | inr apart ↦ (let less : at < count = (let e = adds.one in omega (arith, apart)) in
        let h = old.before at less in
        let e = adds.kept at less in
        omega arith)
  ];
  same = λ at low. elim (cases_eq at count) [
    | inl last ↦ ap (kept_fault listed') last ∙ adds.same ∙ ap (λ (p : ℕ). slice_index_or faults p NoFault) (sym adds.there ∙ ap (slice_index places') (sym last))
    | inr apart ↦ (let less : at < count = (let e = adds.one in omega (arith, apart)) in
        adds.kept_faults at less ∙ old.same at less ∙ ap (λ (p : ℕ). slice_index_or faults p NoFault) (sym (adds.kept at less)))
  ];
  whole = λ place above below left. elim (cases_eq place next) [
    | inl last ↦ record { at = count; below = (let e = adds.one in omega arith); is = adds.there ∙ sym last }
    | inr apart ↦ (let among = old.whole place above (omega (arith, apart)) left in
        record { at = among.at; below = (let e = adds.one in let b = among.below in omega arith); is = adds.kept among.at among.below ∙ among.is })
  ];
}

more_passed : (faults : List StuckAt) (grades : List Kept) (from count count' next : ℕ) (places : List ℕ) (listed : List Fault) (places' : List ℕ) (listed' : List Fault)
    → Passes (slice_index_or grades next Neither) count count' places listed places' listed' → IsBatch faults grades from count next places listed → IsBatch faults grades from count' (next + 1) places' listed'
more_passed faults grades from count count' next places listed places' listed' passes old =
    subst (λ (n : ℕ). IsBatch faults grades from n (next + 1) places' listed') (sym passes.none)
    (subst (λ (ps : List ℕ). IsBatch faults grades from count (next + 1) ps listed') (sym passes.same_places)
    (subst (λ (ls : List Fault). IsBatch faults grades from count (next + 1) places ls) (sym passes.same_faults)
    (record {
      few = old.few;
      places_sized = old.places_sized;
      listed_sized = old.listed_sized;
      before = λ at low. (let h = old.before at low in omega arith);
      same = old.same;
      whole = λ place above below left. elim (cases_eq place next) [
        | inl last ↦ absurd (both_ways (is_left (slice_index_or grades next Neither)) passes.decided (ap (λ (p : ℕ). is_left (slice_index_or grades p Neither)) (sym last) ∙ left))
        | inr apart ↦ old.whole place above (omega (arith, apart)) left
      ];
    })))

-- one place more
pub batch_more : (faults : List StuckAt) (grades : List Kept) (from count count' next : ℕ) (places : List ℕ) (listed : List Fault) (places' : List ℕ) (listed' : List Fault) (grade : Kept) → grade ≡ slice_index_or grades next Neither
    → count < 1023 → length places' ≡ 1023 → length listed' ≡ 1023 → TakesUp faults grade next count count' places listed places' listed' → IsBatch faults grades from count next places listed → IsBatch faults grades from count' (next + 1) places' listed'
batch_more faults grades from count count' next places listed places' listed' grade is room one two taken old = elim taken [
  | inl adds ↦ more_added faults grades from count count' next places listed places' listed' room one two adds old
  | inr passes ↦ more_passed faults grades from count count' next places listed places' listed'
      (subst (λ (g : Kept). Passes g count count' places listed places' listed') is passes) old
]

-- ---- what is written

pub written_first : (places : List ℕ) (marks grades : List Kept) → AreWritten places marks 0 grades grades
written_first places marks grades = λ place low. inr (record { apart = λ at less e. absurd (omega arith); same = refl })

pub written_more : (places : List ℕ) (marks : List Kept) (i : ℕ) (old new : List Kept) (place : ℕ) (mark : Kept) → length new ≡ length old → slice_index places i ≡ place → mark ≡ slice_index_or marks (i + 1) Neither
    → AreWritten places marks i old new → AreWritten places marks (i + 1) old (set new place mark)
written_more places marks i old new place mark sized there is before = λ p low. elim (cases_eq p place) [
  | inl here ↦ inl (record {
    at = i;
    below = omega arith;
    is = there ∙ sym here;
    marked = ap (λ (q : ℕ). grade_at (set new place mark) q) here
        ∙ ap grade_as (get_or-set_same new place mark Neither (subst (λ (q : ℕ). q < length new) here (omega arith))) ∙ ap grade_as is;
  })
  | inr apart ↦ (let same : grade_at (set new place mark) p ≡ grade_at new p = ap grade_as (get_or-set_other new place p mark Neither apart) in
      elim (before p low) [
        | inl takes ↦ inl (record { at = takes.at; below = (let b = takes.below in omega arith); is = takes.is; marked = same ∙ takes.marked })
        | inr stays ↦ inr (record {
          apart = λ at less e. elim (cases_eq at i) [
            | inl last ↦ apart (sym e ∙ ap (slice_index places) last ∙ there)
            | inr other ↦ stays.apart at (omega (arith, other)) e
          ];
          same = same ∙ stays.same;
        })
      ])
]

-- ---- the places of a batch

pub taken_few : (faults : List StuckAt) (grade : Kept) (place count count' : ℕ) (places : List ℕ) (listed : List Fault) (places' : List ℕ) (listed' : List Fault) → TakesUp faults grade place count count' places listed places' listed' → count' ≤ count + 1
taken_few faults grade place count count' places listed places' listed' taken = elim taken [
  | inl adds ↦ (let e = adds.one in omega arith)
  | inr passes ↦ (let e = passes.none in omega arith)
]

length-batch : (count : ℕ) (places : List ℕ) → count ≤ 1023 → length places ≡ 1023 → length (take count places) ≡ count
length-batch count places few sized = length-take-le count places (omega arith)

-- they are places of the list
pub batch_within : (faults : List StuckAt) (grades : List Kept) (from count next many : ℕ) (places : List ℕ) (listed : List Fault) → next ≤ many → IsBatch faults grades from count next places listed → All (λ place. place < many) (take count places)
batch_within faults grades from count next many places listed most is =
    All-from_get_or (λ place. place < many) (take count places) 0 (λ at low.
    (let below : at < count = (let e = length-batch count places is.few is.places_sized in omega arith) in
    let h = is.before at below in
    let same : get_or (take count places) at 0 ≡ get_or places at 0 = get_or-take count places at 0 below in
    omega arith))

-- and its faults are at nets
pub batch_cells : (faults : List StuckAt) (grades : List Kept) (from count next bound : ℕ) (places : List ℕ) (listed : List Fault) → next ≤ length faults → All (λ fault. fault_cell fault < bound) faults → IsBatch faults grades from count next places listed
    → (at : ℕ) → at < count → fault_cell (kept_fault listed at) < bound
batch_cells faults grades from count next bound places listed most cells is at below =
    let h = is.before at below in
    subst (λ (f : StuckAt). fault_cell f < bound) (sym (is.same at below))
    (All-get_or (λ fault. fault_cell fault < bound) faults (slice_index places at) NoFault (omega arith) cells)

-- what was written of the places that are listed
pub written_as : (slice places : List ℕ) (marks : List Kept) (count : ℕ) (old new : List Kept) → slice ≡ take count places → count ≤ 1023 → length places ≡ 1023 → AreWritten slice marks (length slice) old new → AreWritten (take count places) marks count old new
written_as slice places marks count old new is few sized written =
    subst (λ (n : ℕ). AreWritten (take count places) marks n old new) (length-batch count places few sized)
    (subst (λ (list : List ℕ). AreWritten list marks (length list) old new) is written)

-- ---- the lanes of a batch

-- its faults are at nets
pub loaded_cells : (faults : List Fault) (count bound : ℕ) → count ≤ length faults → ((at : ℕ) → at < count → fault_cell (kept_fault faults at) < bound) → All (λ fault. fault_cell (stuck_at fault) < bound) (take count faults)
loaded_cells faults count bound room cells =
    All-from_get_or (λ (fault : Fault). fault_cell (stuck_at fault) < bound) (take count faults) blank (λ at low.
    (let below : at < count = (let e = length-take-le count faults room in omega arith) in
    subst (λ (f : Fault). fault_cell (stuck_at f) < bound) (sym (get_or-take count faults at blank below)) (cells at below)))

-- each lane after lane 0 has its fault
pub lane_is : (faults : List Fault) (count at : ℕ) → count ≤ length faults → at < count → batch_fault (take count faults) (at + 1) ≡ kept_fault faults at
lane_is faults count at room below =
    let inside : at < length (take count faults) = (let e = length-take-le count faults room in omega arith) in
    ap (batch_fault (take count faults)) (add-one at) ∙ get_or-map stuck_at (take count faults) at blank NoFault inside ∙ ap stuck_at (get_or-take count faults at blank below)
