-- Failing cells beside stuck-at faults: a held stem, one run, the listed faults.
use Rattle.std.proofs.Common.{◌≡◌, ℕ, zero, suc, ◌+◌, ◌-◌, ◌<◌, ◌≤◌, ◌==◌, Bool, true, false, ◌&&◌, if◌then◌else◌, nat_lt, nat_le, List, [], ◌∷◌, length, IsTrue, refl, sym, ap, ap₂, subst, ◌∙◌, inl, inr, arith, eq-eqb}
use Rattle.std.proofs.lemmas.Bool.{ne_eqb, cond-true, cond-false, and_parts, leb-true, ltb-true, lt-ltb, cases_eq, cases_lt}
use Rattle.tsc_cover.specs.Cover.{truth}
use Rattle.fault_secure.specs.Circuit.{Circuit, LatchOf, node, latch_net, node_net, pin_net, nets, bit}
use Rattle.fault_secure.specs.StuckAt.{StuckAt, NoFault, Stem, Pin, on_stem, pins_of, is_listed, present, fault_cell}
use Rattle.fault_secure.specs.Settle.{Settles, Acyclic, node_value}
use Rattle.fault_secure.specs.Run.{init_state, next_state, latch_reads, RunsFrom}
use Rattle.fault_secure.specs.OneRun.{HasOneValuation}
use Rattle.fault_secure.specs.FailingCell.{IsCell, SettlesBut, RunsButFrom, bits_over}
use Rattle.fault_secure.proofs.Agree.{TreatAlike, reads_same, agree}
use Rattle.fault_secure.proofs.OneRun.{one_valuation}
use Rattle.fault_secure.proofs.Places.{Place, place_of}
use Rattle.fault_secure.proofs.Places.Place.{Input, Latch, Node, Beyond}
use Rattle.structure_laws.specs.FailingCell.{CellsSettleAsHeldStems, OneRunButACell, ListedFaultsSettleBut, ListedFaultsAreFailingCells}

-- ---- a fault holds nothing but at its net

-- at other nets than this one the fault holds no stem and no pin
abbrev pub IsAt : StuckAt → ℕ → Type 0
IsAt f cell = (net : ℕ) → (net ≡ cell → ⊥) → TreatAlike f NoFault net

stem_at : (cell : ℕ) (held : Bool) → IsAt (Stem cell held) cell
stem_at cell held net off = record { stem = λ b. cond-false (cell == net) held b (ne_eqb cell net (λ e. off (sym e))); pin = λ k b. refl }

-- at other nets than that of its cell a fault holds no stem and no pin
pub fault_at : (f : StuckAt) → IsAt f (fault_cell f)
fault_at NoFault net off = record { stem = λ b. refl; pin = λ k b. refl }
fault_at (Stem cell held) net off = stem_at cell held net off
fault_at (Pin cell index held) net off = record {
  stem = λ b. refl;
  pin = λ k b. cond-false ((cell == net) && (index == k)) held b (ap (λ z. z && (index == k)) (ne_eqb cell net (λ e. off (sym e))));
}

present_at : (here : Bool) (f : StuckAt) → IsAt (present here f) (fault_cell f)
present_at true f net off = fault_at f net off
present_at false f net off = record { stem = λ b. refl; pin = λ k b. refl }

-- elsewhere a node has its value
pub value-off : (N : Circuit) (f : StuckAt) (cell j : ℕ) (v : List Bool) → IsAt f cell → (node_net N j ≡ cell → ⊥) → node_value N f v j ≡ node_value N NoFault v j
value-off N f cell j v at off =
    ap (truth (node N j).cover) (reads_same f NoFault v v (node_net N j) 0 (node N j).reads
    (λ i k l. (at (node_net N j) off).pin k (bit v (pin_net N j i))))

-- what settles under a fault at a cell's net settles at every other net, whatever the cell's own state bit is
settles_but : (N : Circuit) (f : StuckAt) (cell : ℕ) (x s t : ℕ → Bool) (v : List Bool) → IsAt f cell → N.inputs ≤ cell
    → ((l : ℕ) → l < length N.latches → (latch_net N l ≡ cell → ⊥) → t l ≡ s l) → Settles N f x t v → SettlesBut N cell x s v
settles_but N f cell x s t v at no_input same h = record {
  sized = h.sized;
  inputs = λ i l. h.inputs i l ∙ (at i (λ e. omega arith)).stem (x i);
  latches = λ l k off. h.latches l k ∙ (at (latch_net N l) off).stem (t l) ∙ same l k off;
  nodes = λ j l off. h.nodes j l ∙ (at (node_net N j) off).stem (node_value N f v j) ∙ value-off N f cell j v at off;
}

-- without a fault it settles at all nets
pub working : (N : Circuit) (cell : ℕ) (x s : ℕ → Bool) (v : List Bool) → Settles N NoFault x s v → SettlesBut N cell x s v
working N cell x s v h = record { sized = h.sized; inputs = h.inputs; latches = λ l k off. h.latches l k; nodes = λ j l off. h.nodes j l }

-- ---- a held stem

-- a net has the held bit where it is the cell's
held_or : (cell : ℕ) (v : List Bool) (net : ℕ) (b : Bool) → ((net ≡ cell → ⊥) → bit v net ≡ b) → bit v net ≡ on_stem (Stem cell (bit v cell)) net b
held_or cell v net b other = elim (cases_eq net cell) [
  | inl here ↦ ap (bit v) here ∙ sym (cond-true (cell == net) (bit v cell) b (eq-eqb cell net (sym here)))
  | inr off ↦ other off ∙ sym ((stem_at cell (bit v cell) net off).stem b)
]

as_held_stem : (N : Circuit) (cell : ℕ) (x s : ℕ → Bool) (v : List Bool) → SettlesBut N cell x s v → Settles N (Stem cell (bit v cell)) x s v
as_held_stem N cell x s v h = record {
  sized = h.sized;
  inputs = λ i l. held_or cell v i (x i) (λ off. h.inputs i l);
  latches = λ l k. held_or cell v (latch_net N l) (s l) (h.latches l k);
  nodes = λ j l. held_or cell v (node_net N j) (node_value N (Stem cell (bit v cell)) v j)
      (λ off. h.nodes j l off ∙ sym (value-off N (Stem cell (bit v cell)) cell j v (stem_at cell (bit v cell)) off));
}

-- a step with a failing cell is one in which the cell's stem is held at the bit that it gives
pub cells_settle_as_held_stems : CellsSettleAsHeldStems
cells_settle_as_held_stems N cell x s v is =
    (as_held_stem N cell x s v, settles_but N (Stem cell (bit v cell)) cell x s s v (stem_at cell (bit v cell)) is.no_input (λ l k off. refl))

-- two valuations agree at the nets of a set that is closed under fan-in and doesn't have the cell's
pub agree_but : (N : Circuit) (cell : ℕ) (x s : ℕ → Bool) (v u : List Bool) → SettlesBut N cell x s v → SettlesBut N cell x s u
    → (Seen : ℕ → Type 0) → ((j pin : ℕ) → j < length N.nodes → pin < length (node N j).reads → Seen (node_net N j) → Seen (pin_net N j pin))
    → ((net : ℕ) → net < nets N → Seen net → net ≡ cell → ⊥) → Acyclic N → (net : ℕ) → Seen net → bit v net ≡ bit u net
agree_but N cell x s v u first second Seen closed free =
    agree N (Stem cell (bit v cell)) (Stem cell (bit u cell)) x x s s v u (as_held_stem N cell x s v first) (as_held_stem N cell x s u second) Seen closed
    (λ net h seen. record {
      stem = λ b. (stem_at cell (bit v cell) net (free net h seen)).stem b ∙ sym ((stem_at cell (bit u cell) net (free net h seen)).stem b);
      pin = λ k b. refl;
    })
    (λ i h. refl) (λ l h seen. refl)

-- ---- one run

-- a cell's held stem has the held bit
stem_held : (N : Circuit) (cell : ℕ) (held : Bool) (x s : ℕ → Bool) (v : List Bool) → IsCell N cell → Settles N (Stem cell held) x s v → bit v cell ≡ held
stem_held N cell held x s v is h = at_place (place_of N cell)
  where
    here : (net : ℕ) (b : Bool) → cell ≡ net → bit v net ≡ on_stem (Stem cell held) net b → bit v cell ≡ held
    here net b e k = ap (bit v) e ∙ k ∙ cond-true (cell == net) held b (eq-eqb cell net e)

    at_place : Place N cell → bit v cell ≡ held
    at_place (Input l) = absurd (let k = is.no_input in omega arith)
    at_place (Latch l k e) = here (latch_net N l) (s l) e (h.latches l k)
    at_place (Node j k e) = here (node_net N j) (node_value N (Stem cell held) v j) e (h.nodes j k)
    at_place (Beyond l) = absurd (let k = is.inside in omega arith)

module _ (N : Circuit) (cell : ℕ) (acyclic : Acyclic N) (is : IsCell N cell) where
  -- exactly one run from these state bits on
  abbrev OneFrom : List Bool → List Bool → List (List Bool) → Type 0
  OneFrom s bits xs = (run : List (List Bool)) × RunsButFrom N cell s xs run × (bits_over run cell ≡ bits)
      × ((vs : List (List Bool)) → RunsButFrom N cell s xs vs → bits_over vs cell ≡ bits → vs ≡ run)

  none_more : (s : List Bool) (vs : List (List Bool)) → RunsButFrom N cell s [] vs → vs ≡ []
  none_more s [] h = refl
  none_more s (v ∷ vs) h = absurd h

  one_more : (s : List Bool) (b : Bool) (x bits : List Bool) (xs : List (List Bool)) (first : HasOneValuation N (Stem cell b) (bit x) (bit s))
      → OneFrom (next_state N NoFault first.valuation) bits xs → OneFrom s (b ∷ bits) (x ∷ xs)
  one_more s b x bits xs first rest = (
    first.valuation ∷ rest.0,
    (settles_but N (Stem cell b) cell (bit x) (bit s) (bit s) first.valuation (stem_at cell b) is.no_input (λ l k off. refl) first.settles, rest.1),
    ap₂ ◌∷◌ (stem_held N cell b (bit x) (bit s) first.valuation is first.settles) rest.2,
    only,
  )
    where
      only : (vs : List (List Bool)) → RunsButFrom N cell s (x ∷ xs) vs → bits_over vs cell ≡ b ∷ bits → vs ≡ first.valuation ∷ rest.0
      only [] h g = absurd h
      only (v ∷ vs) h g =
          let gives : bit v cell ≡ b = cc in
          let is_first = first.only v (subst (λ z. Settles N (Stem cell z) (bit x) (bit s) v) gives (as_held_stem N cell (bit x) (bit s) v h.0)) in
          ap₂ ◌∷◌ is_first (rest.3 vs (subst (λ z. RunsButFrom N cell (next_state N NoFault z) xs vs) is_first h.1) (cc))

  one_from : (s bits : List Bool) (xs : List (List Bool)) → length bits ≡ length xs → OneFrom s bits xs
  one_from s [] [] e = ([], tt, refl, λ vs h g. none_more s vs h)
  one_from s [] (x ∷ xs) e = absurd (omega arith)
  one_from s (b ∷ bits) [] e = absurd (omega arith)
  one_from s (b ∷ bits) (x ∷ xs) e =
      let first = one_valuation N (Stem cell b) (bit x) (bit s) acyclic in
      one_more s b x bits xs first (one_from (next_state N NoFault first.valuation) bits xs (omega arith))

-- in an acyclic circuit there is exactly one run for whatever bits a failing cell gives
pub one_run_but_a_cell : OneRunButACell
one_run_but_a_cell N cell bits xs acyclic is e =
    let one = one_from N cell acyclic is (init_state N) bits xs e in
    record { run = one.0; runs = one.1; gives = one.2; only = one.3 }

-- ---- the listed faults

-- a driver that has a pin is no input
pub pins_of_input : (N : Circuit) (driver index : ℕ) → nat_lt index (pins_of N driver) ≡ true → N.inputs ≤ driver
pins_of_input N driver index h = elim (cases_lt driver N.inputs) [
  | inl below ↦ absurd (omega (arith, ltb-true index 0 (subst (λ z. nat_lt index (if z then 0 else if nat_lt driver (N.inputs + length N.latches) then 1 else length (node N (driver - (N.inputs + length N.latches))).reads) ≡ true) (lt-ltb driver N.inputs below) h)))
  | inr above ↦ above
]

listed_at : (N : Circuit) (f : StuckAt) → IsTrue (is_listed N f) → IsCell N (fault_cell f)
listed_at N NoFault listed = absurd (cc)
listed_at N (Stem net held) listed =
    let parts = and_parts (nat_le N.inputs net) (nat_lt net (nets N)) listed in
    record { no_input = leb-true N.inputs net parts.0; inside = ltb-true net (nets N) parts.1 }
listed_at N (Pin driver index held) listed =
    let parts = and_parts (nat_lt driver (nets N)) (nat_lt index (pins_of N driver)) listed in
    record { no_input = pins_of_input N driver index parts.1; inside = ltb-true driver (nets N) parts.0 }

-- each latch but the cell next holds what it does without the fault
next_same : (N : Circuit) (f : StuckAt) (cell : ℕ) (v : List Bool) → IsAt f cell → (k : ℕ) (ls : List LatchOf) (l : ℕ) → l < length ls
    → (latch_net N (k + l) ≡ cell → ⊥) → bit (latch_reads N f v k ls) l ≡ bit (latch_reads N NoFault v k ls) l
next_same N f cell v at k [] l h off = absurd (omega arith)
next_same N f cell v at k (first ∷ ls) zero h off = (at (latch_net N k) (λ e. off (omega arith))).pin 0 (bit v first.reads)
next_same N f cell v at k (first ∷ ls) (suc l) h off = next_same N f cell v at (suc k) ls l (omega arith) (λ e. off (omega arith))

runs_but : (N : Circuit) (f : StuckAt) → N.inputs ≤ fault_cell f → (w : List Bool) (xs us : List (List Bool)) (s t : List Bool)
    → ((l : ℕ) → l < length N.latches → (latch_net N l ≡ fault_cell f → ⊥) → bit t l ≡ bit s l) → RunsFrom N f t w xs us → RunsButFrom N (fault_cell f) s xs us
runs_but N f no_input [] [] [] s t same h = tt
runs_but N f no_input [] [] (u ∷ us) s t same h = absurd h
runs_but N f no_input [] (x ∷ xs) us s t same h = absurd h
runs_but N f no_input (here ∷ w) [] us s t same h = absurd h
runs_but N f no_input (here ∷ w) (x ∷ xs) [] s t same h = absurd h
runs_but N f no_input (here ∷ w) (x ∷ xs) (u ∷ us) s t same h = (
  settles_but N (present here f) (fault_cell f) (bit x) (bit s) (bit t) u (present_at here f) no_input same h.0,
  runs_but N f no_input w xs us (next_state N NoFault u) (next_state N (present here f) u)
      (λ l k off. next_same N (present here f) (fault_cell f) u (present_at here f) 0 N.latches l k (λ e. off (omega arith))) h.1,
)

-- a step with a listed fault is one with its cell failing, whatever state bit a latch that fails had
pub listed_faults_settle_but : ListedFaultsSettleBut
listed_faults_settle_but N f x s t v listed same h =
    let is = listed_at N f listed in
    (is, settles_but N f (fault_cell f) x s t v (fault_at f) is.no_input same h)

-- a run with a listed fault, present at any steps, is one with a failing cell
pub listed_faults_are_failing_cells : ListedFaultsAreFailingCells
listed_faults_are_failing_cells N f w xs us listed h =
    let is = listed_at N f listed in
    record { cell = fault_cell f; is_cell = is; runs = runs_but N f is.no_input w xs us (init_state N) (init_state N) (λ l k off. refl) h }
