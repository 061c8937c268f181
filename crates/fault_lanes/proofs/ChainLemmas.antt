-- Chains of lanes: none, one lane more, and all lanes.
use Rattle.std.proofs.Common.{◌≡◌, ◌≢◌, ℕ, zero, suc, ◌+◌, ◌<◌, ◌≤◌, true, false, eqb, List, length, set, replicate, get_or, Option, Some, None, refl, sym, ap, ◌∙◌, subst, arith, true≢false, eq-eqb, lit<}
use Rattle.std.specs.Prelude.{slice_index}
use Rattle.std.proofs.Math.Logic.{⊎_elim}
use Rattle.std.proofs.lemmas.Bool.{cases_lt, cases_eq, ne_eqb}
use Rattle.std.proofs.lemmas.List.{get_or-set_same, get_or-set_other, length-set, length-replicate}
use Rattle.fault_secure.specs.StuckAt.{NoFault, fault_cell}
use Rattle.tsc_net.specs.Fault.{stuck_at, stuck_at_or_none}
use Rattle.tsc_net.specs.declared.fault.Fault.{Fault}
use Rattle.tsc_net.specs.declared.fault.Fault.TheVariants.{Stem as TheStem, Pin as ThePin}
use Rattle.lane_sim.specs.Again.{is_at}
use Rattle.fault_lanes.specs.Batch.{lane_fault}
use Rattle.fault_lanes.specs.Chains.{IsLastAt, LeadThrough}
use Rattle.fault_lanes.specs.declared.chains.Chains.{Chains}

-- a fault is at its cell's net
at_cell : (f : Fault) (net : ℕ) → is_at (stuck_at f) net ≡ eqb (fault_cell (stuck_at f)) net
at_cell (TheStem at held) net = refl
at_cell (ThePin driver index held) net = refl

at_its_cell : (f : Fault) (net : ℕ) → net ≡ fault_cell (stuck_at f) → is_at (stuck_at f) net ≡ true
at_its_cell f net is = at_cell f net ∙ eq-eqb (fault_cell (stuck_at f)) net (sym is)

at_no_other : (f : Fault) (net : ℕ) → net ≢ fault_cell (stuck_at f) → is_at (stuck_at f) net ≡ false
at_no_other f net apart = at_cell f net ∙ ne_eqb (fault_cell (stuck_at f)) net (λ same. apart (sym same))

-- only the lanes below the limit are looked at
last_along : (faults others : List (Option Fault)) (net limit lane : ℕ) → ((p : ℕ) → p < limit → lane_fault others p ≡ lane_fault faults p)
    → IsLastAt faults net limit lane → IsLastAt others net limit lane
last_along faults others net limit lane same is =
    let below = is.below in
    record {
      below = below;
      at = λ some. ap (λ f. is_at f net) (same lane below) ∙ is.at some;
      last = λ later above inside. ap (λ f. is_at f net) (same later inside) ∙ is.last later above inside;
    }

-- a limit that is greater, where the lanes from the old one on have no fault at the net
last_beyond : (faults : List (Option Fault)) (net limit most lane : ℕ) → limit ≤ most → ((p : ℕ) → limit ≤ p → p < most → is_at (lane_fault faults p) net ≡ false)
    → IsLastAt faults net limit lane → IsLastAt faults net most lane
last_beyond faults net limit most lane high none is =
    let below = is.below in
    record {
      below = omega arith;
      at = is.at;
      last = λ later above inside. ⊎_elim (λ less. is.last later above less) (λ from. none later from inside) (cases_lt later limit);
    }

-- ---- no lane has a fault

all_same : {X : Type 0} (n i : ℕ) (x : X) → get_or (replicate n x) i x ≡ x
all_same zero i x = refl
all_same (suc n) zero x = refl
all_same (suc n) (suc i) x = all_same n i x

pub none_there : (faults : List (Option Fault)) (n lane : ℕ) → faults ≡ replicate n None → lane_fault faults lane ≡ NoFault
none_there faults n lane is = ap (λ l. lane_fault l lane) is ∙ ap stuck_at_or_none (all_same n lane None)

pub lead_through_none : (nets : ℕ) (chains : Chains) → chains.faults.items ≡ replicate 1024 None → chains.older.items ≡ replicate 1024 0 → chains.newest.items ≡ replicate nets 0
    → LeadThrough nets 1024 chains
lead_through_none nets chains faults older newest = record {
  faults_sized = ap length faults ∙ length-replicate {A = Option Fault} 1024 None;
  older_sized = ap length older ∙ length-replicate {A = ℕ} 1024 0;
  newest_sized = ap length newest ∙ length-replicate {A = ℕ} nets 0;
  first = none 0;
  rest = λ lane past. none lane;
  newest = λ net below. subst (IsLastAt chains.faults.items net 1024) (sym (ap (λ l. slice_index l net) newest ∙ all_same nets net 0))
      (record { below = lit< tt; at = λ some. absurd (omega arith); last = λ later above inside. ap (λ f. is_at f net) (none later) });
  older = λ net lane some few there. absurd (true≢false (sym there ∙ ap (λ f. is_at f net) (none lane)));
}
  where
    none : (lane : ℕ) → lane_fault chains.faults.items lane ≡ NoFault
    none lane = none_there chains.faults.items 1024 lane faults

-- ---- one lane more

module _ (nets lane : ℕ) (f : Fault) (old new : Chains) (some : 0 < lane) (few : lane < 1024)
    (lead : LeadThrough nets lane old)
    (faults_are : new.faults.items ≡ set old.faults.items lane (Some f))
    (newest_are : new.newest.items ≡ set old.newest.items (fault_cell (stuck_at f)) lane)
    (older_are : new.older.items ≡ set old.older.items lane (slice_index old.newest.items (fault_cell (stuck_at f))))
    (cell_within : fault_cell (stuck_at f) < nets) where
  abbrev cell : ℕ
  cell = fault_cell (stuck_at f)

  fault_here : lane_fault new.faults.items lane ≡ stuck_at f
  fault_here = ap (λ l. lane_fault l lane) faults_are ∙ ap stuck_at_or_none (get_or-set_same old.faults.items lane (Some f) None (omega (arith, lead.faults_sized)))

  fault_there : (p : ℕ) → p ≢ lane → lane_fault new.faults.items p ≡ lane_fault old.faults.items p
  fault_there p apart = ap (λ l. lane_fault l p) faults_are ∙ ap stuck_at_or_none (get_or-set_other old.faults.items lane p (Some f) None apart)

  below_same : (limit : ℕ) → limit ≤ lane → (p : ℕ) → p < limit → lane_fault new.faults.items p ≡ lane_fault old.faults.items p
  below_same limit low p inside = fault_there p (λ same. omega arith)

  -- the lane is the last one at its cell, and the one before it there is the last one below it
  newest_here : IsLastAt new.faults.items cell (lane + 1) lane
  newest_here = record {
    below = omega arith;
    at = λ is. ap (λ g. is_at g cell) fault_here ∙ at_its_cell f cell refl;
    last = λ later above inside. absurd (omega arith);
  }

  newest_there : (net : ℕ) → net < nets → net ≢ cell → IsLastAt new.faults.items net (lane + 1) (slice_index old.newest.items net)
  newest_there net below apart =
      last_beyond new.faults.items net lane (lane + 1) (slice_index old.newest.items net) (omega arith)
      (λ p from inside. ap (λ k. is_at (lane_fault new.faults.items k) net) (omega arith) ∙ ap (λ g. is_at g net) fault_here ∙ at_no_other f net apart)
      (last_along old.faults.items new.faults.items net lane (slice_index old.newest.items net) (below_same lane (omega arith)) (lead.newest net below))

  newest_each : (net : ℕ) → net < nets → IsLastAt new.faults.items net (lane + 1) (slice_index new.newest.items net)
  newest_each net below = ⊎_elim
      (λ is. subst (λ n. IsLastAt new.faults.items n (lane + 1) (slice_index new.newest.items n)) (sym is)
      (subst (IsLastAt new.faults.items cell (lane + 1))
      (sym (ap (λ l. slice_index l cell) newest_are ∙ get_or-set_same old.newest.items cell lane 0 (omega (arith, lead.newest_sized)))) newest_here))
      (λ apart. subst (IsLastAt new.faults.items net (lane + 1))
      (sym (ap (λ l. slice_index l net) newest_are ∙ get_or-set_other old.newest.items cell net lane 0 apart)) (newest_there net below apart))
      (cases_eq net cell)

  older_here : (net : ℕ) → is_at (lane_fault new.faults.items lane) net ≡ true → IsLastAt new.faults.items net lane (slice_index new.older.items lane)
  older_here net there = ⊎_elim
      (λ is. subst (IsLastAt new.faults.items net lane)
      (sym (ap (λ l. slice_index l lane) older_are ∙ get_or-set_same old.older.items lane (slice_index old.newest.items cell) 0 (omega (arith, lead.older_sized)) ∙ ap (slice_index old.newest.items) (sym is)))
      (last_along old.faults.items new.faults.items net lane (slice_index old.newest.items net) (below_same lane (omega arith)) (lead.newest net (omega (arith, is, cell_within)))))
      (λ apart. absurd (true≢false (sym there ∙ ap (λ g. is_at g net) fault_here ∙ at_no_other f net apart)))
      (cases_eq net cell)

  older_there : (net p : ℕ) → 0 < p → p < lane → is_at (lane_fault new.faults.items p) net ≡ true → IsLastAt new.faults.items net p (slice_index new.older.items p)
  older_there net p more less there =
      let same = fault_there p (λ same. omega arith) in
      subst (IsLastAt new.faults.items net p)
      (sym (ap (λ l. slice_index l p) older_are ∙ get_or-set_other old.older.items lane p (slice_index old.newest.items cell) 0 (λ same. omega arith)))
      (last_along old.faults.items new.faults.items net p (slice_index old.older.items p) (below_same p (omega arith))
      (lead.older net p more less (sym (ap (λ g. is_at g net) same) ∙ there)))

  pub lead_through_more : LeadThrough nets (lane + 1) new
  lead_through_more = record {
    faults_sized = ap length faults_are ∙ length-set old.faults.items lane (Some f) ∙ lead.faults_sized;
    older_sized = ap length older_are ∙ length-set old.older.items lane (slice_index old.newest.items cell) ∙ lead.older_sized;
    newest_sized = ap length newest_are ∙ length-set old.newest.items cell lane ∙ lead.newest_sized;
    first = fault_there 0 (λ same. omega arith) ∙ lead.first;
    rest = λ p past. fault_there p (λ same. omega arith) ∙ lead.rest p (omega arith);
    newest = newest_each;
    older = λ net p more inside there. ⊎_elim
        (λ less. older_there net p more less there)
        (λ from.
        let is : lane ≡ p = omega arith in
        subst (λ k. is_at (lane_fault new.faults.items k) net ≡ true → IsLastAt new.faults.items net k (slice_index new.older.items k)) is (older_here net) there)
        (cases_lt p lane);
  }
