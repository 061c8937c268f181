-- The nets that are watched, and their lanes.
use Rattle.std.proofs.Common.{◌≡◌, ℕ, ◌*◌, ◌/◌, ◌<◌, ◌≤◌, Bool, List, ◌∷◌, length, take, drop, slice_index_or, Option, Some, None, sym, ap, ◌∙◌, subst, All, arith}
use Rattle.std.specs.Prelude.{IfSome}
use Rattle.std.specs.Option.{unwrap_or}
use Rattle.std.proofs.lemmas.List.{length-map, length-take-le, length-drop, take-map}
use Rattle.std.proofs.lemmas.List.Elements.{All-cons, All-take, All-drop, All-append, All-map}
use Rattle.fault_secure.specs.Circuit.{Circuit, LatchOf, nets}
use Rattle.fault_secure.specs.Closed.{IsClosed}
use Rattle.fault_secure.specs.StuckAt.{StuckAt}
use Rattle.fault_secure.specs.CodePlan.{CodePlan, next_nets, IsPlanOf}
use Rattle.tsc_net.specs.PlanView.{net_numbers}
use Rattle.tsc_net.specs.declared.ids.NetId.{NetId}
use Rattle.tsc_net.proofs.NetNumbers.{numbers_counted}
use Rattle.net_cones.proofs.ConeNets.{numbers_below}
use Rattle.lane_sim.specs.First.{IsFirstIn}
use Rattle.lane_sim.specs.Points.{PointsState}
use Rattle.lane_sim.specs.FaultBench.{HaveLanesUnder}
use Rattle.unheard_cells.specs.There.{shown_nets, watched_nets, near_count, near_nets, IsLeastCell}
use Rattle.unheard_cells.specs.Trial.{AreNear}
use Rattle.unheard_cells.specs.declared.spans.Span.{Span}
use Rattle.unheard_cells.specs.declared.cells.FoundCell.{FoundCell}

-- ---- nets of the circuit

pub shown_within : (N : Circuit) (P : CodePlan) → IsClosed N → All (λ net. net < nets N) (shown_nets N P)
shown_within N P closed = All-append (λ net. net < nets N) (take P.outputs N.outputs) (next_nets N)
    (All-take (λ net. net < nets N) P.outputs N.outputs closed.outputs) (All-map (λ net. net < nets N) (λ (l : LatchOf). l.reads) N.latches closed.latches)

watched_within : (N : Circuit) (P : CodePlan) → IsClosed N → IsPlanOf N P → All (λ net. net < nets N) (watched_nets N P)
watched_within N P closed plan = All-cons (λ net. net < nets N) P.rail1 (P.rail2 ∷ shown_nets N P) plan.rails.0
    (All-cons (λ net. net < nets N) P.rail2 (shown_nets N P) plan.rails.1 (shown_within N P closed))

pub shown_below : (N : Circuit) (P : CodePlan) (list : List NetId) → IsClosed N → net_numbers list ≡ shown_nets N P → All (λ net. net.number < nets N) list
shown_below N P list closed is = numbers_below (nets N) (shown_nets N P) list (shown_within N P closed) is

pub watch_below : (N C : Circuit) (P : CodePlan) (list : List NetId) → C ≡ N → IsClosed N → IsPlanOf N P → net_numbers list ≡ watched_nets N P
    → All (λ net. net.number < nets C) list
watch_below N C P list circuit closed plan is =
    subst (λ (M : Circuit). All (λ net. net.number < nets M) list) (sym circuit) (numbers_below (nets N) (watched_nets N P) list (watched_within N P closed plan) is)

-- ---- how many there are

pub watch_room : (N : Circuit) (P : CodePlan) (list : List NetId) (lanes : List ℕ) → net_numbers list ≡ watched_nets N P → length lanes ≡ length (watched_nets N P) * 16
    → length lanes ≡ length list * 16
watch_room N P list lanes is room = room ∙ ap (λ n. n * 16) (sym (numbers_counted list (watched_nets N P) is))

-- ---- the nets of a span

-- the words of so many nets are sixteen for each
pub near_words : (words count : ℕ) → words ≡ count * 16 → words / 16 ≡ count
near_words words count is = omega (arith, is)

pub near_within : (N : Circuit) (P : CodePlan) (span : Span) → IsClosed N → IsPlanOf N P → All (λ net. net < nets N) (near_nets N P span)
near_within N P span closed plan = All-take (λ net. net < nets N) (near_count span) (P.rail1 ∷ (P.rail2 ∷ drop span.low (shown_nets N P)))
    (All-cons (λ net. net < nets N) P.rail1 (P.rail2 ∷ drop span.low (shown_nets N P)) plan.rails.0
    (All-cons (λ net. net < nets N) P.rail2 (drop span.low (shown_nets N P)) plan.rails.1
    (All-drop (λ net. net < nets N) span.low (shown_nets N P) (shown_within N P closed))))

-- so many nets of the list of the span's first place are those of the span
pub near_slice : (N : Circuit) (P : CodePlan) (span : Span) (near : List (List NetId)) (item seen : List NetId) (words : ℕ) → AreNear P (shown_nets N P) near → span.low < span.past
    → span.past ≤ length (shown_nets N P) → item ≡ slice_index_or near span.low item → seen ≡ item → words ≡ near_count span * 16
    → net_numbers (take (words / 16) seen) ≡ near_nets N P span
near_slice N P span near item seen words are some within read same room =
    let inside : span.low < length near = (let sized = are.sized in omega arith) in
    ap net_numbers (ap (λ (n : ℕ). take n seen) (near_words words (near_count span) room) ∙ ap (take (near_count span)) (same ∙ read))
    ∙ sym (take-map (λ (net : NetId). net.number) (near_count span) (slice_index_or near span.low item))
    ∙ ap (take (near_count span)) (are.each span.low item inside)

pub near_below : (N C : Circuit) (P : CodePlan) (span : Span) (list : List NetId) → C ≡ N → IsClosed N → IsPlanOf N P → net_numbers list ≡ near_nets N P span
    → All (λ net. net.number < nets C) list
near_below N C P span list circuit closed plan is =
    subst (λ (M : Circuit). All (λ net. net.number < nets M) list) (sym circuit) (numbers_below (nets N) (near_nets N P span) list (near_within N P span closed plan) is)

pub near_counted : (N : Circuit) (P : CodePlan) (span : Span) → span.low < span.past → span.past ≤ length (shown_nets N P) → length (near_nets N P span) ≡ near_count span
near_counted N P span some within =
    length-take-le (near_count span) (P.rail1 ∷ (P.rail2 ∷ drop span.low (shown_nets N P))) (omega (arith, length-drop span.low (shown_nets N P), some, within))

-- ---- lanes

pub same_lanes : (C N : Circuit) (f : StuckAt) (points : PointsState) (list : List NetId) (numbers lanes : List ℕ) → C ≡ N → net_numbers list ≡ numbers
    → HaveLanesUnder C f points (net_numbers list) (length list) lanes → HaveLanesUnder N f points numbers (length numbers) lanes
same_lanes C N f points list numbers lanes circuit is has =
    subst (λ (ns : List ℕ). HaveLanesUnder N f points ns (length ns) lanes) is
    (subst (λ (M : Circuit). HaveLanesUnder M f points (net_numbers list) (length (net_numbers list)) lanes) circuit
    (subst (λ (n : ℕ). HaveLanesUnder C f points (net_numbers list) n lanes) (sym (length-map list (λ (net : NetId). net.number))) has))

-- ---- bounds

pub bound_inside : (E : ℕ → Type 0) (most many : ℕ) (found : Option ℕ) → many ≤ most → IsFirstIn E 0 many found → unwrap_or found many ≤ most
bound_inside E most many None few first = few
bound_inside E most many (Some p) few first = let inside : p < many = first.1 in omega arith

pub first_inside : (E : ℕ → Type 0) (most many : ℕ) (found : Option ℕ) → many ≤ most → IsFirstIn E 0 many found → IfSome found (λ p. p ≤ most)
first_inside E most many None few first = tt
first_inside E most many (Some p) few first = let inside : p < many = first.1 in omega arith

pub cell_inside : (E : ℕ → Bool → ℕ → Type 0) (most past many : ℕ) (found : Option FoundCell) → many ≤ most → IsLeastCell E past many found
    → IfSome found (λ cell. cell.point ≤ most)
cell_inside E most past many None few least = tt
cell_inside E most past many (Some found) few least = let inside : found.point < many = least.1 in omega arith
