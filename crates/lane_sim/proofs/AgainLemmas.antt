-- Settling again: from what the nets have under an old fault to what they have under a new one, place after place.
use Rattle.std.proofs.Common.{◌≡◌, ◌≢◌, ℕ, zero, suc, ◌+◌, ◌-◌, ◌<◌, ◌≤◌, ◌==◌, ◌&&◌, ◌||◌, Bool, true, false, cond, List, [], ◌∷◌, length, drop, get_or, slice_index, slice_index_or, Contains, Option, Some, None, refl, sym, ap, ap₂, ◌∙◌, subst, arith, true≢false}
use Rattle.std.specs.List.{list_any}
use Rattle.std.proofs.Math.Logic.{⊎_elim}
use Rattle.std.proofs.lemmas.Bool.{cases_lt, cases_Bool, cond-false}
use Rattle.std.proofs.lemmas.List.{get_or-map}
use Rattle.tsc_cover.specs.Cover.{truth}
use Rattle.fault_secure.specs.Circuit.{Circuit, NodeOf, node, node_net, pin_net, bit, no_node}
use Rattle.fault_secure.specs.StuckAt.{StuckAt, NoFault, Stem, Pin, on_stem, on_pin}
use Rattle.fault_secure.specs.Settle.{read_values, node_value}
use Rattle.fault_secure.proofs.OneRun.{one_valuation}
use Rattle.tsc_net.specs.Order.{fan_in, fan_ins, evaluation_order, has_place, place_in, IsOrder}
use Rattle.tsc_net.proofs.AcyclicLemmas.{fan_in-has}
use Rattle.tsc_net.proofs.OrderLists.{has_place-at}
use Rattle.lane_rows.specs.Alive.{source_count, reads_net, is_needed}
use Rattle.lane_rows.specs.Rows.{row_of}
use Rattle.lane_rows.proofs.OrderFacts.{node_within, place_of_node, node_at_place, order_sized}
use Rattle.lane_sim.specs.Points.{PointsState, ArePointsOf, source_bit, point_input, point_state}
use Rattle.lane_sim.specs.Program.{ProgramState}
use Rattle.lane_sim.specs.ProgramView.{KeepsOrder}
use Rattle.lane_sim.specs.Along.{row_there, place_bit}
use Rattle.lane_sim.specs.First.{IsFirstIn}
use Rattle.lane_sim.specs.Readers.{has}
use Rattle.lane_sim.specs.Again.{is_at, net_there, reads_there, SettlesThere, HoldsRows, IsSame, IsApart, IsIdle, IsWalked}
use Rattle.lane_sim.specs.FaultBenchView.{WatchesNodes}
use Rattle.lane_sim.specs.declared.place_set.PlaceSet.{PlaceSet}
use Rattle.lane_sim.specs.declared.steps.Steps.{Steps}
use Rattle.lane_sim.proofs.AlongLemmas.{some_at, settles_at, gives}

-- ---- a fault that is elsewhere

apart_stem : (f : StuckAt) (net : ℕ) (b : Bool) → is_at f net ≡ false → on_stem f net b ≡ b
apart_stem NoFault net b off = refl
apart_stem (Stem at held) net b off = cond-false (at == net) held b off
apart_stem (Pin driver index held) net b off = refl

apart_pin : (f : StuckAt) (driver pin : ℕ) (b : Bool) → is_at f driver ≡ false → on_pin f driver pin b ≡ b
apart_pin NoFault driver pin b off = refl
apart_pin (Stem at held) driver pin b off = refl
apart_pin (Pin at index held) driver pin b off = ap (λ c. cond (c && (index == pin)) held b) off

same_reads : (e f : StuckAt) (u v : List Bool) (driver pin : ℕ) (reads : List ℕ) → is_at e driver ≡ false → is_at f driver ≡ false
    → ((i : ℕ) → i < length reads → bit u (get_or reads i 0) ≡ bit v (get_or reads i 0)) → read_values e u driver pin reads ≡ read_values f v driver pin reads
same_reads e f u v driver pin [] old_no new_no same = refl
same_reads e f u v driver pin (net ∷ reads) old_no new_no same =
    ap₂ ◌∷◌ (apart_pin e driver pin (bit u net) old_no ∙ same 0 (omega arith) ∙ sym (apart_pin f driver pin (bit v net) new_no))
    (same_reads e f u v driver (suc pin) reads old_no new_no (λ i inside. same (suc i) (omega arith)))

-- ---- marks

-- what was marked and isn't any more was taken, or else not marked
pub unmarked : (old taken left : Bool) → taken ≡ old → (taken ≡ true → left ≡ true) → left ≡ false → old ≡ false
unmarked true taken left same kept off = absurd (true≢false (sym (kept same) ∙ off))
unmarked false taken left same kept off = refl

pub none_of : (o : Option ℕ) → ((x : ℕ) → o ≡ Some x → ⊥) → o ≡ None
none_of None none = refl
none_of (Some x) none = absurd (none x refl)

-- the fault is apart from the node at each place of some
abbrev pub AreApart : Circuit → StuckAt → (ℕ → Type 0) → Type 0
AreApart C f Some_place = (place : ℕ) → place < length C.nodes → Some_place place → IsApart C f place

-- before the first place all have settled under the old fault alone
pub walked_none : (program : ProgramState) (e f : StuckAt) (points : PointsState) (block : List ℕ) (marked : PlaceSet)
    → HoldsRows program e points block 0 (length program.circuit.nodes)
    → AreApart program.circuit e (λ place. has marked place ≡ false)
    → AreApart program.circuit f (λ place. has marked place ≡ false)
    → IsWalked program e f points block marked 0
walked_none program e f points block marked held old new = record {
  done = λ p place v point settles low below. absurd (omega arith);
  rest = held;
  idle = λ place low below no. record {
    old_apart = old place below no;
    new_apart = new place below no;
    nodes = λ k none reads. absurd (omega arith);
  };
}

pub same_place : {a b : ℕ} → Some a ≡ Some b → a ≡ b
same_place e = cc

module _ (program : ProgramState) (steps : Steps) (keeps : KeepsOrder program steps) (watches : WatchesNodes program)
    (points : PointsState) (shape : ArePointsOf program.circuit points) where
  abbrev C : Circuit
  C = program.circuit

  abbrev order : List ℕ
  order = evaluation_order (fan_ins program.circuit)

  whole : IsOrder (fan_ins C) order
  whole = keeps.whole

  placed : (place : ℕ) → place < length C.nodes → place < length order
  placed place inside = omega (arith, order_sized C order whole)

  -- ---- each place has a row of its own

  own_row : (place : ℕ) → place < length C.nodes → row_of program.rows.rows (net_there C place) ≡ Some (row_there program place)
  own_row place inside =
      some_at program.rows.rows (net_there C place) (keeps.have.of_nodes (slice_index order place) (node_within C order whole place (placed place inside)))

  later_row : (place later : ℕ) → place < later → later < length C.nodes → row_there program later ≢ row_there program place
  later_row place later before inside same =
      let low : place < length C.nodes = omega arith in
      let watched = watches (slice_index order place) (node_within C order whole place (placed place low)) in
      let needed : is_needed C order program.watched later (net_there C place) ≡ true
      = ap (λ b. b || list_any (reads_net C (net_there C place)) (drop later order)) watched in
      true≢false (sym needed ∙ keeps.apart.reused place later before (placed later inside) (own_row place low ∙ (ap Some (sym same) ∙ sym (own_row later inside))))

  pub row_apart : (place other : ℕ) → place < length C.nodes → other < length C.nodes → place ≢ other → row_there program place ≢ row_there program other
  row_apart place other inside within apart same = ⊎_elim
      (λ before. later_row place other before within (sym same))
      (λ past. later_row other place (omega (arith, λ (e : place ≡ other). apart e)) inside same)
      (cases_lt place other)

  module _ (e f : StuckAt) where
    abbrev Walked : List ℕ → PlaceSet → ℕ → Type 0
    Walked block marked k = IsWalked program e f points block marked k

    abbrev Same : ℕ → Type 0
    Same k = IsSame C e f points (net_there C k)

    -- ---- an idle place

    module _ (k : ℕ) (inside : k < length C.nodes) (idle : IsIdle C e f points k k) (p : ℕ) (u v : List Bool) (point : p < 1024)
        (old : SettlesThere C e points p u) (new : SettlesThere C f points p v) where
      abbrev j : ℕ
      j = slice_index order k

      j_inside : j < length C.nodes
      j_inside = node_within C order whole k (placed k inside)

      -- the pin's net is that of the node m, which stands before
      from_node : (pin m : ℕ) → pin < length (node C j).reads → pin_net C j pin ≡ node_net C m → m < length C.nodes → place_in order m < k
          → bit u (pin_net C j pin) ≡ bit v (pin_net C j pin)
      from_node pin m below is m_inside before =
          let there : net_there C (place_in order m) ≡ pin_net C j pin = ap (node_net C) (node_at_place C order whole m m_inside) ∙ sym is in
          let reads : has_place (node C j).reads (net_there C (place_in order m)) ≡ true
          = ap (has_place (node C j).reads) there ∙ has_place-at (node C j).reads pin 0 below in
          subst (λ net. bit u net ≡ bit v net) there (idle.nodes (place_in order m) before reads p u v point old new)

      pin_same : (pin : ℕ) → pin < length (node C j).reads → bit u (pin_net C j pin) ≡ bit v (pin_net C j pin)
      pin_same pin below = ⊎_elim
          (λ source.
          let net = pin_net C j pin in
          let reads : reads_there C net k ≡ true = has_place-at (node C j).reads pin 0 below in
          (settles_at C e points p u shape old).sources net source
          ∙ (apart_stem e net (source_bit points.words net p) (idle.old_apart.sources net source reads)
          ∙ (sym (apart_stem f net (source_bit points.words net p) (idle.new_apart.sources net source reads))
          ∙ sym ((settles_at C f points p v shape new).sources net source))))
          (λ past.
          let m = pin_net C j pin - source_count C in
          let net_below = keeps.closed.pins j pin j_inside below in
          let many : j < length (fan_ins C) = omega (arith, whole.sized, order_sized C order whole, j_inside) in
          let fans : slice_index_or (fan_ins C) j [] ≡ fan_in (source_count C) (node C j).reads =
          get_or-map (λ (n : NodeOf). fan_in (source_count C) n.reads) C.nodes j no_node [] j_inside in
          let before : place_in order m < place_in order j =
          whole.after j m many (subst (λ l. Contains l m) (sym fans) (fan_in-has (source_count C) (node C j).reads pin below past)) in
          from_node pin m below (omega arith) (omega arith) (omega (arith, before, place_of_node C order whole k (placed k inside))))
          (cases_lt (pin_net C j pin) (source_count C))

      same_bit : bit u (net_there C k) ≡ bit v (net_there C k)
      same_bit =
          let net = net_there C k in
          old.nodes j j_inside
          ∙ (apart_stem e net (node_value C e u j) idle.old_apart.node
          ∙ (ap (truth (node C j).cover) (same_reads e f u v net 0 (node C j).reads idle.old_apart.node idle.new_apart.node pin_same)
          ∙ (sym (apart_stem f net (node_value C f v j) idle.new_apart.node)
          ∙ sym (new.nodes j j_inside))))

    same_there : (k : ℕ) → k < length C.nodes → IsIdle C e f points k k → Same k
    same_there k inside idle p u v point old new = same_bit k inside idle p u v point old new

    -- one more net that is the same, where a place reads it
    more_idle : (k place : ℕ) → (reads_there C (net_there C k) place ≡ true → Same k) → IsIdle C e f points k place → IsIdle C e f points (k + 1) place
    more_idle k place same idle = record {
      old_apart = idle.old_apart;
      new_apart = idle.new_apart;
      nodes = λ i below reads. ⊎_elim
          (λ earlier. idle.nodes i earlier reads)
          (λ past.
          let is : i ≡ k = omega arith in
          subst (λ n. reads_there C (net_there C n) place ≡ true → Same n) (sym is) same reads)
          (cases_lt i k);
    }

    -- an idle place is passed
    skip_idle : (block : List ℕ) (marked : PlaceSet) (k : ℕ) → k < length C.nodes → IsIdle C e f points k k → Walked block marked k → Walked block marked (k + 1)
    skip_idle block marked k inside here walked =
        let same = same_there k inside here in
        record {
          done = λ p place v point settles low below. ⊎_elim
              (λ earlier. walked.done p place v point settles low earlier)
              (λ past.
              let is : place ≡ k = omega arith in
              let one = one_valuation C e (point_input points p) (point_state points p) keeps.acyclic in
              subst (λ n. source_bit block (row_there program n) p ≡ bit v (net_there C n)) (sym is)
              (walked.rest p k one.valuation point one.settles (omega arith) inside ∙ same p one.valuation v point one.settles settles))
              (cases_lt place k);
          rest = λ p place v point settles low below. walked.rest p place v point settles (omega arith) below;
          idle = λ place low below no_mark. more_idle k place (λ reads. same) (walked.idle place (omega arith) below no_mark);
        }

    -- a place that isn't marked is
    skip : (block : List ℕ) (marked : PlaceSet) (k : ℕ) → k < length C.nodes → has marked k ≡ false → Walked block marked k → Walked block marked (k + 1)
    skip block marked k inside off walked = skip_idle block marked k inside (walked.idle k (omega arith) inside off) walked

    -- the places before which both faults are apart from each node are passed, marked or not
    pub begun : (block : List ℕ) (marked : PlaceSet) (places : ℕ) → places ≤ length C.nodes
        → ((place : ℕ) → place < length C.nodes → place < places → IsApart C e place × IsApart C f place)
        → Walked block marked 0 → Walked block marked places
    begun block marked places most apart walked = (begun_to places (omega arith)).0
      where
        begun_to : (k : ℕ) → k ≤ places → Walked block marked k × ((place : ℕ) → k ≤ place → place < places → IsIdle C e f points k place)
        begun_to zero within = (
          walked,
          λ place low below.
              let both = apart place (omega arith) below in
              record { old_apart = both.0; new_apart = both.1; nodes = λ k none reads. absurd (omega arith) },
        )
        begun_to (suc k) within =
            let before = begun_to k (omega arith) in
            let here = before.1 k (omega arith) (omega arith) in
            let same = same_there k (omega arith) here in
            let more : k + 1 ≡ suc k = omega arith in (
              subst (Walked block marked) more (skip_idle block marked k (omega arith) here before.0),
              λ place low below. subst (λ n. IsIdle C e f points n place) more (more_idle k place (λ reads. same) (before.1 place (omega arith) below)),
            )

    skips : (block : List ℕ) (marked : PlaceSet) (k d : ℕ) → k + d ≤ length C.nodes → ((j : ℕ) → k ≤ j → j < k + d → has marked j ≡ true → ⊥)
        → Walked block marked k → Walked block marked (k + d)
    skips block marked k zero most none walked = subst (Walked block marked) (omega arith) walked
    skips block marked k (suc d) most none walked =
        let unmarked : has marked k ≡ false = ⊎_elim (λ yes. absurd (none k (omega arith) (omega arith) yes)) (λ off. off) (cases_Bool (has marked k)) in
        subst (Walked block marked) (omega arith)
        (skips block marked (k + 1) d (omega arith) (λ j low below. none j (omega arith) (omega arith)) (skip block marked k (omega arith) unmarked walked))

    pub jump : (block : List ℕ) (marked : PlaceSet) (k h : ℕ) → k ≤ h → h ≤ length C.nodes → ((j : ℕ) → k ≤ j → j < h → has marked j ≡ true → ⊥)
        → Walked block marked k → Walked block marked h
    jump block marked k h low most none walked =
        let there : k + (h - k) ≡ h = omega arith in
        subst (Walked block marked) there (skips block marked k (h - k) (omega arith) (λ j past below. none j past (omega arith)) walked)

    -- where none is marked any more all have settled
    pub ended : (block : List ℕ) (marked left : PlaceSet) (k : ℕ) → k ≤ length C.nodes → IsFirstIn (λ j. has marked j ≡ true) k (length C.nodes) None
        → Walked block marked k → Walked block left (length C.nodes)
    ended block marked left k low none walked =
        let all = jump block marked k (length C.nodes) low (omega arith) none walked in
        record { done = all.done; rest = all.rest; idle = λ place past below unmarked. absurd (omega arith) }

    -- ---- a place that is settled

    module _ (block after : List ℕ) (k : ℕ) (inside : k < length C.nodes)
        (here : (p : ℕ) → p < 1024 → source_bit after (row_there program k) p ≡ place_bit program f points.words block k p)
        (others : (row p : ℕ) → row ≢ row_there program k → p < 1024 → source_bit after row p ≡ source_bit block row p) where
      -- it has what its net has under the new fault
      settled : (marked : PlaceSet) → Walked block marked k → (p : ℕ) (v : List Bool) → p < 1024 → SettlesThere C f points p v
          → source_bit after (row_there program k) p ≡ bit v (net_there C k)
      settled marked walked p v point settles =
          here p point
          ∙ gives program f points.words order whole keeps.closed keeps.apart keeps.have block p v (settles_at C f points p v shape settles) k (placed k inside)
          (λ place below last. walked.done p place v point settles (omega arith) below)

      -- where the row didn't change the net is the same
      pub unchanged : (marked : PlaceSet) → Walked block marked k
          → ((p : ℕ) → p < 1024 → source_bit after (row_there program k) p ≡ source_bit block (row_there program k) p) → Same k
      unchanged marked walked stays p u v point old new =
          sym (walked.rest p k u point old (omega arith) inside) ∙ (sym (stays p point) ∙ settled marked walked p v point new)

      pub step : (marked left : PlaceSet) → Walked block marked k
          → ((j : ℕ) → k < j → has left j ≡ false → has marked j ≡ false)
          → ((j : ℕ) → j < length C.nodes → has left j ≡ false → reads_there C (net_there C k) j ≡ true → Same k)
          → Walked after left (k + 1)
      step marked left walked kept known = record {
        done = λ p place v point settles low below. ⊎_elim
            (λ earlier.
            others (row_there program place) p (row_apart place k (omega arith) inside (λ same. omega arith)) point
            ∙ walked.done p place v point settles low earlier)
            (λ past.
            let is : place ≡ k = omega arith in
            subst (λ n. source_bit after (row_there program n) p ≡ bit v (net_there C n)) (sym is) (settled marked walked p v point settles))
            (cases_lt place k);
        rest = λ p place v point settles low below.
            others (row_there program place) p (row_apart place k below inside (λ same. omega arith)) point
            ∙ walked.rest p place v point settles (omega arith) below;
        idle = λ place low below unmarked.
            more_idle k place (known place below unmarked) (walked.idle place (omega arith) below (kept place (omega arith) unmarked));
      }

    -- ---- the start

    pub started : (block : List ℕ) (marked : PlaceSet) → HoldsRows program e points block 0 (length C.nodes)
        → ((place : ℕ) → place < length C.nodes → has marked place ≡ false → IsApart C e place)
        → ((place : ℕ) → place < length C.nodes → has marked place ≡ false → IsApart C f place)
        → Walked block marked 0
    started block marked held old_apart new_apart = record {
      done = λ p place v point settles low below. absurd (omega arith);
      rest = held;
      idle = λ place low below unmarked. record {
        old_apart = old_apart place below unmarked;
        new_apart = new_apart place below unmarked;
        nodes = λ i none reads. absurd (omega arith);
      };
    }
