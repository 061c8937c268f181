-- What is shown is watched, and shows the valuation that the bench shows.
use Rattle.std.proofs.Common.{◌≡◌, ℕ, suc, ◌+◌, ◌^◌, ◌<◌, ◌≤◌, Bool, true, ◌||◌, eqb, List, [], ◌∷◌, ◌++◌, length, map, take, get_or, refl, sym, ap, ap₂, ◌∙◌, subst, All, arith}
use Rattle.std.proofs.lemmas.List.{get_or-map, length-map, length-take, take-map}
use Rattle.std.proofs.lemmas.List.Folds.{list_any-append}
use Rattle.std.proofs.lemmas.List.Elements.{All-nil, All-cons, All-head, All-tail, All-append, All-take, All-map}
use Rattle.tsc_bits.specs.Bits.{bits_of, binary}
use Rattle.tsc_bits.proofs.Bits.{binary-lt, bits_of-binary}
use Rattle.fault_secure.specs.Circuit.{Circuit, LatchOf, latch_net, nets, bit}
use Rattle.fault_secure.specs.StuckAt.{StuckAt, on_pin}
use Rattle.fault_secure.specs.Run.{init_state, latch_reads, next_state}
use Rattle.fault_secure.specs.CodePlan.{CodePlan, next_nets}
use Rattle.fault_secure.specs.Closed.{IsClosed}
use Rattle.tsc_net.specs.Order.{has_place}
use Rattle.tsc_net.specs.PlanView.{net_numbers}
use Rattle.tsc_net.specs.declared.ids.NetId.{NetId}
use Rattle.tsc_net.specs.declared.netlist.LatchView.{LatchView}
use Rattle.fault_sim.specs.PlanNets.{HasPlanNets}
use Rattle.fault_sim.specs.Sim.{watched_nets, number_at, IsViewOf}
use Rattle.fault_sim.specs.Shown.{latch_as, taken_bit, AreLatchesOf}
use Rattle.fault_sim.specs.Batch.{ShowBits}
use Rattle.fault_sim.specs.declared.step_view.StepView.{StepView}
use Rattle.tsc_net.proofs.NetNumbers.{all_numbers, has_own}
use Rattle.tsc_bits.proofs.Bools.{or-true}

-- ---- lists

map_same : (f g : ℕ → Bool) (xs : List ℕ) → All (λ j. f j ≡ g j) xs → map f xs ≡ map g xs
map_same f g [] same = refl
map_same f g (x ∷ xs) same = ap₂ ◌∷◌ (All-head (λ j. f j ≡ g j) x xs same) (map_same f g xs (All-tail (λ j. f j ≡ g j) x xs same))

map_numbers : (bits : ℕ → Bool) (list : List NetId) → map (λ net. bits net.number) list ≡ map bits (net_numbers list)
map_numbers bits [] = refl
map_numbers bits (net ∷ list) = ap (λ rest. bits net.number ∷ rest) (map_numbers bits list)

-- the number that the bits of nets make
pub number_of : (bits : ℕ → Bool) (list : List NetId) (part : List ℕ) → net_numbers list ≡ part → binary (map (λ net. bits net.number) list) ≡ number_at bits part
number_of bits list part same = ap binary (map_numbers bits list) ∙ ap (number_at bits) same

-- ---- what is watched

has_left : (xs ys : List ℕ) (j : ℕ) → has_place xs j ≡ true → has_place (xs ++ ys) j ≡ true
has_left xs ys j h = list_any-append (λ k. eqb k j) xs ys ∙ ap (λ b. b || has_place ys j) h

has_right : (xs ys : List ℕ) (j : ℕ) → has_place ys j ≡ true → has_place (xs ++ ys) j ≡ true
has_right xs ys j h = list_any-append (λ k. eqb k j) xs ys ∙ (ap (λ b. has_place xs j || b) h ∙ or-true (has_place xs j))

module _ (N : Circuit) (P : CodePlan) where
  abbrev outs : List ℕ
  outs = take P.outputs N.outputs

  abbrev rails : List ℕ
  rails = P.rail1 ∷ P.rail2 ∷ []

  outputs_watched : All (λ j. has_place (watched_nets N P) j ≡ true) outs
  outputs_watched k d h =
      has_left ((outs ++ P.checks) ++ next_nets N) rails (get_or outs k d)
      (has_left (outs ++ P.checks) (next_nets N) (get_or outs k d) (has_left outs P.checks (get_or outs k d) (has_own outs k d h)))

  checks_watched : All (λ j. has_place (watched_nets N P) j ≡ true) P.checks
  checks_watched k d h =
      has_left ((outs ++ P.checks) ++ next_nets N) rails (get_or P.checks k d)
      (has_left (outs ++ P.checks) (next_nets N) (get_or P.checks k d) (has_right outs P.checks (get_or P.checks k d) (has_own P.checks k d h)))

  next_watched : All (λ j. has_place (watched_nets N P) j ≡ true) (next_nets N)
  next_watched k d h =
      has_left ((outs ++ P.checks) ++ next_nets N) rails (get_or (next_nets N) k d)
      (has_right (outs ++ P.checks) (next_nets N) (get_or (next_nets N) k d) (has_own (next_nets N) k d h))

  rail1_watched : has_place (watched_nets N P) P.rail1 ≡ true
  rail1_watched = has_right ((outs ++ P.checks) ++ next_nets N) rails P.rail1 (has_own rails 0 0 (omega arith))

  rail2_watched : has_place (watched_nets N P) P.rail2 ≡ true
  rail2_watched = has_right ((outs ++ P.checks) ++ next_nets N) rails P.rail2 (has_own rails 1 0 (omega arith))

-- a bench that watches what is shown
module _ (N : Circuit) (P : CodePlan) (watched : List ℕ) (same : watched ≡ watched_nets N P) where
  part_watched : (part : List ℕ) → All (λ j. has_place (watched_nets N P) j ≡ true) part → All (λ j. has_place watched j ≡ true) part
  part_watched part all = subst (λ (w : List ℕ). All (λ j. has_place w j ≡ true) part) (sym same) all

  list_watched : (list : List NetId) (part : List ℕ) → net_numbers list ≡ part → All (λ j. has_place (watched_nets N P) j ≡ true) part
      → All (λ net. has_place watched net.number ≡ true) list
  list_watched list part is all =
      all_numbers (λ j. has_place watched j ≡ true) list (subst (λ (numbers : List ℕ). All (λ j. has_place watched j ≡ true) numbers) (sym is) (part_watched part all))

  pub outputs_are_watched : (list : List NetId) → net_numbers list ≡ take P.outputs N.outputs → All (λ net. has_place watched net.number ≡ true) list
  outputs_are_watched list is = list_watched list (take P.outputs N.outputs) is (outputs_watched N P)

  pub checks_are_watched : (list : List NetId) → net_numbers list ≡ P.checks → All (λ net. has_place watched net.number ≡ true) list
  checks_are_watched list is = list_watched list P.checks is (checks_watched N P)

  pub next_are_watched : (list : List NetId) → net_numbers list ≡ next_nets N → All (λ net. has_place watched net.number ≡ true) list
  next_are_watched list is = list_watched list (next_nets N) is (next_watched N P)

  pub rail1_is_watched : has_place watched P.rail1 ≡ true
  rail1_is_watched = subst (λ (w : List ℕ). has_place w P.rail1 ≡ true) (sym same) (rail1_watched N P)

  pub rail2_is_watched : has_place watched P.rail2 ≡ true
  rail2_is_watched = subst (λ (w : List ℕ). has_place w P.rail2 ≡ true) (sym same) (rail2_watched N P)

-- ---- latches

abbrev pub reads_of : List LatchView → List NetId
reads_of views = map (λ latch. latch.reads) views

reads_numbers : (views : List LatchView) → net_numbers (reads_of views) ≡ map (λ latch. latch.reads) (map latch_as views)
reads_numbers [] = refl
reads_numbers (view ∷ views) = ap (λ rest. view.reads.number ∷ rest) (reads_numbers views)

pub next_numbers : (N : Circuit) (views : List LatchView) → AreLatchesOf N views → net_numbers (reads_of views) ≡ next_nets N
next_numbers N views are = reads_numbers views ∙ ap (λ (latches : List LatchOf). map (λ latch. latch.reads) latches) are.latches

-- what holds of the nets that latches read
pub all_reads : (P : ℕ → Type 0) (views : List LatchView) → All (λ net. P net.number) (reads_of views) → All (λ latch. P latch.reads.number) views
all_reads P views all k d inside =
    subst (λ (net : NetId). P net.number) (get_or-map (λ (latch : LatchView). latch.reads) views k d d.reads inside)
    (all k d.reads (omega (arith, length-map views (λ (latch : LatchView). latch.reads))))

inits_same : (views : List LatchView) → map (λ latch. latch.init) views ≡ map (λ latch. latch.init) (map latch_as views)
inits_same [] = refl
inits_same (view ∷ views) = ap (λ rest. view.init ∷ rest) (inits_same views)

pub inits_of : (N : Circuit) (views : List LatchView) → AreLatchesOf N views → map (λ latch. latch.init) views ≡ init_state N
inits_of N views are = inits_same views ∙ ap (λ (latches : List LatchOf). map (λ latch. latch.init) latches) are.latches

pub length-views : (N : Circuit) (views : List LatchView) → AreLatchesOf N views → length views ≡ length N.latches
length-views N views are = sym (length-map views latch_as) ∙ ap length are.latches

taken_same : (f : StuckAt) (bits others : ℕ → Bool) (views : List LatchView) → All (λ latch. bits latch.reads.number ≡ others latch.reads.number) views
    → map (taken_bit f bits) views ≡ map (taken_bit f others) views
taken_same f bits others [] same = refl
taken_same f bits others (view ∷ views) same =
    ap₂ ◌∷◌
    (ap (on_pin f view.out.number 0) (All-head (λ latch. bits latch.reads.number ≡ others latch.reads.number) view views same))
    (taken_same f bits others views (All-tail (λ latch. bits latch.reads.number ≡ others latch.reads.number) view views same))

taken_reads : (N : Circuit) (f : StuckAt) (v : List Bool) (first : ℕ) (views : List LatchView)
    → ((l : ℕ) (d : LatchView) → l < length views → (get_or views l d).out.number ≡ latch_net N (first + l))
    → map (taken_bit f (bit v)) views ≡ latch_reads N f v first (map latch_as views)
taken_reads N f v first [] outs = refl
taken_reads N f v first (view ∷ views) outs =
    ap₂ ◌∷◌
    (ap (λ out. on_pin f out 0 (bit v view.reads.number)) (outs 0 view (omega arith) ∙ ap (latch_net N) (omega arith)))
    (taken_reads N f v (suc first) views (λ l d h. outs (suc l) d (omega arith) ∙ ap (latch_net N) (omega arith)))

pub taken_next : (N : Circuit) (P : CodePlan) (f : StuckAt) (nets : List ℕ) (bits : ℕ → Bool) (v : List Bool) (views : List LatchView) → nets ≡ watched_nets N P
    → AreLatchesOf N views → ShowBits nets bits v → map (taken_bit f bits) views ≡ next_state N f v
taken_next N P f nets bits v views watched are shows =
    taken_same f bits (bit v) views
    (all_reads (λ j. bits j ≡ bit v j) views
    (λ k d inside. shows (get_or (reads_of views) k d).number (next_are_watched N P nets watched (reads_of views) (next_numbers N views are) k d inside)))
    ∙ (taken_reads N f v 0 views (λ l d inside. are.outs l d inside ∙ ap (latch_net N) (omega arith))
    ∙ ap (latch_reads N f v 0) are.latches)

-- ---- the number of a state

-- bits of as many latches, back from their number
pub state_of_number : (N : Circuit) (bits : List Bool) (state : ℕ) → state ≡ binary bits → length bits ≡ length N.latches → bits_of (length N.latches) state ≡ bits
state_of_number N bits state is sized = ap₂ bits_of (sym sized) is ∙ bits_of-binary bits

-- the number of as many bits is one of a state
pub state_fits : (N : Circuit) (bits : List Bool) (state : ℕ) → state ≡ binary bits → length bits ≡ length N.latches → state < 2 ^ length N.latches
state_fits N bits state is sized = subst (λ n. state < 2 ^ n) sized (subst (λ k. k < 2 ^ length bits) (sym is) (binary-lt bits))

-- ---- what a step shows

number_same : (bits others : ℕ → Bool) (part : List ℕ) (number : ℕ) → All (λ j. bits j ≡ others j) part → number ≡ number_at bits part → number ≡ number_at others part
number_same bits others part number same is = is ∙ ap binary (map_same bits others part same)

pub shows_valuation : (N : Circuit) (P : CodePlan) (nets : List ℕ) (bits : ℕ → Bool) (v : List Bool) (view : StepView) → nets ≡ watched_nets N P
    → ShowBits nets bits v → IsViewOf N P bits view → IsViewOf N P (bit v) view
shows_valuation N P nets bits v view watched are shows = record {
  outputs = number_same bits (bit v) (take P.outputs N.outputs) view.outputs
      (λ k d h. are _ (part_watched N P nets watched (take P.outputs N.outputs) (outputs_watched N P) k d h)) shows.outputs;
  checks = number_same bits (bit v) P.checks view.checks
      (λ k d h. are _ (part_watched N P nets watched P.checks (checks_watched N P) k d h)) shows.checks;
  rail1 = shows.rail1 ∙ are P.rail1 (rail1_is_watched N P nets watched);
  rail2 = shows.rail2 ∙ are P.rail2 (rail2_is_watched N P nets watched);
}

-- the bits of the nets at the latch inputs
pub next_same : (N : Circuit) (P : CodePlan) (nets : List ℕ) (bits : ℕ → Bool) (v : List Bool) → nets ≡ watched_nets N P → ShowBits nets bits v
    → map bits (next_nets N) ≡ map (bit v) (next_nets N)
next_same N P nets bits v watched are =
    map_same bits (bit v) (next_nets N) (λ k d h. are _ (part_watched N P nets watched (next_nets N) (next_watched N P) k d h))

pub length-next : (N : Circuit) (bits : ℕ → Bool) → length (map bits (next_nets N)) ≡ length N.latches
length-next N bits = length-map (next_nets N) bits ∙ length-map N.latches (λ (latch : LatchOf). latch.reads)

-- their number
pub next_of_number : (N : Circuit) (bits : ℕ → Bool) (number : ℕ) → number ≡ number_at bits (next_nets N) → bits_of (length N.latches) number ≡ map bits (next_nets N)
next_of_number N bits number is = state_of_number N (map bits (next_nets N)) number is (length-next N bits)

-- read from the latches
pub next_read : (N : Circuit) (bits : ℕ → Bool) (views : List LatchView) → AreLatchesOf N views → map (λ latch. bits latch.reads.number) views ≡ map bits (next_nets N)
next_read N bits views are = reads_read views ∙ ap (map bits) (next_numbers N views are)
  where
    reads_read : (list : List LatchView) → map (λ latch. bits latch.reads.number) list ≡ map bits (net_numbers (reads_of list))
    reads_read [] = refl
    reads_read (view ∷ list) = ap (λ rest. bits view.reads.number ∷ rest) (reads_read list)

-- ---- what a bench may watch

pub watched_inside : (N : Circuit) (P : CodePlan) → IsClosed N → HasPlanNets N P → All (λ net. net < nets N) (watched_nets N P)
watched_inside N P closed plan =
    let Inside : ℕ → Type 0 = λ net. net < nets N in
    All-append Inside ((take P.outputs N.outputs ++ P.checks) ++ next_nets N) (P.rail1 ∷ P.rail2 ∷ [])
    (All-append Inside (take P.outputs N.outputs ++ P.checks) (next_nets N)
    (All-append Inside (take P.outputs N.outputs) P.checks (All-take Inside P.outputs N.outputs closed.outputs) plan.checks)
    (All-map Inside (λ (latch : LatchOf). latch.reads) N.latches closed.latches))
    (All-cons Inside P.rail1 (P.rail2 ∷ []) plan.rails.0 (All-cons Inside P.rail2 [] plan.rails.1 (All-nil Inside)))

pub latches_are_watched : (N : Circuit) (P : CodePlan) (watched : List ℕ) → watched ≡ watched_nets N P → (views : List LatchView) → AreLatchesOf N views
    → All (λ latch. has_place watched latch.reads.number ≡ true) views
latches_are_watched N P watched same views are =
    all_reads (λ j. has_place watched j ≡ true) views (next_are_watched N P watched same (reads_of views) (next_numbers N views are))

-- what is shown, as a list of nets, is what is watched
pub watched_are : (N : Circuit) (P : CodePlan) (outputs next : List NetId) (views : List LatchView) → net_numbers outputs ≡ take P.outputs N.outputs → next ≡ reads_of views
    → AreLatchesOf N views → ((net_numbers outputs ++ P.checks) ++ net_numbers next) ++ P.rail1 ∷ P.rail2 ∷ [] ≡ watched_nets N P
watched_are N P outputs next views first reads are =
    ap₂ (λ (a b : List ℕ). ((a ++ P.checks) ++ b) ++ P.rail1 ∷ P.rail2 ∷ []) first (ap net_numbers reads ∙ next_numbers N views are)

-- ---- the first outputs

pub first_numbers : (list first : List NetId) (n m : ℕ) (outputs : List ℕ) → first ≡ take n list → n ≡ m → net_numbers list ≡ outputs → net_numbers first ≡ take m outputs
first_numbers list first n m outputs is same all =
    ap net_numbers is ∙ (sym (take-map (λ (net : NetId). net.number) n list) ∙ ap₂ (λ (k : ℕ) (numbers : List ℕ). take k numbers) same all)

pub few_first : (list first : List NetId) (n m : ℕ) → first ≡ take n list → n ≡ m → m ≤ 64 → length first ≤ 64
few_first list first n m is same most = omega (arith, ap length is, length-take n list)
