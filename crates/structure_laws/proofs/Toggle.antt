-- The small machine has a sound structure and follows its source.
use Rattle.std.proofs.Common.{◌≡◌, ℕ, zero, suc, ◌-◌, ◌<◌, ◌≤◌, ◌↔◌, Bool, true, false, List, [], ◌∷◌, length, take, drop, slice_index_or, Some, Contains, IsFalse, refl, sym, ap, subst, ◌∙◌, inl, inr, arith, rules}
use Rattle.std.proofs.lemmas.Bool.{false≢true, true≢false, cases_lt}
use Rattle.std.proofs.lemmas.List.Elements.{All-nil, All-cons, All-from_recursion}
use Rattle.tsc_cover.specs.Cover.{truth, wrong_sign}
use Rattle.fault_secure.specs.Circuit.{LatchOf, NodeOf, node, node_net, pin_net, bit}
use Rattle.fault_secure.specs.Closed.{IsClosed}
use Rattle.fault_secure.specs.StuckAt.{NoFault}
use Rattle.fault_secure.specs.Settle.{Settles}
use Rattle.fault_secure.specs.CodePlan.{monitored, word, IsCodeword, IsWellMade, IsPlanOf}
use Rattle.tsc_bits.specs.Counting.{ones}
use Rattle.fault_secure.specs.Depends.{Depends, itself, through, InFunction}
use Rattle.fault_secure.specs.Structure.{RailsOutside, ReadsOnlyWord, IsUnate, IsCodeDisjoint}
use Rattle.fault_secure.specs.Logic.{AllowsOutputs, AllowsNext}
use Rattle.fault_secure.specs.Behaviour.{FollowsSource}
use Rattle.fault_secure.specs.FaultSecure.{state_at}
use Rattle.fault_secure.specs.SoundStructure.{HasSoundStructure}
use Rattle.structure_laws.specs.Toggle.{toggle_source, toggle, toggle_plan, repeats, negates, keeps, turns, straight, crossed, ToggleIsCellSecure, ToggleIsFaultSecure}
use Rattle.structure_laws.proofs.Each.{each, each_pin}
use Rattle.structure_laws.proofs.Joined.{Some-same}
use Rattle.structure_laws.proofs.SoundCodes.{sound_is_cell_secure, sound_is_fault_secure}

pins_below : (j pin : ℕ) → j < 6 → pin < length (node toggle j).reads → pin_net toggle j pin < node_net toggle j
pins_below = each_pin toggle (λ j pin. pin_net toggle j pin < node_net toggle j) (omega arith)

depends_up : (q net : ℕ) → Depends toggle q net → node_net toggle q ≤ net
depends_up q net (itself n h e) = omega arith
depends_up q net (through n j pin hj e hp rest) = omega (arith, depends_up q (pin_net toggle j pin) rest, pins_below j pin hj hp)

monitored_low : (net : ℕ) → Contains (monitored toggle toggle_plan) net → net ≤ 6
monitored_low net (zero, h, e) = omega arith
monitored_low net (suc zero, h, e) = omega arith
monitored_low net (suc (suc zero), h, e) = omega arith
monitored_low net (suc (suc (suc zero)), h, e) = omega arith
monitored_low net (suc (suc (suc (suc k))), h, e) = absurd (omega arith)

outside : (q : ℕ) → 4 ≤ q → InFunction toggle toggle_plan q → ⊥
outside q h in_function = omega (arith, monitored_low in_function.net in_function.monitors, depends_up q in_function.net in_function.depends)

monitored_node : (q : ℕ) → q < 4 → Contains (monitored toggle toggle_plan) (node_net toggle q)
monitored_node = each 4 (λ q. Contains (monitored toggle toggle_plan) (node_net toggle q)) ((0, omega arith, refl), ((1, omega arith, refl), ((2, omega arith, refl), ((3, omega arith, refl), tt))))

inside : (q : ℕ) → q < 4 → InFunction toggle toggle_plan q
inside q h = record { net = node_net toggle q; monitors = monitored_node q h; depends = itself (node_net toggle q) (omega arith) refl }

rails : RailsOutside toggle toggle_plan
rails = record {
  first = record { driver = 4; is_node = omega arith; drives = refl; outside = outside 4 (omega arith) };
  second = record { driver = 5; is_node = omega arith; drives = refl; outside = outside 5 (omega arith) };
}

reads : ReadsOnlyWord toggle toggle_plan
reads = record {
  reads = λ q pin hq checker hp. elim (cases_lt q 4) [
    | inl low ↦ absurd (checker.outside (inside q low))
    | inr high ↦
        let m = pin_net toggle q pin in
        let within = each_pin toggle (λ j pin. 4 ≤ j → (3 ≤ pin_net toggle j pin) × (pin_net toggle j pin < 7)) (omega arith) q pin hq hp high in
        inr (subst (Contains (monitored toggle toggle_plan)) (omega arith) (monitored_node (m - 3) (omega arith)))
  ];
}

unate : IsUnate toggle toggle_plan
unate = record {
  signs = λ q pin hq in_function hp high. each_pin toggle (λ j pin. 1 ≤ pin_net toggle j pin → IsFalse (wrong_sign (node toggle j).cover pin)) (search rules) q pin hq hp high;
}

-- on four bits the rails differ exactly at the codewords
decides : (a b c d : Bool) → (truth straight (a ∷ b ∷ c ∷ d ∷ []) ≡ truth crossed (a ∷ b ∷ c ∷ d ∷ []) → ⊥) ↔ IsCodeword toggle_plan (a ∷ b ∷ c ∷ d ∷ [])
decides true true true true = (λ n. absurd (n refl), λ w. absurd (omega (arith, w.checked, w.weighed)))
decides true true true false = (λ n. absurd (n refl), λ w. absurd (omega (arith, w.checked, w.weighed)))
decides true true false true = (λ n. absurd (n refl), λ w. absurd (omega (arith, w.checked, w.weighed)))
decides true true false false = (λ n. absurd (n refl), λ w. absurd (omega (arith, w.checked, w.weighed)))
decides true false true true = (λ n. absurd (n refl), λ w. absurd (omega (arith, w.checked, w.weighed)))
decides true false true false = (λ n. record { checked = refl; weighed = refl }, λ w. true≢false)
decides true false false true = (λ n. record { checked = refl; weighed = refl }, λ w. false≢true)
decides true false false false = (λ n. absurd (n refl), λ w. absurd (omega (arith, w.checked, w.weighed)))
decides false true true true = (λ n. absurd (n refl), λ w. absurd (omega (arith, w.checked, w.weighed)))
decides false true true false = (λ n. record { checked = refl; weighed = refl }, λ w. false≢true)
decides false true false true = (λ n. record { checked = refl; weighed = refl }, λ w. true≢false)
decides false true false false = (λ n. absurd (n refl), λ w. absurd (omega (arith, w.checked, w.weighed)))
decides false false true true = (λ n. absurd (n refl), λ w. absurd (omega (arith, w.checked, w.weighed)))
decides false false true false = (λ n. absurd (n refl), λ w. absurd (omega (arith, w.checked, w.weighed)))
decides false false false true = (λ n. absurd (n refl), λ w. absurd (omega (arith, w.checked, w.weighed)))
decides false false false false = (λ n. absurd (n refl), λ w. absurd (omega (arith, w.checked, w.weighed)))

checker : IsCodeDisjoint toggle toggle_plan
checker = record {
  decides = λ v settled.
      let first : bit v 7 ≡ truth straight (bit v 3 ∷ bit v 4 ∷ bit v 5 ∷ bit v 6 ∷ []) =
      settled.settles 4 (omega arith) (record { depends = inl (itself 7 (omega arith) refl); outside = outside 4 (omega arith) }) in
      let second : bit v 8 ≡ truth crossed (bit v 3 ∷ bit v 4 ∷ bit v 5 ∷ bit v 6 ∷ []) =
      settled.settles 5 (omega arith) (record { depends = inr (itself 8 (omega arith) refl); outside = outside 5 (omega arith) }) in
      let both = decides (bit v 3) (bit v 4) (bit v 5) (bit v 6) in
      (λ n. both.0 (λ e. n (first ∙ e ∙ sym second)), λ w e. both.1 w (sym first ∙ e ∙ second));
}

states_differ : (a b : ℕ) → a < b → b < 2 → slice_index_or toggle_plan.states a [] ≡ slice_index_or toggle_plan.states b [] → ⊥
states_differ zero zero below high e = omega arith
states_differ zero (suc zero) below high e = cc
states_differ zero (suc (suc b)) below high e = omega arith
states_differ (suc a) b below high e = omega arith

well_made : IsWellMade toggle_plan
well_made = record {
  versioned = inl refl;
  some_output = omega arith;
  most_outputs = omega arith;
  shape = (refl, refl);
  states = record {
    none = λ e. absurd (omega arith);
    some = λ h. (omega arith, omega arith, omega arith);
    sized = All-cons (λ s. length s ≡ 2) (false ∷ true ∷ []) ((true ∷ false ∷ []) ∷ []) refl (All-cons (λ s. length s ≡ 2) (true ∷ false ∷ []) [] refl (All-nil (λ s. length s ≡ 2)));
    weighed = All-cons (λ s. ones s ≡ 1) (false ∷ true ∷ []) ((true ∷ false ∷ []) ∷ []) refl (All-cons (λ s. ones s ≡ 1) (true ∷ false ∷ []) [] refl (All-nil (λ s. ones s ≡ 1)));
    distinct = states_differ;
  };
}

plan_of : IsPlanOf toggle toggle_plan
plan_of = record {
  outputs = refl;
  rail1 = refl;
  rail2 = refl;
  checks = All-cons (λ net. net < 9) 4 [] (omega arith) (All-nil (λ net. net < 9));
  rails = (omega arith, omega arith);
  latches = refl;
}

closed : IsClosed toggle
closed = record {
  pins = each_pin toggle (λ j pin. pin_net toggle j pin < 9) (omega arith);
  latches = All-from_recursion (λ (l : LatchOf). l.reads < 9) toggle.latches (omega arith, (omega arith, tt));
  outputs = All-from_recursion (λ (net : ℕ). net < 9) toggle.outputs (omega arith, (omega arith, (omega arith, tt)));
  some_output = omega arith;
  widths = All-from_recursion (λ (n : NodeOf). n.cover.width ≡ length n.reads) toggle.nodes (refl, (refl, (refl, (refl, (refl, (refl, tt))))));
}

-- the small machine has sound structure
pub toggle_is_sound : HasSoundStructure toggle toggle_plan
toggle_is_sound = record {
  well_made = well_made;
  plan_of = plan_of;
  closed = closed;
  acyclic = record { rank = λ net. net; ranks = record { above = pins_below } };
  rails = rails;
  reads = reads;
  suits = unate;
  checker = checker;
}

-- the word that an input bit and two state bits give
abbrev word_of : Bool → Bool → Bool → List Bool
word_of i a b = truth repeats (i ∷ []) ∷ truth negates (i ∷ []) ∷ truth keeps (a ∷ b ∷ i ∷ []) ∷ truth turns (a ∷ b ∷ i ∷ []) ∷ []

toggle_word : (x s v : List Bool) → Settles toggle NoFault (bit x) (bit s) v → word toggle toggle_plan v ≡ word_of (bit x 0) (bit s 0) (bit s 1)
toggle_word x s v settled =
    let i : bit v 0 ≡ bit x 0 = settled.inputs 0 (omega arith) in
    let a : bit v 1 ≡ bit s 0 = settled.latches 0 (omega arith) in
    let b : bit v 2 ≡ bit s 1 = settled.latches 1 (omega arith) in
    let output : bit v 3 ≡ truth repeats (bit v 0 ∷ []) = settled.nodes 0 (omega arith) in
    let check : bit v 4 ≡ truth negates (bit v 0 ∷ []) = settled.nodes 1 (omega arith) in
    let next1 : bit v 5 ≡ truth keeps (bit v 1 ∷ bit v 2 ∷ bit v 0 ∷ []) = settled.nodes 2 (omega arith) in
    let next2 : bit v 6 ≡ truth turns (bit v 1 ∷ bit v 2 ∷ bit v 0 ∷ []) = settled.nodes 3 (omega arith) in
    cc

-- what one step without a fault gives, in the words of the source
record StepIs (s x : List Bool) (q : ℕ) (w : List Bool) : Type 0 where
  next : ℕ
  arrives : state_at toggle_plan (drop 2 w) ≡ Some next
  outputs : AllowsOutputs toggle_source 1 q x (take 1 w)
  next_allowed : AllowsNext toggle_source 1 q x next
  codeword : IsCodeword toggle_plan w

first_state : (x : List Bool) → StepIs (false ∷ true ∷ []) x 0 (word_of (bit x 0) false true)
first_state [] = record { next = 0; arrives = refl; outputs = record { sized = refl; each = λ place h. inr refl }; next_allowed = inl refl; codeword = record { checked = refl; weighed = refl } }
first_state (false ∷ x) = record { next = 0; arrives = refl; outputs = record { sized = refl; each = λ place h. inr refl }; next_allowed = inl refl; codeword = record { checked = refl; weighed = refl } }
first_state (true ∷ x) = record { next = 1; arrives = refl; outputs = record { sized = refl; each = λ place h. inr refl }; next_allowed = inl refl; codeword = record { checked = refl; weighed = refl } }

second_state : (x : List Bool) → StepIs (true ∷ false ∷ []) x 1 (word_of (bit x 0) true false)
second_state [] = record { next = 1; arrives = refl; outputs = record { sized = refl; each = λ place h. inr refl }; next_allowed = inl refl; codeword = record { checked = refl; weighed = refl } }
second_state (false ∷ x) = record { next = 1; arrives = refl; outputs = record { sized = refl; each = λ place h. inr refl }; next_allowed = inl refl; codeword = record { checked = refl; weighed = refl } }
second_state (true ∷ x) = record { next = 0; arrives = refl; outputs = record { sized = refl; each = λ place h. inr refl }; next_allowed = inl refl; codeword = record { checked = refl; weighed = refl } }

none_short : (a : Bool) (q : ℕ) → state_at toggle_plan (a ∷ []) ≡ Some q → ⊥
none_short true q e = cc
none_short false q e = cc

none_long : (a b c : Bool) (s : List Bool) (q : ℕ) → state_at toggle_plan (a ∷ b ∷ c ∷ s) ≡ Some q → ⊥
none_long true true c s q e = cc
none_long true false c s q e = cc
none_long false true c s q e = cc
none_long false false c s q e = cc

step_is : (s x : List Bool) (q : ℕ) → state_at toggle_plan s ≡ Some q → StepIs s x q (word_of (bit x 0) (bit s 0) (bit s 1))
step_is [] x q e = absurd (cc)
step_is (a ∷ []) x q e = absurd (none_short a q e)
step_is (false ∷ true ∷ []) x q e = subst (λ z. StepIs (false ∷ true ∷ []) x z (word_of (bit x 0) false true)) (Some-same 0 q e) (first_state x)
step_is (true ∷ false ∷ []) x q e = subst (λ z. StepIs (true ∷ false ∷ []) x z (word_of (bit x 0) true false)) (Some-same 1 q e) (second_state x)
step_is (false ∷ false ∷ []) x q e = absurd (cc)
step_is (true ∷ true ∷ []) x q e = absurd (cc)
step_is (a ∷ b ∷ c ∷ s) x q e = absurd (none_long a b c s q e)

-- the small machine follows its source
pub toggle_follows : FollowsSource toggle_source toggle toggle_plan
toggle_follows = record {
  starts = refl;
  steps = λ q s x v traced settled.
      let w = toggle_word x s v settled in
      let step = step_is s x q traced in
      record {
        here = q;
        next = step.next;
        traced = traced;
        arrives = ap (λ z. state_at toggle_plan (drop 2 z)) w ∙ step.arrives;
        outputs = subst (λ z. AllowsOutputs toggle_source 1 q x (take 1 z)) (sym w) step.outputs;
        next_allowed = step.next_allowed;
      };
  codewords = λ q s x v traced settled. subst (IsCodeword toggle_plan) (sym (toggle_word x s v settled)) (step_is s x q traced).codeword;
}

-- the small machine is secure against any one failing cell, for its source
pub toggle_is_cell_secure : ToggleIsCellSecure
toggle_is_cell_secure = sound_is_cell_secure toggle_source toggle toggle_plan toggle_is_sound toggle_follows

pub toggle_is_fault_secure : ToggleIsFaultSecure
toggle_is_fault_secure = sound_is_fault_secure toggle_source toggle toggle_plan toggle_is_sound toggle_follows
