-- Predictors foretell their groups: each is one copy with one check over it, and one stretch stands after another.
use Rattle.std.proofs.Common.{◌≡◌, ℕ, zero, suc, ◌+◌, ◌-◌, ◌<◌, ◌≤◌, inl, inr, Bool, not, List, [], ◌∷◌, ◌++◌, map, length, slice_index, slice_index_or, All, refl, sym, ap, subst, arith, length-append, append-nil}
use Rattle.std.proofs.lemmas.Bool.{cases_lt}
use Rattle.std.proofs.lemmas.List.Elements.{All-nil, All-cons, All-head, All-tail}
use Rattle.fault_secure.specs.Circuit.{Circuit, NodeOf, pin_net, bit}
use Rattle.fault_secure.specs.Closed.{IsClosed}
use Rattle.fault_secure.specs.Segment.{IsNetBetween}
use Rattle.fault_secure.specs.Settle.{Ranks, Settles}
use Rattle.fault_secure.specs.Stretch.{StretchSettles}
use Rattle.fault_secure.specs.StuckAt.{NoFault}
use Rattle.tsc_bits.specs.Counting.{odd}
use Rattle.net_cones.specs.Cones.{IsCone}
use Rattle.parity_code.specs.Copy.{IsCopied}
use Rattle.parity_code.specs.Foretold.{Foretells}
use Rattle.parity_code.specs.GroupChecks.{shared_checks}
use Rattle.parity_code.specs.ParityFunction.{outputs_at}
use Rattle.parity_code.specs.ParityCircuit.{copy_net, copied_nodes, parity_nodes, predictor_nodes, GroupCone, IsGroupCone, size_of, all_predictors, check_nets, predictors_end, StandAt}
use Rattle.parity_code.proofs.GroupStands.{Inside, wider}
use Rattle.parity_code.proofs.OutputsCopied.{outputs_copied}
use Rattle.parity_code.proofs.ParityCircuit.{stand_left, stand_right, length-predictor_nodes}
use Rattle.parity_code.proofs.SharedForetell.{shared_foretell}

-- one copy with the check of one group over it is the predictor of the group
pub predictor_shared : (C : Circuit) (cone group : List ℕ) (base : ℕ) → shared_checks C cone (group ∷ []) base ≡ predictor_nodes C cone group base
predictor_shared C cone group base =
    ap (λ (nodes : List NodeOf). copied_nodes C cone base ++ nodes) (append-nil (parity_nodes C.inputs (base + length cone) (map (copy_net C cone base) (outputs_at C group))))

module _ (C N : Circuit) (group : List ℕ) (check : ℕ) (groups : List (List ℕ)) (checks : List ℕ) (base middle top : ℕ) (one : Foretells C N (group ∷ []) (check ∷ []) base middle) (rest : Foretells C N groups checks middle top) where
  low : base ≤ middle
  low = one.ordered

  high : middle ≤ top
  high = rest.ordered

  -- what a later stretch reads, the whole reads
  deeper : (m : ℕ) → Inside N middle top m → Inside N base top m
  deeper m (inl input) = inl input
  deeper m (inr between) = inr (omega (arith, between.0, low), between.1)

  checks_within : (i : ℕ) → i < length (check ∷ checks) → IsNetBetween N base top (slice_index (check ∷ checks) i)
  checks_within zero there = let b = one.within 0 (omega arith) in (b.0, omega (arith, b.1, high))
  checks_within (suc i) there = let b = rest.within i (omega (arith, there)) in (omega (arith, b.0, low), b.1)

  checks_foretell : (x s : ℕ → Bool) (u v : List Bool) → Settles C NoFault x s v → ((i : ℕ) → i < C.inputs → bit u i ≡ bit v i) → StretchSettles N u base top → (i : ℕ) → i < length (group ∷ groups)
      → bit u (slice_index (check ∷ checks) i) ≡ not (odd (map (bit v) (outputs_at C (slice_index_or (group ∷ groups) i []))))
  checks_foretell x s u v source inputs settles zero there =
      one.foretold x s u v source inputs (record { nodes = λ j above below. settles.nodes j above (omega (arith, below, high)) }) 0 (omega arith)
  checks_foretell x s u v source inputs settles (suc i) there =
      rest.foretold x s u v source inputs (record { nodes = λ j above below. settles.nodes j (omega (arith, above, low)) below }) i (omega (arith, there))

  -- one group more, in a stretch of its own
  pub foretells_more : Foretells C N (group ∷ groups) (check ∷ checks) base top
  foretells_more = record {
    ordered = omega (arith, low, high);
    closed = record {
      reads = λ j pin from to has.
          elim (cases_lt j middle) [
            | inl first ↦ wider N base middle top (pin_net N j pin) high (one.closed.reads j pin from first has)
            | inr second ↦ deeper (pin_net N j pin) (rest.closed.reads j pin (omega (arith, second)) to has)
          ];
    };
    sound = λ sound. rest.sound (one.sound sound);
    paired = ap suc rest.paired;
    within = checks_within;
    foretold = checks_foretell;
  }

module _ (C N : Circuit) (latchless : (length C.latches ≡ 0) × (length N.latches ≡ 0)) (same_inputs : N.inputs ≡ C.inputs) (closed : IsClosed C) (rank : ℕ → ℕ) (ranks : Ranks C rank) where
  -- a predictor foretells its group
  one_foretells : (cone group : List ℕ) (base : ℕ) → 0 < length group → All (λ place. place < length C.outputs) group → IsCone C (outputs_at C group) cone → StandAt N base (predictor_nodes C cone group base)
      → Foretells C N (group ∷ []) ((C.inputs + (base + (length cone + length group) - 1)) ∷ []) base (base + (length cone + length group))
  one_foretells cone group base filled within is stand =
      let stands : StandAt N base (shared_checks C cone (group ∷ []) base) = subst (StandAt N base) (sym (predictor_shared C cone group base)) stand in
      let one : Foretells C N (group ∷ []) ((C.inputs + (base + length cone + length group - 1)) ∷ []) base (base + length cone + length (group ++ []))
      = shared_foretell C N latchless same_inputs closed.pins rank ranks (outputs_at C group) cone is (group ∷ []) (All-cons (λ (g : List ℕ). 0 < length g) group [] filled (All-nil (λ (g : List ℕ). 0 < length g)))
      (All-cons (λ g. All (IsCopied C cone) (outputs_at C g)) group [] (outputs_copied C latchless.0 closed cone group is within) (All-nil (λ g. All (IsCopied C cone) (outputs_at C g)))) base stands in
      let at : C.inputs + (base + length cone + length group - 1) ≡ C.inputs + (base + (length cone + length group) - 1) = omega arith in
      let end : base + length cone + length (group ++ []) ≡ base + (length cone + length group) = omega (arith, length-append group []) in
      subst (λ (n : ℕ). Foretells C N (group ∷ []) (n ∷ []) base (base + (length cone + length group))) at
      (subst (Foretells C N (group ∷ []) ((C.inputs + (base + length cone + length group - 1)) ∷ []) base) end one)

  -- and predictors foretell their groups
  pub predictors_foretell : (groups : List GroupCone) (base : ℕ) → All (IsGroupCone C) groups → StandAt N base (all_predictors C groups base)
      → Foretells C N (map (λ g. g.group) groups) (check_nets C.inputs groups base) base (predictors_end groups base)
  predictors_foretell [] base all stand = record {
    ordered = omega arith;
    closed = record { reads = λ j pin from to has. absurd (omega (arith, from, to)) };
    sound = λ sound. sound;
    paired = refl;
    within = λ i there. absurd (omega (arith, there));
    foretold = λ x s u v source inputs settles i there. absurd (omega (arith, there));
  }
  predictors_foretell (g ∷ groups) base all stand =
      let is : IsGroupCone C g = All-head (IsGroupCone C) g groups all in
      let size : length (predictor_nodes C g.cone g.group base) ≡ size_of g = length-predictor_nodes C g.cone g.group base is.filled in
      let behind : StandAt N (base + size_of g) (all_predictors C groups (base + size_of g))
      = subst (λ k. StandAt N (base + k) (all_predictors C groups (base + size_of g))) size
      (stand_right N base (predictor_nodes C g.cone g.group base) (all_predictors C groups (base + size_of g)) stand) in
      foretells_more C N g.group (C.inputs + (base + size_of g - 1)) (map (λ g. g.group) groups) (check_nets C.inputs groups (base + size_of g)) base (base + size_of g) (predictors_end groups (base + size_of g))
      (one_foretells g.cone g.group base is.filled is.within is.cone (stand_left N base (predictor_nodes C g.cone g.group base) (all_predictors C groups (base + size_of g)) stand))
      (predictors_foretell groups (base + size_of g) (All-tail (IsGroupCone C) g groups all) behind)
