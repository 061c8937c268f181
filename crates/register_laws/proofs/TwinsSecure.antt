-- A twin has the structure that makes a netlist secure, and follows its source.
use Rattle.std.proofs.Common.{◌≡◌, ℕ, zero, suc, ◌+◌, ◌<◌, ◌≤◌, ◌⊎◌, inl, inr, Bool, List, [], ◌∷◌, ◌++◌, map, length, slice_index, slice_index_or, All, refl, sym, ap, ap₂, ◌∙◌, subst, arith}
use Rattle.std.proofs.lemmas.Bool.{cases_lt}
use Rattle.std.proofs.lemmas.List.{get_or-map, get_or_at, get_or_append_left, get_or-append_right, length_push, length-append, length-map}
use Rattle.std.proofs.lemmas.List.Elements.{All-nil, All-cons}
use Rattle.fault_secure.specs.Circuit.{Circuit, nets, bit}
use Rattle.fault_secure.specs.StuckAt.{NoFault}
use Rattle.fault_secure.specs.Run.{init_state, next_state}
use Rattle.fault_secure.specs.CodePlan.{members_from, members, concat_places}
use Rattle.fault_secure.specs.FailingCell.{IsCell}
use Rattle.fault_secure.specs.FaultSecure.{outputs_in}
use Rattle.structure_laws.proofs.FirstErrors.{CleanFrom, clean_from}
use Rattle.register_laws.specs.RegisterPlan.{RegisterPlan, IsOdd}
use Rattle.register_laws.specs.RegisterStructure.{Reaches, at, front_net, AreApart}
use Rattle.register_laws.specs.RegisterSecure.{shown, FollowsNetwork}
use Rattle.register_laws.specs.Twin.{Placing, IsTwin, TwinsAreSecure, TwinsAreFaultSecure}
use Rattle.register_laws.proofs.Secure.{registers_are_secure, registers_are_fault_secure}
use Rattle.register_laws.proofs.CopyBits.{map_renamed, SameStates, copy_bits, copy_next, copy_init}
use Rattle.register_laws.proofs.CopyReach.{IsReachedInSource, copy_reached}

-- ---- the members of a group: its outputs, and then its check

-- a place of a group is one of its outputs
abbrev IsOutputAt : ℕ → List (List ℕ) → ℕ → ℕ → Type 0
IsOutputAt check groups group a = (a < length (slice_index_or groups group [])) × (at (members_from check groups) group a ≡ at groups group a)

-- or its check
abbrev IsCheckAt : ℕ → List (List ℕ) → ℕ → ℕ → Type 0
IsCheckAt check groups group a = (a ≡ length (slice_index_or groups group [])) × (group < length groups) × (at (members_from check groups) group a ≡ check + group)

member_of : (check : ℕ) (groups : List (List ℕ)) (group a : ℕ) → a < length (slice_index_or (members_from check groups) group [])
    → IsOutputAt check groups group a ⊎ IsCheckAt check groups group a
member_of check [] group a h = absurd (omega arith)
member_of check (g ∷ groups) zero a h = elim (cases_lt a (length g)) [
  | inl l ↦ inl (l, get_or_append_left g (check ∷ []) 0 a l)
  | inr l ↦
      let last : length g ≡ a = omega (arith, length_push g check) in
      inr (sym last, omega arith, get_or_at g check [] 0 a last ∙ omega arith)
]
member_of check (g ∷ groups) (suc group) a h = elim (member_of (suc check) groups group a h) [
  | inl m ↦ inl m
  | inr m ↦ inr (m.0, omega (arith, m.1), m.2 ∙ omega arith)
]

-- what holds of all places of the groups holds of each
at_group : (Q : ℕ → Type 0) (groups : List (List ℕ)) (group a : ℕ) → All Q (concat_places groups) → a < length (slice_index_or groups group []) → Q (at groups group a)
at_group Q [] group a all h = absurd (omega arith)
at_group Q (g ∷ groups) zero a all h =
    subst Q (get_or_append_left g (concat_places groups) 0 a h) (all a 0 (omega (arith, h, length-append g (concat_places groups))))
at_group Q (g ∷ groups) (suc group) a all h =
    at_group Q groups group a
    (λ k d low. subst Q (get_or-append_right g (concat_places groups) (length g) (length g + k) d refl (omega arith) ∙ ap (λ n. slice_index_or (concat_places groups) n d) (omega arith))
    (all (length g + k) d (omega (arith, low, length-append g (concat_places groups))))) h

module _ (S N : Circuit) (P : RegisterPlan) (own copy : Placing) (t : IsTwin S N P own copy) where
  -- ---- groups are apart

  output_net : (place : ℕ) → place < P.plan.outputs → front_net N P place ≡ own.net (slice_index S.outputs place)
  output_net place h =
      let long : place < length S.outputs = (let e = t.counted in omega arith) in
      ap (λ ns. slice_index (ns ++ P.plan.checks) place) t.outputs
      ∙ get_or_append_left (map own.net S.outputs) P.plan.checks 0 place (omega (arith, long, length-map S.outputs own.net))
      ∙ get_or-map own.net S.outputs place 0 0 long

  check_net : (group : ℕ) → front_net N P (P.plan.outputs + group) ≡ slice_index P.plan.checks group
  check_net group =
      let long : length (map own.net S.outputs) ≡ P.plan.outputs = length-map S.outputs own.net ∙ t.counted in
      ap (λ ns. slice_index (ns ++ P.plan.checks) (P.plan.outputs + group)) t.outputs
      ∙ get_or-append_right (map own.net S.outputs) P.plan.checks (length (map own.net S.outputs)) (P.plan.outputs + group) 0 refl (omega arith)
      ∙ ap (λ n. slice_index P.plan.checks n) (omega arith)

  -- what reaches an output is a cell of the own copy
  output_reached : (cell group a : ℕ) → IsCell N cell → IsOutputAt P.plan.outputs P.plan.groups group a
      → Reaches N cell (front_net N P (at (members P.plan) group a)) → IsReachedInSource S own cell (slice_index S.outputs (at P.plan.groups group a))
  output_reached cell group a is m r =
      let low : at P.plan.groups group a < P.plan.outputs = at_group (λ place. place < P.plan.outputs) P.plan.groups group a t.groups.within m.0 in
      let e = t.counted in
      copy_reached S N own t.owns t.source_closed t.same_inputs cell is (slice_index S.outputs (at P.plan.groups group a))
      (t.source_closed.outputs (at P.plan.groups group a) 0 (omega arith))
      (subst (Reaches N cell) (ap (front_net N P) m.1 ∙ output_net (at P.plan.groups group a) low) r)

  are_apart : AreApart N P
  are_apart cell group a b is l k first second = elim (member_of P.plan.outputs P.plan.groups group a (omega arith)) [
    | inl m ↦ elim (member_of P.plan.outputs P.plan.groups group b k) [
      | inl n ↦ two_outputs m n (output_reached cell group a is m first) (output_reached cell group b is n second)
      | inr n ↦ output_and_check n (output_reached cell group a is m first)
    ]
    | inr m ↦ elim (member_of P.plan.outputs P.plan.groups group b k) [
      | inl n ↦ absurd (omega (arith, m.0, n.0, l))
      | inr n ↦ absurd (omega (arith, m.0, n.0, l))
    ]
  ]
    where
      two_outputs : IsOutputAt P.plan.outputs P.plan.groups group a → IsOutputAt P.plan.outputs P.plan.groups group b
          → IsReachedInSource S own cell (slice_index S.outputs (at P.plan.groups group a)) → IsReachedInSource S own cell (slice_index S.outputs (at P.plan.groups group b)) → ⊥
      two_outputs m n one two =
          let same : two.source ≡ one.source = t.owns.different two.source one.source two.is_cell.inside one.is_cell.inside (sym two.is ∙ one.is) in
          t.apart one.source group a b one.is_cell l n.0 one.reaches (subst (λ c. Reaches S c (slice_index S.outputs (at P.plan.groups group b))) same two.reaches)

      output_and_check : IsCheckAt P.plan.outputs P.plan.groups group b → IsReachedInSource S own cell (slice_index S.outputs (at P.plan.groups group a)) → ⊥
      output_and_check n one =
          t.checks_apart one.source group one.is_cell (omega (arith, n.1, t.groups.paired))
          (subst (λ c. Reaches N c (slice_index P.plan.checks group)) one.is (subst (Reaches N cell) (ap (front_net N P) n.2 ∙ check_net group) second))

  -- ---- without a fault it follows its source

  follow_from : (xs ws vs : List (List Bool)) (s r : List Bool) → SameStates S N own t.owns t.source_closed (bit s) (bit r)
      → SameStates S N copy t.copies t.source_closed (bit s) (bit r) → CleanFrom S s xs ws → CleanFrom N r xs vs
      → (map (outputs_in N P.plan) vs ≡ map (shown S) ws) × All (IsOdd N P) vs
  follow_from [] [] [] s r first second source run = (refl, All-nil (IsOdd N P))
  follow_from [] [] (v ∷ vs) s r first second source run = absurd run
  follow_from [] (w ∷ ws) vs s r first second source run = absurd source
  follow_from (x ∷ xs) [] vs s r first second source run = absurd source
  follow_from (x ∷ xs) (w ∷ ws) [] s r first second source run = absurd run
  follow_from (x ∷ xs) (w ∷ ws) (v ∷ vs) s r first second source run =
      let inside : S.inputs ≤ N.inputs = omega (arith, t.same_inputs) in
      let own_bits : (net : ℕ) → net < nets S → bit v (own.net net) ≡ bit w net =
      copy_bits S N own t.owns t.source_closed (bit x) (bit x) (bit s) (bit r) w v (λ i h. refl) inside first source.0 run.0 t.source_acyclic in
      let other_bits : (net : ℕ) → net < nets S → bit v (copy.net net) ≡ bit w net =
      copy_bits S N copy t.copies t.source_closed (bit x) (bit x) (bit s) (bit r) w v (λ i h. refl) inside second source.0 run.0 t.source_acyclic in
      let odd : IsOdd N P v = t.foretold (bit x) (bit r) v run.0 (λ n h. own_bits n h ∙ sym (other_bits n h)) in
      let outputs : outputs_in N P.plan v ≡ shown S w =
      ap (map (bit v)) t.outputs ∙ map_renamed (bit v) (bit w) own.net S.outputs (λ i h. own_bits (slice_index S.outputs i) (t.source_closed.outputs i 0 h)) in
      let rest = follow_from xs ws vs (next_state S NoFault w) (next_state N NoFault v)
      (copy_next S N own t.owns t.source_closed (bit x) (bit x) (bit s) (bit r) w v (λ i h. refl) inside first source.0 run.0 t.source_acyclic)
      (copy_next S N copy t.copies t.source_closed (bit x) (bit x) (bit s) (bit r) w v (λ i h. refl) inside second source.0 run.0 t.source_acyclic)
      source.1 run.1 in
      (ap₂ ◌∷◌ outputs rest.0, All-cons (IsOdd N P) v vs odd rest.1)

  follows : FollowsNetwork S N P
  follows = record {
    outputs = λ m w xs ws vs source run. (both m w xs ws vs (clean_from S (init_state S) m xs ws source) (clean_from N (init_state N) w xs vs run)).0;
    odd = λ m w xs ws vs source run. (both m w xs ws vs (clean_from S (init_state S) m xs ws source) (clean_from N (init_state N) w xs vs run)).1;
  }
    where
      both : (m w : List Bool) (xs ws vs : List (List Bool)) → CleanFrom S (init_state S) xs ws → CleanFrom N (init_state N) xs vs
          → (map (outputs_in N P.plan) vs ≡ map (shown S) ws) × All (IsOdd N P) vs
      both m w xs ws vs source run = follow_from xs ws vs (init_state S) (init_state N)
          (copy_init S N own t.owns t.source_closed) (copy_init S N copy t.copies t.source_closed) source run

pub twins_are_secure : TwinsAreSecure
twins_are_secure S N P own copy t =
    registers_are_secure S N P t.source_acyclic
    (record { groups = t.groups; acyclic = t.acyclic; apart = are_apart S N P own copy t; checker = t.checker }) (follows S N P own copy t)

pub twins_are_fault_secure : TwinsAreFaultSecure
twins_are_fault_secure S N P own copy t = registers_are_fault_secure S N P t.acyclic (twins_are_secure S N P own copy t)
