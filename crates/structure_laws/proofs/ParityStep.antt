-- One step of a parity netlist: a word that a failing cell changed is no codeword.
use Rattle.std.proofs.Common.{◌≡◌, ℕ, zero, suc, ◌+◌, ◌<◌, ◌⊎◌, inl, inr, Bool, true, false, not, List, [], ◌∷◌, ◌++◌, take, length, slice_index, slice_index_or, refl, ap, ap₂, sym, ◌∙◌, subst, arith, true≢false, length-append, length-take}
use Rattle.std.proofs.lemmas.Bool.{cases_lt}
use Rattle.std.proofs.lemmas.List.{get_or-map, get_or_past, length-map}
use Rattle.fault_secure.specs.declared.code.Code.TheVariants.{Parity}
use Rattle.fault_secure.specs.Circuit.{Circuit, node_net, bit}
use Rattle.fault_secure.specs.Settle.{Acyclic}
use Rattle.fault_secure.specs.CodePlan.{CodePlan, next_nets, monitored, word, bits_at, members, HasGroups, HasShape, IsChecked, IsCodeword, IsPlanOf}
use Rattle.tsc_bits.specs.Counting.{odd}
use Rattle.fault_secure.specs.Depends.{Depends}
use Rattle.fault_secure.specs.Structure.{HasDisjointCones}
use Rattle.fault_secure.specs.FailingCell.{IsCell, SettlesBut}
use Rattle.fault_secure.proofs.Places.{Place, place_of}
use Rattle.fault_secure.proofs.Places.Place.{Input, Latch, Node, Beyond}
use Rattle.structure_laws.specs.FirstError.{ParityIsSafe}
use Rattle.structure_laws.proofs.FailingCell.{working}
use Rattle.structure_laws.proofs.Outside.{outside_cone_unchanged}
use Rattle.structure_laws.proofs.Groups.{InGroup, parity_flips, place_in_group}

-- two bits are the same, or they aren't
pub same_bit : (a b : Bool) → (a ≡ b) ⊎ (a ≡ b → ⊥)
same_bit true true = inl refl
same_bit false false = inl refl
same_bit true false = inr true≢false
same_bit false true = inr (λ e. true≢false (sym e))

-- a place at which two words of bits differ
pub record DifferAt (a b : List Bool) : Type 0 where
  pub place : ℕ
  pub within : place < length a
  pub apart : bit a place ≡ bit b place → ⊥

differ_later : (c d : Bool) (a b : List Bool) → DifferAt a b → DifferAt (c ∷ a) (d ∷ b)
differ_later c d a b h = record { place = suc h.place; within = (let l = h.within in omega arith); apart = h.apart }

differ_heads : (c d : Bool) (a b : List Bool) → (c ≡ d) ⊎ (c ≡ d → ⊥) → (a ≡ b) ⊎ DifferAt a b → (c ∷ a ≡ d ∷ b) ⊎ DifferAt (c ∷ a) (d ∷ b)
differ_heads c d a b (inl e) (inl h) = inl (ap₂ ◌∷◌ e h)
differ_heads c d a b (inl e) (inr h) = inr (differ_later c d a b h)
differ_heads c d a b (inr n) h = inr (record { place = zero; within = omega arith; apart = n })

-- two words of the same length are the same, or differ at a place
pub same_or_differ : (a b : List Bool) → length a ≡ length b → (a ≡ b) ⊎ DifferAt a b
same_or_differ [] [] e = inl refl
same_or_differ [] (d ∷ b) e = absurd (omega arith)
same_or_differ (c ∷ a) [] e = absurd (omega arith)
same_or_differ (c ∷ a) (d ∷ b) e = differ_heads c d a b (same_bit c d) (same_or_differ a b (omega arith))

pub word_bit : (N : Circuit) (P : CodePlan) (v : List Bool) (place : ℕ) → place < length (monitored N P) → bit (word N P v) place ≡ bit v (slice_index (monitored N P) place)
word_bit N P v place h = get_or-map (bit v) (monitored N P) place 0 false h

pub word_length : (N : Circuit) (P : CodePlan) (v : List Bool) → length (word N P v) ≡ length (monitored N P)
word_length N P v = length-map (monitored N P) (bit v)

-- two words are the same, or differ at a place
pub words_differ : (N : Circuit) (P : CodePlan) (v u : List Bool) → (word N P v ≡ word N P u) ⊎ DifferAt (word N P v) (word N P u)
words_differ N P v u = same_or_differ (word N P v) (word N P u) (word_length N P v ∙ sym (word_length N P u))

-- without latches the word has the outputs and the checks
pub monitored_length : (N : Circuit) (P : CodePlan) → IsPlanOf N P → length N.latches ≡ 0 → length (monitored N P) ≡ P.outputs + length P.checks
monitored_length N P plan none =
    let a = length-append (take P.outputs N.outputs ++ P.checks) (next_nets N) in
    let b = length-append (take P.outputs N.outputs) P.checks in
    let c = length-take P.outputs N.outputs in
    let d = length-map N.latches (λ l. l.reads) in
    let e = plan.outputs in
    omega arith

-- the places of the word that a failing node may change: those whose nets depend on it
abbrev pub Reached : Circuit → CodePlan → ℕ → ℕ → Type 0
Reached N P q place = Depends N q (slice_index (monitored N P) place)

module _ (N : Circuit) (P : CodePlan) (q : ℕ) (x s : ℕ → Bool) (v u : List Bool) (acyclic : Acyclic N)
    (first : SettlesBut N (node_net N q) x s v) (second : SettlesBut N (node_net N q) x s u) where
  pub word_outside : (place : ℕ) → (Reached N P q place → ⊥) → bit (word N P u) place ≡ bit (word N P v) place
  word_outside place free = elim (cases_lt place (length (monitored N P))) [
    | inl h ↦ word_bit N P u place h
        ∙ sym (outside_cone_unchanged N q x s v u acyclic first second (slice_index (monitored N P) place) free)
        ∙ sym (word_bit N P v place h)
    | inr h ↦ get_or_past (word N P u) place false (let e = word_length N P u in omega arith)
        ∙ sym (get_or_past (word N P v) place false (let e = word_length N P v in omega arith))
  ]

  -- the group of the changed place has lost its parity
  group_flips : HasDisjointCones N P → (d : DifferAt (word N P u) (word N P v)) (g : InGroup (members P) d.place)
      → odd (bits_at (word N P u) (slice_index_or (members P) g.group [])) ≡ not (odd (bits_at (word N P v) (slice_index_or (members P) g.group [])))
  group_flips cones d g =
      parity_flips (word N P u) (word N P v) (Reached N P q) word_outside (slice_index_or (members P) g.group [])
      (λ a b l k one two. cones.disjoint g.group a b l k (record { shared = q; first = one; second = two }))
      g.index g.within (subst (λ place. bit (word N P u) place ≡ bit (word N P v) place → ⊥) (sym g.is) d.apart)

  -- under code Parity a changed word is no codeword
  changed_no_codeword : P.code ≡ Parity → HasGroups P → IsPlanOf N P → HasDisjointCones N P
      → IsCodeword P (word N P v) → DifferAt (word N P u) (word N P v) → IsCodeword P (word N P u) → ⊥
  changed_no_codeword parity groups plan cones before d after =
      let size = monitored_length N P plan cones.no_latch in
      let length_u = word_length N P u in
      let g = place_in_group P groups d.place (let l = d.within in omega arith) in
      let odd_v : odd (bits_at (word N P v) (slice_index_or (members P) g.group [])) ≡ true =
      (subst (λ code. IsChecked code P (word N P v)) parity before.checked) g.group [] g.there in
      let odd_u : odd (bits_at (word N P u) (slice_index_or (members P) g.group [])) ≡ true =
      (subst (λ code. IsChecked code P (word N P u)) parity after.checked) g.group [] g.there in
      true≢false (sym odd_u ∙ group_flips cones d g ∙ ap not odd_v)

-- without latches a node drives a cell's net
node_of_cell : (N : Circuit) (cell : ℕ) → length N.latches ≡ 0 → IsCell N cell → Place N cell → (q : ℕ) × (cell ≡ node_net N q)
node_of_cell N cell none is (Input h) = absurd (let l = is.no_input in omega arith)
node_of_cell N cell none is (Latch j h e) = absurd (omega arith)
node_of_cell N cell none is (Node j h e) = (j, e)
node_of_cell N cell none is (Beyond h) = absurd (let l = is.inside in omega arith)

-- under code Parity, with disjoint cones in each group, no failing cell makes a wrong codeword
pub parity_is_safe : ParityIsSafe
parity_is_safe N P cell parity well plan acyclic cones is x s v u settled held before after =
    let found = node_of_cell N cell cones.no_latch is (place_of N cell) in
    elim (words_differ N P u v) [
      | inl e ↦ e
      | inr d ↦ absurd (changed_no_codeword N P found.0 x s v u acyclic
          (working N (node_net N found.0) x s v settled) (subst (λ c. SettlesBut N c x s u) found.1 held)
          parity (subst (λ code. HasShape code P) parity well.shape) plan cones before d after)
    ]
