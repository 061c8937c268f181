-- The groups of a source are apart, in the source and in the part that is kept of it.
use Rattle.std.proofs.Common.{◌≡◌, ℕ, zero, suc, ◌<◌, if◌then◌else◌, Bool, true, false, List, [], ◌∷◌, map, length, slice_index, slice_index_or, All, refl, sym, ap, ◌∙◌, subst, arith}
use Rattle.std.proofs.lemmas.Bool.{lt-ltb, false≢true}
use Rattle.std.proofs.lemmas.List.{get_or-map, length-map}
use Rattle.std.proofs.lemmas.List.Elements.{All-head, All-tail, All-get_or}
use Rattle.fault_secure.specs.Circuit.{Circuit, NodeOf, node, pin_net}
use Rattle.fault_secure.specs.Closed.{IsClosed}
use Rattle.fault_secure.specs.FailingCell.{IsCell}
use Rattle.fault_secure.proofs.Places.{Place, place_of}
use Rattle.fault_secure.proofs.Places.Place.{Input, Latch, Node, Beyond}
use Rattle.parity_code.specs.FirstFit.{first_fit}
use Rattle.parity_code.proofs.FirstFitLemmas.{Apart, first_fit-apart, first_fit-within, first_fit-filled, first_fit-count}
use Rattle.parity_code.proofs.PlacesWithin.{places_within}
use Rattle.register_laws.specs.RegisterPlan.{next_net}
use Rattle.register_laws.specs.RegisterStructure.{Reaches, at}
use Rattle.register_laws.specs.RegisterStructure.Reaches.{own, through, across}
use Rattle.register_laws.specs.Twin.{Placing, HasCopy}
use Rattle.register_synth.specs.RegisterGroups.{AreRegisterGroups}
use Rattle.register_synth.specs.TwinLaws.{AreGroupsApart, GroupsApartInPart}
use Rattle.register_synth.specs.Kept.{kept_part, kept_place, kept_net}
use Rattle.register_synth.proofs.KeptPart.{kept_is_part}
use Rattle.register_synth.proofs.TwinMade.{IsGrouping}

-- ---- in the source

none_apart : (shares : ℕ → ℕ → Bool) → Apart shares []
unfolding Apart
none_apart shares a b low high = absurd (omega arith)

apart_at : (shares : ℕ → ℕ → Bool) (groups : List (List ℕ)) → All (Apart shares) groups → (i : ℕ) → Apart shares (slice_index_or groups i [])
apart_at shares [] all i = none_apart shares
apart_at shares (group ∷ groups) all zero = All-head (Apart shares) group groups all
apart_at shares (group ∷ groups) all (suc i) = apart_at shares groups (All-tail (Apart shares) group groups all) i

apart_pair : (shares : ℕ → ℕ → Bool) (group : List ℕ) → Apart shares group → (a b : ℕ) → a < b → b < length group → shares (slice_index group b) (slice_index group a) ≡ false
unfolding Apart
apart_pair shares group apart a b low high = apart a b low high

module _ (C : Circuit) (groups : List (List ℕ)) (are : AreRegisterGroups C groups) where
  pub grouping : IsGrouping (length C.outputs) groups
  grouping = subst (IsGrouping (length C.outputs)) (sym are.fit) (record {
    filled = first_fit-filled are.shares (length C.outputs);
    within = first_fit-within are.shares (length C.outputs) (length C.outputs) (omega arith);
    once = λ place h. first_fit-count are.shares place (length C.outputs) ∙ ap (λ b. if b then 1 else 0) (lt-ltb place (length C.outputs) h);
    each_within = places_within (λ place. place < length C.outputs) (first_fit are.shares (length C.outputs)) (first_fit-within are.shares (length C.outputs) (length C.outputs) (omega arith));
  })

  pub groups_apart : AreGroupsApart C groups
  groups_apart cell group a b is low high one two =
      let a_in : at groups group a < length C.outputs = All-get_or (λ place. place < length C.outputs) (slice_index_or groups group []) a 0 (omega arith) (grouping.each_within group) in
      let b_in : at groups group b < length C.outputs = All-get_or (λ place. place < length C.outputs) (slice_index_or groups group []) b 0 high (grouping.each_within group) in
      let no : are.shares (at groups group b) (at groups group a) ≡ false
      = apart_pair are.shares (slice_index_or groups group [])
      (subst (λ gs. Apart are.shares (slice_index_or gs group [])) (sym are.fit) (apart_at are.shares (first_fit are.shares (length C.outputs)) (first_fit-apart are.shares (length C.outputs)) group))
      a b low high in
      let yes : are.shares (at groups group b) (at groups group a) ≡ true
      = (are.exact (at groups group b) (at groups group a) b_in a_in).1 (record { cell = cell; is_cell = is; first = two; second = one }) in
      false≢true (sym no ∙ yes)

-- ---- in a copy within the source

module _ (T S : Circuit) (place : Placing) (closed : IsClosed T) (inputs : S.inputs ≡ T.inputs) (copy : HasCopy T S place) where
  pin_at : (j pin : ℕ) → j < length T.nodes → pin < length (node T j).reads
      → (pin < length (node S (place.node_at j)).reads) × (pin_net S (place.node_at j) pin ≡ place.net (pin_net T j pin))
  pin_at j pin h l =
      let reads : (node S (place.node_at j)).reads ≡ map place.net (node T j).reads = ap (λ (n : NodeOf). n.reads) (copy.covers j h) in
      (omega (arith, l, ap length reads, length-map (node T j).reads place.net), ap (λ ns. slice_index ns pin) reads ∙ get_or-map place.net (node T j).reads pin 0 0 l)

  -- what reaches a net of the part reaches it in the whole
  copied_reaches : (cell net : ℕ) → Reaches T cell net → Reaches S (place.net cell) (place.net net)
  copied_reaches cell _ (own net e) = own (place.net net) (ap place.net e)
  copied_reaches cell _ (through net j pin h e l r) =
      let p = pin_at j pin h l in
      through (place.net net) (place.node_at j) pin (copy.node_in j h) (ap place.net e ∙ copy.nodes j h) p.0
      (subst (Reaches S (place.net cell)) (sym p.1) (copied_reaches cell (pin_net T j pin) r))
  copied_reaches cell _ (across net l h e r) =
      across (place.net net) (place.latch_at l) (copy.latch_in l h) (ap place.net e ∙ copy.latches l h)
      (subst (Reaches S (place.net cell)) (sym (copy.reads l h)) (copied_reaches cell (next_net T l) r))

  -- a cell stands for a cell
  cell_at : (cell : ℕ) → IsCell T cell → Place T cell → IsCell S (place.net cell)
  cell_at cell is (Input h) = absurd (let a = is.no_input in omega arith)
  cell_at cell is (Latch l h e) = record { no_input = omega (arith, ap place.net e, copy.latches l h); inside = omega (arith, ap place.net e, copy.latches l h, copy.latch_in l h) }
  cell_at cell is (Node j h e) = record { no_input = omega (arith, ap place.net e, copy.nodes j h); inside = omega (arith, ap place.net e, copy.nodes j h, copy.node_in j h) }
  cell_at cell is (Beyond h) = absurd (let a = is.inside in omega arith)

-- the groups are apart in the part that is kept
pub groups_apart_in_part : GroupsApartInPart
groups_apart_in_part S registers covers groups closed acyclic kept are cell group a b is low high one two =
    let T = kept_part S registers covers in
    let place = kept_place S registers covers in
    let part = kept_is_part S registers covers closed acyclic kept in
    let a_in : at groups group a < length S.outputs = All-get_or (λ o. o < length S.outputs) (slice_index_or groups group []) a 0 (omega arith) ((grouping S groups are).each_within group) in
    let b_in : at groups group b < length S.outputs = All-get_or (λ o. o < length S.outputs) (slice_index_or groups group []) b 0 high ((grouping S groups are).each_within group) in
    groups_apart S groups are ((kept_place S registers covers).net cell) group a b
    (cell_at (kept_part S registers covers) S (kept_place S registers covers) part.closed refl part.copy cell is (place_of (kept_part S registers covers) cell)) low high
    (subst (Reaches S ((kept_place S registers covers).net cell)) (shown_at (at groups group a) a_in)
    (copied_reaches (kept_part S registers covers) S (kept_place S registers covers) part.closed refl part.copy cell (slice_index (kept_part S registers covers).outputs (at groups group a)) one))
    (subst (Reaches S ((kept_place S registers covers).net cell)) (shown_at (at groups group b) b_in)
    (copied_reaches (kept_part S registers covers) S (kept_place S registers covers) part.closed refl part.copy cell (slice_index (kept_part S registers covers).outputs (at groups group b)) two))
  where
    shown_at : (o : ℕ) → o < length S.outputs → (kept_place S registers covers).net (slice_index (kept_part S registers covers).outputs o) ≡ slice_index S.outputs o
    shown_at o h =
        let part = kept_is_part S registers covers closed acyclic kept in
        let count : length (kept_part S registers covers).outputs ≡ length S.outputs = length-map S.outputs (kept_net S registers covers) in
        sym (get_or-map (kept_place S registers covers).net (kept_part S registers covers).outputs o 0 0 (omega arith))
        ∙ sym (ap (λ ns. slice_index ns o) part.outputs)
