-- Nets that have lines: along the evaluation order, what a node reads has some.
use Rattle.std.proofs.Common.{◌≡◌, ℕ, suc, ◌+◌, ◌-◌, ◌<◌, ◌≤◌, ◌==◌, List, [], ◌∷◌, length, slice_index, slice_index_or, get_or, set, Option, None, Some, All, Contains, inl, inr, refl, sym, ◌∙◌, ap, subst, arith}
use Rattle.std.specs.List.{AllZip}
use Rattle.std.proofs.lemmas.Bool.{cases_lt, eqb-true}
use Rattle.std.proofs.lemmas.List.{get_or-set_same, get_or-set_other, get_or_past, get_or_default, get_or-map, length-map}
use Rattle.std.proofs.lemmas.List.Sums.{passes_at_first}
use Rattle.fault_secure.specs.Circuit.{Circuit, NodeOf, node, node_net, no_node, nets}
use Rattle.fault_secure.specs.Closed.{IsClosed}
use Rattle.tsc_net.specs.Order.{fan_in, fan_ins, place_in, IsOrder}
use Rattle.tsc_net.specs.PlanView.{net_numbers}
use Rattle.tsc_net.specs.declared.ids.NetId.{NetId}
use Rattle.tsc_net.proofs.AcyclicLemmas.{fan_in-has}
use Rattle.gate_net.specs.declared.line.Line.{Line}
use Rattle.gate_net.specs.NetLines.{HasLine, IsLined, AreLinedTo}

none_some : (line : Line) → None ≡ Some line → ⊥
none_some line e = cc

-- a net that has a line is one of the list
pub lined-within : (lines : List (Option Line)) (net : ℕ) → IsLined lines net → net < length lines
lined-within lines net h = elim (cases_lt net (length lines)) [
  | inl lt ↦ lt
  | inr le ↦ absurd (none_some h.0 (sym (get_or_past lines net None le) ∙ h.1))
]

-- a line more leaves those that are there
pub lined-kept : (lines : List (Option Line)) (place net : ℕ) (line : Line) → IsLined lines net → IsLined (set lines place (Some line)) net
lined-kept lines place net line h = elim (cases_lt net place) [
  | inl low ↦ (h.0, get_or-set_other lines place net (Some line) None (λ (e : net ≡ place). omega arith) ∙ h.1)
  | inr high ↦ (elim (cases_lt place net) [
    | inl low ↦ (h.0, get_or-set_other lines place net (Some line) None (λ (e : net ≡ place). omega arith) ∙ h.1)
    | inr least ↦ (
        let e : place ≡ net = omega arith in
        let within = lined-within lines net h in
        subst (IsLined (set lines place (Some line))) e (line, get_or-set_same lines place (Some line) None (omega (arith, e, within))))
  ])
]

pub lined-new : (lines : List (Option Line)) (place : ℕ) (line : Line) → place < length lines → IsLined (set lines place (Some line)) place
lined-new lines place line lt = (line, get_or-set_same lines place (Some line) None lt)

-- the inputs, one more
pub input-lined : (N : Circuit) (lines : List (Option Line)) (i : ℕ) (line : Line) → i < length lines → ((net : ℕ) → net < i → IsLined lines net)
    → (net : ℕ) → net < i + 1 → IsLined (set lines i (Some line)) net
input-lined N lines i line within lined net lt = elim (cases_lt net i) [
  | inl low ↦ lined-kept lines i net line (lined net low)
  | inr le ↦ (let e : i ≡ net = omega arith in subst (IsLined (set lines i (Some line))) e (lined-new lines i line within))
]

-- the nodes of an order, one more
pub node-lined : (N : Circuit) (order : List ℕ) (lines : List (Option Line)) (i : ℕ) (line : Line) → node_net N (slice_index order i) < length lines → AreLinedTo N order i lines
    → AreLinedTo N order (i + 1) (set lines (node_net N (slice_index order i)) (Some line))
node-lined N order lines i line within lined = record {
  inputs = λ net lt. lined-kept lines (node_net N (slice_index order i)) net line (lined.inputs net lt);
  nodes = λ k low inside. elim (cases_lt k i) [
    | inl before ↦ lined-kept lines (node_net N (slice_index order i)) (node_net N (slice_index order k)) line (lined.nodes k before inside)
    | inr le ↦ (let e : i ≡ k = omega arith in
        subst (λ (j : ℕ). IsLined (set lines (node_net N (slice_index order i)) (Some line)) (node_net N (slice_index order j))) e (lined-new lines (node_net N (slice_index order i)) line within))
  ];
}

-- before the first node
pub none-lined : (N : Circuit) (order : List ℕ) (lines : List (Option Line)) → AreLinedTo N [] 0 lines → AreLinedTo N order 0 lines
none-lined N order lines h = record { inputs = h.inputs; nodes = λ k low inside. absurd (omega arith) }

module _ (N : Circuit) (latchless : length N.latches ≡ 0) (closed : IsClosed N) (order : List ℕ) (whole : IsOrder (fan_ins N) order) where
  fans_sized : length (fan_ins N) ≡ length N.nodes
  fans_sized = length-map N.nodes (λ (n : NodeOf). fan_in (N.inputs + length N.latches) n.reads)

  pub place_within : (i : ℕ) → i < length order → slice_index order i < length N.nodes
  place_within i lt = let within : slice_index order i < length (fan_ins N) = whole.within i 0 lt in omega (arith, within, fans_sized)

  pub net_within : (i : ℕ) → i < length order → node_net N (slice_index order i) < nets N
  net_within i lt = let within = place_within i lt in omega (arith, within)

  -- a net that is an input or that a node at one of the first places drives has a line
  reached : (lines : List (Option Line)) (i net : ℕ) → AreLinedTo N order i lines → net < nets N
      → ((m : ℕ) → net ≡ node_net N m → m < length N.nodes → place_in order m < i) → IsLined lines net
  reached lines i net lined below before = elim (cases_lt net N.inputs) [
    | inl input ↦ lined.inputs net input
    | inr past ↦ (
        let m : ℕ = net - N.inputs in
        let is : net ≡ node_net N m = omega (arith, latchless) in
        let inside : m < length N.nodes = omega (arith, latchless) in
        let placed : place_in order m < length order = whole.each m (omega (arith, fans_sized, inside)) in
        let at : slice_index order (place_in order m) ≡ m = eqb-true (slice_index order (place_in order m)) m (passes_at_first (λ k. k == m) order 0 placed) in
        subst (IsLined lines) (ap (node_net N) at ∙ sym is) (lined.nodes (place_in order m) (before m is inside) placed))
  ]

  -- what the node at a place of the order reads has lines
  pub pins-lined : (lines : List (Option Line)) (i : ℕ) → i < length order → AreLinedTo N order i lines → All (IsLined lines) (node N (slice_index order i)).reads
  pins-lined lines i inside lined pin d below =
      let j : ℕ = slice_index order i in
      let j_inside : j < length N.nodes = place_within i inside in
      let net : ℕ = slice_index (node N j).reads pin in
      let same : slice_index_or (node N j).reads pin d ≡ net = get_or_default (node N j).reads pin d 0 below in
      let fans : slice_index_or (fan_ins N) j [] ≡ fan_in (N.inputs + length N.latches) (node N j).reads
      = get_or-map (λ (n : NodeOf). fan_in (N.inputs + length N.latches) n.reads) N.nodes j no_node [] j_inside in
      let before : (m : ℕ) → net ≡ node_net N m → m < length N.nodes → place_in order m < i = λ m is m_inside.
      (let past : N.inputs + length N.latches ≤ net = omega (arith, is) in
      let number : net - (N.inputs + length N.latches) ≡ m = omega (arith, is) in
      let has : Contains (fan_in (N.inputs + length N.latches) (node N j).reads) m
      = subst (Contains (fan_in (N.inputs + length N.latches) (node N j).reads)) number (fan_in-has (N.inputs + length N.latches) (node N j).reads pin below past) in
      let earlier : place_in order m < place_in order j = whole.after j m (omega (arith, fans_sized, j_inside)) (subst (λ (list : List ℕ). Contains list m) (sym fans) has) in
      let own : place_in order j ≡ i = whole.once i inside in
      omega (arith, earlier, own)) in
      subst (IsLined lines) (sym same) (reached lines i net lined (closed.pins j pin j_inside below) before)

  -- when the order is through, what is shown has lines
  pub outputs-lined : (lines : List (Option Line)) (i : ℕ) → length order ≤ i → AreLinedTo N order i lines → All (IsLined lines) N.outputs
  outputs-lined lines i through lined k d below =
      reached lines i (slice_index_or N.outputs k d) lined (closed.outputs k d below)
      (λ m is inside. (let placed : place_in order m < length order = whole.each m (omega (arith, fans_sized, inside)) in omega (arith, placed, through)))

-- the net at a place of a list of nets that have lines
pub lined-at : (lines : List (Option Line)) (list : List NetId) (i : ℕ) (d : NetId) → i < length list → All (IsLined lines) (net_numbers list) → IsLined lines (get_or list i d).number
lined-at lines list i d lt all =
    let number : NetId → ℕ = λ (net : NetId). net.number in
    subst (IsLined lines) (get_or-map number list i d 0 lt) (all i 0 (omega (arith, length-map list number, lt)))

pub lines-sized : (lines : List (Option Line)) (numbers : List ℕ) (list : List Line) → AllZip (HasLine lines) numbers list → length list ≡ length numbers
lines-sized lines [] [] h = refl
lines-sized lines [] (line ∷ list) h = absurd h
lines-sized lines (n ∷ numbers) [] h = absurd h
lines-sized lines (n ∷ numbers) (line ∷ list) h = ap suc (lines-sized lines numbers list h.1)
