-- The nodes of a checker's gates, by their numbers: each gate stands there, and each node reads what stands before it.
use Rattle.std.proofs.Common.{◌≡◌, ℕ, zero, suc, ◌+◌, ◌<◌, ◌≤◌, inl, inr, List, [], ◌∷◌, ◌++◌, map, length, slice_index, slice_index_or, All, refl, sym, ap, ◌∙◌, subst, arith}
use Rattle.std.proofs.lemmas.Bool.{cases_lt}
use Rattle.std.proofs.lemmas.List.Elements.{All-nil, All-cons, All-map, All-weaker}
use Rattle.tsc_cover.specs.Cover.{CoverTable}
use Rattle.fault_secure.specs.Circuit.{Circuit, NodeOf, node, node_net, pin_net, gate as node_over}
use Rattle.fault_secure.specs.CodePlan.{CodePlan, monitored}
use Rattle.parity_code.specs.ParityCircuit.{StandAt}
use Rattle.parity_code.proofs.ParityCircuit.{stand_right}
use Rattle.code_checkers.specs.declared.gate.CheckGate.{CheckGate}
use Rattle.code_checkers.specs.declared.gate.CheckGate.TheVariants as gate
use Rattle.code_checkers.specs.Gates.{ReadsBelow}
use Rattle.code_checkers.specs.Nodes.{reads_of, IsNodeFrom, Stands}
use Rattle.code_checkers.specs.CheckerNodes.{gate_net, net_behind, gate_nets, gate_node, gate_nodes}

-- all nodes of a circuit stand in it from the first place on
pub all_stand : (N : Circuit) → StandAt N 0 N.nodes
all_stand N = record { fits = omega arith; each = λ k h. ap (node N) (let e : 0 + k ≡ k = omega arith in e) }

-- what a gate reads stands below the bound that it reads below
reads_below : (n : ℕ) (g : CheckGate) → ReadsBelow n g → All (λ place. place < n) (reads_of g)
reads_below n (gate.Word p) h = All-nil (λ place. place < n)
reads_below n (gate.Buf a) h = All-cons (λ place. place < n) a [] h (All-nil (λ place. place < n))
reads_below n (gate.Not a) h = All-cons (λ place. place < n) a [] h (All-nil (λ place. place < n))
reads_below n (gate.And a b) h = All-cons (λ place. place < n) a (b ∷ []) h.0 (All-cons (λ place. place < n) b [] h.1 (All-nil (λ place. place < n)))
reads_below n (gate.Or a b) h = All-cons (λ place. place < n) a (b ∷ []) h.0 (All-cons (λ place. place < n) b [] h.1 (All-nil (λ place. place < n)))
reads_below n (gate.Xor a b) h = All-cons (λ place. place < n) a (b ∷ []) h.0 (All-cons (λ place. place < n) b [] h.1 (All-nil (λ place. place < n)))

module _ (N : Circuit) (lo : ℕ) (nets word : List ℕ) where
  -- the nets of gates from a place on are those of a stretch of gates
  AreNets : ℕ → ℕ → List CheckGate → Type 0
  AreNets place next gates = (i : ℕ) → i < length gates → slice_index nets (place + i) ≡ slice_index (gate_nets word next gates) i

  first_net : (place next : ℕ) (g : CheckGate) (gates : List CheckGate) → AreNets place next (g ∷ gates) → slice_index nets place ≡ gate_net word next g
  unfolding AreNets
  first_net place next g gates are = ap (slice_index nets) (let e : place ≡ place + 0 = omega arith in e) ∙ are 0 (omega arith)

  other_nets : (place next : ℕ) (g : CheckGate) (gates : List CheckGate) → AreNets place next (g ∷ gates) → AreNets (place + 1) (net_behind next g) gates
  unfolding AreNets
  other_nets place next g gates are i h = ap (slice_index nets) (let e : place + 1 + i ≡ place + suc i = omega arith in e) ∙ are (suc i) (omega arith)

  -- the nodes after the first
  behind : (k : ℕ) (first : NodeOf) (rest : List NodeOf) → StandAt N k (first ∷ rest) → StandAt N (k + 1) rest
  behind k first rest stand = stand_right N k (first ∷ []) rest stand

  node_at : (k : ℕ) (first : NodeOf) (rest : List NodeOf) → StandAt N k (first ∷ rest) → node N k ≡ first
  node_at k first rest stand = ap (node N) (let e : k ≡ k + 0 = omega arith in e) ∙ stand.each 0 (omega arith)

  -- one gate on: by a node, if it has one

  behind_low : (k : ℕ) (g : CheckGate) → k ≤ net_behind k g
  behind_low k (gate.Word p) = omega arith
  behind_low k (gate.Buf a) = omega arith
  behind_low k (gate.Not a) = omega arith
  behind_low k (gate.And a b) = omega arith
  behind_low k (gate.Or a b) = omega arith
  behind_low k (gate.Xor a b) = omega arith

  next_behind : (k next : ℕ) (g : CheckGate) → next ≡ node_net N k → net_behind next g ≡ node_net N (net_behind k g)
  next_behind k next (gate.Word p) is = is
  next_behind k next (gate.Buf a) is = omega arith
  next_behind k next (gate.Not a) is = omega arith
  next_behind k next (gate.And a b) is = omega arith
  next_behind k next (gate.Or a b) is = omega arith
  next_behind k next (gate.Xor a b) is = omega arith

  rest_stand : (k : ℕ) (g : CheckGate) (gates : List CheckGate) → StandAt N k (gate_nodes nets (g ∷ gates)) → StandAt N (net_behind k g) (gate_nodes nets gates)
  rest_stand k (gate.Word p) gates stand = stand
  rest_stand k (gate.Buf a) gates stand = behind k _ (gate_nodes nets gates) stand
  rest_stand k (gate.Not a) gates stand = behind k _ (gate_nodes nets gates) stand
  rest_stand k (gate.And a b) gates stand = behind k _ (gate_nodes nets gates) stand
  rest_stand k (gate.Or a b) gates stand = behind k _ (gate_nodes nets gates) stand
  rest_stand k (gate.Xor a b) gates stand = behind k _ (gate_nodes nets gates) stand

  rest_counted : (k : ℕ) (g : CheckGate) (gates : List CheckGate) → k + length (gate_nodes nets (g ∷ gates)) ≡ net_behind k g + length (gate_nodes nets gates)
  rest_counted k (gate.Word p) gates = refl
  rest_counted k (gate.Buf a) gates = omega arith
  rest_counted k (gate.Not a) gates = omega arith
  rest_counted k (gate.And a b) gates = omega arith
  rest_counted k (gate.Or a b) gates = omega arith
  rest_counted k (gate.Xor a b) gates = omega arith

  -- ---- each gate stands

  node_here : (k next at : ℕ) (cover : CoverTable) (reads : List ℕ) (rest : List NodeOf) → lo ≤ k → next ≡ node_net N k → StandAt N k (node_over cover reads ∷ rest)
      → slice_index nets at ≡ next → IsNodeFrom N lo (slice_index nets at) cover reads
  node_here k next at cover reads rest low is stand e = record {
    driver = k;
    is_node = omega (arith, stand.fits);
    behind = low;
    drives = e ∙ is;
    is_gate = node_at k (node_over cover reads) rest stand;
  }

  module _ (P : CodePlan) where
    -- the places of the word that gates stand for are monitored
    AreMonitored : List CheckGate → Type 0
    AreMonitored gates = (i p : ℕ) → i < length gates → slice_index_or gates i (gate.Word 0) ≡ gate.Word p
        → (p < length (monitored N P)) × (slice_index word p ≡ slice_index (monitored N P) p)

    stands_here : (place k next : ℕ) (g : CheckGate) (rest : List NodeOf) → lo ≤ k → next ≡ node_net N k → slice_index nets place ≡ gate_net word next g
        → ((p : ℕ) → g ≡ gate.Word p → (p < length (monitored N P)) × (slice_index word p ≡ slice_index (monitored N P) p))
        → StandAt N k (gate_node nets g ++ rest) → Stands N P lo (slice_index nets) place g
    stands_here place k next (gate.Word p) rest low is net words stand = (let w = words p refl in (w.0, net ∙ w.1))
    stands_here place k next (gate.Buf a) rest low is net words stand = node_here k next place _ _ rest low is stand net
    stands_here place k next (gate.Not a) rest low is net words stand = node_here k next place _ _ rest low is stand net
    stands_here place k next (gate.And a b) rest low is net words stand = node_here k next place _ _ rest low is stand net
    stands_here place k next (gate.Or a b) rest low is net words stand = node_here k next place _ _ rest low is stand net
    stands_here place k next (gate.Xor a b) rest low is net words stand = node_here k next place _ _ rest low is stand net

    stand_from : (gates : List CheckGate) (place k next : ℕ) → lo ≤ k → next ≡ node_net N k → AreNets place next gates → AreMonitored gates → StandAt N k (gate_nodes nets gates)
        → (i at : ℕ) → at ≡ place + i → i < length gates → Stands N P lo (slice_index nets) at (slice_index_or gates i (gate.Word 0))
    unfolding AreMonitored
    stand_from [] place k next low is are words stand i at e h = absurd (omega arith)
    stand_from (g ∷ gates) place k next low is are words stand zero at e h =
        let here : at ≡ place = omega arith in
        subst (λ (n : ℕ). Stands N P lo (slice_index nets) n g) (sym here)
        (stands_here place k next g (gate_nodes nets gates) low is (first_net place next g gates are) (λ p same. words 0 p (omega arith) same) stand)
    stand_from (g ∷ gates) place k next low is are words stand (suc i) at e h =
        stand_from gates (place + 1) (net_behind k g) (net_behind next g) (omega (arith, behind_low k g)) (next_behind k next g is) (other_nets place next g gates are)
        (λ j p low same. words (suc j) p (omega arith) same) (rest_stand k g gates stand) i at (omega arith) (omega arith)

    -- where the nodes of gates stand over their nets, each gate stands
    pub gates_stand : (gates : List CheckGate) → nets ≡ gate_nets word (node_net N lo) gates
        → ((i p : ℕ) → i < length gates → slice_index_or gates i (gate.Word 0) ≡ gate.Word p → (p < length (monitored N P)) × (slice_index word p ≡ slice_index (monitored N P) p))
        → StandAt N lo (gate_nodes nets gates) → (place : ℕ) → place < length gates → Stands N P lo (slice_index nets) place (slice_index_or gates place (gate.Word 0))
    unfolding AreNets AreMonitored
    gates_stand gates are words stand place h =
        stand_from gates 0 lo (node_net N lo) (omega arith) refl (λ i low. ap (slice_index nets) (let e : 0 + i ≡ i = omega arith in e) ∙ ap (λ ns. slice_index ns i) are)
        words stand place place (omega arith) h

  -- ---- what the nodes read

  -- the nets of earlier places stand below this one
  AreBelow : ℕ → ℕ → Type 0
  AreBelow place next = (a : ℕ) → a < place → slice_index nets a < next

  reads_of_node : (place next k : ℕ) (cover : CoverTable) (places : List ℕ) → node N k ≡ node_over cover (map (slice_index nets) places) → All (λ a. a < place) places → AreBelow place next
      → (j pin : ℕ) → j ≡ k → pin < length (node N j).reads → pin_net N j pin < next
  unfolding AreBelow
  reads_of_node place next k cover places is low below j pin e has =
      let reads : (node N j).reads ≡ map (slice_index nets) places = ap (λ i. (node N i).reads) e ∙ ap (λ (n : NodeOf). n.reads) is in
      let there : pin < length (map (slice_index nets) places) = subst (λ (ns : List ℕ). pin < length ns) reads has in
      subst (λ (ns : List ℕ). slice_index ns pin < next) (sym reads)
      (All-map (λ n. n < next) (slice_index nets) places (All-weaker (λ a. a < place) (λ a. slice_index nets a < next) below places low) pin 0 there)

  reads_here : (place k next : ℕ) (g : CheckGate) (rest : List NodeOf) → next ≡ node_net N k → ReadsBelow place g → AreBelow place next → StandAt N k (gate_node nets g ++ rest)
      → (j pin : ℕ) → k ≤ j → j < net_behind k g → pin < length (node N j).reads → pin_net N j pin < node_net N j
  reads_here place k next (gate.Word p) rest is reads below stand j pin above low has = absurd (omega arith)
  reads_here place k next (gate.Buf a) rest is reads below stand j pin above low has =
      let r = reads_of_node place next k _ (a ∷ []) (node_at k _ rest stand) (reads_below place (gate.Buf a) reads) below j pin (omega arith) has in omega (arith, r)
  reads_here place k next (gate.Not a) rest is reads below stand j pin above low has =
      let r = reads_of_node place next k _ (a ∷ []) (node_at k _ rest stand) (reads_below place (gate.Not a) reads) below j pin (omega arith) has in omega (arith, r)
  reads_here place k next (gate.And a b) rest is reads below stand j pin above low has =
      let r = reads_of_node place next k _ (a ∷ (b ∷ [])) (node_at k _ rest stand) (reads_below place (gate.And a b) reads) below j pin (omega arith) has in omega (arith, r)
  reads_here place k next (gate.Or a b) rest is reads below stand j pin above low has =
      let r = reads_of_node place next k _ (a ∷ (b ∷ [])) (node_at k _ rest stand) (reads_below place (gate.Or a b) reads) below j pin (omega arith) has in omega (arith, r)
  reads_here place k next (gate.Xor a b) rest is reads below stand j pin above low has =
      let r = reads_of_node place next k _ (a ∷ (b ∷ [])) (node_at k _ rest stand) (reads_below place (gate.Xor a b) reads) below j pin (omega arith) has in omega (arith, r)

  net_low : (next : ℕ) (g : CheckGate) → ((p : ℕ) → g ≡ gate.Word p → slice_index word p < next) → gate_net word next g < net_behind next g
  net_low next (gate.Word p) words = words p refl
  net_low next (gate.Buf a) words = omega arith
  net_low next (gate.Not a) words = omega arith
  net_low next (gate.And a b) words = omega arith
  net_low next (gate.Or a b) words = omega arith
  net_low next (gate.Xor a b) words = omega arith

  below_more : (place next : ℕ) (g : CheckGate) (gates : List CheckGate) → AreNets place next (g ∷ gates) → ((p : ℕ) → g ≡ gate.Word p → slice_index word p < next) → AreBelow place next
      → AreBelow (place + 1) (net_behind next g)
  unfolding AreBelow
  below_more place next g gates are words below a h = elim (cases_lt a place) [
    | inl before ↦ (let low = below a before in omega (arith, low, behind_low next g))
    | inr here ↦ (
        let e : a ≡ place = omega arith in
        let same = ap (slice_index nets) e ∙ first_net place next g gates are in
        omega (arith, same, net_low next g words))
  ]

  reads_from : (gates : List CheckGate) (place k next : ℕ) → next ≡ node_net N k → AreNets place next gates
      → ((i p : ℕ) → i < length gates → slice_index_or gates i (gate.Word 0) ≡ gate.Word p → slice_index word p < next)
      → ((i : ℕ) → i < length gates → ReadsBelow (place + i) (slice_index_or gates i (gate.Word 0))) → AreBelow place next → StandAt N k (gate_nodes nets gates)
      → (j pin : ℕ) → k ≤ j → j < k + length (gate_nodes nets gates) → pin < length (node N j).reads → pin_net N j pin < node_net N j
  reads_from [] place k next is are words ordered below stand j pin above low has = absurd (omega arith)
  reads_from (g ∷ gates) place k next is are words ordered below stand j pin above low has = elim (cases_lt j (net_behind k g)) [
    | inl here ↦ reads_here place k next g (gate_nodes nets gates) is (subst (λ (n : ℕ). ReadsBelow n g) (let e : place + 0 ≡ place = omega arith in e) (ordered 0 (omega arith))) below stand j pin above here has
    | inr later ↦ reads_from gates (place + 1) (net_behind k g) (net_behind next g) (next_behind k next g is) (other_nets place next g gates are)
        (λ i p h same. let w = words (suc i) p (omega arith) same in omega (arith, w, behind_low next g))
        (λ i h. subst (λ (n : ℕ). ReadsBelow n (slice_index_or gates i (gate.Word 0))) (let e : place + suc i ≡ place + 1 + i = omega arith in e) (ordered (suc i) (omega arith)))
        (below_more place next g gates are (λ p same. words 0 p (omega arith) same) below) (rest_stand k g gates stand) j pin later (omega (arith, low, rest_counted k g gates)) has
  ]

  -- where the nodes of gates stand over their nets, each reads nets before its own
  pub gates_read : (gates : List CheckGate) → nets ≡ gate_nets word (node_net N lo) gates
      → ((i p : ℕ) → i < length gates → slice_index_or gates i (gate.Word 0) ≡ gate.Word p → slice_index word p < node_net N lo)
      → ((i : ℕ) → i < length gates → ReadsBelow i (slice_index_or gates i (gate.Word 0))) → StandAt N lo (gate_nodes nets gates)
      → (j pin : ℕ) → lo ≤ j → j < lo + length (gate_nodes nets gates) → pin < length (node N j).reads → pin_net N j pin < node_net N j
  unfolding AreNets AreBelow
  gates_read gates are words ordered stand j pin above low has =
      reads_from gates 0 lo (node_net N lo) refl (λ i h. ap (slice_index nets) (let e : 0 + i ≡ i = omega arith in e) ∙ ap (λ ns. slice_index ns i) are) words
      (λ i h. subst (λ (n : ℕ). ReadsBelow n (slice_index_or gates i (gate.Word 0))) (let e : i ≡ 0 + i = omega arith in e) (ordered i h)) (λ a h. absurd (omega arith)) stand j pin above low has
