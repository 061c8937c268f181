-- Of two netlists there is at most one answer: each answer says how far the conditions hold, one after another, and the place of the first
-- that doesn't.
use Rattle.std.proofs.Common.{◌≡◌, ℕ, ◌<◌, ◌≤◌, ◌⊎◌, inl, inr, List, length, slice_index, refl, sym, ◌∙◌, ap, ap₂, subst, arith}
use Rattle.std.proofs.lemmas.Bool.{cases_lt}
use Rattle.tsc_net.specs.NetlistOf.{NetlistOf, IsBuilt, named_of}
use Rattle.mapping_reading.specs.Pins.{at_of, IsFirstOpen}
use Rattle.mapping_reading.specs.Blocks.{IsShared, IsFirstShared}
use Rattle.mapping_reading.specs.FoundBlocks.{AreFound}
use Rattle.mapping_reading.specs.MovedNets.{HaveMoved, ReadsAsMapped}
use Rattle.mapping_reading.specs.NamedMapping.{moved_by_name, HasSameNames, IsGateNet}
use Rattle.mapping_reading.proofs.Firsts.{firsts_are_one, first_missing_is_one}
use Rattle.mapping_reading.proofs.LedGates.{found_are_one}
use Rattle.mapping_reading.proofs.NamesMoved.{names_move}
use Rattle.mapping_audit.specs.Wide.{IsWideCover}
use Rattle.mapping_audit.specs.Covers.{IsRealised, Misses, IsFirstFailing}
use Rattle.mapping_audit.specs.MappedAnswer.{AreBlocked, ArePinned, IsOfNoNode, LeadsTwice, IsNoPin, IsTooWide, IsNoCover, IsMappedAnswer, OneAnswer}
use Rattle.mapping_audit.specs.declared.reason.MappedReason.{MappedReason}
use Rattle.mapping_audit.specs.declared.reason.MappedReason.TheVariants.{Inputs, Latches, Outputs, Net, NoBlock, NoPin, NoCover}
use Rattle.mapping_audit.specs.declared.answer.MappedAnswer.{MappedAnswer}
use Rattle.mapping_audit.specs.declared.answer.MappedAnswer.TheVariants.{Yes, No, Wide}

-- two first places of the same kind are one
first_is_one : (Holds : ℕ → Type 0) (j k : ℕ) → Holds j → Holds k → ((i : ℕ) → i < j → Holds i → ⊥) → ((i : ℕ) → i < k → Holds i → ⊥) → j ≡ k
first_is_one Holds j k here there before before' = elim (cases_lt j k) [
  | inl less ↦ absurd (before' j less here)
  | inr more ↦ elim (cases_lt k j) [
    | inl less ↦ absurd (before k less there)
    | inr no_more ↦ omega arith
  ]
]

-- ---- the conditions in their order

-- how many of the conditions hold where an answer is given
abbrev stage : MappedAnswer → ℕ
stage (No Inputs) = 0
stage (No Latches) = 1
stage (No Outputs) = 2
stage (No (Net node)) = 3
stage (No (NoBlock gate)) = 4
stage (No (NoPin gate pin)) = 5
stage (Wide node) = 6
stage (No (NoCover node value width)) = 7
stage Yes = 8

abbrev SomeBlocks : (List ℕ → Type 0) → Type 0
SomeBlocks Holds = (blocks : List ℕ) × Holds blocks

-- the conditions, one by one
record Conditions (N G : NetlistOf) (count : ℕ) : Type 0 where
  inputs : 0 < count → (named_of N).inputs ≡ (named_of G).inputs
  latches : 1 < count → (named_of N).latches ≡ (named_of G).latches
  outputs : 2 < count → (named_of N).outputs ≡ (named_of G).outputs
  nodes : 3 < count → (j : ℕ) → j < length N.circuit.nodes → IsGateNet N G j
  blocked : 4 < count → SomeBlocks (AreBlocked N.circuit G.circuit (moved_by_name N G))
  pinned : 5 < count → SomeBlocks (ArePinned N.circuit G.circuit (moved_by_name N G))
  narrow : 6 < count → (j : ℕ) → j < length N.circuit.nodes → IsWideCover N.circuit G.circuit (at_of G.circuit (moved_by_name N G)) j → ⊥
  reads : 7 < count → ReadsAsMapped N.circuit G.circuit (moved_by_name N G)

-- ---- where names are the same, the tables are one

module _ (N G : NetlistOf) (first : IsBuilt N) (second : IsBuilt G) (names : HasSameNames N G) where
  have : HaveMoved N.circuit G.circuit (moved_by_name N G)
  have = names_move N G first second names

  same_tables : (owners blocks others those : List ℕ) → AreFound N.circuit G.circuit (moved_by_name N G) owners blocks → AreFound N.circuit G.circuit (moved_by_name N G) others those
      → (owners ≡ others) × (blocks ≡ those)
  same_tables owners blocks others those found found' = found_are_one N.circuit G.circuit (moved_by_name N G) owners blocks others those have found found'

  same_blocks : (blocks those : List ℕ) → AreBlocked N.circuit G.circuit (moved_by_name N G) blocks → AreBlocked N.circuit G.circuit (moved_by_name N G) those → blocks ≡ those
  same_blocks blocks those one other = (same_tables one.owners blocks other.owners those one.found other.found).1

  -- no gate leads to two blocks where none does
  not_shared : (gate : ℕ) → IsOfNoNode N.circuit G.circuit gate ⊎ LeadsTwice N.circuit G.circuit (moved_by_name N G) gate → SomeBlocks (AreBlocked N.circuit G.circuit (moved_by_name N G)) → ⊥
  not_shared gate (inl none) (blocks, blocked) = let n = none.nodes in let s = blocked.some_node none.gates in omega arith
  not_shared gate (inr twice) (blocks, blocked) =
      let same = same_tables twice.owners twice.blocks blocked.owners blocks twice.found blocked.found in
      blocked.unshared gate (subst (λ b. IsShared G.circuit blocked.owners (length N.circuit.nodes) b gate) same.1
      (subst (λ o. IsShared G.circuit o (length N.circuit.nodes) twice.blocks gate) same.0 twice.first.shared))

  one_gate : (gate other : ℕ) → IsOfNoNode N.circuit G.circuit gate ⊎ LeadsTwice N.circuit G.circuit (moved_by_name N G) gate
      → IsOfNoNode N.circuit G.circuit other ⊎ LeadsTwice N.circuit G.circuit (moved_by_name N G) other → gate ≡ other
  one_gate gate other (inl none) (inl none') = none.first ∙ sym none'.first
  one_gate gate other (inl none) (inr twice) = absurd (let n = none.nodes in let s = twice.some_node none.gates in omega arith)
  one_gate gate other (inr twice) (inl none) = absurd (let n = none.nodes in let s = twice.some_node none.gates in omega arith)
  one_gate gate other (inr one) (inr two) =
      let same = same_tables one.owners one.blocks two.owners two.blocks one.found two.found in
      let there : IsFirstShared G.circuit two.owners (length N.circuit.nodes) two.blocks gate
      = subst (λ b. IsFirstShared G.circuit two.owners (length N.circuit.nodes) b gate) same.1 (subst (λ o. IsFirstShared G.circuit o (length N.circuit.nodes) one.blocks gate) same.0 one.first) in
      first_is_one (IsShared G.circuit two.owners (length N.circuit.nodes) two.blocks) gate other there.shared two.first.shared there.first two.first.first

  -- no pin is open where each is well
  not_open : (gate pin : ℕ) → IsNoPin N.circuit G.circuit (moved_by_name N G) gate pin → SomeBlocks (ArePinned N.circuit G.circuit (moved_by_name N G)) → ⊥
  not_open gate pin open_pin (blocks, pinned) =
      let same : open_pin.blocks ≡ blocks = same_blocks open_pin.blocks blocks open_pin.blocked pinned.blocked in
      let there : IsFirstOpen N.circuit G.circuit (at_of G.circuit (moved_by_name N G)) (slice_index blocks) gate pin
      = subst (λ b. IsFirstOpen N.circuit G.circuit (at_of G.circuit (moved_by_name N G)) (slice_index b) gate pin) same open_pin.first in
      there.here.open_there (pinned.well gate pin there.inside there.some there.here.has)

  one_pin : (gate pin other pin' : ℕ) → IsNoPin N.circuit G.circuit (moved_by_name N G) gate pin → IsNoPin N.circuit G.circuit (moved_by_name N G) other pin' → (gate ≡ other) × (pin ≡ pin')
  one_pin gate pin other pin' one two =
      let same : one.blocks ≡ two.blocks = same_blocks one.blocks two.blocks one.blocked two.blocked in
      let there : IsFirstOpen N.circuit G.circuit (at_of G.circuit (moved_by_name N G)) (slice_index two.blocks) gate pin
      = subst (λ b. IsFirstOpen N.circuit G.circuit (at_of G.circuit (moved_by_name N G)) (slice_index b) gate pin) same one.first in
      firsts_are_one.pins N.circuit G.circuit (at_of G.circuit (moved_by_name N G)) (slice_index two.blocks) gate pin other pin' there two.first

  one_wide : (node other : ℕ) → IsTooWide N.circuit G.circuit (moved_by_name N G) node → IsTooWide N.circuit G.circuit (moved_by_name N G) other → node ≡ other
  one_wide node other one two = first_is_one (IsWideCover N.circuit G.circuit (at_of G.circuit (moved_by_name N G))) node other one.first.wide two.first.wide one.first.first two.first.first

  -- a cover isn't missed where it is realised
  not_missed : (blocks : List ℕ) (j value width : ℕ) → Misses N.circuit G.circuit (moved_by_name N G) blocks j value width → IsRealised N.circuit G.circuit (moved_by_name N G) blocks j → ⊥
  not_missed blocks j value width misses (inl same) = misses.differs same
  not_missed blocks j value width misses (inr gives) = misses.first.missed (gives value misses.first.inside)

  one_cover : (node value width other value' width' : ℕ) → IsNoCover N.circuit G.circuit (moved_by_name N G) node value width → IsNoCover N.circuit G.circuit (moved_by_name N G) other value' width'
      → (node ≡ other) × (value ≡ value') × (width ≡ width')
  one_cover node value width other value' width' one two = (nodes, values, misses.pins ∙ sym two.first.misses.pins)
    where
      same : one.blocks ≡ two.blocks
      same = same_blocks one.blocks two.blocks one.pinned.blocked two.pinned.blocked

      there : IsFirstFailing N.circuit G.circuit (moved_by_name N G) two.blocks node value width
      there = subst (λ b. IsFirstFailing N.circuit G.circuit (moved_by_name N G) b node value width) same one.first

      nodes : node ≡ other
      nodes = elim (cases_lt node other) [
        | inl less ↦ absurd (not_missed two.blocks node value width there.misses (two.first.earlier node less))
        | inr more ↦ elim (cases_lt other node) [
          | inl less ↦ absurd (not_missed two.blocks other value' width' two.first.misses (there.earlier other less))
          | inr no_more ↦ omega arith
        ]
      ]

      misses : Misses N.circuit G.circuit (moved_by_name N G) two.blocks other value width
      misses = subst (λ j. Misses N.circuit G.circuit (moved_by_name N G) two.blocks j value width) nodes there.misses

      values : value ≡ value'
      values = elim (cases_lt value value') [
        | inl less ↦ absurd (misses.first.missed (two.first.misses.first.first value less))
        | inr more ↦ elim (cases_lt value' value) [
          | inl less ↦ absurd (two.first.misses.first.missed (misses.first.first value' less))
          | inr no_more ↦ omega arith
        ]
      ]

-- ---- an answer says how far the conditions hold

module _ (N G : NetlistOf) where
  named : (count : ℕ) → HasSameNames N G → (4 < count → SomeBlocks (AreBlocked N.circuit G.circuit (moved_by_name N G)))
      → (5 < count → SomeBlocks (ArePinned N.circuit G.circuit (moved_by_name N G)))
      → (6 < count → (j : ℕ) → j < length N.circuit.nodes → IsWideCover N.circuit G.circuit (at_of G.circuit (moved_by_name N G)) j → ⊥)
      → (7 < count → ReadsAsMapped N.circuit G.circuit (moved_by_name N G)) → Conditions N G count
  named count names blocked pinned narrow reads = record {
    inputs = λ h. names.inputs;
    latches = λ h. names.latches;
    outputs = λ h. names.outputs;
    nodes = λ h. names.nodes;
    blocked = blocked;
    pinned = pinned;
    narrow = narrow;
    reads = reads;
  }

  holds : (a : MappedAnswer) → IsMappedAnswer N G a → Conditions N G (stage a)
  holds (No Inputs) h = record {
    inputs = λ h. absurd (omega arith);
    latches = λ h. absurd (omega arith);
    outputs = λ h. absurd (omega arith);
    nodes = λ h. absurd (omega arith);
    blocked = λ h. absurd (omega arith);
    pinned = λ h. absurd (omega arith);
    narrow = λ h. absurd (omega arith);
    reads = λ h. absurd (omega arith);
  }
  holds (No Latches) h = record {
    inputs = λ l. h.0;
    latches = λ h. absurd (omega arith);
    outputs = λ h. absurd (omega arith);
    nodes = λ h. absurd (omega arith);
    blocked = λ h. absurd (omega arith);
    pinned = λ h. absurd (omega arith);
    narrow = λ h. absurd (omega arith);
    reads = λ h. absurd (omega arith);
  }
  holds (No Outputs) h = record {
    inputs = λ l. h.0;
    latches = λ l. h.1;
    outputs = λ h. absurd (omega arith);
    nodes = λ h. absurd (omega arith);
    blocked = λ h. absurd (omega arith);
    pinned = λ h. absurd (omega arith);
    narrow = λ h. absurd (omega arith);
    reads = λ h. absurd (omega arith);
  }
  holds (No (Net node)) h = record {
    inputs = λ l. h.0;
    latches = λ l. h.1;
    outputs = λ l. h.2;
    nodes = λ h. absurd (omega arith);
    blocked = λ h. absurd (omega arith);
    pinned = λ h. absurd (omega arith);
    narrow = λ h. absurd (omega arith);
    reads = λ h. absurd (omega arith);
  }
  holds (No (NoBlock gate)) h = named 4 h.0 (λ l. absurd (omega arith)) (λ l. absurd (omega arith)) (λ l. absurd (omega arith)) (λ l. absurd (omega arith))
  holds (No (NoPin gate pin)) h = named 5 h.0 (λ l. (h.1.0.blocks, h.1.0.blocked)) (λ l. absurd (omega arith)) (λ l. absurd (omega arith)) (λ l. absurd (omega arith))
  holds (Wide node) h = named 6 h.0 (λ l. (h.1.blocks, h.1.pinned.blocked)) (λ l. (h.1.blocks, h.1.pinned)) (λ l. absurd (omega arith)) (λ l. absurd (omega arith))
  holds (No (NoCover node value width)) h = named 7 h.0 (λ l. (h.1.0.blocks, h.1.0.pinned.blocked)) (λ l. (h.1.0.blocks, h.1.0.pinned)) (λ l. h.1.0.narrow) (λ l. absurd (omega arith))
  holds Yes h = named 8 h.0 (λ l. (h.1.blocks, h.1.pinned.blocked)) (λ l. (h.1.blocks, h.1.pinned)) (λ l. h.1.narrow) (λ l. (slice_index h.1.blocks, h.1.reads))

  few : (a : MappedAnswer) → stage a ≤ 8
  few (No Inputs) = omega arith
  few (No Latches) = omega arith
  few (No Outputs) = omega arith
  few (No (Net node)) = omega arith
  few (No (NoBlock gate)) = omega arith
  few (No (NoPin gate pin)) = omega arith
  few (Wide node) = omega arith
  few (No (NoCover node value width)) = omega arith
  few Yes = omega arith

  -- and that the next one doesn't
  fails : IsBuilt N → IsBuilt G → (a : MappedAnswer) (count : ℕ) → IsMappedAnswer N G a → stage a < count → count ≤ 8 → Conditions N G count → ⊥
  fails first second (No Inputs) count h more low c = h (c.inputs more)
  fails first second (No Latches) count h more low c = h.1 (c.latches more)
  fails first second (No Outputs) count h more low c = h.2 (c.outputs more)
  fails first second (No (Net node)) count h more low c = h.3.missing (c.nodes more node h.3.inside)
  fails first second (No (NoBlock gate)) count h more low c = not_shared N G first second h.0 gate h.1.0 (c.blocked more)
  fails first second (No (NoPin gate pin)) count h more low c = not_open N G first second h.0 gate pin h.1.0 (c.pinned more)
  fails first second (Wide node) count h more low c = c.narrow more node h.1.first.inside h.1.first.wide
  fails first second (No (NoCover node value width)) count h more low c = h.1.1 (c.reads more)
  fails first second Yes count h more low c = omega arith

  -- a reason stands neither where a limit does nor where a yes does
  of_reason : (why : MappedReason) → (stage (No why) ≡ 6 → ⊥) × (stage (No why) < 8)
  of_reason Inputs = (λ e. omega arith, omega arith)
  of_reason Latches = (λ e. omega arith, omega arith)
  of_reason Outputs = (λ e. omega arith, omega arith)
  of_reason (Net node) = (λ e. omega arith, omega arith)
  of_reason (NoBlock gate) = (λ e. omega arith, omega arith)
  of_reason (NoPin gate pin) = (λ e. omega arith, omega arith)
  of_reason (NoCover node value width) = (λ e. omega arith, omega arith)

  -- two answers of one stage are the same
  same_stage : IsBuilt N → IsBuilt G → (a b : MappedAnswer) → stage a ≡ stage b → IsMappedAnswer N G a → IsMappedAnswer N G b → a ≡ b
  same_stage first second (No Inputs) (No Inputs) e h h' = refl
  same_stage first second (No Inputs) b e h h' = absurd (omega arith)
  same_stage first second (No Latches) (No Latches) e h h' = refl
  same_stage first second (No Latches) b e h h' = absurd (omega arith)
  same_stage first second (No Outputs) (No Outputs) e h h' = refl
  same_stage first second (No Outputs) b e h h' = absurd (omega arith)
  same_stage first second (No (Net j)) (No (Net k)) e h h' = ap (λ n. No (Net n)) (first_missing_is_one N G j k h.3 h'.3)
  same_stage first second (No (Net j)) b e h h' = absurd (omega arith)
  same_stage first second (No (NoBlock g)) (No (NoBlock k)) e h h' = ap (λ n. No (NoBlock n)) (one_gate N G first second h.0 g k h.1.0 h'.1.0)
  same_stage first second (No (NoBlock g)) b e h h' = absurd (omega arith)
  same_stage first second (No (NoPin g pin)) (No (NoPin k other)) e h h' = let s = one_pin N G first second h.0 g pin k other h.1.0 h'.1.0 in ap₂ (λ n m. No (NoPin n m)) s.0 s.1
  same_stage first second (No (NoPin g pin)) b e h h' = absurd (omega arith)
  same_stage first second (Wide j) (Wide k) e h h' = ap (λ n. Wide n) (one_wide N G first second h.0 j k h.1 h'.1)
  same_stage first second (Wide j) (No why) e h h' = absurd ((of_reason why).0 (sym e))
  same_stage first second (Wide j) Yes e h h' = absurd (omega arith)
  same_stage first second (No (NoCover j value width)) (No (NoCover k other width')) e h h' =
      let s = one_cover N G first second h.0 j value width k other width' h.1.0 h'.1.0 in ap₂ (λ n m. No (NoCover n m width)) s.0 s.1 ∙ ap (λ w. No (NoCover k other w)) s.2
  same_stage first second (No (NoCover j value width)) b e h h' = absurd (omega arith)
  same_stage first second Yes Yes e h h' = refl
  same_stage first second Yes (Wide k) e h h' = absurd (omega arith)
  same_stage first second Yes (No why) e h h' = absurd (let l = (of_reason why).1 in omega arith)

-- of two built netlists there is at most one answer: two are the same
pub one_answer : OneAnswer
one_answer N G a b first second h h' = elim (cases_lt (stage a) (stage b)) [
  | inl less ↦ absurd (fails N G first second a (stage b) h less (few N G b) (holds N G b h'))
  | inr more ↦ elim (cases_lt (stage b) (stage a)) [
    | inl less ↦ absurd (fails N G first second b (stage a) h' less (few N G a) (holds N G a h))
    | inr no_more ↦ same_stage N G first second a b (omega arith) h h'
  ]
]
