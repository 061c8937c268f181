-- The first gate that leads to several blocks.
use Rattle.std.proofs.Common.{◌≡◌, ℕ, zero, suc, ◌+◌, ◌-◌, ◌<◌, ◌≤◌, ◌⊎◌, inl, inr, nat_lt, if◌then◌else◌, List, [], ◌∷◌, length, slice_index, refl, sym, ◌∙◌, ap, subst, arith}
use Rattle.std.proofs.lemmas.Bool.{cases_lt, cases_eq}
use Rattle.std.proofs.lemmas.Grind.{common_steps}
use Rattle.fault_secure.specs.Circuit.{Circuit, node}
use Rattle.mapping_reading.specs.ReadMapping.{first_net}
use Rattle.mapping_reading.specs.Blocks.{Reads, IsShared}
use Rattle.mapping_audit.specs.FindingBlocks.{other_driver, other_drivers}

-- a gate of no node and of another block than `block`
pub record IsOther (owners : List ℕ) (none : ℕ) (blocks : List ℕ) (block d : ℕ) : Type 0 where
  pub free : none ≤ slice_index owners d
  pub other : block ≡ slice_index blocks d → ⊥

-- what is found of the nets of a list: `least`, or an earlier gate that drives one of them, and none earlier than that
pub record IsLeastOther (owners : List ℕ) (none first : ℕ) (blocks : List ℕ) (block : ℕ) (reads : List ℕ) (least found : ℕ) : Type 0 where
  pub low : found ≤ least
  pub is : (found ≡ least) ⊎ (IsOther owners none blocks block found × ((k : ℕ) × (k < length reads) × (slice_index reads k ≡ first + found)))
  pub first_of : (k d : ℕ) → k < length reads → slice_index reads k ≡ first + d → d < found → IsOther owners none blocks block d → ⊥

module _ (owners : List ℕ) (none first : ℕ) (blocks : List ℕ) (block : ℕ) where
  one_other : (net least : ℕ) → IsLeastOther owners none first blocks block (net ∷ []) least (other_driver owners none first blocks block net least)
  one_other net least = elim (cases_lt net first) [
    | inl below ↦ (let e : other_driver owners none first blocks block net least ≡ least = grind (arith, common_steps) in stay e (λ d is low other. absurd (omega arith)))
    | inr past ↦ elim (cases_lt (slice_index owners (net - first)) none) [
      | inl owned ↦
          let e : other_driver owners none first blocks block net least ≡ least = grind (arith, common_steps) in
          stay e (λ d is low other. (let place : net - first ≡ d = omega arith in let f : none ≤ slice_index owners (net - first) = subst (λ p. none ≤ slice_index owners p) (sym place) other.free in absurd (omega arith)))
      | inr free ↦ elim (cases_eq block (slice_index blocks (net - first))) [
        | inl same ↦
            let e : other_driver owners none first blocks block net least ≡ least = grind (arith, common_steps) in
            stay e (λ d is low other. (let place : net - first ≡ d = omega arith in other.other (same ∙ ap (slice_index blocks) place)))
        | inr differs ↦ elim (cases_lt (net - first) least) [
          | inl earlier ↦
              (let e : other_driver owners none first blocks block net least ≡ net - first = grind (arith, common_steps) in record {
                low = omega arith;
                is = inr (
                  record {
                    free = subst (λ p. none ≤ slice_index owners p) (sym e) free;
                    other = λ same. differs (same ∙ ap (slice_index blocks) e);
                  },
                  (0, omega arith, omega arith),
                );
                first_of = λ k d within is low other. early k d within is (omega arith);
              })
          | inr late ↦
              let e : other_driver owners none first blocks block net least ≡ least = grind (arith, common_steps) in
              stay e (λ d is low other. absurd (omega arith))
        ]
      ]
    ]
  ]
    where
      stay : other_driver owners none first blocks block net least ≡ least → ((d : ℕ) → net ≡ first + d → d < least → IsOther owners none blocks block d → ⊥)
          → IsLeastOther owners none first blocks block (net ∷ []) least (other_driver owners none first blocks block net least)
      stay e nothing = record { low = omega arith; is = inl e; first_of = first_of }
        where
          first_of : (k d : ℕ) → k < length (net ∷ []) → slice_index (net ∷ []) k ≡ first + d → d < other_driver owners none first blocks block net least → IsOther owners none blocks block d → ⊥
          first_of zero d within is low other = nothing d is (omega arith) other
          first_of (suc k) d within is low other = absurd (omega arith)

      early : (k d : ℕ) → k < length (net ∷ []) → slice_index (net ∷ []) k ≡ first + d → d < net - first → ⊥
      early zero d within is low = omega arith
      early (suc k) d within is low = omega arith

  other_more : (net : ℕ) (reads : List ℕ) (least mid found : ℕ) → IsLeastOther owners none first blocks block (net ∷ []) least mid → IsLeastOther owners none first blocks block reads mid found
      → IsLeastOther owners none first blocks block (net ∷ reads) least found
  other_more net reads least mid found step rest = record {
    low = (let a = step.low in let b = rest.low in omega arith);
    is = elim rest.is [
      | inl same ↦ elim step.is [
        | inl start ↦ inl (same ∙ start)
        | inr (other, (k, within, is)) ↦ inr (subst (IsOther owners none blocks block) (sym same) other, (0, omega arith, only k within is ∙ ap (λ n. first + n) (sym same)))
      ]
      | inr (other, (k, within, is)) ↦ inr (other, (suc k, omega arith, is))
    ];
    first_of = first_of;
  }
    where
      only : (k : ℕ) → k < length (net ∷ []) → slice_index (net ∷ []) k ≡ first + mid → net ≡ first + mid
      only zero within is = is
      only (suc k) within is = absurd (omega arith)

      first_of : (k d : ℕ) → k < length (net ∷ reads) → slice_index (net ∷ reads) k ≡ first + d → d < found → IsOther owners none blocks block d → ⊥
      first_of zero d within is low other = step.first_of 0 d (omega arith) is (let b = rest.low in omega arith) other
      first_of (suc k) d within is low other = rest.first_of k d (omega arith) is low other

  pub least_other : (reads : List ℕ) (least : ℕ) → IsLeastOther owners none first blocks block reads least (other_drivers owners none first blocks block reads least)
  least_other [] least = record { low = omega arith; is = inl refl; first_of = λ k d within. absurd (omega arith) }
  least_other (net ∷ reads) least =
      other_more net reads least (other_driver owners none first blocks block net least) (other_drivers owners none first blocks block (net ∷ reads) least)
      (one_other net least) (least_other reads (other_driver owners none first blocks block net least))

-- ---- all gates

-- the gate h reads it, is of some block and not of its
pub record SharesWith (G : Circuit) (owners : List ℕ) (none : ℕ) (blocks : List ℕ) (d h : ℕ) : Type 0 where
  pub free : none ≤ slice_index owners d
  pub reads : Reads G h d
  pub some : slice_index blocks h < none
  pub other : slice_index blocks h ≡ slice_index blocks d → ⊥

-- the first gate that is shared with one of the first gates, and the number of gates where none is
pub record IsLeastShared (G : Circuit) (owners : List ℕ) (none : ℕ) (blocks : List ℕ) (count least : ℕ) : Type 0 where
  pub low : least ≤ length G.nodes
  pub shared : least < length G.nodes → IsShared G owners none blocks least
  pub first : (d h : ℕ) → d < least → h < count → SharesWith G owners none blocks d h → ⊥

module _ (G : Circuit) (owners : List ℕ) (none : ℕ) (blocks : List ℕ) where
  pub shared_start : IsLeastShared G owners none blocks 0 (length G.nodes)
  shared_start = record { low = omega arith; shared = λ low. absurd (omega arith); first = λ d h low there. absurd (omega arith) }

  -- one reader more
  pub shared_step : (h least found : ℕ) → h < length G.nodes
      → found ≡ (if nat_lt (slice_index blocks h) none then other_drivers owners none (first_net G) blocks (slice_index blocks h) (node G h).reads least else least)
      → IsLeastShared G owners none blocks h least → IsLeastShared G owners none blocks (h + 1) found
  shared_step h least found there is so_far = elim (cases_lt (slice_index blocks h) none) [
    | inl some ↦ with_block some (let e : found ≡ other_drivers owners none (first_net G) blocks (slice_index blocks h) (node G h).reads least = grind (arith, common_steps) in e)
    | inr nothing ↦
        (let e : found ≡ least = grind (arith, common_steps) in record {
          low = (let l = so_far.low in omega arith);
          shared = λ low. subst (IsShared G owners none blocks) (sym e) (so_far.shared (omega arith));
          first = λ d k low before shares. elim (cases_eq k h) [
            | inl same ↦ (let s : slice_index blocks h < none = subst (λ p. slice_index blocks p < none) same shares.some in absurd (omega arith))
            | inr other ↦ so_far.first d k (omega arith) (omega arith) shares
          ];
        })
  ]
    where
      with_block : slice_index blocks h < none → found ≡ other_drivers owners none (first_net G) blocks (slice_index blocks h) (node G h).reads least
          → IsLeastShared G owners none blocks (h + 1) found
      with_block some e = record {
        low = (let a = found_is.low in let b = so_far.low in omega arith);
        shared = λ low. elim found_is.is [
          | inl same ↦ subst (IsShared G owners none blocks) (sym same) (so_far.shared (omega arith))
          | inr (other, (k, within, at)) ↦ (other.free, (h, there, (k, within, at), some, other.other))
        ];
        first = λ d k low before shares. elim (cases_eq k h) [
          | inl same ↦
              let reads : Reads G h d = subst (λ p. Reads G p d) same shares.reads in
              found_is.first_of reads.0 d reads.1 reads.2 low (record { free = shares.free; other = λ eq. shares.other (ap (slice_index blocks) same ∙ eq) })
          | inr other ↦ so_far.first d k (let a = found_is.low in omega arith) (omega arith) shares
        ];
      }
        where
          found_is : IsLeastOther owners none (first_net G) blocks (slice_index blocks h) (node G h).reads least found
          found_is = subst (IsLeastOther owners none (first_net G) blocks (slice_index blocks h) (node G h).reads least) (sym e) (least_other owners none (first_net G) blocks (slice_index blocks h) (node G h).reads least)
