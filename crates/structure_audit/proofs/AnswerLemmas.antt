-- The answers of the parts, put together.
use Rattle.std.proofs.Common.{◌≡◌, ℕ, ◌+◌, ◌<◌, ◌≤◌, inl, inr, List, length, slice_index, slice_index_or, IsTrue, Option, Some, None, refl, sym, ◌∙◌, ap, subst, arith}
use Rattle.std.proofs.lemmas.Bool.{cases_lt}
use Rattle.std.proofs.lemmas.List.{length-map, get_or-map}
use Rattle.std.proofs.lemmas.List.Elements.{All-get_or}
use Rattle.fault_secure.specs.declared.code.Code.TheVariants.{Parity}
use Rattle.fault_secure.specs.Circuit.{Circuit, node_net}
use Rattle.fault_secure.specs.CodePlan.{CodePlan, monitored, IsWellMade, IsPlanOf}
use Rattle.fault_secure.specs.Structure.{SharesNode}
use Rattle.fault_secure.specs.SoundStructure.{SuitsCode}
use Rattle.tsc_bits.specs.Bits.{bit_worth}
use Rattle.tsc_net.specs.PlanView.{net_numbers}
use Rattle.tsc_net.specs.declared.ids.NetId.{NetId}
use Rattle.structure_audit.specs.StructureReason.{places_of, PairComesBefore, SharesAt, IsFirstCommon, IsFirstNodeOf, IsFirstSharedIn}
use Rattle.structure_audit.specs.Lines.{AreLineMasks, SharesBit, IsFirstPair}
use Rattle.structure_audit.specs.Answers.{IsGroupAnswer}
use Rattle.structure_audit.specs.declared.pairs.Pair.{Pair}
use Rattle.structure_audit.specs.declared.shared.SharedNode.{SharedNode}
use Rattle.structure_audit.proofs.GroupPlaces.{places_within, places_past}
use Rattle.structure_audit.proofs.PairLemmas.{meet_shares, shares_meet, first_node}
use Rattle.fault_secure.proofs.PlanSizes.{monitored_count}

-- no group has two lines that share a node
pub suits_parity : (N : Circuit) (P : CodePlan) → P.code ≡ Parity → length N.latches ≡ 0 → (end : ℕ) → length P.groups ≤ end
    → ((group a b : ℕ) → group < end → SharesAt N P group a b → ⊥) → SuitsCode P.code N P
suits_parity N P parity none end past clear = subst (λ code. SuitsCode code N P) (sym parity) (record { no_latch = none; disjoint = disjoint })
  where
    disjoint : (group a b : ℕ) → a < b → b < length (places_of P group) → SharesNode N P (slice_index (places_of P group) a) (slice_index (places_of P group) b) → ⊥
    disjoint group a b low within shares = elim (cases_lt group end) [
      | inl there ↦ clear group a b there (record { ordered = low; within = within; shares = shares })
      | inr beyond ↦ (let e = places_past P group (omega arith) in absurd (omega arith))
    ]

-- one group further
pub clear_more : (N : Circuit) (P : CodePlan) (end : ℕ) → ((group a b : ℕ) → group < end → SharesAt N P group a b → ⊥) → ((a b : ℕ) → SharesAt N P end a b → ⊥)
    → (group a b : ℕ) → group < end + 1 → SharesAt N P group a b → ⊥
clear_more N P end clear here group a b low shares = elim (cases_lt group end) [
  | inl lt ↦ clear group a b lt shares
  | inr ge ↦ (let e : group ≡ end = omega arith in here a b (subst (λ g. SharesAt N P g a b) e shares))
]

module _ (N : Circuit) (P : CodePlan) (masks : List ℕ) (group : ℕ) (are : AreLineMasks N (monitored N P) masks) (made : IsWellMade P) (parity : P.code ≡ Parity) (plan : IsPlanOf N P)
    (there : group < length P.groups) where
  -- the places of the group are places of the word
  pub place_within : (i : ℕ) → i < length (places_of P group) → slice_index (places_of P group) i < length (monitored N P)
  place_within i within =
      let all = places_within P made parity group there in
      let low : slice_index (places_of P group) i < P.outputs + length P.checks = All-get_or (λ place. place < P.outputs + length P.checks) (places_of P group) i 0 within all in
      let count = monitored_count N P plan in
      omega arith

  pub to_bits : (a b : ℕ) → SharesAt N P group a b → SharesBit masks (places_of P group) a b
  to_bits a b s =
      let low = s.ordered in
      let within = s.within in
      record {
        ordered = s.ordered;
        within = s.within;
        common = shares_meet N P masks are (slice_index (places_of P group) a) (slice_index (places_of P group) b) (place_within a (omega arith)) (place_within b s.within) s.shares;
      }

  pub from_bits : (a b : ℕ) → SharesBit masks (places_of P group) a b → SharesAt N P group a b
  from_bits a b s =
      let low = s.ordered in
      let within = s.within in
      record {
        ordered = s.ordered;
        within = s.within;
        shares = meet_shares N P masks are (slice_index (places_of P group) a) (slice_index (places_of P group) b) (place_within a (omega arith)) (place_within b s.within) s.common;
      }

  -- no pair by masks, none by dependence
  pub no_pair : (places : List ℕ) → places ≡ places_of P group → IsFirstPair masks places None → (a b : ℕ) → SharesAt N P group a b → ⊥
  no_pair places is none = λ a b s. none a b (subst (λ list. SharesBit masks list a b) (sym is) (to_bits a b s))

  -- the first pair by masks, with its node
  pub first_shared_in : (places : List ℕ) (pair : Pair) (first second shared : ℕ) → places ≡ places_of P group → IsFirstPair masks places (Some pair)
      → IsFirstNodeOf N P (slice_index places pair.first) (slice_index places pair.second) first second shared → IsFirstSharedIn N P group first second shared
  first_shared_in places pair first second shared is found nets =
      subst (λ list. (SharesBit masks list pair.first pair.second × ((a b : ℕ) → PairComesBefore a b pair.first pair.second → SharesBit masks list a b → ⊥))
      → IsFirstNodeOf N P (slice_index list pair.first) (slice_index list pair.second) first second shared → IsFirstSharedIn N P group first second shared) (sym is) in_order found nets
    where
      in_order : (SharesBit masks (places_of P group) pair.first pair.second × ((a b : ℕ) → PairComesBefore a b pair.first pair.second → SharesBit masks (places_of P group) a b → ⊥))
          → IsFirstNodeOf N P (slice_index (places_of P group) pair.first) (slice_index (places_of P group) pair.second) first second shared → IsFirstSharedIn N P group first second shared
      in_order (bits, none) nets = record {
        a = pair.first;
        b = pair.second;
        pair = from_bits pair.first pair.second bits;
        first_pair = λ c d before s. none c d before (to_bits c d s);
        nets = nets;
      }

-- the nets at two places, and the first node by masks
pub node_answer : (N : Circuit) (P : CodePlan) (masks : List ℕ) (word : List NetId) (d : NetId) (a b driver shared : ℕ) → net_numbers word ≡ monitored N P → AreLineMasks N (monitored N P) masks
    → a < length word → b < length word → driver < length masks → IsTrue (bit_worth a (slice_index masks driver)) → IsTrue (bit_worth b (slice_index masks driver))
    → ((r : ℕ) → r < driver → IsTrue (bit_worth a (slice_index masks r)) → IsTrue (bit_worth b (slice_index masks r)) → ⊥) → shared ≡ node_net N driver
    → IsFirstNodeOf N P a b (slice_index_or word a d).number (slice_index_or word b d).number shared
node_answer N P masks word d a b driver shared is are ain bin within one other earliest drives =
    let count : length (net_numbers word) ≡ length word = length-map word (λ (n : NetId). n.number) in
    let same : length (net_numbers word) ≡ length (monitored N P) = ap length is in
    let first : (slice_index_or word a d).number ≡ slice_index (monitored N P) a = at a ain in
    let second : (slice_index_or word b d).number ≡ slice_index (monitored N P) b = at b bin in
    record {
      first_line = first;
      second_line = second;
      driver = driver;
      drives = drives;
      common = subst (λ n. IsFirstCommon N n (slice_index_or word b d).number driver) (sym first)
          (subst (λ n. IsFirstCommon N (slice_index (monitored N P) a) n driver) (sym second) (first_node N P masks are a b driver (omega arith) (omega arith) within one other earliest));
    }
  where
    at : (k : ℕ) → k < length word → (slice_index_or word k d).number ≡ slice_index (monitored N P) k
    at k within = sym (get_or-map (λ (n : NetId). n.number) word k d 0 within) ∙ ap (λ list. slice_index list k) is

-- where a group's answer isn't a pair, it has none
pub none_here : (N : Circuit) (P : CodePlan) (group : ℕ) (found : Option SharedNode) → ((shared : SharedNode) → found ≡ Some shared → ⊥) → IsGroupAnswer N P group found → (a b : ℕ) → SharesAt N P group a b → ⊥
none_here N P group None not none = none
none_here N P group (Some shared) not first = absurd (not shared refl)

-- where the first pair is none, there is none
pub not_some : (masks places : List ℕ) (found : Option Pair) → ((pair : Pair) → found ≡ Some pair → ⊥) → IsFirstPair masks places found → IsFirstPair masks places None
not_some masks places None not none = none
not_some masks places (Some pair) not first = absurd (not pair refl)
