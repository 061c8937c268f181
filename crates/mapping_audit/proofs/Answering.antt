-- From what is found to the answer.
use Rattle.std.proofs.Common.{◌≡◌, ℕ, ◌<◌, ◌==◌, Option, Some, None, MatchOption, List, length, All, refl, sym, subst, arith}
use Rattle.std.proofs.lemmas.List.Elements.{All-filter, All-weaker}
use Rattle.fault_secure.specs.Circuit.{Circuit}
use Rattle.tsc_net.specs.Order.{fan_ins, evaluation_order, IsOrder}
use Rattle.lane_rows.proofs.OrderFacts.{fans_sized}
use Rattle.mapping_reading.specs.ReadMapping.{members}
use Rattle.mapping_reading.specs.Pins.{at_of}
use Rattle.mapping_reading.specs.Blocks.{AreBlocks}
use Rattle.mapping_reading.specs.Leads.{AreOwners}
use Rattle.mapping_reading.specs.FoundBlocks.{AreFound}

-- what a match says of each case
pub match_none : {X : Type 0} (o : Option X) (A : Type 0) (B : X → Type 0) → ((v : X) → o ≡ Some v → ⊥) → MatchOption o A B → A
match_none None A B other here = here
match_none (Some v) A B other here = absurd (other v refl)

pub match_some : {X : Type 0} (o : Option X) (v : X) (A : Type 0) (B : X → Type 0) → o ≡ Some v → MatchOption o A B → B v
match_some o v A B is here = subst (λ o. MatchOption o A B) is here

pub match_is_none : {X : Type 0} (o : Option X) (A : Type 0) (B : X → Type 0) → o ≡ None → MatchOption o A B → A
match_is_none o A B is here = subst (λ o. MatchOption o A B) is here

-- the gates of a block are gates
pub members_within : (G : Circuit) (order : List ℕ) (block : ℕ → ℕ) (j : ℕ) → IsOrder (fan_ins G) order → All (λ g. g < length G.nodes) (members block order j)
members_within G order block j whole =
    All-filter (λ g. block g == j) (λ g. g < length G.nodes) order
    (All-weaker (λ g. g < length (fan_ins G)) (λ g. g < length G.nodes) (λ g low. (let s = fans_sized G order whole in omega arith)) order whole.within)

-- owners and blocks are found along the order
pub are_found : (N G : Circuit) (moved order owners blocks seen those : List ℕ) → order ≡ evaluation_order (fan_ins G) → IsOrder (fan_ins G) order → seen ≡ owners → those ≡ blocks
    → AreOwners N G (at_of G moved) owners → AreBlocks G seen (length N.nodes) blocks → AreFound N G moved seen those
are_found N G moved order owners blocks seen those is whole same same' owned led = record {
  ordered = subst (IsOrder (fan_ins G)) is whole;
  owned = subst (AreOwners N G (at_of G moved)) (sym same) owned;
  led = subst (AreBlocks G seen (length N.nodes)) (sym same') led;
}
