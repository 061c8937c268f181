-- Failing nodes outside the function, rails that follow the word, groups with disjoint cones: the statements of the laws.
use Rattle.std.specs.Prelude.{◌≡◌, ◌⊎◌, ◌↔◌, ℕ, ◌<◌, Bool, List, [], length, slice_index, slice_index_or}
use Rattle.fault_secure.specs.declared.code.Code.TheVariants.{Parity}
use Rattle.fault_secure.specs.Circuit.{Circuit, node_net, bit}
use Rattle.fault_secure.specs.StuckAt.{NoFault}
use Rattle.fault_secure.specs.Settle.{Settles, Acyclic}
use Rattle.fault_secure.specs.CodePlan.{CodePlan, word, members, IsCodeword, IsWellMade, IsPlanOf, RailsAgree}
use Rattle.fault_secure.specs.Depends.{InFunction, InChecker}
use Rattle.fault_secure.specs.Structure.{RailsOutside, ReadsOnlyWord, HasDisjointCones, CheckerSettles, IsCodeDisjoint}
use Rattle.fault_secure.specs.FaultSecure.{Shows}
use Rattle.fault_secure.specs.FailingCell.{IsCell, SettlesBut}

-- a failing node outside the function leaves the monitored word as it is without a fault
abbrev pub OutsideFunctionKeepsWord : Type 0
OutsideFunctionKeepsWord =
    (N : Circuit) (P : CodePlan) (q : ℕ) (x s : ℕ → Bool) (v u : List Bool)
    → Acyclic N → (InFunction N P q → ⊥) → SettlesBut N (node_net N q) x s v → SettlesBut N (node_net N q) x s u → word N P u ≡ word N P v

-- a failing node that is not of the checker lets the checker settle as without a fault
abbrev pub OutsideCheckerSettles : Type 0
OutsideCheckerSettles =
    (N : Circuit) (P : CodePlan) (q : ℕ) (x s : ℕ → Bool) (u : List Bool)
    → (InChecker N P q → ⊥) → SettlesBut N (node_net N q) x s u → CheckerSettles N P u

-- two valuations have the same rails
pub record HasSameRails (P : CodePlan) (v u : List Bool) : Type 0 where
  pub first : bit v P.rail1 ≡ bit u P.rail1
  pub second : bit v P.rail2 ≡ bit u P.rail2

-- the rails follow the word alone: where the checker settles in two valuations with the same word, their rails are the same
abbrev pub RailsFollowWord : Type 0
RailsFollowWord =
    (N : Circuit) (P : CodePlan) (v u : List Bool)
    → Acyclic N → RailsOutside N P → ReadsOnlyWord N P → CheckerSettles N P v → CheckerSettles N P u
    → word N P v ≡ word N P u → HasSameRails P v u

-- disjoint cones: of two places of a group at most one is changed by a failing node
abbrev pub OneChangeInGroup : Type 0
OneChangeInGroup =
    (N : Circuit) (P : CodePlan) (q : ℕ) (x s : ℕ → Bool) (v u : List Bool)
    → Acyclic N → HasDisjointCones N P → SettlesBut N (node_net N q) x s v → SettlesBut N (node_net N q) x s u
    → (group a b : ℕ) → a < b → b < length (slice_index_or (members P) group [])
    → (bit (word N P u) (slice_index (slice_index_or (members P) group []) a) ≡ bit (word N P v) (slice_index (slice_index_or (members P) group []) a))
    ⊎ (bit (word N P u) (slice_index (slice_index_or (members P) group []) b) ≡ bit (word N P v) (slice_index (slice_index_or (members P) group []) b))

-- under code Parity a failing cell keeps a codeword, or shows its error: the word is no codeword, and the rails agree
abbrev pub ParityErrorShows : Type 0
ParityErrorShows =
    (N : Circuit) (P : CodePlan) (cell : ℕ) (x s : ℕ → Bool) (v u : List Bool)
    → P.code ≡ Parity → IsWellMade P → IsPlanOf N P → Acyclic N → HasDisjointCones N P → IsCodeDisjoint N P
    → IsCell N cell → Settles N NoFault x s v → IsCodeword P (word N P v) → SettlesBut N cell x s u
    → (word N P u ≡ word N P v) ⊎ Shows N P u

-- a word was tried: a valuation with this word in which the checker settles, and its rails differ exactly where the word is a codeword
pub record WordIsDecided (N : Circuit) (P : CodePlan) (w : List Bool) : Type 0 where
  pub valuation : List Bool
  pub settles : CheckerSettles N P valuation
  pub has_word : word N P valuation ≡ w
  pub decides : (RailsAgree P valuation → ⊥) ↔ IsCodeword P w

-- word by word: to know that a checker is code-disjoint it is enough to try one valuation for each word
abbrev pub CodeDisjointByWords : Type 0
CodeDisjointByWords =
    (N : Circuit) (P : CodePlan)
    → Acyclic N → RailsOutside N P → ReadsOnlyWord N P
    → ((v : List Bool) → CheckerSettles N P v → WordIsDecided N P (word N P v)) → IsCodeDisjoint N P
