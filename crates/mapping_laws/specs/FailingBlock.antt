-- A failing block: any gates of one block, or one latch, give their nets any bits at all, while all others work.
use Rattle.std.specs.Prelude.{◌≡◌, ℕ, ◌+◌, ◌-◌, ◌<◌, nat_lt, if◌then◌else◌, Bool, List, [], ◌∷◌, length, All}
use Rattle.fault_secure.specs.Circuit.{Circuit, latch_net, node_net, nets, bit}
use Rattle.fault_secure.specs.StuckAt.{NoFault}
use Rattle.fault_secure.specs.Settle.{node_value}
use Rattle.fault_secure.specs.Run.{init_state, next_state, Runs, HasOneRun}
use Rattle.fault_secure.specs.CodePlan.{CodePlan}
use Rattle.fault_secure.specs.Logic.{Logic}
use Rattle.fault_secure.specs.FailingCell.{IsCell}
use Rattle.fault_secure.specs.FaultSecure.{Follows, IsQuiet, IsFlagged}

-- the cell of N for which the driver of a net of G stands: the latch with that very net, or the node of the gate's block
abbrev pub cell_at : Circuit → Circuit → (ℕ → ℕ) → ℕ → ℕ
cell_at N G block net =
    if nat_lt net (G.inputs + length G.latches) then net
    else node_net N (block (net - (G.inputs + length G.latches)))

-- the valuation v of G settles at every net except those of the drivers that stand for one cell of N, with the input bits x and the
-- state bits s
pub record SettlesButBlock (N G : Circuit) (block : ℕ → ℕ) (cell : ℕ) (x s : ℕ → Bool) (v : List Bool) : Type 0 where
  pub sized : length v ≡ nets G
  pub inputs : (i : ℕ) → i < G.inputs → bit v i ≡ x i
  pub latches : (l : ℕ) → l < length G.latches → (latch_net G l ≡ cell → ⊥) → bit v (latch_net G l) ≡ s l
  pub gates : (g : ℕ) → g < length G.nodes → (node_net N (block g) ≡ cell → ⊥) → bit v (node_net G g) ≡ node_value G NoFault v g

-- from the state bits s on: at each step the valuation settles so
abbrev pub RunsButBlockFrom : Circuit → Circuit → (ℕ → ℕ) → ℕ → List Bool → List (List Bool) → List (List Bool) → Type 0
RunsButBlockFrom N G block cell s [] [] = Unit {0}
RunsButBlockFrom N G block cell s (x ∷ xs) (v ∷ vs) =
    SettlesButBlock N G block cell (bit x) (bit s) v × RunsButBlockFrom N G block cell (next_state G NoFault v) xs vs
RunsButBlockFrom N G block cell s [] (v ∷ vs) = ⊥
RunsButBlockFrom N G block cell s (x ∷ xs) [] = ⊥

-- a run of G over the inputs xs in which any gates of one block fail, or one latch, at any steps and in any way
abbrev pub RunsButBlock : Circuit → Circuit → (ℕ → ℕ) → ℕ → List (List Bool) → List (List Bool) → Type 0
RunsButBlock N G block cell xs vs = RunsButBlockFrom N G block cell (init_state G) xs vs

-- step by step the nets of the drivers that stand for the cell have the bits that are given
abbrev pub BlockGives : Circuit → Circuit → (ℕ → ℕ) → ℕ → List (List Bool) → List (List Bool) → Type 0
BlockGives N G block cell [] [] = Unit {0}
BlockGives N G block cell (given ∷ rest) (v ∷ vs) =
    ((net : ℕ) → net < nets G → cell_at N G block net ≡ cell → bit v net ≡ bit given net) × BlockGives N G block cell rest vs
BlockGives N G block cell [] (v ∷ vs) = ⊥
BlockGives N G block cell (given ∷ rest) [] = ⊥

-- there is exactly one run in which they have these bits
pub record HasOneRunButBlock (N G : Circuit) (block : ℕ → ℕ) (cell : ℕ) (given xs : List (List Bool)) : Type 0 where
  pub run : List (List Bool)
  pub runs : RunsButBlock N G block cell xs run
  pub gives : BlockGives N G block cell given run
  pub only : (vs : List (List Bool)) → RunsButBlock N G block cell xs vs → BlockGives N G block cell given vs → vs ≡ run

-- secure against any one failing block or latch: each gate is of the block of a node. Over every list of inputs there is exactly one run
-- without a fault, and one for whatever bits the failing gates give. Without a fault it follows the source quietly; and with a failing
-- block no wrong output comes before its alarm
pub record IsBlockSecure (M : Logic) (N G : Circuit) (block : ℕ → ℕ) (P : CodePlan) : Type 0 where
  pub blocks : (g : ℕ) → g < length G.nodes → block g < length N.nodes
  pub one_run : (w : List Bool) (xs : List (List Bool)) → length w ≡ length xs → HasOneRun G NoFault w xs
  pub one_run_but : (cell : ℕ) (given xs : List (List Bool)) → IsCell N cell → length given ≡ length xs → HasOneRunButBlock N G block cell given xs
  pub follows : (w : List Bool) (xs vs : List (List Bool)) → Runs G NoFault w xs vs → Follows M G P xs vs
  pub quiet : (w : List Bool) (xs vs : List (List Bool)) → Runs G NoFault w xs vs → All (IsQuiet G P) vs
  pub flagged : (cell : ℕ) (w : List Bool) (xs vs us : List (List Bool)) → IsCell N cell
      → Runs G NoFault w xs vs → RunsButBlock N G block cell xs us → IsFlagged M G P xs vs us
