use Rattle.std.proofs.Common.{◌≡◌, ℕ, ◌<◌, drop}
use Rattle.code_lanes.specs.Lanes.{column}
use Rattle.node_lanes.specs.Settling.{settled}
use Rattle.node_lanes.proofs.settling.settle_words.Given as goal

-- settling what is left gives what settling all does
abbrev pub invariant-loop-place : goal.invariant-loop-place
invariant-loop-place l = (p : ℕ) → p < 64 → settled l.net.circuit (drop l.place-index l.places) (column p l.words) ≡ settled l.net.circuit l.places (column p l.initial.words)
