use Rattle.std.proofs.Common.{◌≡◌, ℕ, ◌<◌, ◌+◌, ◌-◌, drop, length}
use Rattle.tsc_bits.specs.Bits.{bits_of}
use Rattle.tsc_net.specs.PlanView.{net_numbers}
use Rattle.code_lanes.specs.Lanes.{column}
use Rattle.node_lanes.specs.Settling.{with_bits}
use Rattle.node_lanes.proofs.settling.put_words.Given as goal

-- putting what is left gives what putting all does
abbrev pub invariant-loop-place : goal.invariant-loop-place
invariant-loop-place l =
    (p : ℕ) → p < 64 → with_bits (column p l.words) (net_numbers (drop l.place l.nets)) (bits_of (length l.nets - l.place) (l.base + p))
    ≡ with_bits (column p l.initial.words) (net_numbers l.nets) (bits_of (length l.nets) (l.base + p))
