use Rattle.std.proofs.Common.{ℕ, ◌<◌, ◌*◌}
use Rattle.tsc_bits.specs.Bits.{bits_of}
use Rattle.checker_audit.specs.Misjudged.{monitored_count, IsJudged}
use Rattle.checker_audit.proofs.judging.first_wrong.Given as goal

-- the values of the blocks so far were judged right
abbrev pub invariant-loop-block : goal.invariant-loop-block
invariant-loop-block l = (u : ℕ) → u < l.block * 64 → u < l.most → IsJudged l.net.circuit l.plan (bits_of (monitored_count l.net.circuit l.plan) u)
