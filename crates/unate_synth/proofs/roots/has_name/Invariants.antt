use Rattle.std.proofs.Common.{◌≡◌, ℕ, ◌<◌}
use Rattle.unate_synth.specs.Roots.{root_number}
use Rattle.unate_synth.proofs.roots.has_name.Given as goal

abbrev pub invariant-loop-root : goal.invariant-loop-root
invariant-loop-root l = (k : ℕ) → k < l.root-index → root_number l.roots k ≡ l.name.number → ⊥
