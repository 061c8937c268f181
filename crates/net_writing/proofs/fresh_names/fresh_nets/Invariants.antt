use Rattle.std.proofs.Common.{◌≡◌, ℕ, map}
use Rattle.std.specs.List.{range_with_len}
use Rattle.tsc_net.specs.Names.{place_of_text}
use Rattle.tsc_net.specs.PlanView.{net_numbers}
use Rattle.tsc_net.specs.Parts.{fresh_text}
use Rattle.net_writing.proofs.fresh_names.fresh_nets.Given as goal

-- the nets of the first counts
abbrev pub invariant-loop-place : goal.invariant-loop-place
invariant-loop-place l = net_numbers l.nets ≡ map (λ (k : ℕ). place_of_text l.net.names (fresh_text l.number k)) (range_with_len l.first l.place)
