-- A test of nets.
use Rattle.std.proofs.Common.{◌≡◌, ℕ, ◌==◌, ◌||◌, List, [], ◌∷◌, refl, ap}
use Rattle.std.specs.List.{list_any}
use Rattle.tsc_net.specs.PlanView.{net_numbers}
use Rattle.tsc_net.specs.declared.ids.NetId.{NetId}

-- a test of nets is a test of their numbers
pub any_number : (nets : List NetId) (n : ℕ) → list_any (λ other. other.number == n) nets ≡ list_any (λ other. other == n) (net_numbers nets)
any_number [] n = refl
any_number (net ∷ nets) n = ap (λ b. (net.number == n) || b) (any_number nets n)
