-- A netlist that fits its source has as many points.
use Rattle.std.proofs.Common.{◌≡◌, ℕ, ◌*◌, ◌^◌, ap₂}
use Rattle.fault_secure.specs.Circuit.{Circuit}
use Rattle.fault_secure.specs.CodePlan.{CodePlan}
use Rattle.fault_secure.specs.Logic.{Logic}
use Rattle.fault_secure.specs.Exposing.{point_count}
use Rattle.audit.specs.Verdict.{audit_points, FitsSource}

pub points_of_source : (M : Logic) (N : Circuit) (P : CodePlan) → FitsSource M N P → point_count N P ≡ audit_points M
points_of_source M N P fits = ap₂ (λ (states inputs : ℕ). states * 2 ^ inputs) fits.states fits.inputs
