-- What is seen of a plan of the code, and the rules that it keeps.
use Rattle.std.specs.Prelude.{◌≡◌, ℕ, List, map}
use Rattle.tsc_bits.specs.Bits.{bits_of}
use Rattle.fault_secure.specs.CodePlan.{CodePlan, IsWellMade}
use Rattle.fault_secure.specs.declared.code.Code.TheVariants.{Parity}
use Rattle.tsc_net.specs.declared.ids.NetId.{NetId}
use Rattle.tsc_net.specs.declared.plan.Plan.TheInside.{Inside}

-- the numbers of nets
abbrev pub net_numbers : List NetId → List ℕ
net_numbers nets = map (λ net. net.number) nets

-- the plan with nets as numbers, groups as places and state words as bits
abbrev pub plan_of : Inside → CodePlan
plan_of p = record {
  version = p.version;
  code = p.code;
  outputs = p.outputs;
  checks = net_numbers p.checks;
  groups = map (λ group. group.places) p.groups;
  latches = p.states.width;
  weight = p.weight;
  states = map (bits_of p.states.width) p.states.words;
  rail1 = p.rail1.number;
  rail2 = p.rail2.number;
}

-- the plan is well made, and under parity its checks are those of its groups, in order
pub record KeepsRules (p : Inside) : Type 0 where
  pub well_made : IsWellMade (plan_of p)
  pub same_checks : p.code ≡ Parity → map (λ group. group.check) p.groups ≡ p.checks
