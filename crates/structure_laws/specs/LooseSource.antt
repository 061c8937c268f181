-- Sources with free bits: what follows a network follows it with any bits free, and no structure looks at a plan's version.
use Rattle.std.specs.Prelude.{◌≡◌, ℕ, ◌⊎◌}
use Rattle.fault_secure.specs.Circuit.{Circuit}
use Rattle.fault_secure.specs.CodePlan.{CodePlan}
use Rattle.fault_secure.specs.Logic.{Network, Loose}
use Rattle.fault_secure.specs.Behaviour.{FollowsSource}
use Rattle.fault_secure.specs.SoundStructure.{HasSoundStructure}

-- the plan under another version
abbrev pub with_version : ℕ → CodePlan → CodePlan
with_version version P = record {
  version = version;
  code = P.code;
  outputs = P.outputs;
  checks = P.checks;
  groups = P.groups;
  latches = P.latches;
  weight = P.weight;
  states = P.states;
  rail1 = P.rail1;
  rail2 = P.rail2;
}

-- what follows a network follows each loose source with its values, whichever of its bits are free, under a plan of any version
abbrev pub FollowsWithFreeBits : Type 0
FollowsWithFreeBits = (V F N : Circuit) (P : CodePlan) (version : ℕ) → FollowsSource (Network V) N P
    → FollowsSource (Loose V F) N (with_version version P)

-- the structure of a netlist is as sound under a plan of another version
abbrev pub SoundUnderAnyVersion : Type 0
SoundUnderAnyVersion = (N : Circuit) (P : CodePlan) (version : ℕ) → (version ≡ 1) ⊎ (version ≡ 2) → HasSoundStructure N P
    → HasSoundStructure N (with_version version P)
