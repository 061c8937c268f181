-- A small joint, worked out by hand: a netlist of one AND gate under parity, and one that shows its input, under one pair of rails.
use Rattle.std.specs.Prelude.{◌≡◌, [], ◌∷◌, codes, None}
use Rattle.tsc_cover.specs.Gates.{buf_cover, not_cover, and_cover, or_cover}
use Rattle.fault_secure.specs.declared.code.Code.TheVariants.{Parity}
use Rattle.fault_secure.specs.Circuit.{Circuit, gate}
use Rattle.structure_laws.specs.SmallNetlist.{small_netlist, small_plan}
use Rattle.module_join.specs.JointNet.{PlannedOf, joint}

-- y is a and b; its check is the negated copy, and each rail a buffer
abbrev pub first_part : PlannedOf
first_part = record {
  net = record {
    circuit = small_netlist;
    names = codes "a" ∷ codes "b" ∷ codes "y" ∷ codes "t0_0" ∷ codes "t0_1" ∷ codes "t0_2" ∷ codes "t0_3" ∷ [];
    model = codes "and";
  };
  plan = small_plan;
  clock = None;
}

-- the input a is the output; its check is the negated input, and each rail a buffer
abbrev pub second_part : PlannedOf
second_part = record {
  net = record {
    circuit = record {
      inputs = 1;
      latches = [];
      nodes = gate not_cover (0 ∷ []) ∷ gate buf_cover (0 ∷ []) ∷ gate buf_cover (1 ∷ []) ∷ [];
      outputs = 0 ∷ 2 ∷ 3 ∷ [];
    };
    names = codes "a" ∷ codes "t0_0" ∷ codes "t0_1" ∷ codes "t0_2" ∷ [];
    model = codes "wire";
  };
  plan = record {
    version = 1;
    code = Parity;
    outputs = 1;
    checks = 1 ∷ [];
    groups = (0 ∷ []) ∷ [];
    latches = 0;
    weight = 0;
    states = [];
    rail1 = 2;
    rail2 = 3;
  };
  clock = None;
}

-- a and b are the nets 0 and 1; those of the first part 2 to 6, of the second 7 to 9, of the tree 10 to 17. The output a is the input
abbrev pub two_joined : Circuit
two_joined = record {
  inputs = 2;
  latches = [];
  nodes = gate and_cover (0 ∷ 1 ∷ [])
      ∷ gate and_cover (0 ∷ 1 ∷ [])
      ∷ gate not_cover (3 ∷ [])
      ∷ gate buf_cover (2 ∷ [])
      ∷ gate buf_cover (4 ∷ [])
      ∷ gate not_cover (0 ∷ [])
      ∷ gate buf_cover (0 ∷ [])
      ∷ gate buf_cover (7 ∷ [])
      ∷ gate and_cover (5 ∷ 8 ∷ [])
      ∷ gate and_cover (6 ∷ 9 ∷ [])
      ∷ gate or_cover (10 ∷ 11 ∷ [])
      ∷ gate buf_cover (12 ∷ [])
      ∷ gate and_cover (5 ∷ 9 ∷ [])
      ∷ gate and_cover (6 ∷ 8 ∷ [])
      ∷ gate or_cover (14 ∷ 15 ∷ [])
      ∷ gate buf_cover (16 ∷ [])
      ∷ [];
  outputs = 2 ∷ 0 ∷ 13 ∷ 17 ∷ [];
}

abbrev pub TwoAreJoined : Type 0
TwoAreJoined = (joint (first_part ∷ second_part ∷ [])).circuit ≡ two_joined
