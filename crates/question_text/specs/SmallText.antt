-- A small text, byte for byte: that of a wire, whose netlist has the check t0_0 and the rails t0_1 and t0_2.
use Rattle.std.specs.Prelude.{◌≡◌, ℕ, List, [], ◌∷◌, ◌++◌, codes}
use Rattle.tsc_cover.specs.Gates.{buf_cover, not_cover}
use Rattle.fault_secure.specs.Circuit.{gate}
use Rattle.fault_secure.specs.CodePlan.{CodePlan}
use Rattle.fault_secure.specs.declared.code.Code.TheVariants.{Parity}
use Rattle.tsc_net.specs.NetlistOf.{NetlistOf}
use Rattle.question_text.specs.Text.{question_text}

-- each line with an LF after it
abbrev pub with_feeds : List (List ℕ) → List ℕ
with_feeds [] = []
with_feeds (line ∷ lines) = line ++ 10 ∷ with_feeds lines

abbrev pub wire_source : NetlistOf
wire_source = record { circuit = record { inputs = 1; latches = []; nodes = []; outputs = 0 ∷ [] }; names = codes "a" ∷ []; model = codes "w" }

abbrev pub wire_netlist : NetlistOf
wire_netlist = record {
  circuit = record {
    inputs = 1;
    latches = [];
    nodes = gate not_cover (0 ∷ []) ∷ gate buf_cover (0 ∷ []) ∷ gate buf_cover (1 ∷ []) ∷ [];
    outputs = 0 ∷ 2 ∷ 3 ∷ [];
  };
  names = codes "a" ∷ codes "t0_0" ∷ codes "t0_1" ∷ codes "t0_2" ∷ [];
  model = codes "w";
}

abbrev pub wire_plan : CodePlan
wire_plan = record {
  version = 1;
  code = Parity;
  outputs = 1;
  checks = 1 ∷ [];
  groups = (0 ∷ []) ∷ [];
  latches = 0;
  weight = 0;
  states = [];
  rail1 = 2;
  rail2 = 3;
}

abbrev pub wire_lines : List (List ℕ)
wire_lines =
    codes "c input 1 a" ∷ codes "c net 2 t0_0" ∷ codes "c net 3 t0_1" ∷ codes "c net 4 t0_2" ∷ codes "c cell 5 t0_0" ∷ codes "c wrong 7 t0_0" ∷
    codes "c cell 9 t0_1" ∷ codes "c wrong 11 t0_1" ∷ codes "c cell 14 t0_2" ∷ codes "c wrong 16 t0_2" ∷ codes "p cnf 23 62" ∷ codes "2 1 0" ∷
    codes "-2 -1 0" ∷ codes "3 -1 0" ∷ codes "-3 1 0" ∷ codes "4 -2 0" ∷ codes "-4 2 0" ∷ codes "-7 6 5 0" ∷ codes "-7 -6 -5 0" ∷ codes "7 -6 5 0" ∷
    codes "7 6 -5 0" ∷ codes "6 1 0" ∷ codes "-6 -1 0" ∷ codes "-8 2 7 0" ∷ codes "-8 -2 -7 0" ∷ codes "8 -2 7 0" ∷ codes "8 2 -7 0" ∷
    codes "-8 5 0" ∷ codes "-11 10 9 0" ∷ codes "-11 -10 -9 0" ∷ codes "11 -10 9 0" ∷ codes "11 10 -9 0" ∷ codes "10 -1 0" ∷ codes "-10 1 0" ∷
    codes "-12 3 11 0" ∷ codes "-12 -3 -11 0" ∷ codes "12 -3 11 0" ∷ codes "12 3 -11 0" ∷ codes "-12 9 0" ∷ codes "-5 13 0" ∷ codes "-9 13 0" ∷
    codes "-9 -5 0" ∷ codes "-16 15 14 0" ∷ codes "-16 -15 -14 0" ∷ codes "16 -15 14 0" ∷ codes "16 15 -14 0" ∷ codes "15 -7 0" ∷ codes "-15 7 0" ∷
    codes "-17 4 16 0" ∷ codes "-17 -4 -16 0" ∷ codes "17 -4 16 0" ∷ codes "17 4 -16 0" ∷ codes "-17 14 8 0" ∷ codes "-13 18 0" ∷ codes "-14 18 0" ∷
    codes "-14 -13 0" ∷ codes "-19 1 0" ∷ codes "-19 -1 0" ∷ codes "-20 1 2 0" ∷ codes "-20 -1 -2 0" ∷ codes "20 -1 2 0" ∷ codes "20 1 -2 0" ∷
    codes "-21 3 4 0" ∷ codes "-21 -3 -4 0" ∷ codes "21 -3 4 0" ∷ codes "21 3 -4 0" ∷ codes "-22 11 16 0" ∷ codes "-22 -11 -16 0" ∷
    codes "22 -11 16 0" ∷ codes "22 11 -16 0" ∷ codes "-23 22 0" ∷ codes "-23 0" ∷ codes "19 -20 -21 23 0" ∷ []

-- the text of the wire's question is these lines
abbrev pub SmallText : Type 0
SmallText = question_text wire_source wire_netlist wire_plan ≡ with_feeds wire_lines
