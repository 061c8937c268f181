-- Three written netlists, byte for byte.
use Rattle.std.specs.Prelude.{◌≡◌, ℕ, true, false, List, [], ◌∷◌, ◌++◌, codes, refl, Some}
use Rattle.tsc_cover.specs.Cover.{CoverTable}
use Rattle.tsc_cover.specs.Text.{literals_of_text}
use Rattle.fault_secure.specs.Circuit.{NodeOf, gate}
use Rattle.fault_secure.specs.CodePlan.{CodePlan}
use Rattle.fault_secure.specs.declared.code.Code.TheVariants.{Parity}
use Rattle.tsc_net.specs.Named.{Named}
use Rattle.tsc_net.specs.NetlistOf.{NetlistOf}
use Rattle.tsc_text.specs.Written.{text_of}
use Rattle.blif_read.specs.declared.clocks.Clock.{Clock}
use Rattle.blif_read.specs.declared.clocks.Edge.TheVariants.{Rising}
use Rattle.blif_write.specs.Layout.{layout}
use Rattle.blif_write.specs.NamedPlan.{NamedPlan}
use Rattle.blif_write.specs.RegisterText.{register_text}

-- each line with an LF after it
abbrev pub with_feeds : List (List ℕ) → List ℕ
with_feeds [] = []
with_feeds (line ∷ lines) = line ++ 10 ∷ with_feeds lines

-- an on-set cover of one row with these characters
abbrev pub one_row : ℕ → List ℕ → CoverTable
one_row width characters = record { width = width; on = true; rows = literals_of_text characters ∷ [] }

-- an and gate with a parity check and two rails
abbrev pub and2 : Named
and2 = record {
  model = codes "and2";
  inputs = codes "a" ∷ codes "b" ∷ [];
  outputs = codes "y" ∷ codes "t0_2" ∷ codes "t0_3" ∷ [];
  latches = [];
  nodes = record { reads = codes "a" ∷ codes "b" ∷ []; out = codes "y"; cover = one_row 2 (codes "11") }
      ∷ record { reads = codes "a" ∷ codes "b" ∷ []; out = codes "t0_0"; cover = one_row 2 (codes "11") }
      ∷ record { reads = codes "t0_0" ∷ []; out = codes "t0_1"; cover = one_row 1 (codes "0") }
      ∷ record { reads = codes "y" ∷ []; out = codes "t0_2"; cover = one_row 1 (codes "1") }
      ∷ record { reads = codes "t0_1" ∷ []; out = codes "t0_3"; cover = one_row 1 (codes "1") }
      ∷ [];
}

abbrev pub plan_of_and2 : NamedPlan
plan_of_and2 = record { version = 1; code = Parity; groups = (codes "y" ∷ codes "t0_1" ∷ []) ∷ []; checks = codes "t0_1" ∷ []; states = [] }

pub text-and2 : text_of (layout and2 plan_of_and2) ≡ with_feeds (
    codes ".model and2" ∷ codes ".inputs a b" ∷ codes ".outputs y t0_2 t0_3" ∷ codes "#tsc 1 parity" ∷ codes "#tsc group y t0_1"
    ∷ codes ".names a b y" ∷ codes "11 1" ∷ codes ".names a b t0_0" ∷ codes "11 1" ∷ codes ".names t0_0 t0_1" ∷ codes "0 1"
    ∷ codes ".names y t0_2" ∷ codes "1 1" ∷ codes ".names t0_1 t0_3" ∷ codes "1 1" ∷ codes ".end" ∷ [])
text-and2 = refl

-- an output that is an input, and an input named `\`, at whose line's end stands a blank
abbrev pub wire : Named
wire = record {
  model = codes "w";
  inputs = codes "a" ∷ codes "\\" ∷ [];
  outputs = codes "a" ∷ codes "t0_1" ∷ codes "t0_2" ∷ [];
  latches = [];
  nodes = record { reads = codes "a" ∷ []; out = codes "t0_0"; cover = one_row 1 (codes "0") }
      ∷ record { reads = codes "a" ∷ []; out = codes "t0_1"; cover = one_row 1 (codes "1") }
      ∷ record { reads = codes "t0_0" ∷ []; out = codes "t0_2"; cover = one_row 1 (codes "1") }
      ∷ [];
}

abbrev pub plan_of_wire : NamedPlan
plan_of_wire = record { version = 1; code = Parity; groups = (codes "a" ∷ codes "t0_0" ∷ []) ∷ []; checks = codes "t0_0" ∷ []; states = [] }

pub text-wire : text_of (layout wire plan_of_wire) ≡ with_feeds (
    codes ".model w" ∷ codes ".inputs a \\ " ∷ codes ".outputs a t0_1 t0_2" ∷ codes "#tsc 1 parity" ∷ codes "#tsc group a t0_0"
    ∷ codes ".names a t0_0" ∷ codes "0 1" ∷ codes ".names a t0_1" ∷ codes "1 1" ∷ codes ".names t0_0 t0_2" ∷ codes "1 1" ∷ codes ".end" ∷ [])
text-wire = refl

-- a register, an output that repeats it, a copy of both, the check of the output, that of the watch, and two rails
abbrev pub buf_of : ℕ → NodeOf
buf_of net = gate (one_row 1 (codes "1")) (net ∷ [])

abbrev pub not_of : ℕ → NodeOf
not_of net = gate (one_row 1 (codes "0")) (net ∷ [])

abbrev pub and_of : ℕ → ℕ → NodeOf
and_of a b = gate (one_row 2 (codes "11")) (a ∷ b ∷ [])

abbrev pub or_of : ℕ → ℕ → NodeOf
or_of a b = gate (record { width = 2; on = true; rows = literals_of_text (codes "1-") ∷ literals_of_text (codes "-1") ∷ [] }) (a ∷ b ∷ [])

abbrev pub kept_bit : NetlistOf
kept_bit = record {
  circuit = record {
    inputs = 2;
    latches = record { reads = 1; init = false } ∷ record { reads = 1; init = false } ∷ [];
    nodes = buf_of 2 ∷ buf_of 3 ∷ not_of 5 ∷ not_of 3
        ∷ and_of 4 2 ∷ and_of 6 7 ∷ or_of 8 9 ∷ buf_of 10
        ∷ and_of 4 7 ∷ and_of 6 2 ∷ or_of 12 13 ∷ buf_of 14
        ∷ [];
    outputs = 4 ∷ 11 ∷ 15 ∷ [];
  };
  names = codes "clk" ∷ codes "d" ∷ codes "p" ∷ codes "t0_0" ∷ codes "y" ∷ codes "t0_1" ∷ codes "t0_2" ∷ codes "t0_3"
      ∷ codes "t0_4" ∷ codes "t0_5" ∷ codes "t0_6" ∷ codes "t0_7" ∷ codes "t0_8" ∷ codes "t0_9" ∷ codes "t0_10" ∷ codes "t0_11"
      ∷ [];
  model = codes "kept";
}

abbrev pub plan_of_kept_bit : CodePlan
plan_of_kept_bit = record {
  version = 1;
  code = Parity;
  outputs = 1;
  checks = 6 ∷ [];
  groups = (0 ∷ []) ∷ [];
  latches = 0;
  weight = 0;
  states = [];
  rail1 = 11;
  rail2 = 15;
}

abbrev pub rising_clk : Clock
rising_clk = record { edge = Rising; control = codes "clk" }

pub text-kept_bit : register_text (Some rising_clk) kept_bit plan_of_kept_bit ((2 ∷ 7 ∷ []) ∷ []) ≡ with_feeds (
    codes ".model kept" ∷ codes ".inputs clk d" ∷ codes ".outputs y t0_7 t0_11"
    ∷ codes "#tsc 1 parity" ∷ codes "#tsc group y t0_2" ∷ codes "#tsc watch p t0_3"
    ∷ codes ".latch d p re clk 0" ∷ codes ".latch d t0_0 re clk 0"
    ∷ codes ".names p y" ∷ codes "1 1" ∷ codes ".names t0_0 t0_1" ∷ codes "1 1"
    ∷ codes ".names t0_1 t0_2" ∷ codes "0 1" ∷ codes ".names t0_0 t0_3" ∷ codes "0 1"
    ∷ codes ".names y p t0_4" ∷ codes "11 1" ∷ codes ".names t0_2 t0_3 t0_5" ∷ codes "11 1"
    ∷ codes ".names t0_4 t0_5 t0_6" ∷ codes "1- 1" ∷ codes "-1 1" ∷ codes ".names t0_6 t0_7" ∷ codes "1 1"
    ∷ codes ".names y t0_3 t0_8" ∷ codes "11 1" ∷ codes ".names t0_2 p t0_9" ∷ codes "11 1"
    ∷ codes ".names t0_8 t0_9 t0_10" ∷ codes "1- 1" ∷ codes "-1 1" ∷ codes ".names t0_10 t0_11" ∷ codes "1 1"
    ∷ codes ".end" ∷ [])
text-kept_bit = refl
