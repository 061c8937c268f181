-- One predictor, worked out: that of the conjunction y of two inputs a and b, a group of its own.
use Rattle.std.specs.Prelude.{ℕ, List, [], ◌∷◌, codes, None}
use Rattle.tsc_cover.specs.Gates.{and_cover, not_cover}
use Rattle.fault_secure.specs.Circuit.{gate}
use Rattle.tsc_net.specs.Named.{NamedNode}
use Rattle.tsc_net.specs.NetlistOf.{NetlistOf}
use Rattle.tsc_net.specs.Parts.{PartsOf}

abbrev pub worked_source : NetlistOf
worked_source = record {
  circuit = record { inputs = 2; latches = []; nodes = gate and_cover (0 ∷ (1 ∷ [])) ∷ []; outputs = 2 ∷ [] };
  names = codes "a" ∷ (codes "b" ∷ (codes "y" ∷ []));
  model = codes "and";
}

abbrev pub worked_groups : List (List ℕ)
worked_groups = (0 ∷ []) ∷ []

-- the source's own cover
abbrev pub worked_node : NamedNode
worked_node = record { reads = codes "a" ∷ (codes "b" ∷ []); out = codes "y"; cover = and_cover }

-- parts that hold it
abbrev pub worked_parts : PartsOf
worked_parts = record {
  names = codes "a" ∷ (codes "b" ∷ (codes "y" ∷ []));
  named = record { model = codes "and"; inputs = codes "a" ∷ (codes "b" ∷ []); outputs = codes "y" ∷ []; latches = []; nodes = worked_node ∷ [] };
  fresh = None;
}

-- the copy and the check
abbrev pub worked_copy : NamedNode
worked_copy = record { reads = codes "a" ∷ (codes "b" ∷ []); out = codes "t0_0"; cover = and_cover }

abbrev pub worked_check : NamedNode
worked_check = record { reads = codes "t0_0" ∷ []; out = codes "t0_1"; cover = not_cover }
