-- Parts of a netlist over a source, as they begin: the names of its nets, and its inputs.
use Rattle.std.specs.Prelude.{◌≡◌, ℕ, ◌<◌, List, [], None, take, length}
use Rattle.tsc_net.specs.NetlistOf.{NetlistOf}
use Rattle.tsc_net.specs.Parts.{PartsOf}
use Rattle.tsc_net.specs.declared.ids.Name.{Name}
use Rattle.net_writing.specs.Names.{name_at}

-- the names of the first nets, so many of them, and the inputs among them
abbrev pub begun_to : NetlistOf → ℕ → PartsOf
begun_to S count = record {
  names = take count S.names;
  named = record { model = S.model; inputs = take count (take S.circuit.inputs S.names); outputs = []; latches = []; nodes = [] };
  fresh = None;
}

-- each of the first nets, so many of them, has the name of its own number
pub record AreOwnNames (count : ℕ) (names : List Name) : Type 0 where
  pub sized : length names ≡ count
  pub own : (net : ℕ) → net < count → (name_at names net).number ≡ net
