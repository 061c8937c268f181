-- What a command refuses of a text: the first refusal, in order.
use Rattle.std.specs.Prelude.{ℕ, Bool, true, false, List, Option, None, Some}
use Rattle.fault_secure.specs.Logic.{StateTable}
use Rattle.fault_secure.specs.declared.code.Code.{Code}
use Rattle.synth_ways.specs.declared.way.Way.{Way}
use Rattle.synth_ways.specs.declared.way.Way.TheVariants.{Parity, Duplex, Berger, MOutOfN}
use Rattle.blif_read.specs.declared.kinds.Kind.TheVariants.{Registers, Source}
use Rattle.tsc_synth.specs.CoverBound.{is_too_large, is_too_large_twin}
use Rattle.tsc_synth.specs.MachineLimits.{has_too_many_states, takes_too_many_covers}
use Rattle.refusals.specs.declared.limit.Limit.TheVariants.{States, Covers}
use Rattle.refusals.specs.declared.text_refusal.TextRefusal.{TextRefusal}
use Rattle.refusals.specs.declared.text_refusal.TextRefusal.TheVariants.{TooMany}
use Rattle.text_sections.specs.Denoted.{machine_in, netlist_in, values_in}
use Rattle.text_sections.specs.Refused.{first_of, machine_text_refusal, pla_text_refusal, text_refusal}

-- a source whose netlist would have too many covers
abbrev pub size_refusal : Bool → Option TextRefusal
size_refusal true = Some (TooMany Covers)
size_refusal false = None

-- a source for a netlist by a way: its text, then the bound on the covers of the netlist
abbrev pub synth_refusal : Way → List ℕ → Option TextRefusal
synth_refusal way text = first_of (text_refusal Source text) (size_refusal (is_too_large way (netlist_in text).circuit))

-- a source, with registers or without, for a netlist of two copies: its text, then the bound on the covers of the netlist
abbrev pub twin_refusal : Bool → List ℕ → Option TextRefusal
twin_refusal watching text = first_of (text_refusal Registers text) (size_refusal (is_too_large_twin watching (netlist_in text).circuit))

-- a BLIF source for a netlist by a way
abbrev pub blif_refusal : Way → List ℕ → Option TextRefusal
blif_refusal Parity text = synth_refusal Parity text
blif_refusal Duplex text = twin_refusal false text
blif_refusal Berger text = synth_refusal Berger text
blif_refusal MOutOfN text = synth_refusal MOutOfN text

-- a machine with more states than there are state words
abbrev pub states_refusal : Bool → Option TextRefusal
states_refusal true = Some (TooMany States)
states_refusal false = None

-- a machine whose netlist would pass a limit: its states, then the bound on the covers of the netlist
abbrev pub limits_refusal : Code → StateTable → Option TextRefusal
limits_refusal code M = first_of (states_refusal (has_too_many_states M)) (size_refusal (takes_too_many_covers code M))

-- a machine for a netlist under a code: its text, then the limits of the netlist
abbrev pub synth_machine_refusal : Code → List ℕ → Option TextRefusal
synth_machine_refusal code text = first_of (machine_text_refusal text) (limits_refusal code (machine_in text))

-- a table for a netlist by a way: its text, then the bound on the covers of the netlist of its values
abbrev pub synth_loose_refusal : Way → List ℕ → Option TextRefusal
synth_loose_refusal way text = first_of (pla_text_refusal text) (size_refusal (is_too_large way (values_in text).circuit))
