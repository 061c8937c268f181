-- Which code the netlists of each way of synthesis have.
use Rattle.fault_secure.specs.declared.code.Code.{Code}
use Rattle.fault_secure.specs.declared.code.Code.TheVariants.{Parity, Berger, MOutOfN}
use Rattle.synth_ways.specs.declared.way.Way.{Way}
use Rattle.synth_ways.specs.declared.way.Way.TheVariants as way

-- over one shared copy it is parity, as it is with a copy for each group
abbrev pub way_code : Way → Code
way_code way.Parity = Parity
way_code way.Duplex = Parity
way_code way.Berger = Berger
way_code way.MOutOfN = MOutOfN
