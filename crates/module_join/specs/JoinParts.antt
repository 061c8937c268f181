-- What is seen of parts of the code.
use Rattle.std.specs.Prelude.{List, map}
use Rattle.module_join.specs.declared.part.Part.{Part}
use Rattle.module_join.specs.JointNet.{PlannedOf}

-- what is seen of a part
abbrev pub planned_as : Part → PlannedOf
planned_as p = record { net = p.net; plan = p.plan; clock = p.clock }

-- what is seen of a list of parts
abbrev pub parts_as : List Part → List PlannedOf
parts_as parts = map planned_as parts
