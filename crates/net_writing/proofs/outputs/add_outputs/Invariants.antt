use Rattle.std.proofs.Common.{◌≡◌, take}
use Rattle.tsc_net.specs.PartsView.{texts_of}
use Rattle.net_writing.specs.Outputs.{with_outputs}
use Rattle.net_writing.proofs.outputs.add_outputs.Given as goal

abbrev pub invariant-loop-name : goal.invariant-loop-name
invariant-loop-name l = l.parts ≡ with_outputs l.fn.parts (texts_of l.fn.parts.names (take l.name-index l.names))
