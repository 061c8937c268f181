use Rattle.std.proofs.Common.{◌+◌, ◌-◌, ◌≤◌, length, arith, rules}
use Rattle.blif_read.specs.Faults.{most_latches}
use Rattle.blif_read.proofs.Scanned.{inputs_fit, outputs_fit, latches_fit}
use Rattle.blif_read.proofs.seen.Seen.behind.Goals as goal

pub overflow_add-seen-in-Inputs : goal.overflow_add-seen-in-Inputs
overflow_add-seen-in-Inputs c =
    let fit : c.args.self.inputs + (length c.args.line.now.words - 1) ≤ 1024 =
    inputs_fit c.args.kind c.args.self c.args.line_kind c.args.line.now (search rules) c.requires.sound c.requires.within in
    omega arith

pub overflow_add-seen-in-Outputs : goal.overflow_add-seen-in-Outputs
overflow_add-seen-in-Outputs c =
    let fit : c.args.self.outputs + (length c.args.line.now.words - 1) ≤ 66 =
    outputs_fit c.args.kind c.args.self c.args.line_kind c.args.line.now (search rules) c.requires.sound c.requires.within in
    omega arith

pub returns-in-Inputs-clause-within : goal.returns-in-Inputs-clause-within
returns-in-Inputs-clause-within c =
    let fit : c.args.self.inputs + (length c.args.line.now.words - 1) ≤ 1024 =
    inputs_fit c.args.kind c.args.self c.args.line_kind c.args.line.now (search rules) c.requires.sound c.requires.within in
    record { inputs = omega arith; outputs = c.requires.within.outputs; nodes = c.requires.within.nodes; latches = c.requires.within.latches }

pub returns-in-Outputs-clause-within : goal.returns-in-Outputs-clause-within
returns-in-Outputs-clause-within c =
    let fit : c.args.self.outputs + (length c.args.line.now.words - 1) ≤ 66 =
    outputs_fit c.args.kind c.args.self c.args.line_kind c.args.line.now (search rules) c.requires.sound c.requires.within in
    record { inputs = c.requires.within.inputs; outputs = omega arith; nodes = c.requires.within.nodes; latches = c.requires.within.latches }

pub returns-in-Latch-clause-within : goal.returns-in-Latch-clause-within
returns-in-Latch-clause-within c =
    let fit : c.args.self.latches + 1 ≤ most_latches c.args.kind =
    latches_fit c.args.kind c.args.self c.args.line_kind c.args.line.now (search rules) c.requires.sound c.requires.within in
    record { inputs = c.requires.within.inputs; outputs = c.requires.within.outputs; nodes = c.requires.within.nodes; latches = fit }
