use Rattle.std.proofs.Common.{◌*◌, ◌^◌, ◌<◌, ◌≤◌, ℕ, length, arith}
use Rattle.machine_lines.specs.MachineSize.{machine_size}
use Rattle.machine_synth.proofs.Bounds.{few_gates}
use Rattle.machine_synth.proofs.SelfChecking.{code_fit}
use Rattle.machine_synth.proofs.synthesis.lines_of.Goals as goal

pub machine_lines-requires-clause-words : goal.machine_lines-requires-clause-words
machine_lines-requires-clause-words c = code_fit c.args.machine.now.table.states c.args.codes.now c.requires.codes

pub machine_lines-requires-clause-small : goal.machine_lines-requires-clause-small
machine_lines-requires-clause-small c = λ checks width. (
    let M = c.args.machine.now.table in
    let some : 0 < M.outputs = omega (arith, c.outputs-outputs.ensures.outputs, c.outputs-outputs.ensures.some) in
    let most : M.outputs ≤ 64 = omega (arith, c.outputs-outputs.ensures.outputs, c.outputs-outputs.ensures.few) in
    let few : 4 * machine_size M checks c.args.codes.now.n ≤ 1048576 = few_gates M c.args.code checks c.args.codes.now.n c.args.codes.now.m c.requires.small some most width c.requires.few c.requires.codes.least c.requires.codes.half in
    room (4 * machine_size M checks c.args.codes.now.n) few)
  where
    room : (a : ℕ) → a ≤ 1048576 → a < 2 ^ 32
    room a h = omega (arith, h)

pub returns-clause-few : goal.returns-clause-few
returns-clause-few c =
    let M = c.args.machine.now.table in
    let some : 0 < M.outputs = omega (arith, c.outputs-outputs.ensures.outputs, c.outputs-outputs.ensures.some) in
    let most : M.outputs ≤ 64 = omega (arith, c.outputs-outputs.ensures.outputs, c.outputs-outputs.ensures.few) in
    let few : 4 * machine_size M c.in_ok-made.made.checks c.args.codes.now.n ≤ 1048576
    = few_gates M c.args.code c.in_ok-made.made.checks c.args.codes.now.n c.args.codes.now.m c.requires.small some most c.in_ok-made.ensures.width c.requires.few c.requires.codes.least c.requires.codes.half in
    within (length c.in_ok-made.made.gates.gates) (4 * machine_size M c.in_ok-made.made.checks c.args.codes.now.n) c.in_ok-made.ensures.few few
  where
    within : (a b : ℕ) → a ≤ b → b ≤ 1048576 → a ≤ 1048576
    within a b h k = omega (arith, h, k)
