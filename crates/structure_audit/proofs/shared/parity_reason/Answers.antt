use Rattle.std.proofs.Common.{◌≡◌, length, subst, arith}
use Rattle.fault_secure.specs.CodePlan.{IsWellMade}
use Rattle.monitored_nets.proofs.WordWithin.{word_within}
use Rattle.structure_audit.proofs.GroupPlaces.{word_nets_few}
use Rattle.structure_audit.proofs.shared.parity_reason.Goals as goal

pub line_masks-requires-clause-few : goal.line_masks-requires-clause-few
line_masks-requires-clause-few c =
    let none : length c.args.net.now.circuit.latches ≡ 0 = (let e = c.latches.ensures.count in let t = c.if-latches-gt0.false in omega arith) in
    word_nets_few c.args.net.now.circuit c.args.plan.now c.args.word.now (subst IsWellMade c.plan.view_is c.plan.invariant.well_made) c.requires.plan none c.requires.word

pub line_masks-requires-clause-nets : goal.line_masks-requires-clause-nets
line_masks-requires-clause-nets c = word_within c.args.net.now.circuit c.args.plan.now c.args.word.now c.requires.plan c.nets-nets.ensures.checked.closed c.requires.word

pub first_shared-requires-clause-few : goal.first_shared-requires-clause-few
first_shared-requires-clause-few c =
    let none : length c.args.net.now.circuit.latches ≡ 0 = (let e = c.latches.ensures.count in let t = c.if-latches-gt0.false in omega arith) in
    word_nets_few c.args.net.now.circuit c.args.plan.now c.args.word.now (subst IsWellMade c.plan.view_is c.plan.invariant.well_made) c.requires.plan none c.requires.word
