use Rattle.std.proofs.Common.{rules}
use Rattle.code_checkers.proofs.Gates.{push_added}
use Rattle.code_checkers.proofs.draft.Draft.add.Goals as goal

pub returns : goal.returns
returns c = record { added = push_added c.args.self.now c.self.inside.gates.items c.push.new.self.items c.args.gate c.len-place.result c.self.view_is c.in_ok-push.ensures.items (search rules) }
