use Rattle.diagrams.proofs.Shortcuts.{xor_zero_left, xor_zero_right, xor_same}
use Rattle.diagrams.proofs.shortcut.xor_shortcut.Goals as goal

pub returns-then-first-eq0-clause-is : goal.returns-then-first-eq0-clause-is
returns-then-first-eq0-clause-is c = xor_zero_left c.args.first c.args.second c.if-first-eq0.true

pub returns-then-second-eq0-clause-is : goal.returns-then-second-eq0-clause-is
returns-then-second-eq0-clause-is c = xor_zero_right c.args.first c.args.second c.if-second-eq0.true

pub returns-then-first-second-clause-is : goal.returns-then-first-second-clause-is
returns-then-first-second-clause-is c = xor_same c.args.first c.args.second c.if-first-second.true
