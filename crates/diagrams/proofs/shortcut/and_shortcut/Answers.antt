use Rattle.diagrams.proofs.Shortcuts.{and_zero_left, and_zero_right, and_one_left, and_one_right, and_same}
use Rattle.diagrams.proofs.shortcut.and_shortcut.Goals as goal

pub returns-then-first-eq0-clause-is : goal.returns-then-first-eq0-clause-is
returns-then-first-eq0-clause-is c = and_zero_left c.args.first c.args.second c.if-first-eq0.true

pub returns-then-second-eq0-clause-is : goal.returns-then-second-eq0-clause-is
returns-then-second-eq0-clause-is c = and_zero_right c.args.first c.args.second c.if-second-eq0.true

pub returns-then-first-eq1-clause-is : goal.returns-then-first-eq1-clause-is
returns-then-first-eq1-clause-is c = and_one_left c.args.first c.args.second c.if-first-eq1.true

pub returns-then-second-eq1-clause-is : goal.returns-then-second-eq1-clause-is
returns-then-second-eq1-clause-is c = and_one_right c.args.first c.args.second c.if-second-eq1.true

pub returns-then-first-second-clause-is : goal.returns-then-first-second-clause-is
returns-then-first-second-clause-is c = and_same c.args.first c.args.second c.if-first-second.true
