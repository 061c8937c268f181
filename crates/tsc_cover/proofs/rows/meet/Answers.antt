use Rattle.std.proofs.Common.{eqb-true, eq-eqb, rules}
use Rattle.tsc_cover.proofs.Meeting.{Meet-from_clash, clash-from_Meet}
use Rattle.tsc_cover.proofs.rows.meet.Goals as goal

pub returns-clause-meet : goal.returns-clause-meet
returns-clause-meet c = (
  λ e. Meet-from_clash 64 c.args.a.now c.args.b.now (eqb-true _ _ e),
  λ m. eq-eqb _ _ (clash-from_Meet 64 c.args.a.now c.args.b.now (search rules) m),
)

pub returns-clause-narrow : goal.returns-clause-narrow
returns-clause-narrow c width h g = (
  λ e. Meet-from_clash width c.args.a.now c.args.b.now (eqb-true _ _ e),
  λ m. eq-eqb _ _ (clash-from_Meet width c.args.a.now c.args.b.now g m),
)
