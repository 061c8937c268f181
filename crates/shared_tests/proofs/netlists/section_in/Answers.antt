use Rattle.shared_tests.proofs.Plans.{plan_listed}
use Rattle.shared_tests.proofs.netlists.section_in.Goals as goal

pub returns-in-Ok : goal.returns-in-Ok
returns-in-Ok c = record { plan = λ is. plan_listed c.args.kind _ c.in-Ok.read.net c.in-Ok.read.plan is c.in-Ok.ensures.of_net }
