use Rattle.module_join.proofs.PlanShows.{plan_shows, seen_plan_shows, read_plan_shows}
use Rattle.module_join.proofs.plans.plans_show_netlists.Goals as goal

pub returns : goal.returns
returns c = record { own = plan_shows; seen = seen_plan_shows; read = read_plan_shows }
