-- What is secure for a source that allows less is secure for the one that allows more.
use Rattle.std.proofs.Common.{Bool, List, [], ◌∷◌, Some, refl, ap, ◌∙◌}
use Rattle.fault_secure.specs.Circuit.{Circuit}
use Rattle.fault_secure.specs.StuckAt.{NoFault}
use Rattle.fault_secure.specs.Run.{init_state, next_state}
use Rattle.fault_secure.specs.CodePlan.{CodePlan}
use Rattle.fault_secure.specs.Logic.{Logic}
use Rattle.fault_secure.specs.Behaviour.{FollowsSource}
use Rattle.fault_secure.specs.CellSecure.{IsCellSecure}
use Rattle.fault_secure.specs.FaultSecure.{Follows, FollowsFrom, IsFaultSecure, IsFlagged, NoSilentError, StepFollows}
use Rattle.point_laws.specs.Heard.{IsAlarmSecure}
use Rattle.source_laws.specs.AllowsLess.{AllowsLess, CarriesOver, RefinementsChain}

module _ (L M : Logic) (N : Circuit) (P : CodePlan) (less : AllowsLess P.version L M) where
  step : (s x v : List Bool) → StepFollows L N P s x v → StepFollows M N P s x v
  step s x v h = record {
    here = h.here;
    next = h.next;
    traced = h.traced;
    arrives = h.arrives;
    outputs = less.outputs h.here x _ h.outputs;
    next_allowed = less.next h.here x h.next h.next_allowed;
  }

  steps : (s : List Bool) (xs vs : List (List Bool)) → FollowsFrom L N P s xs vs → FollowsFrom M N P s xs vs
  steps s [] vs h = tt
  steps s (x ∷ xs) [] h = tt
  steps s (x ∷ xs) (v ∷ vs) h = (step s x v h.0, steps (next_state N NoFault v) xs vs h.1)

  run : (xs vs : List (List Bool)) → Follows L N P xs vs → Follows M N P xs vs
  run xs vs h = record { starts = h.starts ∙ ap Some less.reset; steps = steps (init_state N) xs vs h.steps }

  -- an output that the source that allows more doesn't allow, the one that allows less doesn't allow
  silent : (xs vs us : List (List Bool)) → NoSilentError L N P xs vs us → NoSilentError M N P xs vs us
  silent xs vs us h = λ at q inside traced wrong. h at q inside traced (λ ok. wrong (less.outputs q _ _ ok))

  flagged : (xs vs us : List (List Bool)) → IsFlagged L N P xs vs us → IsFlagged M N P xs vs us
  flagged xs vs us h = record { first_error = h.first_error; no_silent_error = silent xs vs us h.no_silent_error }

-- what follows a source follows each source that allows more under its plan
pub follows_carries : CarriesOver FollowsSource
follows_carries L M N P less h = record {
  starts = h.starts ∙ ap Some less.reset;
  steps = λ q s x v at settles. step L M N P less s x v (h.steps q s x v at settles);
  codewords = h.codewords;
}

-- what is secure against any one failing cell for a source is so for each source that allows more under its plan
pub cells_carry : CarriesOver IsCellSecure
cells_carry L M N P less h = record {
  one_run = h.one_run;
  one_run_but = h.one_run_but;
  follows = λ w xs vs runs. run L M N P less xs vs (h.follows w xs vs runs);
  quiet = h.quiet;
  flagged = λ cell w xs vs us is runs but. flagged L M N P less xs vs us (h.flagged cell w xs vs us is runs but);
}

-- what is fault-secure for a source is so for each source that allows more under its plan
pub faults_carry : CarriesOver IsFaultSecure
faults_carry L M N P less h = record {
  one_run = h.one_run;
  follows = λ w xs vs runs. run L M N P less xs vs (h.follows w xs vs runs);
  quiet = h.quiet;
  flagged = λ f w xs vs us is runs under. flagged L M N P less xs vs us (h.flagged f w xs vs us is runs under);
}

-- what is alarm-secure for a source is so for each source that allows more under its plan
pub alarms_carry : CarriesOver IsAlarmSecure
alarms_carry L M N P less h = record {
  one_run = h.one_run;
  one_run_but = h.one_run_but;
  follows = λ w xs vs runs. run L M N P less xs vs (h.follows w xs vs runs);
  quiet = h.quiet;
  alarmed = λ cell w xs vs us is runs but. silent L M N P less xs vs us (h.alarmed cell w xs vs us is runs but);
}

pub refinements_chain : RefinementsChain
refinements_chain = record {
  same = λ version M. record { reset = refl; outputs = λ q x ys h. h; next = λ q x r h. h };
  chain = λ version K L M first second. record {
    reset = first.reset ∙ second.reset;
    outputs = λ q x ys h. second.outputs q x ys (first.outputs q x ys h);
    next = λ q x r h. second.next q x r (first.next q x r h);
  };
}
