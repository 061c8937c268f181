-- The functions that a plan's checker states over those of the places of a word.
use Rattle.std.specs.Prelude.{not, if◌then◌else◌, List, [], ◌∷◌, ◌++◌, map}
use Rattle.fault_secure.specs.CodePlan.{CodePlan}
use Rattle.code_checkers.specs.Signal.{Signal, value}
use Rattle.code_checkers.specs.Checker.{rail1, rail2}
use Rattle.code_checkers.specs.Walk.{walk}
use Rattle.diagrams.specs.Cofactors.{Function}
use Rattle.cover_diagrams.specs.Covering.{values}

-- a signal of a checker over the functions of the places of a word
abbrev pub signal_function : List Function → Signal → Function
signal_function ws signal x = value (values ws x) signal

-- the function that is 1 where exactly one of the two is
abbrev pub difference : Function → Function → Function
difference f g x = if f x then not (g x) else g x

-- what a plan's checker states over a word's functions: each of its gates, and where its two rails differ
abbrev pub checker_functions : CodePlan → List Function → List Function
checker_functions P ws =
    map (signal_function ws) (walk (rail2 P) (walk (rail1 P) [])) ++ difference (signal_function ws (rail1 P)) (signal_function ws (rail2 P)) ∷ []
