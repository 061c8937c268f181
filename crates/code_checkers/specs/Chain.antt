-- How a chain joins its signals.
use Rattle.code_checkers.specs.declared.chain.Joint.{Joint}
use Rattle.code_checkers.specs.declared.chain.Joint.TheVariants.{Either, Odd}
use Rattle.code_checkers.specs.Signal.{Signal}
use Rattle.code_checkers.specs.Signal.Signal.{Or, Xor}

abbrev pub joined : Joint → Signal → Signal → Signal
joined Either = Or
joined Odd = Xor
