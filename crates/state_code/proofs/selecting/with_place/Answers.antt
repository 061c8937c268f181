use Rattle.state_code.proofs.Selected.{either_made}
use Rattle.std.specs.Prelude.{refl}
use Rattle.state_code.specs.Lines.{foreign_to_select}
use Rattle.state_code.proofs.Without.{without_twice}
use Rattle.state_code.proofs.selecting.with_place.Goals as goal

pub returns-in_err-chosen-clause-grown : goal.returns-in_err-chosen-clause-grown
returns-in_err-chosen-clause-grown c = c.both.ensures.grown foreign_to_select (λ a b. refl)

pub returns-in_err-line-clause-grown : goal.returns-in_err-line-clause-grown
returns-in_err-line-clause-grown c =
    without_twice foreign_to_select c.args.gates.now c.both.new.gates c.either.new.gates (c.both.ensures.grown foreign_to_select (λ a b. refl)) (c.either.ensures.grown foreign_to_select (λ a b. refl))

pub returns-clause-grown : goal.returns-clause-grown
returns-clause-grown c =
    without_twice foreign_to_select c.args.gates.now c.both.new.gates c.either.new.gates (c.both.ensures.grown foreign_to_select (λ a b. refl)) (c.either.ensures.grown foreign_to_select (λ a b. refl))

pub returns-clause-computes : goal.returns-clause-computes
returns-clause-computes c =
    either_made c.args.gates.now c.both.new.gates c.either.new.gates c.args.made c.in_ok-chosen.chosen c.in_ok-line.line _ c.requires.made c.in_ok-chosen.ensures.computes c.in_ok-line.ensures.computes
