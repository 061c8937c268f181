use Rattle.machine_maker.specs.Drawn.{generator}
use Rattle.machine_maker.proofs.drawing.generator.Goals as goal

pub returns : goal.returns
unfolding generator
returns c = record { generator = c.new.ensures }
