use Rattle.std.proofs.Common.{ℕ, ◌%◌, ap}
use Rattle.rand_pcg.specs.Lcg.{Lcg}
use Rattle.machine_maker.specs.Drawn.{draw}
use Rattle.machine_maker.proofs.drawing.draw.Goals as goal

pub returns-clause-drawn : goal.returns-clause-drawn
unfolding draw
returns-clause-drawn c = ap (λ (s : ℕ × Lcg). s.0 % c.args.n) c.next_word.ensures

pub returns-clause-left : goal.returns-clause-left
unfolding draw
returns-clause-left c = ap (λ (s : ℕ × Lcg). s.1) c.next_word.ensures
