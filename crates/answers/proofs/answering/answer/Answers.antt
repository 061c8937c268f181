use Rattle.answers.proofs.answering.answer.Goals as goal

pub returns-in_ok-synth_twin-in-SynthWatched-clause-answers : goal.returns-in_ok-synth_twin-in-SynthWatched-clause-answers
returns-in_ok-synth_twin-in-SynthWatched-clause-answers c = rw (c.in-SynthWatched.is, c.finished-in-SynthWatched.ensures.reply) c.in_ok-synth_twin-in-SynthWatched.ensures.answers

pub returns-in_ok-synth_kiss-in-SynthKiss-clause-answers : goal.returns-in_ok-synth_kiss-in-SynthKiss-clause-answers
returns-in_ok-synth_kiss-in-SynthKiss-clause-answers c = rw (c.in-SynthKiss.is, c.finished-in-SynthKiss.ensures.reply) c.in_ok-synth_kiss-in-SynthKiss.ensures.answers

pub returns-in_ok-synth_pla-in-SynthPla-clause-answers : goal.returns-in_ok-synth_pla-in-SynthPla-clause-answers
returns-in_ok-synth_pla-in-SynthPla-clause-answers c = rw (c.in-SynthPla.is, c.finished-in-SynthPla.ensures.reply) c.in_ok-synth_pla-in-SynthPla.ensures.answers

pub returns-in_ok-test_vectors-in-Vectors-clause-answers : goal.returns-in_ok-test_vectors-in-Vectors-clause-answers
returns-in_ok-test_vectors-in-Vectors-clause-answers c = rw (c.in-Vectors.is) c.in_ok-test_vectors-in-Vectors.ensures.answers

pub returns-in_ok-joint_in-in-Join-clause-answers : goal.returns-in_ok-joint_in-in-Join-clause-answers
returns-in_ok-joint_in-in-Join-clause-answers c = rw (c.in-Join.is) c.in_ok-joint_in-in-Join.ensures.answers

pub returns-in_ok-graded_netlist-in-Grade-clause-answers : goal.returns-in_ok-graded_netlist-in-Grade-clause-answers
returns-in_ok-graded_netlist-in-Grade-clause-answers c = rw (c.in-Grade.is) c.in_ok-graded_netlist-in-Grade.ensures.answers
