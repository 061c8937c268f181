use Rattle.tsc_text.proofs.Digits.{written-end, written-room, written-step}
use Rattle.std.proofs.Common.{arith}
use Rattle.tsc_text.proofs.decimals.write_digits.Goals as goal

pub overflow_sub-start : goal.overflow_sub-start
overflow_sub-start c = omega (arith, written-room c.args.value c.loop-rest.rest c.loop-rest.start c.loop-rest.digits (omega arith) c.loop-rest.invariant)

pub loop-rest-preserved : goal.loop-rest-preserved
loop-rest-preserved c = written-step c.args.value c.loop-rest.rest c.loop-rest.start c.loop-rest.digits (omega arith) (omega arith) c.loop-rest.invariant

pub overflow_sub-start-2 : goal.overflow_sub-start-2
overflow_sub-start-2 c = omega (arith, written-room c.args.value c.loop-rest.rest c.loop-rest.start c.loop-rest.digits (omega arith) c.loop-rest.invariant)

pub returns-clause-digits : goal.returns-clause-digits
returns-clause-digits c = written-end c.args.value c.loop-rest.rest c.loop-rest.start c.loop-rest.digits (omega arith) (omega arith) c.loop-rest.invariant
