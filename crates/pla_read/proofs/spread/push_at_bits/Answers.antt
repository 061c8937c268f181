-- One place after the other.
use Rattle.std.proofs.Common.{ℕ, arith, subst}
use Rattle.tsc_bits.specs.Bits.{bits_of}
use Rattle.fault_secure.specs.Circuit.{bit}
use Rattle.pla_read.specs.Spread.{HaveRow}
use Rattle.pla_read.proofs.CoverLists.{have_all, have_fit, have_next, have_none}
use Rattle.pla_read.proofs.spread.push_at_bits.Goals as goal

pub loop-place-init : goal.loop-place-init
loop-place-init c = record {
  low = c.next_bit-place.ensures.high;
  some = c.next_bit-place.ensures.some;
  have = have_none c.args.row (bit (bits_of c.len-places.result c.args.number)) c.args.covers.now c.next_bit-place.result
      (λ k h. c.next_bit-place.ensures.none k (omega arith) h);
}

pub push_at-requires-clause-fit : goal.push_at-requires-clause-fit
push_at-requires-clause-fit c =
    have_fit c.args.row _ c.args.covers.now c.loop-place.covers c.loop-place.invariant.have c.requires.fit

pub loop-place-preserved : goal.loop-place-preserved
loop-place-preserved c = record {
  low = c.next_bit-place-in-loop-place.ensures.high;
  some = c.next_bit-place-in-loop-place.ensures.some;
  have = have_next c.args.row (bit (bits_of c.len-places.result c.args.number)) c.args.covers.now c.loop-place.covers c.push_at.new.covers c.loop-place.place
      c.next_bit-place-in-loop-place.result c.loop-place.invariant.have (omega arith) (c.loop-place.invariant.some c.loop-place-test.true) c.in_ok-push_at.ensures.pushed (omega arith)
      (λ k low below. c.next_bit-place-in-loop-place.ensures.none k (omega arith) below);
}

pub returns : goal.returns
returns c = record {
  pushed = subst (λ (n : ℕ). HaveRow c.args.row (bit (bits_of n c.args.number)) c.args.covers.now c.loop-place.covers) c.len-places.ensures.count
      (have_all c.args.row (bit (bits_of c.len-places.result c.args.number)) c.args.covers.now c.loop-place.place c.loop-place.covers (omega arith) c.loop-place.invariant.have);
}
