use Rattle.std.proofs.Common.{arith, ap, sym, ◌∙◌}
use Rattle.blif_read.specs.Faults.{fault_of}
use Rattle.blif_read.proofs.NextLine.{next_line}
use Rattle.blif_read.proofs.Scanned.{fault_here}
use Rattle.blif_read.proofs.first_fault.first_fault.Goals as goal

pub returns-in-Some : goal.returns-in-Some
returns-in-Some c =
    let step = next_line c.args.section.now c.loop-place.place c.line-line.result (omega arith) c.line-line.ensures.line in
    record {
      fault = sym (c.loop-place.invariant.same
          ∙ fault_here c.args.kind c.loop-place.seen _ _ _ c.number.result c.in-Some.cause step
          (c.in-Some.ensures.fault ∙ ap (λ k. fault_of c.args.kind c.loop-place.seen k c.line-line.result) c.kind_of-line_kind.ensures.kind) c.number.ensures.number);
    }
