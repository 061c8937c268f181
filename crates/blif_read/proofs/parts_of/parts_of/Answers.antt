use Rattle.std.proofs.Common.{◌+◌, length, ap, subst, arith}
use Rattle.tsc_text.specs.TextLine.{TextLine}
use Rattle.tsc_text.proofs.WordCounts.{word_count-more, word_count-take}
use Rattle.blif_read.specs.Clean.{AreClean}
use Rattle.blif_read.specs.NamedText.{named_text}
use Rattle.blif_read.proofs.NextLine.{next_line}
use Rattle.blif_read.proofs.NamedLines.{with_next_line}
use Rattle.blif_read.proofs.parts_of.parts_of.Goals as goal

pub line-requires-clause-clean : goal.line-requires-clause-clean
line-requires-clause-clean c =
    let step = next_line c.args.section.now c.loop-place.place c.line-line.result (omega arith) c.line-line.ensures.line in
    (subst AreClean step c.loop-place.invariant.clean).0

pub line-requires-clause-room : goal.line-requires-clause-room
line-requires-clause-room c =
    let lines = c.args.section.now in
    omega (
      arith,
      c.loop-place.invariant.few,
      word_count-more lines c.loop-place.place (omega arith),
      word_count-take lines (c.loop-place.place + 1),
      c.requires.few,
      ap (λ (line : TextLine). length line.words) c.line-line.ensures.line,
    )

pub loop-place-preserved : goal.loop-place-preserved
loop-place-preserved c =
    let step = next_line c.args.section.now c.loop-place.place c.line-line.result (omega arith) c.line-line.ensures.line in
    record {
      named = with_next_line c.loop-place.builder.named c.line.new.self.named (named_text c.args.section.now) _ _ _ step c.loop-place.invariant.named c.in_ok-line.ensures.named;
      few = omega (
        arith,
        c.loop-place.invariant.few,
        c.in_ok-line.ensures.few,
        word_count-more c.args.section.now c.loop-place.place (omega arith),
        ap (λ (line : TextLine). length line.words) c.line-line.ensures.line,
      );
      clean = (subst AreClean step c.loop-place.invariant.clean).1;
    }
