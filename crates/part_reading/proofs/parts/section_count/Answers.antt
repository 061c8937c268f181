-- One section more is counted.
use Rattle.std.proofs.Common.{◌<◌, ◌≤◌, length, ap, arith}
use Rattle.part_reading.proofs.PartLemmas.{next_rises, none_left, one_more}
use Rattle.text_sections.proofs.SectionLemmas.{behind_within}
use Rattle.part_reading.proofs.parts.section_count.Goals as goal

pub loop-from-preserved : goal.loop-from-preserved
loop-from-preserved c =
    let lines = c.args.lines.now in
    let from = c.loop-from.from in
    let there : from < length lines = omega (arith, c.loop-from-test.true, c.len.ensures.count) in
    let low : from ≤ length lines = omega (arith, there) in
    let rises = next_rises lines from c.section-from.result c.section-from.ensures.section there in
    record {
      within = behind_within lines from c.section-from.result c.section-from.ensures.section low;
      few = omega (arith, rises, c.loop-from.invariant.few);
      counted = one_more lines from c.section-from.result c.section-from.ensures.section c.loop-from.count there c.loop-from.invariant.counted;
    }

pub returns : goal.returns
returns c =
    let lines = c.args.lines.now in
    let past : length lines ≤ c.loop-from.from = omega (arith, c.loop-from-test.false, c.len.ensures.count) in
    let e = ap length (none_left lines c.loop-from.from past) in
    omega (arith, e, c.loop-from.invariant.counted)
