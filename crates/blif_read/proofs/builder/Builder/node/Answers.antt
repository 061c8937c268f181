use Rattle.std.proofs.Common.{drop, arith, ap, ◌∙◌, ◌≡◌, ◌-◌, length}
use Rattle.tsc_net.specs.Parts.{PartsOf, with_node}
use Rattle.tsc_net.specs.PartsView.{texts_of, text_of}
use Rattle.tsc_text.specs.TextLine.{the_word}
use Rattle.blif_read.specs.LineKind.{pins_of}
use Rattle.blif_read.specs.Rows.{cover_with, rows_of}
use Rattle.blif_read.proofs.NameGrowth.{as_many, node_added}
use Rattle.tsc_text.proofs.Stored.{length-slice_range}
use Rattle.blif_read.proofs.builder.Builder.node.Goals as goal

pub node-requires-clause-pins : goal.node-requires-clause-pins
node-requires-clause-pins c =
    let line = c.args.line.now in
    let a : length c.in_ok-reads.reads ≡ length (pins_of line) = as_many c.pins.new.self.names c.in_ok-reads.reads (pins_of line) c.in_ok-reads.ensures.texts in
    let b : length (pins_of line) ≡ (length line.words - 1) - 1 = length-slice_range line.words 1 (length line.words - 1) (omega arith) in
    let w : c.in_ok-cover.cover.width ≡ c.words-words.result - 2 = ap (λ t. t.width) c.in_ok-cover.ensures.cover in
    omega (arith, a, b, w, c.words-words.ensures.count)

pub returns : goal.returns
returns c = record {
  named = node_added c.args.self.now c.pins.new.self c.name.new.self c.node.new.self c.in_ok-reads.reads c.in_ok-out.out c.in_ok-cover.cover c.word.result.now
      c.args.line.now (drop c.args.behind c.args.section.now)
      c.in_ok-reads.ensures.named c.in_ok-reads.ensures.texts c.in_ok-reads.ensures.own c.in_ok-out.ensures.ok
      (c.word.ensures.word ∙ ap (λ n. the_word c.args.line.now (n - 1)) c.words-words.ensures.count)
      c.in_ok-out.ensures.text
      (c.in_ok-cover.ensures.cover ∙ ap (λ n. cover_with (n - 2) (rows_of (drop c.args.behind c.args.section.now))) c.words-words.ensures.count)
      (c.in_ok-node.ensures.ok ∙ ap (λ (p : PartsOf). with_node p (texts_of p.names c.in_ok-reads.reads) (text_of p.names c.in_ok-out.out) c.in_ok-cover.cover) c.self.view_is);
  few = omega (arith, c.in_ok-reads.ensures.few, c.in_ok-out.ensures.few, ap (λ (p : PartsOf). length p.names) c.in_ok-node.ensures.ok, ap (λ (p : PartsOf). length p.names) c.self.view_is);
}
