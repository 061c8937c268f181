-- The text stands in the span that was added.
use Rattle.std.proofs.Common.{◌≡◌, ◌+◌, ◌++◌, ◌∷◌, [], ℕ, List, length, map, ap, ◌∙◌, arith, length-append}
use Rattle.tsc_net.specs.declared.spans.ListSpan.{ListSpan}
use Rattle.tsc_net.specs.inner.Spans.{piece}
use Rattle.tsc_net.proofs.SpanLemmas.{seen_more}
use Rattle.tsc_net.proofs.texts.Texts.push.Goals as goal

pub returns : goal.returns
returns c =
    let old = c.self.inside.bytes.items in
    let new = c.extend_from_slice.new.self.items in
    let text = c.args.text.now in
    let spans = c.self.inside.spans.items in
    let span : ListSpan = record { start = c.len-start.result; end = c.len-end.result } in
    let added : new ≡ old ++ text = c.in_ok-extend_from_slice.ensures.items in
    let pushed : c.push.new.self.items ≡ spans ++ span ∷ [] = c.in_ok-push.ensures.items in
    let start : span.start ≡ length old = omega (arith, c.len-start.ensures, c.self.inside.bytes.ok.0) in
    let end : span.end ≡ length old + length text =
    omega (arith, c.len-end.ensures, c.extend_from_slice.new.self.ok.0, ap length added, length-append old text) in
    record {
      ok = (λ i. map (piece (added i)) (pushed i)) ∙ seen_more (λ s. s) (λ (p : List ℕ) s. p) old text spans span c.self.invariant start end
          ∙ ap (λ (l : List (List ℕ)). l ++ text ∷ []) c.self.view_is;
    }
