use Rattle.std.proofs.Common.{◌≡◌, ℕ, List, [], OnOk, sym, ap, subst, ◌∙◌}
use Rattle.std.proofs.lemmas.Option.{get_or_from_slice_get}
use Rattle.blif_write.specs.Steps.{after_word}
use Rattle.joint_text.proofs.EndTexts.{pushed_one}
use Rattle.joint_text.proofs.tree.push_unary.Goals as goal

pub returns : goal.returns
returns c =
    let names = c.args.names.now in
    record {
      lines = subst (λ (t : List ℕ). OnOk c.append-2.result (c.append-2.new.self ≡ t))
          (pushed_one _ _ _ _ _ _ _ _ c.in_ok-append.ensures.ok
          (c.in_ok-push_word.ensures.word ∙ ap (after_word c.append.new.self) (c.as_slice.ensures.whole ∙ sym (get_or_from_slice_get names c.args.a _ [] c.get.ensures.found)))
          c.in_ok-push_word-2.ensures.word c.in_ok-end_line.ensures.ended)
          c.append-2.ensures.ok;
    }
