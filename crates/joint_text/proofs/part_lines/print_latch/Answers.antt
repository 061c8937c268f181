use Rattle.std.proofs.Common.{ℕ, List, ◌∷◌, ◌++◌, codes, sym, ap, ap₂, ◌∙◌, append_assoc}
use Rattle.std.specs.Option.{option_copied}
use Rattle.tsc_net.specs.Names.{text_at}
use Rattle.blif_write.specs.NetLines.{named_latch}
use Rattle.blif_write.specs.RegisterText.{clock_words}
use Rattle.joint_text.specs.JointNamed.{names_under, under}
use Rattle.joint_text.specs.LineWords.{latch_end}
use Rattle.joint_text.proofs.LineTexts.{clock_spaced, latch_line_is}
use Rattle.joint_text.proofs.Printed.{prints_same}
use Rattle.joint_text.proofs.part_lines.print_latch.Goals as goal

pub returns : goal.returns
returns g c =
    let clock = option_copied c.args.clock in
    let names = names_under c.args.label.now c.args.net.now in
    let l = named_latch (under c.args.label.now c.args.net.now) c.args.place in
    let before = c.label_before.result.now in
    let other = c.label_before-2.result.now in
    let type = c.type_text.result.now in
    let control = c.control_text.result.now in
    let join : List ℕ → List ℕ → List ℕ = λ x y. x ++ y in
    let reads = ap (λ (t : List ℕ). before ++ t) c.name.ensures.name ∙ c.label_before.ensures.name ∙ ap (text_at names) c.latch-latch.ensures.reads in
    let out = ap (λ (t : List ℕ). other ++ t) c.name-2.ensures.name ∙ c.label_before-2.ensures.name ∙ ap (text_at names) c.latch-latch.ensures.out in
    let words = ap₂ join c.type_text.ensures.text c.control_text.ensures.text ∙ clock_spaced clock in
    let end = c.latch_end.ensures.end ∙ ap latch_end c.latch-latch.ensures.init in
    record {
      printed = prints_same c.print_all.result _ _ _ _
          (ap (λ (t : List ℕ). codes ".latch " ++ t)
          (sym (append_assoc before c.name.result.now _)
          ∙ ap₂ (λ (x y : List ℕ). x ++ 32 ∷ y) reads
          (sym (append_assoc other c.name-2.result.now _) ∙ ap₂ join out (sym (append_assoc type control c.latch_end.result.now) ∙ ap₂ join words end)))
          ∙ sym (latch_line_is (clock_words clock) l))
          c.print_all.ensures.printed;
    }
