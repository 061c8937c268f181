use Rattle.std.proofs.Common.{◌≡◌, ℕ, List, ◌++◌, [], ◌∷◌, length, ap, ◌∙◌}
use Rattle.tsc_pool.specs.Pool.{with_words}
use Rattle.diagrams.specs.DecisionRows.{word_of, decisions_in}
use Rattle.diagrams.proofs.Held.{decisions_in-push, written_one}
use Rattle.diagrams.proofs.decision_rows.DecisionRows.push.Goals as goal

pub returns-clause-rows : goal.returns-clause-rows
returns-clause-rows c =
    let fresh = rw c.unwrap-row.ensures at c.take.ensures.fresh in
    let width : c.take.new.self.width ≡ 1 = c.take.ensures.words.width ∙ c.self.invariant.width in
    let one : length c.words_mut.result.now ≡ 1 = c.words_mut.ensures.width ∙ width in
    let words = written_one c.words_mut.result.now c.word.result one ∙ ap (λ (w : ℕ). w ∷ []) c.word.ensures.word in
    let made = decisions_in-push c.self.inside.pool c.take.new.self c.unwrap-row.result c.self.inside.held.rows c.args.added
    c.self.invariant.out c.take.ensures.words width fresh c.words_mut.ensures.others c.words_mut.ensures.read c.requires.small in
    ap (λ (ws : List ℕ). decisions_in (with_words c.take.new.self c.unwrap-row.result ws) c.push.new.self.rows) words
    ∙ (ap (λ (held : List ℕ). decisions_in (with_words c.take.new.self c.unwrap-row.result (word_of c.args.added ∷ [])) held) c.push.ensures.rows ∙ (made ∙ ap (λ s. s.rows ++ c.args.added ∷ []) c.self.view_is))
