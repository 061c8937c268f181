use Rattle.std.proofs.Common.{◌+◌, ◌-◌, ◌≡◌, ◌∙◌, ◌++◌, ℕ, List, rules, ap, length, arith}
use Rattle.std.proofs.lemmas.List.{length-map}
use Rattle.code_checkers.specs.Signal.{Signal}
use Rattle.code_checkers.specs.Gates.{meaning}
use Rattle.code_checkers.specs.Draft.{meanings}
use Rattle.code_checkers.specs.Threshold.{both_reach, terms_from}
use Rattle.code_checkers.proofs.Kept.{meanings_kept, signals_pushed}
use Rattle.code_checkers.proofs.Loops.{terms_step}
use Rattle.code_checkers.proofs.threshold.add_terms.Goals as goal

pub loop-t-preserved : goal.loop-t-preserved
loop-t-preserved c =
    let start = c.args.draft.now in
    let here = c.loop-t.draft in
    let F : List Signal = meanings start c.args.firsts.now in
    let S : List Signal = meanings start c.args.seconds.now in
    let count : ℕ = length c.args.firsts.now + length c.args.seconds.now + 1 - c.args.m in
    let t = c.loop-t.t in
    let k = c.loop-t.invariant.keeps in
    let i : c.saturating_sub-i.result ≡ c.args.m + t - length S = search (rules, length-map c.args.seconds.now (meaning start)) in
    let j : c.saturating_sub-j.result ≡ length S - t = search (rules, length-map c.args.seconds.now (meaning start)) in
    let term : both_reach (meanings here c.args.firsts.now) (meanings here c.args.seconds.now) c.saturating_sub-i.result c.saturating_sub-j.result ≡ both_reach F S (c.args.m + t - length S) (length S - t) =
    ap (λ (ss : List Signal). both_reach ss (meanings here c.args.seconds.now) c.saturating_sub-i.result c.saturating_sub-j.result) (meanings_kept k c.args.firsts.now c.requires.firsts)
    ∙ ap (λ (ss : List Signal). both_reach F ss c.saturating_sub-i.result c.saturating_sub-j.result) (meanings_kept k c.args.seconds.now c.requires.seconds)
    ∙ ap (λ n. both_reach F S n c.saturating_sub-j.result) i
    ∙ ap (both_reach F S (c.args.m + t - length S)) j in
    let pushed = signals_pushed start here c.add_term.new.draft c.loop-t.terms.items c.push.new.self.items c.in_ok-term.term _ k c.loop-t.invariant.within c.in_ok-term.ensures.added c.in_ok-push.ensures.items in
    record {
      made = ap (λ made. made ++ terms_from F S c.args.m (t + 1) (count - (t + 1))) pushed.mean
          ∙ terms_step (meanings here c.loop-t.terms.items) F S (terms_from F S c.args.m 0 count) _ c.args.m t count (omega arith) term c.loop-t.invariant.made;
      within = pushed.within;
      keeps = pushed.keeps;
    }
