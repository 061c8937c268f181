use Rattle.std.proofs.Common.{◌≡◌, ◌+◌, [], ◌∷◌, ◌++◌, All, length, sym, ◌∙◌, ap, subst, arith, length-append}
use Rattle.std.proofs.lemmas.List.Elements.{All-nil, All-push}
use Rattle.tsc_net.specs.PartsView.{texts_of, IsName}
use Rattle.net_writing.specs.CheckerParts.{ReadsBelow}
use Rattle.net_writing.proofs.NamesKept.{keeps_not, keeps_twice, names_stay}
use Rattle.net_writing.proofs.CheckerSteps.{checker_begun, checker_more, over_at}
use Rattle.net_writing.proofs.checker_writing.add_checker.Goals as goal

pub loop-place-init : goal.loop-place-init
loop-place-init c = record {
  left = checker_begun c.args.parts.now (texts_of c.args.parts.now.names c.args.word.now) c.args.gates.now c.args.rails c.new-names.result c.new-names.ensures.empty;
  counted = ap length c.new-names.ensures.empty;
  named = subst (All (IsName c.args.parts.now.names)) (sym c.new-names.ensures.empty) (All-nil (IsName c.args.parts.now.names));
  keeps = keeps_not c.args.parts.now.names;
  room = omega arith;
  nodes = omega arith;
  distinct = λ numbering. numbering;
}

pub add_gate-requires-clause-reads : goal.add_gate-requires-clause-reads
add_gate-requires-clause-reads c =
    let many : length c.as_slice.result.now ≡ c.loop-place.place = ap length c.as_slice.ensures.whole ∙ c.loop-place.invariant.counted in
    subst (λ n. ReadsBelow (length c.args.word.now) n c.get.result) (sym many)
    (over_at (length c.args.word.now) c.args.gates.now c.loop-place.place c.get.result c.requires.over (omega (arith, c.loop-place-test.true, c.len-place-end.ensures.count)) c.get.ensures.gate)

pub loop-place-preserved : goal.loop-place-preserved
loop-place-preserved c =
    let start = c.args.parts.now in
    let here = c.loop-place.parts in
    let next = c.add_gate.new.parts in
    let loop = c.loop-place.invariant in
    let step = c.in_ok-name.ensures in
    let name = c.in_ok-name.name in
    let pushed : c.push.new.self ≡ c.loop-place.names ++ name ∷ [] = c.in_ok-push.ensures.ok in
    let there = c.loop-place-test.true in
    let count = c.len-place-end.ensures.count in
    record {
      left = checker_more start here next c.args.word.now c.loop-place.names c.as_slice.result.now c.push.new.self c.args.gates.now c.args.rails c.loop-place.place c.get.result c.given_name-given.result name loop.keeps c.requires.word c.requires.rails
          (omega arith) c.get.ensures.gate loop.counted c.given_name-given.ensures.given c.as_slice.ensures.whole step.added pushed
          ∙ loop.left;
      counted = ap length pushed ∙ length-append c.loop-place.names (name ∷ []) ∙ ap (λ n. n + 1) loop.counted;
      named = subst (All (IsName next.names)) (sym pushed) (All-push (IsName next.names) c.loop-place.names name (names_stay here.names next.names step.keeps c.loop-place.names loop.named) step.name);
      keeps = keeps_twice start.names here.names next.names loop.keeps step.keeps;
      room = omega (arith, step.few, loop.room);
      nodes = omega (arith, step.nodes, loop.nodes);
      distinct = λ numbering. step.distinct (loop.distinct numbering);
    }
