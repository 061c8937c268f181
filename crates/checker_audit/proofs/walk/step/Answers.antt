use Rattle.std.proofs.Common.{◌≡◌, Bool, true, false, List, rules}
use Rattle.std.specs.BTreeSet.{BTreeSet}
use Rattle.std.proofs.lemmas.Result.{IfOk-weaker}
use Rattle.fault_secure.specs.Circuit.{Circuit}
use Rattle.fault_secure.specs.CodePlan.{CodePlan}
use Rattle.code_checkers.specs.Gates.{AreOrdered}
use Rattle.code_checkers.specs.declared.gate.CheckGate.{CheckGate}
use Rattle.std.proofs.Common.{◌++◌, [], ◌∷◌}
use Rattle.checker_audit.specs.declared.asked.Asked.{Asked}
use Rattle.checker_audit.specs.Matching.{WasAsked, IsWalking, IsLookedAt, HasStepped}
use Rattle.checker_audit.specs.Noting.{IsNoted, Notes}
use Rattle.checker_audit.proofs.Steps.{walk_place, walk_within, step_skips, step_opens, step_stops}
use Rattle.checker_audit.proofs.walk.step.Goals as goal

noted_new : (old new : BTreeSet _) (asked : Asked) (b : Bool) → b ≡ true → IsNoted old new asked b → Notes old new asked
noted_new old new asked true is noted = noted
noted_new old new asked false is noted = noted.1

noted_old : (old new : BTreeSet _) (asked : Asked) (b : Bool) → b ≡ false → IsNoted old new asked b → WasAsked old asked.place asked.net.number × Notes old new asked
noted_old old new asked true is noted = cc
noted_old old new asked false is noted = noted

stepped : (N : Circuit) (P : CodePlan) (gates : List CheckGate) (seen new : BTreeSet _) (stack after : List Asked) (asked : Asked) (fits : Bool)
    → IsWalking N P gates seen (stack ++ asked ∷ []) → Notes seen new asked → AreOrdered gates → IsLookedAt N P gates asked stack after fits → HasStepped N P gates asked new stack after fits
stepped N P gates seen new stack after asked true walking notes ordered looked = step_opens N P gates seen new stack asked walking notes ordered after looked
stepped N P gates seen new stack after asked false walking notes ordered looked = step_stops N P gates seen new stack asked walking notes ordered after looked

pub returns-then-not-is_new : goal.returns-then-not-is_new
returns-then-not-is_new c =
    let was = noted_old c.args.seen.now c.note.new.seen c.args.asked c.in_ok-is_new.is_new (search rules) c.in_ok-is_new.ensures.noted in
    record { stepped = step_skips c.args.net.now.circuit c.args.plan.now c.args.gates.now.gates c.args.seen.now c.note.new.seen c.args.stack.now.items c.args.asked c.requires.walking was.1 was.0 }

pub look-requires-clause-place : goal.look-requires-clause-place
look-requires-clause-place c =
    let notes = noted_new c.args.seen.now c.note.new.seen c.args.asked c.in_ok-is_new.is_new (search rules) c.in_ok-is_new.ensures.noted in
    walk_place c.args.net.now.circuit c.args.plan.now c.args.gates.now.gates c.args.seen.now c.note.new.seen c.args.stack.now.items c.args.asked c.requires.walking notes

pub look-requires-clause-within : goal.look-requires-clause-within
look-requires-clause-within c =
    let notes = noted_new c.args.seen.now c.note.new.seen c.args.asked c.in_ok-is_new.is_new (search rules) c.in_ok-is_new.ensures.noted in
    walk_within c.args.net.now.circuit c.args.plan.now c.args.gates.now.gates c.args.seen.now c.note.new.seen c.args.stack.now.items c.args.asked c.requires.walking notes

pub returns : goal.returns
returns c =
    let notes = noted_new c.args.seen.now c.note.new.seen c.args.asked c.in_ok-is_new.is_new (search rules) c.in_ok-is_new.ensures.noted in
    record {
      stepped = IfOk-weaker c.look.result _ _ (λ fits looked. stepped c.args.net.now.circuit c.args.plan.now c.args.gates.now.gates c.args.seen.now c.note.new.seen c.args.stack.now.items c.look.new.stack.items c.args.asked fits
          c.requires.walking notes c.requires.ordered looked) c.look.ensures.looked;
    }
