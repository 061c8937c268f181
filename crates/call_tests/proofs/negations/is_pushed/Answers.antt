use Rattle.std.proofs.Common.{[], ◌∷◌, sym, subst, arith}
use Rattle.std.proofs.lemmas.List.Elements.{All-from_recursion}
use Rattle.gate_net.specs.declared.gate.Gate.TheVariants as gate
use Rattle.gate_net.specs.Gates.{IsLine, AreLines}
use Rattle.push_negations.proofs.Pushed.{six-times}
use Rattle.call_tests.proofs.negations.is_pushed.Goals as goal

pub push-requires-clause-wanted : goal.push-requires-clause-wanted
push-requires-clause-wanted c =
    subst (AreLines c.args.gates.now) (sym c.in_ok-wanted.ensures.same) (All-from_recursion (IsLine c.args.gates.now) (c.args.wanted ∷ []) (c.requires.wanted, tt))

pub push-requires-clause-room : goal.push-requires-clause-room
push-requires-clause-room c = let most = six-times c.args.gates.now.gates in omega (arith, most, c.len.ensures.count, c.if-len-gt-MOST_GATES.false)
