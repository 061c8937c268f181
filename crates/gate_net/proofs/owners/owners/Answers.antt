use Rattle.std.proofs.Common.{◌∙◌, inl}
use Rattle.std.proofs.lemmas.List.Elements.{Contains-get_or}
use Rattle.gate_net.specs.declared.root.Root.{Root}
use Rattle.gate_net.proofs.owners.owners.Goals as goal

pub loop-root-init : goal.loop-root-init
loop-root-init c = record { sized = c.in_ok-owners.ensures.sized; sources = c.in_ok-owners.ensures.sources; are = λ line name has. inl (c.in_ok-owners.ensures.are line name has) }

pub loop-root-preserved : goal.loop-root-preserved
loop-root-preserved c =
    let none : Root = record { name = record { number = 0 }; line = record { number = 0 } } in
    record {
      sized = c.claim.ensures.sized ∙ c.loop-root.invariant.sized;
      sources = λ line within none. c.claim.ensures.keeps line (c.loop-root.invariant.sources line within none);
      are = c.claim.ensures.are c.args.parts.now c.args.roots.now (Contains-get_or c.args.roots.now c.loop-root.root-index none c.loop-root-test.true) c.loop-root.invariant.are;
    }
