use Rattle.std.proofs.Common.{◌≡◌, ◌<◌, length, drop}
use Rattle.code_checkers.specs.Signal.{chain_from, chain}
use Rattle.code_checkers.specs.Chain.{joined}
use Rattle.code_checkers.specs.Gates.{meaning}
use Rattle.code_checkers.specs.Draft.{AreWithin, meanings, Keeps}
use Rattle.code_checkers.proofs.chain.chain.Given as goal

-- the chain made so far, over what is left, is the chain over all
abbrev pub invariant-loop-place : goal.invariant-loop-place
invariant-loop-place l = record {
  made : chain_from (joined l.joint) (meaning l.draft l.made) (drop l.place-index (meanings l.fn.draft l.place-items)) ≡ chain (joined l.joint) (meanings l.fn.draft l.places);
  within : l.made < length l.draft;
  items : AreWithin l.fn.draft l.place-items;
  keeps : Keeps l.fn.draft l.draft;
}
