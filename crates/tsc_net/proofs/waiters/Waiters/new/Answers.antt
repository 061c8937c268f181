-- Lists that are all empty are empty at each place.
use Rattle.std.proofs.Common.{◌≡◌, List, ℕ, [], ◌∷◌, map, ◌++◌, length, length-append, ap, ◌∙◌, arith}
use Rattle.std.proofs.lemmas.List.{length-map}
use Rattle.std.proofs.lemmas.List.Elements.{All-map, All-push, All-same}
use Rattle.tsc_net.proofs.OrderLists.{empty_at}
use Rattle.tsc_net.proofs.waiters.Waiters.new.Goals as goal

pub returns-clause-alone : goal.returns-clause-alone
returns-clause-alone c =
    empty_at (map (λ list. list.items) c.loop.lists.items) (All-map (λ (l : List ℕ). l ≡ []) (λ list. list.items) c.loop.lists.items c.loop.invariant.1)

pub loop-preserved : goal.loop-preserved
loop-preserved c = (
  omega (arith, ap length c.in_ok-push.ensures.items, length-append c.loop.lists.items (c.new.result ∷ []), c.loop.invariant.0),
  All-same (λ list. list.items ≡ []) c.push.new.self.items (c.loop.lists.items ++ c.new.result ∷ []) c.in_ok-push.ensures.items
      (All-push (λ list. list.items ≡ []) c.loop.lists.items c.new.result c.loop.invariant.1 c.new.ensures.items),
)

pub returns-clause-count : goal.returns-clause-count
returns-clause-count c = length-map c.loop.lists.items _ ∙ omega (arith, c.loop.invariant.0, c.loop-test.false, c.loop.auto.counter-end)
