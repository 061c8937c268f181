-- The fan-ins by the nets that nodes keep are those of the circuit's nodes.
use Rattle.std.proofs.Common.{◌≡◌, ℕ, List, [], ◌∷◌, refl, sym, ap, subst, IfOk}
use Rattle.tsc_net.specs.Order.{fan_in, ReadsWithin}
use Rattle.tsc_net.specs.inner.Build.{fans_from}
use Rattle.tsc_net.specs.inner.OrderFound.{IsFound}
use Rattle.tsc_net.specs.inner.OrderSearch.{nets_of, fans_over}
use Rattle.fault_secure.specs.Circuit.{NodeOf}
use Rattle.tsc_net.proofs.build.found.Goals as goal

fans_same : (base : ℕ) (nodes : List NodeOf) → fans_from base nodes ≡ fans_over base (nets_of nodes)
fans_same base [] = refl
fans_same base (n ∷ nodes) = ap (λ fans. fan_in base n.reads ∷ fans) (fans_same base nodes)

pub evaluation_order-requires : goal.evaluation_order-requires
evaluation_order-requires c = record { within = subst ReadsWithin (fans_same c.args.first_node c.args.nodes.now) c.requires.within }

pub returns : goal.returns
returns c = record {
  found = subst (λ fans. IfOk c.evaluation_order.result (IsFound fans)) (sym (fans_same c.args.first_node c.args.nodes.now)) c.evaluation_order.ensures.found;
}
