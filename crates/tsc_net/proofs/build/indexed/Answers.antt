-- A sound netlist with a whole order is checked.
use Rattle.std.proofs.Common.{sym, subst, ◌∙◌, ap, ◌≡◌, List, ℕ}
use Rattle.tsc_net.specs.NetlistOf.{NetlistOf}
use Rattle.tsc_net.specs.Order.{fan_ins, IsOrder}
use Rattle.tsc_net.specs.inner.Build.{IsClosedNetlist}
use Rattle.tsc_net.specs.inner.BuildView.{unordered_as}
use Rattle.tsc_net.specs.declared.build.Unordered.{Unordered}
use Rattle.tsc_net.proofs.AcyclicLemmas.{whole_is_order}
use Rattle.tsc_net.proofs.OrderedLemmas.{checked_from_order}
use Rattle.tsc_net.proofs.build.indexed.Goals as goal

-- the netlist with these names in the place of the table's
abbrev named_as : Unordered → List (List ℕ) → NetlistOf
named_as net names = record { circuit = (unordered_as net).circuit; names = names; model = (unordered_as net).model }

same : (net : Unordered) (names : List (List ℕ)) → names ≡ net.names.nets → named_as net names ≡ unordered_as net
same net names e = ap (named_as net) e

pub invariant_of-checked : goal.invariant_of-checked
invariant_of-checked c = record {
  checked = checked_from_order _ (subst IsClosedNetlist (sym (same c.args.net c.args.names c.requires.names)) c.requires.sound) c.requires.whole;
  order = c.requires.order;
  whole = subst (IsOrder (fan_ins (unordered_as c.args.net).circuit)) (sym c.requires.order) (whole_is_order (fan_ins (unordered_as c.args.net).circuit) c.requires.whole);
}

pub new-requires : goal.new-requires
new-requires c = record { names = sym c.requires.names }

pub returns : goal.returns
returns c = record { same = c.new.ensures.same ∙ same c.args.net c.args.names c.requires.names }
