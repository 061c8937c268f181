-- A sound netlist with a whole order is checked.
use Rattle.std.proofs.Common.{rules, ◌≡◌, ◌+◌, ℕ, List, map, length, true, sym, ap, ◌∙◌, subst, arith}
use Rattle.std.proofs.lemmas.List.{length-map}
use Rattle.tsc_net.specs.Order.{fan_ins, evaluation_order, has_whole_order, ReadsWithin}
use Rattle.tsc_net.specs.NetlistView.{latch_as}
use Rattle.tsc_net.specs.inner.Build.{fans_from, IsRing, IsRingOf}
use Rattle.tsc_net.specs.inner.BuildView.{unordered_as}
use Rattle.fault_secure.specs.Circuit.{NodeOf}
use Rattle.tsc_net.specs.declared.netlist.Latch.{Latch}
use Rattle.tsc_net.proofs.OrderedLemmas.{closed_reads}
use Rattle.tsc_net.proofs.build.ordered.Goals as goal
use Rattle.tsc_net.proofs.build.ordered.Goals.{In_ok-order}

-- the fan-ins by the code are those of the circuit
fans_same : (inputs len : ℕ) (latches : List Latch) (nodes : List NodeOf) → len ≡ length latches
    → fans_from (inputs + len) nodes ≡ fans_from (inputs + length (map latch_as latches)) nodes
fans_same inputs len latches nodes e = ap (λ n. fans_from (inputs + n) nodes) (e ∙ sym (length-map latches latch_as))

first_same : (inputs len : ℕ) (latches : List Latch) → len ≡ length latches → inputs + len ≡ inputs + length (map latch_as latches)
first_same inputs len latches e = ap (λ n. inputs + n) (e ∙ sym (length-map latches latch_as))

pub overflow_add-first_node : goal.overflow_add-first_node
overflow_add-first_node c =
    let counted : c.len.result ≡ length c.args.net.latches.items = search rules in
    let few = c.requires.sound.few in
    omega (arith, length-map c.args.net.latches.items latch_as, counted, few)

pub order_of-requires-clause-within : goal.order_of-requires-clause-within
order_of-requires-clause-within c =
    let net = c.args.net in
    let counted : c.len.result ≡ length net.latches.items = search rules in
    subst ReadsWithin (sym (fans_same net.inputs c.len.result net.latches.items net.nodes counted)) (closed_reads (unordered_as net).circuit c.requires.sound.closed)

pub order_of-requires-clause-named : goal.order_of-requires-clause-named
order_of-requires-clause-named c =
    let counted : c.len.result ≡ length c.args.net.latches.items = search rules in
    let sized = c.requires.sound.sized in
    omega (arith, length-map c.args.net.latches.items latch_as, counted, sized)

pub order_of-requires-clause-few : goal.order_of-requires-clause-few
order_of-requires-clause-few c = let sized = c.requires.sound.sized in let few = c.requires.sound.few in omega (arith, sized, few)

pub returns-in_err-order-clause-same : goal.returns-in_err-order-clause-same
returns-in_err-order-clause-same c = search rules

pub returns-in_err-order-clause-whole : goal.returns-in_err-order-clause-whole
returns-in_err-order-clause-whole c = search rules

pub returns-in_err-order-clause-refused : goal.returns-in_err-order-clause-refused
returns-in_err-order-clause-refused c =
    let net = c.args.net in
    let counted : c.len.result ≡ length net.latches.items = search rules in
    let same = fans_same net.inputs c.len.result net.latches.items net.nodes counted in
    let refused : IsRing (unordered_as net) c.in_err-order.field-0.0 =
    subst (λ first. IsRingOf (fan_ins (unordered_as net).circuit) net.names.nets first c.in_err-order.field-0.0) (first_same net.inputs c.len.result net.latches.items counted)
    (subst (λ fans. IsRingOf fans net.names.nets (net.inputs + c.len.result) c.in_err-order.field-0.0) same c.in_err-order.ensures.refused) in
    search rules

whole : (c : In_ok-order) → has_whole_order (fan_ins (unordered_as c.args.net).circuit) ≡ true
whole c =
    let net = c.args.net in
    let counted : c.len.result ≡ length net.latches.items = search rules in
    subst (λ fans. has_whole_order fans ≡ true) (fans_same net.inputs c.len.result net.latches.items net.nodes counted) c.in_ok-order.ensures.whole

order_is : (c : In_ok-order) → c.in_ok-order.order.items ≡ evaluation_order (fan_ins (unordered_as c.args.net).circuit)
order_is c =
    let net = c.args.net in
    let counted : c.len.result ≡ length net.latches.items = search rules in
    c.in_ok-order.ensures.order ∙ ap evaluation_order (fans_same net.inputs c.len.result net.latches.items net.nodes counted)

pub returns-in_err-names-clause-same : goal.returns-in_err-names-clause-same
returns-in_err-names-clause-same c = search rules

pub returns-in_err-names-clause-whole : goal.returns-in_err-names-clause-whole
returns-in_err-names-clause-whole c = search rules

pub returns-in_err-names-clause-refused : goal.returns-in_err-names-clause-refused
returns-in_err-names-clause-refused c = search rules

pub indexed-requires-clause-sound : goal.indexed-requires-clause-sound
indexed-requires-clause-sound c = c.requires.sound

pub indexed-requires-clause-names : goal.indexed-requires-clause-names
indexed-requires-clause-names c = search rules

pub indexed-requires-clause-order : goal.indexed-requires-clause-order
indexed-requires-clause-order c = order_is (goal.at.indexed-requires-clause-order c).In_ok-order

pub indexed-requires-clause-whole : goal.indexed-requires-clause-whole
indexed-requires-clause-whole c = whole (goal.at.indexed-requires-clause-whole c).In_ok-order

pub returns-clause-same : goal.returns-clause-same
returns-clause-same c = c.indexed.ensures.same

pub returns-clause-whole : goal.returns-clause-whole
returns-clause-whole c = whole (goal.at.returns-clause-whole c).In_ok-order
