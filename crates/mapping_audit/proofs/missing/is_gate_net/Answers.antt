use Rattle.std.proofs.Common.{◌≡◌, ◌<◌, ℕ, nat_lt, true, length, slice_index, sym, ◌∙◌, ap, arith}
use Rattle.std.proofs.lemmas.Bool.{true≢false}
use Rattle.std.proofs.lemmas.Bool.Decides.{nat_tests}
use Rattle.std.proofs.lemmas.List.{get_or-map}
use Rattle.fault_secure.specs.Circuit.{node_net, nets}
use Rattle.tsc_net.specs.NetlistOf.{NetlistOf}
use Rattle.tsc_net.specs.Names.{text_at, place_of_text}
use Rattle.mapping_reading.specs.NamedMapping.{moved_by_name}
use Rattle.mapping_audit.proofs.missing.is_gate_net.Goals as goal

-- where a node's net went
went : (N G : NetlistOf) (net : ℕ) → net < length N.names → slice_index (moved_by_name N G) net ≡ place_of_text G.names (text_at N.names net)
went N G net low = get_or-map (place_of_text G.names) N.names net _ 0 low

below : (a b : ℕ) → a < b → nat_lt a b ≡ true
below a b h = grind (arith, nat_tests)

above : (a b : ℕ) → nat_lt a b ≡ true → a < b
above a b h = grind (arith, nat_tests)

pub returns-then-net-all : goal.returns-then-net-all
returns-then-net-all c =
    let sized : length c.args.plain.now.names ≡ nets c.args.plain.now.circuit = c.nets-nets.ensures.checked.sized in
    let there = c.requires.node in
    let place : slice_index c.args.moved.now c.node_net.result.number ≡ place_of_text c.args.mapped.now.names (text_at c.args.plain.now.names (node_net c.args.plain.now.circuit c.args.node))
    = ap (slice_index c.args.moved.now) c.node_net.ensures.net ∙ ap (λ list. slice_index list (node_net c.args.plain.now.circuit c.args.node)) c.requires.moved
    ∙ went c.args.plain.now c.args.mapped.now (node_net c.args.plain.now.circuit c.args.node) (omega arith) in
    let low = c.if-net-all.true in
    record { gate = (λ h. absurd (true≢false (sym h)), λ is. (let p = is.past in absurd (omega arith))) }

pub returns : goal.returns
returns c =
    let sized : length c.args.plain.now.names ≡ nets c.args.plain.now.circuit = c.nets-nets.ensures.checked.sized in
    let there = c.requires.node in
    let place : slice_index c.args.moved.now c.node_net.result.number ≡ place_of_text c.args.mapped.now.names (text_at c.args.plain.now.names (node_net c.args.plain.now.circuit c.args.node))
    = ap (slice_index c.args.moved.now) c.node_net.ensures.net ∙ ap (λ list. slice_index list (node_net c.args.plain.now.circuit c.args.node)) c.requires.moved
    ∙ went c.args.plain.now c.args.mapped.now (node_net c.args.plain.now.circuit c.args.node) (omega arith) in
    let past = c.if-net-all.false in
    let all = c.nets-all.ensures.count in
    record {
      gate = (
        λ h. (let low : slice_index c.args.moved.now c.node_net.result.number < c.nets-all.result = above (slice_index c.args.moved.now c.node_net.result.number) c.nets-all.result h in record { past = omega arith; inside = omega arith }),
        λ is. (let i = is.inside in below (slice_index c.args.moved.now c.node_net.result.number) c.nets-all.result (omega arith)),
      );
    }
