-- The nets at the pins of covers, where they went.
use Rattle.std.proofs.Common.{◌≡◌, ℕ, ◌<◌, ◌==◌, ◌||◌, Bool, true, false, if◌then◌else◌, List, [], ◌∷◌, ◌++◌, length, map, slice_index, refl, sym, ◌∙◌, ap, arith}
use Rattle.std.specs.List.{list_any}
use Rattle.std.proofs.lemmas.Grind.{common_steps}
use Rattle.std.proofs.lemmas.List.{get_or_default}
use Rattle.std.proofs.lemmas.List.Folds.{list_any-append}
use Rattle.std.proofs.lemmas.List.Elements.{All-from_get_or}
use Rattle.tsc_bits.proofs.Lists.{map_agrees}
use Rattle.tsc_bits.proofs.Bools.{or_assoc}
use Rattle.fault_secure.specs.Circuit.{Circuit, node, nets}
use Rattle.fault_secure.specs.Closed.{IsClosed}
use Rattle.tsc_net.specs.Order.{has_place}
use Rattle.tsc_net.specs.PlanView.{net_numbers}
use Rattle.tsc_net.specs.declared.ids.NetId.{NetId}
use Rattle.mapping_reading.specs.ReadMapping.{new_onto, block_pins}
use Rattle.mapping_reading.specs.Pins.{at_of}

-- where a net went that is in the table
pub at_is : (G : Circuit) (moved : List ℕ) (net : ℕ) → net < length moved → slice_index moved net ≡ at_of G moved net
at_is G moved net within = get_or_default moved net 0 (nets G) within

-- the nets at the pins of a node's cover, where they went
pub moved_reads : (N G : Circuit) (moved : List ℕ) (j : ℕ) (reads : List NetId) → IsClosed N → length moved ≡ nets N → j < length N.nodes → net_numbers reads ≡ (node N j).reads
    → map (slice_index moved) (net_numbers reads) ≡ map (at_of G moved) (node N j).reads
moved_reads N G moved j reads closed sized there are =
    ap (map (slice_index moved)) are
    ∙ map_agrees (λ net. net < length moved) (slice_index moved) (at_of G moved) (at_is G moved) (node N j).reads
    (All-from_get_or (λ net. net < length moved) (node N j).reads 0 (λ pin has. (let b = closed.pins j pin there has in omega arith)))

-- a list has a net where its distinct nets do
pub has_new : (seen list : List ℕ) (net : ℕ) → has_place (new_onto seen list) net ≡ (has_place seen net || has_place list net)
has_new seen [] net = sym (or-false (has_place seen net))
  where
    or-false : (a : Bool) → (a || false) ≡ a
    or-false true = refl
    or-false false = refl
has_new seen (x ∷ list) net = by (has_place seen x) refl (has_new seen list net) (has_new (seen ++ x ∷ []) list net)
  where
    swallow : (a b c : Bool) → (b ≡ true → a ≡ true) → (a || c) ≡ (a || (b || c))
    swallow true b c h = refl
    swallow false true c h = (let e : false ≡ true = h refl in cc)
    swallow false false c h = refl

    put : has_place (seen ++ x ∷ []) net ≡ (has_place seen net || (x == net))
    put = list_any-append (λ k. k == net) seen (x ∷ []) ∙ ap (λ b. has_place seen net || b) (or-false (x == net))
      where
        or-false : (a : Bool) → (a || false) ≡ a
        or-false true = refl
        or-false false = refl

    by : (b : Bool) → has_place seen x ≡ b → has_place (new_onto seen list) net ≡ (has_place seen net || has_place list net)
        → has_place (new_onto (seen ++ x ∷ []) list) net ≡ (has_place (seen ++ x ∷ []) net || has_place list net)
        → has_place (new_onto (if b then seen else seen ++ x ∷ []) list) net ≡ (has_place seen net || ((x == net) || has_place list net))
    by true e old new = old ∙ swallow (has_place seen net) (x == net) (has_place list net) (λ same. (let s : x ≡ net = grind (arith, common_steps) in ap (has_place seen) (sym s) ∙ e))
    by false e old new = new ∙ ap (λ b. b || has_place list net) put ∙ or_assoc (has_place seen net) (x == net) (has_place list net)

-- a test of the nets of a list, by where they went
pub any_moved : (moved : List ℕ) (reads : List NetId) (net : ℕ) → list_any (λ (read : NetId). slice_index moved read.number == net) reads ≡ has_place (map (slice_index moved) (net_numbers reads)) net
any_moved moved [] net = refl
any_moved moved (read ∷ reads) net = ap (λ b. (slice_index moved read.number == net) || b) (any_moved moved reads net)

-- so a net is at a pin of a cover where one of the cover's nets went there
pub is_at_pin : (N G : Circuit) (moved : List ℕ) (j net : ℕ) (reads : List NetId) → IsClosed N → length moved ≡ nets N → j < length N.nodes → net_numbers reads ≡ (node N j).reads
    → list_any (λ (read : NetId). slice_index moved read.number == net) reads ≡ has_place (block_pins N (at_of G moved) j) net
is_at_pin N G moved j net reads closed sized there are =
    any_moved moved reads net ∙ ap (λ list. has_place list net) (moved_reads N G moved j reads closed sized there are)
    ∙ sym (has_new [] (map (at_of G moved) (node N j).reads) net)
