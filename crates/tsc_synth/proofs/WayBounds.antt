-- The bound of each way, as it is computed, and what the test of it gives.
use Rattle.std.proofs.Common.{◌≡◌, ℕ, ◌+◌, ◌*◌, ◌-◌, ◌^◌, ◌<◌, ◌≤◌, min, List, length, IsFalse, refl, sym, ◌∙◌, ap, subst, arith}
use Rattle.std.specs.Prelude.{nat_lt}
use Rattle.std.proofs.lemmas.Bool.{le-ltb}
use Rattle.fault_secure.specs.Circuit.{Circuit}
use Rattle.synth_ways.specs.declared.way.Way.{Way}
use Rattle.synth_ways.specs.declared.way.Way.TheVariants.{Parity, Duplex, Berger, MOutOfN}
use Rattle.synth_ways.specs.Ways.{way_code}
use Rattle.parity_code.specs.FirstFit.{first_fit_groups}
use Rattle.fault_secure.specs.CodePlan.{IsUnorderedCode}
use Rattle.fault_secure.specs.Size.{literal_count, rows, network_size}
use Rattle.tsc_synth.specs.CoverBound.{copies_of, bound_over, cover_bound}
use Rattle.tsc_synth.proofs.BoundLemmas.{copies_stop}

-- a number that stops at the greatest one is no more than 1,048,576 where it is that as it stops
pub few_enough : (bound stopped : ℕ) → stopped ≡ min bound (2 ^ 64 - 1) → stopped ≤ 1048576 → IsFalse (nat_lt 1048576 bound)
few_enough bound stopped is low = le-ltb 1048576 bound (within bound stopped is low)
  where
    within : (bound stopped : ℕ) → stopped ≡ min bound (2 ^ 64 - 1) → stopped ≤ 1048576 → bound ≤ 1048576
    within bound stopped is low = omega arith

-- a network whose bound under an unordered code is kept is small
pub small_network : (C : Circuit) (bound : ℕ) → bound ≡ min (bound_over 4 C) (2 ^ 64 - 1) → bound ≤ 1048576 → C.inputs + 2 * network_size C ≤ 1048576
small_network C bound is low = omega arith

-- and one whose groups share a copy, where its bound is kept
pub shared_network : (C : Circuit) (bound : ℕ) → bound ≡ min (bound_over 3 C) (2 ^ 64 - 1) → bound ≤ 1048576 → C.inputs + 3 * network_size C ≤ 1048576
shared_network C bound is low = omega arith

-- and so are the copies of a network whose bound under parity is kept
pub small_copies : (C : Circuit) (groups : List (List ℕ)) (bound : ℕ) → groups ≡ first_fit_groups C → bound ≡ min (cover_bound Parity C) (2 ^ 64 - 1) → bound ≤ 1048576
    → C.inputs + (length groups + 2) * network_size C ≤ 1048576
small_copies C groups bound are is low = subst (λ gs. C.inputs + (length gs + 2) * network_size C ≤ 1048576) (sym are) (within ((length (first_fit_groups C) + 2) * network_size C) is)
  where
    within : (copies : ℕ) → bound ≡ min (4 * (copies + C.inputs + 16 * (length C.outputs + 1) ^ 2)) (2 ^ 64 - 1) → C.inputs + copies ≤ 1048576
    within copies is = omega arith

-- under an unordered code a netlist may cost four copies of its network
pub four_copies : (way : Way) (C : Circuit) → IsUnorderedCode (way_code way) → copies_of way C ≡ 4
four_copies Parity C none = absurd none
four_copies Duplex C none = absurd none
four_copies Berger C yes_ = refl
four_copies MOutOfN C yes_ = refl

-- the bound of an unordered code, as it is computed
pub unate_bound : (way : Way) (C : Circuit) (bound m : ℕ) → IsUnorderedCode (way_code way) → bound ≡ min (bound_over 4 C) m → bound ≡ min (cover_bound way C) m
unate_bound way C bound m is over = over ∙ ap (λ n. min (bound_over n C) m) (sym (four_copies way C is))

-- the bound of parity, over groups that are the first fit
pub parity_bound : (C : Circuit) (groups : List (List ℕ)) (count copies bound m : ℕ) → groups ≡ first_fit_groups C → count ≡ length groups → copies ≡ min (count + 2) m
    → bound ≡ min (bound_over copies C) m → bound ≡ min (cover_bound Parity C) m
parity_bound C groups count copies bound m are is stop over =
    over ∙ ap (λ n. min (bound_over n C) m) stop
    ∙ copies_stop m (count + 2) (network_size C) C.inputs (16 * (length C.outputs + 1) ^ 2) (some (literal_count C + rows C + length C.nodes))
    ∙ ap (λ n. min (bound_over (n + 2) C) m) (is ∙ ap length are)
  where
    some : (a : ℕ) → 0 < a + 1
    some a = omega arith
