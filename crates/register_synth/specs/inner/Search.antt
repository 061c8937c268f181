-- The search for what reaches some nets, as it goes.
use Rattle.std.specs.Prelude.{ℕ, zero, suc, ◌+◌, ◌-◌, nat_lt, Bool, true, false, if◌then◌else◌, List, [], ◌∷◌, ◌++◌, length, replicate, slice_index, slice_set}
use Rattle.fault_secure.specs.Circuit.{Circuit, latch, node, nets, bit}

-- a mark for each net that was found, and the nets that were found, once each, in order
pub record Search : Type 0 where
  pub marks : List Bool
  pub found : List ℕ

-- a net is found, perhaps again
abbrev pub found_net : Search → ℕ → Search
found_net s net = record { marks = slice_set s.marks net true; found = if bit s.marks net then s.found else s.found ++ net ∷ [] }

abbrev pub found_nets : Search → List ℕ → Search
found_nets s [] = s
found_nets s (net ∷ more) = found_nets (found_net s net) more

-- the nets that the register or cover reads which gives a net
abbrev pub nets_read : Circuit → ℕ → List ℕ
nets_read C net =
    if nat_lt net C.inputs then []
    else (if nat_lt net (C.inputs + length C.latches) then (latch C (net - C.inputs)).reads ∷ []
    else (node C (net - (C.inputs + length C.latches))).reads)

-- the net at a place of the list, if one is there, leads to those that it is made from
abbrev pub led_on : Circuit → Search → ℕ → Search
led_on C s place = if nat_lt place (length s.found) then found_nets s (nets_read C (slice_index s.found place)) else s

-- from the roots on, so many places
abbrev pub searched : Circuit → List ℕ → ℕ → Search
searched C roots zero = found_nets (record { marks = replicate (nets C) false; found = [] }) roots
searched C roots (suc places) = led_on C (searched C roots places) places
