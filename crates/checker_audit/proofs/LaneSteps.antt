-- Steps on 64 values at once, point by point.
use Rattle.std.proofs.Common.{◌≡◌, ℕ, ◌+◌, ◌<◌, Bool, List, [], ◌∷◌, ◌++◌, map, length, take, set, get_or, sym, ◌∙◌, ap, ap₂}
use Rattle.std.proofs.lemmas.List.{map_more, take_more_set}
use Rattle.tsc_bits.proofs.Lists.{map-push}
use Rattle.fault_secure.specs.Circuit.{bit}
use Rattle.tsc_net.specs.PlanView.{net_numbers}
use Rattle.tsc_net.specs.declared.ids.NetId.{NetId}

-- a bit more is gathered
pub gather_step : (v bits : List Bool) (nets : List NetId) (i : ℕ) (d : NetId) (b : Bool) → i < length bits → i < length nets → take i bits ≡ map (bit v) (net_numbers (take i nets))
    → b ≡ bit v (get_or nets i d).number → take (i + 1) (set bits i b) ≡ map (bit v) (net_numbers (take (i + 1) nets))
gather_step v bits nets i d b low within before is =
    take_more_set bits i b low
    ∙ ap₂ (λ list x. list ++ x ∷ []) before is
    ∙ sym (ap (map (bit v)) (map_more (λ (net : NetId). net.number) nets i d within) ∙ map-push (bit v) (net_numbers (take i nets)) (get_or nets i d).number)
