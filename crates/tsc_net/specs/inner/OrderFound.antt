-- What the search for an evaluation order answers.
use Rattle.std.specs.Prelude.{◌≡◌, ℕ, true, false, List}
use Rattle.tsc_net.specs.Order.{evaluation_order, has_whole_order, ring}
use Rattle.tsc_net.specs.declared.order.Found.{Found}
use Rattle.tsc_net.specs.declared.order.Found.TheVariants.{Order, Ring}

-- the order where each node has its place, else the ring
abbrev pub IsFound : List (List ℕ) → Found → Type 0
IsFound fans (Order order) = (has_whole_order fans ≡ true) × (order.items ≡ evaluation_order fans)
IsFound fans (Ring places) = (has_whole_order fans ≡ false) × (places.items ≡ ring fans)
