-- What rows keep when the order has ended.
use Rattle.std.proofs.Common.{◌≡◌, ℕ, ◌-◌, ◌<◌, List, length, Option, IsSome, ◌∙◌, subst, inl, inr, arith}
use Rattle.std.proofs.lemmas.Bool.{cases_lt, lt-ltb}
use Rattle.fault_secure.specs.Circuit.{Circuit, node_net}
use Rattle.tsc_net.specs.Order.{fan_ins, place_in, IsOrder}
use Rattle.lane_rows.specs.Alive.{source_count}
use Rattle.lane_rows.specs.Rows.{row_of, RowsApart, HaveRows, OthersHaveNone}
use Rattle.lane_rows.specs.Along.{IsAlong}
use Rattle.lane_rows.proofs.OrderFacts.{node_placed}
use Rattle.lane_rows.proofs.AlongLemmas.{none_from}

module _ (C : Circuit) (order watched : List ℕ) (rows held : List (Option ℕ)) (free : List ℕ) (count : ℕ)
    (whole : IsOrder (fan_ins C) order) (along : IsAlong C order watched (length order) rows held free count) where
  pub end_apart : RowsApart C order watched rows
  end_apart = record { reused = along.reused; kept = along.kept }

  node_has : (j : ℕ) → j < length C.nodes → IsSome (row_of rows (node_net C j))
  node_has j h = along.of_nodes j h ∙ lt-ltb (place_in order j) (length order) (node_placed C order whole j h)

  pub end_some : HaveRows C watched rows
  end_some = record {
    of_nodes = node_has;
    of_watched = λ net h watch. elim (cases_lt net (source_count C)) [
      | inl source ↦ along.of_sources net source ∙ watch
      | inr past ↦
          let j : ℕ = net - source_count C in
          let is : node_net C j ≡ net = omega arith in
          subst (λ n. IsSome (row_of rows n)) is (node_has j (omega arith))
    ];
  }

  pub end_none : OthersHaveNone C watched rows
  end_none source h e = none_from (row_of rows source) (along.of_sources source h ∙ e)
