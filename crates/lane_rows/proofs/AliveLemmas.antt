-- Of two nodes whose nets are alive at one place, the later one doesn't have the earlier one's row.
use Rattle.std.proofs.Common.{◌≡◌, ℕ, ◌<◌, ◌≤◌, ◌==◌, ◌||◌, nat_le, true, false, List, length, slice_index, Option, sym, ap, ◌∙◌, inl, inr, arith, true≢false}
use Rattle.std.proofs.lemmas.Bool.{cases_order, and_parts, or_cases, leb-true, eqb-true}
use Rattle.fault_secure.specs.Circuit.{Circuit, node_net}
use Rattle.tsc_net.specs.Order.{fan_ins, place_in, IsOrder}
use Rattle.lane_rows.specs.Alive.{net_at, is_needed, is_alive}
use Rattle.lane_rows.specs.Rows.{row_of, RowsApart, AliveApart}
use Rattle.lane_rows.proofs.NeedsLemmas.{needed_before}
use Rattle.lane_rows.proofs.OrderFacts.{node_placed, node_at_place}

module _ (C : Circuit) (order watched : List ℕ) (rows : List (Option ℕ)) (whole : IsOrder (fan_ins C) order) (apart : RowsApart C order watched rows) where
  its_net : (j : ℕ) → j < length C.nodes → net_at C order (place_in order j) ≡ node_net C j
  its_net j h = ap (node_net C) (node_at_place C order whole j h)

  earlier : (place j k : ℕ) → j < length C.nodes → k < length C.nodes → is_alive C order watched place j ≡ true → is_alive C order watched place k ≡ true
      → row_of rows (node_net C j) ≡ row_of rows (node_net C k) → place_in order j < place_in order k → j ≡ k
  earlier place j k hj hk alive_j alive_k e lt =
      let parts_j = and_parts (nat_le (place_in order j) place) (place_in order j == place || is_needed C order watched place (node_net C j)) alive_j in
      let parts_k = and_parts (nat_le (place_in order k) place) (place_in order k == place || is_needed C order watched place (node_net C k)) alive_k in
      let le : place_in order k ≤ place = leb-true (place_in order k) place parts_k.0 in
      elim (or_cases (place_in order j == place) (is_needed C order watched place (node_net C j)) parts_j.1) [
        | inl here ↦ let is : place_in order j ≡ place = eqb-true (place_in order j) place here in absurd (omega arith)
        | inr needed ↦
            let same = ap (row_of rows) (its_net j hj) ∙ e ∙ sym (ap (row_of rows) (its_net k hk)) in
            let done : is_needed C order watched (place_in order k) (node_net C j) ≡ false =
            ap (is_needed C order watched (place_in order k)) (sym (its_net j hj))
            ∙ apart.reused (place_in order j) (place_in order k) lt (node_placed C order whole k hk) same in
            absurd (true≢false (sym (needed_before C order watched (place_in order k) place (node_net C j) le needed) ∙ done))
      ]

pub alive_apart : (C : Circuit) (order watched : List ℕ) (rows : List (Option ℕ)) → IsOrder (fan_ins C) order
    → RowsApart C order watched rows → AliveApart C order watched rows
alive_apart C order watched rows whole apart place j k hj hk alive_j alive_k e = elim (cases_order (place_in order j) (place_in order k)) [
  | inl same ↦ sym (node_at_place C order whole j hj) ∙ ap (slice_index order) same ∙ node_at_place C order whole k hk
  | inr (inl lt) ↦ earlier C order watched rows whole apart place j k hj hk alive_j alive_k e lt
  | inr (inr gt) ↦ sym (earlier C order watched rows whole apart place k j hk hj alive_k alive_j (sym e) gt)
]
