-- A function of two rows, part after part: two words, that is 128 lanes, at a time.
use Rattle.std.proofs.Common.{◌≡◌, ◌≢◌, ℕ, ◌+◌, ◌-◌, ◌*◌, ◌<◌, ◌≤◌, List, sym, ap₂, ◌∙◌, subst, arith}
use Rattle.std.proofs.Math.Logic.{⊎_elim}
use Rattle.std.proofs.lemmas.Bool.{cases_lt, cases_eq}
use Rattle.lane_sim.specs.Points.{source_bit}
use Rattle.lane_sim.specs.TwoPins.{table_bit}

-- the row `to` was written in the lanes before those of a part, and nothing else was: in the part's own lanes both rows still have what stood there
module _ (table first second to : ℕ) (old now new : List ℕ) (part : ℕ) (few : part < 8)
    (rest : (lane : ℕ) → part * 128 ≤ lane → lane < 1024 → source_bit now to lane ≡ source_bit old to lane) where
  kept : ((other lane : ℕ) → lane < 1024 → other ≢ to → source_bit now other lane ≡ source_bit old other lane)
      → (row lane : ℕ) → part * 128 ≤ lane → lane < 1024 → source_bit now row lane ≡ source_bit old row lane
  kept others row lane from inside = ⊎_elim
      (λ same. subst (λ r. source_bit now r lane ≡ source_bit old r lane) (sym same) (rest lane from inside))
      (λ apart. others row lane inside apart)
      (cases_eq row to)

  pub done_more : ((lane : ℕ) → lane < part * 128 → source_bit now to lane ≡ table_bit table (source_bit old first lane) (source_bit old second lane))
      → ((other lane : ℕ) → lane < 1024 → other ≢ to → source_bit now other lane ≡ source_bit old other lane)
      → ((p : ℕ) → p < 2 * 64 → source_bit new to (part * 2 * 64 + p) ≡ table_bit table (source_bit now first (part * 2 * 64 + p)) (source_bit now second (part * 2 * 64 + p)))
      → ((lane : ℕ) → lane < part * 2 * 64 → source_bit new to lane ≡ source_bit now to lane)
      → (lane : ℕ) → lane < (part + 1) * 128 → source_bit new to lane ≡ table_bit table (source_bit old first lane) (source_bit old second lane)
  done_more done others here before lane inside = ⊎_elim
      (λ earlier. before lane (omega arith) ∙ done lane earlier)
      (λ there.
      let at : part * 2 * 64 + (lane - part * 128) ≡ lane = omega arith in
      subst (λ q. source_bit new to q ≡ table_bit table (source_bit now first q) (source_bit now second q)) at (here (lane - part * 128) (omega arith))
      ∙ ap₂ (table_bit table) (kept others first lane there (omega arith)) (kept others second lane there (omega arith)))
      (cases_lt lane (part * 128))

  pub rest_more : ((lane : ℕ) → (part * 2 + 2) * 64 ≤ lane → lane < 1024 → source_bit new to lane ≡ source_bit now to lane)
      → (lane : ℕ) → (part + 1) * 128 ≤ lane → lane < 1024 → source_bit new to lane ≡ source_bit old to lane
  rest_more past lane from inside = past lane (omega arith) inside ∙ rest lane (omega arith) inside
