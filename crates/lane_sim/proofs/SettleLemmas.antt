-- What the pins of a node read, and what its gate gives.
use Rattle.std.proofs.Common.{◌≡◌, ℕ, zero, suc, ◌+◌, ◌<◌, Bool, true, false, cond, not, ◌||◌, List, [], ◌∷◌, length, map, take, get_or, slice_index_or, All, Option, refl, sym, ap, ap₂, ◌∙◌, arith, ◌≤◌}
use Rattle.std.specs.Prelude.{slice_index}
use Rattle.std.specs.List.{list_all}
use Rattle.std.proofs.lemmas.List.Folds.{list_all-map}
use Rattle.tsc_bits.specs.Bits.{same}
use Rattle.tsc_cover.specs.Cover.{Literal, CoverTable, row_matches, some_row_matches, truth}
use Rattle.tsc_cover.specs.Terms.{terms_from}
use Rattle.tsc_cover.proofs.Truth.{row_matches-terms}
use Rattle.fault_secure.specs.Circuit.{bit, NodeOf}
use Rattle.fault_secure.specs.StuckAt.{StuckAt, on_stem, on_pin}
use Rattle.fault_secure.specs.Settle.{read_values}
use Rattle.lane_sim.specs.Gate.{operand_in, is_in_rows, number_of, operand_bit, term_bit, each_bit, some_bit, gate_bit}
use Rattle.lane_sim.specs.Program.{operand_of, term_of, terms_of, IsTwo, IsOperationOf}
use Rattle.lane_sim.specs.TwoPins.{table_bit}
use Rattle.lane_sim.specs.Operation.{table_of, two_pins, two_bit, operation_bit}
use Rattle.lane_sim.specs.Along.{read_bits, net_bit, given_bit}
use Rattle.lane_sim.specs.declared.gate.Operand.{Operand}
use Rattle.lane_sim.specs.declared.gate.Operand.TheVariants.{Points, Row}
use Rattle.lane_sim.specs.declared.gate.TwoPins.{TwoPins}
use Rattle.lane_sim.specs.declared.gate.Operation.{Operation}
use Rattle.lane_sim.specs.declared.gate.Operation.TheVariants.{Two, Many}
use Rattle.lane_sim.specs.declared.flat_rows.FlatRows.{FlatRows}

-- ---- the bits that pins read

-- one by one
read_bit : (f : StuckAt) (bits : ℕ → Bool) (driver pin : ℕ) (reads : List ℕ) (i : ℕ) → i < length reads
    → get_or (read_bits f bits driver pin reads) i false ≡ on_pin f driver (pin + i) (bits (get_or reads i 0))
read_bit f bits driver pin [] i inside = absurd (omega arith)
read_bit f bits driver pin (net ∷ reads) zero inside = ap (λ k. on_pin f driver k (bits net)) (omega arith)
read_bit f bits driver pin (net ∷ reads) (suc i) inside =
    read_bit f bits driver (suc pin) reads i (omega arith) ∙ ap (λ k. on_pin f driver k (bits (get_or reads i 0))) (omega arith)

length-read_bits : (f : StuckAt) (bits : ℕ → Bool) (driver pin : ℕ) (reads : List ℕ) → length (read_bits f bits driver pin reads) ≡ length reads
length-read_bits f bits driver pin [] = refl
length-read_bits f bits driver pin (net ∷ reads) = ap suc (length-read_bits f bits driver (suc pin) reads)

-- where each net that is read has its bit in a valuation, those are what the pins read in it
pub read_bits_are : (f : StuckAt) (bits : ℕ → Bool) (v : List Bool) (driver pin : ℕ) (reads : List ℕ)
    → ((i : ℕ) → i < length reads → bits (get_or reads i 0) ≡ bit v (get_or reads i 0)) → read_bits f bits driver pin reads ≡ read_values f v driver pin reads
read_bits_are f bits v driver pin [] same_bits = refl
read_bits_are f bits v driver pin (net ∷ reads) same_bits =
    ap₂ ◌∷◌ (ap (on_pin f driver pin) (same_bits 0 (omega arith))) (read_bits_are f bits v driver (suc pin) reads (λ i inside. same_bits (suc i) (omega arith)))

-- of at most two pins
two_read : (f : StuckAt) (bits : ℕ → Bool) (driver : ℕ) (reads : List ℕ) → length reads ≤ 2
    → take (length reads) (on_pin f driver 0 (bits (slice_index reads 0)) ∷ on_pin f driver 1 (bits (slice_index_or reads 1 (slice_index reads 0))) ∷ [])
    ≡ read_bits f bits driver 0 reads
two_read f bits driver [] narrow = refl
two_read f bits driver (one ∷ []) narrow = refl
two_read f bits driver (one ∷ other ∷ []) narrow = refl
two_read f bits driver (one ∷ other ∷ third ∷ reads) narrow = absurd (omega arith)

-- ---- the truth of a cover on what the pins read, by terms

truth_as_same : (on some : Bool) → same on some ≡ cond on some (not some)
truth_as_same true some = refl
truth_as_same false some = refl

-- an operand is that of its number
pub operand_again : (operand : Operand) → operand_in (is_in_rows operand) (number_of operand) ≡ operand
operand_again (Points net) = refl
operand_again (Row row) = refl

module _ (first : ℕ) (rows : List (Option ℕ)) (reads : List ℕ) (f : StuckAt) (driver : ℕ) (words block : List ℕ) (p : ℕ) where
  abbrev read : List Bool
  read = read_bits f (net_bit first rows f words block p) driver 0 reads

  -- a row's terms pass exactly where the row matches what the pins read
  row_passes : (row : List Literal) → length row ≡ length reads → each_bit f driver words block p (terms_of first rows reads row) ≡ row_matches row read
  row_passes row sized =
      list_all-map (term_bit f driver words block p) (term_of first rows reads) (terms_from 0 row)
      ∙ (λ i. list_all (λ (asked : ℕ × Bool). same asked.1 (on_pin f driver asked.0 (operand_bit f words block p (operand_again (operand_of first rows (slice_index reads asked.0)) i)))) (terms_from 0 row))
      ∙ sym (row_matches-terms row read (λ pin. on_pin f driver pin (net_bit first rows f words block p (get_or reads pin 0))) 0
      (omega (arith, length-read_bits f (net_bit first rows f words block p) driver 0 reads))
      (λ i inside.
      let at : 0 + i ≡ i = omega arith in
      read_bit f (net_bit first rows f words block p) driver 0 reads i (omega arith)
      ∙ ap (λ k. on_pin f driver (0 + i) (net_bit first rows f words block p (get_or reads k 0))) (sym at)))

  some_passes : (table : List (List Literal)) → ((k : ℕ) (d : List Literal) → k < length table → length (get_or table k d) ≡ length reads)
      → some_bit f driver words block p (map (terms_of first rows reads) table) ≡ some_row_matches table read
  some_passes [] sized = refl
  some_passes (row ∷ table) sized =
      ap₂ ◌||◌ (row_passes row (sized 0 row (omega arith))) (some_passes table (λ k d inside. sized (suc k) d (omega arith)))

  -- what the gate has is the truth of its cover, except for a held stem
  gate_is : (cover : CoverTable) → All (λ row. length row ≡ length reads) cover.rows
      → gate_bit f driver words block p cover.on (map (terms_of first rows reads) cover.rows) ≡ on_stem f driver (truth cover read)
  gate_is cover sized = ap (on_stem f driver) (ap (same cover.on) (some_passes cover.rows sized) ∙ truth_as_same cover.on _)

-- ---- what the gate of a node has is what the node gives

module _ (first : ℕ) (rows : List (Option ℕ)) (n : NodeOf) (f : StuckAt) (driver : ℕ) (words block : List ℕ) (p : ℕ) (flat : FlatRows) where
  two_is : (two : TwoPins) → IsTwo first rows n two → two_bit f driver words block p two ≡ given_bit first rows n driver f words block p
  two_is two ready = ap (on_stem f driver)
      (ap₂ (λ one other. table_bit (table_of two) (on_pin f driver 0 (operand_bit f words block p one)) (on_pin f driver 1 (operand_bit f words block p other))) ready.first_operand ready.second_operand
      ∙ ready.table.gives _ _
      ∙ ap (truth n.cover) (two_read f (net_bit first rows f words block p) driver n.reads ready.narrow))

  pub operation_is : (operation : Operation) → IsOperationOf first rows n flat operation → operation_bit f driver words block p flat operation ≡ given_bit first rows n driver f words block p
  operation_is (Two in_rows also masks one other) ready = two_is (two_pins in_rows also masks one other) ready
  operation_is (Many on place) ready =
      (λ i. gate_bit f driver words block p (ready.on i) (ready.terms i)) ∙ gate_is first rows n.reads f driver words block p n.cover ready.sized
