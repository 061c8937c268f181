-- What is kept of the worked source, and its groups.
use Rattle.std.proofs.Common.{ℕ, zero, suc, ◌<◌, true, slice_index, Contains, refl, arith}
use Rattle.register_laws.specs.RegisterStructure.{Reaches}
use Rattle.register_laws.specs.RegisterStructure.Reaches.{own, through, across}
use Rattle.structure_laws.proofs.Each.{each}
use Rattle.register_synth.specs.Reaching.{ReachesSome}
use Rattle.register_synth.specs.Kept.{AreThose, AreKept, IsKeptRegister, IsKeptCover}
use Rattle.register_synth.specs.RegisterGroups.{AreRegisterGroups}
use Rattle.register_synth.specs.WorkedTwin.{worked_source, worked_registers, worked_covers, worked_groups}

-- ---- what reaches the outputs

p_reaches : Reaches worked_source 3 6
p_reaches = through 6 1 0 (omega arith) refl (omega arith) (own 3 refl)

q_reaches : Reaches worked_source 4 7
q_reaches = through 7 2 0 (omega arith) refl (omega arith) (own 4 refl)

read_reaches_first : Reaches worked_source 5 6
read_reaches_first = through 6 1 0 (omega arith) refl (omega arith) (across 3 0 (omega arith) refl (own 5 refl))

read_reaches_second : Reaches worked_source 5 7
read_reaches_second = through 7 2 0 (omega arith) refl (omega arith) (across 4 1 (omega arith) refl (across 3 0 (omega arith) refl (own 5 refl)))

to_first : (net : ℕ) → Reaches worked_source net 6 → ReachesSome worked_source net worked_source.outputs
to_first net r = record { root = 6; is_root = (0, omega arith, refl); reaches = r }

to_second : (net : ℕ) → Reaches worked_source net 7 → ReachesSome worked_source net worked_source.outputs
to_second net r = record { root = 7; is_root = (1, omega arith, refl); reaches = r }

registers : AreThose (IsKeptRegister worked_source) worked_registers
registers = record {
  rising = λ i k low within. rises i k low within;
  sound = each 2 (λ k. IsKeptRegister worked_source (slice_index worked_registers k)) ((omega arith, to_first 3 p_reaches), ((omega arith, to_second 4 q_reaches), tt));
  whole = λ place is. has place is.0;
}
  where
    rises : (i k : ℕ) → i < k → k < 2 → slice_index worked_registers i < slice_index worked_registers k
    rises i zero low within = absurd (omega arith)
    rises zero (suc zero) low within = omega arith
    rises (suc i) (suc zero) low within = absurd (omega arith)
    rises i (suc (suc k)) low within = absurd (omega arith)

    has : (place : ℕ) → place < 2 → Contains worked_registers place
    has zero h = (0, omega arith, refl)
    has (suc zero) h = (1, omega arith, refl)
    has (suc (suc place)) h = absurd (omega arith)

covers : AreThose (IsKeptCover worked_source) worked_covers
covers = record {
  rising = λ i k low within. rises i k low within;
  sound = each 3 (λ k. IsKeptCover worked_source (slice_index worked_covers k))
      ((omega arith, to_first 5 read_reaches_first), ((omega arith, to_first 6 (own 6 refl)), ((omega arith, to_second 7 (own 7 refl)), tt)));
  whole = λ place is. has place is.0;
}
  where
    rises : (i k : ℕ) → i < k → k < 3 → slice_index worked_covers i < slice_index worked_covers k
    rises i zero low within = absurd (omega arith)
    rises zero (suc zero) low within = omega arith
    rises (suc i) (suc zero) low within = absurd (omega arith)
    rises zero (suc (suc zero)) low within = omega arith
    rises (suc zero) (suc (suc zero)) low within = omega arith
    rises (suc (suc i)) (suc (suc zero)) low within = absurd (omega arith)
    rises i (suc (suc (suc k))) low within = absurd (omega arith)

    has : (place : ℕ) → place < 3 → Contains worked_covers place
    has zero h = (0, omega arith, refl)
    has (suc zero) h = (1, omega arith, refl)
    has (suc (suc zero)) h = (2, omega arith, refl)
    has (suc (suc (suc place))) h = absurd (omega arith)

pub worked_kept : AreKept worked_source worked_registers worked_covers
worked_kept = record { each_register = registers; each_cover = covers }

-- ---- the groups

reaches_both : (o : ℕ) → o < 2 → Reaches worked_source 5 (slice_index worked_source.outputs o)
reaches_both zero h = read_reaches_first
reaches_both (suc zero) h = read_reaches_second
reaches_both (suc (suc o)) h = absurd (omega arith)

pub worked_are_groups : AreRegisterGroups worked_source worked_groups
worked_are_groups = record {
  shares = λ a b. true;
  exact = λ a b h k. (
    λ m. record { cell = 5; is_cell = record { no_input = omega arith; inside = omega arith }; first = reaches_both a h; second = reaches_both b k },
    λ common. refl,
  );
  fit = refl;
}
