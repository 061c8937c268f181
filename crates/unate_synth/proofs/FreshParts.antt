-- The parts of a network's netlist before gates are written: its names, its inputs, and the first fresh names.
use Rattle.std.proofs.Common.{◌≡◌, ℕ, zero, suc, ◌+◌, ◌≤◌, List, [], ◌∷◌, ◌++◌, map, take, length, Option, Some, refl, sym, ◌∙◌, ap, ap₂, arith, append_assoc, append-nil, take_all, length-take-le}
use Rattle.std.specs.Fn.{iterate}
use Rattle.std.specs.List.{range_with_len}
use Rattle.fault_secure.specs.Circuit.{nets}
use Rattle.tsc_net.specs.Named.{Named}
use Rattle.tsc_net.specs.NetlistOf.{NetlistOf, IsBuilt}
use Rattle.tsc_net.specs.Parts.{PartsOf, FreshNames, with_fresh, fresh_of, fresh_text, free_number}
use Rattle.net_writing.specs.Begun.{begun_to}
use Rattle.unate_synth.specs.Composed.{fresh_parts}
use Rattle.unate_synth.specs.UnateNetlist.{first_fresh_names}

-- once a fresh name was given, so many more follow it in order
pub fresh_names_behind : (number count next : ℕ) (p : PartsOf) → p.fresh ≡ Some (record { number = number; next = next })
    → ((iterate with_fresh count p).names ≡ p.names ++ map (fresh_text number) (range_with_len next count)) × ((iterate with_fresh count p).fresh ≡ Some (record { number = number; next = next + count }))
fresh_names_behind number zero next p is = (sym (append-nil p.names), is ∙ ap (λ (n : ℕ). Some (record { number = number; next = n })) (omega arith))
fresh_names_behind number (suc count) next p is =
    let more : (with_fresh p).names ≡ p.names ++ fresh_text number next ∷ [] = ap (λ (f : Option FreshNames). p.names ++ fresh_text (fresh_of p f).number (fresh_of p f).next ∷ []) is in
    let after : (with_fresh p).fresh ≡ Some (record { number = number; next = next + 1 }) = ap (λ (f : Option FreshNames). Some (record { number = (fresh_of p f).number; next = (fresh_of p f).next + 1 })) is in
    let rest = fresh_names_behind number count (next + 1) (with_fresh p) after in
    let next_is : suc next ≡ next + 1 = omega arith in (
      rest.0 ∙ ap (λ (names : List (List ℕ)). names ++ map (fresh_text number) (range_with_len (next + 1) count)) more
          ∙ append_assoc p.names (fresh_text number next ∷ []) (map (fresh_text number) (range_with_len (next + 1) count)),
      rest.1 ∙ ap (λ (n : ℕ). Some (record { number = number; next = n })) (omega arith),
    )

-- fresh names leave the netlist by names as it was
pub fresh_named : (count : ℕ) (p : PartsOf) → (iterate with_fresh count p).named ≡ p.named
fresh_named zero p = refl
fresh_named (suc count) p = fresh_named count (with_fresh p)

module _ (S : NetlistOf) (checked : IsBuilt S) where
  begun_names : (begun_to S (nets S.circuit)).names ≡ S.names
  begun_names = let sized : length S.names ≡ nets S.circuit = checked.sized in take_all (nets S.circuit) S.names (omega arith)

  first_number : free_number (begun_to S (nets S.circuit)).names ≡ free_number S.names
  first_number = ap free_number begun_names

  -- their names, and the number of the fresh ones
  pub fresh_parts_names : (count : ℕ) → (fresh_parts S count).names ≡ S.names ++ first_fresh_names S count
  fresh_parts_names zero = begun_names ∙ sym (append-nil S.names)
  fresh_parts_names (suc count) =
      let p = begun_to S (nets S.circuit) in
      let rest = fresh_names_behind (free_number p.names) count 1 (with_fresh p) refl in
      rest.0 ∙ append_assoc p.names (fresh_text (free_number p.names) 0 ∷ []) (map (fresh_text (free_number p.names)) (range_with_len 1 count))
      ∙ ap₂ (λ (names : List (List ℕ)) (number : ℕ). names ++ map (fresh_text number) (range_with_len 0 (suc count))) begun_names first_number

  pub fresh_parts_number : (count : ℕ) → (fresh_of (fresh_parts S count) (fresh_parts S count).fresh).number ≡ free_number S.names
  fresh_parts_number zero = first_number
  fresh_parts_number (suc count) =
      let p = begun_to S (nets S.circuit) in
      let rest = fresh_names_behind (free_number p.names) count 1 (with_fresh p) refl in
      ap (λ (f : Option FreshNames). (fresh_of (fresh_parts S (suc count)) f).number) rest.1 ∙ first_number

  -- and the count at which they go on
  pub fresh_parts_next : (count : ℕ) → (fresh_of (fresh_parts S count) (fresh_parts S count).fresh).next ≡ count
  fresh_parts_next zero = refl
  fresh_parts_next (suc count) =
      let p = begun_to S (nets S.circuit) in
      let rest = fresh_names_behind (free_number p.names) count 1 (with_fresh p) refl in
      ap (λ (f : Option FreshNames). (fresh_of (fresh_parts S (suc count)) f).next) rest.1 ∙ omega arith

  -- nothing except inputs is in them
  pub fresh_parts_named : (count : ℕ) → (fresh_parts S count).named ≡ (begun_to S (nets S.circuit)).named
  fresh_parts_named count = fresh_named count (begun_to S (nets S.circuit))

  pub fresh_parts_inputs : (count : ℕ) → (fresh_parts S count).named.inputs ≡ take S.circuit.inputs S.names
  fresh_parts_inputs count =
      let many : S.circuit.inputs ≤ nets S.circuit = omega arith in
      let whole : length S.names ≡ nets S.circuit = checked.sized in
      let sized : length (take S.circuit.inputs S.names) ≡ S.circuit.inputs = length-take-le {A = List ℕ} S.circuit.inputs S.names (omega (arith, many, whole)) in
      ap (λ (N : Named). N.inputs) (fresh_parts_named count) ∙ take_all (nets S.circuit) (take S.circuit.inputs S.names) (omega (arith, sized, many))
