-- Names that fit: they are as many as are stated, and all different.
use Rattle.std.proofs.Common.{◌≡◌, ℕ, ◌≤◌, Bool, true, false, not, ◌||◌, if◌then◌else◌, eqb, List, ◌++◌, length, Option, Some, None, refl, sym, subst}
use Rattle.std.specs.Option.{is_some}
use Rattle.std.proofs.lemmas.Bool.{eqb-true, or_parts}
use Rattle.tsc_net.specs.Names.{IsNumbering}
use Rattle.tsc_net.specs.NetFault.{first_repeat}
use Rattle.tsc_text.specs.TextLine.{TextLine}
use Rattle.table_lines.specs.NamesText.{are_wrong_names, later_line, names_or, numbered_names, wrong_at, wrong_names}
use Rattle.table_lines.proofs.NameLists.{count_of_numbered, no_input_line, no_output_line, none_twice, numbered_differ}

-- the names are as many as are wanted and asked for, and all different
pub record AreRight (inputs : List (List ℕ)) (wanted : ℕ) (outputs : List (List ℕ)) (asked : ℕ) : Type 0 where
  pub inputs_many : length inputs ≡ wanted
  pub outputs_many : length outputs ≡ asked
  pub distinct : IsNumbering (inputs ++ outputs)

isnt_not : (b : Bool) → not b ≡ false → b ≡ true
isnt_not true e = refl
isnt_not false e = cc

not_wrong : (inputs : List (List ℕ)) (wanted : ℕ) (outputs : List (List ℕ)) (asked : ℕ) → are_wrong_names inputs wanted outputs asked ≡ false
    → AreRight inputs wanted outputs asked
not_wrong inputs wanted outputs asked e =
    let parts = or_parts (not (eqb (length inputs) wanted) || not (eqb (length outputs) asked)) (is_some (first_repeat (inputs ++ outputs))) e in
    let counts = or_parts (not (eqb (length inputs) wanted)) (not (eqb (length outputs) asked)) parts.0 in
    record {
      inputs_many = eqb-true (length inputs) wanted (isnt_not (eqb (length inputs) wanted) counts.0);
      outputs_many = eqb-true (length outputs) asked (isnt_not (eqb (length outputs) asked) counts.1);
      distinct = none_twice (inputs ++ outputs) parts.1;
    }

numbers_right : (inputs outputs : ℕ) → inputs ≤ 64 → outputs ≤ 64 → AreRight (numbered_names 105 inputs) inputs (numbered_names 111 outputs) outputs
numbers_right inputs outputs few_inputs few_outputs = record {
  inputs_many = count_of_numbered 105 inputs;
  outputs_many = count_of_numbered 111 outputs;
  distinct = numbered_differ inputs outputs few_inputs few_outputs;
}

-- names that aren't refused are right, for at most 64 inputs and 64 outputs
pub names_right : (a b : Option TextLine) (inputs outputs : ℕ) → inputs ≤ 64 → outputs ≤ 64 → wrong_names a inputs b outputs ≡ None
    → AreRight (names_or a 105 inputs) inputs (names_or b 111 outputs) outputs
names_right a b inputs outputs few_inputs few_outputs e = by (later_line a b) refl e
  where
    told : (w : Bool) (line : ℕ) → (if w then Some line else None) ≡ None → w ≡ false
    told true line f = cc
    told false line f = refl

    by : (later : Option ℕ) → later_line a b ≡ later → wrong_at (are_wrong_names (names_or a 105 inputs) inputs (names_or b 111 outputs) outputs) later ≡ None
        → AreRight (names_or a 105 inputs) inputs (names_or b 111 outputs) outputs
    by None none f =
        subst (λ names. AreRight names inputs (names_or b 111 outputs) outputs) (sym (no_input_line a b 105 inputs none))
        (subst (λ names. AreRight (numbered_names 105 inputs) inputs names outputs) (sym (no_output_line a b 111 outputs none)) (numbers_right inputs outputs few_inputs few_outputs))
    by (Some line) found f =
        not_wrong (names_or a 105 inputs) inputs (names_or b 111 outputs) outputs
        (told (are_wrong_names (names_or a 105 inputs) inputs (names_or b 111 outputs) outputs) line f)
