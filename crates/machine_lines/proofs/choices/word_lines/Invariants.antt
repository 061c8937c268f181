use Rattle.std.proofs.Common.{◌≡◌, ◌≤◌, ◌+◌, ℕ, Bool, map, length}
use Rattle.std.specs.List.{range_with_len}
use Rattle.gate_net.specs.Gates.{AreLines, line_values}
use Rattle.gate_net.specs.Negations.{is_negation}
use Rattle.state_code.specs.Lines.{GrowsWithout}
use Rattle.machine_lines.specs.Cases.{some_case, choices_before}
use Rattle.machine_lines.proofs.choices.word_lines.Given as goal

-- the lines of the places so far
abbrev pub invariant-loop-place : goal.invariant-loop-place
invariant-loop-place l = record {
  values : (x s : ℕ → Bool) → line_values l.gates x s l.word ≡ map (λ place. some_case l.widths l.fn.gates x s place l.cases) (range_with_len 0 l.place);
  within : AreLines l.gates l.word;
  grown : GrowsWithout is_negation l.fn.gates l.gates;
  few : length l.gates.gates ≤ length l.fn.gates.gates + choices_before l.widths l.cases l.place;
}
