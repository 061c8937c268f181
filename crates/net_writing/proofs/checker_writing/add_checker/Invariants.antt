use Rattle.std.proofs.Common.{◌≡◌, ◌+◌, ◌≤◌, drop, length, All}
use Rattle.tsc_net.specs.Names.{IsNumbering}
use Rattle.tsc_net.specs.PartsView.{texts_of, IsName}
use Rattle.net_writing.specs.Names.{Keeps}
use Rattle.net_writing.specs.CheckerParts.{gate_parts, with_gates, with_checker, given_text}
use Rattle.net_writing.proofs.checker_writing.add_checker.Given as goal

abbrev pub invariant-loop-place : goal.invariant-loop-place
invariant-loop-place l = record {
  left : with_gates (texts_of l.fn.parts.names l.word) (given_text l.fn.parts.names l.gates l.rails) (drop l.place l.gates.gates) (gate_parts l.parts l.names)
      ≡ with_checker l.fn.parts (texts_of l.fn.parts.names l.word) l.gates l.rails;
  counted : length l.names ≡ l.place;
  named : All (IsName l.parts.names) l.names;
  keeps : Keeps l.fn.parts.names l.parts.names;
  room : length l.parts.names ≤ length l.fn.parts.names + l.place;
  nodes : length l.parts.named.nodes ≤ length l.fn.parts.named.nodes + l.place;
  distinct : IsNumbering l.fn.parts.names → IsNumbering l.parts.names;
}
