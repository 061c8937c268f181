use Rattle.std.proofs.Common.{ℕ, List, ◌∷◌, ◌++◌, sym, ap, ap₂}
use Rattle.buffered_sink.proofs.PrintLemmas.{begin, cut, ends, exits, more}
use Rattle.fault_secure.specs.Circuit.{node_net}
use Rattle.tsc_net.specs.Names.{text_at}
use Rattle.tsc_net.specs.NetlistOf.{names_of}
use Rattle.blif_write.specs.NetLines.{named_node}
use Rattle.blif_write.specs.Steps.{line_end}
use Rattle.joint_text.specs.JointNamed.{names_under, under}
use Rattle.joint_text.specs.LineWords.{spaced}
use Rattle.joint_text.proofs.LineTexts.{names_line_is}
use Rattle.joint_text.proofs.part_lines.print_names_line.Goals as goal

-- the last word of the line, and its end
abbrev last : List (List ℕ) → ℕ → List ℕ
last names net = 32 ∷ (text_at names net ++ line_end (text_at names net))

pub returns-in_err-print : goal.returns-in_err-print
returns-in_err-print g c =
    let n = named_node (under c.args.label.now c.args.net.now) c.args.place in
    record {
      printed = exits _ c.from_residual.result c.from_residual.ensures.1 (cut _ (begin _ _) c.in_err-print.ensures.printed (names_line_is n));
    }

pub returns-in_err-print_reads : goal.returns-in_err-print_reads
returns-in_err-print_reads g c =
    let names = names_under c.args.label.now c.args.net.now in
    let n = named_node (under c.args.label.now c.args.net.now) c.args.place in
    let out = last names (node_net c.args.net.now.circuit c.args.place) in
    record {
      printed = exits _ c.from_residual-in_err-print_reads.result c.from_residual-in_err-print_reads.ensures.1
          (cut out (more _ (begin _ _) c.in_ok-print.ensures.printed (names_line_is n)) c.in_err-print_reads.ensures.printed
          (ap (λ (ns : List ℕ). spaced (names_of names ns) ++ out) (sym c.node_reads.ensures.reads)));
    }

pub returns : goal.returns
returns g c =
    let names = names_under c.args.label.now c.args.net.now in
    let n = named_node (under c.args.label.now c.args.net.now) c.args.place in
    record {
      printed = ends c.print_last.result _ (last names c.node_net.result.number)
          (more (last names c.node_net.result.number) (more _ (begin _ _) c.in_ok-print.ensures.printed (names_line_is n)) c.in_ok-print_reads.ensures.printed
          (ap₂ (λ (ns : List ℕ) (k : ℕ). spaced (names_of names ns) ++ last names k) (sym c.node_reads.ensures.reads) (sym c.node_net.ensures.net)))
          c.print_last.ensures.printed;
    }
