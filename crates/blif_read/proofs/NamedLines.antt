-- What lines denote, line by line.
use Rattle.std.proofs.Common.{◌≡◌, ℕ, ◌≤◌, List, [], ◌∷◌, ◌++◌, drop, length, refl, ap, sym, ◌∙◌, append_assoc}
use Rattle.std.proofs.lemmas.List.{append-nil, drop_all}
use Rattle.tsc_net.specs.Named.{Named}
use Rattle.tsc_text.specs.TextLine.{TextLine}
use Rattle.blif_read.specs.LineKind.{kind_of, names_of}
use Rattle.blif_read.specs.NamedText.{input_names, output_names, latches_at, nodes_at, model_at, latch_at, node_at, model_or, inputs_of, outputs_of, latches_of, nodes_of}
use Rattle.blif_read.specs.Added.{with_line}
use Rattle.blif_read.specs.declared.kinds.LineKind.{LineKind}
use Rattle.blif_read.specs.declared.kinds.LineKind.TheVariants.{PlanLine, Model, Inputs, Outputs, Names, Latch, OtherDirective, Row}

-- the netlist with all that the lines give
abbrev pub with_lines : Named → List TextLine → Named
with_lines N lines = record {
  model = model_or N.model lines;
  inputs = N.inputs ++ inputs_of lines;
  outputs = N.outputs ++ outputs_of lines;
  latches = N.latches ++ latches_of lines;
  nodes = N.nodes ++ nodes_of lines;
}

pub with_no_lines : (N : Named) → with_lines N [] ≡ N
with_no_lines N =
    ap (λ l. record { model = N.model; inputs = l; outputs = N.outputs ++ []; latches = N.latches ++ []; nodes = N.nodes ++ [] }) (append-nil N.inputs)
    ∙ (ap (λ l. record { model = N.model; inputs = N.inputs; outputs = l; latches = N.latches ++ []; nodes = N.nodes ++ [] }) (append-nil N.outputs)
    ∙ (ap (λ l. record { model = N.model; inputs = N.inputs; outputs = N.outputs; latches = l; nodes = N.nodes ++ [] }) (append-nil N.latches)
    ∙ ap (λ l. record { model = N.model; inputs = N.inputs; outputs = N.outputs; latches = N.latches; nodes = l }) (append-nil N.nodes)))

pub with_first_line : (N : Named) (line : TextLine) (lines : List TextLine) → with_lines N (line ∷ lines) ≡ with_lines (with_line N (kind_of line) line lines) lines
with_first_line N line lines = by (kind_of line)
  where
    by : (k : LineKind) → record {
      model = model_or (model_at N.model k line) lines;
      inputs = N.inputs ++ (input_names k line ++ inputs_of lines);
      outputs = N.outputs ++ (output_names k line ++ outputs_of lines);
      latches = N.latches ++ (latches_at k line ++ latches_of lines);
      nodes = N.nodes ++ (nodes_at k line lines ++ nodes_of lines);
    } ≡ with_lines (with_line N k line lines) lines
    by PlanLine = refl
    by Model = refl
    by OtherDirective = refl
    by Row = refl
    by Inputs = ap (λ l. record (with_lines N lines) { inputs = l }) (sym (append_assoc N.inputs (names_of line) (inputs_of lines)))
    by Outputs = ap (λ l. record (with_lines N lines) { outputs = l }) (sym (append_assoc N.outputs (names_of line) (outputs_of lines)))
    by Latch = ap (λ l. record (with_lines N lines) { latches = l }) (sym (append_assoc N.latches (latch_at line ∷ []) (latches_of lines)))
    by Names = ap (λ l. record (with_lines N lines) { nodes = l }) (sym (append_assoc N.nodes (node_at line lines ∷ []) (nodes_of lines)))

pub with_next_line : (N new all : Named) (here rest : List TextLine) (line : TextLine) → here ≡ line ∷ rest
    → with_lines N here ≡ all → new ≡ with_line N (kind_of line) line rest → with_lines new rest ≡ all
with_next_line N new all here rest line is e f =
    ap (λ M. with_lines M rest) f ∙ (sym (with_first_line N line rest) ∙ (ap (λ l. with_lines N l) (sym is) ∙ e))

pub with_last_line : (N all : Named) (lines : List TextLine) (at : ℕ) → length lines ≤ at → with_lines N (drop at lines) ≡ all → N ≡ all
with_last_line N all lines at h e =
    sym (with_no_lines N) ∙ (ap (λ l. with_lines N l) (sym (drop_all at lines h)) ∙ e)
