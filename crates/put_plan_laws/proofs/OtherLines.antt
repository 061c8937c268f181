-- The netlist of a section is in the words of its other lines alone.
use Rattle.std.proofs.Common.{◌≡◌, ℕ, Bool, true, false, not, cond, if◌then◌else◌, List, [], ◌∷◌, ◌++◌, codes, map, refl, sym, ap, ap₂, ◌∙◌}
use Rattle.std.specs.List.{filter}
use Rattle.std.specs.Str.{bytes_eq}
use Rattle.tsc_cover.specs.Cover.{CoverTable}
use Rattle.tsc_cover.specs.Text.{literals_of_text}
use Rattle.tsc_text.specs.TextLine.{TextLine, the_word}
use Rattle.tsc_net.specs.Named.{Named, NamedLatch, NamedNode}
use Rattle.tsc_net.specs.NetlistOf.{netlist_of}
use Rattle.tsc_net.proofs.BuildLemmas.{map-map}
use Rattle.blif_read.specs.LineKind.{kind_of, kind_of_word, pins_of, net_of, width_of}
use Rattle.blif_read.specs.NamedText.{input_names, output_names, latches_at, node_at, nodes_at, model_at, model_or, inputs_of, outputs_of, latches_of, nodes_of, named_text}
use Rattle.blif_read.specs.Rows.{input_of, output_word, is_on_set, cover_with, rows_at, rows_of}
use Rattle.blif_read.specs.declared.kinds.LineKind.{LineKind}
use Rattle.blif_read.specs.declared.kinds.LineKind.TheVariants.{PlanLine, Model, Inputs, Outputs, Names, Latch, OtherDirective, Row}
use Rattle.put_plan_laws.specs.PutPlans.{other_words, PlanLinesChangeNoNetlist}

-- ---- the other lines, without their numbers

-- a line with these words that is no plan line
abbrev pub as_other : List (List ℕ) → TextLine
as_other words = record { number = 0; is_plan = false; words = words }

abbrev pub bare_of : List TextLine → List TextLine
bare_of lines = map as_other (other_words lines)

-- what is worked out line by line, from the last one on, stays where plan lines are left out
pub record IsOfOthers {X : Type 0} (F : List TextLine → X) (step : LineKind → TextLine → List TextLine → X → X) : Type 0 where
  pub is : (line : TextLine) (lines : List TextLine) → F (line ∷ lines) ≡ step (kind_of line) line lines (F lines)
  pub passed : (line : TextLine) (lines : List TextLine) (x : X) → step PlanLine line lines x ≡ x
  pub same : (kind : LineKind) (line : TextLine) (lines : List TextLine) (x : X) → step kind line lines x ≡ step kind (as_other line.words) (bare_of lines) x

module _ {X : Type 0} (F : List TextLine → X) (step : LineKind → TextLine → List TextLine → X → X) (of : IsOfOthers F step) where
  from_bare : (lines : List TextLine) → F lines ≡ F (bare_of lines)
  from_bare [] = refl
  from_bare (line ∷ lines) = of.is line lines ∙ by line.is_plan (from_bare lines)
    where
      by : (b : Bool) → F lines ≡ F (bare_of lines)
          → step (if b then PlanLine else kind_of_word (the_word line 0)) line lines (F lines)
          ≡ F (map as_other (map (λ (l : TextLine). l.words) (cond (not b) (line ∷ filter (λ (l : TextLine). not l.is_plan) lines) (filter (λ (l : TextLine). not l.is_plan) lines))))
      by true rest = of.passed line lines (F lines) ∙ rest
      by false rest =
          of.same (kind_of_word (the_word line 0)) line lines (F lines)
          ∙ ap (step (kind_of_word (the_word line 0)) (as_other line.words) (bare_of lines)) rest
          ∙ sym (of.is (as_other line.words) (bare_of lines))

  pub same_of_others : (lines others : List TextLine) → other_words lines ≡ other_words others → F lines ≡ F others
  same_of_others lines others e = from_bare lines ∙ ap (λ words. F (map as_other words)) e ∙ sym (from_bare others)

-- ---- the rows of a cover

abbrev words_in : List TextLine → List (List (List ℕ))
words_in rows = map (λ (row : TextLine). row.words) rows

abbrev row_words : List TextLine → List (List (List ℕ))
row_words lines = words_in (rows_of lines)

abbrev rows_step : LineKind → TextLine → List TextLine → List (List (List ℕ)) → List (List (List ℕ))
rows_step PlanLine line lines rows = rows
rows_step Row line lines rows = line.words ∷ rows
rows_step _ line lines rows = []

rows_of_others : IsOfOthers row_words rows_step
rows_of_others = record { is = λ line lines. is (kind_of line) line (rows_of lines) lines; passed = λ line lines rows. refl; same = same }
  where
    is : (kind : LineKind) (line : TextLine) (rows lines : List TextLine) → words_in (rows_at kind line rows) ≡ rows_step kind line lines (words_in rows)
    is PlanLine line rows lines = refl
    is Model line rows lines = refl
    is Inputs line rows lines = refl
    is Outputs line rows lines = refl
    is Names line rows lines = refl
    is Latch line rows lines = refl
    is OtherDirective line rows lines = refl
    is Row line rows lines = refl

    same : (kind : LineKind) (line : TextLine) (lines : List TextLine) (rows : List (List (List ℕ)))
        → rows_step kind line lines rows ≡ rows_step kind (as_other line.words) (bare_of lines) rows
    same PlanLine line lines rows = refl
    same Model line lines rows = refl
    same Inputs line lines rows = refl
    same Outputs line lines rows = refl
    same Names line lines rows = refl
    same Latch line lines rows = refl
    same OtherDirective line lines rows = refl
    same Row line lines rows = refl

-- a cover is in the words of its rows
abbrev is_on : List (List (List ℕ)) → Bool
is_on [] = true
is_on (words ∷ rest) = bytes_eq (output_word words) (codes "1")

on_of_words : (rows : List TextLine) → is_on_set rows ≡ is_on (words_in rows)
on_of_words [] = refl
on_of_words (row ∷ rows) = refl

abbrev cover_in : ℕ → List (List (List ℕ)) → CoverTable
cover_in width rows = record { width = width; on = is_on rows; rows = map (λ (words : List (List ℕ)). literals_of_text (input_of words)) rows }

cover_of_words : (width : ℕ) (rows : List TextLine) → cover_with width rows ≡ cover_in width (words_in rows)
cover_of_words width rows =
    ap₂ (λ on literals. record { width = width; on = on; rows = literals }) (on_of_words rows)
    (sym (map-map (λ (words : List (List ℕ)). literals_of_text (input_of words)) (λ (row : TextLine). row.words) rows))

same_node : (line : TextLine) (lines : List TextLine) → node_at line lines ≡ node_at (as_other line.words) (bare_of lines)
same_node line lines =
    ap (λ cover. record { reads = pins_of line; out = net_of line; cover = cover })
    (cover_of_words (width_of line) (rows_of lines)
    ∙ ap (cover_in (width_of line)) (from_bare row_words rows_step rows_of_others lines)
    ∙ sym (cover_of_words (width_of line) (rows_of (bare_of lines))))

-- ---- the parts of a netlist

abbrev inputs_step : LineKind → TextLine → List TextLine → List (List ℕ) → List (List ℕ)
inputs_step kind line lines names = input_names kind line ++ names

inputs_of_others : IsOfOthers inputs_of inputs_step
inputs_of_others = record { is = λ line lines. refl; passed = λ line lines names. refl; same = same }
  where
    same : (kind : LineKind) (line : TextLine) (lines : List TextLine) (names : List (List ℕ))
        → inputs_step kind line lines names ≡ inputs_step kind (as_other line.words) (bare_of lines) names
    same PlanLine line lines names = refl
    same Model line lines names = refl
    same Inputs line lines names = refl
    same Outputs line lines names = refl
    same Names line lines names = refl
    same Latch line lines names = refl
    same OtherDirective line lines names = refl
    same Row line lines names = refl

abbrev outputs_step : LineKind → TextLine → List TextLine → List (List ℕ) → List (List ℕ)
outputs_step kind line lines names = output_names kind line ++ names

outputs_of_others : IsOfOthers outputs_of outputs_step
outputs_of_others = record { is = λ line lines. refl; passed = λ line lines names. refl; same = same }
  where
    same : (kind : LineKind) (line : TextLine) (lines : List TextLine) (names : List (List ℕ))
        → outputs_step kind line lines names ≡ outputs_step kind (as_other line.words) (bare_of lines) names
    same PlanLine line lines names = refl
    same Model line lines names = refl
    same Inputs line lines names = refl
    same Outputs line lines names = refl
    same Names line lines names = refl
    same Latch line lines names = refl
    same OtherDirective line lines names = refl
    same Row line lines names = refl

abbrev latches_step : LineKind → TextLine → List TextLine → List NamedLatch → List NamedLatch
latches_step kind line lines latches = latches_at kind line ++ latches

latches_of_others : IsOfOthers latches_of latches_step
latches_of_others = record { is = λ line lines. refl; passed = λ line lines latches. refl; same = same }
  where
    same : (kind : LineKind) (line : TextLine) (lines : List TextLine) (latches : List NamedLatch)
        → latches_step kind line lines latches ≡ latches_step kind (as_other line.words) (bare_of lines) latches
    same PlanLine line lines latches = refl
    same Model line lines latches = refl
    same Inputs line lines latches = refl
    same Outputs line lines latches = refl
    same Names line lines latches = refl
    same Latch line lines latches = refl
    same OtherDirective line lines latches = refl
    same Row line lines latches = refl

abbrev nodes_step : LineKind → TextLine → List TextLine → List NamedNode → List NamedNode
nodes_step kind line lines nodes = nodes_at kind line lines ++ nodes

nodes_of_others : IsOfOthers nodes_of nodes_step
nodes_of_others = record { is = λ line lines. refl; passed = λ line lines nodes. refl; same = same }
  where
    same : (kind : LineKind) (line : TextLine) (lines : List TextLine) (nodes : List NamedNode)
        → nodes_step kind line lines nodes ≡ nodes_step kind (as_other line.words) (bare_of lines) nodes
    same PlanLine line lines nodes = refl
    same Model line lines nodes = refl
    same Inputs line lines nodes = refl
    same Outputs line lines nodes = refl
    same Names line lines nodes = ap (λ node. node ∷ nodes) (same_node line lines)
    same Latch line lines nodes = refl
    same OtherDirective line lines nodes = refl
    same Row line lines nodes = refl

abbrev model_of : List TextLine → List ℕ → List ℕ
model_of lines = λ model. model_or model lines

abbrev model_step : LineKind → TextLine → List TextLine → (List ℕ → List ℕ) → List ℕ → List ℕ
model_step kind line lines later = λ model. later (model_at model kind line)

model_of_others : IsOfOthers model_of model_step
model_of_others = record { is = λ line lines. refl; passed = λ line lines later. refl; same = same }
  where
    same : (kind : LineKind) (line : TextLine) (lines : List TextLine) (later : List ℕ → List ℕ)
        → model_step kind line lines later ≡ model_step kind (as_other line.words) (bare_of lines) later
    same PlanLine line lines later = refl
    same Model line lines later = refl
    same Inputs line lines later = refl
    same Outputs line lines later = refl
    same Names line lines later = refl
    same Latch line lines later = refl
    same OtherDirective line lines later = refl
    same Row line lines later = refl

-- ---- the netlist

abbrev parts : List ℕ → List (List ℕ) → List (List ℕ) → List NamedLatch → List NamedNode → Named
parts model inputs outputs latches nodes = record { model = model; inputs = inputs; outputs = outputs; latches = latches; nodes = nodes }

pub same_text : (lines others : List TextLine) → other_words lines ≡ other_words others → named_text lines ≡ named_text others
same_text lines others e =
    let model : model_of lines ≡ model_of others = same_of_others model_of model_step model_of_others lines others e in
    let inputs = same_of_others inputs_of inputs_step inputs_of_others lines others e in
    let outputs = same_of_others outputs_of outputs_step outputs_of_others lines others e in
    let latches = same_of_others latches_of latches_step latches_of_others lines others e in
    let nodes = same_of_others nodes_of nodes_step nodes_of_others lines others e in
    ap₂ (λ f names. parts (f (codes "model")) names (outputs_of lines) (latches_of lines) (nodes_of lines)) model inputs
    ∙ ap₂ (λ names latches. parts (model_of others (codes "model")) (inputs_of others) names latches (nodes_of lines)) outputs latches
    ∙ ap (parts (model_of others (codes "model")) (inputs_of others) (outputs_of others) (latches_of others)) nodes

pub plan_lines_change_no_netlist : PlanLinesChangeNoNetlist
plan_lines_change_no_netlist lines others e = ap netlist_of (same_text lines others e)
