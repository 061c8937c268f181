-- Nodes that are added one output after the other.
use Rattle.std.proofs.Common.{◌≡◌, ℕ, ◌+◌, ◌<◌, List, [], ◌∷◌, ◌++◌, length, get_or, sym, ap, ap₂, ◌∙◌, arith, append_assoc}
use Rattle.std.proofs.lemmas.List.{get_or-map}
use Rattle.std.proofs.lemmas.List.FromFn.{map-range_with_len_more}
use Rattle.tsc_cover.specs.Cover.{CoverTable}
use Rattle.tsc_net.specs.Named.{NamedNode}
use Rattle.tsc_net.specs.Names.{text_at}
use Rattle.tsc_net.specs.Parts.{with_node, PartsOf}
use Rattle.tsc_net.specs.PartsView.{text_of, texts_of}
use Rattle.tsc_net.specs.declared.ids.Name.{Name}
use Rattle.pla_read.specs.TableText.{TableOf}
use Rattle.pla_read.specs.Covers.{rows_cover}
use Rattle.pla_read.specs.FreeParts.{and_not_cover, gate_node, gate_nodes, rows_node, rows_nodes, with_nodes}
use Rattle.pla_read.specs.declared.table.Chosen.{Chosen}

abbrev with_list : PartsOf → List NamedNode → PartsOf
with_list p nodes = let N = p.named in record p { named = record N { nodes = nodes } }

-- one node more
pub node_more : (p q r : PartsOf) (nodes all : List NamedNode) (node : NamedNode) → q ≡ with_nodes p nodes → r ≡ with_node q node.reads node.out node.cover → all ≡ nodes ++ node ∷ []
    → r ≡ with_nodes p all
node_more p q r nodes all node is more whole =
    more ∙ ap (λ (s : PartsOf). with_node s node.reads node.out node.cover) is
    ∙ ap (with_list p) (append_assoc p.named.nodes nodes (node ∷ []) ∙ ap (λ list. p.named.nodes ++ list) (sym whole))

-- what such parts keep
pub kept_names : (p q : PartsOf) (nodes : List NamedNode) → q ≡ with_nodes p nodes → q.names ≡ p.names
kept_names p q nodes is = ap (λ (s : PartsOf). s.names) is

pub kept_inputs : (p q : PartsOf) (nodes : List NamedNode) → q ≡ with_nodes p nodes → q.named.inputs ≡ p.named.inputs
kept_inputs p q nodes is = ap (λ (s : PartsOf). s.named.inputs) is

-- the text of a name of a list
pub text_in : (names : List (List ℕ)) (list : List Name) (place : ℕ) (name d : Name) → place < length list → name ≡ get_or list place d
    → text_of names name ≡ text_at (texts_of names list) place
text_in names list place name d below is = ap (text_of names) is ∙ sym (get_or-map (text_of names) list place d [] below)

pub rows_more : (p q r : PartsOf) (outs : List Name) (chosen : Chosen) (table : TableOf) (place : ℕ) (out d : Name) (cover : CoverTable)
    → q ≡ with_nodes p (rows_nodes p.named.inputs (texts_of p.names outs) chosen table place) → place < length outs → out ≡ get_or outs place d
    → cover ≡ rows_cover chosen table place → r ≡ with_node q q.named.inputs (text_of q.names out) cover
    → r ≡ with_nodes p (rows_nodes p.named.inputs (texts_of p.names outs) chosen table (place + 1))
rows_more p q r outs chosen table place out d cover is below at of more =
    let nodes = rows_nodes p.named.inputs (texts_of p.names outs) chosen table place in
    let node = rows_node p.named.inputs (texts_of p.names outs) chosen table place in
    node_more p q r nodes (rows_nodes p.named.inputs (texts_of p.names outs) chosen table (place + 1)) node is
    (more ∙ ap (with_node q q.named.inputs (text_of q.names out)) of
    ∙ ap₂ (λ reads text. with_node q reads text (rows_cover chosen table place)) (kept_inputs p q nodes is)
    (ap (λ names. text_of names out) (kept_names p q nodes is) ∙ text_in p.names outs place out d below at))
    (map-range_with_len_more (rows_node p.named.inputs (texts_of p.names outs) chosen table) 0 place place (omega arith))

pub gates_more : (p q r : PartsOf) (lefts barred outs : List Name) (place : ℕ) (left bar out d e f : Name)
    → q ≡ with_nodes p (gate_nodes (texts_of p.names outs) (texts_of p.names lefts) (texts_of p.names barred) place)
    → place < length outs → length lefts ≡ length outs → length barred ≡ length outs
    → left ≡ get_or lefts place d → bar ≡ get_or barred place e → out ≡ get_or outs place f
    → r ≡ with_node q (text_of q.names left ∷ text_of q.names bar ∷ []) (text_of q.names out) and_not_cover
    → r ≡ with_nodes p (gate_nodes (texts_of p.names outs) (texts_of p.names lefts) (texts_of p.names barred) (place + 1))
gates_more p q r lefts barred outs place left bar out d e f is below lefts_many barred_many left_is bar_is out_is more =
    let nodes = gate_nodes (texts_of p.names outs) (texts_of p.names lefts) (texts_of p.names barred) place in
    let node = gate_node (texts_of p.names outs) (texts_of p.names lefts) (texts_of p.names barred) place in
    let names = kept_names p q nodes is in
    let text : (list : List Name) (name d : Name) → place < length list → name ≡ get_or list place d → text_of q.names name ≡ text_at (texts_of p.names list) place
    = λ list name d inside at. ap (λ n. text_of n name) names ∙ text_in p.names list place name d inside at in
    node_more p q r nodes (gate_nodes (texts_of p.names outs) (texts_of p.names lefts) (texts_of p.names barred) (place + 1)) node is
    (more ∙ ap₂ (λ reads text. with_node q reads text and_not_cover)
    (ap₂ (λ a b. a ∷ b ∷ []) (text lefts left d (omega (arith, below, lefts_many)) left_is) (text barred bar e (omega (arith, below, barred_many)) bar_is))
    (text outs out f below out_is))
    (map-range_with_len_more (gate_node (texts_of p.names outs) (texts_of p.names lefts) (texts_of p.names barred)) 0 place place (omega arith))
