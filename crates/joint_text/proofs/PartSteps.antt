-- The steps of the loops over the latches and the nodes of a part, over its pins, and over the parts.
use Rattle.std.proofs.Common.{◌≡◌, ℕ, zero, suc, ◌+◌, ◌<◌, Bool, List, [], ◌∷◌, ◌++◌, map, drop, length, None, Some, slice_get, get_or, refl, sym, ap, subst, ◌∙◌, arith}
use Rattle.std.specs.List.{flat_map, range_with_len}
use Rattle.std.proofs.lemmas.List.{drop_more, length-map, map-append}
use Rattle.std.proofs.lemmas.List.Concat.{flat_map-append}
use Rattle.std.proofs.lemmas.List.FromFn.{get_or-map-range_with_len, length-map-range_with_len}
use Rattle.std.proofs.lemmas.Option.{slice_get_within, get_or_from_slice_get}
use Rattle.tsc_cover.specs.Cover.{Literal, literal_at, literals}
use Rattle.tsc_cover.specs.Row.{literals_of_each}
use Rattle.tsc_cover.specs.Text.{character_of, text_of_literals}
use Rattle.tsc_cover.specs.declared.rows.Row01.{Row01}
use Rattle.tsc_cover.proofs.Row.{length-literals}
use Rattle.tsc_cover.proofs.Text.{length-text_of_literals}
use Rattle.fault_secure.specs.Circuit.{LatchOf, NodeOf, no_latch, no_node}
use Rattle.tsc_net.specs.Names.{text_at}
use Rattle.tsc_net.specs.PlanView.{net_numbers}
use Rattle.tsc_net.specs.declared.ids.NetId.{NetId}
use Rattle.tsc_net.specs.NetlistOf.{NetlistOf, names_of, named_latches, named_nodes, named_of}
use Rattle.tsc_text.specs.Written.{line_text, text_of}
use Rattle.blif_write.specs.Layout.{clocked_latch_line, node_lines, row_line}
use Rattle.blif_write.specs.NetLines.{named_latch, named_node}
use Rattle.module_join.specs.declared.part.Part.{Part}
use Rattle.module_join.specs.JoinParts.{planned_as, parts_as}
use Rattle.module_join.specs.JoinLaws.{IsPlanned, ArePlanned}
use Rattle.joint_text.specs.JointNamed.{part_label, under, latches_under, nodes_under, labels_of, prefix_of}
use Rattle.joint_text.specs.LineWords.{spaced}
use Rattle.joint_text.specs.Portions.{latches_text, nodes_text}
use Rattle.code_checkers.proofs.Loops.{drop_at}
use Rattle.joint_text.proofs.LineTexts.{text_of-append}

-- what is left of a list begins with the item at hand
pub one_more : {X : Type 0} (xs : List X) (place : ℕ) (x : X) → slice_get xs place ≡ Some x → drop place xs ≡ x ∷ drop (place + 1) xs
one_more xs place x found =
    drop_more xs place x (slice_get_within xs place x found) ∙ ap (λ y. y ∷ drop (place + 1) xs) (get_or_from_slice_get xs place x x found)

-- the lines of the latches from one on: its own, and those of the others
pub latch_step : (clock : List (List ℕ)) (net : NetlistOf) (place : ℕ) → place < length net.circuit.latches
    → text_of (map (clocked_latch_line clock) (named_latches net.names (net.circuit.inputs + place) (drop place net.circuit.latches)))
    ≡ line_text (clocked_latch_line clock (named_latch net place)) ++ text_of (map (clocked_latch_line clock) (named_latches net.names (net.circuit.inputs + (place + 1)) (drop (place + 1) net.circuit.latches)))
latch_step clock net place within =
    let next : net.circuit.inputs + place + 1 ≡ net.circuit.inputs + (place + 1) = omega arith in
    ap (λ (ls : List LatchOf). text_of (map (clocked_latch_line clock) (named_latches net.names (net.circuit.inputs + place) ls))) (drop_more net.circuit.latches place no_latch within)
    ∙ ap (λ at. line_text (clocked_latch_line clock (named_latch net place)) ++ text_of (map (clocked_latch_line clock) (named_latches net.names at (drop (place + 1) net.circuit.latches)))) next

pub latches_begin : (clock : List (List ℕ)) (net : NetlistOf)
    → text_of (map (clocked_latch_line clock) (named_latches net.names (net.circuit.inputs + 0) (drop 0 net.circuit.latches))) ≡ text_of (map (clocked_latch_line clock) (named_of net).latches)
latches_begin clock net = let at : net.circuit.inputs + 0 ≡ net.circuit.inputs = omega arith in
    ap (λ n. text_of (map (clocked_latch_line clock) (named_latches net.names n net.circuit.latches))) at

-- the lines of the nodes from one on
pub node_step : (net : NetlistOf) (place : ℕ) → place < length net.circuit.nodes
    → text_of (flat_map node_lines (named_nodes net.names (net.circuit.inputs + length net.circuit.latches + place) (drop place net.circuit.nodes)))
    ≡ text_of (node_lines (named_node net place))
    ++ text_of (flat_map node_lines (named_nodes net.names (net.circuit.inputs + length net.circuit.latches + (place + 1)) (drop (place + 1) net.circuit.nodes)))
node_step net place within =
    let base = net.circuit.inputs + length net.circuit.latches in
    let next : net.circuit.inputs + length net.circuit.latches + place + 1 ≡ net.circuit.inputs + length net.circuit.latches + (place + 1) = omega arith in
    ap (λ (ns : List NodeOf). text_of (flat_map node_lines (named_nodes net.names (base + place) ns))) (drop_more net.circuit.nodes place no_node within)
    ∙ text_of-append (node_lines (named_node net place)) (flat_map node_lines (named_nodes net.names (base + place + 1) (drop (place + 1) net.circuit.nodes)))
    ∙ ap (λ at. text_of (node_lines (named_node net place)) ++ text_of (flat_map node_lines (named_nodes net.names at (drop (place + 1) net.circuit.nodes)))) next

pub nodes_begin : (net : NetlistOf)
    → text_of (flat_map node_lines (named_nodes net.names (net.circuit.inputs + length net.circuit.latches + 0) (drop 0 net.circuit.nodes))) ≡ text_of (flat_map node_lines (named_of net).nodes)
nodes_begin net = let at : net.circuit.inputs + length net.circuit.latches + 0 ≡ net.circuit.inputs + length net.circuit.latches = omega arith in
    ap (λ n. text_of (flat_map node_lines (named_nodes net.names n net.circuit.nodes))) at

-- ---- part by part

-- the label at a place is that of the part
pub label_is : (prefix : List ℕ) (count place : ℕ) (labels : List (List ℕ)) (label : List ℕ) → labels ≡ map (part_label prefix) (range_with_len 0 count) → place < count
    → slice_get labels place ≡ Some label → label ≡ part_label prefix place
label_is prefix count place labels label is within found =
    sym (get_or_from_slice_get labels place label [] found)
    ∙ ap (λ (l : List (List ℕ)). get_or l place []) is
    ∙ get_or-map-range_with_len (part_label prefix) 0 count place place [] within (omega arith)

pub labels_long : (parts : List Part) (labels : List (List ℕ)) → labels ≡ labels_of (parts_as parts) → length labels ≡ length parts
labels_long parts labels is =
    ap length is ∙ length-map-range_with_len (part_label (prefix_of (parts_as parts))) 0 (length (parts_as parts)) ∙ length-map parts planned_as

pub label_at : (parts : List Part) (labels : List (List ℕ)) (place : ℕ) (got label : List ℕ) → labels ≡ labels_of (parts_as parts) → place < length parts
    → slice_get labels place ≡ Some got → label ≡ got → label ≡ part_label (prefix_of (parts_as parts)) place
label_at parts labels place got label is within found same =
    same ∙ label_is (prefix_of (parts_as parts)) (length (parts_as parts)) place labels got is (omega (arith, length-map parts planned_as)) found

-- a part has a plan of it
pub planned_there : (parts : List Part) (place : ℕ) (p : Part) → ArePlanned (parts_as parts) → slice_get parts place ≡ Some p → IsPlanned (planned_as p)
planned_there [] place p are found = absurd (none found)
  where
    none : None ≡ Some p → ⊥
    none e = cc
planned_there (q ∷ parts) zero p are found = let same : q ≡ p = cc in subst (λ (r : Part). IsPlanned (planned_as r)) same are.0
planned_there (q ∷ parts) (suc place) p are found = planned_there parts place p are.1 found

-- what is left of the parts
pub part_more : (parts : List Part) (place : ℕ) (p : Part) → slice_get parts place ≡ Some p
    → parts_as (drop place parts) ≡ planned_as p ∷ parts_as (drop (place + 1) parts)
part_more parts place p found = ap parts_as (one_more parts place p found)

pub latches_step : (clock : List (List ℕ)) (prefix label : List ℕ) (parts : List Part) (place : ℕ) (p : Part) → slice_get parts place ≡ Some p → label ≡ part_label prefix place
    → latches_text clock prefix place (parts_as (drop place parts))
    ≡ text_of (map (clocked_latch_line clock) (named_of (under label p.net)).latches) ++ latches_text clock prefix (place + 1) (parts_as (drop (place + 1) parts))
latches_step clock prefix label parts place p found is =
    let rest = latches_under prefix (place + 1) (parts_as (drop (place + 1) parts)) in
    ap (latches_text clock prefix place) (part_more parts place p found)
    ∙ ap text_of (map-append (clocked_latch_line clock) (named_of (under (part_label prefix place) p.net)).latches rest)
    ∙ text_of-append (map (clocked_latch_line clock) (named_of (under (part_label prefix place) p.net)).latches) (map (clocked_latch_line clock) rest)
    ∙ ap (λ l. text_of (map (clocked_latch_line clock) (named_of (under l p.net)).latches) ++ text_of (map (clocked_latch_line clock) rest)) (sym is)

pub nodes_step : (prefix label : List ℕ) (parts : List Part) (place : ℕ) (p : Part) → slice_get parts place ≡ Some p → label ≡ part_label prefix place
    → nodes_text prefix place (parts_as (drop place parts))
    ≡ text_of (flat_map node_lines (named_of (under label p.net)).nodes) ++ nodes_text prefix (place + 1) (parts_as (drop (place + 1) parts))
nodes_step prefix label parts place p found is =
    let rest = nodes_under prefix (place + 1) (parts_as (drop (place + 1) parts)) in
    ap (nodes_text prefix place) (part_more parts place p found)
    ∙ ap text_of (flat_map-append node_lines (named_of (under (part_label prefix place) p.net)).nodes rest)
    ∙ text_of-append (flat_map node_lines (named_of (under (part_label prefix place) p.net)).nodes) (flat_map node_lines rest)
    ∙ ap (λ l. text_of (flat_map node_lines (named_of (under l p.net)).nodes) ++ text_of (flat_map node_lines rest)) (sym is)

-- ---- rows, pins and nets

pub row_step : (rows : List Row01) (i : ℕ) (d : Row01) (width : ℕ) (on : Bool) → i < length rows
    → text_of (map (row_line on) (literals_of_each width (drop i rows)))
    ≡ line_text (row_line on (literals width (get_or rows i d).care (get_or rows i d).value)) ++ text_of (map (row_line on) (literals_of_each width (drop (i + 1) rows)))
row_step rows i d width on h = ap (λ (rs : List Row01). text_of (map (row_line on) (literals_of_each width rs))) (drop_more rows i d h)

character_at : (row : List Literal) (pin : ℕ) → pin < length row → get_or (text_of_literals row) pin 0 ≡ character_of (literal_at row pin)
character_at [] pin h = absurd (omega arith)
character_at (l ∷ row) zero h = refl
character_at (l ∷ row) (suc pin) h = character_at row pin (omega arith)

pub pin_step : (width care value pin character : ℕ) → pin < width → character ≡ character_of (literal_at (literals width care value) pin)
    → drop pin (text_of_literals (literals width care value)) ≡ (character ∷ []) ++ drop (pin + 1) (text_of_literals (literals width care value))
pin_step width care value pin character h is =
    let row = literals width care value in
    let wide : length (literals width care value) ≡ width = length-literals width care value in
    drop_at (text_of_literals row) pin 0 character (omega (arith, length-text_of_literals row)) (is ∙ sym (character_at row pin (omega arith)))

pub read_step : (names : List (List ℕ)) (list : List NetId) (i : ℕ) (d : NetId) → i < length list
    → spaced (names_of names (net_numbers (drop i list))) ≡ (32 ∷ text_at names (get_or list i d).number) ++ spaced (names_of names (net_numbers (drop (i + 1) list)))
read_step names list i d h = ap (λ (ids : List NetId). spaced (names_of names (net_numbers ids))) (drop_more list i d h)
