-- A text tells the twin of a netlist that a text tells: its names are words, and no node is without rows but for one that a text tells.
use Rattle.std.proofs.Common.{◌≡◌, ℕ, zero, suc, ◌+◌, ◌-◌, ◌^◌, ◌<◌, ◌≤◌, Bool, true, false, if◌then◌else◌, List, [], ◌∷◌, ◌++◌, map, take, length, slice_index, All, Option, refl, arith, length-append, get_or}
use Rattle.std.specs.Fmt.{decimal}
use Rattle.std.specs.List.{list_all, range_with_len}
use Rattle.std.specs.Str.Parse.{AllDigits}
use Rattle.std.proofs.lemmas.Bool.{and_from}
use Rattle.std.proofs.lemmas.Fmt.{decimal_is_IsNumeral, length-decimal-le}
use Rattle.std.proofs.lemmas.List.Elements.{All-nil, All-cons, All-append, All-take, All-from_get_or, All-get_or, All-map}
use Rattle.std.proofs.lemmas.List.FromFn.{get_or-range_with_len, length-range_with_len}
use Rattle.std.proofs.lemmas.Str.Parse.{digit_from_value}
use Rattle.tsc_text.proofs.Written.{list_all-append}
use Rattle.fault_secure.specs.Circuit.{Circuit, NodeOf, gate as node_over, latch_net, no_node, node, node_net, nets}
use Rattle.tsc_net.specs.Names.{text_at}
use Rattle.tsc_net.specs.NetlistOf.{NetlistOf, IsBuilt}
use Rattle.tsc_net.specs.Parts.{fresh_prefix, fresh_text, free_number, free_number_from, is_taken}
use Rattle.tsc_cover.specs.Gates.{xor_cover}
use Rattle.parity_code.specs.GroupChecks.{group_checks}
use Rattle.parity_code.specs.ParityCircuit.{chain_nodes, parity_nodes}
use Rattle.parity_code.specs.ParityFunction.{outputs_at}
use Rattle.parity_synth.specs.CheckedNet.{cover_names}
use Rattle.code_checkers.specs.declared.gate.CheckGate.{CheckGate}
use Rattle.code_checkers.specs.declared.gate.CheckGate.TheVariants as gate
use Rattle.code_checkers.specs.CheckerNodes.{checker_gates, checker_nets, checker_nodes, gate_node, gate_nodes}
use Rattle.blif_read.specs.declared.clocks.Clock.{Clock}
use Rattle.blif_write.specs.Told.{IsWordName, IsToldNode, IsTellable}
use Rattle.blif_write.proofs.NameBytes.{is_name_byte, name_good}
use Rattle.register_laws.specs.Twin.{renamed}
use Rattle.register_synth.specs.Kept.{AreKept, kept_net, kept_part}
use Rattle.register_synth.specs.TwinNet.{own_net, copied_net, twin_checks, twin_covers, widened}
use Rattle.register_synth.specs.TwinCircuit.{showing, twin_logic, twin_next, twin_word, watched_groups, watched_word}
use Rattle.twin_synth.specs.Pushed.{control_words, fresh_from, fresh_number}
use Rattle.twin_synth.specs.TwinNetlist.{control_of, register_names, twin_names, twin_netlist}
use Rattle.twin_synth.proofs.TwinNames.{control_few, fresh_few}

-- ---- the names

-- a digit may stand in a name
digit_byte : (b : ℕ) → 48 ≤ b → b ≤ 57 → is_name_byte b ≡ true
digit_byte b low high = grind arith

digit_bytes : (digits : List ℕ) → AllDigits 10 digits → list_all is_name_byte digits ≡ true
digit_bytes [] h = refl
digit_bytes (b ∷ digits) h =
    let range = digit_from_value b h.0 in
    and_from (is_name_byte b) (list_all is_name_byte digits) (digit_byte b (omega (arith, range)) (omega (arith, range))) (digit_bytes digits h.1)

decimal_bytes : (n : ℕ) → n < 2 ^ 64 → list_all is_name_byte (decimal n) ≡ true
decimal_bytes n small = digit_bytes (decimal n) (decimal_is_IsNumeral n small).0.1

-- a number below 2 ^ 64 has at most 20 digits
decimal_short : (n : ℕ) → n < 2 ^ 64 → length (decimal n) ≤ 20
decimal_short n small = length-decimal-le 20 n (omega arith) (omega arith) small

-- a fresh name is a word
pub fresh_word : (number count : ℕ) → number < 2 ^ 64 → count < 2 ^ 64 → IsWordName (fresh_text number count)
fresh_word number count low small = (let good = name_good (fresh_text number count) some short bytes in record { word = good.word; allowed = good.allowed })
  where
    long : length (fresh_text number count) ≡ length (decimal number) + 2 + length (decimal count)
    long = omega (arith, length-append (fresh_prefix number) (decimal count), length-append (116 ∷ decimal number) (95 ∷ []))

    some : 1 ≤ length (fresh_text number count)
    some = omega (arith, long)

    short : length (fresh_text number count) ≤ 255
    short = omega (arith, long, decimal_short number low, decimal_short count small)

    prefix : list_all is_name_byte (fresh_prefix number) ≡ true
    prefix = list_all-append is_name_byte (116 ∷ decimal number) (95 ∷ []) (and_from (is_name_byte 116) (list_all is_name_byte (decimal number)) refl (decimal_bytes number low)) refl

    bytes : list_all is_name_byte (fresh_text number count) ≡ true
    bytes = list_all-append is_name_byte (fresh_prefix number) (decimal count) prefix (decimal_bytes count small)

-- and so are some of them, one after another
pub all_fresh_words : (number first count : ℕ) → number < 2 ^ 64 → first + count ≤ 2 ^ 64 → All IsWordName (fresh_from number first count)
all_fresh_words number first count low few =
    All-map IsWordName (fresh_text number) (range_with_len first count)
    (All-from_get_or (λ k. IsWordName (fresh_text number k)) (range_with_len first count) 0 (λ k h.
    let counted = length-range_with_len first count in
    let at : get_or (range_with_len first count) k 0 ≡ first + k = get_or-range_with_len first count k 0 (omega (arith, h, counted)) in
    fresh_word number (get_or (range_with_len first count) k 0) low (omega (arith, h, counted, at, few))))

-- the search for the number of the fresh names goes on as often as it may
free_from : (names : List (List ℕ)) (tries number : ℕ) → free_number_from names tries number ≤ number + tries
free_from names zero number = omega arith
free_from names (suc tries) number = by (is_taken names number) (free_from names tries (number + 1))
  where
    by : (b : Bool) → free_number_from names tries (number + 1) ≤ number + 1 + tries
        → (if b then free_number_from names tries (number + 1) else number) ≤ number + suc tries
    by true rest = omega (arith, rest)
    by false rest = omega arith

-- so it is small
pub number_small : (S : NetlistOf) (clock : Option Clock) → IsBuilt S → fresh_number S (control_of clock) < 2 ^ 64
number_small S clock checked =
    let most : free_number (S.names ++ control_words (control_of clock)) ≤ 0 + length (S.names ++ control_words (control_of clock)) = free_from (S.names ++ control_words (control_of clock)) (length (S.names ++ control_words (control_of clock))) 0 in
    let sized = checked.sized in
    let few = checked.few in
    omega (arith, most, length-append S.names (control_words (control_of clock)), control_few clock, sized, few)

module _ (S : NetlistOf) (clock : Option Clock) (registers covers : List ℕ) (checked : IsBuilt S) (told : IsTellable S) (kept : AreKept S.circuit registers covers) where
  -- the name of a net is a word
  word_at : (net : ℕ) → net < length S.names → IsWordName (text_at S.names net)
  word_at net h = All-get_or IsWordName S.names net [] h told.names

  registers_words : All IsWordName (register_names S registers)
  registers_words =
      All-map IsWordName (λ l. text_at S.names (latch_net S.circuit l)) registers
      (All-from_get_or (λ l. IsWordName (text_at S.names (latch_net S.circuit l))) registers 0 (λ k h.
      let low : slice_index registers k < length S.circuit.latches = (kept.each_register.sound k h).0 in
      let sized = checked.sized in
      word_at (latch_net S.circuit (slice_index registers k)) (omega (arith, low, sized))))

  covers_words : All IsWordName (cover_names S covers)
  covers_words =
      All-map IsWordName (λ j. text_at S.names (node_net S.circuit j)) covers
      (All-from_get_or (λ j. IsWordName (text_at S.names (node_net S.circuit j))) covers 0 (λ k h.
      let low : slice_index covers k < length S.circuit.nodes = (kept.each_cover.sound k h).0 in
      let sized = checked.sized in
      word_at (node_net S.circuit (slice_index covers k)) (omega (arith, low, sized))))

  -- the names of a twin are words
  pub names_words : (more : ℕ) → length registers + more ≤ 2 ^ 64 → All IsWordName (twin_names S clock registers covers more)
  names_words more few =
      let number = fresh_number S (control_of clock) in
      let small = number_small S clock checked in
      All-append IsWordName (take S.circuit.inputs S.names ++ register_names S registers ++ fresh_from (fresh_number S (control_of clock)) 0 (length registers))
      (cover_names S covers ++ fresh_from (fresh_number S (control_of clock)) (length registers) more)
      (All-append IsWordName (take S.circuit.inputs S.names ++ register_names S registers) (fresh_from (fresh_number S (control_of clock)) 0 (length registers))
      (All-append IsWordName (take S.circuit.inputs S.names) (register_names S registers) (All-take IsWordName S.circuit.inputs S.names told.names) registers_words)
      (all_fresh_words number 0 (length registers) small (omega (arith, few))))
      (All-append IsWordName (cover_names S covers) (fresh_from (fresh_number S (control_of clock)) (length registers) more) covers_words
      (all_fresh_words number (length registers) more small few))

-- ---- the nodes

-- a node with its pins renamed is told where it is
told_renamed : (net : ℕ → ℕ) (nodes : List NodeOf) → All IsToldNode nodes → All IsToldNode (map (renamed net) nodes)
told_renamed net nodes all = All-map IsToldNode (renamed net) nodes all

-- gates have rows
chain_told : (inputs from made : ℕ) (ns : List ℕ) → All IsToldNode (chain_nodes inputs from made ns)
chain_told inputs from made [] = All-nil IsToldNode
chain_told inputs from made (n ∷ ns) =
    All-cons IsToldNode (node_over xor_cover (made ∷ (n ∷ []))) (chain_nodes inputs (suc from) (inputs + from) ns) (λ e. refl) (chain_told inputs (suc from) (inputs + from) ns)

parity_told : (inputs from : ℕ) (ns : List ℕ) → All IsToldNode (parity_nodes inputs from ns)
parity_told inputs from [] = All-nil IsToldNode
parity_told inputs from (n ∷ ns) =
    All-append IsToldNode (chain_nodes inputs from n ns) _ (chain_told inputs from n ns) (All-cons IsToldNode _ [] (λ e. refl) (All-nil IsToldNode))

checks_told : (C : Circuit) (net : ℕ → ℕ) (groups : List (List ℕ)) (from : ℕ) → All IsToldNode (group_checks C net groups from)
checks_told C net [] from = All-nil IsToldNode
checks_told C net (group ∷ groups) from =
    All-append IsToldNode (parity_nodes C.inputs from (map net (outputs_at C group))) (group_checks C net groups (from + length group))
    (parity_told C.inputs from (map net (outputs_at C group))) (checks_told C net groups (from + length group))

gate_told : (ns : List ℕ) (g : CheckGate) → All IsToldNode (gate_node ns g)
gate_told ns (gate.Word place) = All-nil IsToldNode
gate_told ns (gate.Buf a) = All-cons IsToldNode _ [] (λ e. refl) (All-nil IsToldNode)
gate_told ns (gate.Not a) = All-cons IsToldNode _ [] (λ e. refl) (All-nil IsToldNode)
gate_told ns (gate.And a b) = All-cons IsToldNode _ [] (λ e. refl) (All-nil IsToldNode)
gate_told ns (gate.Or a b) = All-cons IsToldNode _ [] (λ e. refl) (All-nil IsToldNode)
gate_told ns (gate.Xor a b) = All-cons IsToldNode _ [] (λ e. refl) (All-nil IsToldNode)

gates_told : (ns : List ℕ) (gates : List CheckGate) → All IsToldNode (gate_nodes ns gates)
gates_told ns [] = All-nil IsToldNode
gates_told ns (g ∷ gates) = All-append IsToldNode (gate_node ns g) (gate_nodes ns gates) (gate_told ns g) (gates_told ns gates)

-- the covers that are kept are those of the source
kept_told : (C : Circuit) (registers covers : List ℕ) → All IsToldNode C.nodes → AreKept C registers covers → All IsToldNode (kept_part C registers covers).nodes
kept_told C registers covers told kept =
    All-map IsToldNode (λ j. renamed (kept_net C registers covers) (node C j)) covers
    (All-from_get_or (λ j. IsToldNode (renamed (kept_net C registers covers) (node C j))) covers 0 (λ k h.
    All-get_or IsToldNode C.nodes (slice_index covers k) no_node (kept.each_cover.sound k h).0 told))

-- a text tells each node of a twin
pub nodes_told : (C : Circuit) (registers covers : List ℕ) (groups : List (List ℕ)) (watched : ℕ) → All IsToldNode C.nodes → AreKept C registers covers
    → All IsToldNode (twin_logic watched (kept_part C registers covers) groups
    ++ checker_nodes (watched_word watched (kept_part C registers covers) groups) (twin_word watched (kept_part C registers covers) groups) (twin_next watched (kept_part C registers covers) groups))
nodes_told C registers covers groups watched told kept =
    let T = kept_part C registers covers in
    let part = kept_told C registers covers told kept in
    let P = watched_word watched (kept_part C registers covers) groups in
    let checker = checker_nodes P (twin_word watched T groups) (twin_next watched T groups) in
    let checks = twin_checks (showing watched T) (watched_groups watched T groups) in
    All-append IsToldNode (twin_logic watched T groups) checker
    (All-append IsToldNode (twin_covers T) checks
    (All-append IsToldNode (map (renamed (own_net T)) T.nodes) (map (renamed (copied_net T)) T.nodes) (told_renamed (own_net T) T.nodes part) (told_renamed (copied_net T) T.nodes part))
    (checks_told (widened (showing watched T)) (copied_net (showing watched T)) (watched_groups watched T groups) (length T.nodes + length T.nodes)))
    (gates_told (checker_nets P (twin_word watched T groups) (twin_next watched T groups)) (checker_gates P))

-- a text tells the twin of a netlist that a text tells
pub twin_is_tellable : (S : NetlistOf) (clock : Option Clock) (registers covers : List ℕ) (groups : List (List ℕ)) (watched : ℕ) → IsBuilt S → IsTellable S
    → AreKept S.circuit registers covers → nets (twin_netlist S clock registers covers groups watched).circuit < 2 ^ 32
    → IsTellable (twin_netlist S clock registers covers groups watched)
twin_is_tellable S clock registers covers groups watched checked told kept low =
    let N = twin_netlist S clock registers covers groups watched in
    record {
      model = told.model;
      names = names_words S clock registers covers checked told kept (length N.circuit.nodes - length covers) (fresh_few S clock registers covers groups watched low);
      each_node = nodes_told S.circuit registers covers groups watched told.each_node kept;
    }
