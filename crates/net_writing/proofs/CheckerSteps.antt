-- The steps of writing a checker: a node, a gate, and one gate more.
use Rattle.std.proofs.Common.{◌≡◌, ℕ, ◌+◌, ◌<◌, ◌==◌, Bool, true, false, if◌then◌else◌, List, [], ◌∷◌, ◌++◌, map, drop, length, slice_index_or, All, Option, Some, None, IfSome, refl, sym, ◌∙◌, ap, ap₂, subst}
use Rattle.std.specs.Option.{option_map}
use Rattle.std.proofs.lemmas.List.{drop_more, length-map, map-append, get_or-map, get_or_default}
use Rattle.std.proofs.lemmas.Simd.{map-map}
use Rattle.std.proofs.lemmas.List.Elements.{All-nil, All-cons, All-same, All-map, All-weaker, All-get_or}
use Rattle.tsc_bits.proofs.Lists.{map_agrees}
use Rattle.tsc_cover.specs.Cover.{CoverTable}
use Rattle.tsc_net.specs.Names.{text_at}
use Rattle.tsc_net.specs.Parts.{PartsOf, with_node}
use Rattle.tsc_net.specs.PartsView.{text_of, texts_of, IsName}
use Rattle.tsc_net.specs.declared.ids.Name.{Name}
use Rattle.code_checkers.specs.declared.gate.CheckGate.{CheckGate}
use Rattle.code_checkers.specs.declared.gate.CheckGate.TheVariants as gate
use Rattle.code_checkers.specs.Gates.{ReadsBelow as ReadsGatesBelow}
use Rattle.code_checkers.specs.declared.word_sizes.WordSizes.{WordSizes}
use Rattle.code_checkers.specs.GateList.{GateList, IsCheckerOf, IsWordChecker}
use Rattle.code_checkers.specs.SizedWords.{HasPlan}
use Rattle.code_checkers.specs.Nodes.{cover_of, reads_of}
use Rattle.code_checkers.proofs.Within.{reads_word}
use Rattle.code_checkers.proofs.SizedWords.{checker_of}
use Rattle.net_writing.specs.Names.{name_at, Keeps}
use Rattle.net_writing.specs.CheckerParts.{GateParts, gate_parts, out_text, with_out, with_gate, with_gate_node, with_gates, with_checker, given_name, given_text, ReadsBelow, IsOver, IsCheckerOver, AreRailNames}
use Rattle.net_writing.specs.declared.checker_writing.RailNames.{RailNames}
use Rattle.net_writing.proofs.NamesKept.{keeps_not, keeps_push, names_stay, texts_stay, some_text_stays}

-- the name that a node drives
pub out_keeps : (p q : PartsOf) (given : Option (List ℕ)) → q ≡ with_out p given → Keeps p.names q.names
out_keeps p q None is = subst (λ (r : PartsOf). Keeps p.names r.names) (sym is) (keeps_push p.names (out_text p None))
out_keeps p q (Some text) is = subst (λ (r : PartsOf). Keeps p.names r.names) (sym is) (keeps_not p.names)

-- the places that it reads are below its own
module _ (n : ℕ) where
  one_below : (a : ℕ) → a < n → All (λ place. place < n) (a ∷ [])
  one_below a low = All-cons (λ place. place < n) a [] low (All-nil (λ place. place < n))

  two_below : (a b : ℕ) → a < n → b < n → All (λ place. place < n) (a ∷ (b ∷ []))
  two_below a b low lower = All-cons (λ place. place < n) a (b ∷ []) low (one_below b lower)

  pub reads_below : (g : CheckGate) → ReadsGatesBelow n g → All (λ place. place < n) (reads_of g)
  reads_below (gate.Word place) low = All-nil (λ place. place < n)
  reads_below (gate.Buf a) low = one_below a low
  reads_below (gate.Not a) low = one_below a low
  reads_below (gate.And a b) low = two_below a b low.0 low.1
  reads_below (gate.Or a b) low = two_below a b low.0 low.1
  reads_below (gate.Xor a b) low = two_below a b low.0 low.1

  -- and those of other gates than places of the word
  pub gates_below : (words : ℕ) (g : CheckGate) → ReadsBelow words n g → ReadsGatesBelow n g
  gates_below words (gate.Word place) low = tt
  gates_below words _ low = low

  -- a gate of a list over a word
  pub below_of : (words : ℕ) (g : CheckGate) → ((word : ℕ) → g ≡ gate.Word word → word < words) → ReadsGatesBelow n g → ReadsBelow words n g
  below_of words (gate.Word place) within low = within place refl
  below_of words _ within low = low

pub over_at : (words : ℕ) (made : GateList) (place : ℕ) (g : CheckGate) → IsOver words made → place < length made.gates → g ≡ slice_index_or made.gates place g → ReadsBelow words place g
over_at words made place g over there is =
    let at : g ≡ slice_index_or made.gates place (gate.Word 0) = is ∙ get_or_default made.gates place g (gate.Word 0) there in
    below_of place words g (λ word e. over.words_within place word there (sym at ∙ e)) (subst (ReadsGatesBelow place) (sym at) (over.ordered place there))

-- what a gate reads are names, also after the name that its node drives
pub reads_named : (p q : PartsOf) (given : Option (List ℕ)) (g : CheckGate) (names reads : List Name) → All (IsName p.names) names → ReadsGatesBelow (length names) g → reads ≡ map (name_at names) (reads_of g) → q ≡ with_out p given
    → All (IsName q.names) reads
reads_named p q given g names reads all below reads_are is =
    All-same (IsName q.names) reads (map (name_at names) (reads_of g)) reads_are
    (All-map (IsName q.names) (name_at names) (reads_of g) (All-weaker (λ place. place < length names) (λ place. IsName q.names (name_at names place)) each (reads_of g) (reads_below (length names) g below)))
  where
    each : (place : ℕ) → place < length names → IsName q.names (name_at names place)
    each place low = All-get_or (IsName q.names) names place (record { number = 0 }) low (names_stay p.names q.names (out_keeps p q given is) names all)

-- the names that a gate reads, by the texts of the names of gates
pub read_texts : (old new : List (List ℕ)) (names : List Name) (g : CheckGate) → Keeps old new → All (IsName old) names → ReadsGatesBelow (length names) g
    → texts_of new (map (name_at names) (reads_of g)) ≡ map (text_at (texts_of old names)) (reads_of g)
read_texts old new names g keeps all below =
    map-map (text_of new) (name_at names) (reads_of g)
    ∙ map_agrees (λ place. place < length names) (λ place. text_of new (name_at names place)) (text_at (texts_of old names)) each (reads_of g) (reads_below (length names) g below)
  where
    each : (place : ℕ) → place < length names → text_of new (name_at names place) ≡ text_at (texts_of old names) place
    each place low =
        let at : text_at (texts_of new names) place ≡ text_of new (name_at names place) = get_or-map (text_of new) names place (record { number = 0 }) [] low in
        sym at ∙ ap (λ (texts : List (List ℕ)). text_at texts place) (texts_stay old new keeps names all)

-- the node of a gate was added
pub node_added : (p q r : PartsOf) (given : Option (List ℕ)) (g : CheckGate) (names reads : List Name) (out : Name) (cover : CoverTable)
    → All (IsName p.names) names → ReadsGatesBelow (length names) g → reads ≡ map (name_at names) (reads_of g) → cover ≡ cover_of g
    → q ≡ with_out p given → text_of q.names out ≡ out_text p given → r ≡ with_node q (texts_of q.names reads) (text_of q.names out) cover
    → gate_parts r (names ++ out ∷ []) ≡ with_gate_node given g (gate_parts p names)
unfolding with_gate_node
node_added p q r given g names reads out cover all below reads_are cover_is out_is text is =
    ap₂ (λ (s : PartsOf) (texts : List (List ℕ)). let made : GateParts = record { parts = s; names = texts } in made) parts texts
  where
    keeps : Keeps p.names q.names
    keeps = out_keeps p q given out_is

    read : texts_of q.names reads ≡ map (text_at (texts_of p.names names)) (reads_of g)
    read = ap (texts_of q.names) reads_are ∙ read_texts p.names q.names names g keeps all below

    parts : r ≡ with_node (with_out p given) (map (text_at (texts_of p.names names)) (reads_of g)) (out_text p given) (cover_of g)
    parts =
        is ∙ ap (λ (list : List (List ℕ)). with_node q list (text_of q.names out) cover) read
        ∙ ap (λ (t : List ℕ). with_node q (map (text_at (texts_of p.names names)) (reads_of g)) t cover) text
        ∙ ap (λ (c : CoverTable). with_node q (map (text_at (texts_of p.names names)) (reads_of g)) (out_text p given) c) cover_is
        ∙ ap (λ (s : PartsOf). with_node s (map (text_at (texts_of p.names names)) (reads_of g)) (out_text p given) (cover_of g)) out_is

    same_names : r.names ≡ q.names
    same_names = ap (λ (s : PartsOf). s.names) is

    texts : texts_of r.names (names ++ out ∷ []) ≡ texts_of p.names names ++ out_text p given ∷ []
    texts =
        ap (λ (list : List (List ℕ)). texts_of list (names ++ out ∷ [])) same_names ∙ map-append (text_of q.names) names (out ∷ [])
        ∙ ap₂ (λ (list : List (List ℕ)) (t : List ℕ). list ++ t ∷ []) (texts_stay p.names q.names keeps names all) text

-- the name that is given to a gate is a name
pub given_is_name : (texts : List (List ℕ)) (made : GateList) (rails : Option RailNames) (place : ℕ) → AreRailNames texts rails → IfSome (given_name made rails place) (IsName texts)
given_is_name texts made None place are = tt
given_is_name texts made (Some rails) place are = by (place == made.rail1) (place == made.rail2)
  where
    by : (a b : Bool) → IfSome (if a then Some rails.first else (if b then Some rails.second else None)) (IsName texts)
    by true b = are.0
    by false true = are.1
    by false false = tt

-- one gate more
pub gates_more : (word : List (List ℕ)) (given : ℕ → Option (List ℕ)) (gates : List CheckGate) (i : ℕ) (g : CheckGate) (so_far : GateParts) → i < length gates → g ≡ slice_index_or gates i g
    → length so_far.names ≡ i → with_gates word given (drop (i + 1) gates) (with_gate word (given i) g so_far) ≡ with_gates word given (drop i gates) so_far
gates_more word given gates i g so_far there is counted =
    let split : drop i gates ≡ g ∷ drop (i + 1) gates = drop_more gates i g there ∙ ap (λ (x : CheckGate). x ∷ drop (i + 1) gates) (sym is) in
    sym (ap (λ (list : List CheckGate). with_gates word given list so_far) split
    ∙ ap (λ (n : ℕ). with_gates word given (drop (i + 1) gates) (with_gate word (given n) g so_far)) counted)

-- one gate more of a checker, as it was added over the parts so far
pub checker_more : (start here next : PartsOf) (word names seen after : List Name) (made : GateList) (rails : Option RailNames) (i : ℕ) (g : CheckGate) (given : Option Name) (name : Name)
    → Keeps start.names here.names → All (IsName start.names) word → AreRailNames start.names rails → i < length made.gates → g ≡ slice_index_or made.gates i g → length names ≡ i
    → given ≡ given_name made rails i → seen ≡ names
    → gate_parts next (seen ++ name ∷ []) ≡ with_gate (texts_of here.names word) (option_map (text_of here.names) given) g (gate_parts here seen)
    → after ≡ names ++ name ∷ []
    → with_gates (texts_of start.names word) (given_text start.names made rails) (drop (i + 1) made.gates) (gate_parts next after)
    ≡ with_gates (texts_of start.names word) (given_text start.names made rails) (drop i made.gates) (gate_parts here names)
checker_more start here next word names seen after made rails i g given name keeps all are there is counted given_is same added pushed =
    let words : texts_of here.names word ≡ texts_of start.names word = texts_stay start.names here.names keeps word all in
    let outs : option_map (text_of here.names) given ≡ given_text start.names made rails i
    = ap (option_map (text_of here.names)) given_is ∙ some_text_stays start.names here.names keeps (given_name made rails i) (given_is_name start.names made rails i are) in
    let step : gate_parts next after ≡ with_gate (texts_of start.names word) (given_text start.names made rails i) g (gate_parts here names)
    = ap (gate_parts next) (pushed ∙ ap (λ (list : List Name). list ++ name ∷ []) (sym same)) ∙ added
    ∙ ap (λ (list : List Name). with_gate (texts_of here.names word) (option_map (text_of here.names) given) g (gate_parts here list)) same ∙ ap₂ (λ (list : List (List ℕ)) (o : Option (List ℕ)). with_gate list o g (gate_parts here names)) words outs in
    let sized : length (texts_of here.names names) ≡ i = length-map names (text_of here.names) ∙ counted in
    ap (λ (s : GateParts). with_gates (texts_of start.names word) (given_text start.names made rails) (drop (i + 1) made.gates) s) step
    ∙ gates_more (texts_of start.names word) (given_text start.names made rails) made.gates i g (gate_parts here names) there is sized

-- no gate yet
pub checker_begun : (p : PartsOf) (word : List (List ℕ)) (made : GateList) (rails : Option RailNames) (names : List Name) → names ≡ []
    → with_gates word (given_text p.names made rails) made.gates (gate_parts p names) ≡ with_checker p word made rails
unfolding with_checker
checker_begun p word made rails names is = ap (λ (list : List Name). with_gates word (given_text p.names made rails) made.gates (gate_parts p list)) is

-- the checker of a word is one over its length
pub checker_over : (S : WordSizes) (groups : List (List ℕ)) (made : GateList) → HasPlan S groups → IsWordChecker S groups made → IsCheckerOver (S.outputs + S.checks + S.latches) made
checker_over S groups made has is =
    let checker : IsCheckerOf has.plan made = checker_of S groups has.plan made has.sizes has.grouped is in
    record {
      plan = has.plan;
      well_made = has.well_made;
      is_checker = checker;
      over = record {
        words_within = λ place word there e. subst (λ (T : WordSizes). word < T.outputs + T.checks + T.latches) has.sizes (reads_word has.plan made has.well_made checker place word there e);
        ordered = is.ordered;
        first_within = is.first_within;
        second_within = is.second_within;
      };
    }
