-- A netlist by names that has the nodes of a checker: no text is driven twice, each that is driven has a name, and both rails are
-- driven.
use Rattle.std.proofs.Common.{◌≡◌, ℕ, ◌+◌, ◌<◌, ◌==◌, ◌⊎◌, inl, inr, Bool, true, false, if◌then◌else◌, List, [], ◌++◌, map, length, slice_index_or, All, Option, Some, None, refl, sym, ◌∙◌, ap, ap₂, subst, arith, length-append}
use Rattle.std.specs.Option.{option_map}
use Rattle.std.proofs.lemmas.Bool.{eqb-true, eq-eqb, ne_eqb}
use Rattle.std.proofs.lemmas.List.{length-map, get_or-map, get_or-append-add}
use Rattle.std.proofs.lemmas.List.Elements.{All-get_or, All-from_get_or}
use Rattle.fault_secure.specs.CodePlan.{CodePlan, IsWellMade}
use Rattle.tsc_net.specs.Named.{Named, NamedNode, NamedLatch, latch_outs, node_outs, no_named}
use Rattle.tsc_net.specs.Names.{has_text, place_of_text, text_at, IsNumbering}
use Rattle.tsc_net.specs.NetlistOf.{drivers}
use Rattle.tsc_net.specs.Parts.{PartsOf}
use Rattle.tsc_net.specs.PartsView.{text_of}
use Rattle.tsc_net.proofs.NameLemmas.{has_text_at, place_within, text_at_place}
use Rattle.code_checkers.specs.declared.gate.CheckGate.{CheckGate}
use Rattle.code_checkers.specs.declared.gate.CheckGate.TheVariants as gate
use Rattle.code_checkers.specs.GateList.{GateList, IsCheckerOf}
use Rattle.net_writing.specs.CheckerParts.{with_checker, given_text, IsOver, AreRailNames}
use Rattle.net_writing.specs.declared.checker_writing.RailNames.{RailNames}
use Rattle.net_writing.proofs.CheckerNames.{IsNodeBehind, named_gate, StandsByName, checker_stands_by_name, given_text_stands}
use Rattle.net_writing.proofs.CheckerDrives.{DrivesApart, gates_drive}
use Rattle.net_writing.proofs.RailsDiffer.{rails_differ, rail1_no_word, rail2_no_word}

-- the texts of the rails' names, where names are given to them, differ, and nothing drives them
abbrev pub AreFreeRails : PartsOf → Option RailNames → Type 0
AreFreeRails p None = Unit {0}
AreFreeRails p (Some rails) =
    (text_of p.names rails.first ≡ text_of p.names rails.second → ⊥) × (has_text (drivers p.named) (text_of p.names rails.first) ≡ false) × (has_text (drivers p.named) (text_of p.names rails.second) ≡ false)

-- what is given to a place is the text of one of the rails, which stands there
module _ (texts : List (List ℕ)) (made : GateList) (rails : RailNames) where
  -- a text that is given to a place is a rail's, and the place is that rail's
  pub given_cases : (place : ℕ) (t : List ℕ) → given_text texts made (Some rails) place ≡ Some t → ((place ≡ made.rail1) × (text_of texts rails.first ≡ t)) ⊎ ((place ≡ made.rail2) × (text_of texts rails.second ≡ t))
  given_cases place t e = by (place == made.rail1) (place == made.rail2) refl refl e
    where
      by : (a b : Bool) → (place == made.rail1) ≡ a → (place == made.rail2) ≡ b → option_map (text_of texts) (if a then Some rails.first else (if b then Some rails.second else None)) ≡ Some t
          → ((place ≡ made.rail1) × (text_of texts rails.first ≡ t)) ⊎ ((place ≡ made.rail2) × (text_of texts rails.second ≡ t))
      by true b f g h = inl (eqb-true place made.rail1 f, cc)
      by false true f g h = inr (eqb-true place made.rail2 g, cc)
      by false false f g h = cc

  -- the first rail's place is given the first name's text
  pub given_first : given_text texts made (Some rails) made.rail1 ≡ Some (text_of texts rails.first)
  given_first =
      ap (λ (b : Bool). option_map (text_of texts) (if b then Some rails.first else (if made.rail1 == made.rail2 then Some rails.second else None))) (eq-eqb made.rail1 made.rail1 refl)

  -- and the second rail's place that of the second, where it is another place
  pub given_second : (made.rail1 ≡ made.rail2 → ⊥) → given_text texts made (Some rails) made.rail2 ≡ Some (text_of texts rails.second)
  given_second apart =
      ap₂ (λ (a b : Bool). option_map (text_of texts) (if a then Some rails.first else (if b then Some rails.second else None))) (ne_eqb made.rail2 made.rail1 (λ e. apart (sym e)))
      (eq-eqb made.rail2 made.rail2 refl)

module _ (p : PartsOf) (made : GateList) where
  -- one text is given to one place
  given_apart : (rails : Option RailNames) → AreFreeRails p rails → (j k : ℕ) (t : List ℕ) → given_text p.names made rails j ≡ Some t → given_text p.names made rails k ≡ Some t → j ≡ k
  given_apart None free j k t e f = cc
  given_apart (Some rails) free j k t e f = elim (given_cases p.names made rails j t e) [
    | inl a ↦ elim (given_cases p.names made rails k t f) [
      | inl b ↦ a.0 ∙ sym b.0
      | inr b ↦ absurd (free.0 (a.1 ∙ sym b.1))
    ]
    | inr a ↦ elim (given_cases p.names made rails k t f) [
      | inl b ↦ absurd (free.0 (b.1 ∙ sym a.1))
      | inr b ↦ a.0 ∙ sym b.0
    ]
  ]

  -- what is given has a name, and is undriven
  given_has : (rails : Option RailNames) → AreRailNames p.names rails → (k : ℕ) (t : List ℕ) → given_text p.names made rails k ≡ Some t → has_text p.names t ≡ true
  given_has None are k t e = cc
  given_has (Some rails) are k t e = elim (given_cases p.names made rails k t e) [
    | inl a ↦ has_text_at p.names t rails.first.number are.0 a.1
    | inr a ↦ has_text_at p.names t rails.second.number are.1 a.1
  ]

  -- what is given is undriven
  given_free : (rails : Option RailNames) → AreFreeRails p rails → (k : ℕ) (t : List ℕ) → given_text p.names made rails k ≡ Some t → has_text (drivers p.named) t ≡ false
  given_free None free k t e = cc
  given_free (Some rails) free k t e = elim (given_cases p.names made rails k t e) [
    | inl a ↦ ap (has_text (drivers p.named)) (sym a.1) ∙ free.1
    | inr a ↦ ap (has_text (drivers p.named)) (sym a.1) ∙ free.2
  ]

-- each text of a list stands in another where each one that the list has does
all_have : (names texts : List (List ℕ)) → ((t : List ℕ) → has_text texts t ≡ true → has_text names t ≡ true) → All (λ t. has_text names t ≡ true) texts
all_have names texts has = All-from_get_or (λ t. has_text names t ≡ true) texts [] (λ k low. has (text_at texts k) (has_text_at texts (text_at texts k) k low refl))

-- and the other way round
have_all : (names texts : List (List ℕ)) → All (λ t. has_text names t ≡ true) texts → (t : List ℕ) → has_text texts t ≡ true → has_text names t ≡ true
have_all names texts all t there =
    ap (has_text names) (sym (text_at_place texts t there)) ∙ All-get_or (λ u. has_text names u ≡ true) texts (place_of_text texts t) [] (place_within texts t there) all

-- netlists with the same inputs, latches and nodes drive the same
pub same_drivers : (N M : Named) → N.inputs ≡ M.inputs → N.latches ≡ M.latches → N.nodes ≡ M.nodes → drivers N ≡ drivers M
same_drivers N M inputs latches nodes =
    ap₂ (λ (front outs : List (List ℕ)). front ++ outs)
    (ap₂ (λ (ins : List (List ℕ)) (list : List NamedLatch). ins ++ map (λ l. l.out) list) inputs latches)
    (ap (map (λ (n : NamedNode). n.out)) nodes)

-- a node drives its text
pub node_is_driven : (N : Named) (lo : ℕ) (n : NamedNode) → IsNodeBehind N.nodes lo n → has_text (drivers N) n.out ≡ true
node_is_driven N lo n h =
    let front : List (List ℕ) = N.inputs ++ latch_outs N in
    let out : text_at (node_outs N) h.place ≡ n.out = get_or-map (λ (m : NamedNode). m.out) N.nodes h.place no_named [] h.within ∙ ap (λ (m : NamedNode). m.out) h.is_node in
    has_text_at (drivers N) n.out (length (N.inputs ++ latch_outs N) + h.place)
    (let w = h.within in omega (arith, length-append (N.inputs ++ latch_outs N) (node_outs N), length-map N.nodes (λ (m : NamedNode). m.out)))
    (get_or-append-add (N.inputs ++ latch_outs N) (node_outs N) h.place [] ∙ out)

-- a gate that is no place of the word has a node
pub has_node : (nodes : List NamedNode) (lo : ℕ) (word texts : List (List ℕ)) (place : ℕ) (g : CheckGate) → ((p : ℕ) → g ≡ gate.Word p → ⊥) → StandsByName nodes lo word texts place g
    → IsNodeBehind nodes lo (named_gate texts place g)
has_node nodes lo word texts place (gate.Word p) other h = absurd (other p refl)
has_node nodes lo word texts place g other h = h

module _ (p : PartsOf) (word : List (List ℕ)) (made : GateList) where
  -- before the checker what is driven has names, once each, and is none of the rails' texts
  begun_apart : (rails : Option RailNames) → AreRailNames p.names rails → AreFreeRails p rails → IsNumbering (drivers p.named) → All (λ t. has_text p.names t ≡ true) (drivers p.named)
      → DrivesApart (given_text p.names made rails) (record { parts = p; names = [] })
  begun_apart rails are free numbering all = record {
    numbering = numbering;
    named = have_all p.names (drivers p.named) all;
    given_named = given_has p made rails are;
    undriven = λ k t low e. given_free p made rails free k t e;
  }

  -- and so it is after it
  drives_apart : (rails : Option RailNames) → AreRailNames p.names rails → AreFreeRails p rails → IsNumbering (drivers p.named) → All (λ t. has_text p.names t ≡ true) (drivers p.named)
      → IsNumbering (with_checker p word made rails).parts.names → DrivesApart (given_text p.names made rails) (with_checker p word made rails)
  unfolding with_checker
  drives_apart rails are free numbering all names =
      gates_drive word (given_text p.names made rails) (given_apart p made rails free) made.gates (record { parts = p; names = [] }) names (begun_apart rails are free numbering all)

  -- with a checker no text is driven twice, and each that is driven has a name
  pub checker_drives : (rails : Option RailNames) → AreRailNames p.names rails → AreFreeRails p rails → IsNumbering (drivers p.named) → All (λ t. has_text p.names t ≡ true) (drivers p.named)
      → IsNumbering (with_checker p word made rails).parts.names → (N : Named) → N.inputs ≡ (with_checker p word made rails).parts.named.inputs → N.latches ≡ (with_checker p word made rails).parts.named.latches → N.nodes ≡ (with_checker p word made rails).parts.named.nodes
      → IsNumbering (drivers N) × All (λ t. has_text (with_checker p word made rails).parts.names t ≡ true) (drivers N)
  checker_drives rails are free numbering all names N inputs latches nodes =
      let q = with_checker p word made rails in
      let h = drives_apart rails are free numbering all names in
      let same : drivers q.parts.named ≡ drivers N = sym (same_drivers N q.parts.named inputs latches nodes) in
      (subst IsNumbering same h.numbering, subst (λ (texts : List (List ℕ)). All (λ t. has_text q.parts.names t ≡ true) texts) same (all_have q.parts.names (drivers q.parts.named) h.named))

  -- a rail's gate has the text of the name that is given to it, and its node drives that
  module _ (P : CodePlan) (is : IsCheckerOf P made) (rails : RailNames) where
    -- the first rail's gate has the text of the first name
    pub rail1_text : text_at (with_checker p word made (Some rails)).names made.rail1 ≡ text_of p.names rails.first
    rail1_text = given_text_stands p word made (Some rails) made.rail1 (text_of p.names rails.first) is.first_within (rail1_no_word P made is) (given_first p.names made rails)

    -- and the second rail's that of the second
    pub rail2_text : IsWellMade P → text_at (with_checker p word made (Some rails)).names made.rail2 ≡ text_of p.names rails.second
    rail2_text well =
        given_text_stands p word made (Some rails) made.rail2 (text_of p.names rails.second) is.second_within (rail2_no_word P made is) (given_second p.names made rails (rails_differ P made is well))

    -- a node drives the text of a gate that is no place of the word
    rail_driven : (place : ℕ) (text : List ℕ) → IsOver (length word) made → place < length made.gates → ((w : ℕ) → slice_index_or made.gates place (gate.Word 0) ≡ gate.Word w → ⊥)
        → text_at (with_checker p word made (Some rails)).names place ≡ text → (N : Named) → N.nodes ≡ (with_checker p word made (Some rails)).parts.named.nodes → has_text (drivers N) text ≡ true
    rail_driven place text over there other is_text N nodes =
        let q = with_checker p word made (Some rails) in
        let g = slice_index_or made.gates place (gate.Word 0) in
        let lo = length p.named.nodes in
        let stands = has_node q.parts.named.nodes lo word q.names place g other (checker_stands_by_name p word made (Some rails) over place there) in
        ap (has_text (drivers N)) (sym is_text)
        ∙ node_is_driven N lo (named_gate q.names place g) (subst (λ (list : List NamedNode). IsNodeBehind list lo (named_gate q.names place g)) (sym nodes) stands)

    -- both rails are driven
    pub rails_driven : IsWellMade P → IsOver (length word) made → (N : Named) → N.nodes ≡ (with_checker p word made (Some rails)).parts.named.nodes
        → (has_text (drivers N) (text_of p.names rails.first) ≡ true) × (has_text (drivers N) (text_of p.names rails.second) ≡ true)
    rails_driven well over N nodes = (
      rail_driven made.rail1 (text_of p.names rails.first) over is.first_within (rail1_no_word P made is) rail1_text N nodes,
      rail_driven made.rail2 (text_of p.names rails.second) over is.second_within (rail2_no_word P made is) (rail2_text well) N nodes,
    )
