-- All that came as gates were written for roots: nodes of lines, and then Bufs.
use Rattle.std.proofs.Common.{◌≡◌, ℕ, zero, suc, ◌+◌, ◌-◌, ◌<◌, ◌⊎◌, inl, inr, true, false, List, [], ◌∷◌, ◌++◌, map, length, drop, get_or, slice_index_or, Option, None, All, Contains, IsFalse, refl, sym, ◌∙◌, ap, subst, arith, true≢false}
use Rattle.std.specs.List.{AllZip}
use Rattle.std.proofs.lemmas.Bool.{cases_Bool, false≢true}
use Rattle.std.proofs.lemmas.List.{length-map, length-drop, get_or-drop, get_or-map}
use Rattle.std.proofs.lemmas.List.Elements.{All-append, All-weaker, All-contains, All-map, Contains-append_left, Contains-append_right, Contains-get_or}
use Rattle.tsc_cover.specs.Cover.{CoverTable, wrong_sign}
use Rattle.tsc_net.specs.Named.{Named, NamedNode, latch_outs, node_outs, no_named}
use Rattle.tsc_net.specs.Names.{text_at, has_text, IsNumbering}
use Rattle.tsc_net.specs.NetlistOf.{drivers}
use Rattle.tsc_net.specs.Parts.{PartsOf}
use Rattle.tsc_net.specs.PartsView.{text_of, texts_of, IsName}
use Rattle.tsc_net.specs.declared.ids.Name.{Name}
use Rattle.gate_net.specs.declared.line.Line.{Line}
use Rattle.gate_net.specs.declared.root.Root.{Root}
use Rattle.gate_net.specs.declared.gate.Gate.{Gate}
use Rattle.gate_net.specs.declared.gate.Gate.TheVariants as gate
use Rattle.gate_net.specs.Gates.{GateNetwork, IsHashed, gate_at, gate_signal, meaning}
use Rattle.gate_net.specs.Negations.{negates_inputs, NegatesOnlyInputs}
use Rattle.gate_net.specs.NodesOfLines.{has_node, cover_of, operands}
use Rattle.gate_net.specs.Written.{NameRealises, NameIsRoot, RootsRealise, Extends, HasName, AreBelow, NamesRealise, IsFree, IsDrivenFrom}
use Rattle.gate_net.specs.Added.{added_nodes, added_outs, added_names, root_texts, IsUndriven, IsFresh, DrivesRootOrFresh, IsFreshOut, AreFreshOuts, HasRightNamedSigns, sources, InnerDiffer}
use Rattle.gate_net.specs.Writing.{HasNodeAt, IsSourceLine, IsSourceText, IsRootOfLine, AreOwners, OwnersFit, OwnersDiffer, IsNodeOfLine, AreWritten, IsBufOfRoot, AreBufs}
use Rattle.gate_net.proofs.Signals.{meaning_is}
use Rattle.gate_net.proofs.Texts.{lacks, has_at, numbering_append, same_item, contains_map, mapped_from}
use Rattle.gate_net.proofs.Written.{text_kept}
use Rattle.gate_net.proofs.Given.{root_driven}
use Rattle.gate_net.proofs.Lines.{nodes_two, outs_two, has_below, same_name}
use Rattle.gate_net.proofs.SameNode.{same_gates, no_buf}
use Rattle.gate_net.proofs.Sources.{same_source, input_named}

-- what is driven, by its three parts
undriven_free : (N : Named) (t : List ℕ) → IsUndriven N t → IsFree N t
undriven_free N t e (inl c) = lacks (drivers N) t e (Contains-append_left (sources N) (node_outs N) t (Contains-append_left N.inputs (latch_outs N) t c))
undriven_free N t e (inr c) = lacks (drivers N) t e (Contains-append_left (sources N) (node_outs N) t (Contains-append_right N.inputs (latch_outs N) t c))

-- the text of an input or a latch
source_driven : (p : PartsOf) (g : Gate) (t : List ℕ) → has_node g ≡ false → IsSourceText p g t → Contains p.named.inputs t ⊎ Contains (latch_outs p.named) t
source_driven p (gate.Input i) t e r = inl (subst (Contains p.named.inputs) (sym r.1) (Contains-get_or p.named.inputs i [] r.0))
source_driven p (gate.State i) t e r = inr (subst (Contains (latch_outs p.named)) (sym r.1) (Contains-get_or (latch_outs p.named) i [] (let low = r.0 in omega (arith, length-map p.named.latches (λ l. l.out)))))
source_driven p gate.Zero t e r = absurd (false≢true (sym e))
source_driven p gate.One t e r = absurd (false≢true (sym e))
source_driven p (gate.Not a) t e r = absurd (false≢true (sym e))
source_driven p (gate.And a b) t e r = absurd (false≢true (sym e))
source_driven p (gate.Or a b) t e r = absurd (false≢true (sym e))
source_driven p (gate.Xor a b) t e r = absurd (false≢true (sym e))

node_or_not : (g : Gate) → has_node g ≡ true → has_node g ≡ false → ⊥
node_or_not g e f = true≢false (sym e ∙ f)

abbrev pub AreRootNames : PartsOf → List Root → Type 0
AreRootNames p roots = All (λ root. IsName p.names root.name) roots

-- the owners of lines
module _ (p : PartsOf) (G : GateNetwork) (roots : List Root) (owners : List (Option Name)) (are : AreOwners p G roots owners) (named : AreRootNames p roots) where
  pub owners_below : AreBelow (length p.names) owners
  owners_below line name has = by (are line name has)
    where
      by : IsSourceLine p G line name ⊎ IsRootOfLine G roots line name → name.number < length p.names
      by (inl s) = s.within
      by (inr r) = All-contains (λ (root : Root). IsName p.names root.name) roots (record { name = name; line = line }) named r.is_root

  no_source : (g : Gate) (t : List ℕ) → has_node g ≡ true → IsSourceText p g t
  no_source (gate.Input i) t e = absurd (false≢true e)
  no_source (gate.State i) t e = absurd (false≢true e)
  no_source _ t e = tt

  pub owners_fit : OwnersFit p G owners
  owners_fit line name has = by (are line name has)
    where
      by : IsSourceLine p G line name ⊎ IsRootOfLine G roots line name → IsSourceText p (gate_at G.gates line.number) (text_of p.names name)
      by (inl s) = s.text
      by (inr r) = no_source (gate_at G.gates line.number) (text_of p.names name) r.placed

  module _ (distinct : IsNumbering (root_texts p.names roots)) (undriven : All (IsUndriven p.named) (root_texts p.names roots)) where
    root_undriven : (root : Root) → Contains roots root → IsUndriven p.named (text_of p.names root.name)
    root_undriven root c =
        All-contains (IsUndriven p.named) (root_texts p.names roots) (text_of p.names root.name) undriven (contains_map (λ (r : Root). text_of p.names r.name) roots root c)

    pub owners_differ : OwnersDiffer p G owners
    owners_differ a b m n ha hb placed same = by (are a m ha) (are b n hb)
      where
        by : IsSourceLine p G a m ⊎ IsRootOfLine G roots a m → IsSourceLine p G b n ⊎ IsRootOfLine G roots b n → a.number ≡ b.number
        by (inl s) other = absurd (node_or_not (gate_at G.gates a.number) placed s.without)
        by (inr r) (inl s) =
            absurd (undriven_free p.named (text_of p.names m) (root_undriven (record { name = m; line = a }) r.is_root)
            (subst (λ (t : List ℕ). Contains p.named.inputs t ⊎ Contains (latch_outs p.named) t) (sym same) (source_driven p (gate_at G.gates b.number) (text_of p.names n) s.without s.text)))
        by (inr r) (inr s) =
            ap (λ (root : Root). root.line.number)
            (same_item (λ (root : Root). text_of p.names root.name) roots distinct (record { name = m; line = a }) (record { name = n; line = b }) r.is_root s.is_root same)

-- the signs at the pins of a node
abbrev pub HasRightPins : Named → List (List ℕ) → CoverTable → Type 0
HasRightPins N reads cover = (pin : ℕ) → pin < length reads → has_text N.inputs (text_at reads pin) ≡ false → IsFalse (wrong_sign cover pin)

two_pins : (N : Named) (t u : List ℕ) (cover : CoverTable) → IsFalse (wrong_sign cover 0) → IsFalse (wrong_sign cover 1) → HasRightPins N (t ∷ (u ∷ [])) cover
two_pins N t u cover a b zero lt out = a
two_pins N t u cover a b (suc zero) lt out = b
two_pins N t u cover a b (suc (suc pin)) lt out = absurd (omega arith)

one_pin : (N : Named) (t : List ℕ) (cover : CoverTable) → (has_text N.inputs t ≡ false → IsFalse (wrong_sign cover 0)) → HasRightPins N (t ∷ []) cover
one_pin N t cover a zero lt out = a out
one_pin N t cover a (suc pin) lt out = absurd (omega arith)

-- a node from where the parts ended is one that came
pub came_out : (old new : PartsOf) (t : List ℕ) → IsDrivenFrom new.named (length old.named.nodes) t → Contains (added_outs old new) t
came_out old new t d =
    let lo = length old.named.nodes in
    let j : ℕ = d.place - lo in
    let low : j < length (added_nodes old new) = (let within = d.within in let behind = d.behind in omega (arith, length-drop lo new.named.nodes)) in
    let at : lo + j ≡ d.place = (let behind = d.behind in omega arith) in
    let is : text_at (added_outs old new) j ≡ t
    = get_or-map (λ (n : NamedNode). n.out) (added_nodes old new) j no_named [] low
    ∙ ap (λ (n : NamedNode). n.out) (get_or-drop lo new.named.nodes j no_named ∙ ap (λ (i : ℕ). get_or new.named.nodes i no_named) at) ∙ d.drives in
    subst (Contains (added_outs old new)) is (Contains-get_or (added_outs old new) j [] (omega (arith, length-map (added_nodes old new) (λ (n : NamedNode). n.out))))

-- gates were added for roots, and then Bufs: what is known of the parts before, between and after
pub record AddsRoots (old here new : PartsOf) (G : GateNetwork) (roots : List Root) (owners names : List (Option Name)) : Type 0 where
  pub gates_extend : Extends old here
  pub bufs_extend : Extends here new
  pub sound : IsHashed G
  pub sized : length names ≡ length G.gates
  pub written : AreWritten old here G owners names
  pub bufs : AreBufs here new names roots
  pub owners_are : AreOwners old G roots owners
  pub named : AreRootNames old roots
  pub distinct : IsNumbering (root_texts old.names roots)
  pub undriven : All (IsUndriven old.named) (root_texts old.names roots)

module _ (old here new : PartsOf) (G : GateNetwork) (roots : List Root) (owners names : List (Option Name)) (came : AddsRoots old here new G roots owners names) where
  -- a root's text stays
  pub root_text : (root : Root) → Contains roots root → text_of here.names root.name ≡ text_of old.names root.name
  root_text root c = text_kept old here root.name came.gates_extend (All-contains (λ (r : Root). IsName old.names r.name) roots root came.named c)

  -- and is among the roots'
  pub root_there : (root : Root) → Contains roots root → Contains (root_texts old.names roots) (text_of here.names root.name)
  root_there root c = subst (Contains (root_texts old.names roots)) (sym (root_text root c)) (contains_map (λ (r : Root). text_of old.names r.name) roots root c)

  -- what is so of each node of a line and of each Buf
  pub all_nodes : (P : NamedNode → Type 0) → ((n : NamedNode) → IsNodeOfLine G here.names names n → P n) → ((n : NamedNode) → IsBufOfRoot here.names names roots n → P n) → All P (added_nodes old new)
  all_nodes P f g =
      subst (All P) (sym (nodes_two old here new came.gates_extend came.bufs_extend))
      (All-append P (added_nodes old here) (added_nodes here new) (All-weaker (IsNodeOfLine G here.names names) P f (added_nodes old here) came.written.nodes)
      (All-weaker (IsBufOfRoot here.names names roots) P g (added_nodes here new) came.bufs.nodes))

  -- the owner of a line with a node is a root
  pub owner_root : (line : Line) (name : Name) → HasNodeAt G line → HasName owners line name → Contains roots (record { name = name; line = line })
  owner_root line name placed has = by (came.owners_are line name has)
    where
      by : IsSourceLine old G line name ⊎ IsRootOfLine G roots line name → Contains roots (record { name = name; line = line })
      by (inl s) = absurd (node_or_not (gate_at G.gates line.number) placed s.without)
      by (inr r) = r.is_root

  line_out : (n : NamedNode) → IsNodeOfLine G here.names names n → DrivesRootOrFresh old roots n
  line_out n is = subst (λ (t : List ℕ). Contains (root_texts old.names roots) t ⊎ IsFresh old t) (sym is.out) (by (came.written.named is.line is.name is.has))
    where
      by : HasName owners is.line is.name ⊎ IsFresh old (text_of here.names is.name) → Contains (root_texts old.names roots) (text_of here.names is.name) ⊎ IsFresh old (text_of here.names is.name)
      by (inl own) = inl (root_there (record { name = is.name; line = is.line }) (owner_root is.line is.name is.placed own))
      by (inr e) = inr e

  pub outs_known : All (DrivesRootOrFresh old roots) (added_nodes old new)
  outs_known = all_nodes (DrivesRootOrFresh old roots) line_out (λ n is. inl (subst (Contains (root_texts old.names roots)) (sym is.out) (root_there is.root is.is_root)))

  -- a line's node and a Buf drive different names
  line_and_buf : (n m : NamedNode) (t : List ℕ) → IsNodeOfLine G here.names names n → IsBufOfRoot here.names names roots m → n.out ≡ t → m.out ≡ t → ⊥
  line_and_buf n m t is buf e f = by (came.written.named is.line is.name is.has)
    where
      same : text_of here.names is.name ≡ text_of here.names buf.root.name
      same = sym is.out ∙ e ∙ sym f ∙ buf.out

      by : HasName owners is.line is.name ⊎ IsFresh old (text_of here.names is.name) → ⊥
      by (inr fresh) =
          let root_name : buf.root.name.number < length old.names = All-contains (λ (r : Root). IsName old.names r.name) roots buf.root came.named buf.is_root in
          true≢false (sym (has_at old.names buf.root.name.number root_name) ∙ ap (has_text old.names) (sym (root_text buf.root buf.is_root) ∙ sym same) ∙ fresh)
      by (inl own) =
          let mine : Root = record { name = is.name; line = is.line } in
          let c : Contains roots mine = owner_root is.line is.name is.placed own in
          let e2 : mine ≡ buf.root
          = same_item (λ (r : Root). text_of old.names r.name) roots came.distinct mine buf.root c buf.is_root (sym (root_text mine c) ∙ same ∙ root_text buf.root buf.is_root) in
          let has : HasName names buf.root.line is.name = subst (λ (r : Root). HasName names r.line is.name) e2 is.has in
          buf.other (ap (λ (x : Name). x.number) (same_name names buf.root.line buf.name is.name buf.has has) ∙ ap (λ (r : Root). r.name.number) e2)

  pub outs_once : IsNumbering (added_outs old new)
  outs_once = subst IsNumbering (sym (outs_two old here new came.gates_extend came.bufs_extend)) (numbering_append (added_outs old here) (added_outs here new) came.written.outs came.bufs.outs apart)
    where
      apart : (t : List ℕ) → Contains (added_outs old here) t → Contains (added_outs here new) t → ⊥
      apart t c d =
          let x = mapped_from (λ (n : NamedNode). n.out) (added_nodes old here) t no_named c in
          let y = mapped_from (λ (n : NamedNode). n.out) (added_nodes here new) t no_named d in
          line_and_buf x.0 y.0 t (All-contains (IsNodeOfLine G here.names names) (added_nodes old here) x.0 came.written.nodes x.1)
          (All-contains (IsBufOfRoot here.names names roots) (added_nodes here new) y.0 came.bufs.nodes y.1) x.2 y.2

  pub fresh_outs : AreFreshOuts old new
  fresh_outs =
      subst (All (IsFreshOut old new)) (sym (ap (drop (length old.names)) came.bufs.names_stay)) (All-weaker (IsFreshOut old here) (IsFreshOut old new) more (added_names old here) came.written.fresh)
    where
      more : (t : List ℕ) → IsFreshOut old here t → IsFreshOut old new t
      more t f = (f.0, subst (λ (ts : List (List ℕ)). Contains ts t) (sym (outs_two old here new came.gates_extend came.bufs_extend)) (Contains-append_left (added_outs old here) (added_outs here new) t f.1))

  free_new : (t : List ℕ) → IsFree old.named t → IsFree new.named t
  free_new t free (inl c) = free (inl (subst (λ (ts : List (List ℕ)). Contains ts t) (came.bufs_extend.inputs ∙ came.gates_extend.inputs) c))
  free_new t free (inr c) = free (inr (subst (λ ls. Contains (map (λ l. l.out) ls) t) (came.bufs_extend.latches ∙ came.gates_extend.latches) c))

  pub roots_driven : RootsRealise new (length old.named.nodes) G roots → All (Contains (added_outs old new)) (root_texts old.names roots)
  roots_driven realise = All-map (Contains (added_outs old new)) (λ (root : Root). text_of old.names root.name) roots one
    where
      one : All (λ (root : Root). Contains (added_outs old new) (text_of old.names root.name)) roots
      one i d lt =
          let root : Root = slice_index_or roots i d in
          let c : Contains roots root = Contains-get_or roots i d lt in
          let t : List ℕ = text_of old.names root.name in
          let same : text_of new.names root.name ≡ t = ap (λ (ns : List (List ℕ)). text_of ns root.name) came.bufs.names_stay ∙ root_text root c in
          let is : NameIsRoot new.named (length old.named.nodes) (meaning G root.line) t = subst (NameIsRoot new.named (length old.named.nodes) (meaning G root.line)) same (realise i d lt) in
          came_out old new t (root_driven new.named (length old.named.nodes) (meaning G root.line) t
          (free_new t (undriven_free old.named t (All-contains (IsUndriven old.named) (root_texts old.names roots) t came.undriven (contains_map (λ (r : Root). text_of old.names r.name) roots root c)))) is)

  module _ (lo : ℕ) (realise : NamesRealise here lo G names) where
    -- the name of a line realises its gate's signal
    pub line_realises : (line : Line) (name : Name) → HasName names line name → NameRealises here.named lo (gate_signal G (gate_at G.gates line.number)) (text_of here.names name)
    line_realises line name has =
        let low : line.number < length names = has_below names line name has in
        subst (λ signal. NameRealises here.named lo signal (text_of here.names name)) (meaning_is G line came.sound (omega (arith, came.sized))) (realise line name has)

    -- the pins of a gate's node have the right signs, where the gate negates only inputs
    right_pins : (g : Gate) (reads : List Name) → negates_inputs G.gates g ≡ true → has_node g ≡ true → AllZip (HasName names) (operands g) reads → HasRightPins new.named (texts_of here.names reads) (cover_of g)
    right_pins gate.Zero reads e placed z = λ pin lt out. refl
    right_pins gate.One reads e placed z = λ pin lt out. refl
    right_pins (gate.Input i) reads e placed z = absurd (false≢true placed)
    right_pins (gate.State i) reads e placed z = absurd (false≢true placed)
    right_pins (gate.Not a) [] e placed z = absurd z
    right_pins (gate.Not a) (m ∷ []) e placed z =
        let input : has_text here.named.inputs (text_of here.names m) ≡ true = input_named here.named lo G (gate_at G.gates a.number) (text_of here.names m) e (line_realises a m z.0) in
        one_pin new.named (text_of here.names m) (cover_of (gate.Not a))
        (λ out. absurd (true≢false (sym input ∙ ap (λ (ts : List (List ℕ)). has_text ts (text_of here.names m)) (sym came.bufs_extend.inputs) ∙ out)))
    right_pins (gate.Not a) (m ∷ (n ∷ reads)) e placed z = absurd z.1
    right_pins (gate.And a c) [] e placed z = absurd z
    right_pins (gate.And a c) (m ∷ []) e placed z = absurd z.1
    right_pins (gate.And a c) (m ∷ (n ∷ [])) e placed z = two_pins new.named (text_of here.names m) (text_of here.names n) (cover_of (gate.And a c)) refl refl
    right_pins (gate.And a c) (m ∷ (n ∷ (l ∷ reads))) e placed z = absurd z.1.1
    right_pins (gate.Or a c) [] e placed z = absurd z
    right_pins (gate.Or a c) (m ∷ []) e placed z = absurd z.1
    right_pins (gate.Or a c) (m ∷ (n ∷ [])) e placed z = two_pins new.named (text_of here.names m) (text_of here.names n) (cover_of (gate.Or a c)) refl refl
    right_pins (gate.Or a c) (m ∷ (n ∷ (l ∷ reads))) e placed z = absurd z.1.1
    right_pins (gate.Xor a c) reads e placed z = absurd (false≢true e)

    line_signs : NegatesOnlyInputs G → (n : NamedNode) → IsNodeOfLine G here.names names n → HasRightNamedSigns new.named n
    line_signs negates n is =
        let pins : HasRightPins new.named (texts_of here.names is.reads) (cover_of (gate_at G.gates is.line.number))
        = right_pins (gate_at G.gates is.line.number) is.reads (negates is.line.number gate.Zero is.within) is.placed is.zip in
        subst (λ (reads : List (List ℕ)). HasRightPins new.named reads n.cover) (sym is.pins) (subst (HasRightPins new.named (texts_of here.names is.reads)) (sym is.cover) pins)

    buf_signs : (n : NamedNode) → IsBufOfRoot here.names names roots n → HasRightNamedSigns new.named n
    buf_signs n is =
        subst (λ (reads : List (List ℕ)). HasRightPins new.named reads n.cover) (sym is.pins)
        (one_pin new.named (text_of here.names is.name) n.cover (λ out. ap (λ (c : CoverTable). wrong_sign c 0) is.cover))

    pub signs_right : NegatesOnlyInputs G → All (HasRightNamedSigns new.named) (added_nodes old new)
    signs_right negates = all_nodes (HasRightNamedSigns new.named) (line_signs negates) buf_signs

    module _ (apart : IsNumbering (sources old.named)) where
      apart_here : IsNumbering (sources here.named)
      apart_here =
          subst (λ (ts : List (List ℕ)). IsNumbering (ts ++ latch_outs here.named)) (sym came.gates_extend.inputs) (subst (λ ls. IsNumbering (old.named.inputs ++ map (λ l. l.out) ls)) (sym came.gates_extend.latches) apart)

      same_by_gate : (x y : Line) (m n : Name) → HasName names x m → HasName names y n → gate_at G.gates x.number ≡ gate_at G.gates y.number → x.number ≡ y.number
      same_by_gate x y m n hx hy e =
          let lx : x.number < length names = has_below names x m hx in
          let ly : y.number < length names = has_below names y n hy in
          came.sound.distinct x.number y.number (omega (arith, came.sized)) (omega (arith, came.sized)) e

      -- lines with the same name are the same
      same_line_of : (x y : Line) (m n : Name) → HasName names x m → HasName names y n → text_of here.names m ≡ text_of here.names n → x.number ≡ y.number
      same_line_of x y m n hx hy e = elim (cases_Bool (has_node (gate_at G.gates x.number))) [
        | inl placed ↦ came.written.apart x y m n hx hy placed e
        | inr without_x ↦ elim (cases_Bool (has_node (gate_at G.gates y.number))) [
          | inl placed ↦ sym (came.written.apart y x n m hy hx placed (sym e))
          | inr without_y ↦ same_by_gate x y m n hx hy
              (same_source here.named lo G (gate_at G.gates x.number) (gate_at G.gates y.number) (text_of here.names m) (text_of here.names n) apart_here without_x without_y
              (line_realises x m hx) (line_realises y n hy) e)
        ]
      ]

      same_lines_of : (xs ys : List Line) (rs ss : List Name) → AllZip (HasName names) xs rs → AllZip (HasName names) ys ss → texts_of here.names rs ≡ texts_of here.names ss → xs ≡ ys
      same_lines_of [] [] rs ss zx zy e = refl
      same_lines_of [] (y ∷ ys) [] [] zx zy e = absurd zy
      same_lines_of [] (y ∷ ys) [] (s ∷ ss) zx zy e = absurd (let n : 0 ≡ suc (length (texts_of here.names ss)) = ap length e in omega arith)
      same_lines_of [] (y ∷ ys) (r ∷ rs) ss zx zy e = absurd zx
      same_lines_of (x ∷ xs) [] rs (s ∷ ss) zx zy e = absurd zy
      same_lines_of (x ∷ xs) [] [] [] zx zy e = absurd zx
      same_lines_of (x ∷ xs) [] (r ∷ rs) [] zx zy e = absurd (let n : suc (length (texts_of here.names rs)) ≡ 0 = ap length e in omega arith)
      same_lines_of (x ∷ xs) (y ∷ ys) [] ss zx zy e = absurd zx
      same_lines_of (x ∷ xs) (y ∷ ys) (r ∷ rs) [] zx zy e = absurd zy
      same_lines_of (x ∷ xs) (y ∷ ys) (r ∷ rs) (s ∷ ss) zx zy e =
          let head : x.number ≡ y.number = same_line_of x y r s zx.0 zy.0 (ap (λ (ts : List (List ℕ)). text_at ts 0) e) in
          let tail : xs ≡ ys = same_lines_of xs ys rs ss zx.1 zy.1 (ap (drop 1) e) in
          ap (λ (j : ℕ). let line : Line = record { number = j } in line ∷ xs) head ∙ ap (λ (ls : List Line). y ∷ ls) tail

      -- two nodes of lines with the same cover and the same pins drive the same name
      same_out : (n m : NamedNode) → IsNodeOfLine G here.names names n → IsNodeOfLine G here.names names m → n.cover ≡ m.cover → n.reads ≡ m.reads → n.out ≡ m.out
      same_out n m x y c r =
          let gx : Gate = gate_at G.gates x.line.number in
          let gy : Gate = gate_at G.gates y.line.number in
          let lines : operands gx ≡ operands gy = same_lines_of (operands gx) (operands gy) x.reads y.reads x.zip y.zip (sym x.pins ∙ r ∙ y.pins) in
          let gates : gx ≡ gy = same_gates gx gy x.placed y.placed (sym x.cover ∙ c ∙ y.cover) lines in
          let at : x.line.number ≡ y.line.number = same_by_gate x.line y.line x.name y.name x.has y.has gates in
          let name : HasName names y.line x.name = ap (λ (j : ℕ). slice_index_or names j None) (sym at) ∙ x.has in
          x.out ∙ ap (text_of here.names) (same_name names y.line x.name y.name name y.has) ∙ sym y.out

      abbrev IsEither : NamedNode → Type 0
      IsEither n = IsNodeOfLine G here.names names n ⊎ IsBufOfRoot here.names names roots n

      inner_line : (n : NamedNode) → has_text (root_texts old.names roots) n.out ≡ false → IsEither n → IsNodeOfLine G here.names names n
      inner_line n e (inl is) = is
      inner_line n e (inr is) = absurd (lacks (root_texts old.names roots) n.out e (subst (Contains (root_texts old.names roots)) (sym is.out) (root_there is.root is.is_root)))

      -- a line's node with the cover and the pins of a node that came drives the same name
      same_out_of : (n m : NamedNode) → IsEither n → IsNodeOfLine G here.names names m → n.cover ≡ m.cover → n.reads ≡ m.reads → n.out ≡ m.out
      same_out_of n m (inl x) y c r = same_out n m x y c r
      same_out_of n m (inr x) y c r = absurd (no_buf (gate_at G.gates y.line.number) (sym y.cover ∙ sym c ∙ x.cover))

      pub inner_differ : InnerDiffer (root_texts old.names roots) (added_nodes old new)
      inner_differ = record {
        distinct = λ i j hi hj inner c r.
            let nodes = added_nodes old new in
            let either : All IsEither nodes = all_nodes IsEither (λ n is. inl is) (λ n is. inr is) in
            let y : IsNodeOfLine G here.names names (slice_index_or nodes j no_named) = inner_line (slice_index_or nodes j no_named) inner (either j no_named hj) in
            let out : (slice_index_or nodes i no_named).out ≡ (slice_index_or nodes j no_named).out
            = same_out_of (slice_index_or nodes i no_named) (slice_index_or nodes j no_named) (either i no_named hi) y c r in
            outs_once.distinct i j (omega (arith, length-map nodes (λ (n : NamedNode). n.out), hi)) (omega (arith, length-map nodes (λ (n : NamedNode). n.out), hj))
            (get_or-map (λ (n : NamedNode). n.out) nodes i no_named [] hi ∙ out ∙ sym (get_or-map (λ (n : NamedNode). n.out) nodes j no_named [] hj));
      }

-- roots keep their texts
pub root_texts_kept : (p q : PartsOf) (roots : List Root) → Extends p q → AreRootNames p roots → root_texts q.names roots ≡ root_texts p.names roots
root_texts_kept p q [] h named = refl
root_texts_kept p q (root ∷ roots) h named =
    ap (λ (t : List ℕ). t ∷ root_texts q.names roots) (text_kept p q root.name h (named 0 root (omega arith)))
    ∙ ap (λ (ts : List (List ℕ)). text_of p.names root.name ∷ ts) (root_texts_kept p q roots h (λ i d lt. named (suc i) d (omega arith)))
