-- A line more that is written: it gets no name, or its owner's, or a node.
use Rattle.std.proofs.Common.{◌≡◌, ℕ, ◌<◌, inl, inr, true, false, List, [], ◌∷◌, ◌++◌, map, length, drop, slice_index_or, Option, None, Some, All, refl, sym, ◌∙◌, ap, subst}
use Rattle.std.specs.List.{AllZip}
use Rattle.std.proofs.lemmas.Bool.{false≢true}
use Rattle.std.proofs.lemmas.List.{get_or_push}
use Rattle.std.proofs.lemmas.List.Elements.{All-nil, All-cons}
use Rattle.tsc_cover.specs.Cover.{CoverTable}
use Rattle.tsc_net.specs.Named.{Named, NamedNode}
use Rattle.tsc_net.specs.Names.{has_text, IsNumbering}
use Rattle.tsc_net.specs.Parts.{PartsOf, with_node, with_fresh, next_fresh}
use Rattle.tsc_net.specs.PartsView.{text_of, texts_of}
use Rattle.tsc_net.specs.declared.ids.Name.{Name}
use Rattle.gate_net.specs.declared.line.Line.{Line}
use Rattle.gate_net.specs.declared.gate.Gate.{Gate}
use Rattle.gate_net.specs.declared.gate.Gate.TheVariants as gate
use Rattle.gate_net.specs.Gates.{GateNetwork, gate_at}
use Rattle.gate_net.specs.NodesOfLines.{has_node, cover_of, operands}
use Rattle.gate_net.specs.Written.{Extends, HasName, AreBelow}
use Rattle.gate_net.specs.Added.{added_nodes, added_names, IsFresh, IsFreshOut}
use Rattle.gate_net.specs.Writing.{AddsNode, NamesGate, NamesIfNeeded, OwnersDiffer, IsNodeOfLine, AreWritten}
use Rattle.gate_net.proofs.Texts.{lacks_left, numbering_none}
use Rattle.gate_net.proofs.Written.{node_names}
use Rattle.gate_net.proofs.Lines.{IsNewName, node_came, none_came, no_name_came, one_name_came, none_some, some_is, zip_more, written_same, written_node}

-- no line yet
pub written_none : (p : PartsOf) (G : GateNetwork) (owners names : List (Option Name)) → names ≡ [] → AreWritten p p G owners names
written_none p G owners names e = record {
  nodes = subst (All (IsNodeOfLine G p.names names)) (sym (none_came p p refl)) (All-nil (IsNodeOfLine G p.names names));
  outs = subst IsNumbering (sym (ap (map (λ (n : NamedNode). n.out)) (none_came p p refl))) numbering_none;
  fresh = subst (All (IsFreshOut p p)) (sym (no_name_came p p refl)) (All-nil (IsFreshOut p p));
  named = λ line name has. absurd (no_line line name has);
  apart = λ a b m n has other placed same. absurd (no_line a m has);
}
  where
    no_line : (line : Line) (name : Name) → HasName names line name → ⊥
    no_line line name has = none_some name (ap (λ (list : List (Option Name)). slice_index_or list line.number None) (sym e) ∙ has)

-- the node of a gate is that of the line that comes next
abbrev node_of_line : (p q : PartsOf) (G : GateNetwork) (names : List (Option Name)) (place : ℕ) (g : Gate) (c : Name) (reads : List Name) (cover : CoverTable)
    → place < length G.gates → length names ≡ place → g ≡ gate_at G.gates place → has_node g ≡ true → AllZip (HasName names) (operands g) reads → cover ≡ cover_of g → q.names ≡ p.names
    → IsNodeOfLine G q.names (names ++ Some c ∷ []) (record { reads = texts_of p.names reads; out = text_of p.names c; cover = cover })
node_of_line p q G names place g c reads cover lt sized is_gate placed zip is_cover same = record {
  line = record { number = place };
  name = c;
  reads = reads;
  within = lt;
  placed = subst (λ (x : Gate). has_node x ≡ true) is_gate placed;
  has = get_or_push names (Some c) None place sized;
  zip = subst (λ (x : Gate). AllZip (HasName (names ++ Some c ∷ [])) (operands x) reads) is_gate (zip_more names (Some c) (operands g) reads zip);
  pins = ap (λ (ns : List (List ℕ)). texts_of ns reads) (sym same);
  out = ap (λ (ns : List (List ℕ)). text_of ns c) (sym same);
  cover = is_cover ∙ ap cover_of is_gate;
}

-- the text of the fresh name that was added
fresh_text_is : (p q : PartsOf) (c : Name) → q ≡ with_fresh p → c.number ≡ length p.names → text_of q.names c ≡ next_fresh p
fresh_text_is p q c e at = ap (λ (r : PartsOf). text_of r.names c) e ∙ get_or_push p.names (next_fresh p) [] c.number (sym at)

abbrev pub IsFreshOutOf : PartsOf → List ℕ → List ℕ → Type 0
IsFreshOutOf start out text = IsFresh start text × (text ≡ out)

module _ (start here q : PartsOf) (G : GateNetwork) (owners names : List (Option Name)) (place : ℕ)
    (h : Extends start here) (k : Extends here q) (below : AreBelow (length start.names) owners) (within : AreBelow (length here.names) names)
    (differ : OwnersDiffer start G owners) (w : AreWritten start here G owners names) (sized : length names ≡ place) (lt : place < length G.gates) where
  owned : (line : Line) (c name : Name) → line.number ≡ length names → Some c ≡ Some name → slice_index_or owners place None ≡ Some c → HasName owners line name
  owned line c name at same own = ap (λ (j : ℕ). slice_index_or owners j None) (at ∙ sized) ∙ own ∙ same

  -- a node came, after a name that may have come too
  by_node : (g : Gate) (c : Name) (mid : PartsOf) (reads : List Name) (cover : CoverTable) → g ≡ gate_at G.gates place → has_node g ≡ true → AllZip (HasName names) (operands g) reads → cover ≡ cover_of g
      → q ≡ with_node mid (texts_of mid.names reads) (text_of mid.names c) cover → mid.named ≡ here.named
      → ((line : Line) (name : Name) → line.number ≡ length names → Some c ≡ Some name → IsNewName here q owners line name)
      → All (IsFreshOutOf start (text_of mid.names c)) (added_names here q) → AreWritten start q G owners (names ++ Some c ∷ [])
  by_node g c mid reads cover is_gate placed zip is_cover node same new fresh =
      let n : NamedNode = record { reads = texts_of mid.names reads; out = text_of mid.names c; cover = cover } in
      let is : IsNodeOfLine G q.names (names ++ Some c ∷ []) n
      = node_of_line mid q G names place g c reads cover lt sized is_gate placed zip is_cover (node_names mid q (texts_of mid.names reads) (text_of mid.names c) cover node) in
      let came : added_nodes here q ≡ n ∷ []
      = ap (λ (N : Named). drop (length N.nodes) q.named.nodes) (sym same) ∙ node_came mid q (texts_of mid.names reads) (text_of mid.names c) cover node in
      written_node start here q G owners names (Some c) h k below within differ w new n is (sym sized) came fresh

  with_owner : (g : Gate) (c o : Name) → g ≡ gate_at G.gates place → has_node g ≡ true → slice_index_or owners place None ≡ Some o → AddsNode here q g names (Some o) c → AreWritten start q G owners (names ++ Some c ∷ [])
  with_owner g c o is_gate placed own a =
      let stays : a.here ≡ here = a.named.0 in
      let names_same : q.names ≡ here.names = node_names a.here q (texts_of a.here.names a.reads) (text_of a.here.names c) a.cover a.node ∙ ap (λ (p : PartsOf). p.names) stays in
      let own_c : slice_index_or owners place None ≡ Some c = own ∙ ap (λ (m : Name). let made : Option Name = Some m in made) (sym a.named.1) in
      by_node g c a.here a.reads a.cover is_gate placed a.zip a.is_cover a.node (ap (λ (p : PartsOf). p.named) stays) (λ line name at is. inl (owned line c name at is own_c))
      (subst (All (IsFreshOutOf start (text_of a.here.names c))) (sym (no_name_came here q names_same)) (All-nil (IsFreshOutOf start (text_of a.here.names c))))

  with_fresh_name : (g : Gate) (c : Name) → g ≡ gate_at G.gates place → has_node g ≡ true → AddsNode here q g names None c → AreWritten start q G owners (names ++ Some c ∷ [])
  with_fresh_name g c is_gate placed a =
      let grown : a.here ≡ with_fresh here = a.named.0 in
      let t : List ℕ = next_fresh here in
      let same : q.names ≡ a.here.names = node_names a.here q (texts_of a.here.names a.reads) (text_of a.here.names c) a.cover a.node in
      let text_c : text_of a.here.names c ≡ t = fresh_text_is here a.here c grown a.named.1 in
      let text_q : text_of q.names c ≡ t = ap (λ (ns : List (List ℕ)). text_of ns c) same ∙ text_c in
      let absent : IsFresh here t = a.named.2 in
      let absent_start : IsFresh start t = lacks_left start.names h.more t (subst (λ (ns : List (List ℕ)). has_text ns t ≡ false) h.names absent) in
      by_node g c a.here a.reads a.cover is_gate placed a.zip a.is_cover a.node (ap (λ (p : PartsOf). p.named) grown)
      (λ line name at is. inr (subst (λ (m : Name). IsFresh here (text_of q.names m)) (some_is c name is) (subst (IsFresh here) (sym text_q) absent)))
      (subst (All (IsFreshOutOf start (text_of a.here.names c))) (sym (one_name_came here q t (same ∙ ap (λ (p : PartsOf). p.names) grown)))
      (All-cons (IsFreshOutOf start (text_of a.here.names c)) t [] (absent_start, sym text_c) (All-nil (IsFreshOutOf start (text_of a.here.names c)))))

  with_node_of : (g : Gate) (c : Name) → g ≡ gate_at G.gates place → has_node g ≡ true → (o : Option Name) → slice_index_or owners place None ≡ o → AddsNode here q g names o c → AreWritten start q G owners (names ++ Some c ∷ [])
  with_node_of g c is_gate placed None own a = with_fresh_name g c is_gate placed a
  with_node_of g c is_gate placed (Some o) own a = with_owner g c o is_gate placed own a

  with_source : (c : Name) → slice_index_or owners place None ≡ Some c → q ≡ here → AreWritten start q G owners (names ++ Some c ∷ [])
  with_source c own e = written_same start here q G owners names (Some c) h k below within differ w (λ line name at is. inl (owned line c name at is own)) e

  with_name : (g : Gate) (c : Name) → g ≡ gate_at G.gates place → NamesGate here q g names (slice_index_or owners place None) c → AreWritten start q G owners (names ++ Some c ∷ [])
  with_name (gate.Input i) c is_gate r = with_source c r.1 r.0
  with_name (gate.State i) c is_gate r = with_source c r.1 r.0
  with_name gate.Zero c is_gate r = with_node_of gate.Zero c is_gate refl (slice_index_or owners place None) refl r
  with_name gate.One c is_gate r = with_node_of gate.One c is_gate refl (slice_index_or owners place None) refl r
  with_name (gate.Not a) c is_gate r = with_node_of (gate.Not a) c is_gate refl (slice_index_or owners place None) refl r
  with_name (gate.And a b) c is_gate r = with_node_of (gate.And a b) c is_gate refl (slice_index_or owners place None) refl r
  with_name (gate.Or a b) c is_gate r = with_node_of (gate.Or a b) c is_gate refl (slice_index_or owners place None) refl r
  with_name (gate.Xor a b) c is_gate r = with_node_of (gate.Xor a b) c is_gate refl (slice_index_or owners place None) refl r

  with_line : (g : Gate) (made : Option Name) → g ≡ gate_at G.gates place → NamesIfNeeded here q g names (slice_index_or owners place None) made → AreWritten start q G owners (names ++ made ∷ [])
  with_line g None is_gate r = written_same start here q G owners names None h k below within differ w (λ line name at is. absurd (none_some name is)) r
  with_line g (Some c) is_gate r = with_name g c is_gate r

  -- a line more
  pub line_more : (names' seen : List (Option Name)) (g : Gate) (made : Option Name) → g ≡ gate_at G.gates place → seen ≡ names → names' ≡ names ++ made ∷ []
      → NamesIfNeeded here q g seen (slice_index_or owners place None) made → AreWritten start q G owners names'
  line_more names' seen g made is_gate same e r =
      subst (AreWritten start q G owners) (sym e) (with_line g made is_gate (subst (λ (list : List (Option Name)). NamesIfNeeded here q g list (slice_index_or owners place None) made) same r))

-- a node written for a gate is the step that the gate takes
pub names_gate : (old new : PartsOf) (g : Gate) (names : List (Option Name)) (owner : Option Name) (name : Name) → has_node g ≡ true → AddsNode old new g names owner name → NamesGate old new g names owner name
names_gate old new gate.Zero names owner name e a = a
names_gate old new gate.One names owner name e a = a
names_gate old new (gate.Input i) names owner name e a = absurd (false≢true e)
names_gate old new (gate.State i) names owner name e a = absurd (false≢true e)
names_gate old new (gate.Not x) names owner name e a = a
names_gate old new (gate.And x y) names owner name e a = a
names_gate old new (gate.Or x y) names owner name e a = a
names_gate old new (gate.Xor x y) names owner name e a = a
