-- Parts that nodes and names are added to, and names that realise signals in them.
use Rattle.std.proofs.Common.{◌≡◌, ℕ, zero, suc, ◌+◌, ◌<◌, ◌≤◌, ◌⊎◌, inl, inr, true, List, [], ◌∷◌, ◌++◌, map, length, take, get_or, slice_index_or, Option, None, Some, IfSome, All, refl, sym, ◌∙◌, ap, subst, arith}
use Rattle.std.specs.Fn.{iterate}
use Rattle.std.specs.List.{AllZip}
use Rattle.std.proofs.lemmas.Bool.{cases_lt, false≢true}
use Rattle.std.proofs.lemmas.List.{take_all, take_more, append-nil, append_assoc, length-append, get_or_append_left, get_or_at, get_or_past, length-map}
use Rattle.std.proofs.lemmas.List.Elements.{All-nil, All-cons, All-append, All-push}
use Rattle.tsc_cover.specs.Cover.{CoverTable}
use Rattle.tsc_cover.specs.Gates.{buf_cover}
use Rattle.tsc_net.specs.Named.{Named, NamedNode, no_named}
use Rattle.tsc_net.specs.Names.{text_at}
use Rattle.tsc_net.specs.Parts.{PartsOf, with_node, with_fresh, next_fresh}
use Rattle.tsc_net.specs.PartsView.{text_of, texts_of, IsName}
use Rattle.tsc_net.specs.declared.ids.Name.{Name}
use Rattle.gate_net.specs.declared.line.Line.{Line}
use Rattle.gate_net.specs.declared.root.Root.{Root}
use Rattle.gate_net.specs.declared.gate.Gate.{Gate}
use Rattle.gate_net.specs.declared.gate.Gate.TheVariants as gate
use Rattle.gate_net.specs.Signal.{Signal}
use Rattle.gate_net.specs.Signal.Signal.{Zero, One, Input, State, Not, And, Or, Xor}
use Rattle.gate_net.specs.Gates.{GateNetwork, IsHashed, IsLine, gate_at, gate_signal, meaning}
use Rattle.gate_net.specs.NodesOfLines.{has_node, cover_of, operands}
use Rattle.gate_net.specs.Written.{IsNamedGate, NameRealises, NameIsRoot, AddsFreshNames, Extends, HasName, AreBelow, NamesRealise, RootsRealise}
use Rattle.gate_net.proofs.Signals.{meaning_is}
use Rattle.tsc_net.proofs.FreshLemmas.{fresh_alike}

fresh_together : (m n : ℕ) (p : PartsOf) → iterate with_fresh n (iterate with_fresh m p) ≡ iterate with_fresh (m + n) p
fresh_together zero n p = let all : n ≡ 0 + n = omega arith in ap (λ (k : ℕ). iterate with_fresh k p) all
fresh_together (suc m) n p = let one : suc (m + n) ≡ suc m + n = omega arith in fresh_together m n (with_fresh p) ∙ ap (λ (k : ℕ). iterate with_fresh k p) one

fresh_twice : (a b c : PartsOf) → AddsFreshNames a b → AddsFreshNames b c → AddsFreshNames a c
fresh_twice a b c h k =
    let alike = fresh_alike k.count b (iterate with_fresh h.count a) h.names h.next in
    let together = fresh_together h.count k.count a in
    record {
      count = h.count + k.count;
      names = k.names ∙ alike.0 ∙ ap (λ (p : PartsOf). p.names) together;
      next = k.next ∙ alike.1 ∙ ap (λ (p : PartsOf). p.fresh) together;
    }

-- parts that stay
pub extends_not : (p : PartsOf) → Extends p p
extends_not p = record {
  added = [];
  more = [];
  nodes = sym (append-nil p.named.nodes);
  names = sym (append-nil p.names);
  fresh = record { count = 0; names = refl; next = refl };
  pins = All-nil (λ (n : NamedNode). length n.reads ≤ 2);
  model = refl;
  inputs = refl;
  outputs = refl;
  latches = refl;
}

-- parts that were extended twice have been extended
pub extends_twice : (a b c : PartsOf) → Extends a b → Extends b c → Extends a c
extends_twice a b c h k = record {
  added = h.added ++ k.added;
  more = h.more ++ k.more;
  nodes = k.nodes ∙ ap (λ (ns : List NamedNode). ns ++ k.added) h.nodes ∙ append_assoc a.named.nodes h.added k.added;
  names = k.names ∙ ap (λ (ns : List (List ℕ)). ns ++ k.more) h.names ∙ append_assoc a.names h.more k.more;
  fresh = fresh_twice a b c h.fresh k.fresh;
  pins = All-append (λ (n : NamedNode). length n.reads ≤ 2) h.added k.added h.pins k.pins;
  model = k.model ∙ h.model;
  inputs = k.inputs ∙ h.inputs;
  outputs = k.outputs ∙ h.outputs;
  latches = k.latches ∙ h.latches;
}

-- one fresh name more
pub extends_fresh : (p q : PartsOf) → q ≡ with_fresh p → Extends p q
extends_fresh p q e = subst (Extends p) (sym e) (record {
  added = [];
  more = next_fresh p ∷ [];
  nodes = sym (append-nil p.named.nodes);
  names = refl;
  fresh = record { count = 1; names = refl; next = refl };
  pins = All-nil (λ (n : NamedNode). length n.reads ≤ 2);
  model = refl;
  inputs = refl;
  outputs = refl;
  latches = refl;
})

-- one node more
pub extends_node : (p q : PartsOf) (reads : List (List ℕ)) (out : List ℕ) (cover : CoverTable) → length reads ≤ 2 → q ≡ with_node p reads out cover → Extends p q
extends_node p q reads out cover le e = subst (Extends p) (sym e) (record {
  added = record { reads = reads; out = out; cover = cover } ∷ [];
  more = [];
  nodes = refl;
  names = sym (append-nil p.names);
  fresh = record { count = 0; names = refl; next = refl };
  pins = All-cons (λ (n : NamedNode). length n.reads ≤ 2) (record { reads = reads; out = out; cover = cover }) [] le (All-nil (λ (n : NamedNode). length n.reads ≤ 2));
  model = refl;
  inputs = refl;
  outputs = refl;
  latches = refl;
})

pub extends_same : (p q : PartsOf) → q ≡ p → Extends p q
extends_same p q e = subst (Extends p) (sym e) (extends_not p)

pub names_grow : (p q : PartsOf) → Extends p q → length p.names ≤ length q.names
names_grow p q h = omega (arith, ap length h.names, length-append p.names h.more)

pub nodes_grow : (p q : PartsOf) → Extends p q → length p.named.nodes ≤ length q.named.nodes
nodes_grow p q h = omega (arith, ap length h.nodes, length-append p.named.nodes h.added)

-- a name keeps its text
pub text_kept : (p q : PartsOf) (name : Name) → Extends p q → IsName p.names name → text_of q.names name ≡ text_of p.names name
text_kept p q name h lt = ap (λ (names : List (List ℕ)). text_of names name) h.names ∙ get_or_append_left p.names h.more [] name.number lt

module _ (p q : PartsOf) (lo : ℕ) (h : Extends p q) where
  gate_kept : (out : List ℕ) (cover : CoverTable) (reads : List (List ℕ)) → IsNamedGate p.named lo out cover reads → IsNamedGate q.named lo out cover reads
  gate_kept out cover reads g = record {
    place = g.place;
    within = (let w = g.within in omega (arith, nodes_grow p q h));
    behind = g.behind;
    is_gate = ap (λ (nodes : List NamedNode). slice_index_or nodes g.place no_named) h.nodes ∙ get_or_append_left p.named.nodes h.added no_named g.place g.within ∙ g.is_gate;
  }

  -- a name still realises its signal
  pub realises_kept : (signal : Signal) (out : List ℕ) → NameRealises p.named lo signal out → NameRealises q.named lo signal out
  realises_kept Zero out r = gate_kept out _ [] r
  realises_kept One out r = gate_kept out _ [] r
  realises_kept (Input i) out r = (subst (λ (inputs : List (List ℕ)). i < length inputs) (sym h.inputs) r.0, r.1 ∙ ap (λ (inputs : List (List ℕ)). text_at inputs i) (sym h.inputs))
  realises_kept (State i) out r = (subst (λ latches. i < length latches) (sym h.latches) r.0, r.1 ∙ ap (λ latches. text_at (map (λ l. l.out) latches) i) (sym h.latches))
  realises_kept (Not a) out r = (r.0, gate_kept out _ (r.0 ∷ []) r.1, realises_kept a r.0 r.2)
  realises_kept (And a b) out r = (r.0, r.1, gate_kept out _ (r.0 ∷ (r.1 ∷ [])) r.2, realises_kept a r.0 r.3, realises_kept b r.1 r.4)
  realises_kept (Or a b) out r = (r.0, r.1, gate_kept out _ (r.0 ∷ (r.1 ∷ [])) r.2, realises_kept a r.0 r.3, realises_kept b r.1 r.4)
  realises_kept (Xor a b) out r = (r.0, r.1, gate_kept out _ (r.0 ∷ (r.1 ∷ [])) r.2, realises_kept a r.0 r.3, realises_kept b r.1 r.4)

  pub root_kept : (signal : Signal) (out : List ℕ) → NameIsRoot p.named lo signal out → NameIsRoot q.named lo signal out
  root_kept signal out (inl r) = inl (realises_kept signal out r)
  root_kept signal out (inr r) = inr (r.0, gate_kept out _ (r.0 ∷ []) r.1, realises_kept signal r.0 r.2)

  -- and so do the names of lines
  pub names_kept : (G : GateNetwork) (names : List (Option Name)) → AreBelow (length p.names) names → NamesRealise p lo G names → NamesRealise q lo G names
  names_kept G names below realise line name has =
      subst (NameRealises q.named lo (meaning G line)) (sym (text_kept p q name h (below line name has))) (realises_kept (meaning G line) (text_of p.names name) (realise line name has))

pub below_kept : (p q : PartsOf) (names : List (Option Name)) → Extends p q → AreBelow (length p.names) names → AreBelow (length q.names) names
below_kept p q names h below line name has = let b : name.number < length p.names = below line name has in omega (arith, names_grow p q h)

-- the names that were found for lines are among so many
pub names_below : (n : ℕ) (names : List (Option Name)) (lines : List Line) (reads : List Name) → AreBelow n names → AllZip (HasName names) lines reads → All (λ (name : Name). name.number < n) reads
names_below n names [] [] below h = All-nil (λ (name : Name). name.number < n)
names_below n names [] (name ∷ reads) below h = absurd h
names_below n names (line ∷ lines) [] below h = absurd h
names_below n names (line ∷ lines) (name ∷ reads) below h = All-cons (λ (m : Name). m.number < n) name reads (below line name h.0) (names_below n names lines reads below h.1)

pub names_within : (p q : PartsOf) (names : List (Option Name)) (lines : List Line) (reads : List Name) → Extends p q → AreBelow (length p.names) names → AllZip (HasName names) lines reads → All (IsName q.names) reads
names_within p q names lines reads h below z = names_below (length q.names) names lines reads (below_kept p q names h below) z

length-zip : (names : List (Option Name)) (lines : List Line) (reads : List Name) → AllZip (HasName names) lines reads → length reads ≡ length lines
length-zip names [] [] h = refl
length-zip names [] (name ∷ reads) h = absurd h
length-zip names (line ∷ lines) [] h = absurd h
length-zip names (line ∷ lines) (name ∷ reads) h = ap suc (length-zip names lines reads h.1)

width_of : (g : Gate) → (cover_of g).width ≡ length (operands g)
width_of gate.Zero = refl
width_of _ = refl

two_at_most : (g : Gate) → length (operands g) ≤ 2
two_at_most gate.Zero = omega arith
two_at_most _ = omega arith

-- a gate's cover has a pin for each name of its operands
pub pins_fit : (g : Gate) (names : List (Option Name)) (reads : List Name) (cover : CoverTable) → cover ≡ cover_of g → AllZip (HasName names) (operands g) reads → length reads ≡ cover.width
pins_fit g names reads cover e z = length-zip names (operands g) reads z ∙ sym (width_of g) ∙ ap (λ (c : CoverTable). c.width) (sym e)

pub gate_extends : (p q : PartsOf) (g : Gate) (names : List (Option Name)) (reads : List Name) (out : Name) (cover : CoverTable) → AllZip (HasName names) (operands g) reads
    → q ≡ with_node p (texts_of p.names reads) (text_of p.names out) cover → Extends p q
gate_extends p q g names reads out cover z e =
    extends_node p q (texts_of p.names reads) (text_of p.names out) cover (omega (arith, length-map reads (text_of p.names), length-zip names (operands g) reads z, two_at_most g)) e

-- the node that was added last
pub new_gate : (p q : PartsOf) (lo : ℕ) (reads : List (List ℕ)) (out : List ℕ) (cover : CoverTable) → lo ≤ length p.named.nodes → q ≡ with_node p reads out cover → IsNamedGate q.named lo out cover reads
new_gate p q lo reads out cover le e = subst (λ (r : PartsOf). IsNamedGate r.named lo out cover reads) (sym e) (record {
  place = length p.named.nodes;
  within = omega (arith, length-append p.named.nodes (record { reads = reads; out = out; cover = cover } ∷ []));
  behind = le;
  is_gate = get_or_at p.named.nodes (record { reads = reads; out = out; cover = cover }) [] no_named (length p.named.nodes) refl;
})

pub node_names : (p q : PartsOf) (reads : List (List ℕ)) (out : List ℕ) (cover : CoverTable) → q ≡ with_node p reads out cover → q.names ≡ p.names
node_names p q reads out cover e = ap (λ (r : PartsOf). r.names) e

module _ (q : PartsOf) (lo : ℕ) (G : GateNetwork) (names : List (Option Name)) (realise : NamesRealise q lo G names) where
  -- the node of a gate over names that realise its lines realises its signal
  pub gate_realises : (g : Gate) (reads : List Name) (out : List ℕ) → has_node g ≡ true → AllZip (HasName names) (operands g) reads → IsNamedGate q.named lo out (cover_of g) (texts_of q.names reads)
      → NameRealises q.named lo (gate_signal G g) out
  gate_realises (gate.Input i) reads out e z n = absurd (false≢true e)
  gate_realises (gate.State i) reads out e z n = absurd (false≢true e)
  gate_realises gate.Zero [] out e z n = n
  gate_realises gate.Zero (m ∷ reads) out e z n = absurd z
  gate_realises gate.One [] out e z n = n
  gate_realises gate.One (m ∷ reads) out e z n = absurd z
  gate_realises (gate.Not a) [] out e z n = absurd z
  gate_realises (gate.Not a) (m ∷ []) out e z n = (text_of q.names m, n, realise a m z.0)
  gate_realises (gate.Not a) (m ∷ (k ∷ reads)) out e z n = absurd z.1
  gate_realises (gate.And a b) [] out e z n = absurd z
  gate_realises (gate.And a b) (m ∷ []) out e z n = absurd z.1
  gate_realises (gate.And a b) (m ∷ (k ∷ [])) out e z n = (text_of q.names m, text_of q.names k, n, realise a m z.0, realise b k z.1.0)
  gate_realises (gate.And a b) (m ∷ (k ∷ (l ∷ reads))) out e z n = absurd z.1.1
  gate_realises (gate.Or a b) [] out e z n = absurd z
  gate_realises (gate.Or a b) (m ∷ []) out e z n = absurd z.1
  gate_realises (gate.Or a b) (m ∷ (k ∷ [])) out e z n = (text_of q.names m, text_of q.names k, n, realise a m z.0, realise b k z.1.0)
  gate_realises (gate.Or a b) (m ∷ (k ∷ (l ∷ reads))) out e z n = absurd z.1.1
  gate_realises (gate.Xor a b) [] out e z n = absurd z
  gate_realises (gate.Xor a b) (m ∷ []) out e z n = absurd z.1
  gate_realises (gate.Xor a b) (m ∷ (k ∷ [])) out e z n = (text_of q.names m, text_of q.names k, n, realise a m z.0, realise b k z.1.0)
  gate_realises (gate.Xor a b) (m ∷ (k ∷ (l ∷ reads))) out e z n = absurd z.1.1

-- a node that was written for a gate, after a name that may be fresh
pub node_realises : (p here q : PartsOf) (g : Gate) (names : List (Option Name)) (reads : List Name) (out : Name) (cover : CoverTable)
    → Extends p here → here.named ≡ p.named → AreBelow (length p.names) names → AllZip (HasName names) (operands g) reads → cover ≡ cover_of g
    → q ≡ with_node here (texts_of here.names reads) (text_of here.names out) cover
    → (G : GateNetwork) (lo : ℕ) → has_node g ≡ true → lo ≤ length p.named.nodes → NamesRealise p lo G names → NameRealises q.named lo (gate_signal G g) (text_of q.names out)
node_realises p here q g names reads out cover h same below z c e G lo placed le realise =
    let texts = texts_of here.names reads in
    let out_text = text_of here.names out in
    let k : Extends here q = gate_extends here q g names reads out cover z e in
    let all : NamesRealise q lo G names = names_kept p q lo (extends_twice p here q h k) G names below realise in
    let n : IsNamedGate q.named lo out_text cover texts = new_gate here q lo texts out_text cover (subst (λ (N : Named). lo ≤ length N.nodes) (sym same) le) e in
    let names_same : q.names ≡ here.names = node_names here q texts out_text cover e in
    let n2 : IsNamedGate q.named lo out_text (cover_of g) texts = subst (λ (k : CoverTable). IsNamedGate q.named lo out_text k texts) c n in
    let n3 : IsNamedGate q.named lo (text_of q.names out) (cover_of g) (texts_of q.names reads) = subst (λ (ns : List (List ℕ)). IsNamedGate q.named lo (text_of ns out) (cover_of g) (texts_of ns reads)) (sym names_same) n2 in
    gate_realises q lo G names all g reads (text_of q.names out) placed z n3

-- a Buf that was written for a root
pub buf_is_root : (p q : PartsOf) (names : List (Option Name)) (line : Line) (name root : Name) (reads : List Name) (cover : CoverTable)
    → AreBelow (length p.names) names → HasName names line name → reads ≡ name ∷ [] → cover ≡ buf_cover → q ≡ with_node p (texts_of p.names reads) (text_of p.names root) cover
    → (G : GateNetwork) (lo : ℕ) → lo ≤ length p.named.nodes → NamesRealise p lo G names → NameIsRoot q.named lo (meaning G line) (text_of q.names root)
buf_is_root p q names line name root reads cover below has r c e G lo le realise =
    let e2 : q ≡ with_node p (text_of p.names name ∷ []) (text_of p.names root) buf_cover = e ∙ ap (λ (list : List Name). with_node p (texts_of p.names list) (text_of p.names root) cover) r ∙ ap (λ (k : CoverTable). with_node p (text_of p.names name ∷ []) (text_of p.names root) k) c in
    let h : Extends p q = extends_node p q (text_of p.names name ∷ []) (text_of p.names root) buf_cover (omega arith) e2 in
    let n : IsNamedGate q.named lo (text_of p.names root) buf_cover (text_of p.names name ∷ []) = new_gate p q lo (text_of p.names name ∷ []) (text_of p.names root) buf_cover le e2 in
    let same : text_of q.names root ≡ text_of p.names root = ap (λ (ns : List (List ℕ)). text_of ns root) (node_names p q (text_of p.names name ∷ []) (text_of p.names root) buf_cover e2) in
    subst (NameIsRoot q.named lo (meaning G line)) (sym same) (inr (text_of p.names name, n, realises_kept p q lo h (meaning G line) (text_of p.names name) (realise line name has)))

pub buf_extends : (p q : PartsOf) (name root : Name) (reads : List Name) (cover : CoverTable) → reads ≡ name ∷ [] → q ≡ with_node p (texts_of p.names reads) (text_of p.names root) cover → Extends p q
buf_extends p q name root reads cover r e =
    extends_node p q (texts_of p.names reads) (text_of p.names root) cover (omega (arith, length-map reads (text_of p.names), ap length r)) e

-- the name at a place, if it is there, is one of so many
pub name_below : (n : ℕ) (names : List (Option Name)) (place : ℕ) → AreBelow n names → IfSome (slice_index_or names place None) (λ (name : Name). name.number < n)
name_below n names place below = at (slice_index_or names place None) refl
  where
    at : (o : Option Name) → slice_index_or names place None ≡ o → IfSome o (λ (name : Name). name.number < n)
    at None e = tt
    at (Some name) e = below (record { number = place }) name e

if_some_so : {X : Type 0} (P Q : X → Type 0) (o : Option X) → ((x : X) → P x → Q x) → IfSome o P → IfSome o Q
if_some_so P Q None so h = tt
if_some_so P Q (Some x) so h = so x h

pub if_some_at : {X : Type 0} (P : X → Type 0) (o : Option X) (x : X) → IfSome o P → o ≡ Some x → P x
if_some_at {X} P o x h e = subst (λ (z : Option X). IfSome z P) e h

none_some : (name : Name) → None ≡ Some name → ⊥
none_some name e = cc

-- a line more: its name is the one that was put, or an earlier line's
pub has_push : (names : List (Option Name)) (made : Option Name) (line : Line) (name : Name) → HasName (names ++ made ∷ []) line name → HasName names line name ⊎ ((line.number ≡ length names) × (made ≡ Some name))
has_push names made line name has =
    elim (cases_lt line.number (length names)) [
      | inl low ↦ inl (sym (get_or_append_left names (made ∷ []) None line.number low) ∙ has)
      | inr high ↦ at_end high (cases_lt (length names) line.number)
    ]
  where
    at_end : length names ≤ line.number → (length names < line.number) ⊎ (line.number ≤ length names) → HasName names line name ⊎ ((line.number ≡ length names) × (made ≡ Some name))
    at_end high (inl past) = absurd (none_some name (sym (get_or_past (names ++ made ∷ []) line.number None (omega (arith, length-append names (made ∷ [])))) ∙ has))
    at_end high (inr le) = let at : line.number ≡ length names = omega arith in inr (at, sym (get_or_at names made [] None line.number (sym at)) ∙ has)

pub below_push : (n : ℕ) (names : List (Option Name)) (made : Option Name) → AreBelow n names → IfSome made (λ (name : Name). name.number < n) → AreBelow n (names ++ made ∷ [])
below_push n names made below h line name has =
    elim (has_push names made line name has) [
      | inl before ↦ below line name before
      | inr here ↦ if_some_at (λ (m : Name). m.number < n) made name h here.1
    ]

pub realise_push : (q : PartsOf) (lo place : ℕ) (G : GateNetwork) (names : List (Option Name)) (made : Option Name) → IsHashed G → place < length G.gates → length names ≡ place → NamesRealise q lo G names
    → IfSome made (λ (name : Name). NameRealises q.named lo (gate_signal G (gate_at G.gates place)) (text_of q.names name)) → NamesRealise q lo G (names ++ made ∷ [])
realise_push q lo place G names made sound lt sized realise h line name has =
    elim (has_push names made line name has) [
      | inl before ↦ realise line name before
      | inr here ↦ (
          let at : line.number ≡ place = here.0 ∙ sized in
          let within : IsLine G line = omega arith in
          let r : NameRealises q.named lo (gate_signal G (gate_at G.gates place)) (text_of q.names name)
          = if_some_at (λ (m : Name). NameRealises q.named lo (gate_signal G (gate_at G.gates place)) (text_of q.names m)) made name h here.1 in
          subst (λ (signal : Signal). NameRealises q.named lo signal (text_of q.names name)) (sym (meaning_is G line sound within))
          (subst (λ (k : ℕ). NameRealises q.named lo (gate_signal G (gate_at G.gates k)) (text_of q.names name)) (sym at) r))
    ]

-- the names of lines, one line more
pub line_written : (start here q : PartsOf) (G : GateNetwork) (names seen names' : List (Option Name)) (place : ℕ) (g : Gate) (made : Option Name)
    → Extends start here → Extends here q → IsHashed G → place < length G.gates → length names ≡ place → seen ≡ names → g ≡ gate_at G.gates place → names' ≡ names ++ made ∷ [] → AreBelow (length here.names) names
    → NamesRealise here (length start.named.nodes) G names
    → IfSome made (λ (name : Name). (H : GateNetwork) (lo : ℕ) → lo ≤ length here.named.nodes → NamesRealise here lo H seen → NameRealises q.named lo (gate_signal H g) (text_of q.names name))
    → NamesRealise q (length start.named.nodes) G names'
line_written start here q G names seen names' place g made h k sound lt sized same at e below realise written =
    let lo = length start.named.nodes in
    let now : IfSome made (λ (name : Name). NameRealises q.named lo (gate_signal G (gate_at G.gates place)) (text_of q.names name))
    = if_some_so (λ (name : Name). (H : GateNetwork) (lo : ℕ) → lo ≤ length here.named.nodes → NamesRealise here lo H seen → NameRealises q.named lo (gate_signal H g) (text_of q.names name))
    (λ (name : Name). NameRealises q.named lo (gate_signal G (gate_at G.gates place)) (text_of q.names name)) made
    (λ name f. subst (λ (other : Gate). NameRealises q.named lo (gate_signal G other) (text_of q.names name)) at (f G lo (nodes_grow start here h) (subst (NamesRealise here lo G) (sym same) realise))) written in
    subst (NamesRealise q lo G) (sym e) (realise_push q lo place G names made sound lt sized (names_kept here q lo k G names below realise) now)

pub line_below : (here q : PartsOf) (names names' : List (Option Name)) (made : Option Name) → Extends here q → names' ≡ names ++ made ∷ [] → AreBelow (length here.names) names → IfSome made (IsName q.names) → AreBelow (length q.names) names'
line_below here q names names' made k e below h = subst (AreBelow (length q.names)) (sym e) (below_push (length q.names) names made (below_kept here q names k below) h)

-- no line has a name yet
no_name : (names : List (Option Name)) (line : Line) (name : Name) → names ≡ [] → HasName names line name → ⊥
no_name names line name e has = none_some name (ap (λ (list : List (Option Name)). slice_index_or list line.number None) (sym e) ∙ has)

pub below_nil : (n : ℕ) (names : List (Option Name)) → names ≡ [] → AreBelow n names
below_nil n names e line name has = absurd (no_name names line name e has)

pub realise_nil : (p : PartsOf) (lo : ℕ) (G : GateNetwork) (names : List (Option Name)) → names ≡ [] → NamesRealise p lo G names
realise_nil p lo G names e line name has = absurd (no_name names line name e has)

-- a root more
pub roots_more : (p q : PartsOf) (lo : ℕ) (G : GateNetwork) (roots : List Root) (i : ℕ) (d : Root) → Extends p q → q.names ≡ p.names → i < length roots → RootsRealise p lo G (take i roots)
    → NameIsRoot q.named lo (meaning G (get_or roots i d).line) (text_of q.names (get_or roots i d).name) → RootsRealise q lo G (take (i + 1) roots)
roots_more p q lo G roots i d h same lt before here =
    subst (RootsRealise q lo G) (sym (take_more roots i d lt))
    (All-push (λ (root : Root). NameIsRoot q.named lo (meaning G root.line) (text_of q.names root.name)) (take i roots) (get_or roots i d) kept here)
  where
    kept : All (λ (root : Root). NameIsRoot q.named lo (meaning G root.line) (text_of q.names root.name)) (take i roots)
    kept k e low =
        let root : Root = slice_index_or (take i roots) k e in
        subst (NameIsRoot q.named lo (meaning G root.line)) (ap (λ (ns : List (List ℕ)). text_of ns root.name) (sym same)) (root_kept p q lo h (meaning G root.line) (text_of p.names root.name) (before k e low))

pub roots_all : (p : PartsOf) (lo : ℕ) (G : GateNetwork) (roots : List Root) (i : ℕ) → length roots ≤ i → RootsRealise p lo G (take i roots) → RootsRealise p lo G roots
roots_all p lo G roots i le h = subst (RootsRealise p lo G) (take_all i roots le) h
