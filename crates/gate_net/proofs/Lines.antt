-- The lines that were written so far: which nodes came, what they drive, and which names the lines have.
use Rattle.std.proofs.Common.{◌≡◌, ℕ, ◌<◌, ◌≤◌, ◌⊎◌, inl, inr, true, false, List, [], ◌∷◌, ◌++◌, map, length, drop, Option, None, Some, All, Contains, refl, sym, ◌∙◌, ap, subst, arith, true≢false}
use Rattle.std.specs.List.{AllZip}
use Rattle.std.proofs.lemmas.Bool.{cases_lt}
use Rattle.std.proofs.lemmas.List.{map-append, drop_at, drop_all, drop-append-le, get_or_append_left, get_or_past}
use Rattle.std.proofs.lemmas.List.Elements.{All-append, All-push, All-weaker, All-contains, Contains-append_left, Contains-push}
use Rattle.tsc_cover.specs.Cover.{CoverTable}
use Rattle.tsc_net.specs.Named.{NamedNode, no_named}
use Rattle.tsc_net.specs.Names.{has_text, IsNumbering}
use Rattle.tsc_net.specs.Parts.{PartsOf, with_node}
use Rattle.tsc_net.specs.PartsView.{text_of, texts_of}
use Rattle.tsc_net.specs.declared.ids.Name.{Name}
use Rattle.tsc_net.proofs.NameLemmas.{has_text_at}
use Rattle.gate_net.specs.declared.line.Line.{Line}
use Rattle.gate_net.specs.Gates.{GateNetwork, gate_at}
use Rattle.gate_net.specs.NodesOfLines.{operands}
use Rattle.gate_net.specs.Written.{Extends, HasName, AreBelow}
use Rattle.gate_net.specs.Added.{added_nodes, added_outs, added_names, IsFresh, IsFreshOut, AreFreshOuts}
use Rattle.gate_net.specs.Writing.{HasNodeAt, OwnersDiffer, IsNameOf, IsNodeOfLine, AreWritten}
use Rattle.gate_net.proofs.Texts.{lacks_left, numbering_push, mapped_from}
use Rattle.gate_net.proofs.Written.{extends_twice, text_kept, names_grow, nodes_grow, has_push}

-- what came in two steps
pub nodes_two : (a b c : PartsOf) → Extends a b → Extends b c → added_nodes a c ≡ added_nodes a b ++ added_nodes b c
nodes_two a b c h k =
    ap (drop (length a.named.nodes)) k.nodes ∙ drop-append-le (length a.named.nodes) b.named.nodes k.added (nodes_grow a b h)
    ∙ ap (λ (ns : List NamedNode). added_nodes a b ++ ns) (sym (ap (drop (length b.named.nodes)) k.nodes ∙ drop_at b.named.nodes k.added (length b.named.nodes) refl))

pub outs_two : (a b c : PartsOf) → Extends a b → Extends b c → added_outs a c ≡ added_outs a b ++ added_outs b c
outs_two a b c h k = ap (map (λ (n : NamedNode). n.out)) (nodes_two a b c h k) ∙ map-append (λ (n : NamedNode). n.out) (added_nodes a b) (added_nodes b c)

pub names_two : (a b c : PartsOf) → Extends a b → Extends b c → added_names a c ≡ added_names a b ++ added_names b c
names_two a b c h k =
    ap (drop (length a.names)) k.names ∙ drop-append-le (length a.names) b.names k.more (names_grow a b h)
    ∙ ap (λ (ns : List (List ℕ)). added_names a b ++ ns) (sym (ap (drop (length b.names)) k.names ∙ drop_at b.names k.more (length b.names) refl))

-- what came is what the extension says
pub nodes_came : (a b : PartsOf) (h : Extends a b) → added_nodes a b ≡ h.added
nodes_came a b h = ap (drop (length a.named.nodes)) h.nodes ∙ drop_at a.named.nodes h.added (length a.named.nodes) refl

-- one node came
pub node_came : (p q : PartsOf) (reads : List (List ℕ)) (out : List ℕ) (cover : CoverTable) → q ≡ with_node p reads out cover
    → added_nodes p q ≡ record { reads = reads; out = out; cover = cover } ∷ []
node_came p q reads out cover e =
    ap (λ (r : PartsOf). drop (length p.named.nodes) r.named.nodes) e
    ∙ drop_at p.named.nodes (record { reads = reads; out = out; cover = cover } ∷ []) (length p.named.nodes) refl

pub none_came : (p q : PartsOf) → q ≡ p → added_nodes p q ≡ []
none_came p q e = ap (λ (r : PartsOf). drop (length p.named.nodes) r.named.nodes) e ∙ drop_all (length p.named.nodes) p.named.nodes (omega arith)

pub no_name_came : (p q : PartsOf) → q.names ≡ p.names → added_names p q ≡ []
no_name_came p q e = ap (drop (length p.names)) e ∙ drop_all (length p.names) p.names (omega arith)

pub one_name_came : (p q : PartsOf) (t : List ℕ) → q.names ≡ p.names ++ t ∷ [] → added_names p q ≡ t ∷ []
one_name_came p q t e = ap (drop (length p.names)) e ∙ drop_at p.names (t ∷ []) (length p.names) refl

pub none_some : (name : Name) → None ≡ Some name → ⊥
none_some name e = cc

pub some_is : (m n : Name) → Some m ≡ Some n → m ≡ n
some_is m n e = cc

-- a line with a name is among those that were gone over
pub has_below : (names : List (Option Name)) (line : Line) (name : Name) → HasName names line name → line.number < length names
has_below names line name has = elim (cases_lt line.number (length names)) [
  | inl low ↦ low
  | inr high ↦ absurd (none_some name (sym (get_or_past names line.number None high) ∙ has))
]

pub same_name : (names : List (Option Name)) (line : Line) (m n : Name) → HasName names line m → HasName names line n → m ≡ n
same_name names line m n h k = some_is m n (sym h ∙ k)

has_more : (names : List (Option Name)) (made : Option Name) (line : Line) (name : Name) → HasName names line name → HasName (names ++ made ∷ []) line name
has_more names made line name has = get_or_append_left names (made ∷ []) None line.number (has_below names line name has) ∙ has

pub zip_more : (names : List (Option Name)) (made : Option Name) (lines : List Line) (reads : List Name) → AllZip (HasName names) lines reads → AllZip (HasName (names ++ made ∷ [])) lines reads
zip_more names made [] [] z = tt
zip_more names made [] (name ∷ reads) z = absurd z
zip_more names made (line ∷ lines) [] z = absurd z
zip_more names made (line ∷ lines) (name ∷ reads) z = (has_more names made line name z.0, zip_more names made lines reads z.1)

-- the names of lines keep their texts
pub texts_kept : (p q : PartsOf) (names : List (Option Name)) (lines : List Line) (reads : List Name) → Extends p q → AreBelow (length p.names) names → AllZip (HasName names) lines reads
    → texts_of q.names reads ≡ texts_of p.names reads
texts_kept p q names [] [] h below z = refl
texts_kept p q names [] (name ∷ reads) h below z = absurd z
texts_kept p q names (line ∷ lines) [] h below z = absurd z
texts_kept p q names (line ∷ lines) (name ∷ reads) h below z =
    ap (λ (t : List ℕ). t ∷ texts_of q.names reads) (text_kept p q name h (below line name z.0)) ∙ ap (λ (ts : List (List ℕ)). text_of p.names name ∷ ts) (texts_kept p q names lines reads h below z.1)

-- a name is its line's owner's, or stood nowhere in the parts so far
abbrev pub IsNewName : PartsOf → PartsOf → List (Option Name) → Line → Name → Type 0
IsNewName here q owners line name = HasName owners line name ⊎ IsFresh here (text_of q.names name)

-- parts that lines are written into, one line after those before
module _ (start here q : PartsOf) (G : GateNetwork) (owners names : List (Option Name)) (made : Option Name)
    (h : Extends start here) (k : Extends here q) (below : AreBelow (length start.names) owners) (within : AreBelow (length here.names) names)
    (differ : OwnersDiffer start G owners) (w : AreWritten start here G owners names) where
  both : Extends start q
  both = extends_twice start here q h k

  owner_text : (line : Line) (name : Name) → HasName owners line name → text_of q.names name ≡ text_of start.names name
  owner_text line name has = text_kept start q name both (below line name has)

  owner_there : (line : Line) (name : Name) → HasName owners line name → has_text start.names (text_of q.names name) ≡ true
  owner_there line name has = has_text_at start.names (text_of q.names name) name.number (below line name has) (sym (owner_text line name has))

  old_text : (line : Line) (name : Name) → HasName names line name → text_of q.names name ≡ text_of here.names name
  old_text line name has = text_kept here q name k (within line name has)

  old_there : (line : Line) (name : Name) → HasName names line name → has_text here.names (text_of q.names name) ≡ true
  old_there line name has = has_text_at here.names (text_of q.names name) name.number (within line name has) (sym (old_text line name has))

  old_named : (line : Line) (name : Name) → HasName names line name → IsNameOf start owners line name (text_of q.names name)
  old_named line name has = subst (IsNameOf start owners line name) (sym (old_text line name has)) (w.named line name has)

  fresh_then : (t : List ℕ) → IsFresh here t → IsFresh start t
  fresh_then t e = lacks_left start.names h.more t (subst (λ (ns : List (List ℕ)). has_text ns t ≡ false) h.names e)

  new_named : (line : Line) (name : Name) → IsNewName here q owners line name → IsNameOf start owners line name (text_of q.names name)
  new_named line name (inl has) = inl has
  new_named line name (inr e) = inr (fresh_then (text_of q.names name) e)

  -- an earlier line's name and a new one
  old_and_new : (a b : Line) (m n : Name) → HasName names a m → IsNewName here q owners b n → HasNodeAt G a ⊎ HasNodeAt G b → text_of q.names m ≡ text_of q.names n → a.number ≡ b.number
  old_and_new a b m n has (inr e) placed same = absurd (true≢false (sym (old_there a m has) ∙ ap (has_text here.names) same ∙ e))
  old_and_new a b m n has (inl owned) placed same = by (old_named a m has) placed
    where
      by : IsNameOf start owners a m (text_of q.names m) → HasNodeAt G a ⊎ HasNodeAt G b → a.number ≡ b.number
      by (inr e) placed = absurd (true≢false (sym (owner_there b n owned) ∙ ap (has_text start.names) (sym same) ∙ e))
      by (inl own) (inl here_a) = differ a b m n own owned here_a (sym (owner_text a m own) ∙ same ∙ owner_text b n owned)
      by (inl own) (inr here_b) = sym (differ b a n m owned own here_b (sym (owner_text b n owned) ∙ sym same ∙ owner_text a m own))

  module _ (new : (line : Line) (name : Name) → line.number ≡ length names → made ≡ Some name → IsNewName here q owners line name) where
    named_more : (line : Line) (name : Name) → HasName (names ++ made ∷ []) line name → IsNameOf start owners line name (text_of q.names name)
    named_more line name has = elim (has_push names made line name has) [
      | inl before ↦ old_named line name before
      | inr now ↦ new_named line name (new line name now.0 now.1)
    ]

    apart_more : (a b : Line) (m n : Name) → HasName (names ++ made ∷ []) a m → HasName (names ++ made ∷ []) b n → HasNodeAt G a → text_of q.names m ≡ text_of q.names n → a.number ≡ b.number
    apart_more a b m n ha hb placed same = elim (has_push names made a m ha) [
      | inl old_a ↦ elim (has_push names made b n hb) [
        | inl old_b ↦ w.apart a b m n old_a old_b placed (sym (old_text a m old_a) ∙ same ∙ old_text b n old_b)
        | inr new_b ↦ old_and_new a b m n old_a (new b n new_b.0 new_b.1) (inl placed) same
      ]
      | inr new_a ↦ elim (has_push names made b n hb) [
        | inl old_b ↦ sym (old_and_new b a n m old_b (new a m new_a.0 new_a.1) (inr placed) (sym same))
        | inr new_b ↦ new_a.0 ∙ sym new_b.0
      ]
    ]

    node_more : (n : NamedNode) → IsNodeOfLine G here.names names n → IsNodeOfLine G q.names (names ++ made ∷ []) n
    node_more n is = record {
      line = is.line;
      name = is.name;
      reads = is.reads;
      within = is.within;
      placed = is.placed;
      has = has_more names made is.line is.name is.has;
      zip = zip_more names made (operands (gate_at G.gates is.line.number)) is.reads is.zip;
      pins = is.pins ∙ sym (texts_kept here q names (operands (gate_at G.gates is.line.number)) is.reads k within is.zip);
      out = is.out ∙ sym (old_text is.line is.name is.has);
      cover = is.cover;
    }

    nodes_kept : All (IsNodeOfLine G q.names (names ++ made ∷ [])) (added_nodes start here)
    nodes_kept = All-weaker (IsNodeOfLine G here.names names) (IsNodeOfLine G q.names (names ++ made ∷ [])) node_more (added_nodes start here) w.nodes

    -- the parts stayed
    pub written_same : q ≡ here → AreWritten start q G owners (names ++ made ∷ [])
    written_same e = record {
      nodes = subst (All (IsNodeOfLine G q.names (names ++ made ∷ []))) (sym (ap (added_nodes start) e)) nodes_kept;
      outs = subst (λ (p : PartsOf). IsNumbering (added_outs start p)) (sym e) w.outs;
      fresh = subst (AreFreshOuts start) (sym e) w.fresh;
      named = named_more;
      apart = apart_more;
    }

    -- a node came, which is the line's
    module _ (n : NamedNode) (is : IsNodeOfLine G q.names (names ++ made ∷ []) n) (at : is.line.number ≡ length names) (came : added_nodes here q ≡ n ∷ [])
        (fresh : All (λ (text : List ℕ). IsFresh start text × (text ≡ n.out)) (added_names here q)) where
      outs_came : added_outs start q ≡ added_outs start here ++ n.out ∷ []
      outs_came = outs_two start here q h k ∙ ap (λ (ns : List NamedNode). added_outs start here ++ map (λ (m : NamedNode). m.out) ns) came

      -- no earlier node drives its name
      out_is_new : Contains (added_outs start here) n.out → ⊥
      out_is_new c =
          let found = mapped_from (λ (m : NamedNode). m.out) (added_nodes start here) n.out no_named c in
          let earlier : IsNodeOfLine G here.names names found.0 = All-contains (IsNodeOfLine G here.names names) (added_nodes start here) found.0 w.nodes found.1 in
          let same : text_of q.names earlier.name ≡ text_of q.names is.name = old_text earlier.line earlier.name earlier.has ∙ sym earlier.out ∙ found.2 ∙ is.out in
          let lines : earlier.line.number ≡ is.line.number = apart_more earlier.line is.line earlier.name is.name (has_more names made earlier.line earlier.name earlier.has) is.has earlier.placed same in
          let low : earlier.line.number < length names = has_below names earlier.line earlier.name earlier.has in
          omega arith

      old_fresh : (t : List ℕ) → IsFreshOut start here t → IsFreshOut start q t
      old_fresh t f = (f.0, subst (λ (ts : List (List ℕ)). Contains ts t) (sym outs_came) (Contains-append_left (added_outs start here) (n.out ∷ []) t f.1))

      new_fresh : (t : List ℕ) → IsFresh start t × (t ≡ n.out) → IsFreshOut start q t
      new_fresh t f =
          (f.0, subst (λ (ts : List (List ℕ)). Contains ts t) (sym outs_came) (subst (Contains (added_outs start here ++ n.out ∷ [])) (sym f.1) (Contains-push (added_outs start here) n.out)))

      all_fresh : AreFreshOuts start q
      all_fresh =
          subst (All (IsFreshOut start q)) (sym (names_two start here q h k))
          (All-append (IsFreshOut start q) (added_names start here) (added_names here q)
          (All-weaker (IsFreshOut start here) (IsFreshOut start q) old_fresh (added_names start here) w.fresh)
          (All-weaker (λ (t : List ℕ). IsFresh start t × (t ≡ n.out)) (IsFreshOut start q) new_fresh (added_names here q) fresh))

      pub written_node : AreWritten start q G owners (names ++ made ∷ [])
      written_node = record {
        nodes = subst (All (IsNodeOfLine G q.names (names ++ made ∷ []))) (sym (nodes_two start here q h k ∙ ap (λ (ns : List NamedNode). added_nodes start here ++ ns) came))
            (All-push (IsNodeOfLine G q.names (names ++ made ∷ [])) (added_nodes start here) n nodes_kept is);
        outs = subst IsNumbering (sym outs_came) (numbering_push (added_outs start here) n.out w.outs out_is_new);
        fresh = all_fresh;
        named = named_more;
        apart = apart_more;
      }

-- nodes that came have at most two pins
pub narrow_of : (p q : PartsOf) → Extends p q → All (λ (n : NamedNode). length n.reads ≤ 2) (added_nodes p q)
narrow_of p q h = subst (All (λ (n : NamedNode). length n.reads ≤ 2)) (sym (nodes_came p q h)) h.pins
