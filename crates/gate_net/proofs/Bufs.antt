-- Bufs that are written for roots: which nodes came, and what they drive.
use Rattle.std.proofs.Common.{◌≡◌, ℕ, ◌+◌, ◌<◌, ◌≤◌, inl, inr, List, [], ◌∷◌, ◌++◌, map, length, take, get_or, Option, All, Contains, refl, sym, ◌∙◌, ap, subst}
use Rattle.std.proofs.lemmas.List.{take_more, take_all}
use Rattle.std.proofs.lemmas.List.Elements.{All-nil, All-push, All-weaker, All-contains, Contains-append_left, Contains-push}
use Rattle.tsc_net.specs.Named.{NamedNode, no_named}
use Rattle.tsc_net.specs.Names.{IsNumbering}
use Rattle.tsc_net.specs.Parts.{PartsOf}
use Rattle.tsc_net.specs.PartsView.{text_of, texts_of}
use Rattle.tsc_net.specs.declared.ids.Name.{Name}
use Rattle.gate_net.specs.declared.root.Root.{Root}
use Rattle.gate_net.specs.Written.{Extends}
use Rattle.gate_net.specs.Added.{added_nodes, added_outs, root_texts}
use Rattle.gate_net.specs.Writing.{AddsBuf, AddsBufOrNot, IsBufOfRoot, AreBufs}
use Rattle.gate_net.proofs.Texts.{numbering_none, numbering_push, later_text, mapped_from}
use Rattle.gate_net.proofs.Written.{node_names}
use Rattle.gate_net.proofs.Lines.{nodes_two, outs_two, node_came, none_came}

pub bufs_none : (p : PartsOf) (names : List (Option Name)) (roots : List Root) → AreBufs p p names roots
bufs_none p names roots = record {
  nodes = subst (All (IsBufOfRoot p.names names roots)) (sym (none_came p p refl)) (All-nil (IsBufOfRoot p.names names roots));
  outs = subst IsNumbering (sym (ap (map (λ (n : NamedNode). n.out)) (none_came p p refl))) numbering_none;
  names_stay = refl;
}

pub bufs_all : (p q : PartsOf) (names : List (Option Name)) (roots : List Root) (i : ℕ) → length roots ≤ i → AreBufs p q names (take i roots) → AreBufs p q names roots
bufs_all p q names roots i le b = subst (AreBufs p q names) (take_all i roots le) b

module _ (start here q : PartsOf) (names : List (Option Name)) (roots : List Root) (i : ℕ) (d : Root)
    (h : Extends start here) (k : Extends here q) (distinct : IsNumbering (root_texts start.names roots)) (lt : i < length roots) (b : AreBufs start here names (take i roots)) where
  kept : (n : NamedNode) → IsBufOfRoot start.names names (take i roots) n → IsBufOfRoot start.names names (take (i + 1) roots) n
  kept n is = record {
    root = is.root;
    name = is.name;
    is_root = subst (λ (rs : List Root). Contains rs is.root) (sym (take_more roots i d lt)) (Contains-append_left (take i roots) (get_or roots i d ∷ []) is.root is.is_root);
    has = is.has;
    other = is.other;
    pins = is.pins;
    out = is.out;
    cover = is.cover;
  }

  all_kept : All (IsBufOfRoot start.names names (take (i + 1) roots)) (added_nodes start here)
  all_kept = All-weaker (IsBufOfRoot start.names names (take i roots)) (IsBufOfRoot start.names names (take (i + 1) roots)) kept (added_nodes start here) b.nodes

  none_more : q ≡ here → AreBufs start q names (take (i + 1) roots)
  none_more e = record {
    nodes = subst (All (IsBufOfRoot start.names names (take (i + 1) roots))) (sym (ap (added_nodes start) e)) all_kept;
    outs = subst (λ (p : PartsOf). IsNumbering (added_outs start p)) (sym e) b.outs;
    names_stay = ap (λ (p : PartsOf). p.names) e ∙ b.names_stay;
  }

  module _ (a : AddsBuf here q names (get_or roots i d)) where
    text_stays : (name : Name) → text_of here.names name ≡ text_of start.names name
    text_stays name = ap (λ (ns : List (List ℕ)). text_of ns name) b.names_stay

    is_buf : IsBufOfRoot start.names names (take (i + 1) roots) (record { reads = texts_of here.names a.reads; out = text_of here.names (get_or roots i d).name; cover = a.cover })
    is_buf = record {
      root = get_or roots i d;
      name = a.name;
      is_root = subst (λ (rs : List Root). Contains rs (get_or roots i d)) (sym (take_more roots i d lt)) (Contains-push (take i roots) (get_or roots i d));
      has = a.has;
      other = a.other;
      pins = ap (texts_of here.names) a.reads_are ∙ ap (λ (t : List ℕ). t ∷ []) (text_stays a.name);
      out = text_stays (get_or roots i d).name;
      cover = a.is_cover;
    }

    came : added_nodes here q ≡ record { reads = texts_of here.names a.reads; out = text_of here.names (get_or roots i d).name; cover = a.cover } ∷ []
    came = node_came here q (texts_of here.names a.reads) (text_of here.names (get_or roots i d).name) a.cover a.node

    out_is_new : Contains (added_outs start here) (text_of here.names (get_or roots i d).name) → ⊥
    out_is_new c =
        let found = mapped_from (λ (n : NamedNode). n.out) (added_nodes start here) (text_of here.names (get_or roots i d).name) no_named c in
        let earlier : IsBufOfRoot start.names names (take i roots) found.0 = All-contains (IsBufOfRoot start.names names (take i roots)) (added_nodes start here) found.0 b.nodes found.1 in
        later_text (λ (r : Root). text_of start.names r.name) roots distinct i d earlier.root lt earlier.is_root (sym earlier.out ∙ found.2 ∙ text_stays (get_or roots i d).name)

    one_more : AreBufs start q names (take (i + 1) roots)
    one_more = record {
      nodes = subst (All (IsBufOfRoot start.names names (take (i + 1) roots))) (sym (nodes_two start here q h k ∙ ap (λ (ns : List NamedNode). added_nodes start here ++ ns) came))
          (All-push (IsBufOfRoot start.names names (take (i + 1) roots)) (added_nodes start here) (record { reads = texts_of here.names a.reads; out = text_of here.names (get_or roots i d).name; cover = a.cover }) all_kept is_buf);
      outs = subst IsNumbering (sym (outs_two start here q h k ∙ ap (λ (ns : List NamedNode). added_outs start here ++ map (λ (m : NamedNode). m.out) ns) came))
          (numbering_push (added_outs start here) (text_of here.names (get_or roots i d).name) b.outs out_is_new);
      names_stay = node_names here q (texts_of here.names a.reads) (text_of here.names (get_or roots i d).name) a.cover a.node ∙ b.names_stay;
    }

  pub bufs_more : AddsBufOrNot here q names (get_or roots i d) → AreBufs start q names (take (i + 1) roots)
  bufs_more (inl e) = none_more e
  bufs_more (inr a) = one_more a
