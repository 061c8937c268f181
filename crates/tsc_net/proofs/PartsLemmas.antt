-- Parts whose table of names grows: what was collected stays as it was.
use Rattle.std.proofs.Common.{◌≡◌, ℕ, ◌+◌, ◌<◌, ◌≤◌, ◌^◌, false, List, [], ◌∷◌, ◌++◌, map, length, All, Option, Some, None, refl, ap, ◌∙◌, arith, if◌then◌else◌, length-append, zero, suc, slice_index_or, subst, sym, ◌⊎◌, inl, inr}
use Rattle.std.proofs.lemmas.List.{length-map}
use Rattle.std.proofs.lemmas.List.Elements.{All-head, All-tail, All-weaker, All-append, All-map}
use Rattle.tsc_net.specs.Names.{has_text, with_text, text_at}
use Rattle.tsc_net.specs.Named.{Named}
use Rattle.tsc_net.specs.NetlistOf.{drivers}
use Rattle.tsc_net.specs.Parts.{PartsOf, FreshNames, LeavesFresh, with_name, with_fresh, next_fresh, fresh_of, fresh_text}
use Rattle.tsc_net.specs.PartsView.{text_of, texts_of, latch_of, node_of, parts_of, IsName, IsFreshCounted, IsFreshUnused, KeepsNames, fresh_names}
use Rattle.tsc_net.specs.declared.ids.Name.{Name}
use Rattle.tsc_net.specs.declared.parts.LatchPart.{LatchPart}
use Rattle.tsc_net.specs.declared.parts.NodePart.{NodePart}
use Rattle.tsc_net.specs.declared.fresh.FreshPart.{FreshPart}
use Rattle.tsc_net.specs.declared.parts.Parts.TheInside.{Inside}
use Rattle.tsc_net.proofs.NameLemmas.{length-with_text, text_at-with_text}
use Rattle.tsc_net.proofs.FreshNumbers.{unused-named, unused-next}
use Rattle.tsc_bits.proofs.Lists.{map_agrees}

-- the texts of names in a table that grows
module _ (old new : List (List ℕ)) (longer : length old ≤ length new)
    (kept : (k : ℕ) → k < length old → text_at new k ≡ text_at old k) where
  -- names of the old table have the same texts in the new one
  pub texts_kept : (list : List Name) → All (IsName old) list → texts_of new list ≡ texts_of old list
  texts_kept list all = map_agrees (IsName old) (text_of new) (text_of old) (λ n h. kept n.number h) list all

  pub latches_kept : (list : List LatchPart) → All (λ l. IsName old l.reads) list → All (λ l. IsName old l.out) list
      → map (latch_of new) list ≡ map (latch_of old) list
  latches_kept [] reads outs = refl
  latches_kept (l ∷ list) reads outs =
      let read : text_of new l.reads ≡ text_of old l.reads = kept l.reads.number (All-head (λ l. IsName old l.reads) l list reads) in
      let out : text_of new l.out ≡ text_of old l.out = kept l.out.number (All-head (λ l. IsName old l.out) l list outs) in
      let rest = latches_kept list (All-tail (λ l. IsName old l.reads) l list reads) (All-tail (λ l. IsName old l.out) l list outs) in
      cc

  pub nodes_kept : (list : List NodePart) → All (λ n. All (IsName old) n.reads.items) list → All (λ n. IsName old n.out) list
      → map (node_of new) list ≡ map (node_of old) list
  nodes_kept [] reads outs = refl
  nodes_kept (n ∷ list) reads outs =
      let read : texts_of new n.reads.items ≡ texts_of old n.reads.items = texts_kept n.reads.items (All-head (λ n. All (IsName old) n.reads.items) n list reads) in
      let out : text_of new n.out ≡ text_of old n.out = kept n.out.number (All-head (λ n. IsName old n.out) n list outs) in
      let rest = nodes_kept list (All-tail (λ n. All (IsName old) n.reads.items) n list reads) (All-tail (λ n. IsName old n.out) n list outs) in
      cc

  -- names of the old table are names of the new one
  pub names_kept : (list : List Name) → All (IsName old) list → All (IsName new) list
  names_kept list all = All-weaker (IsName old) (IsName new) (λ n h. omega arith) list all

-- parts whose names grow: the netlist by names stays, and the names are still names of the table
module _ (p : Inside) (new : List (List ℕ)) (fresh : Option FreshPart) (longer : length p.names ≤ length new)
    (kept : (k : ℕ) → k < length p.names → text_at new k ≡ text_at p.names k) (keeps : KeepsNames p) where
  pub named_kept : (parts_of (record p { names = new; fresh = fresh })).named ≡ (parts_of p).named
  named_kept =
      let inputs = texts_kept p.names new longer kept p.inputs keeps.inputs in
      let outputs = texts_kept p.names new longer kept p.outputs keeps.outputs in
      let latches = latches_kept p.names new longer kept p.latches.items keeps.latch_reads keeps.latch_outs in
      let nodes = nodes_kept p.names new longer kept p.nodes.items keeps.node_reads keeps.node_outs in
      cc

  pub keeps_names : length new < 2 ^ 32 → IsFreshCounted new fresh → IsFreshUnused new fresh → KeepsNames (record p { names = new; fresh = fresh })
  keeps_names few free unused = record {
    inputs = names_kept p.names new longer kept p.inputs keeps.inputs;
    outputs = names_kept p.names new longer kept p.outputs keeps.outputs;
    latch_reads = All-weaker (λ l. IsName p.names l.reads) (λ l. IsName new l.reads) (λ l h. omega arith) p.latches.items keeps.latch_reads;
    latch_outs = All-weaker (λ l. IsName p.names l.out) (λ l. IsName new l.out) (λ l h. omega arith) p.latches.items keeps.latch_outs;
    node_reads = All-weaker (λ n. All (IsName p.names) n.reads.items) (λ n. All (IsName new) n.reads.items) (λ n h. names_kept p.names new longer kept n.reads.items h) p.nodes.items keeps.node_reads;
    node_outs = All-weaker (λ n. IsName p.names n.out) (λ n. IsName new n.out) (λ n h. omega arith) p.nodes.items keeps.node_outs;
    pins = keeps.pins;
    few = few;
    fresh = free;
    unused = unused;
  }

-- fresh names stay counted as names are added
pub fresh_counted : (old new : List (List ℕ)) (fresh : Option FreshPart) → length old ≤ length new → IsFreshCounted old fresh → IsFreshCounted new fresh
fresh_counted old new None longer counted = tt
fresh_counted old new (Some fresh) longer counted = omega arith

-- parts with one more name
pub parts_named : (p : Inside) (t : List ℕ) → KeepsNames p
    → parts_of (record p { names = with_text p.names t; fresh = p.fresh }) ≡ with_name (parts_of p) t
parts_named p t keeps =
    let same = named_kept p (with_text p.names t) p.fresh (length-with_text p.names t) (text_at-with_text p.names t) keeps in
    ap (λ named. record { names = with_text p.names t; named = named; fresh = fresh_names p.fresh }) same

pub keeps_named : (p : Inside) (t : List ℕ) → KeepsNames p → length (with_text p.names t) < 2 ^ 32 → LeavesFresh p.names t (fresh_names p.fresh)
    → KeepsNames (record p { names = with_text p.names t; fresh = p.fresh })
keeps_named p t keeps few leaves =
    keeps_names p (with_text p.names t) p.fresh (length-with_text p.names t) (text_at-with_text p.names t) keeps few
    (fresh_counted p.names (with_text p.names t) p.fresh (length-with_text p.names t) keeps.fresh)
    (unused-named p.names t p.fresh leaves keeps.unused)

-- what a latch of a list gives
pub latch_out_at : (names : List (List ℕ)) (list : List LatchPart) (place : ℕ) (l : LatchPart) → place < length list
    → l ≡ slice_index_or list place l → text_of names l.out ≡ text_at (map (λ x. x.out) (map (latch_of names) list)) place
latch_out_at names [] place l h e = absurd (omega arith)
latch_out_at names (x ∷ list) zero l h e = ap (λ l. text_of names l.out) e
latch_out_at names (x ∷ list) (suc place) l h e = latch_out_at names list place l (omega arith) e

pub map-append_lists : {X Y : Type 0} (f : X → Y) (xs ys : List X) → map f (xs ++ ys) ≡ map f xs ++ map f ys
map-append_lists f [] ys = refl
map-append_lists f (x ∷ xs) ys = ap (λ l. f x ∷ l) (map-append_lists f xs ys)

pub texts_outs : (names : List (List ℕ)) (latches : List LatchPart) → texts_of names (map (λ l. l.out) latches) ≡ map (λ l. l.out) (map (latch_of names) latches)
texts_outs names [] = refl
texts_outs names (l ∷ latches) = ap (λ t. text_of names l.out ∷ t) (texts_outs names latches)

pub texts_node_outs : (names : List (List ℕ)) (nodes : List NodePart) → texts_of names (map (λ n. n.out) nodes) ≡ map (λ n. n.out) (map (node_of names) nodes)
texts_node_outs names [] = refl
texts_node_outs names (n ∷ nodes) = ap (λ t. text_of names n.out ∷ t) (texts_node_outs names nodes)

-- the texts of all that is driven
pub texts_driven : (p : Inside) → texts_of p.names ((p.inputs ++ map (λ l. l.out) p.latches.items) ++ map (λ n. n.out) p.nodes.items) ≡ drivers (parts_of p).named
texts_driven p =
    let names = p.names in
    let outs = map (λ (l : LatchPart). l.out) p.latches.items in
    let node_outs = map (λ (n : NodePart). n.out) p.nodes.items in
    map-append_lists (text_of names) (p.inputs ++ outs) node_outs
    ∙ ap (λ l. l ++ texts_of names node_outs) (map-append_lists (text_of names) p.inputs outs)
    ∙ ap (λ l. (texts_of names p.inputs ++ l) ++ texts_of names node_outs) (texts_outs names p.latches.items)
    ∙ ap (λ l. (texts_of names p.inputs ++ map (λ l. l.out) (map (latch_of names) p.latches.items)) ++ l) (texts_node_outs names p.nodes.items)

pub names_driven : (p : Inside) → KeepsNames p → All (IsName p.names) ((p.inputs ++ map (λ l. l.out) p.latches.items) ++ map (λ n. n.out) p.nodes.items)
names_driven p keeps =
    All-append (IsName p.names) (p.inputs ++ map (λ (l : LatchPart). l.out) p.latches.items) (map (λ (n : NodePart). n.out) p.nodes.items)
    (All-append (IsName p.names) p.inputs (map (λ (l : LatchPart). l.out) p.latches.items) keeps.inputs
    (All-map (IsName p.names) (λ (l : LatchPart). l.out) p.latches.items keeps.latch_outs))
    (All-map (IsName p.names) (λ (n : NodePart). n.out) p.nodes.items keeps.node_outs)

pub pins_kept : (p : Inside) → KeepsNames p → All (λ n. length n.reads ≡ n.cover.width) (parts_of p).named.nodes
pins_kept p keeps =
    All-map (λ n. length n.reads ≡ n.cover.width) (node_of p.names) p.nodes.items
    (All-weaker (λ (n : NodePart). length n.reads.items ≡ n.cover.width) (λ n. length (texts_of p.names n.reads.items) ≡ n.cover.width)
    (λ n e. length-map n.reads.items (text_of p.names) ∙ e) p.nodes.items keeps.pins)

abbrev pub parts_with : List (List ℕ) → Named → Option FreshNames → PartsOf
parts_with names N f = record { names = names; named = N; fresh = f }

-- parts with one more fresh name
pub parts_fresh : (p : Inside) (fresh : FreshPart) (t : List ℕ) → KeepsNames p → has_text p.names t ≡ false
    → record { number = fresh.number; next = fresh.next } ≡ fresh_of (parts_of p) (fresh_names p.fresh)
    → t ≡ next_fresh (parts_of p)
    → parts_of (record p { names = with_text p.names t; fresh = Some (record { number = fresh.number; next = fresh.next + 1 }) }) ≡ with_fresh (parts_of p)
parts_fresh p fresh t keeps absent same text =
    let grown : with_text p.names t ≡ p.names ++ t ∷ [] = ap (λ b. if b then p.names else p.names ++ t ∷ []) absent in
    let named = named_kept p (with_text p.names t) (Some (record { number = fresh.number; next = fresh.next + 1 })) (length-with_text p.names t) (text_at-with_text p.names t) keeps in
    let more : FreshNames → Option FreshNames = λ f. Some (record { number = f.number; next = f.next + 1 }) in
    made (with_text p.names t) _ (more (record { number = fresh.number; next = fresh.next })) (grown ∙ ap (λ u. p.names ++ u ∷ []) text) named (ap more same)
  where
    made : (names : List (List ℕ)) (N : Named) (f : Option FreshNames)
        → names ≡ p.names ++ next_fresh (parts_of p) ∷ [] → N ≡ (parts_of p).named
        → f ≡ Some (record { number = (fresh_of (parts_of p) (fresh_names p.fresh)).number; next = (fresh_of (parts_of p) (fresh_names p.fresh)).next + 1 })
        → parts_with names N f ≡ with_fresh (parts_of p)
    made names N f a b c = cc

pub keeps_fresh : (p : Inside) (fresh : FreshPart) (t : List ℕ) → KeepsNames p → length (with_text p.names t) < 2 ^ 32 → fresh.next ≤ length p.names
    → has_text p.names t ≡ false → fresh_text fresh.number fresh.next ≡ t → IsFreshUnused p.names (Some fresh)
    → KeepsNames (record p { names = with_text p.names t; fresh = Some (record { number = fresh.number; next = fresh.next + 1 }) })
keeps_fresh p fresh t keeps few counted absent text unused =
    let grown : with_text p.names t ≡ p.names ++ t ∷ [] = ap (λ b. if b then p.names else p.names ++ t ∷ []) absent in
    let longer : length (with_text p.names t) ≡ length p.names + 1 = ap (λ l. length l) grown ∙ length-append p.names (t ∷ []) in
    keeps_names p (with_text p.names t) (Some (record { number = fresh.number; next = fresh.next + 1 })) (length-with_text p.names t) (text_at-with_text p.names t) keeps few (omega arith)
    (subst (λ names. IsFreshUnused names (Some (record { number = fresh.number; next = fresh.next + 1 }))) (ap (λ u. p.names ++ u ∷ []) text ∙ sym grown)
    (unused-next p.names fresh (omega (arith, keeps.few)) unused))

-- the fresh names that go on, or begin, are unused, and those that were given are counted
pub fresh_going-on : (p : Inside) (f : FreshPart) → KeepsNames p → (p.fresh ≡ Some f) ⊎ (IsFreshUnused p.names (Some f) × (f.next ≡ 0))
    → IsFreshUnused p.names (Some f) × (f.next ≤ length p.names)
fresh_going-on p f keeps (inl same) = (subst (IsFreshUnused p.names) same keeps.unused, subst (IsFreshCounted p.names) same keeps.fresh)
fresh_going-on p f keeps (inr (unused, first)) = (unused, omega arith)
