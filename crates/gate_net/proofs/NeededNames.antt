-- The nodes that come as gates are written for roots drive what some root needs, and what they drive stands among the names.
use Rattle.std.proofs.Common.{◌≡◌, ℕ, ◌+◌, ◌<◌, ◌≤◌, ◌⊎◌, inl, inr, Bool, true, List, [], ◌∷◌, map, length, slice_index_or, Option, All, Contains, IsTrue, refl, sym, ◌∙◌, ap, subst, arith, true≢false}
use Rattle.std.specs.List.{AllZip}
use Rattle.std.proofs.lemmas.Bool.{false≢true}
use Rattle.std.proofs.lemmas.List.{length-drop, get_or-drop, get_or_default, get_or-map, length-map}
use Rattle.std.proofs.lemmas.List.Elements.{All-nil, All-cons, All-weaker, All-contains, Contains-append_left, Contains-append_right, Contains-get_or}
use Rattle.fault_secure.specs.Circuit.{bit}
use Rattle.tsc_cover.specs.Cover.{CoverTable}
use Rattle.tsc_net.specs.Named.{Named, NamedNode, no_named}
use Rattle.tsc_net.specs.Names.{has_text}
use Rattle.tsc_net.specs.Parts.{PartsOf}
use Rattle.tsc_net.specs.PartsView.{text_of, IsName}
use Rattle.tsc_net.specs.declared.ids.Name.{Name}
use Rattle.gate_net.specs.declared.line.Line.{Line}
use Rattle.gate_net.specs.declared.root.Root.{Root}
use Rattle.gate_net.specs.declared.gate.Gate.{Gate}
use Rattle.gate_net.specs.declared.gate.Gate.TheVariants as gate
use Rattle.gate_net.specs.Gates.{GateNetwork, gate_at, gate_signal}
use Rattle.gate_net.specs.NodesOfLines.{has_node, operands}
use Rattle.gate_net.specs.Needed.{IsNeeded, MarksNeeded}
use Rattle.gate_net.specs.Needed.IsNeeded.{itself as wanted_itself, through as read_by}
use Rattle.gate_net.specs.Written.{named_at, IsNamedGate, NameRealises, RootsRealise, HasName, AreBelow, NamesRealise, IsDrivenFrom}
use Rattle.gate_net.specs.Added.{added_nodes, added_outs, root_texts, gate_covers, IsFresh, HasGateCover, DrivesListed, NeedsName, DrivesNeeded}
use Rattle.gate_net.specs.Added.NeedsName.{itself, through}
use Rattle.gate_net.specs.Writing.{HasNodeAt, MarkedNamed, NamedMarked, IsNodeOfLine, IsBufOfRoot}
use Rattle.gate_net.proofs.Texts.{has_at, same_item, contains_map, mapped_from}
use Rattle.gate_net.proofs.Written.{names_grow}
use Rattle.gate_net.proofs.Lines.{nodes_two, same_name}
use Rattle.gate_net.proofs.GateCovers.{gate_cover_is, buf_cover_is}
use Rattle.gate_net.proofs.Whole.{AddsRoots, came_out, root_text, root_there, all_nodes, owner_root, roots_driven, line_realises}

-- a node that came stands after those that were there
pub stands : (old new : PartsOf) (n : NamedNode) → Contains (added_nodes old new) n → (place : ℕ) × (length old.named.nodes ≤ place) × (place < length new.named.nodes) × (named_at new.named place ≡ n)
stands old new n c =
    let lo = length old.named.nodes in
    let low = c.1 in
    (lo + c.0, omega arith, omega (arith, length-drop lo new.named.nodes), sym (get_or-drop lo new.named.nodes c.0 no_named) ∙ get_or_default (added_nodes old new) c.0 no_named n c.1 ∙ c.2)

-- what a needed line is, is marked
pub needed_marked : (G : GateNetwork) (wanted : List Line) (marks : List Bool) → MarksNeeded G wanted 0 marks → (n : ℕ) → IsNeeded G wanted n → IsTrue (bit marks n)
needed_marked G wanted marks m _ (wanted_itself line c) = m.rooted line c
needed_marked G wanted marks m _ (read_by n line lt h c) = m.closed n line (omega arith) lt (needed_marked G wanted marks m n h) c

-- a gate that reads a line has a node
pub reader_has_node : (g : Gate) (line : Line) → Contains (operands g) line → has_node g ≡ true
reader_has_node (gate.Input i) line c = let lt = c.1 in absurd (omega arith)
reader_has_node (gate.State i) line c = let lt = c.1 in absurd (omega arith)
reader_has_node _ line c = refl

-- where each line of a list has its name in another, the name of a line of the first stands in the second
name_read : (names : List (Option Name)) (lines : List Line) (reads : List Name) → AllZip (HasName names) lines reads → All (λ (line : Line). (name : Name) → HasName names line name → Contains reads name) lines
name_read names [] [] z = All-nil (λ (line : Line). (name : Name) → HasName names line name → Contains [] name)
name_read names [] (m ∷ reads) z = absurd z
name_read names (l ∷ lines) [] z = absurd z
name_read names (l ∷ lines) (m ∷ reads) z =
    All-cons (λ (line : Line). (name : Name) → HasName names line name → Contains (m ∷ reads) name) l lines
    (λ name has. subst (Contains (m ∷ reads)) (same_name names l m name z.0 has) (Contains-get_or (m ∷ reads) 0 m (omega arith)))
    (All-weaker (λ (line : Line). (name : Name) → HasName names line name → Contains reads name) (λ (line : Line). (name : Name) → HasName names line name → Contains (m ∷ reads) name)
    (λ line so name has. Contains-append_right (m ∷ []) reads name (so name has)) lines (name_read names lines reads z.1))

-- the name of a gate's line is driven by a node from place lo on, where the gate has one
gate_driven : (N : Named) (lo : ℕ) (G : GateNetwork) (g : Gate) (out : List ℕ) → has_node g ≡ true → NameRealises N lo (gate_signal G g) out → IsDrivenFrom N lo out
gate_driven N lo G g out placed r = by g placed r
  where
    drives : {cover : CoverTable} {reads : List (List ℕ)} → IsNamedGate N lo out cover reads → IsDrivenFrom N lo out
    drives i = record { place = i.place; within = i.within; behind = i.behind; drives = ap (λ (n : NamedNode). n.out) i.is_gate }

    by : (g : Gate) → has_node g ≡ true → NameRealises N lo (gate_signal G g) out → IsDrivenFrom N lo out
    by gate.Zero placed r = drives r
    by gate.One placed r = drives r
    by (gate.Input i) placed r = absurd (false≢true placed)
    by (gate.State i) placed r = absurd (false≢true placed)
    by (gate.Not a) placed r = drives r.1
    by (gate.And a b) placed r = drives r.2
    by (gate.Or a b) placed r = drives r.2
    by (gate.Xor a b) placed r = drives r.2

module _ (old here new : PartsOf) (G : GateNetwork) (roots : List Root) (owners names : List (Option Name)) (came : AddsRoots old here new G roots owners names) where
  -- each node has the cover of a gate or of a Buf
  pub covers_gates : All HasGateCover (added_nodes old new)
  covers_gates =
      all_nodes old here new G roots owners names came HasGateCover
      (λ n is. subst (Contains gate_covers) (sym is.cover) (gate_cover_is (gate_at G.gates is.line.number)))
      (λ n is. subst (Contains gate_covers) (sym is.cover) buf_cover_is)

  -- what each node drives stands among the names
  pub outs_listed : AreBelow (length here.names) names → All (DrivesListed new.names) (added_nodes old new)
  outs_listed below =
      subst (λ (ns : List (List ℕ)). All (DrivesListed ns) (added_nodes old new)) (sym came.bufs.names_stay)
      (all_nodes old here new G roots owners names came (DrivesListed here.names)
      (λ n is. subst (λ (t : List ℕ). has_text here.names t ≡ true) (sym is.out) (has_at here.names is.name.number (below is.line is.name is.has)))
      (λ n is. subst (λ (t : List ℕ). has_text here.names t ≡ true) (sym is.out)
      (has_at here.names is.root.name.number (let low : is.root.name.number < length old.names = All-contains (λ (r : Root). IsName old.names r.name) roots is.root came.named is.is_root in omega (arith, names_grow old here came.gates_extend)))))

  module _ (realise : NamesRealise here (length old.named.nodes) G names) (realised : RootsRealise new (length old.named.nodes) G roots) where
    -- some root needs the name
    abbrev Needs : List ℕ → Type 0
    Needs text = NeedsName new.named (length old.named.nodes) (root_texts old.names roots) text

    -- what a node that came reads is needed, where what it drives is
    read_needed : (n : NamedNode) (t : List ℕ) → Contains (added_nodes old new) n → Needs n.out → Contains n.reads t → Needs t
    read_needed n t c need r =
        let s = stands old new n c in
        through s.0 t s.1 s.2 (subst (λ (m : NamedNode). Needs m.out) (sym s.3) need) (subst (λ (m : NamedNode). Contains m.reads t) (sym s.3) r)

    -- the node is a line's, or a Buf
    abbrev IsEither : NamedNode → Type 0
    IsEither n = IsNodeOfLine G here.names names n ⊎ IsBufOfRoot here.names names roots n

    -- each node that came is a line's or a Buf
    either : All IsEither (added_nodes old new)
    either = all_nodes old here new G roots owners names came IsEither (λ n is. inl is) (λ n is. inr is)

    -- two roots with the same text are the same
    same_root : (x y : Root) → Contains roots x → Contains roots y → text_of old.names x.name ≡ text_of old.names y.name → x ≡ y
    same_root x y c d e = same_item (λ (r : Root). text_of old.names r.name) roots came.distinct x y c d e

    -- a root's text is the one that it had before
    there : (root : Root) → Contains roots root → text_of here.names root.name ≡ text_of old.names root.name
    there root c = root_text old here new G roots owners names came root c

    -- the name of a root's line is needed: it is the root's, or the root's Buf reads it
    root_line_needed : (root : Root) (name : Name) → Contains roots root → HasName names root.line name → Needs (text_of here.names name)
    root_line_needed root name c has = from found.0 found.1 found.2 (All-contains IsEither (added_nodes old new) found.0 either found.1)
      where
        t : List ℕ
        t = text_of old.names root.name

        root_is : Contains (root_texts old.names roots) t
        root_is = contains_map (λ (r : Root). text_of old.names r.name) roots root c

        found : (n : NamedNode) × Contains (added_nodes old new) n × (n.out ≡ t)
        found = mapped_from (λ (n : NamedNode). n.out) (added_nodes old new) t no_named
            (All-contains (Contains (added_outs old new)) (root_texts old.names roots) t
            (roots_driven old here new G roots owners names came realised) root_is)

        by_line : (n : NamedNode) (is : IsNodeOfLine G here.names names n) → n.out ≡ t → HasName owners is.line is.name ⊎ IsFresh old (text_of here.names is.name) → Needs (text_of here.names name)
        by_line n is e (inr fresh) =
            let low : root.name.number < length old.names = All-contains (λ (r : Root). IsName old.names r.name) roots root came.named c in
            absurd (true≢false (sym (has_at old.names root.name.number low) ∙ ap (has_text old.names) (sym e ∙ is.out) ∙ fresh))
        by_line n is e (inl own) =
            let mine : Root = record { name = is.name; line = is.line } in
            let c2 : Contains roots mine = owner_root old here new G roots owners names came is.line is.name is.placed own in
            let same : mine ≡ root = same_root mine root c2 c (sym (there mine c2) ∙ sym is.out ∙ e) in
            let has2 : HasName names root.line is.name = subst (λ (r : Root). HasName names r.line is.name) same is.has in
            let text : text_of here.names name ≡ t = ap (text_of here.names) (same_name names root.line name is.name has has2) ∙ sym is.out ∙ e in
            itself (text_of here.names name) (subst (Contains (root_texts old.names roots)) (sym text) root_is)

        from : (n : NamedNode) → Contains (added_nodes old new) n → n.out ≡ t → IsEither n → Needs (text_of here.names name)
        from n c1 e (inl is) = by_line n is e (came.written.named is.line is.name is.has)
        from n c1 e (inr is) =
            let same : is.root ≡ root = same_root is.root root is.is_root c (sym (there is.root is.is_root) ∙ sym is.out ∙ e) in
            let has2 : HasName names root.line is.name = subst (λ (r : Root). HasName names r.line is.name) same is.has in
            let pin : n.reads ≡ text_of here.names name ∷ [] = is.pins ∙ ap (λ (m : Name). text_of here.names m ∷ []) (same_name names root.line is.name name has2 has) in
            read_needed n (text_of here.names name) c1 (subst Needs (sym e) (itself t root_is))
            (subst (λ (ts : List (List ℕ)). Contains ts (text_of here.names name)) (sym pin) (Contains-get_or (text_of here.names name ∷ []) 0 [] (omega arith)))

    -- the node of a line with a name, which reads the names of the lines that the line's gate reads
    line_node : (line : Line) (name : Name) → HasNodeAt G line → HasName names line name → (other : Line) (m : Name) → Contains (operands (gate_at G.gates line.number)) other → HasName names other m
        → Needs (text_of here.names name) → Needs (text_of here.names m)
    line_node line name placed has other m reads has_m need =
        let t : List ℕ = text_of here.names name in
        let driven : IsDrivenFrom here.named (length old.named.nodes) t = gate_driven here.named (length old.named.nodes) G (gate_at G.gates line.number) t placed
        (line_realises old here new G roots owners names came (length old.named.nodes) realise line name has) in
        let found = mapped_from (λ (n : NamedNode). n.out) (added_nodes old here) t no_named (came_out old here t driven) in
        let is : IsNodeOfLine G here.names names found.0 = All-contains (IsNodeOfLine G here.names names) (added_nodes old here) found.0 came.written.nodes found.1 in
        let at : is.line.number ≡ line.number = came.written.apart is.line line is.name name is.has has is.placed (sym is.out ∙ found.2) in
        let zip : AllZip (HasName names) (operands (gate_at G.gates line.number)) is.reads = subst (λ (j : ℕ). AllZip (HasName names) (operands (gate_at G.gates j)) is.reads) at is.zip in
        let read : Contains is.reads m
        = All-contains (λ (l : Line). (name : Name) → HasName names l name → Contains is.reads name) (operands (gate_at G.gates line.number)) other (name_read names (operands (gate_at G.gates line.number)) is.reads zip) reads m has_m in
        let c : Contains (added_nodes old new) found.0
        = subst (λ (ns : List NamedNode). Contains ns found.0) (sym (nodes_two old here new came.gates_extend came.bufs_extend)) (Contains-append_left (added_nodes old here) (added_nodes here new) found.0 found.1) in
        read_needed found.0 (text_of here.names m) c (subst Needs (sym found.2) need)
        (subst (λ (ts : List (List ℕ)). Contains ts (text_of here.names m)) (sym is.pins) (contains_map (text_of here.names) is.reads m read))

    module _ (lines : List Line) (marks : List Bool) (lines_are : lines ≡ map (λ root. root.line) roots) (marked : MarksNeeded G lines 0 marks)
        (all_named : MarkedNamed marks (length G.gates) names) (only : NamedMarked marks names) where
      -- a wanted line is that of a root
      root_of : (line : Line) → Contains lines line → (root : Root) × Contains roots root × (root.line ≡ line)
      root_of line c =
          let of : Root → Line = λ (r : Root). r.line in
          let d : Root = record { name = record { number = 0 }; line = line } in
          let c2 : Contains (map of roots) line = subst (λ (ls : List Line). Contains ls line) lines_are c in
          let low : c2.0 < length roots = omega (arith, length-map roots of, c2.1) in
          (slice_index_or roots c2.0 d, Contains-get_or roots c2.0 d low, sym (get_or-map of roots c2.0 d line low) ∙ c2.2)

      -- the name of a needed line is needed
      line_needed : (n : ℕ) → IsNeeded G lines n → (name : Name) → HasName names (record { number = n }) name → Needs (text_of here.names name)
      line_needed _ (wanted_itself line c) name has =
          let r = root_of line c in
          root_line_needed r.0 name r.1 (subst (λ (l : Line). HasName names l name) (sym r.2) has)
      line_needed _ (read_by n line lt is c) name has =
          let reader : Line = record { number = n } in
          let m = all_named reader lt (needed_marked G lines marks marked n is) in
          line_node reader m.0 (reader_has_node (gate_at G.gates n) line c) m.1 line name c has (line_needed n is m.0 m.1)

      -- some root needs what each node drives
      pub outs_needed : All (DrivesNeeded new.named (length old.named.nodes) (root_texts old.names roots)) (added_nodes old new)
      outs_needed =
          all_nodes old here new G roots owners names came (DrivesNeeded new.named (length old.named.nodes) (root_texts old.names roots))
          (λ n is. subst Needs (sym is.out) (line_needed is.line.number (marked.sound is.line.number (only is.line is.name is.has)) is.name is.has))
          (λ n is. itself n.out (subst (Contains (root_texts old.names roots)) (sym is.out) (root_there old here new G roots owners names came is.root is.is_root)))
