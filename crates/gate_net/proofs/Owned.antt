-- The names that lines have before anything is written.
use Rattle.std.proofs.Common.{◌≡◌, ℕ, ◌<◌, inl, inr, true, false, List, [], ◌∷◌, ◌++◌, map, length, slice_index_or, Option, None, Some, IfSome, Contains, refl, sym, ◌∙◌, ap, subst, arith, true≢false}
use Rattle.std.specs.Prelude.{slice_set}
use Rattle.std.proofs.lemmas.Bool.{cases_lt}
use Rattle.std.proofs.lemmas.List.{get_or-set_same, get_or-set_other}
use Rattle.tsc_net.specs.Names.{text_at}
use Rattle.tsc_net.specs.Parts.{PartsOf}
use Rattle.tsc_net.specs.PartsView.{text_of, IsName}
use Rattle.tsc_net.specs.declared.ids.Name.{Name}
use Rattle.gate_net.specs.declared.line.Line.{Line}
use Rattle.gate_net.specs.declared.root.Root.{Root}
use Rattle.gate_net.specs.declared.gate.Gate.{Gate}
use Rattle.gate_net.specs.declared.gate.Gate.TheVariants as gate
use Rattle.gate_net.specs.Gates.{GateNetwork, gate_at, gate_signal}
use Rattle.gate_net.specs.NodesOfLines.{has_node}
use Rattle.gate_net.specs.Written.{NameRealises, Extends, AreBelow}
use Rattle.gate_net.specs.Writing.{IsSourceText, AreSources, AreOwners, OwnersFit}
use Rattle.gate_net.proofs.Written.{text_kept, has_push, if_some_at}
use Rattle.gate_net.proofs.Lines.{none_some, some_is}

pub sources_none : (p : PartsOf) (G : GateNetwork) (names : List (Option Name)) → names ≡ [] → AreSources p G names
sources_none p G names e line name has = absurd (none_some name (ap (λ (list : List (Option Name)). slice_index_or list line.number None) (sym e) ∙ has))

-- the name of an input or a latch more
pub sources_more : (p : PartsOf) (G : GateNetwork) (names names' : List (Option Name)) (made : Option Name) (place : ℕ) (g : Gate) → length names ≡ place → g ≡ gate_at G.gates place → names' ≡ names ++ made ∷ []
    → AreSources p G names → IfSome made (λ (name : Name). has_node g ≡ false) → IfSome made (IsName p.names) → IfSome made (λ (name : Name). IsSourceText p g (text_of p.names name)) → AreSources p G names'
sources_more p G names names' made place g sized is_gate e before without within text = subst (AreSources p G) (sym e) more
  where
    more : AreSources p G (names ++ made ∷ [])
    more line name has = elim (has_push names made line name has) [
      | inl old ↦ before line name old
      | inr new ↦ (
          let at : g ≡ gate_at G.gates line.number = is_gate ∙ ap (gate_at G.gates) (sym (new.0 ∙ sized)) in
          record {
            without = subst (λ (x : Gate). has_node x ≡ false) at (if_some_at (λ (m : Name). has_node g ≡ false) made name without new.1);
            within = if_some_at (IsName p.names) made name within new.1;
            text = subst (λ (x : Gate). IsSourceText p x (text_of p.names name)) at (if_some_at (λ (m : Name). IsSourceText p g (text_of p.names m)) made name text new.1);
          })
    ]

-- a root that gets its line
pub owners_set : (p : PartsOf) (G : GateNetwork) (roots : List Root) (owners : List (Option Name)) (root : Root) → has_node (gate_at G.gates root.line.number) ≡ true → root.line.number < length owners
    → Contains roots root → AreOwners p G roots owners → AreOwners p G roots (slice_set owners root.line.number (Some root.name))
owners_set p G roots owners root placed lt c before line name has = elim (cases_lt line.number root.line.number) [
  | inl low ↦ before line name (sym (get_or-set_other owners root.line.number line.number (Some root.name) None (λ e. omega arith)) ∙ has)
  | inr high ↦ elim (cases_lt root.line.number line.number) [
    | inl past ↦ before line name (sym (get_or-set_other owners root.line.number line.number (Some root.name) None (λ e. omega arith)) ∙ has)
    | inr le ↦ (
        let at : root.line.number ≡ line.number = omega arith in
        let same : root.name ≡ name
        = some_is root.name name (sym (ap (λ (j : ℕ). slice_index_or (slice_set owners root.line.number (Some root.name)) j None) (sym at) ∙ get_or-set_same owners root.line.number (Some root.name) None lt) ∙ has) in
        inr (record {
          placed = subst (λ (j : ℕ). has_node (gate_at G.gates j) ≡ true) at placed;
          is_root = subst (λ (m : Name). Contains roots (record { name = m; line = line })) same (subst (λ (j : ℕ). Contains roots (record { name = root.name; line = record { number = j } })) at c);
        }))
  ]
]

source_kept : (p q : PartsOf) (g : Gate) (name : Name) → Extends p q → IsName p.names name → IsSourceText p g (text_of p.names name) → IsSourceText q g (text_of q.names name)
source_kept p q (gate.Input i) name h is s =
    (subst (λ (inputs : List (List ℕ)). i < length inputs) (sym h.inputs) s.0, text_kept p q name h is ∙ s.1 ∙ ap (λ (inputs : List (List ℕ)). text_at inputs i) (sym h.inputs))
source_kept p q (gate.State i) name h is s =
    (subst (λ latches. i < length latches) (sym h.latches) s.0, text_kept p q name h is ∙ s.1 ∙ ap (λ latches. text_at (map (λ l. l.out) latches) i) (sym h.latches))
source_kept p q _ name h is s = tt

-- the owner of a line fits its gate, also in parts that grew
pub fits_at : (start here : PartsOf) (G : GateNetwork) (owners : List (Option Name)) (place : ℕ) (g : Gate) → Extends start here → AreBelow (length start.names) owners → OwnersFit start G owners → g ≡ gate_at G.gates place
    → IfSome (slice_index_or owners place None) (λ (name : Name). IsSourceText here g (text_of here.names name))
fits_at start here G owners place g h below fit e = by (slice_index_or owners place None) refl
  where
    by : (o : Option Name) → slice_index_or owners place None ≡ o → IfSome o (λ (name : Name). IsSourceText here g (text_of here.names name))
    by None own = tt
    by (Some name) own =
        let line : Line = record { number = place } in
        source_kept start here g name h (below line name own) (subst (λ (x : Gate). IsSourceText start x (text_of start.names name)) (sym e) (fit line name own))

-- the owner of a line whose gate is an input or a latch realises its signal
pub source_realises : (p : PartsOf) (lo : ℕ) (G : GateNetwork) (g : Gate) (owner : Option Name) (name : Name) → has_node g ≡ false → IfSome owner (λ (m : Name). IsSourceText p g (text_of p.names m)) → owner ≡ Some name
    → NameRealises p.named lo (gate_signal G g) (text_of p.names name)
source_realises p lo G g owner name without fits own = by g without (if_some_at (λ (m : Name). IsSourceText p g (text_of p.names m)) owner name fits own)
  where
    by : (x : Gate) → has_node x ≡ false → IsSourceText p x (text_of p.names name) → NameRealises p.named lo (gate_signal G x) (text_of p.names name)
    by (gate.Input i) e s = s
    by (gate.State i) e s = s
    by gate.Zero e s = absurd (true≢false e)
    by gate.One e s = absurd (true≢false e)
    by (gate.Not a) e s = absurd (true≢false e)
    by (gate.And a b) e s = absurd (true≢false e)
    by (gate.Or a b) e s = absurd (true≢false e)
    by (gate.Xor a b) e s = absurd (true≢false e)

pub owner_below : (p : PartsOf) (owner : Option Name) (name : Name) → IfSome owner (IsName p.names) → owner ≡ Some name → IsName p.names name
owner_below p owner name h own = if_some_at (IsName p.names) owner name h own
