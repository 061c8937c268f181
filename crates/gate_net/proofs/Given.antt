-- What the nodes read that are written for gates: inputs, what latches give, and what earlier ones of them drive.
use Rattle.std.proofs.Common.{◌≡◌, ℕ, zero, suc, ◌<◌, ◌≤◌, inl, inr, List, [], ◌∷◌, ◌++◌, length, Option, Contains, sym, ◌∙◌, ap, subst, arith}
use Rattle.std.specs.List.{AllZip}
use Rattle.std.proofs.lemmas.Bool.{cases_lt}
use Rattle.std.proofs.lemmas.List.{length-append, length-map, get_or_append_left, get_or_at}
use Rattle.std.proofs.lemmas.List.Elements.{Contains-get_or}
use Rattle.tsc_cover.specs.Cover.{CoverTable}
use Rattle.tsc_net.specs.Named.{Named, NamedNode, latch_outs, no_named}
use Rattle.tsc_net.specs.Names.{text_at}
use Rattle.tsc_net.specs.Parts.{PartsOf, with_node}
use Rattle.tsc_net.specs.PartsView.{text_of, texts_of}
use Rattle.tsc_net.specs.declared.ids.Name.{Name}
use Rattle.gate_net.specs.declared.line.Line.{Line}
use Rattle.gate_net.specs.declared.gate.Gate.{Gate}
use Rattle.gate_net.specs.Signal.{Signal}
use Rattle.gate_net.specs.Signal.Signal.{Zero, One, Input, State, Not, And, Or, Xor}
use Rattle.gate_net.specs.Gates.{GateNetwork, meaning}
use Rattle.gate_net.specs.NodesOfLines.{operands}
use Rattle.gate_net.specs.Written.{named_at, IsNamedGate, NameRealises, NameIsRoot, Extends, HasName, AreBelow, NamesRealise, IsGiven, ReadsBefore, IsFree, IsDrivenFrom}
use Rattle.gate_net.proofs.Written.{names_kept}

gate_given : (N : Named) (lo : ℕ) (out : List ℕ) (cover : CoverTable) (reads : List (List ℕ)) → IsNamedGate N lo out cover reads → IsGiven N lo (length N.nodes) out
gate_given N lo out cover reads g = inr (inr (g.place, g.behind, g.within, ap (λ (n : NamedNode). n.out) g.is_gate))

-- what a name that realises a signal is: an input, what a latch gives, or what a node from place lo on drives
given : (N : Named) (lo : ℕ) (signal : Signal) (out : List ℕ) → NameRealises N lo signal out → IsGiven N lo (length N.nodes) out
given N lo Zero out r = gate_given N lo out _ [] r
given N lo One out r = gate_given N lo out _ [] r
given N lo (Input i) out r = inl (subst (Contains N.inputs) (sym r.1) (Contains-get_or N.inputs i [] r.0))
given N lo (State i) out r = inr (inl (subst (Contains (latch_outs N)) (sym r.1) (Contains-get_or (latch_outs N) i [] (omega (arith, length-map N.latches (λ l. l.out), r.0)))))
given N lo (Not a) out r = gate_given N lo out _ (r.0 ∷ []) r.1
given N lo (And a b) out r = gate_given N lo out _ (r.0 ∷ (r.1 ∷ [])) r.2
given N lo (Or a b) out r = gate_given N lo out _ (r.0 ∷ (r.1 ∷ [])) r.2
given N lo (Xor a b) out r = gate_given N lo out _ (r.0 ∷ (r.1 ∷ [])) r.2

-- the names at the pins of a node over lines that realise
pins_given : (p : PartsOf) (lo : ℕ) (G : GateNetwork) (names : List (Option Name)) (lines : List Line) (reads : List Name) → NamesRealise p lo G names → AllZip (HasName names) lines reads
    → (pin : ℕ) → pin < length (texts_of p.names reads) → IsGiven p.named lo (length p.named.nodes) (text_at (texts_of p.names reads) pin)
pins_given p lo G names [] [] realise z pin lt = absurd (omega arith)
pins_given p lo G names [] (name ∷ reads) realise z pin lt = absurd z
pins_given p lo G names (line ∷ lines) [] realise z pin lt = absurd z
pins_given p lo G names (line ∷ lines) (name ∷ reads) realise z zero lt = given p.named lo (meaning G line) (text_of p.names name) (realise line name z.0)
pins_given p lo G names (line ∷ lines) (name ∷ reads) realise z (suc pin) lt = pins_given p lo G names lines reads realise z.1 pin (omega arith)

-- no node yet
pub reads_none : (N : Named) → ReadsBefore N (length N.nodes)
reads_none N k pin behind within has = absurd (omega arith)

module _ (N : Named) (lo : ℕ) (n : NamedNode) where
  with_one : Named
  with_one = record N { nodes = N.nodes ++ n ∷ [] }

  given_more : (k : ℕ) (text : List ℕ) → k ≤ length N.nodes → IsGiven N lo k text → IsGiven with_one lo k text
  unfolding with_one
  given_more k text le (inl c) = inl c
  given_more k text le (inr (inl c)) = inr (inl c)
  given_more k text le (inr (inr (j, behind, low, e))) = inr (inr (j, behind, low, ap (λ (m : NamedNode). m.out) (get_or_append_left N.nodes (n ∷ []) no_named j (omega arith)) ∙ e))

  at_node : (k pin : ℕ) (m : NamedNode) → named_at with_one k ≡ m → (pin < length m.reads → IsGiven with_one lo k (text_at m.reads pin))
      → pin < length (named_at with_one k).reads → IsGiven with_one lo k (text_at (named_at with_one k).reads pin)
  at_node k pin m e f = subst (λ (z : NamedNode). pin < length z.reads → IsGiven with_one lo k (text_at z.reads pin)) (sym e) f

  -- a node more, that reads what is given
  pub reads_more : ReadsBefore N lo → ((pin : ℕ) → pin < length n.reads → IsGiven N lo (length N.nodes) (text_at n.reads pin)) → ReadsBefore (record N { nodes = N.nodes ++ n ∷ [] }) lo
  unfolding with_one
  reads_more before here k pin behind within has =
      elim (cases_lt k (length N.nodes)) [
        | inl low ↦ at_node k pin (named_at N k) (get_or_append_left N.nodes (n ∷ []) no_named k low) (λ lt. given_more k (text_at (named_at N k).reads pin) (omega arith) (before k pin behind low lt)) has
        | inr high ↦ (
            let at : length N.nodes ≡ k = omega (arith, length-append N.nodes (n ∷ [])) in
            at_node k pin n (get_or_at N.nodes n [] no_named k at)
            (λ lt. subst (λ (j : ℕ). IsGiven with_one lo j (text_at n.reads pin)) at (given_more (length N.nodes) (text_at n.reads pin) (omega arith) (here pin lt))) has)
      ]

-- a node that was written for a gate reads what is given
pub node_before : (p here q : PartsOf) (g : Gate) (names : List (Option Name)) (reads : List Name) (out : Name) (cover : CoverTable)
    → Extends p here → here.named ≡ p.named → AreBelow (length p.names) names → AllZip (HasName names) (operands g) reads
    → q ≡ with_node here (texts_of here.names reads) (text_of here.names out) cover
    → (G : GateNetwork) (lo : ℕ) → NamesRealise p lo G names → ReadsBefore p.named lo → ReadsBefore q.named lo
node_before p here q g names reads out cover h same below z e G lo realise before =
    subst (λ (r : PartsOf). ReadsBefore r.named lo) (sym e)
    (reads_more here.named lo (record { reads = texts_of here.names reads; out = text_of here.names out; cover = cover }) (subst (λ (N : Named). ReadsBefore N lo) (sym same) before)
    (pins_given here lo G names (operands g) reads (names_kept p here lo h G names below realise) z))

-- and so does a Buf
pub buf_before : (p q : PartsOf) (names : List (Option Name)) (line : Line) (name root : Name) (reads : List Name) (cover : CoverTable)
    → HasName names line name → reads ≡ name ∷ [] → q ≡ with_node p (texts_of p.names reads) (text_of p.names root) cover
    → (G : GateNetwork) (lo : ℕ) → NamesRealise p lo G names → ReadsBefore p.named lo → ReadsBefore q.named lo
buf_before p q names line name root reads cover has r e G lo realise before =
    let z : AllZip (HasName names) (line ∷ []) reads = subst (λ (list : List Name). AllZip (HasName names) (line ∷ []) list) (sym r) (has, tt) in
    subst (λ (s : PartsOf). ReadsBefore s.named lo) (sym e)
    (reads_more p.named lo (record { reads = texts_of p.names reads; out = text_of p.names root; cover = cover }) before (pins_given p lo G names (line ∷ []) reads realise z))

given_driven : (N : Named) (lo : ℕ) (out : List ℕ) → IsFree N out → IsGiven N lo (length N.nodes) out → IsDrivenFrom N lo out
given_driven N lo out free (inl c) = absurd (free (inl c))
given_driven N lo out free (inr (inl c)) = absurd (free (inr c))
given_driven N lo out free (inr (inr (j, behind, low, e))) = record { place = j; within = low; behind = behind; drives = e }

-- a root's name that nothing drove is driven by a node that was added
pub root_driven : (N : Named) (lo : ℕ) (signal : Signal) (out : List ℕ) → IsFree N out → NameIsRoot N lo signal out → IsDrivenFrom N lo out
root_driven N lo signal out free (inl r) = given_driven N lo out free (given N lo signal out r)
root_driven N lo signal out free (inr r) = given_driven N lo out free (gate_given N lo out _ (r.0 ∷ []) r.1)
