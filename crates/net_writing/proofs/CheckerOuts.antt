-- What each node of a checker drives: a text that is given to a rail, or one of the fresh names that came.
use Rattle.std.proofs.Common.{◌≡◌, ℕ, ◌<◌, ◌≤◌, ◌⊎◌, inl, inr, List, [], ◌∷◌, ◌++◌, length, slice_index_or, Option, None, Some, refl, sym, ◌∙◌, ap, subst, arith, length-append}
use Rattle.std.proofs.lemmas.Bool.{cases_lt}
use Rattle.std.proofs.lemmas.List.{append_assoc, get_or_at}
use Rattle.tsc_net.specs.Named.{Named, NamedNode, no_named}
use Rattle.tsc_net.specs.Names.{text_at}
use Rattle.tsc_net.specs.Parts.{PartsOf, next_fresh}
use Rattle.tsc_net.specs.PartsView.{text_of}
use Rattle.code_checkers.specs.declared.gate.CheckGate.{CheckGate}
use Rattle.code_checkers.specs.declared.gate.CheckGate.TheVariants as gate
use Rattle.code_checkers.specs.GateList.{GateList}
use Rattle.net_writing.specs.CheckerParts.{GateParts, out_text, with_gate, with_gate_node, with_gates, with_checker, given_text}
use Rattle.net_writing.specs.declared.checker_writing.RailNames.{RailNames}
use Rattle.net_writing.proofs.CheckerShape.{node_of_gate, GatesCame, node_named, fresh_names, given_names, gates_came}
use Rattle.net_writing.proofs.CheckerNames.{node_here}
use Rattle.net_writing.proofs.CheckerDriven.{given_cases}

-- the text is that of a name that came
abbrev pub HasCome : List (List ℕ) → List (List ℕ) → List ℕ → Type 0
HasCome old new text = (i : ℕ) × (length old ≤ i) × (i < length new) × (text_at new i ≡ text)

-- the text is that of one of the rails' names, where names are given to them
abbrev pub IsRailText : List (List ℕ) → Option RailNames → List ℕ → Type 0
IsRailText texts None text = ⊥
IsRailText texts (Some rails) text = (text_of texts rails.first ≡ text) ⊎ (text_of texts rails.second ≡ text)

-- each node from a place on drives a given text, or a name that came
abbrev DriveGivenOrFresh : (ℕ → Option (List ℕ)) → List NamedNode → List (List ℕ) → List (List ℕ) → ℕ → Type 0
DriveGivenOrFresh given nodes old new from =
    (k : ℕ) → from ≤ k → k < length nodes → ((j : ℕ) × (given j ≡ Some (slice_index_or nodes k no_named).out)) ⊎ HasCome old new (slice_index_or nodes k no_named).out

-- a name that came after some names came after fewer of them
come_later : (old middle new : List (List ℕ)) (text : List ℕ) → length old ≤ length middle → HasCome middle new text → HasCome old new text
come_later old middle new text le h = (h.0, later h.0 h.1, h.2, h.3)
  where
    later : (i : ℕ) → length middle ≤ i → length old ≤ i
    later i low = omega arith

module _ (given : ℕ → Option (List ℕ)) (g : CheckGate) (s q : GateParts) where
  -- what the node of a gate drives
  out_here : (o : Option (List ℕ)) (place : ℕ) → o ≡ given place → GatesCame (with_gate_node o g s) q → ((j : ℕ) × (given j ≡ Some (out_text s.parts o))) ⊎ HasCome s.parts.names q.parts.names (out_text s.parts o)
  out_here (Some text) place is h = inl (place, sym is)
  out_here None place is h =
      let split : q.parts.names ≡ s.parts.names ++ next_fresh s.parts ∷ h.more = h.parts_names ∙ ap (λ (list : List (List ℕ)). list ++ h.more) (fresh_names g s) ∙ append_assoc s.parts.names (next_fresh s.parts ∷ []) h.more in
      inr (
        length s.parts.names,
        omega arith,
        omega (arith, ap length split, length-append s.parts.names (next_fresh s.parts ∷ h.more)),
        ap (λ (list : List (List ℕ)). text_at list (length s.parts.names)) split ∙ get_or_at s.parts.names (next_fresh s.parts) h.more [] (length s.parts.names) refl,
      )

  -- names only come
  names_rise : (o : Option (List ℕ)) → length s.parts.names ≤ length (with_gate_node o g s).parts.names
  names_rise None = omega (arith, ap length (fresh_names g s), length-append s.parts.names (next_fresh s.parts ∷ []))
  names_rise (Some text) = omega (arith, ap length (given_names text g s))

  -- where the nodes after it drive given texts or names that came, so do they all
  out_more : (o : Option (List ℕ)) (place : ℕ) → o ≡ given place → GatesCame (with_gate_node o g s) q
      → DriveGivenOrFresh given q.parts.named.nodes (with_gate_node o g s).parts.names q.parts.names (length (with_gate_node o g s).parts.named.nodes)
      → DriveGivenOrFresh given q.parts.named.nodes s.parts.names q.parts.names (length s.parts.named.nodes)
  out_more o place is h rest k from within = elim (cases_lt (length s.parts.named.nodes) k) [
    | inl behind ↦ elim (rest k (counted k behind) within) [
      | inl a ↦ inl a
      | inr c ↦ inr (come_later s.parts.names (with_gate_node o g s).parts.names q.parts.names (slice_index_or q.parts.named.nodes k no_named).out (names_rise o) c)
    ]
    | inr here ↦ at k (omega arith)
  ]
    where
      counted : (m : ℕ) → length s.parts.named.nodes < m → length (with_gate_node o g s).parts.named.nodes ≤ m
      counted m l = omega (arith, ap (λ (N : Named). length N.nodes) (node_named o g s), length-append s.parts.named.nodes (node_of_gate o g s ∷ []))

      at : (m : ℕ) → length s.parts.named.nodes ≡ m → ((j : ℕ) × (given j ≡ Some (slice_index_or q.parts.named.nodes m no_named).out)) ⊎ HasCome s.parts.names q.parts.names (slice_index_or q.parts.named.nodes m no_named).out
      at m e =
          let drives : out_text s.parts o ≡ (slice_index_or q.parts.named.nodes m no_named).out
          = ap (λ (n : NamedNode). n.out) (sym (node_here o g s q h) ∙ ap (λ (j : ℕ). slice_index_or q.parts.named.nodes j no_named) e) in
          subst (λ (t : List ℕ). ((j : ℕ) × (given j ≡ Some t)) ⊎ HasCome s.parts.names q.parts.names t) drives (out_here o place is h)

module _ (word : List (List ℕ)) (given : ℕ → Option (List ℕ)) where
  -- the nodes of gates drive given texts or names that came
  gates_outs : (gates : List CheckGate) (s : GateParts)
      → DriveGivenOrFresh given (with_gates word given gates s).parts.named.nodes s.parts.names (with_gates word given gates s).parts.names (length s.parts.named.nodes)
  gates_outs [] s = λ k from within. absurd (omega arith)
  gates_outs (gate.Word place ∷ gates) s = gates_outs gates (record { parts = s.parts; names = s.names ++ text_at word place ∷ [] })
  gates_outs (g ∷ gates) s =
      let next = with_gate word (given (length s.names)) g s in
      out_more given g s (with_gates word given (g ∷ gates) s) (given (length s.names)) (length s.names) refl (gates_came word given gates next) (gates_outs gates next)

module _ (p : PartsOf) (word : List (List ℕ)) (made : GateList) where
  -- and so do those of a checker
  outs_given : (rails : Option RailNames)
      → DriveGivenOrFresh (given_text p.names made rails) (with_checker p word made rails).parts.named.nodes p.names (with_checker p word made rails).parts.names (length p.named.nodes)
  unfolding with_checker
  outs_given rails = gates_outs word (given_text p.names made rails) made.gates (record { parts = p; names = [] })

  -- a given text is a rail's
  rail_text : (rails : Option RailNames) (place : ℕ) (text : List ℕ) → given_text p.names made rails place ≡ Some text → IsRailText p.names rails text
  rail_text None place text e = cc
  rail_text (Some rails) place text e = elim (given_cases p.names made rails place text e) [
    | inl a ↦ inl a.1
    | inr b ↦ inr b.1
  ]

  -- each node of a checker drives the text of a rail's name, or a name that came
  pub checker_outs : (rails : Option RailNames) (k : ℕ) → length p.named.nodes ≤ k → k < length (with_checker p word made rails).parts.named.nodes
      → IsRailText p.names rails (slice_index_or (with_checker p word made rails).parts.named.nodes k no_named).out
      ⊎ HasCome p.names (with_checker p word made rails).parts.names (slice_index_or (with_checker p word made rails).parts.named.nodes k no_named).out
  checker_outs rails k from within = elim (outs_given rails k from within) [
    | inl a ↦ inl (rail_text rails a.0 (slice_index_or (with_checker p word made rails).parts.named.nodes k no_named).out a.1)
    | inr c ↦ inr c
  ]
