-- What the nodes of a checker drive: given texts and fresh ones, none of them twice.
use Rattle.std.proofs.Common.{◌≡◌, ℕ, suc, ◌+◌, ◌<◌, ◌≤◌, ◌⊎◌, inl, inr, true, false, if◌then◌else◌, List, [], ◌∷◌, ◌++◌, length, Option, Some, None, refl, sym, ◌∙◌, ap, ap₂, subst, arith, length-append, true≢false}
use Rattle.std.specs.Str.{bytes_eq}
use Rattle.std.proofs.lemmas.Bool.{cases_Bool}
use Rattle.std.proofs.lemmas.List.{append_assoc, map-append, get_or_append_left, get_or_at}
use Rattle.tsc_net.specs.Named.{Named, NamedNode, latch_outs, node_outs}
use Rattle.tsc_net.specs.Names.{has_text, place_of_text, text_at, IsNumbering}
use Rattle.tsc_net.specs.NetlistOf.{drivers}
use Rattle.tsc_net.specs.Parts.{next_fresh}
use Rattle.tsc_net.proofs.NameLemmas.{bytes_eq_same, place_within, text_at_place, numbering-with_text}
use Rattle.tsc_net.proofs.MarkLemmas.{has_text-other, has_text-here}
use Rattle.code_checkers.specs.declared.gate.CheckGate.{CheckGate}
use Rattle.code_checkers.specs.declared.gate.CheckGate.TheVariants as gate
use Rattle.net_writing.specs.CheckerParts.{GateParts, out_text, with_gate, with_gate_node, with_gates}
use Rattle.net_writing.proofs.CheckerShape.{with_nodes, node_of_gate, GatesCame, node_named, node_texts, fresh_names, given_names, gates_came}

-- lists of texts with one text more
module _ (texts : List (List ℕ)) (t : List ℕ) where
  -- a text that is there was there, or is the one that came
  pub has_push_cases : (u : List ℕ) → has_text (texts ++ t ∷ []) u ≡ true → (has_text texts u ≡ true) ⊎ (u ≡ t)
  has_push_cases u e = elim (cases_Bool (bytes_eq u t)) [
    | inl same ↦ inr (bytes_eq_same u t same)
    | inr other ↦ inl (sym (has_text-other texts t u other) ∙ e)
  ]

  -- a text that was there is there still
  pub has_push : (u : List ℕ) → has_text texts u ≡ true → has_text (texts ++ t ∷ []) u ≡ true
  has_push u e = elim (cases_Bool (bytes_eq u t)) [
    | inl same ↦ ap (has_text (texts ++ t ∷ [])) (bytes_eq_same u t same) ∙ has_text-here texts t
    | inr other ↦ has_text-other texts t u other ∙ e
  ]

  -- a text that wasn't there is there only if it is the one that came
  pub lacks_push : (u : List ℕ) → has_text texts u ≡ false → (u ≡ t → ⊥) → has_text (texts ++ t ∷ []) u ≡ false
  lacks_push u e apart = elim (cases_Bool (bytes_eq u t)) [
    | inl same ↦ absurd (apart (bytes_eq_same u t same))
    | inr other ↦ has_text-other texts t u other ∙ e
  ]

  -- a new text keeps different places different
  pub numbering_push : IsNumbering texts → has_text texts t ≡ false → IsNumbering (texts ++ t ∷ [])
  numbering_push numbering new = subst IsNumbering (ap (λ b. if b then texts else texts ++ t ∷ []) new) (numbering-with_text texts t numbering)

  -- a text of a numbering doesn't stand before its place
  pub lacks_before : (more : List (List ℕ)) → IsNumbering (texts ++ t ∷ more) → has_text texts t ≡ false
  lacks_before more numbering = elim (cases_Bool (has_text texts t)) [
    | inl there ↦ (
        let k : ℕ = place_of_text texts t in
        let low : place_of_text texts t < length texts = place_within texts t there in
        let long : length (texts ++ t ∷ more) ≡ length texts + suc (length more) = length-append texts (t ∷ more) in
        let first : text_at (texts ++ t ∷ more) (place_of_text texts t) ≡ t = get_or_append_left texts (t ∷ more) [] (place_of_text texts t) low ∙ text_at_place texts t there in
        let second : text_at (texts ++ t ∷ more) (length texts) ≡ t = get_or_at texts t more [] (length texts) refl in
        let same : place_of_text texts t ≡ length texts = numbering.distinct (place_of_text texts t) (length texts) (omega arith) (omega arith) (first ∙ sym second) in
        absurd (omega arith))
    | inr absent ↦ absent
  ]

-- a node more drives its text more
pub drivers_push : (N : Named) (n : NamedNode) → drivers (with_nodes N (n ∷ [])) ≡ drivers N ++ n.out ∷ []
drivers_push N n =
    ap (λ (outs : List (List ℕ)). (N.inputs ++ latch_outs N) ++ outs) (map-append (λ (m : NamedNode). m.out) N.nodes (n ∷ []))
    ∙ sym (append_assoc (N.inputs ++ latch_outs N) (node_outs N) (n.out ∷ []))

-- what is driven so far has names, is driven once, and is none of the texts that are still to be given; these are names
pub record DrivesApart (given : ℕ → Option (List ℕ)) (s : GateParts) : Type 0 where
  pub numbering : IsNumbering (drivers s.parts.named)
  pub named : (t : List ℕ) → has_text (drivers s.parts.named) t ≡ true → has_text s.parts.names t ≡ true
  pub given_named : (k : ℕ) (t : List ℕ) → given k ≡ Some t → has_text s.parts.names t ≡ true
  pub undriven : (k : ℕ) (t : List ℕ) → length s.names ≤ k → given k ≡ Some t → has_text (drivers s.parts.named) t ≡ false

module _ (given : ℕ → Option (List ℕ)) (apart : (j k : ℕ) (t : List ℕ) → given j ≡ Some t → given k ≡ Some t → j ≡ k) (g : CheckGate) (s q : GateParts) where
  -- a gate's node drives one text more
  driven_more : (o : Option (List ℕ)) → drivers (with_gate_node o g s).parts.named ≡ drivers s.parts.named ++ out_text s.parts o ∷ []
  driven_more o = ap drivers (node_named o g s) ∙ drivers_push s.parts.named (node_of_gate o g s)

  -- a gate has one text more
  one_more : (o : Option (List ℕ)) → length (with_gate_node o g s).names ≡ length s.names + 1
  one_more o = ap length (node_texts o g s) ∙ length-append s.names (out_text s.parts o ∷ [])

  -- a node more, which drives a fresh text or a given one
  drives_node : (o : Option (List ℕ)) → o ≡ given (length s.names) → GatesCame (with_gate_node o g s) q → IsNumbering q.parts.names → DrivesApart given s → DrivesApart given (with_gate_node o g s)
  drives_node None here came numbering h = record {
    numbering = subst IsNumbering (sym (driven_more None)) (numbering_push (drivers s.parts.named) t h.numbering undriven);
    named = named;
    given_named = λ k u e. kept u (h.given_named k u e);
    undriven = later;
  }
    where
      t : List ℕ
      t = next_fresh s.parts

      new : has_text s.parts.names (next_fresh s.parts) ≡ false
      new =
          lacks_before s.parts.names (next_fresh s.parts) came.more
          (subst IsNumbering (came.parts_names ∙ ap (λ (list : List (List ℕ)). list ++ came.more) (fresh_names g s) ∙ append_assoc s.parts.names (next_fresh s.parts ∷ []) came.more) numbering)

      undriven : has_text (drivers s.parts.named) (next_fresh s.parts) ≡ false
      undriven = elim (cases_Bool (has_text (drivers s.parts.named) (next_fresh s.parts))) [
        | inl there ↦ absurd (true≢false (sym (h.named (next_fresh s.parts) there) ∙ new))
        | inr absent ↦ absent
      ]

      kept : (u : List ℕ) → has_text s.parts.names u ≡ true → has_text (with_gate_node None g s).parts.names u ≡ true
      kept u e = ap (λ (list : List (List ℕ)). has_text list u) (fresh_names g s) ∙ has_push s.parts.names (next_fresh s.parts) u e

      named : (u : List ℕ) → has_text (drivers (with_gate_node None g s).parts.named) u ≡ true → has_text (with_gate_node None g s).parts.names u ≡ true
      named u e = elim (has_push_cases (drivers s.parts.named) (next_fresh s.parts) u (sym (ap (λ (list : List (List ℕ)). has_text list u) (driven_more None)) ∙ e)) [
        | inl old ↦ kept u (h.named u old)
        | inr same ↦ ap₂ (λ (list : List (List ℕ)) (v : List ℕ). has_text list v) (fresh_names g s) same ∙ has_text-here s.parts.names (next_fresh s.parts)
      ]

      later : (k : ℕ) (u : List ℕ) → length (with_gate_node None g s).names ≤ k → given k ≡ Some u → has_text (drivers (with_gate_node None g s).parts.named) u ≡ false
      later k u low e =
          ap (λ (list : List (List ℕ)). has_text list u) (driven_more None)
          ∙ lacks_push (drivers s.parts.named) (next_fresh s.parts) u (h.undriven k u (omega (arith, one_more None)) e)
          (λ same. true≢false (sym (h.given_named k u e) ∙ ap (has_text s.parts.names) same ∙ new))
  drives_node (Some t) here came numbering h = record {
    numbering = subst IsNumbering (sym (driven_more (Some t))) (numbering_push (drivers s.parts.named) t h.numbering undriven);
    named = named;
    given_named = λ k u e. kept u (h.given_named k u e);
    undriven = later;
  }
    where
      undriven : has_text (drivers s.parts.named) t ≡ false
      undriven = h.undriven (length s.names) t (omega arith) (sym here)

      kept : (u : List ℕ) → has_text s.parts.names u ≡ true → has_text (with_gate_node (Some t) g s).parts.names u ≡ true
      kept u e = ap (λ (list : List (List ℕ)). has_text list u) (given_names t g s) ∙ e

      named : (u : List ℕ) → has_text (drivers (with_gate_node (Some t) g s).parts.named) u ≡ true → has_text (with_gate_node (Some t) g s).parts.names u ≡ true
      named u e = elim (has_push_cases (drivers s.parts.named) t u (sym (ap (λ (list : List (List ℕ)). has_text list u) (driven_more (Some t))) ∙ e)) [
        | inl old ↦ kept u (h.named u old)
        | inr same ↦ kept u (ap (has_text s.parts.names) same ∙ h.given_named (length s.names) t (sym here))
      ]

      later : (k : ℕ) (u : List ℕ) → length (with_gate_node (Some t) g s).names ≤ k → given k ≡ Some u → has_text (drivers (with_gate_node (Some t) g s).parts.named) u ≡ false
      later k u low e =
          ap (λ (list : List (List ℕ)). has_text list u) (driven_more (Some t))
          ∙ lacks_push (drivers s.parts.named) t u (h.undriven k u (omega (arith, one_more (Some t))) e)
          (λ same. (let at : k ≡ length s.names = apart k (length s.names) u e (sym here ∙ ap Some (sym same)) in absurd (omega (arith, one_more (Some t)))))

module _ (word : List (List ℕ)) (given : ℕ → Option (List ℕ)) (apart : (j k : ℕ) (t : List ℕ) → given j ≡ Some t → given k ≡ Some t → j ≡ k) where
  -- the nodes of gates drive different texts
  pub gates_drive : (gates : List CheckGate) (s : GateParts) → IsNumbering (with_gates word given gates s).parts.names → DrivesApart given s → DrivesApart given (with_gates word given gates s)
  gates_drive [] s numbering h = h
  gates_drive (gate.Word place ∷ gates) s numbering h =
      gates_drive gates (record { parts = s.parts; names = s.names ++ text_at word place ∷ [] }) numbering (record {
        numbering = h.numbering;
        named = h.named;
        given_named = h.given_named;
        undriven = λ k t low e. h.undriven k t (omega (arith, low, length-append s.names (text_at word place ∷ []))) e;
      })
  gates_drive (g ∷ gates) s numbering h =
      let next = with_gate word (given (length s.names)) g s in
      gates_drive gates next numbering (drives_node given apart g s (with_gates word given (g ∷ gates) s) (given (length s.names)) refl (gates_came word given gates next) numbering h)
