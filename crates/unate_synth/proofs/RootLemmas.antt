-- Roots among the names of parts that hold only inputs and latches yet.
use Rattle.std.proofs.Common.{◌≡◌, ℕ, ◌+◌, ◌<◌, ◌≤◌, inl, inr, Bool, true, false, List, [], ◌∷◌, ◌++◌, take, length, slice_index_or, All, refl, sym, ◌∙◌, ap, ap₂, subst, arith, length-append, length-drop, length-take-le, get_or-take, ◌||◌, drop}
use Rattle.std.proofs.lemmas.Bool.{cases_lt}
use Rattle.std.specs.Str.{bytes_eq}
use Rattle.std.proofs.lemmas.List.Folds.{list_any-append}
use Rattle.std.proofs.lemmas.List.{get_or-drop, length-take, get_or_append_left, get_or-append-add, get_or-map, length-map}
use Rattle.std.proofs.lemmas.List.Elements.{All-nil, All-push, All-get_or, All-from_get_or}
use Rattle.fault_secure.specs.Circuit.{nets}
use Rattle.tsc_net.specs.Names.{text_at, has_text, place_of_text, IsNumbering}
use Rattle.tsc_net.specs.NetlistOf.{NetlistOf, IsBuilt, drivers}
use Rattle.tsc_net.specs.Parts.{PartsOf}
use Rattle.tsc_net.specs.PartsView.{text_of, IsName}
use Rattle.tsc_net.proofs.NameLemmas.{place_within, text_at_place}
use Rattle.gate_net.specs.declared.root.Root.{Root}
use Rattle.gate_net.specs.Gates.{GateNetwork, IsLine}
use Rattle.gate_net.specs.Added.{root_texts, IsUndriven}
use Rattle.gate_net.specs.Written.{Extends}
use Rattle.net_writing.specs.Names.{Keeps}
use Rattle.net_writing.specs.Begun.{begun_to}
use Rattle.unate_synth.specs.declared.roots.SourceNames.{SourceNames}
use Rattle.unate_synth.specs.Roots.{root_number, IsSourceNumber, HasSourcesOnly, AreRoots, AddsRootOrNot}

-- at most one root more
pub added_few : (sources : SourceNames) (old new : List Root) (root : Root) → AddsRootOrNot sources old new root → length new ≤ length old + 1
added_few sources old new root (inl same) = omega (arith, ap length same)
added_few sources old new root (inr added) = omega (arith, ap length added.pushed, length-append old (root ∷ []))

-- no root yet
pub no_roots : (texts : List (List ℕ)) (sources : SourceNames) (G : GateNetwork) (roots : List Root) → roots ≡ [] → AreRoots texts sources G roots
no_roots texts sources G roots none = subst (AreRoots texts sources G) (sym none) (record {
  lines = All-nil (λ root. IsLine G root.line);
  names = All-nil (λ root. IsName texts root.name);
  apart = All-nil (λ root. IsSourceNumber sources root.name.number → ⊥);
  once = λ a b low lower e. absurd (omega arith);
})

-- one root more
pub root_added : (texts : List (List ℕ)) (sources : SourceNames) (G : GateNetwork) (old new : List Root) (root : Root) → AreRoots texts sources G old → IsLine G root.line → IsName texts root.name
    → AddsRootOrNot sources old new root → AreRoots texts sources G new
root_added texts sources G old new root are line name (inl same) = subst (AreRoots texts sources G) (sym same) are
root_added texts sources G old new root are line name (inr adds) = subst (AreRoots texts sources G) (sym adds.pushed) (record {
  lines = All-push (λ root. IsLine G root.line) old root are.lines line;
  names = All-push (λ root. IsName texts root.name) old root are.names name;
  apart = All-push (λ root. IsSourceNumber sources root.name.number → ⊥) old root are.apart adds.apart;
  once = once;
})
  where
    none : Root
    none = record { name = record { number = 0 }; line = record { number = 0 } }

    early : (k : ℕ) → k < length old → root_number (old ++ root ∷ []) k ≡ root_number old k
    early k low = ap (λ (r : Root). r.name.number) (get_or_append_left old (root ∷ []) none k low)

    late : (k : ℕ) → k ≡ length old → root_number (old ++ root ∷ []) k ≡ root.name.number
    late k is = ap (λ (r : Root). r.name.number) (ap (λ n. slice_index_or (old ++ root ∷ []) n none) (is ∙ zero_more (length old)) ∙ get_or-append-add old (root ∷ []) 0 none)
      where
        zero_more : (n : ℕ) → n ≡ n + 0
        zero_more n = omega arith

    once : (a b : ℕ) → a < length (old ++ root ∷ []) → b < length (old ++ root ∷ []) → root_number (old ++ root ∷ []) a ≡ root_number (old ++ root ∷ []) b → a ≡ b
    once a b low lower e =
        let long : length (old ++ root ∷ []) ≡ length old + 1 = length-append old (root ∷ []) in
        elim (cases_lt a (length old)) [
          | inl first ↦ elim (cases_lt b (length old)) [
            | inl second ↦ are.once a b first second (sym (early a first) ∙ e ∙ early b second)
            | inr past ↦ (let is : b ≡ length old = omega arith in absurd (adds.other a first (sym (early a first) ∙ e ∙ late b is)))
          ]
          | inr beyond ↦ (let is : a ≡ length old = omega arith in elim (cases_lt b (length old)) [
            | inl second ↦ absurd (adds.other b second (sym (early b second) ∙ sym e ∙ late a is))
            | inr past ↦ omega arith
          ])
        ]

-- a name apart from a stretch of names has another text than each of them
pub stretch_apart : (names : List (List ℕ)) (first count number : ℕ) → IsNumbering names → number < length names → ((first ≤ number) × (number < first + count) → ⊥)
    → has_text (take count (drop first names)) (text_at names number) ≡ false
stretch_apart names first count number numbering low apart = by (has_text (take count (drop first names)) (text_at names number)) refl
  where
    by : (b : Bool) → has_text (take count (drop first names)) (text_at names number) ≡ b → b ≡ false
    by false is = refl
    by true is =
        let part : List (List ℕ) = take count (drop first names) in
        let place : ℕ = place_of_text part (text_at names number) in
        let within : place < length part = place_within part (text_at names number) is in
        let taken = length-take {A = List ℕ} count (drop first names) in
        let left = length-drop {A = List ℕ} first names in
        let at : text_at names (first + place) ≡ text_at names number
        = sym (get_or-take count (drop first names) place [] (omega (arith, taken)) ∙ get_or-drop first names place []) ∙ text_at_place part (text_at names number) is in
        let same : first + place ≡ number = numbering.distinct (first + place) number (omega (arith, taken, left)) low at in
        absurd (apart (omega (arith, same), omega (arith, same, taken)))

-- a name that is no source's is undriven, where nothing is driven except the sources
pub name_undriven : (sources : SourceNames) (p : PartsOf) (G : GateNetwork) → HasSourcesOnly sources p G → (number : ℕ) → number < length p.names → (IsSourceNumber sources number → ⊥)
    → has_text (drivers p.named) (text_at p.names number) ≡ false
name_undriven sources p G begun number low apart =
    let text : List ℕ = text_at p.names number in
    let no_input : has_text (take sources.inputs p.names) text ≡ false = stretch_apart p.names 0 sources.inputs number begun.distinct low (λ h. let less = h.1 in apart (inl (omega arith))) in
    let no_latch : has_text (take sources.latches (drop sources.first p.names)) text ≡ false
    = stretch_apart p.names sources.first sources.latches number begun.distinct low (λ h. apart (inr h)) in
    ap (λ (list : List (List ℕ)). has_text list text) begun.driven
    ∙ list_any-append (bytes_eq text) (take sources.inputs p.names) (take sources.latches (drop sources.first p.names))
    ∙ ap₂ (λ a b. a || b) no_input no_latch

-- the premises of writing the gates of roots
module _ (sources : SourceNames) (p : PartsOf) (G : GateNetwork) (roots : List Root) (begun : HasSourcesOnly sources p G) (are : AreRoots p.names sources G roots) where
  root_text : (place : ℕ) → place < length roots → text_at (root_texts p.names roots) place ≡ text_at p.names (root_number roots place)
  root_text place low = get_or-map (λ root. text_of p.names root.name) roots place (record { name = record { number = 0 }; line = record { number = 0 } }) [] low

  root_within : (place : ℕ) → place < length roots → root_number roots place < length p.names
  root_within place low = All-get_or (λ root. IsName p.names root.name) roots place (record { name = record { number = 0 }; line = record { number = 0 } }) low are.names

  root_apart : (place : ℕ) → place < length roots → IsSourceNumber sources (root_number roots place) → ⊥
  root_apart place low = All-get_or (λ root. IsSourceNumber sources root.name.number → ⊥) roots place (record { name = record { number = 0 }; line = record { number = 0 } }) low are.apart

  root_count : length (root_texts p.names roots) ≡ length roots
  root_count = length-map roots (λ root. text_of p.names root.name)

  pub roots_distinct : IsNumbering (root_texts p.names roots)
  roots_distinct = record {
    distinct = λ a b low lower e. (
        let first : a < length roots = omega (arith, root_count) in
        let second : b < length roots = omega (arith, root_count) in
        are.once a b first second
        (begun.distinct.distinct (root_number roots a) (root_number roots b) (root_within a first) (root_within b second) (sym (root_text a first) ∙ e ∙ root_text b second)));
  }

  pub roots_undriven : All (IsUndriven p.named) (root_texts p.names roots)
  roots_undriven = All-from_get_or (IsUndriven p.named) (root_texts p.names roots) [] (λ place low. (
      let there : place < length roots = omega (arith, root_count) in
      ap (has_text (drivers p.named)) (root_text place there)
      ∙ name_undriven sources p G begun (root_number roots place) (root_within place there) (root_apart place there)))

-- names that come after those that are there
pub extends_keeps : (p q : PartsOf) → Extends p q → Keeps p.names q.names
extends_keeps p q e = subst (Keeps p.names) (sym e.names) (record {
  longer = omega (arith, length-append p.names e.more);
  kept = λ number low. get_or_append_left p.names e.more [] number low;
})

-- as many names as the source has nets
pub begun_count : (S : NetlistOf) (p : PartsOf) → IsBuilt S → p ≡ begun_to S (nets S.circuit) → length p.names ≡ nets S.circuit
begun_count S p checked begun =
    let sized : length S.names ≡ nets S.circuit = checked.sized in
    ap (λ (r : PartsOf). length r.names) begun ∙ length-take-le {A = List ℕ} (nets S.circuit) S.names (omega arith)
