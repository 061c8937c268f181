-- Terms of rows, gates of nodes.
use Rattle.std.proofs.Common.{◌≡◌, ℕ, zero, suc, ◌+◌, ◌<◌, ◌≤◌, Bool, true, false, List, [], ◌∷◌, ◌++◌, length, map, get_or, take, All, Option, refl, sym, ap, ap₂, ◌∙◌, subst, arith, append_assoc, length-append}
use Rattle.std.proofs.Math.Logic.{⊎_elim}
use Rattle.std.proofs.lemmas.Bool.{cases_lt}
use Rattle.std.proofs.lemmas.List.{get_or_append_left, get_or-append-add, length-map, get_or-map}
use Rattle.lane_sim.specs.Program.{IsOperationOf, IsStep, AreReady}
use Rattle.fault_secure.specs.Circuit.{Circuit, NodeOf, node}
use Rattle.lane_rows.specs.Alive.{source_count, net_at}
use Rattle.lane_sim.specs.FlatRows.{AreInside, KeepsRows}
use Rattle.lane_sim.specs.TwoPins.{AreMasks}
use Rattle.lane_sim.specs.declared.gate.Operation.{Operation}
use Rattle.lane_sim.specs.declared.gate.Operation.TheVariants.{Two, Many}
use Rattle.lane_sim.specs.declared.gate.Step.{Step}
use Rattle.lane_sim.specs.declared.steps.Steps.{Steps}
use Rattle.lane_sim.specs.declared.flat_rows.FlatRows.{FlatRows}
use Rattle.std.specs.Prelude.{slice_index}
use Rattle.std.specs.Prelude.{if◌then◌else◌}
use Rattle.std.proofs.lemmas.List.{map-append}
use Rattle.tsc_cover.specs.Cover.{Literal, Free, Wants, literal_at}
use Rattle.tsc_cover.specs.Terms.{terms_from}
use Rattle.tsc_cover.specs.Row.{literal}
use Rattle.lane_sim.specs.declared.gate.Term.{Term}

-- what one literal asks
abbrev asked : ℕ → Literal → List (ℕ × Bool)
asked pin l = terms_from pin (l ∷ [])

terms_from-cons : (pin : ℕ) (l : Literal) (row : List Literal) → terms_from pin (l ∷ row) ≡ asked pin l ++ terms_from (pin + 1) row
terms_from-cons pin Free row = refl
terms_from-cons pin (Wants wanted) row = refl

-- the terms of one literal more
terms_more : (from pin : ℕ) (row : List Literal) → pin < length row
    → terms_from from (take (suc pin) row) ≡ terms_from from (take pin row) ++ asked (from + pin) (literal_at row pin)
terms_more from pin [] inside = absurd (omega arith)
terms_more from zero (l ∷ row) inside = ap (λ n. asked n l) (omega arith)
terms_more from (suc pin) (l ∷ row) inside =
    terms_from-cons from l (take (suc pin) row)
    ∙ ap (λ more. asked from l ++ more) (terms_more (from + 1) pin row (omega arith) ∙ ap (λ n. terms_from (from + 1) (take pin row) ++ asked n (literal_at row pin)) (omega arith))
    ∙ sym (append_assoc (asked from l) (terms_from (from + 1) (take pin row)) (asked (from + suc pin) (literal_at row pin)))
    ∙ ap (λ front. front ++ asked (from + suc pin) (literal_at row pin)) (sym (terms_from-cons from l (take pin row)))

asked_where : (pin : ℕ) (care wants : Bool) → asked pin (literal care wants) ≡ (if care then (pin, wants) ∷ [] else [])
asked_where pin true wants = refl
asked_where pin false wants = refl

one_or_none : (make : ℕ × Bool → Term) (care : Bool) (asks : ℕ × Bool) → map make (if care then asks ∷ [] else []) ≡ (if care then make asks ∷ [] else [])
one_or_none make true asks = refl
one_or_none make false asks = refl

-- the step of the loop over the pins
pub row_terms_more : (make : ℕ × Bool → Term) (row : List Literal) (pin : ℕ) (care wants : Bool) (old new : List Term) → pin < length row
    → literal_at row pin ≡ literal care wants → old ≡ map make (terms_from 0 (take pin row))
    → new ≡ old ++ (if care then make (pin, wants) ∷ [] else []) → new ≡ map make (terms_from 0 (take (pin + 1) row))
row_terms_more make row pin care wants old new inside is before pushed =
    let next : suc pin ≡ pin + 1 = omega arith in
    let here : 0 + pin ≡ pin = omega arith in
    pushed
    ∙ ap₂ ◌++◌ before (sym (one_or_none make care (pin, wants)) ∙ ap (map make) (sym (asked_where pin care wants) ∙ ap (asked pin) (sym is) ∙ ap (λ n. asked n (literal_at row pin)) (sym here)))
    ∙ sym (map-append make (terms_from 0 (take pin row)) (asked (0 + pin) (literal_at row pin)))
    ∙ ap (map make) (sym (terms_more 0 pin row inside) ∙ ap (λ n. terms_from 0 (take n row)) next)

-- ---- steps of nodes

-- what was ready stays ready where the rows of terms stay
operation_kept : (first : ℕ) (rows : List (Option ℕ)) (n : NodeOf) (old new : FlatRows) → KeepsRows old new → (operation : Operation) → IsOperationOf first rows n old operation → IsOperationOf first rows n new operation
operation_kept first rows n old new keeps (Two in_rows also masks one other) ready = ready
operation_kept first rows n old new keeps (Many on place) ready =
    let kept = keeps place ready.place in
    record { sized = ready.sized; on = ready.on; place = kept.0; terms = kept.1 ∙ ready.terms }

step_kept : (first : ℕ) (rows : List (Option ℕ)) (n : NodeOf) (net : ℕ) (old new : FlatRows) (step : Step) → KeepsRows old new → IsStep first rows n net old step → IsStep first rows n net new step
step_kept first rows n net old new step keeps ready = record { driver = ready.driver; start = ready.start; row = ready.row; operation = operation_kept first rows n old new keeps step.operation ready.operation }

-- one step more
pub ready_push : (C : Circuit) (rows : List (Option ℕ)) (order : List ℕ) (places : ℕ) (old new : Steps) (step : Step)
    → AreReady C rows order places old → KeepsRows old.flat new.flat → AreInside new.flat → length new.flat.gates.items ≤ length old.flat.gates.items + 1 → new.masks.items ≡ old.masks.items → new.sources ≡ old.sources → new.list.items ≡ old.list.items ++ step ∷ []
    → IsStep (source_count C) rows (node C (slice_index order places)) (net_at C order places) new.flat step → AreReady C rows order (places + 1) new
ready_push C rows order places old new step ready keeps inside gates same idle pushed here = record {
  idle = λ none. ready.idle (sym idle ∙ none);
  inside = inside;
  gates = omega (arith, gates, ready.gates);
  masks = subst AreMasks (sym same) ready.masks;
  sized = ap length pushed ∙ length-append old.list.items (step ∷ []) ∙ ap (λ n. n + 1) ready.sized;
  each = λ k d below. ⊎_elim
      (λ before.
      subst (IsStep (source_count C) rows (node C (slice_index order k)) (net_at C order k) new.flat)
      (sym (ap (λ l. get_or l k d) pushed ∙ get_or_append_left old.list.items (step ∷ []) d k (omega (arith, ready.sized))))
      (step_kept (source_count C) rows (node C (slice_index order k)) (net_at C order k) old.flat new.flat (get_or old.list.items k d) keeps (ready.each k d before)))
      (λ last.
      let is : k ≡ places = omega arith in
      let at : k ≡ length old.list.items + 0 = omega (arith, ready.sized) in
      subst (IsStep (source_count C) rows (node C (slice_index order k)) (net_at C order k) new.flat)
      (sym (ap (λ l. get_or l k d) pushed ∙ ap (λ n. get_or (old.list.items ++ step ∷ []) n d) at ∙ get_or-append-add old.list.items (step ∷ []) 0 d))
      (subst (λ n. IsStep (source_count C) rows (node C (slice_index order n)) (net_at C order n) new.flat step) (sym is) here))
      (cases_lt k places);
}

pub all_mapped : {X Y : Type 0} (P : Y → Type 0) (f : X → Y) (xs : List X) (e : X) → ((k : ℕ) (d : X) → k < length xs → P (f (get_or xs k d))) → All P (map f xs)
all_mapped P f xs e each k d inside =
    let below : k < length xs = omega (arith, length-map xs f) in
    subst P (sym (get_or-map f xs k e d below)) (each k e below)
