-- What a visit of each kind of gate gives.
use Rattle.std.specs.Prelude.{◌≡◌, ℕ, ◌<◌, List, length, set, slice_get, slice_index_or, Option, Some, None}
use Rattle.std.proofs.Common.{sym, ◌∙◌, ap, arith}
use Rattle.code_checkers.specs.declared.gate.CheckGate.{CheckGate}
use Rattle.code_checkers.specs.declared.gate.CheckGate.TheVariants as gate
use Rattle.code_checkers.specs.Signal.{Signal}
use Rattle.code_checkers.specs.Signal.Signal.{Word, Buf, Not, And, Or, Xor}
use Rattle.code_checkers.specs.Gates.{signal_of, signals_of, meaning, AreOrdered, gate_at}
use Rattle.code_checkers.specs.Walk.{with_signal, walk, with_gate, IsSharing, IsVisit}
use Rattle.code_checkers.proofs.Kept.{Keeps-refl, Keeps-trans}
use Rattle.code_checkers.proofs.Sharing.{meaning_is, written, walk_there}

-- a place that was visited before
pub visit_noted : (draft gates : List CheckGate) (places : List (Option ℕ)) (place there : ℕ)
    → IsSharing draft gates places → place < length draft → slice_index_or places place None ≡ Some there → IsVisit draft gates gates place there
visit_noted draft gates places place there h lt is =
    let noted = h.noted place there (omega (arith, h.sized)) is in
    record {
      walked = sym (ap (λ (s : Signal). walk s (signals_of gates)) (sym noted.1) ∙ walk_there gates there h.ordered noted.0);
      added = record { means = noted.1; within = noted.0; keeps = Keeps-refl gates };
    }

pub visit_word : (draft gates new : List CheckGate) (places noted : List (Option ℕ)) (place there word : ℕ)
    → AreOrdered draft → IsSharing draft gates places → place < length draft → gate_at draft place ≡ gate.Word word
    → new ≡ with_gate gates (gate.Word word) → slice_get new there ≡ Some (gate.Word word) → noted ≡ set places place (Some there)
    → IsVisit draft gates new place there × IsSharing draft new noted
visit_word draft gates new places noted place there word ordered h lt at e stored note =
    let means : meaning draft place ≡ Word word = meaning_is draft place ordered lt ∙ ap (signal_of (signals_of draft)) at in
    let w = written draft gates new places noted (gate.Word word) place there h lt tt means e stored note in (
      record {
        walked = w.signals ∙ sym (ap (λ (s : Signal). walk s (signals_of gates)) means);
        added = record { means = w.added.means ∙ sym means; within = w.added.within; keeps = w.added.keeps };
      },
      w.shares,
    )

pub visit_buf : (draft start gates new : List CheckGate) (places noted : List (Option ℕ)) (place there a first : ℕ)
    → AreOrdered draft → IsSharing draft gates places → place < length draft → gate_at draft place ≡ gate.Buf a → IsVisit draft start gates a first
    → new ≡ with_gate gates (gate.Buf first) → slice_get new there ≡ Some (gate.Buf first) → noted ≡ set places place (Some there)
    → IsVisit draft start new place there × IsSharing draft new noted
visit_buf draft start gates new places noted place there a first ordered h lt at v e stored note =
    let means : meaning draft place ≡ Buf (meaning draft a) = meaning_is draft place ordered lt ∙ ap (signal_of (signals_of draft)) at in
    let same : Buf (meaning gates first) ≡ Buf (meaning draft a) = ap Buf v.added.means in
    let w = written draft gates new places noted (gate.Buf first) place there h lt v.added.within (means ∙ sym same) e stored note in (
      record {
        walked = w.signals ∙ ap (with_signal (signals_of gates)) same ∙ ap (λ (ss : List Signal). with_signal ss (Buf (meaning draft a))) v.walked ∙ sym (ap (λ (s : Signal). walk s (signals_of start)) means);
        added = record { means = w.added.means ∙ same ∙ sym means; within = w.added.within; keeps = Keeps-trans v.added.keeps w.added.keeps };
      },
      w.shares,
    )

pub visit_not : (draft start gates new : List CheckGate) (places noted : List (Option ℕ)) (place there a first : ℕ)
    → AreOrdered draft → IsSharing draft gates places → place < length draft → gate_at draft place ≡ gate.Not a → IsVisit draft start gates a first
    → new ≡ with_gate gates (gate.Not first) → slice_get new there ≡ Some (gate.Not first) → noted ≡ set places place (Some there)
    → IsVisit draft start new place there × IsSharing draft new noted
visit_not draft start gates new places noted place there a first ordered h lt at v e stored note =
    let means : meaning draft place ≡ Not (meaning draft a) = meaning_is draft place ordered lt ∙ ap (signal_of (signals_of draft)) at in
    let same : Not (meaning gates first) ≡ Not (meaning draft a) = ap Not v.added.means in
    let w = written draft gates new places noted (gate.Not first) place there h lt v.added.within (means ∙ sym same) e stored note in (
      record {
        walked = w.signals ∙ ap (with_signal (signals_of gates)) same ∙ ap (λ (ss : List Signal). with_signal ss (Not (meaning draft a))) v.walked ∙ sym (ap (λ (s : Signal). walk s (signals_of start)) means);
        added = record { means = w.added.means ∙ same ∙ sym means; within = w.added.within; keeps = Keeps-trans v.added.keeps w.added.keeps };
      },
      w.shares,
    )

pub visit_and : (draft start middle gates new : List CheckGate) (places noted : List (Option ℕ)) (place there a b first second : ℕ)
    → AreOrdered draft → IsSharing draft gates places → place < length draft → gate_at draft place ≡ gate.And a b → IsVisit draft start middle a first → IsVisit draft middle gates b second
    → new ≡ with_gate gates (gate.And first second) → slice_get new there ≡ Some (gate.And first second) → noted ≡ set places place (Some there)
    → IsVisit draft start new place there × IsSharing draft new noted
visit_and draft start middle gates new places noted place there a b first second ordered h lt at v u e stored note =
    let means : meaning draft place ≡ And (meaning draft a) (meaning draft b) = meaning_is draft place ordered lt ∙ ap (signal_of (signals_of draft)) at in
    let left : meaning gates first ≡ meaning draft a = u.added.keeps.same first v.added.within ∙ v.added.means in
    let same : And (meaning gates first) (meaning gates second) ≡ And (meaning draft a) (meaning draft b) = ap (λ s. And s (meaning gates second)) left ∙ ap (And (meaning draft a)) u.added.means in
    let within : first < length gates = omega (arith, v.added.within, u.added.keeps.grows) in
    let w = written draft gates new places noted (gate.And first second) place there h lt (within, u.added.within) (means ∙ sym same) e stored note in (
      record {
        walked = w.signals ∙ ap (with_signal (signals_of gates)) same
            ∙ ap (λ (ss : List Signal). with_signal ss (And (meaning draft a) (meaning draft b))) (u.walked ∙ ap (walk (meaning draft b)) v.walked)
            ∙ sym (ap (λ (s : Signal). walk s (signals_of start)) means);
        added = record { means = w.added.means ∙ same ∙ sym means; within = w.added.within; keeps = Keeps-trans v.added.keeps (Keeps-trans u.added.keeps w.added.keeps) };
      },
      w.shares,
    )

pub visit_or : (draft start middle gates new : List CheckGate) (places noted : List (Option ℕ)) (place there a b first second : ℕ)
    → AreOrdered draft → IsSharing draft gates places → place < length draft → gate_at draft place ≡ gate.Or a b → IsVisit draft start middle a first → IsVisit draft middle gates b second
    → new ≡ with_gate gates (gate.Or first second) → slice_get new there ≡ Some (gate.Or first second) → noted ≡ set places place (Some there)
    → IsVisit draft start new place there × IsSharing draft new noted
visit_or draft start middle gates new places noted place there a b first second ordered h lt at v u e stored note =
    let means : meaning draft place ≡ Or (meaning draft a) (meaning draft b) = meaning_is draft place ordered lt ∙ ap (signal_of (signals_of draft)) at in
    let left : meaning gates first ≡ meaning draft a = u.added.keeps.same first v.added.within ∙ v.added.means in
    let same : Or (meaning gates first) (meaning gates second) ≡ Or (meaning draft a) (meaning draft b) = ap (λ s. Or s (meaning gates second)) left ∙ ap (Or (meaning draft a)) u.added.means in
    let within : first < length gates = omega (arith, v.added.within, u.added.keeps.grows) in
    let w = written draft gates new places noted (gate.Or first second) place there h lt (within, u.added.within) (means ∙ sym same) e stored note in (
      record {
        walked = w.signals ∙ ap (with_signal (signals_of gates)) same
            ∙ ap (λ (ss : List Signal). with_signal ss (Or (meaning draft a) (meaning draft b))) (u.walked ∙ ap (walk (meaning draft b)) v.walked)
            ∙ sym (ap (λ (s : Signal). walk s (signals_of start)) means);
        added = record { means = w.added.means ∙ same ∙ sym means; within = w.added.within; keeps = Keeps-trans v.added.keeps (Keeps-trans u.added.keeps w.added.keeps) };
      },
      w.shares,
    )

pub visit_xor : (draft start middle gates new : List CheckGate) (places noted : List (Option ℕ)) (place there a b first second : ℕ)
    → AreOrdered draft → IsSharing draft gates places → place < length draft → gate_at draft place ≡ gate.Xor a b → IsVisit draft start middle a first → IsVisit draft middle gates b second
    → new ≡ with_gate gates (gate.Xor first second) → slice_get new there ≡ Some (gate.Xor first second) → noted ≡ set places place (Some there)
    → IsVisit draft start new place there × IsSharing draft new noted
visit_xor draft start middle gates new places noted place there a b first second ordered h lt at v u e stored note =
    let means : meaning draft place ≡ Xor (meaning draft a) (meaning draft b) = meaning_is draft place ordered lt ∙ ap (signal_of (signals_of draft)) at in
    let left : meaning gates first ≡ meaning draft a = u.added.keeps.same first v.added.within ∙ v.added.means in
    let same : Xor (meaning gates first) (meaning gates second) ≡ Xor (meaning draft a) (meaning draft b) = ap (λ s. Xor s (meaning gates second)) left ∙ ap (Xor (meaning draft a)) u.added.means in
    let within : first < length gates = omega (arith, v.added.within, u.added.keeps.grows) in
    let w = written draft gates new places noted (gate.Xor first second) place there h lt (within, u.added.within) (means ∙ sym same) e stored note in (
      record {
        walked = w.signals ∙ ap (with_signal (signals_of gates)) same
            ∙ ap (λ (ss : List Signal). with_signal ss (Xor (meaning draft a) (meaning draft b))) (u.walked ∙ ap (walk (meaning draft b)) v.walked)
            ∙ sym (ap (λ (s : Signal). walk s (signals_of start)) means);
        added = record { means = w.added.means ∙ same ∙ sym means; within = w.added.within; keeps = Keeps-trans v.added.keeps (Keeps-trans u.added.keeps w.added.keeps) };
      },
      w.shares,
    )
