-- A text whose netlist is tried at its points: what is refused of it, the lines of its faults, and its answer.
use Rattle.std.proofs.Common.{◌≡◌, ℕ, ◌+◌, ◌-◌, ◌<◌, ◌≤◌, ◌==◌, Bool, true, false, if◌then◌else◌, List, ◌∷◌, ◌++◌, codes, length, drop, Option, None, Some, Result, Ok, Err, IsErrOf, refl, sym, ap, ap₂, ◌∙◌, subst, append_assoc, arith, inl, inr}
use Rattle.std.specs.Fmt.{decimal}
use Rattle.std.specs.List.{slice_get}
use Rattle.std.proofs.lemmas.Bool.{cases_lt}
use Rattle.std.proofs.lemmas.Bool.Decides.{nat_tests}
use Rattle.std.proofs.lemmas.List.{drop_more}
use Rattle.std.proofs.lemmas.Option.{slice_get_within, get_or_from_slice_get}
use Rattle.tsc_text.specs.Bytes.{bad_line}
use Rattle.tsc_text.specs.Lines.{lines_of}
use Rattle.fault_secure.specs.Circuit.{Circuit, nets}
use Rattle.fault_secure.specs.StuckAt.{StuckAt}
use Rattle.fault_secure.specs.CodePlan.{CodePlan, IsWellMade}
use Rattle.tsc_net.specs.NetlistOf.{NetlistOf}
use Rattle.tsc_net.specs.Limits.{most_nets}
use Rattle.blif_read.specs.Denotes.{DenotesNetlist}
use Rattle.blif_read.specs.declared.kinds.Kind.TheVariants.{Netlist}
use Rattle.sim_text.specs.StepLine.{bits_word}
use Rattle.tsc_bits.specs.Bits.{bits_of}
use Rattle.vectors.specs.Vectors.{AreTests}
use Rattle.lane_sim.specs.declared.point.Point.{Point}
use Rattle.vectors.proofs.PlaceLemmas.{many_inputs}
use Rattle.refusals.specs.declared.refusal.Refusal.{Refusal}
use Rattle.refusals.specs.declared.text_refusal.TextRefusal.{TextRefusal}
use Rattle.netlist_answers.specs.Answers.{IsVectorList}
use Rattle.text_sections.specs.Denoted.{first_lines, netlist_in, plan_in}
use Rattle.text_sections.specs.Refused.{IsRefusedBy, byte_refusal, last_netlist_refusal, lines_refusal, netlist_text_refusal}
use Rattle.netlist_answers.specs.Refused.{has_too_many_points, points_refusal, vectors_refusal}
use Rattle.netlist_answers.specs.VectorList.{counts_line, last_lines, point_end, testable, untestable, vector_line, vector_lines, vector_list, verdict_line}
use Rattle.text_sections.proofs.DenotedLemmas.{plan_denoted}
use Rattle.text_sections.proofs.LimitLemmas.{few_latches, few_nets}
use Rattle.text_sections.proofs.StateLemmas.{last_listed}
use Rattle.text_sections.proofs.SectionLemmas.{allowed_both, none_later, refused_first, refused_later, section_allowed}
use Rattle.fault_secure.specs.Exposing.{listed_states, point_count}

-- ---- the lines

one_more : {X : Type 0} (xs : List X) (place : ℕ) (x : X) → slice_get xs place ≡ Some x → drop place xs ≡ x ∷ drop (place + 1) xs
one_more xs place x found =
    drop_more xs place x (slice_get_within xs place x found) ∙ ap (λ y. y ∷ drop (place + 1) xs) (get_or_from_slice_get xs place x x found)

-- the lines of the faults from a place on: the line of the first, and those of the others
pub vectors_next : (net : NetlistOf) (faults : List StuckAt) (tests : List (Option Point)) (place : ℕ) (fault : StuckAt) (test : Option Point)
    → slice_get faults place ≡ Some fault → slice_get tests place ≡ Some test
    → vector_lines net (drop place faults) (drop place tests) ≡ vector_line net fault test ++ vector_lines net (drop (place + 1) faults) (drop (place + 1) tests)
vectors_next net faults tests place fault test found tested =
    ap₂ (vector_lines net) (one_more faults place fault found) (one_more tests place test tested)

-- the words of a point: the state, and the input
pub point_split : (inputs : ℕ) (point : Point)
    → point_end inputs point ≡ (codes " at " ++ decimal point.state) ++ 32 ∷ bits_word (bits_of inputs point.input)
point_split inputs point = simp append_assoc

-- the last lines, where these many faults are testable, and these many are not
pub last_split : (tests : List (Option Point)) (some none : ℕ) → some ≡ testable tests → none ≡ length tests - some
    → last_lines tests ≡ counts_line some none ++ verdict_line none
last_split tests some none is rest =
    let same : none ≡ untestable tests = rest ∙ ap (λ (k : ℕ). length tests - k) is in
    sym (ap₂ (λ (s n : ℕ). counts_line s n ++ verdict_line n) is same)

-- ---- the points

some_states : (b : Bool) (latches states : ℕ) → (latches == 0) ≡ b → (0 < latches → 0 < states) → 0 < (if b then 1 else states)
some_states true latches states is some = omega arith
some_states false latches states is some = some (grind (arith, nat_tests))

-- where there are no more than 65,536 points there are few inputs
pub few_inputs : (N : Circuit) (P : CodePlan) → IsWellMade P → (65536 < point_count N P → ⊥) → N.inputs ≤ 64
few_inputs N P made few = elim (cases_lt 16 N.inputs) [
  | inl more ↦
      absurd (few (many_inputs (listed_states P) N.inputs (some_states (P.latches == 0) P.latches (length P.states) refl (λ some. (made.states.some some).0)) more))
  | inr small ↦ omega (arith, small)
]

-- what came is no error
pub not_err : {A E : Type 0} (result : Result A E) (value : A) (error : E) → result ≡ Ok value → IsErrOf result error → ⊥
not_err (Ok other) value error is bad = cc
not_err (Err other) value error is bad = cc

-- ---- the text

lines_allowed : (text : List ℕ) → netlist_text_refusal text ≡ None → lines_refusal Netlist (lines_of text) ≡ None
lines_allowed text allowed = last_listed (lines_of text) 0 (none_later (byte_refusal (bad_line text)) (last_netlist_refusal (lines_of text) 0) allowed)

module _ (text : List ℕ) (net : NetlistOf) (is : net ≡ netlist_in text) (allowed : netlist_text_refusal text ≡ None) where
  pub latches_of_text : length net.circuit.latches ≤ 64
  latches_of_text = few_latches Netlist (first_lines (lines_of text)) net is (section_allowed Netlist (lines_of text) 0 (lines_allowed text allowed))

  pub nets_of_text : nets net.circuit ≤ most_nets
  nets_of_text = few_nets Netlist (first_lines (lines_of text)) net is (section_allowed Netlist (lines_of text) 0 (lines_allowed text allowed))

pub refused_netlist : (text : List ℕ) (given : Refusal) → IsRefusedBy (netlist_text_refusal text) given → IsRefusedBy (vectors_refusal text) given
refused_netlist text given refused =
    refused_first (netlist_text_refusal text) (points_refusal (has_too_many_points (netlist_in text).circuit (plan_in text))) given refused

-- a netlist that was read, with its plan
module _ (text : List ℕ) (net : NetlistOf) (plan : CodePlan) (is : net ≡ netlist_in text) (denoted : DenotesNetlist (first_lines (lines_of text)) net plan) where
  same_points : points_refusal (has_too_many_points net.circuit plan) ≡ points_refusal (has_too_many_points (netlist_in text).circuit (plan_in text))
  same_points = ap₂ (λ (n : NetlistOf) (p : CodePlan). points_refusal (has_too_many_points n.circuit p)) is (sym (plan_denoted (lines_of text) 0 net plan is denoted))

  pub refused_points : (given : Refusal) → netlist_text_refusal text ≡ None → IsRefusedBy (points_refusal (has_too_many_points net.circuit plan)) given
      → IsRefusedBy (vectors_refusal text) given
  refused_points given allowed refused =
      let P : Option TextRefusal → Type 0 = λ r. IsRefusedBy r given in
      refused_later (netlist_text_refusal text) (points_refusal (has_too_many_points (netlist_in text).circuit (plan_in text))) given allowed (subst P same_points refused)

  pub allowed_points : netlist_text_refusal text ≡ None → points_refusal (has_too_many_points net.circuit plan) ≡ None → vectors_refusal text ≡ None
  allowed_points allowed few =
      allowed_both (netlist_text_refusal text) (points_refusal (has_too_many_points (netlist_in text).circuit (plan_in text))) allowed (sym same_points ∙ few)

  pub are_tests : (tests : List (Option Point)) → AreTests net.circuit plan tests → AreTests (netlist_in text).circuit (plan_in text) tests
  are_tests tests right =
      let P : NetlistOf → Type 0 = λ n. AreTests n.circuit plan tests in
      let Q : CodePlan → Type 0 = λ p. AreTests (netlist_in text).circuit p tests in
      subst Q (sym (plan_denoted (lines_of text) 0 net plan is denoted)) (subst P is right)

  pub is_vector_list : (tests : List (Option Point)) (answer : List ℕ) → AreTests net.circuit plan tests → answer ≡ vector_list net tests → IsVectorList text answer
  is_vector_list tests answer right listed = record {
    tests = tests;
    right = are_tests tests right;
    listed = listed ∙ ap (λ n. vector_list n tests) is;
  }
