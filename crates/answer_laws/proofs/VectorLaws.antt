-- A text has one list of test vectors, and its verdict is right.
use Rattle.std.proofs.Common.{◌≡◌, ℕ, ◌-◌, ◌<◌, ◌≤◌, List, length, count_by, get_or, Option, None, Some, refl, sym, ap, ap₂, ◌∙◌, arith, inl, inr}
use Rattle.std.specs.Option.{is_some}
use Rattle.std.proofs.lemmas.Bool.{cases_lt}
use Rattle.std.proofs.lemmas.List.{ext_get_or}
use Rattle.std.proofs.lemmas.List.Sums.{count_by-le-length}
use Rattle.tsc_bits.specs.Bits.{binary, bits_of}
use Rattle.tsc_bits.proofs.Bits.{binary-bits_of}
use Rattle.fault_secure.specs.Circuit.{Circuit}
use Rattle.fault_secure.specs.CodePlan.{CodePlan}
use Rattle.fault_secure.specs.Exposing.{IsExposed}
use Rattle.fault_secure.specs.Listed.{listed_faults}
use Rattle.fault_secure.specs.StuckAt.{StuckAt, NoFault}
use Rattle.vectors.specs.Vectors.{AreTests, IsTest}
use Rattle.lane_sim.specs.declared.point.Point.{Point}
use Rattle.vectors.proofs.SelfTesting.{tests_decide}
use Rattle.answer_laws.specs.AnswerLaws.{OneVectorList, VerdictsAreRight}
use Rattle.text_sections.specs.Denoted.{netlist_in, plan_in}
use Rattle.netlist_answers.specs.VectorList.{vector_list}

-- neither of two numbers is less than the other
same_number : (a b : ℕ) → (a < b → ⊥) → (b < a → ⊥) → a ≡ b
same_number a b up down = elim (cases_lt a b) [
  | inl less ↦ absurd (up less)
  | inr least ↦ elim (cases_lt b a) [
    | inl more ↦ absurd (down more)
    | inr most ↦ omega (arith, least, most)
  ]
]

-- the first exposing point of a fault is one point
module _ (N : Circuit) (P : CodePlan) (f : StuckAt) where
  exposed : (p : Point) → IsTest N P f (Some p) → IsExposed N P f
  exposed p test = record { state = p.state; input = bits_of N.inputs p.input; exposes = test.1.exposes }

  no_earlier_state : (p q : Point) → IsTest N P f (Some p) → IsTest N P f (Some q) → p.state < q.state → ⊥
  no_earlier_state p q test other before = other.1.first p.state (bits_of N.inputs p.input) (inl before) test.1.exposes

  no_earlier_input : (p q : Point) → IsTest N P f (Some p) → IsTest N P f (Some q) → p.state ≡ q.state → p.input < q.input → ⊥
  no_earlier_input p q test other same before =
      let less : binary (bits_of N.inputs p.input) < binary (bits_of N.inputs q.input)
      = omega (arith, before, binary-bits_of N.inputs p.input test.0, binary-bits_of N.inputs q.input other.0) in
      other.1.first p.state (bits_of N.inputs p.input) (inr (same, less)) test.1.exposes

  same_point : (p q : Point) → IsTest N P f (Some p) → IsTest N P f (Some q) → p ≡ q
  same_point p q test other =
      let states : p.state ≡ q.state = same_number p.state q.state (no_earlier_state p q test other) (no_earlier_state q p other test) in
      let inputs : p.input ≡ q.input = same_number p.input q.input (no_earlier_input p q test other states) (no_earlier_input q p other test (sym states)) in
      ap₂ (λ (state input : ℕ). record { state = state; input = input }) states inputs

  same_test : (test other : Option Point) → IsTest N P f test → IsTest N P f other → test ≡ other
  same_test None None is also = refl
  same_test None (Some q) is also = absurd (is (exposed q also))
  same_test (Some p) None is also = absurd (also (exposed p is))
  same_test (Some p) (Some q) is also = ap (λ (r : Point). Some r) (same_point p q is also)

one_list : (N : Circuit) (P : CodePlan) (tests others : List (Option Point)) → AreTests N P tests → AreTests N P others → tests ≡ others
one_list N P tests others are also =
    ext_get_or None tests others (are.sized ∙ sym also.sized)
    (λ k below.
    let inside : k < length (listed_faults N) = omega (arith, below, are.sized) in
    same_test N P (get_or (listed_faults N) k NoFault) (get_or tests k None) (get_or others k None) (are.each k inside) (also.each k inside))

pub one_vector_list : OneVectorList
one_vector_list text answer other is also =
    is.listed
    ∙ (ap (vector_list (netlist_in text)) (one_list (netlist_in text).circuit (plan_in text) is.tests also.tests is.right also.right)
    ∙ sym also.listed)

pub verdicts_are_right : VerdictsAreRight
verdicts_are_right N P tests are =
    let decide = tests_decide N P tests are in
    let most : count_by is_some tests ≤ length tests = count_by-le-length is_some tests in (
      λ none. let all : length tests - count_by is_some tests ≡ 0 = none in decide.0 (omega (arith, all, most)),
      λ testing. let all : count_by is_some tests ≡ length tests = decide.1 testing in omega (arith, all),
    )
