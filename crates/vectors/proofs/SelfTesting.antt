-- A netlist is self-testing exactly where each of its tests has a point.
use Rattle.std.proofs.Common.{◌≡◌, ℕ, zero, suc, ◌+◌, ◌<◌, ◌≤◌, true, false, cond, List, [], ◌∷◌, length, count_by, get_or, Option, Some, None, IsTrue, refl, ◌∙◌, subst, arith}
use Rattle.std.specs.Option.{is_some}
use Rattle.std.proofs.lemmas.List.{get_or_default}
use Rattle.std.proofs.lemmas.List.Sums.{sum_by-cons, count_by-le-length}
use Rattle.fault_secure.specs.Circuit.{Circuit}
use Rattle.fault_secure.specs.StuckAt.{StuckAt, NoFault, is_listed}
use Rattle.fault_secure.specs.Listed.{listed_faults}
use Rattle.fault_secure.specs.CodePlan.{CodePlan}
use Rattle.fault_secure.specs.Exposing.{IsExposed, IsSelfTesting}
use Rattle.structure_laws.proofs.FaultList.{holds_the_listed}
use Rattle.tsc_bits.specs.Bits.{bits_of}
use Rattle.vectors.specs.Vectors.{IsTest, AreTests, TestsDecide}
use Rattle.lane_sim.specs.declared.point.Point.{Point}

abbrev Answers : Type 0
Answers = List (Option Point)

counted : (test : Option Point) (tests : Answers) → count_by is_some (test ∷ tests) ≡ cond (is_some test) 1 0 + count_by is_some tests
counted test tests = sum_by-cons (λ t. cond (is_some t) 1 0) test tests

-- where all are counted each is a point
each_some : (tests : Answers) → count_by is_some tests ≡ length tests → (k : ℕ) → k < length tests → is_some (get_or tests k None) ≡ true
each_some [] all k below = absurd (omega arith)
each_some (Some point ∷ tests) all zero below = refl
each_some (Some point ∷ tests) all (suc k) below = let one = counted (Some point) tests in each_some tests (omega arith) k (omega arith)
each_some (None ∷ tests) all k below =
    let none = counted None tests in
    let most : count_by is_some tests ≤ length tests = count_by-le-length is_some tests in
    absurd (omega arith)

-- where each is a point all are counted
all_some : (tests : Answers) → ((k : ℕ) → k < length tests → is_some (get_or tests k None) ≡ true) → count_by is_some tests ≡ length tests
all_some [] each = refl
all_some (Some point ∷ tests) each =
    let one = counted (Some point) tests in
    let rest : count_by is_some tests ≡ length tests = all_some tests (λ k below. each (suc k) (omega arith)) in
    omega arith
all_some (None ∷ tests) each = let bad : false ≡ true = each zero (omega arith) in cc

-- a test that is a point exposes its fault
pub test_exposes : (N : Circuit) (P : CodePlan) (f : StuckAt) (test : Option Point) → is_some test ≡ true → IsTest N P f test → IsExposed N P f
test_exposes N P f None is here = let bad : false ≡ true = is in cc
test_exposes N P f (Some point) is here = record { state = point.state; input = bits_of N.inputs point.input; exposes = here.1.exposes }

-- where a fault is exposed its test is a point
pub exposed_has_test : (N : Circuit) (P : CodePlan) (f : StuckAt) (test : Option Point) → IsExposed N P f → IsTest N P f test → is_some test ≡ true
exposed_has_test N P f None exposed here = absurd (here exposed)
exposed_has_test N P f (Some point) exposed here = refl

module _ (N : Circuit) (P : CodePlan) (tests : Answers) (are : AreTests N P tests) where
  testing : count_by is_some tests ≡ length tests → IsSelfTesting N P
  testing all f listed =
      let at = (holds_the_listed N f).1 listed in
      let inside : at.0 < length tests = omega (arith, are.sized, at.1) in
      let fault : get_or (listed_faults N) at.0 NoFault ≡ f = read_as (listed_faults N) at.0 f at.1 at.2 in
      subst (IsExposed N P) fault (test_exposes N P (get_or (listed_faults N) at.0 NoFault) (get_or tests at.0 None) (each_some tests all at.0 inside) (are.each at.0 at.1))
    where
      read_as : (faults : List StuckAt) (k : ℕ) (f : StuckAt) → k < length faults → get_or faults k f ≡ f → get_or faults k NoFault ≡ f
      read_as faults k f below is = get_or_default faults k NoFault f below ∙ is

  tested : IsSelfTesting N P → count_by is_some tests ≡ length tests
  tested each =
      all_some tests
      (λ k below.
      let inside : k < length (listed_faults N) = omega (arith, are.sized) in
      let f : StuckAt = get_or (listed_faults N) k NoFault in
      let listed : IsTrue (is_listed N f) = (holds_the_listed N f).0 (k, inside, get_or_default (listed_faults N) k f NoFault inside) in
      exposed_has_test N P f (get_or tests k None) (each f listed) (are.each k inside))

-- a netlist with its plan is self-testing exactly where each of its tests has a point
pub tests_decide : TestsDecide
tests_decide N P tests are = (testing N P tests are, tested N P tests are)
