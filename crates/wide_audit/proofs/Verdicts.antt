-- Wide verdicts beside those of the audit: at most one with so many rows, and none where the rows are spent.
use Rattle.std.proofs.Common.{◌≡◌, ℕ, ◌<◌, ◌≤◌, ◌⊎◌, inl, inr, Bool, List, length, Option, Some, None, refl, sym, ap, ◌∙◌, subst, arith}
use Rattle.std.proofs.Math.Logic.{⊎_elim}
use Rattle.tsc_bits.specs.Bits.{binary}
use Rattle.tsc_bits.proofs.Counting.{binary-injective}
use Rattle.fault_secure.specs.Circuit.{Circuit}
use Rattle.fault_secure.specs.Settle.{Acyclic}
use Rattle.fault_secure.specs.CodePlan.{CodePlan, IsWellMade, IsPlanOf}
use Rattle.fault_secure.specs.Logic.{Network}
use Rattle.structure_audit.specs.StructureReason.{IsStructureAnswer}
use Rattle.structure_audit.specs.declared.reason.StructureReason.{StructureReason}
use Rattle.structure_audit.specs.declared.reason.StructureReason.TheVariants as structure
use Rattle.structure_audit.proofs.Determined.{one_answer as one_structure}
use Rattle.code_checkers.specs.SelfChecking.{IsSelfChecking}
use Rattle.audit.specs.declared.verdict.Shape.{Shape}
use Rattle.audit.specs.declared.verdict.Shape.TheVariants.{Inputs, Outputs, States}
use Rattle.audit.specs.declared.verdict.Reason.{Reason}
use Rattle.audit.specs.declared.verdict.Reason.TheVariants as reason
use Rattle.audit.specs.declared.verdict.Verdict.{Verdict}
use Rattle.audit.specs.declared.verdict.Verdict.TheVariants as verdict
use Rattle.audit.specs.Verdict.{FitsSource, HasOther, HasStructure, Behaves, IsVerdict}
use Rattle.audit.specs.Conditions.{of_checker, of_structure, IsCheckerReason, IsStructureReason}
use Rattle.checker_audit.specs.CheckerAnswer.{IsCheckerAnswer}
use Rattle.checker_audit.specs.declared.reason.CheckerReason.{CheckerReason}
use Rattle.checker_audit.specs.declared.reason.CheckerReason.TheVariants as checker
use Rattle.fault_secure.specs.Behaviour.{FollowsSource}
use Rattle.behaviour_audit.specs.Reason.{IsBehaviourAnswer}
use Rattle.audit.proofs.Accepted.{accepted_is_secure, self_checking_is_accepted}
use Rattle.audit.proofs.OneVerdict.{one_verdict}
use Rattle.wide_diagrams.specs.Wide.{NeedMoreRows, NeedAtMost, stated_count}
use Rattle.wide_audit.proofs.Valuations.{the_valuation, valuations}
use Rattle.wide_audit.specs.declared.verdict.WideReason.{WideReason}
use Rattle.wide_audit.specs.declared.verdict.WideReason.TheVariants.{Structure, Word, Output}
use Rattle.wide_audit.specs.declared.verdict.WideVerdict.{WideVerdict}
use Rattle.wide_audit.specs.declared.verdict.WideVerdict.TheVariants.{Yes, No}
use Rattle.wide_audit.specs.declared.verdict.WideError.{WideError}
use Rattle.wide_audit.specs.declared.verdict.WideError.TheVariants.{Spent, Memory}
use Rattle.wide_audit.specs.WideVerdict.{HasFunctions, IsLatched, IsFirstOfStructure, IsWideReason, IsWideVerdict, IsWideError, IsSpent}
use Rattle.wide_audit.specs.Points.{reason_at, reason_of, IsPointError}
use Rattle.wide_audit.specs.Laws.{WideYesIsSecure, SelfCheckingIsWideYes, SelfCheckingIsNoWideNo, OneWideVerdict, SpentHasNoVerdict}

pub yes_is_secure : WideYesIsSecure
yes_is_secure rows S N P planned is = accepted_is_secure (Network S) N P planned is.1

pub self_checking_is_yes : SelfCheckingIsWideYes
self_checking_is_yes rows S N P is fits functions = (functions, self_checking_is_accepted (Network S) N P is fits)

more_or_few : (rows : ℕ) (S N : Circuit) (P : CodePlan) → Acyclic S → Acyclic N → NeedMoreRows rows S N P → NeedAtMost rows S N P → ⊥
more_or_few rows S N P source net more few =
    let a = more (the_valuation S source) (the_valuation N net) (valuations S source) (valuations N net) in
    let b = few (the_valuation S source) (the_valuation N net) (valuations S source) (valuations N net) in
    apart rows (stated_count S (the_valuation S source) N (the_valuation N net) P) a b
  where
    apart : (m n : ℕ) → m < n → n ≤ m → ⊥
    apart m n above below = omega arith

none_is_some : (A : Type 0) (a : A) → None ≡ Some a → ⊥
none_is_some A a e = cc

module _ (rows : ℕ) (S N : Circuit) (P : CodePlan) where
  fits_or_other : (what : Shape) → FitsSource (Network S) N P → HasOther (Network S) N P what → ⊥
  fits_or_other Inputs fits other = other fits.inputs
  fits_or_other Outputs fits other = other.1 fits.outputs
  fits_or_other States fits other = other.1.1 fits.states

  sound_or_broken : (why : StructureReason) → HasStructure (Network S) N P → FitsSource (Network S) N P × IsStructureAnswer N P (Some why) → ⊥
  sound_or_broken why sound broken = none_is_some StructureReason why (one_structure N P None (Some why) sound.structure broken.1)

  -- where the structure is right and the functions aren't asked for, the only verdict is that there is a latch
  latched_alone : HasStructure (Network S) N P → (HasFunctions rows S N P → ⊥) → (w : WideVerdict) → IsWideVerdict rows S N P w → IsLatched S N P × (w ≡ No (Structure reason.Latched))
  latched_alone sound asked Yes is = absurd (asked is.0)
  latched_alone sound asked (No (Word input)) is = absurd (asked is.0)
  latched_alone sound asked (No (Output input place)) is = absurd (asked is.0)
  latched_alone sound asked (No (Structure (reason.Shape what))) is = absurd (fits_or_other what sound.fits is)
  latched_alone sound asked (No (Structure (reason.Rails net))) is = absurd (sound_or_broken (structure.Rails net) sound is)
  latched_alone sound asked (No (Structure (reason.Reads at pin))) is = absurd (sound_or_broken (structure.Reads at pin) sound is)
  latched_alone sound asked (No (Structure (reason.Sign at pin))) is = absurd (sound_or_broken (structure.Sign at pin) sound is)
  latched_alone sound asked (No (Structure reason.Latched)) (inl is) = absurd (sound_or_broken structure.Latched sound is)
  latched_alone sound asked (No (Structure reason.Latched)) (inr is) = (is, refl)
  latched_alone sound asked (No (Structure (reason.Shares group first second at))) is = absurd (sound_or_broken (structure.Shares group first second at) sound is)
  latched_alone sound asked (No (Structure reason.Reset)) is = absurd is
  latched_alone sound asked (No (Structure (reason.Next state input))) is = absurd is
  latched_alone sound asked (No (Structure (reason.Word state input))) is = absurd is
  latched_alone sound asked (No (Structure (reason.Output state input place))) is = absurd is
  latched_alone sound asked (No (Structure (reason.CheckerWord value width))) is = absurd (asked is.0)
  latched_alone sound asked (No (Structure (reason.CheckerNet net))) is = absurd (asked is.0)

  spent_alone : IsSpent rows S N P → (w : WideVerdict) → IsWideVerdict rows S N P w → ⊥
  spent_alone spent w is =
      let latched = latched_alone spent.before (λ functions. more_or_few rows S N P spent.source_acyclic spent.acyclic spent.more functions.few) w is in
      no_latch (length N.latches) latched.0.some spent.no_latch
    where
      no_latch : (n : ℕ) → 0 < n → n ≡ 0 → ⊥
      no_latch n some none = omega arith

  -- ---- the audit's verdict that a wide one is

  abbrev pub plain : WideVerdict → Verdict
  plain Yes = verdict.Yes
  plain (No (Structure why)) = verdict.No why
  plain (No (Word input)) = verdict.No (reason.Word 0 (binary input))
  plain (No (Output input place)) = verdict.No (reason.Output 0 (binary input) place)

  -- a wide verdict is the audit's, `plain`, or it is the no for a latch under a code that lets latches be
  pub is_plain : (w : WideVerdict) → IsWideVerdict rows S N P w → IsVerdict (Network S) N P (plain w) ⊎ (IsLatched S N P × (w ≡ No (Structure reason.Latched)))
  is_plain Yes is = inl is.1
  is_plain (No (Word input)) is = inl is.2
  is_plain (No (Output input place)) is = inl is.2
  is_plain (No (Structure (reason.Shape what))) is = inl is
  is_plain (No (Structure (reason.Rails net))) is = inl is
  is_plain (No (Structure (reason.Reads at pin))) is = inl is
  is_plain (No (Structure (reason.Sign at pin))) is = inl is
  is_plain (No (Structure reason.Latched)) (inl is) = inl is
  is_plain (No (Structure reason.Latched)) (inr is) = inr (is, refl)
  is_plain (No (Structure (reason.Shares group first second at))) is = inl is
  is_plain (No (Structure reason.Reset)) is = absurd is
  is_plain (No (Structure (reason.Next state input))) is = absurd is
  is_plain (No (Structure (reason.Word state input))) is = absurd is
  is_plain (No (Structure (reason.Output state input place))) is = absurd is
  is_plain (No (Structure (reason.CheckerWord value width))) is = inl is.1
  is_plain (No (Structure (reason.CheckerNet net))) is = inl is.1

  -- ---- which determines it

  why_of : Verdict → Reason
  why_of verdict.Yes = reason.Reset
  why_of (verdict.No why) = why

  input_at : Reason → ℕ
  input_at (reason.Word state input) = input
  input_at (reason.Output state input place) = input
  input_at _ = 0

  place_at : Reason → ℕ
  place_at (reason.Output state input place) = place
  place_at _ = 0

  yes_or_no : (why : Reason) → verdict.Yes ≡ verdict.No why → ⊥
  yes_or_no why e = cc

  word_or_output : (a b c d e : ℕ) → reason.Word a b ≡ reason.Output c d e → ⊥
  word_or_output a b c d e is = cc

  no_word : (why : Reason) (n : ℕ) → IsFirstOfStructure rows S N P why → why ≡ reason.Word 0 n → ⊥
  no_word why n is e = subst (IsFirstOfStructure rows S N P) e is

  no_output : (why : Reason) (n place : ℕ) → IsFirstOfStructure rows S N P why → why ≡ reason.Output 0 n place → ⊥
  no_output why n place is e = subst (IsFirstOfStructure rows S N P) e is

  same_input : (x y : List Bool) → length x ≡ N.inputs → length y ≡ N.inputs → binary x ≡ binary y → x ≡ y
  same_input x y here there e = binary-injective x y (here ∙ sym there) e

  determined : (a b : WideVerdict) → IsWideVerdict rows S N P a → IsWideVerdict rows S N P b → plain a ≡ plain b → a ≡ b
  unfolding why_of input_at place_at
  determined Yes Yes first second e = refl
  determined Yes (No (Structure why)) first second e = absurd (yes_or_no _ e)
  determined Yes (No (Word input)) first second e = absurd (yes_or_no _ e)
  determined Yes (No (Output input place)) first second e = absurd (yes_or_no _ e)
  determined (No (Structure why)) Yes first second e = absurd (yes_or_no _ (sym e))
  determined (No (Word input)) Yes first second e = absurd (yes_or_no _ (sym e))
  determined (No (Output input place)) Yes first second e = absurd (yes_or_no _ (sym e))
  determined (No (Structure why)) (No (Structure other)) first second e = ap (λ (w : Reason). No (Structure w)) (ap why_of e)
  determined (No (Structure why)) (No (Word y)) first second e = absurd (no_word why (binary y) first (ap why_of e))
  determined (No (Structure why)) (No (Output y place)) first second e = absurd (no_output why (binary y) place first (ap why_of e))
  determined (No (Word x)) (No (Structure other)) first second e = absurd (no_word other (binary x) second (sym (ap why_of e)))
  determined (No (Output x place)) (No (Structure other)) first second e = absurd (no_output other (binary x) place second (sym (ap why_of e)))
  determined (No (Word x)) (No (Word y)) first second e =
      ap (λ (z : List Bool). No (Word z)) (same_input x y first.1 second.1 (ap (λ (w : Verdict). input_at (why_of w)) e))
  determined (No (Word x)) (No (Output y place)) first second e = absurd (word_or_output 0 (binary x) 0 (binary y) place (ap why_of e))
  determined (No (Output x place)) (No (Word y)) first second e = absurd (word_or_output 0 (binary y) 0 (binary x) place (sym (ap why_of e)))
  determined (No (Output x place)) (No (Output y other)) first second e =
      ap (λ (z : List Bool). No (Output z place)) (same_input x y first.1 second.1 (ap (λ (w : Verdict). input_at (why_of w)) e))
      ∙ ap (λ (p : ℕ). No (Output y p)) (ap (λ (w : Verdict). place_at (why_of w)) e)

  asked_nothing : IsLatched S N P → HasFunctions rows S N P → ⊥
  asked_nothing latched functions = no_latch (length N.latches) latched.some functions.no_latch
    where
      no_latch : (n : ℕ) → 0 < n → n ≡ 0 → ⊥
      no_latch n some none = omega arith

  one_of_two : IsPlanOf N P → IsWellMade P → (a b : WideVerdict) → IsWideVerdict rows S N P a → IsWideVerdict rows S N P b → a ≡ b
  one_of_two of made a b first second = ⊎_elim
      (λ one. ⊎_elim
      (λ other. determined a b first second (one_verdict (Network S) N P (plain a) (plain b) of made one other))
      (λ latched. (latched_alone latched.0.before (asked_nothing latched.0) a first).1 ∙ sym latched.1)
      (is_plain b second))
      (λ latched. latched.1 ∙ sym (latched_alone latched.0.before (asked_nothing latched.0) b second).1)
      (is_plain a first)

-- a netlist with a latch has one
pub no_latch_where_latched : (S N : Circuit) (P : CodePlan) → IsLatched S N P → length N.latches ≡ 0 → ⊥
no_latch_where_latched S N P latched none = no_latch (length N.latches) latched.some none
  where
    no_latch : (n : ℕ) → 0 < n → n ≡ 0 → ⊥
    no_latch n some none = omega arith

pub one_wide_verdict : OneWideVerdict
one_wide_verdict rows S N P first second of made = one_of_two rows S N P of made first second

pub spent_has_no_verdict : SpentHasNoVerdict
spent_has_no_verdict rows S N P w spent is = spent_alone rows S N P spent w is

-- ---- what is self-checking and has no latch

-- a self-checking netlist without latches that fits its source has a wide yes where there are rows enough
pub yes_where_self_checking : (rows : ℕ) (S N : Circuit) (P : CodePlan) → IsSelfChecking (Network S) N P → FitsSource (Network S) N P → length N.latches ≡ 0 → NeedAtMost rows S N P
    → IsWideVerdict rows S N P Yes
yes_where_self_checking rows S N P checking fits latchless few = self_checking_is_yes rows S N P checking fits (record { no_latch = latchless; few = few })

plain_no : (rows : ℕ) (S N : Circuit) (P : CodePlan) (why : WideReason) → plain rows S N P (No why) ≡ verdict.Yes → ⊥
plain_no rows S N P (Structure why) e = cc
plain_no rows S N P (Word input) e = cc
plain_no rows S N P (Output input place) e = cc

-- with no number of rows has it a wide no
pub never_no_where_self_checking : SelfCheckingIsNoWideNo
never_no_where_self_checking rows S N P why checking fits latchless is = ⊎_elim
    (λ plainly. plain_no rows S N P why
    (one_verdict (Network S) N P (plain rows S N P (No why)) verdict.Yes checking.structure.plan_of checking.structure.well_made plainly (self_checking_is_accepted (Network S) N P checking fits)))
    (λ latched. no_latch_where_latched S N P latched.0 latchless)
    (is_plain rows S N P (No why) is)

-- ---- a verdict from what its parts found

module _ (rows : ℕ) (S N : Circuit) (P : CodePlan) where
  by_structure : (which : StructureReason) → FitsSource (Network S) N P → IsStructureAnswer N P (Some which) → IsFirstOfStructure rows S N P (of_structure which)
  by_structure (structure.Rails net) fits breaks = (fits, breaks)
  by_structure (structure.Reads at pin) fits breaks = (fits, breaks)
  by_structure (structure.Sign at pin) fits breaks = (fits, breaks)
  by_structure structure.Latched fits breaks = inl (fits, breaks)
  by_structure (structure.Shares group first second at) fits breaks = (fits, breaks)

  pub first_of_structure : (why : Reason) → FitsSource (Network S) N P → IsStructureReason N P why → IsFirstOfStructure rows S N P why
  first_of_structure why fits found = subst (IsFirstOfStructure rows S N P) (sym found.is) (by_structure found.which fits found.breaks)

  by_checker : (which : CheckerReason) → HasFunctions rows S N P → Behaves (Network S) N P → IsCheckerAnswer N P (Some which) → IsFirstOfStructure rows S N P (of_checker which)
  by_checker (checker.Word value width) functions behaves breaks = (functions, (behaves, breaks))
  by_checker (checker.Net net) functions behaves breaks = (functions, (behaves, breaks))

  pub first_of_checker : (why : Reason) → HasFunctions rows S N P → HasStructure (Network S) N P → FollowsSource (Network S) N P → IsCheckerReason N P why → IsFirstOfStructure rows S N P why
  first_of_checker why functions sound follows found =
      subst (IsFirstOfStructure rows S N P) (sym found.is) (by_checker found.which functions (record { before = sound; follows = follows }) found.breaks)

  pub accepted : HasFunctions rows S N P → HasStructure (Network S) N P → FollowsSource (Network S) N P → IsCheckerAnswer N P None → IsWideVerdict rows S N P Yes
  accepted functions sound follows decides = (functions, record { before = record { before = sound; follows = follows }; checker = decides })

  pub latched : HasStructure (Network S) N P → 0 < length N.latches → IsWideVerdict rows S N P (No (Structure reason.Latched))
  latched sound some = inr (record { before = sound; some = some })

  pub pointed : (input : List Bool) (output : Option ℕ) → HasFunctions rows S N P → HasStructure (Network S) N P → length input ≡ N.inputs → IsBehaviourAnswer (Network S) N P (Some (reason_at (binary input) output)) →
      IsWideReason rows S N P (reason_of input output)
  pointed input None functions sound sized answer = (functions, sized, (sound, answer))
  pointed input (Some place) functions sound sized answer = (functions, sized, (sound, answer))

  pub no_verdict : (e : WideError) → HasStructure (Network S) N P → length N.latches ≡ 0 → Acyclic S → Acyclic N → IsPointError rows S N P e → IsWideError rows S N P e
  no_verdict (Spent said) sound none source net error = (error.0, record { before = sound; no_latch = none; source_acyclic = source; acyclic = net; more = error.1 })
  no_verdict (Memory e) sound none source net error = tt
