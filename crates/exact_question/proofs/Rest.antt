-- The clauses of outputs, of the word, of the rails and of the unheard hold under the meaning of the variables; and what each claim of the last clause says.
use Rattle.std.proofs.Common.{◌≡◌, ℕ, zero, suc, ◌+◌, ◌<◌, ◌≤◌, Bool, true, false, not, ◌&&◌, ◌||◌, List, [], ◌∷◌, ◌++◌, take, length, slice_index_or, All, refl, sym, ap, ap₂, ◌∙◌, arith, take_all}
use Rattle.std.specs.List.{list_any}
use Rattle.std.proofs.lemmas.Bool.{or_parts, false≢true}
use Rattle.std.proofs.lemmas.List.{get_or-map, length-map}
use Rattle.std.proofs.lemmas.List.Elements.{All-nil, All-cons, All-head, All-tail, All-get_or, All-append, All-take, All-weaker}
use Rattle.std.proofs.lemmas.List.Folds.{list_any-append}
use Rattle.tsc_bits.specs.Counting.{differ, odd}
use Rattle.tsc_bits.proofs.Bools.{differ-assoc, differ-false}
use Rattle.tsc_bits.proofs.Lists.{all_left, all_right}
use Rattle.fault_secure.specs.Circuit.{Circuit, nets, bit}
use Rattle.fault_secure.specs.StuckAt.{NoFault}
use Rattle.fault_secure.specs.Settle.{Settles}
use Rattle.fault_secure.specs.CodePlan.{CodePlan, HasGroups, monitored, word, bits_at, members, members_from, concat_places}
use Rattle.fault_secure.specs.FailingCell.{SettlesBut}
use Rattle.fault_secure.proofs.PlanSizes.{monitored_count, monitored_within}
use Rattle.refutations.specs.Clauses.{same}
use Rattle.exact_question.specs.Variables.{Source, Right, Failing, Variable, OutputDiffers, Odd, RailsDiffer, Unheard, spread}
use Rattle.exact_question.specs.Gates.{Claim, yes, no, negated, holds, some_holds, xor_clauses}
use Rattle.exact_question.specs.Question.{of_net, differs_at, output_clauses, word_claim, odd_claim, group_clauses, group_is_even, rails_clauses, unheard_clauses, variables}
use Rattle.exact_question.specs.Laws.{IsAsked}
use Rattle.exact_question.proofs.Numbers.{All-spread}
use Rattle.exact_question.proofs.Written.{IsGood}
use Rattle.exact_question.proofs.Gates.{Knows, good_nil, good_cons, know_one, know_two, xor_good, negated_holds, same_true}
use Rattle.exact_question.proofs.Known.{output_known, odd_known, rails_known, wrong_rails_known, unheard_known}
use Rattle.exact_question.proofs.Meaning.{meaning, source_known, source_means, right_known, right_means, failing_known, failing_means, differs_are_known, differs_means}
use Rattle.exact_question.proofs.Nodes.{AllGood}

-- one more bit
pub odd_more : (bits : List Bool) (i : ℕ) → i < length bits → odd (take (suc i) bits) ≡ differ (odd (take i bits)) (bit bits i)
odd_more [] i inside = absurd (omega arith)
odd_more (b ∷ bits) zero inside = differ-false b
odd_more (b ∷ bits) (suc i) inside = ap (differ b) (odd_more bits i (omega arith)) ∙ sym (differ-assoc b (odd (take i bits)) (bit bits i))

-- places of all groups and of their checks are places of the word
pub members_within : (n check : ℕ) (groups : List (List ℕ)) → check + length groups ≤ n → All (λ place. place < n) (concat_places groups)
    → All (All (λ place. place < n)) (members_from check groups)
members_within n check [] fits all = All-nil (All (λ place. place < n))
members_within n check (group ∷ groups) fits all =
    All-cons (All (λ place. place < n)) (group ++ check ∷ []) (members_from (suc check) groups)
    (All-append (λ place. place < n) group (check ∷ []) (all_left (λ place. place < n) group (concat_places groups) all)
    (All-cons (λ place. place < n) check [] (omega arith) (All-nil (λ place. place < n))))
    (members_within n (suc check) groups (omega arith) (all_right (λ place. place < n) group (concat_places groups) all))

-- where nothing holds of a spread list, nothing holds at any of its items
pub none_spread : {A : Type 0} (meaning : Variable → Bool) (f : ℕ → A → List Claim) (items : List A) (d : A) (k : ℕ) → some_holds meaning (spread f items) ≡ false
    → k < length items → some_holds meaning (f k (slice_index_or items k d)) ≡ false
none_spread meaning f [] d k none inside = absurd (omega arith)
none_spread meaning f (a ∷ as_) d zero none inside =
    (or_parts (some_holds meaning (f 0 a)) (some_holds meaning (spread (λ i. f (suc i)) as_)) (sym (list_any-append (holds meaning) (f 0 a) (spread (λ i. f (suc i)) as_)) ∙ none)).0
none_spread meaning f (a ∷ as_) d (suc k) none inside =
    none_spread meaning (λ i. f (suc i)) as_ d k
    (or_parts (some_holds meaning (f 0 a)) (some_holds meaning (spread (λ i. f (suc i)) as_)) (sym (list_any-append (holds meaning) (f 0 a) (spread (λ i. f (suc i)) as_)) ∙ none)).1
    (omega arith)

unheard_first : (r o : Bool) → (same (r && o) false || (same r true || false)) ≡ true
unheard_first true true = refl
unheard_first true false = refl
unheard_first false o = refl

unheard_second : (r o e : Bool) → e ≡ o → (same (r && o) false || e) ≡ true
unheard_second true true e is = is
unheard_second true false e is = refl
unheard_second false o e is = refl

module _ (C N : Circuit) (P : CodePlan) (asked : IsAsked C N P) (groups : HasGroups P) (cell : ℕ) (x s t z : ℕ → Bool) (w v u : List Bool)
    (source : Settles C NoFault x z w) (right : Settles N NoFault x s v) (failing : SettlesBut N cell x t u) where
  abbrev of_meaning : Variable → Bool
  of_meaning = meaning C N P w v u

  abbrev Known : Claim → Type 0
  Known = Knows (variables C N P) of_meaning

  -- ---- outputs

  source_output : (k : ℕ) → k < length C.outputs → slice_index_or C.outputs k 0 < nets C
  source_output k inside = All-get_or (λ net. net < nets C) C.outputs k 0 inside asked.source_closed.outputs

  right_output : (k : ℕ) → k < length C.outputs → slice_index_or N.outputs k 0 < nets N
  right_output k inside = All-get_or (λ net. net < nets N) N.outputs k 0 (omega (arith, asked.outputs, asked.plan_of.outputs)) asked.closed.outputs

  pub output_good : (k : ℕ) → k < length C.outputs → AllGood C N P asked cell x s t z w v u source right failing (output_clauses C N k (slice_index_or C.outputs k 0))
  output_good k inside =
      xor_good (variables C N P) of_meaning (OutputDiffers k) (yes (of_net Source C.inputs (slice_index_or C.outputs k 0))) (yes (of_net Right N.inputs (slice_index_or N.outputs k 0)))
      (output_known C N P k inside)
      (source_known C N P asked cell x s t z w v u source right failing (slice_index_or C.outputs k 0) (source_output k inside))
      (right_known C N P asked cell x s t z w v u source right failing (slice_index_or N.outputs k 0) (right_output k inside))
      (sym (ap₂ differ
      (same_true (of_meaning (of_net Source C.inputs (slice_index_or C.outputs k 0)))
      ∙ source_means C N P asked cell x s t z w v u source right failing (slice_index_or C.outputs k 0) (source_output k inside))
      (same_true (of_meaning (of_net Right N.inputs (slice_index_or N.outputs k 0)))
      ∙ right_means C N P asked cell x s t z w v u source right failing (slice_index_or N.outputs k 0) (right_output k inside))))

  -- ---- the word

  abbrev IsPlace : ℕ → Type 0
  IsPlace place = place < P.outputs + length P.checks

  places_within : All (All IsPlace) (members P)
  places_within =
      members_within (P.outputs + length P.checks) P.outputs P.groups (omega (arith, groups.paired))
      (All-weaker (λ place. place < P.outputs) IsPlace (λ place below. omega arith) (concat_places P.groups) groups.within)

  word_net : (place : ℕ) → IsPlace place → slice_index_or (monitored N P) place 0 < nets N
  word_net place inside =
      All-get_or (λ net. net < nets N) (monitored N P) place 0 (omega (arith, monitored_count N P asked.plan_of)) (monitored_within N P asked.closed asked.plan_of)

  word_known : (place : ℕ) → IsPlace place → Known (word_claim N P place)
  word_known place inside = right_known C N P asked cell x s t z w v u source right failing (slice_index_or (monitored N P) place 0) (word_net place inside)

  word_holds : (place : ℕ) → IsPlace place → holds of_meaning (word_claim N P place) ≡ bit (word N P v) place
  word_holds place inside =
      same_true (of_meaning (of_net Right N.inputs (slice_index_or (monitored N P) place 0)))
      ∙ right_means C N P asked cell x s t z w v u source right failing (slice_index_or (monitored N P) place 0) (word_net place inside)
      ∙ sym (get_or-map (bit v) (monitored N P) place 0 false (omega (arith, monitored_count N P asked.plan_of)))

  module _ (g first : ℕ) (places : List ℕ) (inside : g < length (members P)) (is : slice_index_or (members P) g [] ≡ first ∷ places) (within : All IsPlace (first ∷ places)) where
    abbrev bits : List Bool
    bits = bits_at (word N P v) (first ∷ places)

    abbrev place_at : ℕ → ℕ
    place_at k = slice_index_or places k 0

    is_place : (k : ℕ) → k < length places → IsPlace (place_at k)
    is_place k below = All-get_or IsPlace places k 0 below (All-tail IsPlace first places within)

    bit_at_place : (k : ℕ) → k < length places → bit bits (suc k) ≡ bit (word N P v) (place_at k)
    bit_at_place k below = get_or-map (bit (word N P v)) places k 0 false below

    odd_holds : (k : ℕ) → k ≤ length places → holds of_meaning (odd_claim N P g first k) ≡ odd (take (suc k) bits)
    odd_holds zero below = word_holds first (All-head IsPlace first places within) ∙ sym (differ-false (bit (word N P v) first))
    odd_holds (suc k) below =
        same_true (of_meaning (Odd g k)) ∙ ap (λ group. odd (take (suc (suc k)) (bits_at (word N P v) group))) is

    odd_is_known : (k : ℕ) → k ≤ length places → Known (odd_claim N P g first k)
    odd_is_known zero below = word_known first (All-head IsPlace first places within)
    odd_is_known (suc k) below = odd_known C N P g first k places inside is (omega arith)

    sized : length bits ≡ suc (length places)
    sized = length-map (first ∷ places) (bit (word N P v))

    place_good : (k : ℕ) → k < length places
        → AllGood C N P asked cell x s t z w v u source right failing (xor_clauses (Odd g k) (odd_claim N P g first k) (word_claim N P (place_at k)))
    place_good k below =
        xor_good (variables C N P) of_meaning (Odd g k) (odd_claim N P g first k) (word_claim N P (place_at k)) (odd_known C N P g first k places inside is below)
        (odd_is_known k (omega arith)) (word_known (place_at k) (is_place k below))
        (ap (λ group. odd (take (suc (suc k)) (bits_at (word N P v) group))) is
        ∙ odd_more bits (suc k) (omega (arith, sized))
        ∙ ap₂ differ (sym (odd_holds k (omega arith))) (bit_at_place k below ∙ sym (word_holds (place_at k) (is_place k below))))

    -- the group is even exactly where its claim holds
    pub even_holds : some_holds of_meaning (group_is_even N P g (first ∷ places)) ≡ false → odd bits ≡ true
    even_holds none =
        from (odd bits) (holds of_meaning (negated (odd_claim N P g first (length places))))
        (negated_holds (variables C N P) of_meaning (odd_claim N P g first (length places))
        ∙ ap not (odd_holds (length places) (omega arith) ∙ ap odd (take_all (suc (length places)) bits (omega (arith, sized)))))
        (or_parts (holds of_meaning (negated (odd_claim N P g first (length places)))) false none).0
      where
        from : (o h : Bool) → h ≡ not o → h ≡ false → o ≡ true
        from true h e none = refl
        from false h e none = absurd (false≢true (sym none ∙ e))

    even_known : All Known (group_is_even N P g (first ∷ places))
    even_known = know_one (variables C N P) of_meaning (negated (odd_claim N P g first (length places))) (odd_is_known (length places) (omega arith))

  pub group_within : (g : ℕ) → g < length (members P) → All IsPlace (slice_index_or (members P) g [])
  group_within g inside = All-get_or (All IsPlace) (members P) g [] inside places_within

  pub group_good : (g : ℕ) (group : List ℕ) → g < length (members P) → slice_index_or (members P) g [] ≡ group → All IsPlace group
      → AllGood C N P asked cell x s t z w v u source right failing (group_clauses N P g group)
  group_good g [] inside is within = good_nil (variables C N P) of_meaning
  group_good g (first ∷ places) inside is within =
      All-spread (IsGood (variables C N P) of_meaning) (λ k place. xor_clauses (Odd g k) (odd_claim N P g first k) (word_claim N P place)) places 0 (place_good g first places inside is within)

  pub group_is_known : (g : ℕ) (group : List ℕ) → g < length (members P) → slice_index_or (members P) g [] ≡ group → All IsPlace group → All Known (group_is_even N P g group)
  group_is_known g [] inside is within = All-nil Known
  group_is_known g (first ∷ places) inside is within = even_known g first places inside is within

  -- ---- rails

  pub right_rails : AllGood C N P asked cell x s t z w v u source right failing (rails_clauses Right N P)
  right_rails =
      xor_good (variables C N P) of_meaning (RailsDiffer Right) (yes (of_net Right N.inputs P.rail1)) (yes (of_net Right N.inputs P.rail2)) (rails_known C N P)
      (right_known C N P asked cell x s t z w v u source right failing P.rail1 asked.plan_of.rails.0)
      (right_known C N P asked cell x s t z w v u source right failing P.rail2 asked.plan_of.rails.1)
      (sym (ap₂ differ
      (same_true (of_meaning (of_net Right N.inputs P.rail1)) ∙ right_means C N P asked cell x s t z w v u source right failing P.rail1 asked.plan_of.rails.0)
      (same_true (of_meaning (of_net Right N.inputs P.rail2)) ∙ right_means C N P asked cell x s t z w v u source right failing P.rail2 asked.plan_of.rails.1)))

  pub failing_rails : AllGood C N P asked cell x s t z w v u source right failing (rails_clauses Failing N P)
  failing_rails =
      xor_good (variables C N P) of_meaning (RailsDiffer Failing) (yes (of_net Failing N.inputs P.rail1)) (yes (of_net Failing N.inputs P.rail2)) (wrong_rails_known C N P)
      (failing_known C N P asked cell x s t z w v u source right failing P.rail1 asked.plan_of.rails.0)
      (failing_known C N P asked cell x s t z w v u source right failing P.rail2 asked.plan_of.rails.1)
      (sym (ap₂ differ
      (same_true (of_meaning (of_net Failing N.inputs P.rail1)) ∙ failing_means C N P asked cell x s t z w v u source right failing P.rail1 asked.plan_of.rails.0)
      (same_true (of_meaning (of_net Failing N.inputs P.rail2)) ∙ failing_means C N P asked cell x s t z w v u source right failing P.rail2 asked.plan_of.rails.1)))

  -- ---- the unheard

  abbrev output_differs : List Claim
  output_differs = differs_at N.inputs (take P.outputs N.outputs)

  pub unheard_good : AllGood C N P asked cell x s t z w v u source right failing (unheard_clauses N P)
  unheard_good =
      let rails = differ (bit u P.rail1) (bit u P.rail2) in
      let some = list_any (λ net. differ (bit v net) (bit u net)) (take P.outputs N.outputs) in
      good_cons (variables C N P) of_meaning (no Unheard ∷ yes (RailsDiffer Failing) ∷ []) ((no Unheard ∷ output_differs) ∷ [])
      (know_two (variables C N P) of_meaning (no Unheard) (yes (RailsDiffer Failing)) (unheard_known C N P) (wrong_rails_known C N P)) (unheard_first rails some)
      (good_cons (variables C N P) of_meaning (no Unheard ∷ output_differs) []
      (All-cons Known (no Unheard) output_differs (unheard_known C N P)
      (differs_are_known C N P asked cell x s t z w v u source right failing (take P.outputs N.outputs) (All-take (λ net. net < nets N) P.outputs N.outputs asked.closed.outputs)))
      (unheard_second rails some (some_holds of_meaning output_differs) (differs_means C N P asked cell x s t z w v u source right failing (take P.outputs N.outputs)))
      (good_nil (variables C N P) of_meaning))
