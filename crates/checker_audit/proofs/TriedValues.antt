-- What a try of some bits says, and what tries of all values say.
use Rattle.std.proofs.Common.{◌≡◌, ℕ, ◌+◌, ◌-◌, ◌*◌, ◌^◌, ◌<◌, min, ◌↔◌, inl, inr, Bool, true, false, not, List, [], ◌∷◌, map, length, slice_index_or, All, Contains, IsTrue, refl, sym, ◌∙◌, ap, ap₂, subst, arith}
use Rattle.std.proofs.lemmas.Bool.{false≢true, cases_lt}
use Rattle.std.proofs.lemmas.List.{length-map}
use Rattle.std.proofs.lemmas.List.Elements.{Contains-get_or}
use Rattle.tsc_bits.specs.Bits.{bits_of, bit_worth, binary}
use Rattle.tsc_bits.specs.Counting.{differ}
use Rattle.tsc_bits.proofs.Bits.{length-bits_of, binary-lt, bits_of-binary}
use Rattle.tsc_bits.proofs.Bools.{differ-iff}
use Rattle.tsc_bits.proofs.Lists.{map_agrees}
use Rattle.fault_secure.specs.Circuit.{Circuit, nets, bit}
use Rattle.fault_secure.specs.Closed.{IsClosed}
use Rattle.fault_secure.specs.Settle.{Acyclic}
use Rattle.fault_secure.specs.CodePlan.{CodePlan, monitored, word, IsCodeword, RailsAgree, IsPlanOf}
use Rattle.fault_secure.specs.Structure.{RailsOutside, ReadsOnlyWord, CheckerSettles, IsCodeDisjoint}
use Rattle.structure_laws.specs.DisjointCones.{HasSameRails, WordIsDecided}
use Rattle.structure_laws.proofs.DisjointCones.{rails_follow_word, code_disjoint_by_words}
use Rattle.checker_audit.specs.Misjudged.{distinct_monitored, monitored_count, Misjudges, IsJudged, IsTried, AreJudgedBelow, IsFirstMisjudged, IsFirstTriedWrong}
use Rattle.code_lanes.specs.Lanes.{column}
use Rattle.node_lanes.specs.Settling.{with_bits, settled}
use Rattle.checker_audit.specs.Program.{IsProgram}
use Rattle.checker_audit.specs.Lanes.{ShowsValues, AreJudgedWithin, IsFirstWithin}
use Rattle.fault_secure.proofs.PlanSizes.{monitored_within}
use Rattle.checker_audit.proofs.Putting.{cons_cases, nothing, put_gives, different_nets, with_nets-has, with_nets-from}
use Rattle.node_lanes.proofs.SettlingSteps.{length-with_bits}
use Rattle.checker_audit.proofs.Settled.{program_settles, program_keeps}
use Rattle.node_lanes.proofs.SettlingSteps.{length-settled}

-- the tests of two bits and a codeword
both_ways : (d c : Bool) → true ≡ not (differ d c) → (d ≡ true) ↔ (c ≡ true)
both_ways true true e = (λ _. refl, λ _. refl)
both_ways true false e = absurd (false≢true (sym e))
both_ways false true e = absurd (false≢true (sym e))
both_ways false false e = (λ f. f, λ f. f)

not_both : (d c : Bool) → false ≡ not (differ d c) → (d ≡ true) ↔ (c ≡ true) → ⊥
not_both true true e iff = false≢true e
not_both true false e iff = false≢true (iff.0 refl)
not_both false true e iff = false≢true (iff.1 refl)
not_both false false e iff = false≢true e

-- a negated bit is 1 exactly where the bit is 0
off : (b : Bool) → IsTrue (not b) → b ≡ false
off true t = absurd (false≢true t)
off false t = refl

on : (b : Bool) → b ≡ false → IsTrue (not b)
on true e = absurd (false≢true (sym e))
on false e = refl

-- agreeing rails against no codeword, as differing rails against a codeword
turned : (d none : Bool) → not (differ none (not d)) ≡ not (differ d (not none))
turned true true = refl
turned true false = refl
turned false true = refl
turned false false = refl

module _ (N : Circuit) (P : CodePlan) where
  -- each of the distinct nets is monitored
  is_monitored : (net : ℕ) → Contains (distinct_monitored N P) net → Contains (monitored N P) net
  is_monitored net c = elim (with_nets-from [] (monitored N P) net c) [ inl none ↦ absurd (nothing net none) | inr is ↦ is ]

  is_distinct : (net : ℕ) → Contains (monitored N P) net → Contains (distinct_monitored N P) net
  is_distinct net c = with_nets-has [] (monitored N P) net c

  all_monitored : All (λ net. Contains (monitored N P) net) (distinct_monitored N P)
  all_monitored k d within = is_monitored (slice_index_or (distinct_monitored N P) k d) (Contains-get_or (distinct_monitored N P) k d within)

  in_nets : IsPlanOf N P → IsClosed N → (net : ℕ) → Contains (monitored N P) net → net < nets N
  in_nets plan closed net (k, within, e) = subst (λ n. n < nets N) e (monitored_within N P closed plan k net within)

  -- the distinct nets are nets
  pub distinct_within : IsPlanOf N P → IsClosed N → All (λ net. net < nets N) (distinct_monitored N P)
  distinct_within plan closed k d within = in_nets plan closed (slice_index_or (distinct_monitored N P) k d) (all_monitored k d within)

  head_same : (a b : Bool) (as_ bs : List Bool) → a ∷ as_ ≡ b ∷ bs → a ≡ b
  head_same a b as_ bs e = cc

  tail_same : (a b : Bool) (as_ bs : List Bool) → a ∷ as_ ≡ b ∷ bs → as_ ≡ bs
  tail_same a b as_ bs e = cc

  -- valuations that give some nets the same bits
  agree_at : (v u : List Bool) (list : List ℕ) → map (bit v) list ≡ map (bit u) list → (net : ℕ) → Contains list net → bit v net ≡ bit u net
  agree_at v u [] same net c = absurd (nothing net c)
  agree_at v u (n ∷ list) same net c = elim (cons_cases n net list c) [
    | inl e ↦ subst (λ m. bit v m ≡ bit u m) e (head_same (bit v n) (bit u n) (map (bit v) list) (map (bit u) list) same)
    | inr later ↦ agree_at v u list (tail_same (bit v n) (bit u n) (map (bit v) list) (map (bit u) list) same) net later
  ]

  same_word : (v u : List Bool) → map (bit v) (distinct_monitored N P) ≡ map (bit u) (distinct_monitored N P) → word N P v ≡ word N P u
  same_word v u same =
      map_agrees (λ net. Contains (distinct_monitored N P) net) (bit v) (bit u) (λ net c. agree_at v u (distinct_monitored N P) same net c) (monitored N P)
      (λ k d within. is_distinct (slice_index_or (monitored N P) k d) (Contains-get_or (monitored N P) k d within))

  module _ (acyclic : Acyclic N) (rails : RailsOutside N P) (reads : ReadsOnlyWord N P) where
    -- what one valuation decides another with the same bits decides too
    decided : (v u : List Bool) → CheckerSettles N P v → CheckerSettles N P u → map (bit v) (distinct_monitored N P) ≡ map (bit u) (distinct_monitored N P)
        → (RailsAgree P v → ⊥) ↔ IsCodeword P (word N P v) → (RailsAgree P u → ⊥) ↔ IsCodeword P (word N P u)
    decided v u first second same decides =
        let words = same_word v u same in
        let rail : HasSameRails P v u = rails_follow_word N P v u acyclic rails reads first second words in (
          λ apart. subst (IsCodeword P) words (decides.0 (λ e. apart (sym rail.first ∙ e ∙ rail.second))),
          λ is e. decides.1 (subst (IsCodeword P) (sym words) is) (rail.first ∙ e ∙ sym rail.second),
        )

    -- bits that are judged right aren't misjudged
    pub judged_right : (bits : List Bool) → IsJudged N P bits → Misjudges N P bits → ⊥
    judged_right bits judged wrong =
        wrong.wrong (decided judged.valuation wrong.valuation judged.settles wrong.settles (judged.gives ∙ sym wrong.gives) judged.decides)

    -- the first that was tried wrong is the first that is misjudged
    pub tried_first : (value : ℕ) → IsFirstTriedWrong N P value → IsFirstMisjudged N P value
    tried_first value (low, wrong, before) = (low, wrong, λ u less. judged_right (bits_of (monitored_count N P) u) (before u less))

    -- where each value is judged right the checker is code-disjoint
    pub all_judged : AreJudgedBelow N P (2 ^ monitored_count N P) → IsCodeDisjoint N P
    all_judged judged = code_disjoint_by_words N P acyclic rails reads tried
      where
        tried : (v : List Bool) → CheckerSettles N P v → WordIsDecided N P (word N P v)
        tried v settles =
            let bits : List Bool = map (bit v) (distinct_monitored N P) in
            let sized : length (map (bit v) (distinct_monitored N P)) ≡ monitored_count N P = length-map (distinct_monitored N P) (bit v) in
            let low : binary (map (bit v) (distinct_monitored N P)) < 2 ^ monitored_count N P =
            subst (λ n. binary (map (bit v) (distinct_monitored N P)) < 2 ^ n) sized (binary-lt (map (bit v) (distinct_monitored N P))) in
            let same : bits_of (monitored_count N P) (binary (map (bit v) (distinct_monitored N P))) ≡ map (bit v) (distinct_monitored N P) =
            ap (λ n. bits_of n (binary (map (bit v) (distinct_monitored N P)))) (sym sized) ∙ bits_of-binary (map (bit v) (distinct_monitored N P)) in
            let at : IsJudged N P (map (bit v) (distinct_monitored N P)) = subst (IsJudged N P) same (judged (binary (map (bit v) (distinct_monitored N P))) low) in
            let words : word N P at.valuation ≡ word N P v = same_word at.valuation v at.gives in
            record {
              valuation = at.valuation;
              settles = at.settles;
              has_word = words;
              decides = (λ apart. subst (IsCodeword P) words (at.decides.0 apart), λ is. at.decides.1 (subst (IsCodeword P) (sym words) is));
            }

  -- what a try says
  pub tried_is : (bits v : List Bool) (a b c r : Bool) → CheckerSettles N P v → map (bit v) (distinct_monitored N P) ≡ bits → a ≡ bit v P.rail1 → b ≡ bit v P.rail2
      → (IsTrue c ↔ IsCodeword P (word N P v)) → r ≡ not (differ (differ a b) c) → IsTried N P bits r
  tried_is bits v a b c true settles gives first second codeword e =
      let ways = both_ways (differ a b) c e in
      let apart = differ-iff a b in
      record {
        valuation = v;
        settles = settles;
        gives = gives;
        decides = (
          λ off. codeword.0 (ways.0 (apart.1 (λ same. off (sym first ∙ same ∙ second)))),
          λ is agree. apart.0 (ways.1 (codeword.1 is)) (first ∙ agree ∙ sym second),
        );
      }
  tried_is bits v a b c false settles gives first second codeword e =
      let apart = differ-iff a b in
      record {
        valuation = v;
        settles = settles;
        gives = gives;
        wrong = λ decides. not_both (differ a b) c e (
          λ d. codeword.1 (decides.0 (λ agree. apart.0 d (first ∙ agree ∙ sym second))),
          λ t. apart.1 (λ same. decides.1 (codeword.0 t) (sym first ∙ same ∙ second)),
        );
      }

  -- what a try of a point says, where `wrong` tells whether no codeword differs from agreeing rails
  pub tried_at : (base p : ℕ) (words : List ℕ) (bits : List Bool) (a b none wrong : Bool) → p < 64 → ShowsValues N P base words → bits ≡ map (bit (column p words)) (monitored N P)
      → a ≡ bit (column p words) P.rail1 → b ≡ bit (column p words) P.rail2 → (none ≡ false) ↔ IsCodeword P bits → wrong ≡ differ none (not (differ a b))
      → IsTried N P (bits_of (monitored_count N P) (base + p)) (not wrong)
  tried_at base p words bits a b none wrong low shows gathered first second codeword e =
      tried_is (bits_of (monitored_count N P) (base + p)) (column p words) a b (not none) (not wrong) (shows.settles p low) (shows.gives p low) first second
      (subst (λ w. IsTrue (not none) ↔ IsCodeword P w) gathered (is_codeword codeword))
      (ap not e ∙ turned (differ a b) none)
    where
      is_codeword : {X : Type 0} → (none ≡ false) ↔ X → IsTrue (not none) ↔ X
      is_codeword iff = (λ t. iff.0 (off none t), λ x. on none (iff.1 x))

  module _ (plan : IsPlanOf N P) (closed : IsClosed N) (places : List ℕ) (program : IsProgram N P places) (old put now : List Bool) (distinct : List ℕ) (count value : ℕ)
      (sized : length old ≡ nets N) (is_distinct : distinct ≡ distinct_monitored N P) (counted : count ≡ length distinct) (puts : put ≡ with_bits old distinct (bits_of count value))
      (settles : now ≡ settled N places put) where
    start : List Bool
    start = with_bits old (distinct_monitored N P) (bits_of (monitored_count N P) value)

    put_is : put ≡ with_bits old (distinct_monitored N P) (bits_of (monitored_count N P) value)
    put_is = puts ∙ ap₂ (λ list n. with_bits old list (bits_of n value)) is_distinct (counted ∙ ap length is_distinct)

    now_is : now ≡ settled N places (with_bits old (distinct_monitored N P) (bits_of (monitored_count N P) value))
    now_is = settles ∙ ap (settled N places) put_is

    start_sized : length (with_bits old (distinct_monitored N P) (bits_of (monitored_count N P) value)) ≡ nets N
    start_sized = length-with_bits old (distinct_monitored N P) (bits_of (monitored_count N P) value) ∙ sized

    pub now_sized : length now ≡ nets N
    now_sized = ap length now_is ∙ length-settled N places (with_bits old (distinct_monitored N P) (bits_of (monitored_count N P) value)) ∙ start_sized

    now_gives : map (bit (settled N places (with_bits old (distinct_monitored N P) (bits_of (monitored_count N P) value)))) (distinct_monitored N P) ≡ bits_of (monitored_count N P) value
    now_gives =
        map_agrees (λ net. Contains (monitored N P) net) (bit (settled N places (with_bits old (distinct_monitored N P) (bits_of (monitored_count N P) value))))
        (bit (with_bits old (distinct_monitored N P) (bits_of (monitored_count N P) value)))
        (program_keeps N P places program (with_bits old (distinct_monitored N P) (bits_of (monitored_count N P) value)) start_sized) (distinct_monitored N P) all_monitored
        ∙ put_gives old (distinct_monitored N P) (bits_of (monitored_count N P) value) (different_nets [] (monitored N P) tt) (sym (length-bits_of (monitored_count N P) value))
        (λ net c. (let low : net < nets N = in_nets plan closed net (is_monitored net c) in omega arith))

    pub now_settles : CheckerSettles N P now
    now_settles = subst (CheckerSettles N P) (sym now_is) (program_settles N P places program (with_bits old (distinct_monitored N P) (bits_of (monitored_count N P) value)) start_sized)

    pub now_has : map (bit now) (distinct_monitored N P) ≡ bits_of (monitored_count N P) value
    now_has = ap (λ v. map (bit v) (distinct_monitored N P)) now_is ∙ now_gives

  -- the lanes of settled words
  pub lanes_show : IsPlanOf N P → IsClosed N → (places : List ℕ) → IsProgram N P places → (old put now distinct : List ℕ) (count base : ℕ) → length old ≡ nets N
      → distinct ≡ distinct_monitored N P → count ≡ length distinct
      → ((p : ℕ) → p < 64 → column p put ≡ with_bits (column p old) distinct (bits_of count (base + p)))
      → ((p : ℕ) → p < 64 → column p now ≡ settled N places (column p put)) → ShowsValues N P base now
  lanes_show plan closed places program old put now distinct count base sized is_distinct counted puts settles = record {
    settles = λ p low. now_settles plan closed places program (column p old) (column p put) (column p now) distinct count (base + p) (length-map old (bit_worth p) ∙ sized) is_distinct counted (puts p low) (settles p low);
    gives = λ p low. now_has plan closed places program (column p old) (column p put) (column p now) distinct count (base + p) (length-map old (bit_worth p) ∙ sized) is_distinct counted (puts p low) (settles p low);
  }

  -- the values of a block more were judged right
  pub block_more : (block most count : ℕ) → count ≡ min (most - block * 64) 64 → ((u : ℕ) → u < block * 64 → u < most → IsJudged N P (bits_of (monitored_count N P) u))
      → AreJudgedWithin N P (block * 64) count → (u : ℕ) → u < (block + 1) * 64 → u < most → IsJudged N P (bits_of (monitored_count N P) u)
  block_more block most count is before here u below low = elim (cases_lt u (block * 64)) [
    | inl earlier ↦ before u earlier low
    | inr later ↦ (
        let at : block * 64 + (u - block * 64) ≡ u = omega arith in
        subst (λ n. IsJudged N P (bits_of (monitored_count N P) n)) at (here (u - block * 64) (omega arith)))
  ]

  -- the first of a block that is misjudged is the first
  pub block_first : (block most count value : ℕ) → count ≡ min (most - block * 64) 64 → most ≡ 2 ^ monitored_count N P → ((u : ℕ) → u < block * 64 → u < most → IsJudged N P (bits_of (monitored_count N P) u))
      → IsFirstWithin N P (block * 64) count value → IsFirstTriedWrong N P value
  block_first block most count value is all before first = (
    (let a : value ≡ block * 64 + first.at = first.is in let b : first.at < count = first.within in omega arith),
    first.wrong,
    λ u less. elim (cases_lt u (block * 64)) [
      | inl earlier ↦ before u earlier (let a : value ≡ block * 64 + first.at = first.is in let b : first.at < count = first.within in omega arith)
      | inr later ↦ (
          let a : value ≡ block * 64 + first.at = first.is in
          let at : block * 64 + (u - block * 64) ≡ u = omega arith in
          subst (λ n. IsJudged N P (bits_of (monitored_count N P) n)) at (first.before (u - block * 64) (omega arith)))
    ],
  )
