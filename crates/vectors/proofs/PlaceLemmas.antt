-- The places of points: which come before which, and the first at which a fault is exposed.
use Rattle.std.proofs.Common.{◌≡◌, ℕ, zero, suc, ◌+◌, ◌*◌, ◌/◌, ◌%◌, ◌^◌, ◌<◌, ◌≤◌, ◌⊎◌, Bool, true, false, not, nat_lt, if◌then◌else◌, List, [], ◌∷◌, length, map, set, get_or, slice_index, Option, Some, None, length-set, refl, sym, ap, ◌∙◌, subst, arith, inl, inr}
use Rattle.std.proofs.Math.Nat.{mod-lt, mod-add-div, mul_comm}
use Rattle.std.specs.Option.{option_map}
use Rattle.std.proofs.lemmas.Nat.{mul-add-lt, div-mul-add, mod-mul-add, pow_pos, mul-le}
use Rattle.std.proofs.Math.Logic.{⊎_elim}
use mathlib.Core.Bool.{beq}
use Rattle.std.proofs.lemmas.Bool.{cases_eq, cases_lt, le-ltb, lt-ltb, true≢false}
use Rattle.std.proofs.lemmas.List.{get_or-set_same, get_or-set_other, get_or-map, length-map}
use Rattle.std.proofs.Math.Pow.{pow_mono}
use Rattle.tsc_bits.specs.Bits.{bits_of, binary}
use Rattle.tsc_bits.proofs.Bits.{bits_of-mod, bits_of-binary, binary-bits_of_mod, binary-lt}
use Rattle.fault_secure.specs.Circuit.{Circuit}
use Rattle.fault_secure.specs.StuckAt.{StuckAt, NoFault}
use Rattle.fault_secure.specs.CodePlan.{CodePlan}
use Rattle.fault_secure.specs.Exposing.{Exposes, listed_states, point_count}
use Rattle.fault_secure.specs.Listed.{listed_faults}
use Rattle.vectors.specs.Vectors.{ExposesAt, IsTest, AreTests}
use Rattle.lane_sim.specs.First.{IsFirstIn}
use Rattle.vectors.specs.Trial.{bit_held, bound_of, coded_place, is_tried, IsFirstPlace, AreAllFirst, AreFirst}
use Rattle.fault_secure.proofs.ListedStates.{is_listed_state}
use Rattle.lane_sim.specs.Places.{point_at}

-- ---- counting

-- with more than 16 inputs and at least one state there are more than 65536 points
pub many_inputs : (states n : ℕ) → 0 < states → 16 < n → 65536 < states * 2 ^ n
many_inputs states n some more =
    let far : 17 ≤ n = omega arith in
    let most : 2 ^ 17 ≤ 2 ^ n = pow_mono far in
    let product : 1 * 2 ^ n ≤ states * 2 ^ n = mul-le 1 (2 ^ n) states (2 ^ n) (omega arith) (omega arith) in
    omega arith

-- ---- places as numbers

-- numbers that are all 0 stand for no place
pub no_place : (codes : List ℕ) → ((k : ℕ) → slice_index codes k ≡ 0) → (k : ℕ) → get_or (map coded_place codes) k None ≡ None
no_place [] zeros k = refl
no_place (code ∷ codes) zeros zero = ap coded_place (zeros 0)
no_place (code ∷ codes) zeros (suc k) = no_place codes (λ j. zeros (suc j)) k

-- ---- the place of a point

module _ (N : Circuit) (P : CodePlan) (f : StuckAt) where
  -- the point (q, x) stands at a place
  abbrev pub place_of : ℕ → List Bool → ℕ
  place_of q x = q * 2 ^ N.inputs + binary x

  small : (x : List Bool) → length x ≡ N.inputs → binary x < 2 ^ N.inputs
  small x sized = subst (λ n. binary x < 2 ^ n) sized (binary-lt x)

  pub exposes_there : (q : ℕ) (x : List Bool) → Exposes N P f q x → ExposesAt N P f (place_of q x)
  exposes_there q x e =
      let below : binary x < 2 ^ N.inputs = small x e.sized in
      let state : place_of q x / 2 ^ N.inputs ≡ q = div-mul-add q (2 ^ N.inputs) (binary x) below in
      let input : bits_of N.inputs (place_of q x) ≡ x
      = sym (bits_of-mod N.inputs (place_of q x))
      ∙ (ap (bits_of N.inputs) (mod-mul-add q (2 ^ N.inputs) (binary x) below)
      ∙ (ap (λ n. bits_of n (binary x)) (sym e.sized) ∙ bits_of-binary x)) in
      subst (λ s. Exposes N P f s (bits_of N.inputs (place_of q x))) (sym state) (subst (Exposes N P f q) (sym input) e)

  pub place_inside : (q : ℕ) (x : List Bool) → Exposes N P f q x → place_of q x < point_count N P
  place_inside q x e =
      let inside = mul-add-lt q (2 ^ N.inputs) (binary x) (listed_states P) (is_listed_state P q e.word e.is_state) (small x e.sized) in
      turned (2 ^ N.inputs) (listed_states P) (place_of q x) inside
    where
      turned : (w s p : ℕ) → p < w * s → p < s * w
      turned w s p h = omega (arith, h)

  before_place : (r q w a b p : ℕ) → a < w → p ≡ q * w + b → (r < q) ⊎ ((r ≡ q) × (a < b)) → r * w + a < p
  before_place r q w a b p below is (inl h) = let most : suc r * w ≤ q * w = mul-le (suc r) w q w (omega arith) (omega arith) in grind arith
  before_place r q w a b p below is (inr h) = let same : r * w ≡ q * w = ap (λ k. k * w) h.0 in let less : a < b = h.1 in omega arith

  -- the first place at which it is exposed is its first exposing point
  pub test_is : (place : Option ℕ) → IsFirstIn (ExposesAt N P f) 0 (point_count N P) place → IsTest N P f (option_map (point_at N.inputs) place)
  test_is None none = λ e. none (place_of e.state e.input) (omega arith) (place_inside e.state e.input e.exposes) (exposes_there e.state e.input e.exposes)
  test_is (Some p) first =
      let w : ℕ = 2 ^ N.inputs in
      let rest : p % w < w = mod-lt p (pow_pos N.inputs) in
      let whole : p ≡ p / w * w + p % w = omega (arith, mod-add-div p w, mul_comm (p / w) w) in
      let input : bits_of N.inputs (p % w) ≡ bits_of N.inputs p = bits_of-mod N.inputs p in
      let number : binary (bits_of N.inputs (p % w)) ≡ p % w = ap binary input ∙ binary-bits_of_mod N.inputs p in (
        rest,
        record {
          exposes = subst (Exposes N P f (p / w)) (sym input) first.2;
          first = λ r y before e.
              first.3 (place_of r y) (omega arith)
              (before_place r (p / w) w (binary y) (p % w) p (small y e.sized) whole (subst (λ n. (r < p / w) ⊎ ((r ≡ p / w) × (binary y < n))) number before))
              (exposes_there r y e);
        },
      )

-- ---- the places that were found for faults

module _ (N : Circuit) (P : CodePlan) where
  -- none so far
  pub none_found : (places : List (Option ℕ)) → length places ≡ length (listed_faults N) → ((k : ℕ) → get_or places k None ≡ None) → AreAllFirst N P 0 places
  none_found places sized empty = record {
    sized = sized;
    each = λ k below. subst (IsFirstPlace N P k 0) (sym (empty k)) (λ p low high e. omega arith);
  }

  -- places that have the bounds of a pass have any that are the same
  with_bounds : (places : List (Option ℕ)) → length places ≡ length (listed_faults N) → (old new : ℕ → ℕ) → ((k : ℕ) → k < length (listed_faults N) → old k ≡ new k)
      → ((k : ℕ) → k < length (listed_faults N) → IsFirstPlace N P k (old k) (get_or places k None)) → (k : ℕ) → k < length (listed_faults N) → IsFirstPlace N P k (new k) (get_or places k None)
  with_bounds places sized old new same each k below = subst (λ (n : ℕ). IsFirstPlace N P k n (get_or places k None)) (same k below) (each k below)

  -- a further batch begins, with those that hold 0
  pub begun : (first past : ℕ) (places : List (Option ℕ)) → AreAllFirst N P first places → AreFirst N P false 0 past first places
  begun first past places found = record {
    sized = found.sized;
    each = with_bounds places found.sized (λ k. first) (bound_of N false 0 past first) (λ k below. untried (bit_held N k) ∙ ap (λ (b : Bool). if is_tried false (bit_held N k) b then past else first) (sym (le-ltb k 0 (omega arith)))) found.each;
  }
    where
      untried : (b : Bool) → first ≡ (if is_tried false b false then past else first)
      untried false = refl
      untried true = refl

  -- then those that hold 1
  pub turned : (many past first : ℕ) (places : List (Option ℕ)) → many ≡ length (listed_faults N) → AreFirst N P false many past first places → AreFirst N P true 0 past first places
  turned many past first places all found = record {
    sized = found.sized;
    each = with_bounds places found.sized (bound_of N false many past first) (bound_of N true 0 past first)
        (λ k below. ap (λ (b : Bool). if is_tried false (bit_held N k) b then past else first) (is_below k below)
        ∙ (same (bit_held N k) ∙ ap (λ (b : Bool). if is_tried true (bit_held N k) b then past else first) (sym (le-ltb k 0 (omega arith))))) found.each;
  }
    where
      is_below : (k : ℕ) → k < length (listed_faults N) → nat_lt k many ≡ true
      is_below k below = lt-ltb k many (omega arith)

      same : (b : Bool) → (if is_tried false b true then past else first) ≡ (if is_tried true b false then past else first)
      same false = refl
      same true = refl

  -- all of them
  pub batch_found : (many past first : ℕ) (places : List (Option ℕ)) → many ≡ length (listed_faults N) → AreFirst N P true many past first places → AreAllFirst N P past places
  batch_found many past first places all found = record {
    sized = found.sized;
    each = with_bounds places found.sized (bound_of N true many past first) (λ k. past)
        (λ k below. ap (λ (b : Bool). if is_tried true (bit_held N k) b then past else first) (lt-ltb k many (omega arith)) ∙ tried (bit_held N k)) found.each;
  }
    where
      tried : (b : Bool) → (if is_tried true b true then past else first) ≡ past
      tried false = refl
      tried true = refl

  -- the bound of another fault than the next one stays as it is
  other_bound : (pass : Bool) (many later bound k : ℕ) → (k ≡ many → ⊥) → bound_of N pass many later bound k ≡ bound_of N pass (many + 1) later bound k
  other_bound pass many later bound k apart = ap (λ (b : Bool). if is_tried pass (bit_held N k) b then later else bound) (elim (cases_lt k many) [
    | inl low ↦ lt-ltb k many low ∙ sym (lt-ltb k (many + 1) (omega arith))
    | inr high ↦ le-ltb k many high ∙ sym (le-ltb k (many + 1) (omega (arith, λ (e : k ≡ many). apart e)))
  ])

  -- the next fault wasn't tried, where it holds the bit of the pass
  pub next_bound : (pass : Bool) (many later bound : ℕ) → bit_held N many ≡ pass → bound_of N pass many later bound many ≡ bound
  next_bound pass many later bound holds =
      ap (λ (b : Bool). if is_tried pass b (nat_lt many many) then later else bound) holds
      ∙ (ap (λ (b : Bool). if is_tried pass pass b then later else bound) (le-ltb many many (omega arith)) ∙ untried pass)
    where
      untried : (b : Bool) → (if is_tried b b false then later else bound) ≡ bound
      untried false = refl
      untried true = refl

  -- one more fault that holds the bit of the pass
  pub found_more : (pass : Bool) (many past first : ℕ) (places : List (Option ℕ)) (place : Option ℕ) → many < length (listed_faults N) → bit_held N many ≡ pass
      → AreFirst N P pass many past first places → IsFirstPlace N P many past place → AreFirst N P pass (many + 1) past first (set places many place)
  found_more pass many past first places place inside holds found here = record {
    sized = length-set places many place ∙ found.sized;
    each = λ k below. ⊎_elim
        (λ is. subst (λ n. IsFirstPlace N P n (bound_of N pass (many + 1) past first n) (get_or (set places many place) n None)) (sym is)
        (subst (IsFirstPlace N P many (bound_of N pass (many + 1) past first many)) (sym (get_or-set_same places many place None (omega (arith, found.sized))))
        (subst (λ (n : ℕ). IsFirstPlace N P many n place) (sym now_tried) here)))
        (λ apart. subst (IsFirstPlace N P k (bound_of N pass (many + 1) past first k)) (sym (get_or-set_other places many k place None apart))
        (subst (λ (n : ℕ). IsFirstPlace N P k n (get_or places k None)) (other_bound pass many past first k apart) (found.each k below)))
        (cases_eq k many);
  }
    where
      tried : (b : Bool) → (if is_tried b b true then past else first) ≡ past
      tried false = refl
      tried true = refl

      now_tried : bound_of N pass (many + 1) past first many ≡ past
      now_tried =
          ap (λ (b : Bool). if is_tried pass b (nat_lt many (many + 1)) then past else first) holds
          ∙ (ap (λ (b : Bool). if is_tried pass pass b then past else first) (lt-ltb many (many + 1) (omega arith)) ∙ tried pass)

  -- one more fault that holds the other bit
  pub passed_over : (pass : Bool) (many past first : ℕ) (places : List (Option ℕ)) → (bit_held N many ≡ pass → ⊥) → AreFirst N P pass many past first places
      → AreFirst N P pass (many + 1) past first places
  passed_over pass many past first places other found = record {
    sized = found.sized;
    each = with_bounds places found.sized (bound_of N pass many past first) (bound_of N pass (many + 1) past first) (λ k below. ⊎_elim
        (λ is. ap (λ (b : Bool). if b then past else first)
        (whichever pass (bit_held N k) (nat_lt k many) (nat_lt k (many + 1)) (λ e. other (ap (bit_held N) (sym is) ∙ e))))
        (λ apart. other_bound pass many past first k apart)
        (cases_eq k many)) found.each;
  }
    where
      whichever : (held bit before after : Bool) → (bit ≡ held → ⊥) → is_tried held bit before ≡ is_tried held bit after
      whichever false false before after apart = absurd (apart refl)
      whichever false true before after apart = refl
      whichever true false before after apart = refl
      whichever true true before after apart = absurd (apart refl)

  pub tests_are : (places : List (Option ℕ)) (count : ℕ) → count ≡ point_count N P → AreAllFirst N P count places
      → AreTests N P (map (option_map (point_at N.inputs)) places)
  tests_are places count all found = record {
    sized = length-map places (option_map (point_at N.inputs)) ∙ found.sized;
    each = λ k below.
        let f = get_or (listed_faults N) k NoFault in
        let place = get_or places k None in
        subst (IsTest N P f) (sym (get_or-map (option_map (point_at N.inputs)) places k None None (omega (arith, found.sized))))
        (test_is N P f place (subst (λ n. IsFirstIn (ExposesAt N P f) 0 n place) all (found.each k below)));
  }

-- two bits are the same, or they aren't, as a test of them tells
pub same_bits : (a b : Bool) → not (beq a b) ≡ false → a ≡ b
same_bits true true e = refl
same_bits true false e = e
same_bits false true e = sym e
same_bits false false e = refl

pub other_bits : (a b : Bool) → not (beq a b) ≡ true → a ≡ b → ⊥
other_bits true true e same = true≢false (sym e)
other_bits true false e same = true≢false same
other_bits false true e same = true≢false (sym same)
other_bits false false e same = true≢false (sym e)
