-- Points that are put block by block, and the lanes of the states at places.
use Rattle.std.proofs.Common.{◌≡◌, ℕ, ◌+◌, ◌-◌, ◌*◌, ◌/◌, ◌^◌, ◌<◌, ◌≤◌, ◌==◌, Bool, true, false, ◌&&◌, ◌||◌, List, [], length, get_or, set, bit_and, bit_or, Option, Some, None, refl, sym, ap, ap₂, ◌∙◌, subst, arith, below_more, eq-eqb}
use Rattle.std.specs.Prelude.{IsSome, replicate, slice_get, if◌then◌else◌}
use Rattle.std.proofs.Math.Logic.{⊎_elim}
use Rattle.std.proofs.Math.Nat.{div-mul-le_self}
use Rattle.std.proofs.Math.Pow.{shr_mono}
use Rattle.std.proofs.Math.Bool.{or-false}
use Rattle.std.proofs.lemmas.Nat.{mul-le}
use Rattle.std.proofs.lemmas.Bool.{cases_lt, ne_eqb, true≢false}
use Rattle.std.proofs.lemmas.List.{get_or-set_same, get_or-set_other, get_or_past, get_or-replicate, length-replicate}
use Rattle.std.proofs.lemmas.Option.{slice_get-get_or}
use Rattle.tsc_bits.specs.Bits.{bit_worth, bits_of}
use Rattle.tsc_bits.proofs.Bits.{bit_worth-and, bit_worth-or, get_or-bits_of, bit_worth-zero}
use Rattle.fault_secure.specs.Circuit.{bit}
use Rattle.fault_secure.specs.CodePlan.{CodePlan}
use Rattle.fault_secure.specs.Exposing.{word_of_state}
use Rattle.lane_sim.specs.Points.{PointsState, KeepsOtherBlocks, point_state}
use Rattle.lane_sim.specs.Places.{HasInputOf, HasStateOf}

-- ---- blocks

-- one more block
block_more : (Q : ℕ → Type 0) (block : ℕ) → ((p : ℕ) → p < block * 64 → Q p) → ((p : ℕ) → p < 64 → Q (block * 64 + p)) → (p : ℕ) → p < (block + 1) * 64 → Q p
block_more Q block before here p below = ⊎_elim
    (λ (less : p < block * 64). before p less)
    (λ (past : block * 64 ≤ p).
    let rest : p - block * 64 < 64 = omega arith in
    let is : block * 64 + (p - block * 64) ≡ p = omega arith in
    subst Q is (here (p - block * 64) rest))
    (cases_lt p (block * 64))

pub inputs_more : (inputs first block : ℕ) (old new : PointsState) → block < 16 → old.inputs ≡ inputs → KeepsOtherBlocks block old new
    → ((p : ℕ) → p < block * 64 → HasInputOf inputs old p (first + p)) → ((p : ℕ) → p < 64 → HasInputOf old.inputs new (block * 64 + p) (first + block * 64 + p))
    → (p : ℕ) → p < (block + 1) * 64 → HasInputOf inputs new p (first + p)
inputs_more inputs first block old new inside same kept before here = block_more (λ (p : ℕ). HasInputOf inputs new p (first + p)) block
    (λ p less k h. (kept p k (omega arith) (λ e. omega arith)).0 ∙ before p less k h)
    (λ p few k h.
    let place : first + block * 64 + p ≡ first + (block * 64 + p) = omega arith in
    here p few k (subst (λ (n : ℕ). k < n) (sym same) h) ∙ ap₂ (λ (n at : ℕ). bit (bits_of n at) k) same place)

pub states_more : (P : CodePlan) (inputs first past block : ℕ) (old new : PointsState) → block < 16 → old.inputs ≡ inputs → KeepsOtherBlocks block old new
    → ((p : ℕ) → p < block * 64 → first + p < past → HasStateOf P inputs old p (first + p))
    → ((p : ℕ) → p < 64 → first + block * 64 + p < past → HasStateOf P old.inputs new (block * 64 + p) (first + block * 64 + p))
    → (p : ℕ) → p < (block + 1) * 64 → first + p < past → HasStateOf P inputs new p (first + p)
states_more P inputs first past block old new inside same kept before here = block_more (λ (p : ℕ). first + p < past → HasStateOf P inputs new p (first + p)) block
    (λ p less below.
    let has = before p less below in
    record {
      word = has.word;
      is_state = has.is_state;
      state = λ l h. (kept p l (omega arith) (λ e. omega arith)).1 ∙ has.state l h;
    })
    (λ p few below.
    let place : first + block * 64 + p ≡ first + (block * 64 + p) = omega arith in
    subst (λ (at : ℕ). HasStateOf P inputs new (block * 64 + p) at) place
    (subst (λ (n : ℕ). HasStateOf P n new (block * 64 + p) (first + block * 64 + p)) same (here p few (omega arith))))

-- ---- the words of states

some_word : (o : Option (List Bool)) → IsSome o → (word : List Bool) × (o ≡ Some word)
some_word (Some word) some = (word, refl)
some_word None some = absurd (true≢false (sym some))

-- the states that are met have words, and their lanes are put
pub block_state : (P : CodePlan) (inputs count base past block p : ℕ) (points : PointsState) (lanes : List ℕ) → count ≡ inputs → base + p < past
    → ((q : ℕ) → q * 2 ^ inputs < past → IsSome (word_of_state P q)) → ((l : ℕ) → l < P.latches → point_state points (block * 64 + p) l ≡ bit_worth p (get_or lanes l 0))
    → ((l : ℕ) → l < P.latches → (word : List Bool) → word_of_state P ((base + p) / 2 ^ count) ≡ Some word → bit_worth p (get_or lanes l 0) ≡ bit word l)
    → HasStateOf P inputs points (block * 64 + p) (base + p)
block_state P inputs count base past block p points lanes same inside worded put are =
    let before : (base + p) / 2 ^ inputs * 2 ^ inputs ≤ base + p = div-mul-le_self (base + p) (2 ^ inputs) in
    let state = some_word (word_of_state P ((base + p) / 2 ^ inputs)) (worded ((base + p) / 2 ^ inputs) (omega arith)) in
    record {
      word = state.0;
      is_state = state.1;
      state = λ l h. put l h ∙ are l h state.0 (ap (λ (n : ℕ). word_of_state P ((base + p) / 2 ^ n)) same ∙ state.1);
    }

-- a listed state has a word
abbrev empty_word : ℕ → Option (List Bool)
empty_word q = if q == 0 then Some [] else None

some_state : (b : Bool) (states : List (List Bool)) (q : ℕ) → q < (if b then 1 else length states) → IsSome (if b then empty_word q else slice_get states q)
some_state true states q listed = let first : q ≡ 0 = omega arith in subst (λ (n : ℕ). IsSome (empty_word n)) (sym first) refl
some_state false states q listed = subst (λ (o : Option (List Bool)). IsSome o) (sym (slice_get-get_or states q [] listed)) refl

-- each listed state has a word; without latches there is one state, number 0
pub listed_has_word : (P : CodePlan) (q : ℕ) → q < (if P.latches == 0 then 1 else length P.states) → IsSome (word_of_state P q)
listed_has_word P q listed = some_state (P.latches == 0) P.states q listed

-- so has each state with a place below the number of points
pub states_have_words : (P : CodePlan) (inputs past : ℕ) → past ≤ (if P.latches == 0 then 1 else length P.states) * 2 ^ inputs → (q : ℕ) → q * 2 ^ inputs < past → IsSome (word_of_state P q)
states_have_words P inputs past inside q below = listed_has_word P q (fewer (2 ^ inputs) (if P.latches == 0 then 1 else length P.states) q (omega arith))
  where
    fewer : (w a b : ℕ) → b * w < a * w → b < a
    fewer w a b less = ⊎_elim (λ (low : b < a). low) (λ (high : a ≤ b). let most : a * w ≤ b * w = mul-le a w b w high (omega arith) in absurd (omega arith)) (cases_lt b a)

-- ---- lanes of states

-- the lanes have the words of the states below this one, and zeros at the places of the others
pub record LanesBelow (P : CodePlan) (inputs base state : ℕ) (lanes : List ℕ) : Type 0 where
  pub done : (k : ℕ) → k < 64 → (base + k) / 2 ^ inputs < state → (l : ℕ) → l < P.latches → (word : List Bool) → word_of_state P ((base + k) / 2 ^ inputs) ≡ Some word
      → bit_worth k (get_or lanes l 0) ≡ bit word l
  pub rest : (k : ℕ) → k < 64 → state ≤ (base + k) / 2 ^ inputs → (l : ℕ) → l < P.latches → bit_worth k (get_or lanes l 0) ≡ false

same_lane : (count l x : ℕ) → get_or (replicate count x) l x ≡ x
same_lane count l x = ⊎_elim
    (λ (inside : l < count). get_or-replicate count l x x inside)
    (λ (past : count ≤ l). get_or_past (replicate count x) l x (omega (arith, length-replicate count x)))
    (cases_lt l count)

pub lanes_none : (P : CodePlan) (inputs base state : ℕ) → state ≡ base / 2 ^ inputs → LanesBelow P inputs base state (replicate 64 0)
lanes_none P inputs base state first = record {
  done = λ k few below l h word is.
      let later : base / 2 ^ inputs ≤ (base + k) / 2 ^ inputs = shr_mono inputs (omega arith) in absurd (omega arith);
  rest = λ k few from l h. ap (bit_worth k) (same_lane 64 l 0) ∙ bit_worth-zero k;
}

same_word : (P : CodePlan) (q state : ℕ) (word other : List Bool) → state ≡ q → word_of_state P state ≡ Some word → word_of_state P q ≡ Some other → word ≡ other
same_word P q state word other is here there = some_of word other (sym here ∙ (ap (word_of_state P) is ∙ there))
  where
    some_of : (a b : List Bool) → Some a ≡ Some b → a ≡ b
    some_of a b e = cc

-- a bit is added at no other point, and at one that had a 0
kept_there : (old x y : Bool) → x ≡ false → (old || (x && y)) ≡ old
kept_there old x y other = ap (λ (b : Bool). old || (b && y)) other ∙ or-false old

added_here : (old x y : Bool) → old ≡ false → x ≡ true → (old || (x && y)) ≡ y
added_here old x y none here = ap₂ (λ (a b : Bool). a || (b && y)) none here

-- one more state
pub lanes_more : (P : CodePlan) (inputs base state latches word points : ℕ) (old new : List ℕ) → latches ≡ P.latches → word_of_state P state ≡ Some (bits_of P.latches word)
    → ((k : ℕ) → k < 64 → bit_worth k points ≡ (state == (base + k) / 2 ^ inputs))
    → ((l : ℕ) → l < latches → (k : ℕ) → k < 64 → bit_worth k (get_or new l 0) ≡ (bit_worth k (get_or old l 0) || (bit_worth k points && bit_worth (latches - 1 - l) word)))
    → LanesBelow P inputs base state old → LanesBelow P inputs base (state + 1) new
lanes_more P inputs base state latches word points old new count is at added below = record {
  done = λ k few before l h other there.
      let q : ℕ = (base + k) / 2 ^ inputs in
      let inside : l < latches = omega arith in
      ⊎_elim
      (λ (less : q < state).
      let apart : (state == q) ≡ false = ne_eqb state q (λ same. omega arith) in
      added l inside k few ∙ (kept_there (bit_worth k (get_or old l 0)) (bit_worth k points) (bit_worth (latches - 1 - l) word) (at k few ∙ apart) ∙ below.done k few less l h other there))
      (λ (from : state ≤ q).
      let same : state ≡ q = omega arith in
      let own : bits_of P.latches word ≡ other = same_word P q state (bits_of P.latches word) other same is there in
      added l inside k few
      ∙ (added_here (bit_worth k (get_or old l 0)) (bit_worth k points) (bit_worth (latches - 1 - l) word) (below.rest k few from l h) (at k few ∙ eq-eqb state q same)
      ∙ (ap (λ (n : ℕ). bit_worth (n - 1 - l) word) count ∙ (sym (get_or-bits_of P.latches word l h) ∙ ap (λ (w : List Bool). bit w l) own))))
      (cases_lt q state);
  rest = λ k few from l h.
      let q : ℕ = (base + k) / 2 ^ inputs in
      let inside : l < latches = omega arith in
      let apart : (state == q) ≡ false = ne_eqb state q (λ same. omega arith) in
      let later : state ≤ q = omega arith in
      added l inside k few ∙ (kept_there (bit_worth k (get_or old l 0)) (bit_worth k points) (bit_worth (latches - 1 - l) word) (at k few ∙ apart) ∙ below.rest k few later l h);
}

-- the ones of one more latch
pub ones_more : (latch latches word points mask : ℕ) (value : Bool) (old now : List ℕ) → latch < length now → value ≡ bit_worth (latches - 1 - latch) word
    → ((k : ℕ) → k < 64 → bit_worth k mask ≡ value) → get_or now latch 0 ≡ get_or old latch 0
    → ((i : ℕ) → i < latch → (k : ℕ) → k < 64 → bit_worth k (get_or now i 0) ≡ (bit_worth k (get_or old i 0) || (bit_worth k points && bit_worth (latches - 1 - i) word)))
    → (i : ℕ) → i < latch + 1 → (k : ℕ) → k < 64
    → bit_worth k (get_or (set now latch (bit_or (get_or now latch 0) (bit_and points mask))) i 0)
    ≡ (bit_worth k (get_or old i 0) || (bit_worth k points && bit_worth (latches - 1 - i) word))
ones_more latch latches word points mask value old now inside is masked kept before =
    let new : ℕ = bit_or (get_or now latch 0) (bit_and points mask) in
    below_more
    (λ (i : ℕ). (k : ℕ) → k < 64 → bit_worth k (get_or (set now latch new) i 0) ≡ (bit_worth k (get_or old i 0) || (bit_worth k points && bit_worth (latches - 1 - i) word)))
    latch
    (λ i less k few. ap (bit_worth k) (get_or-set_other now latch i new 0 (λ same. omega arith)) ∙ before i less k few)
    (λ k few.
    ap (bit_worth k) (get_or-set_same now latch new 0 inside)
    ∙ (bit_worth-or k (get_or now latch 0) (bit_and points mask)
    ∙ ap₂ (λ (a b : Bool). a || b) (ap (bit_worth k) kept) (bit_worth-and k points mask ∙ ap (λ (b : Bool). bit_worth k points && b) (masked k few ∙ is))))
