-- Steps at points and steps of runs: what settles with some bits settles with others that are the same as far as they count.
use Rattle.std.proofs.Common.{◌≡◌, ℕ, zero, suc, ◌+◌, ◌<◌, ◌==◌, Bool, true, false, not, cond, ◌&&◌, if◌then◌else◌, List, [], ◌∷◌, length, position, Some, None, slice_get, IsTrue, refl, sym, ap, ap₂, ◌∙◌, inl, inr, arith}
use Rattle.std.specs.List.{position_or_len}
use Rattle.std.proofs.lemmas.Bool.{cases_Bool, lt-ltb, le-leb}
use Rattle.fault_secure.specs.Circuit.{Circuit, latch_net, nets, bit}
use Rattle.fault_secure.specs.StuckAt.{StuckAt, NoFault, Stem, on_stem, is_listed}
use Rattle.fault_secure.specs.Settle.{Settles}
use Rattle.fault_secure.specs.CodePlan.{CodePlan, IsPlanOf}
use Rattle.fault_secure.specs.FailingCell.{IsCell, SettlesBut}
use Rattle.fault_secure.specs.FaultSecure.{equal_bits, state_at}
use Rattle.fault_secure.specs.Exposing.{word_of_state}
use Rattle.fault_secure.proofs.ByRank.{tabulate, length_tabulate, bit_tabulate}
use Rattle.fault_secure.proofs.EqualBits.{bits_same}
use Rattle.fault_secure.proofs.ListedStates.{has_word_like}
use Rattle.point_laws.specs.Points.{IsStepAt, IsStepButAt}

module _ (N : Circuit) (x y s t : ℕ → Bool) (same_inputs : (i : ℕ) → i < N.inputs → x i ≡ y i) (same_states : (l : ℕ) → l < length N.latches → s l ≡ t l) where
  -- what settles with some input and state bits settles with others that are the same at each input and latch
  pub settles_like : (f : StuckAt) (v : List Bool) → Settles N f x s v → Settles N f y t v
  settles_like f v h = record {
    sized = h.sized;
    inputs = λ i inside. h.inputs i inside ∙ ap (on_stem f i) (same_inputs i inside);
    latches = λ l inside. h.latches l inside ∙ ap (on_stem f (latch_net N l)) (same_states l inside);
    nodes = h.nodes;
  }

  pub settles_but_like : (cell : ℕ) (v : List Bool) → SettlesBut N cell x s v → SettlesBut N cell y t v
  settles_but_like cell v h = record {
    sized = h.sized;
    inputs = λ i inside. h.inputs i inside ∙ same_inputs i inside;
    latches = λ l inside off. h.latches l inside off ∙ same_states l inside;
    nodes = h.nodes;
  }

-- ---- a step of a run as a step at a point

-- the input, cut or filled up to as many bits as inputs
abbrev pub cut : Circuit → List Bool → List Bool
cut N x = tabulate N.inputs 0 (bit x)

cut_bit : (N : Circuit) (x : List Bool) (i : ℕ) → i < N.inputs → bit x i ≡ bit (cut N x) i
cut_bit N x i inside = sym (bit_tabulate N.inputs i (bit x) inside)

module _ (N : Circuit) (P : CodePlan) (plan : IsPlanOf N P) (q : ℕ) (s : List Bool) (traced : state_at P s ≡ Some q) where
  word_bits : (l : ℕ) → l < length N.latches → bit s l ≡ bit (has_word_like P s q traced).word l
  word_bits l inside = ap (λ w. bit w l) (sym ((has_word_like P s q traced).alike (let counted = plan.latches in omega arith)))

  pub step_at : (x v : List Bool) → Settles N NoFault (bit x) (bit s) v → IsStepAt N P q (cut N x) v
  step_at x v h = record {
    word = (has_word_like P s q traced).word;
    is_state = (has_word_like P s q traced).is_state;
    sized = length_tabulate N.inputs 0 (bit x);
    settles = settles_like N (bit x) (bit (cut N x)) (bit s) (bit (has_word_like P s q traced).word) (cut_bit N x) word_bits NoFault v h;
  }

  pub step_but_at : (cell : ℕ) (x u : List Bool) → SettlesBut N cell (bit x) (bit s) u → IsStepButAt N P cell q (cut N x) u
  step_but_at cell x u h = record {
    word = (has_word_like P s q traced).word;
    is_state = (has_word_like P s q traced).is_state;
    sized = length_tabulate N.inputs 0 (bit x);
    settles = settles_but_like N (bit x) (bit (cut N x)) (bit s) (bit (has_word_like P s q traced).word) (cut_bit N x) word_bits cell u h;
  }

-- ---- the word of a listed state is traced, at the first place that has it

same_some : (a b : List Bool) → Some a ≡ Some b → a ≡ b
same_some a b e = cc

-- a state has one word
pub one_word : (P : CodePlan) (q : ℕ) (a b : List Bool) → word_of_state P q ≡ Some a → word_of_state P q ≡ Some b → a ≡ b
one_word P q a b first second = same_some a b (sym first ∙ second)

-- what passes at some place is found
found_below : (p : List Bool → Bool) (items : List (List Bool)) (q : ℕ) (w : List Bool) → slice_get items q ≡ Some w → p w ≡ true → position_or_len p items < length items
found_below p [] q w e passes = absurd (cc)
found_below p (item ∷ items) zero w e passes =
    let here : position_or_len p (item ∷ items) ≡ 0 = ap (λ b. cond (not b) (1 + position_or_len p items) 0) (ap p (same_some item w e) ∙ passes) in
    omega arith
found_below p (item ∷ items) (suc q) w e passes = elim (cases_Bool (p item)) [
  | inl passed ↦ (let here : position_or_len p (item ∷ items) ≡ 0 = ap (λ b. cond (not b) (1 + position_or_len p items) 0) passed in omega arith)
  | inr failed ↦
      let here : position_or_len p (item ∷ items) ≡ 1 + position_or_len p items = ap (λ b. cond (not b) (1 + position_or_len p items) 0) failed in
      let rest = found_below p items q w e passes in
      omega arith
]

traced_or : (b : Bool) (states : List (List Bool)) (q : ℕ) (w : List Bool) → (if b then (if q == 0 then Some [] else None) else slice_get states q) ≡ Some w
    → (r : ℕ) × ((if b then Some 0 else position (equal_bits w) states) ≡ Some r)
traced_or true states q w e = (0, refl)
traced_or false states q w e = (
  position_or_len (equal_bits w) states,
  ap (λ b. cond b (Some (position_or_len (equal_bits w) states)) None)
      (lt-ltb (position_or_len (equal_bits w) states) (length states) (found_below (equal_bits w) states q w e (bits_same w))),
)

pub listed_is_traced : (P : CodePlan) (q : ℕ) (w : List Bool) → word_of_state P q ≡ Some w → (r : ℕ) × (state_at P w ≡ Some r)
listed_is_traced P q w e = traced_or (P.latches == 0) P.states q w e

-- without latches there is one state
pub one_state : (P : CodePlan) (s t : List Bool) → P.latches ≡ 0 → state_at P s ≡ state_at P t
one_state P s t none =
    ap (λ n. if n == 0 then Some 0 else position (equal_bits s) P.states) none ∙ sym (ap (λ n. if n == 0 then Some 0 else position (equal_bits t) P.states) none)

-- ---- the stem of a cell is listed

-- the stem of a cell, held at either bit, is a listed fault
pub stem_listed : (N : Circuit) (cell : ℕ) (held : Bool) → IsCell N cell → IsTrue (is_listed N (Stem cell held))
stem_listed N cell held is = ap₂ ◌&&◌ (le-leb N.inputs cell is.no_input) (lt-ltb cell (nets N) is.inside)
