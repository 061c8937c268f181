-- A valuation each of whose bits is what the bits of lower rank drive exists: set all bits anew as many times as there are ranks.
use Rattle.std.proofs.Common.{◌≡◌, ℕ, zero, suc, ◌+◌, ◌<◌, ◌≤◌, ◌⊎◌, inl, inr, max, Bool, false, List, [], ◌∷◌, length, refl, ap, sym, ◌∙◌, arith}
use Rattle.std.proofs.lemmas.List.{get_or_past}
use Rattle.std.proofs.lemmas.Bool.{cases_lt}
use Rattle.fault_secure.specs.Circuit.{bit}

-- the bits of h from place k on
abbrev pub tabulate : ℕ → ℕ → (ℕ → Bool) → List Bool
tabulate zero k h = []
tabulate (suc n) k h = h k ∷ tabulate n (suc k) h

-- the list of n tabulated bits has length n
pub length_tabulate : (n k : ℕ) (h : ℕ → Bool) → length (tabulate n k h) ≡ n
length_tabulate zero k h = refl
length_tabulate (suc n) k h = ap suc (length_tabulate n (suc k) h)

-- bit i of the n bits h k, h (k + 1) and so on is h (k + i), where i is below n
pub tabulate_from : (n k i : ℕ) (h : ℕ → Bool) → i < n → bit (tabulate n k h) i ≡ h (k + i)
tabulate_from zero k i h l = absurd (omega arith)
tabulate_from (suc n) k zero h l = ap h (omega arith)
tabulate_from (suc n) k (suc i) h l = tabulate_from n (suc k) i h (omega arith) ∙ ap h (omega arith)

-- bit i of the n bits h 0, h 1 and so on is h i, where i is below n
pub bit_tabulate : (n i : ℕ) (h : ℕ → Bool) → i < n → bit (tabulate n 0 h) i ≡ h i
bit_tabulate n i h l = tabulate_from n 0 i h l ∙ ap h (omega arith)

-- above the ranks of all nets below n
abbrev pub top_rank : (ℕ → ℕ) → ℕ → ℕ
top_rank rank zero = zero
top_rank rank (suc n) = max (top_rank rank n) (suc (rank n))

top_at_last : (rank : ℕ → ℕ) (n net : ℕ) → (net < n → rank net < top_rank rank n) → net < suc n → (net < n) ⊎ (n ≤ net) → rank net < max (top_rank rank n) (suc (rank n))
top_at_last rank n net before h (inl k) = let b = before k in omega arith
top_at_last rank n net before h (inr k) = let e : net ≡ n = omega arith in let r = ap rank e in omega arith

below_top : (rank : ℕ → ℕ) (n net : ℕ) → net < n → rank net < top_rank rank n
below_top rank zero net h = absurd (omega arith)
below_top rank (suc n) net h = top_at_last rank n net (below_top rank n net) h (cases_lt net n)

module _ (n : ℕ) (rank : ℕ → ℕ) (drive : List Bool → ℕ → Bool)
    (lower : (v u : List Bool) (net : ℕ) → net < n → ((m : ℕ) → rank m < rank net → bit v m ≡ bit u m) → drive v net ≡ drive u net) where
  abbrev pub set_anew : ℕ → List Bool
  set_anew zero = []
  set_anew (suc times) = tabulate n 0 (drive (set_anew times))

  length_set_anew : (times : ℕ) → length (set_anew times) ≤ n
  length_set_anew zero = omega arith
  length_set_anew (suc times) = let e = length_tabulate n 0 (drive (set_anew times)) in omega arith

  past_all : (times net : ℕ) → n ≤ net → bit (set_anew times) net ≡ false
  past_all times net h = get_or_past (set_anew times) net false (let l = length_set_anew times in omega arith)

  stays_at : (times net : ℕ) → ((m : ℕ) → rank m < rank net → bit (set_anew times) m ≡ bit (set_anew (suc times)) m)
      → (net < n) ⊎ (n ≤ net) → bit (set_anew (suc times)) net ≡ bit (set_anew (suc (suc times))) net
  stays_at times net below (inl k) =
      bit_tabulate n net (drive (set_anew times)) k
      ∙ lower (set_anew times) (set_anew (suc times)) net k below
      ∙ sym (bit_tabulate n net (drive (set_anew (suc times))) k)
  stays_at times net below (inr k) = past_all (suc times) net k ∙ sym (past_all (suc (suc times)) net k)

  -- nets of rank below the number of times keep their bit
  stays : (times net : ℕ) → rank net < times → bit (set_anew times) net ≡ bit (set_anew (suc times)) net
  stays zero net h = absurd (omega arith)
  stays (suc times) net h = stays_at times net (λ m l. stays times m (omega arith)) (cases_lt net n)

  pub solution : List Bool
  solution = set_anew (suc (top_rank rank n))

  pub solution_sized : length solution ≡ n
  unfolding solution
  solution_sized = length_tabulate n 0 (drive (set_anew (top_rank rank n)))

  pub solution_driven : (net : ℕ) → net < n → bit solution net ≡ drive solution net
  unfolding solution
  solution_driven net h =
      stays (suc (top_rank rank n)) net (let b = below_top rank n net h in omega arith)
      ∙ bit_tabulate n net (drive (set_anew (suc (top_rank rank n)))) h
