-- The marked places of a cone are a cone.
use Rattle.std.proofs.Common.{◌≡◌, ℕ, zero, suc, ◌+◌, ◌-◌, ◌<◌, ◌≤◌, Bool, true, false, List, [], ◌∷◌, length, slice_index, Contains, IsTrue, ap, subst, arith}
use Rattle.std.proofs.lemmas.Bool.{false≢true}
use Rattle.fault_secure.specs.Circuit.{Circuit, bit}
use Rattle.fault_secure.specs.Depends.{Depends}
use Rattle.fault_secure.proofs.DependsLemmas.{depends_there}
use Rattle.net_cones.specs.Cones.{DependsOnSome, MarksCone, marked_from, marked, IsCone}

-- a mark further on, seen from the place before
later : (mark : Bool) (at : ℕ) (marks : List Bool) (q : ℕ) → suc at ≤ q → (q < suc at + length marks) × IsTrue (bit marks (q - suc at))
    → (q < at + length (mark ∷ marks)) × IsTrue (bit (mark ∷ marks) (q - at))
later mark at marks q low (high, is) = let e : suc (q - suc at) ≡ q - at = omega arith in (omega arith, subst (λ k. IsTrue (bit (mark ∷ marks) k)) e is)

-- the marked places rise from the first place on, and are marked
marked_low : (at : ℕ) (marks : List Bool) (k : ℕ) → k < length (marked_from at marks) → at ≤ slice_index (marked_from at marks) k
marked_low at [] k within = absurd (omega arith)
marked_low at (true ∷ marks) zero within = omega arith
marked_low at (true ∷ marks) (suc k) within = let d : suc at ≤ slice_index (marked_from (suc at) marks) k = marked_low (suc at) marks k (omega arith) in omega arith
marked_low at (false ∷ marks) k within = let d : suc at ≤ slice_index (marked_from (suc at) marks) k = marked_low (suc at) marks k within in omega arith

marked_rising : (at : ℕ) (marks : List Bool) (i k : ℕ) → i < k → k < length (marked_from at marks) → slice_index (marked_from at marks) i < slice_index (marked_from at marks) k
marked_rising at [] i k low within = absurd (omega arith)
marked_rising at (true ∷ marks) i zero low within = absurd (omega arith)
marked_rising at (true ∷ marks) zero (suc k) low within = let d : suc at ≤ slice_index (marked_from (suc at) marks) k = marked_low (suc at) marks k (omega arith) in omega arith
marked_rising at (true ∷ marks) (suc i) (suc k) low within = marked_rising (suc at) marks i k (omega arith) (omega arith)
marked_rising at (false ∷ marks) i k low within = marked_rising (suc at) marks i k low within

-- a listed place is marked
marked_is : (at : ℕ) (marks : List Bool) (k : ℕ) → k < length (marked_from at marks)
    → (slice_index (marked_from at marks) k < at + length marks) × IsTrue (bit marks (slice_index (marked_from at marks) k - at))
marked_is at [] k within = absurd (omega arith)
marked_is at (true ∷ marks) zero within = (omega arith, (let e : at - at ≡ 0 = omega arith in ap (bit (true ∷ marks)) e))
marked_is at (true ∷ marks) (suc k) within = later true at marks (slice_index (marked_from (suc at) marks) k) (marked_low (suc at) marks k (omega arith)) (marked_is (suc at) marks k (omega arith))
marked_is at (false ∷ marks) k within = later false at marks (slice_index (marked_from (suc at) marks) k) (marked_low (suc at) marks k within) (marked_is (suc at) marks k within)

-- a marked place is listed
marked_has : (at : ℕ) (marks : List Bool) (q : ℕ) → q < length marks → IsTrue (bit marks q) → Contains (marked_from at marks) (at + q)
marked_has at [] q within is = absurd (omega arith)
marked_has at (true ∷ marks) zero within is = let e : at ≡ at + 0 = omega arith in (0, omega arith, e)
marked_has at (true ∷ marks) (suc q) within is = shift at (marked_from (suc at) marks) q (marked_has (suc at) marks q (omega arith) is)
  where
    shift : (at : ℕ) (xs : List ℕ) (q : ℕ) → Contains xs (suc at + q) → Contains (at ∷ xs) (at + suc q)
    shift at xs q (k, there, e) = let f : suc at + q ≡ at + suc q = omega arith in subst (Contains (at ∷ xs)) f (suc k, omega arith, e)
marked_has at (false ∷ marks) zero within is = absurd (false≢true is)
marked_has at (false ∷ marks) (suc q) within is = let f : suc at + q ≡ at + suc q = omega arith in subst (Contains (marked_from (suc at) marks)) f (marked_has (suc at) marks q (omega arith) is)

-- the marked places of a cone are a cone
pub marked_cone : (C : Circuit) (roots : List ℕ) (marks : List Bool) → MarksCone C roots marks → IsCone C roots (marked marks)
marked_cone C roots marks is = record {
  rising = λ i k low within. marked_rising 0 marks i k low within;
  within = λ k there. (let b : slice_index (marked marks) k < 0 + length marks = (marked_is 0 marks k there).0 in let e : length marks ≡ length C.nodes = is.sized in omega arith);
  sound = λ k there. sound k there;
  whole = λ q net root depends. whole q (depends_there C q net depends) (record { root = net; is_root = root; depends = depends });
}
  where
    sound : (k : ℕ) → k < length (marked marks) → (net : ℕ) × Contains roots net × Depends C (slice_index (marked marks) k) net
    sound k there =
        let at : (slice_index (marked marks) k < 0 + length marks) × IsTrue (bit marks (slice_index (marked marks) k - 0)) = marked_is 0 marks k there in
        let b : slice_index (marked marks) k < 0 + length marks = at.0 in
        let e : length marks ≡ length C.nodes = is.sized in
        let z : slice_index (marked marks) k - 0 ≡ slice_index (marked marks) k = omega arith in
        let some : DependsOnSome C (slice_index (marked marks) k) roots = (is.exact (slice_index (marked marks) k) (omega arith)).0 (subst (λ q. IsTrue (bit marks q)) z at.1) in
        (some.root, some.is_root, some.depends)

    whole : (q : ℕ) → q < length C.nodes → DependsOnSome C q roots → Contains (marked marks) q
    whole q there some =
        let e : length marks ≡ length C.nodes = is.sized in
        let z : 0 + q ≡ q = omega arith in
        subst (Contains (marked marks)) z (marked_has 0 marks q (omega arith) ((is.exact q there).1 some))
