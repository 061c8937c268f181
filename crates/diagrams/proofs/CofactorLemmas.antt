-- Cofactors of cofactors, and of what operations make of two rows.
use Rattle.std.proofs.Common.{◌≡◌, ℕ, suc, ◌+◌, ◌-◌, ◌<◌, ◌≤◌, Bool, true, false, cond, nat_eq, inl, inr, List, [], ◌∷◌, ◌++◌, length, slice_index_or, replicate, drop, refl, sym, ap, ◌∙◌, arith, append_assoc, length-append, length-drop}
use Rattle.std.proofs.lemmas.Bool.{cases_lt}
use Rattle.std.proofs.lemmas.List.{drop-append-le}
use Rattle.std.proofs.lemmas.Slice.{drop-append-drop}
use Rattle.std.proofs.Math.Logic.{⊎_elim}
use Rattle.std.proofs.Math.Seq.{drop-append-add}
use Rattle.std.proofs.Math.ListN.{length-replicate}
use Rattle.diagrams.specs.declared.decision.Decision.{Decision}
use Rattle.diagrams.specs.declared.memo.Operation.{Operation}
use Rattle.diagrams.specs.Decisions.{row, step, walk, value, IsAt, IsDiagram}
use Rattle.diagrams.specs.Cofactors.{Function, Same, fixed, IsCofactor, IsCofactorOfOne}
use Rattle.diagrams.specs.Operations.{combined}
use Rattle.diagrams.specs.Building.{combined_rows, choice}
use Rattle.diagrams.proofs.Walks.{step-at, decides_at, IsAt-step, value-at, value-step, value-prefix}
use Rattle.diagrams.proofs.Canonical.{canonical}

-- a function with the same values is a cofactor, by no bits
pub IsCofactor-same : (inputs : ℕ) (f g : Function) → Same inputs g f → IsCofactor inputs f g
IsCofactor-same inputs f g same = record { bits = []; short = omega arith; comes = record { at = λ x sized. same.at x sized } }

-- an input whose first bits are fixed has as many bits
length-fixed : (inputs : ℕ) (bits x : List Bool) → length bits ≤ inputs → length x ≡ inputs → length (bits ++ drop (length bits) x) ≡ inputs
length-fixed inputs bits x short sized = omega (arith, length-append bits (drop (length bits) x), length-drop (length bits) x)

-- a cofactor of a cofactor is one
pub cofactor_of_cofactor : (inputs : ℕ) (f g h : Function) → IsCofactor inputs f g → IsCofactor inputs g h → IsCofactor inputs f h
cofactor_of_cofactor inputs f g h a b =
    let m = length a.bits in
    let n = length b.bits in
    let both : (x : List Bool) → length x ≡ inputs → h x ≡ f (a.bits ++ drop m (b.bits ++ drop n x)) =
    λ x sized. b.comes.at x sized ∙ a.comes.at (b.bits ++ drop n x) (length-fixed inputs b.bits x b.short sized) in
    ⊎_elim
    (λ fewer. record {
      bits = a.bits;
      short = a.short;
      comes = record {
        at = λ x sized.
            both x sized ∙ ap (λ rest. f (a.bits ++ rest)) (drop-append-drop n x b.bits m (omega arith) refl);
      };
    })
    (λ more. let bits = a.bits ++ drop m b.bits in
    let long : length bits ≡ n = omega (arith, length-append a.bits (drop m b.bits), length-drop m b.bits) in
    record {
      bits = bits;
      short = let s = b.short in omega arith;
      comes = record {
        at = λ x sized.
            both x sized ∙ (ap (λ rest. f (a.bits ++ rest)) (drop-append-le m b.bits (drop n x) more)
            ∙ (ap f (sym (append_assoc a.bits (drop m b.bits) (drop n x))) ∙ ap (λ k. f (bits ++ drop k x)) (sym long)));
      };
    })
    (cases_lt n m)

-- a cofactor of a cofactor of one of these functions is a cofactor of one of them
pub of_one-cofactor : (inputs : ℕ) (fs : List Function) (f g : Function) → IsCofactorOfOne inputs fs f → IsCofactor inputs f g → IsCofactorOfOne inputs fs g
of_one-cofactor inputs [] f g none c = absurd none
of_one-cofactor inputs (e ∷ fs) f g (inl first) c = inl (cofactor_of_cofactor inputs e f g first c)
of_one-cofactor inputs (e ∷ fs) f g (inr later) c = inr (of_one-cofactor inputs fs f g later c)

-- a function that is the same as a cofactor of one of some functions is such a cofactor too
pub of_one-same : (inputs : ℕ) (fs : List Function) (f g : Function) → IsCofactorOfOne inputs fs f → Same inputs g f → IsCofactorOfOne inputs fs g
of_one-same inputs fs f g one same = of_one-cofactor inputs fs f g one (IsCofactor-same inputs f g same)

module _ (inputs : ℕ) (rows : List Decision) (D : IsDiagram inputs rows) where
  -- zeros up to an input, and a bit for it
  abbrev up_to : ℕ → Bool → List Bool
  up_to level b = replicate level false ++ b ∷ []

  length-up_to : (level : ℕ) (b : Bool) → length (up_to level b) ≡ suc level
  length-up_to level b = omega (arith, length-append (replicate level false) (b ∷ []), length-replicate level false)

  -- a step is a cofactor
  value-fixed : (level k : ℕ) (b : Bool) (x : List Bool) → IsAt rows level k → level < inputs →
      value rows (step rows level k b) x ≡ fixed (up_to level b) (value rows k) x
  value-fixed level k b x at inside =
      value-at rows (suc level) (step rows level k b) x (IsAt-step inputs rows D level k b at inside)
      ∙ (sym (value-prefix rows level k (replicate level false) b (drop (suc level) x) at (length-replicate level false))
      ∙ ap (λ n. value rows k (up_to level b ++ drop n x)) (sym (length-up_to level b)))

  -- what an operation makes of two steps is a cofactor of what it makes of the rows
  pub half_is_cofactor : (operation : Operation) (level f g : ℕ) (b : Bool) → IsAt rows level f → IsAt rows level g → level < inputs →
      IsCofactor inputs (combined_rows operation rows f g) (combined_rows operation rows (step rows level f b) (step rows level g b))
  half_is_cofactor operation level f g b at_f at_g inside = record {
    bits = up_to level b;
    short = omega (arith, length-up_to level b);
    comes = record {
      at = λ x sized.
          ap (λ v. combined operation v (value rows (step rows level g b) x)) (value-fixed level f b x at_f inside)
          ∙ ap (λ v. combined operation (fixed (up_to level b) (value rows f) x) v) (value-fixed level g b x at_g inside);
    };
  }

  -- the choice between what an operation makes of the steps is what it makes of the rows
  pub choice-combined : (operation : Operation) (level f g low high : ℕ) → IsAt rows level f → IsAt rows level g → level < inputs →
      Same inputs (value rows low) (combined_rows operation rows (step rows level f false) (step rows level g false)) →
      Same inputs (value rows high) (combined_rows operation rows (step rows level f true) (step rows level g true)) →
      Same inputs (choice rows level low high) (combined_rows operation rows f g)
  choice-combined operation level f g low high at_f at_g inside is_low is_high = record {
    at = λ x sized.
        let by_bit : (b : Bool) → cond b (value rows high x) (value rows low x) ≡ combined operation (value rows (step rows level f b) x) (value rows (step rows level g b) x) =
        λ b. elim b as (λ t. cond t (value rows high x) (value rows low x) ≡ combined operation (value rows (step rows level f t) x) (value rows (step rows level g t) x))
        [ true ↦ is_high.at x sized | false ↦ is_low.at x sized ] in
        by_bit (slice_index_or x level false)
        ∙ (ap (λ v. combined operation v (value rows (step rows level g (slice_index_or x level false)) x)) (sym (value-step inputs rows D level f x at_f inside sized))
        ∙ ap (λ v. combined operation (value rows f x) v) (sym (value-step inputs rows D level g x at_g inside sized)));
  }

  drop-up_to : (level later : ℕ) (b : Bool) (z : List Bool) → level < later → drop later (up_to level b ++ z) ≡ drop (later - suc level) z
  drop-up_to level later b z below =
      let e : later ≡ length (up_to level b) + (later - suc level) = omega (arith, length-up_to level b) in
      ap (λ n. drop n (up_to level b ++ z)) e ∙ drop-append-add (up_to level b) z (later - suc level)

  -- a row whose function doesn't look at the inputs before a level decides none of them
  pub IsAt-from_value : (level k : ℕ) → k < length rows → level ≤ inputs →
      ((x y : List Bool) → length x ≡ inputs → length y ≡ inputs → drop level x ≡ drop level y → value rows k x ≡ value rows k y) → IsAt rows level k
  IsAt-from_value level k node inside looks = ⊎_elim
      (λ below.
      let l = (row rows k).input in
      let d = (decides_at inputs rows D k node (omega arith)).1 in
      let at : IsAt rows l k = record { node = node; above = omega arith } in
      let ends : (b : Bool) (z : List Bool) → value rows k (up_to l b ++ z) ≡ nat_eq (walk rows (suc l) (cond b (row rows k).high (row rows k).low) z) 1 =
      λ b z. value-prefix rows l k (replicate l false) b z at (length-replicate l false) ∙ ap (λ j. nat_eq (walk rows (suc l) j z) 1) (step-at rows l k b refl) in
      let length_of : (b : Bool) (z : List Bool) → length z ≡ inputs - suc l → length (up_to l b ++ z) ≡ inputs =
      λ b z sized. omega (arith, length-append (up_to l b) z, length-up_to l b) in
      absurd (d.differ (canonical inputs rows D (inputs - suc l) (suc l) _ _ (omega arith) d.low d.high (λ z sized.
      sym (ends false z) ∙ (looks (up_to l false ++ z) (up_to l true ++ z) (length_of false z sized) (length_of true z sized)
      (drop-up_to l level false z below ∙ sym (drop-up_to l level true z below)) ∙ ends true z)))))
      (λ above. record { node = node; above = above })
      (cases_lt (row rows k).input level)

  -- what an operation makes of rows that decide no input before a level has a row that decides none
  pub IsAt-combined : (operation : Operation) (level f g r : ℕ) → level ≤ inputs → IsAt rows level f → IsAt rows level g → r < length rows →
      Same inputs (value rows r) (combined_rows operation rows f g) → IsAt rows level r
  IsAt-combined operation level f g r inside at_f at_g node is = IsAt-from_value level r node inside (λ x y sized_x sized_y same.
      let agree : (k : ℕ) → IsAt rows level k → value rows k x ≡ value rows k y =
      λ k at. value-at rows level k x at ∙ (ap (λ z. nat_eq (walk rows level k z) 1) same ∙ sym (value-at rows level k y at)) in
      is.at x sized_x ∙ (ap (λ v. combined operation v (value rows g x)) (agree f at_f) ∙ (ap (λ v. combined operation (value rows f y) v) (agree g at_g) ∙ sym (is.at y sized_y))))
