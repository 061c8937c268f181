-- The least input: at each level 0, unless that leads to the constant that never has the value.
use Rattle.std.proofs.Common.{◌≡◌, ℕ, zero, suc, ◌+◌, ◌-◌, ◌<◌, Bool, true, false, not, nat_eq, List, [], ◌∷◌, ◌++◌, length, refl, sym, ap, ◌∙◌, subst, arith, append_assoc}
use Rattle.std.proofs.lemmas.Bool.{eqb-true, eqb-false, cases_Bool, cases_eq}
use Rattle.std.proofs.lemmas.List.{drop_all}
use Rattle.std.proofs.Math.Logic.{⊎_elim}
use Rattle.diagrams.specs.declared.decision.Decision.{Decision}
use Rattle.diagrams.specs.Decisions.{row, step, walk, value, IsAt, IsDiagram}
use Rattle.diagrams.specs.Least.{IsUpTo, IsLeast, dead, least_from}
use Rattle.diagrams.proofs.Walks.{step-at, step-past, decides_at, constant_at, IsAt-step, skip}
use Rattle.diagrams.proofs.Shortcuts.{value-constant, constant_is_at}

-- a constant that isn't dead has the value
alive_constant : (wanted : Bool) (k : ℕ) → k < 2 → (k ≡ dead wanted → ⊥) → nat_eq k 1 ≡ wanted
alive_constant true zero small alive = absurd (alive refl)
alive_constant true (suc zero) small alive = refl
alive_constant false zero small alive = refl
alive_constant false (suc zero) small alive = absurd (alive refl)
alive_constant wanted (suc (suc k)) small alive = absurd (omega arith)

dead_value : (wanted : Bool) → nat_eq (dead wanted) 1 ≡ not wanted
dead_value true = refl
dead_value false = refl

dead_small : (wanted : Bool) → dead wanted < 2
dead_small true = omega arith
dead_small false = omega arith

never : (wanted : Bool) → not wanted ≡ wanted → ⊥
never true e = cc
never false e = cc

module _ (inputs : ℕ) (rows : List Decision) (D : IsDiagram inputs rows) (wanted : Bool) where
  -- the bits are the least, of so many from a level on, with which a walk from the row ends at the value
  record IsLeastFrom (n level k : ℕ) (x : List Bool) : Type 0 where
    sized : length x ≡ n
    has : nat_eq (walk rows level k x) 1 ≡ wanted
    least : (y : List Bool) → length y ≡ n → nat_eq (walk rows level k y) 1 ≡ wanted → IsUpTo x y

  -- a walk from the dead constant stays there
  stays_dead : (level : ℕ) (y : List Bool) → level + length y ≡ inputs → nat_eq (walk rows level (dead wanted) y) 1 ≡ wanted → ⊥
  stays_dead level y e h =
      let at = constant_is_at inputs rows inputs (dead wanted) D (dead_small wanted) (omega arith) in
      let still = skip rows (length y) level inputs (dead wanted) y e at ∙ ap (walk rows inputs (dead wanted)) (drop_all (length y) y (omega arith)) in
      never wanted (sym (dead_value wanted) ∙ (sym (ap (λ j. nat_eq j 1) still) ∙ h))

  zero_first : (n level k : ℕ) (x : List Bool) → IsLeastFrom n (suc level) (step rows level k false) x → IsLeastFrom (suc n) level k (false ∷ x)
  zero_first n level k x rest = record { sized = ap suc rest.sized; has = rest.has; least = up }
    where
      up : (y : List Bool) → length y ≡ suc n → nat_eq (walk rows level k y) 1 ≡ wanted → IsUpTo (false ∷ x) y
      up [] sized h = absurd (omega arith)
      up (false ∷ ys) sized h = rest.least ys (omega arith) h
      up (true ∷ ys) sized h = tt

  one_first : (n level k : ℕ) (x : List Bool) → suc level + n ≡ inputs → step rows level k false ≡ dead wanted → IsLeastFrom n (suc level) (step rows level k true) x → IsLeastFrom (suc n) level k (true ∷ x)
  one_first n level k x e low rest = record { sized = ap suc rest.sized; has = rest.has; least = up }
    where
      up : (y : List Bool) → length y ≡ suc n → nat_eq (walk rows level k y) 1 ≡ wanted → IsUpTo (true ∷ x) y
      up [] sized h = absurd (omega arith)
      up (false ∷ ys) sized h = absurd (stays_dead (suc level) ys (omega arith) (subst (λ (j : ℕ). nat_eq (walk rows (suc level) j ys) 1 ≡ wanted) low h))
      up (true ∷ ys) sized h = rest.least ys (omega arith) h

  -- where the low end is dead, the high one isn't
  high_alive : (level k : ℕ) → level < inputs → IsAt rows level k → (k ≡ dead wanted → ⊥) → step rows level k false ≡ dead wanted → step rows level k true ≡ dead wanted → ⊥
  high_alive level k inside at alive low high = ⊎_elim
      (λ here. (decides_at inputs rows D k at.node (omega (arith, here))).1.differ
      (sym (step-at rows level k false here) ∙ (low ∙ (sym high ∙ step-at rows level k true here))))
      (λ past. alive (sym (step-past rows level k false past) ∙ low))
      (cases_eq (row rows k).input level)

  least_is : (n level k : ℕ) → level + n ≡ inputs → IsAt rows level k → (k ≡ dead wanted → ⊥) → IsLeastFrom n level k (least_from rows (dead wanted) n level k)
  least_is zero level k e at alive =
      let last : level ≡ inputs = omega arith in
      record {
        sized = refl;
        has = alive_constant wanted k (constant_at inputs rows D k (subst (λ (l : ℕ). IsAt rows l k) last at)) alive;
        least = λ y sized h. tt;
      }
  least_is (suc n) level k e at alive =
      let inside : level < inputs = omega arith in
      let bits : Bool → List Bool = λ b. b ∷ least_from rows (dead wanted) n (suc level) (step rows level k b) in
      ⊎_elim
      (λ low. let is = eqb-true (step rows level k false) (dead wanted) low in
      subst (λ (b : Bool). IsLeastFrom (suc n) level k (bits b)) (sym low)
      (one_first n level k _ (omega arith) is
      (least_is n (suc level) (step rows level k true) (omega arith) (IsAt-step inputs rows D level k true at inside) (high_alive level k inside at alive is))))
      (λ low. subst (λ (b : Bool). IsLeastFrom (suc n) level k (bits b)) (sym low)
      (zero_first n level k _
      (least_is n (suc level) (step rows level k false) (omega arith) (IsAt-step inputs rows D level k false at inside) (eqb-false (step rows level k false) (dead wanted) low))))
      (cases_Bool (nat_eq (step rows level k false) (dead wanted)))

  pub least_of_row : (k : ℕ) (x : List Bool) → k < length rows → (k ≡ dead wanted → ⊥) → x ≡ least_from rows (dead wanted) inputs 0 k → IsLeast inputs (value rows k) wanted x
  least_of_row k x node alive same =
      let is = least_is inputs 0 k (omega arith) (record { node = node; above = omega arith }) alive in
      let least : IsLeast inputs (value rows k) wanted (least_from rows (dead wanted) inputs 0 k) = record { sized = is.sized; has = is.has; least = is.least } in
      subst (λ (bits : List Bool). IsLeast inputs (value rows k) wanted bits) (sym same) least

  pub dead_has_none : (k : ℕ) (x : List Bool) → k ≡ dead wanted → length x ≡ inputs → value rows k x ≡ not wanted
  dead_has_none k x is sized = ap (λ j. value rows j x) is ∙ (value-constant inputs rows (dead wanted) x D (dead_small wanted) sized ∙ dead_value wanted)

-- one bit more of a walk
pub path_more : (rows : List Decision) (end inputs level place next : ℕ) (bits more all : List Bool) (b : Bool) → level < inputs → b ≡ nat_eq (step rows level place false) end → next ≡ step rows level place b →
    more ≡ bits ++ b ∷ [] → bits ++ least_from rows end (inputs - level) level place ≡ all → more ++ least_from rows end (inputs - (level + 1)) (level + 1) next ≡ all
path_more rows end inputs level place next bits more all b inside bit step_is push before =
    let e : inputs - level ≡ suc (inputs - (level + 1)) = omega arith in
    let n = inputs - (level + 1) in
    let s : level + 1 ≡ suc level = omega arith in
    ap (λ xs. xs ++ least_from rows end n (level + 1) next) push
    ∙ (append_assoc bits (b ∷ []) (least_from rows end n (level + 1) next)
    ∙ (ap (λ l. bits ++ (b ∷ least_from rows end n l next)) s
    ∙ (ap (λ j. bits ++ (b ∷ least_from rows end n (suc level) j)) step_is
    ∙ (ap (λ t. bits ++ (t ∷ least_from rows end n (suc level) (step rows level place t))) bit
    ∙ (ap (λ m. bits ++ least_from rows end m level place) (sym e) ∙ before)))))
