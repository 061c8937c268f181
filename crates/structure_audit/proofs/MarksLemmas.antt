-- The marks of the checker.
use Rattle.std.proofs.Common.{◌≡◌, ℕ, zero, suc, ◌<◌, ◌⊎◌, inl, inr, Bool, true, false, not, ◌&&◌, List, [], ◌∷◌, length, Contains, IsTrue, IsFalse, refl, sym, ◌∙◌, subst, arith}
use Rattle.std.proofs.lemmas.Bool.{false≢true}
use Rattle.fault_secure.specs.Circuit.{Circuit, bit}
use Rattle.fault_secure.specs.CodePlan.{CodePlan}
use Rattle.fault_secure.specs.Depends.{Depends, InChecker}
use Rattle.net_cones.specs.Cones.{DependsOnSome, MarksCone}
use Rattle.monitored_nets.specs.Marks.{MarksFunction}
use Rattle.structure_audit.specs.Marks.{MarksChecker}

-- what the rails depend on, without the function, is the checker
pub checker_marked : (N : Circuit) (P : CodePlan) (function rails marks : List Bool) → MarksFunction N P function → MarksCone N (P.rail1 ∷ (P.rail2 ∷ [])) rails
    → length marks ≡ length rails → ((q : ℕ) → q < length rails → bit marks q ≡ (bit rails q && not (bit function q))) → MarksChecker N P marks
checker_marked N P function rails marks inside cone sized is = record { sized = sized ∙ cone.sized; exact = λ q there. (from q there, to q there) }
  where
    split : (a b : Bool) → IsTrue (a && not b) → IsTrue a × IsFalse b
    split true false h = (refl, refl)
    split true true h = absurd (false≢true h)
    split false b h = absurd (false≢true h)

    join : (a b : Bool) → IsTrue a → (IsTrue b → ⊥) → IsTrue (a && not b)
    join true false h g = refl
    join true true h g = absurd (g refl)
    join false b h g = absurd (false≢true h)

    of_rail : (q net : ℕ) → Contains (P.rail1 ∷ (P.rail2 ∷ [])) net → Depends N q net → Depends N q P.rail1 ⊎ Depends N q P.rail2
    of_rail q net (zero, within, e) depends = inl (subst (Depends N q) (sym e) depends)
    of_rail q net (suc zero, within, e) depends = inr (subst (Depends N q) (sym e) depends)
    of_rail q net (suc (suc k), within, e) depends = absurd (omega arith)

    from : (q : ℕ) → q < length N.nodes → IsTrue (bit marks q) → InChecker N P q
    from q there marked =
        let there' : q < length rails = (let s = cone.sized in omega arith) in
        let both : IsTrue (bit rails q) × IsFalse (bit function q) = split (bit rails q) (bit function q) (sym (is q there') ∙ marked) in
        let some : DependsOnSome N q (P.rail1 ∷ (P.rail2 ∷ [])) = (cone.exact q there).0 both.0 in
        record {
          depends = of_rail q some.root some.is_root some.depends;
          outside = λ f. false≢true (sym both.1 ∙ (inside.exact q there).1 f);
        }

    rail : (q : ℕ) → Depends N q P.rail1 ⊎ Depends N q P.rail2 → DependsOnSome N q (P.rail1 ∷ (P.rail2 ∷ []))
    rail q (inl depends) = record { root = P.rail1; is_root = (0, omega arith, refl); depends = depends }
    rail q (inr depends) = record { root = P.rail2; is_root = (1, omega arith, refl); depends = depends }

    to : (q : ℕ) → q < length N.nodes → InChecker N P q → IsTrue (bit marks q)
    to q there inside' =
        let there' : q < length rails = (let s = cone.sized in omega arith) in
        is q there' ∙ join (bit rails q) (bit function q) ((cone.exact q there).1 (rail q inside'.depends)) (λ f. inside'.outside ((inside.exact q there).0 f))
