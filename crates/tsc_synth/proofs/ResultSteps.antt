-- What holds at an Ok that went through a change of its error.
use Rattle.std.proofs.Common.{◌≡◌, true, false, Result, Ok, Err, IfOk, MatchResult, is_ok, refl, sym, ◌∙◌, subst, ap}

-- the value went through
pub passed : {A E D : Type 0} (r : Result A E) (s : Result A D) (x : A) (P : A → Type 0) (Q : E → Type 0) → IfOk r P → MatchResult r (λ y. s ≡ Ok y) Q → is_ok s ≡ is_ok r → s ≡ Ok x → P x
passed (Ok y) s x P Q holds is ok at = let e : y ≡ x = cc in subst P e holds
passed (Err e) s x P Q holds is ok at = absurd (never (sym (ap is_ok at) ∙ ok))
  where
    never : true ≡ false → ⊥
    never e = cc

-- and further
pub through : {A E D : Type 0} (r : Result A E) (s : Result A D) (P R : A → Type 0) (Q : E → Type 0) → ((x : A) → P x → R x) → IfOk r P → MatchResult r (λ y. s ≡ Ok y) Q → is_ok s ≡ is_ok r → IfOk s R
through r (Ok x) P R Q further holds is ok = further x (passed r (Ok x) x P Q holds is ok refl)
through r (Err d) P R Q further holds is ok = tt
