-- A walk along a list that takes one member after another from the front of what is left.
use Rattle.std.proofs.Common.{◌≡◌, ℕ, suc, ◌+◌, ◌-◌, ◌<◌, ◌≤◌, List, ◌∷◌, length, drop, get_or, sym, ap, ◌∙◌, subst, arith}
use Rattle.std.proofs.Math.Seq.{drop-cons}

module _ {X : Type 0} (all rest behind : List X) (x : X) (is : rest ≡ x ∷ behind) (sized : length rest ≤ length all) (walked : drop (length all - length rest) all ≡ rest) where
  -- the place of the member that is taken
  abbrev place : ℕ
  place = length all - length rest

  one_less : length rest ≡ length behind + 1
  one_less = omega (arith, ap length is)

  pub within : place < length all
  within = omega (arith, one_less)

  pub next : length all - length behind ≡ place + 1
  next = omega (arith, one_less)

  split : (d : X) → get_or all place d ∷ drop (suc place) all ≡ x ∷ behind
  split d = sym (drop-cons all place d within) ∙ walked ∙ is

  -- it stands there, and what is after it is left
  pub taken : (d : X) → get_or all place d ≡ x
  taken d = ap (λ l. get_or l 0 d) (split d)

  pub left : X → drop (length all - length behind) all ≡ behind
  left d =
      let after : length all - length behind ≡ suc place = omega (arith, one_less) in
      subst (λ n. drop n all ≡ behind) (sym after) (ap (drop 1) (split d))
