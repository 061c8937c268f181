-- A net either realises a signal or has one first misfit.
use Rattle.std.proofs.Common.{◌≡◌, ℕ, ◌⊎◌, inl, inr, List, [], ◌∷◌, sym, ◌∙◌, ap, subst, arith}
use Rattle.tsc_cover.specs.Cover.{CoverTable}
use Rattle.tsc_cover.specs.Gates.{buf_cover, not_cover, and_cover, or_cover, xor_cover}
use Rattle.fault_secure.specs.Circuit.{Circuit, node, node_net}
use Rattle.fault_secure.specs.CodePlan.{CodePlan}
use Rattle.code_checkers.specs.Signal.{Signal}
use Rattle.code_checkers.specs.Signal.Signal.{Word, Buf, Not, And, Or, Xor}
use Rattle.code_checkers.specs.Checker.{rail1, rail2}
use Rattle.code_checkers.specs.Block.{IsGateNode, Realises, RailsRealise}
use Rattle.checker_audit.specs.FirstMisfit.{IsNoGateOfOne, IsNoGateOfTwo, IsFirstMisfit, IsFirstMismatch}

module _ (N : Circuit) (P : CodePlan) where
  -- a net is a gate over one list of nets
  same_reads : (net : ℕ) (cover : CoverTable) (reads others : List ℕ) → IsGateNode N P net cover reads → IsGateNode N P net cover others → reads ≡ others
  same_reads net cover reads others a b =
      let da : net ≡ node_net N a.driver = a.drives in
      let db : net ≡ node_net N b.driver = b.drives in
      let same : a.driver ≡ b.driver = omega arith in
      ap (λ n. n.reads) (sym a.is_gate ∙ ap (node N) same ∙ b.is_gate)

  head_same : (m n : ℕ) (ms ns : List ℕ) → m ∷ ms ≡ n ∷ ns → m ≡ n
  head_same m n ms ns e = cc

  second_same : (m n p q : ℕ) → m ∷ (p ∷ []) ≡ n ∷ (q ∷ []) → p ≡ q
  second_same m n p q e = cc

  same_pin : (net : ℕ) (cover : CoverTable) (m n : ℕ) → IsGateNode N P net cover (m ∷ []) → IsGateNode N P net cover (n ∷ []) → m ≡ n
  same_pin net cover m n a b = head_same m n [] [] (same_reads net cover (m ∷ []) (n ∷ []) a b)

  same_pins : (net : ℕ) (cover : CoverTable) (m p n q : ℕ) → IsGateNode N P net cover (m ∷ (p ∷ [])) → IsGateNode N P net cover (n ∷ (q ∷ [])) → (m ≡ n) × (p ≡ q)
  same_pins net cover m p n q a b =
      let e = same_reads net cover (m ∷ (p ∷ [])) (n ∷ (q ∷ [])) a b in
      (head_same m n (p ∷ []) (q ∷ []) e, second_same m n p q e)

  -- one pin: a gate whose operand realises has no first misfit
  One : CoverTable → (ℕ → ℕ → Type 0) → ℕ → ℕ → Type 0
  One cover Below net bad = ((bad ≡ net) × IsNoGateOfOne N P net cover) ⊎ ((m : ℕ) × IsGateNode N P net cover (m ∷ []) × Below m bad)

  Two : CoverTable → (ℕ → Type 0) → (ℕ → ℕ → Type 0) → (ℕ → ℕ → Type 0) → ℕ → ℕ → Type 0
  Two cover Real Left Right net bad =
      ((bad ≡ net) × IsNoGateOfTwo N P net cover)
      ⊎ ((m n : ℕ) × IsGateNode N P net cover (m ∷ (n ∷ [])) × (Left m bad ⊎ (Real m × Right n bad)))

  one_not : (cover : CoverTable) (Below : ℕ → ℕ → Type 0) (net bad m : ℕ) → IsGateNode N P net cover (m ∷ []) → (Below m bad → ⊥) → One cover Below net bad → ⊥
  unfolding One
  one_not cover Below net bad m is wrong (inl (e, none)) = none m is
  one_not cover Below net bad m is wrong (inr (n, other, below)) = wrong (subst (λ k. Below k bad) (same_pin net cover n m other is) below)

  two_not : (cover : CoverTable) (Real : ℕ → Type 0) (Left Right : ℕ → ℕ → Type 0) (net bad m n : ℕ) → IsGateNode N P net cover (m ∷ (n ∷ []))
      → (Left m bad → ⊥) → (Right n bad → ⊥) → Two cover Real Left Right net bad → ⊥
  unfolding Two
  two_not cover Real Left Right net bad m n is no_left no_right (inl (e, none)) = none m n is
  two_not cover Real Left Right net bad m n is no_left no_right (inr (k, j, other, inl left)) = no_left (subst (λ k. Left k bad) (same_pins net cover k j m n other is).0 left)
  two_not cover Real Left Right net bad m n is no_left no_right (inr (k, j, other, inr (real, right))) = no_right (subst (λ j. Right j bad) (same_pins net cover k j m n other is).1 right)

  -- a net that realises a signal has no misfit
  pub realises_fits : (s : Signal) (net bad : ℕ) → Realises N P s net → IsFirstMisfit N P s net bad → ⊥
  unfolding One Two
  realises_fits (Word place) net bad r (e, wrong) = wrong r
  realises_fits (Buf a) net bad r f = one_not buf_cover (IsFirstMisfit N P a) net bad r.0 r.1 (realises_fits a r.0 bad r.2) f
  realises_fits (Not a) net bad r f = one_not not_cover (IsFirstMisfit N P a) net bad r.0 r.1 (realises_fits a r.0 bad r.2) f
  realises_fits (And a b) net bad r f = two_not and_cover (Realises N P a) (IsFirstMisfit N P a) (IsFirstMisfit N P b) net bad r.0 r.1 r.2 (realises_fits a r.0 bad r.3) (realises_fits b r.1 bad r.4) f
  realises_fits (Or a b) net bad r f = two_not or_cover (Realises N P a) (IsFirstMisfit N P a) (IsFirstMisfit N P b) net bad r.0 r.1 r.2 (realises_fits a r.0 bad r.3) (realises_fits b r.1 bad r.4) f
  realises_fits (Xor a b) net bad r f = two_not xor_cover (Realises N P a) (IsFirstMisfit N P a) (IsFirstMisfit N P b) net bad r.0 r.1 r.2 (realises_fits a r.0 bad r.3) (realises_fits b r.1 bad r.4) f

  one_same : (cover : CoverTable) (Below : ℕ → ℕ → Type 0) (net bad other : ℕ) → ((m : ℕ) → Below m bad → Below m other → bad ≡ other)
      → One cover Below net bad → One cover Below net other → bad ≡ other
  unfolding One
  one_same cover Below net bad other same (inl (e, none)) (inl (f, _)) = e ∙ sym f
  one_same cover Below net bad other same (inl (e, none)) (inr (m, is, below)) = absurd (none m is)
  one_same cover Below net bad other same (inr (m, is, below)) (inl (e, none)) = absurd (none m is)
  one_same cover Below net bad other same (inr (m, is, below)) (inr (n, also, under)) = same m below (subst (λ k. Below k other) (same_pin net cover n m also is) under)

  two_same : (cover : CoverTable) (Real : ℕ → Type 0) (Left Right : ℕ → ℕ → Type 0) (net bad other : ℕ)
      → ((m : ℕ) → Left m bad → Left m other → bad ≡ other) → ((m : ℕ) → Right m bad → Right m other → bad ≡ other)
      → ((m c : ℕ) → Real m → Left m c → ⊥)
      → Two cover Real Left Right net bad → Two cover Real Left Right net other → bad ≡ other
  unfolding Two
  two_same cover Real Left Right net bad other left right wrong (inl (e, none)) (inl (f, _)) = e ∙ sym f
  two_same cover Real Left Right net bad other left right wrong (inl (e, none)) (inr (m, n, is, below)) = absurd (none m n is)
  two_same cover Real Left Right net bad other left right wrong (inr (m, n, is, below)) (inl (e, none)) = absurd (none m n is)
  two_same cover Real Left Right net bad other left right wrong (inr (m, n, is, inl a)) (inr (k, j, also, inl b)) = left m a (subst (λ k. Left k other) (same_pins net cover k j m n also is).0 b)
  two_same cover Real Left Right net bad other left right wrong (inr (m, n, is, inl a)) (inr (k, j, also, inr (real, b))) = absurd (wrong m bad (subst Real (same_pins net cover k j m n also is).0 real) a)
  two_same cover Real Left Right net bad other left right wrong (inr (m, n, is, inr (real, a))) (inr (k, j, also, inl b)) = absurd (wrong m other real (subst (λ k. Left k other) (same_pins net cover k j m n also is).0 b))
  two_same cover Real Left Right net bad other left right wrong (inr (m, n, is, inr (real, a))) (inr (k, j, also, inr (_, b))) = right n a (subst (λ j. Right j other) (same_pins net cover k j m n also is).1 b)

  -- the first misfit is one net
  pub one_misfit : (s : Signal) (net bad other : ℕ) → IsFirstMisfit N P s net bad → IsFirstMisfit N P s net other → bad ≡ other
  unfolding One Two
  one_misfit (Word place) net bad other (e, _) (f, _) = e ∙ sym f
  one_misfit (Buf a) net bad other f g = one_same buf_cover (IsFirstMisfit N P a) net bad other (λ m. one_misfit a m bad other) f g
  one_misfit (Not a) net bad other f g = one_same not_cover (IsFirstMisfit N P a) net bad other (λ m. one_misfit a m bad other) f g
  one_misfit (And a b) net bad other f g = two_same and_cover (Realises N P a) (IsFirstMisfit N P a) (IsFirstMisfit N P b) net bad other (λ m. one_misfit a m bad other) (λ m. one_misfit b m bad other) (λ m c. realises_fits a m c) f g
  one_misfit (Or a b) net bad other f g = two_same or_cover (Realises N P a) (IsFirstMisfit N P a) (IsFirstMisfit N P b) net bad other (λ m. one_misfit a m bad other) (λ m. one_misfit b m bad other) (λ m c. realises_fits a m c) f g
  one_misfit (Xor a b) net bad other f g = two_same xor_cover (Realises N P a) (IsFirstMisfit N P a) (IsFirstMisfit N P b) net bad other (λ m. one_misfit a m bad other) (λ m. one_misfit b m bad other) (λ m c. realises_fits a m c) f g

  -- rails that realise their gates have no mismatch
  pub realised_rails_match : (bad : ℕ) → RailsRealise N P → IsFirstMismatch N P bad → ⊥
  realised_rails_match bad rails (inl first) = realises_fits (rail1 P) P.rail1 bad rails.first first
  realised_rails_match bad rails (inr (_, second)) = realises_fits (rail2 P) P.rail2 bad rails.second second

  -- the first mismatch is one net
  pub one_mismatch : (bad other : ℕ) → IsFirstMismatch N P bad → IsFirstMismatch N P other → bad ≡ other
  one_mismatch bad other (inl f) (inl g) = one_misfit (rail1 P) P.rail1 bad other f g
  one_mismatch bad other (inl f) (inr (r, _)) = absurd (realises_fits (rail1 P) P.rail1 bad r f)
  one_mismatch bad other (inr (r, _)) (inl g) = absurd (realises_fits (rail1 P) P.rail1 other r g)
  one_mismatch bad other (inr (_, f)) (inr (_, g)) = one_misfit (rail2 P) P.rail2 bad other f g
