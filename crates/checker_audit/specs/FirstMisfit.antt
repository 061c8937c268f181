-- The first net that doesn't fit its gate: where a walk over the rails of the stated checker leaves the netlist's own.
use Rattle.std.specs.Prelude.{◌≡◌, ℕ, ◌⊎◌, [], ◌∷◌}
use Rattle.tsc_cover.specs.Cover.{CoverTable}
use Rattle.tsc_cover.specs.Gates.{buf_cover, not_cover, and_cover, or_cover, xor_cover}
use Rattle.fault_secure.specs.Circuit.{Circuit}
use Rattle.fault_secure.specs.CodePlan.{CodePlan}
use Rattle.code_checkers.specs.Signal.{Signal}
use Rattle.code_checkers.specs.Signal.Signal.{Word, Buf, Not, And, Or, Xor}
use Rattle.code_checkers.specs.Checker.{rail1, rail2}
use Rattle.code_checkers.specs.Block.{IsGateNode, Realises}

-- the net is no gate of one pin with this cover
abbrev pub IsNoGateOfOne : Circuit → CodePlan → ℕ → CoverTable → Type 0
IsNoGateOfOne N P net cover = (m : ℕ) → IsGateNode N P net cover (m ∷ []) → ⊥

-- the net is no gate of two pins with this cover
abbrev pub IsNoGateOfTwo : Circuit → CodePlan → ℕ → CoverTable → Type 0
IsNoGateOfTwo N P net cover = (m n : ℕ) → IsGateNode N P net cover (m ∷ (n ∷ [])) → ⊥

-- the first net of the walk over a signal, from this net, that doesn't fit its gate: a net comes before the nets at its pins,
-- and these come from the left
abbrev pub IsFirstMisfit : Circuit → CodePlan → Signal → ℕ → ℕ → Type 0
IsFirstMisfit N P (Word place) net bad = (bad ≡ net) × (Realises N P (Word place) net → ⊥)
IsFirstMisfit N P (Buf a) net bad =
    ((bad ≡ net) × IsNoGateOfOne N P net buf_cover)
    ⊎ ((m : ℕ) × IsGateNode N P net buf_cover (m ∷ []) × IsFirstMisfit N P a m bad)
IsFirstMisfit N P (Not a) net bad =
    ((bad ≡ net) × IsNoGateOfOne N P net not_cover)
    ⊎ ((m : ℕ) × IsGateNode N P net not_cover (m ∷ []) × IsFirstMisfit N P a m bad)
IsFirstMisfit N P (And a b) net bad =
    ((bad ≡ net) × IsNoGateOfTwo N P net and_cover)
    ⊎ ((m n : ℕ) × IsGateNode N P net and_cover (m ∷ (n ∷ [])) × (IsFirstMisfit N P a m bad ⊎ (Realises N P a m × IsFirstMisfit N P b n bad)))
IsFirstMisfit N P (Or a b) net bad =
    ((bad ≡ net) × IsNoGateOfTwo N P net or_cover)
    ⊎ ((m n : ℕ) × IsGateNode N P net or_cover (m ∷ (n ∷ [])) × (IsFirstMisfit N P a m bad ⊎ (Realises N P a m × IsFirstMisfit N P b n bad)))
IsFirstMisfit N P (Xor a b) net bad =
    ((bad ≡ net) × IsNoGateOfTwo N P net xor_cover)
    ⊎ ((m n : ℕ) × IsGateNode N P net xor_cover (m ∷ (n ∷ [])) × (IsFirstMisfit N P a m bad ⊎ (Realises N P a m × IsFirstMisfit N P b n bad)))

-- the first net that doesn't fit its gate, of the walk over the first rail and then the second
abbrev pub IsFirstMismatch : Circuit → CodePlan → ℕ → Type 0
IsFirstMismatch N P bad =
    IsFirstMisfit N P (rail1 P) P.rail1 bad
    ⊎ (Realises N P (rail1 P) P.rail1 × IsFirstMisfit N P (rail2 P) P.rail2 bad)
