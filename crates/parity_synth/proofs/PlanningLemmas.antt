-- A parity plan over grouped outputs is well made; first-fit groups are grouped.
use Rattle.std.proofs.Common.{◌≡◌, ℕ, ◌<◌, ◌≤◌, inl, if◌then◌else◌, Bool, List, [], length, All, sym, ◌∙◌, ap, subst, arith}
use Rattle.std.proofs.lemmas.Bool.{lt-ltb}
use Rattle.std.proofs.lemmas.List.Elements.{All-nil}
use Rattle.fault_secure.specs.declared.code.Code.TheVariants.{Parity}
use Rattle.fault_secure.specs.Circuit.{Circuit}
use Rattle.fault_secure.specs.CodePlan.{CodePlan, IsWellMade, HasShape}
use Rattle.tsc_bits.specs.Counting.{ones}
use Rattle.parity_code.specs.FirstFit.{AreFirstFit, share}
use Rattle.parity_code.proofs.FirstFitLemmas.{first_fit-filled, first_fit-within, first_fit-count}
use Rattle.parity_synth.specs.Planning.{AreGrouped}

pub plan_well_made : (P : CodePlan) → P.version ≡ 1 → P.code ≡ Parity → 0 < P.outputs → P.outputs ≤ 64 → length P.checks ≡ length P.groups → AreGrouped P.outputs P.groups
    → P.latches ≡ 0 → P.weight ≡ 0 → P.states ≡ [] → IsWellMade P
plan_well_made P version code some most paired grouped latches weight states = record {
  versioned = inl version;
  some_output = some;
  most_outputs = most;
  shape = subst (λ code. HasShape code P) (sym code) (record { paired = paired; filled = grouped.filled; within = grouped.within; once = grouped.once });
  states = record {
    none = λ e. (states, weight);
    some = λ h. absurd (omega arith);
    sized = subst (All (λ state. length state ≡ P.latches)) (sym states) (All-nil (λ state. length state ≡ P.latches));
    weighed = subst (All (λ state. ones state ≡ P.weight)) (sym states) (All-nil (λ state. ones state ≡ P.weight));
    distinct = λ a b low high. absurd (nothing b (subst (λ xs. b < length xs) states high));
  };
}
  where
    nothing : (b : ℕ) → b < length {A = List Bool} [] → ⊥
    nothing b h = omega arith

-- first-fit groups aren't empty, and each output stands in them exactly once
pub first_fit_grouped : (C : Circuit) (groups : List (List ℕ)) → AreFirstFit C groups → AreGrouped (length C.outputs) groups
first_fit_grouped C groups fit = subst (AreGrouped (length C.outputs)) (sym fit.fit) (record {
  filled = first_fit-filled (share fit.cones) (length C.outputs);
  within = first_fit-within (share fit.cones) (length C.outputs) (length C.outputs) (omega arith);
  once = λ place there. first_fit-count (share fit.cones) place (length C.outputs) ∙ ap (λ b. if b then 1 else 0) (lt-ltb place (length C.outputs) there);
})
