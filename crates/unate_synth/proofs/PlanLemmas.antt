-- Plans of an unordered code with as many checks as the code has for the outputs: the shape of such a code, and plans without latches.
use Rattle.std.proofs.Common.{◌≡◌, ℕ, ◌<◌, ◌≤◌, inl, Bool, List, [], length, refl, sym, subst, arith}
use Rattle.std.proofs.lemmas.List.FromFn.{length-range_with_len}
use Rattle.std.proofs.lemmas.List.Elements.{All-nil}
use Rattle.fault_secure.specs.declared.code.Code.{Code}
use Rattle.fault_secure.specs.declared.code.Code.TheVariants.{Parity, Berger, MOutOfN}
use Rattle.fault_secure.specs.CodePlan.{CodePlan, HasShape, HasWidth}
use Rattle.tsc_bits.specs.Counting.{ones}
use Rattle.code_checkers.specs.declared.word_sizes.WordSizes.{WordSizes}
use Rattle.code_checkers.specs.SizedWords.{HasPlan}
use Rattle.code_checkers.proofs.SizedWords.{plan_with, has_plan}

-- a plan without groups, and with as many checks as an unordered code has, has the code's shape
pub shape_of : (code : Code) (P : CodePlan) → P.groups ≡ [] → HasWidth code P.outputs (length P.checks) → HasShape code P
shape_of Parity P groups width = absurd width
shape_of Berger P groups width = (groups, width)
shape_of MOutOfN P groups width = (groups, width)

-- as many checks as the code has for the outputs
pub width_with : (S : WordSizes) (version : ℕ) (states : List (List Bool)) → HasWidth S.code S.outputs S.checks → HasWidth S.code S.outputs (length (plan_with S version states).checks)
width_with S version states width = subst (HasWidth S.code S.outputs) (sym (length-range_with_len 0 S.checks)) width

-- some plan has a word of these sizes, without latches
pub latchless : (S : WordSizes) → 0 < S.outputs → S.outputs ≤ 64 → HasWidth S.code S.outputs S.checks → S.latches ≡ 0 → S.weight ≡ 0 → HasPlan S []
latchless S some most width none weightless =
    has_plan S 1 [] (record {
      versioned = inl refl;
      some_output = some;
      most_outputs = most;
      shape = shape_of S.code (plan_with S 1 []) refl (width_with S 1 [] width);
      states = record {
        none = λ e. (refl, weightless);
        some = λ h. absurd (omega (arith, h, none));
        sized = All-nil (λ (state : List Bool). length state ≡ S.latches);
        weighed = All-nil (λ (state : List Bool). ones state ≡ S.weight);
        distinct = λ a b low high. absurd (omega (arith, high));
      };
    })
