-- What the sizes of a word are, since some well-made plan has them.
use Rattle.std.proofs.Common.{◌≡◌, ℕ, ◌<◌, ◌≤◌, Bool, List, [], length, All, refl, sym, ◌∙◌, ap, subst}
use Rattle.std.specs.List.{range_with_len}
use Rattle.std.proofs.lemmas.List.FromFn.{length-range_with_len}
use Rattle.fault_secure.specs.declared.code.Code.{Code}
use Rattle.fault_secure.specs.declared.code.Code.TheVariants.{Parity, MOutOfN}
use Rattle.fault_secure.specs.CodePlan.{CodePlan, HasShape, IsWellMade}
use Rattle.code_checkers.specs.declared.word_sizes.WordSizes.{WordSizes}
use Rattle.code_checkers.specs.Checker.{sizes_of, pairs_over}
use Rattle.code_checkers.specs.GateList.{GateList, IsCheckerOf, IsWordChecker}
use Rattle.code_checkers.specs.SizedWords.{HasPlan}
use Rattle.code_checkers.proofs.Decides.{pairs_of-some}

module _ (S : WordSizes) (groups : List (List ℕ)) (h : HasPlan S groups) where
  pub some_output : 0 < S.outputs
  some_output = subst (λ (T : WordSizes). 0 < T.outputs) h.sizes h.well_made.some_output

  pub most_outputs : S.outputs ≤ 64
  most_outputs = subst (λ (T : WordSizes). T.outputs ≤ 64) h.sizes h.well_made.most_outputs

  shape : (code : Code) → S.code ≡ code → HasShape code h.plan
  shape code is = subst (λ (c : Code). HasShape c h.plan) (ap (λ (T : WordSizes). T.code) h.sizes ∙ is) h.well_made.shape

  pub filled : S.code ≡ Parity → All (λ group. 0 < length group) groups
  filled is = subst (All (λ (group : List ℕ). 0 < length group)) h.grouped (shape Parity is).filled

  pub as_many : S.code ≡ MOutOfN → S.checks ≡ S.outputs
  as_many is = subst (λ (T : WordSizes). T.checks ≡ T.outputs) h.sizes (shape MOutOfN is).1

  pub none : S.latches ≡ 0 → S.weight ≡ 0
  none = subst (λ (T : WordSizes). T.latches ≡ 0 → T.weight ≡ 0) h.sizes (λ e. (h.well_made.states.none e).1)

  pub some : 0 < S.latches → (0 < S.weight) × (S.weight < S.latches)
  some = subst (λ (T : WordSizes). 0 < T.latches → (0 < T.weight) × (T.weight < T.latches)) h.sizes (λ lt. let all = h.well_made.states.some lt in (all.1, all.2))

  pub some_pairs : 0 < length (pairs_over S groups)
  some_pairs =
      subst (λ (T : WordSizes). 0 < length (pairs_over T groups)) h.sizes
      (subst (λ (places : List (List ℕ)). 0 < length (pairs_over (sizes_of h.plan) places)) h.grouped (pairs_of-some h.plan h.well_made))

-- the checker of a word is that of each plan whose word has these sizes, and which has these groups
pub same_sizes : (P : CodePlan) (S : WordSizes) → P.code ≡ S.code → P.outputs ≡ S.outputs → length P.checks ≡ S.checks → P.latches ≡ S.latches → P.weight ≡ S.weight → sizes_of P ≡ S
same_sizes P S code outputs checks latches weight = by S.code S.outputs S.checks S.latches S.weight code outputs checks latches weight
  where
    by : (c : Code) (o k l w : ℕ) → P.code ≡ c → P.outputs ≡ o → length P.checks ≡ k → P.latches ≡ l → P.weight ≡ w → sizes_of P ≡ record { code = c; outputs = o; checks = k; latches = l; weight = w }
    by c o k l w code outputs checks latches weight = cc

-- the checker of a word's sizes and groups is the checker of each plan with these sizes and groups
pub checker_of : (S : WordSizes) (groups : List (List ℕ)) (P : CodePlan) (made : GateList) → sizes_of P ≡ S → P.groups ≡ groups → IsWordChecker S groups made → IsCheckerOf P made
checker_of S groups P made sizes grouped is =
    subst (λ (T : WordSizes). IsWordChecker T P.groups made) (sym sizes) (subst (λ (places : List (List ℕ)). IsWordChecker S places made) (sym grouped) is)

-- a plan without groups, whose word has these sizes
abbrev pub plan_with : WordSizes → ℕ → List (List Bool) → CodePlan
plan_with S version states = record {
  version = version;
  code = S.code;
  outputs = S.outputs;
  checks = range_with_len 0 S.checks;
  groups = [];
  latches = S.latches;
  weight = S.weight;
  states = states;
  rail1 = 0;
  rail2 = 0;
}

-- sizes without groups have a plan, where the plan that is made of them is well made
pub has_plan : (S : WordSizes) (version : ℕ) (states : List (List Bool)) → IsWellMade (plan_with S version states) → HasPlan S []
has_plan S version states well = record {
  plan = plan_with S version states;
  well_made = well;
  sizes = same_sizes (plan_with S version states) S refl refl (length-range_with_len 0 S.checks) refl refl;
  grouped = refl;
}
