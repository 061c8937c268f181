-- The bound on covers: how many checks and latches there are, and how large a machine's netlist gets.
use Rattle.std.proofs.Common.{◌≡◌, ℕ, zero, suc, ◌+◌, ◌*◌, ◌^◌, ◌<◌, ◌≤◌, inl, inr, nat_lt, true, false, length, sym, ◌∙◌, ap, ap₂, subst, arith}
use Rattle.std.proofs.lemmas.Bool.{cases_lt, lt-ltb, le-ltb}
use Rattle.fault_secure.specs.declared.code.Code.{Code}
use Rattle.fault_secure.specs.declared.code.Code.TheVariants.{Parity, Berger, MOutOfN}
use Rattle.fault_secure.specs.CodePlan.{CodePlan, HasWidth, IsBergerWidth, IsUnorderedCode}
use Rattle.fault_secure.specs.Logic.{StateTable}
use Rattle.code_checkers.specs.Size.{checker_size}
use Rattle.state_code.specs.Words.{IsLeastWeight, binomial}
use Rattle.berger_code.proofs.Codeword.{one_width}
use Rattle.berger_code.proofs.Counting.{width_between}
use Rattle.machine_lines.specs.MachineSize.{machine_size}
use Rattle.unate_synth.proofs.Sizes.{square, few-checks, checker-most}
use Rattle.machine_synth.specs.MachineBound.{check_count, state_weight, bound_over, machine_bound}

-- a test of a number against a power, either way
above : (power k : ℕ) → power ≤ k → nat_lt power (k + 1) ≡ true
above power k le = lt-ltb power (k + 1) (omega arith)

below : (power k : ℕ) → k < power → nat_lt power (k + 1) ≡ false
below power k lt = le-ltb power (k + 1) (omega arith)

-- the number of binary digits
digits : (k : ℕ) → 0 < k → k ≤ 64 → IsBergerWidth k (check_count Berger k)
digits k some most = elim (cases_lt k 2) [
  | inl lt ↦ rw (above 1 k (omega arith), below 2 k lt, below 4 k (omega arith), below 8 k (omega arith), below 16 k (omega arith), below 32 k (omega arith), below 64 k (omega arith)) (width_between k 1 (omega arith) (omega arith))
  | inr ge ↦ elim (cases_lt k 4) [
    | inl lt ↦ rw (above 1 k (omega arith), above 2 k ge, below 4 k lt, below 8 k (omega arith), below 16 k (omega arith), below 32 k (omega arith), below 64 k (omega arith)) (width_between k 2 (omega arith) (omega arith))
    | inr ge ↦ elim (cases_lt k 8) [
      | inl lt ↦ rw (above 1 k (omega arith), above 2 k (omega arith), above 4 k ge, below 8 k lt, below 16 k (omega arith), below 32 k (omega arith), below 64 k (omega arith)) (width_between k 3 (omega arith) (omega arith))
      | inr ge ↦ elim (cases_lt k 16) [
        | inl lt ↦ rw (above 1 k (omega arith), above 2 k (omega arith), above 4 k (omega arith), above 8 k ge, below 16 k lt, below 32 k (omega arith), below 64 k (omega arith)) (width_between k 4 (omega arith) (omega arith))
        | inr ge ↦ elim (cases_lt k 32) [
          | inl lt ↦ rw (above 1 k (omega arith), above 2 k (omega arith), above 4 k (omega arith), above 8 k (omega arith), above 16 k ge, below 32 k lt, below 64 k (omega arith)) (width_between k 5 (omega arith) (omega arith))
          | inr ge ↦ elim (cases_lt k 64) [
            | inl lt ↦ rw (above 1 k (omega arith), above 2 k (omega arith), above 4 k (omega arith), above 8 k (omega arith), above 16 k (omega arith), above 32 k ge, below 64 k lt) (width_between k 6 (omega arith) (omega arith))
            | inr ge ↦ rw (above 1 k (omega arith), above 2 k (omega arith), above 4 k (omega arith), above 8 k (omega arith), above 16 k (omega arith), above 32 k (omega arith), above 64 k ge) (width_between k 7 (omega arith) (omega arith))
          ]
        ]
      ]
    ]
  ]
]

-- the checks of a code are so many
pub check_is : (code : Code) (outputs checks : ℕ) → 0 < outputs → outputs ≤ 64 → HasWidth code outputs checks → check_count code outputs ≡ checks
check_is Parity outputs checks some most width = absurd width
check_is Berger outputs checks some most width = one_width outputs (check_count Berger outputs) checks (digits outputs some most) width
check_is MOutOfN outputs checks some most width = sym width

-- the least weight is the stated one
module _ (states : ℕ) (few : states ≤ 924) where
  more : (words : ℕ) → words < states → nat_lt words states ≡ true
  more words lt = lt-ltb words states lt

  enough : (words : ℕ) → states ≤ words → nat_lt words states ≡ false
  enough words le = le-ltb words states le

  -- what the next smaller weight would need isn't there
  pub weight_is : (m : ℕ) → IsLeastWeight states m → state_weight states ≡ m
  weight_is m least = elim (cases_lt 2 states) [
    | inr le ↦ rw (enough 2 le, enough 6 (omega arith), enough 20 (omega arith), enough 70 (omega arith), enough 252 (omega arith)) (one m least 1 (omega arith) le (λ k some fits. some))
    | inl gt ↦ elim (cases_lt 6 states) [
      | inr le ↦ rw (more 2 gt, enough 6 le, enough 20 (omega arith), enough 70 (omega arith), enough 252 (omega arith)) (one m least 2 (omega arith) le (λ k some fits. over1 k some gt fits))
      | inl gt ↦ elim (cases_lt 20 states) [
        | inr le ↦ rw (more 2 (omega arith), more 6 gt, enough 20 le, enough 70 (omega arith), enough 252 (omega arith)) (one m least 3 (omega arith) le (λ k some fits. over2 k some gt fits))
        | inl gt ↦ elim (cases_lt 70 states) [
          | inr le ↦ rw (more 2 (omega arith), more 6 (omega arith), more 20 gt, enough 70 le, enough 252 (omega arith)) (one m least 4 (omega arith) le (λ k some fits. over3 k some gt fits))
          | inl gt ↦ elim (cases_lt 252 states) [
            | inr le ↦ rw (more 2 (omega arith), more 6 (omega arith), more 20 (omega arith), more 70 gt, enough 252 le) (one m least 5 (omega arith) le (λ k some fits. over4 k some gt fits))
            | inl gt ↦ rw (more 2 (omega arith), more 6 (omega arith), more 20 (omega arith), more 70 (omega arith), more 252 gt) (one m least 6 (omega arith) few (λ k some fits. over5 k some gt fits))
          ]
        ]
      ]
    ]
  ]
    where
      one : (m : ℕ) → IsLeastWeight states m → (w : ℕ) → 1 ≤ w → states ≤ binomial (2 * w) w → ((k : ℕ) → 1 ≤ k → states ≤ binomial (2 * k) k → w ≤ k) → w ≡ m
      one m least w some fits only = (let low = least.least w some fits in let high = only m least.some least.enough in omega (arith, low, high))

      over1 : (k : ℕ) → 1 ≤ k → 2 < states → states ≤ binomial (2 * k) k → 2 ≤ k
      over1 k some gt fits = by k some fits
        where
          by : (k : ℕ) → 1 ≤ k → states ≤ binomial (2 * k) k → 2 ≤ k
          by zero some fits = absurd (omega arith)
          by (suc zero) some fits = (let le : states ≤ 2 = fits in absurd (omega arith))
          by (suc (suc k)) some fits = omega arith

      over2 : (k : ℕ) → 1 ≤ k → 6 < states → states ≤ binomial (2 * k) k → 3 ≤ k
      over2 k some gt fits = by k some fits
        where
          by : (k : ℕ) → 1 ≤ k → states ≤ binomial (2 * k) k → 3 ≤ k
          by zero some fits = absurd (omega arith)
          by (suc zero) some fits = (let le : states ≤ 2 = fits in absurd (omega arith))
          by (suc (suc zero)) some fits = (let le : states ≤ 6 = fits in absurd (omega arith))
          by (suc (suc (suc k))) some fits = omega arith

      over3 : (k : ℕ) → 1 ≤ k → 20 < states → states ≤ binomial (2 * k) k → 4 ≤ k
      over3 k some gt fits = elim (cases_lt 3 k) [
        | inl lt ↦ omega arith
        | inr le ↦ (let h : 3 ≤ k = over2 k some (omega arith) fits in let is : k ≡ 3 = omega arith in let le : states ≤ 20 = subst (λ n. states ≤ binomial (2 * n) n) is fits in absurd (omega arith))
      ]

      over4 : (k : ℕ) → 1 ≤ k → 70 < states → states ≤ binomial (2 * k) k → 5 ≤ k
      over4 k some gt fits = elim (cases_lt 4 k) [
        | inl lt ↦ omega arith
        | inr le ↦ (let h : 4 ≤ k = over3 k some (omega arith) fits in let is : k ≡ 4 = omega arith in let le : states ≤ 70 = subst (λ n. states ≤ binomial (2 * n) n) is fits in absurd (omega arith))
      ]

      over5 : (k : ℕ) → 1 ≤ k → 252 < states → states ≤ binomial (2 * k) k → 6 ≤ k
      over5 k some gt fits = elim (cases_lt 5 k) [
        | inl lt ↦ omega arith
        | inr le ↦ (let h : 5 ≤ k = over4 k some (omega arith) fits in let is : k ≡ 5 = omega arith in let le : states ≤ 252 = subst (λ n. states ≤ binomial (2 * n) n) is fits in absurd (omega arith))
      ]

-- the bound is that over a code's checks and the words' bits
bound_is : (M : StateTable) (code : Code) (checks n m : ℕ) → 0 < M.outputs → M.outputs ≤ 64 → HasWidth code M.outputs checks → M.states ≤ 924 → IsLeastWeight M.states m → n ≡ 2 * m
    → machine_bound M code ≡ bound_over M checks n
bound_is M code checks n m some most width few least half =
    ap₂ (bound_over M) (check_is code M.outputs checks some most width) (ap (λ (k : ℕ). 2 * k) (weight_is M.states few m least) ∙ sym half)

-- a netlist with so many gates for its word, a buffer for each place and the checker keeps it
pub machine_few : (M : StateTable) (code : Code) (P : CodePlan) (checks n m gates lines checker nodes : ℕ) → 0 < M.outputs → M.outputs ≤ 64 → HasWidth code M.outputs checks → M.states ≤ 924
    → IsLeastWeight M.states m → n ≡ 2 * m → P.code ≡ code → IsUnorderedCode code → P.outputs ≡ M.outputs → length P.checks ≡ checks → P.latches ≡ n → gates ≤ 4 * machine_size M checks n
    → lines ≡ M.outputs + checks + n → checker ≤ checker_size P → nodes ≤ gates + lines + checker → nodes ≤ machine_bound M code
machine_few M code P checks n m gates lines checker nodes some most width few least half is unordered outputs counted latches word line check all =
    let shaped : HasWidth code P.outputs (length P.checks) = subst (λ (k : ℕ). HasWidth code k (length P.checks)) (sym outputs) (subst (HasWidth code M.outputs) (sym counted) width) in
    let size = checker-most P code is unordered shaped in
    let shown : P.outputs * P.outputs ≡ M.outputs * M.outputs = ap (λ (k : ℕ). k * k) outputs in
    let held : P.latches * P.latches ≡ n * n = ap (λ (k : ℕ). k * k) latches in
    subst (λ (k : ℕ). nodes ≤ k) (sym (bound_is M code checks n m some most width few least half))
    (total (machine_size M checks n) M.outputs n (M.outputs * M.outputs) (n * n) ((M.outputs + 1) ^ 2) ((n + 1) ^ 2) checks gates lines checker nodes (square M.outputs) (square n) (few-checks code M.outputs checks width most) word line
    (omega (arith, check, size, shown, held, outputs, latches)) all)
  where
    total : (size o n oo nn wide deep checks gates lines checker nodes : ℕ) → wide ≡ oo + 2 * o + 1 → deep ≡ nn + 2 * n + 1 → checks ≤ 64 → gates ≤ 4 * size → lines ≡ o + checks + n
        → checker ≤ 2 * oo + 9 * o + 2 * nn + 8 * n + 21 → nodes ≤ gates + lines + checker → nodes ≤ 4 * (size + 8 * wide + 8 * deep + 16)
    total size o n oo nn wide deep checks gates lines checker nodes a b c d e f g = omega (arith, a, b, c, d, e, f, g)

-- where the bound is kept, so is the number of gates
pub few_gates : (M : StateTable) (code : Code) (checks n m : ℕ) → machine_bound M code ≤ 1048576 → 0 < M.outputs → M.outputs ≤ 64 → HasWidth code M.outputs checks → M.states ≤ 924
    → IsLeastWeight M.states m → n ≡ 2 * m → 4 * machine_size M checks n ≤ 1048576
few_gates M code checks n m small some most width few least half =
    part (machine_size M checks n) (8 * (M.outputs + 1) ^ 2) (8 * (n + 1) ^ 2)
    (subst (λ (bound : ℕ). bound ≤ 1048576) (bound_is M code checks n m some most width few least half) small)
  where
    part : (a b c : ℕ) → 4 * (a + b + c + 16) ≤ 1048576 → 4 * a ≤ 1048576
    part a b c h = omega arith
