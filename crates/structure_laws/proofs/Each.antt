-- What holds of each number below a bound, written out.
use Rattle.std.proofs.Common.{ℕ, zero, suc, ◌<◌, length, arith}
use Rattle.fault_secure.specs.Circuit.{Circuit, node}

-- P of 0, of 1, and so on, n of them
abbrev pub Each : ℕ → (ℕ → Type 0) → Type 0
Each zero P = Unit {0}
Each (suc n) P = P 0 × Each n (λ i. P (suc i))

-- what is written out for n numbers holds of each number below n
pub each : (n : ℕ) (P : ℕ → Type 0) → Each n P → (i : ℕ) → i < n → P i
each zero P all i h = absurd (omega arith)
each (suc n) P all zero h = all.0
each (suc n) P all (suc i) h = each n (λ i. P (suc i)) all.1 i (omega arith)

-- R of each pin of each node
abbrev pub EachPin : Circuit → (ℕ → ℕ → Type 0) → Type 0
EachPin N R = Each (length N.nodes) (λ j. Each (length (node N j).reads) (R j))

-- what is written out for each pin of each node holds of any of them
pub each_pin : (N : Circuit) (R : ℕ → ℕ → Type 0) → EachPin N R → (j pin : ℕ) → j < length N.nodes → pin < length (node N j).reads → R j pin
each_pin N R all j pin h l =
    each (length (node N j).reads) (R j) (each (length N.nodes) (λ j. Each (length (node N j).reads) (R j)) all j h) pin l
