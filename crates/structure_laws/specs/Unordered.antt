-- Unordered codes: no codeword of a Berger or m-out-of-n code covers another.
use Rattle.std.specs.Prelude.{◌≡◌, Bool, true, List, [], ◌∷◌}
use Rattle.fault_secure.specs.CodePlan.{CodePlan, IsCodeword, IsUnorderedCode}

-- the lists are as long, and each 1 of the first stands in the second: the second covers the first
abbrev pub Below : List Bool → List Bool → Type 0
Below [] [] = Unit {0}
Below (a ∷ as_) (b ∷ bs) = (a ≡ true → b ≡ true) × Below as_ bs
Below [] (b ∷ bs) = ⊥
Below (a ∷ as_) [] = ⊥

-- two codewords of an unordered code, one of which covers the other, are the same
abbrev pub UnorderedCodes : Type 0
UnorderedCodes = (P : CodePlan) (w u : List Bool) → IsUnorderedCode P.code → IsCodeword P w → IsCodeword P u → Below w u → w ≡ u
