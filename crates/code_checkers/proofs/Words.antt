-- The bits at the places of a word from one on.
use Rattle.std.specs.Prelude.{◌≡◌, ℕ, zero, suc, ◌+◌, ◌≤◌, Bool, false, List, ◌∷◌, map, length, take, drop, refl}
use Rattle.std.proofs.Common.{sym, ◌∙◌, ap, arith}
use Rattle.std.proofs.lemmas.List.{drop_more}
use Rattle.fault_secure.specs.Circuit.{bit}
use Rattle.code_checkers.specs.Signal.{value, words_from}

pub length-words_from : (place count : ℕ) → length (words_from place count) ≡ count
length-words_from place zero = refl
length-words_from place (suc count) = ap suc (length-words_from (place + 1) count)

pub words_from-bits : (w : List Bool) (place count : ℕ) → place + count ≤ length w → map (value w) (words_from place count) ≡ take count (drop place w)
words_from-bits w place zero h = refl
words_from-bits w place (suc count) h =
    ap (λ bits. bit w place ∷ bits) (words_from-bits w (place + 1) count (omega arith))
    ∙ sym (ap (take (suc count)) (drop_more w place false (omega arith)))
