-- Two lines as they are printed.
use Rattle.std.specs.Prelude.{◌≡◌, true, false, [], ◌∷◌, ◌++◌, codes, refl}
use Rattle.std.specs.Fmt.{decimal}
use Rattle.sim_text.specs.StepLine.{line_of}

-- no latches; the rails differ
line_of-quiet : line_of 2 (record { outputs = true ∷ true ∷ true ∷ []; checks = false ∷ false ∷ []; next = []; rail1 = true; rail2 = false })
    ≡ decimal 2 ++ (codes " 111 00 . 10 quiet" ++ 10 ∷ [])
line_of-quiet = refl

-- two latches; the rails agree
line_of-alarm : line_of 10 (record { outputs = false ∷ []; checks = true ∷ []; next = true ∷ true ∷ []; rail1 = true; rail2 = true })
    ≡ decimal 10 ++ (codes " 0 1 11 11 alarm" ++ 10 ∷ [])
line_of-alarm = refl
