-- The lines on a machine that was made, synthesised and audited, before the audit's.
use Rattle.std.specs.Prelude.{ℕ, List, [], ◌∷◌, ◌++◌, codes}
use Rattle.std.specs.Fmt.{decimal}
use Rattle.machine_maker.specs.declared.summary.Figures.{Figures}

-- a word and a number, each after a blank
abbrev pub figure : List ℕ → ℕ → List ℕ
figure word number = 32 ∷ (word ++ (32 ∷ decimal number))

-- `make NUMBER`
abbrev pub number_line : ℕ → List ℕ
number_line number = codes "make " ++ (decimal number ++ 10 ∷ [])

-- `states S rows R inputs I outputs O`
abbrev pub machine_line : Figures → List ℕ
machine_line f =
    codes "states " ++ (decimal f.states ++ (figure (codes "rows") f.rows ++ (figure (codes "inputs") f.inputs ++ (figure (codes "outputs") f.outputs ++ 10 ∷ []))))

-- `code berger checks C latches L word W`
abbrev pub code_line : Figures → List ℕ
code_line f =
    codes "code berger" ++ (figure (codes "checks") f.checks ++ (figure (codes "latches") f.latches ++ (figure (codes "word") f.word ++ 10 ∷ [])))

-- `bound B points P`
abbrev pub bound_line : Figures → List ℕ
bound_line f = codes "bound " ++ (decimal f.bound ++ (figure (codes "points") f.points ++ 10 ∷ []))

-- `ones Z resets Q`
abbrev pub counts_line : Figures → List ℕ
counts_line f = codes "ones " ++ (decimal f.ones ++ (figure (codes "resets") f.resets ++ 10 ∷ []))

-- the five lines
abbrev pub summary_text : ℕ → Figures → List ℕ
summary_text number f = number_line number ++ (machine_line f ++ (code_line f ++ (bound_line f ++ counts_line f)))
