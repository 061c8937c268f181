-- What `help` answers.
use Rattle.std.specs.Prelude.{ℕ, List, [], ◌∷◌, ◌++◌, codes}

-- a line of `help`
abbrev pub help_line : List ℕ → List ℕ
help_line words = codes "tsc " ++ (words ++ 10 ∷ [])

-- what `help` answers
abbrev pub help_text : List ℕ
help_text =
    help_line (codes "synth blif parity|berger|mofn")
    ++ (help_line (codes "synth kiss berger|mofn")
    ++ (help_line (codes "synth pla parity|berger|mofn")
    ++ (help_line (codes "synth blif|pla duplex")
    ++ (help_line (codes "synth blif watched")
    ++ (help_line (codes "audit blif|kiss|pla")
    ++ (help_line (codes "audit wide ROWS")
    ++ (help_line (codes "audit exact blif|kiss|pla")
    ++ (help_line (codes "audit mapped")
    ++ (help_line (codes "ask exact")
    ++ (help_line (codes "audit proof")
    ++ (help_line (codes "faults")
    ++ (help_line (codes "vectors")
    ++ (help_line (codes "grade")
    ++ (help_line (codes "sim none")
    ++ (help_line (codes "sim stem NET V WHEN")
    ++ (help_line (codes "sim pin NET INDEX V WHEN")
    ++ (help_line (codes "make NUMBER")
    ++ (help_line (codes "join")
    ++ help_line (codes "help")))))))))))))))))))
