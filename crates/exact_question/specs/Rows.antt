-- Rows as literals over nets, each once, and clauses as they are written.
use Rattle.std.specs.Prelude.{ℕ, Bool, not, ◌&&◌, List, [], ◌∷◌, map, filter, nat_eq}
use Rattle.std.specs.List.{list_any}
use Rattle.tsc_cover.specs.Cover.{Literal as PinLiteral, Free, Wants}
use Rattle.fault_secure.specs.Circuit.{NodeOf}
use Rattle.refutations.specs.declared.literal.Literal.{Literal}
use Rattle.refutations.specs.Clauses.{same}

abbrev pub literal : ℕ → Bool → Literal
literal variable wants = record { variable = variable; wants = wants }

abbrev pub is_literal : Literal → Literal → Bool
is_literal l m = nat_eq l.variable m.variable && same l.wants m.wants

-- the literals, each where it stands first
abbrev pub once : List Literal → List Literal
once [] = []
once (l ∷ ls) = l ∷ filter (λ m. not (is_literal l m)) (once ls)

-- a literal and its negation stand among the literals
abbrev pub clashes : List Literal → Bool
clashes ls = list_any (λ l. list_any (λ m. is_literal (literal l.variable (not l.wants)) m) ls) ls

-- lists of literals as they are written: without those that clash, and with each literal once
abbrev pub written : List (List Literal) → List (List Literal)
written lists = map once (filter (λ ls. not (clashes ls)) lists)

-- what a row asks of the nets at its pins
abbrev pub asked : List PinLiteral → List ℕ → List Literal
asked [] reads = []
asked (l ∷ row) [] = []
asked (Free ∷ row) (net ∷ reads) = asked row reads
asked (Wants bit ∷ row) (net ∷ reads) = literal net bit ∷ asked row reads

-- what the rows of a node ask, without those that ask a net for both bits
abbrev pub rows_of : NodeOf → List (List Literal)
rows_of n = written (map (λ row. asked row n.reads) n.cover.rows)
