-- A cover is true where one of its rows has all that it asks for.
use Rattle.std.proofs.Common.{◌≡◌, ℕ, Bool, true, false, not, cond, ◌&&◌, ◌||◌, if◌then◌else◌, List, [], ◌∷◌, map, filter, All, refl, sym, ap, ap₂, ◌∙◌}
use Rattle.std.specs.List.{list_any, list_all}
use Rattle.std.proofs.lemmas.List.Elements.{All-nil, All-cons, All-head, All-tail, All-filter}
use Rattle.tsc_cover.specs.Cover.{Literal as PinLiteral, Free, Wants, row_matches, some_row_matches, truth}
use Rattle.tsc_bits.specs.Bits.{same as same_bit}
use Rattle.fault_secure.specs.Circuit.{NodeOf}
use Rattle.refutations.specs.declared.literal.Literal.{Literal}
use Rattle.refutations.specs.Clauses.{same, literal_true}
use Rattle.exact_question.specs.Rows.{literal, is_literal, once, clashes, asked, written, rows_of}
use Rattle.exact_question.proofs.Written.{once_all, clash_not_all}

same_turned : (a b : Bool) → same_bit a b ≡ same b a
same_turned true true = refl
same_turned true false = refl
same_turned false true = refl
same_turned false false = refl

module _ (v : ℕ → Bool) where
  -- a row matches where its nets have what it asks
  matches_asked : (row : List PinLiteral) (reads : List ℕ) → row_matches row (map v reads) ≡ list_all (literal_true v) (asked row reads)
  matches_asked [] reads = refl
  matches_asked (Free ∷ row) [] = refl
  matches_asked (Wants bit ∷ row) [] = refl
  matches_asked (Free ∷ row) (net ∷ reads) = matches_asked row reads
  matches_asked (Wants bit ∷ row) (net ∷ reads) = ap₂ (λ a b. a && b) (same_turned bit (v net)) (matches_asked row reads)

  any_written : (lists : List (List Literal)) → list_any (list_all (literal_true v)) (written lists) ≡ list_any (list_all (literal_true v)) lists
  any_written [] = refl
  any_written (ls ∷ lists) = by (clashes ls) refl (any_written lists)
    where
      by : (b : Bool) → clashes ls ≡ b → list_any (list_all (literal_true v)) (written lists) ≡ list_any (list_all (literal_true v)) lists
          → list_any (list_all (literal_true v)) (map once (cond (not b) (ls ∷ filter (λ ls. not (clashes ls)) lists) (filter (λ ls. not (clashes ls)) lists)))
          ≡ (list_all (literal_true v) ls || list_any (list_all (literal_true v)) lists)
      by true is rest = rest ∙ ap (λ b. b || list_any (list_all (literal_true v)) lists) (sym (clash_not_all v ls is))
      by false is rest = ap₂ (λ a b. a || b) (once_all v ls) rest

  any_asked : (rows : List (List PinLiteral)) (reads : List ℕ)
      → list_any (list_all (literal_true v)) (map (λ row. asked row reads) rows) ≡ some_row_matches rows (map v reads)
  any_asked [] reads = refl
  any_asked (row ∷ rows) reads = ap₂ (λ a b. a || b) (sym (matches_asked row reads)) (any_asked rows reads)

  pub any_row : (n : NodeOf) → list_any (list_all (literal_true v)) (rows_of n) ≡ some_row_matches n.cover.rows (map v n.reads)
  any_row n = any_written (map (λ row. asked row n.reads) n.cover.rows) ∙ any_asked n.cover.rows n.reads

  on_or_off : (on some : Bool) → same (if on then some else not some) on ≡ some
  on_or_off true true = refl
  on_or_off true false = refl
  on_or_off false true = refl
  on_or_off false false = refl

  -- the truth of a cover is the bit of its rows exactly where some row has all that it asks
  pub cover_rows : (n : NodeOf) (out : Bool) → out ≡ truth n.cover (map v n.reads) → same out n.cover.on ≡ list_any (list_all (literal_true v)) (rows_of n)
  cover_rows n out is =
      ap (λ b. same b n.cover.on) is ∙ on_or_off n.cover.on (some_row_matches n.cover.rows (map v n.reads)) ∙ sym (any_row n)

-- ---- what rows ask is of the nets at the pins

asked_within : (P : ℕ → Type 0) (row : List PinLiteral) (reads : List ℕ) → All P reads → All (λ l. P l.variable) (asked row reads)
asked_within P [] reads all = All-nil (λ (l : Literal). P l.variable)
asked_within P (Free ∷ row) [] all = All-nil (λ (l : Literal). P l.variable)
asked_within P (Wants bit ∷ row) [] all = All-nil (λ (l : Literal). P l.variable)
asked_within P (Free ∷ row) (net ∷ reads) all = asked_within P row reads (All-tail P net reads all)
asked_within P (Wants bit ∷ row) (net ∷ reads) all =
    All-cons (λ (l : Literal). P l.variable) (literal net bit) (asked row reads) (All-head P net reads all) (asked_within P row reads (All-tail P net reads all))

once_within : (P : Literal → Type 0) (ls : List Literal) → All P ls → All P (once ls)
once_within P [] all = All-nil P
once_within P (l ∷ ls) all =
    All-cons P l (filter (λ m. not (is_literal l m)) (once ls)) (All-head P l ls all)
    (All-filter (λ m. not (is_literal l m)) P (once ls) (once_within P ls (All-tail P l ls all)))

written_within : (P : Literal → Type 0) (lists : List (List Literal)) → All (All P) lists → All (All P) (written lists)
written_within P [] all = All-nil (All P)
written_within P (ls ∷ lists) all = by (written_within P lists (All-tail (All P) ls lists all)) (clashes ls)
  where
    by : All (All P) (written lists) → (b : Bool) → All (All P) (map once (cond (not b) (ls ∷ filter (λ ls. not (clashes ls)) lists) (filter (λ ls. not (clashes ls)) lists)))
    by rest true = rest
    by rest false = All-cons (All P) (once ls) (written lists) (once_within P ls (All-head (All P) ls lists all)) rest

rows_asked_within : (P : ℕ → Type 0) (rows : List (List PinLiteral)) (reads : List ℕ) → All P reads → All (All (λ l. P l.variable)) (map (λ row. asked row reads) rows)
rows_asked_within P [] reads all = All-nil (All (λ (l : Literal). P l.variable))
rows_asked_within P (row ∷ rows) reads all =
    All-cons (All (λ (l : Literal). P l.variable)) (asked row reads) (map (λ row. asked row reads) rows) (asked_within P row reads all) (rows_asked_within P rows reads all)

pub rows_within : (P : ℕ → Type 0) (n : NodeOf) → All P n.reads → All (All (λ l. P l.variable)) (rows_of n)
rows_within P n all = written_within (λ (l : Literal). P l.variable) (map (λ row. asked row n.reads) n.cover.rows) (rows_asked_within P n.cover.rows n.reads all)
