-- The scan of a text, byte by byte: the places of the words and lines so far, and what is open.
use Rattle.std.specs.Prelude.{ℕ, ◌+◌, ◌-◌, ◌≤◌, Bool, true, false, cond, ◌==◌, nat_lt, List, [], ◌∷◌, ◌++◌, length}
use Rattle.tsc_text.specs.declared.places.Place.{Place}
use Rattle.tsc_text.specs.declared.mode.Mode.TheVariants.{Fresh, Hash, HashT, HashTs, HashTsc, Plan, Words, Slash, SlashReturn, Comment, CommentJoined}
use Rattle.tsc_text.specs.declared.scan.Scan.{Scan}
use Rattle.tsc_text.specs.Bytes.{is_blank, is_feed}
use Rattle.tsc_text.specs.Table.{no_lines, with_line}

-- before the first byte
abbrev pub at_start : Scan
at_start = record { table = no_lines; number = 1; first = 1; start = 0; mode = Fresh }

-- the words, and with them the one from `start` up to `past` if it has a byte
abbrev pub with_place : List Place → ℕ → ℕ → List Place
with_place places start past = cond (nat_lt start past) (places ++ record { start = start; past = past } ∷ []) places

-- the open word ends before `past`
abbrev pub word_ended : Scan → ℕ → Scan
word_ended s past = record s { table = record s.table { places = with_place s.table.places s.start past } }

-- the open line ends
abbrev pub row_ended : Scan → Bool → Scan
row_ended s is_plan = record s { table = with_line s.table s.first is_plan }

-- the next physical line begins after the LF at `at`, and with it a line
abbrev pub next_line : Scan → ℕ → Scan
next_line s at = record s { number = s.number + 1; first = s.number + 1; start = at + 1; mode = Fresh }

-- the next physical line begins after the LF at `at`, and is joined to the open line
abbrev pub next_joined : Scan → ℕ → Scan
next_joined s at = record s { number = s.number + 1; start = at + 1; mode = Words }

-- the LF at `at`
abbrev pub feed : Scan → ℕ → Scan
feed s at = elim s.mode [
  | Fresh ↦ next_line (row_ended s false) at
  | Hash ↦ next_line (row_ended s false) at
  | HashT ↦ next_line (row_ended s false) at
  | HashTs ↦ next_line (row_ended s false) at
  | HashTsc ↦ next_line (row_ended s false) at
  | Plan ↦ next_line (row_ended (word_ended s at) true) at
  | Words ↦ next_line (row_ended (word_ended s at) false) at
  | Slash ↦ next_joined (word_ended s (at - 1)) at
  | SlashReturn ↦ next_joined (word_ended s (at - 2)) at
  | Comment ↦ next_line (row_ended s false) at
  | CommentJoined ↦ next_joined s at
]

-- the byte `b` at `at`, of a line that is no plan line
abbrev pub in_words : Scan → ℕ → ℕ → Scan
in_words s at b =
    cond (b == 35) (record (word_ended s at) { mode = Comment })
    (cond (b == 92) (record s { mode = Slash })
    (cond (is_blank b) (record (word_ended s at) { start = at + 1; mode = Words }) (record s { mode = Words })))

-- the byte `b` at `at`, of a plan line
abbrev pub in_plan : Scan → ℕ → ℕ → Scan
in_plan s at b = cond (is_blank b) (record (word_ended s at) { start = at + 1 }) s

-- the byte `b` at `at`, after a `\`
abbrev pub behind_slash : Scan → ℕ → ℕ → Scan
behind_slash s at b =
    cond (b == 35) (record (word_ended s (at - 1)) { mode = CommentJoined })
    (cond (b == 13) (record s { mode = SlashReturn }) (in_words s at b))

-- the byte `b` at `at`, after a `\` and a CR
abbrev pub behind_return : Scan → ℕ → ℕ → Scan
behind_return s at b = in_words (record (word_ended s (at - 1)) { start = at }) at b

-- the byte `b` at `at`, which is no LF
abbrev pub in_line : Scan → ℕ → ℕ → Scan
in_line s at b = elim s.mode [
  | Fresh ↦ cond (b == 35) (record s { mode = Hash }) (in_words s at b)
  | Hash ↦ record s { mode = cond (b == 116) HashT Comment }
  | HashT ↦ record s { mode = cond (b == 115) HashTs Comment }
  | HashTs ↦ record s { mode = cond (b == 99) HashTsc Comment }
  | HashTsc ↦ record s { start = at + 1; mode = cond (b == 32) Plan Comment }
  | Plan ↦ in_plan s at b
  | Words ↦ in_words s at b
  | Slash ↦ behind_slash s at b
  | SlashReturn ↦ behind_return s at b
  | Comment ↦ s
  | CommentJoined ↦ s
]

-- the byte `b` at `at`
abbrev pub step : Scan → ℕ → ℕ → Scan
step s at b = cond (is_feed b) (feed s at) (in_line s at b)

-- the bytes from `at` on
abbrev pub run : Scan → ℕ → List ℕ → Scan
run s at [] = s
run s at (b ∷ bs) = run (step s at b) (at + 1) bs

-- the end of the text, at `at`: the open line ends as at an LF, and there is nothing to join
abbrev pub finish : Scan → ℕ → Scan
finish s at = row_ended (feed s at) false

-- all of a text is read
abbrev pub scan_of : List ℕ → Scan
scan_of text = finish (run at_start 0 text) (length text)

-- before the byte at `at` there are fewer words than bytes, if there are any, and at most as many LFs
pub record IsWithin (s : Scan) (at : ℕ) : Type 0 where
  pub words : length s.table.places ≤ at - 1
  pub lines : s.number ≤ at + 1
