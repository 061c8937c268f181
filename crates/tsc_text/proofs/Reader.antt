-- A reader of a text that keeps words, where the code keeps places of words.
use Rattle.std.proofs.Common.{◌≡◌, ℕ, ◌+◌, Bool, true, false, cond, List, [], ◌∷◌, ◌++◌, drop, Option, None, Some, eqb}
use Rattle.tsc_text.specs.declared.mode.Mode.{Mode}
use Rattle.tsc_text.specs.declared.mode.Mode.TheVariants.{Fresh, Hash, HashT, HashTs, HashTsc, Plan, Words, Slash, SlashReturn, Comment, CommentJoined}
use Rattle.tsc_text.specs.TextLine.{TextLine, line_with}
use Rattle.tsc_text.specs.Bytes.{is_blank, is_feed}
use Rattle.tsc_text.specs.Lines.{filled, words_of, ends_in, without_return, before_comment, begins_plan}
use Rattle.tsc_text.proofs.Parts.{spell, part_words}

-- an open line by its words
pub record OpenWords : Type 0 where
  pub number : ℕ
  pub words : List (List ℕ)

-- `lines_from` by words: what a physical line with these words, that goes on or not, ends and leaves open
abbrev pub line_of : Bool → OpenWords → List TextLine
line_of goes_on line = cond goes_on [] (line_with line.number false line.words)

abbrev pub open_of : Bool → OpenWords → Option OpenWords
open_of goes_on line = cond goes_on (Some line) None

abbrev pub words_joined : Option OpenWords → ℕ → List ℕ → OpenWords
words_joined None number p = record { number = number; words = part_words [] (before_comment p) }
words_joined (Some line) number p = record { number = line.number; words = line.words ++ part_words [] (before_comment p) }

abbrev pub is_plan_words : Option OpenWords → List ℕ → Bool
is_plan_words None p = begins_plan p
is_plan_words (Some _) p = false

abbrev pub words_ended : Option OpenWords → ℕ → List ℕ → List TextLine
words_ended line number p =
    cond (is_plan_words line p) (line_with number true (words_of (drop 5 p)))
    (line_of (ends_in 92 (before_comment p)) (words_joined line number p))

abbrev pub words_left : Option OpenWords → ℕ → List ℕ → Option OpenWords
words_left line number p =
    cond (is_plan_words line p) None (open_of (ends_in 92 (before_comment p)) (words_joined line number p))

abbrev pub words_at_end : Option OpenWords → List TextLine
words_at_end None = []
words_at_end (Some line) = line_with line.number false line.words

abbrev pub words_from : Option OpenWords → ℕ → List (List ℕ) → List TextLine
words_from line number [] = words_at_end line
words_from line number (p ∷ ps) = words_ended line number p ++ words_from (words_left line number p) (number + 1) ps

-- what is read of a text, with words in place of the places of words. A `\` or CR that is held back is not in `word`
pub record Reader : Type 0 where
  pub lines : List TextLine
  pub number : ℕ
  pub first : ℕ
  pub words : List (List ℕ)
  pub word : List ℕ
  pub mode : Mode

abbrev pub part : Reader → Reader
part r = record r { words = r.words ++ filled (r.word ∷ []); word = [] }

abbrev pub line_done : Reader → Bool → Reader
line_done r is_plan = record r { lines = r.lines ++ line_with r.first is_plan r.words; words = [] }

abbrev pub to_fresh : Reader → Reader
to_fresh r = record r { number = r.number + 1; first = r.number + 1; word = []; mode = Fresh }

abbrev pub to_joined : Reader → Reader
to_joined r = record r { number = r.number + 1; word = []; mode = Words }

abbrev pub read_feed : Reader → Reader
read_feed r = elim r.mode [
  | Fresh ↦ to_fresh (line_done r false)
  | Hash ↦ to_fresh (line_done r false)
  | HashT ↦ to_fresh (line_done r false)
  | HashTs ↦ to_fresh (line_done r false)
  | HashTsc ↦ to_fresh (line_done r false)
  | Plan ↦ to_fresh (line_done (part r) true)
  | Words ↦ to_fresh (line_done (part r) false)
  | Slash ↦ to_joined (part r)
  | SlashReturn ↦ to_joined (part r)
  | Comment ↦ to_fresh (line_done r false)
  | CommentJoined ↦ to_joined r
]

abbrev pub read_words : Reader → ℕ → Reader
read_words r b =
    cond (eqb b 35) (record (part r) { mode = Comment })
    (cond (eqb b 92) (record r { mode = Slash })
    (cond (is_blank b) (record (part r) { mode = Words }) (record r { word = r.word ++ b ∷ []; mode = Words })))

abbrev pub with_slash : Reader → Reader
with_slash r = record r { word = r.word ++ 92 ∷ [] }

abbrev pub read_behind_slash : Reader → ℕ → Reader
read_behind_slash r b =
    cond (eqb b 35) (record (part r) { mode = CommentJoined })
    (cond (eqb b 13) (record r { mode = SlashReturn }) (read_words (with_slash r) b))

abbrev pub read_plan : Reader → ℕ → Reader
read_plan r b = cond (is_blank b) (part r) (record r { word = r.word ++ b ∷ [] })

abbrev pub read_in_line : Reader → ℕ → Reader
read_in_line r b = elim r.mode [
  | Fresh ↦ cond (eqb b 35) (record r { mode = Hash }) (read_words r b)
  | Hash ↦ record r { mode = cond (eqb b 116) HashT Comment }
  | HashT ↦ record r { mode = cond (eqb b 115) HashTs Comment }
  | HashTs ↦ record r { mode = cond (eqb b 99) HashTsc Comment }
  | HashTsc ↦ record r { word = []; mode = cond (eqb b 32) Plan Comment }
  | Plan ↦ read_plan r b
  | Words ↦ read_words r b
  | Slash ↦ read_behind_slash r b
  | SlashReturn ↦ read_words (part (with_slash r)) b
  | Comment ↦ r
  | CommentJoined ↦ r
]

abbrev pub read_step : Reader → ℕ → Reader
read_step r b = cond (is_feed b) (read_feed r) (read_in_line r b)

abbrev pub read_end : Reader → Reader
read_end r = line_done (read_feed r) false

-- what the open line and the next physical lines come to, where the open line has these words, and goes on or not
abbrev pub rest_by : ℕ → ℕ → List (List ℕ) → Bool → List (List ℕ) → List TextLine
rest_by first number words goes_on ps =
    line_of goes_on (record { number = first; words = words }) ++ words_from (open_of goes_on (record { number = first; words = words })) (number + 1) ps

-- the same, where `c` is left of its physical line before a comment
abbrev pub rest_of : Reader → List ℕ → List (List ℕ) → List TextLine
rest_of r c ps = rest_by r.first r.number (r.words ++ part_words r.word c) (ends_in 92 c) ps

-- the lines that are still to come, where `p` is left of the physical line, and `ps` are the next ones
abbrev pub to_come : Reader → List ℕ → List (List ℕ) → List TextLine
to_come r p ps = elim r.mode [
  | Fresh ↦ words_from None r.number (without_return p ∷ ps)
  | Hash ↦ words_from None r.number (without_return (35 ∷ p) ∷ ps)
  | HashT ↦ words_from None r.number (without_return (35 ∷ 116 ∷ p) ∷ ps)
  | HashTs ↦ words_from None r.number (without_return (35 ∷ 116 ∷ 115 ∷ p) ∷ ps)
  | HashTsc ↦ words_from None r.number (without_return (35 ∷ 116 ∷ 115 ∷ 99 ∷ p) ∷ ps)
  | Plan ↦ line_with r.first true (r.words ++ spell r.word (without_return p)) ++ words_from None (r.number + 1) ps
  | Words ↦ rest_of r (before_comment (without_return p)) ps
  | Slash ↦ rest_of r (before_comment (without_return (92 ∷ p))) ps
  | SlashReturn ↦ rest_of r (before_comment (without_return (92 ∷ 13 ∷ p))) ps
  | Comment ↦ line_with r.first false r.words ++ words_from None (r.number + 1) ps
  | CommentJoined ↦ words_from (Some (record { number = r.first; words = r.words })) (r.number + 1) ps
]

-- before the first word nothing is open
pub record IsFresh (r : Reader) : Type 0 where
  pub words : r.words ≡ []
  pub word : r.word ≡ []
  pub number : r.first ≡ r.number

abbrev pub IsSoundReader : Reader → Type 0
IsSoundReader r = elim r.mode [
  | Fresh ↦ IsFresh r
  | Hash ↦ IsFresh r
  | HashT ↦ IsFresh r
  | HashTs ↦ IsFresh r
  | HashTsc ↦ IsFresh r
  | Plan ↦ Unit {0}
  | Words ↦ Unit {0}
  | Slash ↦ Unit {0}
  | SlashReturn ↦ Unit {0}
  | Comment ↦ Unit {0}
  | CommentJoined ↦ Unit {0}
]
