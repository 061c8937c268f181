-- The words of a text without a byte that is refused have no such byte.
use Rattle.std.proofs.Common.{◌≡◌, ℕ, ◌+◌, Bool, true, false, cond, ◌&&◌, List, [], ◌∷◌, ◌++◌, drop, map, eqb, Option, None, Some, refl, ap, ap₂, All}
use Rattle.std.specs.List.{list_all}
use Rattle.std.proofs.lemmas.List.Elements.{All-nil, All-cons, All-head, All-tail, All-append}
use Rattle.tsc_text.specs.Bytes.{bad_line, bad_line_from, is_allowed, is_blank, is_feed, number_after}
use Rattle.tsc_text.specs.TextLine.{TextLine, line_with}
use Rattle.tsc_text.specs.Lines.{OpenLine, before_comment, closed, ends_in, filled, is_plan_line, joined, left_open, line_ended, line_left, line_at_end, lines_from, lines_of, pieces, physical_lines, with_byte, without_last, without_return, words_of}
use Rattle.tsc_text.proofs.ReaderSteps.{by_test}
use Rattle.tsc_text.proofs.ReadWords.{drop-all, without_last-all, without_return-all}
use Rattle.tsc_text.proofs.Written.{Both, both, list_all-append}

-- a text may hold each byte
abbrev pub IsAllowed : List ℕ → Type 0
IsAllowed bytes = list_all is_allowed bytes ≡ true

-- a text may hold each byte of each word
abbrev pub HasAllowedWords : TextLine → Type 0
HasAllowedWords line = All IsAllowed line.words

allowed_from : (number : ℕ) (text : List ℕ) → bad_line_from number text ≡ None → IsAllowed text
allowed_from number [] e = refl
allowed_from number (b ∷ text) e =
    by_test (is_allowed b) (λ v. cond v (bad_line_from (number_after number b) text) (Some number) ≡ None → (v && list_all is_allowed text) ≡ true)
    (λ _ f. allowed_from (number_after number b) text f) (λ _ f. cc) e

with_byte-allowed : (parts : Bool) (b : ℕ) (ps : List (List ℕ)) → is_allowed b ≡ true → All IsAllowed ps → All IsAllowed (with_byte parts b ps)
with_byte-allowed true b ps e h = All-cons IsAllowed [] ps refl h
with_byte-allowed false b [] e h = All-cons IsAllowed (b ∷ []) [] (ap (λ v. v && true) e) (All-nil IsAllowed)
with_byte-allowed false b (p ∷ ps) e h = All-cons IsAllowed (b ∷ p) ps (ap₂ (λ v w. v && w) e (All-head IsAllowed p ps h)) (All-tail IsAllowed p ps h)

pieces-allowed : (parts : ℕ → Bool) (bytes : List ℕ) → IsAllowed bytes → All IsAllowed (pieces parts bytes)
pieces-allowed parts [] h = All-cons IsAllowed [] [] refl (All-nil IsAllowed)
pieces-allowed parts (b ∷ bytes) h =
    let split : Both (is_allowed b) (list_all is_allowed bytes) = both _ _ h in
    with_byte-allowed (parts b) b (pieces parts bytes) split.left (pieces-allowed parts bytes split.right)

filled-allowed : (ps : List (List ℕ)) → All IsAllowed ps → All IsAllowed (filled ps)
filled-allowed [] h = All-nil IsAllowed
filled-allowed ([] ∷ ps) h = filled-allowed ps (All-tail IsAllowed [] ps h)
filled-allowed ((b ∷ p) ∷ ps) h = All-cons IsAllowed (b ∷ p) (filled ps) (All-head IsAllowed (b ∷ p) ps h) (filled-allowed ps (All-tail IsAllowed (b ∷ p) ps h))

words-allowed : (bytes : List ℕ) → IsAllowed bytes → All IsAllowed (words_of bytes)
words-allowed bytes h = filled-allowed (pieces is_blank bytes) (pieces-allowed is_blank bytes h)

returns-allowed : (ps : List (List ℕ)) → All IsAllowed ps → All IsAllowed (map without_return ps)
returns-allowed [] h = All-nil IsAllowed
returns-allowed (p ∷ ps) h = All-cons IsAllowed (without_return p) (map without_return ps) (without_return-all is_allowed p (All-head IsAllowed p ps h)) (returns-allowed ps (All-tail IsAllowed p ps h))

cut-allowed : (p : List ℕ) → IsAllowed p → IsAllowed (before_comment p)
cut-allowed [] h = refl
cut-allowed (b ∷ p) h =
    let split : Both (is_allowed b) (list_all is_allowed p) = both _ _ h in
    by_test (eqb b 35) (λ v. IsAllowed (cond v [] (b ∷ before_comment p))) (λ _. refl) (λ _. ap₂ (λ v w. v && w) split.left (cut-allowed p split.right))

line_with-allowed : (number : ℕ) (plan : Bool) (ws : List (List ℕ)) → All IsAllowed ws → All HasAllowedWords (line_with number plan ws)
line_with-allowed number plan [] h = All-nil HasAllowedWords
line_with-allowed number plan (w ∷ ws) h = All-cons HasAllowedWords (record { number = number; is_plan = plan; words = w ∷ ws }) [] h (All-nil HasAllowedWords)

-- the bytes of the line that is open, if one is
abbrev IsAllowedOpen : Option OpenLine → Type 0
IsAllowedOpen None = Unit {0}
IsAllowedOpen (Some line) = IsAllowed line.bytes

joined-allowed : (o : Option OpenLine) (n : ℕ) (p : List ℕ) → IsAllowedOpen o → IsAllowed p → IsAllowed (joined o n p).bytes
joined-allowed None n p h k = cut-allowed p k
joined-allowed (Some line) n p h k = list_all-append is_allowed line.bytes (before_comment p) h (cut-allowed p k)

closed-allowed : (line : OpenLine) → IsAllowed line.bytes → All HasAllowedWords (closed line)
closed-allowed line h = by_test (ends_in 92 line.bytes) (λ v. All HasAllowedWords (cond v [] (line_with line.number false (words_of line.bytes))))
    (λ _. All-nil HasAllowedWords) (λ _. line_with-allowed line.number false (words_of line.bytes) (words-allowed line.bytes h))

left-allowed : (line : OpenLine) → IsAllowed line.bytes → IsAllowedOpen (left_open line)
left-allowed line h = by_test (ends_in 92 line.bytes) (λ v. IsAllowedOpen (cond v (Some (record { number = line.number; bytes = without_last line.bytes ++ 32 ∷ [] })) None))
    (λ _. list_all-append is_allowed (without_last line.bytes) (32 ∷ []) (without_last-all is_allowed line.bytes h) refl) (λ _. tt)

ended-allowed : (o : Option OpenLine) (n : ℕ) (p : List ℕ) → IsAllowedOpen o → IsAllowed p → All HasAllowedWords (line_ended o n p)
ended-allowed o n p h k = by_test (is_plan_line o p) (λ v. All HasAllowedWords (cond v (line_with n true (words_of (drop 5 p))) (closed (joined o n p))))
    (λ _. line_with-allowed n true (words_of (drop 5 p)) (words-allowed (drop 5 p) (drop-all is_allowed 5 p k)))
    (λ _. closed-allowed (joined o n p) (joined-allowed o n p h k))

open-allowed : (o : Option OpenLine) (n : ℕ) (p : List ℕ) → IsAllowedOpen o → IsAllowed p → IsAllowedOpen (line_left o n p)
open-allowed o n p h k = by_test (is_plan_line o p) (λ v. IsAllowedOpen (cond v None (left_open (joined o n p)))) (λ _. tt) (λ _. left-allowed (joined o n p) (joined-allowed o n p h k))

at_end-allowed : (o : Option OpenLine) → IsAllowedOpen o → All HasAllowedWords (line_at_end o)
at_end-allowed None h = All-nil HasAllowedWords
at_end-allowed (Some line) h = line_with-allowed line.number false (words_of line.bytes) (words-allowed line.bytes h)

lines_from-allowed : (ps : List (List ℕ)) (o : Option OpenLine) (n : ℕ) → IsAllowedOpen o → All IsAllowed ps → All HasAllowedWords (lines_from o n ps)
lines_from-allowed [] o n h k = at_end-allowed o h
lines_from-allowed (p ∷ ps) o n h k =
    let here = All-head IsAllowed p ps k in
    All-append HasAllowedWords (line_ended o n p) (lines_from (line_left o n p) (n + 1) ps) (ended-allowed o n p h here)
    (lines_from-allowed ps (line_left o n p) (n + 1) (open-allowed o n p h here) (All-tail IsAllowed p ps k))

-- the words of a text without a byte that is refused have none
pub lines_of-allowed : (text : List ℕ) → bad_line text ≡ None → All HasAllowedWords (lines_of text)
lines_of-allowed text e =
    let physical : All IsAllowed (physical_lines text) = returns-allowed (pieces is_feed text) (pieces-allowed is_feed text (allowed_from 1 text e)) in
    lines_from-allowed (physical_lines text) None 1 tt physical
