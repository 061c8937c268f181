-- The lines of two texts one behind the other, where no line of the first goes on.
use Rattle.std.proofs.Common.{◌≡◌, ℕ, ◌+◌, Bool, true, false, cond, List, [], ◌∷◌, ◌++◌, drop, map, length, Option, None, Some, refl, sym, ap, subst, ◌∙◌, append_assoc, arith}
use Rattle.std.proofs.lemmas.List.{map-append}
use Rattle.tsc_text.specs.Bytes.{is_feed}
use Rattle.tsc_text.specs.TextLine.{TextLine, line_with}
use Rattle.tsc_text.specs.Joined.{HasNoOpenLine, moved, moved_line, open_after}
use Rattle.tsc_text.specs.Lines.{OpenLine, before_comment, begins_plan, closed, ends_in, joined, left_open, line_at_end, line_ended, line_left, lines_from, lines_of, physical_lines, pieces, with_byte, without_last, without_return, words_of}
use Rattle.tsc_text.proofs.ReaderLaw.{some-pieces}
use Rattle.tsc_text.proofs.ReaderSteps.{by_test}

with_byte-append : (v : Bool) (b : ℕ) (ps qs : List (List ℕ)) → (p : List ℕ) × (rest : List (List ℕ)) × (ps ≡ p ∷ rest) → with_byte v b (ps ++ qs) ≡ with_byte v b ps ++ qs
with_byte-append true b ps qs some = refl
with_byte-append false b ps qs some =
    let P : List (List ℕ) → Type 0 = λ x. with_byte false b (x ++ qs) ≡ with_byte false b x ++ qs in
    subst P (sym some.2) refl

pub pieces-append : (a b : List ℕ) → pieces is_feed (a ++ 10 ∷ b) ≡ pieces is_feed a ++ pieces is_feed b
pieces-append [] b = refl
pieces-append (c ∷ a) b = ap (with_byte (is_feed c) c) (pieces-append a b) ∙ with_byte-append (is_feed c) c (pieces is_feed a) (pieces is_feed b) (some-pieces is_feed a)

-- two texts with a line feed between them have the physical lines of both, one after the other
pub physical_lines-append : (a b : List ℕ) → physical_lines (a ++ 10 ∷ b) ≡ physical_lines a ++ physical_lines b
physical_lines-append a b = ap (map without_return) (pieces-append a b) ∙ map-append without_return (pieces is_feed a) (pieces is_feed b)

-- where no line is open in between
lines_from-append : (ps qs : List (List ℕ)) (o : Option OpenLine) (n : ℕ) → open_after o n ps ≡ None → lines_from o n (ps ++ qs) ≡ lines_from o n ps ++ lines_from None (n + length ps) qs
lines_from-append [] qs o n h =
    let P : Option OpenLine → Type 0 = λ x. lines_from x n qs ≡ line_at_end x ++ lines_from None (n + 0) qs in
    let e : n ≡ n + 0 = omega arith in
    subst P (sym h) (ap (λ (m : ℕ). lines_from None m qs) e)
lines_from-append (p ∷ ps) qs o n h =
    let e : n + 1 + length ps ≡ n + length (p ∷ ps) = omega arith in
    ap (λ (x : List TextLine). line_ended o n p ++ x) (lines_from-append ps qs (line_left o n p) (n + 1) h ∙ ap (λ (m : ℕ). lines_from (line_left o n p) (n + 1) ps ++ lines_from None m qs) e)
    ∙ sym (append_assoc (line_ended o n p) (lines_from (line_left o n p) (n + 1) ps) (lines_from None (n + length (p ∷ ps)) qs))

-- an open line, numbered higher
moved_open : ℕ → OpenLine → OpenLine
moved_open more line = record line { number = line.number + more }

moved_option : ℕ → Option OpenLine → Option OpenLine
moved_option more None = None
moved_option more (Some line) = Some (moved_open more line)

line_with-moved : (more number : ℕ) (plan : Bool) (ws : List (List ℕ)) → line_with (number + more) plan ws ≡ moved more (line_with number plan ws)
line_with-moved more number plan [] = refl
line_with-moved more number plan (w ∷ ws) = refl

closed-moved : (more number : ℕ) (bytes : List ℕ) → closed (record { number = number + more; bytes = bytes }) ≡ moved more (closed (record { number = number; bytes = bytes }))
closed-moved more number bytes = by_test (ends_in 92 bytes) (λ v. cond v [] (line_with (number + more) false (words_of bytes)) ≡ moved more (cond v [] (line_with number false (words_of bytes))))
    (λ _. refl) (λ _. line_with-moved more number false (words_of bytes))

left-moved : (more number : ℕ) (bytes : List ℕ) → left_open (record { number = number + more; bytes = bytes }) ≡ moved_option more (left_open (record { number = number; bytes = bytes }))
unfolding moved_option moved_open
left-moved more number bytes = by_test (ends_in 92 bytes) (λ v. cond v (Some (record { number = number + more; bytes = without_last bytes ++ 32 ∷ [] })) None ≡ moved_option more (cond v (Some (record { number = number; bytes = without_last bytes ++ 32 ∷ [] })) None))
    (λ _. refl) (λ _. refl)

ended-moved : (more : ℕ) (o : Option OpenLine) (n : ℕ) (p : List ℕ) → line_ended (moved_option more o) (n + more) p ≡ moved more (line_ended o n p)
unfolding moved_option moved_open
ended-moved more None n p = by_test (begins_plan p) (λ v. cond v (line_with (n + more) true (words_of (drop 5 p))) (closed (joined None (n + more) p)) ≡ moved more (cond v (line_with n true (words_of (drop 5 p))) (closed (joined None n p))))
    (λ _. line_with-moved more n true (words_of (drop 5 p))) (λ _. closed-moved more n (before_comment p))
ended-moved more (Some line) n p = closed-moved more line.number (line.bytes ++ before_comment p)

left_by-moved : (more : ℕ) (o : Option OpenLine) (n : ℕ) (p : List ℕ) → line_left (moved_option more o) (n + more) p ≡ moved_option more (line_left o n p)
unfolding moved_option moved_open
left_by-moved more None n p = by_test (begins_plan p) (λ v. cond v None (left_open (joined None (n + more) p)) ≡ moved_option more (cond v None (left_open (joined None n p))))
    (λ _. refl) (λ _. left-moved more n (before_comment p))
left_by-moved more (Some line) n p = left-moved more line.number (line.bytes ++ before_comment p)

at_end-moved : (more : ℕ) (o : Option OpenLine) → line_at_end (moved_option more o) ≡ moved more (line_at_end o)
unfolding moved_option moved_open
at_end-moved more None = refl
at_end-moved more (Some line) = line_with-moved more line.number false (words_of line.bytes)

lines_from-moved : (qs : List (List ℕ)) (more : ℕ) (o : Option OpenLine) (n : ℕ) → lines_from (moved_option more o) (n + more) qs ≡ moved more (lines_from o n qs)
lines_from-moved [] more o n = at_end-moved more o
lines_from-moved (q ∷ qs) more o n =
    let e : n + more + 1 ≡ n + 1 + more = omega arith in
    ap (λ (x : List TextLine). x ++ lines_from (line_left (moved_option more o) (n + more) q) (n + more + 1) qs) (ended-moved more o n q)
    ∙ ap (λ (x : Option OpenLine). moved more (line_ended o n q) ++ lines_from x (n + more + 1) qs) (left_by-moved more o n q)
    ∙ ap (λ (m : ℕ). moved more (line_ended o n q) ++ lines_from (moved_option more (line_left o n q)) m qs) e
    ∙ ap (λ (x : List TextLine). moved more (line_ended o n q) ++ x) (lines_from-moved qs more (line_left o n q) (n + 1))
    ∙ sym (map-append (moved_line more) (line_ended o n q) (lines_from (line_left o n q) (n + 1) qs))

-- two texts parted by LF, where no line of the first goes on behind its end
pub lines_of-append : (a b : List ℕ) → HasNoOpenLine a → lines_of (a ++ 10 ∷ b) ≡ lines_of a ++ moved (length (physical_lines a)) (lines_of b)
unfolding moved_option
lines_of-append a b h =
    let more : ℕ = length (physical_lines a) in
    ap (lines_from None 1) (physical_lines-append a b) ∙ lines_from-append (physical_lines a) (physical_lines b) None 1 h
    ∙ ap (λ (x : List TextLine). lines_of a ++ x) (lines_from-moved (physical_lines b) more None 1)
