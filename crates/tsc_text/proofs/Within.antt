-- How many words and lines a scan has after so many bytes, at most.
use Rattle.std.proofs.Common.{◌≡◌, ℕ, ◌+◌, ◌-◌, ◌<◌, ◌≤◌, min, Bool, true, cond, List, [], ◌∷◌, ◌++◌, drop, length, get_or, eqb, Some, refl, sym, ap, subst, ◌∙◌, arith, length-append}
use Rattle.std.proofs.Math.Dec.{ltb}
use Rattle.std.proofs.lemmas.List.{drop_more}
use Rattle.std.proofs.lemmas.Bool.{ltb-true}
use Rattle.tsc_text.specs.declared.places.Place.{Place}
use Rattle.tsc_text.specs.declared.mode.Mode.{Mode}
use Rattle.tsc_text.specs.declared.mode.Mode.TheVariants.{Fresh, Hash, HashT, HashTs, HashTsc, Plan, Words, Slash, SlashReturn, Comment, CommentJoined}
use Rattle.tsc_text.specs.declared.scan.Scan.{Scan}
use Rattle.tsc_text.specs.Bytes.{bad_line, bad_line_from, is_allowed, is_blank, is_feed, number_after}
use Rattle.tsc_text.specs.Scan.{IsWithin, at_start, behind_return, behind_slash, feed, finish, in_line, in_words, run, step, with_place, word_ended}
use Rattle.tsc_text.proofs.ReaderSteps.{by_test}

-- one word more at most, and none before the first byte
length-with_place : (places : List Place) (start past : ℕ) → length (with_place places start past) ≤ length places + min past 1
length-with_place places start past =
    let place : Place = record { start = start; past = past } in
    by_test (ltb start past) (λ v. length (cond v (places ++ place ∷ []) places) ≤ length places + min past 1) (λ t. let lt : start < past = ltb-true start past t in omega (arith, length-append places (place ∷ []))) (λ _. omega arith)

with_place-none : (places : List Place) (at : ℕ) → with_place places at at ≡ places
with_place-none places at =
    let place : Place = record { start = at; past = at } in
    by_test (ltb at at) (λ v. cond v (places ++ place ∷ []) places ≡ places) (λ t. let lt : at < at = ltb-true at at t in absurd (omega arith)) (λ _. refl)

-- within a line: so many words at most, and the number stays
record IsNear (most : ℕ) (s t : Scan) : Type 0 where
  words : length t.table.places ≤ most
  lines : t.number ≡ s.number

near-words : (most : ℕ) (s : Scan) (at b : ℕ) → length s.table.places ≤ most → length (with_place s.table.places s.start at) ≤ most → IsNear most s (in_words s at b)
near-words most s at b fits ended =
    by_test (eqb b 35) (λ v. IsNear most s (cond v (record (word_ended s at) { mode = Comment }) (cond (eqb b 92) (record s { mode = Slash }) (cond (is_blank b) (record (word_ended s at) { start = at + 1; mode = Words }) (record s { mode = Words })))))
    (λ _. record { words = ended; lines = refl })
    (λ _. by_test (eqb b 92) (λ v. IsNear most s (cond v (record s { mode = Slash }) (cond (is_blank b) (record (word_ended s at) { start = at + 1; mode = Words }) (record s { mode = Words }))))
    (λ _. record { words = fits; lines = refl })
    (λ _. by_test (is_blank b) (λ v. IsNear most s (cond v (record (word_ended s at) { start = at + 1; mode = Words }) (record s { mode = Words })))
    (λ _. record { words = ended; lines = refl })
    (λ _. record { words = fits; lines = refl })))

near-in_words : (s : Scan) (at b : ℕ) → IsNear (length s.table.places + min at 1) s (in_words s at b)
near-in_words s at b = near-words (length s.table.places + min at 1) s at b (omega arith) (length-with_place s.table.places s.start at)

near-slash : (s : Scan) (at b : ℕ) → IsNear (length s.table.places + min at 1) s (behind_slash s at b)
near-slash s at b = by_test (eqb b 35) (λ v. IsNear (length s.table.places + min at 1) s (cond v (record (word_ended s (at - 1)) { mode = CommentJoined }) (cond (eqb b 13) (record s { mode = SlashReturn }) (in_words s at b))))
    (λ _. record { words = omega (arith, length-with_place s.table.places s.start (at - 1)); lines = refl })
    (λ _. by_test (eqb b 13) (λ v. IsNear (length s.table.places + min at 1) s (cond v (record s { mode = SlashReturn }) (in_words s at b)))
    (λ _. record { words = omega arith; lines = refl })
    (λ _. near-in_words s at b))

near-return : (s : Scan) (at b : ℕ) → IsNear (length s.table.places + min at 1) s (behind_return s at b)
near-return s at b =
    let t : Scan = record (word_ended s (at - 1)) { start = at } in
    let fits : length t.table.places ≤ length s.table.places + min at 1 = omega (arith, length-with_place s.table.places s.start (at - 1)) in
    let P : List Place → Type 0 = λ x. length x ≤ length s.table.places + min at 1 in
    let near : IsNear (length s.table.places + min at 1) t (in_words t at b) = near-words (length s.table.places + min at 1) t at b fits (subst P (sym (with_place-none t.table.places at)) fits) in
    record { words = near.words; lines = near.lines }

near-line : (m : Mode) (s : Scan) (at b : ℕ) → IsNear (length s.table.places + min at 1) s (in_line (record s { mode = m }) at b)
near-line Fresh s at b = by_test (eqb b 35) (λ v. IsNear (length s.table.places + min at 1) s (cond v (record s { mode = Hash }) (in_words (record s { mode = Fresh }) at b)))
    (λ _. record { words = omega arith; lines = refl })
    (λ _. let near : IsNear (length s.table.places + min at 1) (record s { mode = Fresh }) (in_words (record s { mode = Fresh }) at b) = near-in_words (record s { mode = Fresh }) at b in record { words = near.words; lines = near.lines })
near-line Hash s at b = record { words = omega arith; lines = refl }
near-line HashT s at b = record { words = omega arith; lines = refl }
near-line HashTs s at b = record { words = omega arith; lines = refl }
near-line HashTsc s at b = record { words = omega arith; lines = refl }
near-line Plan s at b = by_test (is_blank b) (λ v. IsNear (length s.table.places + min at 1) s (cond v (record (word_ended (record s { mode = Plan }) at) { start = at + 1 }) (record s { mode = Plan })))
    (λ _. record { words = length-with_place s.table.places s.start at; lines = refl })
    (λ _. record { words = omega arith; lines = refl })
near-line Words s at b = let near : IsNear (length s.table.places + min at 1) (record s { mode = Words }) (in_words (record s { mode = Words }) at b) = near-in_words (record s { mode = Words }) at b in record { words = near.words; lines = near.lines }
near-line Slash s at b = let near : IsNear (length s.table.places + min at 1) (record s { mode = Slash }) (behind_slash (record s { mode = Slash }) at b) = near-slash (record s { mode = Slash }) at b in record { words = near.words; lines = near.lines }
near-line SlashReturn s at b = let near : IsNear (length s.table.places + min at 1) (record s { mode = SlashReturn }) (behind_return (record s { mode = SlashReturn }) at b) = near-return (record s { mode = SlashReturn }) at b in record { words = near.words; lines = near.lines }
near-line Comment s at b = record { words = omega arith; lines = refl }
near-line CommentJoined s at b = record { words = omega arith; lines = refl }

-- an LF: so many words at most, and one line more
record IsNext (at : ℕ) (s t : Scan) : Type 0 where
  words : length t.table.places ≤ length s.table.places + min at 1
  lines : t.number ≡ s.number + 1

next-feed : (m : Mode) (s : Scan) (at : ℕ) → IsNext at s (feed (record s { mode = m }) at)
next-feed Fresh s at = record { words = omega arith; lines = refl }
next-feed Hash s at = record { words = omega arith; lines = refl }
next-feed HashT s at = record { words = omega arith; lines = refl }
next-feed HashTs s at = record { words = omega arith; lines = refl }
next-feed HashTsc s at = record { words = omega arith; lines = refl }
next-feed Plan s at = record { words = length-with_place s.table.places s.start at; lines = refl }
next-feed Words s at = record { words = length-with_place s.table.places s.start at; lines = refl }
next-feed Slash s at = record { words = omega (arith, length-with_place s.table.places s.start (at - 1)); lines = refl }
next-feed SlashReturn s at = record { words = omega (arith, length-with_place s.table.places s.start (at - 2)); lines = refl }
next-feed Comment s at = record { words = omega arith; lines = refl }
next-feed CommentJoined s at = record { words = omega arith; lines = refl }

number-step : (s : Scan) (at b : ℕ) → (step s at b).number ≡ number_after s.number b
number-step s at b = by_test (is_feed b) (λ v. (cond v (feed s at) (in_line s at b)).number ≡ cond v (s.number + 1) s.number)
    (λ _. (next-feed s.mode s at).lines) (λ _. (near-line s.mode s at b).lines)

within-step : (s : Scan) (at b : ℕ) → IsWithin s at → IsWithin (step s at b) (at + 1)
within-step s at b h = by_test (is_feed b) (λ v. IsWithin (cond v (feed s at) (in_line s at b)) (at + 1))
    (λ _. let g : IsNext at s (feed s at) = next-feed s.mode s at in record { words = omega (arith, g.words, h.words); lines = omega (arith, g.lines, h.lines) })
    (λ _. let g : IsNear (length s.table.places + min at 1) s (in_line s at b) = near-line s.mode s at b in record { words = omega (arith, g.words, h.words); lines = omega (arith, g.lines, h.lines) })

-- at the end there is one word more, at most
pub finish_few : (s : Scan) (at : ℕ) → IsWithin s at → length (finish s at).table.places ≤ at + 1
finish_few s at h = let g : IsNext at s (feed s at) = next-feed s.mode s at in omega (arith, g.words, h.words)

-- what the loop over the bytes keeps
pub record IsRead (text : List ℕ) (at : ℕ) (s : Scan) : Type 0 where
  pub read : run s at (drop at text) ≡ run at_start 0 text
  pub allowed : bad_line_from s.number (drop at text) ≡ bad_line text
  pub within : IsWithin s at

pub read-step : (text : List ℕ) (at b : ℕ) (s : Scan) → at < length text → b ≡ get_or text at b → is_allowed b ≡ true → IsRead text at s → IsRead text (at + 1) (step s at b)
read-step text at b s lt is allowed h =
    let rest : drop at text ≡ b ∷ drop (at + 1) text = drop_more text at b lt ∙ ap (λ (x : ℕ). x ∷ drop (at + 1) text) (sym is) in
    record {
      read = sym (ap (run s at) rest) ∙ h.read;
      allowed = ap (λ (n : ℕ). bad_line_from n (drop (at + 1) text)) (number-step s at b)
          ∙ sym (ap (λ (v : Bool). cond v (bad_line_from (number_after s.number b) (drop (at + 1) text)) (Some s.number)) allowed)
          ∙ sym (ap (bad_line_from s.number) rest) ∙ h.allowed;
      within = within-step s at b h.within;
    }
