-- The scan with places goes with the reader with words, byte by byte.
use Rattle.std.proofs.Common.{◌≡◌, ℕ, ◌+◌, ◌-◌, ◌<◌, ◌≤◌, Bool, true, false, cond, List, [], ◌∷◌, ◌++◌, drop, length, get_or, eqb, refl, sym, ap, subst, ◌∙◌, append_assoc, arith, length-drop, add-zero}
use Rattle.std.specs.List.{slice_range}
use Rattle.std.proofs.lemmas.Bool.{eqb-true}
use Rattle.std.proofs.lemmas.List.{get_or-drop, drop-drop}
use Rattle.tsc_text.specs.declared.mode.Mode.{Mode}
use Rattle.tsc_text.specs.declared.mode.Mode.TheVariants.{Fresh, Hash, HashT, HashTs, HashTsc, Plan, Words, Slash, SlashReturn, Comment, CommentJoined}
use Rattle.tsc_text.specs.declared.scan.Scan.{Scan}
use Rattle.tsc_text.specs.TextLine.{line_with}
use Rattle.tsc_text.specs.Bytes.{is_blank, is_feed}
use Rattle.tsc_text.specs.Lines.{lines_of}
use Rattle.tsc_text.specs.Places.{AreWithin, IsRising, last_past, lines_at}
use Rattle.tsc_text.specs.Scan.{at_start, behind_return, behind_slash, feed, in_line, in_plan, in_words, next_joined, next_line, row_ended, run, scan_of, step, word_ended}
use Rattle.tsc_text.proofs.Reader.{Reader, line_done, part, read_behind_slash, read_end, read_feed, read_in_line, read_plan, read_step, read_words, to_fresh, to_joined, with_slash}
use Rattle.tsc_text.proofs.ReaderSteps.{by_test}
use Rattle.tsc_text.proofs.ReaderLaw.{lines_of-read, read_run, read_start}
use Rattle.tsc_text.proofs.Stored.{IsStored, slice_range-less, slice_range-more, slice_range-none, stored-row, stored-word}

-- the open word, with what is held back, as it stands in the text
abbrev IsOpenWord : Mode → List ℕ → List ℕ → Type 0
IsOpenWord Fresh bytes word = bytes ≡ word
IsOpenWord Hash bytes word = Unit {0}
IsOpenWord HashT bytes word = Unit {0}
IsOpenWord HashTs bytes word = Unit {0}
IsOpenWord HashTsc bytes word = Unit {0}
IsOpenWord Plan bytes word = bytes ≡ word
IsOpenWord Words bytes word = bytes ≡ word
IsOpenWord Slash bytes word = bytes ≡ word ++ 92 ∷ []
IsOpenWord SlashReturn bytes word = bytes ≡ word ++ 92 ∷ 13 ∷ []
IsOpenWord Comment bytes word = Unit {0}
IsOpenWord CommentJoined bytes word = Unit {0}

-- the numbers and the words that are kept
record IsKept (text : List ℕ) (s : Scan) (r : Reader) : Type 0 where
  stored : IsStored text s.table.places s.table.rows (last_past 0 s.table.rows) r.lines r.words
  number : s.number ≡ r.number
  first : s.first ≡ r.first

-- the machine with places, as the machine with words, before the byte at `at`
record IsSeen (text : List ℕ) (at : ℕ) (s : Scan) (r : Reader) : Type 0 where
  kept : IsKept text s r
  mode : s.mode ≡ r.mode
  start : s.start ≤ at
  word : IsOpenWord r.mode (slice_range text s.start at) r.word

-- a byte of a text
record HasByte (text : List ℕ) (at b : ℕ) : Type 0 where
  below : at < length text
  byte : get_or text at 0 ≡ b

kept-word : (text : List ℕ) (s : Scan) (r : Reader) (past : ℕ) → IsKept text s r → past ≤ length text → slice_range text s.start past ≡ r.word → IsKept text (word_ended s past) (part r)
kept-word text s r past k h e = record { stored = stored-word text s.table.places s.table.rows (last_past 0 s.table.rows) r.lines r.words s.start past r.word k.stored h e; number = k.number; first = k.first }

kept-row : (text : List ℕ) (s : Scan) (r : Reader) (is_plan : Bool) → IsKept text s r → IsKept text (row_ended s is_plan) (line_done r is_plan)
kept-row text s r is_plan k =
    let t : Scan = row_ended s is_plan in
    let P : ℕ → Type 0 = λ n. IsStored text s.table.places t.table.rows (length s.table.places) (r.lines ++ line_with n is_plan r.words) [] in
    let stored : IsStored text s.table.places t.table.rows (length s.table.places) (r.lines ++ line_with r.first is_plan r.words) [] =
    subst P k.first (stored-row text s.table.places s.table.rows (last_past 0 s.table.rows) r.lines r.words s.first is_plan k.stored) in
    let Q : ℕ → Type 0 = λ n. IsStored text s.table.places t.table.rows n (r.lines ++ line_with r.first is_plan r.words) [] in
    record { stored = subst Q (sym stored.last) stored; number = k.number; first = k.first }

seen-more : (text : List ℕ) (at b start : ℕ) (w : List ℕ) → HasByte text at b → start ≤ at → slice_range text start at ≡ w → slice_range text start (at + 1) ≡ w ++ b ∷ []
seen-more text at b start w h le e = slice_range-more text start at 0 le h.below ∙ ap (λ (x : List ℕ). x ++ get_or text at 0 ∷ []) e ∙ ap (λ (x : ℕ). w ++ x ∷ []) h.byte

-- a byte of a line that is no plan line
seen-words : (text : List ℕ) (at b : ℕ) (s : Scan) (r : Reader) → IsKept text s r → s.start ≤ at → slice_range text s.start at ≡ r.word → HasByte text at b → IsSeen text (at + 1) (in_words s at b) (read_words r b)
seen-words text at b s r k le e h =
    let ended : IsKept text (word_ended s at) (part r) = kept-word text s r at k (let lt : at < length text = h.below in omega arith) e in
    by_test (eqb b 35) (λ v. IsSeen text (at + 1)
    (cond v (record (word_ended s at) { mode = Comment }) (cond (eqb b 92) (record s { mode = Slash }) (cond (is_blank b) (record (word_ended s at) { start = at + 1; mode = Words }) (record s { mode = Words }))))
    (cond v (record (part r) { mode = Comment }) (cond (eqb b 92) (record r { mode = Slash }) (cond (is_blank b) (record (part r) { mode = Words }) (record r { word = r.word ++ b ∷ []; mode = Words })))))
    (λ _. record { kept = record { stored = ended.stored; number = ended.number; first = ended.first }; mode = refl; start = omega arith; word = tt })
    (λ _. by_test (eqb b 92) (λ v. IsSeen text (at + 1)
    (cond v (record s { mode = Slash }) (cond (is_blank b) (record (word_ended s at) { start = at + 1; mode = Words }) (record s { mode = Words })))
    (cond v (record r { mode = Slash }) (cond (is_blank b) (record (part r) { mode = Words }) (record r { word = r.word ++ b ∷ []; mode = Words }))))
    (λ t. record { kept = record { stored = k.stored; number = k.number; first = k.first }; mode = refl; start = omega arith; word = seen-more text at b s.start r.word h le e ∙ ap (λ (x : ℕ). r.word ++ x ∷ []) (eqb-true b 92 t) })
    (λ _. by_test (is_blank b) (λ v. IsSeen text (at + 1)
    (cond v (record (word_ended s at) { start = at + 1; mode = Words }) (record s { mode = Words }))
    (cond v (record (part r) { mode = Words }) (record r { word = r.word ++ b ∷ []; mode = Words })))
    (λ _. record { kept = record { stored = ended.stored; number = ended.number; first = ended.first }; mode = refl; start = omega arith; word = slice_range-none text (at + 1) })
    (λ _. record { kept = record { stored = k.stored; number = k.number; first = k.first }; mode = refl; start = omega arith; word = seen-more text at b s.start r.word h le e })))

-- a byte of a plan line
seen-plan : (text : List ℕ) (at b : ℕ) (s : Scan) (r : Reader) → IsKept text s r → s.mode ≡ Plan → r.mode ≡ Plan → s.start ≤ at → slice_range text s.start at ≡ r.word → HasByte text at b → IsSeen text (at + 1) (in_plan s at b) (read_plan r b)
seen-plan text at b s r k sm rm le e h =
    let ended : IsKept text (word_ended s at) (part r) = kept-word text s r at k (let lt : at < length text = h.below in omega arith) e in
    let W : List ℕ → List ℕ → Mode → Type 0 = λ bytes word m. IsOpenWord m bytes word in
    by_test (is_blank b) (λ v. IsSeen text (at + 1) (cond v (record (word_ended s at) { start = at + 1 }) s) (cond v (part r) (record r { word = r.word ++ b ∷ [] })))
    (λ _. record { kept = record { stored = ended.stored; number = ended.number; first = ended.first }; mode = sm ∙ sym rm; start = omega arith; word = subst (W (slice_range text (at + 1) (at + 1)) []) (sym rm) (slice_range-none text (at + 1)) })
    (λ _. record { kept = record { stored = k.stored; number = k.number; first = k.first }; mode = sm ∙ sym rm; start = omega arith; word = subst (W (slice_range text s.start (at + 1)) (r.word ++ b ∷ [])) (sym rm) (seen-more text at b s.start r.word h le e) })

-- a byte behind a `\`
seen-slash : (text : List ℕ) (at b : ℕ) (s : Scan) (r : Reader) → IsKept text s r → s.start ≤ at → slice_range text s.start at ≡ r.word ++ 92 ∷ [] → HasByte text at b → IsSeen text (at + 1) (behind_slash s at b) (read_behind_slash r b)
seen-slash text at b s r k le e h =
    let low : at ≤ length text = let lt : at < length text = h.below in omega arith in
    let ended : IsKept text (word_ended s (at - 1)) (part r) = kept-word text s r (at - 1) k (omega arith) (slice_range-less text r.word (92 ∷ []) s.start at le low e) in
    by_test (eqb b 35) (λ v. IsSeen text (at + 1)
    (cond v (record (word_ended s (at - 1)) { mode = CommentJoined }) (cond (eqb b 13) (record s { mode = SlashReturn }) (in_words s at b)))
    (cond v (record (part r) { mode = CommentJoined }) (cond (eqb b 13) (record r { mode = SlashReturn }) (read_words (with_slash r) b))))
    (λ _. record { kept = record { stored = ended.stored; number = ended.number; first = ended.first }; mode = refl; start = omega arith; word = tt })
    (λ _. by_test (eqb b 13) (λ v. IsSeen text (at + 1) (cond v (record s { mode = SlashReturn }) (in_words s at b)) (cond v (record r { mode = SlashReturn }) (read_words (with_slash r) b)))
    (λ t. record {
      kept = record { stored = k.stored; number = k.number; first = k.first };
      mode = refl;
      start = omega arith;
      word = seen-more text at b s.start (r.word ++ 92 ∷ []) h le e ∙ append_assoc r.word (92 ∷ []) (b ∷ []) ∙ ap (λ (x : ℕ). r.word ++ 92 ∷ x ∷ []) (eqb-true b 13 t);
    })
    (λ _. seen-words text at b s (with_slash r) (record { stored = k.stored; number = k.number; first = k.first }) le e h))

-- a byte behind a `\` and a CR
seen-return : (text : List ℕ) (at b : ℕ) (s : Scan) (r : Reader) → IsKept text s r → s.start ≤ at → slice_range text s.start at ≡ r.word ++ 92 ∷ 13 ∷ [] → HasByte text at b → IsSeen text (at + 1) (behind_return s at b) (read_words (part (with_slash r)) b)
seen-return text at b s r k le e h =
    let low : at ≤ length text = let lt : at < length text = h.below in omega arith in
    let e2 : slice_range text s.start at ≡ (r.word ++ 92 ∷ []) ++ 13 ∷ [] = e ∙ sym (append_assoc r.word (92 ∷ []) (13 ∷ [])) in
    let ended : IsKept text (word_ended s (at - 1)) (part (with_slash r)) = kept-word text s (with_slash r) (at - 1) (record { stored = k.stored; number = k.number; first = k.first }) (omega arith) (slice_range-less text (r.word ++ 92 ∷ []) (13 ∷ []) s.start at le low e2) in
    seen-words text at b (record (word_ended s (at - 1)) { start = at }) (part (with_slash r)) (record { stored = ended.stored; number = ended.number; first = ended.first }) (omega arith) (slice_range-none text at) h

-- a byte that is no LF
seen-line-at : (m : Mode) (text : List ℕ) (at b : ℕ) (s : Scan) (r : Reader) → IsSeen text at (record s { mode = m }) (record r { mode = m }) → HasByte text at b →
    IsSeen text (at + 1) (in_line (record s { mode = m }) at b) (read_in_line (record r { mode = m }) b)
seen-line-at Fresh text at b s r h g = by_test (eqb b 35) (λ v. IsSeen text (at + 1) (cond v (record s { mode = Hash }) (in_words (record s { mode = Fresh }) at b)) (cond v (record r { mode = Hash }) (read_words (record r { mode = Fresh }) b)))
    (λ _. record { kept = record { stored = h.kept.stored; number = h.kept.number; first = h.kept.first }; mode = refl; start = omega (arith, h.start); word = tt })
    (λ _. seen-words text at b (record s { mode = Fresh }) (record r { mode = Fresh }) h.kept h.start h.word g)
seen-line-at Hash text at b s r h g = by_test (eqb b 116) (λ v. IsSeen text (at + 1) (record s { mode = cond v HashT Comment }) (record r { mode = cond v HashT Comment }))
    (λ _. record { kept = record { stored = h.kept.stored; number = h.kept.number; first = h.kept.first }; mode = refl; start = omega (arith, h.start); word = tt })
    (λ _. record { kept = record { stored = h.kept.stored; number = h.kept.number; first = h.kept.first }; mode = refl; start = omega (arith, h.start); word = tt })
seen-line-at HashT text at b s r h g = by_test (eqb b 115) (λ v. IsSeen text (at + 1) (record s { mode = cond v HashTs Comment }) (record r { mode = cond v HashTs Comment }))
    (λ _. record { kept = record { stored = h.kept.stored; number = h.kept.number; first = h.kept.first }; mode = refl; start = omega (arith, h.start); word = tt })
    (λ _. record { kept = record { stored = h.kept.stored; number = h.kept.number; first = h.kept.first }; mode = refl; start = omega (arith, h.start); word = tt })
seen-line-at HashTs text at b s r h g = by_test (eqb b 99) (λ v. IsSeen text (at + 1) (record s { mode = cond v HashTsc Comment }) (record r { mode = cond v HashTsc Comment }))
    (λ _. record { kept = record { stored = h.kept.stored; number = h.kept.number; first = h.kept.first }; mode = refl; start = omega (arith, h.start); word = tt })
    (λ _. record { kept = record { stored = h.kept.stored; number = h.kept.number; first = h.kept.first }; mode = refl; start = omega (arith, h.start); word = tt })
seen-line-at HashTsc text at b s r h g = by_test (eqb b 32) (λ v. IsSeen text (at + 1) (record s { start = at + 1; mode = cond v Plan Comment }) (record r { word = []; mode = cond v Plan Comment }))
    (λ _. record { kept = record { stored = h.kept.stored; number = h.kept.number; first = h.kept.first }; mode = refl; start = omega arith; word = slice_range-none text (at + 1) })
    (λ _. record { kept = record { stored = h.kept.stored; number = h.kept.number; first = h.kept.first }; mode = refl; start = omega arith; word = tt })
seen-line-at Plan text at b s r h g = seen-plan text at b (record s { mode = Plan }) (record r { mode = Plan }) h.kept refl refl h.start h.word g
seen-line-at Words text at b s r h g = seen-words text at b (record s { mode = Words }) (record r { mode = Words }) h.kept h.start h.word g
seen-line-at Slash text at b s r h g = seen-slash text at b (record s { mode = Slash }) (record r { mode = Slash }) h.kept h.start h.word g
seen-line-at SlashReturn text at b s r h g = seen-return text at b (record s { mode = SlashReturn }) (record r { mode = SlashReturn }) h.kept h.start h.word g
seen-line-at Comment text at b s r h g = record { kept = h.kept; mode = refl; start = omega (arith, h.start); word = tt }
seen-line-at CommentJoined text at b s r h g = record { kept = h.kept; mode = refl; start = omega (arith, h.start); word = tt }

-- an LF, or the end of the text
seen-next : (text : List ℕ) (at : ℕ) (s : Scan) (r : Reader) → IsKept text s r → IsSeen text (at + 1) (next_line s at) (to_fresh r)
seen-next text at s r k = record {
  kept = record { stored = k.stored; number = ap (λ (n : ℕ). n + 1) k.number; first = ap (λ (n : ℕ). n + 1) k.number };
  mode = refl;
  start = omega arith;
  word = slice_range-none text (at + 1);
}

seen-joined : (text : List ℕ) (at : ℕ) (s : Scan) (r : Reader) → IsKept text s r → IsSeen text (at + 1) (next_joined s at) (to_joined r)
seen-joined text at s r k = record {
  kept = record { stored = k.stored; number = ap (λ (n : ℕ). n + 1) k.number; first = k.first };
  mode = refl;
  start = omega arith;
  word = slice_range-none text (at + 1);
}

seen-feed-at : (m : Mode) (text : List ℕ) (at : ℕ) (s : Scan) (r : Reader) → at ≤ length text → IsSeen text at (record s { mode = m }) (record r { mode = m }) →
    IsSeen text (at + 1) (feed (record s { mode = m }) at) (read_feed (record r { mode = m }))
seen-feed-at Fresh text at s r le h = seen-next text at _ _ (kept-row text (record s { mode = Fresh }) (record r { mode = Fresh }) false h.kept)
seen-feed-at Hash text at s r le h = seen-next text at _ _ (kept-row text (record s { mode = Hash }) (record r { mode = Hash }) false h.kept)
seen-feed-at HashT text at s r le h = seen-next text at _ _ (kept-row text (record s { mode = HashT }) (record r { mode = HashT }) false h.kept)
seen-feed-at HashTs text at s r le h = seen-next text at _ _ (kept-row text (record s { mode = HashTs }) (record r { mode = HashTs }) false h.kept)
seen-feed-at HashTsc text at s r le h = seen-next text at _ _ (kept-row text (record s { mode = HashTsc }) (record r { mode = HashTsc }) false h.kept)
seen-feed-at Plan text at s r le h = seen-next text at _ _ (kept-row text (word_ended (record s { mode = Plan }) at) (part (record r { mode = Plan })) true (kept-word text (record s { mode = Plan }) (record r { mode = Plan }) at h.kept le h.word))
seen-feed-at Words text at s r le h = seen-next text at _ _ (kept-row text (word_ended (record s { mode = Words }) at) (part (record r { mode = Words })) false (kept-word text (record s { mode = Words }) (record r { mode = Words }) at h.kept le h.word))
seen-feed-at Slash text at s r le h = seen-joined text at _ _ (kept-word text (record s { mode = Slash }) (record r { mode = Slash }) (at - 1) h.kept (omega arith) (slice_range-less text r.word (92 ∷ []) s.start at h.start le h.word))
seen-feed-at SlashReturn text at s r le h = seen-joined text at _ _ (kept-word text (record s { mode = SlashReturn }) (record r { mode = SlashReturn }) (at - 2) h.kept (omega arith) (slice_range-less text r.word (92 ∷ 13 ∷ []) s.start at h.start le h.word))
seen-feed-at Comment text at s r le h = seen-next text at _ _ (kept-row text (record s { mode = Comment }) (record r { mode = Comment }) false h.kept)
seen-feed-at CommentJoined text at s r le h = seen-joined text at _ _ h.kept

-- the modes are the same
seen-feed : (text : List ℕ) (at : ℕ) (s : Scan) (r : Reader) → at ≤ length text → IsSeen text at s r → IsSeen text (at + 1) (feed s at) (read_feed r)
seen-feed text at s r le h =
    let P : Mode → Type 0 = λ m. IsSeen text at (record s { mode = m }) r → IsSeen text (at + 1) (feed (record s { mode = m }) at) (read_feed r) in
    subst P (sym h.mode) (λ g. seen-feed-at r.mode text at s r le g) h

seen-line : (text : List ℕ) (at b : ℕ) (s : Scan) (r : Reader) → HasByte text at b → IsSeen text at s r → IsSeen text (at + 1) (in_line s at b) (read_in_line r b)
seen-line text at b s r g h =
    let P : Mode → Type 0 = λ m. IsSeen text at (record s { mode = m }) r → IsSeen text (at + 1) (in_line (record s { mode = m }) at b) (read_in_line r b) in
    subst P (sym h.mode) (λ k. seen-line-at r.mode text at b s r k g) h

seen-step : (text : List ℕ) (at b : ℕ) (s : Scan) (r : Reader) → HasByte text at b → IsSeen text at s r → IsSeen text (at + 1) (step s at b) (read_step r b)
seen-step text at b s r g h =
    by_test (is_feed b) (λ v. IsSeen text (at + 1) (cond v (feed s at) (in_line s at b)) (cond v (read_feed r) (read_in_line r b)))
    (λ _. seen-feed text at s r (let lt : at < length text = g.below in omega arith) h)
    (λ _. seen-line text at b s r g h)

has_byte : (text : List ℕ) (at b : ℕ) (bs : List ℕ) → drop at text ≡ b ∷ bs → HasByte text at b
has_byte text at b bs e = record {
  below = let l : length text - at ≡ length (b ∷ bs) = sym (length-drop at text) ∙ ap length e in omega arith;
  byte = ap (λ (n : ℕ). get_or text n 0) (sym (add-zero at)) ∙ sym (get_or-drop at text 0 0) ∙ ap (λ (x : List ℕ). get_or x 0 0) e;
}

seen-run : (text : List ℕ) (bs : List ℕ) (at : ℕ) (s : Scan) (r : Reader) → drop at text ≡ bs → IsSeen text at s r → IsSeen text (at + length bs) (run s at bs) (read_run r bs)
seen-run text [] at s r e h = let P : ℕ → Type 0 = λ n. IsSeen text n s r in subst P (sym (add-zero at)) h
seen-run text (b ∷ bs) at s r e h =
    let P : ℕ → Type 0 = λ n. IsSeen text n (run (step s at b) (at + 1) bs) (read_run (read_step r b) bs) in
    let sum : at + 1 + length bs ≡ at + length (b ∷ bs) = omega arith in
    subst P sum (seen-run text bs (at + 1) (step s at b) (read_step r b) (sym (drop-drop 1 at text) ∙ ap (drop 1) e) (seen-step text at b s r (has_byte text at b bs e) h))

seen-start : (text : List ℕ) → IsSeen text 0 at_start read_start
seen-start text = record {
  kept = record { stored = record { lines_are = refl; words_are = refl; last = refl; rising = omega arith; within = λ k d h. absurd (omega arith) }; number = refl; first = refl };
  mode = refl;
  start = omega arith;
  word = refl;
}

seen-all : (text : List ℕ) → IsKept text (scan_of text) (read_end (read_run read_start text))
seen-all text =
    let h : IsSeen text (0 + length text) (run at_start 0 text) (read_run read_start text) = seen-run text text 0 at_start read_start refl (seen-start text) in
    let g : IsSeen text (length text) (run at_start 0 text) (read_run read_start text) = let P : ℕ → Type 0 = λ n. IsSeen text n (run at_start 0 text) (read_run read_start text) in let e : 0 + length text ≡ length text = omega arith in subst P e h in
    kept-row text (feed (run at_start 0 text) (length text)) (read_feed (read_run read_start text)) false (seen-feed text (length text) _ _ (omega arith) g).kept

-- the machine gives the lines of the text
pub lines_of-scan : (text : List ℕ) → lines_at text (scan_of text).table.places 0 (scan_of text).table.rows ≡ lines_of text
lines_of-scan text = (seen-all text).stored.lines_are ∙ sym (lines_of-read text)

pub rising-scan : (text : List ℕ) → IsRising 0 (scan_of text).table.rows (length (scan_of text).table.places)
rising-scan text = (seen-all text).stored.rising

pub within-scan : (text : List ℕ) → AreWithin text (scan_of text).table.places
within-scan text = (seen-all text).stored.within
