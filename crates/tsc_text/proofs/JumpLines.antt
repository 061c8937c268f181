-- Lines that are kept by how they end and by the jumps of their numbers.
use Rattle.std.proofs.Common.{◌≡◌, ℕ, ◌+◌, ◌-◌, ◌<◌, ◌≤◌, cond, true, false, List, [], ◌∷◌, ◌++◌, zero, suc, length, get_or, leb, leb-false, leb-true, eqb, eq-eqb, ne_eqb, Result, Ok, Err, OnOk, OnErr, refl, sym, ap, subst, ◌∙◌, arith, length-append}
use Rattle.std.specs.List.{All}
use Rattle.std.proofs.lemmas.Bool.{eqb-true}
use Rattle.std.proofs.lemmas.List.Elements.{All-head, All-push, All-tail}
use Rattle.std.proofs.lemmas.List.Sorted.{IsNonDecreasingBy-push}
use Rattle.tsc_text.specs.declared.jumps.Jump.{Jump}
use Rattle.tsc_text.specs.Jumps.{AreJumps, first_jump, jump_at, jump_from, number_behind, lines_of_marks, with_number}
use Rattle.tsc_text.specs.Row.{KeptLine, Mark, kept_line, no_kept, the_kept}
use Rattle.tsc_text.proofs.ReaderSteps.{by_test}

-- the last jump up to a line is the one behind which the first greater one stands
pub jump_from-found : (last : Jump) (jumps : List Jump) (line count : ℕ) → count ≤ length jumps
    → ((k : ℕ) (d : Jump) → k < count → leb (get_or jumps k d).line line ≡ true)
    → ((k : ℕ) (d : Jump) → count ≤ k → k < length jumps → leb (get_or jumps k d).line line ≡ false)
    → (d : Jump) → jump_from last jumps line ≡ get_or (last ∷ jumps) count d
jump_from-found last [] line zero fits low high d = refl
jump_from-found last [] line (suc count) fits low high d = absurd (omega arith)
jump_from-found last (jump ∷ jumps) line zero fits low high d =
    ap (λ v. cond v (jump_from jump jumps line) last) (high 0 d (omega arith) (omega arith))
jump_from-found last (jump ∷ jumps) line (suc count) fits low high d =
    ap (λ v. cond v (jump_from jump jumps line) last) (low 0 d (omega arith))
    ∙ jump_from-found jump jumps line count (omega arith) (λ k e h. low (suc k) e (omega arith)) (λ k e h j. high (suc k) e (omega arith) (omega arith)) d

-- where all jumps stand at or before a line, it is told from the last of them
pub jump_from-last : (last : Jump) (jumps : List Jump) (line : ℕ) → All (λ (jump : Jump). jump.line ≤ line) jumps → (d : Jump)
    → jump_from last jumps line ≡ get_or (last ∷ jumps) (length jumps) d
jump_from-last last [] line h d = refl
jump_from-last last (jump ∷ jumps) line h d =
    by_test (leb jump.line line) (λ v. cond v (jump_from jump jumps line) last ≡ get_or (jump ∷ jumps) (length jumps) d)
    (λ _. jump_from-last jump jumps line (All-tail (λ (j : Jump). j.line ≤ line) jump jumps h) d)
    (λ t. absurd (omega (arith, All-head (λ (j : Jump). j.line ≤ line) jump jumps h, leb-false jump.line line t)))

-- a jump behind a line changes nothing
jump_from-more : (last : Jump) (jumps : List Jump) (new : Jump) (line : ℕ) → line < new.line → jump_from last (jumps ++ new ∷ []) line ≡ jump_from last jumps line
jump_from-more last [] new line h =
    by_test (leb new.line line) (λ v. cond v new last ≡ last) (λ t. absurd (omega (arith, leb-true new.line line t))) (λ _. refl)
jump_from-more last (jump ∷ jumps) new line h = ap (λ (x : Jump). cond (leb jump.line line) x last) (jump_from-more jump jumps new line h)

-- a jump at a line
jump_from-new : (last : Jump) (jumps : List Jump) (new : Jump) (line : ℕ) → new.line ≡ line → All (λ (jump : Jump). jump.line ≤ line) jumps
    → jump_from last (jumps ++ new ∷ []) line ≡ new
jump_from-new last [] new line e h =
    by_test (leb new.line line) (λ v. cond v new last ≡ new) (λ _. refl) (λ t. absurd (omega (arith, leb-false new.line line t)))
jump_from-new last (jump ∷ jumps) new line e h =
    by_test (leb jump.line line) (λ v. cond v (jump_from jump (jumps ++ new ∷ []) line) last ≡ new)
    (λ _. jump_from-new jump jumps new line e (All-tail (λ (j : Jump). j.line ≤ line) jump jumps h))
    (λ t. absurd (omega (arith, All-head (λ (j : Jump). j.line ≤ line) jump jumps h, leb-false jump.line line t)))

pub length-lines_from : (jumps : List Jump) (line : ℕ) (marks : List Mark) → length (lines_of_marks jumps line marks) ≡ length marks
length-lines_from jumps line [] = refl
length-lines_from jumps line (mark ∷ marks) = ap suc (length-lines_from jumps (line + 1) marks)

pub get_or-lines_from : (jumps : List Jump) (line : ℕ) (marks : List Mark) (k : ℕ) (d : KeptLine) (m : Mark) → k < length marks
    → get_or (lines_of_marks jumps line marks) k d ≡ kept_line (number_behind (jump_at jumps (line + k)) (line + k)) (get_or marks k m)
get_or-lines_from jumps line [] k d m h = absurd (omega arith)
get_or-lines_from jumps line (mark ∷ marks) zero d m h =
    let e : line ≡ line + 0 = omega arith in
    ap (λ (n : ℕ). kept_line (number_behind (jump_at jumps n) n) mark) e
get_or-lines_from jumps line (mark ∷ marks) (suc k) d m h =
    let e : line + 1 + k ≡ line + suc k = omega arith in
    get_or-lines_from jumps (line + 1) marks k d m (omega arith)
    ∙ ap (λ (n : ℕ). kept_line (number_behind (jump_at jumps n) n) (get_or marks k m)) e

-- one line more
pub lines_from-push : (jumps : List Jump) (line : ℕ) (marks : List Mark) (mark : Mark)
    → lines_of_marks jumps line (marks ++ mark ∷ []) ≡ lines_of_marks jumps line marks ++ kept_line (number_behind (jump_at jumps (line + length marks)) (line + length marks)) mark ∷ []
lines_from-push jumps line [] mark =
    let e : line ≡ line + 0 = omega arith in
    ap (λ (n : ℕ). kept_line (number_behind (jump_at jumps n) n) mark ∷ []) e
lines_from-push jumps line (m ∷ marks) mark =
    let e : line + 1 + length marks ≡ line + length (m ∷ marks) = omega arith in
    let first : KeptLine = kept_line (number_behind (jump_at jumps line) line) m in
    ap (λ (lines : List KeptLine). first ∷ lines)
    (lines_from-push jumps (line + 1) marks mark
    ∙ ap (λ (n : ℕ). lines_of_marks jumps (line + 1) marks ++ kept_line (number_behind (jump_at jumps n) n) mark ∷ []) e)

-- a jump behind these lines changes none of them
lines_from-more : (jumps : List Jump) (new : Jump) (line : ℕ) (marks : List Mark) → line + length marks ≤ new.line
    → lines_of_marks (jumps ++ new ∷ []) line marks ≡ lines_of_marks jumps line marks
lines_from-more jumps new line [] h = refl
lines_from-more jumps new line (mark ∷ marks) h =
    ap (λ (x : Jump). kept_line (number_behind x line) mark ∷ lines_of_marks (jumps ++ new ∷ []) (line + 1) marks) (jump_from-more first_jump jumps new line (omega arith))
    ∙ ap (λ (lines : List KeptLine). kept_line (number_behind (jump_at jumps line) line) mark ∷ lines) (lines_from-more jumps new (line + 1) marks (omega arith))

-- a line is pushed
pub lines_from-number : (jumps : List Jump) (marks : List Mark) (number : ℕ) (mark : Mark) → All (λ (jump : Jump). jump.line ≤ length marks) jumps
    → lines_of_marks (with_number jumps (length marks) number) 0 (marks ++ mark ∷ []) ≡ lines_of_marks jumps 0 marks ++ kept_line number mark ∷ []
lines_from-number jumps marks number mark h =
    let n : ℕ = length marks in
    let zeros : 0 + n ≡ n = omega arith in
    let new : Jump = record { line = n; number = number } in
    let more : List Jump = jumps ++ new ∷ [] in
    let behind : n + 0 ≡ n = omega arith in
    let told : number + (n - n) ≡ number = omega arith in
    by_test (eqb (number_behind (jump_at jumps n) n) number) (λ v. lines_of_marks (cond v jumps more) 0 (marks ++ mark ∷ []) ≡ lines_of_marks jumps 0 marks ++ kept_line number mark ∷ [])
    (λ t. lines_from-push jumps 0 marks mark
    ∙ ap (λ (k : ℕ). lines_of_marks jumps 0 marks ++ kept_line (number_behind (jump_at jumps k) k) mark ∷ []) zeros
    ∙ ap (λ (k : ℕ). lines_of_marks jumps 0 marks ++ kept_line k mark ∷ []) (eqb-true (number_behind (jump_at jumps n) n) number t))
    (λ _. lines_from-push more 0 marks mark
    ∙ ap (λ (k : ℕ). lines_of_marks more 0 marks ++ kept_line (number_behind (jump_at more k) k) mark ∷ []) zeros
    ∙ ap (λ (x : Jump). lines_of_marks more 0 marks ++ kept_line (number_behind x n) mark ∷ []) (jump_from-new first_jump jumps new n refl h)
    ∙ ap (λ (k : ℕ). lines_of_marks more 0 marks ++ kept_line k mark ∷ []) told
    ∙ ap (λ (lines : List KeptLine). lines ++ kept_line number mark ∷ []) (lines_from-more jumps new 0 marks (omega arith)))

-- a jump that is told before its line changes nothing
pub lines_from-told : (jumps : List Jump) (marks : List Mark) (number : ℕ) → lines_of_marks (with_number jumps (length marks) number) 0 marks ≡ lines_of_marks jumps 0 marks
lines_from-told jumps marks number =
    let n : ℕ = length marks in
    let new : Jump = record { line = n; number = number } in
    by_test (eqb (number_behind (jump_at jumps n) n) number) (λ v. lines_of_marks (cond v jumps (jumps ++ new ∷ [])) 0 marks ≡ lines_of_marks jumps 0 marks)
    (λ _. refl)
    (λ _. lines_from-more jumps new 0 marks (omega arith))

-- what the jumps keep to
are-told : (jumps : List Jump) (marks : List Mark) (number : ℕ) → AreJumps jumps marks → AreJumps (with_number jumps (length marks) number) marks
are-told jumps marks number h =
    let n : ℕ = length marks in
    let new : Jump = record { line = n; number = number } in
    by_test (eqb (number_behind (jump_at jumps n) n) number) (λ v. AreJumps (cond v jumps (jumps ++ new ∷ [])) marks)
    (λ _. h)
    (λ _. record {
      rises = IsNonDecreasingBy-push (λ (jump : Jump). jump.line) jumps new h.rises (λ d lt. h.listed (length jumps - 1) d (omega arith));
      listed = All-push (λ (jump : Jump). jump.line ≤ n) jumps new h.listed (omega arith);
      few = h.few;
    })

pub told-jumps : (jumps more : List Jump) (marks : List Mark) (line number : ℕ) → line ≡ length marks → more ≡ with_number jumps line number → AreJumps jumps marks → AreJumps more marks
told-jumps jumps more marks line number e f h =
    subst (λ (x : List Jump). AreJumps x marks) (sym (f ∙ ap (λ (n : ℕ). with_number jumps n number) e)) (are-told jumps marks number h)

pub more-jumps : (jumps : List Jump) (marks new : List Mark) (mark : Mark) → new ≡ marks ++ mark ∷ [] → length marks < 4294967296 → AreJumps jumps marks → AreJumps jumps new
more-jumps jumps marks new mark e few h =
    let size : length new ≡ length marks + 1 = ap length e ∙ length-append marks (mark ∷ []) in
    record { rises = h.rises; listed = λ k d lt. let low : (get_or jumps k d).line ≤ length marks = h.listed k d lt in omega arith; few = omega arith }

-- whether the next line's number is told without a jump
pub told-without : (jumps : List Jump) (line number told : ℕ) → All (λ (jump : Jump). jump.line ≤ line) jumps
    → told ≡ number_behind (get_or (first_jump ∷ jumps) (length jumps) first_jump) line → told ≡ number → with_number jumps line number ≡ jumps
told-without jumps line number told h e f =
    let same : eqb (number_behind (jump_at jumps line) line) number ≡ true =
    eq-eqb _ number (ap (λ (j : Jump). number_behind j line) (jump_from-last first_jump jumps line h first_jump) ∙ sym e ∙ f) in
    ap (λ v. cond v jumps (jumps ++ record { line = line; number = number } ∷ [])) same

pub told-with : (jumps : List Jump) (line number told : ℕ) → All (λ (jump : Jump). jump.line ≤ line) jumps
    → told ≡ number_behind (get_or (first_jump ∷ jumps) (length jumps) first_jump) line → (told ≡ number → ⊥)
    → with_number jumps line number ≡ jumps ++ record { line = line; number = number } ∷ []
told-with jumps line number told h e f =
    let other : eqb (number_behind (jump_at jumps line) line) number ≡ false =
    ne_eqb _ number (λ g. f (e ∙ sym (ap (λ (j : Jump). number_behind j line) (jump_from-last first_jump jumps line h first_jump)) ∙ g)) in
    ap (λ v. cond v jumps (jumps ++ record { line = line; number = number } ∷ [])) other

-- the line at a place
pub line-seen : (jumps : List Jump) (marks : List Mark) (lines : List KeptLine) (line : ℕ) (m : Mark) → lines_of_marks jumps 0 marks ≡ lines → line < length lines
    → the_kept lines line ≡ kept_line (number_behind (jump_at jumps line) line) (get_or marks line m)
line-seen jumps marks lines line m e h =
    let zeros : 0 + line ≡ line = omega arith in
    let below : line < length marks = omega (arith, length-lines_from jumps 0 marks, ap length e) in
    sym (ap (λ (x : List KeptLine). the_kept x line) e) ∙ get_or-lines_from jumps 0 marks line no_kept m below
    ∙ ap (λ (n : ℕ). kept_line (number_behind (jump_at jumps n) n) (get_or marks line m)) zeros

pub line-below : (jumps : List Jump) (marks : List Mark) (lines : List KeptLine) (line : ℕ) → lines_of_marks jumps 0 marks ≡ lines → line < length lines → line < length marks
line-below jumps marks lines line e h = omega (arith, length-lines_from jumps 0 marks, ap length e)

-- the last jump stands at or before the line
pub last-low : (last : Jump) (jumps : List Jump) (line count : ℕ) → last.line ≤ line → count ≤ length jumps
    → ((k : ℕ) (d : Jump) → k < count → (get_or jumps k d).line ≤ line) → (d : Jump) → (get_or (last ∷ jumps) count d).line ≤ line
last-low last jumps line zero h fits low d = h
last-low last jumps line (suc count) h fits low d = low count d (omega arith)

-- what holds whether or not a call succeeds
pub in_any_case : {T E : Type 0} {P : Type 0} (r : Result T E) → OnOk r P → OnErr r P → P
in_any_case (Ok x) h k = h
in_any_case (Err e) h k = k
