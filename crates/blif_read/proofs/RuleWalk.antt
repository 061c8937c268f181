-- The lines of groups, checks and states, one after the other.
use Rattle.std.proofs.Common.{◌≡◌, ℕ, suc, ◌+◌, ◌-◌, ◌<◌, ◌≤◌, Bool, true, false, List, [], ◌∷◌, ◌++◌, drop, length, get_or, arith, refl, sym, ap, ◌∙◌, count_by, cond, zero, nat_lt, nat_le, ◌^◌, ◌*◌, ◌&&◌, Some, None, if◌then◌else◌}
use Rattle.std.specs.Option.{is_some}
use Rattle.std.proofs.Math.Pow.{pow_mono}
use Rattle.tsc_net.specs.Names.{find_text, has_text, with_text}
use Rattle.tsc_net.specs.NetFault.{repeat_after}
use Rattle.tsc_net.proofs.NameLemmas.{found-has}
use Rattle.std.proofs.lemmas.Grind.{common_steps}
use Rattle.std.proofs.lemmas.List.Sums.{sum_by-cons}
use Rattle.tsc_text.specs.TextLine.{TextLine, no_line, the_line, the_word}
use Rattle.blif_read.specs.PlanText.{kind_in_plan, group_lines, check_lines, watch_lines, first_watch, is_group_line, is_check_line, is_watch_line, state_at, state_words}
use Rattle.blif_read.specs.PlanFault.{is_empty, is_width}
use Rattle.blif_read.specs.RegisterFault.{is_register}
use Rattle.tsc_net.specs.NetlistOf.{NetlistOf}
use Rattle.tsc_bits.proofs.Ranges.{range_cons, range_none}
use Rattle.std.specs.List.{slice_range, list_all}
use Rattle.blif_read.specs.declared.plan_lines.PlanKind.{PlanKind}
use Rattle.blif_read.specs.declared.plan_lines.PlanKind.TheVariants.{CodeLine, GroupLine, CheckLine, StateLine, WatchLine, OtherLine}
use Rattle.std.proofs.lemmas.List.{drop_all, drop_more}

pub count_yes : {X : Type 0} (p : X → Bool) (x : X) (xs : List X) → p x ≡ true → count_by p (x ∷ xs) ≡ count_by p xs + 1
count_yes p x xs e =
    let swapped : 1 + count_by p xs ≡ count_by p xs + 1 = omega arith in
    sum_by-cons (λ x. cond (p x) 1 0) x xs ∙ (ap (λ b. cond b 1 0 + count_by p xs) e ∙ swapped)

pub count_no : {X : Type 0} (p : X → Bool) (x : X) (xs : List X) → p x ≡ false → count_by p (x ∷ xs) ≡ count_by p xs
count_no p x xs e =
    let same : 0 + count_by p xs ≡ count_by p xs = omega arith in
    sum_by-cons (λ x. cond (p x) 1 0) x xs ∙ (ap (λ b. cond b 1 0 + count_by p xs) e ∙ same)

module _ (lines : List TextLine) (at : ℕ) (h : at < length lines) where
  pub group_line_here : is_group_line (kind_in_plan (the_line lines at)) ≡ true
      → group_lines (drop at lines) ≡ group_lines (drop (at + 1) lines) + 1
  group_line_here e =
      ap group_lines (drop_more lines at no_line h)
      ∙ count_yes (λ line. is_group_line (kind_in_plan line)) (the_line lines at) (drop (at + 1) lines) e

  pub group_line_not : is_group_line (kind_in_plan (the_line lines at)) ≡ false
      → group_lines (drop at lines) ≡ group_lines (drop (at + 1) lines)
  group_line_not e =
      ap group_lines (drop_more lines at no_line h)
      ∙ count_no (λ line. is_group_line (kind_in_plan line)) (the_line lines at) (drop (at + 1) lines) e

  pub check_line_here : is_check_line (kind_in_plan (the_line lines at)) ≡ true
      → check_lines (drop at lines) ≡ check_lines (drop (at + 1) lines) + 1
  check_line_here e =
      ap check_lines (drop_more lines at no_line h)
      ∙ count_yes (λ line. is_check_line (kind_in_plan line)) (the_line lines at) (drop (at + 1) lines) e

  pub check_line_not : is_check_line (kind_in_plan (the_line lines at)) ≡ false
      → check_lines (drop at lines) ≡ check_lines (drop (at + 1) lines)
  check_line_not e =
      ap check_lines (drop_more lines at no_line h)
      ∙ count_no (λ line. is_check_line (kind_in_plan line)) (the_line lines at) (drop (at + 1) lines) e

  pub watch_line_here : is_watch_line (kind_in_plan (the_line lines at)) ≡ true
      → watch_lines (drop at lines) ≡ watch_lines (drop (at + 1) lines) + 1
  watch_line_here e =
      ap watch_lines (drop_more lines at no_line h)
      ∙ count_yes (λ line. is_watch_line (kind_in_plan line)) (the_line lines at) (drop (at + 1) lines) e

  pub watch_line_not : is_watch_line (kind_in_plan (the_line lines at)) ≡ false
      → watch_lines (drop at lines) ≡ watch_lines (drop (at + 1) lines)
  watch_line_not e =
      ap watch_lines (drop_more lines at no_line h)
      ∙ count_no (λ line. is_watch_line (kind_in_plan line)) (the_line lines at) (drop (at + 1) lines) e

  pub watch_here : is_watch_line (kind_in_plan (the_line lines at)) ≡ true → first_watch (drop at lines) ≡ Some (the_line lines at)
  watch_here e = rw (drop_more lines at no_line h, e) refl

  pub watch_later : is_watch_line (kind_in_plan (the_line lines at)) ≡ false → first_watch (drop at lines) ≡ first_watch (drop (at + 1) lines)
  watch_later e = rw (drop_more lines at no_line h, e) refl

  pub state_here : StateLine ≡ kind_in_plan (the_line lines at)
      → state_words (drop at lines) ≡ the_word (the_line lines at) 1 ∷ state_words (drop (at + 1) lines)
  state_here e =
      ap state_words (drop_more lines at no_line h)
      ∙ ap (λ k. state_at k (the_line lines at) ++ state_words (drop (at + 1) lines)) (sym e)

  pub state_not : (kind_in_plan (the_line lines at) ≡ StateLine → ⊥)
      → state_words (drop at lines) ≡ state_words (drop (at + 1) lines)
  state_not n =
      ap state_words (drop_more lines at no_line h) ∙ by (kind_in_plan (the_line lines at)) n
    where
      by : (k : PlanKind) → (k ≡ StateLine → ⊥)
          → state_at k (the_line lines at) ++ state_words (drop (at + 1) lines) ≡ state_words (drop (at + 1) lines)
      by StateLine n = absurd (n refl)
      by CodeLine n = refl
      by GroupLine n = refl
      by CheckLine n = refl
      by WatchLine n = refl
      by OtherLine n = refl

pub group_line_end : (lines : List TextLine) (at : ℕ) → length lines ≤ at → group_lines (drop at lines) ≡ 0
group_line_end lines at h = rw (drop_all at lines h) refl

pub check_line_end : (lines : List TextLine) (at : ℕ) → length lines ≤ at → check_lines (drop at lines) ≡ 0
check_line_end lines at h = rw (drop_all at lines h) refl

pub watch_line_end : (lines : List TextLine) (at : ℕ) → length lines ≤ at → watch_lines (drop at lines) ≡ 0
watch_line_end lines at h = rw (drop_all at lines h) refl

pub watch_end : (lines : List TextLine) (at : ℕ) → length lines ≤ at → first_watch (drop at lines) ≡ None
watch_end lines at h = rw (drop_all at lines h) refl

-- the names of a watch line, one after the other
module _ (net : NetlistOf) (words : List (List ℕ)) (place to : ℕ) where
  pub register_here : place < to → to ≤ length words → is_register net (get_or words place []) ≡ true
      → list_all (is_register net) (slice_range words place to) ≡ list_all (is_register net) (slice_range words (place + 1) to)
  register_here h w e = rw (range_cons words place to [] h w, e) refl

  pub register_not : place < to → to ≤ length words → is_register net (get_or words place []) ≡ false
      → list_all (is_register net) (slice_range words place to) ≡ false
  register_not h w e = rw (range_cons words place to [] h w, e) refl

  pub register_end : to ≤ place → list_all (is_register net) (slice_range words place to) ≡ true
  register_end h = rw (range_none words place to h) refl

pub state_end : (lines : List TextLine) (at : ℕ) → length lines ≤ at → state_words (drop at lines) ≡ []
state_end lines at h = rw (drop_all at lines h) refl

pub some_state : (words : List (List ℕ)) (word : List ℕ) (rest : List (List ℕ)) → words ≡ word ∷ rest → is_empty words ≡ false
some_state words word rest e = ap is_empty e

pub repeated : (seen words : List (List ℕ)) (word : List ℕ) (rest : List (List ℕ)) → words ≡ word ∷ rest → is_some (find_text seen word) ≡ true
    → repeat_after seen words ≡ Some word
repeated seen words word rest e f =
    let t : has_text seen word ≡ true = sym (found-has seen word) ∙ f in
    ap (λ l. repeat_after seen l) e ∙ ap (λ b. if b then Some word else repeat_after (seen ++ word ∷ []) rest) t

pub new_word : (seen new words : List (List ℕ)) (word : List ℕ) (rest : List (List ℕ)) → words ≡ word ∷ rest → is_some (find_text seen word) ≡ false
    → new ≡ with_text seen word → repeat_after seen words ≡ repeat_after new rest
new_word seen new words word rest e f n =
    let t : has_text seen word ≡ false = sym (found-has seen word) ∙ f in
    let added : new ≡ seen ++ word ∷ [] = n ∙ ap (λ b. if b then seen else seen ++ word ∷ []) t in
    ap (λ l. repeat_after seen l) e
    ∙ (ap (λ b. if b then Some word else repeat_after (seen ++ word ∷ []) rest) t ∙ ap (λ l. repeat_after l rest) (sym added))

-- the names of a watch line against those before
module _ (seen words : List (List ℕ)) (place to : ℕ) (h : place < to) (w : to ≤ length words) where
  pub name_repeated : is_some (find_text seen (get_or words place [])) ≡ true
      → repeat_after seen (slice_range words place to) ≡ Some (get_or words place [])
  name_repeated f =
      repeated seen (slice_range words place to) (get_or words place []) (slice_range words (place + 1) to) (range_cons words place to [] h w) f

  pub name_new : (new : List (List ℕ)) → is_some (find_text seen (get_or words place [])) ≡ false → new ≡ with_text seen (get_or words place [])
      → repeat_after seen (slice_range words place to) ≡ repeat_after new (slice_range words (place + 1) to)
  name_new new f n =
      new_word seen new (slice_range words place to) (get_or words place []) (slice_range words (place + 1) to) (range_cons words place to [] h w) f n

pub names_end : (seen words : List (List ℕ)) (place to : ℕ) → to ≤ place → repeat_after seen (slice_range words place to) ≡ None
names_end seen words place to h = rw (range_none words place to h) refl

pub width_is : (outputs checks least : ℕ) → 0 < checks → least ≡ 2 ^ (checks - 1)
    → (nat_le least outputs && nat_lt outputs (2 * least)) ≡ is_width outputs checks
width_is outputs zero least h e = absurd (omega arith)
width_is outputs (suc width) least h e =
    let f : least ≡ 2 ^ width = e ∙ ap (λ n. 2 ^ n) (sub_one width) in
    ap (λ l. nat_le l outputs && nat_lt outputs (2 * l)) f
  where
    sub_one : (width : ℕ) → suc width - 1 ≡ width
    sub_one width = omega arith

pub width_too_great : (outputs checks : ℕ) → outputs ≤ 64 → 7 < checks → is_width outputs checks ≡ false
width_too_great outputs zero h k = refl
width_too_great outputs (suc width) h k =
    let p : 2 ^ 7 ≤ 2 ^ width = pow_mono {i = 7} {j = width} (omega arith) in
    let f : nat_le (2 ^ width) outputs ≡ false = below (2 ^ width) (omega (arith, p)) in
    ap (λ b. b && nat_lt outputs (2 * 2 ^ width)) f
  where
    below : (n : ℕ) → outputs < n → nat_le n outputs ≡ false
    below n h = grind (arith, common_steps)
