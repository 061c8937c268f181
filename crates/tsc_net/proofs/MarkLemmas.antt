-- Marks of names: what one more text changes, and what a mark says.
use Rattle.std.proofs.Common.{◌≡◌, ℕ, suc, ◌+◌, ◌-◌, ◌<◌, Bool, true, false, cond, not, ◌||◌, List, [], ◌∷◌, ◌++◌, length, All, slice_index, slice_set, Some, None, refl, sym, ap, ◌∙◌, arith, if◌then◌else◌, inl, inr, true≢false}
use Rattle.std.specs.Str.{bytes_eq}
use Rattle.std.proofs.lemmas.List.{length-set, get_or-set_same, get_or-set_other}
use Rattle.std.proofs.lemmas.Bool.{cases_eq}
use Rattle.std.proofs.lemmas.List.Elements.{All-head, All-tail}
use Rattle.tsc_net.specs.Names.{has_text, place_of_text, find_text, text_at, IsNumbering}
use Rattle.tsc_net.specs.inner.NetNames.{mark_of, AreMarks}
use Rattle.tsc_net.specs.PartsView.{text_of, texts_of, IsName}
use Rattle.tsc_net.specs.declared.ids.Name.{Name}
use Rattle.tsc_net.proofs.NameLemmas.{bytes_eq_refl, bytes_eq_same, has_text_at, find-there, find-absent}

-- another text at the end changes neither whether a text stands there nor its place
pub has_text-other : (texts : List (List ℕ)) (t u : List ℕ) → bytes_eq u t ≡ false → has_text (texts ++ t ∷ []) u ≡ has_text texts u
has_text-other [] t u e = rw e refl
has_text-other (x ∷ texts) t u e = ap (λ b. bytes_eq u x || b) (has_text-other texts t u e)

pub place-kept : (texts : List (List ℕ)) (t u : List ℕ) → has_text texts u ≡ true → place_of_text (texts ++ t ∷ []) u ≡ place_of_text texts u
place-kept [] t u e = cc
place-kept (x ∷ texts) t u e = by (bytes_eq u x) refl (place-kept texts t u)
  where
    by : (b : Bool) → bytes_eq u x ≡ b → (has_text texts u ≡ true → place_of_text (texts ++ t ∷ []) u ≡ place_of_text texts u)
        → place_of_text (x ∷ (texts ++ t ∷ [])) u ≡ place_of_text (x ∷ texts) u
    by true h rest = rw h refl
    by false h rest =
        let later = rest (sym (ap (λ b. b || has_text texts u) h) ∙ e) in
        ap (λ n. cond (not (bytes_eq u x)) (1 + n) 0) later

-- a new text at the end stands there
pub has_text-here : (texts : List (List ℕ)) (t : List ℕ) → has_text (texts ++ t ∷ []) t ≡ true
has_text-here [] t = rw (bytes_eq_refl t) refl
has_text-here (x ∷ texts) t = rw (has_text-here texts t) (by (bytes_eq t x))
  where
    by : (b : Bool) → (b || true) ≡ true
    by true = refl
    by false = refl

pub place-here : (texts : List (List ℕ)) (t : List ℕ) → has_text texts t ≡ false → place_of_text (texts ++ t ∷ []) t ≡ length texts
place-here [] t e = rw (bytes_eq_refl t) refl
place-here (x ∷ texts) t e = by (bytes_eq t x) refl (place-here texts t)
  where
    by : (b : Bool) → bytes_eq t x ≡ b → (has_text texts t ≡ false → place_of_text (texts ++ t ∷ []) t ≡ length texts)
        → place_of_text (x ∷ (texts ++ t ∷ [])) t ≡ suc (length texts)
    by true h rest = absurd (true≢false (sym (ap (λ b. b || has_text texts t) h) ∙ e))
    by false h rest =
        let later : place_of_text (texts ++ t ∷ []) t ≡ length texts = rest (sym (ap (λ b. b || has_text texts t) h) ∙ e) in
        rw h (omega arith)

abbrev marked_if : Bool → ℕ → ℕ
marked_if there place = if there then place + 1 else 0

-- the marks over one more text
pub mark-other : (texts : List (List ℕ)) (t u : List ℕ) → bytes_eq u t ≡ false → mark_of (texts ++ t ∷ []) u ≡ mark_of texts u
mark-other texts t u e =
    ap (λ b. marked_if b (place_of_text (texts ++ t ∷ []) u)) (has_text-other texts t u e) ∙ by (has_text texts u) refl
  where
    by : (b : Bool) → has_text texts u ≡ b → marked_if b (place_of_text (texts ++ t ∷ []) u) ≡ marked_if b (place_of_text texts u)
    by true h = ap (λ n. n + 1) (place-kept texts t u h)
    by false h = refl

pub mark-here : (texts : List (List ℕ)) (t : List ℕ) → has_text texts t ≡ false → mark_of (texts ++ t ∷ []) t ≡ length texts + 1
mark-here texts t e =
    ap (λ b. marked_if b (place_of_text (texts ++ t ∷ []) t)) (has_text-here texts t) ∙ ap (λ n. n + 1) (place-here texts t e)

-- what a mark says
pub unmarked : (texts : List (List ℕ)) (t : List ℕ) → mark_of texts t ≡ 0 → has_text texts t ≡ false
unmarked texts t e = by (has_text texts t) e
  where
    by : (b : Bool) → marked_if b (place_of_text texts t) ≡ 0 → b ≡ false
    by true h = absurd (omega arith)
    by false h = refl

pub marked : (texts : List (List ℕ)) (t : List ℕ) (place : ℕ) → mark_of texts t ≡ place + 1 → (has_text texts t ≡ true) × (place ≡ place_of_text texts t)
marked texts t place e = by (has_text texts t) e
  where
    by : (b : Bool) → marked_if b (place_of_text texts t) ≡ place + 1 → (b ≡ true) × (place ≡ place_of_text texts t)
    by true h = (refl, omega arith)
    by false h = absurd (omega arith)

-- what is found at a mark
pub nothing-found : (texts : List (List ℕ)) (t : List ℕ) (mark : ℕ) → mark ≡ mark_of texts t → mark ≡ 0 → None ≡ find_text texts t
nothing-found texts t mark e none = sym (find-absent texts t (unmarked texts t (sym e ∙ none)))

pub net-found : (texts : List (List ℕ)) (t : List ℕ) (mark : ℕ) → mark ≡ mark_of texts t → 0 < mark
    → (Some (mark - 1) ≡ find_text texts t) × (mark - 1 ≡ place_of_text texts t)
net-found texts t mark e some =
    let there = marked texts t (mark - 1) (sym e ∙ omega arith) in
    (ap Some there.1 ∙ sym (find-there texts t there.0), there.1)

-- a text that isn't in the table is no net's
pub no_net : (names : List (List ℕ)) (list : List Name) (t : List ℕ) → All (IsName names) list → has_text names t ≡ false → has_text (texts_of names list) t ≡ false
no_net names [] t all e = refl
no_net names (n ∷ list) t all e =
    let rest = no_net names list t (All-tail (IsName names) n list all) e in
    by (bytes_eq t (text_of names n)) refl rest
  where
    by : (b : Bool) → bytes_eq t (text_of names n) ≡ b → has_text (texts_of names list) t ≡ false → (bytes_eq t (text_of names n) || has_text (texts_of names list) t) ≡ false
    by true h rest =
        absurd (true≢false (sym (has_text_at names t n.number (All-head (IsName names) n list all) (sym (bytes_eq_same t (text_of names n) h))) ∙ e))
    by false h rest = rw (h, rest) refl

module _ (names texts : List (List ℕ)) (marks : List ℕ) (numbering : IsNumbering names) (are : AreMarks names texts marks) where
  pub marks-with : (m v : ℕ) → m < length names → slice_index marks m ≡ 0 → v ≡ length texts + 1
      → AreMarks names (texts ++ text_at names m ∷ []) (slice_set marks m v)
  marks-with m v h none e = record {
    sized = length-set marks m v ∙ are.sized;
    marked = λ n hn. elim (cases_eq n m) [
      | inl same ↦ here n same
      | inr other ↦ get_or-set_other marks m n v 0 other ∙ are.marked n hn ∙ sym (mark-other texts (text_at names m) (text_at names n) (apart n hn other))
    ];
  }
    where
      inside : m < length marks
      inside = omega (arith, are.sized)

      here : (n : ℕ) → n ≡ m → slice_index (slice_set marks m v) n ≡ mark_of (texts ++ text_at names m ∷ []) (text_at names n)
      here n same =
          ap (slice_index (slice_set marks m v)) same ∙ get_or-set_same marks m v 0 inside ∙ e
          ∙ sym (mark-here texts (text_at names m) (unmarked texts (text_at names m) (sym (are.marked m h) ∙ none)))
          ∙ ap (λ k. mark_of (texts ++ text_at names m ∷ []) (text_at names k)) (sym same)

      apart : (n : ℕ) → n < length names → (n ≡ m → ⊥) → bytes_eq (text_at names n) (text_at names m) ≡ false
      apart n hn other = by (bytes_eq (text_at names n) (text_at names m)) refl
        where
          by : (b : Bool) → bytes_eq (text_at names n) (text_at names m) ≡ b → b ≡ false
          by true g = absurd (other (numbering.distinct n m hn h (bytes_eq_same (text_at names n) (text_at names m) g)))
          by false g = refl
