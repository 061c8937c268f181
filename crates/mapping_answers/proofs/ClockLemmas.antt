-- The lines of latches one after the other.
use Rattle.std.proofs.Common.{◌≡◌, ℕ, ◌+◌, ◌<◌, ◌≤◌, Bool, true, false, not, ◌&&◌, if◌then◌else◌, List, [], ◌∷◌, drop, length, codes, refl, sym, ap, ◌∙◌}
use Rattle.std.proofs.lemmas.List.{drop_all, drop_more}
use Rattle.std.specs.Str.{bytes_eq}
use Rattle.tsc_text.specs.Bytes.{begins_with_dot}
use Rattle.tsc_text.specs.TextLine.{TextLine, no_line, the_line, the_word}
use Rattle.tsc_net.proofs.NameLemmas.{bytes_eq_same}
use Rattle.blif_read.specs.LineKind.{kind_of_word}
use Rattle.blif_read.specs.Clocks.{is_latch}
use Rattle.blif_read.specs.declared.kinds.LineKind.{LineKind}
use Rattle.blif_read.specs.declared.kinds.LineKind.TheVariants.{PlanLine, Model, Inputs, Outputs, Names, Latch, OtherDirective, Row}
use Rattle.mapping_answers.specs.MappedClocks.{is_latch_line, latch_lines, some_other_clock, is_other_clock}

-- ---- the word of a line of a latch

-- a word that is another one isn't `.latch`
other_word : (word other : List ℕ) → bytes_eq word other ≡ true → bytes_eq other (codes ".latch") ≡ false → bytes_eq word (codes ".latch") ≡ false
other_word word other is apart = ap (λ w. bytes_eq w (codes ".latch")) (bytes_eq_same word other is) ∙ apart

-- one test of a word for another one comes before
passed : (word other : List ℕ) (kind later : LineKind) → bytes_eq other (codes ".latch") ≡ false → is_latch kind ≡ false
    → is_latch later ≡ bytes_eq word (codes ".latch") → is_latch (if bytes_eq word other then kind else later) ≡ bytes_eq word (codes ".latch")
passed word other kind later apart none same = by (bytes_eq word other) refl
  where
    by : (b : Bool) → bytes_eq word other ≡ b → is_latch (if b then kind else later) ≡ bytes_eq word (codes ".latch")
    by true is = none ∙ sym (other_word word other is apart)
    by false is = same

last_kind : (dotted : Bool) → is_latch (if dotted then OtherDirective else Row) ≡ false
last_kind true = refl
last_kind false = refl

latch_kind : (b : Bool) (other : LineKind) → is_latch other ≡ false → is_latch (if b then Latch else other) ≡ b
latch_kind true other none = refl
latch_kind false other none = none

word_is_latch : (word : List ℕ) → is_latch (kind_of_word word) ≡ bytes_eq word (codes ".latch")
word_is_latch word =
    passed word (codes ".model") Model _ refl refl
    (passed word (codes ".inputs") Inputs _ refl refl
    (passed word (codes ".outputs") Outputs _ refl refl
    (passed word (codes ".names") Names _ refl refl
    (latch_kind (bytes_eq word (codes ".latch")) _ (last_kind (begins_with_dot word))))))

-- a line is that of a latch where it is no plan line and its first word is `.latch`
pub latch_word : (line : TextLine) → is_latch_line line ≡ (not line.is_plan && bytes_eq (the_word line 0) (codes ".latch"))
latch_word line = by line.is_plan
  where
    by : (plan : Bool) → is_latch (if plan then PlanLine else kind_of_word (the_word line 0)) ≡ (not plan && bytes_eq (the_word line 0) (codes ".latch"))
    by true = refl
    by false = word_is_latch (the_word line 0)

-- ---- the lines one after the other

pub latch_here : (lines : List TextLine) (at : ℕ) → at < length lines → is_latch_line (the_line lines at) ≡ true
    → latch_lines (drop at lines) ≡ the_line lines at ∷ latch_lines (drop (at + 1) lines)
latch_here lines at h e = rw (drop_more lines at no_line h, e) refl

pub latch_later : (lines : List TextLine) (at : ℕ) → at < length lines → is_latch_line (the_line lines at) ≡ false
    → latch_lines (drop at lines) ≡ latch_lines (drop (at + 1) lines)
latch_later lines at h e = rw (drop_more lines at no_line h, e) refl

pub latch_end : (lines : List TextLine) (at : ℕ) → length lines ≤ at → latch_lines (drop at lines) ≡ []
latch_end lines at h = rw (drop_all at lines h) refl
