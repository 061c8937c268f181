-- The lines of latches and the nets that lines use, one after the other.
use Rattle.std.proofs.Common.{◌≡◌, drop, ℕ, ◌+◌, ◌<◌, ◌≤◌, true, false, List, [], length, get_or, refl, None, Some}
use Rattle.std.proofs.lemmas.List.{drop_all, drop_more}
use Rattle.std.specs.List.{slice_range, list_any}
use Rattle.std.specs.Str.{bytes_eq}
use Rattle.tsc_bits.proofs.Ranges.{range_cons, range_none}
use Rattle.tsc_text.specs.TextLine.{TextLine, no_line, the_line}
use Rattle.blif_read.specs.LineKind.{kind_of}
use Rattle.blif_read.specs.Clocks.{first_latch, first_misfit, is_latch, is_misfit, uses_net}

pub latch_here : (lines : List TextLine) (at : ℕ) → at < length lines → is_latch (kind_of (the_line lines at)) ≡ true
    → first_latch (drop at lines) ≡ Some (the_line lines at)
latch_here lines at h e = rw (drop_more lines at no_line h, e) refl

pub latch_later : (lines : List TextLine) (at : ℕ) → at < length lines → is_latch (kind_of (the_line lines at)) ≡ false
    → first_latch (drop at lines) ≡ first_latch (drop (at + 1) lines)
latch_later lines at h e = rw (drop_more lines at no_line h, e) refl

pub latch_end : (lines : List TextLine) (at : ℕ) → length lines ≤ at → first_latch (drop at lines) ≡ None
latch_end lines at h = rw (drop_all at lines h) refl

pub misfit_here : (first : TextLine) (lines : List TextLine) (at : ℕ) → at < length lines → is_misfit first (the_line lines at) ≡ true
    → first_misfit first (drop at lines) ≡ Some (the_line lines at).number
misfit_here first lines at h e = rw (drop_more lines at no_line h, e) refl

pub misfit_later : (first : TextLine) (lines : List TextLine) (at : ℕ) → at < length lines → is_misfit first (the_line lines at) ≡ false
    → first_misfit first (drop at lines) ≡ first_misfit first (drop (at + 1) lines)
misfit_later first lines at h e = rw (drop_more lines at no_line h, e) refl

pub misfit_end : (first : TextLine) (lines : List TextLine) (at : ℕ) → length lines ≤ at → first_misfit first (drop at lines) ≡ None
misfit_end first lines at h = rw (drop_all at lines h) refl

pub used_here : (name : List ℕ) (lines : List TextLine) (at : ℕ) → at < length lines → uses_net name (the_line lines at) ≡ true
    → list_any (uses_net name) (drop at lines) ≡ true
used_here name lines at h e = rw (drop_more lines at no_line h, e) refl

pub used_later : (name : List ℕ) (lines : List TextLine) (at : ℕ) → at < length lines → uses_net name (the_line lines at) ≡ false
    → list_any (uses_net name) (drop at lines) ≡ list_any (uses_net name) (drop (at + 1) lines)
used_later name lines at h e = rw (drop_more lines at no_line h, e) refl

pub used_end : (name : List ℕ) (lines : List TextLine) (at : ℕ) → length lines ≤ at → list_any (uses_net name) (drop at lines) ≡ false
used_end name lines at h = rw (drop_all at lines h) refl

pub name_here : (name : List ℕ) (words : List (List ℕ)) (place to : ℕ) → place < to → to ≤ length words → bytes_eq name (get_or words place []) ≡ true
    → list_any (bytes_eq name) (slice_range words place to) ≡ true
name_here name words place to h w e = rw (range_cons words place to [] h w, e) refl

pub name_later : (name : List ℕ) (words : List (List ℕ)) (place to : ℕ) → place < to → to ≤ length words → bytes_eq name (get_or words place []) ≡ false
    → list_any (bytes_eq name) (slice_range words place to) ≡ list_any (bytes_eq name) (slice_range words (place + 1) to)
name_later name words place to h w e = rw (range_cons words place to [] h w, e) refl

pub name_end : (name : List ℕ) (words : List (List ℕ)) (place to : ℕ) → to ≤ place → list_any (bytes_eq name) (slice_range words place to) ≡ false
name_end name words place to h = rw (range_none words place to h) refl
