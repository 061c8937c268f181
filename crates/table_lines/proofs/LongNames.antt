-- The search for a long name, one name after the other.
use Rattle.std.proofs.Common.{◌≡◌, ℕ, ◌+◌, ◌<◌, ◌≤◌, true, false, List, [], drop, length, get_or, None, Some, refl}
use Rattle.std.proofs.lemmas.List.{drop_more, drop_all}
use Rattle.table_lines.specs.LineFaults.{is_long, long_name}
use Rattle.table_lines.specs.declared.cause.Cause.TheVariants.{Limit}
use Rattle.tsc_text.specs.declared.which.Which.TheVariants.{NameBytes}

pub long_here : (words : List (List ℕ)) (place : ℕ) → place < length words → is_long (get_or words place []) ≡ true
    → long_name (drop place words) ≡ Some (Limit NameBytes)
long_here words place h e = rw (drop_more words place [] h, e) refl

pub long_later : (words : List (List ℕ)) (place : ℕ) → place < length words → is_long (get_or words place []) ≡ false
    → long_name (drop place words) ≡ long_name (drop (place + 1) words)
long_later words place h e = rw (drop_more words place [] h, e) refl

pub long_end : (words : List (List ℕ)) (place : ℕ) → length words ≤ place → long_name (drop place words) ≡ None
long_end words place h = rw (drop_all place words h) refl
