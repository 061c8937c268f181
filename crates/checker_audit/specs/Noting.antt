-- Noting what is asked.
use Rattle.std.specs.Prelude.{◌≡◌, ℕ, Bool, true, false, ◌⊎◌}
use Rattle.std.specs.BTreeSet.{BTreeSet}
use Rattle.checker_audit.specs.Matching.{WasAsked}
use Rattle.checker_audit.specs.declared.asked.Asked.{Asked}

-- what is noted after noting: what was noted before, and this
abbrev pub Notes : BTreeSet ℕ → BTreeSet ℕ → Asked → Type 0
Notes old new asked = (place net : ℕ) → WasAsked new place net → WasAsked old place net ⊎ ((place ≡ asked.place) × (net ≡ asked.net.number))

-- it is new and now noted, or it was noted before
abbrev pub IsNoted : BTreeSet ℕ → BTreeSet ℕ → Asked → Bool → Type 0
IsNoted old new asked true = Notes old new asked
IsNoted old new asked false = WasAsked old asked.place asked.net.number × Notes old new asked
