-- The text of a fresh name of the code.
use Rattle.std.specs.Prelude.{ℕ, List}
use Rattle.tsc_net.specs.Parts.{fresh_text}
use Rattle.tsc_net.specs.declared.fresh.FreshPart.{FreshPart}

abbrev pub text_of_fresh : FreshPart → List ℕ
text_of_fresh fresh = fresh_text fresh.number fresh.next
