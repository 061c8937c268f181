-- What a sink gained in one write after another.
use Rattle.std.proofs.Common.{ℕ, ◌+◌, List, take, drop, Option, subst, sym, take-add}
use Rattle.std.specs.Io.KnownBytes.{Appends}
use Rattle.std.proofs.KnownBytes.{Appends-trans}

-- the first `start` bytes were written, and then the first `count` of the rest
pub Appends-further : (old mid new : Option (List ℕ)) (bytes : List ℕ) (start count : ℕ) → Appends old mid (take start bytes) → Appends mid new (take count (drop start bytes))
    → Appends old new (take (start + count) bytes)
Appends-further old mid new bytes start count p q =
    let P : List ℕ → Type 0 = λ gained. Appends old new gained in
    subst P (sym (take-add start count bytes)) (Appends-trans old mid new (take start bytes) (take count (drop start bytes)) p q)
