-- What came from a source in one read after another.
use Rattle.std.proofs.Common.{◌≡◌, ℕ, ◌+◌, ◌<◌, ◌↔◌, List, ◌++◌, length, Option, Some, None, IsSome, arith, ap, sym, ◌∙◌, length-append}
use Rattle.std.specs.Io.KnownBytes.{Consumes}
use Rattle.std.proofs.KnownBytes.{Consumes-trans}
use Rattle.tsc_io.specs.Reading.{CameMore}

-- where a source tells its bytes, their number says how many came
pub length-came : (old new : Option (List ℕ)) (first came : List ℕ) → IsSome old → Consumes old new first → Consumes old new came → length first ≡ length came
length-came None new first came told p q = absurd (cc)
length-came (Some xs) None first came told p q = absurd p
length-came (Some xs) (Some ys) first came told p q =
    let lengths = ap length (sym p ∙ q) in
    omega (arith, lengths, length-append first ys, length-append came ys)

-- after `held` came `piece`: together they decide whether more than `limit` bytes came
pub CameMore-after : (limit : ℕ) (old mid new : Option (List ℕ)) (held piece : List ℕ) (P : Type 0) → Consumes old mid held → Consumes mid new piece
    → (P ↔ (limit < length held + length piece)) → IsSome old → P ↔ CameMore limit old new
CameMore-after limit old mid new held piece P p q decides told =
    let all = Consumes-trans old mid new held piece p q in (
      λ h. (held ++ piece, all, (let more = decides.0 h in omega (arith, length-append held piece, more))),
      λ more. decides.1 (let same = length-came old new (held ++ piece) more.0 told all more.1 in omega (arith, same, length-append held piece, more.2)),
    )
