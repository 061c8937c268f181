-- The search for the number of the fresh names.
use Rattle.std.proofs.Common.{◌≡◌, ℕ, zero, suc, ◌+◌, true, List, Option, ap₂}
use Rattle.std.specs.Fn.{iterate}
use Rattle.tsc_net.specs.Parts.{PartsOf, FreshNames, is_taken_under, free_number_under_from, with_fresh}

-- where a number is taken the search goes on from the next
pub free_number-next : (letter : ℕ) (names : List (List ℕ)) (most rest number : ℕ) → most ≡ suc rest → is_taken_under letter names number ≡ true
    → free_number_under_from letter names most number ≡ free_number_under_from letter names rest (number + 1)
free_number-next letter names most rest number e taken = rw (e, taken)

-- the next fresh names depend on the names and on where fresh names go on
pub fresh_alike : (count : ℕ) (p q : PartsOf) → p.names ≡ q.names → p.fresh ≡ q.fresh
    → ((iterate with_fresh count p).names ≡ (iterate with_fresh count q).names) × ((iterate with_fresh count p).fresh ≡ (iterate with_fresh count q).fresh)
fresh_alike zero p q e f = (e, f)
fresh_alike (suc count) p q e f =
    fresh_alike count (with_fresh p) (with_fresh q)
    (ap₂ (λ (names : List (List ℕ)) (fresh : Option FreshNames). (with_fresh (record { names = names; named = p.named; fresh = fresh })).names) e f)
    (ap₂ (λ (names : List (List ℕ)) (fresh : Option FreshNames). (with_fresh (record { names = names; named = p.named; fresh = fresh })).fresh) e f)
