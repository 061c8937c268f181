-- Two rows meet exactly where no pin that both read has different values.
use Rattle.std.proofs.Common.{◌≡◌, ℕ, zero, suc, ◌+◌, ◌*◌, ◌%◌, ◌^◌, ◌<◌, Bool, true, false, not, ◌&&◌, if◌then◌else◌, List, [], ◌∷◌, length, bit_and, bit_xor, refl, sym, ap, ap₂, ◌∙◌, arith, mod-eq_of_lt, lt_of_le_of_lt, true≢false, eqb}
use Rattle.std.proofs.lemmas.Nat.{and_le_r}
use Rattle.std.proofs.lemmas.Nat.Bits.{bit_at-zero}
use Rattle.std.proofs.lemmas.Bool.{and_parts, and_from, and_right, false≢true}
use Rattle.tsc_bits.specs.Bits.{same, weight_of, bit_worth}
use Rattle.tsc_cover.specs.Cover.{accepts, row_matches, literals}
use Rattle.tsc_cover.specs.Row.{literal, Meet}
use Rattle.tsc_cover.specs.declared.rows.Row01.{Row01}
use Rattle.tsc_bits.proofs.Bits.{bit_worth-and, mod-pow-suc}
use Rattle.tsc_cover.proofs.Row.{bit-differs}

-- the bits of the pins that both rows read and ask for differently
abbrev pub clash : Row01 → Row01 → ℕ
clash a b = bit_and (bit_and (bit_xor a.value b.value) a.care) b.care

bit_worth-clash : (k : ℕ) (a b : Row01) → bit_worth k (clash a b) ≡ (not (same (bit_worth k a.value) (bit_worth k b.value)) && bit_worth k a.care && bit_worth k b.care)
bit_worth-clash k a b =
    bit_worth-and k (bit_and (bit_xor a.value b.value) a.care) b.care
    ∙ ap (λ x. x && bit_worth k b.care) (bit-differs k a.care b.value a.value)

-- bits that match the first row, and the second one wherever the first reads nothing
meeting : ℕ → Row01 → Row01 → List Bool
meeting zero a b = []
meeting (suc n) a b = (if bit_worth n a.care then bit_worth n a.value else bit_worth n b.value) ∷ meeting n a b

length-meeting : (n : ℕ) (a b : Row01) → length (meeting n a b) ≡ n
unfolding meeting
length-meeting zero a b = refl
length-meeting (suc n) a b = ap suc (length-meeting n a b)

accepts-first : (care value other : Bool) → accepts (literal care value) (if care then value else other) ≡ true
accepts-first true true other = refl
accepts-first true false other = refl
accepts-first false value other = refl

accepts-second : (care value other_care other : Bool) → (not (same value other) && care && other_care) ≡ false → accepts (literal other_care other) (if care then value else other) ≡ true
accepts-second care value false other h = refl
accepts-second false value true true h = refl
accepts-second false value true false h = refl
accepts-second true true true true h = refl
accepts-second true true true false h = absurd (true≢false h)
accepts-second true false true true h = absurd (true≢false h)
accepts-second true false true false h = refl

first-meeting : (n : ℕ) (a b : Row01) → row_matches (literals n a.care a.value) (meeting n a b) ≡ true
unfolding meeting
first-meeting zero a b = refl
first-meeting (suc n) a b =
    and_from _ _ (accepts-first (bit_worth n a.care) (bit_worth n a.value) (bit_worth n b.value)) (first-meeting n a b)

second-meeting : (n : ℕ) (a b : Row01) → ((k : ℕ) → bit_worth k (clash a b) ≡ false) → row_matches (literals n b.care b.value) (meeting n a b) ≡ true
unfolding meeting
second-meeting zero a b h = refl
second-meeting (suc n) a b h =
    and_from _ _
    (accepts-second (bit_worth n a.care) (bit_worth n a.value) (bit_worth n b.care) (bit_worth n b.value)
    (sym (bit_worth-clash n a b) ∙ h n))
    (second-meeting n a b h)

bit_worth-zero : (k x : ℕ) → x ≡ 0 → bit_worth k x ≡ false
bit_worth-zero k x e = ap (bit_worth k) e ∙ ap (λ w. eqb w 1) (bit_at-zero k)

pub Meet-from_clash : (n : ℕ) (a b : Row01) → clash a b ≡ 0 → Meet n a b
Meet-from_clash n a b e = record {
  bits = meeting n a b;
  sized = length-meeting n a b;
  first = first-meeting n a b;
  second = second-meeting n a b (λ k. bit_worth-zero k (clash a b) e);
}

both-accept : (care value other_care other bit : Bool) → accepts (literal care value) bit ≡ true → accepts (literal other_care other) bit ≡ true → (not (same value other) && care && other_care) ≡ false
both-accept care true false true bit h g = and_right (not (same true true) && care) false refl
both-accept care true false false bit h g = and_right (not (same true false) && care) false refl
both-accept care false false true bit h g = and_right (not (same false true) && care) false refl
both-accept care false false false bit h g = and_right (not (same false false) && care) false refl
both-accept false true true true bit h g = refl
both-accept false true true false bit h g = refl
both-accept false false true true bit h g = refl
both-accept false false true false bit h g = refl
both-accept true true true true bit h g = refl
both-accept true false true false bit h g = refl
both-accept true true true false true h g = absurd (false≢true g)
both-accept true true true false false h g = absurd (false≢true h)
both-accept true false true true true h g = absurd (false≢true h)
both-accept true false true true false h g = absurd (false≢true g)

clash-mod : (n : ℕ) (a b : Row01) (bits : List Bool) → length bits ≡ n → row_matches (literals n a.care a.value) bits ≡ true → row_matches (literals n b.care b.value) bits ≡ true → clash a b % 2 ^ n ≡ 0
clash-mod zero a b bits sized h g = omega arith
clash-mod (suc n) a b [] sized h g = absurd (omega arith)
clash-mod (suc n) a b (bit ∷ bits) sized h g =
    let first : (accepts (literal (bit_worth n a.care) (bit_worth n a.value)) bit ≡ true) × (row_matches (literals n a.care a.value) bits ≡ true) = and_parts _ _ h in
    let second : (accepts (literal (bit_worth n b.care) (bit_worth n b.value)) bit ≡ true) × (row_matches (literals n b.care b.value) bits ≡ true) = and_parts _ _ g in
    let front : bit_worth n (clash a b) ≡ false =
    bit_worth-clash n a b
    ∙ both-accept (bit_worth n a.care) (bit_worth n a.value) (bit_worth n b.care) (bit_worth n b.value) bit first.0 second.0 in
    let rest : clash a b % 2 ^ n ≡ 0 = clash-mod n a b bits (omega arith) first.1 second.1 in
    let all : clash a b % 2 ^ suc n ≡ 0 * 2 ^ n + 0 =
    mod-pow-suc n (clash a b) ∙ ap₂ (λ x y. weight_of x * 2 ^ n + y) front rest in
    omega arith

pub clash-from_Meet : (n : ℕ) (a b : Row01) → b.care < 2 ^ n → Meet n a b → clash a b ≡ 0
clash-from_Meet n a b narrow m =
    sym (mod-eq_of_lt (lt_of_le_of_lt (and_le_r (bit_and (bit_xor a.value b.value) a.care) b.care) narrow))
    ∙ clash-mod n a b m.bits m.sized m.first m.second
