-- The texts of fresh names: counts that lie close to each other have different texts.
use Rattle.std.proofs.Common.{◌≡◌, ℕ, zero, suc, ◌+◌, ◌*◌, ◌/◌, ◌%◌, ◌^◌, ◌<◌, ◌≤◌, inl, inr, Bool, false, cond, List, [], ◌∷◌, length, drop, slice_index, refl, sym, ◌∙◌, ap, arith}
use Rattle.std.specs.Fmt.{digit_glyph, digits_onto, digits, decimal}
use Rattle.std.proofs.lemmas.Bool.{cases_lt, eq-eqb, ne_eqb, lt-ltb}
use Rattle.std.proofs.Math.Seq.{drop-append_seam}
use Rattle.tsc_net.specs.Parts.{fresh_prefix, fresh_text}

-- ten to the power of so many digits
abbrev span : ℕ → ℕ
span zero = 1
span (suc k) = 10 * span k

-- at most so many digits, before those that stand
abbrev spell : ℕ → ℕ → List ℕ → List ℕ
spell k n acc = digits_onto k 10 false n acc

-- the last digit
abbrev glyph : ℕ → ℕ
glyph n = digit_glyph false (n % 10)

-- a number below ten has one digit
spell_last : (k n : ℕ) (acc : List ℕ) → n < 10 → spell (suc k) n acc ≡ glyph n ∷ acc
spell_last k n acc h = ap (λ (t : Bool). cond t (glyph n ∷ acc) (spell k (n / 10) (glyph n ∷ acc))) (eq-eqb (n / 10) 0 (omega arith))

-- any other one has its last digit after those of its tenth
spell_next : (k n : ℕ) (acc : List ℕ) → 10 ≤ n → spell (suc k) n acc ≡ spell k (n / 10) (glyph n ∷ acc)
spell_next k n acc h = ap (λ (t : Bool). cond t (glyph n ∷ acc) (spell k (n / 10) (glyph n ∷ acc))) (ne_eqb (n / 10) 0 (λ e. omega arith))

-- no digit goes
spell_long : (k n : ℕ) (acc : List ℕ) → length acc ≤ length (spell k n acc)
spell_long zero n acc = omega arith
spell_long (suc k) n acc = elim (cases_lt n 10) [
  | inl low ↦ omega (arith, ap length (spell_last k n acc low))
  | inr high ↦ omega (arith, ap length (spell_next k n acc (omega arith)), spell_long k (n / 10) (glyph n ∷ acc))
]

-- and one comes, if one may
spell_longer : (k n : ℕ) (acc : List ℕ) → length acc < length (spell (suc k) n acc)
spell_longer k n acc = elim (cases_lt n 10) [
  | inl low ↦ omega (arith, ap length (spell_last k n acc low))
  | inr high ↦ omega (arith, ap length (spell_next k n acc (omega arith)), spell_long k (n / 10) (glyph n ∷ acc))
]

-- the digit of a number below ten
glyph_is : (d : ℕ) → d < 10 → digit_glyph false d ≡ 48 + d
glyph_is d low = ap (λ (t : Bool). cond t (48 + d) (87 + d)) (lt-ltb d 10 low)

-- numbers with the same last digit
glyph_same : (a b : ℕ) → glyph a ≡ glyph b → a % 10 ≡ b % 10
glyph_same a b e = omega (arith, e, glyph_is (a % 10) (omega arith), glyph_is (b % 10) (omega arith))

-- the first digits of two lists that are the same
head_same : (x y : ℕ) (xs ys : List ℕ) → x ∷ xs ≡ y ∷ ys → x ≡ y
head_same x y xs ys e = ap (λ (l : List ℕ). slice_index l 0) e

-- and what stands after them
tail_same : (x y : ℕ) (xs ys : List ℕ) → x ∷ xs ≡ y ∷ ys → xs ≡ ys
tail_same x y xs ys e = ap (drop 1) e

-- one digit isn't as many as two
one_no_more : (k a b : ℕ) (xs ys : List ℕ) → length xs ≡ length ys → glyph a ∷ xs ≡ spell k (b / 10) (glyph b ∷ ys) → glyph a ∷ xs ≡ glyph b ∷ ys
one_no_more zero a b xs ys long e = e
one_no_more (suc k) a b xs ys long e = absurd (omega (arith, long, ap length e, spell_longer k (b / 10) (glyph b ∷ ys)))

-- where the digits before two lists as long as each other are the same, so are the lists
spell_rest : (k a b : ℕ) (xs ys : List ℕ) → length xs ≡ length ys → spell k a xs ≡ spell k b ys → xs ≡ ys
spell_rest zero a b xs ys long e = e
spell_rest (suc k) a b xs ys long e = elim (cases_lt a 10) [
  | inl la ↦ elim (cases_lt b 10) [
    | inl lb ↦ tail_same (glyph a) (glyph b) xs ys (sym (spell_last k a xs la) ∙ e ∙ spell_last k b ys lb)
    | inr gb ↦ tail_same (glyph a) (glyph b) xs ys (one_no_more k a b xs ys long (sym (spell_last k a xs la) ∙ e ∙ spell_next k b ys (omega arith)))
  ]
  | inr ga ↦ elim (cases_lt b 10) [
    | inl lb ↦ tail_same (glyph a) (glyph b) xs ys (sym (one_no_more k b a ys xs (sym long) (sym (spell_last k b ys lb) ∙ sym e ∙ spell_next k a xs (omega arith))))
    | inr gb ↦ tail_same (glyph a) (glyph b) xs ys
        (spell_rest k (a / 10) (b / 10) (glyph a ∷ xs) (glyph b ∷ ys) (omega (arith, long)) (sym (spell_next k a xs (omega arith)) ∙ e ∙ spell_next k b ys (omega arith)))
  ]
]

-- numbers closer to each other than the power of ten that have the same digits are the same
spell_same : (k a b : ℕ) (xs ys : List ℕ) → length xs ≡ length ys → a ≤ b → b < a + span k → spell k a xs ≡ spell k b ys → a ≡ b
spell_same zero a b xs ys long le close e = omega arith
spell_same (suc k) a b xs ys long le close e = elim (cases_lt b 10) [
  | inl lb ↦ (
      let digit = glyph_same a b (head_same (glyph a) (glyph b) xs ys (sym (spell_last k a xs (omega arith)) ∙ e ∙ spell_last k b ys lb)) in
      omega arith)
  | inr gb ↦ elim (cases_lt a 10) [
    | inl la ↦ one k close (sym (spell_last k a xs la) ∙ e ∙ spell_next k b ys (omega arith)) la
    | inr ga ↦ (
        let rest : spell k (a / 10) (glyph a ∷ xs) ≡ spell k (b / 10) (glyph b ∷ ys) = sym (spell_next k a xs (omega arith)) ∙ e ∙ spell_next k b ys (omega arith) in
        let behind : glyph a ∷ xs ≡ glyph b ∷ ys = spell_rest k (a / 10) (b / 10) (glyph a ∷ xs) (glyph b ∷ ys) (omega (arith, long)) rest in
        let digit = glyph_same a b (head_same (glyph a) (glyph b) xs ys behind) in
        let tenth : a / 10 ≡ b / 10 = spell_same k (a / 10) (b / 10) (glyph a ∷ xs) (glyph b ∷ ys) (omega (arith, long)) (omega arith) (omega arith) rest in
        omega arith)
  ]
]
  where
    one : (j : ℕ) → b < a + 10 * span j → glyph a ∷ xs ≡ spell j (b / 10) (glyph b ∷ ys) → a < 10 → a ≡ b
    one zero near same small = let digit = glyph_same a b (head_same (glyph a) (glyph b) xs ys same) in omega arith
    one (suc j) near same small = absurd (omega (arith, long, ap length same, spell_longer j (b / 10) (glyph b ∷ ys)))

-- the digits of a number are at most 64 of them
decimal_is : (n : ℕ) → spell 64 n [] ≡ decimal n
unfolding digits
decimal_is n = refl

-- so many digits have room for 2 ^ 32 numbers
span_large : 2 ^ 32 ≤ span 64
span_large = omega arith

-- counts less than 2 ^ 32 apart have different texts, the lesser one first
close_differ : (number a b : ℕ) → a ≤ b → b < a + 2 ^ 32 → fresh_text number a ≡ fresh_text number b → a ≡ b
close_differ number a b le close same =
    let counts : decimal a ≡ decimal b = sym (drop-append_seam (fresh_prefix number) (decimal a)) ∙ ap (drop (length (fresh_prefix number))) same ∙ drop-append_seam (fresh_prefix number) (decimal b) in
    spell_same 64 a b [] [] refl le (omega (arith, span_large)) (decimal_is a ∙ counts ∙ sym (decimal_is b))

-- and in either order
pub fresh_differ : (number a b : ℕ) → b < a + 2 ^ 32 → a < b + 2 ^ 32 → fresh_text number a ≡ fresh_text number b → a ≡ b
fresh_differ number a b above below same = elim (cases_lt a b) [
  | inl first ↦ close_differ number a b (omega arith) above same
  | inr second ↦ sym (close_differ number b a (omega arith) below (sym same))
]
