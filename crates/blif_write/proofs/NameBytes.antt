-- The bytes of a name that a text can hold are those of a word, and of a text.
use Rattle.std.proofs.Common.{◌≡◌, ℕ, ◌≤◌, Bool, true, false, not, ◌&&◌, nat_le, eqb, List, [], ◌∷◌, length, refl, ap₂}
use native.Mathlib.Omega.{arith}
use Rattle.std.specs.List.{list_all}
use Rattle.tsc_text.specs.Bytes.{is_allowed}
use Rattle.tsc_text.specs.Written.{is_word_byte}
use Rattle.tsc_text.proofs.Written.{Both, both}
use Rattle.blif_write.specs.Writable.{IsGoodName}

-- the bytes of a name that a text can hold: the visible ones, but `#`
abbrev pub is_name_byte : ℕ → Bool
is_name_byte b = (nat_le 33 b && nat_le b 126) && not (eqb b 35)

byte-word : (b : ℕ) → is_name_byte b ≡ true → is_word_byte false b ≡ true
byte-word b h = grind arith

byte-allowed : (b : ℕ) → is_name_byte b ≡ true → is_allowed b ≡ true
byte-allowed b h = grind arith

all-also : (p q : ℕ → Bool) → ((b : ℕ) → p b ≡ true → q b ≡ true) → (bytes : List ℕ) → list_all p bytes ≡ true → list_all q bytes ≡ true
all-also p q each [] h = refl
all-also p q each (b ∷ bytes) h =
    let parts : Both (p b) (list_all p bytes) = both _ _ h in
    ap₂ (λ x y. x && y) (each b parts.left) (all-also p q each bytes parts.right)

-- a name of 1 to 255 bytes, each of which a name may have, is good
pub name_good : (name : List ℕ) → 1 ≤ length name → length name ≤ 255 → list_all is_name_byte name ≡ true → IsGoodName name
name_good name some short h =
    record {
      word = grind (arith, all-also is_name_byte (is_word_byte false) byte-word name h);
      allowed = grind (arith, all-also is_name_byte is_allowed byte-allowed name h);
      short = short;
    }
