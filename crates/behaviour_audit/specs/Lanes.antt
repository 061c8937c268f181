-- What a word of 64 points says of them, and of their bits.
use Rattle.std.specs.Prelude.{◌≡◌, ℕ, ◌-◌, ◌<◌, ◌==◌, ◌⊎◌, Bool, true, false, List, length, if◌then◌else◌}
use Rattle.tsc_bits.specs.Bits.{bit_worth}
use Rattle.fault_secure.specs.Circuit.{bit}

-- where the word has a 0, this holds of the point
abbrev pub HoldsAtZeros : ℕ → (ℕ → Type 0) → Type 0
HoldsAtZeros word P = (k : ℕ) → k < 64 → bit_worth k word ≡ false → P k

-- the bits, of which there are n, are those of a number at the places that are asked for
abbrev pub Fits : ℕ → List Bool → ℕ → ℕ → Type 0
Fits n bits asked wanted = (place : ℕ) → place < n → bit_worth (n - 1 - place) asked ≡ true → bit bits place ≡ bit_worth (n - 1 - place) wanted

-- the bits are the chosen ones, but where a 1 tells that they are free, under a plan of version 2
abbrev pub ChosenOrFree : ℕ → List Bool → List Bool → List Bool → Type 0
ChosenOrFree version free chosen bits = (place : ℕ) → place < length bits → ((version ≡ 2) × (bit free place ≡ true)) ⊎ (bit bits place ≡ bit chosen place)

-- the outputs of a row that are asked for: those that it specifies, under a plan of another version than 2 all
abbrev pub asked_under : ℕ → ℕ → ℕ
asked_under version specified = if version == 2 then specified else 18446744073709551615
