-- Where rows and covers match at 64 points, point by point.
use Rattle.std.proofs.Common.{◌≡◌, ℕ, suc, ◌+◌, ◌-◌, ◌<◌, ◌≤◌, Bool, true, false, not, ◌&&◌, ◌||◌, if◌then◌else◌, List, [], ◌∷◌, map, length, drop, take, get_or, refl, sym, ◌∙◌, ap, ap₂, arith, add-one}
use Rattle.std.proofs.Math.Seq.{drop-cons}
use Rattle.std.proofs.lemmas.List.{map_more}
use Rattle.std.proofs.lemmas.List.Folds.{list_any-append}
use Rattle.tsc_bits.specs.Bits.{bit_worth, same}
use Rattle.tsc_bits.proofs.Bools.{and_assoc, and-true, or-false}
use Rattle.tsc_cover.specs.Cover.{CoverTable, accepts, row_matches, literals, some_row_matches, truth}
use Rattle.tsc_cover.specs.Row.{literal, literals_of_each}
use Rattle.tsc_cover.specs.declared.rows.Row01.{Row01}
use Rattle.fault_secure.specs.Circuit.{bit}
use Rattle.tsc_net.specs.PlanView.{net_numbers}
use Rattle.tsc_net.specs.declared.ids.NetId.{NetId}
use Rattle.lane_sim.proofs.LaneLemmas.{bit_of_ones}

drop_nets : (nets : List NetId) (i : ℕ) (d : NetId) → i < length nets → net_numbers (drop i nets) ≡ (get_or nets i d).number ∷ net_numbers (drop (i + 1) nets)
drop_nets nets i d h = ap net_numbers (drop-cons nets i d h) ∙ ap (λ k. (get_or nets i d).number ∷ net_numbers (drop k nets)) (sym (add-one i))

-- a pin more of a row
pub row_step : (v : List Bool) (nets : List NetId) (i care value : ℕ) (all pin : Bool) (d : NetId) → i < length nets
    → pin ≡ accepts (literal (bit_worth (length nets - 1 - i) care) (bit_worth (length nets - 1 - i) value)) (bit v (get_or nets i d).number)
    → ((all && pin) && row_matches (literals (length nets - (i + 1)) care value) (map (bit v) (net_numbers (drop (i + 1) nets))))
    ≡ (all && row_matches (literals (length nets - i) care value) (map (bit v) (net_numbers (drop i nets))))
row_step v nets i care value all pin d h is =
    let left : length nets - i ≡ suc (length nets - (i + 1)) = omega arith in
    let worth : length nets - 1 - i ≡ length nets - (i + 1) = omega arith in
    and_assoc all pin (row_matches (literals (length nets - (i + 1)) care value) (map (bit v) (net_numbers (drop (i + 1) nets))))
    ∙ ap (λ b. all && (b && row_matches (literals (length nets - (i + 1)) care value) (map (bit v) (net_numbers (drop (i + 1) nets)))))
    (is ∙ ap (λ n. accepts (literal (bit_worth n care) (bit_worth n value)) (bit v (get_or nets i d).number)) worth)
    ∙ sym (ap₂ (λ n list. all && row_matches (literals n care value) (map (bit v) list)) left (drop_nets nets i d h))

pub row_end : (bits : List Bool) (count i care value : ℕ) (all whole : Bool) → count ≤ i → (all && row_matches (literals (count - i) care value) bits) ≡ whole → all ≡ whole
row_end bits count i care value all whole high e =
    let none : 0 ≡ count - i = omega arith in
    sym (and-true all) ∙ ap (λ n. all && row_matches (literals n care value) bits) none ∙ e

pub row_start : (bits : List Bool) (count care value p : ℕ) → p < 64 → (bit_worth p 18446744073709551615 && row_matches (literals (count - 0) care value) bits) ≡ row_matches (literals count care value) bits
row_start bits count care value p low =
    let all : count - 0 ≡ count = omega arith in
    ap₂ (λ b n. b && row_matches (literals n care value) bits) (bit_of_ones p low) all

-- a row more
pub rows_step : (bits : List Bool) (width : ℕ) (rows : List Row01) (i : ℕ) (d : Row01) → i < length rows
    → some_row_matches (literals_of_each width (take (i + 1) rows)) bits
    ≡ (some_row_matches (literals_of_each width (take i rows)) bits || row_matches (literals width (get_or rows i d).care (get_or rows i d).value) bits)
rows_step bits width rows i d h =
    ap (λ list. some_row_matches list bits) (map_more (λ (row : Row01). literals width row.care row.value) rows i d h)
    ∙ list_any-append (λ row. row_matches row bits) (literals_of_each width (take i rows)) (literals width (get_or rows i d).care (get_or rows i d).value ∷ [])
    ∙ ap (λ b. some_row_matches (literals_of_each width (take i rows)) bits || b) (or-false (row_matches (literals width (get_or rows i d).care (get_or rows i d).value) bits))

turned : (on some : Bool) → not (same some (not on)) ≡ (if on then some else not some)
turned true true = refl
turned true false = refl
turned false true = refl
turned false false = refl

-- a word of a cover: where some row matches, turned where the cover is one of rows that don't
pub cover_word_is : (cover : CoverTable) (bits : List Bool) (width : ℕ) (rows : List Row01) (some off : Bool) → width ≡ cover.width → literals_of_each cover.width rows ≡ cover.rows
    → some ≡ some_row_matches (literals_of_each width rows) bits → off ≡ not cover.on → not (same some off) ≡ truth cover bits
cover_word_is cover bits width rows some off wide same_rows is turn =
    let some_is : some ≡ some_row_matches cover.rows bits =
    is ∙ ap (λ n. some_row_matches (literals_of_each n rows) bits) wide ∙ ap (λ list. some_row_matches list bits) same_rows in
    ap₂ (λ a b. not (same a b)) some_is turn ∙ turned cover.on (some_row_matches cover.rows bits)

wanted : (value b : Bool) → not (same b (not value)) ≡ accepts (literal true value) b
wanted true true = refl
wanted true false = refl
wanted false true = refl
wanted false false = refl

-- a literal that asks for a bit
pub pin_wants : (care value care_bit value_bit b off x : Bool) → care ≡ true → care ≡ care_bit → value ≡ value_bit → off ≡ not value → x ≡ not (same b off) → x ≡ accepts (literal care_bit value_bit) b
pin_wants care value care_bit value_bit b off x cares same_care same_value turn is =
    is ∙ ap (λ w. not (same b w)) turn ∙ wanted value b
    ∙ ap₂ (λ c v. accepts (literal c v) b) (sym cares ∙ same_care) same_value

-- a literal that asks for none
pub pin_free : (care value_bit care_bit b x : Bool) → care ≡ false → care ≡ care_bit → x ≡ true → x ≡ accepts (literal care_bit value_bit) b
pin_free care value_bit care_bit b x none same_care is = is ∙ ap (λ c. accepts (literal c value_bit) b) (sym none ∙ same_care)
