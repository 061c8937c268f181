-- Where rows and covers match, lane by lane.
use Rattle.std.proofs.Common.{◌≡◌, ℕ, suc, ◌+◌, ◌-◌, ◌<◌, ◌≤◌, Bool, true, false, not, ◌&&◌, ◌||◌, cond, List, [], ◌∷◌, length, drop, take, get_or, refl, sym, ◌∙◌, ap, ap₂, arith, add-one}
use Rattle.std.proofs.Math.Seq.{drop-cons}
use Rattle.std.proofs.lemmas.List.{map_more, length-map, get_or-map}
use Rattle.std.proofs.lemmas.List.Folds.{list_any-append}
use Rattle.std.proofs.lemmas.List.FromFn.{length-map-range_with_len, get_or-map-range_with_len}
use Rattle.tsc_bits.specs.Bits.{bit_worth, same}
use Rattle.tsc_bits.proofs.Bools.{and_assoc, and-true, or-false}
use Rattle.tsc_cover.specs.Cover.{CoverTable, accepts, row_matches, literals, some_row_matches, truth}
use Rattle.tsc_cover.specs.Row.{literal, literals_of_each}
use Rattle.tsc_cover.specs.declared.rows.Row01.{Row01}
use Rattle.tsc_net.specs.PlanView.{net_numbers}
use Rattle.tsc_net.specs.declared.ids.NetId.{NetId}
use Rattle.lane_sim.specs.Points.{source_bit}
use Rattle.fault_lanes.specs.Bench.{bits_in}
use Rattle.fault_lanes.specs.Settling.{bits_at}

-- ---- the bits in a lane

pub length-bits_in : (words : List ℕ) (many lane : ℕ) → length (bits_in words many lane) ≡ many
length-bits_in words many lane = length-map-range_with_len (λ place. source_bit words place lane) 0 many

pub bit_in : (words : List ℕ) (many lane place : ℕ) → place < many → get_or (bits_in words many lane) place false ≡ source_bit words place lane
bit_in words many lane place inside = get_or-map-range_with_len (λ place. source_bit words place lane) 0 many place place false inside (omega arith)

pub length-bits_at : (words : List ℕ) (reads : List NetId) (lane : ℕ) → length (bits_at words (net_numbers reads) lane) ≡ length reads
length-bits_at words reads lane = length-map (net_numbers reads) (λ row. source_bit words row lane) ∙ length-map reads (λ (net : NetId). net.number)

bit_at : (words : List ℕ) (reads : List NetId) (lane pin : ℕ) (d : NetId) → pin < length reads
    → get_or (bits_at words (net_numbers reads) lane) pin false ≡ source_bit words (get_or reads pin d).number lane
bit_at words reads lane pin d inside =
    get_or-map (λ row. source_bit words row lane) (net_numbers reads) pin d.number false (omega (arith, length-map reads (λ (net : NetId). net.number)))
    ∙ ap (λ row. source_bit words row lane) (get_or-map (λ (net : NetId). net.number) reads pin d d.number inside)

-- ---- rows

-- a pin more of a row
row_step : (bits : List Bool) (width pin care value : ℕ) (all next : Bool) → length bits ≡ width → pin < width
    → next ≡ (all && accepts (literal (bit_worth (width - 1 - pin) care) (bit_worth (width - 1 - pin) value)) (get_or bits pin false))
    → (next && row_matches (literals (width - (pin + 1)) care value) (drop (pin + 1) bits)) ≡ (all && row_matches (literals (width - pin) care value) (drop pin bits))
row_step bits width pin care value all next sized inside is =
    let left : width - pin ≡ suc (width - (pin + 1)) = omega arith in
    let worth : width - 1 - pin ≡ width - (pin + 1) = omega arith in
    let here : drop pin bits ≡ get_or bits pin false ∷ drop (pin + 1) bits =
    drop-cons bits pin false (omega (arith, sized)) ∙ ap (λ k. get_or bits pin false ∷ drop k bits) (sym (add-one pin)) in
    ap (λ b. b && row_matches (literals (width - (pin + 1)) care value) (drop (pin + 1) bits))
    (is ∙ ap (λ n. all && accepts (literal (bit_worth n care) (bit_worth n value)) (get_or bits pin false)) worth)
    ∙ and_assoc all (accepts (literal (bit_worth (width - (pin + 1)) care) (bit_worth (width - (pin + 1)) value)) (get_or bits pin false))
    (row_matches (literals (width - (pin + 1)) care value) (drop (pin + 1) bits))
    ∙ sym (ap₂ (λ n list. all && row_matches (literals n care value) list) left here)

pub row_more : (words : List ℕ) (reads : List NetId) (pin care value lane : ℕ) (d : NetId) (all next whole : Bool) → pin < length reads
    → next ≡ (all && accepts (literal (bit_worth (length reads - 1 - pin) care) (bit_worth (length reads - 1 - pin) value)) (source_bit words (get_or reads pin d).number lane))
    → (all && row_matches (literals (length reads - pin) care value) (drop pin (bits_at words (net_numbers reads) lane))) ≡ whole
    → (next && row_matches (literals (length reads - (pin + 1)) care value) (drop (pin + 1) (bits_at words (net_numbers reads) lane))) ≡ whole
row_more words reads pin care value lane d all next whole inside is before =
    row_step (bits_at words (net_numbers reads) lane) (length reads) pin care value all next (length-bits_at words reads lane) inside
    (is ∙ ap (λ b. all && accepts (literal (bit_worth (length reads - 1 - pin) care) (bit_worth (length reads - 1 - pin) value)) b) (sym (bit_at words reads lane pin d inside)))
    ∙ before

pub row_end : (bits : List Bool) (width pin care value : ℕ) (all whole : Bool) → width ≤ pin → (all && row_matches (literals (width - pin) care value) bits) ≡ whole → all ≡ whole
row_end bits width pin care value all whole high e =
    let none : 0 ≡ width - pin = omega arith in
    sym (and-true all) ∙ ap (λ n. all && row_matches (literals n care value) bits) none ∙ e

pub row_start : (bits : List Bool) (width care value : ℕ) (all : Bool) → all ≡ true → (all && row_matches (literals (width - 0) care value) (drop 0 bits)) ≡ row_matches (literals width care value) bits
row_start bits width care value all is =
    let whole : width - 0 ≡ width = omega arith in
    ap₂ (λ b n. b && row_matches (literals n care value) bits) is whole

-- a row more
pub rows_more : (bits : List Bool) (width : ℕ) (rows : List Row01) (i : ℕ) (d : Row01) (some next : Bool) → i < length rows
    → next ≡ (some || row_matches (literals width (get_or rows i d).care (get_or rows i d).value) bits)
    → some ≡ some_row_matches (literals_of_each width (take i rows)) bits
    → next ≡ some_row_matches (literals_of_each width (take (i + 1) rows)) bits
rows_more bits width rows i d some next inside is before =
    is ∙ ap (λ b. b || row_matches (literals width (get_or rows i d).care (get_or rows i d).value) bits) before
    ∙ sym (ap (λ list. some_row_matches list bits) (map_more (λ (row : Row01). literals width row.care row.value) rows i d inside)
    ∙ list_any-append (λ row. row_matches row bits) (literals_of_each width (take i rows)) (literals width (get_or rows i d).care (get_or rows i d).value ∷ [])
    ∙ ap (λ b. some_row_matches (literals_of_each width (take i rows)) bits || b) (or-false (row_matches (literals width (get_or rows i d).care (get_or rows i d).value) bits)))

turned : (on some : Bool) → same on some ≡ cond on some (not some)
turned true some = refl
turned false some = refl

-- a cover: where some row matches, turned where its rows are the off-set
pub cover_is : (cover : CoverTable) (bits : List Bool) (width : ℕ) (rows : List Row01) (on x some : Bool) → width ≡ cover.width → on ≡ cover.on → literals_of_each cover.width rows ≡ cover.rows
    → x ≡ same on some → some ≡ some_row_matches (literals_of_each width rows) bits → x ≡ truth cover bits
cover_is cover bits width rows on x some wide turn same_rows is matches =
    is ∙ ap₂ same turn (matches ∙ ap (λ n. some_row_matches (literals_of_each n rows) bits) wide ∙ ap (λ list. some_row_matches list bits) same_rows)
    ∙ turned cover.on (some_row_matches cover.rows bits)
