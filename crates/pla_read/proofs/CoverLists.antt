-- Covers one an output, as rows are put into them and as they are taken out.
use Rattle.std.proofs.Common.{◌≡◌, ℕ, ◌+◌, ◌-◌, ◌<◌, ◌≤◌, ◌&&◌, ◌||◌, Bool, true, false, inl, inr, if◌then◌else◌, nat_lt, eqb, List, [], ◌∷◌, ◌++◌, length, map, take, get_or, All, refl, sym, ap, ap₂, ◌∙◌, subst, arith, length-append}
use Rattle.std.specs.List.{slice_set}
use Rattle.std.proofs.lemmas.Bool.{cases_lt, lt-ltb, le-ltb}
use Rattle.std.proofs.lemmas.List.{get_or-append-add, get_or_append_left, get_or-set_other, get_or-set_same, length-set, take_all}
use Rattle.std.proofs.lemmas.Nat.Bits.{bit_at_ones}
use Rattle.std.specs.Int.RustNames.{bit_and, bit_or}
use Rattle.tsc_bits.specs.Bits.{bits_of}
use Rattle.tsc_bits.proofs.Bits.{bit_worth-and, bit_worth-or, bit_worth-zero, get_or-bits_of}
use Rattle.tsc_cover.specs.Cover.{CoverTable, Literal}
use Rattle.tsc_cover.specs.Row.{IsRow}
use Rattle.tsc_cover.specs.declared.rows.Row01.{Row01}
use Rattle.fault_secure.specs.Circuit.{bit}
use Rattle.pla_read.specs.RowText.{TableRow}
use Rattle.pla_read.specs.Covers.{marked_at, marks_in}
use Rattle.pla_read.specs.Spread.{no_rows, spread_cover, with_row, AreCovers, HaveRow}
use Rattle.pla_read.specs.Shaped.{row_as}
use Rattle.pla_read.specs.declared.rows.PlaRow.{PlaRow}
use Rattle.pla_read.specs.declared.rows.Mark.{Mark}
use Rattle.pla_read.proofs.Marked.{marked_grown, some_marked_more}

-- ---- bits of numbers

pub bit-and : (places a b place : ℕ) → place < places → bit (bits_of places (bit_and a b)) place ≡ bit (bits_of places a) place && bit (bits_of places b) place
bit-and places a b place below =
    get_or-bits_of places (bit_and a b) place below ∙ bit_worth-and (places - 1 - place) a b
    ∙ ap₂ (λ x y. x && y) (sym (get_or-bits_of places a place below)) (sym (get_or-bits_of places b place below))

bit-or : (places a b place : ℕ) → place < places → bit (bits_of places (bit_or a b)) place ≡ bit (bits_of places a) place || bit (bits_of places b) place
bit-or places a b place below =
    get_or-bits_of places (bit_or a b) place below ∙ bit_worth-or (places - 1 - place) a b
    ∙ ap₂ (λ x y. x || y) (sym (get_or-bits_of places a place below)) (sym (get_or-bits_of places b place below))

bit-all : (places place : ℕ) → places ≤ 64 → place < places → bit (bits_of places 18446744073709551615) place ≡ true
bit-all places place few below =
    get_or-bits_of places 18446744073709551615 place below ∙ ap (λ b. eqb b 1) (bit_at_ones 64 (places - 1 - place) (omega arith))

-- ---- a list of covers

-- a cover more
pub covers_push : (n : ℕ) (f : ℕ → CoverTable) (covers all : List CoverTable) (cover : CoverTable) → AreCovers 0 n f covers → cover ≡ f n → all ≡ covers ++ cover ∷ []
    → AreCovers 0 (n + 1) f all
covers_push n f covers all cover are is pushed = record {
  counted = ap length pushed ∙ length-append covers (cover ∷ []) ∙ ap (λ m. m + 1) are.counted;
  each = λ place d low below. ap (λ l. get_or l place d) pushed ∙ at place d below;
}
  where
    at : (place : ℕ) (d : CoverTable) → place < n + 1 → get_or (covers ++ cover ∷ []) place d ≡ f place
    at place d below = elim (cases_lt place n) [
      | inl h ↦ get_or_append_left covers (cover ∷ []) d place (omega (arith, h, are.counted)) ∙ are.each place d (omega arith) h
      | inr h ↦
          let here : place ≡ length covers + 0 = omega (arith, h, below, are.counted) in
          let last : n ≡ place = omega arith in
          ap (λ p. get_or (covers ++ cover ∷ []) p d) here ∙ get_or-append-add covers (cover ∷ []) 0 d ∙ is ∙ ap f last
    ]

-- the same covers, of another function
pub covers_same : (from n : ℕ) (f g : ℕ → CoverTable) (covers : List CoverTable) → AreCovers from n f covers → ((place : ℕ) → place < n → f place ≡ g place)
    → AreCovers from n g covers
covers_same from n f g covers are same = record {
  counted = are.counted;
  each = λ place d low below. are.each place d low below ∙ same place below;
}

-- a cover is taken out
pub covers_taken : (place n : ℕ) (f : ℕ → CoverTable) (covers after : List CoverTable) (left : CoverTable) → AreCovers place n f covers
    → after ≡ slice_set covers place left → AreCovers (place + 1) n f after
covers_taken place n f covers after left are is = record {
  counted = ap length is ∙ length-set covers place left ∙ are.counted;
  each = λ k d low below.
      ap (λ l. get_or l k d) is ∙ get_or-set_other covers place k left d (λ e. absurd (omega (arith, e, low))) ∙ are.each k d (omega arith) below;
}

-- ---- a row is put last into some covers

with_row-width : (row : Row01) (b : Bool) (cover : CoverTable) → (with_row row b cover).width ≡ cover.width
with_row-width row true cover = refl
with_row-width row false cover = refl

pub have_fit : (row : Row01) (asked : ℕ → Bool) (before after : List CoverTable) → HaveRow row asked before after
    → All (λ (cover : CoverTable). IsRow cover.width row) before → All (λ (cover : CoverTable). IsRow cover.width row) after
have_fit row asked before after have fit = λ k d h.
    let inside : k < length before = omega (arith, h, have.counted) in
    subst (λ width. IsRow width row) (sym (ap (λ (cover : CoverTable). cover.width) (have.each k d inside) ∙ with_row-width row (asked k) (get_or before k d)))
    (fit k d inside)

module _ (row : Row01) (asked : ℕ → Bool) (before : List CoverTable) where
  abbrev HaveBelow : ℕ → List CoverTable → Type 0
  HaveBelow place covers = HaveRow row (λ k. nat_lt k place && asked k) before covers

  pub have_none : (first : ℕ) → ((k : ℕ) → k < first → asked k ≡ false) → HaveBelow first before
  have_none first none = record {
    counted = refl;
    each = λ k d h. sym (ap (λ b. with_row row b (get_or before k d)) (off k));
  }
    where
      off : (k : ℕ) → nat_lt k first && asked k ≡ false
      off k = elim (cases_lt k first) [
        | inl h ↦ ap₂ (λ a b. a && b) (lt-ltb k first h) (none k h)
        | inr h ↦ ap (λ a. a && asked k) (le-ltb k first h)
      ]

  pub have_all : (place : ℕ) (after : List CoverTable) → length before ≤ place → HaveBelow place after → HaveRow row asked before after
  have_all place after past have = record {
    counted = have.counted;
    each = λ k d h. have.each k d h ∙ ap (λ a. with_row row (a && asked k) (get_or before k d)) (lt-ltb k place (omega arith));
  }

  module _ (covers after : List CoverTable) (place next : ℕ) (have : HaveBelow place covers) (below : place < length before) (on : asked place ≡ true)
      (pushed : (d : CoverTable) → after ≡ slice_set covers place (with_row row true (get_or covers place d))) (later : place < next)
      (none : (k : ℕ) → place < k → k < next → asked k ≡ false) where
    same_as : (k : ℕ) (d : CoverTable) (b : Bool) → nat_lt k place && asked k ≡ b → k < length before → get_or covers k d ≡ with_row row b (get_or before k d)
    same_as k d b e h = have.each k d h ∙ ap (λ b. with_row row b (get_or before k d)) e

    here : (d : CoverTable) → get_or after place d ≡ with_row row true (get_or before place d)
    here d =
        ap (λ l. get_or l place d) (pushed d)
        ∙ get_or-set_same covers place (with_row row true (get_or covers place d)) d (omega (arith, below, have.counted))
        ∙ ap (with_row row true) (same_as place d false (ap (λ a. a && asked place) (le-ltb place place (omega arith))) below)

    elsewhere : (k : ℕ) (d : CoverTable) → (k ≡ place → ⊥) → get_or after k d ≡ get_or covers k d
    elsewhere k d other =
        ap (λ l. get_or l k d) (pushed d) ∙ get_or-set_other covers place k (with_row row true (get_or covers place d)) d other

    at : (k : ℕ) (d : CoverTable) → k < length before → get_or after k d ≡ with_row row (nat_lt k next && asked k) (get_or before k d)
    at k d h = elim (cases_lt k place) [
      | inl low ↦
          let up : k < next = omega arith in
          elsewhere k d (λ e. absurd (omega (arith, e, low)))
          ∙ same_as k d (nat_lt k next && asked k) (ap (λ a. a && asked k) (lt-ltb k place low ∙ sym (lt-ltb k next up))) h
      | inr high ↦ elim (cases_lt place k) [
        | inl past ↦
            elsewhere k d (λ e. absurd (omega (arith, e, past)))
            ∙ same_as k d (nat_lt k next && asked k) (ap (λ a. a && asked k) (le-ltb k place high) ∙ sym (off k past)) h
        | inr same ↦
            let e : k ≡ place = omega arith in
            ap (λ p. get_or after p d) e ∙ here d
            ∙ sym (ap₂ (λ b p. with_row row b (get_or before p d)) (ap₂ (λ a b. a && b) (lt-ltb k next (omega arith)) (ap asked e ∙ on)) e)
      ]
    ]
      where
        off : (k : ℕ) → place < k → nat_lt k next && asked k ≡ false
        off k past = elim (cases_lt k next) [
          | inl h ↦ ap₂ (λ a b. a && b) (lt-ltb k next h) (none k past h)
          | inr h ↦ ap (λ a. a && asked k) (le-ltb k next h)
        ]

    pub have_next : HaveBelow next after
    have_next = record {
      counted = ap length (pushed (no_rows 0)) ∙ length-set covers place _ ∙ have.counted;
      each = at;
    }

-- ---- all rows

-- a cover that has rows where it is asked for
abbrev when : ℕ → List (List Literal) → Bool → CoverTable
when inputs list asked = record { width = inputs; on = true; rows = if asked then list else [] }

module _ (mark : Mark) (within inputs outputs : ℕ) where
  abbrev spread_of : List PlaRow → ℕ → CoverTable
  spread_of rows = spread_cover mark (bits_of outputs within) inputs (map (row_as inputs outputs) rows)

  pub spread_none : (n : ℕ) (covers : List CoverTable) → n ≡ outputs → AreCovers 0 n (λ place. no_rows inputs) covers → AreCovers 0 outputs (spread_of []) covers
  spread_none n covers is are =
      covers_same 0 outputs (λ place. no_rows inputs) (spread_of []) covers
      (subst (λ m. AreCovers 0 m (λ place. no_rows inputs) covers) is are) (λ place below. empty (bit (bits_of outputs within) place))
    where
      empty : (b : Bool) → ◌≡◌ {A = CoverTable} (no_rows inputs) (record { width = inputs; on = true; rows = if b then [] else [] })
      empty true = refl
      empty false = refl

  pub spread_fit : (rows : List PlaRow) (covers : List CoverTable) (row : Row01) → AreCovers 0 outputs (spread_of rows) covers → IsRow inputs row
      → All (λ (cover : CoverTable). IsRow cover.width row) covers
  spread_fit rows covers row are fit = λ k d h.
      subst (λ width. IsRow width row) (sym (ap (λ (cover : CoverTable). cover.width) (are.each k d (omega arith) (omega (arith, h, are.counted))))) fit

  pub spread_more : (rows : List PlaRow) (i : ℕ) (row d : PlaRow) (marks : ℕ) (covers after : List CoverTable) → AreCovers 0 outputs (spread_of (take i rows)) covers
      → i < length rows → row ≡ get_or rows i d → marks ≡ marks_in mark row
      → HaveRow row.input (bit (bits_of (length covers) (bit_and marks within))) covers after → AreCovers 0 outputs (spread_of (take (i + 1) rows)) after
  spread_more rows i row d marks covers after are below is marked have = record {
    counted = have.counted ∙ are.counted;
    each = λ place e low h.
        have.each place e (omega (arith, h, are.counted))
        ∙ ap₂ (with_row row.input)
        (ap (λ n. bit (bits_of n (bit_and marks within)) place) are.counted ∙ bit-and outputs marks within place h
        ∙ ap (λ m. bit (bits_of outputs m) place && bit (bits_of outputs within) place) marked)
        (are.each place e low h)
        ∙ grown place (bit (bits_of outputs (marks_in mark row)) place) (bit (bits_of outputs within) place) refl;
  }
    where
      grown : (place : ℕ) (b w : Bool) → b ≡ bit (bits_of outputs (marks_in mark row)) place
          → with_row row.input (b && w) (when inputs (marked_at mark (map (row_as inputs outputs) (take i rows)) place) w)
          ≡ when inputs (marked_at mark (map (row_as inputs outputs) (take (i + 1) rows)) place) w
      grown place true true e = ap (λ list. when inputs list true) (sym (marked_grown mark place inputs outputs rows i row d true below is e))
      grown place false true e = ap (λ list. when inputs list true) (sym (marked_grown mark place inputs outputs rows i row d false below is e))
      grown place true false e = refl
      grown place false false e = refl

  pub spread_all : (rows : List PlaRow) (i : ℕ) (covers : List CoverTable) → length rows ≤ i → AreCovers 0 outputs (spread_of (take i rows)) covers
      → AreCovers 0 outputs (spread_of rows) covers
  spread_all rows i covers past are = subst (λ l. AreCovers 0 outputs (spread_of l) covers) (take_all i rows past) are

-- at each output, or at those where some row has another mark
pub spread_whole : (mark : Mark) (inputs outputs : ℕ) (rows : List TableRow) (covers : List CoverTable) → outputs ≤ 64
    → AreCovers 0 outputs (spread_cover mark (bits_of outputs 18446744073709551615) inputs rows) covers
    → AreCovers 0 outputs (λ place. record { width = inputs; on = true; rows = marked_at mark rows place }) covers
spread_whole mark inputs outputs rows covers few are =
    covers_same 0 outputs (spread_cover mark (bits_of outputs 18446744073709551615) inputs rows) (λ place. when inputs (marked_at mark rows place) true) covers are
    (λ place below. ap (when inputs (marked_at mark rows place)) (bit-all outputs place few below))

pub spread_beside : (mark other : Mark) (inputs outputs within : ℕ) (rows : List TableRow) (covers : List CoverTable)
    → ((place : ℕ) → place < outputs → bit (bits_of outputs within) place ≡ nat_lt 0 (length (marked_at other rows place)))
    → AreCovers 0 outputs (spread_cover mark (bits_of outputs within) inputs rows) covers
    → AreCovers 0 outputs (λ place. when inputs (marked_at mark rows place) (nat_lt 0 (length (marked_at other rows place)))) covers
spread_beside mark other inputs outputs within rows covers some are =
    covers_same 0 outputs (spread_cover mark (bits_of outputs within) inputs rows)
    (λ place. when inputs (marked_at mark rows place) (nat_lt 0 (length (marked_at other rows place)))) covers are
    (λ place below. ap (when inputs (marked_at mark rows place)) (some place below))

-- ---- at which outputs some row has a mark

pub some_first : (outputs place : ℕ) → place < outputs → bit (bits_of outputs 0) place ≡ false
some_first outputs place below = get_or-bits_of outputs 0 place below ∙ bit_worth-zero (outputs - 1 - place)

pub some_next : (mark : Mark) (inputs outputs place : ℕ) (rows : List PlaRow) (i : ℕ) (row d : PlaRow) (some marks : ℕ) → place < outputs
    → bit (bits_of outputs some) place ≡ nat_lt 0 (length (marked_at mark (map (row_as inputs outputs) (take i rows)) place))
    → i < length rows → row ≡ get_or rows i d → marks ≡ marks_in mark row
    → bit (bits_of outputs (bit_or some marks)) place ≡ nat_lt 0 (length (marked_at mark (map (row_as inputs outputs) (take (i + 1) rows)) place))
some_next mark inputs outputs place rows i row d some marks inside so below is marked =
    bit-or outputs some marks place inside ∙ ap₂ (λ a m. a || bit (bits_of outputs m) place) so marked
    ∙ sym (some_marked_more mark place inputs outputs rows i row d (bit (bits_of outputs (marks_in mark row)) place) below is refl)
