-- The covers of gates: how many rows they have, and that their rows are as wide as they.
use Rattle.std.proofs.Common.{◌≡◌, ℕ, ◌<◌, ◌≤◌, true, false, List, [], ◌∷◌, length, slice_index_or, All, Contains, refl, arith}
use Rattle.std.proofs.lemmas.List.Elements.{All-nil, All-cons, All-contains, Contains-get_or}
use Rattle.tsc_cover.specs.Cover.{CoverTable, Literal, zero_cover}
use Rattle.tsc_cover.specs.Cover.Literal.{Free, Wants}
use Rattle.tsc_cover.specs.Gates.{buf_cover, not_cover, and_cover, or_cover, xor_cover}
use Rattle.gate_net.specs.Realised.{one_cover}
use Rattle.gate_net.specs.declared.gate.Gate.{Gate}
use Rattle.gate_net.specs.declared.gate.Gate.TheVariants as gate
use Rattle.gate_net.specs.NodesOfLines.{cover_of}
use Rattle.gate_net.specs.Added.{gate_covers}

-- the cover at a place stands in the list
at_cover : (k : ℕ) → k < length gate_covers → Contains gate_covers (slice_index_or gate_covers k zero_cover)
at_cover k lt = Contains-get_or gate_covers k zero_cover lt

-- the cover of a gate is one of them
pub gate_cover_is : (g : Gate) → Contains gate_covers (cover_of g)
gate_cover_is gate.One = at_cover 1 (omega arith)
gate_cover_is (gate.Not a) = at_cover 2 (omega arith)
gate_cover_is (gate.And a b) = at_cover 3 (omega arith)
gate_cover_is (gate.Or a b) = at_cover 4 (omega arith)
gate_cover_is (gate.Xor a b) = at_cover 5 (omega arith)
gate_cover_is _ = at_cover 0 (omega arith)

-- and so is that of a Buf
pub buf_cover_is : Contains gate_covers buf_cover
buf_cover_is = at_cover 6 (omega arith)

-- what holds of each of them holds of one of them
by_cover : (P : CoverTable → Type 0) (c : CoverTable) → P zero_cover → P one_cover → P not_cover → P and_cover → P or_cover → P xor_cover → P buf_cover → Contains gate_covers c → P c
by_cover P c z o n a r x b has =
    All-contains P gate_covers c
    (All-cons P zero_cover (one_cover ∷ (not_cover ∷ (and_cover ∷ (or_cover ∷ (xor_cover ∷ (buf_cover ∷ [])))))) z
    (All-cons P one_cover (not_cover ∷ (and_cover ∷ (or_cover ∷ (xor_cover ∷ (buf_cover ∷ []))))) o
    (All-cons P not_cover (and_cover ∷ (or_cover ∷ (xor_cover ∷ (buf_cover ∷ [])))) n
    (All-cons P and_cover (or_cover ∷ (xor_cover ∷ (buf_cover ∷ []))) a
    (All-cons P or_cover (xor_cover ∷ (buf_cover ∷ [])) r
    (All-cons P xor_cover (buf_cover ∷ []) x
    (All-cons P buf_cover [] b (All-nil P)))))))) has

-- the cover of a gate has at most two rows
pub cover_rows : (c : CoverTable) → Contains gate_covers c → length c.rows ≤ 2
cover_rows c has = by_cover (λ (t : CoverTable). length t.rows ≤ 2) c (omega arith) (omega arith) (omega arith) (omega arith) (omega arith) (omega arith) (omega arith) has

-- the cover of a gate that has no row is an on-set
pub cover_on : (c : CoverTable) → Contains gate_covers c → c.rows ≡ [] → c.on ≡ true
cover_on c has =
    by_cover (λ (t : CoverTable). t.rows ≡ [] → t.on ≡ true) c (λ e. refl) (λ e. refl) (λ e. refl) (λ e. refl) (λ e. refl) (λ e. refl) (λ e. refl) has

-- the row has so many literals
abbrev IsWide : ℕ → List Literal → Type 0
IsWide width row = length row ≡ width

-- a row with so many literals, alone
one_row : (width : ℕ) (row : List Literal) → length row ≡ width → All (IsWide width) (row ∷ [])
one_row width row e = All-cons (IsWide width) row [] e (All-nil (IsWide width))

-- two rows with so many literals each
two_rows : (width : ℕ) (row more : List Literal) → length row ≡ width → length more ≡ width → All (IsWide width) (row ∷ (more ∷ []))
two_rows width row more e f = All-cons (IsWide width) row (more ∷ []) e (one_row width more f)

-- each row of the cover of a gate has as many literals as the cover has pins
pub cover_wide : (c : CoverTable) → Contains gate_covers c → All (λ row. length row ≡ c.width) c.rows
cover_wide c has =
    by_cover (λ (t : CoverTable). All (IsWide t.width) t.rows) c (All-nil (IsWide 0)) (one_row 0 [] refl) (one_row 1 (Wants false ∷ []) refl) (one_row 2 (Wants true ∷ (Wants true ∷ [])) refl)
    (two_rows 2 (Wants true ∷ (Free ∷ [])) (Free ∷ (Wants true ∷ [])) refl refl) (two_rows 2 (Wants true ∷ (Wants false ∷ [])) (Wants false ∷ (Wants true ∷ [])) refl refl) (one_row 1 (Wants true ∷ []) refl) has
