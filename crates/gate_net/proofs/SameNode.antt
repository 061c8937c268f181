-- Gates with the same cover over the same lines are the same gate.
use Rattle.std.proofs.Common.{◌≡◌, ℕ, ◌<◌, true, false, List, [], ◌∷◌, length, refl, sym, ◌∙◌, ap, ap₂, arith, true≢false}
use Rattle.std.proofs.lemmas.Bool.{false≢true}
use Rattle.tsc_cover.specs.Cover.{CoverTable, Literal, zero_cover, wrong_sign}
use Rattle.tsc_cover.specs.Cover.Literal.{Free, Wants}
use Rattle.tsc_cover.specs.Gates.{buf_cover, and_cover, or_cover, xor_cover}
use Rattle.gate_net.specs.declared.line.Line.{Line}
use Rattle.gate_net.specs.declared.gate.Gate.{Gate}
use Rattle.gate_net.specs.declared.gate.Gate.TheVariants as gate
use Rattle.gate_net.specs.Realised.{one_cover}
use Rattle.gate_net.specs.NodesOfLines.{has_node, cover_of, operands}

-- the gate of two lines, by what the first row of its cover asks of the second
abbrev gate_of_two : Literal → Line → Line → Gate
gate_of_two Free a b = gate.Or a b
gate_of_two (Wants true) a b = gate.And a b
gate_of_two (Wants false) a b = gate.Xor a b

-- the gate of lines, by the first row of its cover
abbrev gate_of_row : List Literal → List Line → Gate
gate_of_row [] lines = gate.One
gate_of_row (l ∷ []) (a ∷ lines) = gate.Not a
gate_of_row (l ∷ (m ∷ row)) (a ∷ (b ∷ lines)) = gate_of_two m a b
gate_of_row _ _ = gate.Zero

abbrev gate_of_rows : List (List Literal) → List Line → Gate
gate_of_rows [] lines = gate.Zero
gate_of_rows (row ∷ rows) lines = gate_of_row row lines

gate_is : (g : Gate) → has_node g ≡ true → g ≡ gate_of_rows (cover_of g).rows (operands g)
gate_is gate.Zero e = refl
gate_is (gate.Input i) e = absurd (false≢true e)
gate_is (gate.State i) e = absurd (false≢true e)
gate_is _ e = refl

pub same_gates : (g h : Gate) → has_node g ≡ true → has_node h ≡ true → cover_of g ≡ cover_of h → operands g ≡ operands h → g ≡ h
same_gates g h a b e f = gate_is g a ∙ ap₂ (λ (c : CoverTable) (lines : List Line). gate_of_rows c.rows lines) e f ∙ sym (gate_is h b)

-- the width of a Buf's cover
by_width : (c : CoverTable) → c ≡ buf_cover → c.width ≡ 1
by_width c e = ap (λ (t : CoverTable). t.width) e

-- how many rows a Buf's cover has
by_rows : (c : CoverTable) → c ≡ buf_cover → length c.rows ≡ 1
by_rows c e = ap (λ (t : CoverTable). length t.rows) e

-- a number below 1 is not 1
low : (n : ℕ) → n ≡ 1 → n < 1 → ⊥
low n e lt = omega arith

-- a number above 1 is not 1
high : (n : ℕ) → n ≡ 1 → 1 < n → ⊥
high n e lt = omega arith

-- no gate has the cover of a Buf
pub no_buf : (g : Gate) → cover_of g ≡ buf_cover → ⊥
no_buf gate.One e = low 0 (by_width one_cover e) (omega arith)
no_buf (gate.Not a) e = true≢false (ap (λ (t : CoverTable). wrong_sign t 0) e)
no_buf (gate.And a b) e = high 2 (by_width and_cover e) (omega arith)
no_buf (gate.Or a b) e = high 2 (by_width or_cover e) (omega arith)
no_buf (gate.Xor a b) e = high 2 (by_width xor_cover e) (omega arith)
no_buf _ e = low 0 (by_rows zero_cover e) (omega arith)
