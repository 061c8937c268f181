-- The comments, net by net; and that those over numbers are those of the text.
use Rattle.std.proofs.Common.{◌≡◌, ℕ, suc, ◌+◌, ◌-◌, ◌<◌, List, [], ◌∷◌, ◌++◌, length, slice_index, slice_index_or, refl, ap, ap₂, ◌∙◌, arith}
use Rattle.tsc_net.specs.Names.{text_at}
use Rattle.exact_question.specs.Variables.{spread}
use Rattle.question_text.specs.declared.cells.Cell.{Cell}
use Rattle.question_text.specs.Failing.{cell_at}
use Rattle.question_text.specs.Text.{name_line}
use Rattle.question_text.specs.Lines.{net_lines, cell_lines, cells_lines}

pub net_lines_next : (kind : List ℕ) (names : List (List ℕ)) (numbers : List ℕ) (net count place : ℕ) → place < count
    → net_lines kind names numbers net (count - place) ≡ name_line kind (slice_index numbers net) (text_at names net) ++ net_lines kind names numbers (net + 1) (count - (place + 1))
net_lines_next kind names numbers net count place inside = ap (net_lines kind names numbers net) (let e : count - place ≡ suc (count - (place + 1)) = omega arith in e)

pub cells_lines_next : (names : List (List ℕ)) (cells : List Cell) (j net count place : ℕ) → place < count
    → cells_lines names cells j net (count - place) ≡ cell_lines names (cell_at cells j) net ++ cells_lines names cells (j + 1) (net + 1) (count - (place + 1))
cells_lines_next names cells j net count place inside = ap (cells_lines names cells j net) (let e : count - place ≡ suc (count - (place + 1)) = omega arith in e)

pub net_lines_are : {A : Type 0} (f : ℕ → A → List ℕ) (kind : List ℕ) (names : List (List ℕ)) (numbers : List ℕ) (net : ℕ) (items : List A) (d : A)
    → ((k : ℕ) → k < length items → f k (slice_index_or items k d) ≡ name_line kind (slice_index numbers (net + k)) (text_at names (net + k)))
    → spread f items ≡ net_lines kind names numbers net (length items)
net_lines_are f kind names numbers net [] d each = refl
net_lines_are f kind names numbers net (a ∷ as_) d each =
    ap₂ (λ x y. x ++ y) (each 0 (omega arith) ∙ ap (λ i. name_line kind (slice_index numbers i) (text_at names i)) (let e : net + 0 ≡ net = omega arith in e))
    (net_lines_are (λ k. f (suc k)) kind names numbers (net + 1) as_ d
    (λ k inside. each (suc k) (omega arith) ∙ ap (λ i. name_line kind (slice_index numbers i) (text_at names i)) (let e : net + suc k ≡ net + 1 + k = omega arith in e)))

pub cells_lines_are : {A : Type 0} (f : ℕ → A → List ℕ) (names : List (List ℕ)) (cells : List Cell) (j net : ℕ) (items : List A) (d : A)
    → ((k : ℕ) → k < length items → f k (slice_index_or items k d) ≡ cell_lines names (cell_at cells (j + k)) (net + k))
    → spread f items ≡ cells_lines names cells j net (length items)
cells_lines_are f names cells j net [] d each = refl
cells_lines_are f names cells j net (a ∷ as_) d each =
    ap₂ (λ x y. x ++ y)
    (each 0 (omega arith) ∙ ap₂ (λ i h. cell_lines names (cell_at cells i) h) (let e : j + 0 ≡ j = omega arith in e) (let e : net + 0 ≡ net = omega arith in e))
    (cells_lines_are (λ k. f (suc k)) names cells (j + 1) (net + 1) as_ d
    (λ k inside. each (suc k) (omega arith) ∙ ap₂ (λ i h. cell_lines names (cell_at cells i) h) (let e : j + suc k ≡ j + 1 + k = omega arith in e) (let e : net + suc k ≡ net + 1 + k = omega arith in e)))
