-- Rows of numbers conflict where the rows of literals and bits do.
use Rattle.std.proofs.Common.{◌≡◌, ◌↔◌, ℕ, suc, ◌<◌, ◌^◌, Bool, true, false, not, ◌&&◌, eqb, List, [], ◌∷◌, length, get_or, IsTrue, Option, refl, sym, ap, ap₂, ◌∙◌, subst, arith, eqb-true, eq-eqb}
use Rattle.std.proofs.lemmas.Bool.{and_parts, and_from, false≢true}
use Rattle.std.proofs.lemmas.Bool.Decides.{same_from_decides}
use Rattle.std.proofs.lemmas.List.{get_or-map}
use Rattle.fault_secure.specs.FaultSecure.{equal_bits}
use Rattle.fault_secure.specs.Logic.{Transition}
use Rattle.tsc_bits.specs.Bits.{bits_of}
use Rattle.tsc_bits.proofs.Bits.{same_from_bits_of}
use Rattle.tsc_cover.specs.Cover.{Literal, Free, Wants, accepts, row_matches}
use Rattle.tsc_cover.specs.Row.{literals_of, Meet}
use Rattle.tsc_cover.specs.declared.rows.Row01.{Row01}
use Rattle.tsc_cover.proofs.Row.{length-literals, narrow-value}
use Rattle.tsc_net.specs.Overlap.{agree, inputs_meet, overlap, share_state}
use Rattle.tsc_net.specs.MachineView.{outputs_row, transition_of, IsMachineRow}
use Rattle.tsc_net.specs.declared.machine.MachineRow.{MachineRow}
use Rattle.kiss_read.specs.Conflict.{conflict}
use Rattle.kiss_read.specs.Clashes.{no_transition, rows_in, the_row, IsTable}
use Rattle.kiss_read.specs.declared.table.Table.{Table}
use Rattle.fault_secure.proofs.EqualBits.{same_bits, bits_same}
use Rattle.tsc_net.proofs.MachineLemmas.{agree-from}

-- ---- inputs that meet

meet-from_bits : (a b : List Literal) (bits : List Bool) → length a ≡ length bits → length b ≡ length bits
    → row_matches a bits ≡ true → row_matches b bits ≡ true → inputs_meet a b ≡ true
meet-from_bits [] b bits e f h g = refl
meet-from_bits (l ∷ a) [] bits e f h g = refl
meet-from_bits (l ∷ a) (m ∷ b) [] e f h g = absurd (omega arith)
meet-from_bits (l ∷ a) (m ∷ b) (bit ∷ bits) e f h g =
    let first = and_parts (accepts l bit) (row_matches a bits) h in
    let second = and_parts (accepts m bit) (row_matches b bits) g in
    and_from _ _ (agree-from l m bit first.0 second.0) (meet-from_bits a b bits (omega arith) (omega arith) first.1 second.1)

-- a bit that passes both literals
shared_bit : Literal → Literal → Bool
shared_bit (Wants w) m = w
shared_bit Free (Wants w) = w
shared_bit Free Free = false

shared_bits : List Literal → List Literal → List Bool
shared_bits [] b = []
shared_bits (l ∷ a) [] = []
shared_bits (l ∷ a) (m ∷ b) = shared_bit l m ∷ shared_bits a b

length-shared : (a b : List Literal) → length a ≡ length b → length (shared_bits a b) ≡ length a
unfolding shared_bits
length-shared [] b e = refl
length-shared (l ∷ a) [] e = absurd (omega arith)
length-shared (l ∷ a) (m ∷ b) e = ap suc (length-shared a b (omega arith))

passes-first : (l m : Literal) → accepts l (shared_bit l m) ≡ true
unfolding shared_bit
passes-first Free m = refl
passes-first (Wants true) m = refl
passes-first (Wants false) m = refl

passes-second : (l m : Literal) → agree l m ≡ true → accepts m (shared_bit l m) ≡ true
unfolding shared_bit
passes-second l Free e = refl
passes-second Free (Wants true) e = refl
passes-second Free (Wants false) e = refl
passes-second (Wants true) (Wants true) e = refl
passes-second (Wants false) (Wants false) e = refl
passes-second (Wants true) (Wants false) e = absurd (false≢true e)
passes-second (Wants false) (Wants true) e = absurd (false≢true e)

first-matches : (a b : List Literal) → row_matches a (shared_bits a b) ≡ true
unfolding shared_bits
first-matches [] b = refl
first-matches (l ∷ a) [] = refl
first-matches (l ∷ a) (m ∷ b) = and_from _ _ (passes-first l m) (first-matches a b)

second-matches : (a b : List Literal) → inputs_meet a b ≡ true → row_matches b (shared_bits a b) ≡ true
unfolding shared_bits
second-matches [] [] h = refl
second-matches [] (m ∷ b) h = refl
second-matches (l ∷ a) [] h = refl
second-matches (l ∷ a) (m ∷ b) h =
    let parts = and_parts (agree l m) (inputs_meet a b) h in
    and_from _ _ (passes-second l m parts.0) (second-matches a b parts.1)

-- the test by numbers is that by literals
pub meet_is : (width : ℕ) (a b : Row01) (met : Bool) → (IsTrue met ↔ Meet width a b) → met ≡ inputs_meet (literals_of width a) (literals_of width b)
meet_is width a b met iff =
    same_from_decides met (inputs_meet la lb) iff (
      λ h. record {
        bits = shared_bits la lb;
        sized = length-shared la lb (wide a ∙ sym (wide b)) ∙ wide a;
        first = first-matches la lb;
        second = second-matches la lb h;
      },
      λ m. meet-from_bits la lb m.bits (wide a ∙ sym m.sized) (wide b ∙ sym m.sized) m.first m.second,
    )
  where
    la : List Literal
    la = literals_of width a

    lb : List Literal
    lb = literals_of width b

    wide : (row : Row01) → length (literals_of width row) ≡ width
    wide row = length-literals width row.care row.value

-- ---- equal outputs

pub equal_outputs : (outputs x y : ℕ) → x < 2 ^ outputs → y < 2 ^ outputs → eqb x y ≡ equal_bits (bits_of outputs x) (bits_of outputs y)
equal_outputs outputs x y h k =
    same_from_decides {P = x ≡ y} (eqb x y) (equal_bits (bits_of outputs x) (bits_of outputs y))
    (λ t. eqb-true x y t, λ e. eq-eqb x y e)
    (λ t. same_from_bits_of outputs x y h k (same_bits _ _ t), λ e. ap (λ z. equal_bits (bits_of outputs x) (bits_of outputs z)) (sym e) ∙ bits_same (bits_of outputs x))

pub row_outputs_below : (inputs outputs states reset : ℕ) (row : MachineRow) → IsMachineRow inputs outputs states reset row → row.outputs < 2 ^ outputs
row_outputs_below inputs outputs states reset row fit = narrow-value outputs (outputs_row row) fit.given

-- ---- a conflict, part by part
pub overlap_from : (width : ℕ) (a b : Row01) (from other : Option ℕ) (met : Bool) → (IsTrue met ↔ Meet width a b) → true ≡ share_state from other
    → met ≡ (share_state from other && inputs_meet (literals_of width a) (literals_of width b))
overlap_from width a b from other met iff shared =
    meet_is width a b met iff ∙ ap (λ s. s && inputs_meet (literals_of width a) (literals_of width b)) shared

pub alike_from : (outputs n m x y : ℕ) → n ≡ m → x < 2 ^ outputs → y < 2 ^ outputs
    → eqb x y ≡ (eqb n m && equal_bits (bits_of outputs x) (bits_of outputs y))
alike_from outputs n m x y e h k =
    equal_outputs outputs x y h k ∙ ap (λ s. s && equal_bits (bits_of outputs x) (bits_of outputs y)) (sym (eq-eqb n m e))

pub conflict_from : (met alike : Bool) (a b : Transition) → met ≡ overlap a b → alike ≡ (eqb a.next b.next && equal_bits a.outputs b.outputs)
    → (met && not alike) ≡ conflict a b
conflict_from met alike a b e f = ap₂ (λ x y. x && not y) e f

-- ---- rows of a table
pub row_read : (table : Table) (place : ℕ) (row : MachineRow) → place < length table.rows → row ≡ get_or table.rows place row
    → the_row (rows_in table) place ≡ transition_of table.heading.inputs table.heading.outputs row
row_read table place row below is =
    let T : MachineRow → Transition = transition_of table.heading.inputs table.heading.outputs in
    get_or-map T table.rows place row no_transition below ∙ ap T (sym is)

pub row_of_table : (table : Table) (place : ℕ) (row : MachineRow) → place < length table.rows → row ≡ get_or table.rows place row → IsTable table
    → IsMachineRow table.heading.inputs table.heading.outputs table.states table.heading.reset row
row_of_table table place row below is fit =
    let P : MachineRow → Type 0 = IsMachineRow table.heading.inputs table.heading.outputs table.states table.heading.reset in
    subst P (sym is) (fit place row below)
