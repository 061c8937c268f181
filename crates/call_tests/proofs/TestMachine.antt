-- The machine of the test: that its row is a machine's.
use Rattle.std.proofs.Common.{◌≡◌, true, [], ◌∷◌, None, refl, sym, ap, ◌∙◌, arith}
use Rattle.std.specs.Prelude.{All, Contains}
use Rattle.std.proofs.lemmas.Bool.{false≢true}
use Rattle.std.proofs.lemmas.List.Elements.{All-from_recursion, All-contains}
use Rattle.fault_secure.specs.Logic.{Transition}
use Rattle.tsc_net.specs.MachineView.{transition_of, transitions_of, IsMachineRow}
use Rattle.tsc_net.specs.Overlap.{AreConsistent}
use Rattle.tsc_net.specs.declared.machine.MachineRow.{MachineRow}

abbrev pub the_row : MachineRow
the_row = record { input = record { care = 1; value = 1 }; from = None; next = 0; named = true; outputs = 1; care = 1; line = 1 }

pub row_fits : All (IsMachineRow 1 1 1 0) (the_row ∷ [])
row_fits = All-from_recursion (IsMachineRow 1 1 1 0) (the_row ∷ [])
    (record { input = omega arith; asked = omega arith; given = record { within = refl; narrow = omega arith }; from = λ q e. absurd (cc); next = omega arith; unnamed = λ f. absurd (false≢true (sym f)) }, tt)

only : (row a : Transition) → Contains (row ∷ []) a → a ≡ row
only row a inside = All-contains (λ (t : Transition). t ≡ row) (row ∷ []) a (All-from_recursion (λ (t : Transition). t ≡ row) (row ∷ []) (refl, tt)) inside

pub row_consistent : AreConsistent (transitions_of 1 1 (the_row ∷ []))
row_consistent a b in_a in_b meet =
    let same : a ≡ b = only (transition_of 1 1 the_row) a in_a ∙ sym (only (transition_of 1 1 the_row) b in_b) in
    record { next = ap (λ (t : Transition). t.next) same; outputs = ap (λ (t : Transition). t.outputs) same }
