use Rattle.std.proofs.Common.{◌<◌, length, All, sym, subst}
use Rattle.code_checkers.specs.Checker.{rail1, rail2}
use Rattle.code_checkers.specs.Gates.{signals_of}
use Rattle.diagrams.proofs.Growing.{AreMade-trans}
use Rattle.diagrams.proofs.Waits.{same_error}
use Rattle.cover_diagrams.proofs.Steps.{Grows-trans, Grows-stands}
use Rattle.circuit_diagrams.proofs.Adding.{one_kept_on}
use Rattle.wide_diagrams.specs.GateRows.{SignalsStand}
use Rattle.wide_diagrams.proofs.Signals.{checker_kept, rails_kept, checker_has_rows, rail_stands}
use Rattle.wide_diagrams.proofs.checkers.rails_row.Goals as goal

pub row_of_two-requires-clause-inside : goal.row_of_two-requires-clause-inside
row_of_two-requires-clause-inside c = subst (All (λ row. row < length c.filled_gate_rows.new.diagrams.rows)) (sym c.deref.ensures.value) c.in-Ok.ensures.inside

pub returns-in-Ok-row_of_two-clause-added : goal.returns-in-Ok-row_of_two-clause-added
returns-in-Ok-row_of_two-clause-added c = λ P ws is W.
    let old = c.args.diagrams.now in
    let mid = c.filled_gate_rows.new.diagrams in
    let new = c.row_of_two.new.diagrams in
    let gates = c.args.gates.now in
    let stand = subst (SignalsStand mid ws (signals_of gates.gates) (length gates.gates)) (sym c.deref.ensures.value) (c.in-Ok.ensures.stand ws W) in
    record {
      grown = Grows-trans old mid new c.in-Ok.ensures.grown c.in-Ok-row_of_two.ensures.grown;
      made = λ kept all.
          AreMade-trans old mid new kept (c.in-Ok.ensures.made ws kept W (checker_kept _ kept ws P gates is all))
          (c.in-Ok-row_of_two.ensures.made _ _ kept
          (rail_stands mid ws gates (rail1 P) c.rail1-first.result gates.rail1 c.deref.result.now c.rail1-first.ensures.rail is.first is.first_within stand)
          (rail_stands mid ws gates (rail2 P) c.rail2-second.result gates.rail2 c.deref.result.now c.rail2-second.ensures.rail is.second is.second_within stand)
          (one_kept_on old mid kept _ c.in-Ok.ensures.grown (rails_kept _ kept ws P all)));
    }

pub returns-in-Ok-row_of_two-clause-stands : goal.returns-in-Ok-row_of_two-clause-stands
returns-in-Ok-row_of_two-clause-stands c = λ P ws is W.
    let mid = c.filled_gate_rows.new.diagrams in
    let gates = c.args.gates.now in
    let stand = subst (SignalsStand mid ws (signals_of gates.gates) (length gates.gates)) (sym c.deref.ensures.value) (c.in-Ok.ensures.stand ws W) in
    c.in-Ok-row_of_two.ensures.stands _ _
    (rail_stands mid ws gates (rail1 P) c.rail1-first.result gates.rail1 c.deref.result.now c.rail1-first.ensures.rail is.first is.first_within stand)
    (rail_stands mid ws gates (rail2 P) c.rail2-second.result gates.rail2 c.deref.result.now c.rail2-second.ensures.rail is.second is.second_within stand)

pub returns-in-Ok-row_of_two-clause-built : goal.returns-in-Ok-row_of_two-clause-built
returns-in-Ok-row_of_two-clause-built c = λ P ws is W.
    let mid = c.filled_gate_rows.new.diagrams in
    let new = c.row_of_two.new.diagrams in
    let gates = c.args.gates.now in
    let stand = subst (SignalsStand mid ws (signals_of gates.gates) (length gates.gates)) (sym c.deref.ensures.value) (c.in-Ok.ensures.stand ws W) in
    checker_has_rows new ws P gates c.deref.result.now c.in-Ok-row_of_two.row is
    (λ k below. Grows-stands mid new _ _ c.in-Ok.ensures.grown.diagram c.in-Ok-row_of_two.ensures.grown (stand k below))
    (c.in-Ok-row_of_two.ensures.stands _ _
    (rail_stands mid ws gates (rail1 P) c.rail1-first.result gates.rail1 c.deref.result.now c.rail1-first.ensures.rail is.first is.first_within stand)
    (rail_stands mid ws gates (rail2 P) c.rail2-second.result gates.rail2 c.deref.result.now c.rail2-second.ensures.rail is.second is.second_within stand))

pub returns-in-Ok-clause-added : goal.returns-in-Ok-clause-added
returns-in-Ok-clause-added c = λ P ws is W.
    let old = c.args.diagrams.now in
    let mid = c.filled_gate_rows.new.diagrams in
    let new = c.row_of_two.new.diagrams in
    let gates = c.args.gates.now in
    let stand = subst (SignalsStand mid ws (signals_of gates.gates) (length gates.gates)) (sym c.deref.ensures.value) (c.in-Ok.ensures.stand ws W) in
    record {
      grown = Grows-trans old mid new c.in-Ok.ensures.grown c.in-Err-row_of_two.ensures.grown;
      made = λ kept all.
          AreMade-trans old mid new kept (c.in-Ok.ensures.made ws kept W (checker_kept _ kept ws P gates is all))
          (c.in-Err-row_of_two.ensures.made _ _ kept
          (rail_stands mid ws gates (rail1 P) c.rail1-first.result gates.rail1 c.deref.result.now c.rail1-first.ensures.rail is.first is.first_within stand)
          (rail_stands mid ws gates (rail2 P) c.rail2-second.result gates.rail2 c.deref.result.now c.rail2-second.ensures.rail is.second is.second_within stand)
          (one_kept_on old mid kept _ c.in-Ok.ensures.grown (rails_kept _ kept ws P all)));
    }

pub returns-in-Ok-clause-short : goal.returns-in-Ok-clause-short
returns-in-Ok-clause-short c = λ spent P ws is W kept all.
    let old = c.args.diagrams.now in
    let mid = c.filled_gate_rows.new.diagrams in
    let gates = c.args.gates.now in
    let stand = subst (SignalsStand mid ws (signals_of gates.gates) (length gates.gates)) (sym c.deref.ensures.value) (c.in-Ok.ensures.stand ws W) in
    c.in-Err-row_of_two.ensures.short spent _ _ kept
    (rail_stands mid ws gates (rail1 P) c.rail1-first.result gates.rail1 c.deref.result.now c.rail1-first.ensures.rail is.first is.first_within stand)
    (rail_stands mid ws gates (rail2 P) c.rail2-second.result gates.rail2 c.deref.result.now c.rail2-second.ensures.rail is.second is.second_within stand)
    (one_kept_on old mid kept _ c.in-Ok.ensures.grown (rails_kept _ kept ws P all))

pub returns-clause-added : goal.returns-clause-added
returns-clause-added c = λ P ws is W. record {
  grown = c.in-Err.ensures.grown;
  made = λ kept all. c.in-Err.ensures.made ws kept W (checker_kept _ kept ws P c.args.gates.now is all);
}

pub returns-clause-short : goal.returns-clause-short
returns-clause-short c = λ spent P ws is W kept all. c.in-Err.ensures.short (same_error c.in-Err.e _ spent) ws kept W (checker_kept _ kept ws P c.args.gates.now is all)
