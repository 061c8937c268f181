-- A failing cell does more than a stuck-at fault: in two steps it gives both wrong bits.
use Rattle.std.proofs.Common.{◌≡◌, ℕ, zero, suc, ◌<◌, ◌==◌, ◌&&◌, Bool, true, false, if◌then◌else◌, List, [], ◌∷◌, length, refl, sym, ◌∙◌, arith, rules}
use Rattle.std.proofs.lemmas.Bool.{false≢true, true≢false}
use Rattle.tsc_cover.specs.Cover.{truth}
use Rattle.fault_secure.specs.Circuit.{latch_net, node_net, bit}
use Rattle.fault_secure.specs.StuckAt.{StuckAt, NoFault, Stem, Pin, on_stem, on_pin, present}
use Rattle.fault_secure.specs.Settle.{node_value}
use Rattle.fault_secure.specs.Run.{Runs}
use Rattle.fault_secure.specs.FailingCell.{SettlesBut}
use Rattle.structure_laws.specs.Toggle.{toggle, repeats, both_inputs, output_fails, FailingCellDoesMore}
use Rattle.structure_laws.proofs.Each.{Each, each}

-- a step in which all cells work but the output's
step_settles : (x s v : List Bool) → length v ≡ 9 → bit v 0 ≡ bit x 0 → bit v 1 ≡ bit s 0 → bit v 2 ≡ bit s 1
    → Each 5 (λ j. bit v (node_net toggle (suc j)) ≡ node_value toggle NoFault v (suc j)) → SettlesBut toggle 3 (bit x) (bit s) v
step_settles x s v sized i a b others = record {
  sized = sized;
  inputs = each 1 (λ i. bit v i ≡ bit x i) (i, tt);
  latches = λ l h off. each 2 (λ l. bit v (latch_net toggle l) ≡ bit s l) (a, (b, tt)) l h;
  nodes = nodes;
}
  where
    nodes : (j : ℕ) → j < 6 → (node_net toggle j ≡ 3 → ⊥) → bit v (node_net toggle j) ≡ node_value toggle NoFault v j
    nodes zero h off = absurd (off refl)
    nodes (suc j) h off = each 5 (λ j. bit v (node_net toggle (suc j)) ≡ node_value toggle NoFault v (suc j)) others j (omega arith)

-- a node that hands on a bit, which is held or not, doesn't make 1 of 0 and 0 of 1
not_both : (hands : Bool → Bool) → hands true ≡ true → hands false ≡ false → (here held : Bool)
    → hands (if here then held else false) ≡ true → hands (if here then held else true) ≡ false → ⊥
not_both hands keeps1 keeps0 true true p q = true≢false (sym keeps1 ∙ q)
not_both hands keeps1 keeps0 true false p q = false≢true (sym keeps0 ∙ p)
not_both hands keeps1 keeps0 false held p q = false≢true (sym keeps0 ∙ p)

-- no stuck-at fault makes an output 1 of input 0 and an output 0 of input 1
never_both : (f : StuckAt) (first second : Bool)
    → true ≡ on_stem (present first f) 3 (truth repeats (on_pin (present first f) 3 0 false ∷ []))
    → false ≡ on_stem (present second f) 3 (truth repeats (on_pin (present second f) 3 0 true ∷ [])) → ⊥
never_both f false second p q = true≢false p
never_both f true false p q = false≢true q
never_both NoFault true true p q = true≢false p
never_both (Stem at held) true true p q = not_both (λ b. b) refl refl (at == 3) held (sym p) (sym q)
never_both (Pin driver index held) true true p q = not_both (λ b. truth repeats (b ∷ [])) refl refl ((driver == 3) && (index == 0)) held (sym p) (sym q)

no_fault : (f : StuckAt) (w : List Bool) → Runs toggle f w both_inputs output_fails → ⊥
no_fault f [] h = absurd h
no_fault f (first ∷ []) h = absurd h.1
no_fault f (first ∷ second ∷ []) h = never_both f first second (h.0.nodes 0 (omega arith)) (h.1.0.nodes 0 (omega arith))
no_fault f (first ∷ second ∷ third ∷ w) h = absurd h.1.1

pub failing_cell_does_more : FailingCellDoesMore
failing_cell_does_more = record {
  failing = record {
    cell = 3;
    is_cell = record { no_input = omega arith; inside = omega arith };
    runs = (
      step_settles (false ∷ []) (false ∷ true ∷ []) _ refl refl refl refl (search rules),
      (step_settles (true ∷ []) (false ∷ true ∷ []) _ refl refl refl refl (search rules), tt),
    );
  };
  beyond = no_fault;
}
