use Rattle.std.proofs.Common.{◌≡◌, ℕ, Bool, List, All, length, sym, ap, ◌∙◌, subst}
use Rattle.fault_secure.specs.Circuit.{Circuit}
use Rattle.sim_text.proofs.InputLemmas.{all_lengths}
use Rattle.sim_text.proofs.state_walk.whole_tables.Goals as goal

pub put_tables-requires-clause-inputs : goal.put_tables-requires-clause-inputs
put_tables-requires-clause-inputs c =
    let n = c.args.sim.now.bench.circuit.inputs in
    subst (λ (ys : List (List Bool)). All (λ x. length x ≡ n) ys) (sym c.as_slice.ensures.whole)
    (subst (λ (k : ℕ). All (λ x. length x ≡ k) c.in_ok-all.all) (c.inputs.ensures.count ∙ ap (λ (N : Circuit). N.inputs) c.requires.net)
    (all_lengths c.inputs.result c.in_ok-all.all c.in_ok-all.ensures.all))
