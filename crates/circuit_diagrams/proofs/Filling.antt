-- What a circuit states: its inputs first, then its nodes in their evaluation order.
use Rattle.std.proofs.Common.{◌≡◌, ℕ, Bool, List, ◌++◌, map, subst}
use Rattle.std.specs.List.{range_with_len, flat_map, filter}
use Rattle.diagrams.specs.Decisions.{IsDiagram}
use Rattle.diagrams.specs.Cofactors.{Function}
use Rattle.diagrams.specs.Building.{DiagramState, input_bit}
use Rattle.cover_diagrams.specs.Covering.{Grows}
use Rattle.circuit_diagrams.specs.Steps.{AreBuilt, AreAdded, AreShortOf}
use Rattle.circuit_diagrams.proofs.Adding.{added_first, added_then, short_first, short_then, built_then}

module _ (g : ℕ → List Function) (m : ℕ → Bool) (said inputs : ℕ) (count : said ≡ inputs) (given order : List ℕ) (is : given ≡ order) where
  abbrev own : List Function
  own = map input_bit (range_with_len 0 inputs)

  abbrev nodes : List Function
  nodes = flat_map g (filter m order)

  pub fill_begun : (old mid : DiagramState) → AreAdded old mid (map input_bit (range_with_len 0 said)) → AreAdded old mid (own ++ nodes)
  fill_begun old mid first = added_first old mid own nodes (subst (λ (n : ℕ). AreAdded old mid (map input_bit (range_with_len 0 n))) count first)

  pub fill_added : (old mid new : DiagramState) → AreAdded old mid (map input_bit (range_with_len 0 said)) → AreAdded mid new (flat_map g (filter m given)) → AreAdded old new (own ++ nodes)
  fill_added old mid new first second =
      added_then old mid new own nodes (subst (λ (n : ℕ). AreAdded old mid (map input_bit (range_with_len 0 n))) count first) (subst (λ (o : List ℕ). AreAdded mid new (flat_map g (filter m o))) is second)

  pub fill_built : (mid new : DiagramState) → IsDiagram mid.inputs mid.rows → Grows mid new → AreBuilt mid (map input_bit (range_with_len 0 said)) → AreBuilt new (flat_map g (filter m given)) → AreBuilt new (own ++ nodes)
  fill_built mid new D grown first second =
      built_then mid new own nodes D grown (subst (λ (n : ℕ). AreBuilt mid (map input_bit (range_with_len 0 n))) count first) (subst (λ (o : List ℕ). AreBuilt new (flat_map g (filter m o))) is second)

  pub fill_short_first : (old mid : DiagramState) → AreShortOf old mid (map input_bit (range_with_len 0 said)) → AreShortOf old mid (own ++ nodes)
  fill_short_first old mid short = short_first old mid own nodes (subst (λ (n : ℕ). AreShortOf old mid (map input_bit (range_with_len 0 n))) count short)

  pub fill_short : (old mid new : DiagramState) → Grows old mid → AreShortOf mid new (flat_map g (filter m given)) → AreShortOf old new (own ++ nodes)
  fill_short old mid new grown short = short_then old mid new own nodes grown (subst (λ (o : List ℕ). AreShortOf mid new (flat_map g (filter m o))) is short)
