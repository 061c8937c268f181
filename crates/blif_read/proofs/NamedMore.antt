-- A netlist by names to which the names of a line are added one by one, and its nodes.
use Rattle.std.proofs.Common.{◌≡◌, ℕ, ◌+◌, ◌<◌, ◌≤◌, List, [], ◌∷◌, ◌++◌, length, get_or, sym, ap, ◌∙◌, append_assoc}
use Rattle.std.specs.List.{slice_range}
use Rattle.tsc_net.specs.Named.{Named}
use Rattle.blif_read.specs.Added.{with_inputs, with_outputs}
use Rattle.tsc_bits.proofs.Ranges.{range_push}

module _ (N0 N N2 : Named) (words : List (List ℕ)) (place : ℕ) (text : List ℕ) (t : text ≡ get_or words place []) (h : 1 ≤ place) (k : place < length words) where
  one_more : (front : List (List ℕ)) → (front ++ slice_range words 1 place) ++ text ∷ [] ≡ front ++ slice_range words 1 (place + 1)
  one_more front =
      append_assoc front (slice_range words 1 place) (text ∷ [])
      ∙ ap (λ l. front ++ l) (ap (λ x. slice_range words 1 place ++ x ∷ []) t ∙ sym (range_push words 1 place [] h k))

  pub inputs_more : N ≡ with_inputs N0 (slice_range words 1 place) → N2 ≡ with_inputs N (text ∷ [])
      → N2 ≡ with_inputs N0 (slice_range words 1 (place + 1))
  inputs_more e f = f ∙ (ap (λ M. with_inputs M (text ∷ [])) e ∙ ap (λ l. record N0 { inputs = l }) (one_more N0.inputs))

  pub outputs_more : N ≡ with_outputs N0 (slice_range words 1 place) → N2 ≡ with_outputs N (text ∷ [])
      → N2 ≡ with_outputs N0 (slice_range words 1 (place + 1))
  outputs_more e f = f ∙ (ap (λ M. with_outputs M (text ∷ [])) e ∙ ap (λ l. record N0 { outputs = l }) (one_more N0.outputs))
