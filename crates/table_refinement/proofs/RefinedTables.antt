-- Of tables of which one refines the other so do the sources.
use Rattle.std.proofs.Common.{◌≡◌, ℕ, ◌<◌, ◌⊎◌, inl, inr, Bool, true, List, length, sym, subst, ◌∙◌}
use Rattle.fault_secure.specs.Circuit.{Circuit, bit}
use Rattle.fault_secure.specs.CodePlan.{CodePlan}
use Rattle.fault_secure.specs.Logic.{Logic, NetworkAnswers, NetworkHas}
use Rattle.source_laws.specs.AllowsLess.{AllowsLess, CarriesOver}
use Rattle.source_laws.specs.LooseRefinement.{IsRefinedBy}
use Rattle.source_laws.proofs.LooseRefinement.{refined_sources_allow_less}
use Rattle.pla_read.specs.TableText.{is_free, is_one, table_text, TableOf}
use Rattle.table_refinement.specs.TableRefinement.{source_of, AreNetworksOf, IsEnough, RefinedTablesAllowLess, Refines}
use Rattle.table_refinement.proofs.Inputs.{at_cut, bit_of, cut, cut_many, has_one, one_there}
use Rattle.table_refinement.proofs.TextNetworks.{texts_are_networks}

module _ (A B : TableOf) (V F W G : Circuit) (of_a : AreNetworksOf A V F) (of_b : AreNetworksOf B W G) (refines : Refines B A) (x : List Bool) (place : ℕ)
    (inside : place < length V.outputs) where
  abbrev first : List Bool
  first = cut A.inputs x

  within : place < A.outputs
  within = subst (λ n. place < n) of_a.value_outputs inside

  in_f : place < length F.outputs
  in_f = subst (λ n. place < n) (sym of_a.free_outputs) within

  in_w : place < length W.outputs
  in_w = subst (λ n. place < n) (sym (of_b.value_outputs ∙ refines.outputs)) within

  in_g : place < length G.outputs
  in_g = subst (λ n. place < n) (sym (of_b.free_outputs ∙ refines.outputs)) within

  freed : is_free A first place ≡ true → NetworkHas F x place true
  freed h = has_one (is_free A) F of_a.frees x place in_f (sym (at_cut (is_free A) F of_a.frees A.inputs x place of_a.free_inputs in_f) ∙ h)

  values_kept : (vs ws : List Bool) → NetworkAnswers V x vs → NetworkAnswers W x ws → NetworkHas F x place true ⊎ (bit ws place ≡ bit vs place)
  values_kept vs ws here there = elim (refines.values first place (cut_many A.inputs x) within) [
    | inl free ↦ inl (freed free)
    | inr same ↦ inr (
        bit_of (is_one B) W of_b.values x ws place in_w there
        ∙ sym (at_cut (is_one B) W of_b.values A.inputs x place (of_b.value_inputs ∙ refines.inputs) in_w)
        ∙ same
        ∙ at_cut (is_one A) V of_a.values A.inputs x place of_a.value_inputs inside
        ∙ sym (bit_of (is_one A) V of_a.values x vs place inside here))
  ]

  frees_kept : NetworkHas G x place true → NetworkHas F x place true
  frees_kept h =
      freed (refines.frees first place (cut_many A.inputs x) within
      (at_cut (is_free B) G of_b.frees A.inputs x place (of_b.free_inputs ∙ refines.inputs) in_g ∙ one_there (is_free B) G of_b.frees x place in_g h))

pub refined_tables_allow_less : RefinedTablesAllowLess
refined_tables_allow_less A B V F W G of_a of_b refines =
    let refined : IsRefinedBy V F W G = record {
      as_many = of_b.value_outputs ∙ refines.outputs ∙ sym of_a.value_outputs;
      answers = λ x. (_, of_a.values.answers x);
      values = λ x vs ws place here there inside. values_kept A B V F W G of_a of_b refines x place inside vs ws here there;
      frees = λ x place inside h. frees_kept A B V F W G of_a of_b refines x place inside h;
    } in
    refined_sources_allow_less V F W G refined

-- what carries over to sources that allow more carries over, under version 2, from a table to each that it refines
pub is_enough : (IsSecure : Logic → Circuit → CodePlan → Type 0) → CarriesOver IsSecure → IsEnough IsSecure
is_enough IsSecure carries a b N P not_a not_b refines version =
    let less : AllowsLess 2 (source_of b) (source_of a) =
    refined_tables_allow_less (table_text a) (table_text b) _ _ _ _ (texts_are_networks a not_a) (texts_are_networks b not_b) refines in
    carries (source_of b) (source_of a) N P (subst (λ v. AllowsLess v (source_of b) (source_of a)) (sym version) less)
