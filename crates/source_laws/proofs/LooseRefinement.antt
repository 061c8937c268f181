-- What sources with free bits allow, where one refines another and where nothing is free.
use Rattle.std.proofs.Common.{◌≡◌, ℕ, ◌<◌, ◌⊎◌, inl, inr, Bool, false, List, length, refl, sym, ap, subst, ◌∙◌}
use Rattle.std.proofs.lemmas.List.{ext_get_or, length-map}
use Rattle.fault_secure.specs.Circuit.{Circuit, bit}
use Rattle.fault_secure.specs.Logic.{IsLooseOutput, LooseAllows, NetworkAnswers}
use Rattle.source_laws.specs.LooseRefinement.{IsRefinedBy, RefinedSourcesAllowLess, UnfreedAreNetworks, VersionOneFreesNothing}

-- ---- one that refines another

module _ (V F W G : Circuit) (refined : IsRefinedBy V F W G) where
  refined_outputs : (x ys : List Bool) → LooseAllows W G 2 x ys → LooseAllows V F 2 x ys
  refined_outputs x ys h = record {
    chosen = (refined.answers x).0;
    answers = (refined.answers x).1;
    sized = h.sized ∙ refined.as_many;
    each = λ place inside. by place inside (h.each place (subst (λ n. place < n) (sym refined.as_many) inside));
  }
    where
      by : (place : ℕ) → place < length V.outputs → IsLooseOutput G 2 x place ⊎ (bit ys place ≡ bit h.chosen place)
          → IsLooseOutput F 2 x place ⊎ (bit ys place ≡ bit (refined.answers x).0 place)
      by place inside (inl free) = inl (refl, refined.frees x place inside free.1)
      by place inside (inr here) = elim (refined.values x (refined.answers x).0 h.chosen place (refined.answers x).1 h.answers inside) [
        | inl free ↦ inl (refl, free)
        | inr there ↦ inr (here ∙ there)
      ]

-- a source that refines another allows less under version 2
pub refined_sources_allow_less : RefinedSourcesAllowLess
refined_sources_allow_less V F W G refined = record { reset = refl; outputs = λ q x ys h. refined_outputs V F W G refined x ys h; next = λ q x r h. h }

-- ---- one without free bits

answered_many : (V : Circuit) (x ys : List Bool) → NetworkAnswers V x ys → length ys ≡ length V.outputs
answered_many V x ys h = ap length (sym h.answers) ∙ length-map V.outputs (bit h.valuation)

module _ (V F : Circuit) (version : ℕ) (x ys : List Bool) (none : (place : ℕ) → place < length V.outputs → IsLooseOutput F version x place → ⊥) where
  fixed : (h : LooseAllows V F version x ys) (place : ℕ) → place < length V.outputs → bit ys place ≡ bit h.chosen place
  fixed h place inside = elim (h.each place inside) [
    | inl free ↦ absurd (none place inside free)
    | inr here ↦ here
  ]

  is_chosen : LooseAllows V F version x ys → NetworkAnswers V x ys
  is_chosen h =
      let same : h.chosen ≡ ys = ext_get_or false h.chosen ys (answered_many V x h.chosen h.answers ∙ sym h.sized)
      (λ place inside. sym (fixed h place (subst (λ n. place < n) (answered_many V x h.chosen h.answers) inside))) in
      subst (NetworkAnswers V x) same h.answers

chosen_allowed : (V F : Circuit) (version : ℕ) (x ys : List Bool) → NetworkAnswers V x ys → LooseAllows V F version x ys
chosen_allowed V F version x ys h = record { chosen = ys; answers = h; sized = answered_many V x ys h; each = λ place inside. inr refl }

pub version_one_frees_nothing : VersionOneFreesNothing
version_one_frees_nothing V F version other = record {
  less = record { reset = refl; outputs = λ q x ys h. is_chosen V F version x ys (λ place inside free. other free.0) h; next = λ q x r h. h };
  more = record { reset = refl; outputs = λ q x ys h. chosen_allowed V F version x ys h; next = λ q x r h. h };
}

-- a loose source that frees nothing allows the same as the network of its values, under any version
pub unfreed_are_networks : UnfreedAreNetworks
unfreed_are_networks V F version none = record {
  less = record { reset = refl; outputs = λ q x ys h. is_chosen V F version x ys (λ place inside free. none x place inside free.1) h; next = λ q x r h. h };
  more = record { reset = refl; outputs = λ q x ys h. chosen_allowed V F version x ys h; next = λ q x r h. h };
}
