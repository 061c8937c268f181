-- Rails that follow the word, groups with disjoint cones.
use Rattle.std.proofs.Common.{◌≡◌, ◌↔◌, ℕ, ◌<◌, inl, inr, Bool, List, [], length, slice_index, slice_index_or, ap, sym, ◌∙◌, subst, Contains}
use Rattle.std.proofs.lemmas.List.{get_or_default}
use Rattle.tsc_cover.specs.Cover.{truth}
use Rattle.fault_secure.specs.Circuit.{Circuit, node, node_net, pin_net, bit}
use Rattle.fault_secure.specs.StuckAt.{NoFault}
use Rattle.fault_secure.specs.Settle.{Ranks, Acyclic}
use Rattle.fault_secure.specs.CodePlan.{CodePlan, monitored, word, members, IsCodeword, RailsAgree}
use Rattle.fault_secure.specs.Depends.{InChecker}
use Rattle.fault_secure.specs.Depends.Depends.{itself}
use Rattle.fault_secure.specs.Structure.{IsOfChecker, ReadsOnlyWord, CheckerSettles}
use Rattle.structure_laws.specs.DisjointCones.{RailsFollowWord, OneChangeInGroup, WordIsDecided, CodeDisjointByWords}
use Rattle.fault_secure.proofs.Agree.{by_rank, reads_same}
use Rattle.structure_laws.proofs.ParityStep.{same_bit, word_bit, word_outside}

module _ (N : Circuit) (P : CodePlan) (v u : List Bool) (reads : ReadsOnlyWord N P) (first : CheckerSettles N P v) (second : CheckerSettles N P u)
    (same_word : word N P v ≡ word N P u) where
  monitored_same : (net : ℕ) → Contains (monitored N P) net → bit v net ≡ bit u net
  monitored_same net h =
      subst (λ n. bit v n ≡ bit u n) (get_or_default (monitored N P) h.0 0 net h.1 ∙ h.2)
      (sym (word_bit N P v h.0 h.1) ∙ ap (λ w. bit w h.0) same_word ∙ word_bit N P u h.0 h.1)

  checker_value : (rank : ℕ → ℕ) → Ranks N rank → (q : ℕ) → q < length N.nodes → InChecker N P q
      → ((m : ℕ) → rank m < rank (node_net N q) → IsOfChecker N P m → bit v m ≡ bit u m) → bit v (node_net N q) ≡ bit u (node_net N q)
  checker_value rank ranks q h checks below =
      first.settles q h checks
      ∙ ap (truth (node N q).cover) (reads_same NoFault NoFault v u (node_net N q) 0 (node N q).reads
      (λ i k l. below (pin_net N q i) (ranks.above q i h l) (reads.reads q i h checks l)))
      ∙ sym (second.settles q h checks)

  at_checker_net : (rank : ℕ → ℕ) → Ranks N rank → (net : ℕ) → ((m : ℕ) → rank m < rank net → IsOfChecker N P m → bit v m ≡ bit u m)
      → IsOfChecker N P net → bit v net ≡ bit u net
  at_checker_net rank ranks net below (inr monitors) = monitored_same net monitors
  at_checker_net rank ranks net below (inl own) =
      subst (λ n. ((m : ℕ) → rank m < rank n → IsOfChecker N P m → bit v m ≡ bit u m) → bit v n ≡ bit u n) (sym own.2)
      (checker_value rank ranks own.0 own.1 own.3) below

  checker_net_same : Acyclic N → (net : ℕ) → IsOfChecker N P net → bit v net ≡ bit u net
  checker_net_same a = by_rank (λ net. IsOfChecker N P net → bit v net ≡ bit u net) a.rank (at_checker_net a.rank a.ranks)

-- where the checker settles in two valuations with the same word, their rails are the same
pub rails_follow_word : RailsFollowWord
rails_follow_word N P v u acyclic rails reads first second same = record {
  first = checker_net_same N P v u reads first second same acyclic P.rail1
      (inl (rails.first.driver, rails.first.is_node, rails.first.drives, record { depends = inl (itself P.rail1 rails.first.is_node rails.first.drives); outside = rails.first.outside }));
  second = checker_net_same N P v u reads first second same acyclic P.rail2
      (inl (rails.second.driver, rails.second.is_node, rails.second.drives, record { depends = inr (itself P.rail2 rails.second.is_node rails.second.drives); outside = rails.second.outside }));
}

pub one_change_in_group : OneChangeInGroup
one_change_in_group N P q x s v u acyclic cones first second group a b l k =
    let left = slice_index (slice_index_or (members P) group []) a in
    let right = slice_index (slice_index_or (members P) group []) b in
    let outside = word_outside N P q x s v u acyclic first second in
    elim (same_bit (bit (word N P u) left) (bit (word N P v) left)) [
      | inl e ↦ inl e
      | inr n ↦ elim (same_bit (bit (word N P u) right) (bit (word N P v) right)) [
        | inl e ↦ inr e
        | inr m ↦ absurd (n (outside left (λ one. m (outside right (λ two. cones.disjoint group a b l k (record { shared = q; first = one; second = two }))))))
      ]
    ]

-- to know that a checker is code-disjoint it is enough to try one valuation for each word
pub code_disjoint_by_words : CodeDisjointByWords
code_disjoint_by_words N P acyclic rails reads tried = record { decides = λ v h. decide v h (tried v h) }
  where
    decide : (v : List Bool) → CheckerSettles N P v → WordIsDecided N P (word N P v) → (RailsAgree P v → ⊥) ↔ IsCodeword P (word N P v)
    decide v h d =
        let same = rails_follow_word N P d.valuation v acyclic rails reads d.settles h d.has_word in
        (λ n. d.decides.0 (λ e. n (sym same.first ∙ e ∙ same.second)), λ c e. d.decides.1 c (same.first ∙ e ∙ sym same.second))
