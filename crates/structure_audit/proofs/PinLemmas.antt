-- The search for the first pin that breaks a rule, and the rules by marks.
use Rattle.std.proofs.Common.{◌≡◌, ℕ, ◌+◌, ◌-◌, ◌<◌, ◌≤◌, ◌⊎◌, inl, inr, nat_lt, Bool, true, false, not, ◌&&◌, ◌||◌, List, length, slice_index, slice_index_or, IsTrue, IsFalse, Option, Some, None, refl, sym, ◌∙◌, ap, subst, arith}
use Rattle.std.proofs.lemmas.Bool.{cases_lt, false≢true}
use Rattle.std.proofs.lemmas.Grind.{common_steps}
use Rattle.std.proofs.lemmas.List.{get_or-map}
use Rattle.fault_secure.specs.Circuit.{Circuit, node, pin_net, nets, bit}
use Rattle.fault_secure.specs.Closed.{IsClosed}
use Rattle.fault_secure.specs.CodePlan.{CodePlan, monitored}
use Rattle.fault_secure.specs.Depends.{InChecker}
use Rattle.fault_secure.specs.Structure.{IsOfChecker, ReadsOnlyWord}
use Rattle.tsc_net.specs.PlanView.{net_numbers}
use Rattle.tsc_net.specs.declared.ids.NetId.{NetId}
use Rattle.structure_audit.specs.StructureReason.{ReadsForeign}
use Rattle.monitored_nets.specs.Marks.{MarksPlaces}
use Rattle.structure_audit.specs.Marks.{MarksChecker, drives_marked, is_readable, ReadsUnmarked, IsPinSearch}
use Rattle.structure_audit.specs.declared.pins.PinAt.{PinAt}

-- where a pin breaks no rule either, the pins up to it break none
pub pin_more : (Breaks : ℕ → Type 0) (pin : ℕ) → ((other : ℕ) → other < pin → Breaks other → ⊥) → (Breaks pin → ⊥) → (other : ℕ) → other < pin + 1 → Breaks other → ⊥
pin_more Breaks pin before here other low breaks = elim (cases_lt other pin) [
  | inl lt ↦ before other lt breaks
  | inr ge ↦ (let e : other ≡ pin = omega arith in here (subst Breaks e breaks))
]

-- the net at a pin
pub pin_is : (N : Circuit) (q pin : ℕ) (reads : List NetId) (d : NetId) → net_numbers reads ≡ (node N q).reads → pin < length reads → (slice_index_or reads pin d).number ≡ pin_net N q pin
pin_is N q pin reads d is within = sym (get_or-map (λ (n : NetId). n.number) reads pin d 0 within) ∙ ap (λ list. slice_index list pin) is

-- two rules that say the same have the same first pin
pub same_search : (N : Circuit) (A B : ℕ → ℕ → Type 0) → ((q pin : ℕ) → A q pin → B q pin) → ((q pin : ℕ) → B q pin → A q pin) → (found : Option PinAt) → IsPinSearch N A found → IsPinSearch N B found
same_search N A B to back None none = λ q pin breaks. none q pin (back q pin breaks)
same_search N A B to back (Some at) (q, is, first) =
    (q, is, record { breaks = to q at.pin first.breaks; first = λ r other before breaks. first.first r other before (back r other breaks) })

is_false : (b : Bool) → (IsTrue b → ⊥) → IsFalse b
is_false true h = absurd (h refl)
is_false false h = refl

-- one of two tests
pub or_cases : (a b : Bool) → IsTrue (a || b) → IsTrue a ⊎ IsTrue b
or_cases true b h = inl refl
or_cases false b h = inr h

pub or_left : (a b : Bool) → IsTrue a → IsTrue (a || b)
or_left true b h = refl
or_left false b h = absurd (false≢true h)

pub or_right : (a b : Bool) → IsTrue b → IsTrue (a || b)
or_right true b h = refl
or_right false b h = h

pub driven_from : (first net : ℕ) (marks : List Bool) → IsTrue (drives_marked first marks net) → (first ≤ net) × IsTrue (bit marks (net - first))
driven_from first net marks h = elim (cases_lt net first) [
  | inl low ↦ absurd (false≢true (sym (ap (λ b. not b && bit marks (net - first)) (below low)) ∙ h))
  | inr high ↦ (high, sym (ap (λ b. not b && bit marks (net - first)) (above high)) ∙ h)
]
  where
    below : net < first → nat_lt net first ≡ true
    below low = grind (arith, common_steps)

    above : first ≤ net → nat_lt net first ≡ false
    above high = grind (arith, common_steps)

pub driven_to : (first net : ℕ) (marks : List Bool) → first ≤ net → IsTrue (bit marks (net - first)) → IsTrue (drives_marked first marks net)
driven_to first net marks high h = ap (λ b. not b && bit marks (net - first)) above ∙ h
  where
    above : nat_lt net first ≡ false
    above = grind (arith, common_steps)

module _ (N : Circuit) (P : CodePlan) (checker word : List Bool) (marks : MarksChecker N P checker) (seen : MarksPlaces (nets N) (monitored N P) word) where
  readable_from : (net : ℕ) → net < nets N → IsTrue (is_readable (N.inputs + length N.latches) checker word net) → IsOfChecker N P net
  readable_from net there h = elim (or_cases (bit word net) (drives_marked (N.inputs + length N.latches) checker net) h) [
    | inl monitors ↦ inr ((seen.exact net there).0 monitors)
    | inr drives ↦ (
        let (high, marked) = driven_from (N.inputs + length N.latches) net checker drives in
        inl (net - (N.inputs + length N.latches), omega arith, omega arith, (marks.exact (net - (N.inputs + length N.latches)) (omega arith)).0 marked))
  ]

  readable_to : (net : ℕ) → net < nets N → IsOfChecker N P net → IsTrue (is_readable (N.inputs + length N.latches) checker word net)
  readable_to net there (inl (q, is_node, is, inside)) =
      let back : q ≡ net - (N.inputs + length N.latches) = omega arith in
      or_right (bit word net) (drives_marked (N.inputs + length N.latches) checker net)
      (driven_to (N.inputs + length N.latches) net checker (omega arith) (subst (λ k. IsTrue (bit checker k)) back ((marks.exact q is_node).1 inside)))
  readable_to net there (inr monitors) = or_left (bit word net) (drives_marked (N.inputs + length N.latches) checker net) ((seen.exact net there).1 monitors)

  pub same_reads : IsClosed N → (found : Option PinAt) → IsPinSearch N (ReadsUnmarked N checker word) found → IsPinSearch N (ReadsForeign N P) found
  same_reads closed found =
      same_search N (ReadsUnmarked N checker word) (ReadsForeign N P)
      (λ q pin h. record {
        is_node = h.is_node;
        in_checker = (marks.exact q h.is_node).0 h.in_checker;
        is_pin = h.is_pin;
        foreign = λ may. false≢true (sym h.foreign ∙ readable_to (pin_net N q pin) (closed.pins q pin h.is_node h.is_pin) may);
      })
      (λ q pin h. record {
        is_node = h.is_node;
        in_checker = (marks.exact q h.is_node).1 h.in_checker;
        is_pin = h.is_pin;
        foreign = is_false (is_readable (N.inputs + length N.latches) checker word (pin_net N q pin)) (λ may. h.foreign (readable_from (pin_net N q pin) (closed.pins q pin h.is_node h.is_pin) may));
      })
      found

  -- where no pin reads what it may not, all read the checker or the word
  pub reads_only : IsClosed N → ((q pin : ℕ) → ReadsUnmarked N checker word q pin → ⊥) → ReadsOnlyWord N P
  reads_only closed none = record {
    reads = λ q pin there inside is_pin. choose q pin there inside is_pin (is_readable (N.inputs + length N.latches) checker word (pin_net N q pin)) refl;
  }
    where
      choose : (q pin : ℕ) → q < length N.nodes → InChecker N P q → pin < length (node N q).reads → (b : Bool)
          → is_readable (N.inputs + length N.latches) checker word (pin_net N q pin) ≡ b → IsOfChecker N P (pin_net N q pin)
      choose q pin there inside is_pin true is = readable_from (pin_net N q pin) (closed.pins q pin there is_pin) is
      choose q pin there inside is_pin false is = absurd (none q pin (record { is_node = there; in_checker = (marks.exact q there).1 inside; is_pin = is_pin; foreign = is }))
