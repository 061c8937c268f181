-- The walk over what is asked: each step keeps that what is asked leads to the rails.
use Rattle.std.proofs.Common.{◌≡◌, ℕ, ◌⊎◌, inl, inr, ◌+◌, ◌<◌, List, [], ◌∷◌, ◌++◌, length, slice_index, refl, sym, subst, arith}
use Rattle.fault_secure.specs.Circuit.{Circuit}
use Rattle.fault_secure.specs.CodePlan.{CodePlan}
use Rattle.code_checkers.specs.declared.gate.CheckGate.{CheckGate}
use Rattle.code_checkers.specs.declared.gate.CheckGate.TheVariants as gate
use Rattle.code_checkers.specs.Signal.{Signal}
use Rattle.code_checkers.specs.Gates.{signal_of, signals_of, meaning, AreOrdered, gate_at}
use Rattle.code_checkers.specs.GateList.{GateList, IsCheckerOf}
use Rattle.code_checkers.specs.Block.{Realises}
use Rattle.code_checkers.proofs.Sharing.{meaning_is}
use Rattle.checker_audit.specs.FirstMisfit.{IsFirstMisfit, IsFirstMismatch}
use Rattle.checker_audit.specs.Matching.{Question, AllRealise, IsFirstAmong, operands, size, total_size, IsGateOver, IsNoGate, Leads, IsPending}

module _ (N : Circuit) (P : CodePlan) where
  all_parts : (xs ys : List Question) → AllRealise N P (xs ++ ys) → AllRealise N P xs × AllRealise N P ys
  all_parts [] ys all = (tt, all)
  all_parts (x ∷ xs) ys all = let rest = all_parts xs ys all.1 in ((all.0, rest.0), rest.1)

  among_parts : (xs ys : List Question) (bad : ℕ) → IsFirstAmong N P (xs ++ ys) bad → IsFirstAmong N P xs bad ⊎ (AllRealise N P xs × IsFirstAmong N P ys bad)
  among_parts [] ys bad f = inr (tt, f)
  among_parts (x ∷ xs) ys bad (inl f) = inl (inl f)
  among_parts (x ∷ xs) ys bad (inr (r, f)) = elim (among_parts xs ys bad f) [
    | inl here ↦ inl (inr (r, here))
    | inr (all, later) ↦ inr ((r, all), later)
  ]

  -- a question was replaced by others: what they say of it
  record Opens (signals : List Signal) (g : CheckGate) (net : ℕ) (more : List Question) : Type 0 where
    realises : AllRealise N P more → Realises N P (signal_of signals g) net
    misfit : (bad : ℕ) → IsFirstAmong N P more bad → IsFirstMisfit N P (signal_of signals g) net bad

  one_among : (q : Question) (bad : ℕ) → IsFirstAmong N P (q ∷ []) bad → IsFirstMisfit N P q.signal q.net bad
  one_among q bad (inl f) = f
  one_among q bad (inr (_, f)) = absurd f

  two_among : (q r : Question) (bad : ℕ) → IsFirstAmong N P (q ∷ (r ∷ [])) bad → IsFirstMisfit N P q.signal q.net bad ⊎ (Realises N P q.signal q.net × IsFirstMisfit N P r.signal r.net bad)
  two_among q r bad (inl f) = inl f
  two_among q r bad (inr (real, f)) = inr (real, one_among r bad f)

  opens : (signals : List Signal) (g : CheckGate) (net : ℕ) (pins : List ℕ) → IsGateOver N P g net pins → Opens signals g net (operands signals g pins)
  opens signals (gate.Word place) net pins over = record { realises = λ all. over; misfit = λ bad f. absurd f }
  opens signals (gate.Buf a) net pins over = record {
    realises = λ all. (slice_index pins 0, over, all.0);
    misfit = λ bad f. inr (slice_index pins 0, over, one_among _ bad f);
  }
  opens signals (gate.Not a) net pins over = record {
    realises = λ all. (slice_index pins 0, over, all.0);
    misfit = λ bad f. inr (slice_index pins 0, over, one_among _ bad f);
  }
  opens signals (gate.And a b) net pins over = record {
    realises = λ all. (slice_index pins 0, slice_index pins 1, over, all.0, all.1.0);
    misfit = λ bad f. inr (slice_index pins 0, slice_index pins 1, over, two_among _ _ bad f);
  }
  opens signals (gate.Or a b) net pins over = record {
    realises = λ all. (slice_index pins 0, slice_index pins 1, over, all.0, all.1.0);
    misfit = λ bad f. inr (slice_index pins 0, slice_index pins 1, over, two_among _ _ bad f);
  }
  opens signals (gate.Xor a b) net pins over = record {
    realises = λ all. (slice_index pins 0, slice_index pins 1, over, all.0, all.1.0);
    misfit = λ bad f. inr (slice_index pins 0, slice_index pins 1, over, two_among _ _ bad f);
  }

  -- a net that is no such gate is the first misfit of its signal
  misfit_here : (signals : List Signal) (g : CheckGate) (net : ℕ) → IsNoGate N P g net → IsFirstMisfit N P (signal_of signals g) net net
  misfit_here signals (gate.Word place) net wrong = (refl, wrong)
  misfit_here signals (gate.Buf a) net wrong = inl (refl, wrong)
  misfit_here signals (gate.Not a) net wrong = inl (refl, wrong)
  misfit_here signals (gate.And a b) net wrong = inl (refl, wrong)
  misfit_here signals (gate.Or a b) net wrong = inl (refl, wrong)
  misfit_here signals (gate.Xor a b) net wrong = inl (refl, wrong)

  -- operands are smaller than their gate
  Smaller : ℕ → List Question → Type 0
  Smaller n [] = Unit {0}
  Smaller n (q ∷ more) = (size q.signal < n) × Smaller n more

  operands_smaller : (signals : List Signal) (g : CheckGate) (pins : List ℕ) → Smaller (size (signal_of signals g)) (operands signals g pins)
  unfolding Smaller
  operands_smaller signals (gate.Word place) pins = tt
  operands_smaller signals (gate.Buf a) pins = (omega arith, tt)
  operands_smaller signals (gate.Not a) pins = (omega arith, tt)
  operands_smaller signals (gate.And a b) pins = (omega arith, (omega arith, tt))
  operands_smaller signals (gate.Or a b) pins = (omega arith, (omega arith, tt))
  operands_smaller signals (gate.Xor a b) pins = (omega arith, (omega arith, tt))

  total_operands : (signals : List Signal) (g : CheckGate) (pins : List ℕ) (more : List Question)
      → total_size (operands signals g pins ++ more) < size (signal_of signals g) + total_size more
  total_operands signals (gate.Word place) pins more = omega arith
  total_operands signals (gate.Buf a) pins more = omega arith
  total_operands signals (gate.Not a) pins more = omega arith
  total_operands signals (gate.And a b) pins more = omega arith
  total_operands signals (gate.Or a b) pins more = omega arith
  total_operands signals (gate.Xor a b) pins more = omega arith

  module _ (gates : List CheckGate) where
    -- more is noted than before only of what realises
    pending_noted : (Old New : ℕ → ℕ → Type 0) → ((p n : ℕ) → New p n → Old p n ⊎ Realises N P (meaning gates p) n)
        → (asked : List Question) → IsPending N P gates Old asked → IsPending N P gates New asked
    pending_noted Old New grows [] pending = tt
    pending_noted Old New grows (q ∷ more) pending = (
      λ p n seen. elim (grows p n seen) [ inl old ↦ pending.0 p n old | inr real ↦ inl real ],
      λ real. pending_noted Old New grows more (pending.1 real),
    )

    -- a net that was asked before realises
    seen_realises : (Seen : ℕ → ℕ → Type 0) (place net : ℕ) (more : List Question) → IsPending N P gates Seen (record { signal = meaning gates place; net = net } ∷ more)
        → Seen place net → Realises N P (meaning gates place) net
    seen_realises Seen place net more pending seen = elim (pending.0 place net seen) [ inl real ↦ real | inr larger ↦ absurd (omega arith) ]

    pub skipped_leads : (asked : Question) (more : List Question) → Leads N P (asked ∷ more) → Realises N P asked.signal asked.net → Leads N P more
    skipped_leads asked more leads real = record {
      whole = λ all. leads.whole (real, all);
      misfit = λ bad f. leads.misfit bad (inr (real, f));
    }

    module _ (Old New : ℕ → ℕ → Type 0) (place net : ℕ) (noted : (p n : ℕ) → New p n → Old p n ⊎ ((p ≡ place) × (n ≡ net))) where
      realises_at : Realises N P (meaning gates place) net → (p n : ℕ) → New p n → Old p n ⊎ Realises N P (meaning gates p) n
      realises_at real p n seen = elim (noted p n seen) [
        | inl old ↦ inl old
        | inr (at, is) ↦ inr (subst (λ p. Realises N P (meaning gates p) n) (sym at) (subst (Realises N P (meaning gates place)) (sym is) real))
      ]

      pending_operands : (more : List Question) → IsPending N P gates Old (record { signal = meaning gates place; net = net } ∷ more)
          → (xs : List Question) → Smaller (size (meaning gates place)) xs → (AllRealise N P xs → IsPending N P gates New more) → IsPending N P gates New (xs ++ more)
      unfolding Smaller
      pending_operands more pending [] small rest = rest tt
      pending_operands more pending (x ∷ xs) small rest = (
        λ p n seen. elim (noted p n seen) [
          | inl old ↦ elim (pending.0 p n old) [ inl real ↦ inl real | inr larger ↦ inr (let s : size x.signal < size (meaning gates place) = small.0 in omega arith) ]
          | inr (at, is) ↦ inr (subst (λ p. size x.signal < size (meaning gates p)) (sym at) small.0)
        ],
        λ real. pending_operands more pending xs small.1 (λ all. rest (real, all)),
      )

      -- the walk goes on from a fitting net to the nets at its pins
      module _ (ordered : AreOrdered gates) (within : place < length gates) (pins : List ℕ) (over : IsGateOver N P (gate_at gates place) net pins) (more : List Question) where
        means : meaning gates place ≡ signal_of (signals_of gates) (gate_at gates place)
        means = meaning_is gates place ordered within

        opened : Opens (signals_of gates) (gate_at gates place) net (operands (signals_of gates) (gate_at gates place) pins)
        opened = opens (signals_of gates) (gate_at gates place) net pins over

        real : AllRealise N P (operands (signals_of gates) (gate_at gates place) pins) → Realises N P (meaning gates place) net
        real all = subst (λ s. Realises N P s net) (sym means) (opened.realises all)

        pub opened_leads : Leads N P (record { signal = meaning gates place; net = net } ∷ more) → Leads N P (operands (signals_of gates) (gate_at gates place) pins ++ more)
        opened_leads leads = record {
          whole = λ all. let parts = all_parts (operands (signals_of gates) (gate_at gates place) pins) more all in leads.whole (real parts.0, parts.1);
          misfit = λ bad f. elim (among_parts (operands (signals_of gates) (gate_at gates place) pins) more bad f) [
            | inl here ↦ leads.misfit bad (inl (subst (λ s. IsFirstMisfit N P s net bad) (sym means) (opened.misfit bad here)))
            | inr (all, later) ↦ leads.misfit bad (inr (real all, later))
          ];
        }

        pub opened_pending : IsPending N P gates Old (record { signal = meaning gates place; net = net } ∷ more) → IsPending N P gates New (operands (signals_of gates) (gate_at gates place) pins ++ more)
        opened_pending pending =
            pending_operands more pending (operands (signals_of gates) (gate_at gates place) pins)
            (subst (λ s. Smaller (size s) (operands (signals_of gates) (gate_at gates place) pins)) (sym means) (operands_smaller (signals_of gates) (gate_at gates place) pins))
            (λ all. pending_noted Old New (realises_at (real all)) more (pending.1 (real all)))

        pub opened_size : total_size (operands (signals_of gates) (gate_at gates place) pins ++ more) < size (meaning gates place) + total_size more
        opened_size = subst (λ s. total_size (operands (signals_of gates) (gate_at gates place) pins ++ more) < size s + total_size more) (sym means) (total_operands (signals_of gates) (gate_at gates place) pins more)

    -- a net that is no such gate is the first mismatch
    pub stops : (place net : ℕ) (more : List Question) → AreOrdered gates → place < length gates → Leads N P (record { signal = meaning gates place; net = net } ∷ more)
        → IsNoGate N P (gate_at gates place) net → IsFirstMismatch N P net
    stops place net more ordered within leads wrong =
        leads.misfit net (inl (subst (λ s. IsFirstMisfit N P s net net) (sym (meaning_is gates place ordered within)) (misfit_here (signals_of gates) (gate_at gates place) net wrong)))

    -- what is asked after a net that was asked before
    pub seen_pending : (Old New : ℕ → ℕ → Type 0) (place net : ℕ) → ((p n : ℕ) → New p n → Old p n ⊎ ((p ≡ place) × (n ≡ net)))
        → (more : List Question) → IsPending N P gates Old (record { signal = meaning gates place; net = net } ∷ more) → Old place net → IsPending N P gates New more
    seen_pending Old New place net noted more pending seen =
        let real = seen_realises Old place net more pending seen in
        pending_noted Old New (realises_at Old New place net noted real) more (pending.1 real)

    pub seen_skips : (Seen : ℕ → ℕ → Type 0) (place net : ℕ) (more : List Question) → Leads N P (record { signal = meaning gates place; net = net } ∷ more)
        → IsPending N P gates Seen (record { signal = meaning gates place; net = net } ∷ more) → Seen place net → Leads N P more × IsPending N P gates Seen more
    seen_skips Seen place net more leads pending seen =
        let real = seen_realises Seen place net more pending seen in
        (skipped_leads (record { signal = meaning gates place; net = net }) more leads real, pending.1 real)

  -- the rails are what is asked first
  pub rails_lead : (made : GateList) → IsCheckerOf P made
      → Leads N P (record { signal = meaning made.gates made.rail1; net = P.rail1 } ∷ (record { signal = meaning made.gates made.rail2; net = P.rail2 } ∷ []))
  rails_lead made is = record {
    whole = λ all. record {
      first = subst (λ s. Realises N P s P.rail1) is.first all.0;
      second = subst (λ s. Realises N P s P.rail2) is.second all.1.0;
    };
    misfit = λ bad f. elim f [
      | inl here ↦ inl (subst (λ s. IsFirstMisfit N P s P.rail1 bad) is.first here)
      | inr (real, later) ↦ inr (subst (λ s. Realises N P s P.rail1) is.first real, subst (λ s. IsFirstMisfit N P s P.rail2 bad) is.second (one_among _ bad later))
    ];
  }
