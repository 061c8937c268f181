-- Holding bits in one lane after another, along a chain from its last lane to its first.
use Rattle.std.proofs.Common.{◌≡◌, ◌≢◌, ℕ, ◌<◌, ◌≤◌, Bool, false, cond, eqb, ◌&&◌, List, length, Option, None, refl, sym, ap, ◌∙◌, subst, arith}
use Rattle.std.specs.Prelude.{slice_index, slice_index_or}
use Rattle.std.proofs.lemmas.List.{get_or_default}
use Rattle.std.proofs.Math.Logic.{⊎_elim}
use Rattle.std.proofs.lemmas.Bool.{cases_lt, cases_eq}
use Rattle.fault_secure.specs.StuckAt.{StuckAt, NoFault, Stem, Pin, on_stem, on_pin}
use Rattle.tsc_net.specs.Fault.{stuck_at_or_none}
use Rattle.tsc_net.specs.declared.fault.Fault.{Fault}
use Rattle.lane_sim.specs.Again.{is_at}
use Rattle.fault_lanes.specs.Batch.{lane_fault}
use Rattle.fault_lanes.specs.Chains.{IsLastAt}

-- a fault elsewhere holds neither the stem nor a pin
pub stem_away : (f : StuckAt) (net : ℕ) (b : Bool) → is_at f net ≡ false → on_stem f net b ≡ b
stem_away NoFault net b away = refl
stem_away (Stem at held) net b away = ap (λ t. cond t held b) away
stem_away (Pin at index held) net b away = refl

pub pin_away : (f : StuckAt) (driver pin : ℕ) (b : Bool) → is_at f driver ≡ false → on_pin f driver pin b ≡ b
pin_away NoFault driver pin b away = refl
pin_away (Stem at held) driver pin b away = refl
pin_away (Pin at index held) driver pin b away = ap (λ t. cond (t && eqb index pin) held b) away

-- a fault that was read from the list
pub fault_there : (faults : List (Option Fault)) (lane : ℕ) (x : Option Fault) → lane < length faults → x ≡ slice_index_or faults lane x → stuck_at_or_none x ≡ lane_fault faults lane
fault_there faults lane x inside is = ap stuck_at_or_none (is ∙ get_or_default faults lane x None inside)

pub number_there : (xs : List ℕ) (i x : ℕ) → i < length xs → x ≡ slice_index_or xs i x → slice_index xs i ≡ x
number_there xs i x inside is = sym (is ∙ get_or_default xs i x 0 inside)

-- what the lanes after one have is held, and the others still have what they had
pub record IsHeldAbove (held : ℕ → Bool → Bool) (lane : ℕ) (was now : ℕ → Bool) : Type 0 where
  pub done : (p : ℕ) → lane < p → p < 1024 → now p ≡ held p (was p)
  pub rest : (p : ℕ) → p ≤ lane → now p ≡ was p

module _ (faults : List (Option Fault)) (net : ℕ) (held : ℕ → Bool → Bool) (away : (p : ℕ) (b : Bool) → is_at (lane_fault faults p) net ≡ false → held p b ≡ b) where
  -- at the last lane of the chain nothing is to be held after it
  pub held_first : (lane : ℕ) (was : ℕ → Bool) → IsLastAt faults net 1024 lane → IsHeldAbove held lane was was
  held_first lane was is = record { done = λ p above inside. sym (away p (was p) (is.last p above inside)); rest = λ p low. refl }

  -- one lane more is held
  pub held_more : (lane older : ℕ) (was now next : ℕ → Bool) → lane < 1024 → IsLastAt faults net lane older → next lane ≡ held lane (now lane)
      → ((p : ℕ) → p < 1024 → p ≢ lane → next p ≡ now p) → IsHeldAbove held lane was now → IsHeldAbove held older was next
  held_more lane older was now next inside is here others before = record {
    done = λ p above below. ⊎_elim
        (λ less. others p below (λ same. omega arith) ∙ before.rest p (omega arith) ∙ sym (away p (was p) (is.last p above less)))
        (λ from. ⊎_elim
        (λ same. subst (λ n. next n ≡ held n (was n)) (sym same) (here ∙ ap (held lane) (before.rest lane (omega arith))))
        (λ apart. others p below apart ∙ before.done p (omega (arith, apart)) below)
        (cases_eq p lane))
        (cases_lt p lane);
    rest = λ p low. let less = is.below in others p (omega arith) (λ same. omega arith) ∙ before.rest p (omega arith);
  }

  -- and at its end all are
  pub held_all : (lane : ℕ) (was now : ℕ → Bool) → lane ≡ 0 → ((b : Bool) → held 0 b ≡ b) → IsHeldAbove held lane was now → (p : ℕ) → p < 1024 → now p ≡ held p (was p)
  held_all lane was now end none is p inside = ⊎_elim
      (λ same. subst (λ n. now n ≡ held n (was n)) (sym same) (is.rest 0 (omega arith) ∙ sym (none (was 0))))
      (λ apart. is.done p (omega (arith, apart)) inside)
      (cases_eq p 0)
