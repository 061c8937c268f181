-- How a netlist is matched with the gates of a checker: what is asked of nets, in the order of the walk.
use Rattle.std.specs.Prelude.{◌≡◌, ℕ, ◌+◌, ◌*◌, ◌^◌, ◌<◌, ◌⊎◌, Bool, true, false, List, [], ◌∷◌, ◌++◌, map, reverse, length, slice_index, IsTrue, All}
use Rattle.std.specs.Ordering.{nat_cmp}
use Rattle.std.specs.BTreeSet.{BTreeSet, contains}
use Rattle.tsc_cover.specs.Gates.{buf_cover, not_cover, and_cover, or_cover, xor_cover}
use Rattle.fault_secure.specs.Circuit.{Circuit}
use Rattle.fault_secure.specs.CodePlan.{CodePlan}
use Rattle.code_checkers.specs.declared.gate.CheckGate.{CheckGate}
use Rattle.code_checkers.specs.declared.gate.CheckGate.TheVariants as gate
use Rattle.code_checkers.specs.Signal.{Signal}
use Rattle.code_checkers.specs.Signal.Signal.{Word, Buf, Not, And, Or, Xor}
use Rattle.code_checkers.specs.Gates.{signal_at, signals_of, meaning, gate_at}
use Rattle.code_checkers.specs.Block.{IsGateNode, Realises, RailsRealise}
use Rattle.checker_audit.specs.FirstMisfit.{IsNoGateOfOne, IsNoGateOfTwo, IsFirstMisfit, IsFirstMismatch}
use Rattle.checker_audit.specs.declared.asked.Asked.{Asked}

-- a net is asked whether it realises a signal
pub record Question : Type 0 where
  pub signal : Signal
  pub net : ℕ

-- each asked net realises its signal
abbrev pub AllRealise : Circuit → CodePlan → List Question → Type 0
AllRealise N P [] = Unit {0}
AllRealise N P (asked ∷ more) = Realises N P asked.signal asked.net × AllRealise N P more

-- the first net that doesn't fit, of the walks over what is asked, one after another
abbrev pub IsFirstAmong : Circuit → CodePlan → List Question → ℕ → Type 0
IsFirstAmong N P [] bad = ⊥
IsFirstAmong N P (asked ∷ more) bad =
    IsFirstMisfit N P asked.signal asked.net bad ⊎ (Realises N P asked.signal asked.net × IsFirstAmong N P more bad)

-- what a gate over nets asks: that the nets at its pins realise its operands
abbrev pub operands : List Signal → CheckGate → List ℕ → List Question
operands signals (gate.Word place) pins = []
operands signals (gate.Buf a) pins = record { signal = signal_at signals a; net = slice_index pins 0 } ∷ []
operands signals (gate.Not a) pins = record { signal = signal_at signals a; net = slice_index pins 0 } ∷ []
operands signals (gate.And a b) pins = record { signal = signal_at signals a; net = slice_index pins 0 } ∷ (record { signal = signal_at signals b; net = slice_index pins 1 } ∷ [])
operands signals (gate.Or a b) pins = record { signal = signal_at signals a; net = slice_index pins 0 } ∷ (record { signal = signal_at signals b; net = slice_index pins 1 } ∷ [])
operands signals (gate.Xor a b) pins = record { signal = signal_at signals a; net = slice_index pins 0 } ∷ (record { signal = signal_at signals b; net = slice_index pins 1 } ∷ [])

-- the questions of a list of places and nets, the last one first
abbrev pub question : List CheckGate → Asked → Question
question gates asked = record { signal = meaning gates asked.place; net = asked.net.number }

abbrev pub questions : List CheckGate → List Asked → List Question
questions gates stack = map (question gates) (reverse stack)

-- the number by which a place and a net are noted
abbrev pub number_of : ℕ → ℕ → ℕ
number_of place net = place * 4294967296 + net

-- the net was asked for at the place before
abbrev pub WasAsked : BTreeSet ℕ → ℕ → ℕ → Type 0
WasAsked seen place net = (net < 2 ^ 32) × IsTrue (contains nat_cmp seen (number_of place net))

-- the size of a signal
abbrev pub size : Signal → ℕ
size (Word place) = 1
size (Buf a) = size a + 1
size (Not a) = size a + 1
size (And a b) = size a + size b + 1
size (Or a b) = size a + size b + 1
size (Xor a b) = size a + size b + 1

-- the size of all that is asked, which falls with each step of a walk
abbrev pub total_size : List Question → ℕ
total_size [] = 0
total_size (asked ∷ more) = size asked.signal + total_size more

-- the net is the gate over the nets at its pins; a place of the word has no pin
abbrev pub IsGateOver : Circuit → CodePlan → CheckGate → ℕ → List ℕ → Type 0
IsGateOver N P (gate.Word place) net pins = Realises N P (Word place) net
IsGateOver N P (gate.Buf a) net pins = IsGateNode N P net buf_cover (slice_index pins 0 ∷ [])
IsGateOver N P (gate.Not a) net pins = IsGateNode N P net not_cover (slice_index pins 0 ∷ [])
IsGateOver N P (gate.And a b) net pins = IsGateNode N P net and_cover (slice_index pins 0 ∷ (slice_index pins 1 ∷ []))
IsGateOver N P (gate.Or a b) net pins = IsGateNode N P net or_cover (slice_index pins 0 ∷ (slice_index pins 1 ∷ []))
IsGateOver N P (gate.Xor a b) net pins = IsGateNode N P net xor_cover (slice_index pins 0 ∷ (slice_index pins 1 ∷ []))

-- the net is this gate over no nets
abbrev pub IsNoGate : Circuit → CodePlan → CheckGate → ℕ → Type 0
IsNoGate N P (gate.Word place) net = Realises N P (Word place) net → ⊥
IsNoGate N P (gate.Buf a) net = IsNoGateOfOne N P net buf_cover
IsNoGate N P (gate.Not a) net = IsNoGateOfOne N P net not_cover
IsNoGate N P (gate.And a b) net = IsNoGateOfTwo N P net and_cover
IsNoGate N P (gate.Or a b) net = IsNoGateOfTwo N P net or_cover
IsNoGate N P (gate.Xor a b) net = IsNoGateOfTwo N P net xor_cover

-- each place that is asked for is one of the gates
abbrev pub AreWithin : List CheckGate → List Asked → Type 0
AreWithin gates stack = All (λ asked. asked.place < length gates) stack

-- a fitting net was opened: its gate's operands are asked next, before what was asked
pub record IsOpened (N : Circuit) (P : CodePlan) (gates : List CheckGate) (asked : Asked) (old new : List Asked) : Type 0 where
  pub pins : List ℕ
  pub over : IsGateOver N P (gate_at gates asked.place) asked.net.number pins
  pub stack : questions gates new ≡ operands (signals_of gates) (gate_at gates asked.place) pins ++ questions gates old
  pub within : AreWithin gates new

-- a net was looked at: it fits and was opened, or it is no such gate
abbrev pub IsLookedAt : Circuit → CodePlan → List CheckGate → Asked → List Asked → List Asked → Bool → Type 0
IsLookedAt N P gates asked old new true = IsOpened N P gates asked old new
IsLookedAt N P gates asked old new false = IsNoGate N P (gate_at gates asked.place) asked.net.number

-- what is asked leads to the rails: where all of it realises, so do they, and its first misfit is theirs
pub record Leads (N : Circuit) (P : CodePlan) (asked : List Question) : Type 0 where
  pub whole : AllRealise N P asked → RailsRealise N P
  pub misfit : (bad : ℕ) → IsFirstAmong N P asked bad → IsFirstMismatch N P bad

-- what was asked before realises, or is larger than what is asked next, and so on as the walk goes on
abbrev pub IsPending : Circuit → CodePlan → List CheckGate → (ℕ → ℕ → Type 0) → List Question → Type 0
IsPending N P gates Seen [] = Unit {0}
IsPending N P gates Seen (asked ∷ more) =
    ((place net : ℕ) → Seen place net → Realises N P (meaning gates place) net ⊎ (size asked.signal < size (meaning gates place)))
    × (Realises N P asked.signal asked.net → IsPending N P gates Seen more)

-- the walk is on its way: what is still asked, and what was asked before
pub record IsWalking (N : Circuit) (P : CodePlan) (gates : List CheckGate) (seen : BTreeSet ℕ) (stack : List Asked) : Type 0 where
  pub leads : Leads N P (questions gates stack)
  pub pending : IsPending N P gates (WasAsked seen) (questions gates stack)
  pub within : AreWithin gates stack

-- the walk went on from a net, or that net is the first misfit
abbrev pub HasStepped : Circuit → CodePlan → List CheckGate → Asked → BTreeSet ℕ → List Asked → List Asked → Bool → Type 0
HasStepped N P gates asked seen old new true = IsWalking N P gates seen new × (total_size (questions gates new) < size (meaning gates asked.place) + total_size (questions gates old))
HasStepped N P gates asked seen old new false = IsFirstMismatch N P asked.net.number
