-- What is right of 64 points at once.
use Rattle.std.proofs.Common.{◌≡◌, ℕ, ◌/◌, ◌%◌, ◌^◌, ◌<◌, ◌⊎◌, ◌==◌, Bool, true, false, List, length, position, if◌then◌else◌, Some, refl, sym, ap, ◌∙◌, subst, inl, inr}
use Rattle.tsc_bits.specs.Bits.{bits_of}
use Rattle.tsc_bits.proofs.Bits.{bits_of-mod}
use Rattle.fault_secure.specs.Circuit.{Circuit, bit}
use Rattle.fault_secure.specs.CodePlan.{CodePlan, IsCodeword, outputs_of, next_of}
use Rattle.fault_secure.specs.Logic.{Logic, Network, States, Loose, StateTable, AllowsOutputs, LooseAllows, IsLooseOutput, inputs_of}
use Rattle.fault_secure.specs.FaultSecure.{equal_bits, state_at}
use Rattle.behaviour_audit.specs.Points.{ArrivesAt, HasOutputs, HasWord, ShowsAt, input_of}
use Rattle.behaviour_audit.specs.Trial.{IsMatch, IsRight, ShowsInput, ShowsSource}
use Rattle.behaviour_audit.specs.Lanes.{ChosenOrFree}
use Rattle.behaviour_audit.specs.declared.condition.Condition.TheVariants.{NextState, WordAndOutputs}
use Rattle.lane_sim.specs.declared.point.Point.{Point}
use Rattle.behaviour_audit.specs.declared.watch.Watch.{Watch}
use Rattle.behaviour_audit.specs.declared.reference.LooseWatch.{LooseWatch}
use Rattle.behaviour_audit.specs.declared.reference.Reference.{Reference}
use Rattle.behaviour_audit.specs.declared.reference.Reference.TheVariants.{Network as OfNetwork, Loose as OfLoose}
use Rattle.behaviour_audit.proofs.SourceLemmas.{free_there}
use Rattle.behaviour_audit.proofs.StepLemmas.{next_holds, all_allowed}
use Rattle.lane_sim.specs.Places.{point_at}

-- a network goes from its one state to its one state, and so does a loose source
pub network_arrives : (M : Logic) (C : Circuit) (P : CodePlan) (q : ℕ) (x next : List Bool) → M ≡ Network C → state_at P next ≡ Some 0 → ArrivesAt M P q x next
network_arrives M C P q x next is arrives = subst (λ (L : Logic). ArrivesAt L P q x next) (sym is) (record { state = 0; arrives = arrives; allowed = refl })

pub loose_arrives : (M : Logic) (V F : Circuit) (P : CodePlan) (q : ℕ) (x next : List Bool) → M ≡ Loose V F → state_at P next ≡ Some 0 → ArrivesAt M P q x next
loose_arrives M V F P q x next is arrives = subst (λ (L : Logic). ArrivesAt L P q x next) (sym is) (record { state = 0; arrives = arrives; allowed = refl })

-- without latches the state is 0
pub without_latches : (P : CodePlan) (next : List Bool) → (P.latches == 0) ≡ true → state_at P next ≡ Some 0
without_latches P next none = ap (λ (b : Bool). if b then Some 0 else position (equal_bits next) P.states) none

-- a loose source allows the outputs of its first network, but where the second one tells that they are free
pub loose_allows : (V F : Circuit) (version : ℕ) (x chosen free ys : List Bool) → HasOutputs V x chosen → HasOutputs F x free → length ys ≡ length V.outputs
    → ChosenOrFree version free chosen ys → LooseAllows V F version x ys
loose_allows V F version x chosen free ys value tells sized each = record {
  chosen = chosen;
  answers = record { valuation = value.valuation; settles = value.settles; answers = sym value.are };
  sized = sized;
  each = λ place inside. unless_free place (each place (subst (λ (n : ℕ). place < n) (sym sized) inside));
}
  where
    unless_free : (place : ℕ) → ((version ≡ 2) × (bit free place ≡ true)) ⊎ (bit ys place ≡ bit chosen place) → IsLooseOutput F version x place ⊎ (bit ys place ≡ bit chosen place)
    unless_free place (inl is) = inl (is.0, free_there F x free place tells is.1)
    unless_free place (inr same) = inr same

-- it allows the outputs that its bench shows
pub network_allows : (M : Logic) (C : Circuit) (reference : Reference) (watch : Watch) (version slot : ℕ) (point : Point) (ys read : List Bool) → M ≡ Network C → reference ≡ OfNetwork watch
    → (ShowsAt C (bit (input_of C.inputs point)) (λ _. false) watch.bench slot → HasOutputs C (input_of C.inputs point) read) → ys ≡ read → ShowsSource M reference slot point
    → AllowsOutputs M version point.state (bits_of (inputs_of M) point.input) ys
network_allows M C reference watch version slot point ys read is there outputs same =
    subst (λ (L : Logic). ShowsSource L reference slot point → AllowsOutputs L version point.state (bits_of (inputs_of L) point.input) ys) (sym is)
    (subst (λ (r : Reference). ShowsSource (Network C) r slot point → AllowsOutputs (Network C) version point.state (bits_of C.inputs point.input) ys) (sym there)
    (λ shows. let has = outputs shows.1 in record { valuation = has.valuation; settles = has.settles; answers = sym has.are ∙ sym same }))

-- and so it is of the two benches of a loose source
pub loose_allows_at : (M : Logic) (V F : Circuit) (reference : Reference) (watches : LooseWatch) (version slot : ℕ) (point : Point) (ys : List Bool) → M ≡ Loose V F → reference ≡ OfLoose watches
    → (ShowsInput V watches.value slot point → ShowsInput F watches.free slot point → LooseAllows V F version (input_of V.inputs point) ys) → ShowsSource M reference slot point
    → AllowsOutputs M version point.state (bits_of (inputs_of M) point.input) ys
loose_allows_at M V F reference watches version slot point ys is there allows =
    subst (λ (L : Logic). ShowsSource L reference slot point → AllowsOutputs L version point.state (bits_of (inputs_of L) point.input) ys) (sym is)
    (subst (λ (r : Reference). ShowsSource (Loose V F) r slot point → AllowsOutputs (Loose V F) version point.state (bits_of V.inputs point.input) ys) (sym there)
    (λ shows. allows shows.0 shows.1))

-- a machine goes to the state that it chooses, and allows what it allows, at the point of a place
module _ (L : Logic) (M : StateTable) (place : ℕ) (is : L ≡ States M) where
  same_bits : bits_of M.inputs (place % 2 ^ M.inputs) ≡ bits_of M.inputs place
  same_bits = bits_of-mod M.inputs place

  pub machine_arrives : (P : CodePlan) (next : List Bool) → ArrivesAt (States M) P (place / 2 ^ M.inputs) (bits_of M.inputs place) next
      → (let point = point_at (inputs_of L) place in ArrivesAt L P point.state (bits_of (inputs_of L) point.input) next)
  machine_arrives P next arrives =
      subst (λ (K : Logic). ArrivesAt K P (place / 2 ^ inputs_of K) (bits_of (inputs_of K) (place % 2 ^ inputs_of K)) next) (sym is)
      (subst (λ (x : List Bool). ArrivesAt (States M) P (place / 2 ^ M.inputs) x next) (sym same_bits) arrives)

  pub machine_allows_at : (version : ℕ) (ys : List Bool) → AllowsOutputs (States M) version (place / 2 ^ M.inputs) (bits_of M.inputs place) ys
      → (let point = point_at (inputs_of L) place in AllowsOutputs L version point.state (bits_of (inputs_of L) point.input) ys)
  machine_allows_at version ys allowed =
      subst (λ (K : Logic). AllowsOutputs K version (place / 2 ^ inputs_of K) (bits_of (inputs_of K) (place % 2 ^ inputs_of K)) ys) (sym is)
      (subst (λ (x : List Bool). AllowsOutputs (States M) version (place / 2 ^ M.inputs) x ys) (sym same_bits) allowed)

module _ (M : Logic) (N : Circuit) (P : CodePlan) (fit : IsMatch M N P) (place : ℕ) where
  abbrev here : Point
  here = point_at N.inputs place

  same_point : point_at (inputs_of M) place ≡ here
  same_point = ap (λ (n : ℕ). point_at n place) (sym fit.inputs)

  -- what is shown of the source is shown at the point of the netlist
  pub source_there : (reference : Reference) (slot : ℕ) → ShowsSource M reference slot here → ShowsSource M reference slot (point_at (inputs_of M) place)
  source_there reference slot shows = subst (λ (point : Point). ShowsSource M reference slot point) (sym same_point) shows

  pub next_answered : (w next : List Bool) → HasWord N P here.state (input_of N.inputs here) w → next ≡ next_of P w
      → (let point = point_at (inputs_of M) place in ArrivesAt M P point.state (bits_of (inputs_of M) point.input) next) → IsRight NextState M N P here.state (input_of N.inputs here)
  next_answered w next has is arrives =
      next_holds M N P here w fit has next is (subst (λ (point : Point). ArrivesAt M P point.state (bits_of (inputs_of M) point.input) next) same_point arrives)

  pub outputs_answered : (w outputs : List Bool) → HasWord N P here.state (input_of N.inputs here) w → outputs ≡ outputs_of P w → IsCodeword P w
      → (let point = point_at (inputs_of M) place in AllowsOutputs M P.version point.state (bits_of (inputs_of M) point.input) outputs) → IsRight WordAndOutputs M N P here.state (input_of N.inputs here)
  outputs_answered w outputs has is codeword allowed =
      all_allowed M N P here w fit has codeword
      (subst (λ (ys : List Bool). AllowsOutputs M P.version here.state (bits_of (inputs_of M) here.input) ys) is
      (subst (λ (point : Point). AllowsOutputs M P.version point.state (bits_of (inputs_of M) point.input) outputs) same_point allowed))
