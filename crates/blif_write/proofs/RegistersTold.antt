-- The text of a netlist with registers tells the netlist and its clock, and its plan lines are plan lines of a text.
use Rattle.std.proofs.Common.{◌≡◌, ℕ, ◌<◌, ◌≤◌, true, List, [], ◌∷◌, ◌++◌, codes, length, map, refl, sym, subst, All, arith, Option, None, Some, ◌⊎◌}
use Rattle.std.specs.List.{AllByRecursion as Each}
use Rattle.std.proofs.lemmas.List.Elements.{All-nil, All-cons, All-head, All-tail, All-from_recursion, recursion_from_All}
use Rattle.tsc_bits.proofs.Lists.{all_left, all_right}
use Rattle.tsc_text.specs.Written.{WrittenLine, is_word}
use Rattle.tsc_text.proofs.AllowedWords.{IsAllowed}
use Rattle.fault_secure.specs.Circuit.{Circuit, LatchOf, nets}
use Rattle.fault_secure.specs.CodePlan.{CodePlan, IsPlanOf, IsWellMade, HasShape, concat_places}
use Rattle.fault_secure.specs.declared.code.Code.{Code}
use Rattle.fault_secure.specs.declared.code.Code.TheVariants.{Parity, Berger, MOutOfN}
use Rattle.tsc_net.specs.NetlistOf.{NetlistOf, IsBuilt, names_of, named_latches, named_of}
use Rattle.blif_read.specs.declared.clocks.Clock.{Clock}
use Rattle.blif_read.specs.declared.clocks.Edge.{Edge}
use Rattle.blif_read.specs.declared.clocks.Edge.TheVariants.{Rising, Falling}
use Rattle.blif_write.specs.Layout.{plan_line_of, code_line, group_line, check_lines, clocked_text}
use Rattle.blif_write.specs.NamedPlan.{named_group, named_groups, named_plan}
use Rattle.blif_write.specs.NetLines.{AreNets}
use Rattle.blif_write.specs.RegisterText.{type_word, clock_words, lists_of, registers_as_inputs, watch_lines, register_plan_lines}
use Rattle.blif_write.specs.Told.{IsWordName, IsTellable, IsToldClock, IsPlanLine, TellsRegisters}
use Rattle.blif_write.proofs.Allowed.{names-fit, code_line-fits}
use Rattle.blif_write.proofs.CanBeWritten.{code_line-can, named-can}
use Rattle.blif_write.proofs.ClockBack.{clock-back}
use Rattle.blif_write.proofs.Good.{Names, names-with, outputs-good}
use Rattle.blif_write.proofs.RegisterNets.{nets-known}
use Rattle.blif_write.proofs.Told.{clocked-tells, lines-marked}

-- the words of a clock are names
type-name : (edge : Edge) → IsWordName (type_word edge)
type-name Rising = record { word = refl; allowed = refl }
type-name Falling = record { word = refl; allowed = refl }

clock-names : (clock : Option Clock) → IsToldClock clock → Names (clock_words clock)
clock-names None h = tt
clock-names (Some clock) h = (type-name clock.edge, (h, tt))

some-named : (names : List (List ℕ)) (at : ℕ) (latches : List LatchOf) → 0 < length latches → 0 < length (named_latches names at latches)
some-named names at [] h = absurd (omega (arith, h))
some-named names at (l ∷ latches) h = omega arith

-- a netlist of word names is read again as itself, with its clock
pub registers-told : (clock : Option Clock) (net : NetlistOf) (plan : List WrittenLine) → IsBuilt net → IsTellable net → IsToldClock clock → All IsPlanLine plan
    → TellsRegisters clock (clocked_text (clock_words clock) net plan) net plan
registers-told clock net plan checked told word all = record {
  told = clocked-tells (clock_words clock) net plan (clock-names clock word) checked told all;
  clocked = λ some. clock-back clock (named_of net) plan (lines-marked plan (recursion_from_All IsPlanLine plan all)) (named_of net).latches refl
      (some-named net.names net.circuit.inputs net.circuit.latches some);
}

-- a plan line of a word and of names
named-line : (w : List ℕ) (names : List (List ℕ)) → is_word true w ≡ true → IsAllowed w → Names names → IsPlanLine (plan_line_of (w ∷ names))
named-line w names h k each = record { plan = refl; words = named-can w names h each; allowed = All-from_recursion IsAllowed (w ∷ names) (k, names-fit names each) }

each-append : (xs ys : List WrittenLine) → Each IsPlanLine xs → Each IsPlanLine ys → Each IsPlanLine (xs ++ ys)
each-append [] ys h k = k
each-append (x ∷ xs) ys h k = (h.0, each-append xs ys h.1 k)

module _ (net : NetlistOf) (checked : IsBuilt net) (told : IsTellable net) where
  names-told : (list : List ℕ) → AreNets net.circuit list → Names (names_of net.names list)
  names-told list known = names-with IsWordName net checked told.names list known

  groups-told : (groups : List (List ℕ)) (checks : List ℕ) → All (λ place. place < length net.circuit.outputs) (concat_places groups) → AreNets net.circuit checks
      → Each IsPlanLine (map group_line (named_groups net groups checks))
  groups-told [] checks places known = tt
  groups-told (group ∷ groups) [] places known = tt
  groups-told (group ∷ groups) (check ∷ checks) places known =
      let most : ℕ = length net.circuit.outputs in
      let Low : ℕ → Type 0 = λ place. place < most in
      let Net : ℕ → Type 0 = λ n. n < nets net.circuit in (
        named-line (codes "group") (named_group net group check) refl refl
            (outputs-good net told checked most (omega arith) group (all_left Low group (concat_places groups) places) check (All-head Net check checks known)),
        groups-told groups checks (all_right Low group (concat_places groups) places) (All-tail Net check checks known),
      )

  checks-told : (code : Code) (P : CodePlan) → All (λ place. place < length net.circuit.outputs) (concat_places P.groups) → AreNets net.circuit P.checks
      → Each IsPlanLine (check_lines code (named_plan net P))
  checks-told Parity P places known = groups-told P.groups P.checks places known
  checks-told Berger P places known = (named-line (codes "check") (names_of net.names P.checks) refl refl (names-told P.checks known), tt)
  checks-told MOutOfN P places known = (named-line (codes "check") (names_of net.names P.checks) refl refl (names-told P.checks known), tt)

  watches-told : (watches : List (List ℕ)) → All (AreNets net.circuit) watches → Each IsPlanLine (watch_lines net watches)
  watches-told [] known = tt
  watches-told (watched ∷ watches) known =
      let Are : List ℕ → Type 0 = AreNets net.circuit in (
        named-line (codes "watch") (names_of net.names watched) refl refl (names-told watched (All-head Are watched watches known)),
        watches-told watches (All-tail Are watched watches known),
      )

code-told : (version : ℕ) (code : Code) → (version ≡ 1) ⊎ (version ≡ 2) → IsPlanLine (code_line version code)
code-told version code h = record {
  plan = refl;
  words = code_line-can version code h;
  allowed = All-from_recursion IsAllowed (code_line version code).words (code_line-fits version code h);
}

-- the plan lines of a netlist with registers are plan lines
pub register_plan-told : (net : NetlistOf) (P : CodePlan) (watches : List (List ℕ)) → IsBuilt net → IsTellable net → (P.version ≡ 1) ⊎ (P.version ≡ 2)
    → All (λ place. place < length net.circuit.outputs) (concat_places P.groups) → AreNets net.circuit P.checks → All (AreNets net.circuit) watches
    → All IsPlanLine (register_plan_lines net P watches)
register_plan-told net P watches checked told version places known watched =
    All-from_recursion IsPlanLine (register_plan_lines net P watches) (
      code-told P.version P.code version,
      each-append (check_lines P.code (named_plan net P)) (watch_lines net watches)
          (checks-told net checked told P.code P places known) (watches-told net checked told watches watched),
    )

-- each place of a group of a well-made plan is one of an output
places-shown : (most : ℕ) (P : CodePlan) (code : Code) → HasShape code P → P.outputs ≤ most → All (λ place. place < most) (concat_places P.groups)
places-shown most P Parity shape few = λ i d h. (let at = shape.within i d h in omega (arith, at))
places-shown most P Berger shape few =
    let Within : List (List ℕ) → Type 0 = λ groups. All (λ place. place < most) (concat_places groups) in
    subst Within (sym shape.0) (All-nil (λ (place : ℕ). place < most))
places-shown most P MOutOfN shape few =
    let Within : List (List ℕ) → Type 0 = λ groups. All (λ place. place < most) (concat_places groups) in
    subst Within (sym shape.0) (All-nil (λ (place : ℕ). place < most))

one-list : (C : Circuit) (list : List ℕ) → AreNets C list → All (AreNets C) (lists_of list)
one-list C [] h = All-nil (AreNets C)
one-list C (net ∷ list) h = All-cons (AreNets C) (net ∷ list) [] h (All-nil (AreNets C))

-- the lines of a well-made plan of the netlist with its registers as inputs
pub made-told : (net : NetlistOf) (P : CodePlan) (watch : List ℕ) → IsBuilt net → IsTellable net → IsWellMade P → IsPlanOf (registers_as_inputs net.circuit) P → AreNets net.circuit watch
    → All IsPlanLine (register_plan_lines net P (lists_of watch))
made-told net P watch checked told made of watched =
    let count = of.outputs in
    let few : P.outputs ≤ length net.circuit.outputs = omega (arith, count) in
    register_plan-told net P (lists_of watch) checked told made.versioned (places-shown (length net.circuit.outputs) P P.code made.shape few)
    (nets-known net.circuit P.checks of.checks) (one-list net.circuit watch watched)
