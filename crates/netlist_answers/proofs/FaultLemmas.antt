-- The lines of the listed faults, one after the other, and the nets that the listed faults name.
use Rattle.std.proofs.Common.{◌≡◌, ℕ, ◌+◌, ◌<◌, ◌≤◌, zero, suc, true, false, List, [], ◌∷◌, length, map, get_or, replicate, All, Some, ◌∙◌, ap, subst, arith}
use Rattle.std.specs.List.{slice_get}
use Rattle.std.proofs.lemmas.List.{length-append, length-map}
use Rattle.std.proofs.lemmas.List.Elements.{All-nil, All-cons, All-append}
use Rattle.std.proofs.lemmas.Option.{slice_get_within, get_or_from_slice_get}
use Rattle.std.proofs.Math.ListN.{length-replicate}
use Rattle.fault_secure.specs.Circuit.{Circuit, nets}
use Rattle.fault_secure.specs.Listed.{pin_faults, faults_at, faults_from, pin_counts, listed_faults}
use Rattle.fault_secure.specs.StuckAt.{StuckAt, Stem, Pin, fault_cell}
use Rattle.tsc_net.specs.NetlistOf.{NetlistOf}
use Rattle.netlist_answers.specs.Answers.{IsFaultList}
use Rattle.netlist_answers.specs.FaultList.{fault_list}
use Rattle.text_sections.specs.Denoted.{netlist_in}

-- an element of a list of which all are so
pub all-found : (bound : ℕ) (faults : List StuckAt) (place : ℕ) (fault : StuckAt)
    → All (λ f. fault_cell f < bound) faults → slice_get faults place ≡ Some fault → fault_cell fault < bound
all-found bound faults place fault known found =
    let P : StuckAt → Type 0 = λ f. fault_cell f < bound in
    let here : get_or faults place fault ≡ fault = get_or_from_slice_get faults place fault fault found in
    subst P here (known place fault (slice_get_within faults place fault found))

-- the faults of pins of the driver of a net name that net
pins-named : (bound net pin pins : ℕ) → net < bound → All (λ f. fault_cell f < bound) (pin_faults net pin pins)
pins-named bound net pin zero lt = All-nil (λ f. fault_cell f < bound)
pins-named bound net pin (suc pins) lt =
    let P : StuckAt → Type 0 = λ f. fault_cell f < bound in
    All-cons P (Pin net pin false) (Pin net pin true ∷ pin_faults net (pin + 1) pins) lt
    (All-cons P (Pin net pin true) (pin_faults net (pin + 1) pins) lt (pins-named bound net (pin + 1) pins lt))

at-named : (bound net pins : ℕ) → net < bound → All (λ f. fault_cell f < bound) (faults_at net pins)
at-named bound net pins lt =
    let P : StuckAt → Type 0 = λ f. fault_cell f < bound in
    All-cons P (Stem net false) (Stem net true ∷ pin_faults net 0 pins) lt
    (All-cons P (Stem net true) (pin_faults net 0 pins) lt (pins-named bound net 0 pins lt))

from-named : (bound net : ℕ) (counts : List ℕ) → net + length counts ≤ bound → All (λ f. fault_cell f < bound) (faults_from net counts)
from-named bound net [] le = All-nil (λ f. fault_cell f < bound)
from-named bound net (pins ∷ counts) le =
    let P : StuckAt → Type 0 = λ f. fault_cell f < bound in
    let here : net < bound = omega arith in
    let later : net + 1 + length counts ≤ bound = omega arith in
    All-append P (faults_at net pins) (faults_from (net + 1) counts) (at-named bound net pins here) (from-named bound (net + 1) counts later)

-- each listed fault names a net
pub listed-named : (C : Circuit) → All (λ f. fault_cell f < nets C) (listed_faults C)
listed-named C =
    let sized : C.inputs + length (pin_counts C) ≤ nets C =
    omega (
      arith,
      length-append (replicate (length C.latches) 1) (map (λ n. length n.reads) C.nodes),
      length-replicate {A = ℕ} (length C.latches) 1,
      length-map C.nodes (λ n. length n.reads),
    )
    in
    from-named (nets C) C.inputs (pin_counts C) sized

-- the fault list of the netlist that was read is that of the text
pub is-fault-list : (text answer : List ℕ) (net : NetlistOf) → net ≡ netlist_in text → answer ≡ fault_list net → IsFaultList text answer
is-fault-list text answer net is listed = listed ∙ ap fault_list is
