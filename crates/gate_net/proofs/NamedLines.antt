-- Lines that have names: one name more, and what the gate of a marked line reads.
use Rattle.std.proofs.Common.{◌≡◌, ℕ, ◌+◌, ◌<◌, inl, inr, Bool, List, [], ◌∷◌, ◌++◌, map, length, get_or, slice_index_or, Option, None, Some, IsSome, All, Contains, IsTrue, refl, sym, ◌∙◌, ap, subst, arith}
use Rattle.std.proofs.lemmas.Bool.{cases_lt, false≢true}
use Rattle.std.proofs.lemmas.List.{get_or_append_left, get_or_push, get_or_past, get_or-map, length-map}
use Rattle.std.proofs.lemmas.List.Elements.{Contains-get_or}
use Rattle.fault_secure.specs.Circuit.{bit}
use Rattle.tsc_net.specs.declared.ids.Name.{Name}
use Rattle.gate_net.specs.declared.line.Line.{Line}
use Rattle.gate_net.specs.declared.root.Root.{Root}
use Rattle.gate_net.specs.declared.gate.Gate.{Gate}
use Rattle.gate_net.specs.Gates.{GateNetwork, IsHashed, IsLine, AreLines, gate_at}
use Rattle.gate_net.specs.NodesOfLines.{operands}
use Rattle.gate_net.specs.Writing.{MarkedNamed}
use Rattle.gate_net.specs.Needed.{IsClosedFrom, MarksNeeded}
use Rattle.gate_net.specs.Written.{HasName, IsNamed}
use Rattle.gate_net.proofs.Written.{has_push}
use Rattle.gate_net.proofs.Lines.{none_some}
use Rattle.gate_net.proofs.NeededLines.{operand-below}

pub named_within : (names : List (Option Name)) (line : Line) → IsNamed names line → line.number < length names
named_within names line h = elim (cases_lt line.number (length names)) [
  | inl lt ↦ lt
  | inr le ↦ absurd (none_some h.0 (sym (get_or_past names line.number None le) ∙ h.1))
]

some_name : (made : Option Name) → IsSome made → (name : Name) × (made ≡ Some name)
some_name None h = absurd (false≢true h)
some_name (Some name) h = (name, refl)

-- each line before the place of which C holds has a name
abbrev pub NamedTo : (ℕ → Type 0) → ℕ → List (Option Name) → Type 0
NamedTo C place names = (line : Line) → line.number < place → C line.number → IsNamed names line

pub named_none : (C : ℕ → Type 0) (names : List (Option Name)) → NamedTo C 0 names
named_none C names line lt c = absurd (omega arith)

pub named_more : (C : ℕ → Type 0) (place : ℕ) (names names' : List (Option Name)) (made : Option Name) → length names ≡ place → names' ≡ names ++ made ∷ [] → (C place → IsSome made) → NamedTo C place names → NamedTo C (place + 1) names'
named_more C place names names' made sized e some before line lt c = subst (λ (list : List (Option Name)). IsNamed list line) (sym e) (elim (cases_lt line.number place) [
  | inl low ↦ (let h = before line low c in (h.0, get_or_append_left names (made ∷ []) None line.number (named_within names line h) ∙ h.1))
  | inr le ↦ (
      let at : place ≡ line.number = omega arith in
      let name = some_name made (some (subst C (sym at) c)) in
      (name.0, get_or_push names made None line.number (sized ∙ at) ∙ name.1))
])

-- C holds of each line that has a name
abbrev pub OnlyNamed : (ℕ → Type 0) → List (Option Name) → Type 0
OnlyNamed C names = (line : Line) (name : Name) → HasName names line name → C line.number

-- where no line has a name, C holds of each that has one
pub only_none : (C : ℕ → Type 0) (names : List (Option Name)) → names ≡ [] → OnlyNamed C names
only_none C names e line name has = absurd (none_some name (ap (λ (list : List (Option Name)). slice_index_or list line.number None) (sym e) ∙ has))

-- one line more, which has a name only where C holds of it
pub only_more : (C : ℕ → Type 0) (place : ℕ) (names names' : List (Option Name)) (made : Option Name) → length names ≡ place → names' ≡ names ++ made ∷ [] → (IsSome made → C place) → OnlyNamed C names → OnlyNamed C names'
only_more C place names names' made sized e some before line name has = elim (has_push names made line name (subst (λ (list : List (Option Name)). HasName list line name) e has)) [
  | inl old ↦ before line name old
  | inr new ↦ subst C (sym (new.0 ∙ sized)) (some (subst IsSome (sym new.1) refl))
]

-- what the gate of a marked line reads has names
pub operands_named : (G : GateNetwork) (marks : List Bool) (place : ℕ) (g : Gate) (names seen : List (Option Name)) → IsHashed G → place < length G.gates → IsClosedFrom G 0 marks → g ≡ gate_at G.gates place → seen ≡ names
    → MarkedNamed marks place names → IsTrue (bit marks place) → All (IsNamed seen) (operands g)
operands_named G marks place g names seen sound lt closed is same named on k d below =
    let line : Line = get_or (operands g) k d in
    let has : Contains (operands g) line = Contains-get_or (operands g) k d below in
    let has' : Contains (operands (gate_at G.gates place)) line = subst (λ (x : Gate). Contains (operands x) line) is has in
    let mark : IsTrue (bit marks line.number) = closed place line (omega arith) lt on has' in
    let low : line.number < place = operand-below G place (gate_at G.gates place) line (sound.ordered place lt) has' in
    subst (λ (list : List (Option Name)). IsNamed list line) (sym same) (named line low mark)

-- the lines of roots are lines of the gates
pub root_lines_within : (G : GateNetwork) (roots : List Root) (lines : List Line) → lines ≡ map (λ root. root.line) roots → All (λ root. IsLine G root.line) roots → AreLines G lines
root_lines_within G roots lines are within = subst (AreLines G) (sym are) all
  where
    of : Root → Line
    of root = root.line

    all : AreLines G (map (λ root. root.line) roots)
    all k d lt =
        let r : Root = record { name = record { number = 0 }; line = d } in
        let low : k < length roots = omega (arith, lt, length-map roots of) in
        subst (IsLine G) (sym (get_or-map of roots k r d low)) (within k r low)

-- the lines of wanted roots have names
pub roots_named : (G : GateNetwork) (roots : List Root) (lines : List Line) (marks : List Bool) (names : List (Option Name)) → lines ≡ map (λ root. root.line) roots → MarksNeeded G lines 0 marks
    → MarkedNamed marks (length G.gates) names → All (λ root. root.line.number < length G.gates) roots → All (λ root. IsNamed names root.line) roots
roots_named G roots lines marks names are needed named within k d lt =
    let root : Root = get_or roots k d in
    let of : Root → Line = λ (r : Root). r.line in
    let has : Contains lines root.line
    = subst (Contains lines) (ap (λ (list : List Line). get_or list k d.line) are ∙ get_or-map of roots k d d.line lt) (Contains-get_or lines k d.line (omega (arith, ap length are, length-map roots of, lt))) in
    named root.line (within k d lt) (needed.rooted root.line has)
