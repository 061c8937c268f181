-- Calls that build functions, one after another.
use Rattle.std.proofs.Common.{ℕ, inl, inr, List, [], ◌∷◌, ◌++◌, refl, sym, subst}
use Rattle.std.proofs.lemmas.List.Elements.{All-from_recursion}
use Rattle.diagrams.specs.Decisions.{IsDiagram}
use Rattle.diagrams.specs.Cofactors.{Function, IsCofactorOfOne}
use Rattle.diagrams.specs.Building.{DiagramState, HaveRows}
use Rattle.diagrams.proofs.CofactorLemmas.{IsCofactor-same}
use Rattle.diagrams.proofs.Growing.{AreMade-trans}
use Rattle.cover_diagrams.specs.Covering.{HasRow, Grows}
use Rattle.cover_diagrams.proofs.Steps.{Grows-trans}
use Rattle.cover_diagrams.proofs.BuiltRows.{HasRow-grows}
use Rattle.circuit_diagrams.specs.Steps.{AreKept, AreBuilt, AreAdded, AreShortOf}
use Rattle.circuit_diagrams.proofs.Lists.{each-append, each-front, each-back, each-weaker}

pub kept_on : (old new : DiagramState) (kept fs : List Function) → Grows old new → AreKept old.inputs kept fs → AreKept new.inputs kept fs
kept_on old new kept fs grown all = subst (λ (n : ℕ). AreKept n kept fs) (sym grown.inputs) all

-- a cofactor of one of some functions is so after the diagrams grew
pub one_kept_on : (old new : DiagramState) (kept : List Function) (f : Function) → Grows old new → IsCofactorOfOne old.inputs kept f → IsCofactorOfOne new.inputs kept f
one_kept_on old new kept f grown one = subst (λ (n : ℕ). IsCofactorOfOne n kept f) (sym grown.inputs) one

-- rows that were added for some functions were added for these and any further ones
pub added_first : (a b : DiagramState) (fs gs : List Function) → AreAdded a b fs → AreAdded a b (fs ++ gs)
added_first a b fs gs added = record { grown = added.grown; made = λ kept all. added.made kept (each-front (IsCofactorOfOne a.inputs kept) fs gs all) }

-- rows that were added for some functions, and then for others, were added for all of them
pub added_then : (a b c : DiagramState) (fs gs : List Function) → AreAdded a b fs → AreAdded b c gs → AreAdded a c (fs ++ gs)
added_then a b c fs gs first second = record {
  grown = Grows-trans a b c first.grown second.grown;
  made = λ kept all.
      AreMade-trans a b c kept (first.made kept (each-front (IsCofactorOfOne a.inputs kept) fs gs all))
      (second.made kept (kept_on a b kept gs first.grown (each-back (IsCofactorOfOne a.inputs kept) fs gs all)));
}

-- where the room is short for some functions, it is short for these and any further ones
pub short_first : (a b : DiagramState) (fs gs : List Function) → AreShortOf a b fs → AreShortOf a b (fs ++ gs)
short_first a b fs gs short = λ kept all. short kept (each-front (IsCofactorOfOne a.inputs kept) fs gs all)

-- where the room is short for some functions after the diagrams grew, it is short for these and any earlier ones
pub short_then : (a b c : DiagramState) (fs gs : List Function) → Grows a b → AreShortOf b c gs → AreShortOf a c (fs ++ gs)
short_then a b c fs gs grown short = λ kept all. short kept (kept_on a b kept gs grown (each-back (IsCofactorOfOne a.inputs kept) fs gs all))

pub built_on : (old new : DiagramState) (fs : List Function) → IsDiagram old.inputs old.rows → Grows old new → AreBuilt old fs → AreBuilt new fs
built_on old new fs D grown all = each-weaker (HasRow old) (HasRow new) (λ f has. HasRow-grows old new f D grown has) fs all

-- functions that had rows before the diagrams grew, and others that have rows after it, all have rows
pub built_then : (old new : DiagramState) (fs gs : List Function) → IsDiagram old.inputs old.rows → Grows old new → AreBuilt old fs → AreBuilt new gs → AreBuilt new (fs ++ gs)
built_then old new fs gs D grown first second = each-append (HasRow new) fs gs (built_on old new fs D grown first) second

-- each function is kept where all are
kept_among : (inputs : ℕ) (kept fs : List Function) → ((g : Function) → IsCofactorOfOne inputs fs g → IsCofactorOfOne inputs kept g) → AreKept inputs kept fs
kept_among inputs kept [] among = tt
kept_among inputs kept (f ∷ fs) among = (among f (inl (IsCofactor-same inputs f f (record { at = λ x sized. refl }))), kept_among inputs kept fs (λ g one. among g (inr one)))

-- each of some functions is a cofactor of one of them
pub all_kept : (inputs : ℕ) (fs : List Function) → AreKept inputs fs fs
all_kept inputs fs = kept_among inputs fs fs (λ g one. one)

-- where each of some functions has a row, there is one for the function at each place
pub have_rows : (state : DiagramState) (fs : List Function) → AreBuilt state fs → HaveRows state fs
have_rows state fs all = record { at = All-from_recursion (HasRow state) fs all }
