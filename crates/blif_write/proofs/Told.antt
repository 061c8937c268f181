-- The text of a netlist with plan lines, or with none, tells the netlist.
use Rattle.std.proofs.Common.{◌≡◌, ℕ, true, ◌&&◌, List, [], ◌∷◌, ◌++◌, map, refl, sym, ap, ap₂, ◌∙◌, All}
use Rattle.std.specs.List.{list_all, AllByRecursion as Each}
use Rattle.std.proofs.lemmas.List.Elements.{recursion_from_All, All-from_recursion}
use Rattle.tsc_text.specs.Written.{WrittenLine, can_be_written}
use Rattle.tsc_text.proofs.AllowedWords.{IsAllowed}
use Rattle.tsc_text.proofs.Written.{Both, both, lines_of-text_of}
use Rattle.fault_secure.specs.declared.code.Code.{Code}
use Rattle.fault_secure.specs.declared.code.Code.TheVariants.{Parity, Berger, MOutOfN}
use Rattle.tsc_net.specs.NetlistOf.{NetlistOf, IsBuilt, named_of, netlist_of}
use Rattle.blif_read.specs.NamedText.{named_text}
use Rattle.blif_write.specs.NamedPlan.{NamedPlan}
use Rattle.blif_write.specs.Layout.{group_line, state_line, check_lines, plan_lines, clocked_layout, clocked_text, text_with}
use Rattle.blif_write.specs.Told.{IsTellable, IsPlanLine, TellsWith, Tells, clocked_before_end}
use Rattle.blif_write.proofs.Allowed.{LineFits, clocked-allowed, plan-fits}
use Rattle.blif_write.proofs.CanBeWritten.{Can, clocked-can, plan-can}
use Rattle.blif_write.proofs.Good.{Names, GoodPlan, net-good}
use Rattle.blif_write.proofs.NetBack.{netlist-back}
use Rattle.blif_write.proofs.ReadBack.{named-read}
use Rattle.blif_write.proofs.SectionEnd.{section-ends, section-read}

abbrev pub Marked : List WrittenLine → Type 0
Marked lines = Each (λ w. w.is_plan ≡ true) lines

-- what plan lines are, one by one and all together
pub lines-marked : (lines : List WrittenLine) → Each IsPlanLine lines → Marked lines
lines-marked [] h = tt
lines-marked (w ∷ lines) h = (h.0.plan, lines-marked lines h.1)

lines-can : (lines : List WrittenLine) → Each IsPlanLine lines → Can lines
lines-can [] h = refl
lines-can (w ∷ lines) h = ap₂ (λ a b. a && b) h.0.words (lines-can lines h.1)

lines-fit : (lines : List WrittenLine) → Each IsPlanLine lines → Each LineFits lines
lines-fit [] h = tt
lines-fit (w ∷ lines) h = (recursion_from_All IsAllowed w.words h.0.allowed, lines-fit lines h.1)

pub plan-lines : (lines : List WrittenLine) → Marked lines → Can lines → Each LineFits lines → Each IsPlanLine lines
plan-lines [] marked can fit = tt
plan-lines (w ∷ lines) marked can fit =
    let parts : Both (can_be_written w) (list_all can_be_written lines) = both _ _ can in
    (record { plan = marked.0; words = parts.left; allowed = All-from_recursion IsAllowed w.words fit.0 }, plan-lines lines marked.1 parts.right fit.1)

pub Marked-map : {A : Type 0} (f : A → WrittenLine) (xs : List A) → ((x : A) → (f x).is_plan ≡ true) → Marked (map f xs)
Marked-map f [] each = tt
Marked-map f (x ∷ xs) each = (each x, Marked-map f xs each)

pub Marked-append : (xs ys : List WrittenLine) → Marked xs → Marked ys → Marked (xs ++ ys)
Marked-append [] ys h k = k
Marked-append (x ∷ xs) ys h k = (h.0, Marked-append xs ys h.1 k)

pub checks-marked : (code : Code) (P : NamedPlan) → Marked (check_lines code P)
checks-marked Parity P = Marked-map group_line P.groups (λ _. refl)
checks-marked Berger P = (refl, tt)
checks-marked MOutOfN P = (refl, tt)

-- the lines of a plan are plan lines
pub plan-told : (P : NamedPlan) → GoodPlan P → All IsPlanLine (plan_lines P)
plan-told P h =
    All-from_recursion IsPlanLine (plan_lines P)
    (plan-lines (plan_lines P) (refl, Marked-append (check_lines P.code P) (map state_line P.states) (checks-marked P.code P) (Marked-map state_line P.states (λ _. refl)))
    (plan-can P h) (plan-fits P h))

-- a netlist of word names is read again as itself, with the words of any clock
pub clocked-tells : (clock : List (List ℕ)) (net : NetlistOf) (plan : List WrittenLine) → Names clock → IsBuilt net → IsTellable net → All IsPlanLine plan → TellsWith clock (clocked_text clock net plan) net plan
clocked-tells clock net plan words checked told all =
    let N = named_of net in
    let each : Each IsPlanLine plan = recursion_from_All IsPlanLine plan all in
    let good = net-good net checked told in
    let named : named_text (clocked_before_end clock net plan) ≡ N = named-read clock N plan (lines-marked plan each) good in
    record {
      allowed = clocked-allowed clock N plan words good (lines-fit plan each);
      lines = lines_of-text_of (clocked_layout clock N plan) (clocked-can clock N plan words good (lines-can plan each));
      section = section-read clock N plan (lines-marked plan each);
      ends = section-ends clock N plan (lines-marked plan each);
      denoted = record { named = sym named };
      same = ap netlist_of named ∙ netlist-back net checked;
    }

-- and without a clock
pub tells : (net : NetlistOf) (plan : List WrittenLine) → IsBuilt net → IsTellable net → All IsPlanLine plan → Tells (text_with net plan) net plan
tells net plan checked told all = clocked-tells [] net plan tt checked told all
