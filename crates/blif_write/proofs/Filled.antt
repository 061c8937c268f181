-- Each line of a layout begins with a byte.
use Rattle.std.proofs.Common.{ℕ, Bool, true, false, List, [], ◌∷◌, ◌++◌, map}
use Rattle.std.specs.List.{flat_map}
use Rattle.tsc_cover.specs.Cover.{Literal}
use Rattle.fault_secure.specs.declared.code.Code.{Code}
use Rattle.fault_secure.specs.declared.code.Code.TheVariants.{Parity, Berger, MOutOfN}
use Rattle.tsc_net.specs.Named.{Named, NamedNode}
use Rattle.tsc_text.specs.Written.{WrittenLine}
use Rattle.blif_write.specs.NamedPlan.{NamedPlan, named_plan}
use Rattle.tsc_net.specs.NetlistOf.{NetlistOf, names_of}
use Rattle.fault_secure.specs.CodePlan.{CodePlan}
use Rattle.blif_write.specs.Layout.{group_line, state_line, check_lines, code_lines, plan_lines, clocked_latch_line, row_line, node_lines, head_lines, end_line, clocked_layout, layout}
use Rattle.blif_write.specs.RegisterText.{watch_line, watch_lines, register_plan_lines}

-- the words begin with a byte, or stand behind the mark of a plan line
abbrev pub Filled : Bool → List (List ℕ) → Type 0
Filled is_plan [] = ⊥
Filled true (w ∷ ws) = Unit {0}
Filled false ([] ∷ ws) = ⊥
Filled false ((b ∷ w) ∷ ws) = Unit {0}

abbrev pub IsFilled : WrittenLine → Type 0
IsFilled line = Filled line.is_plan line.words

abbrev pub AllFilled : List WrittenLine → Type 0
AllFilled [] = Unit {0}
AllFilled (line ∷ lines) = IsFilled line × AllFilled lines

AllFilled-append : (xs ys : List WrittenLine) → AllFilled xs → AllFilled ys → AllFilled (xs ++ ys)
AllFilled-append [] ys h k = k
AllFilled-append (x ∷ xs) ys h k = (h.0, AllFilled-append xs ys h.1 k)

AllFilled-map : {A : Type 0} (f : A → WrittenLine) (xs : List A) → ((x : A) → IsFilled (f x)) → AllFilled (map f xs)
AllFilled-map f [] each = tt
AllFilled-map f (x ∷ xs) each = (each x, AllFilled-map f xs each)

AllFilled-flat_map : {A : Type 0} (f : A → List WrittenLine) (xs : List A) → ((x : A) → AllFilled (f x)) → AllFilled (flat_map f xs)
AllFilled-flat_map f [] each = tt
AllFilled-flat_map f (x ∷ xs) each = AllFilled-append (f x) (flat_map f xs) (each x) (AllFilled-flat_map f xs each)

row-filled : (on : Bool) (row : List Literal) → IsFilled (row_line on row)
row-filled on [] = tt
row-filled on (l ∷ row) = tt

node-filled : (n : NamedNode) → AllFilled (node_lines n)
node-filled n = (tt, AllFilled-map (row_line n.cover.on) n.cover.rows (row-filled n.cover.on))

checks-filled : (code : Code) (P : NamedPlan) → AllFilled (check_lines code P)
checks-filled Parity P = AllFilled-map group_line P.groups (λ names. tt)
checks-filled Berger P = (tt, tt)
checks-filled MOutOfN P = (tt, tt)

plan-filled : (P : NamedPlan) → AllFilled (plan_lines P)
plan-filled P = (tt, AllFilled-append (check_lines P.code P) (map state_line P.states) (checks-filled P.code P) (AllFilled-map state_line P.states (λ bits. tt)))

pub register_plan-filled : (net : NetlistOf) (P : CodePlan) (watches : List (List ℕ)) → AllFilled (register_plan_lines net P watches)
register_plan-filled net P watches =
    let N : NamedPlan = named_plan net P in
    AllFilled-append (code_lines N) (watch_lines net watches) (tt, checks-filled N.code N)
    (AllFilled-map (λ watched. watch_line (names_of net.names watched)) watches (λ watched. tt))

pub clocked-filled : (clock : List (List ℕ)) (N : Named) (plan : List WrittenLine) → AllFilled plan → AllFilled (clocked_layout clock N plan)
clocked-filled clock N plan h =
    let latches : List WrittenLine = map (clocked_latch_line clock) N.latches in
    AllFilled-append (((head_lines N ++ plan) ++ latches) ++ flat_map node_lines N.nodes) (end_line ∷ [])
    (AllFilled-append ((head_lines N ++ plan) ++ latches) (flat_map node_lines N.nodes)
    (AllFilled-append (head_lines N ++ plan) latches
    (AllFilled-append (head_lines N) plan (tt, (tt, (tt, tt))) h)
    (AllFilled-map (clocked_latch_line clock) N.latches (λ l. tt)))
    (AllFilled-flat_map node_lines N.nodes node-filled))
    (tt, tt)

pub layout-filled : (N : Named) (P : NamedPlan) → AllFilled (layout N P)
layout-filled N P = clocked-filled [] N (plan_lines P) (plan-filled P)
