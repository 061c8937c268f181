-- The kinds of the lines of a layout, and what lines of a kind don't say.
use Rattle.std.proofs.Common.{◌≡◌, ℕ, ◌+◌, Bool, true, false, ◌&&◌, if◌then◌else◌, List, [], ◌∷◌, ◌++◌, map, refl, ap, ap₂, ◌∙◌}
use Rattle.std.specs.List.{list_all, flat_map, AllByRecursion as Each}
use Rattle.std.proofs.lemmas.List.Folds.{list_all-append}
use Rattle.tsc_cover.specs.Cover.{Literal, Free, Wants}
use Rattle.tsc_text.specs.TextLine.{TextLine, the_word}
use Rattle.tsc_text.specs.Written.{WrittenLine, numbered}
use Rattle.tsc_text.proofs.Written.{Both, both}
use Rattle.tsc_net.specs.Named.{NamedNode}
use Rattle.blif_read.specs.LineKind.{kind_of, kind_of_word}
use Rattle.blif_read.specs.NamedText.{input_names, output_names, latches_at, nodes_at, model_at, model_or, inputs_of, outputs_of, latches_of, nodes_of}
use Rattle.blif_read.specs.declared.kinds.LineKind.{LineKind}
use Rattle.blif_read.specs.declared.kinds.LineKind.TheVariants.{PlanLine, Model, Inputs, Outputs, Names, Latch, Row}
use Rattle.blif_write.specs.Layout.{row_line, node_lines}

-- a written line with a number
abbrev pub at : ℕ → WrittenLine → TextLine
at n w = record { number = n; is_plan = w.is_plan; words = w.words }

-- the kind of a written line
abbrev pub kind_written : WrittenLine → LineKind
kind_written w = kind_of (at 0 w)

-- every line has a kind that passes the test
abbrev pub AreKinds : (LineKind → Bool) → List WrittenLine → Type 0
AreKinds test ws = list_all (λ w. test (kind_written w)) ws ≡ true

pub AreKinds-append : (test : LineKind → Bool) (xs ys : List WrittenLine) → AreKinds test xs → AreKinds test ys → AreKinds test (xs ++ ys)
AreKinds-append test xs ys h k = list_all-append (λ w. test (kind_written w)) xs ys ∙ ap₂ (λ a b. a && b) h k

pub AreKinds-map : {A : Type 0} (test : LineKind → Bool) (f : A → WrittenLine) (xs : List A) → ((x : A) → test (kind_written (f x)) ≡ true) → AreKinds test (map f xs)
AreKinds-map test f [] each = refl
AreKinds-map test f (x ∷ xs) each = ap₂ (λ a b. a && b) (each x) (AreKinds-map test f xs each)

-- lines that say nothing of the model, the inputs and the outputs; of the latches; of the nodes
abbrev pub is_body : LineKind → Bool
is_body Model = false
is_body Inputs = false
is_body Outputs = false
is_body _ = true

abbrev pub is_no_latch : LineKind → Bool
is_no_latch Latch = false
is_no_latch _ = true

abbrev pub is_no_node : LineKind → Bool
is_no_node Names = false
is_no_node _ = true

input_names-body : (k : LineKind) (line : TextLine) → is_body k ≡ true → input_names k line ≡ []
input_names-body Inputs line h = cc
input_names-body _ line h = refl

output_names-body : (k : LineKind) (line : TextLine) → is_body k ≡ true → output_names k line ≡ []
output_names-body Outputs line h = cc
output_names-body _ line h = refl

model_at-body : (model : List ℕ) (k : LineKind) (line : TextLine) → is_body k ≡ true → model_at model k line ≡ model
model_at-body model Model line h = cc
model_at-body model _ line h = refl

latches_at-none : (k : LineKind) (line : TextLine) → is_no_latch k ≡ true → latches_at k line ≡ []
latches_at-none Latch line h = cc
latches_at-none _ line h = refl

nodes_at-none : (k : LineKind) (line : TextLine) (behind : List TextLine) → is_no_node k ≡ true → nodes_at k line behind ≡ []
nodes_at-none Names line behind h = cc
nodes_at-none _ line behind h = refl

pub inputs_of-body : (n : ℕ) (ws : List WrittenLine) → AreKinds is_body ws → inputs_of (numbered n ws) ≡ []
inputs_of-body n [] h = refl
inputs_of-body n (w ∷ ws) h =
    let parts : Both (is_body (kind_written w)) (list_all (λ v. is_body (kind_written v)) ws) = both _ _ h in
    ap₂ (λ x y. x ++ y) (input_names-body (kind_written w) (at n w) parts.left) (inputs_of-body (n + 1) ws parts.right)

pub outputs_of-body : (n : ℕ) (ws : List WrittenLine) → AreKinds is_body ws → outputs_of (numbered n ws) ≡ []
outputs_of-body n [] h = refl
outputs_of-body n (w ∷ ws) h =
    let parts : Both (is_body (kind_written w)) (list_all (λ v. is_body (kind_written v)) ws) = both _ _ h in
    ap₂ (λ x y. x ++ y) (output_names-body (kind_written w) (at n w) parts.left) (outputs_of-body (n + 1) ws parts.right)

pub model_or-body : (model : List ℕ) (n : ℕ) (ws : List WrittenLine) → AreKinds is_body ws → model_or model (numbered n ws) ≡ model
model_or-body model n [] h = refl
model_or-body model n (w ∷ ws) h =
    let parts : Both (is_body (kind_written w)) (list_all (λ v. is_body (kind_written v)) ws) = both _ _ h in
    ap (λ m. model_or m (numbered (n + 1) ws)) (model_at-body model (kind_written w) (at n w) parts.left) ∙ model_or-body model (n + 1) ws parts.right

pub latches_of-none : (n : ℕ) (ws : List WrittenLine) (rest : List TextLine) → AreKinds is_no_latch ws → latches_of (numbered n ws ++ rest) ≡ latches_of rest
latches_of-none n [] rest h = refl
latches_of-none n (w ∷ ws) rest h =
    let parts : Both (is_no_latch (kind_written w)) (list_all (λ v. is_no_latch (kind_written v)) ws) = both _ _ h in
    ap₂ (λ x y. x ++ y) (latches_at-none (kind_written w) (at n w) parts.left) (latches_of-none (n + 1) ws rest parts.right)

pub nodes_of-none : (n : ℕ) (ws : List WrittenLine) (rest : List TextLine) → AreKinds is_no_node ws → nodes_of (numbered n ws ++ rest) ≡ nodes_of rest
nodes_of-none n [] rest h = refl
nodes_of-none n (w ∷ ws) rest h =
    let parts : Both (is_no_node (kind_written w)) (list_all (λ v. is_no_node (kind_written v)) ws) = both _ _ h in
    ap₂ (λ x y. x ++ y) (nodes_at-none (kind_written w) (at n w) (numbered (n + 1) ws ++ rest) parts.left) (nodes_of-none (n + 1) ws rest parts.right)

-- the kinds of a layout's lines
pub kind-row : (on : Bool) (row : List Literal) → kind_written (row_line on row) ≡ Row
kind-row true [] = refl
kind-row false [] = refl
kind-row on (Free ∷ row) = refl
kind-row on (Wants true ∷ row) = refl
kind-row on (Wants false ∷ row) = refl

module _ (test : LineKind → Bool) where
  pub kinds-plan : test PlanLine ≡ true → (plan : List WrittenLine) → Each (λ w. w.is_plan ≡ true) plan → AreKinds test plan
  kinds-plan h [] each = refl
  kinds-plan h (w ∷ plan) each =
      ap₂ (λ a b. a && b) (ap (λ (b : Bool). test (if b then PlanLine else kind_of_word (the_word (at 0 w) 0))) each.0 ∙ h) (kinds-plan h plan each.1)

  pub kinds-rows : test Row ≡ true → (on : Bool) (rows : List (List Literal)) → AreKinds test (map (row_line on) rows)
  kinds-rows h on rows = AreKinds-map test (row_line on) rows (λ row. ap test (kind-row on row) ∙ h)

  pub kinds-nodes : test Names ≡ true → test Row ≡ true → (nodes : List NamedNode) → AreKinds test (flat_map node_lines nodes)
  kinds-nodes h k [] = refl
  kinds-nodes h k (n ∷ nodes) = AreKinds-append test (node_lines n) (flat_map node_lines nodes)
      (ap₂ (λ a b. a && b) h (kinds-rows k n.cover.on n.cover.rows)) (kinds-nodes h k nodes)
