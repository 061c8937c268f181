-- The plan lines of a layout state its plan.
use Rattle.std.proofs.Common.{◌≡◌, ℕ, ◌+◌, Bool, false, if◌then◌else◌, List, [], ◌∷◌, ◌++◌, length, map, refl, sym, ap, ap₂, ◌∙◌, inl, inr, ◌⊎◌, append-nil, append_assoc}
use Rattle.std.specs.List.{flat_map}
use Rattle.tsc_cover.specs.Cover.{Literal}
use Rattle.tsc_text.specs.TextLine.{TextLine, the_word}
use Rattle.tsc_text.specs.Written.{WrittenLine, numbered}
use Rattle.tsc_net.specs.Named.{Named, NamedNode}
use Rattle.blif_read.specs.PlanLines.{plan_kind}
use Rattle.blif_read.specs.PlanText.{kind_in_plan}
use Rattle.blif_read.specs.declared.plan_lines.PlanKind.{PlanKind}
use Rattle.blif_read.specs.declared.plan_lines.PlanKind.TheVariants.{CodeLine, StateLine, OtherLine}
use Rattle.blif_write.specs.NamedPlan.{NamedPlan}
use Rattle.blif_write.specs.Layout.{model_line, inputs_line, outputs_line, version_word, code_line, state_line, check_lines, plan_lines, latch_line, row_line, row_lines, names_line, node_lines, section_lines}
use Rattle.blif_write.proofs.LineKinds.{at}
use Rattle.blif_write.proofs.ReadBack.{tail, tail-split}
use Rattle.tsc_text.proofs.AllowedTexts.{numbered-append}

-- what a list of plan lines gives, line by line
pub record IsSelection {A : Type 0} (pick : PlanKind → TextLine → List A) (sel : List TextLine → List A) : Type 0 where
  pub none : sel [] ≡ []
  pub more : (line : TextLine) (lines : List TextLine) → sel (line ∷ lines) ≡ pick (kind_in_plan line) line ++ sel lines
  pub other : (line : TextLine) → pick OtherLine line ≡ []
  pub code : (line : TextLine) → pick CodeLine line ≡ []

abbrev IsOther : WrittenLine → Type 0
IsOther w = w.is_plan ≡ false

row-other : (on : Bool) (row : List Literal) → IsOther (row_line on row)
row-other on [] = refl
row-other on (l ∷ row) = refl

code-kind : (version : ℕ) → (version ≡ 1) ⊎ (version ≡ 2) → plan_kind (version_word version) ≡ CodeLine
code-kind version (inl e) = ap (λ v. plan_kind (version_word v)) e
code-kind version (inr e) = ap (λ v. plan_kind (version_word v)) e

module _ {A : Type 0} (pick : PlanKind → TextLine → List A) (sel : List TextLine → List A) (h : IsSelection pick sel) where
  sel-other : (n : ℕ) (w : WrittenLine) (lines : List TextLine) → IsOther w → sel (at n w ∷ lines) ≡ sel lines
  sel-other n w lines other = h.more (at n w) lines
      ∙ ap (λ (b : Bool). pick (if b then plan_kind (the_word (at n w) 0) else OtherLine) (at n w) ++ sel lines) other
      ∙ ap (λ (xs : List A). xs ++ sel lines) (h.other (at n w))

  sel-others : {B : Type 0} (f : B → WrittenLine) (xs : List B) → ((x : B) → IsOther (f x)) → (n : ℕ) (rest : List TextLine) → sel (numbered n (map f xs) ++ rest) ≡ sel rest
  sel-others f [] each n rest = refl
  sel-others f (x ∷ xs) each n rest = sel-other n (f x) (numbered (n + 1) (map f xs) ++ rest) (each x) ∙ sel-others f xs each (n + 1) rest

  sel-nodes : (nodes : List NamedNode) (n : ℕ) → sel (numbered n (flat_map node_lines nodes)) ≡ []
  sel-nodes [] n = h.none
  sel-nodes (x ∷ nodes) n =
      let rows : List WrittenLine = row_lines x.cover in
      let rest : List TextLine = numbered (n + 1 + length rows) (flat_map node_lines nodes) in
      sel-other n (names_line x) (numbered (n + 1) (rows ++ flat_map node_lines nodes)) refl
      ∙ ap sel (numbered-append (n + 1) rows (flat_map node_lines nodes))
      ∙ sel-others (row_line x.cover.on) x.cover.rows (row-other x.cover.on) (n + 1) rest
      ∙ sel-nodes nodes (n + 1 + length rows)

  pub sel-plan : {B : Type 0} (f : B → WrittenLine) (g : B → List A) (xs : List B) → ((x : B) (n : ℕ) → pick (kind_in_plan (at n (f x))) (at n (f x)) ≡ g x) → (n : ℕ) (rest : List TextLine) → sel (numbered n (map f xs) ++ rest) ≡ flat_map g xs ++ sel rest
  sel-plan f g [] each n rest = refl
  sel-plan f g (x ∷ xs) each n rest = h.more (at n (f x)) (numbered (n + 1) (map f xs) ++ rest)
      ∙ ap₂ (λ (a b : List A). a ++ b) (each x n) (sel-plan f g xs each (n + 1) rest)
      ∙ sym (append_assoc (g x) (flat_map g xs) (sel rest))

  -- all lines before `.end`
  pub sel-section : (N : Named) (P : NamedPlan) → (P.version ≡ 1) ⊎ (P.version ≡ 2) → (s : List Bool → List A) → ((bits : List Bool) (n : ℕ) → pick StateLine (at n (state_line bits)) ≡ s bits)
      → (c : List A) → ((n : ℕ) (rest : List TextLine) → sel (numbered n (check_lines P.code P) ++ rest) ≡ c ++ sel rest)
      → sel (numbered 1 (section_lines N P)) ≡ c ++ flat_map s P.states
  sel-section N P version s each c checks =
      let k : ℕ = 4 + length (plan_lines P ++ map latch_line N.latches) in
      let nodes : List TextLine = numbered k (flat_map node_lines N.nodes) in
      let rest : List TextLine = numbered (4 + length (plan_lines P)) (map latch_line N.latches) ++ nodes in
      let states : List TextLine = numbered (5 + length (check_lines P.code P)) (map state_line P.states) in
      let nothing : sel rest ≡ [] = sel-others latch_line N.latches (λ l. refl) (4 + length (plan_lines P)) nodes ∙ sel-nodes N.nodes k in
      sel-other 1 (model_line N.model) (numbered 2 (inputs_line N.inputs ∷ outputs_line N.outputs ∷ tail N (plan_lines P))) refl
      ∙ sel-other 2 (inputs_line N.inputs) (numbered 3 (outputs_line N.outputs ∷ tail N (plan_lines P))) refl
      ∙ sel-other 3 (outputs_line N.outputs) (numbered 4 (tail N (plan_lines P))) refl
      ∙ ap sel (tail-split N (plan_lines P))
      ∙ h.more (at 4 (code_line P.version P.code)) (numbered 5 (check_lines P.code P ++ map state_line P.states) ++ rest)
      ∙ ap (λ (xs : List A). xs ++ sel (numbered 5 (check_lines P.code P ++ map state_line P.states) ++ rest))
      (ap (λ (kind : PlanKind). pick kind (at 4 (code_line P.version P.code))) (code-kind P.version version) ∙ h.code (at 4 (code_line P.version P.code)))
      ∙ ap sel (ap (λ lines. lines ++ rest) (numbered-append 5 (check_lines P.code P) (map state_line P.states)) ∙ append_assoc (numbered 5 (check_lines P.code P)) states rest)
      ∙ checks 5 (states ++ rest)
      ∙ ap (λ (xs : List A). c ++ xs) (sel-plan state_line s P.states each (5 + length (check_lines P.code P)) rest ∙ ap (λ (xs : List A). flat_map s P.states ++ xs) nothing ∙ append-nil (flat_map s P.states))
