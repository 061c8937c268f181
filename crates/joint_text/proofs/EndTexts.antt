-- The texts before the lines of the parts, and after them.
use Rattle.std.proofs.Common.{◌≡◌, ℕ, ◌+◌, ◌*◌, List, [], ◌∷◌, ◌++◌, codes, length, refl, sym, ap, ap₂, subst, ◌∙◌, append_assoc, append-nil, arith}
use Rattle.std.specs.List.{flat_map}
use Rattle.tsc_net.specs.Names.{text_at}
use Rattle.tsc_text.specs.Written.{line_of_words, line_text, text_of}
use Rattle.blif_write.specs.Layout.{model_line, inputs_line, outputs_line, node_lines, end_line}
use Rattle.blif_write.specs.Steps.{after_word, after_words, after_end}
use Rattle.blif_write.proofs.After.{after_words-append, after_lines-text}
use Rattle.code_checkers.specs.GateList.{GateList}
use Rattle.code_checkers.specs.Tree.{IsTreeOf}
use Rattle.module_join.specs.JointNet.{PlannedOf, joint_inputs}
use Rattle.module_join.specs.TreeNodes.{tree_made}
use Rattle.module_join.proofs.TreeNodes.{tree_is_determined}
use Rattle.joint_text.specs.JointNamed.{shown_from, rail_names, gate_names, named_gates, prefix_of, tree_names}
use Rattle.joint_text.specs.Portions.{head_text, tail_text}

-- a line of `.names` after a text
line_pushed : (out : List ℕ) (words : List (List ℕ)) → after_end (after_words (out ++ codes ".names") words) ≡ out ++ line_text (line_of_words (codes ".names" ∷ words))
line_pushed out words =
    after_lines-text out (line_of_words (codes ".names" ∷ words) ∷ []) (tt, tt)
    ∙ ap (λ (t : List ℕ). out ++ t) (append-nil (line_text (line_of_words (codes ".names" ∷ words))))

pub pushed_one : (out o0 o1 o2 o3 a name rows : List ℕ) → o0 ≡ out ++ codes ".names" → o1 ≡ after_word o0 a → o2 ≡ after_word o1 name → o3 ≡ after_end o2
    → o3 ++ rows ≡ out ++ (line_text (line_of_words (codes ".names" ∷ a ∷ name ∷ [])) ++ rows)
pushed_one out o0 o1 o2 o3 a name rows e0 e1 e2 e3 =
    ap (λ (t : List ℕ). t ++ rows) (e3 ∙ ap after_end (e2 ∙ ap (λ t. after_word t name) (e1 ∙ ap (λ t. after_word t a) e0)) ∙ line_pushed out (a ∷ name ∷ []))
    ∙ append_assoc out (line_text (line_of_words (codes ".names" ∷ a ∷ name ∷ []))) rows

pub pushed_two : (out o0 o1 o2 o3 o4 a b name rows : List ℕ) → o0 ≡ out ++ codes ".names" → o1 ≡ after_word o0 a → o2 ≡ after_word o1 b → o3 ≡ after_word o2 name → o4 ≡ after_end o3
    → o4 ++ rows ≡ out ++ (line_text (line_of_words (codes ".names" ∷ a ∷ b ∷ name ∷ [])) ++ rows)
pushed_two out o0 o1 o2 o3 o4 a b name rows e0 e1 e2 e3 e4 =
    ap (λ (t : List ℕ). t ++ rows)
    (e4 ∙ ap after_end (e3 ∙ ap (λ t. after_word t name) (e2 ∙ ap (λ t. after_word t b) (e1 ∙ ap (λ t. after_word t a) e0))) ∙ line_pushed out (a ∷ b ∷ name ∷ []))
    ∙ append_assoc out (line_text (line_of_words (codes ".names" ∷ a ∷ b ∷ name ∷ []))) rows

-- the lines of the model, the inputs and the outputs
pub head_pushed : (inputs shown : List (List ℕ)) (r1 r2 o0 o1 o2 o3 o4 o5 o6 o7 : List ℕ)
    → o0 ≡ codes ".model joint" ++ 10 ∷ codes ".inputs" → o1 ≡ after_words o0 inputs → o2 ≡ after_end o1 → o3 ≡ o2 ++ codes ".outputs"
    → o4 ≡ after_words o3 shown → o5 ≡ after_word o4 r1 → o6 ≡ after_word o5 r2 → o7 ≡ after_end o6
    → o7 ≡ text_of (model_line (codes "joint") ∷ inputs_line inputs ∷ outputs_line (shown ++ r1 ∷ r2 ∷ []) ∷ [])
head_pushed inputs shown r1 r2 o0 o1 o2 o3 o4 o5 o6 o7 e0 e1 e2 e3 e4 e5 e6 e7 =
    let before : List ℕ = after_end (after_words (codes ".model joint" ++ 10 ∷ codes ".inputs") inputs) ++ codes ".outputs" in
    e7
    ∙ ap after_end (e6 ∙ ap (λ t. after_word t r2) (e5 ∙ ap (λ t. after_word t r1) (e4 ∙ ap (λ t. after_words t shown)
    (e3 ∙ ap (λ (t : List ℕ). t ++ codes ".outputs") (e2 ∙ ap after_end (e1 ∙ ap (λ t. after_words t inputs) e0))))))
    ∙ ap after_end (sym (after_words-append before shown (r1 ∷ r2 ∷ [])))
    ∙ after_lines-text [] (model_line (codes "joint") ∷ inputs_line inputs ∷ outputs_line (shown ++ r1 ∷ r2 ∷ []) ∷ []) (tt, (tt, (tt, tt)))

pub rails_long : (prefix : List ℕ) (i : ℕ) (parts : List PlannedOf) → length (rail_names prefix i parts) ≡ 2 * length parts
rails_long prefix i [] = refl
rails_long prefix i (p ∷ parts) = omega (arith, rails_long prefix (i + 1) parts)

-- ---- over the tree that was made

module _ (parts : List PlannedOf) (n : ℕ) (counted : n ≡ length parts) (made : GateList) (names : List (List ℕ)) (is : IsTreeOf n made)
    (named : names ≡ gate_names (prefix_of parts) (rail_names (prefix_of parts) 0 parts) 0 made.gates) where
  same : made ≡ tree_made (length parts)
  same = tree_is_determined (length parts) made (subst (λ k. IsTreeOf k made) counted is)

  pub head_is : (inputs shown : List (List ℕ)) (r1 r2 : List ℕ) → inputs ≡ joint_inputs parts → shown ≡ shown_from (prefix_of parts) 0 [] parts
      → r1 ≡ text_at names made.rail1 → r2 ≡ text_at names made.rail2
      → text_of (model_line (codes "joint") ∷ inputs_line inputs ∷ outputs_line (shown ++ r1 ∷ r2 ∷ []) ∷ []) ≡ head_text parts
  head_is inputs shown r1 r2 a b c d =
      let made_names : GateList → List (List ℕ) = λ g. gate_names (prefix_of parts) (rail_names (prefix_of parts) 0 parts) 0 g.gates in
      let line : List (List ℕ) → List (List ℕ) → List ℕ → List ℕ → List ℕ =
      λ i s x y. text_of (model_line (codes "joint") ∷ inputs_line i ∷ outputs_line (s ++ x ∷ y ∷ []) ∷ []) in
      let first : r1 ≡ text_at (tree_names parts) (tree_made (length parts)).rail1 =
      c ∙ ap (λ (ns : List (List ℕ)). text_at ns made.rail1) named ∙ ap (λ (g : GateList). text_at (made_names g) g.rail1) same in
      let second : r2 ≡ text_at (tree_names parts) (tree_made (length parts)).rail2 =
      d ∙ ap (λ (ns : List (List ℕ)). text_at ns made.rail2) named ∙ ap (λ (g : GateList). text_at (made_names g) g.rail2) same in
      ap₂ (λ i s. line i s r1 r2) a b
      ∙ ap₂ (λ x y. line (joint_inputs parts) (shown_from (prefix_of parts) 0 [] parts) x y) first second

  pub tail_is : text_of (flat_map node_lines (named_gates names names made.gates)) ++ text_of (end_line ∷ []) ≡ tail_text parts
  tail_is =
      ap₂ (λ (ns : List (List ℕ)) (g : GateList). text_of (flat_map node_lines (named_gates ns ns g.gates)) ++ text_of (end_line ∷ []))
      (named ∙ ap (λ (g : GateList). gate_names (prefix_of parts) (rail_names (prefix_of parts) 0 parts) 0 g.gates) same) same
