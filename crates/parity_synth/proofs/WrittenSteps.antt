-- The steps of writing a parity netlist: a check more, the checker over the word, and what is composed as a composable whole.
use Rattle.std.proofs.Common.{◌≡◌, ℕ, ◌+◌, ◌<◌, ◌≤◌, List, [], ◌∷◌, ◌++◌, map, drop, length, slice_index_or, All, None, sym, ◌∙◌, ap, ap₂, subst, arith}
use Rattle.std.proofs.lemmas.List.{get_or-map, map-append}
use Rattle.std.proofs.lemmas.Simd.{map-map}
use Rattle.fault_secure.specs.Circuit.{Circuit, nets}
use Rattle.fault_secure.specs.CodePlan.{concat_places}
use Rattle.tsc_net.specs.Names.{text_at}
use Rattle.tsc_net.specs.Parts.{PartsOf}
use Rattle.tsc_net.specs.PartsView.{text_of, texts_of}
use Rattle.tsc_net.specs.declared.ids.Name.{Name}
use Rattle.net_cones.specs.ConeMarks.{cone_of}
use Rattle.parity_code.specs.ParityFunction.{outputs_at}
use Rattle.parity_code.specs.ParityCircuit.{predictors_end}
use Rattle.parity_code.proofs.GroupSteps.{get_default}
use Rattle.parity_code.proofs.PlacesWithin.{places_within}
use Rattle.code_checkers.specs.GateList.{GateList, IsCheckerOf}
use Rattle.code_checkers.specs.Within.{ReadsWord}
use Rattle.net_writing.specs.CheckerParts.{GateParts, with_checker, IsOver}
use Rattle.net_writing.specs.Names.{name_at}
use Rattle.net_writing.specs.Outputs.{with_outputs}
use Rattle.parity_synth.specs.CheckedNet.{plan_of}
use Rattle.parity_synth.specs.ParityNet.{group_cone_of}
use Rattle.parity_synth.specs.Composed.{with_checked}
use Rattle.parity_synth.proofs.Room.{end_within}

-- the members of a group are outputs
pub group_within : (n : ℕ) (groups items : List (List ℕ)) (i : ℕ) (item seen : List ℕ) → items ≡ groups → i < length items → item ≡ slice_index_or items i item
    → All (λ place. place < n) (concat_places groups) → seen ≡ item → All (λ place. place < n) seen
group_within n groups items i item seen same within is all e =
    let at : item ≡ slice_index_or items i [] = get_default items i item within is in
    let whole : All (λ place. place < n) (slice_index_or groups i []) = places_within (λ place. place < n) groups all i in
    subst (All (λ place. place < n)) (sym (e ∙ at ∙ ap (λ gs. slice_index_or gs i []) same)) whole

-- a predictor more ends no later than all
pub group_room : (C : Circuit) (items : List (List ℕ)) (i : ℕ) (item seen cone : List ℕ) (end size count whole : ℕ) → i < length items → item ≡ slice_index_or items i item → seen ≡ item
    → cone ≡ cone_of C (outputs_at C seen) → size ≡ length cone → count ≡ length item → predictors_end (map (group_cone_of C) (drop i items)) end ≡ whole → end + (size + count) ≤ whole
group_room C items i item seen cone end size count whole within is same computed sized counted all =
    let long : length cone ≡ length (cone_of C (outputs_at C item)) = ap length computed ∙ ap (λ (group : List ℕ). length (cone_of C (outputs_at C group))) same in
    omega (arith, end_within C items i item end whole within is all, long, sized, counted)

-- outputs, the checker over them and over checks, and the rails were added
pub checked_added : (p q r s : PartsOf) (names : List Name) (nets : List ℕ) (outputs word checks : List Name) (made : GateList) (gates : List Name) (first second : Name)
    → outputs ≡ map (name_at names) nets → word ≡ outputs ++ checks → q ≡ with_outputs p (texts_of p.names outputs) → r ≡ (with_checker q (texts_of q.names word) made None).parts
    → texts_of r.names gates ≡ (with_checker q (texts_of q.names word) made None).names → length gates ≡ length made.gates → made.rail1 < length made.gates → made.rail2 < length made.gates
    → first ≡ slice_index_or gates made.rail1 first → second ≡ slice_index_or gates made.rail2 second → s ≡ with_outputs r (texts_of r.names (first ∷ (second ∷ [])))
    → s ≡ with_checked p (map (λ net. text_of p.names (name_at names net)) nets) (texts_of p.names checks) made
unfolding with_checked
checked_added p q r s names nets outputs word checks made gates first second outputs_are word_is shown checked texts sized low high one two is =
    let shown_texts : texts_of p.names outputs ≡ map (λ net. text_of p.names (name_at names net)) nets = ap (texts_of p.names) outputs_are ∙ map-map (text_of p.names) (name_at names) nets in
    let same_names : q.names ≡ p.names = ap (λ (t : PartsOf). t.names) shown in
    let word_texts : texts_of q.names word ≡ map (λ net. text_of p.names (name_at names net)) nets ++ texts_of p.names checks
    = ap₂ texts_of same_names word_is ∙ map-append (text_of p.names) outputs checks ∙ ap (λ (list : List (List ℕ)). list ++ texts_of p.names checks) shown_texts in
    let rail1 : text_of r.names first ≡ text_at (with_checker q (texts_of q.names word) made None).names made.rail1
    = ap (text_of r.names) one ∙ sym (get_or-map (text_of r.names) gates made.rail1 first [] (omega (arith, low, sized))) ∙ ap (λ (list : List (List ℕ)). text_at list made.rail1) texts in
    let rail2 : text_of r.names second ≡ text_at (with_checker q (texts_of q.names word) made None).names made.rail2
    = ap (text_of r.names) two ∙ sym (get_or-map (text_of r.names) gates made.rail2 second [] (omega (arith, high, sized))) ∙ ap (λ (list : List (List ℕ)). text_at list made.rail2) texts in
    is ∙ ap₂ (λ (a b : List ℕ). with_outputs r (a ∷ (b ∷ []))) rail1 rail2
    ∙ ap (λ (t : PartsOf). with_outputs t (text_at (with_checker q (texts_of q.names word) made None).names made.rail1 ∷ (text_at (with_checker q (texts_of q.names word) made None).names made.rail2 ∷ []))) checked
    ∙ ap₂ (λ (t : PartsOf) (list : List (List ℕ)).
    let c : GateParts = with_checker t list made None in
    with_outputs c.parts (text_at c.names made.rail1 ∷ (text_at c.names made.rail2 ∷ [])))
    (shown ∙ ap (with_outputs p) shown_texts) word_texts

-- the gates of the plan's checker are over outputs and a check for each group
pub over_groups : (C : Circuit) (checks : List ℕ) (groups : List (List ℕ)) (made : GateList) → length checks ≡ length groups → IsCheckerOf (plan_of C checks 0 0) made → ReadsWord (plan_of C checks 0 0) made
    → IsOver (length C.outputs + length groups) made
over_groups C checks groups made paired is words = record {
  words_within = λ place word there at. (let w = words place word there at in omega (arith, w, paired));
  ordered = is.ordered;
  first_within = is.first_within;
  second_within = is.second_within;
}
