-- The predictor of a group, put together, and the predictors of groups, one after another.
use Rattle.std.proofs.Common.{◌≡◌, ℕ, ◌+◌, ◌<◌, ◌^◌, List, [], ◌∷◌, ◌++◌, map, take, drop, length, slice_index, slice_index_or, All, refl, sym, ◌∙◌, ap, subst, arith, length-append}
use Rattle.std.proofs.lemmas.List.{length-map, take_more, drop_more}
use Rattle.tsc_cover.specs.Gates.{xor_cover}
use Rattle.tsc_net.specs.NetlistOf.{NetlistOf}
use Rattle.fault_secure.specs.Closed.{IsClosed}
use Rattle.tsc_net.specs.Parts.{PartsOf, next_fresh}
use Rattle.tsc_net.specs.PartsView.{text_of, texts_of, IsName}
use Rattle.tsc_net.specs.declared.ids.Name.{Name}
use Rattle.tsc_bits.proofs.Lists.{map-push}
use Rattle.parity_code.specs.Copy.{IsCopied}
use Rattle.net_cones.specs.ConeMarks.{cone_of}
use Rattle.net_cones.specs.Cones.{IsCone}
use Rattle.parity_code.specs.ParityFunction.{outputs_at}
use Rattle.parity_code.specs.Held.{PartsGrow}
use Rattle.parity_code.specs.Predictors.{with_fresh_names, with_gate, with_check, with_parity, copy_text, node_by, with_nodes, with_copies, with_predictor, with_predictors, check_texts, last_name, predictors_size}
use Rattle.parity_code.specs.PredictorSteps.{name_at, HasText, NamesCopy, IsNameable}
use Rattle.parity_code.proofs.OutputsCopied.{outputs_copied}
use Rattle.parity_code.proofs.PredictorParts.{fresh_names_count, texts_stay}
use Rattle.parity_code.proofs.PredictorCopy.{copies_nameable, copies_named, nets_named, nets_texts}

-- the names of a copy of a group's cone were made over the parts p, which are then q
pub record CopyMade (S : NetlistOf) (group cone : List ℕ) (p q : PartsOf) (names : List Name) : Type 0 where
  pub latchless : length S.circuit.latches ≡ 0
  pub closed : IsClosed S.circuit
  pub within : All (λ place. place < length S.circuit.outputs) group
  pub is_cone : IsCone S.circuit (outputs_at S.circuit group) cone
  pub computed : cone ≡ cone_of S.circuit (outputs_at S.circuit group)
  pub copy : NamesCopy S cone p q names
  pub fresh : q ≡ with_fresh_names (length cone) p

module _ (S : NetlistOf) (group cone : List ℕ) (p q : PartsOf) (names : List Name) (made : CopyMade S group cone p q names) where
  group_copied : All (IsCopied S.circuit cone) (outputs_at S.circuit group)
  group_copied = outputs_copied S.circuit made.latchless made.closed cone group made.is_cone made.within

  pub made_nameable : All (IsNameable S.circuit q.names names) cone
  made_nameable = copies_nameable S (outputs_at S.circuit group) cone p q names made.latchless made.closed made.is_cone made.copy

  module _ (r : PartsOf) (added : r ≡ with_nodes q (map (node_by S.circuit (λ n. text_of q.names (name_at names n))) cone))
      (outputs : List Name) (are : outputs ≡ map (name_at names) (outputs_at S.circuit group)) where
    same_names : r.names ≡ q.names
    same_names = ap (λ (s : PartsOf). s.names) added

    pub made_outputs : All (IsName r.names) outputs
    made_outputs =
        subst (λ (texts : List (List ℕ)). All (IsName texts) outputs) (sym same_names)
        (subst (All (IsName q.names)) (sym are) (nets_named S (outputs_at S.circuit group) cone p q names made.latchless made.closed made.is_cone made.copy (outputs_at S.circuit group) group_copied))

    pub made_room : length p.names + predictors_size S.circuit (group ∷ []) < 2 ^ 32 → length r.names + length outputs < 2 ^ 32
    made_room room =
        let one : length r.names ≡ length q.names = ap (λ (texts : List (List ℕ)). length texts) same_names in
        let two : length q.names ≡ length p.names + length cone = ap (λ (s : PartsOf). length s.names) made.fresh ∙ fresh_names_count (length cone) p in
        let three : length cone ≡ length (cone_of S.circuit (outputs_at S.circuit group)) = ap (λ (list : List ℕ). length list) made.computed in
        let four : length outputs ≡ length (outputs_at S.circuit group)
        = ap (λ (list : List Name). length list) are ∙ length-map (outputs_at S.circuit group) (name_at names) in
        let five : length (outputs_at S.circuit group) ≡ length group = length-map group (slice_index S.circuit.outputs) in
        omega arith

    copies_are : r ≡ with_copies S cone p
    unfolding with_copies
    copies_are =
        added ∙ ap (with_nodes q) (copies_named S (outputs_at S.circuit group) cone p q names made.latchless made.closed made.is_cone made.copy)
        ∙ ap (λ (s : PartsOf). with_nodes s (map (node_by S.circuit (copy_text S cone p)) cone)) made.fresh

    texts_are : texts_of r.names outputs ≡ map (copy_text S cone p) (outputs_at S.circuit group)
    texts_are =
        ap (λ (texts : List (List ℕ)). texts_of texts outputs) same_names ∙ ap (texts_of q.names) are
        ∙ nets_texts S (outputs_at S.circuit group) cone p q names made.latchless made.closed made.is_cone made.copy (outputs_at S.circuit group) group_copied

    pub made_predictor : (t : PartsOf) → t ≡ with_parity r (texts_of r.names outputs) → t ≡ with_predictor S group p
    unfolding with_predictor
    made_predictor t is =
        is ∙ ap (with_parity r) texts_are ∙ ap (λ (s : PartsOf). with_parity s (map (copy_text S cone p) (outputs_at S.circuit group))) copies_are
        ∙ ap (λ (places : List ℕ). with_parity (with_copies S places p) (map (copy_text S places p) (outputs_at S.circuit group))) made.computed

-- how many names a predictor has
check_count : (p : PartsOf) (made : List ℕ) (names : List (List ℕ)) → length (with_check p made names).names ≡ length p.names + length names + 1
check_count p made [] = omega (arith, length-append p.names (next_fresh p ∷ []))
check_count p made (name ∷ names) =
    let q : PartsOf = with_gate p (made ∷ (name ∷ [])) xor_cover in
    omega (arith, check_count q (next_fresh p) names, length-append p.names (next_fresh p ∷ []))

parity_count : (p : PartsOf) (names : List (List ℕ)) → length (with_parity p names).names ≡ length p.names + length names
parity_count p [] = omega arith
parity_count p (first ∷ rest) = omega (arith, check_count p first rest)

-- the predictor of a group adds one name for each node of its outputs' cone, and one for each output
pub predictor_count : (S : NetlistOf) (group : List ℕ) (p : PartsOf)
    → length (with_predictor S group p).names ≡ length p.names + (length (cone_of S.circuit (outputs_at S.circuit group)) + length group)
unfolding with_predictor with_copies
predictor_count S group p =
    let cone : List ℕ = cone_of S.circuit (outputs_at S.circuit group) in
    let texts : List (List ℕ) = map (copy_text S cone p) (outputs_at S.circuit group) in
    omega (arith, parity_count (with_copies S cone p) texts, fresh_names_count (length cone) p, length-map (outputs_at S.circuit group) (copy_text S cone p), length-map group (slice_index S.circuit.outputs))

-- one group more
pub predictors_more : (S : NetlistOf) (groups : List (List ℕ)) (group : List ℕ) (p : PartsOf)
    → with_predictors S (groups ++ group ∷ []) p ≡ with_predictor S group (with_predictors S groups p)
predictors_more S [] group p = refl
predictors_more S (other ∷ groups) group p = predictors_more S groups group (with_predictor S other p)

checks_more : (S : NetlistOf) (groups : List (List ℕ)) (group : List ℕ) (p : PartsOf)
    → check_texts S (groups ++ group ∷ []) p ≡ check_texts S groups p ++ last_name (with_predictor S group (with_predictors S groups p)) ∷ []
checks_more S [] group p = refl
checks_more S (other ∷ groups) group p = ap (λ list. last_name (with_predictor S other p) ∷ list) (checks_more S groups group (with_predictor S other p))

module _ (S : NetlistOf) (groups : List (List ℕ)) (i : ℕ) (there : i < length groups) (start here next : PartsOf) (group : List ℕ) (is_group : group ≡ slice_index_or groups i [])
    (so_far : here ≡ with_predictors S (take i groups) start) (is : next ≡ with_predictor S group here) where
  took : take (i + 1) groups ≡ take i groups ++ group ∷ []
  took = take_more groups i [] there ∙ ap (λ g. take i groups ++ g ∷ []) (sym is_group)

  pub group_added : next ≡ with_predictors S (take (i + 1) groups) start
  group_added =
      is ∙ ap (with_predictor S group) so_far ∙ sym (predictors_more S (take i groups) group start) ∙ ap (λ gs. with_predictors S gs start) (sym took)

  pub group_counted : (total : ℕ) → length here.names + predictors_size S.circuit (drop i groups) ≡ total
      → length next.names + predictors_size S.circuit (drop (i + 1) groups) ≡ total
  group_counted total counted =
      let one : length next.names ≡ length here.names + (length (cone_of S.circuit (outputs_at S.circuit group)) + length group)
      = ap (λ (s : PartsOf). length s.names) is ∙ predictor_count S group here in
      let split : drop i groups ≡ group ∷ drop (i + 1) groups = drop_more groups i [] there ∙ ap (λ g. g ∷ drop (i + 1) groups) (sym is_group) in
      let two : predictors_size S.circuit (drop i groups) ≡ length (cone_of S.circuit (outputs_at S.circuit group)) + length group + predictors_size S.circuit (drop (i + 1) groups)
      = ap (predictors_size S.circuit) split in
      omega arith

  pub group_check : (checks after : List Name) (check : Name) → PartsGrow here next → All (IsName here.names) checks
      → texts_of here.names checks ≡ check_texts S (take i groups) start → HasText next.names check (last_name next) → after ≡ checks ++ check ∷ []
      → texts_of next.names after ≡ check_texts S (take (i + 1) groups) start
  group_check checks after check grows names texts has pushed =
      let last : text_of next.names check ≡ last_name (with_predictor S group (with_predictors S (take i groups) start))
      = has.1 ∙ ap last_name is ∙ ap (λ (s : PartsOf). last_name (with_predictor S group s)) so_far in
      let kept : texts_of next.names checks ≡ check_texts S (take i groups) start = texts_stay here next checks grows names ∙ texts in
      ap (texts_of next.names) pushed ∙ map-push (text_of next.names) checks check
      ∙ ap (λ (list : List (List ℕ)). list ++ text_of next.names check ∷ []) kept
      ∙ ap (λ (t : List ℕ). check_texts S (take i groups) start ++ t ∷ []) last
      ∙ sym (checks_more S (take i groups) group start) ∙ ap (λ gs. check_texts S gs start) (sym took)
