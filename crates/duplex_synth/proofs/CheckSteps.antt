-- The steps of writing one copy and the checks over it: a group more, and the whole.
use Rattle.std.proofs.Common.{◌≡◌, ℕ, ◌+◌, ◌-◌, ◌<◌, List, [], ◌∷◌, ◌++◌, map, take, drop, length, slice_index, slice_index_or, All, suc, refl, sym, ◌∙◌, ap, ap₂, subst, arith, append_assoc, length-append}
use Rattle.std.proofs.lemmas.List.{length-map, map-append, take_more, drop_more}
use Rattle.std.proofs.lemmas.List.Elements.{All-head, All-tail, All-weaker}
use Rattle.tsc_bits.proofs.Lists.{map_agrees, map-push}
use Rattle.tsc_cover.specs.Gates.{xor_cover}
use Rattle.fault_secure.specs.Circuit.{Circuit}
use Rattle.fault_secure.specs.Closed.{IsClosed}
use Rattle.fault_secure.specs.CodePlan.{concat_places}
use Rattle.tsc_net.specs.NetlistOf.{NetlistOf}
use Rattle.tsc_net.specs.Parts.{PartsOf, next_fresh}
use Rattle.tsc_net.specs.PartsView.{text_of, texts_of, IsName}
use Rattle.tsc_net.specs.PlanView.{net_numbers}
use Rattle.tsc_net.specs.declared.ids.Name.{Name}
use Rattle.tsc_net.specs.declared.ids.NetId.{NetId}
use Rattle.parity_code.specs.Copy.{IsCopied}
use Rattle.parity_code.specs.Held.{PartsGrow}
use Rattle.net_cones.specs.Cones.{IsCone}
use Rattle.parity_code.specs.ParityFunction.{outputs_at}
use Rattle.parity_code.specs.Predictors.{with_fresh_names, with_gate, with_check, with_parity, copy_text, node_by, with_nodes, with_copies, last_name}
use Rattle.parity_code.specs.PredictorSteps.{name_at, HasText, NamesCopy, IsNameable}
use Rattle.parity_code.proofs.OutputsCopied.{at_outputs, all_copied}
use Rattle.parity_code.proofs.PredictorParts.{fresh_names_count, names_longer, text_kept, texts_stay}
use Rattle.parity_code.proofs.PredictorCopy.{copies_nameable, copies_named}
use Rattle.parity_code.specs.GroupChecks.{group_check_nets}
use Rattle.parity_code.specs.SharedParts.{with_group_checks, group_check_texts, with_shared, shared_texts}

-- the places after a group are fewer by its own
pub group_behind : (items : List (List ℕ)) (i : ℕ) (item seen : List ℕ) → i < length items → item ≡ slice_index_or items i item → seen ≡ item
    → length (concat_places (drop i items)) ≡ length seen + length (concat_places (drop (i + 1) items))
group_behind items i item seen within is same =
    let split : drop i items ≡ item ∷ drop (i + 1) items = drop_more items i item within ∙ ap (λ (g : List ℕ). g ∷ drop (i + 1) items) (sym is) in
    omega (arith, ap (λ (gs : List (List ℕ)). length (concat_places gs)) split, length-append item (concat_places (drop (i + 1) items)), ap (λ (g : List ℕ). length g) same)

-- the net of a check more
pub nets_more : (inputs : ℕ) (items : List (List ℕ)) (i : ℕ) (item seen : List ℕ) (count from : ℕ) (list after : List NetId) (net : NetId) (whole : List ℕ) → i < length items → item ≡ slice_index_or items i item → seen ≡ item
    → count ≡ length seen → net.number ≡ inputs + (from + count - 1) → after ≡ list ++ net ∷ [] → net_numbers list ++ group_check_nets inputs (drop i items) from ≡ whole
    → net_numbers after ++ group_check_nets inputs (drop (i + 1) items) (from + count) ≡ whole
nets_more inputs items i item seen count from list after net whole within is same counted number pushed so_far =
    let split : drop i items ≡ item ∷ drop (i + 1) items = drop_more items i item within ∙ ap (λ (g : List ℕ). g ∷ drop (i + 1) items) (sym is) in
    let long : count ≡ length item = counted ∙ ap (λ (g : List ℕ). length g) same in
    let here : net.number ≡ inputs + (from + length item - 1) = omega (arith, number, long) in
    ap (λ (ns : List NetId). net_numbers ns ++ group_check_nets inputs (drop (i + 1) items) (from + count)) pushed
    ∙ ap (λ (ns : List ℕ). ns ++ group_check_nets inputs (drop (i + 1) items) (from + count)) (map-append (λ (n : NetId). n.number) list (net ∷ []))
    ∙ append_assoc (net_numbers list) (net.number ∷ []) (group_check_nets inputs (drop (i + 1) items) (from + count))
    ∙ ap₂ (λ (n c : ℕ). net_numbers list ++ (n ∷ group_check_nets inputs (drop (i + 1) items) (from + c))) here long
    ∙ ap (λ (gs : List (List ℕ)). net_numbers list ++ group_check_nets inputs gs from) (sym split) ∙ so_far

-- names of nets stay names
pub nets_named_stay : (p q : PartsOf) (names : List Name) (list : List ℕ) → PartsGrow p q → All (λ net. IsName p.names (name_at names net)) list → All (λ net. IsName q.names (name_at names net)) list
nets_named_stay p q names list g all =
    All-weaker (λ net. IsName p.names (name_at names net)) (λ net. IsName q.names (name_at names net)) (λ net low. omega (arith, low, names_longer p q g)) list all

-- how many names a check has
check_count : (p : PartsOf) (made : List ℕ) (names : List (List ℕ)) → length (with_check p made names).names ≡ length p.names + length names + 1
check_count p made [] = omega (arith, length-append p.names (next_fresh p ∷ []))
check_count p made (name ∷ names) =
    let q : PartsOf = with_gate p (made ∷ (name ∷ [])) xor_cover in
    omega (arith, check_count q (next_fresh p) names, length-append p.names (next_fresh p ∷ []))

pub parity_count : (p : PartsOf) (names : List (List ℕ)) → length (with_parity p names).names ≡ length p.names + length names
parity_count p [] = omega arith
parity_count p (first ∷ rest) = omega (arith, check_count p first rest)

-- one group more
checks_more : (C : Circuit) (text : ℕ → List ℕ) (groups : List (List ℕ)) (group : List ℕ) (p : PartsOf)
    → with_group_checks C text (groups ++ group ∷ []) p ≡ with_parity (with_group_checks C text groups p) (map text (outputs_at C group))
checks_more C text [] group p = refl
checks_more C text (other ∷ groups) group p = checks_more C text groups group (with_parity p (map text (outputs_at C other)))

texts_more : (C : Circuit) (text : ℕ → List ℕ) (groups : List (List ℕ)) (group : List ℕ) (p : PartsOf)
    → group_check_texts C text (groups ++ group ∷ []) p ≡ group_check_texts C text groups p ++ last_name (with_parity (with_group_checks C text groups p) (map text (outputs_at C group))) ∷ []
texts_more C text [] group p = refl
texts_more C text (other ∷ groups) group p =
    ap (λ list. last_name (with_parity p (map text (outputs_at C other))) ∷ list) (texts_more C text groups group (with_parity p (map text (outputs_at C other))))

-- how many names the checks have, and how many checks there are
pub checks_count : (C : Circuit) (text : ℕ → List ℕ) (groups : List (List ℕ)) (p : PartsOf) → length (with_group_checks C text groups p).names ≡ length p.names + length (concat_places groups)
checks_count C text [] p = omega arith
checks_count C text (group ∷ groups) p =
    omega (
      arith,
      checks_count C text groups (with_parity p (map text (outputs_at C group))),
      parity_count p (map text (outputs_at C group)),
      length-map (outputs_at C group) text,
      length-map group (slice_index C.outputs),
      length-append group (concat_places groups),
    )

pub texts_count : (C : Circuit) (text : ℕ → List ℕ) (groups : List (List ℕ)) (p : PartsOf) → length (group_check_texts C text groups p) ≡ length groups
texts_count C text [] p = refl
texts_count C text (group ∷ groups) p = ap suc (texts_count C text groups (with_parity p (map text (outputs_at C group))))

module _ (C : Circuit) (names : List Name) (groups : List (List ℕ)) (i : ℕ) (there : i < length groups) (start here next : PartsOf) (group : List ℕ) (is_group : group ≡ slice_index_or groups i [])
    (grows : PartsGrow start here) (named : All (λ net. IsName start.names (name_at names net)) C.outputs) (within : All (λ place. place < length C.outputs) group)
    (so_far : here ≡ with_group_checks C (λ net. text_of start.names (name_at names net)) (take i groups) start)
    (is : next ≡ with_parity here (map (λ net. text_of here.names (name_at names net)) (outputs_at C group))) where
  -- the texts of names
  abbrev text : ℕ → List ℕ
  text net = text_of start.names (name_at names net)

  took : take (i + 1) groups ≡ take i groups ++ group ∷ []
  took = take_more groups i [] there ∙ ap (λ (g : List ℕ). take i groups ++ g ∷ []) (sym is_group)

  -- the next parts, over the texts as they were at the start
  next_is : next ≡ with_parity here (map text (outputs_at C group))
  next_is =
      is
      ∙ ap (with_parity here)
      (map_agrees (λ net. IsName start.names (name_at names net)) (λ net. text_of here.names (name_at names net)) text (λ net low. text_kept start here (name_at names net).number grows low) (outputs_at C group)
      (at_outputs (λ net. IsName start.names (name_at names net)) C group named within))

  pub group_added : next ≡ with_group_checks C (λ net. text_of start.names (name_at names net)) (take (i + 1) groups) start
  group_added =
      next_is ∙ ap (λ (p : PartsOf). with_parity p (map text (outputs_at C group))) so_far ∙ sym (checks_more C text (take i groups) group start)
      ∙ ap (λ (gs : List (List ℕ)). with_group_checks C text gs start) (sym took)

  pub group_counted : (total : ℕ) → length here.names + length (concat_places (drop i groups)) ≡ total → length next.names + length (concat_places (drop (i + 1) groups)) ≡ total
  group_counted total counted =
      let split : drop i groups ≡ group ∷ drop (i + 1) groups = drop_more groups i [] there ∙ ap (λ (g : List ℕ). g ∷ drop (i + 1) groups) (sym is_group) in
      omega (
        arith,
        counted,
        ap (λ (p : PartsOf). length p.names) next_is,
        parity_count here (map text (outputs_at C group)),
        length-map (outputs_at C group) text,
        length-map group (slice_index C.outputs),
        ap (λ (gs : List (List ℕ)). length (concat_places gs)) split,
        length-append group (concat_places (drop (i + 1) groups)),
      )

  pub group_check : (checks after : List Name) (check : Name) → PartsGrow here next → All (IsName here.names) checks
      → texts_of here.names checks ≡ group_check_texts C (λ net. text_of start.names (name_at names net)) (take i groups) start → HasText next.names check (last_name next) → after ≡ checks ++ check ∷ []
      → texts_of next.names after ≡ group_check_texts C (λ net. text_of start.names (name_at names net)) (take (i + 1) groups) start
  group_check checks after check further known texts has pushed =
      let last : text_of next.names check ≡ last_name (with_parity (with_group_checks C text (take i groups) start) (map text (outputs_at C group)))
      = has.1 ∙ ap last_name next_is ∙ ap (λ (p : PartsOf). last_name (with_parity p (map text (outputs_at C group)))) so_far in
      let kept : texts_of next.names checks ≡ group_check_texts C text (take i groups) start = texts_stay here next checks further known ∙ texts in
      ap (texts_of next.names) pushed ∙ map-push (text_of next.names) checks check
      ∙ ap (λ (list : List (List ℕ)). list ++ text_of next.names check ∷ []) kept
      ∙ ap (λ (t : List ℕ). group_check_texts C text (take i groups) start ++ t ∷ []) last
      ∙ sym (texts_more C text (take i groups) group start) ∙ ap (λ (gs : List (List ℕ)). group_check_texts C text gs start) (sym took)

-- checks over names that agree on the outputs are the same
module _ (Q : ℕ → Type 0) (C : Circuit) (f g : ℕ → List ℕ) (agree : (n : ℕ) → Q n → f n ≡ g n) (all : All Q C.outputs) where
  same_texts : (group : List ℕ) → All (λ place. place < length C.outputs) group → map f (outputs_at C group) ≡ map g (outputs_at C group)
  same_texts group within = map_agrees Q f g agree (outputs_at C group) (at_outputs Q C group all within)

  pub checks_agree : (groups : List (List ℕ)) (p : PartsOf) → All (All (λ place. place < length C.outputs)) groups → with_group_checks C f groups p ≡ with_group_checks C g groups p
  checks_agree [] p within = refl
  checks_agree (group ∷ groups) p within =
      checks_agree groups (with_parity p (map f (outputs_at C group))) (All-tail (All (λ place. place < length C.outputs)) group groups within)
      ∙ ap (λ (list : List (List ℕ)). with_group_checks C g groups (with_parity p list)) (same_texts group (All-head (All (λ place. place < length C.outputs)) group groups within))

  pub texts_agree : (groups : List (List ℕ)) (p : PartsOf) → All (All (λ place. place < length C.outputs)) groups → group_check_texts C f groups p ≡ group_check_texts C g groups p
  texts_agree [] p within = refl
  texts_agree (group ∷ groups) p within =
      ap (λ list. last_name (with_parity p (map f (outputs_at C group))) ∷ list)
      (texts_agree groups (with_parity p (map f (outputs_at C group))) (All-tail (All (λ place. place < length C.outputs)) group groups within))
      ∙ ap (λ (list : List (List ℕ)). last_name (with_parity p list) ∷ group_check_texts C g groups (with_parity p list)) (same_texts group (All-head (All (λ place. place < length C.outputs)) group groups within))

-- the names of a copy of the own covers were made over the parts p, which are then q
pub record CopyMade (S : NetlistOf) (kept : List ℕ) (p q : PartsOf) (names : List Name) : Type 0 where
  pub latchless : length S.circuit.latches ≡ 0
  pub closed : IsClosed S.circuit
  pub is_cone : IsCone S.circuit S.circuit.outputs kept
  pub copy : NamesCopy S kept p q names
  pub fresh : q ≡ with_fresh_names (length kept) p

module _ (S : NetlistOf) (kept : List ℕ) (p q : PartsOf) (names : List Name) (made : CopyMade S kept p q names) where
  outputs_copied : All (IsCopied S.circuit kept) S.circuit.outputs
  outputs_copied = all_copied S.circuit kept made.latchless made.closed made.is_cone

  pub made_nameable : All (IsNameable S.circuit q.names names) kept
  made_nameable = copies_nameable S S.circuit.outputs kept p q names made.latchless made.closed made.is_cone made.copy

  module _ (r : PartsOf) (added : r ≡ with_nodes q (map (node_by S.circuit (λ n. text_of q.names (name_at names n))) kept)) where
    same_names : r.names ≡ q.names
    same_names = ap (λ (s : PartsOf). s.names) added

    pub made_named : All (λ net. IsName r.names (name_at names net)) S.circuit.outputs
    made_named =
        subst (λ (texts : List (List ℕ)). All (λ net. IsName texts (name_at names net)) S.circuit.outputs) (sym same_names)
        (All-weaker (IsCopied S.circuit kept) (λ net. IsName q.names (name_at names net)) (λ net copied. (made.copy.texts net copied).0) S.circuit.outputs outputs_copied)

    pub made_count : length r.names ≡ length p.names + length kept
    made_count = ap (λ (texts : List (List ℕ)). length texts) same_names ∙ ap (λ (s : PartsOf). length s.names) made.fresh ∙ fresh_names_count (length kept) p

    copies_are : r ≡ with_copies S kept p
    unfolding with_copies
    copies_are =
        added ∙ ap (with_nodes q) (copies_named S S.circuit.outputs kept p q names made.latchless made.closed made.is_cone made.copy)
        ∙ ap (λ (s : PartsOf). with_nodes s (map (node_by S.circuit (copy_text S kept p)) kept)) made.fresh

    text_is : (net : ℕ) → IsCopied S.circuit kept net → text_of r.names (name_at names net) ≡ copy_text S kept p net
    text_is net copied = ap (λ (texts : List (List ℕ)). text_of texts (name_at names net)) same_names ∙ (made.copy.texts net copied).1

    pub made_shared : (groups : List (List ℕ)) (t : PartsOf) → All (All (λ place. place < length S.circuit.outputs)) groups
        → t ≡ with_group_checks S.circuit (λ net. text_of r.names (name_at names net)) groups r → t ≡ with_shared S kept groups p
    made_shared groups t within is =
        is ∙ checks_agree (IsCopied S.circuit kept) S.circuit (λ net. text_of r.names (name_at names net)) (copy_text S kept p) text_is outputs_copied groups r within
        ∙ ap (with_group_checks S.circuit (copy_text S kept p) groups) copies_are

    pub made_texts : (groups texts : List (List ℕ)) → All (All (λ place. place < length S.circuit.outputs)) groups
        → texts ≡ group_check_texts S.circuit (λ net. text_of r.names (name_at names net)) groups r → texts ≡ shared_texts S kept groups p
    made_texts groups texts within is =
        is ∙ texts_agree (IsCopied S.circuit kept) S.circuit (λ net. text_of r.names (name_at names net)) (copy_text S kept p) text_is outputs_copied groups r within
        ∙ ap (group_check_texts S.circuit (copy_text S kept p) groups) copies_are
