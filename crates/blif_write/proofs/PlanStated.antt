-- The plan that the lines of a layout state is the plan.
use Rattle.std.proofs.Common.{◌≡◌, ℕ, zero, suc, ◌+◌, ◌-◌, ◌<◌, Bool, true, not, cond, if◌then◌else◌, eqb, List, [], ◌∷◌, ◌++◌, codes, length, map, take, get_or, refl, sym, ap, ap₂, ◌∙◌, subst, arith, inl, inr, ◌⊎◌, length-append, append-nil, All, eq-eqb, ne_eqb, nat_lt, position, None, Some}
use Rattle.std.specs.List.{flat_map, position_or_len}
use Rattle.std.specs.Str.{bytes_eq}
use Rattle.std.proofs.lemmas.List.{take_at, get_or-take, length-take-le}
use Rattle.std.proofs.lemmas.List.Elements.{All-head, All-tail}
use Rattle.std.specs.Option.{unwrap_or}
use Rattle.std.proofs.lemmas.Grind.{common_steps}
use Rattle.tsc_text.specs.TextLine.{TextLine}
use Rattle.tsc_text.specs.Written.{numbered}
use Rattle.fault_secure.specs.Circuit.{nets}
use Rattle.fault_secure.specs.CodePlan.{CodePlan, IsPlanOf, IsWellMade, HasShape, HasStates, concat_places}
use Rattle.tsc_net.specs.Names.{text_at}
use Rattle.tsc_net.specs.NetlistOf.{NetlistOf, IsBuilt, names_of, named_of}
use Rattle.fault_secure.specs.declared.code.Code.{Code}
use Rattle.fault_secure.specs.declared.code.Code.TheVariants.{Parity, Berger, MOutOfN}
use Rattle.blif_read.specs.LineKind.{pins_of, net_of}
use Rattle.blif_read.specs.PlanText.{group_outputs, group_checks, check_names, state_words, group_outputs_at, group_check_at, checks_at, state_at, bits_of_word, weight_of, code_named, net_named, output_place, source_outputs, groups_for, checks_for, plan_with}
use Rattle.blif_write.specs.NamedPlan.{NamedPlan, named_plan, named_groups, output_name}
use Rattle.blif_write.specs.Layout.{word_of_bits, version_word, code_word, code_line, group_line, check_lines, section_lines}
use Rattle.blif_write.specs.Writable.{IsWritable}
use Rattle.blif_write.proofs.LineKinds.{at}
use Rattle.blif_write.proofs.NetBack.{place-of_name}
use Rattle.blif_write.proofs.StateWords.{states-back, weight-back}
use Rattle.blif_write.proofs.PlanBack.{IsSelection, sel-plan, sel-section}
use Rattle.blif_read.proofs.PlanMade.{get_or-last}
use Rattle.tsc_bits.proofs.Lists.{all_left, all_right}

outputs-sel : IsSelection group_outputs_at group_outputs
outputs-sel = record { none = refl; more = λ line lines. refl; other = λ line. refl; code = λ line. refl }

group_checks-sel : IsSelection group_check_at group_checks
group_checks-sel = record { none = refl; more = λ line lines. refl; other = λ line. refl; code = λ line. refl }

check_names-sel : IsSelection checks_at check_names
check_names-sel = record { none = refl; more = λ line lines. refl; other = λ line. refl; code = λ line. refl }

states-sel : IsSelection state_at state_words
states-sel = record { none = refl; more = λ line lines. refl; other = λ line. refl; code = λ line. refl }

pub flat-nothing : {A B : Type 0} (xs : List B) → flat_map (λ (x : B). let none : List A = [] in none) xs ≡ []
flat-nothing [] = refl
flat-nothing (x ∷ xs) = flat-nothing xs

flat-one : {A B : Type 0} (f : B → A) (xs : List B) → flat_map (λ x. f x ∷ []) xs ≡ map f xs
flat-one f [] = refl
flat-one f (x ∷ xs) = ap (λ ys. f x ∷ ys) (flat-one f xs)

-- the outputs and the check of a group line
group-pins : (n : ℕ) (xs : List (List ℕ)) (y : List ℕ) → pins_of (at n (group_line (xs ++ y ∷ []))) ≡ xs
group-pins n xs y =
    let count = length-append xs (y ∷ []) in
    let pins : length (at n (group_line (xs ++ y ∷ []))).words - 1 - 1 ≡ length xs = omega arith in
    ap (λ m. take m (xs ++ y ∷ [])) pins ∙ take_at xs (y ∷ []) (length xs) refl

group-net : (n : ℕ) (xs : List (List ℕ)) (y : List ℕ) → net_of (at n (group_line (xs ++ y ∷ []))) ≡ y
group-net n xs y =
    let count = length-append xs (y ∷ []) in
    let last : length (at n (group_line (xs ++ y ∷ []))).words - 1 ≡ suc (length xs) = omega arith in
    ap (λ m. get_or (at n (group_line (xs ++ y ∷ []))).words m []) last ∙ get_or-last xs y

groups-outputs : (net : NetlistOf) (groups : List (List ℕ)) (checks : List ℕ) → length checks ≡ length groups → flat_map (λ names. pins_of (at 0 (group_line names)) ∷ []) (named_groups net groups checks) ≡ map (λ places. map (output_name net) places) groups
groups-outputs net [] checks e = refl
groups-outputs net (group ∷ groups) [] e = absurd (omega arith)
groups-outputs net (group ∷ groups) (check ∷ checks) e =
    ap₂ (λ x xs. x ∷ xs) (group-pins 0 (map (output_name net) group) (text_at net.names check)) (groups-outputs net groups checks (omega arith))

groups-checks : (net : NetlistOf) (groups : List (List ℕ)) (checks : List ℕ) → length checks ≡ length groups → flat_map (λ names. net_of (at 0 (group_line names)) ∷ []) (named_groups net groups checks) ≡ names_of net.names checks
groups-checks net [] [] e = refl
groups-checks net [] (check ∷ checks) e = absurd (omega arith)
groups-checks net (group ∷ groups) [] e = absurd (omega arith)
groups-checks net (group ∷ groups) (check ∷ checks) e =
    ap₂ (λ x xs. x ∷ xs) (group-net 0 (map (output_name net) group) (text_at net.names check)) (groups-checks net groups checks (omega arith))

-- numbers of names
below : (a b : ℕ) → a < b → nat_lt a b ≡ true
below a b h = grind (arith, common_steps)

position-found : {A : Type 0} (p : A → Bool) (xs : List A) (i : ℕ) → position_or_len p xs ≡ i → i < length xs → position p xs ≡ Some i
position-found p xs i e h =
    ap (λ m. cond (nat_lt m (length xs)) (Some m) None) e ∙ ap (λ (b : Bool). cond b (Some i) None) (below i (length xs) h)

place-back : (net : NetlistOf) → IsBuilt net → (i : ℕ) → i < nets net.circuit → net_named net (text_at net.names i) ≡ i
place-back net c i h =
    let sized = c.sized in
    let within : i < length net.names = omega arith in
    ap (λ found. unwrap_or found 0) (position-found (bytes_eq (text_at net.names i)) net.names i (place-of_name net.names c.numbering i within) within)

names-back : (net : NetlistOf) → IsBuilt net → (list : List ℕ) → All (λ i. i < nets net.circuit) list → map (net_named net) (names_of net.names list) ≡ list
names-back net c [] h = refl
names-back net c (i ∷ list) h =
    let Known : ℕ → Type 0 = λ i. i < nets net.circuit in
    ap₂ (λ x xs. x ∷ xs) (place-back net c i (All-head Known i list h)) (names-back net c list (All-tail Known i list h))

first-place : (y : ℕ) (xs : List ℕ) (i : ℕ) → i < length xs → get_or xs i 0 ≡ y → ((j : ℕ) → j < i → get_or xs j 0 ≡ y → ⊥) → position_or_len (λ o. eqb o y) xs ≡ i
first-place y [] i h e f = absurd (omega arith)
first-place y (x ∷ xs) zero h e f = ap (λ (b : Bool). cond (not b) (1 + position_or_len (λ o. eqb o y) xs) 0) (eq-eqb x y e)
first-place y (x ∷ xs) (suc i) h e f =
    let rest : position_or_len (λ o. eqb o y) xs ≡ i = first-place y xs i (omega arith) e (λ j k g. f (suc j) (omega arith) g) in
    ap (λ (b : Bool). cond (not b) (1 + position_or_len (λ o. eqb o y) xs) 0) (ne_eqb x y (f 0 (omega arith))) ∙ (let next : 1 + position_or_len (λ o. eqb o y) xs ≡ suc i = omega (arith, rest) in next)

output-back : (net : NetlistOf) → IsWritable net → IsBuilt net → (place : ℕ) → place < source_outputs net → output_place net (output_name net place) ≡ place
output-back net w c place h =
    let outputs = net.circuit.outputs in
    let many : ℕ = source_outputs net in
    let long : length (take many outputs) ≡ many = length-take-le many outputs (omega arith) in
    let here : get_or (take many outputs) place 0 ≡ get_or outputs place 0 = get_or-take many outputs place 0 h in
    let inside : place < length outputs = omega arith in
    let first : position_or_len (λ o. eqb o (get_or outputs place 0)) (take many outputs) ≡ place =
    first-place (get_or outputs place 0) (take many outputs) place (omega arith) here
    (λ j k e. w.different j place k inside (sym (get_or-take many outputs j 0 (omega arith)) ∙ e)) in
    ap (λ number. unwrap_or (position (λ o. eqb o number) (take many outputs)) many) (place-back net c (get_or outputs place 0) (c.closed.outputs place 0 inside))
    ∙ ap (λ found. unwrap_or found many) (position-found (λ o. eqb o (get_or outputs place 0)) (take many outputs) place first (omega arith))

places-back : (net : NetlistOf) → IsWritable net → IsBuilt net → (places : List ℕ) → All (λ place. place < source_outputs net) places → map (output_place net) (map (output_name net) places) ≡ places
places-back net w c [] h = refl
places-back net w c (place ∷ places) h =
    let Low : ℕ → Type 0 = λ place. place < source_outputs net in
    ap₂ (λ x xs. x ∷ xs) (output-back net w c place (All-head Low place places h)) (places-back net w c places (All-tail Low place places h))

groups-back : (net : NetlistOf) → IsWritable net → IsBuilt net → (groups : List (List ℕ)) → All (λ place. place < source_outputs net) (concat_places groups) → map (λ names. map (output_place net) names) (map (λ places. map (output_name net) places) groups) ≡ groups
groups-back net w c [] h = refl
groups-back net w c (group ∷ groups) h =
    let Low : ℕ → Type 0 = λ place. place < source_outputs net in
    ap₂ (λ x xs. x ∷ xs) (places-back net w c group (all_left Low group (concat_places groups) h)) (groups-back net w c groups (all_right Low group (concat_places groups) h))

-- the selections of a layout
group_outputs-back : (net : NetlistOf) (P : CodePlan) → IsWellMade P → P.code ≡ Parity → group_outputs (numbered 1 (section_lines (named_of net) (named_plan net P))) ≡ map (λ places. map (output_name net) places) P.groups
group_outputs-back net P made e =
    let Q : NamedPlan = named_plan net P in
    let g : List (List ℕ) → List (List (List ℕ)) = λ names. pins_of (at 0 (group_line names)) ∷ [] in
    let Shaped : Code → Type 0 = λ c. HasShape c P in
    let shape : HasShape Parity P = subst Shaped e made.shape in
    sel-section group_outputs_at group_outputs outputs-sel (named_of net) Q made.versioned (λ bits. []) (λ bits n. refl) (flat_map g Q.groups)
    (λ n rest. ap (λ c. group_outputs (numbered n (check_lines c Q) ++ rest)) e ∙ sel-plan group_outputs_at group_outputs outputs-sel group_line g Q.groups (λ names m. refl) n rest)
    ∙ ap₂ (λ (x y : List (List (List ℕ))). x ++ y) (groups-outputs net P.groups P.checks shape.paired) (flat-nothing P.states)
    ∙ append-nil (map (λ places. map (output_name net) places) P.groups)

pub group_checks-back : (net : NetlistOf) (P : CodePlan) → IsWellMade P → P.code ≡ Parity → group_checks (numbered 1 (section_lines (named_of net) (named_plan net P))) ≡ names_of net.names P.checks
group_checks-back net P made e =
    let Q : NamedPlan = named_plan net P in
    let g : List (List ℕ) → List (List ℕ) = λ names. net_of (at 0 (group_line names)) ∷ [] in
    let Shaped : Code → Type 0 = λ c. HasShape c P in
    let shape : HasShape Parity P = subst Shaped e made.shape in
    sel-section group_check_at group_checks group_checks-sel (named_of net) Q made.versioned (λ bits. []) (λ bits n. refl) (flat_map g Q.groups)
    (λ n rest. ap (λ c. group_checks (numbered n (check_lines c Q) ++ rest)) e ∙ sel-plan group_check_at group_checks group_checks-sel group_line g Q.groups (λ names m. refl) n rest)
    ∙ ap₂ (λ (x y : List (List ℕ)). x ++ y) (groups-checks net P.groups P.checks shape.paired) (flat-nothing P.states)
    ∙ append-nil (names_of net.names P.checks)

pub check_names-back : (net : NetlistOf) (P : CodePlan) → IsWellMade P → (code : Code) → P.code ≡ code → (code ≡ Parity → ⊥) → check_names (numbered 1 (section_lines (named_of net) (named_plan net P))) ≡ names_of net.names P.checks
check_names-back net P made code e other =
    let Q : NamedPlan = named_plan net P in
    sel-section checks_at check_names check_names-sel (named_of net) Q made.versioned (λ bits. []) (λ bits n. refl) (names_of net.names P.checks)
    (λ n rest. ap (λ c. check_names (numbered n (check_lines c Q) ++ rest)) e ∙ one code other n rest)
    ∙ ap (λ (y : List (List ℕ)). names_of net.names P.checks ++ y) (flat-nothing P.states)
    ∙ append-nil (names_of net.names P.checks)
  where
    one : (code : Code) → (code ≡ Parity → ⊥) → (n : ℕ) (rest : List TextLine) → check_names (numbered n (check_lines code (named_plan net P)) ++ rest) ≡ names_of net.names P.checks ++ check_names rest
    one Parity other n rest = absurd (other refl)
    one Berger other n rest = refl
    one MOutOfN other n rest = refl

pub state_words-back : (net : NetlistOf) (P : CodePlan) → IsWellMade P → state_words (numbered 1 (section_lines (named_of net) (named_plan net P))) ≡ map word_of_bits P.states
state_words-back net P made =
    let Q : NamedPlan = named_plan net P in
    sel-section state_at state_words states-sel (named_of net) Q made.versioned (λ bits. word_of_bits bits ∷ []) (λ bits n. refl) [] (none P.code)
    ∙ flat-one word_of_bits P.states
  where
    none : (code : Code) (n : ℕ) (rest : List TextLine) → state_words (numbered n (check_lines code (named_plan net P)) ++ rest) ≡ state_words rest
    none Parity n rest = sel-plan state_at state_words states-sel group_line (λ names. []) (named_plan net P).groups (λ names m. refl) n rest
        ∙ ap (λ (xs : List (List ℕ)). xs ++ state_words rest) (flat-nothing (named_plan net P).groups)
    none Berger n rest = refl
    none MOutOfN n rest = refl

-- the parts of the plan
version-back : (version : ℕ) → (version ≡ 1) ⊎ (version ≡ 2) → (if bytes_eq (version_word version) (codes "1") then 1 else 2) ≡ version
version-back version (inl e) = ap (λ v. if bytes_eq (version_word v) (codes "1") then 1 else 2) e ∙ sym e
version-back version (inr e) = ap (λ v. if bytes_eq (version_word v) (codes "1") then 1 else 2) e ∙ sym e

pub code-back : (code : Code) → code_named (code_word code) ≡ code
code-back Parity = refl
code-back Berger = refl
code-back MOutOfN = refl

checks-back : (net : NetlistOf) → IsBuilt net → (P : CodePlan) → IsWellMade P → IsPlanOf net.circuit P → (code : Code) → P.code ≡ code → map (net_named net) (checks_for code (numbered 1 (section_lines (named_of net) (named_plan net P)))) ≡ P.checks
checks-back net c P made of Parity e = ap (map (net_named net)) (group_checks-back net P made e) ∙ names-back net c P.checks of.checks
checks-back net c P made of Berger e = ap (map (net_named net)) (check_names-back net P made Berger e (λ f. cc)) ∙ names-back net c P.checks of.checks
checks-back net c P made of MOutOfN e = ap (map (net_named net)) (check_names-back net P made MOutOfN e (λ f. cc)) ∙ names-back net c P.checks of.checks

pub places-low : (net : NetlistOf) (P : CodePlan) → IsPlanOf net.circuit P → source_outputs net ≡ P.outputs
places-low net P of = let count = of.outputs in omega arith

pub groups-stated : (net : NetlistOf) → IsWritable net → IsBuilt net → (P : CodePlan) → IsWellMade P → IsPlanOf net.circuit P → (code : Code) → P.code ≡ code → groups_for code net (numbered 1 (section_lines (named_of net) (named_plan net P))) ≡ P.groups
groups-stated net w c P made of Parity e =
    let Shaped : Code → Type 0 = λ c. HasShape c P in
    let shape : HasShape Parity P = subst Shaped e made.shape in
    let Low : ℕ → Type 0 = λ most. All (λ place. place < most) (concat_places P.groups) in
    ap (map (λ names. map (output_place net) names)) (group_outputs-back net P made e)
    ∙ groups-back net w c P.groups (subst Low (sym (places-low net P of)) shape.within)
groups-stated net w c P made of Berger e = let Shaped : Code → Type 0 = λ c. HasShape c P in let shape : HasShape Berger P = subst Shaped e made.shape in sym shape.0
groups-stated net w c P made of MOutOfN e = let Shaped : Code → Type 0 = λ c. HasShape c P in let shape : HasShape MOutOfN P = subst Shaped e made.shape in sym shape.0

abbrev plan-of : ℕ → Code → ℕ → List ℕ → List (List ℕ) → ℕ → ℕ → List (List Bool) → ℕ → ℕ → CodePlan
plan-of version code outputs checks groups latches weight states rail1 rail2 = record {
  version = version;
  code = code;
  outputs = outputs;
  checks = checks;
  groups = groups;
  latches = latches;
  weight = weight;
  states = states;
  rail1 = rail1;
  rail2 = rail2;
}

-- the plan that the lines state is the plan
pub plan-stated : (net : NetlistOf) → IsWritable net → IsBuilt net → (P : CodePlan) → IsWellMade P → IsPlanOf net.circuit P
    → plan_with (at 4 (code_line P.version P.code)) (numbered 1 (section_lines (named_of net) (named_plan net P))) net ≡ P
plan-stated net w c P made of =
    let lines : List TextLine = numbered 1 (section_lines (named_of net) (named_plan net P)) in
    let outputs = net.circuit.outputs in
    let states : state_words lines ≡ map word_of_bits P.states = state_words-back net P made in
    let code : code_named (code_word P.code) ≡ P.code = code-back P.code in
    let count : source_outputs net ≡ P.outputs = places-low net P of in
    let next : source_outputs net + 1 ≡ P.outputs + 1 = ap (λ n. n + 1) count in
    let h : HasStates P = made.states in
    ap₂ (λ v k. plan-of v k (source_outputs net) (map (net_named net) (checks_for k lines)) (groups_for k net lines) (length net.circuit.latches) (weight_of (state_words lines)) (map bits_of_word (state_words lines)) (get_or outputs (source_outputs net) 0) (get_or outputs (source_outputs net + 1) 0)) (version-back P.version made.versioned) code
    ∙ ap₂ (λ cs gs. plan-of P.version P.code (source_outputs net) cs gs (length net.circuit.latches) (weight_of (state_words lines)) (map bits_of_word (state_words lines)) (get_or outputs (source_outputs net) 0) (get_or outputs (source_outputs net + 1) 0)) (checks-back net c P made of P.code refl) (groups-stated net w c P made of P.code refl)
    ∙ ap₂ (λ l ws. plan-of P.version P.code (source_outputs net) P.checks P.groups l (weight_of ws) (map bits_of_word ws) (get_or outputs (source_outputs net) 0) (get_or outputs (source_outputs net + 1) 0)) (sym of.latches) states
    ∙ ap₂ (λ m ss. plan-of P.version P.code (source_outputs net) P.checks P.groups P.latches m ss (get_or outputs (source_outputs net) 0) (get_or outputs (source_outputs net + 1) 0)) (weight-back P.states P.latches P.weight (λ e. (h.none e).1) (λ k. (h.some k).0) h.weighed) (states-back P.states)
    ∙ ap₂ (λ o n. plan-of P.version P.code o P.checks P.groups P.latches P.weight P.states (get_or outputs o 0) (get_or outputs n 0)) count next
    ∙ ap₂ (λ r s. plan-of P.version P.code P.outputs P.checks P.groups P.latches P.weight P.states r s) of.rail1 of.rail2
