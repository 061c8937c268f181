-- The latches, the nodes, the outputs and the rails of the joint by names, part by part.
use Rattle.std.proofs.Common.{◌≡◌, ℕ, suc, ◌+◌, ◌<◌, ◌≤◌, ◌==◌, true, false, ◌||◌, if◌then◌else◌, List, [], ◌∷◌, ◌++◌, map, take, length, slice_index_or, All, refl, sym, ap, ap₂, subst, ◌∙◌, arith, inl, inr}
use Rattle.std.specs.Str.{bytes_eq}
use Rattle.std.specs.List.{list_any}
use Rattle.std.proofs.lemmas.Bool.{cases_Bool, cond-true, cond-false, eq-eqb, ne_eqb}
use Rattle.std.proofs.lemmas.List.{length-map, map-append}
use Rattle.std.proofs.lemmas.List.Elements.{All-nil, All-cons, All-head, All-tail, All-append, All-map, All-take, All-weaker, All-from_get_or}
use Rattle.fault_secure.specs.Circuit.{LatchOf, NodeOf, no_node, nets}
use Rattle.tsc_net.specs.Named.{NamedLatch, NamedNode}
use Rattle.tsc_net.specs.Names.{has_text, with_text, text_at, IsNumbering}
use Rattle.tsc_net.specs.NetlistOf.{names_of, named_latches, named_nodes}
use Rattle.tsc_net.proofs.NameLemmas.{bytes_eq_refl, bytes_eq_same}
use Rattle.joint_laws.specs.Parts.{moved_latch, moved_node}
use Rattle.joint_laws.specs.Joint.{PartOf}
use Rattle.joint_laws.specs.JointCircuit.{net_at, parts_from, latches_of, nodes_of, with_new, outputs_from, rails_of}
use Rattle.joint_laws.proofs.Standing.{at_latch, at_node}
use Rattle.module_join.specs.JointNet.{PlannedOf, with_texts, member}
use Rattle.module_join.specs.JoinLaws.{ArePlanned}
use Rattle.joint_text.specs.JointNamed.{part_label, names_under, latches_under, nodes_under, shown_from, rail_names}
use Rattle.joint_text.proofs.Follows.{Follow}

-- ---- latches and nodes after others

pub latches-append : (names : List (List ℕ)) (at : ℕ) (xs ys : List LatchOf) → named_latches names at (xs ++ ys) ≡ named_latches names at xs ++ named_latches names (at + length xs) ys
latches-append names at [] ys = let e : at ≡ at + 0 = omega arith in ap (λ n. named_latches names n ys) e
latches-append names at (x ∷ xs) ys =
    let e : at + 1 + length xs ≡ at + length (x ∷ xs) = omega arith in
    let first : NamedLatch = record { reads = text_at names x.reads; out = text_at names at; init = x.init } in
    ap (λ (ls : List NamedLatch). first ∷ ls) (latches-append names (at + 1) xs ys ∙ ap (λ n. named_latches names (at + 1) xs ++ named_latches names n ys) e)

pub nodes-append : (names : List (List ℕ)) (at : ℕ) (xs ys : List NodeOf) → named_nodes names at (xs ++ ys) ≡ named_nodes names at xs ++ named_nodes names (at + length xs) ys
nodes-append names at [] ys = let e : at ≡ at + 0 = omega arith in ap (λ n. named_nodes names n ys) e
nodes-append names at (x ∷ xs) ys =
    let e : at + 1 + length xs ≡ at + length (x ∷ xs) = omega arith in
    let first : NamedNode = record { reads = names_of names x.reads; out = text_at names at; cover = x.cover } in
    ap (λ (ns : List NamedNode). first ∷ ns) (nodes-append names (at + 1) xs ys ∙ ap (λ n. named_nodes names (at + 1) xs ++ named_nodes names n ys) e)

-- ---- one part

module _ (names own : List (List ℕ)) (at : ℕ → ℕ) (bound : ℕ) (named : (net : ℕ) → net < bound → text_at names (at net) ≡ text_at own net) where
  pub names_moved : (ns : List ℕ) → All (λ net. net < bound) ns → names_of names (map at ns) ≡ names_of own ns
  names_moved [] known = refl
  names_moved (n ∷ ns) known =
      let Known : ℕ → Type 0 = λ net. net < bound in
      ap₂ (λ (t : List ℕ) (ts : List (List ℕ)). t ∷ ts) (named n (All-head Known n ns known)) (names_moved ns (All-tail Known n ns known))

  out_moved : (from start : ℕ) → from < bound → at (from + 0) ≡ start + 0 → text_at names start ≡ text_at own from
  out_moved from start low e =
      let a : from + 0 ≡ from = omega arith in
      let b : start + 0 ≡ start = omega arith in
      ap (text_at names) (sym (sym (ap at a) ∙ e ∙ b)) ∙ named from low

  pub latches_moved : (from start : ℕ) (ls : List LatchOf) → All (λ l. l.reads < bound) ls → from + length ls ≤ bound
      → ((k : ℕ) → k < length ls → at (from + k) ≡ start + k) → named_latches names start (map (moved_latch at) ls) ≡ named_latches own from ls
  latches_moved from start [] known fits places = refl
  latches_moved from start (l ∷ ls) known fits places =
      let Known : LatchOf → Type 0 = λ l. l.reads < bound in
      let one : List ℕ → List ℕ → NamedLatch = λ reads out. record { reads = reads; out = out; init = l.init } in
      ap₂ (λ (f : NamedLatch) (rest : List NamedLatch). f ∷ rest)
      (ap₂ one (named l.reads (All-head Known l ls known)) (out_moved from start (omega arith) (places 0 (omega arith))))
      (latches_moved (from + 1) (start + 1) ls (All-tail Known l ls known) (omega arith)
      (λ k h. let a : from + 1 + k ≡ from + suc k = omega arith in let b : start + suc k ≡ start + 1 + k = omega arith in ap at a ∙ places (suc k) (omega arith) ∙ b))

  pub nodes_moved : (from start : ℕ) (ns : List NodeOf) → ((k : ℕ) → k < length ns → All (λ net. net < bound) (slice_index_or ns k no_node).reads) → from + length ns ≤ bound
      → ((k : ℕ) → k < length ns → at (from + k) ≡ start + k) → named_nodes names start (map (moved_node at) ns) ≡ named_nodes own from ns
  nodes_moved from start [] known fits places = refl
  nodes_moved from start (n ∷ ns) known fits places =
      let one : List (List ℕ) → List ℕ → NamedNode = λ reads out. record { reads = reads; out = out; cover = n.cover } in
      ap₂ (λ (f : NamedNode) (rest : List NamedNode). f ∷ rest)
      (ap₂ one (names_moved n.reads (known 0 (omega arith))) (out_moved from start (omega arith) (places 0 (omega arith))))
      (nodes_moved (from + 1) (start + 1) ns (λ k h. known (suc k) (omega arith)) (omega arith)
      (λ k h. let a : from + 1 + k ≡ from + suc k = omega arith in let b : start + suc k ≡ start + 1 + k = omega arith in ap at a ∙ places (suc k) (omega arith) ∙ b))

-- ---- names that are shown, each once

module _ (names : List (List ℕ)) (numbering : IsNumbering names) where
  abbrev InNames : ℕ → Type 0
  InNames net = net < length names

  same_test : (net other : ℕ) → net < length names → other < length names → (net == other) ≡ bytes_eq (text_at names net) (text_at names other)
  same_test net other a b = elim (cases_Bool (bytes_eq (text_at names net) (text_at names other))) [
    | inl e ↦ eq-eqb net other (numbering.distinct net other a b (bytes_eq_same (text_at names net) (text_at names other) e)) ∙ sym e
    | inr e ↦
        ne_eqb net other (λ same. absurd (differ (sym (bytes_eq_refl (text_at names net)) ∙ ap (λ n. bytes_eq (text_at names net) (text_at names n)) same ∙ e)))
        ∙ sym e
  ]
    where
      differ : true ≡ false → ⊥
      differ e = cc

  any_same : (net : ℕ) (shown : List ℕ) → net < length names → All (λ n. n < length names) shown
      → list_any (λ other. net == other) shown ≡ has_text (names_of names shown) (text_at names net)
  any_same net [] low all = refl
  any_same net (x ∷ shown) low all =
      ap₂ (λ a b. a || b) (same_test net x low (All-head InNames x shown all)) (any_same net shown low (All-tail InNames x shown all))

  one_new : (net : ℕ) (shown : List ℕ) → net < length names → All (λ n. n < length names) shown
      → names_of names (if list_any (λ other. net == other) shown then shown else shown ++ net ∷ []) ≡ with_text (names_of names shown) (text_at names net)
  one_new net shown low all = elim (cases_Bool (list_any (λ other. net == other) shown)) [
    | inl e ↦
        ap (names_of names) (cond-true (list_any (λ other. net == other) shown) shown (shown ++ net ∷ []) e)
        ∙ sym (cond-true (has_text (names_of names shown) (text_at names net)) (names_of names shown) (names_of names shown ++ text_at names net ∷ []) (sym (any_same net shown low all) ∙ e))
    | inr e ↦
        ap (names_of names) (cond-false (list_any (λ other. net == other) shown) shown (shown ++ net ∷ []) e)
        ∙ map-append (text_at names) shown (net ∷ [])
        ∙ sym (cond-false (has_text (names_of names shown) (text_at names net)) (names_of names shown) (names_of names shown ++ text_at names net ∷ []) (sym (any_same net shown low all) ∙ e))
  ]

  one_within : (net : ℕ) (shown : List ℕ) → net < length names → All (λ n. n < length names) shown
      → All (λ n. n < length names) (if list_any (λ other. net == other) shown then shown else shown ++ net ∷ [])
  one_within net shown low all = elim (cases_Bool (list_any (λ other. net == other) shown)) [
    | inl e ↦ subst (All InNames) (sym (cond-true (list_any (λ other. net == other) shown) shown (shown ++ net ∷ []) e)) all
    | inr e ↦
        subst (All InNames) (sym (cond-false (list_any (λ other. net == other) shown) shown (shown ++ net ∷ []) e))
        (All-append InNames shown (net ∷ []) all (All-cons InNames net [] low (All-nil InNames)))
  ]

  pub all_new : (shown more : List ℕ) → All (λ n. n < length names) shown → All (λ n. n < length names) more
      → names_of names (with_new shown more) ≡ with_texts (names_of names shown) (names_of names more)
  all_new shown [] all known = refl
  all_new shown (net ∷ more) all known =
      let low = All-head InNames net more known in
      all_new (if list_any (λ other. net == other) shown then shown else shown ++ net ∷ []) more (one_within net shown low all) (All-tail InNames net more known)
      ∙ ap (λ (seen : List (List ℕ)). with_texts seen (names_of names more)) (one_new net shown low all)

  pub new_within : (shown more : List ℕ) → All (λ n. n < length names) shown → All (λ n. n < length names) more → All (λ n. n < length names) (with_new shown more)
  new_within shown [] all known = all
  new_within shown (net ∷ more) all known =
      new_within (if list_any (λ other. net == other) shown then shown else shown ++ net ∷ []) more (one_within net shown (All-head InNames net more known) all) (All-tail InNames net more known)

-- ---- all parts

module _ (names ins : List (List ℕ)) (prefix : List ℕ) (inputs latches past : ℕ) where
  abbrev placed : ℕ → ℕ → List PlannedOf → List PartOf
  placed fl fn parts = parts_from inputs latches past fl fn (map (member ins) parts)

  pub latches_all : (fl fn i : ℕ) (parts : List PlannedOf) → ArePlanned parts → Follow names prefix i (placed fl fn parts) parts
      → named_latches names (inputs + fl) (latches_of (placed fl fn parts)) ≡ latches_under prefix i parts
  latches_all fl fn i [] are follow = refl
  latches_all fl fn i (p ∷ parts) are follow =
      let at = net_at inputs latches past fl fn (member ins p) in
      let C = p.net.circuit in
      let own = names_under (part_label prefix i) p.net in
      let next : inputs + fl + length (map (moved_latch at) C.latches) ≡ inputs + (fl + length C.latches) = omega (arith, length-map C.latches (moved_latch at)) in
      latches-append names (inputs + fl) (map (moved_latch at) C.latches) (latches_of (placed (fl + length C.latches) (fn + length C.nodes) parts))
      ∙ ap₂ (λ (xs ys : List NamedLatch). xs ++ ys)
      (latches_moved names own at (nets C) follow.0.named C.inputs (inputs + fl) C.latches are.0.built.closed.latches (omega arith)
      (λ k h. at_latch inputs latches past fl fn (member ins p) k h ∙ omega arith))
      (ap (λ n. named_latches names n (latches_of (placed (fl + length C.latches) (fn + length C.nodes) parts))) next
      ∙ latches_all (fl + length C.latches) (fn + length C.nodes) (i + 1) parts are.1 follow.1)

  pub nodes_all : (fl fn i : ℕ) (parts : List PlannedOf) → ArePlanned parts → Follow names prefix i (placed fl fn parts) parts
      → named_nodes names (inputs + latches + fn) (nodes_of (placed fl fn parts)) ≡ nodes_under prefix i parts
  nodes_all fl fn i [] are follow = refl
  nodes_all fl fn i (p ∷ parts) are follow =
      let at = net_at inputs latches past fl fn (member ins p) in
      let C = p.net.circuit in
      let own = names_under (part_label prefix i) p.net in
      let next : inputs + latches + fn + length (map (moved_node at) C.nodes) ≡ inputs + latches + (fn + length C.nodes) = omega (arith, length-map C.nodes (moved_node at)) in
      nodes-append names (inputs + latches + fn) (map (moved_node at) C.nodes) (nodes_of (placed (fl + length C.latches) (fn + length C.nodes) parts))
      ∙ ap₂ (λ (xs ys : List NamedNode). xs ++ ys)
      (nodes_moved names own at (nets C) follow.0.named (C.inputs + length C.latches) (inputs + latches + fn) C.nodes
      (λ k h. All-from_get_or (λ net. net < nets C) (slice_index_or C.nodes k no_node).reads 0 (λ pin l. are.0.built.closed.pins k pin h l)) (omega arith)
      (λ k h. at_node inputs latches past fl fn (member ins p) k h ∙ omega arith))
      (ap (λ n. named_nodes names n (nodes_of (placed (fl + length C.latches) (fn + length C.nodes) parts))) next
      ∙ nodes_all (fl + length C.latches) (fn + length C.nodes) (i + 1) parts are.1 follow.1)

  pub outputs_all : IsNumbering names → (fl fn i : ℕ) (parts : List PlannedOf) (shown : List ℕ) → ArePlanned parts → Follow names prefix i (placed fl fn parts) parts
      → All (λ n. n < length names) shown → names_of names (outputs_from shown (placed fl fn parts)) ≡ shown_from prefix i (names_of names shown) parts
  outputs_all numbering fl fn i [] shown are follow all = refl
  outputs_all numbering fl fn i (p ∷ parts) shown are follow all =
      let at = net_at inputs latches past fl fn (member ins p) in
      let C = p.net.circuit in
      let some = take p.plan.outputs C.outputs in
      let known : All (λ net. net < nets p.net.circuit) (take p.plan.outputs p.net.circuit.outputs) =
      All-take (λ net. net < nets p.net.circuit) p.plan.outputs p.net.circuit.outputs are.0.built.closed.outputs in
      let moved : All (λ n. n < length names) (map (net_at inputs latches past fl fn (member ins p)) (take p.plan.outputs p.net.circuit.outputs)) =
      All-map (λ n. n < length names) at some (All-weaker (λ net. net < nets C) (λ net. at net < length names) (λ net h. follow.0.within net h) some known) in
      outputs_all numbering (fl + length C.latches) (fn + length C.nodes) (i + 1) parts (with_new shown (map at some)) are.1 follow.1
      (new_within names numbering shown (map at some) all moved)
      ∙ ap (λ (seen : List (List ℕ)). shown_from prefix (i + 1) seen parts)
      (all_new names numbering shown (map at some) all moved
      ∙ ap (with_texts (names_of names shown)) (names_moved names (names_under (part_label prefix i) p.net) at (nets C) follow.0.named some known))

  pub rails_all : (fl fn i : ℕ) (parts : List PlannedOf) → ArePlanned parts → Follow names prefix i (placed fl fn parts) parts
      → names_of names (rails_of (placed fl fn parts)) ≡ rail_names prefix i parts
  rails_all fl fn i [] are follow = refl
  rails_all fl fn i (p ∷ parts) are follow =
      let C = p.net.circuit in
      ap₂ (λ (xs ys : List (List ℕ)). xs ++ ys)
      (ap₂ (λ (a b : List ℕ). a ∷ (b ∷ [])) (follow.0.named p.plan.rail1 are.0.plan.rails.0) (follow.0.named p.plan.rail2 are.0.plan.rails.1))
      (rails_all (fl + length C.latches) (fn + length C.nodes) (i + 1) parts are.1 follow.1)
