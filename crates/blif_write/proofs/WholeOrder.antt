-- A circuit without a ring has a whole evaluation order.
use Rattle.std.proofs.Common.{◌≡◌, ℕ, zero, suc, ◌+◌, ◌-◌, ◌<◌, ◌≤◌, ◌⊎◌, Bool, true, false, not, ◌&&◌, List, [], ◌∷◌, ◌++◌, length, All, Option, None, Some, get_or, refl, sym, ap, ◌∙◌, subst, arith, if◌then◌else◌, inl, inr, length-append, nat_lt}
use Rattle.std.specs.List.{list_all}
use Rattle.std.proofs.lemmas.Bool.Decides.{nat_tests}
use Rattle.std.proofs.lemmas.Bool.{cases_Bool}
use Rattle.std.proofs.lemmas.List.{get_or-map, length-map}
use Rattle.std.proofs.lemmas.List.Elements.{All-nil, All-cons, All-head, All-tail, All-from_get_or}
use Rattle.std.proofs.lemmas.Map.Steps.{le-length_from_below}
use Rattle.fault_secure.specs.Circuit.{Circuit, node, node_net, no_node}
use Rattle.fault_secure.specs.Closed.{IsClosed}
use Rattle.fault_secure.specs.Settle.{Acyclic}
use Rattle.tsc_net.specs.Order.{has_place, fan_in, fan_ins, next_node, order_from, evaluation_order, has_whole_order, ReadsWithin}
use Rattle.tsc_bits.specs.Lists.{list_at}
use Rattle.tsc_net.proofs.OrderedLemmas.{closed_reads}
use Rattle.tsc_net.proofs.OrderSteps.{is_next, list_all-by, none_may}
use Rattle.tsc_net.proofs.RingWithin.{has_place-eqb}

-- the order has the nodes listed so far and as many more as it may, or at most as many and none is next
ended : (most : ℕ) (fans : List (List ℕ)) (listed : List ℕ) → (length (order_from most fans listed) ≡ length listed + most)
    ⊎ ((length (order_from most fans listed) ≤ length listed + most) × (next_node fans (order_from most fans listed) ≡ None))
ended zero fans listed = inl (omega arith)
ended (suc most) fans listed = by (next_node fans listed) refl (λ more. ended most fans more)
  where
    by : (r : Option ℕ) → next_node fans listed ≡ r
        → ((more : List ℕ) → (length (order_from most fans more) ≡ length more + most) ⊎ ((length (order_from most fans more) ≤ length more + most) × (next_node fans (order_from most fans more) ≡ None)))
        → (length {A = ℕ} (elim r [ None ↦ listed | Some j ↦ order_from most fans (listed ++ j ∷ []) ]) ≡ length listed + suc most)
        ⊎ ((length {A = ℕ} (elim r [ None ↦ listed | Some j ↦ order_from most fans (listed ++ j ∷ []) ]) ≤ length listed + suc most)
        × (next_node fans (elim r [ None ↦ listed | Some j ↦ order_from most fans (listed ++ j ∷ []) ]) ≡ None))
    by None e go = inr (omega arith, e)
    by (Some j) e go =
        let longer = length-append listed (j ∷ []) in
        elim (go (listed ++ j ∷ [])) [ inl same ↦ inl (omega arith) | inr fewer ↦ let few = fewer.0 in inr (omega arith, fewer.1) ]

-- each node ranks above those that it reads
abbrev Ranked : List (List ℕ) → (ℕ → ℕ) → Type 0
Ranked fans rank = (j pin : ℕ) → j < length fans → pin < length (list_at fans j) → rank (get_or (list_at fans j) pin 0) < rank j

-- where none is next, every node is listed: the others would have one of least rank
all-listed : (fans : List (List ℕ)) (listed : List ℕ) (rank : ℕ → ℕ) → ReadsWithin fans → Ranked fans rank → next_node fans listed ≡ None
    → (most j : ℕ) → rank j < most → j < length fans → has_place listed j ≡ true
all-listed fans listed rank within ranked e zero j low h = absurd (omega arith)
all-listed fans listed rank within ranked e (suc most) j low h = elim (cases_Bool (has_place listed j)) [
  | inl there ↦ there
  | inr absent ↦
      let reads : list_all (has_place listed) (list_at fans j) ≡ true =
      list_all-by (has_place listed) (list_at fans j)
      (λ pin inside. let above = ranked j pin h inside in
      all-listed fans listed rank within ranked e most (get_or (list_at fans j) pin 0) (omega arith) (within j [] h pin 0 inside)) in
      let next : is_next listed j (list_at fans j) ≡ false = subst (λ n. is_next listed n (list_at fans j) ≡ false) (omega arith) (none_may listed fans 0 e j h) in
      let both : is_next listed j (list_at fans j) ≡ true = ap (λ b. not b && list_all (has_place listed) (list_at fans j)) absent ∙ reads in
      cc
]

pub whole-ranked : (fans : List (List ℕ)) (rank : ℕ → ℕ) → ReadsWithin fans → Ranked fans rank → has_whole_order fans ≡ true
whole-ranked fans rank within ranked = elim (ended (length fans) fans []) [
  | inl same ↦ grind (arith, nat_tests)
  | inr fewer ↦
      let few : length (evaluation_order fans) ≤ 0 + length fans = fewer.0 in
      let many : length fans ≤ length (evaluation_order fans) =
      le-length_from_below (evaluation_order fans) (length fans)
      (λ j h. has_place-eqb j (evaluation_order fans) ∙ all-listed fans (evaluation_order fans) rank within ranked fewer.1 (suc (rank j)) j (omega arith) h) in
      grind (arith, nat_tests)
]

-- what holds of each net past the base holds of the places in the fan-in
fan_in-each : (base : ℕ) (P : ℕ → Type 0) (reads : List ℕ) → All (λ net. base ≤ net → P (net - base)) reads → All P (fan_in base reads)
fan_in-each base P [] h = All-nil P
fan_in-each base P (net ∷ reads) h =
    let Each : ℕ → Type 0 = λ net. base ≤ net → P (net - base) in
    by (nat_lt net base) refl (fan_in-each base P reads (All-tail Each net reads h)) (All-head Each net reads h)
  where
    by : (b : Bool) → nat_lt net base ≡ b → All P (fan_in base reads) → (base ≤ net → P (net - base)) → All P (if b then fan_in base reads else (net - base) ∷ fan_in base reads)
    by true e rest here = rest
    by false e rest here = let past : base ≤ net = grind (arith, nat_tests) in All-cons P (net - base) (fan_in base reads) (here past) rest

-- the nodes of a closed circuit without a ring have a whole order
pub whole-acyclic : (C : Circuit) → IsClosed C → Acyclic C → has_whole_order (fan_ins C) ≡ true
whole-acyclic C closed acyclic = whole-ranked (fan_ins C) (λ j. acyclic.rank (node_net C j)) (closed_reads C closed) ranked
  where
    ranked : Ranked (fan_ins C) (λ j. acyclic.rank (node_net C j))
    ranked j pin h inside =
        let first : ℕ = C.inputs + length C.latches in
        let Below : ℕ → Type 0 = λ k. acyclic.rank (first + k) < acyclic.rank (first + j) in
        let known : j < length C.nodes = omega (arith, length-map C.nodes (λ n. fan_in first n.reads)) in
        let fan : list_at (fan_ins C) j ≡ fan_in first (node C j).reads = get_or-map (λ n. fan_in first n.reads) C.nodes j no_node [] known in
        let pins : All (λ net. first ≤ net → Below (net - first)) (node C j).reads =
        All-from_get_or (λ net. first ≤ net → Below (net - first)) (node C j).reads 0
        (λ k k_inside past. subst (λ net. acyclic.rank net < acyclic.rank (first + j)) (omega arith) (acyclic.ranks.above j k known k_inside)) in
        let below : All Below (list_at (fan_ins C) j) = subst (λ reads. All Below reads) (sym fan) (fan_in-each first Below (node C j).reads pins) in
        below pin 0 inside
