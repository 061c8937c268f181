-- What the variables mean at an input: the bits of a valuation of the source, of one of the netlist, and of one in which a cell fails.
use Rattle.std.proofs.Common.{◌≡◌, ℕ, zero, suc, ◌+◌, ◌-◌, ◌<◌, ◌≤◌, ◌⊎◌, Bool, true, false, cond, ◌&&◌, ◌||◌, if◌then◌else◌, List, [], ◌∷◌, map, take, filter, length, nat_lt, nat_le, slice_index_or, All, refl, sym, ap, ap₂, ◌∙◌, inl, inr, arith}
use Rattle.std.specs.List.{list_any, list_all}
use Rattle.std.proofs.lemmas.Bool.{ltb-true, ltb-false, leb-true, leb-false, cases_eq, or_parts, false≢true}
use Rattle.std.proofs.lemmas.List.Elements.{All-nil, All-cons, All-head, All-tail}
use Rattle.tsc_bits.specs.Counting.{differ, odd}
use Rattle.tsc_cover.specs.Cover.{truth}
use Rattle.fault_secure.specs.Circuit.{Circuit, node, node_net, nets, bit}
use Rattle.fault_secure.specs.StuckAt.{NoFault}
use Rattle.fault_secure.specs.Settle.{Settles, node_value}
use Rattle.fault_secure.specs.CodePlan.{CodePlan, members, word, bits_at}
use Rattle.fault_secure.specs.FailingCell.{SettlesBut}
use Rattle.fault_secure.proofs.GateLemmas.{read_values-no_fault}
use Rattle.refutations.specs.Clauses.{literal_true}
use Rattle.exact_question.specs.Variables.{Source, Right, Failing, Variable, Input, Net, Row, Choice, Gate, Differs, Chosen, OutputDiffers, Odd, RailsDiffer, Unheard}
use Rattle.exact_question.specs.Rows.{rows_of}
use Rattle.exact_question.specs.Gates.{yes, some_holds}
use Rattle.exact_question.specs.Question.{of_net, differs_at, variables}
use Rattle.exact_question.specs.Laws.{IsAsked}
use Rattle.exact_question.proofs.Gates.{Knows, same_true}
use Rattle.exact_question.proofs.Known.{In, in_inputs, source_net, right_net, wrong_known, differs_known}

module _ (C N : Circuit) (P : CodePlan) (w v u : List Bool) where
  -- the cell's net has another bit than its cover gives
  abbrev pub choice : ℕ → Bool
  choice j = differ (bit u (N.inputs + j)) (node_value N NoFault u j)

  abbrev pub chosen : ℕ → Bool
  chosen zero = choice zero
  chosen (suc j) = chosen j || choice (suc j)

  abbrev pub meaning : Variable → Bool
  meaning (Input i) = bit v i
  meaning (Net Source j) = bit w (C.inputs + j)
  meaning (Net Right j) = bit v (N.inputs + j)
  meaning (Net Failing j) = bit u (N.inputs + j)
  meaning (Row Source j r) = list_all (literal_true (bit w)) (slice_index_or (rows_of (node C j)) r [])
  meaning (Row Right j r) = list_all (literal_true (bit v)) (slice_index_or (rows_of (node N j)) r [])
  meaning (Row Failing j r) = list_all (literal_true (bit u)) (slice_index_or (rows_of (node N j)) r [])
  meaning (Choice j) = choice j
  meaning (Gate j) = node_value N NoFault u j
  meaning (Differs j) = differ (bit v (N.inputs + j)) (bit u (N.inputs + j))
  meaning (Chosen j) = chosen j
  meaning (OutputDiffers k) = differ (bit w (slice_index_or C.outputs k 0)) (bit v (slice_index_or N.outputs k 0))
  meaning (Odd g k) = odd (take (suc (suc k)) (bits_at (word N P v) (slice_index_or (members P) g [])))
  meaning (RailsDiffer Source) = false
  meaning (RailsDiffer Right) = differ (bit v P.rail1) (bit v P.rail2)
  meaning (RailsDiffer Failing) = differ (bit u P.rail1) (bit u P.rail2)
  meaning Unheard = differ (bit u P.rail1) (bit u P.rail2) && list_any (λ net. differ (bit v net) (bit u net)) (take P.outputs N.outputs)

-- without a fault a node gives the truth of its cover on the bits of its nets
pub value_is : (N : Circuit) (v : List Bool) (j : ℕ) → node_value N NoFault v j ≡ truth (node N j).cover (map (bit v) (node N j).reads)
value_is N v j = ap (truth (node N j).cover) (read_values-no_fault v (node_net N j) 0 (node N j).reads)

differ_not : (a b : Bool) → differ a b ≡ false → a ≡ b
differ_not true true e = refl
differ_not true false e = absurd (false≢true (sym e))
differ_not false true e = absurd (false≢true (sym e))
differ_not false false e = refl

pub differ_itself : (a : Bool) → differ a a ≡ false
differ_itself true = refl
differ_itself false = refl

module _ (C N : Circuit) (P : CodePlan) (asked : IsAsked C N P) (cell : ℕ) (x s t z : ℕ → Bool) (w v u : List Bool)
    (source : Settles C NoFault x z w) (right : Settles N NoFault x s v) (failing : SettlesBut N cell x t u) where
  abbrev pub m : Variable → Bool
  m = meaning C N P w v u

  -- ---- nets

  pub source_known : (net : ℕ) → net < nets C → In C N P (of_net Source C.inputs net)
  source_known net inside = by (nat_lt net C.inputs) refl
    where
      by : (b : Bool) → nat_lt net C.inputs ≡ b → In C N P (if b then Input net else Net Source (net - C.inputs))
      by true e = in_inputs C N P net (let below = ltb-true net C.inputs e in omega (arith, asked.inputs))
      by false e = source_net C N P (net - C.inputs) (let past = ltb-false net C.inputs e in omega (arith, asked.source_latches))

  pub source_means : (net : ℕ) → net < nets C → m (of_net Source C.inputs net) ≡ bit w net
  source_means net inside = by (nat_lt net C.inputs) refl
    where
      by : (b : Bool) → nat_lt net C.inputs ≡ b → m (if b then Input net else Net Source (net - C.inputs)) ≡ bit w net
      by true e = let below = ltb-true net C.inputs e in right.inputs net (omega (arith, asked.inputs)) ∙ sym (source.inputs net below)
      by false e = let past = ltb-false net C.inputs e in ap (bit w) (omega arith)

  pub right_known : (net : ℕ) → net < nets N → In C N P (of_net Right N.inputs net)
  right_known net inside = by (nat_lt net N.inputs) refl
    where
      by : (b : Bool) → nat_lt net N.inputs ≡ b → In C N P (if b then Input net else Net Right (net - N.inputs))
      by true e = in_inputs C N P net (ltb-true net N.inputs e)
      by false e = right_net C N P (net - N.inputs) (let past = ltb-false net N.inputs e in omega (arith, asked.latches))

  pub right_means : (net : ℕ) → net < nets N → m (of_net Right N.inputs net) ≡ bit v net
  right_means net inside = by (nat_lt net N.inputs) refl
    where
      by : (b : Bool) → nat_lt net N.inputs ≡ b → m (if b then Input net else Net Right (net - N.inputs)) ≡ bit v net
      by true e = refl
      by false e = let past = ltb-false net N.inputs e in ap (bit v) (omega arith)

  pub failing_known : (net : ℕ) → net < nets N → In C N P (of_net Failing N.inputs net)
  failing_known net inside = by (nat_lt net N.inputs) refl
    where
      by : (b : Bool) → nat_lt net N.inputs ≡ b → In C N P (if b then Input net else Net Failing (net - N.inputs))
      by true e = in_inputs C N P net (ltb-true net N.inputs e)
      by false e = wrong_known C N P (net - N.inputs) (let past = ltb-false net N.inputs e in omega (arith, asked.latches))

  same_input : (net : ℕ) → net < N.inputs → bit v net ≡ bit u net
  same_input net inside = right.inputs net inside ∙ sym (failing.inputs net inside)

  pub failing_means : (net : ℕ) → net < nets N → m (of_net Failing N.inputs net) ≡ bit u net
  failing_means net inside = by (nat_lt net N.inputs) refl
    where
      by : (b : Bool) → nat_lt net N.inputs ≡ b → m (if b then Input net else Net Failing (net - N.inputs)) ≡ bit u net
      by true e = same_input net (ltb-true net N.inputs e)
      by false e = let past = ltb-false net N.inputs e in ap (bit u) (omega arith)

  -- ---- nets that differ

  pub differs_are_known : (reads : List ℕ) → All (λ net. net < nets N) reads → All (Knows (variables C N P) m) (differs_at N.inputs reads)
  differs_are_known [] inside = All-nil (Knows (variables C N P) m)
  differs_are_known (net ∷ reads) inside =
      by (All-head (λ net. net < nets N) net reads inside) (differs_are_known reads (All-tail (λ net. net < nets N) net reads inside)) (nat_le N.inputs net) refl
    where
      by : net < nets N → All (Knows (variables C N P) m) (differs_at N.inputs reads) → (b : Bool) → nat_le N.inputs net ≡ b
          → All (Knows (variables C N P) m) (map (λ n. yes (Differs (n - N.inputs))) (cond b (net ∷ filter (λ n. nat_le N.inputs n) reads) (filter (λ n. nat_le N.inputs n) reads)))
      by below rest true e =
          All-cons (Knows (variables C N P) m) (yes (Differs (net - N.inputs))) (differs_at N.inputs reads)
          (differs_known C N P (net - N.inputs) (let past = leb-true N.inputs net e in omega (arith, asked.latches))) rest
      by below rest false e = rest

  -- some net of these differs exactly where a variable says so
  pub differs_means : (reads : List ℕ) → some_holds m (differs_at N.inputs reads) ≡ list_any (λ net. differ (bit v net) (bit u net)) reads
  differs_means [] = refl
  differs_means (net ∷ reads) = by (differs_means reads) (nat_le N.inputs net) refl
    where
      by : some_holds m (differs_at N.inputs reads) ≡ list_any (λ net. differ (bit v net) (bit u net)) reads → (b : Bool) → nat_le N.inputs net ≡ b
          → some_holds m (map (λ n. yes (Differs (n - N.inputs))) (cond b (net ∷ filter (λ n. nat_le N.inputs n) reads) (filter (λ n. nat_le N.inputs n) reads)))
          ≡ (differ (bit v net) (bit u net) || list_any (λ net. differ (bit v net) (bit u net)) reads)
      by rest true e =
          let past = leb-true N.inputs net e in
          let back : N.inputs + (net - N.inputs) ≡ net = omega arith in
          ap₂ (λ a b. a || b) (same_true (differ (bit v (N.inputs + (net - N.inputs))) (bit u (N.inputs + (net - N.inputs)))) ∙ ap (λ n. differ (bit v n) (bit u n)) back) rest
      by rest false e =
          rest ∙ ap (λ a. a || list_any (λ net. differ (bit v net) (bit u net)) reads)
          (sym (ap (λ a. differ a (bit u net)) (same_input net (leb-false N.inputs net e)) ∙ differ_itself (bit u net)))

  -- where none of these nets differs, they have the same bits
  pub none_differs : (reads : List ℕ) → list_any (λ net. differ (bit v net) (bit u net)) reads ≡ false → map (bit v) reads ≡ map (bit u) reads
  none_differs [] e = refl
  none_differs (net ∷ reads) e =
      let both = or_parts (differ (bit v net) (bit u net)) (list_any (λ net. differ (bit v net) (bit u net)) reads) e in
      ap₂ (λ a as_. a ∷ as_) (differ_not (bit v net) (bit u net) both.0) (none_differs reads both.1)

  -- ---- the choice

  -- a node that is chosen is the cell
  pub choice_is_cell : (j : ℕ) → j < length N.nodes → choice C N P w v u j ≡ true → N.inputs + j ≡ cell
  choice_is_cell j inside e = by (cases_eq (node_net N j) cell)
    where
      net : N.inputs + j ≡ node_net N j
      net = omega (arith, asked.latches)

      by : (node_net N j ≡ cell) ⊎ (node_net N j ≡ cell → ⊥) → N.inputs + j ≡ cell
      by (inl is) = net ∙ is
      by (inr off) =
          absurd (false≢true (sym (ap (λ b. differ b (node_value N NoFault u j)) (ap (bit u) net ∙ failing.nodes j inside off) ∙ differ_itself (node_value N NoFault u j)) ∙ e))

  pub chosen_is_cell : (j : ℕ) → j < length N.nodes → chosen C N P w v u j ≡ true → cell ≤ N.inputs + j
  chosen_is_cell zero inside e = let is = choice_is_cell zero inside e in omega arith
  chosen_is_cell (suc j) inside e = by (λ b. chosen_is_cell j (omega arith) b) (chosen C N P w v u j) refl e
    where
      by : (chosen C N P w v u j ≡ true → cell ≤ N.inputs + j) → (b : Bool) → chosen C N P w v u j ≡ b → (b || choice C N P w v u (suc j)) ≡ true → cell ≤ N.inputs + suc j
      by before true is h = let low = before is in omega arith
      by before false is h = let same = choice_is_cell (suc j) inside h in omega arith
