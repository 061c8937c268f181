-- Lines that follow nets: what is kept as gates are added, and what lines of pins give.
use Rattle.std.proofs.Common.{◌≡◌, ℕ, ◌+◌, ◌<◌, ◌≤◌, ◌⊎◌, inl, inr, Bool, false, List, [], ◌∷◌, ◌++◌, map, length, take, get_or, set, replicate, Option, None, Some, refl, sym, ◌∙◌, ap, subst, arith}
use Rattle.std.specs.List.{AllZip}
use Rattle.std.proofs.lemmas.Bool.{cases_lt}
use Rattle.std.proofs.lemmas.List.{get_or-set_same, get_or-set_other, get_or-replicate, get_or_past, length-set, length-replicate, map_more}
use Rattle.std.proofs.lemmas.List.Elements.{All-nil, All-cons, All-from_get_or}
use Rattle.tsc_cover.specs.Cover.{CoverTable, truth}
use Rattle.fault_secure.specs.Circuit.{Circuit, node, node_net, bit}
use Rattle.fault_secure.specs.StuckAt.StuckAt.{NoFault}
use Rattle.fault_secure.specs.Settle.{Settles}
use Rattle.tsc_net.specs.PlanView.{net_numbers}
use Rattle.tsc_net.specs.declared.ids.NetId.{NetId}
use Rattle.fault_secure.proofs.GateLemmas.{node_value-gate}
use Rattle.gate_net.specs.declared.line.Line.{Line}
use Rattle.gate_net.specs.declared.gate.Gate.{Gate}
use Rattle.gate_net.specs.declared.gate.Gate.TheVariants as gate
use Rattle.gate_net.specs.Signal.{value}
use Rattle.gate_net.specs.Signal.Signal.{Input}
use Rattle.gate_net.specs.Gates.{GateNetwork, IsHashed, IsLine, AreLines, ReadsBelow, gate_at, line_values}
use Rattle.gate_net.specs.Growth.{Grows, IsAdded, Computes}
use Rattle.gate_net.specs.Negations.{is_state, HasNo}
use Rattle.gate_net.specs.NetLines.{IsLineOf, HasLine, AreLinesOf, MeanInputs}
use Rattle.gate_net.proofs.Kept.{line_kept, value_kept}

zip_push : {A B : Type 0} (R : A → B → Type 0) (xs : List A) (ys : List B) (x : A) (y : B) → AllZip R xs ys → R x y → AllZip R (xs ++ x ∷ []) (ys ++ y ∷ [])
zip_push R [] [] x y h r = (r, tt)
zip_push R [] (b ∷ ys) x y h r = absurd h
zip_push R (a ∷ xs) [] x y h r = absurd h
zip_push R (a ∷ xs) (b ∷ ys) x y h r = (h.0, zip_push R xs ys x y h.1 r)

none_some : (line : Line) → None ≡ Some line → ⊥
none_some line e = cc

some_same : (a b : Line) → Some a ≡ Some b → a ≡ b
some_same a b e = cc

-- no line yet
pub no_lines_follow : (N : Circuit) (G : GateNetwork) (n : ℕ) → AreLinesOf N G (replicate n None)
no_lines_follow N G n net line has =
    let none : Option Line = None in
    elim (cases_lt net n) [
      | inl low ↦ absurd (none_some line (sym (get_or-replicate n net none none low) ∙ has))
      | inr high ↦ absurd (none_some line (sym (get_or_past (replicate n none) net none (omega (arith, length-replicate n none))) ∙ has))
    ]

-- more gates leave what lines follow
pub follow_kept : (N : Circuit) (a b : GateNetwork) (lines : List (Option Line)) → Grows a b → AreLinesOf N a lines → AreLinesOf N b lines
follow_kept N a b lines h follow net line has =
    let f : IsLineOf N a net line = follow net line has in
    record { within = line_kept a b line h f.within; value = λ x s v settled. value_kept a b x s line h f.within ∙ f.value x s v settled; input = λ low. h.keeps line f.within ∙ f.input low }

module _ (N : Circuit) (G : GateNetwork) (lines : List (Option Line)) (place : ℕ) (put : Line) where
  other_place : (net : ℕ) (line : Line) → (net ≡ place → ⊥) → AreLinesOf N G lines → HasLine (set lines place (Some put)) net line → IsLineOf N G net line
  other_place net line apart follow has = follow net line (sym (get_or-set_other lines place net (Some put) None apart) ∙ has)

  same_place : (line : Line) → IsLineOf N G place put → HasLine (set lines place (Some put)) place line → (place < length lines) ⊎ (length lines ≤ place) → IsLineOf N G place line
  same_place line f has (inl low) = subst (IsLineOf N G place) (some_same put line (sym (get_or-set_same lines place (Some put) None low) ∙ has)) f
  same_place line f has (inr high) = absurd (none_some line (sym (get_or_past (set lines place (Some put)) place None (omega (arith, length-set lines place (Some put)))) ∙ has))

  -- one line more, that follows its net
  pub follow_put : AreLinesOf N G lines → IsLineOf N G place put → AreLinesOf N G (set lines place (Some put))
  follow_put follow f net line has =
      elim (cases_lt net place) [
        | inl low ↦ other_place net line (λ e. let n : ⊥ = omega arith in n) follow has
        | inr high ↦ (elim (cases_lt place net) [
          | inl low ↦ other_place net line (λ e. let n : ⊥ = omega arith in n) follow has
          | inr least ↦ (
              let e : net ≡ place = omega arith in
              subst (λ n. IsLineOf N G n line) (sym e) (same_place line f (subst (λ n. HasLine (set lines place (Some put)) n line) e has) (cases_lt place (length lines))))
        ])
      ]

-- the lines of nets, one net more
pub lines_more : (lines : List (Option Line)) (nets : List NetId) (list list' : List Line) (i : ℕ) (d : NetId) (line : Line) → i < length nets → AllZip (HasLine lines) (net_numbers (take i nets)) list
    → HasLine lines (get_or nets i d).number line → list' ≡ list ++ line ∷ [] → AllZip (HasLine lines) (net_numbers (take (i + 1) nets)) list'
lines_more lines nets list list' i d line lt zipped has e =
    subst (λ (made : List Line). AllZip (HasLine lines) (net_numbers (take (i + 1) nets)) made) (sym e)
    (subst (λ (numbers : List ℕ). AllZip (HasLine lines) numbers (list ++ line ∷ [])) (sym (map_more (λ n. n.number) nets i d lt))
    (zip_push (HasLine lines) (net_numbers (take i nets)) list (get_or nets i d).number line zipped has))

module _ (N : Circuit) (G : GateNetwork) (lines : List (Option Line)) (follow : AreLinesOf N G lines) where
  -- the lines of nets are lines of the gates
  pub lines_within : (nets : List ℕ) (list : List Line) → AllZip (HasLine lines) nets list → AreLines G list
  lines_within [] [] h = All-nil (IsLine G)
  lines_within [] (line ∷ list) h = absurd h
  lines_within (net ∷ nets) [] h = absurd h
  lines_within (net ∷ nets) (line ∷ list) h = All-cons (IsLine G) line list (let f = follow net line h.0 in f.within) (lines_within nets list h.1)

  -- and have the nets' bits
  pub lines_values : (nets : List ℕ) (list : List Line) → AllZip (HasLine lines) nets list → (x s : ℕ → Bool) (v : List Bool) → Settles N NoFault x s v → line_values G x s list ≡ map (bit v) nets
  lines_values [] [] h x s v settled = refl
  lines_values [] (line ∷ list) h x s v settled = absurd h
  lines_values (net ∷ nets) [] h x s v settled = absurd h
  lines_values (net ∷ nets) (line ∷ list) h x s v settled =
      let f : IsLineOf N G net line = follow net line h.0 in
      ap (λ b. b ∷ line_values G x s list) (f.value x s v settled) ∙ ap (λ bits. bit v net ∷ bits) (lines_values nets list h.1 x s v settled)

  -- and those of inputs mean these
  pub lines_inputs : (nets : List ℕ) (list : List Line) → AllZip (HasLine lines) nets list → MeanInputs N G nets list
  lines_inputs [] [] h = tt
  lines_inputs [] (line ∷ list) h = absurd h
  lines_inputs (net ∷ nets) [] h = absurd h
  lines_inputs (net ∷ nets) (line ∷ list) h = ((let f : IsLineOf N G net line = follow net line h.0 in f.input), lines_inputs nets list h.1)

  -- a line that computes a node's cover of the lines at its pins follows the node's net
  pub node_follows : (new : GateNetwork) (place : ℕ) (cover : CoverTable) (reads : List ℕ) (pins : List Line) (line : Line) → place < length N.nodes
      → cover ≡ (node N place).cover → reads ≡ (node N place).reads → AllZip (HasLine lines) reads pins
      → Computes G new (λ x s. truth cover (line_values G x s pins)) line → IsLineOf N new (node_net N place) line
  node_follows new place cover reads pins line is c r zipped computes = record {
    within = computes.within;
    value = λ x s v settled.
        computes.value x s ∙ ap (truth cover) (lines_values reads pins zipped x s v settled) ∙ ap (λ k. truth k (map (bit v) reads)) c
        ∙ ap (λ (list : List ℕ). truth (node N place).cover (map (bit v) list)) r
        ∙ sym (settled.nodes place is ∙ node_value-gate N v place (node N place).cover (node N place).reads refl);
    input = λ low. absurd (omega (arith, low));
  }

-- the line of an input follows it
pub input_follows : (N : Circuit) (G new : GateNetwork) (i : ℕ) (line : Line) → i < N.inputs → IsAdded G new (Input i) line → IsLineOf N new i line
input_follows N G new i line lt added = record {
  within = added.within;
  value = λ x s v settled. ap (value x s) added.means ∙ sym (settled.inputs i lt);
  input = λ low. added.means;
}

stateless : (G : GateNetwork) (n : ℕ) (g : Gate) → G.states ≡ 0 → ReadsBelow G n g → is_state g ≡ false
stateless G n gate.Zero e reads = refl
stateless G n gate.One e reads = refl
stateless G n (gate.Input i) e reads = refl
stateless G n (gate.State i) e reads = absurd (omega arith)
stateless G n (gate.Not a) e reads = refl
stateless G n (gate.And a b) e reads = refl
stateless G n (gate.Or a b) e reads = refl
stateless G n (gate.Xor a b) e reads = refl

-- gates over no state have no state's gate
pub no_states : (G : GateNetwork) → IsHashed G → G.states ≡ 0 → HasNo is_state G.gates
no_states G sound e = All-from_get_or (λ g. is_state g ≡ false) G.gates gate.Zero (λ n lt. stateless G n (gate_at G.gates n) e (sound.ordered n lt))
