-- What a register or cover reads reaches what its net reaches.
use Rattle.std.proofs.Common.{◌≡◌, ℕ, ◌+◌, ◌-◌, ◌<◌, nat_lt, if◌then◌else◌, List, [], ◌∷◌, length, slice_index, slice_index_or, Contains, refl, sym, ap, ◌∙◌, subst, arith}
use Rattle.std.proofs.lemmas.Grind.{common_steps}
use Rattle.std.proofs.lemmas.Bool.{lt-ltb, le-ltb}
use Rattle.fault_secure.specs.Circuit.{Circuit, node, latch, no_latch, latch_net, node_net, pin_net, nets}
use Rattle.fault_secure.specs.Closed.{IsClosed}
use Rattle.fault_secure.proofs.Places.{Place, place_of}
use Rattle.fault_secure.proofs.Places.Place.{Input, Latch, Node, Beyond}
use Rattle.register_laws.specs.RegisterPlan.{next_net}
use Rattle.register_laws.specs.RegisterStructure.{Reaches}
use Rattle.register_laws.specs.RegisterStructure.Reaches.{own, through, across}
use Rattle.register_synth.specs.Reaching.{ReachesSome}
use Rattle.register_synth.specs.inner.Search.{nets_read}

pub node_before : (C : Circuit) (j pin net : ℕ) → j < length C.nodes → pin < length (node C j).reads → Reaches C (node_net C j) net → Reaches C (pin_net C j pin) net
node_before C j pin _ h l (own net e) = through net j pin h e l (own (pin_net C j pin) refl)
node_before C j pin _ h l (through net k q g e m r) = through net k q g e m (node_before C j pin (pin_net C k q) h l r)
node_before C j pin _ h l (across net k g e r) = across net k g e (node_before C j pin (next_net C k) h l r)

pub latch_before : (C : Circuit) (l net : ℕ) → l < length C.latches → Reaches C (latch_net C l) net → Reaches C (next_net C l) net
latch_before C l _ h (own net e) = across net l h e (own (next_net C l) refl)
latch_before C l _ h (through net k q g e m r) = through net k q g e m (latch_before C l (pin_net C k q) h r)
latch_before C l _ h (across net k g e r) = across net k g e (latch_before C l (next_net C k) h r)

-- ---- the nets that are read, by the place of the net

module _ (C : Circuit) where
  pub read_by_input : (net : ℕ) → net < C.inputs → nets_read C net ≡ []
  read_by_input net h =
      ap (λ b. if b then [] else (if nat_lt net (C.inputs + length C.latches) then (latch C (net - C.inputs)).reads ∷ []
      else (node C (net - (C.inputs + length C.latches))).reads)) (lt-ltb net C.inputs h)

  pub read_by_latch : (l : ℕ) → l < length C.latches → nets_read C (latch_net C l) ≡ next_net C l ∷ []
  read_by_latch l h =
      ap (λ b. if b then [] else (if nat_lt (C.inputs + l) (C.inputs + length C.latches) then (latch C (C.inputs + l - C.inputs)).reads ∷ []
      else (node C (C.inputs + l - (C.inputs + length C.latches))).reads)) (le-ltb (C.inputs + l) C.inputs (omega arith))
      ∙ ap (λ b. if b then (latch C (C.inputs + l - C.inputs)).reads ∷ []
      else (node C (C.inputs + l - (C.inputs + length C.latches))).reads) (lt-ltb (C.inputs + l) (C.inputs + length C.latches) (omega arith))
      ∙ ap (λ n. next_net C n ∷ []) (let e : C.inputs + l - C.inputs ≡ l = omega arith in e)

  pub read_by_node : (j : ℕ) → nets_read C (node_net C j) ≡ (node C j).reads
  read_by_node j =
      ap (λ b. if b then [] else (if nat_lt (node_net C j) (C.inputs + length C.latches) then (latch C (node_net C j - C.inputs)).reads ∷ []
      else (node C (node_net C j - (C.inputs + length C.latches))).reads)) (le-ltb (node_net C j) C.inputs (omega arith))
      ∙ ap (λ b. if b then (latch C (node_net C j - C.inputs)).reads ∷ []
      else (node C (node_net C j - (C.inputs + length C.latches))).reads) (le-ltb (node_net C j) (C.inputs + length C.latches) (omega arith))
      ∙ ap (λ n. (node C n).reads) (let e : node_net C j - (C.inputs + length C.latches) ≡ j = omega arith in e)

module _ (C : Circuit) (closed : IsClosed C) (roots : List ℕ) where
  in_none : (net : ℕ) → Contains [] net → ⊥
  in_none net (k, h, e) = omega arith

  of_latch : (l net : ℕ) → l < length C.latches → ReachesSome C (latch_net C l) roots → Contains (next_net C l ∷ []) net → (net < nets C) × ReachesSome C net roots
  of_latch l net h some (k, low, e) =
      let first : k ≡ 0 = omega arith in
      let is : next_net C l ≡ net = ap (λ i. slice_index_or (next_net C l ∷ []) i net) (sym first) ∙ e in
      subst (λ n. (n < nets C) × ReachesSome C n roots) is
      (closed.latches l no_latch h, record { root = some.root; is_root = some.is_root; reaches = latch_before C l some.root h some.reaches })

  of_node : (j net : ℕ) → j < length C.nodes → ReachesSome C (node_net C j) roots → Contains (node C j).reads net → (net < nets C) × ReachesSome C net roots
  of_node j net h some (pin, low, e) =
      let is : pin_net C j pin ≡ net = at (node C j).reads low e in
      subst (λ n. (n < nets C) × ReachesSome C n roots) is
      (closed.pins j pin h low, record { root = some.root; is_root = some.is_root; reaches = node_before C j pin some.root h low some.reaches })
    where
      at : (reads : List ℕ) → pin < length reads → slice_index_or reads pin net ≡ net → slice_index reads pin ≡ net
      at reads low e = grind (arith, common_steps)

  read_at : (net other : ℕ) → Place C net → net < nets C → ReachesSome C net roots → Contains (nets_read C net) other → (other < nets C) × ReachesSome C other roots
  read_at net other (Input h) within some has = absurd (in_none other (subst (λ ns. Contains ns other) (read_by_input C net h) has))
  read_at net other (Latch l h e) within some has =
      of_latch l other h (subst (λ n. ReachesSome C n roots) e some)
      (subst (λ ns. Contains ns other) (ap (nets_read C) e ∙ read_by_latch C l h) has)
  read_at net other (Node j h e) within some has =
      of_node j other h (subst (λ n. ReachesSome C n roots) e some)
      (subst (λ ns. Contains ns other) (ap (nets_read C) e ∙ read_by_node C j) has)
  read_at net other (Beyond h) within some has = absurd (omega arith)

  -- a net that is read by what gives a net that reaches a root is a net, and reaches the root
  pub read_reaches : (net other : ℕ) → net < nets C → ReachesSome C net roots → Contains (nets_read C net) other → (other < nets C) × ReachesSome C other roots
  read_reaches net other = read_at net other (place_of C net)
