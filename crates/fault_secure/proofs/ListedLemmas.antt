-- The listed faults, one driver after the other.
use Rattle.std.proofs.Common.{◌≡◌, ℕ, suc, ◌+◌, ◌-◌, ◌<◌, ◌≤◌, true, false, List, [], ◌∷◌, ◌++◌, map, length, drop, get_or, refl, sym, ap, ◌∙◌, arith, nat_lt, inl, inr, replicate}
use Rattle.std.proofs.lemmas.Bool.{cases_lt, lt-ltb}
use Rattle.std.proofs.lemmas.List.{get_or-replicate, get_or_append_left, get_or-map}
use Rattle.std.proofs.Math.Seq.{get_or-append_right, drop-cons}
use Rattle.std.proofs.Math.ListN.{length-replicate}
use Rattle.std.proofs.lemmas.List.{length-append, length-map}
use Rattle.std.proofs.lemmas.Bool.Decides.{nat_tests}
use Rattle.fault_secure.specs.Circuit.{Circuit, nets, no_node}
use Rattle.fault_secure.specs.StuckAt.{Pin, pins_of}
use Rattle.fault_secure.specs.Listed.{pin_faults, faults_at, faults_from, pin_counts}

-- the faults of a pin, and those of the pins after it
pub pin_faults-next : (net pin most rest : ℕ) → most ≡ suc rest
    → pin_faults net pin most ≡ (Pin net pin false ∷ Pin net pin true ∷ []) ++ pin_faults net (pin + 1) rest
pin_faults-next net pin most rest e = rw e refl

nat_lt-not : (m n : ℕ) → n ≤ m → nat_lt m n ≡ false
nat_lt-not m n h = grind (arith, nat_tests)

module _ (N : Circuit) where
  -- there is one count of pins per latch and per node
  pub length-pin_counts : length (pin_counts N) ≡ length N.latches + length N.nodes
  length-pin_counts =
      omega (
        arith,
        length-append (replicate (length N.latches) 1) (map (λ n. length n.reads) N.nodes),
        length-replicate {A = ℕ} (length N.latches) 1,
        length-map N.nodes (λ n. length n.reads),
      )

  -- the number of pins of the driver of a net
  pub pins_of-at : (net : ℕ) → N.inputs ≤ net → net < nets N → pins_of N net ≡ get_or (pin_counts N) (net - N.inputs) 0
  pins_of-at net not_input is_net =
      let latches = length N.latches in
      let ones : List ℕ = replicate latches 1 in
      let pins = map (λ n. length n.reads) N.nodes in
      let many : length ones ≡ latches = length-replicate {A = ℕ} latches 1 in
      elim (cases_lt net (N.inputs + latches)) [
        | inl below ↦
            let here : net - N.inputs < length ones = omega arith in
            let low : net - N.inputs < latches = omega arith in
            rw (nat_lt-not net N.inputs not_input, lt-ltb net (N.inputs + latches) below)
            (sym (get_or_append_left ones pins 0 (net - N.inputs) here ∙ get_or-replicate latches (net - N.inputs) 1 0 low))
        | inr past ↦
            let beyond : length ones ≤ net - N.inputs = omega arith in
            let place : net - N.inputs - length ones ≡ net - (N.inputs + latches) = omega arith in
            let within : net - (N.inputs + latches) < length N.nodes = omega arith in
            rw (nat_lt-not net N.inputs not_input, nat_lt-not net (N.inputs + latches) past)
            (sym (get_or-append_right ones pins (net - N.inputs) 0 beyond
            ∙ ap (λ k. get_or pins k 0) place
            ∙ get_or-map (λ n. length n.reads) N.nodes (net - (N.inputs + latches)) no_node 0 within))
      ]

  -- the faults from a net on: those of its driver, and those from the next net on
  pub faults_from-next : (net : ℕ) → N.inputs ≤ net → net < nets N
      → faults_from net (drop (net - N.inputs) (pin_counts N))
      ≡ faults_at net (pins_of N net) ++ faults_from (net + 1) (drop (net + 1 - N.inputs) (pin_counts N))
  faults_from-next net not_input is_net =
      let within : net - N.inputs < length (pin_counts N) = omega (arith, length-pin_counts) in
      let next : suc (net - N.inputs) ≡ net + 1 - N.inputs = omega arith in
      ap (faults_from net) (drop-cons (pin_counts N) (net - N.inputs) 0 within)
      ∙ ap (λ k. faults_at net (get_or (pin_counts N) (net - N.inputs) 0) ++ faults_from (net + 1) (drop k (pin_counts N))) next
      ∙ ap (λ pins. faults_at net pins ++ faults_from (net + 1) (drop (net + 1 - N.inputs) (pin_counts N))) (sym (pins_of-at net not_input is_net))
