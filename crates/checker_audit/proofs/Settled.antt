-- Nodes that are set in order settle.
use Rattle.std.proofs.Common.{◌≡◌, ℕ, ◌<◌, inl, inr, Bool, false, List, [], ◌∷◌, length, set, Contains, refl, sym, ◌∙◌, ap, subst, arith}
use Rattle.std.proofs.lemmas.List.{length-set, get_or-set_same, get_or-set_other}
use Rattle.tsc_cover.specs.Cover.{truth}
use Rattle.fault_secure.specs.Circuit.{Circuit, node, node_net, pin_net, nets, bit}
use Rattle.fault_secure.specs.StuckAt.{NoFault}
use Rattle.fault_secure.specs.Settle.{node_value}
use Rattle.fault_secure.specs.CodePlan.{CodePlan, monitored}
use Rattle.fault_secure.specs.Depends.Depends.{itself}
use Rattle.fault_secure.specs.Structure.{CheckerSettles}
use Rattle.fault_secure.proofs.Agree.{reads_same}
use Rattle.node_lanes.specs.Settling.{settled}
use Rattle.checker_audit.specs.Program.{AreInOrder, IsProgram}
use Rattle.checker_audit.proofs.Putting.{here, there, cons_cases, nothing}

node_value_same : (N : Circuit) (q : ℕ) (v u : List Bool) → ((pin : ℕ) → pin < length (node N q).reads → bit v (pin_net N q pin) ≡ bit u (pin_net N q pin))
    → node_value N NoFault v q ≡ node_value N NoFault u q
node_value_same N q v u same = ap (truth (node N q).cover) (reads_same NoFault NoFault v u (node_net N q) 0 (node N q).reads (λ i k l. same i l))

-- a net that none of the nodes drives keeps its bit
pub settled_other : (N : Circuit) (places : List ℕ) (v : List Bool) (net : ℕ) → ((r : ℕ) → Contains places r → net ≡ node_net N r → ⊥) → bit (settled N places v) net ≡ bit v net
settled_other N [] v net apart = refl
settled_other N (q ∷ places) v net apart =
    settled_other N places (set v (node_net N q) (node_value N NoFault v q)) net (λ r c. apart r (there q r places c))
    ∙ get_or-set_other v (node_net N q) net (node_value N NoFault v q) false (apart q (here q places))

same_place : (N : Circuit) (p r : ℕ) → node_net N p ≡ node_net N r → r ≡ p
same_place N p r e = omega arith

-- each of the nodes then has the bit of its cover
pub settled_settles : (N : Circuit) (places : List ℕ) (v : List Bool) → AreInOrder N places → ((q : ℕ) → Contains places q → node_net N q < length v)
    → (q : ℕ) → Contains places q → bit (settled N places v) (node_net N q) ≡ node_value N NoFault (settled N places v) q
settled_settles N [] v order within q c = absurd (nothing q c)
settled_settles N (p ∷ places) v order within q c = elim (cons_cases p q places c) [
  | inl e ↦ subst (λ q. bit last (node_net N q) ≡ node_value N NoFault last q) e first
  | inr later ↦ settled_settles N places next order.2 (λ r c. (let l = length-set v (node_net N p) (node_value N NoFault v p) in let w = within r (there p r places c) in omega arith)) q later
]
  where
    next : List Bool
    next = set v (node_net N p) (node_value N NoFault v p)

    last : List Bool
    last = settled N places next

    unread : (pin : ℕ) → pin < length (node N p).reads → bit last (pin_net N p pin) ≡ bit v (pin_net N p pin)
    unread pin has =
        settled_other N places next (pin_net N p pin) (λ r c. order.0 pin r has (there p r places c))
        ∙ get_or-set_other v (node_net N p) (pin_net N p pin) (node_value N NoFault v p) false (order.0 pin p has (here p places))

    first : bit last (node_net N p) ≡ node_value N NoFault last p
    first =
        settled_other N places next (node_net N p) (λ r c e. order.1 (subst (Contains places) (same_place N p r e) c))
        ∙ get_or-set_same v (node_net N p) (node_value N NoFault v p) false (within p (here p places))
        ∙ sym (node_value_same N p last v unread)

module _ (N : Circuit) (P : CodePlan) (places : List ℕ) (program : IsProgram N P places) (v : List Bool) (sized : length v ≡ nets N) where
  -- the checker settles
  pub program_settles : CheckerSettles N P (settled N places v)
  program_settles = record {
    settles = λ q within checks. settled_settles N places v program.order (λ r c. (let w : r < length N.nodes = (program.sound r c).0 in omega arith)) q (program.whole q within checks);
  }

  -- a monitored net keeps its bit
  pub program_keeps : (net : ℕ) → Contains (monitored N P) net → bit (settled N places v) net ≡ bit v net
  program_keeps net monitors = settled_other N places v net
      (λ r c e. (program.sound r c).1.outside (record { net = net; monitors = monitors; depends = itself net (program.sound r c).0 e }))
