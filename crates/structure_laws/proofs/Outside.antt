-- Where a failing node changes nothing: outside its cone, in a function or a checker that it is no part of.
use Rattle.std.proofs.Common.{ℕ, ◌<◌, length, Contains, refl, sym, subst, arith}
use Rattle.fault_secure.specs.Circuit.{Circuit, node, node_net, pin_net, bit}
use Rattle.fault_secure.specs.CodePlan.{CodePlan, monitored}
use Rattle.fault_secure.specs.Depends.{Depends, itself, through, InFunction, InChecker}
use Rattle.fault_secure.proofs.DependsLemmas.{feeds}
use Rattle.structure_laws.specs.Cone.{OutsideConeUnchanged}
use Rattle.structure_laws.specs.OneWay.{IsOfFunction}
use Rattle.structure_laws.specs.DisjointCones.{OutsideFunctionKeepsWord, OutsideCheckerSettles}
use Rattle.structure_laws.proofs.FailingCell.{agree_but}
use Rattle.structure_laws.proofs.Words.{same_word}

-- a monitored net is of the function
pub monitored_seen : (N : Circuit) (P : CodePlan) (net : ℕ) → Contains (monitored N P) net → IsOfFunction N P net
monitored_seen N P net c q h e = record { net = net; monitors = c; depends = itself net h e }

-- so is the net at a pin of a node of the function
pub pin_seen : (N : Circuit) (P : CodePlan) (q pin : ℕ) → q < length N.nodes → InFunction N P q → pin < length (node N q).reads → IsOfFunction N P (pin_net N q pin)
pin_seen N P q pin hq of hp r hr e = record { net = of.net; monitors = of.monitors; depends = feeds N r q pin of.net hr e hp of.depends }

-- two valuations that settle at every net except that of node q agree at every net that doesn't depend on q
pub outside_cone_unchanged : OutsideConeUnchanged
outside_cone_unchanged N q x s v u acyclic first second =
    agree_but N (node_net N q) x s v u first second (λ net. Depends N q net → ⊥)
    (λ j pin h l free d. free (through (node_net N j) j pin h refl l d))
    (λ net h free e. free (itself net (omega arith) e)) acyclic

-- a failing node outside the function leaves the monitored word as it is without a fault
pub outside_function_keeps_word : OutsideFunctionKeepsWord
outside_function_keeps_word N P q x s v u acyclic outside first second =
    same_word (bit u) (bit v) (monitored N P) (λ net c. sym (agree_but N (node_net N q) x s v u first second (IsOfFunction N P)
    (λ j pin h l seen. pin_seen N P j pin h (seen j h refl) l)
    (λ net h seen e. outside (seen q (omega arith) e)) acyclic net (monitored_seen N P net c)))

pub outside_checker_settles : OutsideCheckerSettles
outside_checker_settles N P q x s u outside held = record { settles = λ j h checks. held.nodes j h (λ e. outside (subst (InChecker N P) (omega arith) checks)) }
