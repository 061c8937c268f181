-- A circuit without a ring has a valuation at each input.
use Rattle.std.proofs.Common.{Bool, false, List}
use Rattle.fault_secure.specs.Circuit.{Circuit, bit}
use Rattle.fault_secure.specs.StuckAt.{NoFault}
use Rattle.fault_secure.specs.Settle.{Acyclic}
use Rattle.fault_secure.proofs.OneRun.{one_valuation}
use Rattle.circuit_diagrams.specs.Stated.{AreValuations}

abbrev pub the_valuation : (C : Circuit) → Acyclic C → List Bool → List Bool
the_valuation C acyclic x = (one_valuation C NoFault (bit x) (λ l. false) acyclic).valuation

pub valuations : (C : Circuit) (acyclic : Acyclic C) → AreValuations C (the_valuation C acyclic)
valuations C acyclic = record { settles = λ x sized. (one_valuation C NoFault (bit x) (λ l. false) acyclic).settles }
