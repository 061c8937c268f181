use Rattle.register_laws.proofs.TwinsSecure.{twins_are_secure, twins_are_fault_secure}
use Rattle.register_laws.proofs.twins.twins_are_secure.Goals as goal

pub returns : goal.returns
returns c = record { cells = twins_are_secure; faults = twins_are_fault_secure }
