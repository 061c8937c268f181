use Rattle.register_laws.proofs.NetworkSteps.{networks_are_cell_secure}
use Rattle.register_laws.proofs.networks.without_registers_it_is_the_promise_on_networks.Goals as goal

pub returns : goal.returns
returns c = record { secure = networks_are_cell_secure }
