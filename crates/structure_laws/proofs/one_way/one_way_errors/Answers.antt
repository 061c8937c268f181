use Rattle.structure_laws.proofs.OneWay.{one_way_errors}
use Rattle.structure_laws.proofs.one_way.one_way_errors.Goals as goal

pub returns : goal.returns
returns c = record { one_way = one_way_errors }
