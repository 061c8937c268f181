use Rattle.tsc_cover.proofs.Row.{literals-next, IsRow-next, bool_byte-weight_of}
use Rattle.tsc_cover.proofs.texts.with_pin.Goals as goal

pub returns-clause-literals : goal.returns-clause-literals
returns-clause-literals c width =
    literals-next width _ _ c.args.care c.args.value _ _ (bool_byte-weight_of c.args.care) (bool_byte-weight_of c.args.value)

pub returns-clause-fit : goal.returns-clause-fit
returns-clause-fit c width h =
    IsRow-next width _ c.args.care c.args.value _ _ (bool_byte-weight_of c.args.care) (bool_byte-weight_of c.args.value) c.requires.asked h
