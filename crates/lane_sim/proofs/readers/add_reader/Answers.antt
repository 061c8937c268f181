use Rattle.std.proofs.Common.{refl, slice_index, arith}
use Rattle.lane_sim.proofs.ReaderLemmas.{added_to, others_stay}
use Rattle.lane_sim.proofs.readers.add_reader.Goals as goal

pub returns-clause-added : goal.returns-clause-added
returns-clause-added c =
    added_to c.args.heads.now _ c.args.list.now.items c.push.new.self.items c.args.place c.args.net (slice_index c.args.heads.now c.args.net) c.len.result c.requires.net refl c.in_ok-push.ensures.items (omega (arith, c.len.ensures)) refl

pub returns-clause-stay : goal.returns-clause-stay
returns-clause-stay c =
    others_stay c.args.heads.now _ c.args.list.now.items c.push.new.self.items c.args.place c.args.net (slice_index c.args.heads.now c.args.net) c.len.result c.requires.net refl c.in_ok-push.ensures.items (omega (arith, c.len.ensures)) refl
