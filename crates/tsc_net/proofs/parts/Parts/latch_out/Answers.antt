-- What a latch gives is the text of its name.
use Rattle.std.proofs.Common.{◌≡◌, ◌<◌, length, map, sym, subst, arith}
use Rattle.std.proofs.lemmas.List.{length-map}
use Rattle.tsc_net.specs.Names.{text_at}
use Rattle.tsc_net.specs.Named.{latch_outs}
use Rattle.tsc_net.specs.Parts.{PartsOf}
use Rattle.tsc_net.specs.PartsView.{text_of, latch_of}
use Rattle.tsc_net.proofs.PartsLemmas.{latch_out_at}
use Rattle.tsc_net.proofs.parts.Parts.latch_out.Goals as goal

pub returns-clause-text : goal.returns-clause-text
returns-clause-text c =
    let within : c.args.place < length (map (latch_of c.self.inside.names) c.self.inside.latches.items) =
    subst (λ (v : PartsOf). c.args.place < length v.named.latches) (sym c.self.view_is) c.requires.within in
    let inside : c.args.place < length c.self.inside.latches.items =
    omega (arith, length-map c.self.inside.latches.items (latch_of c.self.inside.names)) in
    subst (λ (v : PartsOf). text_of v.names c.index.result.now.out ≡ text_at (latch_outs v.named) c.args.place) c.self.view_is
    (latch_out_at c.self.inside.names c.self.inside.latches.items c.args.place c.index.result.now inside c.index.ensures)
