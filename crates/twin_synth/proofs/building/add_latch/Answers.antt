use Rattle.std.proofs.Common.{◌≡◌, ◌+◌, ◌∙◌, ap, subst}
use Rattle.std.specs.Result.{OnOk}
use Rattle.fault_secure.specs.Circuit.{LatchOf}
use Rattle.tsc_net.specs.Parts.{PartsOf}
use Rattle.net_building.specs.Names.{numbered}
use Rattle.twin_synth.proofs.BuiltParts.{latch_step}
use Rattle.twin_synth.proofs.building.add_latch.Goals as goal

pub returns : goal.returns
returns c = record {
  added = subst (λ (q : PartsOf). OnOk c.latch.result (c.latch.new.self ≡ q))
      (latch_step c.args.numbered.now c.args.parts.now c.name_of-reads.result c.name_of-out.result c.init.result c.args.numbered.now.circuit.inputs c.args.place
      c.requires.within c.requires.begun
      (c.name_of-reads.ensures.name ∙ ap numbered (c.reads.ensures.reads ∙ ap (λ (l : LatchOf). l.reads) c.latch-latch.ensures.latch))
      (c.name_of-out.ensures.name ∙ ap (λ n. numbered (n + c.args.place)) c.inputs.ensures.count)
      (c.init.ensures.init ∙ ap (λ (l : LatchOf). l.init) c.latch-latch.ensures.latch))
      c.latch.ensures.ok;
}
