-- One latch more.
use Rattle.std.proofs.Common.{◌≡◌, ◌<◌, ◌+◌, ◌++◌, ◌∷◌, [], get_or, drop, map, length, refl, sym, ap, ◌∙◌, subst, List, ℕ, false, arith, rules}
use Rattle.tsc_net.specs.inner.Build.{latch_reads}
use Rattle.tsc_net.specs.NetlistOf.{numbered_latch}
use Rattle.tsc_net.specs.PartsView.{latch_of, text_of}
use Rattle.tsc_net.specs.NetlistView.{latch_as}
use Rattle.tsc_net.specs.NetFault.{first_missing}
use Rattle.tsc_net.specs.declared.parts.LatchPart.{LatchPart}
use Rattle.tsc_net.specs.declared.netlist.Latch.{Latch}
use Rattle.tsc_net.proofs.BuildLemmas.{reading-next, missing-next, map-map}
use Rattle.tsc_net.proofs.build.latches_of.Goals as goal

pub loop-part-preserved : goal.loop-part-preserved
loop-part-preserved c =
    let names = c.args.names.now.names in
    let driven = c.args.names.now.nets in
    let parts = c.args.parts.now in
    let i = c.loop-part.part-index in
    let none : LatchPart = record { reads = record { number = 0 }; out = record { number = 0 }; init = false } in
    let part : LatchPart = get_or parts i none in
    let made : Latch = record { reads = c.in_ok-reads.reads; init = part.init } in
    let within : i < length parts = omega arith in
    let pushed : c.push.new.self.items ≡ c.loop-part.latches.items ++ made ∷ [] = search rules in
    let same : latch_as made ≡ numbered_latch driven (latch_of names part) =
    ap (λ n. record { reads = n; init = part.init }) c.in_ok-reads.ensures.net in
    let whole = map (numbered_latch driven) (map (latch_of names) parts) in
    let reads : LatchPart → List ℕ = λ l. text_of names l.reads in
    record {
      reading = subst (λ (latches : List Latch). map latch_as latches ++ map (numbered_latch driven) (map (latch_of names) (drop (i + 1) parts)) ≡ whole) (sym pushed)
          (reading-next latch_as (numbered_latch driven) (latch_of names) c.loop-part.latches.items made parts i part none whole within refl same c.loop-part.invariant.reading);
      missing =
          ap (first_missing driven) (map-map (λ l. l.reads) (latch_of names) (drop (i + 1) parts))
          ∙ missing-next driven reads parts i part none (first_missing driven (latch_reads (map (latch_of names) parts))) within refl c.in_ok-reads.ensures.driven
          (ap (first_missing driven) (sym (map-map (λ l. l.reads) (latch_of names) (drop i parts))) ∙ c.loop-part.invariant.missing);
    }
