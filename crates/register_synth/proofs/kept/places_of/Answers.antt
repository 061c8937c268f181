use Rattle.std.proofs.Common.{◌≡◌, ◌+◌, refl, sym, subst, arith}
use Rattle.fault_secure.specs.Circuit.{bit}
use Rattle.register_synth.specs.inner.Marked.{AreMarked}
use Rattle.register_synth.proofs.Places.{none_marked, marked_more}
use Rattle.register_synth.proofs.kept.places_of.Goals as goal

pub loop-place-init : goal.loop-place-init
loop-place-init c = subst (AreMarked c.args.marks.now c.args.first 0) (sym c.new-places.ensures.empty) (none_marked c.args.marks.now c.args.first)

pub loop-place-preserved : goal.loop-place-preserved
loop-place-preserved c =
    marked_more c.args.marks.now c.args.first c.loop-place.place c.loop-place.places c.loop-place.invariant (bit c.args.marks.now (c.args.first + c.loop-place.place)) c.push_if.new.places refl
    c.in_ok-push_if.ensures.pushed

pub returns : goal.returns
returns c =
    let end : c.loop-place.place ≡ c.args.count = (let low = c.loop-place-test.false in let high = c.loop-place.auto.place-end in omega arith) in
    record { places = subst (λ n. AreMarked c.args.marks.now c.args.first n c.loop-place.places) end c.loop-place.invariant }
