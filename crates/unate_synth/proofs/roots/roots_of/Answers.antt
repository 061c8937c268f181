use Rattle.std.proofs.Common.{◌≡◌, ◌<◌, List, length, slice_index_or, sym, ap, subst, arith}
use Rattle.std.proofs.lemmas.List.Elements.{All-get_or}
use Rattle.tsc_net.specs.PartsView.{IsName}
use Rattle.tsc_net.specs.declared.ids.Name.{Name}
use Rattle.net_writing.specs.Names.{name_at}
use Rattle.gate_net.specs.declared.root.Root.{Root}
use Rattle.gate_net.specs.declared.line.Line.{Line}
use Rattle.gate_net.specs.Gates.{IsLine}
use Rattle.unate_synth.specs.Roots.{AreRooted}
use Rattle.unate_synth.proofs.RootLemmas.{no_roots, root_added, added_few}
use Rattle.unate_synth.proofs.RootPlaces.{rooted_none, rooted_more}
use Rattle.unate_synth.proofs.roots.roots_of.Goals as goal

pub loop-place-init : goal.loop-place-init
loop-place-init c = record {
  are = no_roots c.args.parts.now.names c.args.sources c.args.made.now.gates c.new-roots.result c.new-roots.ensures.empty;
  rooted = rooted_none c.args.sources c.new-roots.result c.args.made.now.outputs c.args.word.now c.new-roots.ensures.empty;
  few = omega (arith, ap length c.new-roots.ensures.empty);
}

pub loop-place-preserved : goal.loop-place-preserved
loop-place-preserved c =
    let many = ap length c.as_slice-line-items.ensures.whole in
    let there : c.loop-place.place < length c.args.made.now.outputs = omega (arith, c.loop-place-test.true, many) in
    let line = All-get_or (IsLine c.args.made.now.gates) c.args.made.now.outputs c.loop-place.place (record { number = 0 }) there c.requires.lines in
    let name = All-get_or (IsName c.args.parts.now.names) c.args.word.now c.loop-place.place (record { number = 0 }) (omega (arith, c.requires.covered)) c.requires.names in
    let none : Line = record { number = 0 } in
    let at : slice_index_or c.as_slice-line-items.result.now c.loop-place.place none ≡ slice_index_or c.args.made.now.outputs c.loop-place.place none
    = ap (λ (list : List Line). slice_index_or list c.loop-place.place none) c.as_slice-line-items.ensures.whole in
    let name_is : Name = name_at c.args.word.now c.loop-place.place in
    record {
      are = root_added c.args.parts.now.names c.args.sources c.args.made.now.gates c.loop-place.roots c.add_root.new.roots _ c.loop-place.invariant.are
          (subst (IsLine c.args.made.now.gates) (sym at) line) name
          c.in_ok-add_root.ensures.added;
      rooted = rooted_more c.args.sources c.loop-place.roots c.add_root.new.roots c.args.made.now.outputs c.args.word.now c.loop-place.place _ c.loop-place.invariant.rooted there
          (ap (λ (l : Line). let root : Root = record { name = name_is; line = l } in root) at) c.in_ok-add_root.ensures.added c.in_ok-add_root.ensures.taken;
      few = omega (arith, c.loop-place.invariant.few, added_few c.args.sources c.loop-place.roots c.add_root.new.roots _ c.in_ok-add_root.ensures.added);
    }

pub returns-clause-few : goal.returns-clause-few
returns-clause-few c =
    let many = ap length c.as_slice-line-items.ensures.whole in
    omega (arith, c.loop-place-test.false, c.loop-place.auto.place-end, many, c.loop-place.invariant.few)

pub returns-clause-rooted : goal.returns-clause-rooted
returns-clause-rooted c =
    let many = ap length c.as_slice-line-items.ensures.whole in
    let at : c.loop-place.place ≡ length c.args.made.now.outputs = omega (arith, c.loop-place-test.false, c.loop-place.auto.place-end, many) in
    subst (AreRooted c.args.sources c.loop-place.roots c.args.made.now.outputs c.args.word.now) at c.loop-place.invariant.rooted
