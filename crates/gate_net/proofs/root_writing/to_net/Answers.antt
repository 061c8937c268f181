use Rattle.std.proofs.Common.{◌≡◌, All, Bool, List, Option, ◌∙◌, length, map, subst, sym, ap, arith}
use Rattle.tsc_net.specs.Names.{IsNumbering}
use Rattle.tsc_net.proofs.ResultLemmas.{ok_both, on_ok_so}
use Rattle.tsc_net.specs.Parts.{PartsOf}
use Rattle.tsc_net.specs.declared.ids.Name.{Name}
use Rattle.gate_net.specs.declared.root.Root.{Root}
use Rattle.gate_net.specs.Gates.{GateNetwork, IsLine}
use Rattle.gate_net.specs.Written.{IsNamed, NamesRealise, RootsRealise}
use Rattle.gate_net.specs.Added.{root_texts}
use Rattle.gate_net.specs.Writing.{MarkedNamed, NamedMarked, AreOwners, AreBufs}
use Rattle.gate_net.proofs.Written.{nodes_grow, extends_twice}
use Rattle.gate_net.proofs.Lines.{narrow_of}
use Rattle.gate_net.proofs.NamedLines.{root_lines_within, roots_named}
use Rattle.gate_net.proofs.Whole.{AddsRoots, owners_below, owners_fit, owners_differ, outs_known, outs_once, fresh_outs, roots_driven, signs_right, inner_differ, root_texts_kept}
use Rattle.gate_net.proofs.NeededNames.{covers_gates, outs_listed, outs_needed}
use Rattle.gate_net.proofs.root_writing.to_net.Goals as goal
use Rattle.gate_net.proofs.root_writing.to_net.Goals.{After-as_slice, After-deref-3}

-- the lines are those of the roots
lines_are : (c : After-as_slice) → c.as_slice.result.now ≡ map (λ (root : Root). root.line) c.args.roots.now
lines_are c = c.as_slice.ensures.whole ∙ c.in_ok-lines.ensures.lines ∙ ap (map (λ (root : Root). root.line)) c.as_slice-roots.ensures.whole

-- the owners of lines, whichever of two equal lists they and the roots are given as
owners_are : (p : PartsOf) (G : GateNetwork) (roots slice : List Root) (owners list : List (Option Name)) → slice ≡ roots → list ≡ owners → AreOwners p G slice owners → AreOwners p G roots list
owners_are p G roots slice owners list whole value are = subst (AreOwners p G roots) (sym value) (subst (λ (some : List Root). AreOwners p G some owners) whole are)

-- the names realise their lines
realise : (c : After-deref-3) → NamesRealise c.write_gates.new.parts (length c.args.parts.now.named.nodes) c.args.gates.now c.deref-3.result.now
realise c = subst (NamesRealise c.write_gates.new.parts (length c.args.parts.now.named.nodes) c.args.gates.now) (sym c.deref-3.ensures.value) c.in_ok-names.ensures.realise

-- gates and Bufs were added for the roots
added : (c : goal.After-drop-lines-inside-2) → AreBufs c.write_gates.new.parts c.write_bufs.new.parts c.deref-3.result.now c.as_slice-roots.result.now
    → AddsRoots c.args.parts.now c.write_gates.new.parts c.write_bufs.new.parts c.args.gates.now c.args.roots.now c.deref-2.result.now c.in_ok-names.names.items
added c bufs = record {
  gates_extend = c.in_ok-names.ensures.extends;
  bufs_extend = c.write_bufs.ensures.extends;
  sound = c.in_ok-names.ensures.sound;
  sized = c.in_ok-names.ensures.sized;
  written = c.in_ok-names.ensures.written;
  bufs =
      subst (λ (list : List (Option Name)). AreBufs c.write_gates.new.parts c.write_bufs.new.parts list c.args.roots.now) c.deref-3.ensures.value
      (subst (AreBufs c.write_gates.new.parts c.write_bufs.new.parts c.deref-3.result.now) c.as_slice-roots.ensures.whole bufs);
  owners_are = owners_are _ _ _ _ _ _ c.as_slice-roots.ensures.whole c.deref-2.ensures.value c.in_ok-owners.ensures.are;
  named = c.requires.names;
  distinct = c.requires.distinct;
  undriven = c.requires.undriven;
}

pub needed-requires : goal.needed-requires
needed-requires c = record { wanted = root_lines_within c.args.gates.now c.args.roots.now c.as_slice.result.now (lines_are (goal.at.needed-requires c).After-as_slice) c.requires.lines }

pub owners-requires-clause-lines : goal.owners-requires-clause-lines
owners-requires-clause-lines c = subst (λ (roots : List Root). All (λ root. IsLine c.args.gates.now root.line) roots) (sym c.as_slice-roots.ensures.whole) c.requires.lines

pub write_gates-requires-clause-below : goal.write_gates-requires-clause-below
write_gates-requires-clause-below c = owners_below _ _ _ _ (owners_are _ _ _ _ _ _ c.as_slice-roots.ensures.whole c.deref-2.ensures.value c.in_ok-owners.ensures.are) c.requires.names

pub write_gates-requires-clause-fit : goal.write_gates-requires-clause-fit
write_gates-requires-clause-fit c = owners_fit _ _ _ _ (owners_are _ _ _ _ _ _ c.as_slice-roots.ensures.whole c.deref-2.ensures.value c.in_ok-owners.ensures.are) c.requires.names

pub write_gates-requires-clause-differ : goal.write_gates-requires-clause-differ
write_gates-requires-clause-differ c = owners_differ _ _ _ _ (owners_are _ _ _ _ _ _ c.as_slice-roots.ensures.whole c.deref-2.ensures.value c.in_ok-owners.ensures.are) c.requires.names c.requires.distinct c.requires.undriven

pub write_bufs-requires-clause-distinct : goal.write_bufs-requires-clause-distinct
write_bufs-requires-clause-distinct c =
    subst (λ (roots : List Root). IsNumbering (root_texts c.write_gates.new.parts.names roots)) (sym c.as_slice-roots.ensures.whole)
    (subst IsNumbering (sym (root_texts_kept c.args.parts.now c.write_gates.new.parts c.args.roots.now c.in_ok-names.ensures.extends c.requires.names)) c.requires.distinct)

pub write_bufs-requires-clause-named : goal.write_bufs-requires-clause-named
write_bufs-requires-clause-named c =
    let G = c.args.gates.now in
    let names = c.in_ok-names.names.items in
    let named = subst (λ (marks : List Bool). MarkedNamed marks (length G.gates) names) c.deref.ensures.value c.in_ok-names.ensures.named in
    subst (λ (list : List (Option Name)). All (λ root. IsNamed list root.line) c.as_slice-roots.result.now) (sym c.deref-3.ensures.value)
    (subst (λ (roots : List Root). All (λ root. IsNamed names root.line) roots) (sym c.as_slice-roots.ensures.whole)
    (roots_named G c.args.roots.now c.as_slice.result.now c.in_ok-marks.marks.items names (lines_are (goal.at.write_bufs-requires-clause-named c).After-as_slice) c.in_ok-marks.ensures.marks named c.requires.lines))

pub returns-clause-adds : goal.returns-clause-adds
returns-clause-adds c = extends_twice c.args.parts.now c.write_gates.new.parts c.write_bufs.new.parts c.in_ok-names.ensures.extends c.write_bufs.ensures.extends

pub returns-clause-roots : goal.returns-clause-roots
returns-clause-roots c =
    let grown = nodes_grow c.args.parts.now c.write_gates.new.parts c.in_ok-names.ensures.extends in
    on_ok_so
    (λ f. subst (RootsRealise c.write_bufs.new.parts (length c.args.parts.now.named.nodes) c.args.gates.now) c.as_slice-roots.ensures.whole (f c.args.gates.now _ grown (realise (goal.at.returns-clause-roots c).After-deref-3)))
    c.write_bufs.result c.write_bufs.ensures.roots

pub returns-clause-before : goal.returns-clause-before
returns-clause-before c = on_ok_so (λ f. f c.args.gates.now _ (realise (goal.at.returns-clause-before c).After-deref-3) c.in_ok-names.ensures.before) c.write_bufs.result c.write_bufs.ensures.before

pub returns-clause-narrow : goal.returns-clause-narrow
returns-clause-narrow c = on_ok_so (λ b. narrow_of c.args.parts.now c.write_bufs.new.parts (returns-clause-adds c)) c.write_bufs.result c.write_bufs.ensures.bufs

pub returns-clause-outs : goal.returns-clause-outs
returns-clause-outs c = on_ok_so (λ b. outs_known _ _ _ _ _ _ _ (added c b)) c.write_bufs.result c.write_bufs.ensures.bufs

pub returns-clause-once : goal.returns-clause-once
returns-clause-once c = on_ok_so (λ b. outs_once _ _ _ _ _ _ _ (added c b)) c.write_bufs.result c.write_bufs.ensures.bufs

pub returns-clause-fresh : goal.returns-clause-fresh
returns-clause-fresh c = on_ok_so (λ b. fresh_outs _ _ _ _ _ _ _ (added c b)) c.write_bufs.result c.write_bufs.ensures.bufs

pub returns-clause-signs : goal.returns-clause-signs
returns-clause-signs c = on_ok_so (λ b. signs_right _ _ _ _ _ _ _ (added c b) _ c.in_ok-names.ensures.realise) c.write_bufs.result c.write_bufs.ensures.bufs

pub returns-clause-differ : goal.returns-clause-differ
returns-clause-differ c = on_ok_so (λ b. inner_differ _ _ _ _ _ _ _ (added c b) _ c.in_ok-names.ensures.realise) c.write_bufs.result c.write_bufs.ensures.bufs

pub returns-clause-driven : goal.returns-clause-driven
returns-clause-driven c = ok_both (λ b realised. roots_driven _ _ _ _ _ _ _ (added c b) realised) c.write_bufs.result c.write_bufs.ensures.bufs (returns-clause-roots c)

pub returns-clause-covers : goal.returns-clause-covers
returns-clause-covers c = on_ok_so (λ b. covers_gates _ _ _ _ _ _ _ (added c b)) c.write_bufs.result c.write_bufs.ensures.bufs

pub returns-clause-listed : goal.returns-clause-listed
returns-clause-listed c = on_ok_so (λ b. outs_listed _ _ _ _ _ _ _ (added c b) c.in_ok-names.ensures.below) c.write_bufs.result c.write_bufs.ensures.bufs

pub returns-clause-needed : goal.returns-clause-needed
returns-clause-needed c =
    let names = c.in_ok-names.names.items in
    let all_named = subst (λ (marks : List Bool). MarkedNamed marks (length c.args.gates.now.gates) names) c.deref.ensures.value c.in_ok-names.ensures.named in
    let only = subst (λ (marks : List Bool). NamedMarked marks names) c.deref.ensures.value c.in_ok-names.ensures.marked in
    ok_both
    (λ b realised.
    outs_needed _ _ _ _ _ _ _ (added c b) c.in_ok-names.ensures.realise realised c.as_slice.result.now c.in_ok-marks.marks.items (lines_are (goal.at.returns-clause-needed c).After-as_slice) c.in_ok-marks.ensures.marks all_named only)
    c.write_bufs.result c.write_bufs.ensures.bufs (returns-clause-roots c)

pub returns-clause-few : goal.returns-clause-few
returns-clause-few c =
    on_ok_so (λ b. let same = ap length b.names_stay in let few = c.in_ok-names.ensures.few in omega arith) c.write_bufs.result c.write_bufs.ensures.bufs

pub returns-clause-nodes : goal.returns-clause-nodes
returns-clause-nodes c =
    on_ok_so (λ more. let few = c.in_ok-names.ensures.nodes in let same = ap length c.as_slice-roots.ensures.whole in omega arith) c.write_bufs.result c.write_bufs.ensures.nodes
