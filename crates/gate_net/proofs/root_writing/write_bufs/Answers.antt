use Rattle.std.proofs.Common.{◌∙◌, refl, ap, take, length, arith}
use Rattle.std.proofs.lemmas.List.{take_all}
use Rattle.gate_net.specs.declared.root.Root.{Root}
use Rattle.gate_net.proofs.Written.{extends_not, extends_twice, names_kept, nodes_grow, roots_more, roots_all}
use Rattle.gate_net.proofs.Sizes.{taken_more}
use Rattle.gate_net.proofs.Bufs.{bufs_none, bufs_more, bufs_all}
use Rattle.gate_net.proofs.root_writing.write_bufs.Goals as goal

pub loop-root-init : goal.loop-root-init
loop-root-init c = record { extends = extends_not c.args.parts.now; same_names = refl; nodes = omega arith; bufs = bufs_none c.args.parts.now c.args.names.now (take 0 c.args.roots.now); before = λ G lo realise before. before; roots = λ G lo le realise k d lt. absurd (omega arith) }

pub returns-in_err-write_buf-clause-extends : goal.returns-in_err-write_buf-clause-extends
returns-in_err-write_buf-clause-extends c = extends_twice c.args.parts.now c.loop-root.parts c.write_buf.new.parts c.loop-root.invariant.extends c.in_err-write_buf.ensures.extends

pub loop-root-preserved : goal.loop-root-preserved
loop-root-preserved c =
    let start = c.args.parts.now in
    let here = c.loop-root.parts in
    let new = c.write_buf.new.parts in
    let loop = c.loop-root.invariant in
    let step = c.in_ok-write_buf.ensures in
    let none : Root = record { name = record { number = 0 }; line = record { number = 0 } } in
    record {
      extends = extends_twice start here new loop.extends step.extends;
      same_names = step.same_names ∙ loop.same_names;
      nodes = omega (arith, step.nodes, loop.nodes, taken_more c.args.roots.now c.loop-root.root-index none c.loop-root-test.true);
      bufs = bufs_more start here new c.args.names.now c.args.roots.now c.loop-root.root-index none loop.extends step.extends c.requires.distinct c.loop-root-test.true loop.bufs step.buf;
      before = λ G lo realise before. step.before G lo (names_kept start here lo loop.extends G c.args.names.now c.requires.names realise) (loop.before G lo realise before);
      roots = λ G lo le realise.
          roots_more here new lo G c.args.roots.now c.loop-root.root-index none step.extends step.same_names c.loop-root-test.true (loop.roots G lo le realise)
          (step.root G lo (omega (arith, le, nodes_grow start here loop.extends)) (names_kept start here lo loop.extends G c.args.names.now c.requires.names realise));
    }

pub returns-clause-roots : goal.returns-clause-roots
returns-clause-roots c = λ G lo le realise. roots_all c.loop-root.parts lo G c.args.roots.now c.loop-root.root-index c.loop-root-test.false (c.loop-root.invariant.roots G lo le realise)

pub returns-clause-bufs : goal.returns-clause-bufs
returns-clause-bufs c = bufs_all c.args.parts.now c.loop-root.parts c.args.names.now c.args.roots.now c.loop-root.root-index c.loop-root-test.false c.loop-root.invariant.bufs

pub returns-clause-nodes : goal.returns-clause-nodes
returns-clause-nodes c = let few = c.loop-root.invariant.nodes in omega (arith, few, ap length (take_all c.loop-root.root-index c.args.roots.now c.loop-root-test.false))
