use Rattle.std.proofs.Common.{inr, arith}
use Rattle.gate_net.proofs.Written.{buf_extends, buf_is_root, extends_same}
use Rattle.gate_net.proofs.Given.{buf_before}
use Rattle.gate_net.proofs.root_writing.write_buf.Goals as goal

pub returns-clause-extends : goal.returns-clause-extends
returns-clause-extends c = buf_extends c.args.parts.now c.node.new.self c.name_of-name.result c.args.root.name c.in_ok-reads.reads c.in_ok-cover.cover c.in_ok-reads.ensures.same c.in_ok-node.ensures.ok

pub returns-in_err-node-clause-extends : goal.returns-in_err-node-clause-extends
returns-in_err-node-clause-extends c = extends_same c.args.parts.now c.node.new.self c.in_err-node.ensures.err

pub returns-clause-root : goal.returns-clause-root
returns-clause-root c =
    buf_is_root c.args.parts.now c.node.new.self c.args.names.now c.args.root.line c.name_of-name.result c.args.root.name c.in_ok-reads.reads c.in_ok-cover.cover
    c.requires.names c.name_of-name.ensures.name c.in_ok-reads.ensures.same c.in_ok-cover.ensures.cover c.in_ok-node.ensures.ok

pub returns-clause-before : goal.returns-clause-before
returns-clause-before c =
    buf_before c.args.parts.now c.node.new.self c.args.names.now c.args.root.line c.name_of-name.result c.args.root.name c.in_ok-reads.reads c.in_ok-cover.cover
    c.name_of-name.ensures.name c.in_ok-reads.ensures.same c.in_ok-node.ensures.ok

pub returns-clause-buf : goal.returns-clause-buf
returns-clause-buf c = inr (record {
  name = c.name_of-name.result;
  reads = c.in_ok-reads.reads;
  cover = c.in_ok-cover.cover;
  has = c.name_of-name.ensures.name;
  other = λ e. omega (arith, c.if-name-root.false, e);
  reads_are = c.in_ok-reads.ensures.same;
  is_cover = c.in_ok-cover.ensures.cover;
  node = c.in_ok-node.ensures.ok;
})
