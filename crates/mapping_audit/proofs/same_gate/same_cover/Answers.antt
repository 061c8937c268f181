use Rattle.std.proofs.Common.{◌≡◌, Bool, true, false, not, sym, ◌∙◌}
use Rattle.std.proofs.Math.Bool.{beq}
use Rattle.std.specs.Cmp.{booleans_Decides}
use Rattle.tsc_cover.proofs.Row.{table_of-Decides}
use Rattle.mapping_audit.proofs.SameGates.{cover_is}
use Rattle.mapping_audit.proofs.same_gate.same_cover.Goals as goal

yes : (b : Bool) → not b ≡ false → b ≡ true
yes true h = cc
yes false h = cc

pub returns : goal.returns
returns c =
    let width : c.args.a.now.width ≡ c.args.b.now.width = sym c.width.ensures.width ∙ c.if-width.false ∙ c.width-2.ensures.width in
    let on : c.args.a.now.on ≡ c.args.b.now.on
    = sym c.on.ensures.on ∙ (booleans_Decides c.on.result c.on-2.result).0 (yes (beq c.on.result c.on-2.result) c.if-on.false) ∙ c.on-2.ensures.on in
    let a = cover_is c.args.a.now c.rows.result.now c.rows.ensures.rows in
    let b = cover_is c.args.b.now c.rows-2.result.now c.rows-2.ensures.rows in
    let d = table_of-Decides c.args.a.now.width c.args.b.now.width c.args.a.now.on c.args.b.now.on c.rows.result.now c.rows-2.result.now width on c.rows.ensures.fit c.rows-2.ensures.fit c.same_rows.result c.same_rows.ensures.same in
    record { same = (λ t. a ∙ d.0 t ∙ sym b, λ e. d.1 (sym a ∙ e ∙ b)) }
