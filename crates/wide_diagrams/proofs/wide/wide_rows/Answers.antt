use Rattle.std.proofs.lemmas.Result.{on_ok_weaker}
use Rattle.wide_diagrams.specs.Wide.{stated_functions}
use Rattle.wide_diagrams.proofs.Counts.{at_most, more_than, few_where_ok}
use Rattle.wide_diagrams.proofs.wide.wide_rows.Goals as goal

pub returns-in-Ok-clause-few : goal.returns-in-Ok-clause-few
returns-in-Ok-clause-few c = few_where_ok c.stated_rows.result c.args.diagrams.now.room c.args.source.now.circuit c.args.net.now.circuit c.args.plan.now
    (λ vs v vals_source vals. on_ok_weaker c.stated_rows.result
    (λ built. at_most c.args.diagrams.now c.stated_rows.new.diagrams (stated_functions c.args.source.now.circuit vs c.args.net.now.circuit v c.args.plan.now) c.args.net.now.circuit.inputs c.requires.new c.requires.inputs
    (c.stated_rows.ensures.added vs v vals_source vals) built)
    (c.stated_rows.ensures.built vs v vals_source vals))

pub returns-in-Ok-clause-many : goal.returns-in-Ok-clause-many
returns-in-Ok-clause-many c = λ spent vs v vals_source vals.
    more_than c.args.diagrams.now c.stated_rows.new.diagrams (stated_functions c.args.source.now.circuit vs c.args.net.now.circuit v c.args.plan.now) c.args.net.now.circuit.inputs c.requires.new c.requires.inputs
    (c.stated_rows.ensures.added vs v vals_source vals) (c.stated_rows.ensures.short spent vs v vals_source vals)
