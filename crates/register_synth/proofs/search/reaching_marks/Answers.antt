use Rattle.std.proofs.Common.{◌<◌, sym, ap, ◌∙◌, subst}
use Rattle.std.proofs.lemmas.List.Elements.{All-map}
use Rattle.fault_secure.specs.Circuit.{nets}
use Rattle.tsc_net.specs.PlanView.{net_numbers}
use Rattle.register_synth.specs.Reaching.{MarksReaching}
use Rattle.register_synth.specs.inner.Search.{Search}
use Rattle.register_synth.proofs.Searched.{searched_marks}
use Rattle.register_synth.proofs.search.reaching_marks.Goals as goal

pub returns : goal.returns
returns c = record {
  marks = subst (MarksReaching c.args.net.now.circuit (net_numbers c.args.roots.now)) (sym (ap (λ (s : Search). s.marks) (c.found.view_is ∙ c.in_ok-found.ensures.searched)))
      (searched_marks c.args.net.now.circuit (net_numbers c.args.roots.now) c.nets-nets.ensures.checked.closed
      (All-map (λ n. n < nets c.args.net.now.circuit) (λ net. net.number) c.args.roots.now c.requires.nets));
}
