use Rattle.std.proofs.Common.{◌≡◌, ◌==◌, ◌++◌, Bool, true, false, if◌then◌else◌, List, [], ◌∷◌, ap, sym, ◌∙◌}
use Rattle.std.specs.List.{list_any}
use Rattle.tsc_bits.proofs.Lists.{map-push}
use Rattle.tsc_net.specs.PlanView.{net_numbers}
use Rattle.tsc_net.specs.declared.ids.NetId.{NetId}
use Rattle.checker_audit.specs.Misjudged.{with_net}
use Rattle.checker_audit.proofs.SettlingLemmas.{any_number}
use Rattle.checker_audit.proofs.distinct.add_net.Goals as goal

new_net : (nets pushed seen : List NetId) (net : NetId) (b : Bool) → pushed ≡ nets ++ net ∷ [] → seen ≡ nets → b ≡ list_any (λ other. other.number == net.number) seen → b ≡ false
    → net_numbers pushed ≡ with_net (net_numbers nets) net.number
new_net nets pushed seen net b push same has none =
    ap net_numbers push ∙ map-push (λ (net : NetId). net.number) nets net
    ∙ sym (ap (λ (b : Bool). if b then net_numbers nets else net_numbers nets ++ net.number ∷ [])
    (sym (any_number nets net.number) ∙ ap (λ list. list_any (λ other. other.number == net.number) list) (sym same) ∙ sym has ∙ none))

old_net : (nets seen : List NetId) (net : NetId) (b : Bool) → seen ≡ nets → b ≡ list_any (λ other. other.number == net.number) seen → b ≡ true
    → net_numbers nets ≡ with_net (net_numbers nets) net.number
old_net nets seen net b same has some =
    sym (ap (λ (b : Bool). if b then net_numbers nets else net_numbers nets ++ net.number ∷ [])
    (sym (any_number nets net.number) ∙ ap (λ list. list_any (λ other. other.number == net.number) list) (sym same) ∙ sym has ∙ some))

pub returns-in_ok-push : goal.returns-in_ok-push
returns-in_ok-push c = record {
  added = new_net c.args.nets.now.items c.push.new.self.items c.deref.result.now c.args.net c.has_net.result c.in_ok-push.ensures.items c.deref.ensures.value c.has_net.ensures.has c.if-not-has_net.true;
}

pub returns-else-not-has_net : goal.returns-else-not-has_net
returns-else-not-has_net c = record {
  added = old_net c.args.nets.now.items c.deref.result.now c.args.net c.has_net.result c.deref.ensures.value c.has_net.ensures.has c.if-not-has_net.false;
}
