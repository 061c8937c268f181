use Rattle.std.proofs.Common.{◌≡◌, ◌<◌, ◌≤◌, ◌∷◌, ◌++◌, [], not, length, slice_set, sym, ◌∙◌, ap, arith}
use Rattle.std.specs.List.{list_any, position_or_len}
use Rattle.parity_code.specs.FirstFit.{share}
use Rattle.parity_code.proofs.OverlapLemmas.{joined_first, joined_last}
use Rattle.parity_code.proofs.GroupSteps.{get_default}
use Rattle.tsc_net.proofs.ResultLemmas.{on_ok_so}
use Rattle.register_synth.proofs.groups.join.Goals as goal

pub returns-then-place-len : goal.returns-then-place-len
returns-then-place-len c =
    let test = c.if-place-len.true in
    let count = c.len.ensures.count in
    let within : c.first_apart-place.result < length c.args.groups.now = omega arith in
    let first : c.first_apart-place.result ≡ position_or_len (λ group. not (list_any (share c.args.cells.now c.args.output) group)) c.args.groups.now
    = c.first_apart-place.ensures.first ∙ ap (position_or_len (λ group. not (list_any (share c.args.cells.now c.args.output) group))) c.as_slice.ensures.whole in
    record {
      joined = on_ok_so
          (λ e. ap (slice_set c.args.groups.now c.first_apart-place.result)
          (e ∙ ap (λ g. g ++ c.args.output ∷ []) (get_default c.args.groups.now c.first_apart-place.result c.get_mut.result.now within c.get_mut.ensures.item))
          ∙ sym (joined_first (share c.args.cells.now) c.args.groups.now c.args.output c.first_apart-place.result first within)) c.push.result
          c.push.ensures.ok;
    }

pub returns : goal.returns
returns c =
    let test = c.if-place-len.false in
    let count = c.len.ensures.count in
    let first : c.first_apart-place.result ≡ position_or_len (λ group. not (list_any (share c.args.cells.now c.args.output) group)) c.args.groups.now
    = c.first_apart-place.ensures.first ∙ ap (position_or_len (λ group. not (list_any (share c.args.cells.now c.args.output) group))) c.as_slice.ensures.whole in
    let past : length c.args.groups.now ≤ position_or_len (λ group. not (list_any (share c.args.cells.now c.args.output) group)) c.args.groups.now = omega arith in
    record {
      joined = on_ok_so
          (λ e. e ∙ ap (λ g. c.args.groups.now ++ g ∷ []) (c.in_ok-push.ensures.ok ∙ ap (λ g. g ++ c.args.output ∷ []) c.new-group.ensures.empty)
          ∙ sym (joined_last (share c.args.cells.now) c.args.groups.now c.args.output past)) c.push-3.result
          c.push-3.ensures.ok;
    }
