-- Twins that are made of a source are twins of what is kept of it, and secure for it.
use Rattle.std.proofs.Common.{◌≡◌, map, length, sym, subst}
use Rattle.std.proofs.lemmas.List.{length-map}
use Rattle.register_laws.proofs.TwinsSecure.{twins_are_secure, twins_are_fault_secure}
use Rattle.register_laws.proofs.PartRuns.{secure_for_the_whole, fault_secure_for_the_whole}
use Rattle.register_synth.specs.Kept.{kept_part, kept_place, kept_net}
use Rattle.register_synth.specs.TwinNet.{own_place, copied_place, twin_plan}
use Rattle.register_synth.specs.TwinLaws.{TwinsAreMade, MadeTwinsAreSecure}
use Rattle.register_synth.specs.TwinChecker.{TwinsAreChecked}
use Rattle.register_synth.proofs.KeptPart.{kept_is_part}
use Rattle.register_synth.proofs.TwinMade.{IsGrouping, is_twin}
use Rattle.register_synth.proofs.PartGroups.{grouping, groups_apart_in_part}
use Rattle.register_synth.proofs.TwinDecides.{twin_decides, twin_planned}
use Rattle.register_synth.proofs.TwinOrder.{twin_acyclic}

-- they are twins of what is kept
pub twins_are_made : TwinsAreMade
twins_are_made S N registers covers groups rail1 rail2 closed acyclic kept are begins no_ring checker =
    let part = kept_is_part S registers covers closed acyclic kept in
    is_twin (kept_part S registers covers) N groups rail1 rail2 part.closed begins
    (subst (λ n. IsGrouping n groups) (sym (length-map S.outputs (kept_net S registers covers))) (grouping S groups are))
    part.acyclic no_ring (groups_apart_in_part S registers covers groups closed acyclic kept are) checker

-- and secure for the source
pub made_twins_are_secure : MadeTwinsAreSecure
made_twins_are_secure S N registers covers groups rail1 rail2 closed acyclic kept are begins no_ring checker =
    let part = kept_is_part S registers covers closed acyclic kept in
    let twin = twins_are_made S N registers covers groups rail1 rail2 closed acyclic kept are begins no_ring checker in (
      secure_for_the_whole (kept_part S registers covers) S N (twin_plan (kept_part S registers covers) groups rail1 rail2) (kept_place S registers covers) part acyclic
          (twins_are_secure (kept_part S registers covers) N (twin_plan (kept_part S registers covers) groups rail1 rail2) (own_place (kept_part S registers covers)) (copied_place (kept_part S registers covers)) twin),
      fault_secure_for_the_whole (kept_part S registers covers) S N (twin_plan (kept_part S registers covers) groups rail1 rail2) (kept_place S registers covers) part acyclic
          (twins_are_fault_secure (kept_part S registers covers) N (twin_plan (kept_part S registers covers) groups rail1 rail2) (own_place (kept_part S registers covers)) (copied_place (kept_part S registers covers)) twin),
    )

-- with the plan's checker they are twins, their plan is of them, and they are secure
pub twins_are_checked : TwinsAreChecked
twins_are_checked S N registers covers groups rail1 rail2 made closed acyclic few kept are begins checker =
    let part = kept_is_part S registers covers closed acyclic kept in
    let count : length (map (kept_net S registers covers) S.outputs) ≡ length S.outputs = length-map S.outputs (kept_net S registers covers) in
    let apart : IsGrouping (length (map (kept_net S registers covers) S.outputs)) groups = subst (λ n. IsGrouping n groups) (sym count) (grouping S groups are) in
    let no_ring = twin_acyclic (kept_part S registers covers) N groups rail1 rail2 part.closed begins apart part.acyclic.rank part.acyclic.ranks checker.appended in
    let decides = twin_decides (kept_part S registers covers) N groups rail1 rail2 made part.closed begins apart checker in
    let secure = made_twins_are_secure S N registers covers groups rail1 rail2 closed acyclic kept are begins no_ring decides in
    record {
      part = part;
      twin = twins_are_made S N registers covers groups rail1 rail2 closed acyclic kept are begins no_ring decides;
      planned = twin_planned (kept_part S registers covers) N groups rail1 rail2 made part.closed begins apart checker;
      secure = secure.0;
      fault_secure = secure.1;
    }
