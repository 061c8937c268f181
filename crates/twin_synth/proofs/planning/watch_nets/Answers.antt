use Rattle.std.proofs.Common.{◌≡◌, ℕ, ◌-◌, List, [], ◌∷◌, ◌++◌, ◌∙◌, ap}
use Rattle.std.specs.List.{range_with_len}
use Rattle.twin_synth.proofs.TwinSizes.{watch_low}
use Rattle.twin_synth.proofs.planning.watch_nets.Goals as goal

pub nets_of-requires : goal.nets_of-requires
nets_of-requires c = record {
  few = watch_low c.args.first c.args.watched c.args.after 4294967296 c.as_slice.result.now
      (c.as_slice.ensures.whole ∙ c.in_ok-push.ensures.ok ∙ ap (λ (l : List ℕ). l ++ (c.args.after - 1) ∷ [])
      (c.in_ok-push_range.ensures.pushed ∙ ap (λ (l : List ℕ). l ++ range_with_len c.args.first c.args.watched) c.new-list.ensures.empty))
      c.requires.few c.requires.small;
}
