use Rattle.std.proofs.Common.{ℕ, List, Option, set, ap₂, ◌∙◌}
use Rattle.std.proofs.lemmas.List.{map-set}
use Rattle.vectors.specs.Trial.{coded_place}
use Rattle.vectors.proofs.places.Places.put.Goals as goal

pub returns : goal.returns
returns c = record {
  put = map-set coded_place c.self.inside.codes.items c.args.fault c.code_of.result
      ∙ ap₂ (λ (places : List (Option ℕ)) (place : Option ℕ). set places c.args.fault place) c.self.view_is c.code_of.ensures.code;
}
