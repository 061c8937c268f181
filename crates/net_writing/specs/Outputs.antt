-- Parts with more outputs.
use Rattle.std.specs.Prelude.{ℕ, List, ◌++◌}
use Rattle.tsc_net.specs.Parts.{PartsOf}

-- the parts with some more outputs, by their names
abbrev pub with_outputs : PartsOf → List (List ℕ) → PartsOf
with_outputs p texts = let N = p.named in record p { named = record N { outputs = N.outputs ++ texts } }
