-- The steps of the loops over the inputs of parts, and over the parts.
use Rattle.std.proofs.Common.{◌≡◌, ℕ, ◌+◌, ◌<◌, ◌≤◌, List, [], drop, length, get_or, sym, ap, ◌∙◌, arith}
use Rattle.std.proofs.lemmas.List.{length-take-le, get_or-take}
use Rattle.tsc_net.specs.Names.{with_text, text_at}
use Rattle.tsc_net.specs.NetlistOf.{NetlistOf, IsBuilt}
use Rattle.code_checkers.proofs.Loops.{drop_at}
use Rattle.module_join.specs.declared.part.Part.{Part}
use Rattle.module_join.specs.JointNet.{input_names, with_texts, inputs_from}
use Rattle.module_join.specs.JoinParts.{parts_as}

-- a name that is added was the first of those that were left
pub input_step : (net : NetlistOf) (seen : List (List ℕ)) (text : List ℕ) (i : ℕ) → IsBuilt net → i < net.circuit.inputs → text ≡ text_at net.names i
    → with_texts (with_text seen text) (drop (i + 1) (input_names net)) ≡ with_texts seen (drop i (input_names net))
input_step net seen text i h lt e =
    let n = net.circuit.inputs in
    let few : n ≤ length net.names = omega (arith, h.sized) in
    let within : i < length (input_names net) = omega (arith, lt, length-take-le n net.names few) in
    ap (with_texts seen) (sym (drop_at (input_names net) i [] text within (e ∙ sym (get_or-take n net.names i [] lt))))

-- and so was a part
pub part_step : (parts : List Part) (seen : List (List ℕ)) (p : Part) (i : ℕ) → i < length parts → p ≡ get_or parts i p
    → inputs_from (with_texts seen (input_names p.net)) (parts_as (drop (i + 1) parts)) ≡ inputs_from seen (parts_as (drop i parts))
part_step parts seen p i lt e = ap (λ (ps : List Part). inputs_from seen (parts_as ps)) (sym (drop_at parts i p p lt e))
