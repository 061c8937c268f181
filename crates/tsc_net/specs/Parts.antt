-- Parts of a netlist: the names seen so far, what was added, and where fresh names go on.
use Rattle.std.specs.Prelude.{◌≡◌, ℕ, ◌+◌, Bool, false, List, [], ◌∷◌, ◌++◌, length, codes, Option, None, Some, if◌then◌else◌, take, zero, suc}
use Rattle.std.specs.Str.{bytes_eq}
use Rattle.std.specs.Fmt.{decimal}
use Rattle.std.specs.List.{list_any}
use Rattle.tsc_cover.specs.Cover.{CoverTable}
use Rattle.tsc_net.specs.Named.{Named}
use Rattle.tsc_net.specs.Names.{with_text, has_text}

-- which fresh names there are: `t`, the number, `_` and a count, of which `next` is the next one
pub record FreshNames : Type 0 where
  pub number : ℕ
  pub next : ℕ

-- the names in the order in which they were first seen, the netlist by names, and the fresh names once one was given
pub record PartsOf : Type 0 where
  pub names : List (List ℕ)
  pub named : Named
  pub fresh : Option FreshNames

-- no name, no part
abbrev pub no_parts : PartsOf
no_parts = record { names = []; named = record { model = codes "model"; inputs = []; outputs = []; latches = []; nodes = [] }; fresh = None }

-- the parts with one more name, model, input, output, latch or node
abbrev pub with_name : PartsOf → List ℕ → PartsOf
with_name p text = record p { names = with_text p.names text }

abbrev pub with_model : PartsOf → List ℕ → PartsOf
with_model p text = let N = p.named in record p { named = record N { model = text } }

abbrev pub with_input : PartsOf → List ℕ → PartsOf
with_input p text = let N = p.named in record p { named = record N { inputs = N.inputs ++ text ∷ [] } }

abbrev pub with_output : PartsOf → List ℕ → PartsOf
with_output p text = let N = p.named in record p { named = record N { outputs = N.outputs ++ text ∷ [] } }

abbrev pub with_latch : PartsOf → List ℕ → List ℕ → Bool → PartsOf
with_latch p reads out init =
    let N = p.named in
    record p { named = record N { latches = N.latches ++ record { reads = reads; out = out; init = init } ∷ [] } }

abbrev pub with_node : PartsOf → List (List ℕ) → List ℕ → CoverTable → PartsOf
with_node p reads out cover =
    let N = p.named in
    record p { named = record N { nodes = N.nodes ++ record { reads = reads; out = out; cover = cover } ∷ [] } }

-- what names that were given a letter and a number begin with
abbrev pub lettered_prefix : ℕ → ℕ → List ℕ
lettered_prefix letter number = (letter ∷ decimal number) ++ 95 ∷ []

-- what the fresh names with this number begin with: their letter is `t`
abbrev pub fresh_prefix : ℕ → List ℕ
fresh_prefix number = lettered_prefix 116 number

-- the text of a fresh name
abbrev pub fresh_text : ℕ → ℕ → List ℕ
fresh_text number count = fresh_prefix number ++ decimal count

-- the text begins with the prefix
abbrev pub begins_with : List ℕ → List ℕ → Bool
begins_with prefix text = bytes_eq prefix (take (length prefix) text)

-- some name begins with this letter, this number and `_`
abbrev pub is_taken_under : ℕ → List (List ℕ) → ℕ → Bool
is_taken_under letter names number = list_any (begins_with (lettered_prefix letter number)) names

-- the first number from `number` on that isn't taken under the letter, of the `tries` that are left
abbrev pub free_number_under_from : ℕ → List (List ℕ) → ℕ → ℕ → ℕ
free_number_under_from letter names zero number = number
free_number_under_from letter names (suc tries) number =
    if is_taken_under letter names number then free_number_under_from letter names tries (number + 1) else number

-- the least number that isn't taken under the letter; it is at most the number of names
abbrev pub free_number_under : ℕ → List (List ℕ) → ℕ
free_number_under letter names = free_number_under_from letter names (length names) 0

-- the same of the fresh names
abbrev pub is_taken : List (List ℕ) → ℕ → Bool
is_taken names number = is_taken_under 116 names number

abbrev pub free_number_from : List (List ℕ) → ℕ → ℕ → ℕ
free_number_from names tries number = free_number_under_from 116 names tries number

-- the least number for which no name begins as fresh names with it do
abbrev pub free_number : List (List ℕ) → ℕ
free_number names = free_number_under 116 names

-- where the next fresh name stands: the first one fixes the number over the names that are there
abbrev pub fresh_of : PartsOf → Option FreshNames → FreshNames
fresh_of p None = record { number = free_number p.names; next = 0 }
fresh_of p (Some fresh) = fresh

-- the text of the next fresh name
abbrev pub next_fresh : PartsOf → List ℕ
next_fresh p = let fresh = fresh_of p p.fresh in fresh_text fresh.number fresh.next

-- the parts with one more fresh name
abbrev pub with_fresh : PartsOf → PartsOf
with_fresh p =
    let fresh = fresh_of p p.fresh in
    record p { names = p.names ++ next_fresh p ∷ []; fresh = Some (record { number = fresh.number; next = fresh.next + 1 }) }

-- the text may be named: where fresh names were given, one that is new doesn't begin as they do
abbrev pub LeavesFresh : List (List ℕ) → List ℕ → Option FreshNames → Type 0
LeavesFresh names text None = Unit {0}
LeavesFresh names text (Some fresh) = has_text names text ≡ false → begins_with (fresh_prefix fresh.number) text ≡ false

abbrev pub MayBeNamed : PartsOf → List ℕ → Type 0
MayBeNamed p text = LeavesFresh p.names text p.fresh
