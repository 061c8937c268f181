-- The steps of writing predictors into parts: the names of a copy's nets.
use Rattle.std.specs.Prelude.{◌≡◌, ℕ, ◌+◌, ◌<◌, List, [], ◌∷◌, length, slice_set, slice_index, slice_index_or, All}
use Rattle.fault_secure.specs.Circuit.{Circuit, node, node_net, nets}
use Rattle.tsc_net.specs.NetlistOf.{NetlistOf}
use Rattle.tsc_net.specs.Parts.{PartsOf}
use Rattle.tsc_net.specs.PartsView.{text_of, IsName}
use Rattle.tsc_net.specs.declared.ids.Name.{Name}
use Rattle.parity_code.specs.Copy.{IsCopied}
use Rattle.parity_code.specs.Predictors.{copy_text}

-- the places rise
abbrev pub Rise : List ℕ → Type 0
Rise places = (i k : ℕ) → i < k → k < length places → slice_index places i < slice_index places k

abbrev pub no_name : Name
no_name = record { number = 0 }

-- the name of a net
abbrev pub name_at : List Name → ℕ → Name
name_at names net = slice_index_or names net no_name

-- the name is one of these, and has this text
abbrev pub HasText : List (List ℕ) → Name → List ℕ → Type 0
HasText texts name text = (name.number < length texts) × (text_of texts name ≡ text)

-- names where the nets of the nodes at some places have the names from this number on
abbrev pub given : ℕ → List Name → List ℕ → ℕ → List Name
given inputs names [] number = names
given inputs names (place ∷ places) number = given inputs (slice_set names (inputs + place) (record { number = number })) places (number + 1)

-- the names of the nets of a copy of the nodes at `cone`, which was begun over the parts p
pub record NamesCopy (S : NetlistOf) (cone : List ℕ) (p q : PartsOf) (names : List Name) : Type 0 where
  pub sized : length names ≡ nets S.circuit
  pub texts : (n : ℕ) → IsCopied S.circuit cone n → HasText q.names (name_at names n) (copy_text S cone p n)

-- a node whose nets have names
pub record IsNameable (C : Circuit) (texts : List (List ℕ)) (names : List Name) (place : ℕ) : Type 0 where
  pub within : place < length C.nodes
  pub reads : All (λ net. IsName texts (name_at names net)) (node C place).reads
  pub out : IsName texts (name_at names (node_net C place))
