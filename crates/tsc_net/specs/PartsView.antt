-- What is seen of the parts in code: names as numbers there, as texts here.
use Rattle.std.specs.Prelude.{◌≡◌, ◌^◌, ℕ, ◌<◌, ◌≤◌, false, List, map, length, codes, Option, None, Some, All}
use Rattle.tsc_net.specs.Named.{NamedLatch, NamedNode}
use Rattle.tsc_net.specs.Names.{has_text, text_at}
use Rattle.tsc_net.specs.Parts.{PartsOf, FreshNames, fresh_text}
use Rattle.tsc_net.specs.declared.ids.Name.{Name}
use Rattle.tsc_net.specs.declared.parts.LatchPart.{LatchPart}
use Rattle.tsc_net.specs.declared.parts.NodePart.{NodePart}
use Rattle.tsc_net.specs.declared.fresh.FreshPart.{FreshPart}
use Rattle.tsc_net.specs.declared.parts.Parts.TheInside.{Inside}

-- the text of a name
abbrev pub text_of : List (List ℕ) → Name → List ℕ
text_of names name = text_at names name.number

-- the texts of a list of names
abbrev pub texts_of : List (List ℕ) → List Name → List (List ℕ)
texts_of names list = map (text_of names) list

abbrev pub latch_of : List (List ℕ) → LatchPart → NamedLatch
latch_of names l = record { reads = text_of names l.reads; out = text_of names l.out; init = l.init }

abbrev pub node_of : List (List ℕ) → NodePart → NamedNode
node_of names n = record { reads = texts_of names n.reads.items; out = text_of names n.out; cover = n.cover }

-- the model's name, which is `model` where none was given
abbrev pub model_or : Option (List ℕ) → List ℕ
model_or None = codes "model"
model_or (Some text) = text

abbrev pub fresh_names : Option FreshPart → Option FreshNames
fresh_names None = None
fresh_names (Some fresh) = Some (record { number = fresh.number; next = fresh.next })

abbrev pub parts_of : Inside → PartsOf
parts_of p = record {
  names = p.names;
  named = record {
    model = model_or p.model;
    inputs = texts_of p.names p.inputs;
    outputs = texts_of p.names p.outputs;
    latches = map (latch_of p.names) p.latches.items;
    nodes = map (node_of p.names) p.nodes.items;
  };
  fresh = fresh_names p.fresh;
}

-- a name of these names
abbrev pub IsName : List (List ℕ) → Name → Type 0
IsName names name = name.number < length names

-- the fresh names that were given were counted among the names
abbrev pub IsFreshCounted : List (List ℕ) → Option FreshPart → Type 0
IsFreshCounted names None = Unit {0}
IsFreshCounted names (Some fresh) = fresh.next ≤ length names

-- the fresh names that are still to come stand among no names
abbrev pub IsFreshUnused : List (List ℕ) → Option FreshPart → Type 0
IsFreshUnused names None = Unit {0}
IsFreshUnused names (Some fresh) = (count : ℕ) → fresh.next ≤ count → count < 2 ^ 64 → has_text names (fresh_text fresh.number count) ≡ false

-- each name that is kept is one of the names, of which there are fewer than 2 ^ 32; a cover has a pin a name that its
-- node reads; and the fresh names that were given are counted, and those to come are unused
pub record KeepsNames (p : Inside) : Type 0 where
  pub inputs : All (IsName p.names) p.inputs
  pub outputs : All (IsName p.names) p.outputs
  pub latch_reads : All (λ l. IsName p.names l.reads) p.latches.items
  pub latch_outs : All (λ l. IsName p.names l.out) p.latches.items
  pub node_reads : All (λ n. All (IsName p.names) n.reads.items) p.nodes.items
  pub node_outs : All (λ n. IsName p.names n.out) p.nodes.items
  pub pins : All (λ n. length n.reads.items ≡ n.cover.width) p.nodes.items
  pub few : length p.names < 2 ^ 32
  pub fresh : IsFreshCounted p.names p.fresh
  pub unused : IsFreshUnused p.names p.fresh
