-- Stretches of nodes join to an acyclic circuit.
use Rattle.std.proofs.Common.{◌≡◌, ℕ, ◌+◌, ◌<◌, ◌≤◌, ◌⊎◌, inl, inr, nat_lt, if◌then◌else◌, length, arith}
use Rattle.std.proofs.lemmas.Grind.{common_steps}
use Rattle.std.proofs.lemmas.Bool.{cases_lt}
use Rattle.fault_secure.specs.Circuit.{Circuit, node, node_net, pin_net}
use Rattle.fault_secure.specs.Settle.{Acyclic}
use Rattle.fault_secure.specs.Segment.{SoundTo, Segment, IsNetBetween, IsAppended}
use Rattle.fault_secure.specs.Stretch.{IsClosedStretch}
use Rattle.fault_secure.specs.Depends.{Depends}
use Rattle.fault_secure.specs.Depends.Depends.{itself, through}

-- no node is a sound stretch
pub none_sound : (N : Circuit) → SoundTo N 0
none_sound N = record {
  rank = λ net. 0;
  bound = 1;
  fits = omega arith;
  bounded = λ net h. omega arith;
  before = λ j pin h p. absurd (omega arith);
  above = λ j pin h p. absurd (omega arith);
}

-- nodes in the order in which they were appended are a stretch
pub appended_segment : (N : Circuit) (k h : ℕ) → IsAppended N k h → Segment N k h
appended_segment N k h appended = record {
  rank = λ net. net;
  bound = node_net N h;
  ordered = appended.ordered;
  fits = appended.fits;
  bounded = λ net between. between.1;
  reads = λ j pin from to has. split j pin from to has (appended.before j pin from to has);
}
  where
    split : (j pin : ℕ) → k ≤ j → j < h → pin < length (node N j).reads → pin_net N j pin < node_net N j
        → (pin_net N j pin < node_net N k) ⊎ (IsNetBetween N k h (pin_net N j pin) × (pin_net N j pin < node_net N j))
    split j pin from to has below =
        elim (cases_lt (pin_net N j pin) (node_net N k)) [ inl early ↦ inl early | inr late ↦ inr ((late, omega arith), below) ]

-- a circuit that is sound to its end has no ring
pub sound_acyclic : (N : Circuit) → SoundTo N (length N.nodes) → Acyclic N
sound_acyclic N sound = record { rank = sound.rank; ranks = record { above = sound.above } }

-- a rank for the nets before a place, and another from it on, above all of the first
joined_rank : (ℕ → ℕ) → ℕ → ℕ → (ℕ → ℕ) → ℕ → ℕ
joined_rank low bound place high net = if nat_lt net place then low net else bound + high net

joined_rank-below : (low : ℕ → ℕ) (bound place : ℕ) (high : ℕ → ℕ) (net : ℕ) → net < place → joined_rank low bound place high net ≡ low net
unfolding joined_rank
joined_rank-below low bound place high net h = grind (arith, common_steps)

joined_rank-above : (low : ℕ → ℕ) (bound place : ℕ) (high : ℕ → ℕ) (net : ℕ) → place ≤ net → joined_rank low bound place high net ≡ bound + high net
unfolding joined_rank
joined_rank-above low bound place high net h = grind (arith, common_steps)

-- a stretch on top of a sound one makes a longer sound one
module _ (N : Circuit) (k h : ℕ) (sound : SoundTo N k) (segment : Segment N k h) where
  joined : ℕ → ℕ
  joined = joined_rank sound.rank sound.bound (node_net N k) segment.rank

  early : (net : ℕ) → net < node_net N k → joined net ≡ sound.rank net
  unfolding joined
  early net below = joined_rank-below sound.rank sound.bound (node_net N k) segment.rank net below

  late : (net : ℕ) → node_net N k ≤ net → joined net ≡ sound.bound + segment.rank net
  unfolding joined
  late net from = joined_rank-above sound.rank sound.bound (node_net N k) segment.rank net from

  joined_bounded : (net : ℕ) → net < node_net N h → joined net < sound.bound + segment.bound
  joined_bounded net below =
      elim (cases_lt net (node_net N k)) [
        | inl low ↦ (let e : joined net ≡ sound.rank net = early net low in
            let b : sound.rank net < sound.bound = sound.bounded net low in omega arith)
        | inr high ↦ (let e : joined net ≡ sound.bound + segment.rank net = late net high in
            let b : segment.rank net < segment.bound = segment.bounded net (high, below) in omega arith)
      ]

  joined_before : (j pin : ℕ) → j < h → pin < length (node N j).reads → pin_net N j pin < node_net N h
  joined_before j pin below has =
      let up : k ≤ h = segment.ordered in
      elim (cases_lt j k) [
        | inl low ↦ (let b : pin_net N j pin < node_net N k = sound.before j pin low has in omega arith)
        | inr high ↦ elim (segment.reads j pin high below has) [
          | inl outside ↦ omega arith
          | inr inside ↦ inside.0.1
        ]
      ]

  joined_above : (j pin : ℕ) → j < h → pin < length (node N j).reads → joined (pin_net N j pin) < joined (node_net N j)
  joined_above j pin below has =
      elim (cases_lt j k) [
        | inl low ↦ (let r : sound.rank (pin_net N j pin) < sound.rank (node_net N j) = sound.above j pin low has in
            let b : pin_net N j pin < node_net N k = sound.before j pin low has in
            let e : joined (pin_net N j pin) ≡ sound.rank (pin_net N j pin) = early (pin_net N j pin) b in
            let f : joined (node_net N j) ≡ sound.rank (node_net N j) = early (node_net N j) (omega arith) in omega arith)
        | inr high ↦ (let f : joined (node_net N j) ≡ sound.bound + segment.rank (node_net N j) = late (node_net N j) (omega arith) in
            elim (segment.reads j pin high below has) [
              | inl outside ↦ (let e : joined (pin_net N j pin) ≡ sound.rank (pin_net N j pin) = early (pin_net N j pin) outside in
                  let b : sound.rank (pin_net N j pin) < sound.bound = sound.bounded (pin_net N j pin) outside in omega arith)
              | inr inside ↦ (let e : joined (pin_net N j pin) ≡ sound.bound + segment.rank (pin_net N j pin) = late (pin_net N j pin) inside.0.0 in
                  let r : segment.rank (pin_net N j pin) < segment.rank (node_net N j) = inside.1 in omega arith)
            ])
      ]

  -- where the nodes below k are sound, and those from k to h make a segment, the nodes below h are sound
  pub joined_sound : SoundTo N h
  joined_sound = record {
    rank = joined;
    bound = sound.bound + segment.bound;
    fits = segment.fits;
    bounded = joined_bounded;
    before = joined_before;
    above = joined_above;
  }

-- what stands below a sound stretch depends on nodes of it alone
pub depends_below : (N : Circuit) (k q net : ℕ) → SoundTo N k → Depends N q net → net < node_net N k → q < k
depends_below N k q _ sound (itself net there drives) below = omega arith
depends_below N k q _ sound (through net j pin there drives has reads) below =
    depends_below N k q (pin_net N j pin) sound reads (sound.before j pin (omega arith) has)

-- a net of a closed stretch depends on nodes of it alone, and an input on none
pub depends_between : (N : Circuit) (k h q net : ℕ) → IsClosedStretch N k h → Depends N q net → (net < N.inputs) ⊎ IsNetBetween N k h net → (k ≤ q) × (q < h)
depends_between N k h q _ closed (itself net there drives) (inl input) = absurd (omega arith)
depends_between N k h q _ closed (itself net there drives) (inr between) =
    let low : node_net N k ≤ net = between.0 in let high : net < node_net N h = between.1 in (omega arith, omega arith)
depends_between N k h q _ closed (through net j pin there drives has reads) (inl input) = absurd (omega arith)
depends_between N k h q _ closed (through net j pin there drives has reads) (inr between) =
    let low : node_net N k ≤ net = between.0 in let high : net < node_net N h = between.1 in
    depends_between N k h q (pin_net N j pin) closed reads (closed.reads j pin (omega arith) (omega arith) has)
