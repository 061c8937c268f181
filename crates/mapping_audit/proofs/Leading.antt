-- Leading what a gate reads to its block, along the order backwards.
use Rattle.std.proofs.Common.{◌≡◌, ℕ, zero, suc, ◌+◌, ◌-◌, ◌<◌, ◌≤◌, ◌⊎◌, inl, inr, List, [], ◌∷◌, length, slice_index, slice_set, refl, sym, ◌∙◌, ap, subst, arith, length-set}
use Rattle.std.proofs.lemmas.Bool.{cases_lt, cases_eq}
use Rattle.std.proofs.lemmas.Grind.{common_steps}
use Rattle.fault_secure.specs.Circuit.{Circuit, node}
use Rattle.tsc_net.specs.Order.{fan_ins, place_in, IsOrder}
use Rattle.lane_rows.proofs.OrderFacts.{node_at_place, node_placed}
use Rattle.mapping_reading.specs.ReadMapping.{first_net}
use Rattle.mapping_reading.specs.Blocks.{Reads, AreBlocks}
use Rattle.mapping_reading.proofs.LedGates.{reader_later}
use Rattle.mapping_audit.specs.FindingBlocks.{AreBlocksFrom, led_driver, led_drivers}
use Rattle.mapping_audit.proofs.Writing.{written, kept}

-- ---- one net

-- the blocks after one net was looked at: nothing has changed, or its driver's block
pub record HasNotLed (owners : List ℕ) (none first block net : ℕ) (old new : List ℕ) : Type 0 where
  pub same : new ≡ old
  pub low : first ≤ net → none ≤ slice_index owners (net - first) → slice_index old (net - first) ≤ block

pub record HasLed (owners : List ℕ) (none first block net : ℕ) (old new : List ℕ) : Type 0 where
  pub new_is : new ≡ slice_set old (net - first) block
  pub past : first ≤ net
  pub free : none ≤ slice_index owners (net - first)
  pub lower : block < slice_index old (net - first)

led_one : (owners : List ℕ) (none first block net : ℕ) (old : List ℕ)
    → HasNotLed owners none first block net old (led_driver owners none first block net old) ⊎ HasLed owners none first block net old (led_driver owners none first block net old)
led_one owners none first block net old = elim (cases_lt net first) [
  | inl below ↦ inl (record { same = grind (arith, common_steps); low = λ past. absurd (omega arith) })
  | inr past ↦ elim (cases_lt (slice_index owners (net - first)) none) [
    | inl owned ↦ inl (record { same = grind (arith, common_steps); low = λ p free. absurd (omega arith) })
    | inr free ↦ elim (cases_lt block (slice_index old (net - first))) [
      | inl lower ↦ inr (record { new_is = grind (arith, common_steps); past = past; free = free; lower = lower })
      | inr low ↦ inl (record { same = grind (arith, common_steps); low = λ p f. low })
    ]
  ]
]

-- ---- all nets of a list

-- the blocks after the nets of a list were looked at
pub record AreLed (owners : List ℕ) (none first block : ℕ) (reads old new : List ℕ) : Type 0 where
  pub sized : length new ≡ length old
  pub from : (g : ℕ) → (slice_index new g ≡ slice_index old g)
      ⊎ ((slice_index new g ≡ block) × (none ≤ slice_index owners g) × (block < slice_index old g) × ((k : ℕ) × (k < length reads) × (slice_index reads k ≡ first + g)))
  pub low : (k g : ℕ) → k < length reads → slice_index reads k ≡ first + g → g < length old → none ≤ slice_index owners g → slice_index new g ≤ block

not_more : (owners : List ℕ) (none first block : ℕ) (reads old new : List ℕ) → AreLed owners none first block reads old new → (g : ℕ) → slice_index new g ≤ slice_index old g
not_more owners none first block reads old new led g = elim (led.from g) [
  | inl same ↦ omega arith
  | inr more ↦ (let e = more.0 in let l = more.2 in omega arith)
]

led_more : (owners : List ℕ) (none first block net : ℕ) (reads old mid new : List ℕ)
    → HasNotLed owners none first block net old mid ⊎ HasLed owners none first block net old mid
    → AreLed owners none first block reads mid new → AreLed owners none first block (net ∷ reads) old new
led_more owners none first block net reads old mid new (inl step) led = record {
  sized = led.sized ∙ ap length step.same;
  from = λ g. elim (led.from g) [
    | inl same ↦ inl (same ∙ ap (λ xs. slice_index xs g) step.same)
    | inr more ↦ inr (more.0, more.1, subst (λ xs. block < slice_index xs g) step.same more.2, (suc more.3.0, omega arith, more.3.2))
  ];
  low = low;
}
  where
    low : (k g : ℕ) → k < length (net ∷ reads) → slice_index (net ∷ reads) k ≡ first + g → g < length old → none ≤ slice_index owners g → slice_index new g ≤ block
    low zero g within is there free =
        let place : net - first ≡ g = omega arith in
        let l : slice_index old (net - first) ≤ block = step.low (omega arith) (subst (λ p. none ≤ slice_index owners p) (sym place) free) in
        let l' : slice_index old g ≤ block = subst (λ p. slice_index old p ≤ block) place l in
        let m : slice_index new g ≤ slice_index mid g = not_more owners none first block reads mid new led g in
        let s : slice_index mid g ≡ slice_index old g = ap (λ xs. slice_index xs g) step.same in
        omega arith
    low (suc k) g within is there free = led.low k g (omega arith) is (subst (λ xs. g < length xs) (sym step.same) there) free
led_more owners none first block net reads old mid new (inr step) led = record {
  sized = sized;
  from = from;
  low = low;
}
  where
    count : length mid ≡ length old
    count = ap length step.new_is ∙ length-set old (net - first) block

    sized : length new ≡ length old
    sized = led.sized ∙ count

    here : net - first < length old → slice_index mid (net - first) ≡ block
    here within = ap (λ xs. slice_index xs (net - first)) step.new_is ∙ written old (net - first) block within

    elsewhere : (g : ℕ) → (g ≡ net - first → ⊥) → slice_index mid g ≡ slice_index old g
    elsewhere g other = ap (λ xs. slice_index xs g) step.new_is ∙ kept old (net - first) block g other

    within_old : net - first < length old
    within_old = elim (cases_lt (net - first) (length old)) [
      | inl low ↦ low
      | inr high ↦ (let past : slice_index old (net - first) ≡ 0 = grind (arith, common_steps) in let l = step.lower in absurd (omega arith))
    ]

    from : (g : ℕ) → (slice_index new g ≡ slice_index old g)
        ⊎ ((slice_index new g ≡ block) × (none ≤ slice_index owners g) × (block < slice_index old g) × ((k : ℕ) × (k < length (net ∷ reads)) × (slice_index (net ∷ reads) k ≡ first + g)))
    from g = elim (cases_eq g (net - first)) [
      | inl same ↦
          let free : none ≤ slice_index owners g = subst (λ p. none ≤ slice_index owners p) (sym same) step.free in
          let lower : block < slice_index old g = subst (λ p. block < slice_index old p) (sym same) step.lower in
          let is : net ≡ first + g = (let p = step.past in omega arith) in
          let mid_is : slice_index mid g ≡ block = ap (slice_index mid) same ∙ here within_old in
          elim (led.from g) [
            | inl kept_on ↦ inr (kept_on ∙ mid_is, free, lower, (0, omega arith, is))
            | inr more ↦ inr (more.0, free, lower, (0, omega arith, is))
          ]
      | inr other ↦ elim (led.from g) [
        | inl kept_on ↦ inl (kept_on ∙ elsewhere g other)
        | inr more ↦ inr (more.0, more.1, subst (λ b. block < b) (elsewhere g other) more.2, (suc more.3.0, omega arith, more.3.2))
      ]
    ]

    low : (k g : ℕ) → k < length (net ∷ reads) → slice_index (net ∷ reads) k ≡ first + g → g < length old → none ≤ slice_index owners g → slice_index new g ≤ block
    low zero g within is there free =
        let place : g ≡ net - first = omega arith in
        let mid_is : slice_index mid g ≡ block = ap (slice_index mid) place ∙ here within_old in
        let m : slice_index new g ≤ slice_index mid g = not_more owners none first block reads mid new led g in
        omega arith
    low (suc k) g within is there free = led.low k g (omega arith) is (let c = count in omega arith) free

pub all_led : (owners : List ℕ) (none first block : ℕ) (reads old : List ℕ) → AreLed owners none first block reads old (led_drivers owners none first block reads old)
all_led owners none first block [] old = record { sized = refl; from = λ g. inl refl; low = λ k g within. absurd (omega arith) }
all_led owners none first block (net ∷ reads) old =
    led_more owners none first block net reads old (led_driver owners none first block net old) (led_drivers owners none first block (net ∷ reads) old)
    (led_one owners none first block net old) (all_led owners none first block reads (led_driver owners none first block net old))

-- ---- along the order

module _ (G : Circuit) (order owners : List ℕ) (none : ℕ) (whole : IsOrder (fan_ins G) order) where
  -- no gate was looked at
  pub blocks_start : length owners ≡ length G.nodes → ((g : ℕ) → g < length G.nodes → slice_index owners g ≤ none) → AreBlocksFrom G order owners none (length order) owners
  blocks_start sized few = record {
    sized = sized;
    few = few;
    owned = λ g there own. refl;
    least = λ d h here there free late. (let p = node_placed G order whole h there in absurd (omega arith));
    led = λ d there free low. absurd (omega arith);
  }

  -- one gate back
  pub blocks_step : (place : ℕ) (blocks new : List ℕ) → place < length order → slice_index order place < length G.nodes
      → new ≡ led_drivers owners none (first_net G) (slice_index blocks (slice_index order place)) (node G (slice_index order place)).reads blocks
      → AreBlocksFrom G order owners none (place + 1) blocks → AreBlocksFrom G order owners none place new
  blocks_step place blocks new within there is so_far = record {
    sized = led.sized ∙ so_far.sized;
    few = λ g low. (let m = not_more owners none (first_net G) block (node G h).reads blocks new led g in let f = so_far.few g low in omega arith);
    owned = λ g low own. elim (led.from g) [
      | inl same ↦ same ∙ so_far.owned g low own
      | inr more ↦ absurd (let f = more.1 in omega arith)
    ];
    least = least;
    led = leads;
  }
    where
      h : ℕ
      h = slice_index order place

      block : ℕ
      block = slice_index blocks (slice_index order place)

      led : AreLed owners none (first_net G) (slice_index blocks (slice_index order place)) (node G (slice_index order place)).reads blocks new
      led = subst (AreLed owners none (first_net G) (slice_index blocks (slice_index order place)) (node G (slice_index order place)).reads blocks) (sym is)
          (all_led owners none (first_net G) (slice_index blocks (slice_index order place)) (node G (slice_index order place)).reads blocks)

      at_place : place_in order (slice_index order place) ≡ place
      at_place = whole.once place within

      -- the block of a gate from here on stays
      stays : (g : ℕ) → g < length G.nodes → place ≤ place_in order g → slice_index new g ≡ slice_index blocks g
      stays g low late = elim (led.from g) [
        | inl same ↦ same
        | inr more ↦
            (let before : place_in order g < place_in order (slice_index order place) = reader_later G order whole g (slice_index order place) there (more.3.0, more.3.1, more.3.2) in
            let p = at_place in absurd (omega arith))
      ]

      least : (d g : ℕ) → d < length G.nodes → g < length G.nodes → none ≤ slice_index owners d → place ≤ place_in order g → Reads G g d → slice_index new d ≤ slice_index new g
      least d g dlow glow free late reads = elim (cases_eq (place_in order g) place) [
        | inl same ↦
            let here : g ≡ slice_index order place = sym (node_at_place G order whole g glow) ∙ ap (slice_index order) same in
            let reads_it : Reads G (slice_index order place) d = subst (λ k. Reads G k d) here reads in
            let down : slice_index new d ≤ slice_index blocks (slice_index order place) = led.low reads_it.0 d reads_it.1 reads_it.2 (let s = so_far.sized in omega arith) free in
            let mine : slice_index new g ≡ slice_index blocks (slice_index order place) = stays g glow late ∙ ap (slice_index blocks) here in
            omega arith
        | inr other ↦
            let was : slice_index blocks d ≤ slice_index blocks g = so_far.least d g dlow glow free (omega arith) reads in
            let mine : slice_index new g ≡ slice_index blocks g = stays g glow late in
            let m : slice_index new d ≤ slice_index blocks d = not_more owners none (first_net G) (slice_index blocks (slice_index order place)) (node G (slice_index order place)).reads blocks new led d in
            omega arith
      ]

      leads : (d : ℕ) → d < length G.nodes → none ≤ slice_index owners d → slice_index new d < none
          → (g : ℕ) × (g < length G.nodes) × (place ≤ place_in order g) × Reads G g d × (slice_index new g ≡ slice_index new d)
      leads d dlow free low = elim (led.from d) [
        | inl same ↦
            let was : (g : ℕ) × (g < length G.nodes) × (place + 1 ≤ place_in order g) × Reads G g d × (slice_index blocks g ≡ slice_index blocks d) = so_far.led d dlow free (omega arith) in
            (was.0, was.1, (let l = was.2 in omega arith), was.3, stays was.0 was.1 (let l = was.2 in omega arith) ∙ was.4 ∙ sym same)
        | inr more ↦
            (slice_index order place, there, (let p = at_place in omega arith), (more.3.0, more.3.1, more.3.2), stays (slice_index order place) there (let p = at_place in omega arith) ∙ sym more.0)
      ]

  -- all gates
  pub blocks_end : (place : ℕ) (blocks : List ℕ) → place ≡ 0 → AreBlocksFrom G order owners none place blocks → AreBlocks G owners none blocks
  blocks_end place blocks start so_far = record {
    sized = so_far.sized;
    few = so_far.few;
    owned = so_far.owned;
    least = λ d h dlow hlow free reads. so_far.least d h dlow hlow free (omega arith) reads;
    led = λ d dlow free low. (let l = so_far.led d dlow free low in (l.0, l.1, l.3, l.4));
  }
