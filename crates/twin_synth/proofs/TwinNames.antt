-- The names of a twin: how many there are, and that no two of them are the same.
use Rattle.std.proofs.Common.{◌≡◌, ℕ, ◌+◌, ◌-◌, ◌^◌, ◌<◌, ◌≤◌, inl, inr, false, List, [], ◌++◌, map, take, drop, length, slice_index, Option, None, Some, refl, sym, ◌∙◌, ap, arith, length-append, length-take-le, get_or-take, true≢false}
use Rattle.std.specs.Fmt.{decimal}
use Rattle.std.proofs.Math.Seq.{drop-append_seam}
use Rattle.std.proofs.lemmas.Bool.{cases_lt}
use Rattle.std.proofs.lemmas.Fmt.{decimal_injective}
use Rattle.std.proofs.lemmas.List.{length-map, get_or-map, get_or_append_left, get_or-append-add}
use Rattle.std.proofs.lemmas.List.FromFn.{length-map-range_with_len, get_or-map-range_with_len}
use Rattle.tsc_bits.proofs.Pigeonhole.{pigeonhole}
use Rattle.fault_secure.specs.Circuit.{Circuit, latch, latch_net, node, node_net, nets}
use Rattle.fault_secure.specs.Closed.{IsClosed}
use Rattle.fault_secure.specs.Settle.{Acyclic}
use Rattle.tsc_net.specs.Names.{text_at, has_text, IsNumbering}
use Rattle.tsc_net.specs.NetlistOf.{NetlistOf, IsBuilt}
use Rattle.tsc_net.specs.Parts.{fresh_prefix, fresh_text}
use Rattle.tsc_net.proofs.FreshNumbers.{free-isnt-taken, untaken}
use Rattle.tsc_net.proofs.NameLemmas.{has_text_at}
use Rattle.code_checkers.specs.CheckerNodes.{checker_nodes}
use Rattle.blif_read.specs.declared.clocks.Clock.{Clock}
use Rattle.parity_synth.specs.CheckedNet.{cover_names}
use Rattle.register_laws.specs.Twin.{renamed}
use Rattle.register_synth.specs.Kept.{AreKept, kept_net, kept_part, renamed_latch}
use Rattle.register_synth.specs.TwinNet.{own_net, copied_net, twin_covers, twin_checks}
use Rattle.register_synth.specs.TwinCircuit.{showing, twin_logic, twin_next, twin_word, watched_groups, watched_word}
use Rattle.twin_synth.specs.Pushed.{control_words, fresh_number, fresh_from}
use Rattle.twin_synth.specs.TwinNetlist.{control_of, register_names, twin_names, twin_netlist}

-- ---- rising lists

abbrev pub Rises : List ℕ → Type 0
Rises xs = (i k : ℕ) → i < k → k < length xs → slice_index xs i < slice_index xs k

-- the places of a rising list have different items
pub rising_once : (xs : List ℕ) → Rises xs → (i k : ℕ) → i < length xs → k < length xs → slice_index xs i ≡ slice_index xs k → i ≡ k
rising_once xs rising i k h l e = elim (cases_lt i k) [
  | inl below ↦ absurd (let a = rising i k below l in omega arith)
  | inr over ↦ elim (cases_lt k i) [
    | inl above ↦ absurd (let a = rising k i above h in omega arith)
    | inr same ↦ omega arith
  ]
]

-- a rising list of numbers below n has at most n of them
pub rising_few : (xs : List ℕ) (n : ℕ) → Rises xs → ((k : ℕ) → k < length xs → slice_index xs k < n) → length xs ≤ n
rising_few xs n rising below = pigeonhole (length xs) n (slice_index xs) below (rising_once xs rising)

-- no more registers and covers are kept than there are
pub kept_few : (C : Circuit) (registers covers : List ℕ) → AreKept C registers covers → (length registers ≤ length C.latches) × (length covers ≤ length C.nodes)
kept_few C registers covers kept = (
  rising_few registers (length C.latches) kept.each_register.rising (λ k h. (kept.each_register.sound k h).0),
  rising_few covers (length C.nodes) kept.each_cover.rising (λ k h. (kept.each_cover.sound k h).0),
)

-- ---- how many names

-- fresh names with one number and the same text have one count
pub fresh_once : (number a b : ℕ) → a < 2 ^ 64 → b < 2 ^ 64 → fresh_text number a ≡ fresh_text number b → a ≡ b
fresh_once number a b ha hb same =
    decimal_injective a b ha hb (
    sym (drop-append_seam (fresh_prefix number) (decimal a)) ∙ ap (drop (length (fresh_prefix number))) same ∙ drop-append_seam (fresh_prefix number) (decimal b))

-- a clock has at most one control
pub control_few : (clock : Option Clock) → length (control_words (control_of clock)) ≤ 1
control_few None = omega arith
control_few (Some clock) = omega arith

module _ (S : NetlistOf) (clock : Option Clock) (registers covers : List ℕ) (more : ℕ) (checked : IsBuilt S) where
  abbrev number : ℕ
  number = fresh_number S (control_of clock)

  abbrev names : List (List ℕ)
  names = twin_names S clock registers covers more

  -- the parts of the list
  abbrev ins : List (List ℕ)
  ins = take S.circuit.inputs S.names

  abbrev own : List (List ℕ)
  own = register_names S registers

  abbrev copied : List (List ℕ)
  copied = fresh_from (fresh_number S (control_of clock)) 0 (length registers)

  abbrev front : List (List ℕ)
  front = take S.circuit.inputs S.names ++ register_names S registers ++ fresh_from (fresh_number S (control_of clock)) 0 (length registers)

  abbrev kept_ones : List (List ℕ)
  kept_ones = cover_names S covers

  abbrev added : List (List ℕ)
  added = fresh_from (fresh_number S (control_of clock)) (length registers) more

  input_count : length ins ≡ S.circuit.inputs
  input_count = length-take-le {A = List ℕ} S.circuit.inputs S.names (let s = checked.sized in omega (arith, s))

  own_count : length own ≡ length registers
  own_count = length-map registers (λ l. text_at S.names (latch_net S.circuit l))

  copied_count : length copied ≡ length registers
  copied_count = length-map-range_with_len (fresh_text (fresh_number S (control_of clock))) 0 (length registers)

  front_count : length front ≡ S.circuit.inputs + length registers + length registers
  front_count = omega (arith, length-append (ins ++ own) copied, length-append ins own, input_count, own_count, copied_count)

  kept_count : length kept_ones ≡ length covers
  kept_count = length-map covers (λ place. text_at S.names (node_net S.circuit place))

  added_count : length added ≡ more
  added_count = length-map-range_with_len (fresh_text (fresh_number S (control_of clock))) (length registers) more

  -- as many names as nets: the inputs, the registers twice, the covers, and what is added
  pub names_sized : length (twin_names S clock registers covers more) ≡ S.circuit.inputs + length registers + length registers + length covers + more
  names_sized = omega (arith, length-append front (kept_ones ++ added), length-append kept_ones added, front_count, kept_count, added_count)

  -- ---- which name stands where

  at_front : (a : ℕ) → a < S.circuit.inputs + length registers + length registers → text_at names a ≡ text_at front a
  at_front a low = get_or_append_left front (kept_ones ++ added) [] a (omega (arith, front_count))

  at_input : (i : ℕ) → i < S.circuit.inputs → text_at names i ≡ text_at S.names i
  at_input i low =
      at_front i (omega arith)
      ∙ get_or_append_left (ins ++ own) copied [] i (omega (arith, length-append ins own, input_count))
      ∙ get_or_append_left ins own [] i (omega (arith, input_count))
      ∙ get_or-take S.circuit.inputs S.names i [] low

  at_register : (k : ℕ) → k < length registers → text_at names (S.circuit.inputs + k) ≡ text_at S.names (latch_net S.circuit (slice_index registers k))
  at_register k low =
      at_front (S.circuit.inputs + k) (omega arith)
      ∙ get_or_append_left (ins ++ own) copied [] (S.circuit.inputs + k) (omega (arith, length-append ins own, input_count, own_count))
      ∙ ap (λ (n : ℕ). text_at (ins ++ own) (n + k)) (sym input_count)
      ∙ get_or-append-add ins own k []
      ∙ get_or-map (λ l. text_at S.names (latch_net S.circuit l)) registers k 0 [] low

  at_copied : (k : ℕ) → k < length registers → text_at names (S.circuit.inputs + length registers + k) ≡ fresh_text number k
  at_copied k low =
      let at : S.circuit.inputs + length registers + k ≡ length (ins ++ own) + k = omega (arith, length-append ins own, input_count, own_count) in
      at_front (S.circuit.inputs + length registers + k) (omega arith)
      ∙ ap (text_at front) at
      ∙ get_or-append-add (ins ++ own) copied k []
      ∙ get_or-map-range_with_len (fresh_text number) 0 (length registers) k k [] low (omega arith)

  at_cover : (k : ℕ) → k < length covers → text_at names (S.circuit.inputs + length registers + length registers + k) ≡ text_at S.names (node_net S.circuit (slice_index covers k))
  at_cover k low =
      ap (λ (n : ℕ). text_at names (n + k)) (sym front_count)
      ∙ get_or-append-add front (kept_ones ++ added) k []
      ∙ get_or_append_left kept_ones added [] k (omega (arith, kept_count))
      ∙ get_or-map (λ place. text_at S.names (node_net S.circuit place)) covers k 0 [] low

  at_added : (k : ℕ) → k < more → text_at names (S.circuit.inputs + length registers + length registers + length covers + k) ≡ fresh_text number (length registers + k)
  at_added k low =
      let at : S.circuit.inputs + length registers + length registers + length covers + k ≡ length front + (length kept_ones + k) = omega (arith, front_count, kept_count) in
      ap (text_at names) at
      ∙ get_or-append-add front (kept_ones ++ added) (length kept_ones + k) []
      ∙ get_or-append-add kept_ones added k []
      ∙ get_or-map-range_with_len (fresh_text number) (length registers) more k (length registers + k) [] low refl

  -- ---- no two are the same

  module _ (kept : AreKept S.circuit registers covers) (small : nets S.circuit + 1 < 2 ^ 32) (few : length registers + more ≤ 2 ^ 64) where
    -- no name of the source is a fresh one
    no_name : (m c : ℕ) → m < length S.names → text_at S.names m ≡ fresh_text number c → ⊥
    no_name m c there same =
        let words = S.names ++ control_words (control_of clock) in
        let sized = checked.sized in
        let counted : length (S.names ++ control_words (control_of clock)) ≡ length S.names + length (control_words (control_of clock)) = length-append S.names (control_words (control_of clock)) in
        let absent : has_text (S.names ++ control_words (control_of clock)) (fresh_text number c) ≡ false
        = untaken (S.names ++ control_words (control_of clock)) number c (free-isnt-taken (S.names ++ control_words (control_of clock)) (omega (arith, sized, counted, control_few clock, small))) in
        let at : text_at (S.names ++ control_words (control_of clock)) m ≡ text_at S.names m = get_or_append_left S.names (control_words (control_of clock)) [] m there in
        true≢false (sym (has_text_at (S.names ++ control_words (control_of clock)) (fresh_text number c) m (omega (arith, counted, there)) (at ∙ same)) ∙ absent)

    -- which name a net has
    data Origin (a : ℕ) : Type 0 where
      AtInput : a < S.circuit.inputs → text_at names a ≡ text_at S.names a → Origin a
      AtRegister : (k : ℕ) → k < length registers → a ≡ S.circuit.inputs + k → slice_index registers k < length S.circuit.latches
          → text_at names a ≡ text_at S.names (latch_net S.circuit (slice_index registers k)) → Origin a
      AtCopied : (k : ℕ) → k < length registers → a ≡ S.circuit.inputs + length registers + k → text_at names a ≡ fresh_text number k → Origin a
      AtCover : (k : ℕ) → k < length covers → a ≡ S.circuit.inputs + length registers + length registers + k → slice_index covers k < length S.circuit.nodes
          → text_at names a ≡ text_at S.names (node_net S.circuit (slice_index covers k)) → Origin a
      AtAdded : (k : ℕ) → k < more → a ≡ S.circuit.inputs + length registers + length registers + length covers + k
          → text_at names a ≡ fresh_text number (length registers + k) → Origin a

    register_at : (a k : ℕ) → k < length registers → a ≡ S.circuit.inputs + k → Origin a
    register_at a k low e = AtRegister k low e (kept.each_register.sound k low).0 (ap (text_at names) e ∙ at_register k low)

    copied_at : (a k : ℕ) → k < length registers → a ≡ S.circuit.inputs + length registers + k → Origin a
    copied_at a k low e = AtCopied k low e (ap (text_at names) e ∙ at_copied k low)

    cover_at : (a k : ℕ) → k < length covers → a ≡ S.circuit.inputs + length registers + length registers + k → Origin a
    cover_at a k low e = AtCover k low e (kept.each_cover.sound k low).0 (ap (text_at names) e ∙ at_cover k low)

    added_at : (a k : ℕ) → k < more → a ≡ S.circuit.inputs + length registers + length registers + length covers + k → Origin a
    added_at a k low e = AtAdded k low e (ap (text_at names) e ∙ at_added k low)

    origin : (a : ℕ) → a < length names → Origin a
    origin a low = elim (cases_lt a S.circuit.inputs) [
      | inl input ↦ AtInput input (at_input a input)
      | inr past ↦ elim (cases_lt a (S.circuit.inputs + length registers)) [
        | inl register ↦ register_at a (a - S.circuit.inputs) (omega arith) (omega arith)
        | inr past_own ↦ elim (cases_lt a (S.circuit.inputs + length registers + length registers)) [
          | inl copy ↦ copied_at a (a - (S.circuit.inputs + length registers)) (omega arith) (omega arith)
          | inr past_copied ↦ elim (cases_lt a (S.circuit.inputs + length registers + length registers + length covers)) [
            | inl cover ↦ cover_at a (a - (S.circuit.inputs + length registers + length registers)) (omega arith) (omega arith)
            | inr last ↦ added_at a (a - (S.circuit.inputs + length registers + length registers + length covers)) (omega (arith, names_sized, low, last)) (omega arith)
          ]
        ]
      ]
    ]

    -- names of the source are of one net
    given_once : (a b m n : ℕ) → m < length S.names → n < length S.names → text_at names a ≡ text_at S.names m → text_at names b ≡ text_at S.names n
        → text_at names a ≡ text_at names b → m ≡ n
    given_once a b m n h k p q e = checked.numbering.distinct m n h k (sym p ∙ e ∙ q)

    -- a name of the source and a fresh one differ
    given_apart : (a b m c : ℕ) → m < length S.names → text_at names a ≡ text_at S.names m → text_at names b ≡ fresh_text number c → text_at names a ≡ text_at names b → ⊥
    given_apart a b m c h p q e = no_name m c h (sym p ∙ e ∙ q)

    -- fresh names are of one count
    count_once : (a b c d : ℕ) → c < length registers + more → d < length registers + more → text_at names a ≡ fresh_text number c → text_at names b ≡ fresh_text number d
        → text_at names a ≡ text_at names b → c ≡ d
    count_once a b c d h k p q e = fresh_once number c d (omega (arith, h, few)) (omega (arith, k, few)) (sym p ∙ e ∙ q)

    input_in : (a : ℕ) → a < S.circuit.inputs → a < length S.names
    input_in a h = let s = checked.sized in omega (arith, s)

    latch_in : (l : ℕ) → l < length S.circuit.latches → latch_net S.circuit l < length S.names
    latch_in l h = let s = checked.sized in omega (arith, s)

    node_in : (j : ℕ) → j < length S.circuit.nodes → node_net S.circuit j < length S.names
    node_in j h = let s = checked.sized in omega (arith, s)

    one_origin : (a b : ℕ) → Origin a → Origin b → text_at names a ≡ text_at names b → a ≡ b
    one_origin a b (AtInput h p) (AtInput k q) e = given_once a b a b (input_in a h) (input_in b k) p q e
    one_origin a b (AtInput h p) (AtRegister i l x s q) e =
        absurd (let m = given_once a b a (latch_net S.circuit (slice_index registers i)) (input_in a h) (latch_in (slice_index registers i) s) p q e in omega arith)
    one_origin a b (AtInput h p) (AtCopied i l x q) e = absurd (given_apart a b a i (input_in a h) p q e)
    one_origin a b (AtInput h p) (AtCover i l x s q) e =
        absurd (let m = given_once a b a (node_net S.circuit (slice_index covers i)) (input_in a h) (node_in (slice_index covers i) s) p q e in omega arith)
    one_origin a b (AtInput h p) (AtAdded i l x q) e = absurd (given_apart a b a (length registers + i) (input_in a h) p q e)
    one_origin a b (AtRegister i l x s p) (AtInput h q) e =
        absurd (let m = given_once a b (latch_net S.circuit (slice_index registers i)) b (latch_in (slice_index registers i) s) (input_in b h) p q e in omega arith)
    one_origin a b (AtRegister i l x s p) (AtRegister j k y t q) e =
        let m = given_once a b (latch_net S.circuit (slice_index registers i)) (latch_net S.circuit (slice_index registers j)) (latch_in (slice_index registers i) s) (latch_in (slice_index registers j) t) p q e in
        let same : i ≡ j = rising_once registers kept.each_register.rising i j l k (omega arith) in
        omega arith
    one_origin a b (AtRegister i l x s p) (AtCopied j k y q) e = absurd (given_apart a b (latch_net S.circuit (slice_index registers i)) j (latch_in (slice_index registers i) s) p q e)
    one_origin a b (AtRegister i l x s p) (AtCover j k y t q) e =
        absurd (let m = given_once a b (latch_net S.circuit (slice_index registers i)) (node_net S.circuit (slice_index covers j)) (latch_in (slice_index registers i) s) (node_in (slice_index covers j) t) p q e in omega arith)
    one_origin a b (AtRegister i l x s p) (AtAdded j k y q) e = absurd (given_apart a b (latch_net S.circuit (slice_index registers i)) (length registers + j) (latch_in (slice_index registers i) s) p q e)
    one_origin a b (AtCopied i l x p) (AtInput h q) e = absurd (given_apart b a b i (input_in b h) q p (sym e))
    one_origin a b (AtCopied i l x p) (AtRegister j k y t q) e = absurd (given_apart b a (latch_net S.circuit (slice_index registers j)) i (latch_in (slice_index registers j) t) q p (sym e))
    one_origin a b (AtCopied i l x p) (AtCopied j k y q) e = let m = count_once a b i j (omega arith) (omega arith) p q e in omega arith
    one_origin a b (AtCopied i l x p) (AtCover j k y t q) e = absurd (given_apart b a (node_net S.circuit (slice_index covers j)) i (node_in (slice_index covers j) t) q p (sym e))
    one_origin a b (AtCopied i l x p) (AtAdded j k y q) e = absurd (let m = count_once a b i (length registers + j) (omega arith) (omega arith) p q e in omega arith)
    one_origin a b (AtCover i l x s p) (AtInput h q) e =
        absurd (let m = given_once a b (node_net S.circuit (slice_index covers i)) b (node_in (slice_index covers i) s) (input_in b h) p q e in omega arith)
    one_origin a b (AtCover i l x s p) (AtRegister j k y t q) e =
        absurd (let m = given_once a b (node_net S.circuit (slice_index covers i)) (latch_net S.circuit (slice_index registers j)) (node_in (slice_index covers i) s) (latch_in (slice_index registers j) t) p q e in omega arith)
    one_origin a b (AtCover i l x s p) (AtCopied j k y q) e = absurd (given_apart a b (node_net S.circuit (slice_index covers i)) j (node_in (slice_index covers i) s) p q e)
    one_origin a b (AtCover i l x s p) (AtCover j k y t q) e =
        let m = given_once a b (node_net S.circuit (slice_index covers i)) (node_net S.circuit (slice_index covers j)) (node_in (slice_index covers i) s) (node_in (slice_index covers j) t) p q e in
        let same : i ≡ j = rising_once covers kept.each_cover.rising i j l k (omega arith) in
        omega arith
    one_origin a b (AtCover i l x s p) (AtAdded j k y q) e = absurd (given_apart a b (node_net S.circuit (slice_index covers i)) (length registers + j) (node_in (slice_index covers i) s) p q e)
    one_origin a b (AtAdded i l x p) (AtInput h q) e = absurd (given_apart b a b (length registers + i) (input_in b h) q p (sym e))
    one_origin a b (AtAdded i l x p) (AtRegister j k y t q) e = absurd (given_apart b a (latch_net S.circuit (slice_index registers j)) (length registers + i) (latch_in (slice_index registers j) t) q p (sym e))
    one_origin a b (AtAdded i l x p) (AtCopied j k y q) e = absurd (let m = count_once a b (length registers + i) j (omega arith) (omega arith) p q e in omega arith)
    one_origin a b (AtAdded i l x p) (AtCover j k y t q) e = absurd (given_apart b a (node_net S.circuit (slice_index covers j)) (length registers + i) (node_in (slice_index covers j) t) q p (sym e))
    one_origin a b (AtAdded i l x p) (AtAdded j k y q) e = let m = count_once a b (length registers + i) (length registers + j) (omega arith) (omega arith) p q e in omega arith

    -- different nets have different names
    pub names_numbering : IsNumbering (twin_names S clock registers covers more)
    names_numbering = record { distinct = λ a b h k e. one_origin a b (origin a h) (origin b k) e }

-- ---- the netlist

module _ (S : NetlistOf) (clock : Option Clock) (registers covers : List ℕ) (groups : List (List ℕ)) (watched : ℕ) where
  -- the registers of both copies
  pub latches_counted : length (twin_netlist S clock registers covers groups watched).circuit.latches ≡ length registers + length registers
  latches_counted =
      let T = kept_part S.circuit registers covers in
      let one : length (map (renamed_latch (own_net T)) T.latches) ≡ length T.latches = length-map T.latches (renamed_latch (own_net T)) in
      let other : length (map (renamed_latch (copied_net T)) T.latches) ≡ length T.latches = length-map T.latches (renamed_latch (copied_net T)) in
      let both = length-append (map (renamed_latch (own_net T)) T.latches) (map (renamed_latch (copied_net T)) T.latches) in
      let part : length T.latches ≡ length registers = length-map registers (λ l. renamed_latch (kept_net S.circuit registers covers) (latch S.circuit l)) in
      omega (arith, one, other, both, part)

  -- the own covers are some of the nodes
  pub covers_fit : length covers ≤ length (twin_netlist S clock registers covers groups watched).circuit.nodes
  covers_fit =
      let T = kept_part S.circuit registers covers in
      let checks = twin_checks (showing watched T) (watched_groups watched T groups) in
      let checker = checker_nodes (watched_word watched T groups) (twin_word watched T groups) (twin_next watched T groups) in
      let one : length (map (renamed (own_net T)) T.nodes) ≡ length T.nodes = length-map T.nodes (renamed (own_net T)) in
      let first = length-append (map (renamed (own_net T)) T.nodes) (map (renamed (copied_net T)) T.nodes) in
      let second = length-append (twin_covers T) checks in
      let third = length-append (twin_logic watched T groups) checker in
      let part : length T.nodes ≡ length covers = length-map covers (λ j. renamed (kept_net S.circuit registers covers) (node S.circuit j)) in
      omega (arith, one, first, second, third, part)

  -- as many fresh names as are needed are fewer than nets
  pub fresh_few : nets (twin_netlist S clock registers covers groups watched).circuit < 2 ^ 32
      → length registers + (length (twin_netlist S clock registers covers groups watched).circuit.nodes - length covers) ≤ 2 ^ 64
  fresh_few low = omega (arith, low, latches_counted)

  -- the twin of a netlist that was built is built, where it is closed and has no ring. With the control of a clock the source has below
  -- 2 ^ 32 names
  pub twin_is_built : IsBuilt S → AreKept S.circuit registers covers → nets S.circuit + 1 < 2 ^ 32
      → IsClosed (twin_netlist S clock registers covers groups watched).circuit → Acyclic (twin_netlist S clock registers covers groups watched).circuit
      → nets (twin_netlist S clock registers covers groups watched).circuit < 2 ^ 32 → IsBuilt (twin_netlist S clock registers covers groups watched)
  twin_is_built checked kept small closed acyclic low =
      let N = twin_netlist S clock registers covers groups watched in
      let more = length N.circuit.nodes - length covers in
      record {
        closed = closed;
        acyclic = acyclic;
        sized = omega (arith, names_sized S clock registers covers more checked, latches_counted, covers_fit);
        numbering = names_numbering S clock registers covers more checked kept small (fresh_few low);
        few = low;
      }
