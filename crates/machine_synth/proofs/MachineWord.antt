-- The word of a machine's netlist: the names of outputs, of checks and of what the latches read, and those of the rails.
use Rattle.std.proofs.Common.{◌≡◌, ℕ, ◌+◌, ◌-◌, ◌*◌, ◌<◌, ◌≤◌, ◌⊎◌, inl, inr, List, [], ◌∷◌, ◌++◌, map, length, slice_index, All, Contains, refl, sym, ◌∙◌, ap, ap₂, subst, arith, length-append}
use Rattle.std.specs.List.{range_with_len}
use Rattle.std.proofs.lemmas.Bool.{cases_lt}
use Rattle.std.proofs.lemmas.List.{length-map, map-append, get_or-map, get_or_append_left, get_or-append-add, map-id}
use Rattle.std.proofs.lemmas.List.FromFn.{length-range_with_len, get_or-range_with_len, get_or-map-range_with_len, length-map-range_with_len}
use Rattle.std.proofs.lemmas.List.Elements.{All-append, All-from_get_or, All-get_or, All-weaker, All-map, Contains-append_right}
use Rattle.tsc_net.specs.Named.{NamedLatch}
use Rattle.tsc_net.specs.Names.{text_at}
use Rattle.tsc_net.specs.Parts.{PartsOf}
use Rattle.tsc_net.specs.PartsView.{IsName, text_of, texts_of}
use Rattle.tsc_net.specs.declared.ids.Name.{Name}
use Rattle.tsc_net.proofs.BuildLemmas.{map-map}
use Rattle.gate_net.specs.Gates.{GateNetwork, AreLines}
use Rattle.gate_net.specs.declared.line.Line.{Line}
use Rattle.net_building.specs.Names.{numbered}
use Rattle.net_writing.specs.Names.{name_at}
use Rattle.net_writing.specs.declared.checker_writing.RailNames.{RailNames}
use Rattle.unate_synth.specs.Composed.{IsNamedWord, LatchesRead, with_rails}
use Rattle.unate_synth.specs.Roots.{IsSourceNumber}
use Rattle.unate_synth.proofs.Exact.{contains_map}
use Rattle.machine_synth.specs.MachineParts.{latch_at, machine_parts}
use Rattle.machine_synth.proofs.MachineTexts.{names_counted, parts_latches}

-- no number stands twice
abbrev pub AreDistinct : List ℕ → Type 0
AreDistinct list = (a b : ℕ) → a < length list → b < length list → slice_index list a ≡ slice_index list b → a ≡ b

-- lists whose numbers are told apart, one after the other
pub distinct_append : (P Q : ℕ → Type 0) (xs ys : List ℕ) → AreDistinct xs → AreDistinct ys → All P xs → All Q ys → ((n : ℕ) → P n → Q n → ⊥) → AreDistinct (xs ++ ys)
distinct_append P Q xs ys front back all_front all_back apart a b low lower same = by (cases_lt a (length xs)) (cases_lt b (length xs))
  where
    whole : length (xs ++ ys) ≡ length xs + length ys
    whole = length-append xs ys

    left : (k : ℕ) → k < length xs → slice_index (xs ++ ys) k ≡ slice_index xs k
    left k h = get_or_append_left xs ys 0 k h

    right : (k : ℕ) → length xs ≤ k → slice_index (xs ++ ys) k ≡ slice_index ys (k - length xs)
    right k h = ap (slice_index (xs ++ ys)) (let e : k ≡ length xs + (k - length xs) = omega (arith, h) in e) ∙ get_or-append-add xs ys (k - length xs) 0

    clash : (i j : ℕ) → i < length xs → length xs ≤ j → j < length (xs ++ ys) → slice_index (xs ++ ys) i ≡ slice_index (xs ++ ys) j → ⊥
    clash i j h past within e =
        apart (slice_index xs i) (All-get_or P xs i 0 h all_front)
        (subst Q (sym (sym (left i h) ∙ e ∙ right j past)) (All-get_or Q ys (j - length xs) 0 (omega (arith, past, within, whole)) all_back))

    by : (a < length xs) ⊎ (length xs ≤ a) → (b < length xs) ⊎ (length xs ≤ b) → a ≡ b
    by (inl h) (inl k) = front a b h k (sym (left a h) ∙ same ∙ left b k)
    by (inl h) (inr k) = absurd (clash a b h k lower same)
    by (inr h) (inl k) = absurd (clash b a k h low (sym same))
    by (inr h) (inr k) =
        let rest : a - length xs ≡ b - length xs =
        back (a - length xs) (b - length xs) (omega (arith, h, low, whole)) (omega (arith, k, lower, whole)) (sym (right a h) ∙ same ∙ right b k) in
        omega (arith, h, k, rest)

-- numbers in a row
pub row_distinct : (first count : ℕ) → AreDistinct (range_with_len first count)
row_distinct first count a b low lower same =
    let long : length (range_with_len first count) ≡ count = length-range_with_len first count in
    omega (arith, sym (get_or-range_with_len first count a 0 (omega (arith, low, long))) ∙ same ∙ get_or-range_with_len first count b 0 (omega (arith, lower, long)))

pub row_within : (P : ℕ → Type 0) (first count : ℕ) → ((n : ℕ) → first ≤ n → n < first + count → P n) → All P (range_with_len first count)
row_within P first count each =
    All-from_get_or P (range_with_len first count) 0 (λ k low.
    let h : k < count = omega (arith, low, length-range_with_len first count) in
    subst P (sym (get_or-range_with_len first count k 0 h)) (each (first + k) (omega arith) (omega (arith, h))))

-- the numbers of names
abbrev pub numbers_of : List Name → List ℕ
numbers_of names = map (λ name. name.number) names

row_numbers : (names : List Name) (first count : ℕ) → names ≡ map numbered (range_with_len first count) → numbers_of names ≡ range_with_len first count
row_numbers names first count are = ap numbers_of are ∙ map-map (λ (name : Name). name.number) numbered (range_with_len first count) ∙ map-id (range_with_len first count)

pub number_at_place : (names : List Name) (k : ℕ) → k < length names → (name_at names k).number ≡ slice_index (numbers_of names) k
number_at_place names k low = sym (get_or-map (λ (name : Name). name.number) names k (numbered 0) 0 low)

-- what holds of the numbers of names holds of the names
all_named : (P : ℕ → Type 0) (names : List Name) → All P (numbers_of names) → All (λ name. P name.number) names
all_named P names all =
    All-from_get_or (λ (name : Name). P name.number) names (numbered 0) (λ k low.
    subst P (sym (number_at_place names k low)) (All-get_or P (numbers_of names) k 0 (omega (arith, low, length-map names (λ (name : Name). name.number))) all))

-- the names of the checks, and of what the latches read
abbrev pub check_names : List (List ℕ) → List (List ℕ) → ℕ → ℕ → List Name
check_names inputs outputs n count = map numbered (range_with_len (length inputs + length outputs + n + n) count)

abbrev pub read_names : List (List ℕ) → List (List ℕ) → ℕ → List Name
read_names inputs outputs n = map numbered (range_with_len (length inputs + length outputs + n) n)

-- the names of a machine's word: those of its outputs, and after them those of its checks and of what its latches read
pub record IsNumberedWord (inputs outputs : List (List ℕ)) (n count : ℕ) (shown behind : List Name) : Type 0 where
  pub shown_are : shown ≡ map numbered (range_with_len (length inputs) (length outputs))
  pub joined : behind ≡ check_names inputs outputs n count ++ read_names inputs outputs n

module _ (inputs outputs : List (List ℕ)) (n word count : ℕ) (shown behind : List Name) (are : IsNumberedWord inputs outputs n count shown behind) where
  -- the numbers of the places
  word_numbers : numbers_of (shown ++ behind) ≡ range_with_len (length inputs) (length outputs) ++ (range_with_len (length inputs + length outputs + n + n) count ++ range_with_len (length inputs + length outputs + n) n)
  word_numbers =
      map-append (λ (name : Name). name.number) shown behind
      ∙ ap₂ (λ (xs ys : List ℕ). xs ++ ys) (row_numbers shown (length inputs) (length outputs) are.shown_are)
      (ap numbers_of are.joined ∙ map-append (λ (name : Name). name.number) (check_names inputs outputs n count) (read_names inputs outputs n)
      ∙ ap₂ (λ (xs ys : List ℕ). xs ++ ys) (row_numbers (check_names inputs outputs n count) _ count refl) (row_numbers (read_names inputs outputs n) _ n refl))

  -- which numbers those of places may be
  pub word_within : (P : ℕ → Type 0) → ((m : ℕ) → length inputs ≤ m → m < length inputs + length outputs → P m) → ((m : ℕ) → length inputs + length outputs + n ≤ m → m < length inputs + length outputs + n + n + count → P m)
      → All P (numbers_of (shown ++ behind))
  word_within P low high =
      subst (All P) (sym word_numbers)
      (All-append P (range_with_len (length inputs) (length outputs)) (range_with_len (length inputs + length outputs + n + n) count ++ range_with_len (length inputs + length outputs + n) n)
      (row_within P (length inputs) (length outputs) low)
      (All-append P (range_with_len (length inputs + length outputs + n + n) count) (range_with_len (length inputs + length outputs + n) n)
      (row_within P (length inputs + length outputs + n + n) count (λ m a b. high m (omega (arith, a)) (omega (arith, b))))
      (row_within P (length inputs + length outputs + n) n (λ m a b. high m a (omega (arith, b))))))

  pub word_distinct : AreDistinct (numbers_of (shown ++ behind))
  word_distinct =
      subst AreDistinct (sym word_numbers)
      (distinct_append (λ m. m < length inputs + length outputs) (λ m. length inputs + length outputs ≤ m) (range_with_len (length inputs) (length outputs))
      (range_with_len (length inputs + length outputs + n + n) count ++ range_with_len (length inputs + length outputs + n) n)
      (row_distinct (length inputs) (length outputs))
      (distinct_append (λ m. length inputs + length outputs + n + n ≤ m) (λ m. m < length inputs + length outputs + n + n) (range_with_len (length inputs + length outputs + n + n) count) (range_with_len (length inputs + length outputs + n) n)
      (row_distinct (length inputs + length outputs + n + n) count) (row_distinct (length inputs + length outputs + n) n)
      (row_within (λ m. length inputs + length outputs + n + n ≤ m) (length inputs + length outputs + n + n) count (λ m a b. a))
      (row_within (λ m. m < length inputs + length outputs + n + n) (length inputs + length outputs + n) n (λ m a b. b))
      (λ m a b. omega (arith, a, b)))
      (row_within (λ m. m < length inputs + length outputs) (length inputs) (length outputs) (λ m a b. b))
      (All-append (λ m. length inputs + length outputs ≤ m) (range_with_len (length inputs + length outputs + n + n) count) (range_with_len (length inputs + length outputs + n) n)
      (row_within (λ m. length inputs + length outputs ≤ m) (length inputs + length outputs + n + n) count (λ m a b. omega (arith, a)))
      (row_within (λ m. length inputs + length outputs ≤ m) (length inputs + length outputs + n) n (λ m a b. omega (arith, a))))
      (λ m a b. omega (arith, a, b)))

  -- no place of the word has the name of a source
  pub word_apart : All (λ m. IsSourceNumber (record { inputs = length inputs; first = length inputs + length outputs; latches = n }) m → ⊥) (numbers_of (shown ++ behind))
  word_apart =
      word_within (λ m. IsSourceNumber (record { inputs = length inputs; first = length inputs + length outputs; latches = n }) m → ⊥)
      (λ m a b. below m a b) (λ m a b. above m a)
    where
      below : (m : ℕ) → length inputs ≤ m → m < length inputs + length outputs → IsSourceNumber (record { inputs = length inputs; first = length inputs + length outputs; latches = n }) m → ⊥
      below m a b (inl low) = omega (arith, a, low)
      below m a b (inr both) = omega (arith, b, both.0)

      above : (m : ℕ) → length inputs + length outputs + n ≤ m → IsSourceNumber (record { inputs = length inputs; first = length inputs + length outputs; latches = n }) m → ⊥
      above m a (inl low) = omega (arith, a, low)
      above m a (inr both) = omega (arith, a, both.1)

  pub counted : length (shown ++ behind) ≡ length outputs + count + n
  counted =
      omega (
        arith,
        length-append shown behind,
        ap length are.shown_are,
        length-map-range_with_len numbered (length inputs) (length outputs),
        ap length are.joined,
        length-append (check_names inputs outputs n count) (read_names inputs outputs n),
        length-map-range_with_len numbered (length inputs + length outputs + n + n) count,
        length-map-range_with_len numbered (length inputs + length outputs + n) n,
      )

-- the word's names are among the parts'
pub word_low : (inputs outputs : List (List ℕ)) (n word count : ℕ) (p : PartsOf) → p ≡ machine_parts inputs outputs n word (2 * n + count + 2) → (shown behind : List Name)
    → IsNumberedWord inputs outputs n count shown behind → All (λ m. m < length p.names) (numbers_of (shown ++ behind))
word_low inputs outputs n word count p is shown behind are =
    let long = names_counted inputs outputs n word (2 * n + count + 2) p is in
    word_within inputs outputs n word count shown behind are (λ m. m < length p.names) (λ m a b. omega (arith, b, long)) (λ m a b. omega (arith, b, long))

module _ (inputs outputs : List (List ℕ)) (n word count : ℕ) (p : PartsOf) (is : p ≡ machine_parts inputs outputs n word (2 * n + count + 2)) (shown behind : List Name) (rails : RailNames)
    (are : IsNumberedWord inputs outputs n count shown behind) (first_is : rails.first.number ≡ length inputs + length outputs + n + n + count) (second_is : rails.second.number ≡ length inputs + length outputs + n + n + count + 1) where
  rail_numbers : numbers_of (rails.first ∷ (rails.second ∷ [])) ≡ range_with_len (length inputs + length outputs + n + n + count) 2
  rail_numbers = two rails.first.number rails.second.number first_is second_is
    where
      two : (a b : ℕ) → a ≡ length inputs + length outputs + n + n + count → b ≡ length inputs + length outputs + n + n + count + 1 → a ∷ (b ∷ []) ≡ range_with_len (length inputs + length outputs + n + n + count) 2
      two a b e f = cc

  all_numbers : numbers_of (with_rails (shown ++ behind) rails) ≡ numbers_of (shown ++ behind) ++ range_with_len (length inputs + length outputs + n + n + count) 2
  all_numbers = map-append (λ (name : Name). name.number) (shown ++ behind) (rails.first ∷ (rails.second ∷ [])) ∙ ap (λ (ys : List ℕ). numbers_of (shown ++ behind) ++ ys) rail_numbers

  all_distinct : AreDistinct (numbers_of (with_rails (shown ++ behind) rails))
  all_distinct =
      subst AreDistinct (sym all_numbers)
      (distinct_append (λ m. m < length inputs + length outputs + n + n + count) (λ m. length inputs + length outputs + n + n + count ≤ m) (numbers_of (shown ++ behind)) (range_with_len (length inputs + length outputs + n + n + count) 2)
      (word_distinct inputs outputs n word count shown behind are) (row_distinct (length inputs + length outputs + n + n + count) 2)
      (word_within inputs outputs n word count shown behind are (λ m. m < length inputs + length outputs + n + n + count) (λ m a b. omega (arith, b)) (λ m a b. b))
      (row_within (λ m. length inputs + length outputs + n + n + count ≤ m) (length inputs + length outputs + n + n + count) 2 (λ m a b. a))
      (λ m a b. omega (arith, a, b)))

  long : length p.names ≡ length inputs + length outputs + (2 * n + count + 2)
  long = names_counted inputs outputs n word (2 * n + count + 2) p is

  all_names : All (IsName p.names) (with_rails (shown ++ behind) rails)
  all_names =
      all_named (λ m. m < length p.names) (with_rails (shown ++ behind) rails)
      (subst (All (λ m. m < length p.names)) (sym all_numbers)
      (All-append (λ m. m < length p.names) (numbers_of (shown ++ behind)) (range_with_len (length inputs + length outputs + n + n + count) 2)
      (word_within inputs outputs n word count shown behind are (λ m. m < length p.names) (λ m a b. omega (arith, b, long)) (λ m a b. omega (arith, b, long)))
      (row_within (λ m. m < length p.names) (length inputs + length outputs + n + n + count) 2 (λ m a b. omega (arith, b, long)))))

  rail_apart : (m : ℕ) → length inputs + length outputs + n + n + count ≤ m → IsSourceNumber (record { inputs = length inputs; first = length inputs + length outputs; latches = n }) m → ⊥
  rail_apart m a (inl low) = omega (arith, a, low)
  rail_apart m a (inr both) = omega (arith, a, both.1)

  pub machine_word : (G : GateNetwork) (lines : List Line) → AreLines G lines → length lines ≡ length outputs + count + n
      → IsNamedWord (record { inputs = length inputs; first = length inputs + length outputs; latches = n }) p G lines (shown ++ behind) rails
  machine_word G lines within sized = record {
    sized = sized ∙ sym (counted inputs outputs n word count shown behind are);
    within = within;
    names = all_names;
    once = λ a b low lower same.
        all_distinct a b (omega (arith, low, length-map (with_rails (shown ++ behind) rails) (λ (name : Name). name.number))) (omega (arith, lower, length-map (with_rails (shown ++ behind) rails) (λ (name : Name). name.number)))
        (sym (number_at_place (with_rails (shown ++ behind) rails) a low) ∙ same ∙ number_at_place (with_rails (shown ++ behind) rails) b lower);
    apart = All-weaker (λ (name : Name). IsSourceNumber (record { inputs = length inputs; first = length inputs + length outputs; latches = n }) name.number → ⊥)
        (λ (name : Name). IsSourceNumber (record { inputs = length inputs; first = length inputs + length outputs; latches = n }) name.number → name.number < length inputs)
        (λ name no source. absurd (no source)) (shown ++ behind)
        (all_named (λ m. IsSourceNumber (record { inputs = length inputs; first = length inputs + length outputs; latches = n }) m → ⊥) (shown ++ behind) (word_apart inputs outputs n word count shown behind are));
    first_apart = rail_apart rails.first.number (omega (arith, first_is));
    second_apart = rail_apart rails.second.number (omega (arith, second_is));
    inputs = λ place d low small.
        absurd (All-get_or (λ m. IsSourceNumber (record { inputs = length inputs; first = length inputs + length outputs; latches = n }) m → ⊥) (numbers_of (shown ++ behind)) place 0
        (omega (arith, low, length-map (shown ++ behind) (λ (name : Name). name.number))) (word_apart inputs outputs n word count shown behind are)
        (inl (subst (λ m. m < length inputs) (number_at_place (shown ++ behind) place low) small)));
  }

module _ (inputs outputs : List (List ℕ)) (n word count : ℕ) (p : PartsOf) (is : p ≡ machine_parts inputs outputs n word (2 * n + count + 2)) (shown behind : List Name) (are : IsNumberedWord inputs outputs n count shown behind) where
  -- the latches read the names of the last places
  pub latches_read : LatchesRead p (texts_of p.names (shown ++ behind))
  latches_read =
      subst (All (λ (l : NamedLatch). Contains (texts_of p.names (shown ++ behind)) l.reads)) (sym (parts_latches inputs outputs n word (2 * n + count + 2) p is))
      (All-map (λ (l : NamedLatch). Contains (texts_of p.names (shown ++ behind)) l.reads) (latch_at p.names (length inputs + length outputs) n word) (range_with_len 0 n)
      (row_within (λ k. Contains (texts_of p.names (shown ++ behind)) (text_at p.names (length inputs + length outputs + n + k))) 0 n
      (λ k a b. contains_map (text_of p.names) (shown ++ behind) (numbered (length inputs + length outputs + n + k))
      (Contains-append_right shown behind (numbered (length inputs + length outputs + n + k))
      (subst (λ (list : List Name). Contains list (numbered (length inputs + length outputs + n + k))) (sym are.joined)
      (Contains-append_right (check_names inputs outputs n count) (read_names inputs outputs n) (numbered (length inputs + length outputs + n + k)) (
        k,
        omega (arith, b, length-map-range_with_len numbered (length inputs + length outputs + n) n),
        get_or-map-range_with_len numbered (length inputs + length outputs + n) n k (length inputs + length outputs + n + k) (numbered (length inputs + length outputs + n + k)) (omega (arith, b)) refl,
      )))))))
