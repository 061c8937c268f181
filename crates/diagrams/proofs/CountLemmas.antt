-- How many rows there are: as many as the functions have different cofactors.
use Rattle.std.proofs.Common.{◌≡◌, ℕ, zero, suc, ◌+◌, ◌<◌, ◌≤◌, Bool, true, false, ◌&&◌, cond, nat_eq, ◌⊎◌, inl, inr, List, [], ◌∷◌, ◌++◌, map, length, slice_index_or, take, drop, refl, sym, ap, ◌∙◌, subst, arith, length-append, length-drop, Decides}
use Rattle.std.specs.Cmp.{IsEquivalence}
use Rattle.std.specs.List.{range_with_len, IsDistinct}
use Rattle.std.specs.Set.{is_member, unique_keys, distinct_count}
use Rattle.std.proofs.lemmas.Bool.{and_parts, or_cases, or_left, or_right, cases_order, false_from_ne_true}
use Rattle.std.proofs.lemmas.List.FromFn.{length-map-range_with_len, get_or-map-range_with_len}
use Rattle.std.proofs.lemmas.List.Elements.{recursion_from_All}
use Rattle.std.proofs.lemmas.Map.Made.{length-from_keys, length-le_from_is_member, IsDistinct-from_AllPairs}
use Rattle.std.proofs.Math.Logic.{⊎_elim}
use Rattle.tsc_bits.specs.Bits.{same}
use Rattle.tsc_bits.proofs.Bools.{same_is}
use Rattle.tsc_bits.proofs.Lists.{front, back}
use Rattle.diagrams.specs.declared.decision.Decision.{Decision}
use Rattle.diagrams.specs.Decisions.{step, walk, value, IsAt, IsDiagram}
use Rattle.diagrams.specs.Cofactors.{Function, Same, fixed, IsCofactor, IsCofactorOfOne, table, prefixes, cofactor_tables, same_bits, cofactor_count}
use Rattle.diagrams.specs.Building.{DiagramState, constants, no_input, any_input, StandsFor, AreMade, AreShort, HaveRows}
use Rattle.diagrams.proofs.Walks.{IsAt-step, value-at}
use Rattle.diagrams.proofs.Canonical.{one_row_each}
use Rattle.diagrams.proofs.CofactorLemmas.{IsCofactor-same}
use Rattle.diagrams.proofs.Shortcuts.{value-constant}

-- lists of bits as keys

same_self : (b : Bool) → same b b ≡ true
same_self true = refl
same_self false = refl

same_bits-self : (a : List Bool) → same_bits a a ≡ true
same_bits-self [] = refl
same_bits-self (b ∷ a) = ap (λ t. t && same_bits a a) (same_self b) ∙ same_bits-self a

same_bits-is : (a b : List Bool) → same_bits a b ≡ true → a ≡ b
same_bits-is [] [] e = refl
same_bits-is [] (c ∷ cs) e = absurd (cc)
same_bits-is (b ∷ bs) [] e = absurd (cc)
same_bits-is (b ∷ bs) (c ∷ cs) e =
    let both = and_parts (same b c) (same_bits bs cs) e in
    ap (λ t. t ∷ bs) (same_is b c both.0) ∙ ap (λ ts. c ∷ ts) (same_bits-is bs cs both.1)

decides_bits : (a b : List Bool) → Decides (same_bits a b) (a ≡ b)
decides_bits a b = (same_bits-is a b, λ e. subst (λ (c : List Bool). same_bits a c ≡ true) e (same_bits-self a))

iff_same : (a b : Bool) → (a ≡ true → b ≡ true) → (b ≡ true → a ≡ true) → a ≡ b
iff_same true b up down = sym (up refl)
iff_same false true up down = down refl
iff_same false false up down = refl

bits_are_keys : IsEquivalence same_bits
bits_are_keys = record {
  refl = same_bits-self;
  symm = λ a b. iff_same _ _
      (λ e. subst (λ (c : List Bool). same_bits c a ≡ true) (same_bits-is a b e) (same_bits-self a))
      (λ e. subst (λ (c : List Bool). same_bits c b ≡ true) (same_bits-is b a e) (same_bits-self b));
  congr = λ a b c e. ap (λ t. same_bits t c) (same_bits-is a b e);
}

-- what stands in a list

abbrev Has : {X : Type 0} → X → List X → Type 0
Has q [] = ⊥
Has q (t ∷ ts) = (q ≡ t) ⊎ Has q ts

has_left : {X : Type 0} (q : X) (xs ys : List X) → Has q xs → Has q (xs ++ ys)
has_left q [] ys h = absurd h
has_left q (x ∷ xs) ys (inl e) = inl e
has_left q (x ∷ xs) ys (inr h) = inr (has_left q xs ys h)

has_right : {X : Type 0} (q : X) (xs ys : List X) → Has q ys → Has q (xs ++ ys)
has_right q [] ys h = h
has_right q (x ∷ xs) ys h = inr (has_right q xs ys h)

has_either : {X : Type 0} (q : X) (xs ys : List X) → Has q (xs ++ ys) → Has q xs ⊎ Has q ys
has_either q [] ys h = inr h
has_either q (x ∷ xs) ys (inl e) = inl (inl e)
has_either q (x ∷ xs) ys (inr h) = ⊎_elim (λ l. inl (inr l)) (λ r. inr r) (has_either q xs ys h)

has_map : {X Y : Type 0} (f : X → Y) (x : X) (xs : List X) → Has x xs → Has (f x) (map f xs)
has_map f x [] h = absurd h
has_map f x (y ∷ xs) (inl e) = inl (ap f e)
has_map f x (y ∷ xs) (inr h) = inr (has_map f x xs h)

map_has : {X Y : Type 0} (f : X → Y) (q : Y) (xs : List X) → Has q (map f xs) → (x : X) × Has x xs × (q ≡ f x)
map_has f q [] h = absurd h
map_has f q (x ∷ xs) (inl e) = (x, inl refl, e)
map_has f q (x ∷ xs) (inr h) = let r = map_has f q xs h in (r.0, inr r.1, r.2)

member_has : (q : List Bool) (ts : List (List Bool)) → is_member same_bits ts q ≡ true → Has q ts
member_has q [] e = absurd (cc)
member_has q (t ∷ ts) e = ⊎_elim (λ here. inl (same_bits-is q t here)) (λ later. inr (member_has q ts later)) (or_cases (same_bits q t) (is_member same_bits ts q) e)

has_member : (q : List Bool) (ts : List (List Bool)) → Has q ts → is_member same_bits ts q ≡ true
has_member q [] h = absurd h
has_member q (t ∷ ts) (inl e) = or_left (same_bits q t) (is_member same_bits ts q) ((decides_bits q t).1 e)
has_member q (t ∷ ts) (inr h) = or_right (same_bits q t) (is_member same_bits ts q) (has_member q ts h)

range_has : (a n k : ℕ) → a ≤ k → k < a + n → Has k (range_with_len a n)
range_has a zero k low high = absurd (omega arith)
range_has a (suc n) k low high = ⊎_elim (λ e. inl (sym e)) (λ apart. inr (range_has (a + 1) n k
    (⊎_elim (λ below. omega arith) (λ above. omega arith) apart) (omega arith))) (cases_order a k)

has_range : (a n k : ℕ) → Has k (range_with_len a n) → k < a + n
has_range a zero k h = absurd h
has_range a (suc n) k (inl e) = omega arith
has_range a (suc n) k (inr h) = let r = has_range (a + 1) n k h in omega arith

has_prefix : (n : ℕ) (bits : List Bool) → length bits ≤ n → Has bits (prefixes n)
has_prefix zero [] short = inl refl
has_prefix zero (b ∷ bits) short = absurd (omega arith)
has_prefix (suc n) [] short = inl refl
has_prefix (suc n) (false ∷ bits) short = inr (has_left _ (map (λ x. false ∷ x) (prefixes n)) _ (has_map (λ x. false ∷ x) bits (prefixes n) (has_prefix n bits (omega arith))))
has_prefix (suc n) (true ∷ bits) short = inr (has_right _ (map (λ x. false ∷ x) (prefixes n)) _ (has_map (λ x. true ∷ x) bits (prefixes n) (has_prefix n bits (omega arith))))

prefix_short : (n : ℕ) (bits : List Bool) → Has bits (prefixes n) → length bits ≤ n
prefix_short zero bits (inl e) = let l = ap length e in omega arith
prefix_short zero bits (inr h) = absurd h
prefix_short (suc n) bits (inl e) = let l = ap length e in omega arith
prefix_short (suc n) bits (inr h) = ⊎_elim
    (λ low. let r = map_has (λ x. false ∷ x) bits (prefixes n) low in let l = ap length r.2 in let s = prefix_short n r.0 r.1 in omega arith)
    (λ high. let r = map_has (λ x. true ∷ x) bits (prefixes n) high in let l = ap length r.2 in let s = prefix_short n r.0 r.1 in omega arith)
    (has_either bits (map (λ x. false ∷ x) (prefixes n)) (map (λ x. true ∷ x) (prefixes n)) h)

-- tables of values

length-table : (n : ℕ) (f g : Function) → length (table n f) ≡ length (table n g)
length-table zero f g = refl
length-table (suc n) f g =
    let a = length-table n (λ x. f (false ∷ x)) (λ x. g (false ∷ x)) in
    let b = length-table n (λ x. f (true ∷ x)) (λ x. g (true ∷ x)) in
    omega (arith, length-append (table n (λ x. f (false ∷ x))) (table n (λ x. f (true ∷ x))), length-append (table n (λ x. g (false ∷ x))) (table n (λ x. g (true ∷ x))))

table-same : (n : ℕ) (f g : Function) → Same n f g → table n f ≡ table n g
table-same zero f g s = ap (λ b. b ∷ []) (s.at [] refl)
table-same (suc n) f g s =
    ap (λ ts. ts ++ table n (λ x. f (true ∷ x))) (table-same n (λ x. f (false ∷ x)) (λ x. g (false ∷ x)) (record { at = λ x sized. s.at (false ∷ x) (ap suc sized) }))
    ∙ ap (λ ts. table n (λ x. g (false ∷ x)) ++ ts) (table-same n (λ x. f (true ∷ x)) (λ x. g (true ∷ x)) (record { at = λ x sized. s.at (true ∷ x) (ap suc sized) }))

first_bit : (b c : Bool) → ◌≡◌ {A = List Bool} (b ∷ []) (c ∷ []) → b ≡ c
first_bit b c e = cc

same_table : (n : ℕ) (f g : Function) → table n f ≡ table n g → Same n f g
same_table zero f g e = record { at = at }
  where
    at : (x : List Bool) → length x ≡ 0 → f x ≡ g x
    at [] sized = first_bit (f []) (g []) e
    at (b ∷ x) sized = absurd (omega arith)
same_table (suc n) f g e = record { at = at (same_table n (λ x. f (false ∷ x)) (λ x. g (false ∷ x)) low) (same_table n (λ x. f (true ∷ x)) (λ x. g (true ∷ x)) high) }
  where
    low : table n (λ x. f (false ∷ x)) ≡ table n (λ x. g (false ∷ x))
    low =
        let m = length (table n (λ x. f (false ∷ x))) in
        sym (front m (table n (λ x. f (false ∷ x))) (table n (λ x. f (true ∷ x))) refl) ∙ (ap (take m) e
        ∙ front m (table n (λ x. g (false ∷ x))) (table n (λ x. g (true ∷ x))) (length-table n (λ x. g (false ∷ x)) (λ x. f (false ∷ x))))

    high : table n (λ x. f (true ∷ x)) ≡ table n (λ x. g (true ∷ x))
    high =
        let m = length (table n (λ x. f (false ∷ x))) in
        sym (back m (table n (λ x. f (false ∷ x))) (table n (λ x. f (true ∷ x))) refl) ∙ (ap (drop m) e
        ∙ back m (table n (λ x. g (false ∷ x))) (table n (λ x. g (true ∷ x))) (length-table n (λ x. g (false ∷ x)) (λ x. f (false ∷ x))))

    at : Same n (λ x. f (false ∷ x)) (λ x. g (false ∷ x)) → Same n (λ x. f (true ∷ x)) (λ x. g (true ∷ x)) → (x : List Bool) → length x ≡ suc n → f x ≡ g x
    at l h [] sized = absurd (omega arith)
    at l h (false ∷ x) sized = l.at x (omega arith)
    at l h (true ∷ x) sized = h.at x (omega arith)

-- the tables of cofactors

cofactor_has : (inputs : ℕ) (fs : List Function) (g : Function) → IsCofactorOfOne inputs fs g → Has (table inputs g) (cofactor_tables inputs fs)
cofactor_has inputs [] g none = absurd none
cofactor_has inputs (f ∷ fs) g (inl c) =
    has_left (table inputs g) (map (λ bits. table inputs (fixed bits f)) (prefixes inputs)) _
    (subst (λ (t : List Bool). Has t (map (λ bits. table inputs (fixed bits f)) (prefixes inputs))) (sym (table-same inputs g (fixed c.bits f) c.comes))
    (has_map (λ bits. table inputs (fixed bits f)) c.bits (prefixes inputs) (has_prefix inputs c.bits c.short)))
cofactor_has inputs (f ∷ fs) g (inr later) = has_right (table inputs g) (map (λ bits. table inputs (fixed bits f)) (prefixes inputs)) _ (cofactor_has inputs fs g later)

has_cofactor : (inputs : ℕ) (fs : List Function) (q : List Bool) → Has q (cofactor_tables inputs fs) → (g : Function) × IsCofactorOfOne inputs fs g × (q ≡ table inputs g)
has_cofactor inputs [] q h = absurd h
has_cofactor inputs (f ∷ fs) q h = ⊎_elim
    (λ here. let r = map_has (λ bits. table inputs (fixed bits f)) q (prefixes inputs) here in
    (fixed r.0 f, inl (record { bits = r.0; short = prefix_short inputs r.0 r.1; comes = record { at = λ x sized. refl } }), r.2))
    (λ later. let r = has_cofactor inputs fs q later in (r.0, inr r.1, r.2))
    (has_either q (map (λ bits. table inputs (fixed bits f)) (prefixes inputs)) (cofactor_tables inputs fs) h)

-- each cofactor of a row's function has a row

walk-append : (rows : List Decision) (level k : ℕ) (xs ys : List Bool) → walk rows level k (xs ++ ys) ≡ walk rows (level + length xs) (walk rows level k xs) ys
walk-append rows level k [] ys = let e : level ≡ level + 0 = omega arith in ap (λ l. walk rows l k ys) e
walk-append rows level k (x ∷ xs) ys = let e : suc level + length xs ≡ level + suc (length xs) = omega arith in
    walk-append rows (suc level) (step rows level k x) xs ys ∙ ap (λ l. walk rows l (walk rows (suc level) (step rows level k x) xs) ys) e

IsAt-walk : (inputs : ℕ) (rows : List Decision) → IsDiagram inputs rows → (level later k : ℕ) (xs : List Bool) → level + length xs ≡ later → later ≤ inputs → IsAt rows level k → IsAt rows later (walk rows level k xs)
IsAt-walk inputs rows D level later k [] e inside at = let s : level ≡ later = omega arith in subst (λ (l : ℕ). IsAt rows l k) s at
IsAt-walk inputs rows D level later k (x ∷ xs) e inside at =
    IsAt-walk inputs rows D (suc level) later (step rows level k x) xs (omega arith) inside (IsAt-step inputs rows D level k x at (omega arith))

row_of_fixed : (state : DiagramState) (f : Function) (k : ℕ) → IsDiagram state.inputs state.rows → StandsFor state f k → (g : Function) → IsCofactor state.inputs f g → (j : ℕ) × StandsFor state g j
row_of_fixed state f k D stands g c =
    let n = length c.bits in
    let j = walk state.rows 0 k c.bits in
    let at : IsAt state.rows n j = IsAt-walk state.inputs state.rows D 0 n k c.bits (omega arith) c.short (record { node = stands.node; above = omega arith }) in
    let zero_more : 0 + n ≡ n = omega arith in (
      j,
      record {
        node = at.node;
        is = record {
          at = λ x sized.
              let y = c.bits ++ drop n x in
              let sized_y : length y ≡ state.inputs = omega (arith, length-append c.bits (drop n x), length-drop n x, c.short) in
              value-at state.rows n j x at
              ∙ (ap (λ l. nat_eq (walk state.rows l j (drop n x)) 1) (sym zero_more)
              ∙ (ap (λ i. nat_eq i 1) (sym (walk-append state.rows 0 k c.bits (drop n x)))
              ∙ (stands.is.at y sized_y ∙ sym (c.comes.at x sized))));
        };
      },
    )

row_of_cofactor : (state : DiagramState) (fs : List Function) → IsDiagram state.inputs state.rows → HaveRows state fs → (g : Function) → IsCofactorOfOne state.inputs fs g → (j : ℕ) × StandsFor state g j
row_of_cofactor state [] D have g none = absurd none
row_of_cofactor state (f ∷ fs) D have g (inl c) = let r = have.at 0 f (omega arith) in row_of_fixed state f r.0 D r.1 g c
row_of_cofactor state (f ∷ fs) D have g (inr later) = row_of_cofactor state fs D (record { at = λ i d inside. have.at (suc i) d (omega arith) }) g later

module _ (state : DiagramState) (D : IsDiagram state.inputs state.rows) where
  -- the tables of the rows
  abbrev row_tables : List (List Bool)
  row_tables = map (λ k. table state.inputs (value state.rows k)) (range_with_len 0 (length state.rows))

  length-row_tables : length row_tables ≡ length state.rows
  length-row_tables = length-map-range_with_len (λ k. table state.inputs (value state.rows k)) 0 (length state.rows)

  row_tables_differ : IsDistinct same_bits row_tables
  row_tables_differ = IsDistinct-from_AllPairs decides_bits row_tables (λ i j d before inside e.
      let count = length-row_tables in
      let at : (k : ℕ) → k < length state.rows → slice_index_or row_tables k d ≡ table state.inputs (value state.rows k) =
      λ k node. get_or-map-range_with_len (λ k. table state.inputs (value state.rows k)) 0 (length state.rows) k k d node (omega arith) in
      let node_j : j < length state.rows = omega arith in
      let node_i : i < length state.rows = omega arith in
      let is = one_row_each state.inputs state.rows D i j node_i node_j (same_table state.inputs _ _ (sym (at i node_i) ∙ (e ∙ at j node_j))) in
      omega arith)

  has_row_table : (g : Function) (k : ℕ) → StandsFor state g k → Has (table state.inputs g) row_tables
  has_row_table g k stands = subst (λ (t : List Bool). Has t row_tables) (table-same state.inputs _ _ stands.is)
      (has_map (λ k. table state.inputs (value state.rows k)) k (range_with_len 0 (length state.rows)) (range_has 0 (length state.rows) k (omega arith) (let n = stands.node in omega arith)))

  row_table_has : (q : List Bool) → Has q row_tables → (k : ℕ) × (k < length state.rows) × (q ≡ table state.inputs (value state.rows k))
  row_table_has q h =
      let r = map_has (λ k. table state.inputs (value state.rows k)) q (range_with_len 0 (length state.rows)) h in
      let n = has_range 0 (length state.rows) r.0 r.1 in
      (r.0, omega arith, r.2)

-- a list that lacks a key, with that key in front
IsDistinct-front : (q : List Bool) (ts : List (List Bool)) → ((i : ℕ) (d : List Bool) → i < length ts → same_bits q (slice_index_or ts i d) ≡ false) → IsDistinct same_bits ts → IsDistinct same_bits (q ∷ ts)
unfolding IsDistinct
IsDistinct-front q ts without distinct = (recursion_from_All (λ t. same_bits q t ≡ false) ts (λ i d inside. without i d inside), distinct)

unique_by : (ts : List (List Bool)) (t q : List Bool) (b : Bool) → is_member same_bits ts t ≡ b → (is_member same_bits ts q ≡ true → is_member same_bits (unique_keys same_bits ts) q ≡ true) →
    (same_bits q t ≡ true) ⊎ (is_member same_bits ts q ≡ true) → is_member same_bits (cond b (unique_keys same_bits ts) (t ∷ unique_keys same_bits ts)) q ≡ true
unique_by ts t q true there rest (inl here) = rest (subst (λ (s : List Bool). is_member same_bits ts s ≡ true) (sym (same_bits-is q t here)) there)
unique_by ts t q true there rest (inr later) = rest later
unique_by ts t q false there rest (inl here) = or_left (same_bits q t) (is_member same_bits (unique_keys same_bits ts) q) here
unique_by ts t q false there rest (inr later) = or_right (same_bits q t) (is_member same_bits (unique_keys same_bits ts) q) (rest later)

-- each key stands among those that are kept once
unique_has : (ts : List (List Bool)) (q : List Bool) → is_member same_bits ts q ≡ true → is_member same_bits (unique_keys same_bits ts) q ≡ true
unique_has [] q e = e
unique_has (t ∷ ts) q e = unique_by ts t q (is_member same_bits ts t) refl (unique_has ts q) (or_cases (same_bits q t) (is_member same_bits ts q) e)

-- distinct keys of a list are no more than it has different ones
count-ge : (ns xs : List (List Bool)) → IsDistinct same_bits ns → ((q : List Bool) → is_member same_bits ns q ≡ true → is_member same_bits xs q ≡ true) → length ns ≤ distinct_count same_bits xs
count-ge ns xs distinct members = length-le_from_is_member bits_are_keys ns (unique_keys same_bits xs) distinct (λ q e. unique_has xs q (members q e))

-- each row stands for a cofactor of one of the functions, or of a constant
row_is_cofactor : (old new : DiagramState) (fs : List Function) → old.rows ≡ constants old.inputs → AreMade old new fs → (k : ℕ) → k < length new.rows →
    IsCofactorOfOne new.inputs (no_input ∷ any_input ∷ fs) (value new.rows k)
row_is_cofactor old new fs begun made zero node =
    inl (IsCofactor-same new.inputs no_input _ (record { at = λ x sized. value-constant new.inputs new.rows 0 x made.diagram (omega arith) sized }))
row_is_cofactor old new fs begun made (suc zero) node =
    inr (inl (IsCofactor-same new.inputs any_input _ (record { at = λ x sized. value-constant new.inputs new.rows 1 x made.diagram (omega arith) sized })))
row_is_cofactor old new fs begun made (suc (suc k)) node =
    let two = ap length begun in inr (inr (made.cofactors (suc (suc k)) (omega arith) node))

constants_have_rows : (new : DiagramState) (fs : List Function) → IsDiagram new.inputs new.rows → HaveRows new fs → HaveRows new (no_input ∷ any_input ∷ fs)
constants_have_rows new fs D have = record { at = at }
  where
    at : (i : ℕ) (d : Function) → i < length (no_input ∷ any_input ∷ fs) → (k : ℕ) × StandsFor new (slice_index_or (no_input ∷ any_input ∷ fs) i d) k
    at zero d inside = (0, record { node = let two = D.constants in omega arith; is = record { at = λ x sized. value-constant new.inputs new.rows 0 x D (omega arith) sized } })
    at (suc zero) d inside = (1, record { node = let two = D.constants in omega arith; is = record { at = λ x sized. value-constant new.inputs new.rows 1 x D (omega arith) sized } })
    at (suc (suc i)) d inside = have.at i d (omega arith)

-- built from the constants for functions that all get rows, there are as many rows as different cofactors of these and the constants
pub rows_counted : (old new : DiagramState) (fs : List Function) → old.rows ≡ constants old.inputs → AreMade old new fs → HaveRows new fs →
    length new.rows ≡ cofactor_count new.inputs (no_input ∷ any_input ∷ fs)
rows_counted old new fs begun made have =
    let D = made.diagram in
    let all = no_input ∷ any_input ∷ fs in
    let same_members : (q : List Bool) → is_member same_bits (row_tables new D) q ≡ is_member same_bits (cofactor_tables new.inputs all) q = λ q. iff_same _ _
    (λ e. let r = row_table_has new D q (member_has q (row_tables new D) e) in
    has_member q (cofactor_tables new.inputs all) (subst (λ (t : List Bool). Has t (cofactor_tables new.inputs all)) (sym r.2)
    (cofactor_has new.inputs all (value new.rows r.0) (row_is_cofactor old new fs begun made r.0 r.1))))
    (λ e. let r = has_cofactor new.inputs all q (member_has q (cofactor_tables new.inputs all) e) in
    let s = row_of_cofactor new all D (constants_have_rows new fs D have) r.0 r.1 in
    has_member q (row_tables new D) (subst (λ (t : List Bool). Has t (row_tables new D)) (sym r.2) (has_row_table new D r.0 s.0 s.1))) in
    sym (length-row_tables new D) ∙ length-from_keys bits_are_keys (row_tables new D) (cofactor_tables new.inputs all) (row_tables_differ new D) same_members

-- where a cofactor has no row, there are more cofactors than rows
pub rows_short : (old new : DiagramState) (fs : List Function) → old.rows ≡ constants old.inputs → AreMade old new fs → AreShort new fs →
    new.room < cofactor_count new.inputs (no_input ∷ any_input ∷ fs)
rows_short old new fs begun made short =
    let D = made.diagram in
    let all = no_input ∷ any_input ∷ fs in
    let tables = row_tables new D in
    let lacking = table new.inputs short.missing in
    let without : (i : ℕ) (d : List Bool) → i < length tables → same_bits lacking (slice_index_or tables i d) ≡ false = λ i d inside.
    let count = length-row_tables new D in
    let node : i < length new.rows = omega arith in
    let at : slice_index_or tables i d ≡ table new.inputs (value new.rows i) = get_or-map-range_with_len (λ k. table new.inputs (value new.rows k)) 0 (length new.rows) i i d node (omega arith) in
    false_from_ne_true (same_bits lacking (slice_index_or tables i d)) (λ e. short.absent i node (same_table new.inputs _ _ (sym (same_bits-is lacking _ e ∙ at)))) in
    let distinct : IsDistinct same_bits (lacking ∷ tables) = IsDistinct-front lacking tables without (row_tables_differ new D) in
    let count = length-row_tables new D in
    let full = short.full in
    let inside = cofactor_has new.inputs all short.missing (inr (inr short.needed)) in
    let member : (q : List Bool) → is_member same_bits (lacking ∷ tables) q ≡ true → is_member same_bits (cofactor_tables new.inputs all) q ≡ true = λ q e. ⊎_elim
    (λ own. has_member q (cofactor_tables new.inputs all) (subst (λ (t : List Bool). Has t (cofactor_tables new.inputs all)) (sym (same_bits-is q lacking own)) inside))
    (λ other. let r = row_table_has new D q (member_has q tables other) in
    has_member q (cofactor_tables new.inputs all) (subst (λ (t : List Bool). Has t (cofactor_tables new.inputs all)) (sym r.2)
    (cofactor_has new.inputs all (value new.rows r.0) (row_is_cofactor old new fs begun made r.0 r.1))))
    (or_cases (same_bits q lacking) (is_member same_bits tables q) e) in
    let more = count-ge (lacking ∷ tables) (cofactor_tables new.inputs all) distinct member in
    omega arith
