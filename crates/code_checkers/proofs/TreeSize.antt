-- How many gates the tree over the pairs of a word has: its signals are all different.
use Rattle.std.specs.Prelude.{◌≡◌, ℕ, zero, suc, ◌+◌, ◌*◌, ◌<◌, ◌≤◌, ◌||◌, Bool, true, false, if◌then◌else◌, List, [], ◌∷◌, ◌++◌, length, slice_index_or, get_or, All, Contains, refl}
use Rattle.std.specs.List.{sum_by, list_any}
use Rattle.std.proofs.Common.{sym, ◌∙◌, ap, subst, arith, inl, inr}
use Rattle.std.proofs.lemmas.Bool.{cases_Bool, cases_lt, false≢true}
use Rattle.std.proofs.lemmas.List.{length-append}
use Rattle.std.proofs.lemmas.List.Sums.{sum_by-cons, sum_by-append}
use Rattle.std.proofs.lemmas.List.Elements.{All-nil, All-cons, All-head, All-tail, All-append, Contains-append_left, Contains-append_right}
use Rattle.code_checkers.specs.Signal.{Signal, Pair}
use Rattle.code_checkers.specs.Signal.Signal.{Word, Buf, Not, And, Or, Xor}
use Rattle.code_checkers.specs.TwoRail.{cell, level, levels, head_pair, tree}
use Rattle.code_checkers.specs.Tree.{word_pairs, tree_gates, tree_rail1, tree_rail2, IsTreeOf, HasNodes, ReadsPairs}
use Rattle.code_checkers.specs.declared.gate.CheckGate.{CheckGate}
use Rattle.code_checkers.specs.declared.gate.CheckGate.TheVariants as gate
use Rattle.code_checkers.specs.Gates.{signal_of, signals_from, signals_of}
use Rattle.code_checkers.specs.GateList.{GateList}
use Rattle.code_checkers.specs.CheckerNodes.{gate_node, gate_nodes}
use Rattle.code_checkers.specs.Walk.{same_signal, with_signal, walk}
use Rattle.code_checkers.proofs.Gates.{length-signals_of}
use Rattle.code_checkers.proofs.TwoRail.{levels_some, levels_one}
use Rattle.code_checkers.proofs.Sharing.{same_signal-refl, same_signal-true, meaning_is}
use Rattle.code_checkers.proofs.Sizes.{Parts, longer, walk-stays}

-- the place that a signal reads first, by its left operands
abbrev pub left : Signal → ℕ
left (Word place) = place
left (Buf a) = left a
left (Not a) = left a
left (And a b) = left a
left (Or a b) = left a
left (Xor a b) = left a

-- and the one that it reads last
abbrev pub right : Signal → ℕ
right (Word place) = place
right (Buf a) = right a
right (Not a) = right a
right (And a b) = right b
right (Or a b) = right b
right (Xor a b) = right b

-- both stand in a stretch of places
pub record IsBetween (lo hi : ℕ) (s : Signal) : Type 0 where
  left_from : lo ≤ left s
  left_to : left s < hi
  right_from : lo ≤ right s
  right_to : right s < hi

-- no signal stands twice
abbrev pub Differ : List Signal → Type 0
Differ [] = Unit {0}
Differ (s ∷ signals) = (Contains signals s → ⊥) × Differ signals

-- 1 for a gate, 0 for a place of the word
abbrev pub gate_weight : Signal → ℕ
gate_weight (Word place) = 0
gate_weight _ = 1

abbrev is_buffer : Signal → Bool
is_buffer (Buf a) = true
is_buffer _ = false

-- signals that aren't the same are different
apart : (a b : Signal) → same_signal a b ≡ false → a ≡ b → ⊥
apart a b h e = false≢true (sym h ∙ ap (same_signal a) (sym e) ∙ same_signal-refl a)

not_in_none : (s : Signal) → Contains [] s → ⊥
not_in_none s c = let lt : c.0 < 0 = c.1 in absurd (omega arith)

not_in_more : (s t : Signal) (signals : List Signal) → (s ≡ t → ⊥) → (Contains signals s → ⊥) → Contains (t ∷ signals) s → ⊥
not_in_more s t signals first rest (zero, lt, e) = first (sym e)
not_in_more s t signals first rest (suc k, lt, e) = rest (k, omega arith, e)

in_more : (s t : Signal) (signals : List Signal) → Contains signals s → Contains (t ∷ signals) s
in_more s t signals (k, lt, e) = (suc k, omega arith, e)

in_append : (xs ys : List Signal) (s : Signal) → Contains (xs ++ ys) s → (Contains xs s → ⊥) → (Contains ys s → ⊥) → ⊥
in_append [] ys s c h k = k c
in_append (x ∷ xs) ys s (zero, lt, e) h k = h (zero, omega arith, e)
in_append (x ∷ xs) ys s (suc j, lt, e) h k = in_append xs ys s (j, omega arith, e) (λ c. h (in_more s x xs c)) k

Differ-append : (xs ys : List Signal) → Differ xs → Differ ys → ((s : Signal) → Contains xs s → Contains ys s → ⊥) → Differ (xs ++ ys)
Differ-append [] ys d e h = e
Differ-append (x ∷ xs) ys d e h =
    (λ c. in_append xs ys x c d.0 (h x (zero, omega arith, refl)), Differ-append xs ys d.1 e (λ s c k. h s (in_more s x xs c) k))

-- within a list the default doesn't matter
any_default : (ys : List Signal) (k : ℕ) (d e : Signal) → k < length ys → slice_index_or ys k d ≡ slice_index_or ys k e
any_default [] k d e lt = absurd (omega arith)
any_default (y ∷ ys) zero d e lt = refl
any_default (y ∷ ys) (suc k) d e lt = any_default ys k d e (omega arith)

-- a list that differs by place differs
pub Differ-by_place : (xs : List Signal) → ((i k : ℕ) → i < length xs → k < length xs → slice_index_or xs i (Word 0) ≡ slice_index_or xs k (Word 0) → i ≡ k) → Differ xs
Differ-by_place [] h = tt
Differ-by_place (x ∷ xs) h = (first, Differ-by_place xs tail)
  where
    tail : (i k : ℕ) → i < length xs → k < length xs → slice_index_or xs i (Word 0) ≡ slice_index_or xs k (Word 0) → i ≡ k
    tail i k lt lt' e = let same : suc i ≡ suc k = h (suc i) (suc k) (omega arith) (omega arith) e in omega arith

    first : Contains xs x → ⊥
    first (k, lt, e) = let same : 0 ≡ suc k = h 0 (suc k) (omega arith) (omega arith) (sym (any_default xs k (Word 0) x lt ∙ e)) in omega arith

-- a list without the signal at a place
abbrev but : List Signal → ℕ → List Signal
but [] k = []
but (x ∷ xs) zero = xs
but (x ∷ xs) (suc k) = x ∷ but xs k

but-sum : (f : Signal → ℕ) (ys : List Signal) (k : ℕ) (d : Signal) → k < length ys → sum_by f ys ≡ f (slice_index_or ys k d) + sum_by f (but ys k)
but-sum f [] k d lt = absurd (omega arith)
but-sum f (y ∷ ys) zero d lt = sum_by-cons f y ys
but-sum f (y ∷ ys) (suc k) d lt =
    omega (arith, sum_by-cons f y ys, sum_by-cons f y (but ys k), but-sum f ys k d (omega arith))

but-holds : (ys : List Signal) (k : ℕ) (s : Signal) → Contains ys s → (slice_index_or ys k s ≡ s → ⊥) → Contains (but ys k) s
but-holds [] k s c h = c
but-holds (y ∷ ys) zero s (zero, lt, e) h = absurd (h e)
but-holds (y ∷ ys) zero s (suc j, lt, e) h = (j, omega arith, e)
but-holds (y ∷ ys) (suc k) s (zero, lt, e) h = (zero, omega arith, e)
but-holds (y ∷ ys) (suc k) s (suc j, lt, e) h = in_more s y (but ys k) (but-holds ys k s (j, omega arith, e) h)

-- different signals that stand in a list sum up to no more than the list
pub sum-within : (f : Signal → ℕ) (xs ys : List Signal) → Differ xs → All (Contains ys) xs → sum_by f xs ≤ sum_by f ys
sum-within f [] ys d all = omega arith
sum-within f (x ∷ xs) ys d all =
    let rest : sum_by f xs ≤ sum_by f (but ys c.0) = sum-within f xs (but ys c.0) d.1 stay in
    let own : f (slice_index_or ys c.0 x) ≡ f x = ap f c.2 in
    omega (arith, sum_by-cons f x xs, but-sum f ys c.0 x c.1, rest, own)
  where
    c : Contains ys x
    c = All-head (Contains ys) x xs all

    stay : All (Contains (but ys c.0)) xs
    stay k d' lt =
        let s : Signal = get_or xs k d' in
        but-holds ys c.0 s (All-tail (Contains ys) x xs all k d' lt)
        (λ same. d.0 (k, lt, any_default xs k x d' lt ∙ sym same ∙ any_default ys c.0 s x c.1 ∙ c.2))

-- each signal of one list stands in the other, and the other way round: their sums are equal
pub sums-equal : (f : Signal → ℕ) (xs ys : List Signal) → Differ xs → Differ ys → All (Contains ys) xs → All (Contains xs) ys → sum_by f xs ≡ sum_by f ys
sums-equal f xs ys d e there back = omega (arith, sum-within f xs ys d there, sum-within f ys xs e back)

-- a part of a signal is the signal itself
own-part : (L : List Signal) (s : Signal) → Parts L s → Contains L s
own-part L (Word p) h = h
own-part L (Buf a) h = h.0
own-part L (Not a) h = h.0
own-part L (And a b) h = h.0
own-part L (Or a b) h = h.0
own-part L (Xor a b) h = h.0

-- the signals that a pair over a stretch of places needs: all different, of gates six for each two places except the first two
record IsCounted (lo hi : ℕ) (p : Pair) : Type 0 where
  wide : lo < hi
  list : List Signal
  gates : sum_by gate_weight list + 6 + 3 * lo ≡ 3 * hi
  places : length list + 6 + 4 * lo ≡ 4 * hi
  different : Differ list
  between : All (IsBetween lo hi) list
  plain : All (λ s. is_buffer s ≡ false) list
  first : Parts list p.first
  second : Parts list p.second
  sides : p.first ≡ p.second → ⊥
  needed : (M : List Signal) → Parts M p.first → Parts M p.second → All (Contains M) list

by_two : (P : Signal → Type 0) (a b : Signal) → P a → P b → All P (a ∷ (b ∷ []))
by_two P a b x y = All-cons P a (b ∷ []) x (All-cons P b [] y (All-nil P))

-- two places of the word
leaf-counted : (place : ℕ) → IsCounted place (place + 2) (record { first = Word place; second = Word (place + 1) })
leaf-counted place =
    let a : Signal = Word place in
    let b : Signal = Word (place + 1) in
    let apart : Word place ≡ Word (place + 1) → ⊥ = λ e. (let same : place ≡ place + 1 = ap left e in omega arith) in
    record {
      wide = omega arith;
      list = a ∷ (b ∷ []);
      gates = omega (arith, sum_by-cons gate_weight a (b ∷ []), sum_by-cons gate_weight b []);
      places = omega arith;
      different = (not_in_more a b [] apart (not_in_none a), (not_in_none b, tt));
      between = by_two (IsBetween place (place + 2)) a b
          (record { left_from = omega arith; left_to = omega arith; right_from = omega arith; right_to = omega arith })
          (record { left_from = omega arith; left_to = omega arith; right_from = omega arith; right_to = omega arith });
      plain = by_two (λ s. is_buffer s ≡ false) a b refl refl;
      first = (0, omega arith, refl);
      second = (1, omega arith, refl);
      sides = apart;
      needed = λ M x y. by_two (Contains M) a b x y;
    }

-- the six gates of a cell
abbrev cell_list : (a b a' b' : Signal) → List Signal
cell_list a b a' b' = And a b ∷ (And a' b' ∷ (Or (And a b) (And a' b') ∷ (And a b' ∷ (And a' b ∷ (Or (And a b') (And a' b) ∷ [])))))

by_six : (P : Signal → Type 0) (a b c d e f : Signal) → P a → P b → P c → P d → P e → P f → All P (a ∷ (b ∷ (c ∷ (d ∷ (e ∷ (f ∷ []))))))
by_six P a b c d e f p q r s t u =
    All-cons P a (b ∷ (c ∷ (d ∷ (e ∷ (f ∷ []))))) p (All-cons P b (c ∷ (d ∷ (e ∷ (f ∷ [])))) q (All-cons P c (d ∷ (e ∷ (f ∷ []))) r
    (All-cons P d (e ∷ (f ∷ [])) s (by_two P e f t u))))

-- operands of a gate
abbrev one_of : Signal → Signal
one_of (And a b) = a
one_of (Or a b) = a
one_of _ = Word 0

abbrev other_of : Signal → Signal
other_of (And a b) = b
other_of (Or a b) = b
other_of _ = Word 0

cell-differs : (a b a' b' : Signal) → (a ≡ a' → ⊥) → (b ≡ b' → ⊥) → Differ (cell_list a b a' b')
cell-differs a b a' b' h k =
    let x : Signal = And a b in
    let x' : Signal = And a' b' in
    let y : Signal = And a b' in
    let y' : Signal = And a' b in
    let o : Signal = Or x x' in
    let o' : Signal = Or y y' in (
      not_in_more x x' (o ∷ (y ∷ (y' ∷ (o' ∷ [])))) (λ e. h (ap one_of e)) (not_in_more x o (y ∷ (y' ∷ (o' ∷ []))) (apart x o refl)
          (not_in_more x y (y' ∷ (o' ∷ [])) (λ e. k (ap other_of e)) (not_in_more x y' (o' ∷ []) (λ e. h (ap one_of e)) (not_in_more x o' [] (apart x o' refl) (not_in_none x))))),
      (
        not_in_more x' o (y ∷ (y' ∷ (o' ∷ []))) (apart x' o refl)
            (not_in_more x' y (y' ∷ (o' ∷ [])) (λ e. h (sym (ap one_of e))) (not_in_more x' y' (o' ∷ []) (λ e. k (sym (ap other_of e))) (not_in_more x' o' [] (apart x' o' refl) (not_in_none x')))),
        (
          not_in_more o y (y' ∷ (o' ∷ [])) (apart o y refl) (not_in_more o y' (o' ∷ []) (apart o y' refl)
              (not_in_more o o' [] (λ e. k (ap other_of (ap one_of e))) (not_in_none o))),
          (
            not_in_more y y' (o' ∷ []) (λ e. h (ap one_of e)) (not_in_more y o' [] (apart y o' refl) (not_in_none y)),
            (
              not_in_more y' o' [] (apart y' o' refl) (not_in_none y'),
              (not_in_none o', tt),
            ),
          ),
        ),
      ),
    )

-- a signal whose first place stands in one stretch and whose last one in the next
record IsAcross (lo mid hi : ℕ) (s : Signal) : Type 0 where
  left_from : lo ≤ left s
  left_to : left s < mid
  right_from : mid ≤ right s
  right_to : right s < hi

widened : (lo mid lo' hi' : ℕ) (s : Signal) → lo' ≤ lo → mid ≤ hi' → IsBetween lo mid s → IsBetween lo' hi' s
widened lo mid lo' hi' s le le' h =
    let a = h.left_from in
    let b = h.left_to in
    let c = h.right_from in
    let d = h.right_to in
    record { left_from = omega (arith, a); left_to = omega (arith, b); right_from = omega (arith, c); right_to = omega (arith, d) }

of-list : (P : Signal → Type 0) (L : List Signal) (s : Signal) → All P L → Contains L s → P s
of-list P L s all c = subst P c.2 (all c.0 s c.1)

module _ (lo mid hi : ℕ) (a b : Pair) (h : IsCounted lo mid a) (k : IsCounted mid hi b) where
  old : List Signal
  old = h.list ++ k.list

  new : List Signal
  new = cell_list a.first b.first a.second b.second

  all : List Signal
  all = old ++ new

  side_a : (s : Signal) → Parts h.list s → IsBetween lo mid s
  side_a s p = of-list (IsBetween lo mid) h.list s h.between (own-part h.list s p)

  side_b : (s : Signal) → Parts k.list s → IsBetween mid hi s
  side_b s p = of-list (IsBetween mid hi) k.list s k.between (own-part k.list s p)

  across : (s t g : Signal) → IsBetween lo mid s → IsBetween mid hi t → left g ≡ left s → right g ≡ right t → IsAcross lo mid hi g
  across s t g x y e f =
      let p = x.left_from in
      let q = x.left_to in
      let r = y.right_from in
      let u = y.right_to in
      record { left_from = omega (arith, p, e); left_to = omega (arith, q, e); right_from = omega (arith, r, f); right_to = omega (arith, u, f) }

  new-across : All (IsAcross lo mid hi) new
  unfolding new
  new-across =
      let f = side_a a.first h.first in
      let s = side_a a.second h.second in
      let f' = side_b b.first k.first in
      let s' = side_b b.second k.second in
      by_six (IsAcross lo mid hi) (And a.first b.first) (And a.second b.second) (Or (And a.first b.first) (And a.second b.second)) (And a.first b.second) (And a.second b.first) (Or (And a.first b.second) (And a.second b.first))
      (across a.first b.first (And a.first b.first) f f' refl refl)
      (across a.second b.second (And a.second b.second) s s' refl refl)
      (across a.first b.second (Or (And a.first b.first) (And a.second b.second)) f s' refl refl)
      (across a.first b.second (And a.first b.second) f s' refl refl)
      (across a.second b.first (And a.second b.first) s f' refl refl)
      (across a.first b.first (Or (And a.first b.second) (And a.second b.first)) f f' refl refl)

  all-different : Differ all
  unfolding all old new
  all-different =
      Differ-append (h.list ++ k.list) (cell_list a.first b.first a.second b.second)
      (Differ-append h.list k.list h.different k.different (λ s c d.
      (let x = of-list (IsBetween lo mid) h.list s h.between c in
      let y = of-list (IsBetween mid hi) k.list s k.between d in
      let p = x.left_to in
      let q = y.left_from in omega (arith, p, q))))
      (cell-differs a.first b.first a.second b.second h.sides k.sides)
      (λ s c d.
      (let z = of-list (IsAcross lo mid hi) (cell_list a.first b.first a.second b.second) s new-across d in
      in_append h.list k.list s c
      (λ e. (let x = of-list (IsBetween lo mid) h.list s h.between e in
      let p = x.right_to in
      let q = z.right_from in omega (arith, p, q)))
      (λ e. (let y = of-list (IsBetween mid hi) k.list s k.between e in
      let p = y.left_from in
      let q = z.left_to in omega (arith, p, q)))))

  all-between : All (IsBetween lo hi) all
  unfolding all old
  all-between =
      let w = h.wide in
      let w' = k.wide in
      All-append (IsBetween lo hi) (h.list ++ k.list) new
      (All-append (IsBetween lo hi) h.list k.list
      (λ i d lt. widened lo mid lo hi (get_or h.list i d) (omega arith) (omega arith) (h.between i d lt))
      (λ i d lt. widened mid hi lo hi (get_or k.list i d) (omega arith) (omega arith) (k.between i d lt)))
      (λ i d lt. wide (get_or new i d) (new-across i d lt))
    where
      wide : (s : Signal) → IsAcross lo mid hi s → IsBetween lo hi s
      wide s x =
          let p = x.left_from in
          let q = x.left_to in
          let r = x.right_from in
          let u = x.right_to in
          let w = h.wide in
          let w' = k.wide in
          record { left_from = omega (arith, p); left_to = omega (arith, q, w'); right_from = omega (arith, r, w); right_to = omega (arith, u) }

  all-plain : All (λ s. is_buffer s ≡ false) all
  unfolding all old new
  all-plain =
      All-append (λ s. is_buffer s ≡ false) (h.list ++ k.list) new (All-append (λ s. is_buffer s ≡ false) h.list k.list h.plain k.plain)
      (by_six (λ s. is_buffer s ≡ false) (And a.first b.first) (And a.second b.second) (Or (And a.first b.first) (And a.second b.second)) (And a.first b.second) (And a.second b.first) (Or (And a.first b.second) (And a.second b.first)) refl refl refl refl refl refl)

  from_a : (s : Signal) → Parts h.list s → Parts all s
  unfolding all old
  from_a s p = longer (h.list ++ k.list) new s (longer h.list k.list s p)

  from_b : (s : Signal) → Parts k.list s → Parts all s
  unfolding all old
  from_b s p = longer (h.list ++ k.list) new s (later k.list s p)
    where
      in_later : (L : List Signal) (s : Signal) → Contains L s → Contains (h.list ++ L) s
      in_later L s c = Contains-append_right h.list L s c

      later : (L : List Signal) (s : Signal) → Parts L s → Parts (h.list ++ L) s
      later L (Word p) x = in_later L (Word p) x
      later L (Buf a) x = (in_later L (Buf a) x.0, later L a x.1)
      later L (Not a) x = (in_later L (Not a) x.0, later L a x.1)
      later L (And a b) x = (in_later L (And a b) x.0, later L a x.1, later L b x.2)
      later L (Or a b) x = (in_later L (Or a b) x.0, later L a x.1, later L b x.2)
      later L (Xor a b) x = (in_later L (Xor a b) x.0, later L a x.1, later L b x.2)

  at : (i : ℕ) (s : Signal) → i < 6 → slice_index_or new i s ≡ s → Contains all s
  unfolding all new
  at i s lt e = Contains-append_right old (cell_list a.first b.first a.second b.second) s (i, lt, e)

  cell-counted : IsCounted lo hi (cell a b)
  unfolding all old new
  cell-counted =
      let w = h.wide in
      let w' = k.wide in
      let n = h.gates in
      let n' = k.gates in
      let m = h.places in
      let m' = k.places in
      record {
        wide = omega (arith, w, w');
        list = (h.list ++ k.list) ++ cell_list a.first b.first a.second b.second;
        gates = omega (arith, n, n', sum_by-append gate_weight (h.list ++ k.list) (cell_list a.first b.first a.second b.second), sum_by-append gate_weight h.list k.list, six);
        places = omega (arith, m, m', length-append (h.list ++ k.list) (cell_list a.first b.first a.second b.second), length-append h.list k.list);
        different = all-different;
        between = all-between;
        plain = all-plain;
        first = (
          at 2 (Or (And a.first b.first) (And a.second b.second)) (omega arith) refl,
          (at 0 (And a.first b.first) (omega arith) refl, from_a a.first h.first, from_b b.first k.first),
          (at 1 (And a.second b.second) (omega arith) refl, from_a a.second h.second, from_b b.second k.second),
        );
        second = (
          at 5 (Or (And a.first b.second) (And a.second b.first)) (omega arith) refl,
          (at 3 (And a.first b.second) (omega arith) refl, from_a a.first h.first, from_b b.second k.second),
          (at 4 (And a.second b.first) (omega arith) refl, from_a a.second h.second, from_b b.first k.first),
        );
        sides = λ e. k.sides (ap other_of (ap one_of e));
        needed = λ M x y.
            All-append (Contains M) (h.list ++ k.list) (cell_list a.first b.first a.second b.second)
            (All-append (Contains M) h.list k.list (h.needed M x.1.1 x.2.1) (k.needed M x.1.2 x.2.2))
            (by_six (Contains M) (And a.first b.first) (And a.second b.second) (Or (And a.first b.first) (And a.second b.second)) (And a.first b.second) (And a.second b.first) (Or (And a.first b.second) (And a.second b.first))
            x.1.0 x.2.0 x.0 y.1.0 y.2.0 y.0);
      }
    where
      six : sum_by gate_weight (cell_list a.first b.first a.second b.second) ≡ 6
      six = refl

-- pairs that stand side by side over a stretch of places
abbrev AllCounted : ℕ → ℕ → List Pair → Type 0
AllCounted lo hi [] = lo ≡ hi
AllCounted lo hi (p ∷ pairs) = (mid : ℕ) × IsCounted lo mid p × AllCounted mid hi pairs

pairs-counted : (place count : ℕ) → AllCounted place (place + 2 * count) (word_pairs place count)
pairs-counted place zero = omega arith
pairs-counted place (suc count) =
    let e : place + 2 + 2 * count ≡ place + 2 * suc count = omega arith in
    (place + 2, leaf-counted place, subst (λ (hi : ℕ). AllCounted (place + 2) hi (word_pairs (place + 2) count)) e (pairs-counted (place + 2) count))

level-counted : (lo hi : ℕ) (pairs : List Pair) → AllCounted lo hi pairs → AllCounted lo hi (level pairs)
level-counted lo hi [] all = all
level-counted lo hi (a ∷ []) all = all
level-counted lo hi (a ∷ (b ∷ pairs)) all =
    let rest = all.2 in
    (rest.0, cell-counted lo all.0 rest.0 a b all.1 rest.1, level-counted rest.0 hi pairs rest.2)

levels-counted : (count lo hi : ℕ) (pairs : List Pair) → AllCounted lo hi pairs → AllCounted lo hi (levels count pairs)
levels-counted zero lo hi pairs all = all
levels-counted (suc count) lo hi pairs all = levels-counted count lo hi (level pairs) (level-counted lo hi pairs all)

one-counted : (lo hi : ℕ) (pairs : List Pair) → 0 < length pairs → length pairs ≤ 1 → AllCounted lo hi pairs → IsCounted lo hi (head_pair pairs)
one-counted lo hi [] some one all = absurd (omega arith)
one-counted lo hi (a ∷ []) some one all = subst (λ (n : ℕ). IsCounted lo n a) all.2 all.1
one-counted lo hi (a ∷ (b ∷ pairs)) some one all = absurd (omega arith)

-- the pairs of a word are as many as their count says
pub length-word_pairs : (place count : ℕ) → length (word_pairs place count) ≡ count
length-word_pairs place zero = refl
length-word_pairs place (suc count) = ap suc (length-word_pairs (place + 2) count)

-- the tree over the pairs of a word
tree-counted : (pairs : ℕ) → 0 < pairs → IsCounted 0 (2 * pairs) (tree (word_pairs 0 pairs))
tree-counted pairs some =
    let P : List Pair = word_pairs 0 pairs in
    let sized : length P ≡ pairs = length-word_pairs 0 pairs in
    let none : 0 + 2 * pairs ≡ 2 * pairs = omega arith in
    one-counted 0 (2 * pairs) (levels (length P) P) (levels_some (length P) P (omega arith)) (levels_one (length P) P (omega arith))
    (levels-counted (length P) 0 (2 * pairs) P (subst (λ (hi : ℕ). AllCounted 0 hi (word_pairs 0 pairs)) none (pairs-counted 0 pairs)))

-- what was walked stands there still, and each part of the signal with it
with_signal-keeps : (signals : List Signal) (s t : Signal) → Contains signals t → Contains (with_signal signals s) t
with_signal-keeps signals s t c = elim (cases_Bool (list_any (same_signal s) signals)) [
  | inl e ↦ subst (λ (L : List Signal). Contains L t) (sym (ap (λ (b : Bool). if b then signals else signals ++ s ∷ []) e)) c
  | inr e ↦ subst (λ (L : List Signal). Contains L t) (sym (ap (λ (b : Bool). if b then signals else signals ++ s ∷ []) e)) (Contains-append_left signals (s ∷ []) t c)
]

found : (signals : List Signal) (s : Signal) → list_any (same_signal s) signals ≡ true → Contains signals s
found [] s h = absurd (false≢true h)
found (t ∷ signals) s h = elim (cases_Bool (same_signal s t)) [
  | inl e ↦ (0, omega arith, sym (same_signal-true s t e))
  | inr e ↦ in_more s t signals (found signals s (sym (ap (λ b. b || list_any (same_signal s) signals) e) ∙ h))
]

with_signal-has : (signals : List Signal) (s : Signal) → Contains (with_signal signals s) s
with_signal-has signals s = elim (cases_Bool (list_any (same_signal s) signals)) [
  | inl e ↦ subst (λ (L : List Signal). Contains L s) (sym (ap (λ (b : Bool). if b then signals else signals ++ s ∷ []) e)) (found signals s e)
  | inr e ↦ subst (λ (L : List Signal). Contains L s) (sym (ap (λ (b : Bool). if b then signals else signals ++ s ∷ []) e)) (Contains-append_right signals (s ∷ []) s (0, omega arith, refl))
]

walk-keeps : (s t : Signal) (signals : List Signal) → Contains signals t → Contains (walk s signals) t
walk-keeps (Word p) t signals c = with_signal-keeps signals (Word p) t c
walk-keeps (Buf a) t signals c = with_signal-keeps (walk a signals) (Buf a) t (walk-keeps a t signals c)
walk-keeps (Not a) t signals c = with_signal-keeps (walk a signals) (Not a) t (walk-keeps a t signals c)
walk-keeps (And a b) t signals c = with_signal-keeps (walk b (walk a signals)) (And a b) t (walk-keeps b t (walk a signals) (walk-keeps a t signals c))
walk-keeps (Or a b) t signals c = with_signal-keeps (walk b (walk a signals)) (Or a b) t (walk-keeps b t (walk a signals) (walk-keeps a t signals c))
walk-keeps (Xor a b) t signals c = with_signal-keeps (walk b (walk a signals)) (Xor a b) t (walk-keeps b t (walk a signals) (walk-keeps a t signals c))

moved : (L M : List Signal) (s : Signal) → ((t : Signal) → Contains L t → Contains M t) → Parts L s → Parts M s
moved L M (Word p) h x = h (Word p) x
moved L M (Buf a) h x = (h (Buf a) x.0, moved L M a h x.1)
moved L M (Not a) h x = (h (Not a) x.0, moved L M a h x.1)
moved L M (And a b) h x = (h (And a b) x.0, moved L M a h x.1, moved L M b h x.2)
moved L M (Or a b) h x = (h (Or a b) x.0, moved L M a h x.1, moved L M b h x.2)
moved L M (Xor a b) h x = (h (Xor a b) x.0, moved L M a h x.1, moved L M b h x.2)

-- a walk over two operands and then their gate
both-walked : (a b g : Signal) (signals : List Signal) → Parts (walk a signals) a → Parts (walk b (walk a signals)) b
    → let all : List Signal = with_signal (walk b (walk a signals)) g in Contains all g × Parts all a × Parts all b
both-walked a b g signals x y =
    let one : List Signal = walk a signals in
    let two : List Signal = walk b one in
    let all : List Signal = with_signal two g in (
      with_signal-has two g,
      moved one all a (λ t c. with_signal-keeps two g t (walk-keeps b t one c)) x,
      moved two all b (λ t c. with_signal-keeps two g t c) y,
    )

walk-parts : (s : Signal) (signals : List Signal) → Parts (walk s signals) s
walk-parts (Word p) signals = with_signal-has signals (Word p)
walk-parts (Buf a) signals =
    let one : List Signal = walk a signals in
    (with_signal-has one (Buf a), moved one (with_signal one (Buf a)) a (λ t c. with_signal-keeps one (Buf a) t c) (walk-parts a signals))
walk-parts (Not a) signals =
    let one : List Signal = walk a signals in
    (with_signal-has one (Not a), moved one (with_signal one (Not a)) a (λ t c. with_signal-keeps one (Not a) t c) (walk-parts a signals))
walk-parts (And a b) signals = both-walked a b (And a b) signals (walk-parts a signals) (walk-parts b (walk a signals))
walk-parts (Or a b) signals = both-walked a b (Or a b) signals (walk-parts a signals) (walk-parts b (walk a signals))
walk-parts (Xor a b) signals = both-walked a b (Xor a b) signals (walk-parts a signals) (walk-parts b (walk a signals))

-- the nodes of gates are their signals that aren't places of the word
nodes-from : (nets : List ℕ) (signals : List Signal) (gates : List CheckGate) → sum_by gate_weight (signals_from signals gates) ≡ sum_by gate_weight signals + length (gate_nodes nets gates)
nodes-from nets signals [] = omega arith
nodes-from nets signals (g ∷ gates) =
    let s : Signal = signal_of signals g in
    let rest = nodes-from nets (signals ++ s ∷ []) gates in
    omega (arith, rest, sum_by-append gate_weight signals (s ∷ []), own signals g, length-append (gate_node nets g) (gate_nodes nets gates))
  where
    own : (ss : List Signal) (g : CheckGate) → sum_by gate_weight (signal_of ss g ∷ []) ≡ length (gate_node nets g)
    own ss (gate.Word p) = refl
    own ss (gate.Buf a) = refl
    own ss (gate.Not a) = refl
    own ss (gate.And a b) = refl
    own ss (gate.Or a b) = refl
    own ss (gate.Xor a b) = refl

ones : (xs : List Signal) → sum_by (λ s. 1) xs ≡ length xs
ones [] = refl
ones (x ∷ xs) = omega (arith, sum_by-cons (λ (s : Signal). 1) x xs, ones xs)

-- the tree over the pairs of a word, its gates and their signals
module _ (pairs : ℕ) (made : GateList) (some : 0 < pairs) (is : IsTreeOf pairs made) where
  last : Pair
  last = tree (word_pairs 0 pairs)

  counted : IsCounted 0 (2 * pairs) (tree (word_pairs 0 pairs))
  counted = tree-counted pairs some

  rails : List Signal
  rails = Buf (tree (word_pairs 0 pairs)).first ∷ (Buf (tree (word_pairs 0 pairs)).second ∷ [])

  -- all signals: those of the tree's pair, and the two rails
  list : List Signal
  list = counted.list ++ rails

  list-differs : Differ list
  unfolding list rails
  list-differs =
      let f : Signal = Buf (tree (word_pairs 0 pairs)).first in
      let s : Signal = Buf (tree (word_pairs 0 pairs)).second in
      Differ-append counted.list (f ∷ (s ∷ [])) counted.different
      (not_in_more f s [] (λ e. counted.sides (ap under e)) (not_in_none f), (not_in_none s, tt))
      (λ t c d. false≢true (sym (of-list (λ x. is_buffer x ≡ false) counted.list t counted.plain c)
      ∙ of-list (λ x. is_buffer x ≡ true) (f ∷ (s ∷ [])) t (by_two (λ x. is_buffer x ≡ true) f s refl refl) d))
    where
      under : Signal → Signal
      under (Buf a) = a
      under _ = Word 0

  walked : List Signal
  walked = walk (tree_rail2 pairs) (walk (tree_rail1 pairs) [])

  list-first : Parts list (tree_rail1 pairs)
  unfolding list rails
  list-first = (
    Contains-append_right counted.list rails (tree_rail1 pairs) (0, omega arith, refl),
    longer counted.list rails (tree (word_pairs 0 pairs)).first counted.first,
  )

  list-second : Parts list (tree_rail2 pairs)
  unfolding list rails
  list-second = (
    Contains-append_right counted.list rails (tree_rail2 pairs) (1, omega arith, refl),
    longer counted.list rails (tree (word_pairs 0 pairs)).second counted.second,
  )

  walked-listed : All (Contains list) walked
  unfolding walked
  walked-listed = walk-stays list (tree_rail2 pairs) (walk (tree_rail1 pairs) []) list-second (walk-stays list (tree_rail1 pairs) [] list-first (All-nil (Contains list)))

  listed-walked : All (Contains walked) list
  unfolding walked list rails
  listed-walked =
      let one : List Signal = walk (tree_rail1 pairs) [] in
      let two : List Signal = walk (tree_rail2 pairs) one in
      let first : Parts two (tree_rail1 pairs) = moved one two (tree_rail1 pairs) (λ t c. walk-keeps (tree_rail2 pairs) t one c) (walk-parts (tree_rail1 pairs) []) in
      let second : Parts two (tree_rail2 pairs) = walk-parts (tree_rail2 pairs) one in
      All-append (Contains two) counted.list rails (counted.needed two first.1 second.1) (by_two (Contains two) (tree_rail1 pairs) (tree_rail2 pairs) first.0 second.0)

  signals-differ : Differ (signals_of made.gates)
  signals-differ =
      let sized : length (signals_of made.gates) ≡ length made.gates = length-signals_of made.gates in
      Differ-by_place (signals_of made.gates) (λ i k lt lt' e. is.distinct i k (omega (arith, lt, sized)) (omega (arith, lt', sized)) e)

  signals-sum : (f : Signal → ℕ) → sum_by f (signals_of made.gates) ≡ sum_by f list
  unfolding walked
  signals-sum f =
      sums-equal f (signals_of made.gates) list signals-differ list-differs
      (subst (All (Contains list)) (sym is.signals) walked-listed)
      (λ k d lt. subst (λ (L : List Signal). Contains L (get_or list k d)) (sym is.signals) (listed-walked k d lt))

  -- its nodes
  pub tree-nodes : HasNodes (tree_gates pairs) made
  unfolding list rails
  tree-nodes nets =
      let n = counted.gates in
      omega (arith, nodes-from nets [] made.gates, signals-sum gate_weight, sum_by-append gate_weight counted.list rails, n, two)
    where
      two : sum_by gate_weight rails ≡ 2
      two = refl

  -- its gates, the places of the word among them
  pub tree-length : length made.gates ≡ 2 * pairs + tree_gates pairs
  unfolding list rails
  tree-length =
      let n = counted.places in
      omega (arith, length-signals_of made.gates, ones (signals_of made.gates), signals-sum (λ s. 1), ones (counted.list ++ rails), length-append counted.list rails, n)

  -- it reads only places of the pairs
  pub tree-reads : ReadsPairs pairs made
  unfolding list rails walked
  tree-reads place word lt is_word =
      let sized : length (signals_of made.gates) ≡ length made.gates = length-signals_of made.gates in
      let means : slice_index_or (signals_of made.gates) place (Word 0) ≡ Word word = meaning_is made.gates place is.ordered lt ∙ ap (λ g. signal_of (signals_of made.gates) g) is_word in
      let listed : Contains list (slice_index_or (signals_of made.gates) place (Word 0)) = subst (All (Contains list)) (sym is.signals) walked-listed place (Word 0) (omega arith) in
      in_pairs (subst (Contains list) means listed)
    where
      in_pairs : Contains list (Word word) → word < 2 * pairs
      in_pairs c = elim (cases_lt word (2 * pairs)) [
        | inl low ↦ low
        | inr high ↦ absurd (in_append counted.list rails (Word word) c
            (λ d. (let b = of-list (IsBetween 0 (2 * pairs)) counted.list (Word word) counted.between d in let t = b.left_to in omega (arith, t)))
            (λ d. false≢true (of-list (λ x. is_buffer x ≡ true) rails (Word word) (by_two (λ x. is_buffer x ≡ true) (tree_rail1 pairs) (tree_rail2 pairs) refl refl) d)))
      ]
