-- What is alive, moved to the front of entries and pool.
use Rattle.std.proofs.Common.{◌≡◌, ℕ, ◌+◌, ◌-◌, ◌<◌, ◌≤◌, Bool, true, false, List, [], ◌∷◌, ◌++◌, length, take, drop, if◌then◌else◌, slice_index_or, slice_set, refl, sym, ap, ◌∙◌, subst, arith, length-drop}
use Rattle.std.specs.List.{copy_within}
use Rattle.std.proofs.lemmas.List.{length-set, length-take-le, take_all, take_more, take_more_set, drop-drop, drop-set-lt, get_or-drop}
use Rattle.std.proofs.lemmas.List.Edits.{length-paste, take-paste, drop-paste}
use lib.Seq.{paste}
use Rattle.refutations.specs.declared.literal.Literal.{Literal}
use Rattle.refutations.specs.declared.clauses.Entry.{Entry}
use Rattle.refutations.specs.Steps.{Numbered}
use Rattle.refutations.specs.Store.{literals_of, numbered, clauses_in, no_entry, entry, AreHeld, IsHeld}
use Rattle.refutations.proofs.StoreLemmas.{added, clauses_in-push, clauses_in-added, held_push, same_default}

-- of the entries and the pool that were, those alive before the place stand at the front: so many entries, and their literals up to the end;
-- the entries from the place on and their literals are as they were
pub record IsGathered (E : List Entry) (P : List Literal) (place kept end : ℕ) (es : List Entry) (pool : List Literal) : Type 0 where
  pub last : ℕ
  pub held : IsHeld last (take kept es) (take end pool)
  pub same : clauses_in (take end pool) (take kept es) ≡ clauses_in P (take place E)
  pub before : (k : ℕ) → place ≤ k → k < length E → last < (entry E k).number
  pub below : (l : ℕ) → IsHeld l E P → last ≤ l
  pub origin : AreHeld E P
  pub sized : length es ≡ length E
  pub pooled : length pool ≡ length P
  pub few : kept ≤ place
  pub within : end ≤ length P
  pub ends : (k : ℕ) → place ≤ k → k < length E → end ≤ (entry E k).start
  pub rest : drop place es ≡ drop place E
  pub left : (k : ℕ) → place ≤ k → k < length E → drop (entry E k).start pool ≡ drop (entry E k).start P

-- nothing is gathered yet
pub gathered_none : (E : List Entry) (P : List Literal) → AreHeld E P → IsGathered E P 0 0 0 E P
gathered_none E P held = record {
  last = 0;
  held = record {
    rising = λ j k before below. absurd (omega arith);
    above = λ k below. absurd (omega arith);
    below = λ k below. absurd (omega arith);
    inside = λ k below. absurd (omega arith);
    ordered = λ j k before below. absurd (omega arith);
  };
  same = refl;
  before = λ k from below. held.1.above k below;
  below = λ l h. omega arith;
  origin = held;
  sized = refl;
  pooled = refl;
  few = omega arith;
  within = omega arith;
  ends = λ k from below. omega arith;
  rest = refl;
  left = λ k from below. refl;
}

-- an entry that isn't alive is no clause
clauses_in-dead : (pool : List Literal) (es : List Entry) (e : Entry) → e.alive ≡ false → clauses_in pool (es ++ e ∷ []) ≡ clauses_in pool es
clauses_in-dead pool [] e dead = last e.alive dead
  where
    last : (alive : Bool) → alive ≡ false → (if alive then (numbered pool e ∷ []) else []) ≡ []
    last true is = absurd (cc)
    last false is = refl
clauses_in-dead pool (f ∷ es) e dead = one f.alive (clauses_in-dead pool es e dead)
  where
    one : (here : Bool) → clauses_in pool (es ++ e ∷ []) ≡ clauses_in pool es →
        (if here then (numbered pool f ∷ clauses_in pool (es ++ e ∷ [])) else clauses_in pool (es ++ e ∷ []))
        ≡ (if here then (numbered pool f ∷ clauses_in pool es) else clauses_in pool es)
    one true rest = ap (λ (cs : List Numbered). numbered pool f ∷ cs) rest
    one false rest = rest

-- what is the same from a place on, is so from a later one
drop_later : {X : Type 0} (n k : ℕ) (xs ys : List X) → n ≤ k → drop n xs ≡ drop n ys → drop k xs ≡ drop k ys
drop_later {X} n k xs ys before same =
    let is : n + (k - n) ≡ k = omega arith in
    subst (λ (m : ℕ). drop m xs ≡ drop m ys) is (sym (drop-drop (k - n) n xs) ∙ ap (drop (k - n)) same ∙ drop-drop (k - n) n ys)

-- the entry once its literals are moved
abbrev pub moved : ℕ → Entry → Entry
moved end e = record { number = e.number; alive = true; start = end; count = e.count }

module _ (E : List Entry) (P : List Literal) (place kept end : ℕ) (es : List Entry) (pool : List Literal) (so : IsGathered E P place kept end es pool) where
  -- the entry at the place is that which was there
  pub gathered_entry : (e : Entry) → place < length E → e ≡ slice_index_or es place e → e ≡ entry E place
  gathered_entry e inside read =
      let sized = so.sized in let here : place + 0 ≡ place = omega arith in
      read ∙ same_default es place e no_entry (omega arith)
      ∙ ap (λ (n : ℕ). entry es n) (sym here) ∙ sym (get_or-drop place es 0 no_entry) ∙ ap (λ (xs : List Entry). entry xs 0) so.rest ∙ get_or-drop place E 0 no_entry
      ∙ ap (λ (n : ℕ). entry E n) here

  pub gathered_dead : place < length E → (entry E place).alive ≡ false → IsGathered E P (place + 1) kept end es pool
  gathered_dead inside dead = record {
    last = so.last;
    held = so.held;
    same = so.same ∙ sym (ap (clauses_in P) (take_more E place no_entry inside) ∙ clauses_in-dead P (take place E) (entry E place) dead);
    before = λ k from below. so.before k (omega arith) below;
    below = so.below;
    origin = so.origin;
    sized = so.sized;
    pooled = so.pooled;
    few = let few = so.few in omega arith;
    within = so.within;
    ends = λ k from below. so.ends k (omega arith) below;
    rest = sym (drop-drop 1 place es) ∙ ap (drop 1) so.rest ∙ drop-drop 1 place E;
    left = λ k from below. so.left k (omega arith) below;
  }

  -- the same, by other names
  pub gathered_past : (e : Entry) (kept' end' : ℕ) (es' : List Entry) (pool' : List Literal) → place < length E → e ≡ entry E place → e.alive ≡ false →
      kept' ≡ kept → end' ≡ end → es' ≡ es → pool' ≡ pool → IsGathered E P (place + 1) kept' end' es' pool'
  gathered_past e kept' end' es' pool' inside is dead b c d x =
      subst (λ (n : ℕ). IsGathered E P (place + 1) n end' es' pool') (sym b)
      (subst (λ (n : ℕ). IsGathered E P (place + 1) kept n es' pool') (sym c)
      (subst (λ (xs : List Entry). IsGathered E P (place + 1) kept end xs pool') (sym d)
      (subst (λ (ls : List Literal). IsGathered E P (place + 1) kept end es ls) (sym x) (gathered_dead inside (subst (λ (g : Entry). g.alive ≡ false) is dead)))))

-- one that is alive is moved, with its literals
module _ (E : List Entry) (P : List Literal) (place kept end : ℕ) (es : List Entry) (pool : List Literal) (so : IsGathered E P place kept end es pool)
    (f : Entry) (inside : place < length E) (is : f ≡ entry E place) (alive : f.alive ≡ true) where
  stored : f.start + f.count ≤ length P
  stored = subst (λ (g : Entry). g.start + g.count ≤ length P) (sym is) (so.origin.1.inside place inside)

  many : f.count ≤ length (drop f.start P)
  many = let stored = stored in omega (arith, length-drop f.start P)

  starts : end ≤ f.start
  starts = subst (λ (g : Entry). end ≤ g.start) (sym is) (so.ends place (omega arith) inside)

  later : (k : ℕ) → place + 1 ≤ k → k < length E → f.start + f.count ≤ (entry E k).start
  later k from below = subst (λ (g : Entry). g.start + g.count ≤ (entry E k).start) (sym is) (so.origin.1.ordered place k (omega arith) below)

  -- the pool with the literals moved down
  pool_is : copy_within pool f.start (f.start + f.count) end ≡ paste pool end (drop f.start P) f.count
  pool_is =
      let count : f.start + f.count - f.start ≡ f.count = omega arith in
      let left : drop f.start pool ≡ drop f.start P = subst (λ (g : Entry). drop g.start pool ≡ drop g.start P) (sym is) (so.left place (omega arith) inside) in
      ap (λ (n : ℕ). paste pool end (drop f.start pool) n) count ∙ ap (λ (ls : List Literal). paste pool end ls f.count) left

  room : end + f.count ≤ length pool
  room = let stored = stored in let starts = starts in let pooled = so.pooled in omega arith

  front : take (end + f.count) (paste pool end (drop f.start P) f.count) ≡ take end pool ++ literals_of P f
  front = let room = room in take-paste pool end (drop f.start P) f.count (omega arith) many

  placed : moved end f ≡ added f.number (take end pool) (literals_of P f)
  placed =
      let room = room in
      let start : length (take end pool) ≡ end = length-take-le end pool (omega arith) in
      let count : length (literals_of P f) ≡ f.count = length-take-le f.count (drop f.start P) many in
      ap (λ (n : ℕ). moved n f) (sym start) ∙ ap (λ (n : ℕ). record { number = f.number; alive = true; start = length (take end pool); count = n }) (sym count)

  entries_front : take (kept + 1) (slice_set es kept (moved end f)) ≡ take kept es ++ added f.number (take end pool) (literals_of P f) ∷ []
  entries_front =
      let sized = so.sized in let few = so.few in
      take_more_set es kept (moved end f) (omega arith) ∙ ap (λ (g : Entry). take kept es ++ g ∷ []) placed

  above : so.last < f.number
  above = subst (λ (g : Entry). so.last < g.number) (sym is) (so.before place (omega arith) inside)

  held_front : IsHeld f.number (take kept es ++ added f.number (take end pool) (literals_of P f) ∷ []) (take end pool ++ literals_of P f)
  held_front = held_push so.last (take kept es) (take end pool) f.number (literals_of P f) so.held above

  more : clauses_in P (take (place + 1) E) ≡ clauses_in P (take place E) ++ numbered P f ∷ []
  more =
      ap (clauses_in P) (take_more E place no_entry inside ∙ ap (λ (g : Entry). take place E ++ g ∷ []) (sym is)) ∙ clauses_in-push P (take place E) f alive

  same_front : clauses_in (take end pool ++ literals_of P f) (take kept es ++ added f.number (take end pool) (literals_of P f) ∷ []) ≡ clauses_in P (take (place + 1) E)
  same_front =
      clauses_in-added so.last (take kept es) (take end pool) f.number (literals_of P f) so.held
      ∙ ap (λ (cs : List Numbered). cs ++ numbered P f ∷ []) so.same ∙ sym more

  pub gathered_pasted : IsGathered E P (place + 1) (kept + 1) (end + f.count) (slice_set es kept (moved end f)) (paste pool end (drop f.start P) f.count)
  gathered_pasted =
      let room = room in let starts = starts in let few = so.few in let sized = so.sized in let pooled = so.pooled in record {
        last = f.number;
        held = subst (λ (ls : List Literal). IsHeld f.number (take (kept + 1) (slice_set es kept (moved end f))) ls) (sym front)
            (subst (λ (xs : List Entry). IsHeld f.number xs (take end pool ++ literals_of P f)) (sym entries_front) held_front);
        same = ap (λ (ls : List Literal). clauses_in ls (take (kept + 1) (slice_set es kept (moved end f)))) front
            ∙ ap (clauses_in (take end pool ++ literals_of P f)) entries_front ∙ same_front;
        before = λ k from below. subst (λ (g : Entry). g.number < (entry E k).number) (sym is) (so.origin.1.rising place k (omega arith) below);
        below = λ l h. subst (λ (g : Entry). g.number ≤ l) (sym is) (h.below place inside);
        origin = so.origin;
        sized = length-set es kept (moved end f) ∙ so.sized;
        pooled = length-paste pool end (drop f.start P) f.count room many ∙ so.pooled;
        few = omega arith;
        within = omega arith;
        ends = λ k from below. let h = later k from below in omega arith;
        rest = drop-set-lt (place + 1) es kept (moved end f) (omega arith) ∙ drop_later place (place + 1) es E (omega arith) so.rest;
        left = λ k from below. let h = later k from below in
            drop_later (end + f.count) (entry E k).start (paste pool end (drop f.start P) f.count) pool (omega arith) (drop-paste pool end (drop f.start P) f.count (omega arith) many)
            ∙ so.left k (omega arith) below;
      }

  pub gathered_alive : IsGathered E P (place + 1) (kept + 1) (end + f.count) (slice_set es kept (moved end f)) (copy_within pool f.start (f.start + f.count) end)
  gathered_alive = subst (λ (ls : List Literal). IsGathered E P (place + 1) (kept + 1) (end + f.count) (slice_set es kept (moved end f)) ls) (sym pool_is) gathered_pasted

  -- the same, by other names
  pub gathered_more : (kept' end' : ℕ) (es' : List Entry) (pool' : List Literal) → kept' ≡ kept + 1 → end' ≡ end + f.count →
      es' ≡ slice_set es kept (moved end f) → pool' ≡ copy_within pool f.start (f.start + f.count) end → IsGathered E P (place + 1) kept' end' es' pool'
  gathered_more kept' end' es' pool' b c d e =
      subst (λ (n : ℕ). IsGathered E P (place + 1) n end' es' pool') (sym b)
      (subst (λ (n : ℕ). IsGathered E P (place + 1) (kept + 1) n es' pool') (sym c)
      (subst (λ (xs : List Entry). IsGathered E P (place + 1) (kept + 1) (end + f.count) xs pool') (sym d)
      (subst (λ (ls : List Literal). IsGathered E P (place + 1) (kept + 1) (end + f.count) (slice_set es kept (moved end f)) ls) (sym e) gathered_alive)))

  -- what the move needs
  pub gathered_room : (f.start + f.count ≤ length pool) × (end + f.count ≤ length pool) × (kept < length es)
  gathered_room = let stored = stored in let room = room in let few = so.few in let sized = so.sized in let pooled = so.pooled in (omega arith, omega arith, omega arith)

-- once all is gathered, what stands at the front is held and says the same
module _ (E : List Entry) (P : List Literal) (place kept end : ℕ) (es : List Entry) (pool : List Literal) (so : IsGathered E P place kept end es pool) (done : length E ≤ place) where
  front_held : (last : ℕ) → IsHeld last E P → IsHeld last (take kept es) (take end pool)
  front_held last old = record {
    rising = so.held.rising;
    above = so.held.above;
    below = λ k below. let h = so.held.below k below in let b = so.below last old in omega arith;
    inside = so.held.inside;
    ordered = so.held.ordered;
  }

  pub gathered_held : (last : ℕ) (es' : List Entry) (pool' : List Literal) → es' ≡ take kept es → pool' ≡ take end pool → IsHeld last E P → IsHeld last es' pool'
  gathered_held last es' pool' a b old =
      subst (λ (xs : List Entry). IsHeld last xs pool') (sym a) (subst (λ (ls : List Literal). IsHeld last (take kept es) ls) (sym b) (front_held last old))

  pub gathered_same : (es' : List Entry) (pool' : List Literal) → es' ≡ take kept es → pool' ≡ take end pool → clauses_in pool' es' ≡ clauses_in P E
  gathered_same es' pool' a b = ap (clauses_in pool') a ∙ ap (λ (ls : List Literal). clauses_in ls (take kept es)) b ∙ (so.same ∙ ap (clauses_in P) (take_all place E done))
