-- Clauses in a pool: one that is added, one that is found, and one that is removed.
use Rattle.std.proofs.Common.{◌≡◌, ℕ, zero, suc, ◌+◌, ◌<◌, ◌≤◌, Bool, true, false, List, [], ◌∷◌, ◌++◌, length, take, drop, if◌then◌else◌, slice_index_or, slice_set, Option, Some, None, is_some, OnErr, Result, Ok, Err, ◌-◌, min, refl, sym, ap, ◌∙◌, subst, arith, length-append, length-drop}
use Rattle.std.proofs.lemmas.Bool.{eq-eqb, ne_eqb, cases_lt}
use Rattle.std.proofs.lemmas.List.{take-append-le, drop-append-le, length-set, take_all, take_rest}
use Rattle.std.proofs.Math.ListN.{get_or-append}
use Rattle.std.proofs.Math.Seq.{get_or-append_seam, drop-append_seam}
use Rattle.std.proofs.Math.Logic.{⊎_elim}
use Rattle.refutations.specs.declared.literal.Literal.{Literal}
use Rattle.refutations.specs.declared.clauses.Entry.{Entry}
use Rattle.refutations.specs.Steps.{Numbered, clause_at}
use Rattle.refutations.specs.Store.{literals_of, numbered, clauses_in, without, no_entry, entry, IsRising, IsAbsent, IsPresent, IsHeld, ClauseList}

-- more literals at the end of the pool change no entry within it
literals_of-more : (pool more : List Literal) (e : Entry) → e.start + e.count ≤ length pool → literals_of (pool ++ more) e ≡ literals_of pool e
literals_of-more pool more e inside =
    let start : e.start ≤ length pool = omega arith in
    let left : e.count ≤ length (drop e.start pool) = omega (arith, length-drop e.start pool) in
    ap (take e.count) (drop-append-le e.start pool more start) ∙ take-append-le e.count (drop e.start pool) more left

-- the tail's entries are within
tail_inside : (pool : List Literal) (e : Entry) (es : List Entry) → ((k : ℕ) → k < length (e ∷ es) → (entry (e ∷ es) k).start + (entry (e ∷ es) k).count ≤ length pool) →
    (k : ℕ) → k < length es → (entry es k).start + (entry es k).count ≤ length pool
tail_inside pool e es inside k below = inside (suc k) (omega arith)

-- nor do they change the clauses
pub clauses_in-more : (pool more : List Literal) (es : List Entry) → ((k : ℕ) → k < length es → (entry es k).start + (entry es k).count ≤ length pool) →
    clauses_in (pool ++ more) es ≡ clauses_in pool es
clauses_in-more pool more [] inside = refl
clauses_in-more pool more (e ∷ es) inside =
    let rest = clauses_in-more pool more es (tail_inside pool e es inside) in
    let here = literals_of-more pool more e (inside 0 (omega arith)) in
    one e.alive rest here
  where
    one : (alive : Bool) → clauses_in (pool ++ more) es ≡ clauses_in pool es → literals_of (pool ++ more) e ≡ literals_of pool e →
        (if alive then (numbered (pool ++ more) e ∷ clauses_in (pool ++ more) es) else clauses_in (pool ++ more) es)
        ≡ (if alive then (numbered pool e ∷ clauses_in pool es) else clauses_in pool es)
    one true rest here = cc
    one false rest here = rest

-- one more entry that is alive is one more clause
pub clauses_in-push : (pool : List Literal) (es : List Entry) (e : Entry) → e.alive ≡ true →
    clauses_in pool (es ++ e ∷ []) ≡ clauses_in pool es ++ numbered pool e ∷ []
clauses_in-push pool [] e alive = last e.alive alive
  where
    last : (alive : Bool) → alive ≡ true → (if alive then (numbered pool e ∷ []) else []) ≡ numbered pool e ∷ []
    last true is = refl
    last false is = absurd (cc)
clauses_in-push pool (f ∷ es) e alive = one f.alive (clauses_in-push pool es e alive)
  where
    one : (here : Bool) → clauses_in pool (es ++ e ∷ []) ≡ clauses_in pool es ++ numbered pool e ∷ [] →
        (if here then (numbered pool f ∷ clauses_in pool (es ++ e ∷ [])) else clauses_in pool (es ++ e ∷ []))
        ≡ (if here then (numbered pool f ∷ clauses_in pool es) else clauses_in pool es) ++ numbered pool e ∷ []
    one true rest = ap (λ (cs : List Numbered). numbered pool f ∷ cs) rest
    one false rest = rest

-- a number that is absent has no clause
pub clause_at-absent : (pool : List Literal) (es : List Entry) (number : ℕ) → IsAbsent es number → clause_at (clauses_in pool es) number ≡ None
clause_at-absent pool [] number absent = refl
clause_at-absent pool (e ∷ es) number absent =
    one e.alive (absent 0 (omega arith)) (clause_at-absent pool es number (λ k below. absent (suc k) (omega arith)))
  where
    one : (alive : Bool) → (e.number ≡ number → alive ≡ false) → clause_at (clauses_in pool es) number ≡ None →
        clause_at (if alive then (numbered pool e ∷ clauses_in pool es) else clauses_in pool es) number ≡ None
    one true dead rest =
        let other = ne_eqb e.number number (λ same. absurd (let no = dead same in cc)) in
        ap (λ (b : Bool). if b then Some (literals_of pool e) else clause_at (clauses_in pool es) number) other ∙ rest
    one false dead rest = rest

-- and nothing is removed
pub without-absent : (pool : List Literal) (es : List Entry) (number : ℕ) → IsAbsent es number → without (clauses_in pool es) number ≡ clauses_in pool es
without-absent pool [] number absent = refl
without-absent pool (e ∷ es) number absent =
    one e.alive (absent 0 (omega arith)) (without-absent pool es number (λ k below. absent (suc k) (omega arith)))
  where
    one : (alive : Bool) → (e.number ≡ number → alive ≡ false) → without (clauses_in pool es) number ≡ clauses_in pool es →
        without (if alive then (numbered pool e ∷ clauses_in pool es) else clauses_in pool es) number
        ≡ (if alive then (numbered pool e ∷ clauses_in pool es) else clauses_in pool es)
    one true dead rest =
        let other = ne_eqb e.number number (λ same. absurd (let no = dead same in cc)) in
        ap (λ (b : Bool). if b then without (clauses_in pool es) number else (numbered pool e ∷ without (clauses_in pool es) number)) other
        ∙ ap (λ (cs : List Numbered). numbered pool e ∷ cs) rest
    one false dead rest = rest

-- after a smaller number the rest rises too
tail_rises : (e : Entry) (es : List Entry) → IsRising (e ∷ es) → IsRising es
tail_rises e es rising = λ j k before below. rising (suc j) (suc k) (omega arith) (omega arith)

-- the first number stands nowhere else
first_is_alone : (e : Entry) (es : List Entry) (number : ℕ) → IsRising (e ∷ es) → e.number ≡ number → IsAbsent es number
first_is_alone e es number rising is = λ k below same. let above = rising 0 (suc k) (omega arith) (omega arith) in absurd (omega arith)

-- what an entry that is alive holds is found by its number
pub clause_at-present : (pool : List Literal) (es : List Entry) (number place : ℕ) → IsRising es → IsPresent es number place →
    clause_at (clauses_in pool es) number ≡ Some (literals_of pool (entry es place))
clause_at-present pool [] number place rising present = let inside = present.inside in absurd (omega arith)
clause_at-present pool (e ∷ es) number zero rising present = one e.alive present.alive
  where
    one : (alive : Bool) → alive ≡ true →
        clause_at (if alive then (numbered pool e ∷ clauses_in pool es) else clauses_in pool es) number ≡ Some (literals_of pool e)
    one true is = ap (λ (b : Bool). if b then Some (literals_of pool e) else clause_at (clauses_in pool es) number) (eq-eqb e.number number present.is)
    one false is = absurd (cc)
clause_at-present pool (e ∷ es) number (suc place) rising present =
    let inside = present.inside in let is = present.is in let above = rising 0 (suc place) (omega arith) (omega arith) in
    one e.alive (omega arith) (clause_at-present pool es number place (tail_rises e es rising) (record { inside = omega arith; is = present.is; alive = present.alive }))
  where
    one : (alive : Bool) → e.number < number → clause_at (clauses_in pool es) number ≡ Some (literals_of pool (entry es place)) →
        clause_at (if alive then (numbered pool e ∷ clauses_in pool es) else clauses_in pool es) number ≡ Some (literals_of pool (entry es place))
    one true smaller rest = ap (λ (b : Bool). if b then Some (literals_of pool e) else clause_at (clauses_in pool es) number) (ne_eqb e.number number (λ same. absurd (omega arith))) ∙ rest
    one false smaller rest = rest

-- the entry that isn't alive any more
abbrev pub removed : Entry → Entry
removed e = record { number = e.number; alive = false; start = e.start; count = e.count }

-- once it isn't alive, the others are left
pub clauses_in-removed : (pool : List Literal) (es : List Entry) (number place : ℕ) → IsRising es → IsPresent es number place →
    clauses_in pool (slice_set es place (removed (entry es place))) ≡ without (clauses_in pool es) number
clauses_in-removed pool [] number place rising present = let inside = present.inside in absurd (omega arith)
clauses_in-removed pool (e ∷ es) number zero rising present =
    one e.alive present.alive (sym (without-absent pool es number (first_is_alone e es number rising present.is)))
  where
    one : (alive : Bool) → alive ≡ true → clauses_in pool es ≡ without (clauses_in pool es) number →
        clauses_in pool es ≡ without (if alive then (numbered pool e ∷ clauses_in pool es) else clauses_in pool es) number
    one true is rest = rest ∙ sym (ap (λ (b : Bool). if b then without (clauses_in pool es) number else (numbered pool e ∷ without (clauses_in pool es) number)) (eq-eqb e.number number present.is))
    one false is rest = absurd (cc)
clauses_in-removed pool (e ∷ es) number (suc place) rising present =
    let inside = present.inside in let is = present.is in let above = rising 0 (suc place) (omega arith) (omega arith) in
    one e.alive (omega arith) (clauses_in-removed pool es number place (tail_rises e es rising) (record { inside = omega arith; is = present.is; alive = present.alive }))
  where
    one : (alive : Bool) → e.number < number → clauses_in pool (slice_set es place (removed (entry es place))) ≡ without (clauses_in pool es) number →
        (if alive then (numbered pool e ∷ clauses_in pool (slice_set es place (removed (entry es place)))) else clauses_in pool (slice_set es place (removed (entry es place))))
        ≡ without (if alive then (numbered pool e ∷ clauses_in pool es) else clauses_in pool es) number
    one true smaller rest =
        ap (λ (cs : List Numbered). numbered pool e ∷ cs) rest
        ∙ sym (ap (λ (b : Bool). if b then without (clauses_in pool es) number else (numbered pool e ∷ without (clauses_in pool es) number)) (ne_eqb e.number number (λ same. absurd (omega arith))))
    one false smaller rest = rest

-- an entry that isn't alive any more keeps its number and its place in the pool
pub record SameParts (e f : Entry) : Type 0 where
  pub number : e.number ≡ f.number
  pub start : e.start ≡ f.start
  pub count : e.count ≡ f.count

same_parts : (es : List Entry) (place k : ℕ) → SameParts (entry (slice_set es place (removed (entry es place))) k) (entry es k)
same_parts [] place k = record { number = refl; start = refl; count = refl }
same_parts (e ∷ es) zero zero = record { number = refl; start = refl; count = refl }
same_parts (e ∷ es) zero (suc k) = record { number = refl; start = refl; count = refl }
same_parts (e ∷ es) (suc place) zero = record { number = refl; start = refl; count = refl }
same_parts (e ∷ es) (suc place) (suc k) = same_parts es place k

-- what is held stays so where a clause is removed
pub held_removed : (last : ℕ) (es : List Entry) (pool : List Literal) (place : ℕ) → IsHeld last es pool → IsHeld last (slice_set es place (removed (entry es place))) pool
held_removed last es pool place held =
    let sized = length-set es place (removed (entry es place)) in record {
      rising = λ j k before below. let a = (same_parts es place j).number in let b = (same_parts es place k).number in let h = held.rising j k before (omega arith) in omega arith;
      above = λ k below. let a = (same_parts es place k).number in let h = held.above k (omega arith) in omega arith;
      below = λ k below. let a = (same_parts es place k).number in let h = held.below k (omega arith) in omega arith;
      inside = λ k below. let a = (same_parts es place k).start in let b = (same_parts es place k).count in let h = held.inside k (omega arith) in omega arith;
      ordered = λ j k before below. let a = (same_parts es place j).start in let b = (same_parts es place j).count in let d = (same_parts es place k).start in
          let h = held.ordered j k before (omega arith) in omega arith;
    }

-- with more literals in the pool
pub held_more : (last : ℕ) (es : List Entry) (pool more : List Literal) → IsHeld last es pool → IsHeld last es (pool ++ more)
held_more last es pool more held = record {
  rising = held.rising;
  above = held.above;
  below = held.below;
  inside = λ k below. let h = held.inside k below in omega (arith, length-append pool more);
  ordered = held.ordered;
}

-- the entry of a clause at the end of the pool
abbrev pub added : ℕ → List Literal → List Literal → Entry
added number pool literals = record { number = number; alive = true; start = length pool; count = length literals }

-- and with one more clause
pub held_push : (last : ℕ) (es : List Entry) (pool : List Literal) (number : ℕ) (literals : List Literal) → IsHeld last es pool → last < number →
    IsHeld number (es ++ added number pool literals ∷ []) (pool ++ literals)
held_push last es pool number literals held above = record {
  rising = λ j k before below. ⊎_elim
      (λ (inside : k < length es). let a = old j (omega arith) in let b = old k inside in let h = held.rising j k before inside in
      subst (λ (e : Entry). e.number < (entry (es ++ added number pool literals ∷ []) k).number) (sym a) (subst (λ (e : Entry). (entry es j).number < e.number) (sym b) h))
      (λ (past : length es ≤ k). let is : k ≡ length es = omega (arith, sized) in let a = old j (omega arith) in let h = held.below j (omega arith) in
      subst (λ (e : Entry). e.number < (entry (es ++ added number pool literals ∷ []) k).number) (sym a) (subst (λ (e : Entry). (entry es j).number < e.number) (sym (new k is)) (omega arith)))
      (cases_lt k (length es));
  above = λ k below. ⊎_elim
      (λ (inside : k < length es). let h = held.above k inside in subst (λ (e : Entry). 0 < e.number) (sym (old k inside)) h)
      (λ (past : length es ≤ k). let is : k ≡ length es = omega (arith, sized) in subst (λ (e : Entry). 0 < e.number) (sym (new k is)) (omega arith))
      (cases_lt k (length es));
  below = λ k below. ⊎_elim
      (λ (inside : k < length es). let h = held.below k inside in subst (λ (e : Entry). e.number ≤ number) (sym (old k inside)) (omega arith))
      (λ (past : length es ≤ k). let is : k ≡ length es = omega (arith, sized) in subst (λ (e : Entry). e.number ≤ number) (sym (new k is)) (omega arith))
      (cases_lt k (length es));
  inside = λ k below. ⊎_elim
      (λ (inside : k < length es). let h = held.inside k inside in subst (λ (e : Entry). e.start + e.count ≤ length (pool ++ literals)) (sym (old k inside)) (omega (arith, length-append pool literals)))
      (λ (past : length es ≤ k). let is : k ≡ length es = omega (arith, sized) in
      subst (λ (e : Entry). e.start + e.count ≤ length (pool ++ literals)) (sym (new k is)) (omega (arith, length-append pool literals)))
      (cases_lt k (length es));
  ordered = λ j k before below. ⊎_elim
      (λ (inside : k < length es). let a = old j (omega arith) in let b = old k inside in let h = held.ordered j k before inside in
      subst (λ (e : Entry). e.start + e.count ≤ (entry (es ++ added number pool literals ∷ []) k).start) (sym a) (subst (λ (e : Entry). (entry es j).start + (entry es j).count ≤ e.start) (sym b) h))
      (λ (past : length es ≤ k). let is : k ≡ length es = omega (arith, sized) in let a = old j (omega arith) in let h = held.inside j (omega arith) in
      subst (λ (e : Entry). e.start + e.count ≤ (entry (es ++ added number pool literals ∷ []) k).start) (sym a)
      (subst (λ (e : Entry). (entry es j).start + (entry es j).count ≤ e.start) (sym (new k is)) h))
      (cases_lt k (length es));
}
  where
    sized : length (es ++ added number pool literals ∷ []) ≡ length es + 1
    sized = omega (arith, length-append es (added number pool literals ∷ []))

    old : (k : ℕ) → k < length es → entry (es ++ added number pool literals ∷ []) k ≡ entry es k
    old k inside = get_or-append es (added number pool literals ∷ []) no_entry k inside

    new : (k : ℕ) → k ≡ length es → entry (es ++ added number pool literals ∷ []) k ≡ added number pool literals
    new k is = ap (λ (n : ℕ). entry (es ++ added number pool literals ∷ []) n) is ∙ get_or-append_seam es (added number pool literals) [] no_entry

-- the literals that were added are those of the new entry
pub literals_of-added : (number : ℕ) (pool literals : List Literal) → literals_of (pool ++ literals) (added number pool literals) ≡ literals
literals_of-added number pool literals = ap (take (length literals)) (drop-append_seam pool literals) ∙ take_all (length literals) literals (omega arith)

-- a clause that is added comes last
pub clauses_in-added : (last : ℕ) (es : List Entry) (pool : List Literal) (number : ℕ) (literals : List Literal) → IsHeld last es pool →
    clauses_in (pool ++ literals) (es ++ added number pool literals ∷ []) ≡ clauses_in pool es ++ record { number = number; literals = literals } ∷ []
clauses_in-added last es pool number literals held =
    clauses_in-push (pool ++ literals) es (added number pool literals) refl
    ∙ (ap (λ (cs : List Numbered). cs ++ record { number = number; literals = literals_of (pool ++ literals) (added number pool literals) } ∷ []) (clauses_in-more pool literals es held.inside)
    ∙ ap (λ (ls : List Literal). clauses_in pool es ++ record { number = number; literals = ls } ∷ []) (literals_of-added number pool literals))

-- what contracts see of clauses
abbrev listed : ℕ → List Numbered → ClauseList
listed last clauses = record { last = last; clauses = clauses }

-- more literals in the pool are not seen
pub view_more : (last : ℕ) (es es' : List Entry) (pool literals pool' : List Literal) (old : ClauseList) → listed last (clauses_in pool es) ≡ old → IsHeld last es pool →
    es' ≡ es → pool' ≡ pool ++ literals → listed last (clauses_in pool' es') ≡ old
view_more last es es' pool literals pool' old view held same more =
    ap (listed last) (ap (clauses_in pool') same ∙ (ap (λ (p : List Literal). clauses_in p es) more ∙ clauses_in-more pool literals es held.inside)) ∙ view

-- the entry, where its place and its count are known by other names
entry_is : (number start count : ℕ) (es es' : List Entry) (pool literals : List Literal) → start ≡ length pool → count ≡ length literals →
    es' ≡ es ++ record { number = number; alive = true; start = start; count = count } ∷ [] → es' ≡ es ++ added number pool literals ∷ []
entry_is number start count es es' pool literals stands many is =
    is ∙ (ap (λ (n : ℕ). es ++ record { number = number; alive = true; start = n; count = count } ∷ []) stands
    ∙ ap (λ (n : ℕ). es ++ record { number = number; alive = true; start = length pool; count = n } ∷ []) many)

-- a clause that is added is seen last
pub view_added : (last number start count : ℕ) (es es' : List Entry) (pool literals pool' : List Literal) (old : ClauseList) → listed last (clauses_in pool es) ≡ old → IsHeld last es pool →
    start ≡ length pool → count ≡ length literals → es' ≡ es ++ record { number = number; alive = true; start = start; count = count } ∷ [] → pool' ≡ pool ++ literals →
    listed number (clauses_in pool' es') ≡ listed number (old.clauses ++ record { number = number; literals = literals } ∷ [])
view_added last number start count es es' pool literals pool' old view held stands many is more =
    let shape = entry_is number start count es es' pool literals stands many is in
    ap (listed number) (ap (clauses_in pool') shape
    ∙ (ap (λ (p : List Literal). clauses_in p (es ++ added number pool literals ∷ [])) more
    ∙ (clauses_in-added last es pool number literals held
    ∙ ap (λ (o : ClauseList). o.clauses ++ record { number = number; literals = literals } ∷ []) view)))

-- and is held
pub held_added : (last number start count : ℕ) (es es' : List Entry) (pool literals pool' : List Literal) → IsHeld last es pool → last < number →
    start ≡ length pool → count ≡ length literals → es' ≡ es ++ record { number = number; alive = true; start = start; count = count } ∷ [] → pool' ≡ pool ++ literals → IsHeld number es' pool'
held_added last number start count es es' pool literals pool' held above stands many is more =
    let shape = entry_is number start count es es' pool literals stands many is in
    subst (λ (p : List Literal). IsHeld number es' p) (sym more)
    (subst (λ (x : List Entry). IsHeld number x (pool ++ literals)) (sym shape) (held_push last es pool number literals held above))

-- within a list it doesn't matter what stands for an item past its end
pub same_default : (es : List Entry) (k : ℕ) (d e : Entry) → k < length es → slice_index_or es k d ≡ slice_index_or es k e
same_default [] k d e inside = absurd (omega arith)
same_default (x ∷ es) zero d e inside = refl
same_default (x ∷ es) (suc k) d e inside = same_default es k d e (omega arith)

-- what is read at a place where a number is present is its clause
module _ (last number place : ℕ) (es es' : List Entry) (pool : List Literal) (e : Entry) (old : ClauseList) (view : listed last (clauses_in pool es) ≡ old) (held : IsHeld last es pool)
    (there : IsPresent es' number place) (same : es' ≡ es) (read : e ≡ slice_index_or es place e) where
  present_here : IsPresent es number place
  present_here = subst (λ (xs : List Entry). IsPresent xs number place) same there

  read_is : e ≡ entry es place
  read_is = read ∙ same_default es place e no_entry present_here.inside

  clause_is : clause_at old.clauses number ≡ Some (literals_of pool (entry es place))
  clause_is = ap (λ (o : ClauseList). clause_at o.clauses number) (sym view) ∙ clause_at-present pool es number place held.rising present_here

  pub found_in : (d : List Literal) → d ≡ pool → clause_at old.clauses number ≡ Some (take e.count (take (length d - e.start) (drop e.start d)))
  found_in d is =
      let literals : take e.count (take (length d - e.start) (drop e.start d)) ≡ literals_of pool (entry es place) =
      ap (take e.count) (take_rest d e.start) ∙ (ap (λ (x : List Literal). take e.count (drop e.start x)) is ∙ ap (λ (f : Entry). literals_of pool f) read_is) in
      clause_is ∙ ap (λ (ls : List Literal). Some ls) (sym literals)

  pub removed_was : true ≡ is_some (clause_at old.clauses number)
  removed_was = sym (ap (λ (o : Option (List Literal)). is_some o) clause_is)

  pub removed_left : clauses_in pool (slice_set es place (removed e)) ≡ without old.clauses number
  removed_left =
      ap (λ (f : Entry). clauses_in pool (slice_set es place (removed f))) read_is
      ∙ (clauses_in-removed pool es number place held.rising present_here ∙ ap (λ (o : ClauseList). without o.clauses number) view)

  pub removed_held : IsHeld last (slice_set es place (removed e)) pool
  removed_held = subst (λ (f : Entry). IsHeld last (slice_set es place (removed f)) pool) (sym read_is) (held_removed last es pool place held)

-- what holds, holds where there is an error
pub on_error : {T E : Type 0} (r : Result T E) (P : Type 0) → P → OnErr r P
on_error (Ok u) P p = tt
on_error (Err e) P p = p

-- what is found, and what is left, by what place was found
pub ruleset held_rules = (clause_at-present, clause_at-absent, clauses_in-removed, without-absent, held_removed)

-- numbers rise by one at least from place to place
apart : (es : List Entry) → IsRising es → (j gap : ℕ) → j + gap < length es → (entry es j).number + gap ≤ (entry es (j + gap)).number
apart es rising j zero inside = (let same : j + 0 ≡ j = omega arith in subst (λ k. (entry es j).number + 0 ≤ (entry es k).number) (sym same) (omega arith))
apart es rising j (suc gap) inside =
    let rest = apart es rising j gap (omega arith) in
    let next = rising (j + gap) (j + suc gap) (omega arith) inside in
    omega arith

min_le_left : (a b : ℕ) → min a b ≤ a
min_le_left a b = omega arith

-- so what is before the lower bound is below the number, and what is from the upper one on isn't
pub before_low : (es : List Entry) → IsRising es → (number gap start high low k : ℕ) → gap ≡ (entry es (length es - 1)).number - number → start ≡ (length es - 1) - gap → low ≡ min start high
    → k < low → (entry es k).number < number
before_low es rising number gap start high low k is begins least below =
    let some : k < length es - 1 = omega (arith, is, begins, least, below, min_le_left start high) in
    let end : k + ((length es - 1) - k) ≡ length es - 1 = omega (arith, some) in
    let far = apart es rising k ((length es - 1) - k) (omega (arith, end, some)) in
    let there = subst (λ p. (entry es k).number + ((length es - 1) - k) ≤ (entry es p).number) end far in
    omega (arith, there, is, begins, least, below, some, min_le_left start high)

pub from_high : (es : List Entry) → IsRising es → (number gap high k : ℕ) → gap ≡ number - (entry es 0).number → high ≡ min gap (length es) → high ≤ k → k < length es → number ≤ (entry es k).number
from_high es rising number gap high k is least from inside =
    let same : 0 + k ≡ k = omega arith in
    let far = subst (λ p. (entry es 0).number + k ≤ (entry es p).number) same (apart es rising 0 k (omega (arith, inside))) in
    ⊎_elim
    (λ less. let whole = min_is_left gap (length es) less in omega (arith, far, is, least, from, whole))
    (λ past. let whole = min_is_right gap (length es) past in omega (arith, least, from, inside, whole))
    (cases_lt gap (length es))
  where
    min_is_left : (a b : ℕ) → a < b → min a b ≡ a
    min_is_left a b less = omega (arith, less)

    min_is_right : (a b : ℕ) → b ≤ a → min a b ≡ b
    min_is_right a b past = omega (arith, past)
