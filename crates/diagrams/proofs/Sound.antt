-- What diagrams keep while rows and memos are added.
use Rattle.std.proofs.Common.{◌≡◌, ℕ, ◌<◌, ◌≤◌, Bool, true, false, ◌&&◌, nat_eq, Option, Some, None, List, [], ◌∷◌, ◌++◌, length, All, slice_index_or, slice_set, replicate, refl, sym, ap, ◌∙◌, subst, arith}
use Rattle.std.specs.HashMap.{HashMap, get, Updates}
use Rattle.std.proofs.lemmas.Bool.{cases_eq, cases_lt, ne_eqb}
use Rattle.std.proofs.lemmas.List.{get_or-set_same, get_or-set_other, get_or-replicate}
use Rattle.std.proofs.lemmas.List.Elements.{All-from_get_or}
use Rattle.std.proofs.Math.ListN.{length-set, length-replicate}
use Rattle.std.proofs.Math.Logic.{⊎_elim}
use Rattle.diagrams.specs.declared.decision.Decision.{Decision}
use Rattle.diagrams.specs.declared.memo.Memo.{Memo}
use Rattle.diagrams.specs.Decisions.{row, value, IsDecision, IsDiagram}
use Rattle.diagrams.specs.DecisionRows.{IsSmall, word_of}
use Rattle.diagrams.specs.Cofactors.{Function, Same, IsCofactorOfOne}
use Rattle.diagrams.specs.Building.{DiagramState, constants, choice, Extends, StandsFor, AreShort, IsRowOf, HasNoRow, IsRight, no_memo, IsIndex, IsSound}
use Rattle.diagrams.proofs.Held.{same_word}
use Rattle.diagrams.proofs.Growing.{value-kept, combined-kept, Extends-push, length-push, row-push, IsDiagram-push, value-row, value-push, no_row}

-- the two constants are a diagram
constants_are_diagram : (inputs : ℕ) → IsDiagram inputs (constants inputs)
constants_are_diagram inputs = record {
  constants = omega arith;
  zero = refl;
  one = refl;
  decides = λ k big node. absurd (omega arith);
  once = λ j k big before node same. absurd (omega arith);
}

-- 0 and 0 are 0
pub no_memo_is_right : (inputs : ℕ) (rows : List Decision) → IsDiagram inputs rows → IsRight inputs rows no_memo
no_memo_is_right inputs rows D =
    let two = D.constants in
    record { first = omega arith; second = omega arith; result = omega arith; is = record { at = λ x sized. and_self (value rows 0 x) } }
  where
    and_self : (b : Bool) → b ≡ b && b
    and_self true = refl
    and_self false = refl

-- a memo stays right
right_kept : (inputs : ℕ) (old new : List Decision) (memo : Memo) → IsDiagram inputs old → Extends old new → IsRight inputs old memo → IsRight inputs new memo
right_kept inputs old new memo D more is = let longer = more.longer in let a = is.first in let b = is.second in let r = is.result in record {
  first = omega arith;
  second = omega arith;
  result = omega arith;
  is = record {
    at = λ x sized. value-kept inputs old new D more memo.result x is.result
        ∙ (is.is.at x sized ∙ sym (combined-kept inputs old new D more memo.operation memo.first memo.second x is.first is.second));
  };
}

module _ {S : Type 0} where
  -- each memo says what is so
  pub all_right : (inputs room : ℕ) (rows : List Decision) (index : HashMap ℕ ℕ S) (memos : List Memo) → IsSound inputs room rows index memos → All (IsRight inputs rows) memos
  all_right inputs room rows index memos sound = All-from_get_or (IsRight inputs rows) memos no_memo sound.right

  -- other memos that say what is so may stand in the place of all
  pub replaced : (inputs room : ℕ) (rows : List Decision) (index : HashMap ℕ ℕ S) (memos others : List Memo) → IsSound inputs room rows index memos → 0 < length others →
      All (IsRight inputs rows) others → IsSound inputs room rows index others
  replaced inputs room rows index memos others sound some right = record {
    diagram = sound.diagram;
    few = sound.few;
    small = sound.small;
    within = sound.within;
    indexed = sound.indexed;
    some = some;
    right = λ i inside. right i no_memo inside;
  }

  -- a right memo may stand in the place of another
  pub remembered : (inputs room : ℕ) (rows : List Decision) (index : HashMap ℕ ℕ S) (memos : List Memo) (there : ℕ) (memo : Memo) → IsSound inputs room rows index memos →
      there < length memos → IsRight inputs rows memo → IsSound inputs room rows index (slice_set memos there memo)
  remembered inputs room rows index memos there memo sound inside is = record {
    diagram = sound.diagram;
    few = sound.few;
    small = sound.small;
    within = sound.within;
    indexed = sound.indexed;
    some = omega (arith, length-set memos there memo);
    right = λ i below. ⊎_elim
        (λ here. subst (λ (j : ℕ). IsRight inputs rows (slice_index_or (slice_set memos there memo) j no_memo)) (sym here)
        (subst (λ (m : Memo). IsRight inputs rows m) (sym (get_or-set_same memos there memo no_memo inside)) is))
        (λ apart. subst (λ (m : Memo). IsRight inputs rows m) (sym (get_or-set_other memos there i memo no_memo apart)) (sound.right i (omega (arith, length-set memos there memo))))
        (cases_eq i there);
  }

  -- the rows of the constants alone
  pub begun : (inputs room : ℕ) (rows : List Decision) (index : HashMap ℕ ℕ S) (memos : List Memo) (n : ℕ) → inputs ≤ 1024 → 2 ≤ room → room ≤ 4194304 → rows ≡ constants inputs → index.entries ≡ [] →
      memos ≡ replicate n no_memo → 0 < n → IsSound inputs room rows index memos
  begun inputs room rows index memos n few two small same empty silent some =
      let D = constants_are_diagram inputs in
      let nothing : (word : ℕ) → get nat_eq index word ≡ None = λ word. rw empty refl in
      let sound : IsSound inputs room (constants inputs) index (replicate n no_memo) = record {
        diagram = D;
        few = few;
        small = small;
        within = two;
        indexed = record { has = λ k big node. absurd (omega arith); finds = λ word k found. absurd (none_is_some k (sym (nothing word) ∙ found)) };
        some = omega (arith, length-replicate n no_memo);
        right = λ i inside. let below : i < n = omega (arith, length-replicate n no_memo) in
            subst (λ (m : Memo). IsRight inputs (constants inputs) m) (sym (get_or-replicate n i no_memo no_memo below)) (no_memo_is_right inputs (constants inputs) D);
      } in
      subst (λ (ms : List Memo). IsSound inputs room rows index ms) (sym silent) (subst (λ (ds : List Decision). IsSound inputs room ds index (replicate n no_memo)) (sym same) sound)
    where
      none_is_some : (k : ℕ) → ◌≡◌ {A = Option ℕ} None (Some k) → ⊥
      none_is_some k e = cc

  -- the numbers of a decision fit
  pub small_decision : (inputs room : ℕ) (rows : List Decision) (index : HashMap ℕ ℕ S) (memos : List Memo) (d : Decision) → IsSound inputs room rows index memos → IsDecision inputs rows d → IsSmall d
  small_decision inputs room rows index memos d sound decides =
      let a = sound.few in let b = sound.small in let e = sound.within in
      let i = decides.input in let l = decides.low.node in let h = decides.high.node in
      record { input = omega arith; low = omega arith; high = omega arith }

  -- equal words, equal decisions
  row_of_word : (inputs room : ℕ) (rows : List Decision) (index : HashMap ℕ ℕ S) (memos : List Memo) (d : Decision) (k : ℕ) → IsSound inputs room rows index memos → IsDecision inputs rows d →
      2 ≤ k → k < length rows → word_of (row rows k) ≡ word_of d → row rows k ≡ d
  row_of_word inputs room rows index memos d k sound decides big node same =
      same_word (row rows k) d (small_decision inputs room rows index memos (row rows k) sound (sound.diagram.decides k big node)) (small_decision inputs room rows index memos d sound decides) same

  -- what is found decides so
  pub found_row : (inputs room : ℕ) (rows : List Decision) (index : HashMap ℕ ℕ S) (memos : List Memo) (d : Decision) (k : ℕ) → IsSound inputs room rows index memos → IsDecision inputs rows d →
      get nat_eq index (word_of d) ≡ Some k → IsRowOf rows d k
  found_row inputs room rows index memos d k sound decides found =
      let f = sound.indexed.finds (word_of d) k found in
      record { big = f.0; node = f.1; is = row_of_word inputs room rows index memos d k sound decides f.0 f.1 f.2 }

  -- what the map has is what its entries have
  pub reindexed : (inputs room : ℕ) (rows : List Decision) (index other : HashMap ℕ ℕ S) (memos : List Memo) → IsSound inputs room rows index memos → other.entries ≡ index.entries →
      IsSound inputs room rows other memos
  reindexed inputs room rows index other memos sound same = record {
    diagram = sound.diagram;
    few = sound.few;
    small = sound.small;
    within = sound.within;
    some = sound.some;
    right = sound.right;
    indexed = record { has = λ k big node. rw same (sound.indexed.has k big node); finds = λ word k found. sound.indexed.finds word k (rw same at found) };
  }

  -- a decision that had no row has one
  pub indexed_push : (inputs room : ℕ) (rows : List Decision) (index other : HashMap ℕ ℕ S) (memos : List Memo) (d : Decision) → IsSound inputs room rows index memos → IsDecision inputs rows d →
      HasNoRow rows d → Updates nat_eq index other (word_of d) (Some (length rows)) → IsIndex (rows ++ d ∷ []) other
  indexed_push inputs room rows index other memos d sound decides absent updates =
      let new = rows ++ d ∷ [] in
      let two = sound.diagram.constants in
      let count = length-push rows d in
      let more = Extends-push rows d in
      record {
        has = λ k big node. ⊎_elim
            (λ before. let apart : word_of d ≡ word_of (row rows k) → ⊥ = λ e. absent k big before (row_of_word inputs room rows index memos d k sound decides big before (sym e)) in
            subst (λ (e : Decision). get nat_eq other (word_of e) ≡ Some k) (sym (more.kept k before))
            (updates.2 (word_of (row rows k)) (ne_eqb _ _ apart) ∙ sound.indexed.has k big before))
            (λ last. let here : length rows ≡ k = omega arith in
            subst (λ (n : ℕ). get nat_eq other (word_of (row new n)) ≡ Some n) here
            (subst (λ (e : Decision). get nat_eq other (word_of e) ≡ Some (length rows)) (sym (row-push rows d)) updates.1))
            (cases_lt k (length rows));
        finds = λ word k found. ⊎_elim
            (λ here. let is : length rows ≡ k = some_is (sym updates.1 ∙ (ap (get nat_eq other) here ∙ found)) in
            (omega arith, omega arith, subst (λ (n : ℕ). word_of (row new n) ≡ word) is (ap word_of (row-push rows d) ∙ here)))
            (λ apart. let f = sound.indexed.finds word k (sym (updates.2 word (ne_eqb _ _ apart)) ∙ found) in
            (f.0, omega (arith, f.1), ap word_of (more.kept k f.1) ∙ f.2))
            (cases_eq (word_of d) word);
      }
    where
      some_is : {m n : ℕ} → ◌≡◌ {A = Option ℕ} (Some m) (Some n) → m ≡ n
      some_is e = cc

  pub sound_push : (inputs room : ℕ) (rows : List Decision) (index other : HashMap ℕ ℕ S) (memos : List Memo) (d : Decision) (new_room : ℕ) (new : List Decision) → IsSound inputs room rows index memos → IsDecision inputs rows d →
      HasNoRow rows d → length rows < room → Updates nat_eq index other (word_of d) (Some (length rows)) → new_room ≡ room → new ≡ rows ++ d ∷ [] → IsSound inputs new_room new other memos
  sound_push inputs room rows index other memos d new_room new sound decides absent inside updates same_room same =
      let pushed : IsSound inputs room (rows ++ d ∷ []) other memos = record {
        diagram = IsDiagram-push inputs rows d sound.diagram decides absent;
        few = sound.few;
        small = sound.small;
        within = omega (arith, length-push rows d);
        indexed = indexed_push inputs room rows index other memos d sound decides absent updates;
        some = sound.some;
        right = λ i below. right_kept inputs rows (rows ++ d ∷ []) _ sound.diagram (Extends-push rows d) (sound.right i below);
      } in
      subst (λ (r : ℕ). IsSound inputs r new other memos) (sym same_room) (subst (λ (ds : List Decision). IsSound inputs room ds other memos) (sym same) pushed)

-- no room is left for a decision that has no row
pub short_of : (state : DiagramState) (d : Decision) (fs : List Function) → IsDiagram state.inputs state.rows → IsDecision state.inputs state.rows d → HasNoRow state.rows d →
    length state.rows ≡ state.room → IsCofactorOfOne state.inputs fs (choice state.rows d.input d.low d.high) → AreShort state fs
short_of state d fs D decides absent full needed = record {
  full = full;
  missing = choice state.rows d.input d.low d.high;
  needed = needed;
  absent = λ k node same. no_row state.inputs state.rows d D decides absent k node same;
}

-- the row of a decision stands for its choice
pub row_stands : (state : DiagramState) (d : Decision) (k : ℕ) → IsDiagram state.inputs state.rows → IsDecision state.inputs state.rows d → IsRowOf state.rows d k →
    StandsFor state (choice state.rows d.input d.low d.high) k
row_stands state d k D decides is = record { node = is.node; is = value-row state.inputs state.rows d k D is.node is.is decides.input }

-- the row that was added stands for the choice
pub pushed_stands : (old new : DiagramState) (d : Decision) (k : ℕ) → IsDiagram old.inputs old.rows → IsDecision old.inputs old.rows d → HasNoRow old.rows d → k ≡ length old.rows →
    new.inputs ≡ old.inputs → new.rows ≡ old.rows ++ d ∷ [] → StandsFor new (choice old.rows d.input d.low d.high) k
pushed_stands old new d k D decides absent here same_inputs same_rows =
    let count = length-push old.rows d in
    let longer = ap length same_rows in
    let own = value-push old.inputs old.rows d D decides (IsDiagram-push old.inputs old.rows d D decides absent) in
    record {
      node = omega arith;
      is =
          subst (λ (i : ℕ). Same i (value new.rows k) (choice old.rows d.input d.low d.high)) (sym same_inputs)
          (subst (λ (ds : List Decision). Same old.inputs (value ds k) (choice old.rows d.input d.low d.high)) (sym same_rows)
          (subst (λ (n : ℕ). Same old.inputs (value (old.rows ++ d ∷ []) n) (choice old.rows d.input d.low d.high)) (sym here) own));
    }
