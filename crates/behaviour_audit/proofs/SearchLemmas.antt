-- The first reason of some points.
use Rattle.std.proofs.Common.{◌≡◌, ℕ, ◌+◌, ◌-◌, ◌*◌, ◌<◌, ◌≤◌, min, true, false, Option, Some, None, sym, subst, arith}
use Rattle.std.specs.Option.{is_some}
use Rattle.std.proofs.lemmas.Bool.{false≢true, cases_lt}
use Rattle.std.proofs.Math.Logic.{⊎_elim}
use Rattle.behaviour_audit.specs.Trial.{IsAnswerAt, IsFirstAnswer}
use Rattle.behaviour_audit.specs.declared.condition.Condition.{Condition}
use Rattle.behaviour_audit.specs.declared.trial.Audited.{Audited}
use Rattle.lane_sim.specs.declared.point.Point.{Point}
use Rattle.behaviour_audit.specs.declared.reason.BehaviourReason.{BehaviourReason}
use Rattle.lane_sim.specs.Places.{point_at}

module _ (condition : Condition) (A : Audited) where
  abbrev NoneAt : ℕ → Type 0
  NoneAt p = IsAnswerAt condition A (point_at A.net.now.circuit.inputs p) None

  -- the first slot that has a reason
  pub found_in_slots : (first past from slot : ℕ) (point : Point) (found : Option BehaviourReason) → is_some found ≡ true → from ≤ slot → first + slot < past → point ≡ point_at A.net.now.circuit.inputs (first + slot)
      → IsAnswerAt condition A point found → ((s : ℕ) → from ≤ s → s < slot → NoneAt (first + s)) → IsFirstAnswer condition A (first + from) past found
  found_in_slots first past from slot point None some low inside is here none = absurd (false≢true some)
  found_in_slots first past from slot point (Some reason) some low inside is here none = record {
    place = first + slot;
    from = omega arith;
    below = inside;
    here = subst (λ (at : Point). IsAnswerAt condition A at (Some reason)) is here;
    before = λ p above less.
        let back : first + (p - first) ≡ p = omega arith in
        subst NoneAt back (none (p - first) (omega arith) (omega arith));
  }

  -- none has one
  pub none_in_slots : (first past from slot : ℕ) → past - first ≤ slot → ((s : ℕ) → from ≤ s → s < slot → NoneAt (first + s)) → IsFirstAnswer condition A (first + from) past None
  none_in_slots first past from slot all none = λ p low high.
      let back : first + (p - first) ≡ p = omega arith in
      subst NoneAt back (none (p - first) (omega arith) (omega arith))

  -- the first word of a batch that has one
  pub found_in_word : (first past low high : ℕ) (found : Option BehaviourReason) → is_some found ≡ true → first ≤ low → high ≤ past → IsFirstAnswer condition A low high found
      → ((p : ℕ) → first ≤ p → p < low → p < past → NoneAt p) → IsFirstAnswer condition A first past found
  found_in_word first past low high None some from below here none = absurd (false≢true some)
  found_in_word first past low high (Some reason) some from below here none =
      let starts = here.from in
      let ends = here.below in
      record {
        place = here.place;
        from = omega arith;
        below = omega arith;
        here = here.here;
        before = λ p above less. ⊎_elim
            (λ (early : p < low). none p above early (omega arith))
            (λ (late : low ≤ p). here.before p late less)
            (cases_lt p low);
      }

  -- one more word that has none
  pub none_in_words : (first past word : ℕ) (found : Option BehaviourReason) → is_some found ≡ false
      → IsFirstAnswer condition A (first + word * 64) (first + min (word * 64 + 64) (past - first)) found → ((p : ℕ) → first ≤ p → p < first + word * 64 → p < past → NoneAt p)
      → (p : ℕ) → first ≤ p → p < first + (word + 1) * 64 → p < past → NoneAt p
  none_in_words first past word (Some reason) some here none = absurd (false≢true (sym some))
  none_in_words first past word None some here none = λ p above below inside. ⊎_elim
      (λ (early : p < first + word * 64). none p above early inside)
      (λ (late : first + word * 64 ≤ p). here p late (omega arith))
      (cases_lt p (first + word * 64))

  -- the first batch that has one
  pub found_in_all : (count first past : ℕ) (found : Option BehaviourReason) → is_some found ≡ true → past ≤ count → IsFirstAnswer condition A first past found
      → ((p : ℕ) → p < first → p < count → NoneAt p) → IsFirstAnswer condition A 0 count found
  found_in_all count first past None some inside here none = absurd (false≢true some)
  found_in_all count first past (Some reason) some inside here none =
      let last = here.below in
      record {
        place = here.place;
        from = omega arith;
        below = omega arith;
        here = here.here;
        before = λ p low less. ⊎_elim
            (λ (early : p < first). none p early (omega arith))
            (λ (late : first ≤ p). here.before p late less)
            (cases_lt p first);
      }

  -- one more batch that has none
  pub none_so_far : (count batch first past : ℕ) (found : Option BehaviourReason) → is_some found ≡ false → first ≡ batch * 1024 → ((p : ℕ) → p < count → p < first + 1024 → p < past)
      → IsFirstAnswer condition A first past found → ((p : ℕ) → p < batch * 1024 → p < count → NoneAt p)
      → (p : ℕ) → p < (batch + 1) * 1024 → p < count → NoneAt p
  none_so_far count batch first past (Some reason) some at reach here none = absurd (false≢true (sym some))
  none_so_far count batch first past None some at reach here none = λ p below inside. ⊎_elim
      (λ (early : p < first). none p (omega arith) inside)
      (λ (late : first ≤ p). here p late (reach p inside (omega arith)))
      (cases_lt p first)
