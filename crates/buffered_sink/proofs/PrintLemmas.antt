-- Texts printed one after the other.
use Rattle.std.proofs.Common.{◌≡◌, ℕ, ◌+◌, ◌≤◌, List, [], ◌++◌, length, take, Option, Result, Ok, Err, OnOk, OnErr, IsErrAnd, refl, sym, ap, subst, ◌∙◌, arith, append_assoc, append-nil, length-append}
use Rattle.std.specs.Io.KnownBytes.{Appends}
use Rattle.std.proofs.KnownBytes.{Appends-nil, Appends-trans}
use Rattle.std.proofs.Math.Seq.{take-append-add}
use Rattle.std.proofs.lemmas.List.{take-append-le}
use Rattle.tsc_io.specs.Counts.{Rose}
use Rattle.tsc_io.specs.Writing.{AppendsPrefix}
use Rattle.tsc_io.proofs.CountLemmas.{Rose-later}
use Rattle.buffered_sink.specs.Output.{Output, IsPrinted, IsCut, Prints}

-- some first bytes of a text are some first bytes of a longer one
prefix-more : (old new : Option (List ℕ)) (text whole rest : List ℕ) → whole ≡ text ++ rest → AppendsPrefix old new text → AppendsPrefix old new whole
prefix-more old new text whole rest e p =
    let P : List ℕ → Type 0 = λ gained. Appends old new gained in
    let same : take p.0 whole ≡ take p.0 text = ap (take p.0) e ∙ take-append-le p.0 text rest p.1 in
    (p.0, (omega (arith, p.1, ap length e, length-append text rest)), subst P (sym same) p.2)

-- some bytes were written, and then some first bytes of a text: together they are some first bytes of both
prefix-behind : (old mid new : Option (List ℕ)) (gone text whole : List ℕ) → whole ≡ gone ++ text → Appends old mid gone → AppendsPrefix mid new text → AppendsPrefix old new whole
prefix-behind old mid new gone text whole e p q =
    let P : List ℕ → Type 0 = λ gained. Appends old new gained in
    let same : take (length gone + q.0) whole ≡ gone ++ take q.0 text = ap (take (length gone + q.0)) e ∙ take-append-add gone text q.0 in
    (length gone + q.0, (omega (arith, q.1, ap length e, length-append gone text)), subst P (sym same) (Appends-trans old mid new gone (take q.0 text) p q.2))

-- nothing was printed
pub IsPrinted-nil : (state : Output) → IsPrinted state state []
IsPrinted-nil state = record {
  gone = [];
  gained = Appends-nil state.written;
  kept = append-nil state.held;
  faults_stay = omega arith;
}

-- two texts
pub IsPrinted-then : {before mid after : Output} {first second : List ℕ} → IsPrinted before mid first → IsPrinted mid after second → IsPrinted before after (first ++ second)
IsPrinted-then {before} {mid} {after} {first} {second} p q = record {
  gone = p.gone ++ q.gone;
  gained = Appends-trans before.written mid.written after.written p.gone q.gone p.gained q.gained;
  kept = sym (append_assoc before.held first second)
      ∙ ap (λ (l : List ℕ). l ++ second) p.kept
      ∙ append_assoc p.gone mid.held second
      ∙ ap (λ (l : List ℕ). p.gone ++ l) q.kept
      ∙ sym (append_assoc p.gone q.gone after.held);
  faults_stay = omega (arith, p.faults_stay, q.faults_stay);
}

-- a text was printed, and the sink failed in the next
pub IsCut-then : {before mid after : Output} {first second : List ℕ} → IsPrinted before mid first → IsCut mid after second → IsCut before after (first ++ second)
IsCut-then {before} {mid} {after} {first} {second} p q =
    let whole : before.held ++ (first ++ second) ≡ p.gone ++ (mid.held ++ second) =
    sym (append_assoc before.held first second) ∙ ap (λ (l : List ℕ). l ++ second) p.kept ∙ append_assoc p.gone mid.held second in
    record {
      gained = prefix-behind before.written mid.written after.written p.gone (mid.held ++ second) (before.held ++ (first ++ second)) whole p.gained q.gained;
      rose = Rose-later before.faults mid.faults after.faults p.faults_stay q.faults_stay q.rose;
      faults_stay = omega (arith, p.faults_stay, q.faults_stay);
    }

-- the sink failed in a text before another
pub IsCut-more : {before after : Output} {first : List ℕ} (second : List ℕ) → IsCut before after first → IsCut before after (first ++ second)
IsCut-more {before} {after} {first} second p = record {
  gained = prefix-more before.written after.written (before.held ++ first) (before.held ++ (first ++ second)) second (sym (append_assoc before.held first second)) p.gained;
  rose = p.rose;
  faults_stay = p.faults_stay;
}

-- a text was printed, and then another one or the sink failed in it
pub Prints-then : {T E : Type 0} (result : Result T E) {before mid : Output} (after : Output) {first : List ℕ} (second : List ℕ)
    → IsPrinted before mid first → Prints result mid after second → Prints result before after (first ++ second)
Prints-then (Ok done) after second p q = IsPrinted-then p q
Prints-then (Err fault) after second p q = IsCut-then p q

-- nothing waits, and a text goes to the sink
pub Prints-direct : {T E : Type 0} (result : Result T E) (before after : Output) (text : List ℕ)
    → before.held ≡ [] → after.held ≡ []
    → OnOk result (Appends before.written after.written text)
    → OnErr result (Rose before.faults after.faults) → OnErr result (AppendsPrefix before.written after.written text)
    → before.faults ≤ after.faults
    → Prints result before after text
Prints-direct (Ok done) before after text none none_after gained rose part stays = record {
  gone = text;
  gained = gained;
  kept = ap (λ (l : List ℕ). l ++ text) none ∙ sym (append-nil text) ∙ ap (λ (l : List ℕ). text ++ l) (sym none_after);
  faults_stay = stays;
}
Prints-direct (Err fault) before after text none none_after gained rose part stays =
    let P : List ℕ → Type 0 = λ all. AppendsPrefix before.written after.written all in
    record {
      gained = subst P (ap (λ (l : List ℕ). l ++ text) (sym none)) part;
      rose = rose;
      faults_stay = stays;
    }

-- a text is under way: some of it was printed, and this is the rest of it
pub record IsUnderWay (before now : Output) (text rest : List ℕ) : Type 0 where
  pub done : List ℕ
  pub printed : IsPrinted before now done
  pub whole : done ++ rest ≡ text

-- nothing of it was printed
pub begin : (state : Output) (text : List ℕ) → IsUnderWay state state text text
begin state text = record { done = []; printed = IsPrinted-nil state; whole = refl }

-- a piece more was printed
pub more : {before now after : Output} {text rest piece : List ℕ} (left : List ℕ)
    → IsUnderWay before now text rest → IsPrinted now after piece → rest ≡ piece ++ left → IsUnderWay before after text left
more {before} {now} {after} {text} {rest} {piece} left u p e = record {
  done = u.done ++ piece;
  printed = IsPrinted-then u.printed p;
  whole = append_assoc u.done piece left ∙ ap (λ (l : List ℕ). u.done ++ l) (sym e) ∙ u.whole;
}

-- the sink failed in a piece of it
pub cut : {before now after : Output} {text rest piece : List ℕ} (left : List ℕ)
    → IsUnderWay before now text rest → IsCut now after piece → rest ≡ piece ++ left → IsCut before after text
cut {before} {now} {after} {text} {rest} {piece} left u q e =
    let P : List ℕ → Type 0 = λ all. IsCut before after all in
    subst P (ap (λ (l : List ℕ). u.done ++ l) (sym e) ∙ u.whole) (IsCut-then u.printed (IsCut-more left q))

-- what is left of it was printed, or the sink failed in it
pub ends : {T E : Type 0} (result : Result T E) {before now : Output} (after : Output) {text : List ℕ} (rest : List ℕ)
    → IsUnderWay before now text rest → Prints result now after rest → Prints result before after text
ends result {before} {now} after {text} rest u p =
    let P : List ℕ → Type 0 = λ all. Prints result before after all in
    subst P u.whole (Prints-then result after rest u.printed p)

-- the exit of a `?`
pub exits : {T E : Type 0} (Q : E → Type 0) (result : Result T E) {before after : Output} {text : List ℕ}
    → IsErrAnd result Q → IsCut before after text → Prints result before after text
exits Q (Ok done) err p = absurd err
exits Q (Err fault) err p = p
