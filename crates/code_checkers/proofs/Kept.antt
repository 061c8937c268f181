-- What places of a draft mean is kept as it grows.
use Rattle.std.specs.Prelude.{◌≡◌, ℕ, ◌<◌, List, [], ◌∷◌, ◌++◌, length, slice_index_or, get_or, refl}
use Rattle.std.specs.List.{AllByRecursion}
use Rattle.std.proofs.Common.{sym, ◌∙◌, ap, subst, arith}
use Rattle.std.proofs.lemmas.List.{map-append, get_or-map}
use Rattle.std.proofs.lemmas.List.Elements.{recursion_from_All, All-push}
use Rattle.code_checkers.specs.declared.gate.CheckGate.{CheckGate}
use Rattle.code_checkers.specs.declared.pair_places.PairPlaces.{PairPlaces}
use Rattle.code_checkers.specs.Signal.{Signal, Pair}
use Rattle.code_checkers.specs.Gates.{meaning}
use Rattle.code_checkers.specs.Draft.{AreWithin, meanings, Keeps, IsAdded, AreAdded, pair_at, PairIsWithin, pairs_at, PairsAreWithin, PairIsAdded, PairsAreAdded}

pub Keeps-refl : (gates : List CheckGate) → Keeps gates gates
Keeps-refl gates = record { grows = omega arith; same = λ place h. refl }

pub Keeps-trans : {a b c : List CheckGate} → Keeps a b → Keeps b c → Keeps a c
Keeps-trans {a} {b} {c} h k = record {
  grows = omega (arith, h.grows, k.grows);
  same = λ place lt. k.same place (omega (arith, h.grows)) ∙ h.same place lt;
}

meanings_kept_by : {a b : List CheckGate} → Keeps a b → (places : List ℕ) → AllByRecursion (λ place. place < length a) places → meanings b places ≡ meanings a places
meanings_kept_by h [] all = refl
meanings_kept_by {a} {b} h (p ∷ places) all = ap (λ s. s ∷ meanings b places) (h.same p all.0) ∙ ap (λ ss. meaning a p ∷ ss) (meanings_kept_by h places all.1)

-- what a list of places means is kept
pub meanings_kept : {a b : List CheckGate} → Keeps a b → (places : List ℕ) → AreWithin a places → meanings b places ≡ meanings a places
meanings_kept h places within = meanings_kept_by h places (recursion_from_All _ places within)

pub AreWithin_kept : {a b : List CheckGate} → Keeps a b → (places : List ℕ) → AreWithin a places → AreWithin b places
AreWithin_kept h places within = λ k d lt. omega (arith, h.grows, within k d lt)

pub pair_kept : {a b : List CheckGate} → Keeps a b → (p : PairPlaces) → PairIsWithin a p → pair_at b p ≡ pair_at a p
pair_kept {a} {b} h p within =
    ap (λ (s : Signal). let made : Pair = record { first = s; second = meaning b p.second } in made) (h.same p.first within.0)
    ∙ ap (λ (s : Signal). let made : Pair = record { first = meaning a p.first; second = s } in made) (h.same p.second within.1)

pub PairIsWithin_kept : {a b : List CheckGate} → Keeps a b → (p : PairPlaces) → PairIsWithin a p → PairIsWithin b p
PairIsWithin_kept h p within = (omega (arith, h.grows, within.0), omega (arith, h.grows, within.1))

pairs_kept_by : {a b : List CheckGate} → Keeps a b → (ps : List PairPlaces) → AllByRecursion (PairIsWithin a) ps → pairs_at b ps ≡ pairs_at a ps
pairs_kept_by h [] all = refl
pairs_kept_by {a} {b} h (p ∷ ps) all = ap (λ s. s ∷ pairs_at b ps) (pair_kept h p all.0) ∙ ap (λ ss. pair_at a p ∷ ss) (pairs_kept_by h ps all.1)

pub pairs_kept : {a b : List CheckGate} → Keeps a b → (ps : List PairPlaces) → PairsAreWithin a ps → pairs_at b ps ≡ pairs_at a ps
pairs_kept h ps within = pairs_kept_by h ps (recursion_from_All _ ps within)

pub PairsAreWithin_kept : {a b : List CheckGate} → Keeps a b → (ps : List PairPlaces) → PairsAreWithin a ps → PairsAreWithin b ps
PairsAreWithin_kept h ps within = λ k d lt. PairIsWithin_kept h (slice_index_or ps k d) (within k d lt)

-- one pair more
pub pairs_pushed : (a b c : List CheckGate) (next next' : List PairPlaces) (p : PairPlaces) (pair : Pair)
    → Keeps a b → PairsAreWithin b next → PairIsAdded b c pair p → next' ≡ next ++ p ∷ [] → PairsAreAdded a c (pairs_at b next ++ pair ∷ []) next'
pairs_pushed a b c next next' p pair k within added e =
    subst (λ (ps : List PairPlaces). PairsAreAdded a c (pairs_at b next ++ pair ∷ []) ps) (sym e) (record {
      mean = map-append (pair_at c) next (p ∷ []) ∙ ap (λ ps. ps ++ pair_at c p ∷ []) (pairs_kept added.keeps next within) ∙ ap (λ q. pairs_at b next ++ q ∷ []) added.means;
      within = All-push (PairIsWithin c) next p (PairsAreWithin_kept added.keeps next within) added.within;
      keeps = Keeps-trans k added.keeps;
    })

-- one signal more
pub signals_pushed : (a b c : List CheckGate) (next next' : List ℕ) (place : ℕ) (signal : Signal)
    → Keeps a b → AreWithin b next → IsAdded b c signal place → next' ≡ next ++ place ∷ [] → AreAdded a c (meanings b next ++ signal ∷ []) next'
signals_pushed a b c next next' place signal k within added e =
    subst (λ (places : List ℕ). AreAdded a c (meanings b next ++ signal ∷ []) places) (sym e) (record {
      mean = map-append (meaning c) next (place ∷ []) ∙ ap (λ ss. ss ++ meaning c place ∷ []) (meanings_kept added.keeps next within) ∙ ap (λ s. meanings b next ++ s ∷ []) added.means;
      within = All-push (λ p. p < length c) next place (AreWithin_kept added.keeps next within) added.within;
      keeps = Keeps-trans k added.keeps;
    })

-- the pair at a place of a list, seen in a later draft
pub pair_read : (a b : List CheckGate) (ps : List PairPlaces) (i : ℕ) (d : PairPlaces) → Keeps a b → PairsAreWithin a ps → i < length ps
    → get_or (pairs_at a ps) i (pair_at a d) ≡ pair_at b (get_or ps i d)
pair_read a b ps i d k within lt = get_or-map (pair_at a) ps i d (pair_at a d) lt ∙ sym (pair_kept k (get_or ps i d) (within i d lt))

-- the signal at a place of a list, seen in a later draft
pub signal_read : (a b : List CheckGate) (places : List ℕ) (i d : ℕ) → Keeps a b → AreWithin a places → i < length places
    → get_or (meanings a places) i (meaning a d) ≡ meaning b (get_or places i d)
signal_read a b places i d k within lt = get_or-map (meaning a) places i d (meaning a d) lt ∙ sym (k.same (get_or places i d) (within i d lt))

-- the two signals of a pair that was added
pub first_added : (a b : List CheckGate) (pair : Pair) (p : PairPlaces) → PairIsAdded a b pair p → IsAdded a b pair.first p.first
first_added a b pair p h = record { means = ap (λ (q : Pair). q.first) h.means; within = h.within.0; keeps = h.keeps }

pub second_added : (a b : List CheckGate) (pair : Pair) (p : PairPlaces) → PairIsAdded a b pair p → IsAdded a b pair.second p.second
second_added a b pair p h = record { means = ap (λ (q : Pair). q.second) h.means; within = h.within.1; keeps = h.keeps }

pub pair_from : (a b c d : List CheckGate) (x y : Signal) (p : PairPlaces) → Keeps a b → IsAdded b c x p.first → IsAdded c d y p.second → PairIsAdded a d (record { first = x; second = y }) p
pair_from a b c d x y p k first second = record {
  means =
      ap (λ (s : Signal). let made : Pair = record { first = s; second = meaning d p.second } in made) (second.keeps.same p.first first.within ∙ first.means)
      ∙ ap (λ (s : Signal). let made : Pair = record { first = x; second = s } in made) second.means;
  within = (omega (arith, first.within, second.keeps.grows), second.within);
  keeps = Keeps-trans k (Keeps-trans first.keeps second.keeps);
}
