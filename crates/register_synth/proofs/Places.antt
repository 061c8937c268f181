-- The marked places of a stretch, and what they are in a source.
use Rattle.std.proofs.Common.{◌≡◌, ℕ, ◌+◌, ◌<◌, if◌then◌else◌, inl, inr, Bool, true, false, List, [], ◌∷◌, ◌++◌, length, slice_index, Contains, IsTrue, refl, sym, ap, ap₂, ◌∙◌, subst, arith, length-append}
use Rattle.std.proofs.lemmas.Bool.{cases_lt, false≢true}
use Rattle.std.proofs.lemmas.List.{get_or_append_left, get_or-append-add}
use Rattle.std.proofs.lemmas.List.Elements.{Contains-append_left, Contains-append_right}
use Rattle.fault_secure.specs.Circuit.{Circuit, latch_net, node_net, bit}
use Rattle.register_synth.specs.Reaching.{MarksReaching}
use Rattle.register_synth.specs.Kept.{AreKept}
use Rattle.register_synth.specs.inner.Marked.{AreMarked}

-- none of the first 0 places
pub none_marked : (marks : List Bool) (first : ℕ) → AreMarked marks first 0 []
none_marked marks first = record {
  are = record {
    rising = λ i k low within. absurd (omega arith);
    sound = λ k within. absurd (omega arith);
    whole = λ place is. absurd (let h = is.0 in omega arith);
  };
}

module _ (marks : List Bool) (first count : ℕ) (places : List ℕ) (so_far : AreMarked marks first count places) where
  -- one place more that is marked
  one_more : bit marks (first + count) ≡ true → AreMarked marks first (count + 1) (places ++ count ∷ [])
  one_more is = record {
    are = record {
      rising = λ i k low within. elim (cases_lt k (length places)) [
        | inl before ↦ (
            let e = at_left i (omega arith) in let f = at_left k before in let rises = so_far.are.rising i k low before in omega arith)
        | inr end ↦ (
            let count_is = length-append places (count ∷ []) in
            let here : i < length places = omega arith in
            let e = at_left i here in
            let below = (so_far.are.sound i here).0 in
            let f = at_end k (omega arith) in
            omega arith)
      ];
      sound = λ k within. elim (cases_lt k (length places)) [
        | inl before ↦ subst (λ n. (n < count + 1) × IsTrue (bit marks (first + n))) (sym (at_left k before))
            (let below = (so_far.are.sound k before).0 in omega arith, (so_far.are.sound k before).1)
        | inr end ↦ subst (λ n. (n < count + 1) × IsTrue (bit marks (first + n))) (sym (at_end k (let e = length-append places (count ∷ []) in omega arith))) (omega arith, is)
      ];
      whole = λ place marked. elim (cases_lt place count) [
        | inl before ↦ Contains-append_left places (count ∷ []) place (so_far.are.whole place (before, marked.1))
        | inr end ↦ (
            let same : place ≡ count = (let h = marked.0 in omega arith) in
            subst (Contains (places ++ count ∷ [])) (sym same) (Contains-append_right places (count ∷ []) count (0, omega arith, refl)))
      ];
    };
  }
    where
      at_left : (i : ℕ) → i < length places → slice_index (places ++ count ∷ []) i ≡ slice_index places i
      at_left i h = get_or_append_left places (count ∷ []) 0 i h

      at_end : (k : ℕ) → k ≡ length places → slice_index (places ++ count ∷ []) k ≡ count
      at_end k e = let z : k ≡ length places + 0 = omega arith in ap (slice_index (places ++ count ∷ [])) z ∙ get_or-append-add places (count ∷ []) 0 0

  -- one place more that isn't
  same_places : bit marks (first + count) ≡ false → AreMarked marks first (count + 1) places
  same_places clear = record {
    are = record {
      rising = so_far.are.rising;
      sound = λ k within. (let below = (so_far.are.sound k within).0 in omega arith, (so_far.are.sound k within).1);
      whole = λ place marked. elim (cases_lt place count) [
        | inl before ↦ so_far.are.whole place (before, marked.1)
        | inr end ↦ (
            let same : place ≡ count = (let h = marked.0 in omega arith) in
            absurd (false≢true (sym (ap (λ n. bit marks (first + n)) same ∙ clear) ∙ marked.1)))
      ];
    };
  }

  -- one place more
  pub marked_more : (mark : Bool) (next : List ℕ) → mark ≡ bit marks (first + count) → next ≡ (if mark then places ++ count ∷ [] else places)
      → AreMarked marks first (count + 1) next
  marked_more true next is made = subst (AreMarked marks first (count + 1)) (sym made) (one_more (sym is))
  marked_more false next is made = subst (AreMarked marks first (count + 1)) (sym made) (same_places (sym is))

-- the marked registers and covers are those that are kept
pub marked_kept : (C : Circuit) (marks : List Bool) (registers covers : List ℕ) → MarksReaching C C.outputs marks
    → AreMarked marks C.inputs (length C.latches) registers → AreMarked marks (C.inputs + length C.latches) (length C.nodes) covers → AreKept C registers covers
marked_kept C marks registers covers reaching first second = record {
  each_register = record {
    rising = first.are.rising;
    sound = λ k within. (
      (first.are.sound k within).0,
      (reaching.exact (latch_net C (slice_index registers k)) (let h = (first.are.sound k within).0 in omega arith)).0 (first.are.sound k within).1,
    );
    whole = λ place is. first.are.whole place (is.0, (reaching.exact (latch_net C place) (let h = is.0 in omega arith)).1 is.1);
  };
  each_cover = record {
    rising = second.are.rising;
    sound = λ k within. (
      (second.are.sound k within).0,
      (reaching.exact (node_net C (slice_index covers k)) (let h = (second.are.sound k within).0 in omega arith)).0 (second.are.sound k within).1,
    );
    whole = λ place is. second.are.whole place (is.0, (reaching.exact (node_net C place) (let h = is.0 in omega arith)).1 is.1);
  };
}

-- and so as they are found
pub kept_from : (C : Circuit) (roots : List ℕ) (marks seen again : List Bool) (inputs latches nodes : ℕ) (registers covers : List ℕ) → MarksReaching C roots marks → roots ≡ C.outputs
    → seen ≡ marks → again ≡ marks → inputs ≡ C.inputs → latches ≡ length C.latches → nodes ≡ length C.nodes
    → AreMarked seen inputs latches registers → AreMarked again (inputs + latches) nodes covers → AreKept C registers covers
kept_from C roots marks seen again inputs latches nodes registers covers reaching are_outputs same also at_inputs at_latches at_nodes first second =
    marked_kept C marks registers covers (subst (λ ns. MarksReaching C ns marks) are_outputs reaching)
    (subst (λ bits. AreMarked bits C.inputs (length C.latches) registers) same
    (subst (λ n. AreMarked seen n (length C.latches) registers) at_inputs (subst (λ n. AreMarked seen inputs n registers) at_latches first)))
    (subst (λ bits. AreMarked bits (C.inputs + length C.latches) (length C.nodes) covers) also
    (subst (λ n. AreMarked again n (length C.nodes) covers) (ap₂ (λ a b. a + b) at_inputs at_latches)
    (subst (λ n. AreMarked again (inputs + latches) n covers) at_nodes second)))
