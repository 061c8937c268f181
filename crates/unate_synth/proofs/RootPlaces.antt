-- Roots of a word, place by place: each place's name is a source's, or that of a root with the line of a place with this name.
use Rattle.std.proofs.Common.{◌≡◌, ℕ, ◌+◌, ◌<◌, ◌⊎◌, inl, inr, List, [], ◌∷◌, ◌++◌, length, slice_index_or, All, Contains, refl, sym, ◌∙◌, ap, subst, arith}
use Rattle.std.proofs.lemmas.Bool.{cases_lt}
use Rattle.std.proofs.lemmas.List.Elements.{All-nil, All-push, All-weaker, Contains-append_left, Contains-push, Contains-get_or}
use Rattle.tsc_net.specs.declared.ids.Name.{Name}
use Rattle.gate_net.specs.declared.line.Line.{Line}
use Rattle.gate_net.specs.declared.root.Root.{Root}
use Rattle.net_writing.specs.Names.{name_at}
use Rattle.unate_synth.specs.declared.roots.SourceNames.{SourceNames}
use Rattle.unate_synth.specs.Roots.{line_at, IsSourceNumber, AddsRootOrNot, IsTaken, IsRooted, IsOfPlace, AreRooted}

-- names with the same number are the same
same_number : (a b : Name) → a.number ≡ b.number → a ≡ b
same_number a b e = ap (λ (n : ℕ). let name : Name = record { number = n } in name) e

-- no place yet
pub rooted_none : (sources : SourceNames) (roots : List Root) (lines : List Line) (word : List Name) → roots ≡ [] → AreRooted sources roots lines word 0
rooted_none sources roots lines word none = record {
  places = subst (All (IsOfPlace lines word 0)) (sym none) (All-nil (IsOfPlace lines word 0));
  rooted = λ i low. absurd (omega arith);
}

-- one place more, whose root came where its name isn't taken
module _ (sources : SourceNames) (old new : List Root) (lines : List Line) (word : List Name) (place : ℕ) (root : Root) (before : AreRooted sources old lines word place) (lt : place < length lines)
    (is : root ≡ record { name = name_at word place; line = line_at lines place }) where
  -- a root of an earlier place is one before the next place too
  wider : (r : Root) → IsOfPlace lines word place r → IsOfPlace lines word (place + 1) r
  wider r (j, low, e) = (j, omega arith, e)

  -- so are all roots that were there
  all_wider : All (IsOfPlace lines word (place + 1)) old
  all_wider = All-weaker (IsOfPlace lines word place) (IsOfPlace lines word (place + 1)) wider old before.places

  -- an earlier place stays rooted where the roots stay
  rooted_kept : ((r : Root) → Contains old r → Contains new r) → (i : ℕ) → i < place → IsRooted sources new lines word i
  rooted_kept keeps i low = by (before.rooted i low)
    where
      by : IsRooted sources old lines word i → IsRooted sources new lines word i
      by (inl s) = inl s
      by (inr (j, within, same, c)) = inr (j, within, same, keeps (record { name = name_at word j; line = line_at lines j }) c)

  -- one place more is rooted, and the earlier ones stay so
  with_place : ((r : Root) → Contains old r → Contains new r) → All (IsOfPlace lines word (place + 1)) new → IsRooted sources new lines word place → AreRooted sources new lines word (place + 1)
  with_place keeps places here = record {
    places = places;
    rooted = λ i low. elim (cases_lt i place) [
      | inl early ↦ rooted_kept keeps i early
      | inr late ↦ (let at : place ≡ i = omega arith in subst (IsRooted sources new lines word) at here)
    ];
  }

  -- the root of the place came
  came : new ≡ old ++ root ∷ [] → AreRooted sources new lines word (place + 1)
  came e =
      let there : Contains new root = subst (λ (rs : List Root). Contains rs root) (sym e) (Contains-push old root) in
      with_place (λ r c. subst (λ (rs : List Root). Contains rs r) (sym e) (Contains-append_left old (root ∷ []) r c))
      (subst (All (IsOfPlace lines word (place + 1))) (sym e) (All-push (IsOfPlace lines word (place + 1)) old root all_wider (place, omega arith, is)))
      (inr (place, lt, refl, subst (Contains new) is there))

  -- no root came, since the name was taken: the place is rooted by what has the name
  taken : new ≡ old → IsTaken sources old root → IsRooted sources new lines word place
  taken e (inl s) = inl (subst (λ (r : Root). IsSourceNumber sources r.name.number) is s)
  taken e (inr (k, low, same)) =
      let none : Root = record { name = record { number = 0 }; line = record { number = 0 } } in
      let at : IsOfPlace lines word place (slice_index_or old k none) = before.places k none low in
      let c : Contains old (record { name = name_at word at.0; line = line_at lines at.0 }) = subst (Contains old) at.2 (Contains-get_or old k none low) in
      let names : name_at word at.0 ≡ name_at word place
      = same_number (name_at word at.0) (name_at word place) (ap (λ (r : Root). r.name.number) (sym at.2) ∙ same ∙ ap (λ (r : Root). r.name.number) is) in
      let early = at.1 in
      inr (at.0, omega (arith, early, lt), names, subst (λ (rs : List Root). Contains rs (record { name = name_at word at.0; line = line_at lines at.0 })) (sym e) c)

  -- the place is rooted, and the earlier ones stay so
  pub rooted_more : AddsRootOrNot sources old new root → IsTaken sources old root ⊎ (new ≡ old ++ root ∷ []) → AreRooted sources new lines word (place + 1)
  rooted_more added (inr e) = came e
  rooted_more (inr adds) (inl t) = came adds.pushed
  rooted_more (inl e) (inl t) =
      with_place (λ r c. subst (λ (rs : List Root). Contains rs r) (sym e) c) (subst (All (IsOfPlace lines word (place + 1))) (sym e) all_wider) (taken e t)
