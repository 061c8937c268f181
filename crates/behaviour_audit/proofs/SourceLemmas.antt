-- What a source allows, and what it chooses.
use Rattle.std.proofs.Common.{◌≡◌, ◌≢◌, ℕ, ◌+◌, ◌<◌, ◌≤◌, ◌⊎◌, ◌↔◌, Bool, true, false, cond, ◌&&◌, List, [], ◌∷◌, length, map, filter, refl, sym, ◌∙◌, ap, ap₂, subst, inl, inr, arith, IsTrue, All}
use Rattle.std.proofs.lemmas.List.Elements.{All-head, All-tail, All-weaker}
use Rattle.std.proofs.Math.Logic.{⊎_elim}
use Rattle.std.proofs.lemmas.List.{length-map}
use Rattle.std.proofs.lemmas.Bool.{cases_eq}
use Rattle.fault_secure.specs.Circuit.{Circuit, bit}
use Rattle.fault_secure.specs.Logic.{Logic, Network, States, Loose, NetworkAnswers, NetworkHas, IsLooseOutput, StateTable, Transition, starts_at, lets_pass, applies, answering, outputs_of_rows, next_of_rows, is_free_next, TableAllows, AllowsOutputs, AllowsNext, IsTransitionOf, IsStateTable, inputs_of, outputs_count}
use Rattle.tsc_cover.specs.Cover.{Literal, accepts}
use Rattle.behaviour_audit.proofs.BitLemmas.{same_items}
use Rattle.behaviour_audit.proofs.WatchLemmas.{settles_alike}
use Rattle.behaviour_audit.specs.Breaks.{AllowsBit}
use Rattle.behaviour_audit.specs.Points.{AreChosen, HasOutputs}
use Rattle.behaviour_audit.specs.Trial.{IsSoundSource}

module _ (M : StateTable) (q : ℕ) (x : List Bool) where
  -- what a machine chooses it allows
  pub chosen_are_allowed : (version : ℕ) (ys : List Bool) → length ys ≡ M.outputs → ys ≡ outputs_of_rows M (answering M q x) → AllowsOutputs (States M) version q x ys
  chosen_are_allowed version ys sized are = record { sized = sized; each = λ place inside. inr (ap (λ (l : List Bool). bit l place) are) }

  -- with the chosen outputs the next state alone is asked
  pub allowed_next : (next version : ℕ) (ys : List Bool) (r : Bool) → version ≡ 2 → length ys ≡ M.outputs → ys ≡ outputs_of_rows M (answering M q x)
      → (IsTrue r ↔ (AllowsOutputs (States M) 2 q x ys × AllowsNext (States M) 2 q x next)) → IsTrue r ↔ AllowsNext (States M) version q x next
  allowed_next next version ys r two sized are says =
      subst (λ (k : ℕ). IsTrue r ↔ AllowsNext (States M) k q x next) (sym two) (λ h. (says.0 h).1, λ h. says.1 (chosen_are_allowed 2 ys sized are, h))

  -- with the chosen next state, and the chosen outputs but one, that output alone is asked
  pub allowed_bit : (place : ℕ) (b : Bool) (ys : List Bool) (next : ℕ) (r : Bool) → place < M.outputs → length ys ≡ M.outputs → bit ys place ≡ b
      → ((k : ℕ) → k < M.outputs → k ≢ place → bit ys k ≡ bit (outputs_of_rows M (answering M q x)) k) → next ≡ next_of_rows M (answering M q x)
      → (IsTrue r ↔ (AllowsOutputs (States M) 2 q x ys × AllowsNext (States M) 2 q x next)) → IsTrue r ↔ AllowsBit (States M) 2 q x place b
  allowed_bit place b ys next r inside sized here others goes says = (
    λ h. subst (λ (c : Bool). AllowsBit (States M) 2 q x place c) here ((says.0 h).0.each place inside),
    λ allowed. says.1 (
      record {
        sized = sized;
        each = λ k below. ⊎_elim
            (λ (same : k ≡ place). subst (λ (j : ℕ). AllowsBit (States M) 2 q x j (bit ys j)) (sym same) (subst (λ (c : Bool). AllowsBit (States M) 2 q x place c) (sym here) allowed))
            (λ (other : k ≢ place). inr (others k below other))
            (cases_eq k place);
      },
      inl goes,
    ),
  )

-- a network has one bit at an output's place
pub one_bit : (C : Circuit) (x chosen : List Bool) (place : ℕ) (b : Bool) → HasOutputs C x chosen → NetworkHas C x place b → bit chosen place ≡ b
one_bit C x chosen place b has allowed =
    ap (λ (l : List Bool). bit l place) has.are
    ∙ (ap (λ (v : List Bool). bit (map (bit v) C.outputs) place) (sym (has.only allowed.valuation allowed.settles))
    ∙ allowed.has)

pub has_bit : (C : Circuit) (x ys : List Bool) (place : ℕ) (b : Bool) → NetworkAnswers C x ys → bit ys place ≡ b → NetworkHas C x place b
has_bit C x ys place b is here = record {
  valuation = is.valuation;
  settles = is.settles;
  has = ap (λ (l : List Bool). bit l place) is.answers ∙ here;
}

-- an output of a loose source is free where the bit that tells of it is 1
pub free_there : (F : Circuit) (x free : List Bool) (place : ℕ) → HasOutputs F x free → bit free place ≡ true → NetworkHas F x place true
free_there F x free place has is = has_bit F x free place true (record { valuation = has.valuation; settles = has.settles; answers = sym has.are }) is

-- outputs each of whose bits is allowed are
pub bits_are_allowed : (M : Logic) (version q : ℕ) (x chosen ys : List Bool) → AreChosen M q x chosen → length ys ≡ outputs_count M → length ys ≡ length chosen
    → ((place : ℕ) → place < length ys → AllowsBit M version q x place (bit ys place)) → AllowsOutputs M version q x ys
bits_are_allowed (Network C) version q x chosen ys has sized alike each = record {
  valuation = has.valuation;
  settles = has.settles;
  answers = sym has.are ∙ same_items chosen ys (sym alike)
      (λ place inside. one_bit C x chosen place (bit ys place) has (each place (omega arith)));
}
bits_are_allowed (States M) version q x chosen ys are sized alike each = record { sized = sized; each = λ place inside. each place (omega arith) }
bits_are_allowed (Loose V F) version q x chosen ys has sized alike each = record {
  chosen = chosen;
  answers = record { valuation = has.valuation; settles = has.settles; answers = sym has.are };
  sized = sized;
  each = λ place inside. unless_free place (each place (omega arith));
}
  where
    unless_free : (place : ℕ) → IsLooseOutput F version x place ⊎ NetworkHas V x place (bit ys place) → IsLooseOutput F version x place ⊎ (bit ys place ≡ bit chosen place)
    unless_free place (inl free) = inl free
    unless_free place (inr allowed) = inr (sym (one_bit V x chosen place (bit ys place) has allowed))

-- and each bit of allowed outputs is
pub allowed_bits : (M : Logic) (version q : ℕ) (x ys : List Bool) (place : ℕ) → place < outputs_count M → AllowsOutputs M version q x ys → AllowsBit M version q x place (bit ys place)
allowed_bits (Network C) version q x ys place inside allowed = has_bit C x ys place (bit ys place) allowed refl
allowed_bits (States M) version q x ys place inside allowed = allowed.each place inside
allowed_bits (Loose V F) version q x ys place inside allowed = unless_free (allowed.each place inside)
  where
    unless_free : IsLooseOutput F version x place ⊎ (bit ys place ≡ bit allowed.chosen place) → IsLooseOutput F version x place ⊎ NetworkHas V x place (bit ys place)
    unless_free (inl free) = inl free
    unless_free (inr same) = inr (has_bit V x allowed.chosen place (bit ys place) allowed.answers (sym same))

-- ---- a source reads as many bits as it has inputs

passes_alike : (x y : List Bool) (i n : ℕ) (row : List Literal) → i + length row ≤ n → ((k : ℕ) → k < n → bit x k ≡ bit y k) → lets_pass i row x ≡ lets_pass i row y
passes_alike x y i n [] few same = refl
passes_alike x y i n (l ∷ row) few same = ap₂ ◌&&◌ (ap (accepts l) (same i (omega arith))) (passes_alike x y (i + 1) n row (omega arith) same)

filter_alike : {X : Type 0} (p q : X → Bool) (xs : List X) → All (λ a. p a ≡ q a) xs → filter p xs ≡ filter q xs
filter_alike p q [] same = refl
filter_alike {X} p q (a ∷ xs) same =
    ap₂ (λ (b : Bool) (rest : List X). cond b (a ∷ rest) rest) (All-head (λ (c : X). p c ≡ q c) a xs same) (filter_alike p q xs (All-tail (λ (c : X). p c ≡ q c) a xs same))

pub answering_alike : (M : StateTable) (q : ℕ) (x y : List Bool) → IsStateTable M → ((k : ℕ) → k < M.inputs → bit x k ≡ bit y k) → answering M q x ≡ answering M q y
answering_alike M q x y table same =
    filter_alike (applies q x) (applies q y) M.rows
    (All-weaker (IsTransitionOf M) (λ (row : Transition). applies q x row ≡ applies q y row)
    (λ row is. let sized = is.input in ap (λ (b : Bool). starts_at row.from q && b) (passes_alike x y 0 M.inputs row.input (omega arith) same)) M.rows table.rows)

pub next_alike : (M : Logic) (version q next : ℕ) (x y : List Bool) → IsSoundSource M → ((k : ℕ) → k < inputs_of M → bit x k ≡ bit y k) → AllowsNext M version q x next → AllowsNext M version q y next
next_alike (Network C) version q next x y sound same allowed = allowed
next_alike (States M) version q next x y table same allowed =
    subst (λ (rows : List Transition). (next ≡ next_of_rows M rows) ⊎ (IsTrue (is_free_next version rows) × (next < M.states))) (answering_alike M q x y table same) allowed
next_alike (Loose V F) version q next x y sound same allowed = allowed

answers_alike : (C : Circuit) (x y ys : List Bool) → ((k : ℕ) → k < C.inputs → bit x k ≡ bit y k) → NetworkAnswers C x ys → NetworkAnswers C y ys
answers_alike C x y ys same is = record {
  valuation = is.valuation;
  settles = settles_alike C (bit x) (bit y) (λ _. false) (λ _. false) is.valuation same (λ l below. refl) is.settles;
  answers = is.answers;
}

has_alike : (C : Circuit) (x y : List Bool) (place : ℕ) (b : Bool) → ((k : ℕ) → k < C.inputs → bit x k ≡ bit y k) → NetworkHas C x place b → NetworkHas C y place b
has_alike C x y place b same is = record {
  valuation = is.valuation;
  settles = settles_alike C (bit x) (bit y) (λ _. false) (λ _. false) is.valuation same (λ l below. refl) is.settles;
  has = is.has;
}

pub outputs_alike : (M : Logic) (version q : ℕ) (x y ys : List Bool) → IsSoundSource M → ((k : ℕ) → k < inputs_of M → bit x k ≡ bit y k) → AllowsOutputs M version q x ys → AllowsOutputs M version q y ys
outputs_alike (Network C) version q x y ys sound same allowed = answers_alike C x y ys same allowed
outputs_alike (States M) version q x y ys table same allowed = subst (λ (rows : List Transition). TableAllows M version rows ys) (answering_alike M q x y table same) allowed
outputs_alike (Loose V F) version q x y ys sound same allowed = record {
  chosen = allowed.chosen;
  answers = answers_alike V x y allowed.chosen same allowed.answers;
  sized = allowed.sized;
  each = λ place inside. free_alike place (allowed.each place inside);
}
  where
    free_alike : (place : ℕ) → IsLooseOutput F version x place ⊎ (bit ys place ≡ bit allowed.chosen place) → IsLooseOutput F version y place ⊎ (bit ys place ≡ bit allowed.chosen place)
    free_alike place (inl free) = inl (free.0, has_alike F x y place true (λ k below. same k (subst (λ (n : ℕ). k < n) sound.inputs below)) free.1)
    free_alike place (inr chosen) = inr chosen

-- allowed outputs are as many as the source has
pub bits_are_counted : (M : Logic) (version q : ℕ) (x ys : List Bool) → AllowsOutputs M version q x ys → length ys ≡ outputs_count M
bits_are_counted (Network C) version q x ys allowed = sym (ap length allowed.answers) ∙ length-map C.outputs (bit allowed.valuation)
bits_are_counted (States M) version q x ys allowed = allowed.sized
bits_are_counted (Loose V F) version q x ys allowed = allowed.sized
