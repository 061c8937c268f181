-- Parts as predictors are written: what they keep, their fresh names, and the names that nets are given.
use Rattle.std.proofs.Common.{◌≡◌, ℕ, zero, suc, ◌+◌, ◌<◌, ◌≤◌, inl, inr, List, [], ◌∷◌, ◌++◌, length, slice_index, slice_set, All, take, drop, Result, Ok, Err, OnOk, OnErr, refl, sym, ◌∙◌, ap, subst, arith, append_assoc, length-append}
use Rattle.std.proofs.lemmas.Bool.{cases_lt}
use Rattle.std.proofs.lemmas.List.{append-nil, drop_all, take_all, get_or_append_left, get_or-set_same, get_or-set_other, length-set}
use Rattle.std.proofs.lemmas.List.Elements.{All-weaker}
use Rattle.tsc_cover.specs.Cover.{CoverTable}
use Rattle.tsc_net.specs.Names.{text_at}
use Rattle.tsc_net.specs.Parts.{PartsOf, with_fresh, next_fresh, with_node}
use Rattle.tsc_net.specs.PartsView.{text_of, texts_of, IsName}
use Rattle.tsc_net.specs.declared.ids.Name.{Name}
use Rattle.tsc_net.proofs.NameLemmas.{text_at-push, text_at-last}
use Rattle.tsc_bits.proofs.Lists.{map_agrees}
use Rattle.parity_code.specs.Held.{PartsGrow}
use Rattle.parity_code.specs.Predictors.{with_fresh_names, fresh_after}
use Rattle.parity_code.specs.PredictorSteps.{Rise, no_name, name_at, given}

-- parts that hold what they held, and perhaps more
pub grows_not : (p : PartsOf) → PartsGrow p p
grows_not p = record {
  added = [];
  more = [];
  nodes = sym (append-nil p.named.nodes);
  names = sym (append-nil p.names);
  model = refl;
  inputs = refl;
  outputs = refl;
  latches = refl;
}

pub grows_same : (p q : PartsOf) → q ≡ p → PartsGrow p q
grows_same p q e = subst (PartsGrow p) (sym e) (grows_not p)

-- parts that grew twice have grown
pub grows_twice : (a b c : PartsOf) → PartsGrow a b → PartsGrow b c → PartsGrow a c
grows_twice a b c one two = record {
  added = one.added ++ two.added;
  more = one.more ++ two.more;
  nodes = two.nodes ∙ ap (λ l. l ++ two.added) one.nodes ∙ append_assoc a.named.nodes one.added two.added;
  names = two.names ∙ ap (λ l. l ++ two.more) one.names ∙ append_assoc a.names one.more two.more;
  model = two.model ∙ one.model;
  inputs = two.inputs ∙ one.inputs;
  outputs = two.outputs ∙ one.outputs;
  latches = two.latches ∙ one.latches;
}

fresh_grows : (p : PartsOf) → PartsGrow p (with_fresh p)
fresh_grows p = record {
  added = [];
  more = next_fresh p ∷ [];
  nodes = sym (append-nil p.named.nodes);
  names = refl;
  model = refl;
  inputs = refl;
  outputs = refl;
  latches = refl;
}

pub grows_fresh : (p q : PartsOf) → q ≡ with_fresh p → PartsGrow p q
grows_fresh p q e = subst (PartsGrow p) (sym e) (fresh_grows p)

node_grows : (p : PartsOf) (reads : List (List ℕ)) (out : List ℕ) (cover : CoverTable) → PartsGrow p (with_node p reads out cover)
node_grows p reads out cover = record {
  added = record { reads = reads; out = out; cover = cover } ∷ [];
  more = [];
  nodes = refl;
  names = sym (append-nil p.names);
  model = refl;
  inputs = refl;
  outputs = refl;
  latches = refl;
}

pub grows_node : (p q : PartsOf) (reads : List (List ℕ)) (out : List ℕ) (cover : CoverTable) → q ≡ with_node p reads out cover → PartsGrow p q
grows_node p q reads out cover e = subst (PartsGrow p) (sym e) (node_grows p reads out cover)

-- what holds whether a call answered Ok or Err
pub either_way : {T E : Type 0} (r : Result T E) (P Q G : Type 0) → (P → G) → (Q → G) → OnOk r P → OnErr r Q → G
either_way (Ok x) P Q G ok err is is_not = ok is
either_way (Err e) P Q G ok err is is_not = err is_not

-- a slice is written back whole
pub written_back : {A : Type 0} (new old : List A) (count : ℕ) → count ≡ length old → length new ≡ length old → take count (new ++ drop (length new) old) ≡ new
written_back new old count counted same =
    let none : drop (length new) old ≡ [] = drop_all (length new) old (omega arith) in
    ap (λ list. take count (new ++ list)) none ∙ ap (take count) (append-nil new) ∙ take_all count new (omega arith)

-- the names that were there, and their texts
pub names_longer : (p q : PartsOf) → PartsGrow p q → length p.names ≤ length q.names
names_longer p q g = omega (arith, ap length g.names, length-append p.names g.more)

-- a name that was there keeps its text
pub text_kept : (p q : PartsOf) (number : ℕ) → PartsGrow p q → number < length p.names → text_at q.names number ≡ text_at p.names number
text_kept p q number g there = ap (λ l. text_at l number) g.names ∙ get_or_append_left p.names g.more [] number there

-- names that were there are there still
pub names_stay : (p q : PartsOf) (list : List Name) → PartsGrow p q → All (IsName p.names) list → All (IsName q.names) list
names_stay p q list g all = All-weaker (IsName p.names) (IsName q.names) (λ n h. omega (arith, names_longer p q g)) list all

-- names that were there keep their texts
pub texts_stay : (p q : PartsOf) (list : List Name) → PartsGrow p q → All (IsName p.names) list → texts_of q.names list ≡ texts_of p.names list
texts_stay p q list g all = map_agrees (IsName p.names) (text_of q.names) (text_of p.names) (λ n h. text_kept p q n.number g h) list all

-- so many fresh names
pub fresh_names_grow : (count : ℕ) (p : PartsOf) → PartsGrow p (with_fresh_names count p)
fresh_names_grow zero p = grows_not p
fresh_names_grow (suc count) p = grows_twice p (with_fresh_names count p) (with_fresh (with_fresh_names count p)) (fresh_names_grow count p) (fresh_grows (with_fresh_names count p))

-- with so many fresh names there are so many names more
pub fresh_names_count : (count : ℕ) (p : PartsOf) → length (with_fresh_names count p).names ≡ length p.names + count
fresh_names_count zero p = omega arith
fresh_names_count (suc count) p =
    let q : PartsOf = with_fresh_names count p in
    omega (arith, fresh_names_count count p, length-append q.names (next_fresh q ∷ []))

-- fresh names leave what is named as it was
pub fresh_names_named : (count : ℕ) (p : PartsOf) → (with_fresh_names count p).named ≡ p.named
fresh_names_named zero p = refl
fresh_names_named (suc count) p = fresh_names_named count p

-- the text of the fresh name that came after k others
pub fresh_name_at : (count k : ℕ) (p : PartsOf) → k < count → text_at (with_fresh_names count p).names (length p.names + k) ≡ fresh_after p k
fresh_name_at zero k p low = absurd (omega arith)
fresh_name_at (suc count) k p low =
    let q : PartsOf = with_fresh_names count p in
    let counted : length q.names ≡ length p.names + count = fresh_names_count count p in
    elim (cases_lt k count) [
      | inl before ↦ text_at-push q.names (next_fresh q) (length p.names + k) (omega arith) ∙ fresh_name_at count k p before
      | inr here ↦ (
          let at : k ≡ count = omega arith in
          let last : length p.names + k ≡ length q.names = omega arith in
          ap (text_at (q.names ++ next_fresh q ∷ [])) last ∙ text_at-last q.names (next_fresh q) ∙ ap (fresh_after p) (sym at))
    ]

-- names that are given to the nets of nodes
pub length-given : (inputs : ℕ) (names : List Name) (places : List ℕ) (number : ℕ) → length (given inputs names places number) ≡ length names
length-given inputs names [] number = refl
length-given inputs names (place ∷ places) number =
    length-given inputs (slice_set names (inputs + place) (record { number = number })) places (number + 1) ∙ length-set names (inputs + place) (record { number = number })

-- a net that isn't given a name keeps its own
pub given-other : (inputs : ℕ) (names : List Name) (places : List ℕ) (number net : ℕ)
    → ((k : ℕ) → k < length places → net ≡ inputs + slice_index places k → ⊥) → name_at (given inputs names places number) net ≡ name_at names net
given-other inputs names [] number net other = refl
given-other inputs names (place ∷ places) number net other =
    given-other inputs (slice_set names (inputs + place) (record { number = number })) places (number + 1) net (λ k low e. other (suc k) (omega arith) e)
    ∙ get_or-set_other names (inputs + place) net (record { number = number }) no_name (other 0 (omega arith))

-- the node at the k-th of rising places gives its net the k-th of these names
pub given-at : (inputs : ℕ) (names : List Name) (places : List ℕ) (number k : ℕ) → Rise places → k < length places
    → ((i : ℕ) → i < length places → inputs + slice_index places i < length names)
    → name_at (given inputs names places number) (inputs + slice_index places k) ≡ record { number = number + k }
given-at inputs names [] number k rise low within = absurd (omega arith)
given-at inputs names (place ∷ places) number zero rise low within =
    let none : number ≡ number + 0 = omega arith in
    given-other inputs (slice_set names (inputs + place) (record { number = number })) places (number + 1) (inputs + place)
    (λ i there e. (let less : place < slice_index places i = rise 0 (suc i) (omega arith) (omega arith) in absurd (omega arith)))
    ∙ get_or-set_same names (inputs + place) (record { number = number }) no_name (within 0 (omega arith))
    ∙ ap (λ (n : ℕ). let name : Name = record { number = n } in name) none
given-at inputs names (place ∷ places) number (suc k) rise low within =
    let next : number + 1 + k ≡ number + suc k = omega arith in
    let sized : length (slice_set names (inputs + place) (record { number = number })) ≡ length names = length-set names (inputs + place) (record { number = number }) in
    given-at inputs (slice_set names (inputs + place) (record { number = number })) places (number + 1) k
    (λ i j less there. rise (suc i) (suc j) (omega arith) (omega arith)) (omega arith) (λ i there. omega (arith, within (suc i) (omega arith), sized))
    ∙ ap (λ (n : ℕ). let name : Name = record { number = n } in name) next
