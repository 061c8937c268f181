-- Nodes that are added to parts and drive the next fresh names, in order.
use Rattle.std.proofs.Common.{◌≡◌, ℕ, zero, suc, ◌+◌, List, [], ◌∷◌, ◌++◌, map, length, refl, sym, ◌∙◌, ap, ap₂, subst, arith, append_assoc, length-append}
use Rattle.std.specs.List.{range_with_len}
use Rattle.std.proofs.lemmas.List.{append-nil, map-append}
use Rattle.tsc_net.specs.Named.{Named, NamedNode}
use Rattle.tsc_net.specs.Parts.{PartsOf, FreshNames, with_fresh, next_fresh, fresh_of, fresh_text}
use Rattle.net_writing.proofs.CheckerShape.{with_nodes}

-- so many fresh names with a number, from a count on
abbrev pub fresh_from : ℕ → ℕ → ℕ → List (List ℕ)
fresh_from number count size = map (fresh_text number) (range_with_len count size)

-- numbers one after another, in two runs
range_joined : (a n m : ℕ) → range_with_len a (n + m) ≡ range_with_len a n ++ range_with_len (a + n) m
range_joined a zero m = ap₂ range_with_len (let e : a ≡ a + 0 = omega arith in e) (let e : 0 + m ≡ m = omega arith in e)
range_joined a (suc n) m =
    ap (range_with_len a) (let e : suc n + m ≡ suc (n + m) = omega arith in e)
    ∙ ap (λ (list : List ℕ). a ∷ list) (range_joined (a + 1) n m
    ∙ ap (λ (b : ℕ). range_with_len (a + 1) n ++ range_with_len b m) (let e : a + 1 + n ≡ a + suc n = omega arith in e))

-- fresh names are those of two runs
pub fresh_joined : (number a n m : ℕ) → fresh_from number a (n + m) ≡ fresh_from number a n ++ fresh_from number (a + n) m
fresh_joined number a n m = ap (map (fresh_text number)) (range_joined a n m) ∙ map-append (fresh_text number) (range_with_len a n) (range_with_len (a + n) m)

-- the fresh names of the parts go on with this number and count
abbrev pub IsFreshAt : ℕ → ℕ → PartsOf → Type 0
IsFreshAt number count p = fresh_of p p.fresh ≡ (let f : FreshNames = record { number = number; next = count } in f)

-- the parts with nodes more, which drive the fresh names from a count on
pub record AddsFresh (number count : ℕ) (p q : PartsOf) (added : List NamedNode) : Type 0 where
  pub named : q.named ≡ with_nodes p.named added
  pub outs : map (λ n. n.out) added ≡ fresh_from number count (length added)
  pub fresh : IsFreshAt number (count + length added) q

-- the next fresh name is that of the number and the count
pub next_is : (number count : ℕ) (p : PartsOf) → IsFreshAt number count p → next_fresh p ≡ fresh_text number count
next_is number count p at = ap (λ (f : FreshNames). fresh_text f.number f.next) at

-- after it fresh names go on with the next count
pub fresh_behind : (number count : ℕ) (p q : PartsOf) → IsFreshAt number count p → q.fresh ≡ (with_fresh p).fresh → IsFreshAt number (count + 1) q
fresh_behind number count p q at is =
    ap (fresh_of q) is ∙ ap (λ (f : FreshNames). let g : FreshNames = record { number = f.number; next = f.next + 1 } in g) at

-- no node more
pub adds_none : (number count : ℕ) (p : PartsOf) → IsFreshAt number count p → AddsFresh number count p p []
adds_none number count p at = record {
  named = ap (λ (list : List NamedNode). let N : Named = p.named in let M : Named = record N { nodes = list } in M) (sym (append-nil p.named.nodes));
  outs = refl;
  fresh = subst (λ (n : ℕ). IsFreshAt number n p) (let e : count ≡ count + 0 = omega arith in e) at;
}

-- one node more, which drives the next fresh name
pub adds_one : (number count : ℕ) (p q : PartsOf) (n : NamedNode) → IsFreshAt number count p → q.named ≡ with_nodes p.named (n ∷ []) → q.fresh ≡ (with_fresh p).fresh → n.out ≡ next_fresh p
    → AddsFresh number count p q (n ∷ [])
adds_one number count p q n at named fresh out = record {
  named = named;
  outs = ap (λ (t : List ℕ). let list : List (List ℕ) = t ∷ [] in list) (out ∙ next_is number count p at);
  fresh = fresh_behind number count p q at fresh;
}

-- some nodes more, and then some more
pub adds_joined : (number count middle : ℕ) (p q r : PartsOf) (xs ys : List NamedNode) → middle ≡ count + length xs → AddsFresh number count p q xs → AddsFresh number middle q r ys
    → AddsFresh number count p r (xs ++ ys)
adds_joined number count middle p q r xs ys is one two = record {
  named = two.named ∙ ap (λ (N : Named). with_nodes N ys) one.named
      ∙ ap (λ (list : List NamedNode). let N : Named = p.named in let M : Named = record N { nodes = list } in M) (append_assoc p.named.nodes xs ys);
  outs = map-append (λ (n : NamedNode). n.out) xs ys
      ∙ ap₂ (λ (a b : List (List ℕ)). a ++ b) one.outs (two.outs ∙ ap (λ (m : ℕ). fresh_from number m (length ys)) is)
      ∙ sym (fresh_joined number count (length xs) (length ys))
      ∙ ap (fresh_from number count) (sym (length-append xs ys));
  fresh = subst (λ (n : ℕ). IsFreshAt number n r) (let e : middle + length ys ≡ count + length (xs ++ ys) = omega (arith, is, length-append xs ys) in e) two.fresh;
}
