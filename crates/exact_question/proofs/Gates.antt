-- The clauses of a gate hold where its variable has the gate's bit.
use Rattle.std.proofs.Common.{◌≡◌, Bool, true, false, not, ◌&&◌, ◌||◌, List, [], ◌∷◌, ◌++◌, map, All, Contains, refl, sym, ap, ap₂, ◌∙◌}
use Rattle.std.specs.List.{list_all}
use Rattle.std.proofs.lemmas.Bool.{and_parts, or_parts, or_left, or_right, false≢true}
use Rattle.std.proofs.lemmas.List.Elements.{All-nil, All-cons, All-head, All-tail, All-append}
use Rattle.tsc_bits.specs.Counting.{differ}
use Rattle.refutations.specs.Clauses.{same}
use Rattle.exact_question.specs.Variables.{Variable}
use Rattle.exact_question.specs.Gates.{Claim, yes, no, negated, holds, some_holds, and_clauses, or_clauses, xor_clauses}
use Rattle.exact_question.proofs.Written.{IsGood}

same_not : (a b : Bool) → same a (not b) ≡ not (same a b)
same_not true true = refl
same_not true false = refl
same_not false true = refl
same_not false false = refl

pub same_true : (a : Bool) → same a true ≡ a
same_true true = refl
same_true false = refl

pub same_false : (a : Bool) → same a false ≡ not a
same_false true = refl
same_false false = refl

not_both : (a b : Bool) → (not a || not b) ≡ not (a && b)
not_both true b = refl
not_both false b = refl

module _ (vs : List Variable) (m : Variable → Bool) where
  abbrev pub Knows : Claim → Type 0
  Knows c = Contains vs c.variable

  abbrev pub Good : List (List Claim) → Type 0
  Good clauses = All (IsGood vs m) clauses

  pub good_nil : Good []
  good_nil = All-nil (IsGood vs m)

  pub good_cons : (c : List Claim) (cs : List (List Claim)) → All Knows c → some_holds m c ≡ true → Good cs → Good (c ∷ cs)
  good_cons c cs known holds rest = All-cons (IsGood vs m) c cs (record { known = known; true_ = holds }) rest

  pub good_append : (cs ds : List (List Claim)) → Good cs → Good ds → Good (cs ++ ds)
  good_append cs ds first second = All-append (IsGood vs m) cs ds first second

  pub know_one : (a : Claim) → Knows a → All Knows (a ∷ [])
  know_one a x = All-cons Knows a [] x (All-nil Knows)

  pub know_two : (a b : Claim) → Knows a → Knows b → All Knows (a ∷ b ∷ [])
  know_two a b x y = All-cons Knows a (b ∷ []) x (know_one b y)

  know_three : (a b c : Claim) → Knows a → Knows b → Knows c → All Knows (a ∷ b ∷ c ∷ [])
  know_three a b c x y z = All-cons Knows a (b ∷ c ∷ []) x (know_two b c y z)

  pub negated_holds : (c : Claim) → holds m (negated c) ≡ not (holds m c)
  negated_holds c = same_not (m c.variable) c.wants

  -- ---- exclusive or

  xor_holds : (n a b p q : Bool) → n ≡ differ a b → p ≡ not a → q ≡ not b
      → ((same n false || (a || (b || false))) ≡ true) × ((same n false || (p || (q || false))) ≡ true)
      × ((same n true || (p || (b || false))) ≡ true) × ((same n true || (a || (q || false))) ≡ true)
  xor_holds n a b p q is np nq = rw (is, np, nq) (by a b)
    where
      by : (a b : Bool) → ((same (differ a b) false || (a || (b || false))) ≡ true) × ((same (differ a b) false || (not a || (not b || false))) ≡ true)
          × ((same (differ a b) true || (not a || (b || false))) ≡ true) × ((same (differ a b) true || (a || (not b || false))) ≡ true)
      by true true = (refl, refl, refl, refl)
      by true false = (refl, refl, refl, refl)
      by false true = (refl, refl, refl, refl)
      by false false = (refl, refl, refl, refl)

  pub xor_good : (v : Variable) (a b : Claim) → Contains vs v → Knows a → Knows b → m v ≡ differ (holds m a) (holds m b) → Good (xor_clauses v a b)
  xor_good v a b in_v in_a in_b is =
      let all = xor_holds (m v) (holds m a) (holds m b) (holds m (negated a)) (holds m (negated b)) is (negated_holds a) (negated_holds b) in
      let c1 : List Claim = no v ∷ a ∷ b ∷ [] in let c2 : List Claim = no v ∷ negated a ∷ negated b ∷ [] in
      let c3 : List Claim = yes v ∷ negated a ∷ b ∷ [] in let c4 : List Claim = yes v ∷ a ∷ negated b ∷ [] in
      good_cons c1 (c2 ∷ c3 ∷ c4 ∷ []) (know_three (no v) a b in_v in_a in_b) all.0
      (good_cons c2 (c3 ∷ c4 ∷ []) (know_three (no v) (negated a) (negated b) in_v in_a in_b) all.1
      (good_cons c3 (c4 ∷ []) (know_three (yes v) (negated a) b in_v in_a in_b) all.2
      (good_cons c4 [] (know_three (yes v) a (negated b) in_v in_a in_b) all.3 good_nil)))

  -- ---- and

  know_negated : (cs : List Claim) → All Knows cs → All Knows (map negated cs)
  know_negated [] known = All-nil Knows
  know_negated (c ∷ cs) known = All-cons Knows (negated c) (map negated cs) (All-head Knows c cs known) (know_negated cs (All-tail Knows c cs known))

  some_negated : (cs : List Claim) → some_holds m (map negated cs) ≡ not (list_all (holds m) cs)
  some_negated [] = refl
  some_negated (c ∷ cs) = ap₂ (λ a b. a || b) (negated_holds c) (some_negated cs) ∙ not_both (holds m c) (list_all (holds m) cs)

  if_so : (n c : Bool) → (n ≡ true → c ≡ true) → (same n false || (c || false)) ≡ true
  if_so true true so = refl
  if_so true false so = so refl
  if_so false c so = refl

  and_each : (v : Variable) (cs : List Claim) → Contains vs v → All Knows cs → (m v ≡ true → list_all (holds m) cs ≡ true) → Good (map (λ c. no v ∷ c ∷ []) cs)
  and_each v [] in_v known so = good_nil
  and_each v (c ∷ cs) in_v known so =
      good_cons (no v ∷ c ∷ []) (map (λ c. no v ∷ c ∷ []) cs) (know_two (no v) c in_v (All-head Knows c cs known)) (if_so (m v) (holds m c) (λ e. (and_parts (holds m c) (list_all (holds m) cs) (so e)).0))
      (and_each v cs in_v (All-tail Knows c cs known) (λ e. (and_parts (holds m c) (list_all (holds m) cs) (so e)).1))

  or_not : (n b : Bool) → b ≡ not n → (same n true || b) ≡ true
  or_not true b is = refl
  or_not false b is = is

  pub and_good : (v : Variable) (cs : List Claim) → Contains vs v → All Knows cs → m v ≡ list_all (holds m) cs → Good (and_clauses v cs)
  and_good v cs in_v known is =
      good_append (map (λ c. no v ∷ c ∷ []) cs) ((yes v ∷ map negated cs) ∷ []) (and_each v cs in_v known (λ e. sym is ∙ e))
      (good_cons (yes v ∷ map negated cs) [] (All-cons Knows (yes v) (map negated cs) in_v (know_negated cs known))
      (or_not (m v) (some_holds m (map negated cs)) (some_negated cs ∙ ap not (sym is))) good_nil)

  -- ---- or

  or_each : (out : Claim) (cs : List Claim) → Knows out → All Knows cs → (holds m out ≡ false → some_holds m cs ≡ false) → Good (map (λ c. out ∷ negated c ∷ []) cs)
  or_each out [] in_out known so = good_nil
  or_each out (c ∷ cs) in_out known so =
      good_cons (out ∷ negated c ∷ []) (map (λ c. out ∷ negated c ∷ []) cs) (know_two out (negated c) in_out (All-head Knows c cs known))
      (by (holds m out) (holds m c) (holds m (negated c)) (negated_holds c) (λ e. (or_parts (holds m c) (some_holds m cs) (so e)).0))
      (or_each out cs in_out (All-tail Knows c cs known) (λ e. (or_parts (holds m c) (some_holds m cs) (so e)).1))
    where
      by : (o c n : Bool) → n ≡ not c → (o ≡ false → c ≡ false) → (o || (n || false)) ≡ true
      by true c n is so = refl
      by false true n is so = absurd (false≢true (sym (so refl)))
      by false false n is so = ap (λ b. b || false) is

  pub or_good : (out : Claim) (cs : List Claim) → Knows out → All Knows cs → holds m out ≡ some_holds m cs → Good (or_clauses out cs)
  or_good out cs in_out known is =
      good_append (map (λ c. out ∷ negated c ∷ []) cs) ((negated out ∷ cs) ∷ []) (or_each out cs in_out known (λ e. sym is ∙ e))
      (good_cons (negated out ∷ cs) [] (All-cons Knows (negated out) cs in_out known)
      (by (holds m out) (holds m (negated out)) (some_holds m cs) (negated_holds out) is) good_nil)
    where
      by : (o n s : Bool) → n ≡ not o → o ≡ s → (n || s) ≡ true
      by true n s no_o so = or_right n s (sym so)
      by false n s no_o so = or_left n s no_o
