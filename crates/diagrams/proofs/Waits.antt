-- What waits on the stack.
use Rattle.std.proofs.Common.{◌≡◌, ℕ, zero, suc, ◌+◌, ◌-◌, ◌<◌, ◌≤◌, min, Bool, true, false, cond, nat_eq, inl, Err, List, [], ◌∷◌, ◌++◌, length, refl, sym, ap, ◌∙◌, subst, arith}
use Rattle.std.specs.List.{sum_by}
use Rattle.std.specs.Result.{IsErrOf}
use Rattle.diagrams.specs.declared.error.BuildError.{BuildError}
use Rattle.diagrams.specs.declared.decision.Decision.{Decision}
use Rattle.diagrams.specs.declared.memo.Operation.{Operation}
use Rattle.diagrams.specs.declared.waiting.Waiting.{Waiting}
use Rattle.diagrams.specs.declared.waiting.Task.{Task}
use Rattle.diagrams.specs.declared.waiting.Task.TheVariants.{Build, Built}
use Rattle.diagrams.specs.Decisions.{row, step, IsAt, IsDiagram}
use Rattle.diagrams.specs.Cofactors.{Function, Same, IsCofactorOfOne}
use Rattle.diagrams.specs.Building.{DiagramState, combined_rows, choice, Extends, StandsFor, AreMade}
use Rattle.diagrams.specs.Waiting.{first_half, second_half, IsWaiting, Wait, IsFor, IsUnderWay, cost, wait_cost}
use Rattle.diagrams.proofs.CofactorLemmas.{IsCofactor-same, of_one-same, of_one-cofactor, half_is_cofactor, choice-combined, IsAt-combined}
use Rattle.diagrams.proofs.Walks.{IsAt-step}
use Rattle.diagrams.proofs.Growing.{value-kept, combined-kept, IsAt-kept, step-inside}

-- one more wait
pub Wait-push : (state : DiagramState) (operation : Operation) (ws : List Waiting) (f g : ℕ) (w : Waiting) → Wait state operation ws f g w.first w.second → IsWaiting state operation w →
    Wait state operation (ws ++ w ∷ []) f g (first_half state.rows w) (second_half state.rows w)
Wait-push state operation [] f g w h is = (h.0, h.1, is, (refl, refl))
Wait-push state operation (v ∷ vs) f g w h is = (h.0, h.1, h.2, Wait-push state operation vs _ _ w h.3 is)

-- the last wait, and those below it
pub Wait-pop : (state : DiagramState) (operation : Operation) (ws : List Waiting) (f g a b : ℕ) (w : Waiting) → Wait state operation (ws ++ w ∷ []) f g a b →
    Wait state operation ws f g w.first w.second × IsWaiting state operation w × (first_half state.rows w ≡ a) × (second_half state.rows w ≡ b)
Wait-pop state operation [] f g a b w h = ((h.0, h.1), h.2, h.3.0, h.3.1)
Wait-pop state operation (v ∷ vs) f g a b w h =
    let below = Wait-pop state operation vs _ _ a b w h.3 in
    ((h.0, h.1, h.2, below.0), below.1, below.2, below.3)

-- what the last of the stack waits for is a cofactor of what its bottom is for
pub Wait-cofactor : (state : DiagramState) (operation : Operation) (ws : List Waiting) (f g a b : ℕ) (fs : List Function) → IsDiagram state.inputs state.rows → Wait state operation ws f g a b →
    IsCofactorOfOne state.inputs fs (combined_rows operation state.rows f g) → IsCofactorOfOne state.inputs fs (combined_rows operation state.rows a b)
Wait-cofactor state operation [] f g a b fs D h one =
    subst (λ (k : ℕ). IsCofactorOfOne state.inputs fs (combined_rows operation state.rows a k)) h.1 (subst (λ (k : ℕ). IsCofactorOfOne state.inputs fs (combined_rows operation state.rows k g)) h.0 one)
Wait-cofactor state operation (w ∷ ws) f g a b fs D h one =
    let here = subst (λ (k : ℕ). IsCofactorOfOne state.inputs fs (combined_rows operation state.rows w.first k)) h.1 (subst (λ (k : ℕ). IsCofactorOfOne state.inputs fs (combined_rows operation state.rows k g)) h.0 one) in
    Wait-cofactor state operation ws _ _ a b fs D h.3
    (of_one-cofactor state.inputs fs _ _ here (half_is_cofactor state.inputs state.rows D operation w.level w.first w.second w.has_low h.2.first h.2.second h.2.inside))

-- a row stays where a function has it
pub stands_kept : (old new : DiagramState) (f g : Function) (k : ℕ) → IsDiagram old.inputs old.rows → Extends old.rows new.rows → new.inputs ≡ old.inputs →
    ((x : List Bool) → g x ≡ f x) → StandsFor old f k → StandsFor new g k
stands_kept old new f g k D more same agree stands = record {
  node = let a = stands.node in let b = more.longer in omega arith;
  is = record { at = λ x sized. value-kept old.inputs old.rows new.rows D more k x stands.node ∙ (stands.is.at x (sized ∙ same) ∙ sym (agree x)) };
}

-- the function that an operation makes of old rows has its row
pub combined_stands : (old new : DiagramState) (operation : Operation) (a b k : ℕ) → IsDiagram old.inputs old.rows → Extends old.rows new.rows → new.inputs ≡ old.inputs →
    a < length old.rows → b < length old.rows → StandsFor new (combined_rows operation old.rows a b) k → StandsFor new (combined_rows operation new.rows a b) k
combined_stands old new operation a b k D more same node_a node_b stands = record {
  node = stands.node;
  is = record { at = λ x sized. stands.is.at x sized ∙ sym (combined-kept old.inputs old.rows new.rows D more operation a b x node_a node_b) };
}

step-kept : (old new : List Decision) → Extends old new → (level k : ℕ) (b : Bool) → k < length old → step new level k b ≡ step old level k b
step-kept old new more level k b node = ap (λ (d : Decision). cond (nat_eq d.input level) (cond b d.high d.low) k) (more.kept k node)

IsWaiting-kept : (old new : DiagramState) (operation : Operation) (w : Waiting) → IsDiagram old.inputs old.rows → Extends old.rows new.rows → new.inputs ≡ old.inputs →
    IsWaiting old operation w → IsWaiting new operation w
IsWaiting-kept old new operation w D more same is = record {
  inside = let i = is.inside in omega arith;
  first = IsAt-kept old.rows new.rows more w.level w.first is.first;
  second = IsAt-kept old.rows new.rows more w.level w.second is.second;
  low = λ has.
      let one = step-kept old.rows new.rows more w.level w.first false is.first.node in
      let other = step-kept old.rows new.rows more w.level w.second false is.second.node in
      let in_one = step-inside old.inputs old.rows D w.level w.first false is.first.node in
      let in_other = step-inside old.inputs old.rows D w.level w.second false is.second.node in
      stands_kept old new _ (combined_rows operation new.rows (step new.rows w.level w.first false) (step new.rows w.level w.second false)) w.low D more same
      (λ x. ap (λ k. combined_rows operation new.rows k (step new.rows w.level w.second false) x) one
      ∙ (ap (λ k. combined_rows operation new.rows (step old.rows w.level w.first false) k x) other
      ∙ combined-kept old.inputs old.rows new.rows D more operation _ _ x in_one in_other))
      (is.low has);
}

-- what waits stays
pub Wait-kept : (old new : DiagramState) (operation : Operation) (ws : List Waiting) (f g a b : ℕ) → IsDiagram old.inputs old.rows → Extends old.rows new.rows → new.inputs ≡ old.inputs →
    Wait old operation ws f g a b → Wait new operation ws f g a b
Wait-kept old new operation [] f g a b D more same h = h
Wait-kept old new operation (w ∷ ws) f g a b D more same h =
    let later = Wait-kept old new operation ws _ _ a b D more same h.3 in
    let one = step-kept old.rows new.rows more w.level w.first w.has_low h.2.first.node in
    let other = step-kept old.rows new.rows more w.level w.second w.has_low h.2.second.node in (
      h.0,
      h.1,
      IsWaiting-kept old new operation w D more same h.2,
      subst (λ (k : ℕ). Wait new operation ws k (second_half new.rows w) a b) (sym one) (subst (λ (k : ℕ). Wait new operation ws (first_half old.rows w) k a b) (sym other) later),
    )

-- what is made for its own sake
pub made_alone : (old new : DiagramState) (f : Function) → ((fs : List Function) → IsCofactorOfOne old.inputs fs f → AreMade old new fs) → AreMade old new (f ∷ [])
made_alone old new f made = made (f ∷ []) (inl (IsCofactor-same old.inputs f f (record { at = λ x sized. refl })))

pub cost-suc : (n : ℕ) → cost (suc n) ≡ 2 + (cost n + cost n)
unfolding cost
cost-suc n = refl

pub cost-positive : (n : ℕ) → 2 ≤ cost n
unfolding cost
cost-positive zero = omega arith
cost-positive (suc n) = omega arith

cost-add : (m k : ℕ) → cost m ≤ cost (m + k)
cost-add m zero = let e : m + 0 ≡ m = omega arith in let same = ap cost e in omega arith
cost-add m (suc k) = let e : m + suc k ≡ suc (m + k) = omega arith in let same = ap cost e in let before = cost-add m k in let after = cost-suc (m + k) in omega arith

cost-le : (m n : ℕ) → m ≤ n → cost m ≤ cost n
cost-le m n below = let e : m + (n - m) ≡ n = omega arith in let same = ap cost e in let add = cost-add m (n - m) in omega arith

-- the halves cost less than the whole
pub cost-halves : (inputs level least : ℕ) → level < inputs → suc level ≤ least → (cost (inputs - least) ≤ cost (inputs - suc level)) × (cost (inputs - level) ≡ 2 + (cost (inputs - suc level) + cost (inputs - suc level)))
cost-halves inputs level least inside later =
    let e : inputs - level ≡ suc (inputs - suc level) = omega arith in
    (cost-le (inputs - least) (inputs - suc level) (omega arith), ap cost e ∙ cost-suc (inputs - suc level))

-- a task that is done costs less than one that isn't
pub built_less : (sum n : ℕ) → sum + 1 < sum + cost n
built_less sum n = let p = cost-positive n in omega arith

-- to wait for the low halves and to combine them costs less than the whole
pub low_less : (sum_new sum_old inputs level least own : ℕ) → level < inputs → suc level ≤ least → level ≡ own → sum_new ≡ sum_old + (1 + cost (inputs - suc level)) →
    sum_new + cost (inputs - least) < sum_old + cost (inputs - own)
low_less sum_new sum_old inputs level least own inside later same pushed =
    let h = cost-halves inputs level least inside later in let e = ap (λ n. cost (inputs - n)) same in omega (arith, h.0, h.1)

-- to wait for the high halves and to combine them costs less than to wait for the low ones
pub high_less : (sum_new sum_old inputs level least waited : ℕ) → level < inputs → suc level ≤ least → waited ≡ 1 + cost (inputs - suc level) → sum_new ≡ sum_old + 1 →
    sum_new + cost (inputs - least) < sum_old + waited + 1
high_less sum_new sum_old inputs level least waited inside later same pushed = let h = cost-halves inputs level least inside later in omega (arith, h.0)

-- the first input of the halves is a later one
pub halves_later : (state : DiagramState) (operation : Operation) (w : Waiting) (a b : ℕ) → IsDiagram state.inputs state.rows → IsWaiting state operation w → a ≡ first_half state.rows w → b ≡ second_half state.rows w →
    suc w.level ≤ min (row state.rows a).input (row state.rows b).input
halves_later state operation w a b D is same_a same_b =
    let at_a = (IsAt-step state.inputs state.rows D w.level w.first w.has_low is.first is.inside).above in
    let at_b = (IsAt-step state.inputs state.rows D w.level w.second w.has_low is.second is.inside).above in
    let e_a = ap (λ k. (row state.rows k).input) same_a in
    let e_b = ap (λ k. (row state.rows k).input) same_b in
    omega arith

-- rows that wait, and then their halves
pub under_way : (state : DiagramState) (operation : Operation) (old new : List Waiting) (f g : ℕ) (w : Waiting) (a b : ℕ) → IsWaiting state operation w → Wait state operation old f g w.first w.second →
    new ≡ old ++ w ∷ [] → a ≡ first_half state.rows w → b ≡ second_half state.rows w → a < length state.rows → b < length state.rows → IsUnderWay state operation f g new (Build a b)
under_way state operation old new f g w a b is wait pushed same_a same_b node_a node_b = record {
  a = first_half state.rows w;
  b = second_half state.rows w;
  wait = subst (λ (ws : List Waiting). Wait state operation ws f g (first_half state.rows w) (second_half state.rows w)) (sym pushed) (Wait-push state operation old f g w wait is);
  for = (sym same_a, sym same_b, omega arith, omega arith);
}

-- the row of a half decides no input up to the level of the wait
pub half_at : (state : DiagramState) (operation : Operation) (w : Waiting) (b : Bool) (k : ℕ) → IsDiagram state.inputs state.rows → IsWaiting state operation w →
    StandsFor state (combined_rows operation state.rows (step state.rows w.level w.first b) (step state.rows w.level w.second b)) k → IsAt state.rows (suc w.level) k
half_at state operation w b k D is stands =
    IsAt-combined state.inputs state.rows D operation (suc w.level) _ _ k (let i = is.inside in omega arith)
    (IsAt-step state.inputs state.rows D w.level w.first b is.first is.inside) (IsAt-step state.inputs state.rows D w.level w.second b is.second is.inside) stands.node stands.is

-- the choice between the halves is the whole
pub whole_choice : (state : DiagramState) (operation : Operation) (w : Waiting) (high : ℕ) → IsDiagram state.inputs state.rows → IsWaiting state operation w → w.has_low ≡ true →
    StandsFor state (combined_rows operation state.rows (first_half state.rows w) (second_half state.rows w)) high →
    Same state.inputs (choice state.rows w.level w.low high) (combined_rows operation state.rows w.first w.second)
whole_choice state operation w high D is has stands =
    let high_stands = subst (λ (b : Bool). StandsFor state (combined_rows operation state.rows (step state.rows w.level w.first b) (step state.rows w.level w.second b)) high) has stands in
    choice-combined state.inputs state.rows D operation w.level w.first w.second w.low high is.first is.second is.inside (is.low has).is high_stands.is

-- a function with the same values has the same row
pub stands_same : (state : DiagramState) (f g : Function) (inputs k : ℕ) → state.inputs ≡ inputs → Same inputs f g → StandsFor state f k → StandsFor state g k
stands_same state f g inputs k e same stands = record { node = stands.node; is = record { at = λ x sized. stands.is.at x sized ∙ same.at x (sized ∙ e) } }

-- what was waited for is there: what is below it, and the rows that it is for
pub popped : (state : DiagramState) (operation : Operation) (f g : ℕ) (ws rest : List Waiting) (w : Waiting) (task : Task) (r : ℕ) → IsUnderWay state operation f g ws task → task ≡ Built r → ws ≡ rest ++ w ∷ [] →
    Wait state operation rest f g w.first w.second × IsWaiting state operation w × StandsFor state (combined_rows operation state.rows (first_half state.rows w) (second_half state.rows w)) r
popped state operation f g ws rest w task r way built last =
    let wait = subst (λ (xs : List Waiting). Wait state operation xs f g way.a way.b) last way.wait in
    let stands = subst (λ (t : Task). IsFor state operation way.a way.b t) built way.for in
    let below = Wait-pop state operation rest f g way.a way.b w wait in (
      below.0,
      below.1,
      subst (λ (k : ℕ). StandsFor state (combined_rows operation state.rows k (second_half state.rows w)) r) (sym below.2)
          (subst (λ (k : ℕ). StandsFor state (combined_rows operation state.rows way.a k) r) (sym below.3) stands),
    )

-- a row that is there costs no more than its wait
pub finish_less : (old new : ℕ) (ws : List Waiting) (w : Waiting) → new ≡ old → w.has_low ≡ true → sum_by (wait_cost new) ws + 1 < sum_by (wait_cost old) ws + wait_cost old w + 1
finish_less old new ws w same has =
    let e = ap (λ n. sum_by (wait_cost n) ws) same in
    let one : wait_cost old w ≡ 1 = ap (λ t. cond t 1 (1 + cost (old - suc w.level))) has in
    omega arith

-- an error is the same, whatever the value would have been
pub same_error : {A B : Type 0} (e f : BuildError) → IsErrOf {T = A} (Err e) f → IsErrOf {T = B} (Err e) f
same_error e f same = let inner : e ≡ f = cc in ap Err inner

-- what functions need stays needed
pub needed_later : (old new : DiagramState) (operation : Operation) (f g : ℕ) (fs : List Function) → IsDiagram old.inputs old.rows → AreMade old new fs → f < length old.rows → g < length old.rows →
    IsCofactorOfOne old.inputs fs (combined_rows operation old.rows f g) → IsCofactorOfOne new.inputs fs (combined_rows operation new.rows f g)
needed_later old new operation f g fs D made node_f node_g needed =
    subst (λ (i : ℕ). IsCofactorOfOne i fs (combined_rows operation new.rows f g)) (sym made.inputs)
    (of_one-same old.inputs fs _ _ needed (record { at = λ x sized. combined-kept old.inputs old.rows new.rows D made.extends operation f g x node_f node_g }))

-- the function that an operation makes of new rows is that of the old ones
pub stands_before : (old new : DiagramState) (operation : Operation) (f g k : ℕ) → IsDiagram old.inputs old.rows → Extends old.rows new.rows → f < length old.rows → g < length old.rows →
    StandsFor new (combined_rows operation new.rows f g) k → StandsFor new (combined_rows operation old.rows f g) k
stands_before old new operation f g k D more node_f node_g stands = record {
  node = stands.node;
  is = record { at = λ x sized. stands.is.at x sized ∙ combined-kept old.inputs old.rows new.rows D more operation f g x node_f node_g };
}
