-- The first error shows: by steps, while the words have been equal.
use Rattle.std.proofs.Common.{◌≡◌, ℕ, suc, ◌⊎◌, ◌++◌, Bool, true, false, List, [], ◌∷◌, map, take, All, Contains, refl, sym, ap, subst, ◌∙◌, inl, inr}
use Rattle.std.proofs.lemmas.List.Elements.{All-head, All-tail}
use Rattle.fault_secure.specs.Circuit.{Circuit, LatchOf, node_net, bit}
use Rattle.fault_secure.specs.StuckAt.{NoFault}
use Rattle.fault_secure.specs.Settle.{Settles, Acyclic}
use Rattle.fault_secure.specs.Run.{init_state, next_state, latch_reads, RunsFrom}
use Rattle.fault_secure.specs.CodePlan.{CodePlan, next_nets, monitored, word, IsCodeword, IsUnorderedCode}
use Rattle.fault_secure.specs.Structure.{CheckerSettles, IsCodeDisjoint}
use Rattle.fault_secure.specs.FailingCell.{SettlesBut, RunsButFrom}
use Rattle.fault_secure.specs.FaultSecure.{next_in, FirstErrorShows, Shows}
use Rattle.structure_laws.specs.OneWay.{Moves}
use Rattle.structure_laws.specs.FirstError.{NoWrongCodeword, WrongWordsShow, UnateIsSafe}
use Rattle.structure_laws.specs.DisjointCones.{ParityErrorShows}
use Rattle.structure_laws.proofs.FailingCell.{working}
use Rattle.structure_laws.proofs.Outside.{outside_function_keeps_word}
use Rattle.structure_laws.proofs.OneWay.{one_way_errors}
use Rattle.structure_laws.proofs.ParityStep.{same_bit, words_differ, parity_is_safe}
use Rattle.structure_laws.proofs.UnorderedLists.{unordered_codes}
use Rattle.structure_laws.proofs.Words.{same_parts, word_up, word_down}

-- a word moved one way from a codeword to a codeword is the same
one_way_same : (P : CodePlan) (ns : List ℕ) (v u : List Bool) (d : Bool) → IsUnorderedCode P.code
    → ((net : ℕ) → Contains ns net → Moves d (bit v net) (bit u net))
    → IsCodeword P (map (bit v) ns) → IsCodeword P (map (bit u) ns) → map (bit u) ns ≡ map (bit v) ns
one_way_same P ns v u true unordered moves first second =
    sym (unordered_codes P (map (bit v) ns) (map (bit u) ns) unordered first second (word_up (bit v) (bit u) ns moves))
one_way_same P ns v u false unordered moves first second =
    unordered_codes P (map (bit u) ns) (map (bit v) ns) unordered second first (word_down (bit v) (bit u) ns moves)

-- in a unate function under an unordered code no failing cell makes a wrong codeword
pub unate_is_safe : UnateIsSafe
unate_is_safe N P cell acyclic unate unordered x s v u settled held first second =
    let way = one_way_errors N P cell x s v u acyclic unate (working N cell x s v settled) held in
    one_way_same P (monitored N P) v u way.direction unordered way.monitors first second

-- ---- a run without a fault

-- from the state bits s on each step settles, with no marks of where a fault is present
abbrev pub CleanFrom : Circuit → List Bool → List (List Bool) → List (List Bool) → Type 0
CleanFrom N s [] [] = Unit {0}
CleanFrom N s (x ∷ xs) (v ∷ vs) = Settles N NoFault (bit x) (bit s) v × CleanFrom N (next_state N NoFault v) xs vs
CleanFrom N s [] (v ∷ vs) = ⊥
CleanFrom N s (x ∷ xs) [] = ⊥

-- a run without a fault, with whatever marks, is one without marks
pub clean_from : (N : Circuit) (s w : List Bool) (xs vs : List (List Bool)) → RunsFrom N NoFault s w xs vs → CleanFrom N s xs vs
clean_from N s [] [] [] h = tt
clean_from N s [] [] (v ∷ vs) h = absurd h
clean_from N s [] (x ∷ xs) vs h = absurd h
clean_from N s (here ∷ w) [] vs h = absurd h
clean_from N s (here ∷ w) (x ∷ xs) [] h = absurd h
clean_from N s (true ∷ w) (x ∷ xs) (v ∷ vs) h = (h.0, clean_from N (next_state N NoFault v) w xs vs h.1)
clean_from N s (false ∷ w) (x ∷ xs) (v ∷ vs) h = (h.0, clean_from N (next_state N NoFault v) w xs vs h.1)

-- without a fault each latch next holds the bit at its input
next_reads : (N : Circuit) (v : List Bool) (k : ℕ) (ls : List LatchOf) → latch_reads N NoFault v k ls ≡ map (bit v) (map (λ (l : LatchOf). l.reads) ls)
next_reads N v k [] = refl
next_reads N v k (l ∷ ls) = ap (λ z. bit v l.reads ∷ z) (next_reads N v (suc k) ls)

-- without a fault the next state bits are the bits at the inputs of the latches
pub next_clean : (N : Circuit) (v : List Bool) → next_state N NoFault v ≡ next_in N v
next_clean N v = next_reads N v 0 N.latches

-- after equal words the state bits are the same
pub same_next : (N : Circuit) (P : CodePlan) (v u : List Bool) → word N P u ≡ word N P v → next_state N NoFault u ≡ next_state N NoFault v
same_next N P v u same =
    next_clean N u ∙ (same_parts (bit u) (bit v) (take P.outputs N.outputs ++ P.checks) (next_nets N) same).1 ∙ sym (next_clean N v)

-- two words are the same, or they aren't
pub same_word_or_not : (N : Circuit) (P : CodePlan) (u v : List Bool) → (word N P u ≡ word N P v) ⊎ (word N P u ≡ word N P v → ⊥)
same_word_or_not N P u v = elim (words_differ N P u v) [ inl e ↦ inl e | inr d ↦ inr (λ e. d.apart (ap (λ w. bit w d.place) e)) ]

-- ---- one step: a wrong word is no codeword, and so the rails agree, since a failing cell of the checker leaves the word right

module _ (N : Circuit) (P : CodePlan) (cell : ℕ) (acyclic : Acyclic N) (disjoint : IsCodeDisjoint N P) (safe : NoWrongCodeword N P cell) where
  checker_settles : (x s : ℕ → Bool) (v u : List Bool) → Settles N NoFault x s v → SettlesBut N cell x s u → (word N P u ≡ word N P v → ⊥) → CheckerSettles N P u
  checker_settles x s v u settled held wrong = record {
    settles = λ q h checker. held.nodes q h (λ here. wrong (outside_function_keeps_word N P q x s v u acyclic checker.outside
        (working N (node_net N q) x s v settled) (subst (λ c. SettlesBut N c x s u) (sym here) held)));
  }

  step_shows : (x s : ℕ → Bool) (v u : List Bool) → Settles N NoFault x s v → SettlesBut N cell x s u → IsCodeword P (word N P v)
      → (word N P u ≡ word N P v → ⊥) → Shows N P u
  step_shows x s v u settled held codeword wrong =
      let bad : IsCodeword P (word N P u) → ⊥ = λ ok. wrong (safe x s v u settled held codeword ok) in
      record {
        no_codeword = bad;
        rails_agree = elim (same_bit (bit u P.rail1) (bit u P.rail2)) [
          | inl agree ↦ agree
          | inr not_agree ↦ absurd (bad ((disjoint.decides u (checker_settles x s v u settled held wrong)).0 not_agree))
        ];
      }

  run_shows : (xs vs us : List (List Bool)) (s : List Bool) → CleanFrom N s xs vs → RunsButFrom N cell s xs us
      → All (λ v. IsCodeword P (word N P v)) vs → FirstErrorShows N P vs us
  run_shows xs [] us s run held ok = tt
  run_shows xs (v ∷ vs) [] s run held ok = tt
  run_shows [] (v ∷ vs) (u ∷ us) s run held ok = absurd run
  run_shows (x ∷ xs) (v ∷ vs) (u ∷ us) s run held ok = (
    λ same. run_shows xs vs us (next_state N NoFault v) run.1
        (subst (λ z. RunsButFrom N cell z xs us) (same_next N P v u same) held.1) (All-tail (λ v. IsCodeword P (word N P v)) v vs ok),
    λ wrong. step_shows (bit x) (bit s) v u run.0 held.0 (All-head (λ v. IsCodeword P (word N P v)) v vs ok) wrong,
  )

pub first_error_shows : WrongWordsShow
first_error_shows N P cell w xs vs us acyclic disjoint safe run held ok =
    run_shows N P cell acyclic disjoint safe xs vs us (init_state N) (clean_from N (init_state N) w xs vs run) held ok

pub parity_error_shows : ParityErrorShows
parity_error_shows N P cell x s v u parity well plan acyclic cones disjoint is settled before held = elim (same_word_or_not N P u v) [
  | inl same ↦ inl same
  | inr wrong ↦ inr (step_shows N P cell acyclic disjoint (parity_is_safe N P cell parity well plan acyclic cones is) x s v u settled held before wrong)
]
