-- Without registers: words are outputs and checks, and each step of the source is an answer of the network.
use Rattle.std.proofs.Common.{◌≡◌, ℕ, zero, suc, ◌+◌, ◌<◌, ◌==◌, if◌then◌else◌, Bool, false, List, [], ◌∷◌, ◌++◌, map, take, drop, length, position, Some, slice_index_or, IsTrue, refl, sym, ap, ◌∙◌, subst, arith, length-append, length-take}
use Rattle.std.proofs.lemmas.List.{length-map, length-drop}
use Rattle.std.proofs.lemmas.List.Elements.{All-nil}
use Rattle.tsc_bits.specs.Counting.{odd, ones}
use Rattle.fault_secure.specs.declared.code.Code.TheVariants.{Parity}
use Rattle.fault_secure.specs.Circuit.{Circuit, LatchOf, bit}
use Rattle.fault_secure.specs.StuckAt.{NoFault}
use Rattle.fault_secure.specs.Settle.{Settles}
use Rattle.fault_secure.specs.Run.{init_state, next_state, Runs, HasOneRun}
use Rattle.fault_secure.specs.CodePlan.{CodePlan, next_nets, word, next_of, bits_at, members, IsChecked, IsCodeword}
use Rattle.fault_secure.specs.Logic.{Network}
use Rattle.fault_secure.specs.FailingCell.{IsCell, RunsBut}
use Rattle.fault_secure.specs.FaultSecure.{outputs_in, equal_bits, state_at, FollowsFrom, FirstErrorShows, IsFlagged, at_step}
use Rattle.structure_laws.proofs.FirstErrors.{CleanFrom, clean_from}
use Rattle.register_laws.specs.RegisterPlan.{front_nets, front, IsOdd}
use Rattle.register_laws.specs.RegisterSecure.{shown, ErrorsShow}
use Rattle.register_laws.specs.Networks.{unwatched, NetworksAreCellSecure}
use Rattle.register_laws.proofs.Secure.{run_sized}

append_none : (ns ms : List ℕ) → ms ≡ [] → ns ++ ms ≡ ns
append_none [] ms e = e
append_none (n ∷ ns) ms e = ap (λ rest. n ∷ rest) (append_none ns ms e)

ones_none : (bits : List Bool) → length bits ≡ 0 → ones bits ≡ 0
ones_none [] e = refl
ones_none (b ∷ bits) e = absurd (omega arith)

no_states : (P : CodePlan) (s : List Bool) → P.latches ≡ 0 → state_at P s ≡ Some 0
no_states P s none = ap (λ n. if n == 0 then Some 0 else position (equal_bits s) P.states) none

-- without latches a source settles whatever state bits it is given
settles_so : (S : Circuit) (x s : ℕ → Bool) (w : List Bool) → S.latches ≡ [] → Settles S NoFault x s w → Settles S NoFault x (λ _. false) w
settles_so S x s w none h = record { sized = h.sized; inputs = h.inputs; latches = λ l low. absurd (omega (arith, low, ap length none)); nodes = h.nodes }

settles_at : (S : Circuit) → S.latches ≡ [] → (s : List Bool) (xs ws : List (List Bool)) → CleanFrom S s xs ws → (step : ℕ) → step < length xs
    → Settles S NoFault (bit (at_step xs step)) (λ _. false) (at_step ws step)
settles_at S none s [] ws run step low = absurd (omega arith)
settles_at S none s (x ∷ xs) [] run step low = absurd run
settles_at S none s (x ∷ xs) (w ∷ ws) run zero low = settles_so S (bit x) (bit s) w none run.0
settles_at S none s (x ∷ xs) (w ∷ ws) run (suc step) low = settles_at S none (next_state S NoFault w) xs ws run.1 step (omega arith)

module _ (S N : Circuit) (P : CodePlan) (no_register : S.latches ≡ []) (no_latch : N.latches ≡ []) (parity : P.code ≡ Parity) (stateless : P.latches ≡ 0) (weightless : P.weight ≡ 0) where
  -- ---- words

  is_front : (v : List Bool) → word N P v ≡ front N (unwatched P) v
  is_front v = ap (map (bit v)) (append_none (front_nets N (unwatched P)) (next_nets N) (ap (map (λ (l : LatchOf). l.reads)) no_latch))

  codeword : (v : List Bool) → IsOdd N (unwatched P) v → IsCodeword P (word N P v)
  codeword v odd_front = record {
    checked = subst (λ code. IsChecked code P (word N P v)) (sym parity)
        (λ k d low. subst (λ w. IsTrue (odd (bits_at w (slice_index_or (members P) k d)))) (sym (is_front v)) (odd_front.groups k d low));
    weighed = ones_none (next_of P (word N P v)) short ∙ sym weightless;
  }
    where
      short : length (next_of P (word N P v)) ≡ 0
      short =
          let whole : length (word N P v) ≡ length (take P.outputs N.outputs) + length P.checks =
          ap length (is_front v) ∙ length-map (front_nets N (unwatched P)) (bit v) ∙ length-append (take P.outputs N.outputs) P.checks in
          let first = length-drop P.outputs (word N P v) in
          let second = length-drop (length P.checks) (drop P.outputs (word N P v)) in
          let outputs = length-take P.outputs N.outputs in
          omega arith

  odd_of : (v : List Bool) → IsCodeword P (word N P v) → IsOdd N (unwatched P) v
  odd_of v code = record {
    groups = λ k d low. subst (λ w. IsTrue (odd (bits_at w (slice_index_or (members P) k d)))) (is_front v)
        ((subst (λ c. IsChecked c P (word N P v)) parity code.checked) k d low);
    watched = All-nil (λ nets. IsTrue (odd (bits_at v nets)));
  }

  -- ---- runs

  follow_from : (xs ws vs : List (List Bool)) (s r : List Bool) → CleanFrom S r xs ws → CleanFrom N s xs vs
      → map (outputs_in N P) vs ≡ map (shown S) ws → FollowsFrom (Network S) N P s xs vs
  follow_from [] ws vs s r source run same = tt
  follow_from (x ∷ xs) ws [] s r source run same = tt
  follow_from (x ∷ xs) [] (v ∷ vs) s r source run same = absurd source
  follow_from (x ∷ xs) (w ∷ ws) (v ∷ vs) s r source run same = (
    record {
      here = 0;
      next = 0;
      traced = no_states P s stateless;
      arrives = no_states P _ stateless;
      outputs = record { valuation = w; settles = settles_so S (bit x) (bit r) w no_register source.0; answers = cc };
      next_allowed = refl;
    },
    follow_from xs ws vs (next_state N NoFault v) (next_state S NoFault w) source.1 run.1 (cc),
  )

  first_from : (xs vs us : List (List Bool)) → length vs ≡ length xs → ErrorsShow N (unwatched P) xs vs us → FirstErrorShows N P vs us
  first_from xs [] us long shows = tt
  first_from xs (v ∷ vs) [] long shows = tt
  first_from [] (v ∷ vs) (u ∷ us) long shows = absurd (omega arith)
  first_from (x ∷ xs) (v ∷ vs) (u ∷ us) long shows = (
    λ same. first_from xs vs us (omega arith) (λ step low. shows (suc step) (omega arith)),
    λ wrong. (let error = shows 0 (omega arith) (λ same. wrong (is_front u ∙ same ∙ sym (is_front v))) in
        record { no_codeword = λ code. error.not_odd (odd_of u code); rails_agree = error.rails_agree }),
  )

-- no step is marked
abbrev marks : List (List Bool) → List Bool
marks xs = map (λ _. false) xs

pub networks_are_cell_secure : NetworksAreCellSecure
networks_are_cell_secure S N P no_register no_latch parity stateless weightless secure = record {
  one_run = secure.one_run;
  one_run_but = secure.one_run_but;
  follows = λ w xs vs run. record {
    starts = no_states P (init_state N) stateless;
    steps = follow_from S N P no_register no_latch parity stateless weightless xs (source xs).run vs (init_state N) (init_state S)
        (clean_from S (init_state S) (marks xs) xs (source xs).run (source xs).runs) (clean_from N (init_state N) w xs vs run)
        (secure.follows (marks xs) w xs (source xs).run vs (source xs).runs run);
  };
  quiet = λ w xs vs run k d low. (let calm = secure.quiet (marks xs) w xs (source xs).run vs (source xs).runs run k d low in
      record {
        codeword = codeword S N P no_register no_latch parity stateless weightless (slice_index_or vs k d) calm.odd;
        rails_differ = calm.rails_differ;
      });
  flagged = λ cell w xs vs us is run held. flagged cell w xs vs us is run held;
}
  where
    source : (xs : List (List Bool)) → HasOneRun S NoFault (marks xs) xs
    source xs = secure.source_runs (marks xs) xs (length-map xs (λ _. false))

    flagged : (cell : ℕ) (w : List Bool) (xs vs us : List (List Bool)) → IsCell N cell → Runs N NoFault w xs vs → RunsBut N cell xs us → IsFlagged (Network S) N P xs vs us
    flagged cell w xs vs us is run held =
        let heard = secure.heard cell (marks xs) w xs (source xs).run vs us is (source xs).runs run held in
        record {
          first_error = first_from S N P no_register no_latch parity stateless weightless xs vs us
              (run_sized N (init_state N) xs vs (clean_from N (init_state N) w xs vs run)) heard.errors_show;
          no_silent_error = λ step q low traced wrong. heard.no_wrong_output step low (λ right. wrong (record {
            valuation = at_step (source xs).run step;
            settles = settles_at S no_register (init_state S) xs (source xs).run (clean_from S (init_state S) (marks xs) xs (source xs).run (source xs).runs) step low;
            answers = sym right;
          }));
        }
