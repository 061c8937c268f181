-- What is secure stays secure when it is mapped cover by cover: each of its parts, moved.
use Rattle.std.proofs.Common.{◌≡◌, ℕ, zero, suc, ◌+◌, ◌<◌, Bool, true, false, List, [], ◌∷◌, map, length, take, drop, All, refl, sym, ap, subst, ◌∙◌, arith}
use Rattle.std.proofs.lemmas.List.{length-map, get_or-map}
use Rattle.std.proofs.lemmas.List.Elements.{All-nil, All-cons, All-head, All-tail}
use Rattle.tsc_bits.specs.Bits.{binary}
use Rattle.tsc_bits.specs.Counting.{ones, zeros}
use Rattle.fault_secure.specs.declared.code.Code.{Code}
use Rattle.fault_secure.specs.declared.code.Code.TheVariants.{Parity, Berger, MOutOfN}
use Rattle.fault_secure.specs.Circuit.{Circuit, nets, bit}
use Rattle.fault_secure.specs.StuckAt.{NoFault, present}
use Rattle.fault_secure.specs.Settle.{Settles}
use Rattle.fault_secure.specs.Run.{init_state, next_state, Runs, RunsFrom}
use Rattle.fault_secure.specs.CodePlan.{CodePlan, word, outputs_of, IsChecked, IsCodeword, RailsAgree}
use Rattle.fault_secure.specs.Logic.{Logic, AllowsOutputs}
use Rattle.fault_secure.specs.FaultSecure.{outputs_in, state_at, StepFollows, FollowsFrom, IsQuiet, Shows, FirstErrorShows, states_from, at_step, AlarmBy, NoSilentError}
use Rattle.fault_secure.proofs.OneRun.{one_run}
use Rattle.structure_laws.proofs.FirstErrors.{CleanFrom, clean_from}
use Rattle.structure_laws.proofs.FailingCell.{one_run_but_a_cell}
use Rattle.structure_laws.proofs.Joined.{cell_secure_is_fault_secure}
use Rattle.mapping_laws.specs.Mapping.{IsMapped, moved_plan, as_mapped}
use Rattle.mapping_laws.specs.FailingBlock.{cell_at, RunsButBlockFrom}
use Rattle.mapping_laws.specs.MappingLaws.{BlockSecureIsCellSecure, MappedIsBlockSecure, MappedIsCellSecure, MappedIsFaultSecure}
use Rattle.mapping_laws.proofs.MappedBits.{same_latches, same_init, mapped_bit, same_outputs, same_next_in, same_next, same_words}
use Rattle.mapping_laws.proofs.FailingBlocks.{working_from, runs_as_cell, runs_of_block, cell_is_cell}
use Rattle.mapping_laws.proofs.OneRunBut.{one_run_but_block}

-- ---- a plan asks the same of a word as the moved plan, which has as many checks

to_checked : (at : ℕ → ℕ) (P : CodePlan) (w : List Bool) (code : Code) → IsChecked code P w → IsChecked code (moved_plan at P) w
to_checked at P w Parity h = h
to_checked at P w Berger h = subst (λ n. binary (take n (drop P.outputs w)) ≡ zeros (outputs_of P w)) (sym (length-map P.checks at)) h
to_checked at P w MOutOfN h = subst (λ n. ones (outputs_of P w) + ones (take n (drop P.outputs w)) ≡ P.outputs) (sym (length-map P.checks at)) h

from_checked : (at : ℕ → ℕ) (P : CodePlan) (w : List Bool) (code : Code) → IsChecked code (moved_plan at P) w → IsChecked code P w
from_checked at P w Parity h = h
from_checked at P w Berger h = subst (λ n. binary (take n (drop P.outputs w)) ≡ zeros (outputs_of P w)) (length-map P.checks at) h
from_checked at P w MOutOfN h = subst (λ n. ones (outputs_of P w) + ones (take n (drop P.outputs w)) ≡ P.outputs) (length-map P.checks at) h

to_codeword : (at : ℕ → ℕ) (P : CodePlan) (w : List Bool) → IsCodeword P w → IsCodeword (moved_plan at P) w
to_codeword at P w h = record {
  checked = to_checked at P w P.code h.checked;
  weighed = ap (λ n. ones (drop n (drop P.outputs w))) (length-map P.checks at) ∙ h.weighed;
}

from_codeword : (at : ℕ → ℕ) (P : CodePlan) (w : List Bool) → IsCodeword (moved_plan at P) w → IsCodeword P w
from_codeword at P w h = record {
  checked = from_checked at P w P.code h.checked;
  weighed = ap (λ n. ones (drop n (drop P.outputs w))) (sym (length-map P.checks at)) ∙ h.weighed;
}

module _ (N G : Circuit) (at block : ℕ → ℕ) (m : IsMapped N G at block) where
  -- ---- as many valuations as inputs, each of the circuit's size

  abbrev AllSized : List (List Bool) → Type 0
  AllSized vs = (step : ℕ) → step < length vs → length (at_step vs step) ≡ nets G

  sized_more : (v : List Bool) (vs : List (List Bool)) → length v ≡ nets G → AllSized vs → AllSized (v ∷ vs)
  sized_more v vs first rest zero h = first
  sized_more v vs first rest (suc step) h = rest step (omega arith)

  sized_clean : (s : List Bool) (xs vs : List (List Bool)) → CleanFrom G s xs vs → AllSized vs
  sized_clean s [] [] h = λ step l. absurd (omega arith)
  sized_clean s [] (v ∷ vs) h = absurd h
  sized_clean s (x ∷ xs) [] h = absurd h
  sized_clean s (x ∷ xs) (v ∷ vs) h =
      let settled : Settles G NoFault (bit x) (bit s) v = h.0 in
      sized_more v vs settled.sized (sized_clean (next_state G NoFault v) xs vs h.1)

  sized_failing : (cell : ℕ) (s : List Bool) (xs us : List (List Bool)) → RunsButBlockFrom N G block cell s xs us → AllSized us
  sized_failing cell s [] [] h = λ step l. absurd (omega arith)
  sized_failing cell s [] (u ∷ us) h = absurd h
  sized_failing cell s (x ∷ xs) [] h = absurd h
  sized_failing cell s (x ∷ xs) (u ∷ us) h = sized_more u us h.0.sized (sized_failing cell (next_state G NoFault u) xs us h.1)

  long_failing : (cell : ℕ) (s : List Bool) (xs us : List (List Bool)) → RunsButBlockFrom N G block cell s xs us → length us ≡ length xs
  long_failing cell s [] [] h = refl
  long_failing cell s [] (u ∷ us) h = absurd h
  long_failing cell s (x ∷ xs) [] h = absurd h
  long_failing cell s (x ∷ xs) (u ∷ us) h = ap suc (long_failing cell (next_state G NoFault u) xs us h.1)

  -- ---- runs without a fault, with marks of where none is present

  long_marks : (s w : List Bool) (xs vs : List (List Bool)) → RunsFrom G NoFault s w xs vs → length w ≡ length xs
  long_marks s [] [] vs h = refl
  long_marks s [] (x ∷ xs) vs h = absurd h
  long_marks s (here ∷ w) [] vs h = absurd h
  long_marks s (here ∷ w) (x ∷ xs) [] h = absurd h
  long_marks s (here ∷ w) (x ∷ xs) (v ∷ vs) h = ap suc (long_marks (next_state G (present here NoFault) v) w xs vs h.1)

  marked : (s w : List Bool) (xs vs : List (List Bool)) → length w ≡ length xs → CleanFrom N s xs vs → RunsFrom N NoFault s w xs vs
  marked s [] [] [] e h = tt
  marked s [] [] (v ∷ vs) e h = absurd h
  marked s [] (x ∷ xs) vs e h = absurd (omega arith)
  marked s (here ∷ w) [] vs e h = absurd (omega arith)
  marked s (here ∷ w) (x ∷ xs) [] e h = absurd h
  marked s (true ∷ w) (x ∷ xs) (v ∷ vs) e h = (h.0, marked (next_state N NoFault v) w xs vs (omega arith) h.1)
  marked s (false ∷ w) (x ∷ xs) (v ∷ vs) e h = (h.0, marked (next_state N NoFault v) w xs vs (omega arith) h.1)

  runs_working : (w : List Bool) (xs vs : List (List Bool)) → Runs G NoFault w xs vs → Runs N NoFault w xs (map (as_mapped N at) vs)
  runs_working w xs vs h =
      subst (λ z. RunsFrom N NoFault z w xs (map (as_mapped N at) vs)) (same_init N G at block m)
      (marked (init_state G) w xs (map (as_mapped N at) vs) (long_marks (init_state G) w xs vs h)
      (working_from N G at block m (init_state G) xs vs (clean_from G (init_state G) w xs vs h)))

  -- the step of a list of moved valuations
  at_mapped : (us : List (List Bool)) (step : ℕ) → step < length us → at_step (map (as_mapped N at) us) step ≡ as_mapped N at (at_step us step)
  at_mapped us step h = get_or-map (as_mapped N at) us step [] [] h

  -- ---- what a step has, moved

  module _ (P : CodePlan) (v : List Bool) (sized : length v ≡ nets G) where
    rails_moved : RailsAgree P (as_mapped N at v) → RailsAgree (moved_plan at P) v
    rails_moved h = sym (mapped_bit N G at block m v sized P.rail1) ∙ h ∙ mapped_bit N G at block m v sized P.rail2

    rails_back : RailsAgree (moved_plan at P) v → RailsAgree P (as_mapped N at v)
    rails_back h = mapped_bit N G at block m v sized P.rail1 ∙ h ∙ sym (mapped_bit N G at block m v sized P.rail2)

    quiet_moved : IsQuiet N P (as_mapped N at v) → IsQuiet G (moved_plan at P) v
    quiet_moved h = record {
      codeword = to_codeword at P (word G (moved_plan at P) v) (subst (IsCodeword P) (same_words N G at block m v sized P) h.codeword);
      rails_differ = λ agree. h.rails_differ (rails_back agree);
    }

    shows_moved : Shows N P (as_mapped N at v) → Shows G (moved_plan at P) v
    shows_moved h = record {
      no_codeword = λ ok. h.no_codeword (subst (IsCodeword P) (sym (same_words N G at block m v sized P)) (from_codeword at P (word G (moved_plan at P) v) ok));
      rails_agree = rails_moved h.rails_agree;
    }

    step_moved : (M : Logic) (s x : List Bool) → StepFollows M N P s x (as_mapped N at v) → StepFollows M G (moved_plan at P) s x v
    step_moved M s x h = record {
      here = h.here;
      next = h.next;
      traced = h.traced;
      arrives = ap (state_at P) (same_next_in N G at block m v sized) ∙ h.arrives;
      outputs = subst (AllowsOutputs M P.version h.here x) (sym (same_outputs N G at block m v sized P)) h.outputs;
      next_allowed = h.next_allowed;
    }

  -- ---- what a run has, moved

  module _ (M : Logic) (P : CodePlan) where
    follows_moved : (s : List Bool) (xs vs : List (List Bool)) → CleanFrom G s xs vs → FollowsFrom M N P s xs (map (as_mapped N at) vs)
        → FollowsFrom M G (moved_plan at P) s xs vs
    follows_moved s [] vs run h = tt
    follows_moved s (x ∷ xs) [] run h = tt
    follows_moved s (x ∷ xs) (v ∷ vs) run h =
        let settled : Settles G NoFault (bit x) (bit s) v = run.0 in (
          step_moved P v settled.sized M s x h.0,
          follows_moved (next_state G NoFault v) xs vs run.1
              (subst (λ z. FollowsFrom M N P z xs (map (as_mapped N at) vs)) (sym (same_next N G at block m v settled.sized)) h.1),
        )

    all_quiet : (vs : List (List Bool)) → AllSized vs → All (IsQuiet N P) (map (as_mapped N at) vs) → All (IsQuiet G (moved_plan at P)) vs
    all_quiet [] sized h = All-nil (IsQuiet G (moved_plan at P))
    all_quiet (v ∷ vs) sized h =
        All-cons (IsQuiet G (moved_plan at P)) v vs
        (quiet_moved P v (sized 0 (omega arith)) (All-head (IsQuiet N P) (as_mapped N at v) (map (as_mapped N at) vs) h))
        (all_quiet vs (λ step l. sized (suc step) (omega arith)) (All-tail (IsQuiet N P) (as_mapped N at v) (map (as_mapped N at) vs) h))

    first_error_moved : (vs us : List (List Bool)) → AllSized vs → AllSized us
        → FirstErrorShows N P (map (as_mapped N at) vs) (map (as_mapped N at) us) → FirstErrorShows G (moved_plan at P) vs us
    first_error_moved [] us first second h = tt
    first_error_moved (v ∷ vs) [] first second h = tt
    first_error_moved (v ∷ vs) (u ∷ us) first second h =
        let of_v = same_words N G at block m v (first 0 (omega arith)) P in
        let of_u = same_words N G at block m u (second 0 (omega arith)) P in (
          λ same. first_error_moved vs us (λ step l. first (suc step) (omega arith)) (λ step l. second (suc step) (omega arith)) (h.0 (of_u ∙ same ∙ sym of_v)),
          λ differ. shows_moved P u (second 0 (omega arith)) (h.1 (λ same. differ (sym of_u ∙ same ∙ of_v))),
        )

    same_states : (s : List Bool) (vs : List (List Bool)) → AllSized vs → states_from G s vs ≡ states_from N s (map (as_mapped N at) vs)
    same_states s [] sized = refl
    same_states s (v ∷ vs) sized =
        ap (λ ss. s ∷ ss) (same_states (next_state G NoFault v) vs (λ step l. sized (suc step) (omega arith))
        ∙ ap (λ z. states_from N z (map (as_mapped N at) vs)) (same_next N G at block m v (sized 0 (omega arith))))

    alarm_moved : (us : List (List Bool)) (step : ℕ) → step < length us → AllSized us → AlarmBy P (map (as_mapped N at) us) step → AlarmBy (moved_plan at P) us step
    alarm_moved us step within sized alarm =
        let before : alarm.at < length us = (let h = alarm.in_time in omega arith) in
        record {
          at = alarm.at;
          in_time = alarm.in_time;
          rails_agree = rails_moved P (at_step us alarm.at) (sized alarm.at before) (subst (RailsAgree P) (at_mapped us alarm.at before) alarm.rails_agree);
        }

    no_silent_error_moved : (xs vs us : List (List Bool)) → length us ≡ length xs → AllSized vs → AllSized us
        → NoSilentError M N P xs (map (as_mapped N at) vs) (map (as_mapped N at) us) → NoSilentError M G (moved_plan at P) xs vs us
    no_silent_error_moved xs vs us long first second h step q within traced wrong =
        let inside : step < length us = omega arith in
        let states = same_states (init_state G) vs first ∙ ap (λ z. states_from N z (map (as_mapped N at) vs)) (same_init N G at block m) in
        let outputs = ap (outputs_in N P) (at_mapped us step inside) ∙ sym (same_outputs N G at block m (at_step us step) (second step inside) P) in
        alarm_moved us step inside second
        (h step q within (ap (λ ss. state_at P (at_step ss step)) (sym states) ∙ traced)
        (λ ok. wrong (subst (AllowsOutputs M P.version q (at_step xs step)) outputs ok)))

-- what is secure against any one failing cell is, mapped cover by cover, secure against any failing gates of one block
pub mapped_is_block_secure : MappedIsBlockSecure
mapped_is_block_secure M N G at block P m acyclic secure = record {
  blocks = m.blocks;
  one_run = λ w xs sized. one_run G NoFault w xs acyclic sized;
  one_run_but = λ cell given xs is sized. one_run_but_block N G block cell acyclic m.inputs is given xs sized;
  follows = λ w xs vs run.
      let h = secure.follows w xs (map (as_mapped N at) vs) (runs_working N G at block m w xs vs run) in
      record {
        starts = ap (state_at P) (same_init N G at block m) ∙ h.starts;
        steps = follows_moved N G at block m M P (init_state G) xs vs (clean w xs vs run)
            (subst (λ z. FollowsFrom M N P z xs (map (as_mapped N at) vs)) (sym (same_init N G at block m)) h.steps);
      };
  quiet = λ w xs vs run. all_quiet N G at block m M P vs (sized_run w xs vs run)
      (secure.quiet w xs (map (as_mapped N at) vs) (runs_working N G at block m w xs vs run));
  flagged = λ cell w xs vs us is run failing.
      let h = secure.flagged cell w xs (map (as_mapped N at) vs) (map (as_mapped N at) us) is (runs_working N G at block m w xs vs run) (runs_as_cell N G at block m cell xs us failing) in
      let second = sized_failing N G at block m cell (init_state G) xs us failing in
      record {
        first_error = first_error_moved N G at block m M P vs us (sized_run w xs vs run) second h.first_error;
        no_silent_error = no_silent_error_moved N G at block m M P xs vs us (long_failing N G at block m cell (init_state G) xs us failing) (sized_run w xs vs run) second h.no_silent_error;
      };
}
  where
    clean : (w : List Bool) (xs vs : List (List Bool)) → Runs G NoFault w xs vs → CleanFrom G (init_state G) xs vs
    clean w xs vs run = clean_from G (init_state G) w xs vs run

    sized_run : (w : List Bool) (xs vs : List (List Bool)) → Runs G NoFault w xs vs → (step : ℕ) → step < length vs → length (at_step vs step) ≡ nets G
    sized_run w xs vs run = sized_clean N G at block m (init_state G) xs vs (clean w xs vs run)

-- one failing gate or latch is among what fails with a block
pub block_secure_is_cell_secure : BlockSecureIsCellSecure
block_secure_is_cell_secure M N G block P inputs latches acyclic secure = record {
  one_run = secure.one_run;
  one_run_but = λ net bits xs is sized. one_run_but_a_cell G net bits xs acyclic is sized;
  follows = secure.follows;
  quiet = secure.quiet;
  flagged = λ net w xs vs us is run failing.
      secure.flagged (cell_at N G block net) w xs vs us (cell_is_cell N G block inputs latches secure.blocks net is) run (runs_of_block N G block net xs us failing);
}

-- what is secure against any one failing cell is so too where it is mapped cover by cover
pub mapped_is_cell_secure : MappedIsCellSecure
mapped_is_cell_secure M N G at block P m acyclic secure =
    block_secure_is_cell_secure M N G block (moved_plan at P) m.inputs (same_latches N G at block m) acyclic (mapped_is_block_secure M N G at block P m acyclic secure)

-- what is secure against any one failing cell is, mapped cover by cover, fault-secure
pub mapped_is_fault_secure : MappedIsFaultSecure
mapped_is_fault_secure M N G at block P m acyclic secure =
    cell_secure_is_fault_secure M G (moved_plan at P) acyclic (mapped_is_cell_secure M N G at block P m acyclic secure)
