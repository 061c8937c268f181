-- What is alarm-secure stays so when it is mapped cover by cover: the steps at states that runs come to, and the alarms, moved.
use Rattle.std.proofs.Common.{◌≡◌, ℕ, zero, suc, ◌+◌, ◌<◌, Bool, true, List, [], ◌∷◌, map, length, take, drop, All, refl, sym, ap, subst, ◌∙◌, arith}
use Rattle.std.proofs.lemmas.List.{length-map, get_or-map}
use Rattle.tsc_bits.specs.Bits.{binary}
use Rattle.tsc_bits.specs.Counting.{ones, zeros}
use Rattle.fault_secure.specs.declared.code.Code.{Code}
use Rattle.fault_secure.specs.declared.code.Code.TheVariants.{Parity, Berger, MOutOfN}
use Rattle.fault_secure.specs.Circuit.{Circuit, nets, bit}
use Rattle.fault_secure.specs.StuckAt.{NoFault}
use Rattle.fault_secure.specs.Settle.{Settles}
use Rattle.fault_secure.specs.Run.{init_state, next_state, Runs}
use Rattle.fault_secure.specs.CodePlan.{CodePlan, word, outputs_of, IsChecked, IsCodeword, RailsAgree}
use Rattle.fault_secure.specs.Logic.{Logic, AllowsOutputs}
use Rattle.fault_secure.specs.FaultSecure.{Follows, IsQuiet, outputs_in, state_at, states_from, at_step, AlarmBy, NoSilentError}
use Rattle.fault_secure.proofs.OneRun.{one_run}
use Rattle.structure_laws.proofs.FirstErrors.{CleanFrom, clean_from}
use Rattle.structure_laws.proofs.FailingCell.{one_run_but_a_cell}
use Rattle.mapping_laws.specs.Mapping.{IsMapped, moved_plan, as_mapped}
use Rattle.mapping_laws.specs.FailingBlock.{cell_at, RunsButBlockFrom}
use Rattle.mapping_laws.proofs.MappedBits.{same_latches, same_init, mapped_bit, same_outputs, same_next_in, same_next, same_words}
use Rattle.mapping_laws.proofs.FailingBlocks.{as_working, working_from, runs_as_cell, runs_of_block, cell_is_cell}
use Rattle.mapping_laws.proofs.OneRunBut.{one_run_but_block}
use Rattle.point_laws.specs.Reached.{state_after, IsReached, FollowsWhereReached, IsQuietWhereReached}
use Rattle.point_laws.specs.MappedAlarms.{IsBlockAlarmSecure, MappedIsBlockAlarmSecure, MappedIsAlarmSecure}
use Rattle.point_laws.proofs.Arrivals.{clean_to, start_reached, next_reached, marked}
use Rattle.point_laws.proofs.WhereReached.{follows_reached, quiet_reached, quiet_runs}

-- ---- a plan asks of a word what the moved plan does, which has as many checks

moved_checked : (at : ℕ → ℕ) (P : CodePlan) (w : List Bool) (code : Code) → IsChecked code P w → IsChecked code (moved_plan at P) w
moved_checked at P w Parity h = h
moved_checked at P w Berger h = subst (λ n. binary (take n (drop P.outputs w)) ≡ zeros (outputs_of P w)) (sym (length-map P.checks at)) h
moved_checked at P w MOutOfN h = subst (λ n. ones (outputs_of P w) + ones (take n (drop P.outputs w)) ≡ P.outputs) (sym (length-map P.checks at)) h

moved_codeword : (at : ℕ → ℕ) (P : CodePlan) (w : List Bool) → IsCodeword P w → IsCodeword (moved_plan at P) w
moved_codeword at P w h = record {
  checked = moved_checked at P w P.code h.checked;
  weighed = ap (λ n. ones (drop n (drop P.outputs w))) (length-map P.checks at) ∙ h.weighed;
}

module _ (N G : Circuit) (at block : ℕ → ℕ) (m : IsMapped N G at block) where
  -- ---- the states that runs come to

  reached_on : (xs vs : List (List Bool)) (s : List Bool) → IsReached N s → CleanFrom G s xs vs → IsReached N (state_after G s vs)
  reached_on [] [] s r run = r
  reached_on [] (v ∷ vs) s r run = absurd run
  reached_on (x ∷ xs) [] s r run = absurd run
  reached_on (x ∷ xs) (v ∷ vs) s r run =
      let settled : Settles G NoFault (bit x) (bit s) v = run.0 in
      reached_on xs vs (next_state G NoFault v)
      (subst (IsReached N) (sym (same_next N G at block m v settled.sized))
      (next_reached N s x (as_mapped N at v) r (as_working N G at block m (bit x) (bit s) v settled))) run.1

  reached_before : (s : List Bool) → IsReached G s → IsReached N s
  reached_before s r = subst (IsReached N) r.arrives
      (reached_on r.inputs r.run (init_state G) (subst (IsReached N) (sym (same_init N G at block m)) (start_reached N)) (clean_to G s r))

  module _ (P : CodePlan) (v : List Bool) (sized : length v ≡ nets G) where
    rails_moved : RailsAgree P (as_mapped N at v) → RailsAgree (moved_plan at P) v
    rails_moved h = sym (mapped_bit N G at block m v sized P.rail1) ∙ h ∙ mapped_bit N G at block m v sized P.rail2

    rails_before : RailsAgree (moved_plan at P) v → RailsAgree P (as_mapped N at v)
    rails_before h = mapped_bit N G at block m v sized P.rail1 ∙ h ∙ sym (mapped_bit N G at block m v sized P.rail2)

  quiet_moved : (P : CodePlan) → IsQuietWhereReached N P → IsQuietWhereReached G (moved_plan at P)
  quiet_moved P quiet s x v r h agree =
      quiet s x (as_mapped N at v) (reached_before s r) (as_working N G at block m (bit x) (bit s) v h) (rails_before P v h.sized agree)

  follows_moved : (M : Logic) (P : CodePlan) → FollowsWhereReached M N P → FollowsWhereReached M G (moved_plan at P)
  follows_moved M P follows = record {
    starts = ap (state_at P) (same_init N G at block m) ∙ follows.starts;
    steps = λ s x v r h. (let step = follows.steps s x (as_mapped N at v) (reached_before s r) (as_working N G at block m (bit x) (bit s) v h) in record {
      here = step.here;
      next = step.next;
      traced = step.traced;
      arrives = ap (state_at P) (same_next_in N G at block m v h.sized) ∙ step.arrives;
      outputs = subst (AllowsOutputs M P.version step.here x) (sym (same_outputs N G at block m v h.sized P)) step.outputs;
      next_allowed = step.next_allowed;
    });
    codewords = λ s x v r h. moved_codeword at P (word G (moved_plan at P) v)
        (subst (IsCodeword P) (same_words N G at block m v h.sized P)
        (follows.codewords s x (as_mapped N at v) (reached_before s r) (as_working N G at block m (bit x) (bit s) v h)));
  }

  -- ---- the alarms, moved

  abbrev AllSized : List (List Bool) → Type 0
  AllSized us = (step : ℕ) → step < length us → length (at_step us step) ≡ nets G

  sized_failing : (cell : ℕ) (s : List Bool) (xs us : List (List Bool)) → RunsButBlockFrom N G block cell s xs us → (length us ≡ length xs) × AllSized us
  sized_failing cell s [] [] h = (refl, λ step low. absurd (omega arith))
  sized_failing cell s [] (u ∷ us) h = absurd h
  sized_failing cell s (x ∷ xs) [] h = absurd h
  sized_failing cell s (x ∷ xs) (u ∷ us) h =
      let rest = sized_failing cell (next_state G NoFault u) xs us h.1 in
      (ap suc rest.0, one_more rest.1)
    where
      one_more : AllSized us → AllSized (u ∷ us)
      one_more rest zero low = h.0.sized
      one_more rest (suc step) low = rest step (omega arith)

  same_states : (s : List Bool) (xs vs : List (List Bool)) → CleanFrom G s xs vs → states_from G s vs ≡ states_from N s (map (as_mapped N at) vs)
  same_states s [] [] run = refl
  same_states s [] (v ∷ vs) run = absurd run
  same_states s (x ∷ xs) [] run = absurd run
  same_states s (x ∷ xs) (v ∷ vs) run =
      let settled : Settles G NoFault (bit x) (bit s) v = run.0 in
      ap (λ ss. s ∷ ss) (same_states (next_state G NoFault v) xs vs run.1
      ∙ ap (λ z. states_from N z (map (as_mapped N at) vs)) (same_next N G at block m v settled.sized))

  module _ (M : Logic) (P : CodePlan) (xs vs us : List (List Bool)) (clean : CleanFrom G (init_state G) xs vs) (long : length us ≡ length xs) (sized : AllSized us) where
    at_mapped : (step : ℕ) → step < length us → at_step (map (as_mapped N at) us) step ≡ as_mapped N at (at_step us step)
    at_mapped step low = get_or-map (as_mapped N at) us step [] [] low

    alarm_moved : (step : ℕ) → step < length us → AlarmBy P (map (as_mapped N at) us) step → AlarmBy (moved_plan at P) us step
    alarm_moved step within alarm =
        let before : alarm.at < length us = (let h = alarm.in_time in omega arith) in
        record {
          at = alarm.at;
          in_time = alarm.in_time;
          rails_agree = rails_moved P (at_step us alarm.at) (sized alarm.at before) (subst (RailsAgree P) (at_mapped alarm.at before) alarm.rails_agree);
        }

    alarms_moved : NoSilentError M N P xs (map (as_mapped N at) vs) (map (as_mapped N at) us) → NoSilentError M G (moved_plan at P) xs vs us
    alarms_moved h step q within traced wrong =
        let inside : step < length us = omega arith in
        let states = same_states (init_state G) xs vs clean ∙ ap (λ z. states_from N z (map (as_mapped N at) vs)) (same_init N G at block m) in
        let outputs = ap (outputs_in N P) (at_mapped step inside) ∙ sym (same_outputs N G at block m (at_step us step) (sized step inside) P) in
        alarm_moved step inside
        (h step q within (ap (λ ss. state_at P (at_step ss step)) (sym states) ∙ traced)
        (λ ok. wrong (subst (AllowsOutputs M P.version q (at_step xs step)) outputs ok)))

pub mapped_is_block_alarm_secure : MappedIsBlockAlarmSecure
mapped_is_block_alarm_secure M N G at block P m acyclic secure = record {
  blocks = m.blocks;
  one_run = λ w xs sized. one_run G NoFault w xs acyclic sized;
  one_run_but = λ cell given xs is sized. one_run_but_block N G block cell acyclic m.inputs is given xs sized;
  follows = λ w xs vs run. (both w xs vs run).0;
  quiet = λ w xs vs run. (both w xs vs run).1;
  alarmed = λ cell w xs vs us is run failing.
      let clean = clean_from G (init_state G) w xs vs run in
      let before = subst (λ z. CleanFrom N z xs (map (as_mapped N at) vs)) (same_init N G at block m) (working_from N G at block m (init_state G) xs vs clean) in
      let sized = sized_failing N G at block m cell (init_state G) xs us failing in
      alarms_moved N G at block m M P xs vs us clean sized.0 sized.1
      (secure.alarmed cell (map (λ _. true) xs) xs (map (as_mapped N at) vs) (map (as_mapped N at) us) is
      (marked N (init_state N) xs (map (as_mapped N at) vs) before) (runs_as_cell N G at block m cell xs us failing));
}
  where
    both : (w : List Bool) (xs vs : List (List Bool)) → Runs G NoFault w xs vs → Follows M G (moved_plan at P) xs vs × All (IsQuiet G (moved_plan at P)) vs
    both w xs vs run = quiet_runs M G (moved_plan at P)
        (follows_moved N G at block m M P (follows_reached M N P secure.follows secure.quiet))
        (quiet_moved N G at block m P (quiet_reached M N P secure.follows secure.quiet)) w xs vs run

-- one failing gate or latch is among what fails with a block
pub mapped_is_alarm_secure : MappedIsAlarmSecure
mapped_is_alarm_secure M N G at block P m acyclic secure = record {
  one_run = by_blocks.one_run;
  one_run_but = λ net bits xs is sized. one_run_but_a_cell G net bits xs acyclic is sized;
  follows = by_blocks.follows;
  quiet = by_blocks.quiet;
  alarmed = λ net w xs vs us is run failing.
      by_blocks.alarmed (cell_at N G block net) w xs vs us (cell_is_cell N G block m.inputs (same_latches N G at block m) m.blocks net is) run
      (runs_of_block N G block net xs us failing);
}
  where
    by_blocks : IsBlockAlarmSecure M N G block (moved_plan at P)
    by_blocks = mapped_is_block_alarm_secure M N G at block P m acyclic secure
