-- A part of a source has the source's outputs.
use Rattle.std.proofs.Common.{◌≡◌, ℕ, ◌<◌, ◌≤◌, Bool, List, [], ◌∷◌, map, length, slice_index, false, refl, sym, ap, ap₂, ◌∙◌, arith}
use Rattle.std.proofs.lemmas.List.{get_or-map, length-map}
use Rattle.fault_secure.specs.Circuit.{Circuit, bit}
use Rattle.fault_secure.specs.StuckAt.{NoFault}
use Rattle.fault_secure.specs.Run.{init_state, next_state, Runs, HasOneRun}
use Rattle.fault_secure.specs.FaultSecure.{at_step}
use Rattle.fault_secure.proofs.OneRun.{one_run}
use Rattle.structure_laws.proofs.FirstErrors.{CleanFrom, clean_from}
use Rattle.register_laws.specs.RegisterPlan.{RegisterPlan}
use Rattle.register_laws.specs.RegisterSecure.{shown, NoWrongOutput, IsHeard}
use Rattle.register_laws.specs.Twin.{Placing}
use Rattle.register_laws.specs.RegisterMapping.{AlarmSecureForTheWhole}
use Rattle.register_laws.specs.Part.{IsPart, PartsAnswerAlike, SecureForTheWhole, FaultSecureForTheWhole}
use Rattle.register_laws.proofs.CopyBits.{map_renamed, SameStates, copy_bits, copy_next, copy_init}
use Rattle.register_laws.proofs.Secure.{run_sized}

module _ (T S : Circuit) (place : Placing) (part : IsPart T S place) where
  alike_from : (xs rs ws : List (List Bool)) (s t : List Bool) → SameStates T S place part.copy part.closed (bit s) (bit t)
      → CleanFrom T s xs rs → CleanFrom S t xs ws → map (shown S) ws ≡ map (shown T) rs
  alike_from [] [] [] s t same first second = refl
  alike_from [] [] (w ∷ ws) s t same first second = absurd second
  alike_from [] (r ∷ rs) ws s t same first second = absurd first
  alike_from (x ∷ xs) [] ws s t same first second = absurd first
  alike_from (x ∷ xs) (r ∷ rs) [] s t same first second = absurd second
  alike_from (x ∷ xs) (r ∷ rs) (w ∷ ws) s t same first second =
      let inside : T.inputs ≤ S.inputs = omega (arith, part.same_inputs) in
      ap₂ ◌∷◌
      (ap (map (bit w)) part.outputs ∙ map_renamed (bit w) (bit r) place.net T.outputs
      (λ i h. copy_bits T S place part.copy part.closed (bit x) (bit x) (bit s) (bit t) r w (λ i h. refl) inside same first.0 second.0 part.acyclic
      (slice_index T.outputs i) (part.closed.outputs i 0 h)))
      (alike_from xs rs ws (next_state T NoFault r) (next_state S NoFault w)
      (copy_next T S place part.copy part.closed (bit x) (bit x) (bit s) (bit t) r w (λ i h. refl) inside same first.0 second.0 part.acyclic) first.1 second.1)

-- over the same inputs both have the same outputs at each step
pub parts_answer_alike : PartsAnswerAlike
parts_answer_alike T S place m w xs rs ws part first second =
    alike_from T S place part xs rs ws (init_state T) (init_state S) (copy_init T S place part.copy part.closed)
    (clean_from T (init_state T) m xs rs first) (clean_from S (init_state S) w xs ws second)

-- a run of the part over the same inputs, at the marks of the run of the whole
module _ (T S : Circuit) (place : Placing) (part : IsPart T S place) (m : List Bool) (xs ws : List (List Bool)) (run : Runs S NoFault m xs ws) where
  part_run : HasOneRun T NoFault (map (λ _. false) xs) xs
  part_run = one_run T NoFault (map (λ _. false) xs) xs part.acyclic (length-map xs (λ _. false))

  -- which has the outputs of the whole
  same_shown : map (shown S) ws ≡ map (shown T) part_run.run
  same_shown = parts_answer_alike T S place (map (λ _. false) xs) m xs part_run.run ws part part_run.runs run

  shown_at : (step : ℕ) → step < length xs → shown T (at_step part_run.run step) ≡ shown S (at_step ws step)
  shown_at step within =
      let e = run_sized T (init_state T) xs part_run.run (clean_from T (init_state T) (map (λ _. false) xs) xs part_run.run part_run.runs) in
      let f = run_sized S (init_state S) xs ws (clean_from S (init_state S) m xs ws run) in
      sym (get_or-map (shown T) part_run.run step [] [] (omega arith))
      ∙ ap (λ items. at_step items step) (sym same_shown)
      ∙ get_or-map (shown S) ws step [] [] (omega arith)

  alarmed_whole : (N : Circuit) (P : RegisterPlan) (us : List (List Bool)) → NoWrongOutput T N P xs part_run.run us → NoWrongOutput S N P xs ws us
  alarmed_whole N P us alarmed step within wrong = alarmed step within (λ right. wrong (right ∙ shown_at step within))

  heard_whole : (N : Circuit) (P : RegisterPlan) (vs us : List (List Bool)) → IsHeard T N P xs part_run.run vs us → IsHeard S N P xs ws vs us
  heard_whole N P vs us heard = record { errors_show = heard.errors_show; no_wrong_output = alarmed_whole N P us heard.no_wrong_output }

-- what is secure for a part is secure for the whole
pub secure_for_the_whole : SecureForTheWhole
secure_for_the_whole T S N P place part acyclic secure = record {
  source_runs = λ m xs sized. one_run S NoFault m xs acyclic sized;
  one_run = secure.one_run;
  one_run_but = secure.one_run_but;
  follows = λ m w xs ws vs source run.
      secure.follows (map (λ _. false) xs) w xs (part_run T S place part m xs ws source).run vs (part_run T S place part m xs ws source).runs run
      ∙ sym (same_shown T S place part m xs ws source);
  quiet = λ m w xs ws vs source run.
      secure.quiet (map (λ _. false) xs) w xs (part_run T S place part m xs ws source).run vs (part_run T S place part m xs ws source).runs run;
  heard = λ cell m w xs ws vs us is source run held.
      heard_whole T S place part m xs ws source N P vs us
      (secure.heard cell (map (λ _. false) xs) w xs (part_run T S place part m xs ws source).run vs us is (part_run T S place part m xs ws source).runs run held);
}

pub fault_secure_for_the_whole : FaultSecureForTheWhole
fault_secure_for_the_whole T S N P place part acyclic secure = record {
  source_runs = λ m xs sized. one_run S NoFault m xs acyclic sized;
  one_run = secure.one_run;
  one_run_under = secure.one_run_under;
  follows = λ m w xs ws vs source run.
      secure.follows (map (λ _. false) xs) w xs (part_run T S place part m xs ws source).run vs (part_run T S place part m xs ws source).runs run
      ∙ sym (same_shown T S place part m xs ws source);
  quiet = λ m w xs ws vs source run.
      secure.quiet (map (λ _. false) xs) w xs (part_run T S place part m xs ws source).run vs (part_run T S place part m xs ws source).runs run;
  heard = λ f h m w xs ws vs us listed source run held.
      heard_whole T S place part m xs ws source N P vs us
      (secure.heard f h (map (λ _. false) xs) w xs (part_run T S place part m xs ws source).run vs us listed (part_run T S place part m xs ws source).runs run held);
}

pub alarm_secure_for_the_whole : AlarmSecureForTheWhole
alarm_secure_for_the_whole T S N P place part acyclic secure = record {
  source_runs = λ m xs sized. one_run S NoFault m xs acyclic sized;
  one_run = secure.one_run;
  one_run_but = secure.one_run_but;
  follows = λ m w xs ws vs source run.
      secure.follows (map (λ _. false) xs) w xs (part_run T S place part m xs ws source).run vs (part_run T S place part m xs ws source).runs run
      ∙ sym (same_shown T S place part m xs ws source);
  quiet = λ m w xs ws vs source run.
      secure.quiet (map (λ _. false) xs) w xs (part_run T S place part m xs ws source).run vs (part_run T S place part m xs ws source).runs run;
  alarmed = λ cell m w xs ws vs us is source run held.
      alarmed_whole T S place part m xs ws source N P us
      (secure.alarmed cell (map (λ _. false) xs) w xs (part_run T S place part m xs ws source).run vs us is (part_run T S place part m xs ws source).runs run held);
}
