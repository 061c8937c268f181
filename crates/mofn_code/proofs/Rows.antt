-- What the calls that build thresholds add to a network.
use Rattle.std.specs.Prelude.{◌≡◌, ℕ, ◌+◌, ◌<◌, ◌≤◌, Bool, false, not, ◌&&◌, ◌||◌, List, [], ◌∷◌, ◌++◌, length, take, drop, get_or}
use Rattle.std.proofs.Common.{sym, ◌∙◌, ap, subst, arith}
use Rattle.std.proofs.lemmas.List.{length-map, length-take, map-append, take_all}
use Rattle.std.proofs.lemmas.List.Elements.{All-from_recursion, All-append}
use Rattle.std.proofs.lemmas.List.Sums.{count_by-le-length}
use Rattle.tsc_bits.specs.Counting.{zeros}
use Rattle.gate_net.specs.declared.line.Line.{Line}
use Rattle.gate_net.specs.Gates.{GateNetwork, IsLine, AreLines, line_value, line_values}
use Rattle.gate_net.specs.Growth.{Grows, Computes, ComputesAll}
use Rattle.gate_net.proofs.Kept.{grows_twice, bits_pushed, bit_read, value_kept, values_kept, values_step}
use Rattle.tsc_bits.proofs.Counting.{zeros-push}
use Rattle.tsc_bits.specs.Thermometer.{thermo, row_with}
use Rattle.tsc_bits.proofs.Thermometers.{thermo_length, row_with-more, row_step, row_end}

-- a threshold more of a row with one bit more
pub row_more : (start here new : GateNetwork) (row next next' : List Line) (carried more made handed none : Line) (goal : (ℕ → Bool) → (ℕ → Bool) → List Bool) (i : ℕ)
    → Grows start here → AreLines start row → IsLine start more → AreLines here next → i < length row
    → ((x s : ℕ → Bool) → line_values here x s next ++ row_with (line_value here x s carried) (line_value start x s more) (drop i (line_values start x s row)) ≡ goal x s)
    → Computes here new (λ x s. line_value here x s (get_or row i none) || line_value here x s carried) made
    → Computes here new (λ x s. line_value here x s (get_or row i none) && line_value here x s more) handed
    → next' ≡ next ++ made ∷ []
    → (x s : ℕ → Bool) → line_values new x s next' ++ row_with (line_value new x s handed) (line_value start x s more) (drop (i + 1) (line_values start x s row)) ≡ goal x s
row_more start here new row next next' carried more made handed none goal i grows within line made_within lt before thresholds hands e x s =
    let t : Bool = line_value here x s (get_or row i none) in
    let m : Bool = line_value start x s more in
    let rest : List Bool = drop (i + 1) (line_values start x s row) in
    let pushed = bits_pushed start here new next next' made (λ x s. line_value here x s (get_or row i none) || line_value here x s carried) grows made_within thresholds e in
    ap (λ bits. bits ++ row_with (line_value new x s handed) m rest) (pushed.values x s)
    ∙ ap (λ c. (line_values here x s next ++ (t || line_value here x s carried) ∷ []) ++ row_with c m rest)
    (hands.value x s ∙ ap (λ c. t && c) (value_kept start here x s more grows line))
    ∙ row_step (line_values here x s next) (line_values start x s row) (goal x s) (line_value here x s carried) m t (line_value start x s none) i
    (omega (arith, length-map row (line_value start x s)))
    (sym (bit_read start here x s row i none grows within lt))
    (before x s)

-- the last threshold of a row with one bit more
pub row_done : (start here : GateNetwork) (row next next' : List Line) (carried more : Line) (goal : (ℕ → Bool) → (ℕ → Bool) → List Bool) (i : ℕ)
    → Grows start here → AreLines here next → IsLine here carried → length row ≤ i
    → ((x s : ℕ → Bool) → line_values here x s next ++ row_with (line_value here x s carried) (line_value start x s more) (drop i (line_values start x s row)) ≡ goal x s)
    → next' ≡ next ++ carried ∷ [] → ComputesAll start here goal next'
row_done start here row next next' carried more goal i grows within line end before e = record {
  values = λ x s.
      ap (line_values here x s) e
      ∙ map-append (line_value here x s) next (carried ∷ [])
      ∙ row_end (line_values here x s next) (line_values start x s row) (goal x s) (line_value here x s carried) (line_value start x s more) i (omega (arith, length-map row (line_value start x s))) (before x s);
  within = subst (AreLines here) (sym e) (All-append (IsLine here) next (carried ∷ []) within (All-from_recursion (IsLine here) (carried ∷ []) (line, tt)));
  grows = grows;
}

-- a row with a bit more that is made of an output
pub row_of_output : (a b c : GateNetwork) (row next : List Line) (output zero : Line) → AreLines a row → Computes a b (λ x s. not (line_value a x s output)) zero
    → ComputesAll b c (λ x s. row_with (line_value b x s zero) (line_value b x s zero) (line_values b x s row)) next
    → ComputesAll a c (λ x s. row_with (not (line_value a x s output)) (not (line_value a x s output)) (line_values a x s row)) next
row_of_output a b c row next output zero within first added = record {
  values = λ x s.
      added.values x s
      ∙ ap (λ v. row_with v v (line_values b x s row)) (first.value x s)
      ∙ ap (row_with (not (line_value a x s output)) (not (line_value a x s output))) (values_kept a b x s row first.grows within);
  within = added.within;
  grows = grows_twice a b c first.grows added.grows;
}

-- the thresholds of the zeros among one output more
pub thermo_more : (start here new : GateNetwork) (outputs row next : List Line) (none : Line) (i : ℕ)
    → Grows start here → AreLines start outputs → i < length outputs
    → ((x s : ℕ → Bool) → line_values here x s row ≡ thermo i (zeros (line_values start x s (take i outputs))))
    → ComputesAll here new (λ x s. row_with (not (line_value here x s (get_or outputs i none))) (not (line_value here x s (get_or outputs i none))) (line_values here x s row)) next
    → (x s : ℕ → Bool) → line_values new x s next ≡ thermo (i + 1) (zeros (line_values start x s (take (i + 1) outputs)))
thermo_more start here new outputs row next none i grows within lt made added x s =
    let b : Bool = line_value here x s (get_or outputs i none) in
    let past : List Bool = line_values start x s (take i outputs) in
    let below : zeros past ≤ i = omega (arith, count_by-le-length not past, length-map (take i outputs) (line_value start x s), length-take i outputs) in
    added.values x s
    ∙ ap (row_with (not b) (not b)) (made x s)
    ∙ row_with-more (not b) i (zeros past) below
    ∙ ap (thermo (i + 1)) (sym (ap zeros (values_step start here x s outputs i none grows within lt) ∙ zeros-push past b))

-- as many lines as the thermometer has bits
pub row_length : (G : GateNetwork) (row : List Line) (k : ℕ) (count : (ℕ → Bool) → (ℕ → Bool) → ℕ) → ((x s : ℕ → Bool) → line_values G x s row ≡ thermo k (count x s)) → length row ≡ k
row_length G row k count made =
    let off : ℕ → Bool = λ n. false in
    sym (length-map row (line_value G off off)) ∙ ap length (made off off) ∙ thermo_length k (count off off)

-- the thresholds of all outputs
pub thermo_done : (start here : GateNetwork) (outputs row : List Line) (i : ℕ) → Grows start here → AreLines here row → i ≡ length outputs
    → ((x s : ℕ → Bool) → line_values here x s row ≡ thermo i (zeros (line_values start x s (take i outputs))))
    → ComputesAll start here (λ x s. thermo (length outputs) (zeros (line_values start x s outputs))) row
thermo_done start here outputs row i grows within end made = record {
  values = λ x s. made x s
      ∙ ap (λ lines. thermo i (zeros (line_values start x s lines))) (take_all i outputs (omega arith))
      ∙ ap (λ k. thermo k (zeros (line_values start x s outputs))) end;
  within = within;
  grows = grows;
}
