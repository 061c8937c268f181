-- Networks that grow by gates of some kinds alone.
use Rattle.std.specs.Prelude.{◌≡◌, ℕ, ◌≤◌, Bool, true, false, List, [], ◌++◌, length, All, slice_index_or, Result, Ok, Err, OnOk, OnErr, refl}
use Rattle.std.specs.List.{list_any}
use Rattle.std.proofs.Common.{sym, ◌∙◌, ap, subst, arith}
use Rattle.std.proofs.lemmas.Bool.{false≢true}
use Rattle.std.proofs.lemmas.List.{drop_all, get_or_append_left}
use Rattle.std.proofs.lemmas.List.Elements.{All-from_recursion, All-append, All-from_get_or}
use Rattle.gate_net.specs.declared.gate.Gate.{Gate}
use Rattle.gate_net.specs.declared.gate.Gate.TheVariants as gate
use Rattle.gate_net.specs.Gates.{GateNetwork, gate_at, same_gate, with_gate, ReadsBelow, IsHashed}
use Rattle.gate_net.specs.Growth.{Grows, added_gates}
use Rattle.gate_net.specs.Negations.{is_input, is_negation, negates_inputs, HasNo, NegatesOnlyInputs}
use Rattle.gate_net.proofs.Kept.{grows_not, grows_twice, grown_gates}
use Rattle.gate_net.proofs.Once.{with_gate-grows, with_gate-there, with_gate-none_added, none_twice}
use Rattle.state_code.specs.Lines.{GrowsWithout, foreign_to_decode, foreign_to_select}

-- a network that stays
pub without_none : (test : Gate → Bool) (G : GateNetwork) → GrowsWithout test G G
without_none test G = record {
  grows = grows_not G;
  none = subst (HasNo test) (sym (drop_all (length G.gates) G.gates (omega arith))) (All-from_recursion (λ (g : Gate). test g ≡ false) [] tt);
}

-- what grew twice without gates of a kind has grown without them
pub without_twice : (test : Gate → Bool) (a b c : GateNetwork) → GrowsWithout test a b → GrowsWithout test b c → GrowsWithout test a c
without_twice test a b c h k = record { grows = grows_twice a b c h.grows k.grows; none = none_twice a b c test h.grows k.grows h.none k.none }

-- a gate more
pub without_added : (test : Gate → Bool) (old new : GateNetwork) (g : Gate) → new ≡ with_gate old g → test g ≡ false → GrowsWithout test old new
without_added test old new g e fails =
    subst (GrowsWithout test old) (sym e) (record { grows = with_gate-grows old g; none = with_gate-none_added old g test fails })

-- a gate that was asked for, whether it came or memory was missing
pub without_either : {X E : Type 0} (result : Result X E) (test : Gate → Bool) (old new : GateNetwork) (g : Gate) → OnOk result (new ≡ with_gate old g) → OnErr result (new ≡ old) → test g ≡ false → GrowsWithout test old new
without_either (Ok line) test old new g once refused fails = without_added test old new g once fails
without_either (Err error) test old new g once refused fails = subst (GrowsWithout test old) (sym refused) (without_none test old)

-- a gate that was there
pub stays : {X E : Type 0} (result : Result X E) (old new : GateNetwork) (g : Gate) → OnOk result (new ≡ with_gate old g) → OnErr result (new ≡ old) → list_any (same_gate g) old.gates ≡ true → new ≡ old
stays (Ok line) old new g once refused there = once ∙ with_gate-there old g there
stays (Err error) old new g once refused there = refused

-- what is kept to the gates of decode or select has no negation
pub decode_positive : (g : Gate) → foreign_to_decode g ≡ false → is_negation g ≡ false
decode_positive (gate.And a b) e = refl
decode_positive (gate.State i) e = refl
decode_positive gate.One e = refl
decode_positive _ e = absurd (false≢true (sym e))

pub select_positive : (g : Gate) → foreign_to_select g ≡ false → is_negation g ≡ false
select_positive (gate.And a b) e = refl
select_positive (gate.Or a b) e = refl
select_positive gate.Zero e = refl
select_positive _ e = absurd (false≢true (sym e))

-- no gate that came is a Not or an Xor
pub decode_adds_no_negation : (old new : GateNetwork) → GrowsWithout foreign_to_decode old new → HasNo is_negation (added_gates old new)
decode_adds_no_negation old new h = λ k d lt. decode_positive (slice_index_or (added_gates old new) k d) (h.none k d lt)

pub select_adds_no_negation : (old new : GateNetwork) → GrowsWithout foreign_to_select old new → HasNo is_negation (added_gates old new)
select_adds_no_negation old new h = λ k d lt. select_positive (slice_index_or (added_gates old new) k d) (h.none k d lt)

-- a gate that is no negation negates nothing
negates_none : (gates : List Gate) (g : Gate) → is_negation g ≡ false → negates_inputs gates g ≡ true
negates_none gates (gate.Not a) e = absurd (false≢true (sym e))
negates_none gates (gate.Xor a b) e = absurd (false≢true (sym e))
negates_none gates _ e = refl

-- more gates leave where a gate negates
pub negates_still : (G H : GateNetwork) (more : List Gate) (n : ℕ) (g : Gate) → n ≤ length G.gates → ReadsBelow H n g → negates_inputs (G.gates ++ more) g ≡ negates_inputs G.gates g
negates_still G H more n (gate.Not a) le reads = ap is_input (get_or_append_left G.gates more gate.Zero a.number (omega (arith, le, reads)))
negates_still G H more n _ le reads = refl

-- negations stand only at inputs where none came
pub keeps_signs : (old new : GateNetwork) → IsHashed old → NegatesOnlyInputs old → Grows old new → HasNo is_negation (added_gates old new) → NegatesOnlyInputs new
keeps_signs old new sound negates grows none =
    subst (λ (gates : List Gate). All (λ g. negates_inputs gates g ≡ true) gates) (sym (grown_gates old new grows))
    (All-append (λ g. negates_inputs (old.gates ++ added_gates old new) g ≡ true) old.gates (added_gates old new)
    (All-from_get_or (λ g. negates_inputs (old.gates ++ added_gates old new) g ≡ true) old.gates gate.Zero
    (λ n lt. negates_still old old (added_gates old new) n (gate_at old.gates n) (omega (arith, lt)) (sound.ordered n lt) ∙ negates n gate.Zero lt))
    (λ k d lt. negates_none (old.gates ++ added_gates old new) (slice_index_or (added_gates old new) k d) (none k d lt)))
