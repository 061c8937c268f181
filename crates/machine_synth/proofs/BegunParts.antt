-- How the parts of a machine's netlist begin, step by step.
use Rattle.std.proofs.Common.{◌≡◌, ℕ, ◌+◌, ◌<◌, List, [], ◌∷◌, ◌++◌, map, take, length, if◌then◌else◌, sym, ◌∙◌, ap, ap₂, arith, length-append, ◌-◌}
use Rattle.std.proofs.Math.Seq.{take-append-add}
use Rattle.std.proofs.lemmas.List.{get_or_append_left, get_or-append-add, take_more, append_assoc}
use Rattle.std.specs.List.{range_with_len}
use Rattle.std.proofs.lemmas.List.FromFn.{map-range_with_len_more}
use Rattle.tsc_bits.specs.Bits.{bit_worth}
use Rattle.tsc_net.specs.Named.{NamedLatch}
use Rattle.tsc_net.specs.Names.{text_at, with_text, IsNumbering}
use Rattle.tsc_net.specs.Parts.{PartsOf, with_name, with_latch}
use Rattle.unate_synth.proofs.RootLemmas.{stretch_apart}
use Rattle.machine_synth.specs.MachineParts.{with_names, with_latches, latch_at}

-- of different names the next one is new
new_name : (all : List (List ℕ)) (place : ℕ) → IsNumbering all → place < length all → with_text (take place all) (text_at all place) ≡ take (place + 1) all
new_name all place numbering low =
    ap (λ b. if b then take place all else take place all ++ text_at all place ∷ []) (stretch_apart all 0 place place numbering low (λ h. let less = h.1 in absurd (omega arith)))
    ∙ sym (take_more all place [] low)

pub names_more : (p q r : PartsOf) (texts : List (List ℕ)) (place : ℕ) (text : List ℕ) → IsNumbering (p.names ++ texts) → place < length texts → q ≡ with_names p (take place texts)
    → text ≡ text_at texts place → r ≡ with_name q text → r ≡ with_names p (take (place + 1) texts)
names_more p q r texts place text numbering low so_far is added =
    added ∙ ap₂ with_name so_far is ∙ ap (λ (names : List (List ℕ)). record p { names = names }) next
  where
    all : List (List ℕ)
    all = p.names ++ texts

    front : (n : ℕ) → take (length p.names + n) (p.names ++ texts) ≡ p.names ++ take n texts
    front n = take-append-add p.names texts n

    next : with_text (p.names ++ take place texts) (text_at texts place) ≡ p.names ++ take (place + 1) texts
    next =
        let within : length p.names + place < length (p.names ++ texts) = omega (arith, length-append p.names texts) in
        let one : length p.names + place + 1 ≡ length p.names + (place + 1) = omega arith in
        ap₂ with_text (sym (front place)) (sym (get_or-append-add p.names texts place []))
        ∙ new_name (p.names ++ texts) (length p.names + place) numbering within
        ∙ ap (λ n. take n (p.names ++ texts)) one ∙ front (place + 1)

pub latches_more : (p q r : PartsOf) (first count word place : ℕ) → q ≡ with_latches p first count word place
    → r ≡ with_latch q (text_at q.names (first + count + place)) (text_at q.names (first + place)) (bit_worth (count - 1 - place) word) → r ≡ with_latches p first count word (place + 1)
latches_more p q r first count word place so_far added =
    added ∙ ap (λ (t : PartsOf). with_latch t (text_at t.names (first + count + place)) (text_at t.names (first + place)) (bit_worth (count - 1 - place) word)) so_far
    ∙ ap (λ (latches : List NamedLatch). let N = p.named in record p { named = record N { latches = latches } })
    (append_assoc p.named.latches (map (latch_at p.names first count word) (range_with_len 0 place)) (latch_at p.names first count word place ∷ [])
    ∙ ap (λ (more : List NamedLatch). p.named.latches ++ more) (sym (map-range_with_len_more (latch_at p.names first count word) 0 place place (omega arith))))

-- the first ones of different names are different
pub numbering_front : (names more : List (List ℕ)) → IsNumbering (names ++ more) → IsNumbering names
numbering_front names more numbering = record {
  distinct = λ a b low lower e. (
      let whole = length-append names more in
      numbering.distinct a b (omega (arith, whole)) (omega (arith, whole)) (get_or_append_left names more [] a low ∙ e ∙ sym (get_or_append_left names more [] b lower)));
}
