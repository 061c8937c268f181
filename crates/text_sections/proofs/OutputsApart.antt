-- A text that is not refused shows no net twice.
use Rattle.std.proofs.Common.{◌≡◌, ℕ, ◌<◌, true, List, [], ◌∷◌, ◌++◌, map, length, slice_index, All, Option, Some, None, refl, sym, ◌∙◌, ap, subst, arith}
use Rattle.std.proofs.lemmas.List.{length-map, get_or-map}
use Rattle.std.proofs.lemmas.List.Elements.{All-get_or}
use Rattle.tsc_net.specs.Named.{Named}
use Rattle.tsc_net.specs.Names.{has_text, place_of_text, text_at, IsNumbering}
use Rattle.tsc_net.specs.NetlistOf.{NetlistOf, netlist_of, drivers}
use Rattle.tsc_net.specs.NetFault.{fault_of, first_repeat, first_missing, joined, reads_of, no_outputs, twice, undriven, first_fault as net_fault}
use Rattle.tsc_net.specs.declared.net_error.NetError.{NetError}
use Rattle.tsc_net.proofs.NameLemmas.{text_at_place}
use Rattle.tsc_net.proofs.NetlistLemmas.{all_driven, driven-back, numbering-without_repeat}
use Rattle.tsc_text.specs.TextLine.{TextLine}
use Rattle.blif_read.specs.Denotes.{refusal}
use Rattle.blif_read.specs.NamedText.{named_text}
use Rattle.blif_read.proofs.NotRefused.{no_net_fault}
use Rattle.blif_read.specs.declared.kinds.Kind.{Kind}
use Rattle.tsc_bits.specs.Lists.{AreApart}

-- of a netlist without a fault nothing is shown twice, and all that is read is driven
no_repeat : (a b c : Option (List ℕ)) (outputs : List (List ℕ)) (d : Option NetError) → net_fault (twice a ∷ twice b ∷ undriven c ∷ no_outputs outputs ∷ d ∷ []) ≡ None → (b ≡ None) × (c ≡ None)
no_repeat None None None outputs d e = (refl, refl)
no_repeat None None (Some t) outputs d e = cc
no_repeat None (Some t) c outputs d e = cc
no_repeat (Some t) b c outputs d e = cc

-- where what is shown is driven, and nothing is shown twice, no net stands twice among the outputs
pub shown_apart : (N : Named) → IsNumbering N.outputs → All (λ t. has_text (drivers N) t ≡ true) N.outputs → AreApart (netlist_of N).circuit.outputs
shown_apart N numbering driven a b less low same =
    let lower : b < length N.outputs = omega (arith, low, counted) in
    let h : a < length N.outputs = omega (arith, less, lower) in
    let equal : a ≡ b = numbering.distinct a b h lower (sym (place a h) ∙ ap (text_at (drivers N)) same ∙ place b lower) in
    omega (arith, less, equal)
  where
    counted : length (netlist_of N).circuit.outputs ≡ length N.outputs
    counted = length-map N.outputs (place_of_text (drivers N))

    place : (k : ℕ) → k < length N.outputs → text_at (drivers N) (slice_index (netlist_of N).circuit.outputs k) ≡ text_at N.outputs k
    place k low =
        ap (text_at (drivers N)) (get_or-map (place_of_text (drivers N)) N.outputs k [] 0 low)
        ∙ text_at_place (drivers N) (text_at N.outputs k) (All-get_or (λ t. has_text (drivers N) t ≡ true) N.outputs k [] low driven)

-- so none does of a text that is read
pub outputs_apart : (kind : Kind) (lines : List TextLine) (net : NetlistOf) → net ≡ netlist_of (named_text lines) → refusal kind lines ≡ None → AreApart net.circuit.outputs
outputs_apart kind lines net exact allowed =
    subst (λ (n : NetlistOf). AreApart n.circuit.outputs) (sym exact) (shown_apart (named_text lines) numbering driven)
  where
    sound : fault_of (named_text lines) ≡ None
    sound = no_net_fault kind lines allowed

    both : (first_repeat (named_text lines).outputs ≡ None) × (first_missing (drivers (named_text lines)) (reads_of (named_text lines)) ≡ None)
    both = no_repeat (first_repeat (drivers (named_text lines))) (first_repeat (named_text lines).outputs) (first_missing (drivers (named_text lines)) (reads_of (named_text lines))) (named_text lines).outputs _ sound

    numbering : IsNumbering (named_text lines).outputs
    numbering = numbering-without_repeat [] (named_text lines).outputs both.0 (record { distinct = λ a b low lower e. absurd (omega arith) })

    driven : All (λ t. has_text (drivers (named_text lines)) t ≡ true) (named_text lines).outputs
    driven = all_driven (drivers (named_text lines)) (named_text lines).outputs (driven-back (drivers (named_text lines)) (joined (map (λ n. n.reads) (named_text lines).nodes) ++ map (λ l. l.reads) (named_text lines).latches) (named_text lines).outputs both.1)
