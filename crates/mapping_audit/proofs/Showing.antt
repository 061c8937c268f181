-- What an answer names is there.
use Rattle.std.proofs.Common.{◌≡◌, ℕ, ◌^◌, ◌<◌, ◌≤◌, length, inl, inr, sym, subst, arith}
use Rattle.std.proofs.lemmas.Bool.{cases_lt}
use Rattle.tsc_net.specs.NetlistOf.{NetlistOf}
use Rattle.mapping_reading.specs.ReadMapping.{block_pins}
use Rattle.mapping_reading.specs.Pins.{at_of}
use Rattle.mapping_reading.specs.NamedMapping.{moved_by_name}
use Rattle.mapping_audit.specs.MappedAnswer.{IsNoCover, IsMappedAnswer, IsShownIn}
use Rattle.mapping_audit.specs.declared.reason.MappedReason.TheVariants.{Inputs, Latches, Outputs, Net, NoBlock, NoPin, NoCover}
use Rattle.mapping_audit.specs.declared.answer.MappedAnswer.{MappedAnswer}
use Rattle.mapping_audit.specs.declared.answer.MappedAnswer.TheVariants.{Yes, No, Wide}

-- a cover that was tried has at most 20 distinct pins
narrow_pins : (N G : NetlistOf) (place value width : ℕ) → IsNoCover N.circuit G.circuit (moved_by_name N G) place value width
    → length (block_pins N.circuit (at_of G.circuit (moved_by_name N G)) place) ≤ 20
narrow_pins N G place value width missed = elim (cases_lt 20 (length (block_pins N.circuit (at_of G.circuit (moved_by_name N G)) place))) [
  | inl many ↦ absurd (missed.narrow place missed.first.inside (record { differs = missed.first.misses.differs; many = many }))
  | inr few ↦ few
]

pub shown_of : (N G : NetlistOf) (answer : MappedAnswer) → IsMappedAnswer N G answer → IsShownIn N G answer
shown_of N G Yes h = tt
shown_of N G (No Inputs) h = tt
shown_of N G (No Latches) h = tt
shown_of N G (No Outputs) h = tt
shown_of N G (No (Net place)) h = h.3.inside
shown_of N G (No (NoBlock gate)) (same, (inl none, refutes)) = let g = none.gates in let f = none.first in omega arith
shown_of N G (No (NoBlock gate)) (same, (inr twice, refutes)) = twice.first.inside
shown_of N G (No (NoPin gate pin)) h = (h.1.0.first.inside, h.1.0.first.here.has)
shown_of N G (No (NoCover place value width)) h =
    let pins : width ≡ length (block_pins N.circuit (at_of G.circuit (moved_by_name N G)) place) = h.1.0.first.misses.pins in
    let few : length (block_pins N.circuit (at_of G.circuit (moved_by_name N G)) place) ≤ 20 = narrow_pins N G place value width h.1.0 in
    (h.1.0.first.inside, omega arith, subst (λ n. value < 2 ^ n) (sym pins) h.1.0.first.misses.first.inside)
shown_of N G (Wide place) h = h.1.first.inside
