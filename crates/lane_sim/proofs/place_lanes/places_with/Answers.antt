use Rattle.std.proofs.Common.{ℕ, ◌≤◌, ◌+◌, ◌∙◌, sym, ap, arith}
use Rattle.tsc_bits.specs.Bits.{bit_worth}
use Rattle.lane_sim.proofs.PlaceLemmas.{places_0, places_1, places_2, places_3, places_4, places_5, high_digit}
use Rattle.lane_sim.proofs.place_lanes.places_with.Goals as goal

pub returns-in-0 : goal.returns-in-0
returns-in-0 c = record { bits = λ k few. places_0 c.args.base k c.requires.whole few ∙ ap (λ (d : ℕ). bit_worth d (c.args.base + k)) (sym c.in-0.is) }

pub returns-in-1 : goal.returns-in-1
returns-in-1 c = record { bits = λ k few. places_1 c.args.base k c.requires.whole few ∙ ap (λ (d : ℕ). bit_worth d (c.args.base + k)) (sym c.in-1.is) }

pub returns-in-2 : goal.returns-in-2
returns-in-2 c = record { bits = λ k few. places_2 c.args.base k c.requires.whole few ∙ ap (λ (d : ℕ). bit_worth d (c.args.base + k)) (sym c.in-2.is) }

pub returns-in-3 : goal.returns-in-3
returns-in-3 c = record { bits = λ k few. places_3 c.args.base k c.requires.whole few ∙ ap (λ (d : ℕ). bit_worth d (c.args.base + k)) (sym c.in-3.is) }

pub returns-in-4 : goal.returns-in-4
returns-in-4 c = record { bits = λ k few. places_4 c.args.base k c.requires.whole few ∙ ap (λ (d : ℕ). bit_worth d (c.args.base + k)) (sym c.in-4.is) }

pub returns-in-5 : goal.returns-in-5
returns-in-5 c = record { bits = λ k few. places_5 c.args.base k c.requires.whole few ∙ ap (λ (d : ℕ). bit_worth d (c.args.base + k)) (sym c.in-5.is) }

pub returns-in_default : goal.returns-in_default
returns-in_default c = record {
  bits = λ k few.
      let high : 6 ≤ c.args.digit = omega arith in
      c.word_of.ensures.bits k few ∙ (c.bit_at.ensures.bit ∙ high_digit c.args.digit c.args.base k high c.requires.whole few);
}
