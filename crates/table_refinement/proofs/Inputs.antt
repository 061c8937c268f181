-- A network reads so many bits of an input: it answers alike at each list that begins with these, and so does what it answers as.
use Rattle.std.proofs.Common.{◌≡◌, ℕ, ◌<◌, Bool, true, false, List, length, map, refl, sym, ap, subst, ◌∙◌, arith}
use Rattle.std.specs.List.{range_with_len}
use Rattle.std.proofs.lemmas.List.FromFn.{get_or-map-range_with_len, length-map-range_with_len}
use Rattle.fault_secure.specs.Circuit.{Circuit, bit}
use Rattle.fault_secure.specs.Logic.{NetworkAnswers, NetworkHas}
use Rattle.pla_read.specs.Networks.{bits_by, AnswersAs}

-- the first bits of a list, so many of them, 0 where it has none
abbrev pub cut : ℕ → List Bool → List Bool
cut n x = map (bit x) (range_with_len 0 n)

pub cut_many : (n : ℕ) (x : List Bool) → length (cut n x) ≡ n
cut_many n x = length-map-range_with_len (bit x) 0 n

cut_bit : (n : ℕ) (x : List Bool) (i : ℕ) → i < n → bit (cut n x) i ≡ bit x i
cut_bit n x i h = get_or-map-range_with_len (bit x) 0 n i i false h (omega arith)

pub bit_by : (f : ℕ → Bool) (n place : ℕ) → place < n → bit (bits_by f n) place ≡ f place
bit_by f n place h = get_or-map-range_with_len f 0 n place place false h (omega arith)

-- answered there too
answered_there : (C : Circuit) (x y ys : List Bool) → ((i : ℕ) → i < C.inputs → bit x i ≡ bit y i) → NetworkAnswers C x ys → NetworkAnswers C y ys
answered_there C x y ys same h = record {
  valuation = h.valuation;
  settles = record {
    sized = h.settles.sized;
    inputs = λ i inside. h.settles.inputs i inside ∙ same i inside;
    latches = h.settles.latches;
    nodes = h.settles.nodes;
  };
  answers = h.answers;
}

module _ (f : List Bool → ℕ → Bool) (C : Circuit) (as_ : AnswersAs f C) where
  -- the bit of an answer
  pub bit_of : (x ys : List Bool) (place : ℕ) → place < length C.outputs → NetworkAnswers C x ys → bit ys place ≡ f x place
  bit_of x ys place inside h = ap (λ bits. bit bits place) (as_.alone x ys h) ∙ bit_by (f x) (length C.outputs) place inside

  -- the function is that of the first bits
  pub at_cut : (n : ℕ) (x : List Bool) (place : ℕ) → C.inputs ≡ n → place < length C.outputs → f (cut n x) place ≡ f x place
  at_cut n x place many inside =
      sym (bit_of (cut n x) (bits_by (f x) (length C.outputs)) place inside
      (answered_there C x (cut n x) (bits_by (f x) (length C.outputs)) (λ i low. sym (cut_bit n x i (subst (λ m. i < m) many low))) (as_.answers x)))
      ∙ bit_by (f x) (length C.outputs) place inside

  -- and where the network has 1 the function is true, and the other way
  pub has_one : (x : List Bool) (place : ℕ) → place < length C.outputs → f x place ≡ true → NetworkHas C x place true
  has_one x place inside h =
      let given : NetworkAnswers C x (bits_by (f x) (length C.outputs)) = as_.answers x in
      record {
        valuation = given.valuation;
        settles = given.settles;
        has = ap (λ bits. bit bits place) given.answers ∙ bit_by (f x) (length C.outputs) place inside ∙ h;
      }

  pub one_there : (x : List Bool) (place : ℕ) → place < length C.outputs → NetworkHas C x place true → f x place ≡ true
  one_there x place inside h =
      sym (bit_of x _ place inside (record { valuation = h.valuation; settles = h.settles; answers = refl })) ∙ h.has
