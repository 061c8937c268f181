-- There is at most one answer of an audit of the structure.
use Rattle.std.proofs.Common.{◌≡◌, ℕ, ◌<◌, inl, inr, Option, Some, None, slice_index, refl, sym, ◌∙◌, ap, subst, arith}
use Rattle.std.proofs.lemmas.Bool.{cases_lt, false≢true}
use Rattle.fault_secure.specs.declared.code.Code.{Code}
use Rattle.fault_secure.specs.declared.code.Code.TheVariants.{Parity, Berger, MOutOfN}
use Rattle.fault_secure.specs.Circuit.{Circuit, node_net}
use Rattle.fault_secure.specs.CodePlan.{CodePlan, monitored, IsUnorderedCode}
use Rattle.fault_secure.specs.Structure.{RailsOutside, ReadsOnlyWord, IsUnate, HasDisjointCones}
use Rattle.fault_secure.specs.SoundStructure.{SuitsCode}
use Rattle.tsc_net.specs.declared.ids.NetId.{NetId}
use Rattle.structure_audit.specs.StructureReason.{IsFirstPin, ReadsForeign, HasWrongSign, places_of, PairComesBefore, SharesAt, IsFirstCommon, IsFirstSharedIn, IsFirstShared, IsFirstInnerRail, IsFirstPinOf, Fails, IsStructureAnswer}
use Rattle.structure_audit.specs.declared.reason.StructureReason.{StructureReason}
use Rattle.structure_audit.specs.declared.reason.StructureReason.TheVariants.{Rails, Reads, Sign, Latched, Shares}

-- three cases of two numbers
data Order (a b : ℕ) : Type 0 where
  less : a < b → Order a b
  same : a ≡ b → Order a b
  more : b < a → Order a b

order : (a b : ℕ) → Order a b
order a b = elim (cases_lt a b) [
  | inl low ↦ less low
  | inr high ↦ elim (cases_lt b a) [ inl lower ↦ more lower | inr both ↦ same (omega arith) ]
]

abbrev net_of : ℕ → NetId
net_of n = record { number = n }

same_net : (a b : NetId) → a.number ≡ b.number → a ≡ b
same_net a b e = ap net_of e

-- a first pin is one pin
one_pin : (Breaks : ℕ → ℕ → Type 0) (q pin r other : ℕ) → IsFirstPin Breaks q pin → IsFirstPin Breaks r other → (q ≡ r) × (pin ≡ other)
one_pin Breaks q pin r other a b = elim (order q r) [
  | less low ↦ absurd (b.first q pin (inl low) a.breaks)
  | more high ↦ absurd (a.first r other (inl high) b.breaks)
  | same e ↦ elim (order pin other) [
    | less low ↦ absurd (b.first q pin (inr (e, low)) a.breaks)
    | more high ↦ absurd (a.first r other (inr (sym e, high)) b.breaks)
    | same f ↦ (e, f)
  ]
]

one_pin_of : (N : Circuit) (Breaks : ℕ → ℕ → Type 0) (net other : NetId) (pin pin' : ℕ) → IsFirstPinOf N Breaks net.number pin → IsFirstPinOf N Breaks other.number pin' → (net ≡ other) × (pin ≡ pin')
one_pin_of N Breaks net other pin pin' (q, is, first) (r, is', first') =
    let both : (q ≡ r) × (pin ≡ pin') = one_pin Breaks q pin r pin' first first' in
    (same_net net other (is ∙ ap (node_net N) both.0 ∙ sym is'), both.1)

-- ---- the first shared node

module _ (N : Circuit) (P : CodePlan) where
  one_pair : (group a b c d : ℕ) → SharesAt N P group a b → SharesAt N P group c d
      → ((e f : ℕ) → PairComesBefore e f a b → SharesAt N P group e f → ⊥) → ((e f : ℕ) → PairComesBefore e f c d → SharesAt N P group e f → ⊥) → (a ≡ c) × (b ≡ d)
  one_pair group a b c d one other first first' = elim (order b d) [
    | less low ↦ absurd (first' a b (inl low) one)
    | more high ↦ absurd (first c d (inl high) other)
    | same e ↦ elim (order a c) [
      | less low ↦ absurd (first' a b (inr (e, low)) one)
      | more high ↦ absurd (first c d (inr (sym e, high)) other)
      | same f ↦ (f, e)
    ]
  ]

  one_common : (first second q r : ℕ) → IsFirstCommon N first second q → IsFirstCommon N first second r → q ≡ r
  one_common first second q r a b = elim (order q r) [
    | less low ↦ absurd (b.earliest q low a.of_first a.of_second)
    | more high ↦ absurd (a.earliest r high b.of_first b.of_second)
    | same e ↦ e
  ]

  one_group : (g h first second shared first' second' shared' : ℕ) → IsFirstShared N P g first second shared → IsFirstShared N P h first' second' shared' → g ≡ h
  one_group g h first second shared first' second' shared' a b = elim (order g h) [
    | less low ↦ absurd (b.first_group g a.here.a a.here.b low a.here.pair)
    | more high ↦ absurd (a.first_group h b.here.a b.here.b high b.here.pair)
    | same e ↦ e
  ]

  in_one_group : (g first second shared first' second' shared' : ℕ) → IsFirstSharedIn N P g first second shared → IsFirstSharedIn N P g first' second' shared'
      → (first ≡ first') × (second ≡ second') × (shared ≡ shared')
  in_one_group g first second shared first' second' shared' a b =
      let pair : (a.a ≡ b.a) × (a.b ≡ b.b) = one_pair g a.a a.b b.a b.b a.pair b.pair a.first_pair b.first_pair in
      let one : first ≡ first' = a.nets.first_line ∙ ap (λ k. slice_index (monitored N P) (slice_index (places_of P g) k)) pair.0 ∙ sym b.nets.first_line in
      let two : second ≡ second' = a.nets.second_line ∙ ap (λ k. slice_index (monitored N P) (slice_index (places_of P g) k)) pair.1 ∙ sym b.nets.second_line in
      let common : IsFirstCommon N first second b.nets.driver = subst (λ n. IsFirstCommon N n second b.nets.driver) (sym one) (subst (λ n. IsFirstCommon N first' n b.nets.driver) (sym two) b.nets.common) in
      (one, two, a.nets.drives ∙ ap (node_net N) (one_common first second a.nets.driver b.nets.driver a.nets.common common) ∙ sym b.nets.drives)

  one_shared : (g h : ℕ) (first second shared first' second' shared' : NetId) → IsFirstShared N P g first.number second.number shared.number
      → IsFirstShared N P h first'.number second'.number shared'.number → Shares g first second shared ≡ Shares h first' second' shared'
  one_shared g h first second shared first' second' shared' a b =
      let e : g ≡ h = one_group g h first.number second.number shared.number first'.number second'.number shared'.number a b in
      let all : (first.number ≡ first'.number) × (second.number ≡ second'.number) × (shared.number ≡ shared'.number) = in_one_group h first.number second.number shared.number first'.number second'.number shared'.number (subst (λ k. IsFirstSharedIn N P k first.number second.number shared.number) e a.here) b.here in
      let f : first ≡ first' = same_net first first' all.0 in
      let s : second ≡ second' = same_net second second' all.1 in
      let n : shared ≡ shared' = same_net shared shared' all.2 in
      cc

  -- ---- conditions that hold and fail

  rails_fail : (net : ℕ) → RailsOutside N P → IsFirstInnerRail N P net → ⊥
  rails_fail net rails (inl (is, fails)) = fails rails.first
  rails_fail net rails (inr (first, is, fails)) = fails rails.second

  reads_fail : (net pin : ℕ) → ReadsOnlyWord N P → IsFirstPinOf N (ReadsForeign N P) net pin → ⊥
  reads_fail net pin reads (q, is, first) = first.breaks.foreign (reads.reads q pin first.breaks.is_node first.breaks.in_checker first.breaks.is_pin)

  not_parity : (code : Code) → code ≡ Parity → IsUnorderedCode code → ⊥
  not_parity Parity is unordered = unordered
  not_parity Berger is unordered = cc
  not_parity MOutOfN is unordered = cc

  unate_of : (code : Code) → IsUnorderedCode code → SuitsCode code N P → IsUnate N P
  unate_of Parity unordered suits = absurd unordered
  unate_of Berger unordered suits = suits
  unate_of MOutOfN unordered suits = suits

  signs_fail : (net pin : ℕ) → IsUnate N P → IsFirstPinOf N (HasWrongSign N P) net pin → ⊥
  signs_fail net pin unate (q, is, first) =
      let w = first.breaks in
      false≢true (sym (unate.signs q pin w.is_node w.in_function w.is_pin w.inner) ∙ w.wrong)

  cones_of : P.code ≡ Parity → SuitsCode P.code N P → HasDisjointCones N P
  cones_of is suits = subst (λ code. SuitsCode code N P) is suits

  shares_fail : (g first second shared : ℕ) → HasDisjointCones N P → IsFirstShared N P g first second shared → ⊥
  shares_fail g first second shared cones s = cones.disjoint g s.here.a s.here.b s.here.pair.ordered s.here.pair.within s.here.pair.shares

  -- no reason stands beside all conditions
  all_hold : (reason : StructureReason) → RailsOutside N P × ReadsOnlyWord N P × SuitsCode P.code N P → Fails N P reason → ⊥
  all_hold (Rails net) (rails, reads, suits) fails = rails_fail net.number rails fails
  all_hold (Reads at pin) (rails, reads, suits) (_, fails) = reads_fail at.number pin reads fails
  all_hold (Sign at pin) (rails, reads, suits) (_, _, unordered, fails) = signs_fail at.number pin (unate_of P.code unordered suits) fails
  all_hold Latched (rails, reads, suits) (_, _, parity, some) = let none = (cones_of parity suits).no_latch in omega arith
  all_hold (Shares g first second at) (rails, reads, suits) (_, _, parity, none, fails) = shares_fail g first.number second.number at.number (cones_of parity suits) fails

  same_rail : (net other : NetId) → IsFirstInnerRail N P net.number → IsFirstInnerRail N P other.number → Rails net ≡ Rails other
  same_rail net other (inl (is, _)) (inl (is', _)) = ap Rails (same_net net other (is ∙ sym is'))
  same_rail net other (inl (_, fails)) (inr (holds, _, _)) = absurd (fails holds)
  same_rail net other (inr (holds, _, _)) (inl (_, fails)) = absurd (fails holds)
  same_rail net other (inr (_, is, _)) (inr (_, is', _)) = ap Rails (same_net net other (is ∙ sym is'))

  -- two reasons are the same
  one_reason : (a b : StructureReason) → Fails N P a → Fails N P b → a ≡ b
  one_reason (Rails net) (Rails other) fails fails' = same_rail net other fails fails'
  one_reason (Rails net) (Reads at pin) fails (rails, _) = absurd (rails_fail net.number rails fails)
  one_reason (Rails net) (Sign at pin) fails (rails, _, _, _) = absurd (rails_fail net.number rails fails)
  one_reason (Rails net) Latched fails (rails, _, _, _) = absurd (rails_fail net.number rails fails)
  one_reason (Rails net) (Shares g first second at) fails (rails, _, _, _, _) = absurd (rails_fail net.number rails fails)
  one_reason (Reads at pin) (Rails net) (rails, _) fails = absurd (rails_fail net.number rails fails)
  one_reason (Reads at pin) (Reads at' pin') (_, fails) (_, fails') =
      let both : (at ≡ at') × (pin ≡ pin') = one_pin_of N (ReadsForeign N P) at at' pin pin' fails fails' in
      let e = both.0 in
      let f = both.1 in
      cc
  one_reason (Reads at pin) (Sign at' pin') (_, fails) (_, reads, _, _) = absurd (reads_fail at.number pin reads fails)
  one_reason (Reads at pin) Latched (_, fails) (_, reads, _, _) = absurd (reads_fail at.number pin reads fails)
  one_reason (Reads at pin) (Shares g first second at') (_, fails) (_, reads, _, _, _) = absurd (reads_fail at.number pin reads fails)
  one_reason (Sign at pin) (Rails net) (rails, _, _, _) fails = absurd (rails_fail net.number rails fails)
  one_reason (Sign at pin) (Reads at' pin') (_, reads, _, _) (_, fails) = absurd (reads_fail at'.number pin' reads fails)
  one_reason (Sign at pin) (Sign at' pin') (_, _, _, fails) (_, _, _, fails') =
      let both : (at ≡ at') × (pin ≡ pin') = one_pin_of N (HasWrongSign N P) at at' pin pin' fails fails' in
      let e = both.0 in
      let f = both.1 in
      cc
  one_reason (Sign at pin) Latched (_, _, unordered, _) (_, _, parity, _) = absurd (not_parity P.code parity unordered)
  one_reason (Sign at pin) (Shares g first second at') (_, _, unordered, _) (_, _, parity, _, _) = absurd (not_parity P.code parity unordered)
  one_reason Latched (Rails net) (rails, _, _, _) fails = absurd (rails_fail net.number rails fails)
  one_reason Latched (Reads at pin) (_, reads, _, _) (_, fails) = absurd (reads_fail at.number pin reads fails)
  one_reason Latched (Sign at pin) (_, _, parity, _) (_, _, unordered, _) = absurd (not_parity P.code parity unordered)
  one_reason Latched Latched fails fails' = refl
  one_reason Latched (Shares g first second at) (_, _, _, some) (_, _, _, none, _) = absurd (omega arith)
  one_reason (Shares g first second at) (Rails net) (rails, _, _, _, _) fails = absurd (rails_fail net.number rails fails)
  one_reason (Shares g first second at) (Reads at' pin) (_, reads, _, _, _) (_, fails) = absurd (reads_fail at'.number pin reads fails)
  one_reason (Shares g first second at) (Sign at' pin) (_, _, parity, _, _) (_, _, unordered, _) = absurd (not_parity P.code parity unordered)
  one_reason (Shares g first second at) Latched (_, _, _, none, _) (_, _, _, some) = absurd (omega arith)
  one_reason (Shares g first second at) (Shares h first' second' at') (_, _, _, _, fails) (_, _, _, _, fails') = one_shared g h first second at first' second' at' fails fails'

  -- two answers are the same
  pub one_answer : (a b : Option StructureReason) → IsStructureAnswer N P a → IsStructureAnswer N P b → a ≡ b
  one_answer None None holds holds' = refl
  one_answer None (Some reason) holds fails = absurd (all_hold reason holds fails)
  one_answer (Some reason) None fails holds = absurd (all_hold reason holds fails)
  one_answer (Some reason) (Some other) fails fails' = ap Some (one_reason reason other fails fails')
