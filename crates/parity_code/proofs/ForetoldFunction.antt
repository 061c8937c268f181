-- A function part with foretold checks answers as its source does, its words are codewords, its groups have disjoint cones, and it is sound.
use Rattle.std.proofs.Common.{◌≡◌, ℕ, ◌+◌, ◌-◌, ◌<◌, ◌≤◌, inl, inr, Bool, true, false, not, List, [], ◌∷◌, ◌++◌, map, drop, length, slice_index, slice_index_or, All, IsTrue, refl, sym, ◌∙◌, ap, ap₂, subst, arith, append-nil, length-append, length-drop, drop_of_length-le, zero-add}
use Rattle.std.proofs.lemmas.Bool.{cases_lt}
use Rattle.std.proofs.lemmas.Grind.{common_steps}
use Rattle.std.proofs.lemmas.List.{length-map, get_or-map, get_or_append_left, get_or-append-add, get_or_past, map-append, nil_from_length}
use Rattle.std.proofs.lemmas.List.Elements.{All-head, All-tail, All-get_or, All-from_get_or}
use Rattle.fault_secure.specs.Circuit.{Circuit, node_net, bit}
use Rattle.fault_secure.specs.StuckAt.{NoFault}
use Rattle.fault_secure.specs.Settle.{Ranks, Settles}
use Rattle.fault_secure.specs.CodePlan.{CodePlan, monitored, word, bits_at, next_nets, members, concat_places, IsChecked, IsCodeword, next_of}
use Rattle.fault_secure.specs.declared.code.Code.TheVariants.{Parity}
use Rattle.fault_secure.specs.Depends.{Depends, InFunction}
use Rattle.fault_secure.specs.FaultSecure.{outputs_in}
use Rattle.fault_secure.specs.Segment.{SoundTo}
use Rattle.fault_secure.specs.Stretch.{StretchSettles}
use Rattle.fault_secure.specs.Structure.{SharesNode, HasDisjointCones}
use Rattle.fault_secure.proofs.PlanSizes.{length-members_from}
use Rattle.fault_secure.proofs.SegmentLemmas.{none_sound, joined_sound, depends_below, depends_between}
use Rattle.tsc_bits.specs.Counting.{differ, odd, ones}
use Rattle.tsc_bits.proofs.Bools.{odd-push}
use Rattle.parity_code.specs.Copy.{IsCopied, IsCopyOfCone}
use Rattle.parity_code.specs.ParityFunction.{outputs_at, HaveCommonNode}
use Rattle.parity_code.proofs.CopyLemmas.{copied-alike, copied-depends, all_alike}
use Rattle.parity_code.proofs.CopySegment.{copy_segment}
use Rattle.parity_code.proofs.PlacesWithin.{places_within}
use Rattle.net_cones.proofs.MemberPlaces.{member_at}
use Rattle.parity_code.specs.Foretold.{IsForetoldFunction}

-- a bit and its negation are odd together
odd_pair : (o : Bool) → IsTrue (differ o (not o))
odd_pair true = refl
odd_pair false = refl

module _ (C N : Circuit) (P : CodePlan) (top : ℕ) (f : IsForetoldFunction C N P top) where
  pub monitored_is : monitored N P ≡ map f.net C.outputs ++ P.checks
  monitored_is =
      let none : N.latches ≡ [] = nil_from_length N.latches f.own.latchless.1 in
      let no_next : next_nets N ≡ [] = ap (map (λ l. l.reads)) none in
      ap₂ (λ a b. (a ++ P.checks) ++ b) f.outputs no_next ∙ append-nil (map f.net C.outputs ++ P.checks)

  pub length_outputs : length (map f.net C.outputs) ≡ P.outputs
  length_outputs = length-map C.outputs f.net ∙ f.counted

  pub monitored_output : (p : ℕ) → p < P.outputs → slice_index (monitored N P) p ≡ f.net (slice_index C.outputs p)
  monitored_output p within =
      let c : length C.outputs ≡ P.outputs = f.counted in
      let e : length (map f.net C.outputs) ≡ P.outputs = length_outputs in
      ap (λ nets. slice_index nets p) monitored_is ∙ get_or_append_left (map f.net C.outputs) P.checks 0 p (omega arith)
      ∙ get_or-map f.net C.outputs p 0 0 (omega arith)

  pub monitored_check : (i : ℕ) → slice_index (monitored N P) (P.outputs + i) ≡ slice_index P.checks i
  monitored_check i =
      ap (λ nets. slice_index nets (P.outputs + i)) monitored_is
      ∙ ap (λ k. slice_index (map f.net C.outputs ++ P.checks) (k + i)) (sym length_outputs)
      ∙ get_or-append-add (map f.net C.outputs) P.checks i 0

  pub copied_output : (p : ℕ) → p < P.outputs → IsCopied C f.kept (slice_index C.outputs p)
  copied_output p within =
      let c : length C.outputs ≡ P.outputs = f.counted in
      All-get_or (IsCopied C f.kept) C.outputs p 0 (omega arith) f.outputs_copied

  output_cone : (p q : ℕ) → p < P.outputs → Depends N q (slice_index (monitored N P) p) → IsCopyOfCone C f.kept 0 q (slice_index C.outputs p)
  output_cone p q within depends =
      copied-depends C N f.kept 0 f.net f.own q (slice_index (monitored N P) p) depends (slice_index C.outputs p) (monitored_output p within) (copied_output p within)

  -- two outputs that share a node in N do in C
  shared_outputs : (p r : ℕ) → p < P.outputs → r < P.outputs → SharesNode N P p r → HaveCommonNode C (slice_index C.outputs p) (slice_index C.outputs r)
  shared_outputs p r pin rin shares =
      let one : IsCopyOfCone C f.kept 0 shares.shared (slice_index C.outputs p) = output_cone p shares.shared pin shares.first in
      let two : IsCopyOfCone C f.kept 0 shares.shared (slice_index C.outputs r) = output_cone r shares.shared rin shares.second in
      let i : shares.shared ≡ 0 + one.k = one.is in
      let j : shares.shared ≡ 0 + two.k = two.is in
      let k : two.k ≡ one.k = omega arith in
      record {
        node = slice_index f.kept one.k;
        first = one.depends;
        second = subst (λ k. Depends C (slice_index f.kept k) (slice_index C.outputs r)) k two.depends;
      }

  -- an output and a check share no node
  output_and_check : (p i : ℕ) → p < P.outputs → i < length P.groups → SharesNode N P p (P.outputs + i) → ⊥
  output_and_check p i pin iin shares =
      let one : IsCopyOfCone C f.kept 0 shares.shared (slice_index C.outputs p) = output_cone p shares.shared pin shares.first in
      let paired : length P.checks ≡ length P.groups = f.foretells.paired in
      let depends : Depends N shares.shared (slice_index P.checks i) = subst (Depends N shares.shared) (monitored_check i) shares.second in
      let two : (length f.kept ≤ shares.shared) × (shares.shared < top)
      = depends_between N (length f.kept) top shares.shared (slice_index P.checks i) f.foretells.closed depends (inr (f.foretells.within i (omega arith))) in
      let e : shares.shared ≡ 0 + one.k = one.is in
      let l : one.k < length f.kept = one.within in
      let h : length f.kept ≤ shares.shared = two.0 in
      omega arith

  -- the members of a group share no node
  apart : (group a b : ℕ) (G : List ℕ) → group < length P.groups → G ≡ slice_index_or P.groups group [] → All (λ place. place < P.outputs) G
      → a < b → b < length (G ++ (P.outputs + group) ∷ [])
      → SharesNode N P (slice_index (G ++ (P.outputs + group) ∷ []) a) (slice_index (G ++ (P.outputs + group) ∷ []) b) → ⊥
  apart group a b G within is all low high shares =
      let count : length (G ++ (P.outputs + group) ∷ []) ≡ length G + 1 = length-append G ((P.outputs + group) ∷ []) in
      let a_in : a < length G = omega arith in
      let at_a : slice_index (G ++ (P.outputs + group) ∷ []) a ≡ slice_index G a = get_or_append_left G ((P.outputs + group) ∷ []) 0 a a_in in
      let pa : slice_index G a < P.outputs = All-get_or (λ place. place < P.outputs) G a 0 a_in all in
      elim (cases_lt b (length G)) [
        | inl b_in ↦ (
            let at_b : slice_index (G ++ (P.outputs + group) ∷ []) b ≡ slice_index G b = get_or_append_left G ((P.outputs + group) ∷ []) 0 b b_in in
            let pb : slice_index G b < P.outputs = All-get_or (λ place. place < P.outputs) G b 0 b_in all in
            let here : SharesNode N P (slice_index G a) (slice_index G b)
            = subst (λ x. SharesNode N P x (slice_index G b)) at_a (subst (SharesNode N P (slice_index (G ++ (P.outputs + group) ∷ []) a)) at_b shares) in
            let common : HaveCommonNode C (slice_index C.outputs (slice_index G a)) (slice_index C.outputs (slice_index G b))
            = shared_outputs (slice_index G a) (slice_index G b) pa pb here in
            let out_a : slice_index (outputs_at C G) a ≡ slice_index C.outputs (slice_index G a) = get_or-map (slice_index C.outputs) G a 0 0 a_in in
            let out_b : slice_index (outputs_at C G) b ≡ slice_index C.outputs (slice_index G b) = get_or-map (slice_index C.outputs) G b 0 0 b_in in
            let there : HaveCommonNode C (slice_index (outputs_at C G) a) (slice_index (outputs_at C G) b)
            = subst (λ x. HaveCommonNode C x (slice_index (outputs_at C G) b)) (sym out_a)
            (subst (HaveCommonNode C (slice_index C.outputs (slice_index G a))) (sym out_b) common) in
            let size : b < length (slice_index_or P.groups group []) = subst (λ g. b < length g) is b_in in
            f.apart.apart group a b low size
            (subst (λ g. HaveCommonNode C (slice_index (outputs_at C g) a) (slice_index (outputs_at C g) b)) is there))
        | inr b_end ↦ (
            let end : b ≡ length G + 0 = omega arith in
            let at_b : slice_index (G ++ (P.outputs + group) ∷ []) b ≡ P.outputs + group
            = ap (slice_index (G ++ (P.outputs + group) ∷ [])) end ∙ get_or-append-add G ((P.outputs + group) ∷ []) 0 0 in
            output_and_check (slice_index G a) group pa within
            (subst (λ x. SharesNode N P x (P.outputs + group)) at_a (subst (SharesNode N P (slice_index (G ++ (P.outputs + group) ∷ []) a)) at_b shares)))
      ]

  -- where the groups have only places of outputs, the netlist has disjoint cones under the plan
  pub disjoint_cones : All (λ place. place < P.outputs) (concat_places P.groups) → HasDisjointCones N P
  disjoint_cones within = record { no_latch = f.own.latchless.1; disjoint = each }
    where
      each : (group a b : ℕ) → a < b → b < length (slice_index_or (members P) group [])
          → SharesNode N P (slice_index (slice_index_or (members P) group []) a) (slice_index (slice_index_or (members P) group []) b) → ⊥
      each group a b low high shares =
          let count : length (members P) ≡ length P.groups = length-members_from P.outputs P.groups in
          elim (cases_lt group (length P.groups)) [
            | inl there ↦ (
                let G : List ℕ = slice_index_or P.groups group [] in
                let is : slice_index_or (members P) group [] ≡ slice_index_or P.groups group [] ++ (P.outputs + group) ∷ [] = member_at P.outputs P.groups group there in
                apart group a b (slice_index_or P.groups group []) there refl (places_within (λ place. place < P.outputs) P.groups within group) low
                (subst (λ g. b < length g) is high)
                (subst (λ g. SharesNode N P (slice_index g a) (slice_index g b)) is shares))
            | inr past ↦ (
                let none : slice_index_or (members P) group [] ≡ [] = get_or_past (members P) group [] (omega arith) in
                absurd (empty (subst (λ g. b < length g) none high)))
          ]
        where
          empty : b < 0 → ⊥
          empty h = omega arith

module _ (C N : Circuit) (P : CodePlan) (top : ℕ) (f : IsForetoldFunction C N P top) (rank : ℕ → ℕ) (ranks : Ranks C rank) (fits : top ≤ length N.nodes)
    (x s t : ℕ → Bool) (u v : List Bool) (settles : Settles N NoFault x s u) (source : Settles C NoFault x t v) where
  inputs_alike : (i : ℕ) → i < C.inputs → bit u i ≡ bit v i
  inputs_alike i input =
      let e : N.inputs ≡ C.inputs = f.own.same_inputs in
      settles.inputs i (omega arith) ∙ sym (source.inputs i input)

  stretch : (k h : ℕ) → h ≤ length N.nodes → StretchSettles N u k h
  stretch k h up = record { nodes = λ j low high. settles.nodes j (omega arith) }

  copied : (n : ℕ) → IsCopied C f.kept n → bit u (f.net n) ≡ bit v n
  copied n is =
      let room : 0 + length f.kept ≤ length N.nodes = f.own.fits in
      copied-alike C N f.kept 0 f.net x t u v rank f.own ranks source
      (record { inputs = inputs_alike; nodes = λ k within. settles.nodes (0 + k) (omega arith) }) n is

  -- the outputs are the source's
  pub foretold_answers : outputs_in N P u ≡ map (bit v) C.outputs
  foretold_answers = ap (map (bit u)) f.outputs ∙ all_alike C f.kept f.net u v copied C.outputs f.outputs_copied

  length_monitored : length (monitored N P) ≡ P.outputs + length P.checks
  length_monitored =
      ap length (monitored_is C N P top f) ∙ length-append (map f.net C.outputs) P.checks
      ∙ ap (λ k. k + length P.checks) (length_outputs C N P top f)

  word_at : (p : ℕ) → p < P.outputs + length P.checks → bit (word N P u) p ≡ bit u (slice_index (monitored N P) p)
  word_at p within = let e : length (monitored N P) ≡ P.outputs + length P.checks = length_monitored in get_or-map (bit u) (monitored N P) p 0 false (omega arith)

  output_bit : (p : ℕ) → p < P.outputs → bit (word N P u) p ≡ bit v (slice_index C.outputs p)
  output_bit p within =
      word_at p (omega arith) ∙ ap (bit u) (monitored_output C N P top f p within)
      ∙ copied (slice_index C.outputs p) (copied_output C N P top f p within)

  output_bits : (places : List ℕ) → All (λ place. place < P.outputs) places → map (bit (word N P u)) places ≡ map (bit v) (outputs_at C places)
  output_bits [] all = refl
  output_bits (p ∷ places) all =
      ap₂ (λ b bits. b ∷ bits) (output_bit p (All-head (λ place. place < P.outputs) p places all)) (output_bits places (All-tail (λ place. place < P.outputs) p places all))

  paired : length P.checks ≡ length P.groups
  paired = f.foretells.paired

  check_bit : (i : ℕ) → i < length P.groups → bit (word N P u) (P.outputs + i) ≡ not (odd (map (bit v) (outputs_at C (slice_index_or P.groups i []))))
  check_bit i within =
      let e : length P.checks ≡ length P.groups = paired in
      word_at (P.outputs + i) (omega arith) ∙ ap (bit u) (monitored_check C N P top f i)
      ∙ f.foretells.foretold x t u v source inputs_alike (stretch (length f.kept) top fits) i within

  group_odd : All (λ place. place < P.outputs) (concat_places P.groups) → (i : ℕ) → i < length (members P)
      → IsTrue (odd (bits_at (word N P u) (slice_index_or (members P) i [])))
  group_odd within i there =
      let count : length (members P) ≡ length P.groups = length-members_from P.outputs P.groups in
      let i_in : i < length P.groups = omega arith in
      let G : List ℕ = slice_index_or P.groups i [] in
      let o : Bool = odd (map (bit v) (outputs_at C (slice_index_or P.groups i []))) in
      let is : slice_index_or (members P) i [] ≡ slice_index_or P.groups i [] ++ (P.outputs + i) ∷ [] = member_at P.outputs P.groups i i_in in
      let bits : bits_at (word N P u) (slice_index_or (members P) i []) ≡ map (bit (word N P u)) (slice_index_or P.groups i []) ++ bit (word N P u) (P.outputs + i) ∷ []
      = ap (bits_at (word N P u)) is ∙ map-append (bit (word N P u)) (slice_index_or P.groups i []) ((P.outputs + i) ∷ []) in
      let oddness : odd (bits_at (word N P u) (slice_index_or (members P) i [])) ≡ differ (odd (map (bit v) (outputs_at C (slice_index_or P.groups i [])))) (not (odd (map (bit v) (outputs_at C (slice_index_or P.groups i [])))))
      = ap odd bits ∙ odd-push (map (bit (word N P u)) (slice_index_or P.groups i [])) (bit (word N P u) (P.outputs + i))
      ∙ ap₂ differ (ap odd (output_bits (slice_index_or P.groups i []) (places_within (λ place. place < P.outputs) P.groups within i))) (check_bit i i_in) in
      subst (λ b. IsTrue b) (sym oddness) (odd_pair (odd (map (bit v) (outputs_at C (slice_index_or P.groups i [])))))

  pub foretold_checked : All (λ place. place < P.outputs) (concat_places P.groups) → IsChecked Parity P (word N P u)
  foretold_checked within = All-from_get_or (λ group. IsTrue (odd (bits_at (word N P u) group))) (members P) [] (group_odd within)

  -- the word is a codeword
  pub foretold_codeword : P.code ≡ Parity → P.weight ≡ 0 → All (λ place. place < P.outputs) (concat_places P.groups) → IsCodeword P (word N P u)
  foretold_codeword code weight within = record {
    checked = subst (λ code. IsChecked code P (word N P u)) (sym code) (foretold_checked within);
    weighed = ap ones rest ∙ sym weight;
  }
    where
      rest : next_of P (word N P u) ≡ []
      rest =
          let size : length (word N P u) ≡ P.outputs + length P.checks = length-map (monitored N P) (bit u) ∙ length_monitored in
          let left : length (drop P.outputs (word N P u)) ≡ length (word N P u) - P.outputs = length-drop P.outputs (word N P u) in
          drop_of_length-le (drop P.outputs (word N P u)) (omega arith)

module _ (C N : Circuit) (P : CodePlan) (top : ℕ) (f : IsForetoldFunction C N P top) (rank : ℕ → ℕ) (ranks : Ranks C rank) where
  -- the function part is sound
  pub function_sound : SoundTo N top
  function_sound = f.foretells.sound (subst (SoundTo N) (zero-add (length f.kept)) (joined_sound N 0 (0 + length f.kept) (none_sound N) (copy_segment C N f.kept 0 f.net rank f.own ranks)))

  output_below : (n : ℕ) → IsCopied C f.kept n → f.net n < node_net N top
  output_below n (inl input) =
      let e : f.net n ≡ n = f.own.inputs n input in let g : N.inputs ≡ C.inputs = f.own.same_inputs in omega arith
  output_below n (inr (k, within, is)) =
      let e : f.net n ≡ node_net N (0 + k) = ap f.net is ∙ f.own.nets k within in
      let r : length f.kept ≤ top = f.foretells.ordered in
      omega arith

  -- each monitored net stands below its end
  pub monitored_below : (p : ℕ) → p < length (monitored N P) → slice_index (monitored N P) p < node_net N top
  monitored_below p within =
      let count : length (monitored N P) ≡ length (map f.net C.outputs) + length P.checks
      = ap length (monitored_is C N P top f) ∙ length-append (map f.net C.outputs) P.checks in
      let outs : length (map f.net C.outputs) ≡ P.outputs = length_outputs C N P top f in
      elim (cases_lt p P.outputs) [
        | inl output ↦ (
            let e : slice_index (monitored N P) p ≡ f.net (slice_index C.outputs p) = monitored_output C N P top f p output in
            let b : f.net (slice_index C.outputs p) < node_net N top = output_below (slice_index C.outputs p) (copied_output C N P top f p output) in
            omega arith)
        | inr check ↦ (
            let at : p ≡ P.outputs + (p - P.outputs) = omega arith in
            let e : slice_index (monitored N P) p ≡ slice_index P.checks (p - P.outputs) = ap (slice_index (monitored N P)) at ∙ monitored_check C N P top f (p - P.outputs) in
            let b : slice_index P.checks (p - P.outputs) < node_net N top = (f.foretells.within (p - P.outputs) (omega arith)).1 in
            omega arith)
      ]

  -- the function stands below its end
  pub function_below : (q : ℕ) → InFunction N P q → q < top
  function_below q is =
      let k : ℕ = is.monitors.0 in
      let at : slice_index (monitored N P) is.monitors.0 ≡ is.net = placed is.monitors.0 is.monitors.1 is.monitors.2 in
      let b : slice_index (monitored N P) is.monitors.0 < node_net N top = monitored_below is.monitors.0 is.monitors.1 in
      depends_below N top q is.net function_sound is.depends (omega arith)
    where
      placed : (k : ℕ) → k < length (monitored N P) → slice_index_or (monitored N P) k is.net ≡ is.net → slice_index (monitored N P) k ≡ is.net
      placed k within e = grind (arith, common_steps)
