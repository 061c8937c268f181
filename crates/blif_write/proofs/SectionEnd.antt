-- Where the section of a layout ends.
use Rattle.std.proofs.Common.{◌≡◌, ℕ, suc, ◌+◌, ◌-◌, Bool, true, false, not, ◌&&◌, cond, if◌then◌else◌, List, [], ◌∷◌, ◌++◌, codes, length, map, nat_lt, take, refl, sym, ap, ◌∙◌, subst, arith}
use Rattle.std.specs.List.{list_all, flat_map, position_or_len, slice_range, AllByRecursion as Each}
use Rattle.std.specs.Str.{bytes_eq}
use Rattle.std.proofs.lemmas.Bool.{lt-ltb}
use Rattle.std.proofs.lemmas.List.{length_push, take_at}
use Rattle.tsc_net.proofs.NameLemmas.{bytes_eq_same}
use Rattle.tsc_text.specs.Section.{end_of, is_end_line, section_of}
use Rattle.tsc_text.specs.TextLine.{the_word}
use Rattle.tsc_text.specs.Written.{WrittenLine, numbered}
use Rattle.tsc_text.specs.declared.section.End.TheVariants.{Blif}
use Rattle.tsc_text.proofs.ReaderSteps.{by_test}
use Rattle.tsc_text.proofs.Written.{Both, both}
use Rattle.tsc_net.specs.Named.{Named}
use Rattle.blif_read.specs.LineKind.{kind_of_word}
use Rattle.blif_read.specs.declared.kinds.LineKind.{LineKind}
use Rattle.blif_read.specs.declared.kinds.LineKind.TheVariants.{PlanLine, OtherDirective}
use Rattle.blif_write.specs.Layout.{clocked_latch_line, node_lines, end_line, clocked_section, clocked_layout}
use Rattle.blif_write.proofs.LineKinds.{at, kind_written, AreKinds, AreKinds-append, AreKinds-map, kinds-plan, kinds-nodes}
use Rattle.tsc_text.proofs.AllowedTexts.{numbered-append}

abbrev is_known : LineKind → Bool
is_known OtherDirective = false
is_known _ = true

known-is-no-end : (is_plan : Bool) (word : List ℕ) → is_known (if is_plan then PlanLine else kind_of_word word) ≡ true → not (not is_plan && bytes_eq word (codes ".end")) ≡ true
known-is-no-end true word h = refl
known-is-no-end false word h = by_test (bytes_eq word (codes ".end")) (λ v. not v ≡ true)
    (λ e. let Known : List ℕ → Type 0 = λ w. is_known (kind_of_word w) ≡ true in
    let bad : false ≡ true = subst Known (bytes_eq_same word (codes ".end") e) h in cc)
    (λ e. refl)

section-known : (clock : List (List ℕ)) (N : Named) (plan : List WrittenLine) → Each (λ w. w.is_plan ≡ true) plan → AreKinds is_known (clocked_section clock N plan)
section-known clock N plan h =
    let latches : List WrittenLine = map (clocked_latch_line clock) N.latches in
    AreKinds-append is_known (plan ++ latches) (flat_map node_lines N.nodes)
    (AreKinds-append is_known plan latches (kinds-plan is_known refl plan h) (AreKinds-map is_known (clocked_latch_line clock) N.latches (λ _. refl)))
    (kinds-nodes is_known refl refl N.nodes)

end-behind : (n : ℕ) (ws : List WrittenLine) → AreKinds is_known ws → position_or_len (is_end_line Blif) (numbered n (ws ++ end_line ∷ [])) ≡ length ws
end-behind n [] h = refl
end-behind n (w ∷ ws) h =
    let parts : Both (is_known (kind_written w)) (list_all (λ v. is_known (kind_written v)) ws) = both _ _ h in
    let rest : position_or_len (is_end_line Blif) (numbered (n + 1) (ws ++ end_line ∷ [])) ≡ length ws = end-behind (n + 1) ws parts.right in
    ap (λ (b : Bool). cond b (1 + position_or_len (is_end_line Blif) (numbered (n + 1) (ws ++ end_line ∷ []))) 0) (known-is-no-end w.is_plan (the_word (at n w) 0) parts.left)
    ∙ (let next : 1 + position_or_len (is_end_line Blif) (numbered (n + 1) (ws ++ end_line ∷ [])) ≡ length (w ∷ ws) = omega (arith, rest) in next)

length-numbered : (n : ℕ) (ws : List WrittenLine) → length (numbered n ws) ≡ length ws
length-numbered n [] = refl
length-numbered n (w ∷ ws) = ap suc (length-numbered (n + 1) ws)

-- the section of a layout ends where `.end` stands
end-found : (clock : List (List ℕ)) (N : Named) (plan : List WrittenLine) → Each (λ w. w.is_plan ≡ true) plan → end_of (numbered 1 (clocked_layout clock N plan)) 0 Blif ≡ length (clocked_section clock N plan)
end-found clock N plan h = let found = end-behind 1 (clocked_section clock N plan) (section-known clock N plan h) in omega (arith, found)

-- the section of a layout has the lines before `.end`
pub section-read : (clock : List (List ℕ)) (N : Named) (plan : List WrittenLine) → Each (λ w. w.is_plan ≡ true) plan → slice_range (numbered 1 (clocked_layout clock N plan)) 0 (end_of (numbered 1 (clocked_layout clock N plan)) 0 Blif) ≡ numbered 1 (clocked_section clock N plan)
section-read clock N plan h =
    let lines : List WrittenLine = clocked_section clock N plan in
    let place : end_of (numbered 1 (clocked_layout clock N plan)) 0 Blif - 0 ≡ length lines = (let found = end-found clock N plan h in omega (arith, found)) in
    ap (λ m. take m (numbered 1 (lines ++ end_line ∷ []))) place
    ∙ ap (take (length lines)) (numbered-append 1 lines (end_line ∷ []))
    ∙ take_at (numbered 1 lines) (numbered (1 + length lines) (end_line ∷ [])) (length lines) (length-numbered 1 lines)

-- nothing stands behind it
pub section-ends : (clock : List (List ℕ)) (N : Named) (plan : List WrittenLine) → Each (λ w. w.is_plan ≡ true) plan → (section_of (numbered 1 (clocked_layout clock N plan)) 0 Blif).next ≡ length (numbered 1 (clocked_layout clock N plan))
section-ends clock N plan h =
    let lines : List WrittenLine = clocked_section clock N plan in
    let all : List WrittenLine = clocked_layout clock N plan in
    let many : length (numbered 1 all) ≡ length lines + 1 = length-numbered 1 all ∙ length_push lines end_line in
    let past : nat_lt (length lines) (length (numbered 1 all)) ≡ true = lt-ltb (length lines) (length (numbered 1 all)) (omega arith) in
    ap (λ past. cond (nat_lt past (length (numbered 1 all))) (past + 1) past) (end-found clock N plan h)
    ∙ ap (λ (b : Bool). cond b (length lines + 1) (length lines)) past
    ∙ sym many
