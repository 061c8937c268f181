-- Decisions in words, and what a write to one row of the pool leaves of the others.
use Rattle.std.proofs.Common.{◌≡◌, ◌≢◌, ℕ, ◌+◌, ◌*◌, ◌/◌, ◌%◌, ◌<◌, false, nat_eq, List, [], ◌∷◌, ◌++◌, length, slice_index, set, refl, sym, ap, ◌∙◌, arith}
use Rattle.std.proofs.lemmas.Bool.{or_parts, eqb-false}
use Rattle.tsc_bits.proofs.Lists.{map-push}
use Rattle.tsc_pool.specs.Pool.{PoolState, is_listed, is_out, AreThoseOut, words_of, with_words, KeepsWords}
use Rattle.tsc_pool.specs.Laws.{WritesKeepOthers, WritesAreRead}
use Rattle.tsc_pool.proofs.Entries.{words_of-kept}
use Rattle.diagrams.specs.declared.decision.Decision.{Decision}
use Rattle.diagrams.proofs.Canonical.{decision-same}
use Rattle.diagrams.specs.DecisionRows.{IsSmall, word_of, decision_of, decision_in, decisions_in}

-- the parts of three numbers that stand in one word
parts : (i l h : ℕ) → l < 4194304 → h < 4194304 → decision_of ((i * 4194304 + l) * 4194304 + h) ≡ record { input = i; low = l; high = h }
parts i l h small_l small_h =
    let word = (i * 4194304 + l) * 4194304 + h in
    let above : word / 4194304 ≡ i * 4194304 + l = omega arith in
    let last : word % 4194304 ≡ h = omega arith in
    let first : (i * 4194304 + l) / 4194304 ≡ i = omega arith in
    let mid : (i * 4194304 + l) % 4194304 ≡ l = omega arith in
    decision-same _ _ (ap (λ n. n / 4194304) above ∙ first) (ap (λ n. n % 4194304) above ∙ mid) last

pub decision_of-word : (d : Decision) → IsSmall d → decision_of (word_of d) ≡ d
decision_of-word d small = parts d.input d.low d.high small.low small.high

-- two decisions that fit have one word only if they are one
pub same_word : (d e : Decision) → IsSmall d → IsSmall e → word_of d ≡ word_of e → d ≡ e
same_word d e small_d small_e same = sym (decision_of-word d small_d) ∙ (ap decision_of same ∙ decision_of-word e small_e)

-- rows other than the one that is written stay
others_stay : (old new : PoolState) (row : ℕ) (held : List ℕ) → ((other : ℕ) → other ≢ row → words_of new other ≡ words_of old other) →
    is_listed held row ≡ false → decisions_in new held ≡ decisions_in old held
others_stay old new row [] kept apart = refl
others_stay old new row (h ∷ held) kept apart =
    let both = or_parts (nat_eq row h) (is_listed held row) apart in
    let same : decision_in new h ≡ decision_in old h = ap (λ words. decision_of (slice_index words 0)) (kept h (λ e. eqb-false row h both.0 (sym e))) in
    ap (λ d. d ∷ decisions_in new held) same ∙ ap (λ ds. decision_in old h ∷ ds) (others_stay old new row held kept both.1)

-- a row that wasn't out is written, and held after the others
pub decisions_in-push : (old taken : PoolState) (row : ℕ) (held : List ℕ) (d : Decision) → AreThoseOut old held → KeepsWords old taken → taken.width ≡ 1 → is_out old row ≡ false →
    WritesKeepOthers taken row → WritesAreRead taken row → IsSmall d →
    decisions_in (with_words taken row (word_of d ∷ [])) (held ++ row ∷ []) ≡ decisions_in old held ++ d ∷ []
decisions_in-push old taken row held d out keeps width apart others read small =
    let written = with_words taken row (word_of d ∷ []) in
    let kept : decisions_in written held ≡ decisions_in old held =
    others_stay old written row held (λ other ne. others (word_of d ∷ []) other (sym width) ne ∙ words_of-kept old taken other keeps) (out row ∙ apart) in
    let own : decision_in written row ≡ d = ap (λ words. decision_of (slice_index words 0)) (read (word_of d ∷ []) (sym width)) ∙ decision_of-word d small in
    map-push (decision_in written) held row ∙ (ap (λ xs. xs ++ decision_in written row ∷ []) kept ∙ ap (λ x. decisions_in old held ++ x ∷ []) own)

-- a list of one word that is written is the new word
pub written_one : (words : List ℕ) (word : ℕ) → length words ≡ 1 → set words 0 word ≡ word ∷ []
written_one [] word one = absurd (omega arith)
written_one (w ∷ []) word one = refl
written_one (w ∷ v ∷ words) word one = absurd (omega arith)
