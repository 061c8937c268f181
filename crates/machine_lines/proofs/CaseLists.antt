-- Lists of cases that grow.
use Rattle.std.proofs.Common.{◌≡◌, ℕ, ◌+◌, ◌<◌, ◌≤◌, Bool, true, false, cond, ◌&&◌, ◌||◌, List, [], ◌∷◌, ◌++◌, map, length, take, get_or, count_by, refl, sym, ◌∙◌, ap, ap₂, subst, arith}
use Rattle.std.specs.Prelude.{slice_index_or, All}
use Rattle.std.proofs.lemmas.List.{get_or_append_left, map-append, length-append, length-map, take_all, take_more, map_more, length-take-le}
use Rattle.std.proofs.lemmas.List.Elements.{All-push}
use Rattle.std.proofs.lemmas.List.Folds.{list_any-append}
use Rattle.std.proofs.lemmas.List.Sums.{sum_by-append}
use Rattle.std.proofs.Math.Seq.{get_or-append_seam}
use Rattle.tsc_bits.proofs.Bools.{or-false, and-false}
use Rattle.fault_secure.specs.Circuit.{bit}
use Rattle.tsc_net.specs.declared.machine.MachineRow.{MachineRow}
use Rattle.gate_net.specs.declared.line.Line.{Line}
use Rattle.gate_net.specs.Gates.{GateNetwork, IsLine, line_value, line_values}
use Rattle.gate_net.specs.Growth.{Grows}
use Rattle.gate_net.proofs.Kept.{line_kept}
use Rattle.tsc_bits.specs.Counting.{some_both}
use Rattle.machine_lines.specs.Cases.{case_word, has_one, stands, some_case, IsCaseOf, AreCases, AddsCases}
use Rattle.machine_lines.specs.declared.cases.Case.{Case}
use Rattle.machine_lines.specs.declared.widths.Widths.{Widths}
use Rattle.machine_lines.proofs.Chosen.{some_both_more}

joined : (old d both one line : Bool) → ((old || (d && both)) || (one && (d && line))) ≡ (old || (d && (both || (line && one))))
joined true d both one line = refl
joined false false both one line = and-false one
joined false true true one line = refl
joined false true false true true = refl
joined false true false true false = refl
joined false true false false true = refl
joined false true false false false = refl

-- a case more is counted at most once
pub one_more : (p : Case → Bool) (cases : List Case) (case : Case) → count_by p (cases ++ case ∷ []) ≤ count_by p cases + 1
one_more p cases case = bound (p case) (sum_by-append (λ (c : Case). cond (p c) 1 0) cases (case ∷ []))
  where
    bound : (b : Bool) → count_by p (cases ++ case ∷ []) ≡ count_by p cases + (0 + cond b 1 0) → count_by p (cases ++ case ∷ []) ≤ count_by p cases + 1
    bound true e = omega (arith, e)
    bound false e = omega (arith, e)

-- a case without a 1 there isn't counted
pub none_more : (p : Case → Bool) (cases new : List Case) (case : Case) → new ≡ cases ++ case ∷ [] → p case ≡ false → count_by p new ≡ count_by p cases
none_more p cases new case e fails =
    ap (count_by p) e
    ∙ sum_by-append (λ (c : Case). cond (p c) 1 0) cases (case ∷ [])
    ∙ ap (λ (b : Bool). count_by p cases + (0 + cond b 1 0)) fails
    ∙ omega arith

first_are : (P : Line → Type 0) (lines : List Line) (line : Line) → All P (lines ++ line ∷ []) → All P lines
first_are P lines line all = λ k d lt. subst P (get_or_append_left lines (line ∷ []) d k lt) (all k d (omega (arith, length-append lines (line ∷ []))))

last_is : (P : Line → Type 0) (lines : List Line) (line : Line) → All P (lines ++ line ∷ []) → P line
last_is P lines line all = subst P (get_or-append_seam lines line [] line) (all (length lines) line (omega (arith, length-append lines (line ∷ []))))

-- a case more
pub adds_more : (W : Widths) (old mid new : List Case) (decoded : Line) (lines : List Line) (words : List (List Bool)) (case : Case) (line : Line) (word : List Bool) → AddsCases W old mid decoded lines words
    → length lines ≡ length words → new ≡ mid ++ case ∷ [] → case.decoded ≡ decoded → case.line ≡ line → case_word W case ≡ word → AddsCases W old new decoded (lines ++ line ∷ []) (words ++ word ∷ [])
adds_more W old mid new decoded lines words case line word h sized e at on answers =
    subst (λ (list : List Case). AddsCases W old list decoded (lines ++ line ∷ []) (words ++ word ∷ [])) (sym e) (record {
      within = λ G was is_line are.
          All-push (IsCaseOf G) mid case (h.within G was is_line (first_are (IsLine G) lines line are))
          (subst (IsLine G) (sym at) is_line, subst (IsLine G) (sym on) (last_is (IsLine G) lines line are));
      value = λ G x s place.
          let vs = line_values G x s lines in
          let bs = map (λ (w : List Bool). bit w place) words in
          let d = line_value G x s decoded in
          let v = line_value G x s line in
          list_any-append (λ (c : Case). has_one W place c && stands G x s c) mid (case ∷ [])
          ∙ ap₂ (λ (a b : Bool). a || b) (h.value G x s place)
          (or-false (has_one W place case && stands G x s case)
          ∙ ap₂ (λ (w : List Bool) (b : Bool). bit w place && b) answers (ap₂ (λ (l m : Line). line_value G x s l && line_value G x s m) at on))
          ∙ joined (some_case W G x s place old) d (some_both vs bs) (bit word place) v
          ∙ ap (λ (b : Bool). some_case W G x s place old || (d && b))
          (sym (some_both_more vs bs v (bit word place) (length-map lines (line_value G x s) ∙ sized ∙ sym (length-map words (λ (w : List Bool). bit w place))))
          ∙ ap₂ some_both (sym (map-append (line_value G x s) lines (line ∷ []))) (sym (map-append (λ (w : List Bool). bit w place) words (word ∷ []))));
      count = omega (arith, h.count, length-append mid (case ∷ []), length-append words (word ∷ []));
      ones = λ place. omega (arith, h.ones place, one_more (has_one W place) mid case, length-append words (word ∷ []));
    })

-- a row more
pub row_adds : (W : Widths) (old mid new : List Case) (decoded : Line) (lines : List Line) (rows : List MachineRow) (word : MachineRow → List Bool) (i : ℕ) (d : Line) (r : MachineRow) (case : Case)
    → AddsCases W old mid decoded (take i lines) (map word (take i rows)) → length lines ≡ length rows → i < length rows → new ≡ mid ++ case ∷ [] → case.decoded ≡ decoded → case.line ≡ get_or lines i d
    → case_word W case ≡ word (get_or rows i r) → AddsCases W old new decoded (take (i + 1) lines) (map word (take (i + 1) rows))
row_adds W old mid new decoded lines rows word i d r case h sized lt e at on answers =
    let same_length : length (take i lines) ≡ length (map word (take i rows))
    = omega (arith, length-take-le i lines (omega (arith, sized)), length-take-le i rows (omega arith), length-map (take i rows) word) in
    subst (λ (list : List Line). AddsCases W old new decoded list (map word (take (i + 1) rows))) (sym (take_more lines i d (omega (arith, sized))))
    (subst (λ (list : List (List Bool)). AddsCases W old new decoded (take i lines ++ get_or lines i d ∷ []) list) (sym (map_more word rows i r lt))
    (adds_more W old mid new decoded (take i lines) (map word (take i rows)) case (get_or lines i d) (word (get_or rows i r)) h same_length e at on answers))

-- all rows, once none is left
pub rows_added : (W : Widths) (old new : List Case) (decoded : Line) (lines : List Line) (rows : List MachineRow) (word : MachineRow → List Bool) (i : ℕ)
    → AddsCases W old new decoded (take i lines) (map word (take i rows)) → length lines ≡ length rows → length rows ≤ i → AddsCases W old new decoded lines (map word rows)
rows_added W old new decoded lines rows word i h sized le =
    subst (λ (list : List Line). AddsCases W old new decoded list (map word rows)) (take_all i lines (omega (arith, sized)))
    (subst (λ (list : List MachineRow). AddsCases W old new decoded (take i lines) (map word list)) (take_all i rows le) h)

-- cases stay those of a network that grew
pub cases_kept : (a b : GateNetwork) (cases : List Case) → Grows a b → AreCases a cases → AreCases b cases
cases_kept a b cases grows within = λ k d lt.
    let was : IsCaseOf a (slice_index_or cases k d) = within k d lt in
    (line_kept a b (slice_index_or cases k d).decoded grows was.0, line_kept a b (slice_index_or cases k d).line grows was.1)
