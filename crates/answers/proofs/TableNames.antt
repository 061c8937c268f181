-- A text can hold the names of the inputs and outputs of a table that was read from a text.
use Rattle.std.proofs.Common.{◌≡◌, ℕ, ◌+◌, ◌≤◌, Bool, true, List, ◌++◌, length, drop, get_or, Option, Some, None, All, refl, sym, subst, arith}
use Rattle.std.specs.Prelude.{find}
use Rattle.std.specs.List.{range_with_len}
use Rattle.std.proofs.lemmas.List.Elements.{All-append, All-drop, All-from_get_or, All-map, All-take}
use Rattle.std.proofs.lemmas.List.FromFn.{get_or-range_with_len, length-range_with_len}
use Rattle.std.proofs.lemmas.List.Sums.{AllPass-from_list_all}
use Rattle.tsc_text.specs.Bytes.{bad_line}
use Rattle.tsc_text.specs.Lines.{lines_of}
use Rattle.tsc_text.specs.TextLine.{TextLine}
use Rattle.tsc_text.specs.Written.{can_be_written, written}
use Rattle.tsc_text.proofs.AllowedWords.{HasAllowedWords, IsAllowed, lines_of-allowed}
use Rattle.tsc_text.proofs.ReadWords.{lines_of-written}
use Rattle.table_lines.specs.Denotes.{HasWords, IsName, IsShort}
use Rattle.table_lines.specs.NamesText.{names_or, numbered_name, numbered_names}
use Rattle.table_lines.proofs.LineFacts.{found_line}
use Rattle.table_lines.proofs.NameLists.{count_of_numbered}
use Rattle.blif_write.specs.Writable.{IsGoodName}
use Rattle.blif_write.proofs.NameBytes.{is_name_byte}
use Rattle.text_sections.specs.Denoted.{machine_lines, machine_section}
use Rattle.answers.proofs.FreshWritable.{numbered_good}

-- the names of a letter
numbered_allowed : (letter count : ℕ) → is_name_byte letter ≡ true → count ≤ 64 → All IsAllowed (numbered_names letter count)
numbered_allowed letter count e few =
    All-map IsAllowed (numbered_name letter) (range_with_len 0 count)
    (All-from_get_or (λ n. IsAllowed (numbered_name letter n)) (range_with_len 0 count) 0 (λ k h.
    let counted = length-range_with_len 0 count in
    let at : get_or (range_with_len 0 count) k 0 ≡ 0 + k = get_or-range_with_len 0 count k 0 (omega (arith, h, counted)) in
    let named = numbered_good letter (get_or (range_with_len 0 count) k 0) e (omega (arith, h, counted, at, few)) in
    named.allowed))

-- the names of the first line of a kind, and without one those of a letter
names_allowed : (kind : TextLine → Bool) (lines : List TextLine) (letter count : ℕ) → is_name_byte letter ≡ true → All HasAllowedWords lines
    → length (names_or (find kind lines) letter count) ≤ 64 → All IsAllowed (names_or (find kind lines) letter count)
names_allowed kind lines letter count e allowed few = by (find kind lines) refl few
  where
    by : (o : Option TextLine) → find kind lines ≡ o → length (names_or o letter count) ≤ 64 → All IsAllowed (names_or o letter count)
    by None f small = numbered_allowed letter count e (omega (arith, small, count_of_numbered letter count))
    by (Some line) f small = All-drop IsAllowed 1 line.words (found_line kind HasAllowedWords lines line allowed f).0

-- the lines of the table are among those of the text
section_all : (P : TextLine → Type 0) (lines : List TextLine) → All P lines → All P (machine_lines lines)
section_all P lines all = All-take P _ (drop (machine_section lines).first lines) (All-drop P (machine_section lines).first lines all)

-- words that a text may hold, at most 255 bytes long
good_names : (names : List (List ℕ)) → All IsName names → All IsAllowed names → All IsShort names → All IsGoodName names
good_names names words allowed short = λ k d h. record { word = words k d h; allowed = allowed k d h; short = short k d h }

-- the names of inputs and outputs, each given by the first line of a kind
pub table_names_good : (given shown : TextLine → Bool) (i o : ℕ) (text : List ℕ) (lines : List TextLine) (inputs outputs : List (List ℕ)) → lines ≡ lines_of text → bad_line text ≡ None
    → inputs ≡ names_or (find given (machine_lines lines)) 105 i → outputs ≡ names_or (find shown (machine_lines lines)) 111 o → length inputs ≤ 64 → length outputs ≤ 64
    → All IsShort (inputs ++ outputs) → (All HasWords lines → All IsName (inputs ++ outputs)) → All IsGoodName (inputs ++ outputs)
table_names_good given shown i o text lines inputs outputs are allowed inputs_are outputs_are few_inputs few_outputs short words =
    good_names (inputs ++ outputs) (words all_words)
    (All-append IsAllowed inputs outputs
    (subst (All IsAllowed) (sym inputs_are) (names_allowed given (machine_lines lines) 105 i refl there (subst (λ (names : List (List ℕ)). length names ≤ 64) inputs_are few_inputs)))
    (subst (All IsAllowed) (sym outputs_are) (names_allowed shown (machine_lines lines) 111 o refl there (subst (λ (names : List (List ℕ)). length names ≤ 64) outputs_are few_outputs))))
    short
  where
    all_words : All HasWords lines
    all_words = subst (All HasWords) (sym are) (AllPass-from_list_all (λ line. can_be_written (written line)) (lines_of text) (lines_of-written text))

    there : All HasAllowedWords (machine_lines lines)
    there = section_all HasAllowedWords lines (subst (All HasAllowedWords) (sym are) (lines_of-allowed text allowed))
