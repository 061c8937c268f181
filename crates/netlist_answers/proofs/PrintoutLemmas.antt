-- A text that was printed through a page in which nothing waited, and which was then written out.
use Rattle.std.proofs.Common.{◌≡◌, ℕ, List, [], ◌++◌, Result, Ok, Err, OnOk, OnErr, refl, sym, ap, subst, ◌∙◌, append-nil}
use Rattle.std.specs.Io.KnownBytes.{Appends}
use Rattle.tsc_io.specs.Writing.{AppendsPrefix}
use Rattle.buffered_sink.specs.Output.{Output, IsPrinted, IsCut, Prints}
use Rattle.buffered_sink.proofs.PrintLemmas.{IsPrinted-then, IsCut-then}
use Rattle.netlist_answers.specs.Devices.{Gains, GainsPrefix, SinkCall, sink_call}

-- the call of the sink between two states of a page: what was written, and what failed, before and after
abbrev pub call_of : Output → Output → SinkCall
call_of before after = sink_call before.written after.written before.faults after.faults

-- nothing waited before, and nothing waits now: the sink gained the text
pub all_gained : (before after : Output) (text : List ℕ) → before.held ≡ [] → after.held ≡ [] → IsPrinted before after (text ++ []) → Gains (call_of before after) text
all_gained before after text none none_after p =
    let P : List ℕ → Type 0 = λ gone. Appends before.written after.written gone in
    let same : p.gone ≡ text =
    sym (append-nil p.gone) ∙ ap (λ (l : List ℕ). p.gone ++ l) (sym none_after) ∙ sym p.kept ∙ ap (λ (l : List ℕ). l ++ (text ++ [])) none ∙ append-nil text in
    subst P same p.gained

-- the sink failed in the text: it gained a first part
pub part_gained : (before after : Output) (text whole : List ℕ) → before.held ≡ [] → whole ≡ text → IsCut before after whole → GainsPrefix (call_of before after) text
part_gained before after text whole none same p =
    let P : List ℕ → Type 0 = λ bytes. AppendsPrefix before.written after.written bytes in
    record {
      rose = p.rose;
      prefix = subst P (ap (λ (l : List ℕ). l ++ whole) none ∙ same) p.gained;
    }

-- the text was printed, and then what waited was written
pub gained_at_end : {T E : Type 0} (result : Result T E) (before mid after : Output) (text : List ℕ) → before.held ≡ []
    → IsPrinted before mid text → Prints result mid after [] → OnOk result (after.held ≡ []) → OnOk result (Gains (call_of before after) text)
gained_at_end (Ok done) before mid after text none p q empty = all_gained before after text none empty (IsPrinted-then p q)
gained_at_end (Err fault) before mid after text none p q empty = tt

pub part_at_end : {T E : Type 0} (result : Result T E) (before mid after : Output) (text : List ℕ) → before.held ≡ []
    → IsPrinted before mid text → Prints result mid after [] → OnErr result (GainsPrefix (call_of before after) text)
part_at_end (Ok done) before mid after text none p q = tt
part_at_end (Err fault) before mid after text none p q = part_gained before after text (text ++ []) none (append-nil text) (IsCut-then p q)

-- the sink failed while the text was printed
pub part_at_exit : {T E : Type 0} (result : Result T E) (before after : Output) (text : List ℕ) → before.held ≡ []
    → IsCut before after text → OnErr result (GainsPrefix (call_of before after) text)
part_at_exit (Ok done) before after text none p = tt
part_at_exit (Err fault) before after text none p = part_gained before after text text none refl p
