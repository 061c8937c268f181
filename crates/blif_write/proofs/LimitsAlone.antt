-- What the reader refuses of the lines that tell a netlist is a limit alone.
use Rattle.std.proofs.Common.{◌≡◌, ℕ, ◌+◌, Bool, true, false, if◌then◌else◌, List, [], ◌∷◌, ◌++◌, length, map, get_or, refl, sym, ap, ◌∙◌, subst, inl, Option, None, Some, All}
use Rattle.std.specs.List.{flat_map, AllByRecursion as Each}
use Rattle.std.proofs.lemmas.List.Elements.{recursion_from_All}
use Rattle.tsc_bits.specs.Lists.{AreApart}
use Rattle.tsc_cover.specs.Cover.{CoverTable}
use Rattle.tsc_text.specs.TextLine.{TextLine, the_word}
use Rattle.tsc_text.specs.Written.{WrittenLine, numbered}
use Rattle.tsc_text.specs.declared.which.Which.{Which}
use Rattle.tsc_text.specs.declared.which.Which.TheVariants.{NameBytes, Inputs as InputCount, Outputs as OutputCount, Nodes as NodeCount, Pins as PinCount}
use Rattle.tsc_text.proofs.AllowedTexts.{numbered-append}
use Rattle.tsc_net.specs.Named.{Named, NamedLatch, NamedNode}
use Rattle.tsc_net.specs.NetFault.{fault_of as net_fault}
use Rattle.tsc_net.specs.NetlistOf.{NetlistOf, IsBuilt, named_of}
use Rattle.tsc_net.specs.declared.net_error.NetError.{NetError}
use Rattle.blif_read.specs.Denotes.{refusal}
use Rattle.blif_read.specs.LineKind.{kind_of, kind_of_word, pins_of, net_of, name_count, width_of}
use Rattle.blif_read.specs.Faults.{fault_of, names_fault, latch_fault, latch_limit, limit, limit_in, first_of, is_long}
use Rattle.blif_read.specs.FirstFault.{fault_or, first_fault, first_fault_after}
use Rattle.blif_read.specs.NamedText.{named_text}
use Rattle.blif_read.specs.Refusal.{cause_refusal, first_refusal, refusal_of_line, refusal_of_net}
use Rattle.blif_read.specs.Seen.{seen_behind}
use Rattle.blif_read.specs.declared.cause.Cause.{Cause}
use Rattle.blif_read.specs.declared.cause.Cause.TheVariants.{WordCount, LatchInit, Limit}
use Rattle.blif_read.specs.declared.cause.LineFault.{LineFault}
use Rattle.blif_read.specs.declared.kinds.Kind.TheVariants.{Unplanned}
use Rattle.blif_read.specs.declared.kinds.LineKind.{LineKind}
use Rattle.blif_read.specs.declared.kinds.LineKind.TheVariants.{PlanLine, Model, Inputs, Outputs, Names as NamesKind, Latch}
use Rattle.blif_read.specs.declared.seen.Seen.{Seen}
use Rattle.blif_read.proofs.Scanned.{first_fault_is}
use Rattle.blif_write.specs.Layout.{model_line, inputs_line, outputs_line, latch_line, names_line, row_lines, node_lines, section_with}
use Rattle.blif_write.specs.Told.{HasWholeRows, IsLimitAlone, IsPlanLine, IsTellable, told_before_end}
use Rattle.blif_write.proofs.Good.{NodeWith, NetWith, net-with}
use Rattle.blif_write.proofs.LineKinds.{at}
use Rattle.blif_write.proofs.NetBack.{net-sound}
use Rattle.blif_write.proofs.NoFault.{at_first, init-is, not-zero, rows-pass}
use Rattle.blif_write.proofs.ReadBack.{count-read, width-read, tail, tail-split}
use Rattle.blif_write.proofs.Told.{Marked, lines-marked, tells}

-- no fault, or a limit
abbrev IsLimit : Option Cause → Type 0
IsLimit None = Unit {0}
IsLimit (Some (Limit which)) = Unit {0}
IsLimit (Some cause) = ⊥

abbrev HasLimit : Option LineFault → Type 0
HasLimit None = Unit {0}
HasLimit (Some fault) = IsLimit (Some fault.cause)

-- these lines have no fault but a limit behind what was seen
abbrev Limited : Seen → List TextLine → Type 0
Limited seen lines = HasLimit (first_fault_after Unplanned seen lines)

limited-line : (seen : Seen) (k : LineKind) (line : TextLine) (lines : List TextLine) → kind_of line ≡ k → IsLimit (fault_of Unplanned seen k line) → Limited (seen_behind seen k line) lines → Limited seen (line ∷ lines)
limited-line seen k line lines e f h =
    let L : LineKind → Type 0 = λ j. HasLimit (fault_or (fault_of Unplanned seen j line) line (first_fault_after Unplanned (seen_behind seen j line) lines)) in
    subst L (sym e) (or (fault_of Unplanned seen k line) (first_fault_after Unplanned (seen_behind seen k line) lines) f h)
  where
    or : (fault : Option Cause) (later : Option LineFault) → IsLimit fault → HasLimit later → HasLimit (fault_or fault line later)
    or None later f h = h
    or (Some cause) later f h = f

clean-limited : (seen : Seen) (k : LineKind) (line : TextLine) (lines : List TextLine) → kind_of line ≡ k → fault_of Unplanned seen k line ≡ None → Limited (seen_behind seen k line) lines → Limited seen (line ∷ lines)
clean-limited seen k line lines e f h = limited-line seen k line lines e (subst IsLimit (sym f) tt) h

limit-alone : (which : Option Which) → IsLimit (limit which)
limit-alone None = tt
limit-alone (Some which) = tt

long-alone : (b : Bool) → IsLimit (if b then Some (Limit NameBytes) else None)
long-alone true = tt
long-alone false = tt

-- nodes, with a literal a pin in each row
abbrev Any : List ℕ → Type 0
Any name = Unit {0}

abbrev IsRowed : ℕ → CoverTable → Type 0
IsRowed pins c = (c.width ≡ pins) × Each (λ row. length row ≡ c.width) c.rows

names-limited : (x : NamedNode) (n : ℕ) (seen : Seen) → IsLimit (names_fault Unplanned seen (at n (names_line x)))
names-limited x n seen =
    let line : TextLine = at n (names_line x) in
    let passed : Option Which = first_of (limit_in PinCount 64 0 (pins_of line)) (limit_in NodeCount 1048576 seen.nodes (net_of line ∷ [])) in
    let L : Bool → Type 0 = λ b. IsLimit (if b then Some WordCount else limit passed) in
    subst L (sym (not-zero (name_count line) (length x.reads) (count-read x n))) (limit-alone passed)

limited-nodes : (nodes : List NamedNode) → Each (NodeWith Any IsRowed) nodes → (seen : Seen) (n : ℕ) → Limited seen (numbered n (flat_map node_lines nodes))
limited-nodes [] h seen n = tt
limited-nodes (x ∷ nodes) h seen n =
    let line : TextLine = at n (names_line x) in
    let rows : List WrittenLine = row_lines x.cover in
    let rest : List TextLine = numbered (n + 1 + length rows) (flat_map node_lines nodes) in
    let wide : width_of line ≡ x.cover.width = width-read x n ∙ sym h.0.cover.0 in
    let P : List TextLine → Type 0 = λ lines. Limited seen (line ∷ lines) in
    subst P (sym (numbered-append (n + 1) rows (flat_map node_lines nodes)))
    (limited-line seen NamesKind line (numbered (n + 1) rows ++ rest) refl (names-limited x n seen)
    (rows-pass Unplanned Limited clean-limited x.cover.on x.cover.rows x.cover.width h.0.cover.1 (seen_behind seen NamesKind line) None
    (ap (λ (w : ℕ). Some (record { width = w; first = None })) wide) (inl refl) (n + 1) rest
    (λ s e. limited-nodes nodes h.1 s (n + 1 + length rows))))

-- latches
latch-limited : (l : NamedLatch) (n : ℕ) (seen : Seen) → IsLimit (latch_fault Unplanned seen (at n (latch_line l)))
latch-limited l n seen =
    let passed : Option Which = latch_limit Unplanned seen (at n (latch_line l)) in
    let L : Bool → Type 0 = λ b. IsLimit (if b then limit passed else Some LatchInit) in
    subst L (sym (init-is l n)) (limit-alone passed)

limited-latches : (latches : List NamedLatch) (seen : Seen) (n : ℕ) (rest : List TextLine) → ((s : Seen) → Limited s rest) → Limited seen (numbered n (map latch_line latches) ++ rest)
limited-latches [] seen n rest go = go seen
limited-latches (l ∷ latches) seen n rest go =
    let line : TextLine = at n (latch_line l) in
    limited-line seen Latch line (numbered (n + 1) (map latch_line latches) ++ rest) refl (latch-limited l n seen)
    (limited-latches latches (seen_behind seen Latch line) (n + 1) rest go)

-- plan lines are passed over
limited-plan : (plan : List WrittenLine) → Marked plan → (seen : Seen) (n : ℕ) (rest : List TextLine) → ((s : Seen) → Limited s rest) → Limited seen (numbered n plan ++ rest)
limited-plan [] h seen n rest go = go seen
limited-plan (w ∷ plan) h seen n rest go =
    let line : TextLine = at n w in
    limited-line seen PlanLine line (numbered (n + 1) plan ++ rest)
    (ap (λ (b : Bool). if b then PlanLine else kind_of_word (the_word line 0)) h.0) tt
    (limited-plan plan h.1 (seen_behind seen PlanLine line) (n + 1) rest go)

-- all lines before `.end`
section-limited : (N : Named) (plan : List WrittenLine) → Marked plan → NetWith Any IsRowed N → HasLimit (first_fault Unplanned (numbered 1 (section_with N plan)))
section-limited N plan marked h =
    let k : ℕ = 4 + length (plan ++ map latch_line N.latches) in
    let nodes : List TextLine = numbered k (flat_map node_lines N.nodes) in
    let latches : List TextLine = numbered (4 + length plan) (map latch_line N.latches) ++ nodes in
    let model : TextLine = at 1 (model_line N.model) in
    let inputs : TextLine = at 2 (inputs_line N.inputs) in
    let outputs : TextLine = at 3 (outputs_line N.outputs) in
    let one : Seen = seen_behind at_first Model model in
    let two : Seen = seen_behind one Inputs inputs in
    let three : Seen = seen_behind two Outputs outputs in
    let L : List TextLine → Type 0 = λ lines. Limited three lines in
    let behind : Limited three (numbered 4 (tail N plan)) = subst L (sym (tail-split N plan))
    (limited-plan plan marked three 4 latches (λ s. limited-latches N.latches s (4 + length plan) nodes (λ t. limited-nodes N.nodes h.nodes t k))) in
    subst HasLimit (sym (first_fault_is Unplanned [] (numbered 1 (section_with N plan))))
    (limited-line at_first Model model (inputs ∷ outputs ∷ numbered 4 (tail N plan)) refl (long-alone (is_long N.model))
    (limited-line one Inputs inputs (outputs ∷ numbered 4 (tail N plan)) refl (limit-alone (limit_in InputCount 1024 0 N.inputs))
    (limited-line two Outputs outputs (numbered 4 (tail N plan)) refl (limit-alone (limit_in OutputCount 66 0 N.outputs)) behind)))

-- the refusal of lines with such a fault, of a netlist without one
refused-alone : (fault : Option LineFault) (net : Option NetError) → HasLimit fault → net ≡ None → IsLimitAlone (first_refusal (first_refusal (refusal_of_line fault) (refusal_of_net net)) None)
refused-alone None net h e = subst (λ (n : Option NetError). IsLimitAlone (first_refusal (refusal_of_net n) None)) (sym e) tt
refused-alone (Some fault) net h e = by fault.cause h
  where
    by : (cause : Cause) → IsLimit (Some cause) → IsLimitAlone (Some (cause_refusal fault.line cause))
    by (Limit which) h = tt
    by cause h = absurd h

pub limits-alone : (net : NetlistOf) (plan : List WrittenLine) → IsBuilt net → IsTellable net → All HasWholeRows net.circuit.nodes → AreApart net.circuit.outputs → All IsPlanLine plan
    → IsLimitAlone (refusal Unplanned (told_before_end net plan))
limits-alone net plan checked told whole different all =
    let marked : Marked plan = lines-marked plan (recursion_from_All IsPlanLine plan all) in
    let text = tells net plan checked told all in
    let named : named_text (told_before_end net plan) ≡ named_of net = sym text.denoted.named in
    let rowed : NetWith Any IsRowed (named_of net) = net-with Any IsRowed net checked tt (λ i d h. tt) (λ j d h.
    (checked.closed.widths j d h, recursion_from_All (λ row. length row ≡ (get_or net.circuit.nodes j d).cover.width) (get_or net.circuit.nodes j d).cover.rows (whole j d h))) in
    refused-alone (first_fault Unplanned (told_before_end net plan)) (net_fault (named_text (told_before_end net plan)))
    (section-limited (named_of net) plan marked rowed) (ap net_fault named ∙ net-sound net checked different)
