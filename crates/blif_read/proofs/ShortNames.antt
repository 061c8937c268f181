-- The names of lines without a fault: each is a word of a line, and has at most 255 bytes.
use Rattle.std.proofs.Common.{◌≡◌, ℕ, ◌+◌, ◌≤◌, Bool, true, false, if◌then◌else◌, nat_le, nat_lt, List, [], ◌∷◌, ◌++◌, drop, length, get_or, refl, sym, ◌∙◌, arith, None, Some, All}
use Rattle.std.proofs.lemmas.Grind.{common_steps}
use Rattle.std.proofs.lemmas.List.Elements.{All-nil, All-cons, All-head, All-tail, All-append, All-drop, All-map}
use Rattle.tsc_net.specs.Named.{NamedLatch, NamedNode, latch_outs, node_outs}
use Rattle.tsc_net.specs.NetlistOf.{drivers}
use Rattle.tsc_text.specs.TextLine.{TextLine, the_word}
use Rattle.blif_read.specs.LineKind.{kind_of, kind_of_word, name_count, names_of, net_of}
use Rattle.blif_read.specs.NamedText.{input_names, inputs_of, latches_at, latches_of, model_at, model_or, name_or, named_text, nodes_at, nodes_of}
use Rattle.blif_read.specs.Seen.{seen_behind, seen_of}
use Rattle.blif_read.specs.Faults.{fault_of, is_long, limit_in, model_fault, most_latches, most_nodes}
use Rattle.blif_read.specs.FirstFault.{first_fault, first_fault_after}
use Rattle.blif_read.specs.declared.cause.Cause.TheVariants.{Limit, Unsupported, WordCount}
use Rattle.tsc_text.specs.declared.which.Which.{Which}
use Rattle.tsc_text.specs.declared.which.Which.TheVariants.{NameBytes, Inputs as InputCount, Nodes as NodeCount, Latches as LatchCount}
use Rattle.blif_read.specs.declared.kinds.Kind.{Kind}
use Rattle.blif_read.specs.declared.kinds.LineKind.{LineKind}
use Rattle.blif_read.specs.declared.kinds.LineKind.TheVariants.{PlanLine, Model, Inputs, Outputs, Names, Latch, OtherDirective, Row}
use Rattle.blif_read.specs.declared.seen.Seen.{Seen}
use Rattle.blif_read.proofs.CleanLines.{latch_line, named_line, no_fault_here, no_fault_later}
use Rattle.blif_read.proofs.Counts.{net_limit}
use Rattle.blif_read.proofs.NameLimits.{limit_none}
use Rattle.blif_read.proofs.Scanned.{first_fault_is, latch_out_limit}

-- the name has at most 255 bytes
abbrev IsShort : List ℕ → Type 0
IsShort name = length name ≤ 255

not_long : (name : List ℕ) → is_long name ≡ false → IsShort name
not_long name e = grind (arith, common_steps)

-- names that pass no limit are short
limit_in_short : (which : Which) (most count : ℕ) (names : List (List ℕ)) → limit_in which most count names ≡ None → All IsShort names
limit_in_short which most count [] e = All-nil IsShort
limit_in_short which most count (name ∷ names) e = by (is_long name) (nat_le most count) refl (limit_in_short which most (count + 1) names) e
  where
    by : (b c : Bool) → is_long name ≡ b → (limit_in which most (count + 1) names ≡ None → All IsShort names)
        → (if b then Some NameBytes else (if c then Some which else limit_in which most (count + 1) names)) ≡ None → All IsShort (name ∷ names)
    by true c f rest e = cc
    by false true f rest e = cc
    by false false f rest e = All-cons IsShort name names (not_long name f) (rest e)

one_short : (which : Which) (most count : ℕ) (name : List ℕ) → limit_in which most count (name ∷ []) ≡ None → IsShort name
one_short which most count name e = All-head IsShort name [] (limit_in_short which most count (name ∷ []) e)

-- the name of a model without a fault is short
model_short : (seen : Seen) (line : TextLine) → model_fault seen line ≡ None → IsShort (the_word line 1)
model_short seen line e = by seen.has_model (nat_lt 1 (name_count line)) (is_long (the_word line 1)) refl e
  where
    by : (a b c : Bool) → is_long (the_word line 1) ≡ c
        → (if a then Some Unsupported else (if b then Some WordCount else (if c then Some (Limit NameBytes) else None))) ≡ None → IsShort (the_word line 1)
    by true b c f e = cc
    by false true c f e = cc
    by false false true f e = cc
    by false false false f e = not_long (the_word line 1) f

-- what holds of each word that isn't of a plan line holds of each name
module _ (P : List ℕ → Type 0) where
  -- P holds of the name, and the name is short
  abbrev pub IsShortName : List ℕ → Type 0
  IsShortName name = P name × IsShort name

  -- where the line is no plan line it holds of its words
  abbrev pub HasNames : TextLine → Type 0
  HasNames line = line.is_plan ≡ false → All P line.words

  abbrev HasNamesAt : LineKind → TextLine → Type 0
  HasNamesAt PlanLine line = Unit {0}
  HasNamesAt _ line = All P line.words

  names_at : (kind : LineKind) (line : TextLine) → All P line.words → HasNamesAt kind line
  names_at PlanLine line h = tt
  names_at Model line h = h
  names_at Inputs line h = h
  names_at Outputs line h = h
  names_at Names line h = h
  names_at Latch line h = h
  names_at OtherDirective line h = h
  names_at Row line h = h

  names_here : (line : TextLine) → HasNames line → HasNamesAt (kind_of line) line
  names_here line h = by line.is_plan refl
    where
      by : (b : Bool) → line.is_plan ≡ b → HasNamesAt (if b then PlanLine else kind_of_word (the_word line 0)) line
      by true e = tt
      by false e = names_at (kind_of_word (the_word line 0)) line (h e)

  model_named : (model : List ℕ) (words : List (List ℕ)) → IsShortName model → All P words → IsShort (get_or words 1 []) → IsShortName (name_or model (drop 1 words))
  model_named model [] s h l = s
  model_named model (word ∷ []) s h l = s
  model_named model (word ∷ name ∷ words) s h l = (h 1 [] (omega arith), l)

  model_here : (limits : Kind) (seen : Seen) (kind : LineKind) (line : TextLine) (model : List ℕ)
      → fault_of limits seen kind line ≡ None → HasNamesAt kind line → IsShortName model → IsShortName (model_at model kind line)
  model_here limits seen Model line model e h s = model_named model line.words s h (model_short seen line e)
  model_here limits seen PlanLine line model e h s = s
  model_here limits seen Inputs line model e h s = s
  model_here limits seen Outputs line model e h s = s
  model_here limits seen Names line model e h s = s
  model_here limits seen Latch line model e h s = s
  model_here limits seen OtherDirective line model e h s = s
  model_here limits seen Row line model e h s = s

  inputs_here : (limits : Kind) (seen : Seen) (kind : LineKind) (line : TextLine)
      → fault_of limits seen kind line ≡ None → HasNamesAt kind line → All IsShortName (input_names kind line)
  inputs_here limits seen Inputs line e h =
      let short : All IsShort (names_of line) = limit_in_short InputCount 1024 seen.inputs (names_of line) (limit_none _ e) in
      let named : All P (names_of line) = All-drop P 1 line.words h in
      λ k d w. (named k d w, short k d w)
  inputs_here limits seen PlanLine line e h = All-nil IsShortName
  inputs_here limits seen Model line e h = All-nil IsShortName
  inputs_here limits seen Outputs line e h = All-nil IsShortName
  inputs_here limits seen Names line e h = All-nil IsShortName
  inputs_here limits seen Latch line e h = All-nil IsShortName
  inputs_here limits seen OtherDirective line e h = All-nil IsShortName
  inputs_here limits seen Row line e h = All-nil IsShortName

  abbrev GivesName : NamedLatch → Type 0
  GivesName l = IsShortName l.out

  latches_here : (limits : Kind) (seen : Seen) (kind : LineKind) (line : TextLine)
      → fault_of limits seen kind line ≡ None → HasNamesAt kind line → All GivesName (latches_at kind line)
  latches_here limits seen Latch line e h =
      let some : 3 ≤ length line.words = latch_line limits seen line e in
      let short : IsShort (the_word line 2) = one_short LatchCount (most_latches limits) seen.latches (the_word line 2) (latch_out_limit limits seen line e) in
      All-cons GivesName _ [] (h 2 [] (omega (arith, some)), short) (All-nil GivesName)
  latches_here limits seen PlanLine line e h = All-nil GivesName
  latches_here limits seen Model line e h = All-nil GivesName
  latches_here limits seen Inputs line e h = All-nil GivesName
  latches_here limits seen Outputs line e h = All-nil GivesName
  latches_here limits seen Names line e h = All-nil GivesName
  latches_here limits seen OtherDirective line e h = All-nil GivesName
  latches_here limits seen Row line e h = All-nil GivesName

  abbrev DrivesName : NamedNode → Type 0
  DrivesName n = IsShortName n.out

  nodes_here : (limits : Kind) (seen : Seen) (kind : LineKind) (line : TextLine) (behind : List TextLine)
      → fault_of limits seen kind line ≡ None → HasNamesAt kind line → All DrivesName (nodes_at kind line behind)
  nodes_here limits seen Names line behind e h =
      let some : 2 ≤ length line.words = (named_line limits seen line e).0 in
      let short : IsShort (net_of line) = one_short NodeCount (most_nodes limits) seen.nodes (net_of line) (net_limit limits seen line e) in
      All-cons DrivesName _ [] (h _ [] (omega (arith, some)), short) (All-nil DrivesName)
  nodes_here limits seen PlanLine line behind e h = All-nil DrivesName
  nodes_here limits seen Model line behind e h = All-nil DrivesName
  nodes_here limits seen Inputs line behind e h = All-nil DrivesName
  nodes_here limits seen Outputs line behind e h = All-nil DrivesName
  nodes_here limits seen Latch line behind e h = All-nil DrivesName
  nodes_here limits seen OtherDirective line behind e h = All-nil DrivesName
  nodes_here limits seen Row line behind e h = All-nil DrivesName

  -- what the lines drive
  record DriveNames (lines : List TextLine) : Type 0 where
    pub inputs : All IsShortName (inputs_of lines)
    pub latches : All GivesName (latches_of lines)
    pub nodes : All DrivesName (nodes_of lines)

  drive_after : (kind : Kind) (lines : List TextLine) (seen : Seen) → All HasNames lines → first_fault_after kind seen lines ≡ None → DriveNames lines
  drive_after kind [] seen h e = record { inputs = All-nil IsShortName; latches = All-nil GivesName; nodes = All-nil DrivesName }
  drive_after kind (line ∷ lines) seen h e =
      let after = seen_behind seen (kind_of line) line in
      let here = no_fault_here (fault_of kind seen (kind_of line) line) line (first_fault_after kind after lines) e in
      let later = no_fault_later (fault_of kind seen (kind_of line) line) line (first_fault_after kind after lines) e in
      let words = names_here line (All-head HasNames line lines h) in
      let rest : DriveNames lines = drive_after kind lines after (All-tail HasNames line lines h) later in
      record {
        inputs = All-append IsShortName (input_names (kind_of line) line) (inputs_of lines) (inputs_here kind seen (kind_of line) line here words) rest.inputs;
        latches = All-append GivesName (latches_at (kind_of line) line) (latches_of lines) (latches_here kind seen (kind_of line) line here words) rest.latches;
        nodes = All-append DrivesName (nodes_at (kind_of line) line lines) (nodes_of lines) (nodes_here kind seen (kind_of line) line lines here words) rest.nodes;
      }

  model_after : (kind : Kind) (lines : List TextLine) (seen : Seen) (model : List ℕ) → All HasNames lines → first_fault_after kind seen lines ≡ None
      → IsShortName model → IsShortName (model_or model lines)
  model_after kind [] seen model h e s = s
  model_after kind (line ∷ lines) seen model h e s =
      let after = seen_behind seen (kind_of line) line in
      let here = no_fault_here (fault_of kind seen (kind_of line) line) line (first_fault_after kind after lines) e in
      let later = no_fault_later (fault_of kind seen (kind_of line) line) line (first_fault_after kind after lines) e in
      let words = names_here line (All-head HasNames line lines h) in
      model_after kind lines after (model_at model (kind_of line) line) (All-tail HasNames line lines h) later (model_here kind seen (kind_of line) line model here words s)

  -- the names of what lines without a fault drive
  pub short_names : (kind : Kind) (lines : List TextLine) → All HasNames lines → first_fault kind lines ≡ None → All IsShortName (drivers (named_text lines))
  short_names kind lines h e =
      let N = named_text lines in
      let all : DriveNames lines = drive_after kind lines (seen_of []) h (sym (first_fault_is kind [] lines) ∙ e) in
      All-append IsShortName (N.inputs ++ latch_outs N) (node_outs N)
      (All-append IsShortName N.inputs (latch_outs N) all.inputs (All-map IsShortName (λ l. l.out) N.latches all.latches))
      (All-map IsShortName (λ n. n.out) N.nodes all.nodes)

  -- the name of their model
  pub short_model : (kind : Kind) (lines : List TextLine) (model : List ℕ) → All HasNames lines → first_fault kind lines ≡ None
      → IsShortName model → IsShortName (model_or model lines)
  short_model kind lines model h e s = model_after kind lines (seen_of []) model h (sym (first_fault_is kind [] lines) ∙ e) s
