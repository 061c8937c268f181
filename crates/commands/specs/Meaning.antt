-- What the words after the program's name mean, by position.
use Rattle.std.specs.Prelude.{ℕ, List, codes, if◌then◌else◌, Option, Some, option_map}
use Rattle.std.specs.Str.{bytes_eq}
use Rattle.tsc_text.specs.Number.{number_of}
use Rattle.commands.specs.declared.command.Command.{Command}
use Rattle.commands.specs.declared.command.Command.TheVariants.{SynthBlif, SynthWatched, SynthKiss, SynthPla, Audit, AuditWide, AuditExact, AuditMapped, AuditProof, AskExact, Faults, Vectors, Grade, Sim, Join}
use Rattle.commands.specs.declared.request.Request.{Request}
use Rattle.commands.specs.declared.request.Request.TheVariants.{Read, Make, Help}
use Rattle.commands.specs.declared.source_format.SourceFormat.TheVariants.{Blif, Kiss, Pla}
use Rattle.commands.specs.SimWords.{sim_fault}
use Rattle.commands.specs.Words.{are_two, begin_so, format_named, is_make, is_only, machine_code_named, rows_named, way_named, word_at}

-- the synthesis of a BLIF source that a word names: `watched`, or a way
abbrev pub blif_synthesis_named : List ℕ → Option Command
blif_synthesis_named word = if bytes_eq word (codes "watched") then Some SynthWatched else option_map SynthBlif (way_named word)

-- the command on a text that the words ask for, if they ask for one
abbrev pub command_named : List (List ℕ) → Option Command
command_named words =
    if begin_so words (codes "synth") (codes "blif") then blif_synthesis_named (word_at words 2)
    else if begin_so words (codes "synth") (codes "kiss") then option_map SynthKiss (machine_code_named (word_at words 2))
    else if begin_so words (codes "synth") (codes "pla") then option_map SynthPla (way_named (word_at words 2))
    else if are_two words (codes "audit") (codes "blif") then Some (Audit Blif)
    else if are_two words (codes "audit") (codes "kiss") then Some (Audit Kiss)
    else if are_two words (codes "audit") (codes "pla") then Some (Audit Pla)
    else if begin_so words (codes "audit") (codes "wide") then option_map AuditWide (rows_named (word_at words 2))
    else if begin_so words (codes "audit") (codes "exact") then option_map AuditExact (format_named (word_at words 2))
    else if are_two words (codes "audit") (codes "mapped") then Some AuditMapped
    else if are_two words (codes "ask") (codes "exact") then Some AskExact
    else if are_two words (codes "audit") (codes "proof") then Some AuditProof
    else if is_only words (codes "faults") then Some Faults
    else if is_only words (codes "vectors") then Some Vectors
    else if is_only words (codes "grade") then Some Grade
    else if is_only words (codes "join") then Some Join
    else option_map Sim (sim_fault words)

-- what the words ask for, if they have a meaning
abbrev pub meaning : List (List ℕ) → Option Request
meaning words =
    if is_only words (codes "help") then Some Help
    else if is_make words then option_map Make (number_of (word_at words 1))
    else option_map Read (command_named words)
