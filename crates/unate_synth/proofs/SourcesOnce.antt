-- Sources of parts that hold nothing else: no text is driven twice.
use Rattle.std.proofs.Common.{◌≡◌, ℕ, ◌+◌, ◌<◌, ◌≤◌, List, [], take, drop, length, Contains, sym, ◌∙◌, subst, arith, get_or-take, length-drop}
use Rattle.std.proofs.lemmas.List.{get_or-drop, length-take, get_or_default}
use Rattle.tsc_net.specs.Names.{text_at, IsNumbering}
use Rattle.tsc_net.specs.NetlistOf.{drivers}
use Rattle.tsc_net.specs.Parts.{PartsOf}
use Rattle.gate_net.specs.Gates.{GateNetwork}
use Rattle.gate_net.proofs.Texts.{numbering_append}
use Rattle.unate_synth.specs.declared.roots.SourceNames.{SourceNames}
use Rattle.unate_synth.specs.Roots.{HasSourcesOnly}
use Rattle.unate_synth.proofs.Numberings.{numbering_take, numbering_drop}

-- no source is given twice
pub sources_once : (sources : SourceNames) (p : PartsOf) (G : GateNetwork) → HasSourcesOnly sources p G → IsNumbering (drivers p.named)
sources_once sources p G begun =
    subst IsNumbering (sym begun.driven)
    (numbering_append (take sources.inputs p.names) (take sources.latches (drop sources.first p.names)) (numbering_take sources.inputs p.names begun.distinct)
    (numbering_take sources.latches (drop sources.first p.names) (numbering_drop sources.first p.names begun.distinct)) apart)
  where
    apart : (t : List ℕ) → Contains (take sources.inputs p.names) t → Contains (take sources.latches (drop sources.first p.names)) t → ⊥
    apart t c d =
        let low : c.0 < sources.inputs = omega (arith, c.1, length-take {A = List ℕ} sources.inputs p.names) in
        let within : c.0 < length p.names = omega (arith, c.1, length-take {A = List ℕ} sources.inputs p.names) in
        let short : d.0 < sources.latches = omega (arith, d.1, length-take {A = List ℕ} sources.latches (drop sources.first p.names)) in
        let there : sources.first + d.0 < length p.names = omega (arith, d.1, length-take {A = List ℕ} sources.latches (drop sources.first p.names), length-drop {A = List ℕ} sources.first p.names) in
        let first : text_at p.names c.0 ≡ t = sym (get_or-take sources.inputs p.names c.0 [] low) ∙ get_or_default (take sources.inputs p.names) c.0 [] t c.1 ∙ c.2 in
        let second : text_at p.names (sources.first + d.0) ≡ t
        = sym (get_or-take sources.latches (drop sources.first p.names) d.0 [] short ∙ get_or-drop sources.first p.names d.0 [])
        ∙ get_or_default (take sources.latches (drop sources.first p.names)) d.0 [] t d.1 ∙ d.2 in
        let same : c.0 ≡ sources.first + d.0 = begun.distinct.distinct c.0 (sources.first + d.0) within there (first ∙ sym second) in
        let order : sources.inputs ≤ sources.first = begun.behind (omega arith) in
        absurd (omega arith)
