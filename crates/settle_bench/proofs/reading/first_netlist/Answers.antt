use Rattle.settle_bench.proofs.SectionLemmas.{is_section}
use Rattle.settle_bench.proofs.reading.first_netlist.Goals as goal

pub read_blif-requires : goal.read_blif-requires
read_blif-requires c = record { section = is_section c.in_ok-lines.lines c.section-section.result c.section-section.ensures.section }
