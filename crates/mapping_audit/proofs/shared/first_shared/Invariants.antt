use Rattle.mapping_audit.proofs.Sharing.{IsLeastShared}
use Rattle.mapping_audit.proofs.shared.first_shared.Given as goal

-- the readers so far were looked at
abbrev pub invariant-loop-gate : goal.invariant-loop-gate
invariant-loop-gate l = IsLeastShared l.mapped.circuit l.owners l.none l.blocks l.gate l.least
