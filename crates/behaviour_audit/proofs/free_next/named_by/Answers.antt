use Rattle.std.proofs.Common.{sym, ◌∙◌}
use Rattle.std.proofs.lemmas.Bool.{true≢false}
use Rattle.behaviour_audit.proofs.free_next.named_by.Goals as goal

pub returns-then-row : goal.returns-then-row
returns-then-row c = record { named = λ k few zero_ applied. absurd (true≢false (sym applied ∙ (sym (c.answered_by.ensures.bits k few) ∙ zero_))) }

pub returns-else-row : goal.returns-else-row
returns-else-row c = record { named = λ k few zero_ applied. c.if-row.false }
