use Rattle.put_plan_laws.proofs.KeptMappings.{put_plan_lines_keep_mappings}
use Rattle.put_plan_laws.proofs.laws.put_plan_lines_keep_mappings.Goals as goal

pub returns : goal.returns
returns c = record { kept = put_plan_lines_keep_mappings }
