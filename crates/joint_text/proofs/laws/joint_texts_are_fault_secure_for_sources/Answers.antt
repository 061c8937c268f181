use Rattle.joint_text.proofs.Tellable.{joint_text_is_fault_secure_for_sources}
use Rattle.joint_text.proofs.laws.joint_texts_are_fault_secure_for_sources.Goals as goal

pub returns : goal.returns
returns c = record { secure = joint_text_is_fault_secure_for_sources }
