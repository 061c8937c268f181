use Rattle.joint_text.proofs.Tellable.{joint_text_is_fault_secure}
use Rattle.joint_text.proofs.laws.joint_texts_are_fault_secure.Goals as goal

pub returns : goal.returns
returns c = record { secure = joint_text_is_fault_secure }
