use Rattle.joint_text.proofs.Tellable.{joint_text_tells}
use Rattle.joint_text.proofs.laws.joint_texts_are_told.Goals as goal

pub returns : goal.returns
returns c = record { told = joint_text_tells }
