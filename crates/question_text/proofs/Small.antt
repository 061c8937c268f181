-- The small text is computed.
use Rattle.std.proofs.Common.{refl}
use Rattle.std.specs.Fmt.{digits}
use Rattle.question_text.specs.SmallText.{SmallText}

pub small_text : SmallText
unfolding digits
small_text = refl
