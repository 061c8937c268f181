use Rattle.state_code.proofs.Codewords.{selected_at}
use Rattle.state_code.proofs.laws.states_select_themselves.Goals as goal

pub returns : goal.returns
returns c = record { bit = λ n m words bits state fit sized lt. selected_at n m words fit bits state sized lt }
