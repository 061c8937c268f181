-- What is left to delete leads where all of it leads.
use Rattle.std.proofs.Common.{◌≡◌, List, drop}
use Rattle.refutations.specs.declared.literal.Literal.{Literal}
use Rattle.refutations.specs.Checking.{IsSound}
use Rattle.refutation_text.specs.Following.{are_alive, without_clauses}
use Rattle.refutation_text.proofs.deletion.delete_all.Given as goal

abbrev pub invariant-loop-number : goal.invariant-loop-number
invariant-loop-number l = record {
  alive : are_alive l.fn.checker l.numbers ≡ are_alive l.checker (drop l.number-index l.numbers);
  after : without_clauses l.fn.checker l.numbers ≡ without_clauses l.checker (drop l.number-index l.numbers);
  sound : (formula : List (List Literal)) → IsSound formula l.fn.checker → IsSound formula l.checker;
}
