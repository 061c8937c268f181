use Rattle.std.proofs.Common.{true, IfSome, subst}
use Rattle.diagrams.specs.Least.{IsLeast}
use Rattle.wide_audit.specs.FirstWrong.{IsFirstWrong}
use Rattle.wide_audit.proofs.wrong.earlier.Goals as goal

pub returns-in-Some-found : goal.returns-in-Some-found
returns-in-Some-found c = record {
  first = λ inputs rails differs found none some.
      c.sooner.ensures.first inputs rails differs (subst (IsFirstWrong inputs rails differs c.args.place) c.in-Some-found.is found)
      (subst (λ least. IfSome least (λ bits. IsLeast inputs (differs c.args.place) true bits.items)) c.in-Some.is some);
}
