-- A table that grows leaves what was collected as it was.
use Rattle.std.proofs.Common.{◌+◌, ◌<◌, ◌^◌, ℕ, List, length, sym, ap, ◌∙◌, subst, arith}
use Rattle.tsc_net.specs.Names.{with_text}
use Rattle.tsc_net.specs.Parts.{MayBeNamed, PartsOf, with_name}
use Rattle.tsc_net.specs.PartsView.{KeepsNames, parts_of}
use Rattle.tsc_net.proofs.NameLemmas.{length-with_text-most}
use Rattle.tsc_net.proofs.PartsLemmas.{parts_named, keeps_named}
use Rattle.tsc_net.proofs.parts.Parts.name.Goals as goal

pub invariant_of-self-2 : goal.invariant_of-self-2
invariant_of-self-2 c =
    let few : length (with_text c.self.inside.names c.args.text.now) < 2 ^ 32 =
    (let room : length c.self.inside.names + 1 < 2 ^ 32 = subst (λ (v : PartsOf). length v.names + 1 < 2 ^ 32) (sym c.self.view_is) c.requires.room in
    omega (arith, length-with_text-most c.self.inside.names c.args.text.now)) in
    subst (λ (names : List (List ℕ)). KeepsNames (record c.self.inside { names = names })) (sym c.in_ok-number.ensures.ok)
    (keeps_named c.self.inside c.args.text.now c.self.invariant few
    (subst (λ (v : PartsOf). MayBeNamed v c.args.text.now) (sym c.self.view_is) c.requires.leaves_fresh))

pub returns-clause-ok : goal.returns-clause-ok
returns-clause-ok c =
    ap (λ (names : List (List ℕ)). parts_of (record c.self.inside { names = names })) c.in_ok-number.ensures.ok
    ∙ parts_named c.self.inside c.args.text.now c.self.invariant
    ∙ ap (λ v. with_name v c.args.text.now) c.self.view_is
