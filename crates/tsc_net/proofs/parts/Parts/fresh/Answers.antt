-- The names grow by the text of the next fresh name.
use Rattle.std.proofs.Common.{◌≡◌, ◌+◌, ℕ, List, false, Option, Some, None, sym, ap, ◌∙◌, ◌⊎◌, inl, inr, ◌<◌, ◌^◌, length, subst, arith}
use Rattle.tsc_net.specs.Names.{has_text, with_text}
use Rattle.tsc_net.specs.Parts.{PartsOf, FreshNames, fresh_of, fresh_text, next_fresh, with_fresh, free_number}
use Rattle.tsc_net.specs.PartsView.{IsFreshUnused, KeepsNames, fresh_names, parts_of}
use Rattle.tsc_net.specs.declared.fresh.FreshPart.{FreshPart}
use Rattle.tsc_net.proofs.NameLemmas.{length-with_text-most, place_past}
use Rattle.tsc_net.proofs.FreshNumbers.{next-is-new}
use Rattle.tsc_net.proofs.PartsLemmas.{fresh_going-on, keeps_fresh, parts_fresh}
use Rattle.tsc_net.proofs.parts.Parts.fresh.Goals as goal
use Rattle.tsc_net.proofs.parts.Parts.fresh.Goals.{in-Some, in-None+in_ok-fresh-in-None}

abbrev seen : FreshPart → FreshNames
seen f = record { number = f.number; next = f.next }

-- the first fresh names
begins : (p : PartsOf) (f : FreshPart) → f.number ≡ free_number p.names → f.next ≡ 0 → seen f ≡ fresh_of p None
begins p f a b = cc

-- where they go on or begin
origin : (c : goal.After-drop-text-2) → (c.self.inside.fresh ≡ Some c.match-self.fresh) ⊎ (IsFreshUnused c.self.inside.names (Some c.match-self.fresh) × (c.match-self.fresh.next ≡ 0))
origin c = elim c.match-self.branch [
  | in-Some w ↦ inl (w.in-Some.is ∙ ap Some (sym w.fresh-is))
  | in-None+in_ok-fresh-in-None w ↦ inr (
    subst (λ (f : FreshPart). IsFreshUnused c.self.inside.names (Some f)) (sym w.fresh-is) w.in_ok-fresh-in-None.ensures.unused,
    ap (λ (f : FreshPart). f.next) w.fresh-is ∙ w.in_ok-fresh-in-None.ensures.next,
  )
]

-- the text is new
absent : (c : goal.After-drop-text-2) → has_text c.self.inside.names c.as_bytes.result.now ≡ false
absent c =
    let p = c.self.inside in
    let goes = fresh_going-on p c.match-self.fresh c.self.invariant (origin c) in
    let few = c.self.invariant.few in
    let most = goes.1 in
    ap (has_text p.names) (c.as_bytes.ensures.value ∙ c.in_ok-text.ensures.text) ∙ next-is-new p.names c.match-self.fresh (omega arith) goes.0

pub returns-clause-ok : goal.returns-clause-ok
returns-clause-ok c =
    let p = c.self.inside in
    let fresh : FreshPart = c.match-self.fresh in
    let t : List ℕ = c.as_bytes.result.now in
    let same : seen fresh ≡ fresh_of (parts_of p) (fresh_names p.fresh) =
    elim c.match-self.branch [
      | in-Some w ↦ ap seen w.fresh-is ∙ sym (ap (λ (o : Option FreshPart). fresh_of (parts_of p) (fresh_names o)) w.in-Some.is)
      | in-None+in_ok-fresh-in-None w ↦ ap seen w.fresh-is
          ∙ begins (parts_of p) w.in_ok-fresh-in-None.fresh w.in_ok-fresh-in-None.ensures.number w.in_ok-fresh-in-None.ensures.next
          ∙ sym (ap (λ (o : Option FreshPart). fresh_of (parts_of p) (fresh_names o)) w.in-None.is)
    ] in
    let text : t ≡ next_fresh (parts_of p) =
    c.as_bytes.ensures.value ∙ c.in_ok-text.ensures.text ∙ ap (λ (f : FreshNames). fresh_text f.number f.next) same in
    let absent : has_text p.names t ≡ false = absent c in
    ap (λ (names : List (List ℕ)). parts_of (record p { names = names; fresh = Some (record { number = fresh.number; next = fresh.next + 1 }) })) c.in_ok-number.ensures.ok
    ∙ parts_fresh p fresh t c.self.invariant absent same text
    ∙ ap with_fresh c.self.view_is

pub invariant_of-self-2 : goal.invariant_of-self-2
invariant_of-self-2 c =
    let p = c.self.inside in
    let fresh : FreshPart = c.match-self.fresh in
    let t : List ℕ = c.as_bytes.result.now in
    let goes = fresh_going-on p fresh c.self.invariant (origin c) in
    let few : length (with_text p.names t) < 2 ^ 32 =
    (let room : length p.names + 1 < 2 ^ 32 = subst (λ (v : PartsOf). length v.names + 1 < 2 ^ 32) (sym c.self.view_is) c.requires.room in
    omega (arith, length-with_text-most p.names t)) in
    subst (λ (names : List (List ℕ)). KeepsNames (record p { names = names; fresh = Some (record { number = fresh.number; next = fresh.next + 1 }) })) (sym c.in_ok-number.ensures.ok)
    (keeps_fresh p fresh t c.self.invariant few goes.1 (absent c) (sym (c.as_bytes.ensures.value ∙ c.in_ok-text.ensures.text)) goes.0)

pub returns-clause-number : goal.returns-clause-number
returns-clause-number c =
    c.in_ok-number.ensures.place ∙ place_past c.self.inside.names c.as_bytes.result.now (absent c) ∙ ap (λ (v : PartsOf). length v.names) c.self.view_is
