-- The listing of the first ready node.
use Rattle.std.proofs.Common.{◌≡◌, ◌∙◌, sym, ap, subst, ℕ, ◌-◌, ◌<◌, ◌++◌, Bool, false, true, List, [], ◌∷◌, length, slice_set, All, arith, Less, Option, Some, None, IsSome, ◌↔◌, refl, true≢false}
use Rattle.std.specs.Ordering.{nat_cmp}
use Rattle.std.proofs.lemmas.List.{length-map, length_push}
use Rattle.fault_secure.specs.Circuit.{bit}
use Rattle.tsc_net.specs.Order.{has_place, fan_in, ReadsWithin}
use Rattle.tsc_net.specs.inner.OrderSearch.{nets_of, fans_over, IsListing, IsSearch, IsReady, MarksOf, GoesOn}
use Rattle.tsc_bits.specs.Lists.{list_at}
use Rattle.tsc_net.proofs.OrderSearchLemmas.{listed_ready, woken_within, woken_unmarked, search_listed}
use Rattle.tsc_net.proofs.OrderSteps.{goes_on, order_listed, marks_of-more, listed_fewer}
use Rattle.tsc_net.proofs.order.list_nodes.Goals as goal

-- the search with the ready nodes seen as the first and the others
module _ (base : ℕ) (nets : List (List ℕ)) (marks : List Bool) (stops : List ℕ) (waiters : List (List ℕ)) (ready listed : List ℕ) (node : ℕ) (rest : List ℕ)
    (e : ready ≡ node ∷ rest) (later : All (λ k. nat_cmp node k ≡ Less) rest) (listing : IsListing base nets marks stops waiters ready listed) where
  seen : IsSearch base nets marks stops waiters (node ∷ rest) (λ j. false)
  seen = subst (λ keys. IsSearch base nets marks stops waiters keys (λ j. false)) e listing.search

  pub first_ready : IsReady base nets marks node
  first_ready = listed_ready base nets marks stops waiters rest node later seen

  pub first_within : node < length marks
  first_within = omega (arith, first_ready.within, seen.marks_sized)

  pub first_waiters : node < length waiters
  first_waiters = omega (arith, first_ready.within, seen.waiters_sized)

  pub first_woken : All (λ j. j < length nets) (list_at waiters node)
  first_woken = woken_within base nets marks stops waiters rest node later seen

  pub first_unmarked : All (λ j. bit (slice_set marks node true) j ≡ false) (list_at waiters node)
  first_unmarked = woken_unmarked base nets marks stops waiters rest node later seen

  pub first_listed : IsSearch base nets (slice_set marks node true) stops (slice_set waiters node []) rest (has_place (list_at waiters node))
  first_listed = search_listed base nets marks stops waiters rest node later seen

  pub first_node : node < length (fans_over base nets)
  first_node = omega (arith, first_ready.within, length-map nets (fan_in base))

  pub first_fewer : length listed < length nets
  first_fewer = omega (arith, listed_fewer (fans_over base nets) marks listed node first_node first_ready.unmarked listing.marked, length-map nets (fan_in base))

  -- the listing goes on with the node
  pub next_listing : ReadsWithin (fans_over base nets) → (listed' stops' : List ℕ) (waiters' : List (List ℕ)) (ready' : List ℕ) → listed' ≡ listed ++ node ∷ []
      → IsSearch base nets (slice_set marks node true) stops' waiters' ready' (λ j. false)
      → IsListing base nets (slice_set marks node true) stops' waiters' ready' listed'
  next_listing within listed' stops' waiters' ready' pushed search = record {
    marked = subst (MarksOf (fans_over base nets) (slice_set marks node true)) (sym pushed)
        (marks_of-more (fans_over base nets) marks listed node first_node first_ready.unmarked listing.marked);
    goes_on = subst (GoesOn (fans_over base nets)) (sym pushed)
        (goes_on base nets marks stops waiters ready listed within listing.marked listing.search node rest e later listing.goes_on);
    search = search;
  }

  -- fewer nodes are left
  pub next_fewer : (listed' : List ℕ) (many : ℕ) → listed' ≡ listed ++ node ∷ [] → many ≡ length nets → many - length listed' < many - length listed
  next_fewer listed' many pushed count = omega (arith, first_fewer, ap length pushed, length_push listed node, count)

pub bounds-is_listed-node : goal.bounds-is_listed-node
bounds-is_listed-node c =
    first_within c.args.first_node (nets_of c.args.nodes.now) c.loop-node.is_listed c.loop-node.search.stops.items c.loop-node.search.waiters
    c.loop-node.search.ready.keys c.loop-node.listed.items c.in-Some.node c.pop_first.new.self.keys c.in-Some.ensures.removal c.in-Some.ensures.all_above c.loop-node.invariant

pub take-woken-requires : goal.take-woken-requires
take-woken-requires c = record {
  within =
      first_waiters c.args.first_node (nets_of c.args.nodes.now) c.loop-node.is_listed c.loop-node.search.stops.items c.loop-node.search.waiters
      c.loop-node.search.ready.keys c.loop-node.listed.items c.in-Some.node c.pop_first.new.self.keys c.in-Some.ensures.removal c.in-Some.ensures.all_above c.loop-node.invariant;
}

pub look_again-requires-clause-woken : goal.look_again-requires-clause-woken
look_again-requires-clause-woken c =
    let all = first_woken c.args.first_node (nets_of c.args.nodes.now) c.loop-node.is_listed c.loop-node.search.stops.items c.loop-node.search.waiters
    c.loop-node.search.ready.keys c.loop-node.listed.items c.in-Some.node c.pop_first.new.self.keys c.in-Some.ensures.removal c.in-Some.ensures.all_above c.loop-node.invariant in
    subst (λ nodes. All (λ j. j < length c.args.nodes.now) nodes) (sym (c.as_slice.ensures ∙ c.take-woken.ensures.taken))
    (λ k d h. omega (arith, all k d h, length-map c.args.nodes.now (λ n. n.reads)))

pub look_again-requires-clause-unlisted : goal.look_again-requires-clause-unlisted
look_again-requires-clause-unlisted c =
    subst (λ nodes. All (λ j. bit (slice_set c.loop-node.is_listed c.in-Some.node true) j ≡ false) nodes) (sym (c.as_slice.ensures ∙ c.take-woken.ensures.taken))
    (first_unmarked c.args.first_node (nets_of c.args.nodes.now) c.loop-node.is_listed c.loop-node.search.stops.items c.loop-node.search.waiters
    c.loop-node.search.ready.keys c.loop-node.listed.items c.in-Some.node c.pop_first.new.self.keys c.in-Some.ensures.removal c.in-Some.ensures.all_above c.loop-node.invariant)

-- a set from which no key came is empty
drained : (key : Option ℕ) (keys : List ℕ) → ((x : ℕ) → key ≡ Some x → ⊥) → (IsSome key ↔ (0 < length keys)) → keys ≡ []
drained key [] none variant = refl
drained None (k ∷ keys) none variant = absurd (true≢false (sym (variant.1 (omega arith))))
drained (Some x) (k ∷ keys) none variant = absurd (none x refl)

-- the parts of a search replaced by equal ones
moved : (base : ℕ) (nets : List (List ℕ)) (marks : List Bool) (stops : List ℕ) (waiters waiters2 : List (List ℕ)) (ready nodes nodes2 : List ℕ)
    → waiters2 ≡ waiters → nodes2 ≡ nodes
    → IsSearch base nets marks stops waiters ready (has_place nodes) → IsSearch base nets marks stops waiters2 ready (has_place nodes2)
moved base nets marks stops waiters waiters2 ready nodes nodes2 a b search =
    subst (λ x. IsSearch base nets marks stops x ready (has_place nodes2)) (sym a)
    (subst (λ x. IsSearch base nets marks stops waiters ready (has_place x)) (sym b) search)

pub look_again-requires-clause-search : goal.look_again-requires-clause-search
look_again-requires-clause-search c =
    moved c.args.first_node (nets_of c.args.nodes.now) (slice_set c.loop-node.is_listed c.in-Some.node true) c.loop-node.search.stops.items
    (slice_set c.loop-node.search.waiters c.in-Some.node []) c.take-woken.new.self c.pop_first.new.self.keys (list_at c.loop-node.search.waiters c.in-Some.node) c.as_slice.result.now
    c.take-woken.ensures.left (c.as_slice.ensures ∙ c.take-woken.ensures.taken)
    (first_listed c.args.first_node (nets_of c.args.nodes.now) c.loop-node.is_listed c.loop-node.search.stops.items c.loop-node.search.waiters
    c.loop-node.search.ready.keys c.loop-node.listed.items c.in-Some.node c.pop_first.new.self.keys c.in-Some.ensures.removal c.in-Some.ensures.all_above c.loop-node.invariant)

pub loop-node-smaller : goal.loop-node-smaller
loop-node-smaller c =
    next_fewer c.args.first_node (nets_of c.args.nodes.now) c.loop-node.is_listed c.loop-node.search.stops.items c.loop-node.search.waiters
    c.loop-node.search.ready.keys c.loop-node.listed.items c.in-Some.node c.pop_first.new.self.keys c.in-Some.ensures.removal c.in-Some.ensures.all_above c.loop-node.invariant
    c.push.new.self.items (length c.args.nodes.now) c.in_ok-push.ensures.items (sym (length-map c.args.nodes.now (λ n. n.reads)))

pub loop-node-preserved : goal.loop-node-preserved
loop-node-preserved c =
    next_listing c.args.first_node (nets_of c.args.nodes.now) c.loop-node.is_listed c.loop-node.search.stops.items c.loop-node.search.waiters
    c.loop-node.search.ready.keys c.loop-node.listed.items c.in-Some.node c.pop_first.new.self.keys c.in-Some.ensures.removal c.in-Some.ensures.all_above c.loop-node.invariant
    c.requires.within c.push.new.self.items c.look_again.new.self.stops.items c.look_again.new.self.waiters c.look_again.new.self.ready.keys c.in_ok-push.ensures.items
    c.in_ok-look_again.ensures.search

pub loop-node-smaller-in_ok-look_again : goal.loop-node-smaller-in_ok-look_again
loop-node-smaller-in_ok-look_again c =
    next_fewer c.args.first_node (nets_of c.args.nodes.now) c.loop-node.is_listed c.loop-node.search.stops.items c.loop-node.search.waiters
    c.loop-node.search.ready.keys c.loop-node.listed.items c.in-Some.node c.pop_first.new.self.keys c.in-Some.ensures.removal c.in-Some.ensures.all_above c.loop-node.invariant
    c.push.new.self.items (length c.args.nodes.now) c.in_ok-push.ensures.items (sym (length-map c.args.nodes.now (λ n. n.reads)))

pub loop-node-preserved-in_ok-look_again : goal.loop-node-preserved-in_ok-look_again
loop-node-preserved-in_ok-look_again c =
    next_listing c.args.first_node (nets_of c.args.nodes.now) c.loop-node.is_listed c.loop-node.search.stops.items c.loop-node.search.waiters
    c.loop-node.search.ready.keys c.loop-node.listed.items c.in-Some.node c.pop_first.new.self.keys c.in-Some.ensures.removal c.in-Some.ensures.all_above c.loop-node.invariant
    c.requires.within c.push.new.self.items c.look_again.new.self.stops.items c.look_again.new.self.waiters c.look_again.new.self.ready.keys c.in_ok-push.ensures.items
    c.in_ok-look_again.ensures.search

pub returns-clause-listed : goal.returns-clause-listed
returns-clause-listed c =
    order_listed c.args.first_node (nets_of c.args.nodes.now) c.loop-node.is_listed c.loop-node.search.stops.items c.loop-node.search.waiters
    c.loop-node.search.ready.keys c.loop-node.listed.items c.requires.within c.loop-node.invariant.marked c.loop-node.invariant.search (drained c.pop_first.result c.loop-node.search.ready.keys c.in_default.not-Some c.pop_first.ensures.variant) c.loop-node.invariant.goes_on

pub returns-clause-marked : goal.returns-clause-marked
returns-clause-marked c =
    subst (MarksOf (fans_over c.args.first_node (nets_of c.args.nodes.now)) c.loop-node.is_listed)
    (order_listed c.args.first_node (nets_of c.args.nodes.now) c.loop-node.is_listed c.loop-node.search.stops.items c.loop-node.search.waiters
    c.loop-node.search.ready.keys c.loop-node.listed.items c.requires.within c.loop-node.invariant.marked c.loop-node.invariant.search (drained c.pop_first.result c.loop-node.search.ready.keys c.in_default.not-Some c.pop_first.ensures.variant) c.loop-node.invariant.goes_on)
    c.loop-node.invariant.marked
