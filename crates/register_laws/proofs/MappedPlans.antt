-- A plan of a netlist, moved, is one of the mapped netlist.
use Rattle.std.proofs.Common.{◌≡◌, ℕ, ◌+◌, ◌<◌, ◌≤◌, List, [], ◌∷◌, map, length, slice_index, slice_index_or, sym, ap, ◌∙◌, subst, arith}
use Rattle.std.proofs.lemmas.List.{get_or-map, length-map, map-append}
use Rattle.std.proofs.lemmas.List.Elements.{All-map}
use Rattle.fault_secure.specs.Circuit.{Circuit, nets}
use Rattle.mapping_laws.specs.Mapping.{IsMapped}
use Rattle.mapping_laws.proofs.MappedBits.{same_latches}
use Rattle.register_laws.specs.RegisterPlan.{IsWatchList}
use Rattle.register_laws.specs.RegisterMapping.{MappedPlansAreOfTheirs}

module _ (N G : Circuit) (at block : ℕ → ℕ) (m : IsMapped N G at block) where
  list_moved : (watched : List ℕ) → IsWatchList N watched → IsWatchList G (map at watched)
  list_moved watched w = record {
    registers = map at w.registers;
    check = at w.check;
    parts = ap (map at) w.parts ∙ map-append at w.registers (w.check ∷ []);
    latches = All-map (λ net. (G.inputs ≤ net) × (net < G.inputs + length G.latches)) at w.registers
        (λ k d low. (let l = w.latches k d low in let e = m.sources (slice_index_or w.registers k d) l.1 in let i = m.inputs in
        let s = same_latches N G at block m in omega arith));
    once = λ a b h k e. w.once a b h (shorter k) (sym (stays a (omega (arith, shorter k))) ∙ e ∙ stays b (shorter k));
    inside = m.inside w.check w.inside;
  }
    where
      shorter : {k : ℕ} → k < length (map at w.registers) → k < length w.registers
      shorter {k} h = subst (λ n. k < n) (length-map w.registers at) h

      stays : (k : ℕ) → k < length w.registers → slice_index (map at w.registers) k ≡ slice_index w.registers k
      stays k low = get_or-map at w.registers k 0 0 low ∙ m.sources (slice_index w.registers k) (w.latches k 0 low).1

pub mapped_plans_are_of_theirs : MappedPlansAreOfTheirs
mapped_plans_are_of_theirs N G at block P m h = record {
  parity = h.parity;
  version = h.version;
  stateless = h.stateless;
  plan_of = record {
    outputs = ap length m.outputs ∙ length-map N.outputs at ∙ h.plan_of.outputs;
    rail1 = moved P.plan.outputs (let e = h.plan_of.outputs in omega arith) ∙ ap at h.plan_of.rail1;
    rail2 = moved (P.plan.outputs + 1) (let e = h.plan_of.outputs in omega arith) ∙ ap at h.plan_of.rail2;
    checks = All-map (λ net. net < nets G) at P.plan.checks (λ k d low. m.inside (slice_index_or P.plan.checks k d) (h.plan_of.checks k d low));
    rails = (m.inside P.plan.rail1 h.plan_of.rails.0, m.inside P.plan.rail2 h.plan_of.rails.1);
    latches = h.plan_of.latches ∙ sym (same_latches N G at block m);
  };
  watched = All-map (IsWatchList G) (map at) P.watches (λ k d low. list_moved N G at block m (slice_index_or P.watches k d) (h.watched k d low));
}
  where
    moved : (k : ℕ) → k < length N.outputs → slice_index G.outputs k ≡ at (slice_index N.outputs k)
    moved k low = ap (λ ns. slice_index ns k) m.outputs ∙ get_or-map at N.outputs k 0 0 low
