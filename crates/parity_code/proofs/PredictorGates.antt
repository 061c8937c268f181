-- The steps of writing predictors: a gate, the copies, the chain of exclusive ors, and one group more.
use Rattle.std.proofs.Common.{◌≡◌, ℕ, ◌+◌, ◌<◌, List, [], ◌∷◌, ◌++◌, map, take, drop, length, slice_index, slice_index_or, All, refl, sym, ◌∙◌, ap, subst, arith, append_assoc, length-append}
use Rattle.std.proofs.lemmas.List.{append-nil, length-map, take_more, drop_more, map-append}
use Rattle.std.proofs.lemmas.Simd.{map-map}
use Rattle.std.proofs.lemmas.List.Elements.{All-map, All-get_or, All-cons, All-nil, All-drop}
use Rattle.tsc_cover.specs.Cover.{CoverTable}
use Rattle.tsc_cover.specs.Gates.{xor_cover}
use Rattle.fault_secure.specs.Circuit.{Circuit, node, node_net, nets}
use Rattle.tsc_net.specs.Named.{Named, NamedNode}
use Rattle.fault_secure.specs.Closed.{IsClosed}
use Rattle.tsc_net.specs.Parts.{PartsOf, with_fresh, next_fresh, with_node}
use Rattle.tsc_net.specs.PartsView.{text_of, texts_of, IsName}
use Rattle.tsc_net.specs.PlanView.{net_numbers}
use Rattle.tsc_net.specs.declared.ids.Name.{Name}
use Rattle.tsc_net.specs.declared.ids.NetId.{NetId}
use Rattle.parity_code.specs.Held.{PartsGrow}
use Rattle.parity_code.specs.Predictors.{with_nodes, with_gate, with_check, with_parity, node_by}
use Rattle.parity_code.specs.PredictorSteps.{no_name, name_at}
use Rattle.parity_code.proofs.GroupSteps.{output_within}
use Rattle.parity_code.proofs.PredictorParts.{grows_fresh, names_stay, texts_stay}

-- an output of a group is a net
pub group_net_within : (C : Circuit) (outputs : List NetId) (place : ℕ) (d : NetId) → IsClosed C → net_numbers outputs ≡ C.outputs → place < length C.outputs
    → (slice_index_or outputs place d).number < nets C
group_net_within C outputs place d closed is within =
    let count : length (net_numbers outputs) ≡ length outputs = length-map outputs (λ net. net.number) in
    let same : length (net_numbers outputs) ≡ length C.outputs = ap length is in
    output_within C outputs closed is place d (omega arith)

-- a gate was added
pub gate_added : (p q r : PartsOf) (operands reads : List Name) (out : Name) (cover : CoverTable) → All (IsName p.names) operands → q ≡ with_fresh p
    → reads ≡ operands → text_of q.names out ≡ next_fresh p → r ≡ with_node q (texts_of q.names reads) (text_of q.names out) cover
    → r ≡ with_gate p (texts_of p.names operands) cover
gate_added p q r operands reads out cover all fresh same text is =
    let reads_are : texts_of q.names reads ≡ texts_of p.names operands = ap (texts_of q.names) same ∙ texts_stay p q operands (grows_fresh p q fresh) all in
    is ∙ ap (λ (list : List (List ℕ)). with_node q list (text_of q.names out) cover) reads_are
    ∙ ap (λ (t : List ℕ). with_node q (texts_of p.names operands) t cover) text
    ∙ ap (λ (s : PartsOf). with_node s (texts_of p.names operands) (next_fresh p) cover) fresh

-- a copy has a pin a net that its node reads
pub copy_pins : (C : Circuit) (place : ℕ) (names reads : List Name) (cover : CoverTable) → IsClosed C → place < length C.nodes
    → reads ≡ map (name_at names) (node C place).reads → cover ≡ (node C place).cover → length reads ≡ cover.width
copy_pins C place names reads cover closed there reads_are cover_is =
    let count : length (map (name_at names) (node C place).reads) ≡ length (node C place).reads = length-map (node C place).reads (name_at names) in
    let width : (node C place).cover.width ≡ length (node C place).reads = All-get_or (λ n. n.cover.width ≡ length n.reads) C.nodes place _ there closed.widths in
    ap length reads_are ∙ count ∙ sym width ∙ ap (λ (c : CoverTable). c.width) (sym cover_is)

pub copy_names : (texts : List (List ℕ)) (names reads : List Name) (nets : List ℕ) → reads ≡ map (name_at names) nets
    → All (λ net. IsName texts (name_at names net)) nets → All (IsName texts) reads
copy_names texts names reads nets is all = subst (All (IsName texts)) (sym is) (All-map (IsName texts) (name_at names) nets all)

-- the texts of the names of nets
pub texts_of_nets : (texts : List (List ℕ)) (names : List Name) (nets : List ℕ) → texts_of texts (map (name_at names) nets) ≡ map (λ n. text_of texts (name_at names n)) nets
texts_of_nets texts names nets = map-map (text_of texts) (name_at names) nets

-- a copy was added
pub copy_added : (C : Circuit) (p q : PartsOf) (place : ℕ) (names reads : List Name) (out : Name) (cover : CoverTable)
    → reads ≡ map (name_at names) (node C place).reads → out ≡ name_at names (node_net C place) → cover ≡ (node C place).cover
    → q ≡ with_node p (texts_of p.names reads) (text_of p.names out) cover
    → q ≡ with_nodes p (node_by C (λ n. text_of p.names (name_at names n)) place ∷ [])
copy_added C p q place names reads out cover reads_are out_is cover_is is =
    let texts : texts_of p.names reads ≡ map (λ n. text_of p.names (name_at names n)) (node C place).reads
    = ap (texts_of p.names) reads_are ∙ texts_of_nets p.names names (node C place).reads in
    is ∙ ap (λ (list : List (List ℕ)). with_node p list (text_of p.names out) cover) texts
    ∙ ap (λ (name : Name). with_node p (map (λ n. text_of p.names (name_at names n)) (node C place).reads) (text_of p.names name) cover) out_is
    ∙ ap (λ (c : CoverTable). with_node p (map (λ n. text_of p.names (name_at names n)) (node C place).reads) (text_of p.names (name_at names (node_net C place))) c) cover_is

-- no node more, and some more
pub nodes_none : (p : PartsOf) → p ≡ with_nodes p []
nodes_none p = ap (λ (list : List NamedNode). let N : Named = p.named in let M : Named = record N { nodes = list } in let q : PartsOf = record p { named = M } in q) (sym (append-nil p.named.nodes))

pub nodes_twice : (p : PartsOf) (xs ys : List NamedNode) → with_nodes (with_nodes p xs) ys ≡ with_nodes p (xs ++ ys)
nodes_twice p xs ys = ap (λ (list : List NamedNode). let N : Named = p.named in let M : Named = record N { nodes = list } in let q : PartsOf = record p { named = M } in q) (append_assoc p.named.nodes xs ys)

-- one copy more
pub copies_more : (C : Circuit) (start here next : PartsOf) (names : List Name) (places : List ℕ) (i : ℕ) → i < length places
    → here ≡ with_nodes start (map (node_by C (λ n. text_of start.names (name_at names n))) (take i places))
    → next ≡ with_nodes here (node_by C (λ n. text_of here.names (name_at names n)) (slice_index places i) ∷ [])
    → next ≡ with_nodes start (map (node_by C (λ n. text_of start.names (name_at names n))) (take (i + 1) places))
copies_more C start here next names places i there so_far is =
    let f : ℕ → NamedNode = node_by C (λ n. text_of start.names (name_at names n)) in
    let place : ℕ = slice_index places i in
    let same_names : here.names ≡ start.names = ap (λ (p : PartsOf). p.names) so_far in
    let here_is : next ≡ with_nodes here (f place ∷ []) = is ∙ ap (λ (texts : List (List ℕ)). with_nodes here (node_by C (λ n. text_of texts (name_at names n)) place ∷ [])) same_names in
    let more : take (i + 1) places ≡ take i places ++ place ∷ [] = take_more places i 0 there in
    here_is ∙ ap (λ (p : PartsOf). with_nodes p (f place ∷ [])) so_far ∙ nodes_twice start (map f (take i places)) (f place ∷ [])
    ∙ ap (λ (list : List NamedNode). with_nodes start list) (sym (map-append f (take i places) (place ∷ []))) ∙ ap (λ (list : List ℕ). with_nodes start (map f list)) (sym more)

-- the chain begins with the first name, and goes on with the next
pub parity_first : (p : PartsOf) (names : List Name) (d : Name) → 0 < length names
    → with_check p (text_of p.names (slice_index_or names 0 d)) (texts_of p.names (drop 1 names)) ≡ with_parity p (texts_of p.names names)
parity_first p [] d filled = absurd (omega arith)
parity_first p (name ∷ names) d filled = refl

-- two names that are there
pub two_named : (texts : List (List ℕ)) (a b : Name) → IsName texts a → IsName texts b → All (IsName texts) (a ∷ (b ∷ []))
two_named texts a b ha hb = All-cons (IsName texts) a (b ∷ []) ha (All-cons (IsName texts) b [] hb (All-nil (IsName texts)))

-- a gate has one name more
pub gate_count : (p q : PartsOf) (reads : List (List ℕ)) (cover : CoverTable) → q ≡ with_gate p reads cover → length q.names ≡ length p.names + 1
gate_count p q reads cover is = ap (λ (r : PartsOf). length r.names) is ∙ length-append p.names (next_fresh p ∷ [])

-- one gate of the chain more
pub chain_more : (p q : PartsOf) (names : List Name) (made next : Name) (i : ℕ) (cover : CoverTable) → cover ≡ xor_cover → i < length names
    → All (IsName p.names) names → PartsGrow p q
    → (r : PartsOf) → PartsGrow q r → r ≡ with_gate q (texts_of q.names (made ∷ (name_at names i ∷ []))) cover → text_of r.names next ≡ next_fresh q
    → with_check r (text_of r.names next) (texts_of r.names (drop (i + 1) names)) ≡ with_check q (text_of q.names made) (texts_of q.names (drop i names))
chain_more p q names made next i cover is_xor there all so_far r grows is text =
    let x : Name = name_at names i in
    let rest : List Name = drop (i + 1) names in
    let all_rest : All (IsName q.names) (drop (i + 1) names) = All-drop (IsName q.names) (i + 1) names (names_stay p q names so_far all) in
    let texts : texts_of r.names (drop (i + 1) names) ≡ texts_of q.names (drop (i + 1) names) = texts_stay q r (drop (i + 1) names) grows all_rest in
    let gate : r ≡ with_gate q (texts_of q.names (made ∷ (x ∷ []))) xor_cover = is ∙ ap (with_gate q (texts_of q.names (made ∷ (x ∷ [])))) is_xor in
    let split : drop i names ≡ x ∷ drop (i + 1) names = drop_more names i no_name there in
    ap (λ (list : List (List ℕ)). with_check r (text_of r.names next) list) texts
    ∙ ap (λ (t : List ℕ). with_check r t (texts_of q.names (drop (i + 1) names))) text
    ∙ ap (λ (s : PartsOf). with_check s (next_fresh q) (texts_of q.names (drop (i + 1) names))) gate
    ∙ ap (λ (list : List Name). with_check q (text_of q.names made) (texts_of q.names list)) (sym split)
