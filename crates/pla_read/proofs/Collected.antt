-- The parts of both networks, put together.
use Rattle.std.proofs.Common.{◌≡◌, ℕ, ◌+◌, ◌≤◌, List, [], ◌++◌, map, length, take, drop, get_or, refl, sym, ap, ap₂, ◌∙◌, subst, arith, append_assoc, length-append}
use Rattle.std.specs.Fn.{iterate}
use Rattle.std.specs.List.{range_with_len}
use Rattle.std.proofs.lemmas.List.{append-nil, length-map, take-append-drop, take-append-le, take_all}
use Rattle.std.proofs.lemmas.List.Elements.{All-map}
use Rattle.std.proofs.lemmas.List.FromFn.{length-map-range_with_len}
use Rattle.tsc_cover.proofs.Row.{length-literals}
use Rattle.fault_secure.specs.Settle.{Acyclic}
use Rattle.tsc_net.specs.Named.{Named, NamedNode, latch_outs, node_outs}
use Rattle.tsc_net.specs.Names.{IsNumbering}
use Rattle.tsc_net.specs.NetlistOf.{circuit_of, drivers, named_of, netlist_of, IsBuilt, NetlistOf}
use Rattle.tsc_net.specs.Parts.{with_fresh, PartsOf}
use Rattle.tsc_net.specs.PartsView.{texts_of}
use Rattle.tsc_net.specs.declared.ids.Name.{Name}
use Rattle.tsc_net.proofs.NetlistLemmas.{texts_at_places}
use Rattle.net_building.specs.Names.{numbered}
use Rattle.net_building.specs.Sound.{IsSound}
use Rattle.pla_read.specs.RowText.{TableRow}
use Rattle.pla_read.specs.TableText.{is_one, AreWide, TableOf}
use Rattle.pla_read.specs.Networks.{value_named, AnswersAs}
use Rattle.pla_read.specs.Loose.{IsFreeNet}
use Rattle.pla_read.specs.Shaped.{row_as, table_as}
use Rattle.pla_read.specs.FreeParts.{barred_names, begun, free_named, frees_named, gate_nodes, left_names, rows_nodes, with_nodes, IsFreeNamed}
use Rattle.pla_read.specs.declared.table.Table.{Table}
use Rattle.pla_read.specs.declared.table.Chosen.TheVariants.{Free, OnesBesideFree, Ones}
use Rattle.pla_read.proofs.FreeNet.{free_answers, free_sound, nodes_many}
use Rattle.pla_read.proofs.FreshAfter.{first_came, then_came}
use Rattle.pla_read.proofs.Segments.{texts_segment}
use Rattle.pla_read.proofs.ValueNet.{value_answers}

-- the rows of numbers have a literal an input
pub wide_table : (table : Table) → AreWide (table_as table)
wide_table table =
    All-map (λ (row : TableRow). length row.input ≡ table.inputs) (row_as table.inputs table.outputs) table.rows
    (λ k row h. length-literals table.inputs (get_or table.rows k row).input.care (get_or table.rows k row).input.value)

-- ---- one step after the other

abbrev more : Named → List NamedNode → Named
more N nodes = record N { nodes = N.nodes ++ nodes }

pub named_with : (p q : PartsOf) (nodes : List NamedNode) → q ≡ with_nodes p nodes → q.named ≡ more p.named nodes
named_with p q nodes is = ap (λ (s : PartsOf). s.named) is

pub names_with : (p q : PartsOf) (nodes : List NamedNode) → q ≡ with_nodes p nodes → q.names ≡ p.names
names_with p q nodes is = ap (λ (s : PartsOf). s.names) is

-- a table that begins with another is it and something more
front_and_rest : (k : ℕ) (xs ys : List (List ℕ)) → take k xs ≡ ys → xs ≡ ys ++ drop k xs
front_and_rest k xs ys e = sym (take-append-drop k xs) ∙ ap (λ l. l ++ drop k xs) e

-- the texts of the names of the outputs
pub output_texts : (inputs outputs : List (List ℕ)) (outs : List Name) → outs ≡ map numbered (range_with_len (length inputs) (length outputs))
    → texts_of (inputs ++ outputs) outs ≡ outputs
output_texts inputs outputs outs are =
    ap₂ (λ names list. texts_of names list) (sym (append-nil (inputs ++ outputs))) are ∙ texts_segment inputs outputs []

pub values_named : (inputs outputs : List (List ℕ)) (table : TableOf) (p q : PartsOf) (outs : List Name) → p ≡ begun inputs outputs
    → outs ≡ map numbered (range_with_len (length inputs) (length outputs))
    → q ≡ with_nodes p (rows_nodes p.named.inputs (texts_of p.names outs) Ones table table.outputs) → q.named ≡ value_named inputs outputs table
values_named inputs outputs table p q outs is are step =
    named_with p q (rows_nodes p.named.inputs (texts_of p.names outs) Ones table table.outputs) step
    ∙ ap (λ (s : PartsOf). more s.named (rows_nodes s.named.inputs (texts_of s.names outs) Ones table table.outputs)) is
    ∙ ap (λ texts. more (begun inputs outputs).named (rows_nodes inputs texts Ones table table.outputs)) (output_texts inputs outputs outs are)

-- the same, of the list as it is shown
pub values_shown : (inputs outputs : List (List ℕ)) (table : TableOf) (p q : PartsOf) (outs shown : List Name) → p ≡ begun inputs outputs
    → outs ≡ map numbered (range_with_len (length inputs) (length outputs)) → shown ≡ outs
    → q ≡ with_nodes p (rows_nodes p.named.inputs (texts_of p.names shown) Ones table table.outputs) → q.named ≡ value_named inputs outputs table
values_shown inputs outputs table p q outs shown is are same step =
    values_named inputs outputs table p q outs is are (step ∙ ap (λ list. with_nodes p (rows_nodes p.named.inputs (texts_of p.names list) Ones table table.outputs)) same)

-- the names of inputs and outputs are among those that came behind them
pub begun_many : (inputs outputs : List (List ℕ)) (p : PartsOf) (names : List (List ℕ)) → p ≡ begun inputs outputs → length p.names ≤ length names
    → length inputs + length outputs ≤ length names
begun_many inputs outputs p names is longer =
    let e : length p.names ≡ length inputs + length outputs = ap (λ (s : PartsOf). length s.names) is ∙ length-append inputs outputs in
    omega (arith, e, longer)

-- so many fresh names, behind those that were there
pub record AreFresh (p q : PartsOf) (count : ℕ) (list : List Name) : Type 0 where
  pub added : q ≡ iterate with_fresh count p
  pub named : q.named ≡ p.named
  pub first : take (length p.names) q.names ≡ p.names
  pub counted : length q.names ≡ length p.names + count
  pub distinct : IsNumbering p.names → IsNumbering q.names
  pub numbers : list ≡ map numbered (range_with_len (length p.names) count)

module _ (inputs outputs : List (List ℕ)) (table : TableOf) (p0 p1 p2 : PartsOf) (outs lefts barred : List Name)
    (begin_is : p0 ≡ begun inputs outputs) (outs_are : outs ≡ map numbered (range_with_len (length inputs) (length outputs)))
    (one : AreFresh p0 p1 table.outputs lefts) (two : AreFresh p1 p2 table.outputs barred) where
  abbrev n : ℕ
  n = table.outputs

  names0 : p0.names ≡ inputs ++ outputs
  names0 = ap (λ (s : PartsOf). s.names) begin_is

  abbrev L : List (List ℕ)
  L = drop (length p0.names) p1.names

  abbrev B : List (List ℕ)
  B = drop (length p1.names) p2.names

  names1 : p1.names ≡ (inputs ++ outputs) ++ L
  names1 = front_and_rest (length p0.names) p1.names (inputs ++ outputs) (one.first ∙ names0)

  names2 : p2.names ≡ ((inputs ++ outputs) ++ L) ++ B
  names2 = front_and_rest (length p1.names) p2.names ((inputs ++ outputs) ++ L) (two.first ∙ names1)

  L_many : length L ≡ n
  L_many =
      let e : length p1.names ≡ length (inputs ++ outputs) + length L = ap length names1 ∙ length-append (inputs ++ outputs) L in
      let f : length p0.names ≡ length (inputs ++ outputs) = ap length names0 in
      omega (arith, e, f, one.counted)

  B_many : length B ≡ n
  B_many =
      let e : length p2.names ≡ length ((inputs ++ outputs) ++ L) + length B = ap length names2 ∙ length-append ((inputs ++ outputs) ++ L) B in
      let f : length p1.names ≡ length ((inputs ++ outputs) ++ L) = ap length names1 in
      omega (arith, e, f, two.counted)

  outs_texts : texts_of p2.names outs ≡ outputs
  outs_texts =
      ap₂ texts_of (names2 ∙ append_assoc (inputs ++ outputs) L B) outs_are ∙ texts_segment inputs outputs (L ++ B)

  lefts_texts : texts_of p2.names lefts ≡ L
  lefts_texts =
      ap₂ texts_of names2 (one.numbers ∙ ap₂ (λ a b. map numbered (range_with_len a b)) (ap length names0) (sym L_many)) ∙ texts_segment (inputs ++ outputs) L B

  barred_texts : texts_of p2.names barred ≡ B
  barred_texts =
      ap₂ texts_of (names2 ∙ sym (append-nil (((inputs ++ outputs) ++ L) ++ B))) (two.numbers ∙ ap₂ (λ a b. map numbered (range_with_len a b)) (ap length names1) (sym B_many))
      ∙ texts_segment ((inputs ++ outputs) ++ L) B []

  base : p2.named ≡ (begun inputs outputs).named
  base = two.named ∙ one.named ∙ ap (λ (s : PartsOf). s.named) begin_is

  pub frees_collected : (p3 p4 p5 : PartsOf) → length outputs ≡ n → length outs ≡ length outputs → IsNumbering (inputs ++ outputs)
      → p3 ≡ with_nodes p2 (gate_nodes (texts_of p2.names outs) (texts_of p2.names lefts) (texts_of p2.names barred) (length outs))
      → p4 ≡ with_nodes p3 (rows_nodes p3.named.inputs (texts_of p3.names lefts) Free table n)
      → p5 ≡ with_nodes p4 (rows_nodes p4.named.inputs (texts_of p4.names barred) OnesBesideFree table n)
      → IsFreeNamed inputs outputs table p5.named
  frees_collected p3 p4 p5 outputs_many outs_many distinct step3 step4 step5 = record {
    distinct = subst IsNumbering (names2 ∙ ap₂ (λ l b. ((inputs ++ outputs) ++ l) ++ b) L_is B_is) (two.distinct (one.distinct (subst IsNumbering (sym names0) distinct)));
    named = named5 ∙ ap₂ (λ l b. free_named inputs outputs l b table) L_is B_is;
  }
    where
      L_is : L ≡ left_names inputs outputs table
      L_is = first_came inputs outputs n p0 p1 begin_is one.added

      B_is : B ≡ barred_names inputs outputs table
      B_is = then_came inputs outputs n n p0 p1 p2 begin_is one.added two.added

      named3 : p3.named ≡ more (begun inputs outputs).named (gate_nodes outputs L B n)
      named3 =
          named_with p2 p3 (gate_nodes (texts_of p2.names outs) (texts_of p2.names lefts) (texts_of p2.names barred) (length outs)) step3
          ∙ ap₂ more base
          (ap₂ (λ a b. gate_nodes a b (texts_of p2.names barred) (length outs)) outs_texts lefts_texts
          ∙ ap₂ (λ b k. gate_nodes outputs L b k) barred_texts (outs_many ∙ outputs_many))

      names3 : p3.names ≡ p2.names
      names3 = names_with p2 p3 _ step3

      inputs3 : p3.named.inputs ≡ inputs
      inputs3 = ap (λ (N : Named). N.inputs) named3

      named4 : p4.named ≡ more (more (begun inputs outputs).named (gate_nodes outputs L B n)) (rows_nodes inputs L Free table n)
      named4 =
          named_with p3 p4 (rows_nodes p3.named.inputs (texts_of p3.names lefts) Free table n) step4
          ∙ ap₂ more named3 (ap₂ (λ a b. rows_nodes a b Free table n) inputs3 (ap (λ names. texts_of names lefts) names3 ∙ lefts_texts))

      names4 : p4.names ≡ p2.names
      names4 = names_with p3 p4 _ step4 ∙ names3

      inputs4 : p4.named.inputs ≡ inputs
      inputs4 = ap (λ (N : Named). N.inputs) named4

      named5 : p5.named ≡ free_named inputs outputs L B table
      named5 =
          named_with p4 p5 (rows_nodes p4.named.inputs (texts_of p4.names barred) OnesBesideFree table n) step5
          ∙ ap₂ more named4 (ap₂ (λ a b. rows_nodes a b OnesBesideFree table n) inputs4 (ap (λ names. texts_of names barred) names4 ∙ barred_texts))

  -- the same, of the lists as they are shown
  pub frees_shown : (p3 p4 p5 : PartsOf) (o l b l2 b2 : List Name) → length outputs ≡ n → IsNumbering (inputs ++ outputs)
      → o ≡ outs → l ≡ lefts → b ≡ barred → l2 ≡ lefts → b2 ≡ barred
      → p3 ≡ with_nodes p2 (gate_nodes (texts_of p2.names o) (texts_of p2.names l) (texts_of p2.names b) (length o))
      → p4 ≡ with_nodes p3 (rows_nodes p3.named.inputs (texts_of p3.names l2) Free table n)
      → p5 ≡ with_nodes p4 (rows_nodes p4.named.inputs (texts_of p4.names b2) OnesBesideFree table n)
      → IsFreeNamed inputs outputs table p5.named
  frees_shown p3 p4 p5 o l b l2 b2 outputs_many distinct eo el eb el2 eb2 step3 step4 step5 =
      frees_collected p3 p4 p5 outputs_many (ap length outs_are ∙ length-map-range_with_len numbered (length inputs) (length outputs)) distinct
      (step3 ∙ ap (with_nodes p2)
      (ap₂ (λ x y. gate_nodes (texts_of p2.names x) (texts_of p2.names y) (texts_of p2.names b) (length x)) eo el
      ∙ ap (λ z. gate_nodes (texts_of p2.names outs) (texts_of p2.names lefts) (texts_of p2.names z) (length outs)) eb))
      (step4 ∙ ap (λ x. with_nodes p3 (rows_nodes p3.named.inputs (texts_of p3.names x) Free table n)) el2)
      (step5 ∙ ap (λ x. with_nodes p4 (rows_nodes p4.named.inputs (texts_of p4.names x) OnesBesideFree table n)) eb2)

-- ---- the networks

-- the inputs and outputs of a netlist of sound parts are those of the parts
pub inputs_back : (N : Named) → (named_of (netlist_of N)).inputs ≡ N.inputs
inputs_back N =
    take-append-le (length N.inputs) (N.inputs ++ latch_outs N) (node_outs N) (omega (arith, length-append N.inputs (latch_outs N)))
    ∙ take-append-le (length N.inputs) N.inputs (latch_outs N) (omega arith)
    ∙ take_all (length N.inputs) N.inputs (omega arith)

pub outputs_back : (N : Named) → IsSound N → (named_of (netlist_of N)).outputs ≡ N.outputs
outputs_back N sound = texts_at_places (drivers N) N.outputs sound.outputs

module _ (inputs outputs : List (List ℕ)) (table : TableOf) (inputs_many : length inputs ≡ table.inputs) (outputs_many : length outputs ≡ table.outputs)
    (some : 1 ≤ table.outputs) where
  left_many : length (left_names inputs outputs table) ≡ table.outputs
  left_many = length-map-range_with_len _ 0 table.outputs

  barred_many : length (barred_names inputs outputs table) ≡ table.outputs
  barred_many = length-map-range_with_len _ table.outputs table.outputs

  frees_sound : IsNumbering (((inputs ++ outputs) ++ left_names inputs outputs table) ++ barred_names inputs outputs table) → IsSound (frees_named inputs outputs table)
  frees_sound distinct =
      free_sound inputs outputs (left_names inputs outputs table) (barred_names inputs outputs table) table outputs_many left_many barred_many distinct some

  pub free_parts_sound : (N : Named) → IsFreeNamed inputs outputs table N → IsSound N
  free_parts_sound N f = subst IsSound (sym f.named) (frees_sound f.distinct)

  pub free_net_of : (N : Named) (net : NetlistOf) → IsFreeNamed inputs outputs table N → AreWide table → table.inputs ≤ 64 → table.outputs ≤ 64
      → net ≡ netlist_of N → IsBuilt net → IsFreeNet inputs outputs table net
  free_net_of N net f wide few_inputs few_outputs is built =
      let lefts : List (List ℕ) = left_names inputs outputs table in
      let barred : List (List ℕ) = barred_names inputs outputs table in
      let M : Named = frees_named inputs outputs table in
      let e : net ≡ netlist_of M = is ∙ ap netlist_of f.named in
      let many : length (circuit_of M).nodes ≡ table.outputs + table.outputs + table.outputs =
      length-map M.nodes _ ∙ nodes_many inputs outputs lefts barred table outputs_many left_many barred_many f.distinct in
      subst (IsFreeNet inputs outputs table) (sym e) (record {
        inputs_are = inputs_back M;
        outputs_are = outputs_back M (frees_sound f.distinct);
        inputs_many = refl;
        outputs_many = length-map outputs _;
        no_latch = refl;
        few_nets = omega (arith, many, inputs_many, few_inputs, few_outputs);
        answers = free_answers inputs outputs lefts barred table outputs_many left_many barred_many f.distinct inputs_many wide
            (subst (λ (m : NetlistOf). Acyclic m.circuit) e built.acyclic);
      })

  pub value_net_of : (net : NetlistOf) → IsNumbering (inputs ++ outputs) → AreWide table → net ≡ netlist_of (value_named inputs outputs table) → IsBuilt net
      → AnswersAs (is_one table) net.circuit
  value_net_of net distinct wide is built =
      subst (λ (m : NetlistOf). AnswersAs (is_one table) m.circuit) (sym is)
      (value_answers inputs outputs table inputs_many outputs_many distinct wide (subst (λ (m : NetlistOf). Acyclic m.circuit) is built.acyclic))
