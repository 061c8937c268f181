-- Names that were given keep their texts while more are given.
use Rattle.std.proofs.Common.{◌≡◌, ℕ, suc, zero, ◌+◌, ◌<◌, ◌≤◌, Bool, true, false, List, [], ◌∷◌, ◌++◌, length, get_or, arith, refl, sym, ap, subst, ◌∙◌, length-append, if◌then◌else◌}
use Rattle.std.proofs.lemmas.List.{length-map}
use Rattle.std.specs.List.{All, slice_range}
use Rattle.tsc_net.specs.Names.{has_text, with_text, text_at}
use Rattle.tsc_net.specs.Parts.{PartsOf, with_name}
use Rattle.tsc_net.specs.PartsView.{text_of, texts_of, IsName}
use Rattle.tsc_net.specs.declared.ids.Name.{Name}
use Rattle.tsc_cover.specs.Cover.{CoverTable}
use Rattle.tsc_net.specs.Parts.{with_node}
use Rattle.tsc_text.specs.TextLine.{TextLine}
use Rattle.blif_read.specs.LineKind.{pins_of, net_of, width_of}
use Rattle.blif_read.specs.Rows.{cover_with, rows_of}
use Rattle.blif_read.specs.NamedText.{node_at}
use Rattle.blif_read.specs.Added.{with_node as add_node}
use Rattle.tsc_bits.proofs.Ranges.{range_push}
use Rattle.tsc_bits.proofs.Lists.{map-push}

-- an item before the end stays where another is added
pub get_or-push : {X : Type 0} (xs : List X) (x : X) (k : ℕ) (d : X) → k < length xs → get_or (xs ++ x ∷ []) k d ≡ get_or xs k d
get_or-push [] x k d h = absurd (omega arith)
get_or-push (y ∷ xs) x zero d h = refl
get_or-push (y ∷ xs) x (suc k) d h = get_or-push xs x k d (omega arith)

pub text_stays : (names : List (List ℕ)) (text : List ℕ) (k : ℕ) → k < length names → text_at (with_text names text) k ≡ text_at names k
text_stays names text k h = by (has_text names text)
  where
    by : (b : Bool) → text_at (if b then names else names ++ text ∷ []) k ≡ text_at names k
    by true = refl
    by false = get_or-push names text k [] h

pub length-with_text : (names : List (List ℕ)) (text : List ℕ) → (length names ≤ length (with_text names text)) × (length (with_text names text) ≤ length names + 1)
length-with_text names text = by (has_text names text)
  where
    by : (b : Bool) → (length names ≤ length (if b then names else names ++ text ∷ [])) × (length (if b then names else names ++ text ∷ []) ≤ length names + 1)
    by true = (omega arith, omega arith)
    by false = (omega (arith, length-append names (text ∷ [])), omega (arith, length-append names (text ∷ [])))

pub name_stays : (names : List (List ℕ)) (text : List ℕ) (name : Name) → IsName names name → IsName (with_text names text) name
name_stays names text name h = omega (arith, (length-with_text names text).0, h)

pub own_stay : (names : List (List ℕ)) (text : List ℕ) (reads : List Name) → All (IsName names) reads → All (IsName (with_text names text)) reads
own_stay names text reads h = λ k d w. name_stays names text (get_or reads k d) (h k d w)

pub texts_stay : (names : List (List ℕ)) (text : List ℕ) (reads : List Name) → All (IsName names) reads → texts_of (with_text names text) reads ≡ texts_of names reads
texts_stay names text [] h = refl
texts_stay names text (name ∷ reads) h =
    let first : text_of (with_text names text) name ≡ text_of names name = text_stays names text name.number (h 0 name (omega arith)) in
    let rest : texts_of (with_text names text) reads ≡ texts_of names reads = texts_stay names text reads (λ k d w. h (suc k) d (omega arith)) in
    rw (first, rest) refl

pub own_push : (names : List (List ℕ)) (reads : List Name) (name : Name) → All (IsName names) reads → IsName names name → All (IsName names) (reads ++ name ∷ [])
own_push names [] name h n zero d w = n
own_push names [] name h n (suc k) d w = absurd (omega arith)
own_push names (first ∷ reads) name h n zero d w = h 0 d (omega arith)
own_push names (first ∷ reads) name h n (suc k) d w = own_push names reads name (λ j d v. h (suc j) d (omega arith)) n k d (omega arith)

-- the names of a list of texts, as far as they were given
pub record AreNamed (names : List (List ℕ)) (reads : List Name) (texts : List (List ℕ)) : Type 0 where
  pub same : texts_of names reads ≡ texts
  pub own : All (IsName names) reads

pub named_more : (names : List (List ℕ)) (reads : List Name) (texts : List (List ℕ)) (text : List ℕ) (name : Name)
    → AreNamed names reads texts → IsName (with_text names text) name → text_of (with_text names text) name ≡ text
    → AreNamed (with_text names text) (reads ++ name ∷ []) (texts ++ text ∷ [])
named_more names reads texts text name h n e = record {
  same = map-push (text_of (with_text names text)) reads name
      ∙ (ap (λ l. l ++ text_of (with_text names text) name ∷ []) (texts_stay names text reads h.own ∙ h.same) ∙ ap (λ t. texts ++ t ∷ []) e);
  own = own_push (with_text names text) reads name (own_stay names text reads h.own) n;
}

pub pins_more : (old new : PartsOf) (reads more : List Name) (words : List (List ℕ)) (place : ℕ) (text : List ℕ) (name : Name)
    → new ≡ with_name old text → AreNamed old.names reads (slice_range words 1 place) → IsName new.names name → text_of new.names name ≡ text
    → more ≡ reads ++ name ∷ [] → text ≡ get_or words place [] → 1 ≤ place → place < length words
    → AreNamed new.names more (slice_range words 1 (place + 1))
pins_more old new reads more words place text name e h n t m w i k =
    let s : new.names ≡ with_text old.names text = ap (λ (p : PartsOf). p.names) e in
    let n2 : IsName (with_text old.names text) name = subst (λ l. IsName l name) s n in
    let t2 : text_of (with_text old.names text) name ≡ text = subst (λ l. text_of l name ≡ text) s t in
    let a : AreNamed (with_text old.names text) (reads ++ name ∷ []) (slice_range words 1 place ++ text ∷ []) =
    named_more old.names reads (slice_range words 1 place) text name h n2 t2 in
    let r : slice_range words 1 place ++ text ∷ [] ≡ slice_range words 1 (place + 1) =
    ap (λ x. slice_range words 1 place ++ x ∷ []) w ∙ sym (range_push words 1 place [] i k) in
    subst (λ l. AreNamed l more (slice_range words 1 (place + 1))) (sym s)
    (subst (λ l. AreNamed (with_text old.names text) l (slice_range words 1 (place + 1))) (sym m)
    (subst (λ l. AreNamed (with_text old.names text) (reads ++ name ∷ []) l) r a))

-- as many names as texts
pub as_many : (names : List (List ℕ)) (reads : List Name) (texts : List (List ℕ)) → texts_of names reads ≡ texts → length reads ≡ length texts
as_many names reads texts e = sym (length-map reads (text_of names)) ∙ ap length e

pub node_added : (first pinned given new : PartsOf) (reads : List Name) (out : Name) (cover : CoverTable) (text : List ℕ) (line : TextLine) (behind : List TextLine)
    → pinned.named ≡ first.named → texts_of pinned.names reads ≡ pins_of line → All (IsName pinned.names) reads
    → given ≡ with_name pinned text → text ≡ net_of line → text_of given.names out ≡ text
    → cover ≡ cover_with (width_of line) (rows_of behind)
    → new ≡ with_node given (texts_of given.names reads) (text_of given.names out) cover
    → new.named ≡ add_node first.named (node_at line behind)
node_added first pinned given new reads out cover text line behind p r own g t o c e =
    let s : given.names ≡ with_text pinned.names text = ap (λ (p : PartsOf). p.names) g in
    let same : given.named ≡ first.named = ap (λ (p : PartsOf). p.named) g ∙ p in
    let texts : texts_of given.names reads ≡ pins_of line =
    ap (λ l. texts_of l reads) s ∙ (texts_stay pinned.names text reads own ∙ r) in
    let net : text_of given.names out ≡ net_of line = o ∙ t in
    let start : new.named ≡ add_node given.named (record { reads = texts_of given.names reads; out = text_of given.names out; cover = cover }) =
    ap (λ (p : PartsOf). p.named) e in
    start
    ∙ (ap (λ N. add_node N (record { reads = texts_of given.names reads; out = text_of given.names out; cover = cover })) same
    ∙ (ap (λ l. add_node first.named (record { reads = l; out = text_of given.names out; cover = cover })) texts
    ∙ (ap (λ l. add_node first.named (record { reads = pins_of line; out = l; cover = cover })) net
    ∙ ap (λ l. add_node first.named (record { reads = pins_of line; out = net_of line; cover = l })) c)))
