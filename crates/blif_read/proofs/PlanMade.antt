-- A plan that keeps its rules is well made.
use Rattle.std.proofs.Common.{◌≡◌, ℕ, zero, suc, ◌+◌, ◌-◌, ◌*◌, ◌^◌, ◌<◌, ◌≤◌, Bool, true, false, ◌&&◌, ◌||◌, ◌==◌, nat_le, nat_lt, cond, List, [], ◌∷◌, ◌++◌, length, get_or, map, arith, refl, sym, ap, subst, ◌∙◌, Option, Some, None, if◌then◌else◌, count_by, ◌⊎◌, inl, inr, length-append}
use Rattle.std.proofs.lemmas.List.{length-map}
use Rattle.std.specs.List.{list_all, All}
use Rattle.std.proofs.lemmas.Grind.{common_steps}
use Rattle.std.proofs.lemmas.List.Sums.{sum_by-cons}
use Rattle.std.proofs.Math.Pow.{pow_mono}
use Rattle.std.specs.Str.{bytes_eq}
use Rattle.fault_secure.specs.CodePlan.{CodePlan, IsWellMade, HasShape, HasStates, IsBergerWidth, concat_places}
use Rattle.tsc_bits.specs.Counting.{ones}
use Rattle.tsc_net.specs.NetlistOf.{NetlistOf}
use Rattle.tsc_net.specs.NetFault.{first_repeat, repeat_after}
use Rattle.tsc_net.specs.Names.{has_text, text_at}
use Rattle.tsc_net.proofs.NameLemmas.{has_text_at}
use Rattle.fault_secure.specs.declared.code.Code.{Code}
use Rattle.fault_secure.specs.declared.code.Code.TheVariants.{Parity, Berger, MOutOfN}
use Rattle.tsc_text.specs.TextLine.{TextLine, the_word}
use Rattle.blif_read.specs.LineKind.{pins_of}
use Rattle.blif_read.specs.PlanText.{plan_with, version_of, code_in, source_outputs, groups_for, checks_for, group_outputs, group_outputs_at, group_checks, group_check_at, kind_in_plan, net_named, output_place, state_at, state_words, weight_of, bits_of_word, ones_of_word}
use Rattle.blif_read.specs.PlanFault.{each_once, is_width, is_empty, is_none, are_alike, fits_latches, fits_code, has_lines_for, has_checks_for, is_right}
use Rattle.blif_read.specs.PlanLines.{is_bits}
use Rattle.blif_read.specs.Planned.{IsPlannedAt, ArePlanned, AreWide}
use Rattle.blif_read.specs.declared.plan_lines.PlanKind.{PlanKind}
use Rattle.blif_read.specs.declared.plan_lines.PlanKind.TheVariants.{CodeLine, GroupLine, CheckLine, StateLine, WatchLine, OtherLine}
use Rattle.blif_read.proofs.RowWalk.{and_left, and_right}
use Rattle.blif_read.proofs.NameGrowth.{get_or-push}
use Rattle.tsc_net.specs.PlanView.{net_numbers}
use Rattle.tsc_net.specs.declared.plan.Group.{Group}
use Rattle.tsc_net.specs.declared.ids.NetId.{NetId}
use Rattle.tsc_text.proofs.Stored.{length-slice_range}

-- tests as facts
le_is : (a b : ℕ) → nat_le a b ≡ true → a ≤ b
le_is a b e = grind (arith, common_steps)

lt_is : (a b : ℕ) → nat_lt a b ≡ true → a < b
lt_is a b e = grind (arith, common_steps)

eq_is : (a b : ℕ) → (a == b) ≡ true → a ≡ b
eq_is a b e = grind (arith, common_steps)

-- what each item passes, and what that means
all_cons : {X : Type 0} (P : X → Type 0) (x : X) (xs : List X) → P x → All P xs → All P (x ∷ xs)
all_cons P x xs h r zero d k = h
all_cons P x xs h r (suc n) d k = r n d (omega arith)

pub all_by : {X : Type 0} (p : X → Bool) (P : X → Type 0) → ((x : X) → p x ≡ true → P x) → (xs : List X) → list_all p xs ≡ true → All P xs
all_by p P f [] e = λ k d h. absurd (omega arith)
all_by p P f (x ∷ xs) e = all_cons P x xs (f x (and_left (p x) (list_all p xs) e)) (all_by p P f xs (and_right (p x) (list_all p xs) e))

pub all_map : {X Y : Type 0} (f : X → Y) (P : Y → Type 0) (xs : List X) → All (λ x. P (f x)) xs → All P (map f xs)
all_map f P [] h = λ k d w. absurd (omega arith)
all_map f P (x ∷ xs) h = all_cons P (f x) (map f xs) (h 0 x (omega arith)) (all_map f P xs (λ k d w. h (suc k) d (omega arith)))

get_or-map : {X Y : Type 0} (f : X → Y) (xs : List X) (k : ℕ) (d : X) (e : Y) → k < length xs → get_or (map f xs) k e ≡ f (get_or xs k d)
get_or-map f [] k d e h = absurd (omega arith)
get_or-map f (x ∷ xs) zero d e h = refl
get_or-map f (x ∷ xs) (suc k) d e h = get_or-map f xs k d e (omega arith)

-- one item more at the end of a list stands at the place that is the list's length
pub get_or-last : (xs : List (List ℕ)) (x : List ℕ) → get_or (xs ++ x ∷ []) (length xs) [] ≡ x
get_or-last [] x = refl
get_or-last (y ∷ xs) x = get_or-last xs x

-- words without a repeat are different
new_here : (seen : List (List ℕ)) (word : List ℕ) (words : List (List ℕ)) → repeat_after seen (word ∷ words) ≡ None → has_text seen word ≡ false
new_here seen word words e = by (has_text seen word) e
  where
    by : (b : Bool) → (if b then Some word else repeat_after (seen ++ word ∷ []) words) ≡ None → b ≡ false
    by true e = cc
    by false e = refl

new_later : (seen : List (List ℕ)) (word : List ℕ) (words : List (List ℕ)) → repeat_after seen (word ∷ words) ≡ None → repeat_after (seen ++ word ∷ []) words ≡ None
new_later seen word words e = by (has_text seen word) e
  where
    by : (b : Bool) → (if b then Some word else repeat_after (seen ++ word ∷ []) words) ≡ None → repeat_after (seen ++ word ∷ []) words ≡ None
    by true e = cc
    by false e = e

not_seen : (seen words : List (List ℕ)) → repeat_after seen words ≡ None → (b k : ℕ) → b < length words → k < length seen → text_at seen k ≡ text_at words b → ⊥
not_seen seen [] e b k h w s = absurd (omega arith)
not_seen seen (word ∷ words) e zero k h w s =
    let t : has_text seen word ≡ true = has_text_at seen word k w s in
    let f : has_text seen word ≡ false = new_here seen word words e in
    cc
not_seen seen (word ∷ words) e (suc b) k h w s =
    not_seen (seen ++ word ∷ []) words (new_later seen word words e) b k (omega arith) (omega (arith, length-append seen (word ∷ []))) (get_or-push seen word k [] w ∙ s)

different : (seen words : List (List ℕ)) → repeat_after seen words ≡ None → (a b : ℕ) → a < b → b < length words → text_at words a ≡ text_at words b → ⊥
different seen [] e a b h w s = absurd (omega arith)
different seen (word ∷ words) e zero zero h w s = absurd (omega arith)
different seen (word ∷ words) e (suc a) zero h w s = absurd (omega arith)
different seen (word ∷ words) e zero (suc b) h w s =
    not_seen (seen ++ word ∷ []) words (new_later seen word words e) b (length seen) (omega arith) (omega (arith, length-append seen (word ∷ []))) (get_or-last seen word ∙ s)
different seen (word ∷ words) e (suc a) (suc b) h w s = different (seen ++ word ∷ []) words (new_later seen word words e) a b (omega arith) (omega arith) s

-- words of bits with the same bits are the same
bit_same : (x y : ℕ) → (x == 48 || x == 49) ≡ true → (y == 48 || y == 49) ≡ true → (x == 49) ≡ (y == 49) → x ≡ y
bit_same x y a b e = grind (arith, common_steps)

bits_same : (a b : List ℕ) → is_bits a ≡ true → is_bits b ≡ true → bits_of_word a ≡ bits_of_word b → a ≡ b
bits_same [] [] p q e = refl
bits_same [] (y ∷ b) p q e = cc
bits_same (x ∷ a) [] p q e = cc
bits_same (x ∷ a) (y ∷ b) p q e =
    let f : (x == 49) ≡ (y == 49) = cc in
    let r : bits_of_word a ≡ bits_of_word b = cc in
    let h : x ≡ y = bit_same x y (and_left (x == 48 || x == 49) (is_bits a) p) (and_left (y == 48 || y == 49) (is_bits b) q) f in
    let t : a ≡ b = bits_same a b (and_right (x == 48 || x == 49) (is_bits a) p) (and_right (y == 48 || y == 49) (is_bits b) q) r in
    cc

ones_same : (word : List ℕ) → ones (bits_of_word word) ≡ ones_of_word word
ones_same [] = refl
ones_same (c ∷ word) =
    sum_by-cons (λ (b : Bool). cond b 1 0) (c == 49) (bits_of_word word)
    ∙ (ap (λ n. cond (c == 49) 1 0 + n) (ones_same word) ∙ sym (sum_by-cons (λ (x : ℕ). cond (x == 49) 1 0) c word))

-- the words of states in planned lines are bits
words_are_bits : (lines : List TextLine) → ArePlanned lines → list_all is_bits (state_words lines) ≡ true
words_are_bits [] h = refl
words_are_bits (line ∷ lines) h = by (kind_in_plan line) h.0 (words_are_bits lines h.1)
  where
    by : (k : PlanKind) → IsPlannedAt k line → list_all is_bits (state_words lines) ≡ true → list_all is_bits (state_at k line ++ state_words lines) ≡ true
    by StateLine p e = ap (λ b. b && list_all is_bits (state_words lines)) p ∙ e
    by CodeLine p e = e
    by GroupLine p e = e
    by CheckLine p e = e
    by WatchLine p e = e
    by OtherLine p e = e

none_is : (o : Option (List ℕ)) → is_none o ≡ true → o ≡ None
none_is None e = refl
none_is (Some x) e = cc

empty_is : (words : List (List ℕ)) → is_empty words ≡ true → words ≡ []
empty_is [] e = refl
empty_is (word ∷ words) e = cc

-- what the rule of the states says
pub record HasFit (latches : ℕ) (words : List (List ℕ)) : Type 0 where
  pub none : latches ≡ 0 → words ≡ []
  pub some : 0 < latches → (0 < weight_of words) × (weight_of words < latches)
  pub alike : are_alike latches (weight_of words) words ≡ true
  pub different : first_repeat words ≡ None

pub has_fit : (latches : ℕ) (words : List (List ℕ)) → fits_latches latches words ≡ true → HasFit latches words
has_fit latches words e = by (latches == 0) refl e
  where
    no_words : (words : List (List ℕ)) → words ≡ [] → are_alike latches (weight_of words) words ≡ true
    no_words words e = ap (λ l. are_alike latches (weight_of l) l) e

    by : (b : Bool) → (latches == 0) ≡ b
        → (if b then is_empty words
        else (((nat_lt 0 (weight_of words) && nat_lt (weight_of words) latches) && are_alike latches (weight_of words) words) && is_none (first_repeat words))) ≡ true
        → HasFit latches words
    by true z e =
        let n : latches ≡ 0 = eq_is latches 0 z in
        let w : words ≡ [] = empty_is words e in
        record {
          none = λ _. w;
          some = λ p. absurd (omega arith);
          alike = no_words words w;
          different = ap first_repeat w;
        }
    by false z e =
        let front = and_left ((nat_lt 0 (weight_of words) && nat_lt (weight_of words) latches) && are_alike latches (weight_of words) words) (is_none (first_repeat words)) e in
        let range = and_left (nat_lt 0 (weight_of words) && nat_lt (weight_of words) latches) (are_alike latches (weight_of words) words) front in
        record {
          none = λ n. absurd (unequal n);
          some = λ p. (
            lt_is 0 (weight_of words) (and_left (nat_lt 0 (weight_of words)) (nat_lt (weight_of words) latches) range),
            lt_is (weight_of words) latches (and_right (nat_lt 0 (weight_of words)) (nat_lt (weight_of words) latches) range),
          );
          alike = and_right (nat_lt 0 (weight_of words) && nat_lt (weight_of words) latches) (are_alike latches (weight_of words) words) front;
          different = none_is (first_repeat words) (and_right ((nat_lt 0 (weight_of words) && nat_lt (weight_of words) latches) && are_alike latches (weight_of words) words) (is_none (first_repeat words)) e);
        }
      where
        unequal : latches ≡ 0 → ⊥
        unequal n =
            let t : (latches == 0) ≡ true = ap (λ l. l == 0) n in
            cc

pub are_wide : (latches weight : ℕ) (words : List (List ℕ)) → are_alike latches weight words ≡ true → AreWide latches words
are_wide latches weight [] e = tt
are_wide latches weight (word ∷ words) e =
    let here = and_left (length word == latches && ones_of_word word == weight) (are_alike latches weight words) e in (
      eq_is (length word) latches (and_left (length word == latches) (ones_of_word word == weight) here),
      are_wide latches weight words (and_right (length word == latches && ones_of_word word == weight) (are_alike latches weight words) e),
    )

sized_words : (latches weight : ℕ) (words : List (List ℕ)) → are_alike latches weight words ≡ true → All (λ state. length state ≡ latches) (map bits_of_word words)
sized_words latches weight words e =
    all_map bits_of_word (λ state. length state ≡ latches) words
    (all_by (λ word. length word == latches && ones_of_word word == weight) (λ word. length (bits_of_word word) ≡ latches)
    (λ word e. length-map word (λ character. character == 49) ∙ eq_is (length word) latches (and_left (length word == latches) (ones_of_word word == weight) e))
    words e)

weighed_words : (latches weight : ℕ) (words : List (List ℕ)) → are_alike latches weight words ≡ true → All (λ state. ones state ≡ weight) (map bits_of_word words)
weighed_words latches weight words e =
    all_map bits_of_word (λ state. ones state ≡ weight) words
    (all_by (λ word. length word == latches && ones_of_word word == weight) (λ word. ones (bits_of_word word) ≡ weight)
    (λ word e. ones_same word ∙ eq_is (ones_of_word word) weight (and_right (length word == latches) (ones_of_word word == weight) e))
    words e)

apart : (words : List (List ℕ)) → first_repeat words ≡ None → list_all is_bits words ≡ true → (a b : ℕ) → a < b → b < length (map bits_of_word words)
    → get_or (map bits_of_word words) a [] ≡ get_or (map bits_of_word words) b [] → ⊥
apart words n e a b h w s =
    let v : b < length words = omega (arith, length-map words bits_of_word) in
    let u : a < length words = omega arith in
    let bits : All (λ word. is_bits word ≡ true) words = all_by is_bits (λ word. is_bits word ≡ true) (λ word t. t) words e in
    let t : bits_of_word (get_or words a []) ≡ bits_of_word (get_or words b []) =
    sym (get_or-map bits_of_word words a [] [] u) ∙ (s ∙ get_or-map bits_of_word words b [] [] v) in
    different [] words n a b h v (bits_same (get_or words a []) (get_or words b []) (bits a [] u) (bits b [] v) t)

filled : (words : List (List ℕ)) → 0 < weight_of words → 0 < length (map bits_of_word words)
filled [] h = h
filled (word ∷ words) h = omega arith

pub has_states : (head : TextLine) (lines : List TextLine) (net : NetlistOf) → ArePlanned lines → HasFit (length net.circuit.latches) (state_words lines)
    → HasStates (plan_with head lines net)
has_states head lines net planned fit = record {
  none = λ z. (ap (λ l. map bits_of_word l) (fit.none z), ap weight_of (fit.none z));
  some = λ p. (filled (state_words lines) (fit.some p).0, (fit.some p).0, (fit.some p).1);
  sized = sized_words (length net.circuit.latches) (weight_of (state_words lines)) (state_words lines) fit.alike;
  weighed = weighed_words (length net.circuit.latches) (weight_of (state_words lines)) (state_words lines) fit.alike;
  distinct = apart (state_words lines) fit.different (words_are_bits lines planned);
}

-- the groups of planned lines: a check each, and none is empty
as_many_checks : (net : NetlistOf) (lines : List TextLine)
    → length (map (net_named net) (group_checks lines)) ≡ length (map (λ names. map (output_place net) names) (group_outputs lines))
as_many_checks net [] = refl
as_many_checks net (line ∷ lines) = by (kind_in_plan line) (as_many_checks net lines)
  where
    by : (k : PlanKind) → length (map (net_named net) (group_checks lines)) ≡ length (map (λ names. map (output_place net) names) (group_outputs lines))
        → length (map (net_named net) (group_check_at k line ++ group_checks lines)) ≡ length (map (λ names. map (output_place net) names) (group_outputs_at k line ++ group_outputs lines))
    by GroupLine e = ap suc e
    by CodeLine e = e
    by CheckLine e = e
    by StateLine e = e
    by WatchLine e = e
    by OtherLine e = e

groups_filled : (net : NetlistOf) (lines : List TextLine) → ArePlanned lines → All (λ group. 0 < length group) (map (λ names. map (output_place net) names) (group_outputs lines))
groups_filled net [] h = λ k d w. absurd (omega arith)
groups_filled net (line ∷ lines) h = by (kind_in_plan line) h.0 (groups_filled net lines h.1)
  where
    by : (k : PlanKind) → IsPlannedAt k line → All (λ group. 0 < length group) (map (λ names. map (output_place net) names) (group_outputs lines))
        → All (λ group. 0 < length group) (map (λ names. map (output_place net) names) (group_outputs_at k line ++ group_outputs lines))
    by GroupLine p e =
        let l : length (pins_of line) ≡ (length line.words - 1) - 1 = length-slice_range line.words 1 (length line.words - 1) (omega arith) in
        let m : length (map (output_place net) (pins_of line)) ≡ length (pins_of line) = length-map (pins_of line) (output_place net) in
        all_cons (λ group. 0 < length group) (map (output_place net) (pins_of line)) (map (λ names. map (output_place net) names) (group_outputs lines)) (omega (arith, l, m, p)) e
    by CodeLine p e = e
    by CheckLine p e = e
    by StateLine p e = e
    by WatchLine p e = e
    by OtherLine p e = e

once_each : (places : List ℕ) (count : ℕ) → each_once places count ≡ true → (place : ℕ) → place < count → count_by (λ other. place == other) places ≡ 1
once_each places zero e place h = absurd (omega arith)
once_each places (suc count) e place h =
    by (at_or_below (omega arith)) (once_each places count (and_right (count_by (λ other. count == other) places == 1) (each_once places count) e) place)
  where
    at_or_below : place ≤ count → (place ≡ count) ⊎ (place < count)
    at_or_below h = grind arith

    by : (place ≡ count) ⊎ (place < count) → (place < count → count_by (λ other. place == other) places ≡ 1) → count_by (λ other. place == other) places ≡ 1
    by (inl s) rest =
        subst (λ c. count_by (λ other. c == other) places ≡ 1) (sym s)
        (eq_is (count_by (λ other. count == other) places) 1 (and_left (count_by (λ other. count == other) places == 1) (each_once places count) e))
    by (inr m) rest = rest m

berger_width : (outputs width : ℕ) → is_width outputs width ≡ true → IsBergerWidth outputs width
berger_width outputs zero e = cc
berger_width outputs (suc width) e =
    let low : 2 ^ width ≤ outputs = le_is (2 ^ width) outputs (and_left (nat_le (2 ^ width) outputs) (nat_lt outputs (2 * 2 ^ width)) e) in
    let high : outputs < 2 * 2 ^ width = lt_is outputs (2 * 2 ^ width) (and_right (nat_le (2 ^ width) outputs) (nat_lt outputs (2 * 2 ^ width)) e) in
    (below high, λ u h. least u low h (λ w. pow_mono {i = u} {j = width} w))
  where
    below : outputs < 2 * 2 ^ width → outputs < 2 ^ suc width
    below h = grind arith

    least : (u : ℕ) → 2 ^ width ≤ outputs → outputs < 2 ^ u → (u ≤ width → 2 ^ u ≤ 2 ^ width) → suc width ≤ u
    least u low h mono = grind arith

numbers_of_checks : (groups : List Group) → net_numbers (map (λ group. group.check) groups) ≡ map (λ group. group.check.number) groups
numbers_of_checks [] = refl
numbers_of_checks (group ∷ groups) = ap (λ l. group.check.number ∷ l) (numbers_of_checks groups)

pub checks_numbered : (groups : List Group) (names : List ℕ) (checks : List NetId) → map (λ group. group.check.number) groups ≡ names → checks ≡ map (λ group. group.check) groups
    → net_numbers checks ≡ names
checks_numbered groups names checks e c = ap net_numbers c ∙ (numbers_of_checks groups ∙ e)

-- the plan of the lines under a code
abbrev pub plan_by : Code → TextLine → List TextLine → NetlistOf → CodePlan
plan_by code head lines net = record (plan_with head lines net) { code = code; checks = map (net_named net) (checks_for code lines); groups = groups_for code net lines }

has_shape : (code : Code) (head : TextLine) (lines : List TextLine) (net : NetlistOf) → ArePlanned lines
    → has_checks_for code (source_outputs net) (groups_for code net lines) (length (checks_for code lines)) ≡ true → HasShape code (plan_by code head lines net)
has_shape Parity head lines net planned e =
    let places = concat_places (groups_for Parity net lines) in
    let outputs = source_outputs net in
    let front = and_left (length (concat_places (groups_for Parity net lines)) == source_outputs net && list_all (λ place. nat_lt place (source_outputs net)) (concat_places (groups_for Parity net lines)))
    (each_once (concat_places (groups_for Parity net lines)) (source_outputs net)) e in
    record {
      paired = as_many_checks net lines;
      filled = groups_filled net lines planned;
      within = all_by (λ place. nat_lt place (source_outputs net)) (λ place. place < source_outputs net) (λ place t. lt_is place (source_outputs net) t) (concat_places (groups_for Parity net lines))
          (and_right (length (concat_places (groups_for Parity net lines)) == source_outputs net) (list_all (λ place. nat_lt place (source_outputs net)) (concat_places (groups_for Parity net lines))) front);
      once = once_each (concat_places (groups_for Parity net lines)) (source_outputs net)
          (and_right (length (concat_places (groups_for Parity net lines)) == source_outputs net && list_all (λ place. nat_lt place (source_outputs net)) (concat_places (groups_for Parity net lines)))
          (each_once (concat_places (groups_for Parity net lines)) (source_outputs net)) e);
    }
has_shape Berger head lines net planned e = (
  refl,
  berger_width (source_outputs net) (length (map (net_named net) (checks_for Berger lines)))
      (ap (λ n. is_width (source_outputs net) n) (length-map (checks_for Berger lines) (net_named net)) ∙ e),
)
has_shape MOutOfN head lines net planned e =
    (refl, length-map (checks_for MOutOfN lines) (net_named net) ∙ eq_is (length (checks_for MOutOfN lines)) (source_outputs net) e)

-- what the rules say
pub record KeepsAll (code : Code) (lines : List TextLine) (net : NetlistOf) : Type 0 where
  pub least : 3 ≤ length net.circuit.outputs
  pub most : length net.circuit.outputs ≤ 66
  pub latches : length net.circuit.latches ≤ 64
  pub checks : has_checks_for code (source_outputs net) (groups_for code net lines) (length (checks_for code lines)) ≡ true
  pub fit : HasFit (length net.circuit.latches) (state_words lines)

-- where the test of the plan's rules passes, each of them holds
pub keeps_all : (code : Code) (lines : List TextLine) (net : NetlistOf) → is_right code lines net ≡ true → KeepsAll code lines net
keeps_all code lines net e =
    let sizes = and_left ((nat_le 3 (length net.circuit.outputs) && nat_le (length net.circuit.outputs) 66) && nat_le (length net.circuit.latches) 64)
    (fits_code code net lines && fits_latches (length net.circuit.latches) (state_words lines)) e in
    let rules = and_right ((nat_le 3 (length net.circuit.outputs) && nat_le (length net.circuit.outputs) 66) && nat_le (length net.circuit.latches) 64)
    (fits_code code net lines && fits_latches (length net.circuit.latches) (state_words lines)) e in
    let outputs = and_left (nat_le 3 (length net.circuit.outputs) && nat_le (length net.circuit.outputs) 66) (nat_le (length net.circuit.latches) 64) sizes in
    record {
      least = le_is 3 (length net.circuit.outputs) (and_left (nat_le 3 (length net.circuit.outputs)) (nat_le (length net.circuit.outputs) 66) outputs);
      most = le_is (length net.circuit.outputs) 66 (and_right (nat_le 3 (length net.circuit.outputs)) (nat_le (length net.circuit.outputs) 66) outputs);
      latches = le_is (length net.circuit.latches) 64 (and_right (nat_le 3 (length net.circuit.outputs) && nat_le (length net.circuit.outputs) 66) (nat_le (length net.circuit.latches) 64) sizes);
      checks = and_right (has_lines_for code lines) (has_checks_for code (source_outputs net) (groups_for code net lines) (length (checks_for code lines)))
          (and_left (fits_code code net lines) (fits_latches (length net.circuit.latches) (state_words lines)) rules);
      fit = has_fit (length net.circuit.latches) (state_words lines) (and_right (fits_code code net lines) (fits_latches (length net.circuit.latches) (state_words lines)) rules);
    }

pub well_made : (head : TextLine) (lines : List TextLine) (net : NetlistOf) → ArePlanned lines → KeepsAll (code_in head) lines net → IsWellMade (plan_with head lines net)
well_made head lines net planned keeps = record {
  versioned = version (bytes_eq (the_word head 0) (49 ∷ [])) (version_of head) refl;
  some_output = some keeps.least;
  most_outputs = most keeps.most;
  shape = has_shape (code_in head) head lines net planned keeps.checks;
  states = has_states head lines net planned keeps.fit;
}
  where
    version : (b : Bool) (n : ℕ) → n ≡ (if b then 1 else 2) → (n ≡ 1) ⊎ (n ≡ 2)
    version true n e = inl e
    version false n e = inr e

    some : 3 ≤ length net.circuit.outputs → 0 < length net.circuit.outputs - 2
    some h = omega arith

    most : length net.circuit.outputs ≤ 66 → length net.circuit.outputs - 2 ≤ 64
    most h = omega arith

-- the plan with parts that are those of the lines
pub plan_put : (head : TextLine) (lines : List TextLine) (net : NetlistOf) (code : Code) (version outputs latches weight rail1 rail2 : ℕ)
    (checks : List ℕ) (groups : List (List ℕ)) (states : List (List Bool))
    → version ≡ version_of head → code ≡ code_in head → outputs ≡ source_outputs net → checks ≡ map (net_named net) (checks_for code lines)
    → groups ≡ groups_for code net lines → latches ≡ length net.circuit.latches → weight ≡ weight_of (state_words lines) → states ≡ map bits_of_word (state_words lines)
    → rail1 ≡ get_or net.circuit.outputs (source_outputs net) 0 → rail2 ≡ get_or net.circuit.outputs (source_outputs net + 1) 0
    → record { version = version; code = code; outputs = outputs; checks = checks; groups = groups; latches = latches; weight = weight; states = states; rail1 = rail1; rail2 = rail2 }
    ≡ plan_with head lines net
plan_put head lines net code version outputs latches weight rail1 rail2 checks groups states v c o ch g l w s r1 r2 =
    ap (λ x. record { version = x; code = code; outputs = outputs; checks = checks; groups = groups; latches = latches; weight = weight; states = states; rail1 = rail1; rail2 = rail2 }) v
    ∙ (ap (λ x. record { version = version_of head; code = code; outputs = x; checks = checks; groups = groups; latches = latches; weight = weight; states = states; rail1 = rail1; rail2 = rail2 }) o
    ∙ (ap (λ x. record { version = version_of head; code = code; outputs = source_outputs net; checks = x; groups = groups; latches = latches; weight = weight; states = states; rail1 = rail1; rail2 = rail2 }) ch
    ∙ (ap (λ x. record { version = version_of head; code = code; outputs = source_outputs net; checks = map (net_named net) (checks_for code lines); groups = x; latches = latches; weight = weight; states = states; rail1 = rail1; rail2 = rail2 }) g
    ∙ (ap (λ x. record (plan_by code head lines net) { latches = x; weight = weight; states = states; rail1 = rail1; rail2 = rail2 }) l
    ∙ (ap (λ x. record (plan_by code head lines net) { weight = x; states = states; rail1 = rail1; rail2 = rail2 }) w
    ∙ (ap (λ x. record (plan_by code head lines net) { states = x; rail1 = rail1; rail2 = rail2 }) s
    ∙ (ap (λ x. record (plan_by code head lines net) { rail1 = x; rail2 = rail2 }) r1
    ∙ (ap (λ x. record (plan_by code head lines net) { rail2 = x }) r2
    ∙ ap (λ x. plan_by x head lines net) c))))))))
