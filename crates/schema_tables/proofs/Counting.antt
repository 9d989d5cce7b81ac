-- All inputs that have to be given are there where as many of the names are theirs.
use Rattle.std.proofs.Common.{◌≡◌, ℕ, zero, suc, ◌+◌, ◌<◌, ◌≤◌, ◌==◌, Bool, true, false, true≢false, not, cond, ◌&&◌, ◌||◌, List, [], ◌∷◌, ◌++◌, map, length, get_or, drop, Ordering, Less, Equal, Greater, nat_cmp, is_eq, bytes_eq, add-one, drop-cons, refl, ap, sym, ◌∙◌, arith}
use Rattle.std.proofs.lemmas.List.{drop_all}
use Rattle.std.proofs.lemmas.Bool.Decides.{Decides-eqb}
use Rattle.std.proofs.lemmas.Map.Text.{is_eq-slice_cmp}
use Rattle.std.proofs.lemmas.Slice.Eq.{bytes_eq-Decides}
use Rattle.std.specs.Cmp.Lexicographic.{slice_cmp}
use Rattle.std.specs.List.{AllByRecursion}
use Rattle.std.specs.List.Sorted.{IsStrictlySortedBy}
use Rattle.std.specs.Ordering.{match_ordering}
use Rattle.gql_ast.specs.Value.{Val, Members, members_of}
use Rattle.gql_ast.specs.ValueView.{argument_of}
use Rattle.gql_ast.specs.declared.value.Argument.{Argument}
use Rattle.gql_graph.specs.Rules.{each}
use Rattle.gql_graph.specs.Texts.{Text}
use Rattle.gql_ast.proofs.gql_plain_laws.Booleans.{both_ways}
use Rattle.gql_ast.proofs.gql_plain_laws.SortedTexts.{AreInOrder-sorted_texts}
use Rattle.gql_graph.specs.gql_plain.Order.{AreInOrder, has_text, with_text, sorted_texts}
use Rattle.schema_tables.specs.Views.{InputDef}
use Rattle.schema_tables.specs.Fits.{has_member}
use Rattle.schema_tables.specs.Given.{gives_each}
use Rattle.schema_tables.specs.Inputs.{must_be_given}
use Rattle.schema_tables.specs.Required.{required_name, required_names, one_if, count_among, all_differ, member_names}

-- ---- truth values

pub and_left : (a b : Bool) → (a && b) ≡ true → a ≡ true
and_left true b e = refl
and_left false b e = e

pub and_right : (a b : Bool) → (a && b) ≡ true → b ≡ true
and_right true b e = e
and_right false b e = absurd (true≢false (sym e))

pub is_not : (a : Bool) → not a ≡ true → a ≡ false
is_not true e = absurd (true≢false (sym e))
is_not false e = refl

and_twice : (a b : Bool) → (a && b) ≡ (a && (a && b))
and_twice true b = refl
and_twice false b = refl

and_swap : (a b c : Bool) → (a && (b && c)) ≡ (b && (a && c))
and_swap true b c = refl
and_swap false true c = refl
and_swap false false c = refl

pub eq_swap : (a b : Text) → bytes_eq a b ≡ bytes_eq b a
eq_swap a b = both_ways (bytes_eq a b) (bytes_eq b a) (λ e. (bytes_eq-Decides b a).1 (sym ((bytes_eq-Decides a b).0 e))) (λ e. (bytes_eq-Decides a b).1 (sym ((bytes_eq-Decides b a).0 e)))

-- ---- of two lists of names that differ as many of the one are in the other as the other way round

swap : (a c d : Bool) (t : ℕ) → (a ≡ true → c ≡ false) → (a ≡ true → d ≡ false) → (one_if (a || c) + (one_if d + t)) ≡ (one_if (a || d) + (one_if c + t))
swap true c d t f g = ap (λ b. 1 + (one_if b + t)) (g refl ∙ sym (f refl))
swap false c d t f g = omega arith

count_more : (r : Text) (rs ms : List Text) → has_text rs r ≡ false → all_differ ms ≡ true → count_among (r ∷ rs) ms ≡ (one_if (has_text ms r) + count_among rs ms)
count_more r rs [] none differ = refl
count_more r rs (m ∷ ms) none differ =
    let new : has_text ms m ≡ false = is_not (has_text ms m) (and_left (not (has_text ms m)) (all_differ ms) differ) in
    ap (λ n. one_if (bytes_eq r m || has_text rs m) + n) (count_more r rs ms none (and_right (not (has_text ms m)) (all_differ ms) differ))
    ∙ swap (bytes_eq r m) (has_text rs m) (has_text ms r) (count_among rs ms) (λ e. ap (has_text rs) (sym ((bytes_eq-Decides r m).0 e)) ∙ none) (λ e. ap (has_text ms) ((bytes_eq-Decides r m).0 e) ∙ new)
    ∙ ap (λ b. one_if (b || has_text ms r) + (one_if (has_text rs m) + count_among rs ms)) (eq_swap r m)

count_none : (ms : List Text) → count_among [] ms ≡ 0
count_none [] = refl
count_none (m ∷ ms) = ap (λ n. 0 + n) (count_none ms)

both_counts : (rs ms : List Text) → all_differ rs ≡ true → all_differ ms ≡ true → count_among rs ms ≡ count_among ms rs
both_counts [] ms d e = count_none ms
both_counts (r ∷ rs) ms d e =
    count_more r rs ms (is_not (has_text rs r) (and_left (not (has_text rs r)) (all_differ rs) d)) e
    ∙ ap (λ n. one_if (has_text ms r) + n) (both_counts rs ms (and_right (not (has_text rs r)) (all_differ rs) d) e)

-- ---- all are counted

abbrev pub have_all : (Text → Bool) → List Text → Bool
have_all has [] = true
have_all has (n ∷ ns) = has n && have_all has ns

have_all-same : (p q : Text → Bool) → ((n : Text) → p n ≡ q n) → (ns : List Text) → have_all p ns ≡ have_all q ns
have_all-same p q same [] = refl
have_all-same p q same (n ∷ ns) = λ k. same n k && have_all-same p q same ns k

one_below : (b : Bool) → one_if b ≤ 1
one_below true = omega arith
one_below false = omega arith

pub count_below : (ms rs : List Text) → count_among ms rs ≤ length rs
count_below ms [] = omega arith
count_below ms (r ∷ rs) = omega (arith, one_below (has_text ms r), count_below ms rs)

all_counted : (ms rs : List Text) → have_all (has_text ms) rs ≡ true → count_among ms rs ≡ length rs
all_counted ms [] e = refl
all_counted ms (r ∷ rs) e =
    let first : one_if (has_text ms r) ≡ 1 = ap one_if (and_left (has_text ms r) (have_all (has_text ms) rs) e) in
    let rest : count_among ms rs ≡ length rs = all_counted ms rs (and_right (has_text ms r) (have_all (has_text ms) rs) e) in
    omega (arith, first, rest)

counted_all : (ms rs : List Text) → count_among ms rs ≡ length rs → have_all (has_text ms) rs ≡ true
counted_all ms [] e = refl
counted_all ms (r ∷ rs) e = on (counted_all ms rs) (has_text ms r) refl
  where
    on : (count_among ms rs ≡ length rs → have_all (has_text ms) rs ≡ true) → (b : Bool) → has_text ms r ≡ b → (b && have_all (has_text ms) rs) ≡ true
    on rest true h =
        let first : one_if (has_text ms r) ≡ 1 = ap one_if h in
        rest (omega (arith, e, first))
    on rest false h =
        let first : one_if (has_text ms r) ≡ 0 = ap one_if h in
        absurd (omega (arith, e, first, count_below ms rs))

-- ---- names in byte order

absent_first : (t : Text) (ts : List Text) → AllByRecursion (λ later. slice_cmp nat_cmp t later ≡ Less) ts → has_text ts t ≡ false
absent_first t [] all = refl
absent_first t (y ∷ ts) all =
    let apart : bytes_eq y t ≡ false = eq_swap y t ∙ sym (is_eq-slice_cmp t y) ∙ ap is_eq all.0 in
    λ k. apart k || absent_first t ts all.1 k

pub differ_sorted : (ts : List Text) → AreInOrder ts → all_differ ts ≡ true
unfolding IsStrictlySortedBy
differ_sorted [] s = refl
differ_sorted (t ∷ ts) s = λ k. not (absent_first t ts s.0 k) && differ_sorted ts s.1 k

all-with_text : (has : Text → Bool) (t : Text) (ts : List Text) → have_all has (with_text t ts) ≡ (has t && have_all has ts)
all-with_text has t [] = refl
all-with_text has t (first ∷ ts) = at (all-with_text has t ts) (slice_cmp nat_cmp t first) refl
  where
    at : have_all has (with_text t ts) ≡ (has t && have_all has ts) → (o : Ordering) → slice_cmp nat_cmp t first ≡ o
        → have_all has (match_ordering o (t ∷ first ∷ ts) (first ∷ ts) (first ∷ with_text t ts)) ≡ (has t && have_all has (first ∷ ts))
    at more Less e = refl
    at more Equal e =
        let same : t ≡ first = (bytes_eq-Decides t first).0 (sym (is_eq-slice_cmp t first) ∙ ap is_eq e) in
        and_twice (has first) (have_all has ts) ∙ ap (λ x. has x && have_all has (first ∷ ts)) (sym same)
    at more Greater e = ap (λ b. has first && b) more ∙ and_swap (has first) (has t) (have_all has ts)

all-sorted_texts : (has : Text → Bool) (ts : List Text) → have_all has (sorted_texts ts) ≡ have_all has ts
all-sorted_texts has [] = refl
all-sorted_texts has (t ∷ ts) = all-with_text has t (sorted_texts ts) ∙ ap (λ b. has t && b) (all-sorted_texts has ts)

-- ---- what has to be given

-- each input that has to be given has one of these names
abbrev pub gives_by : (Text → Bool) → List InputDef → Bool
gives_by has [] = true
gives_by has (i ∷ is) = (not (must_be_given i) || has i.name) && gives_by has is

all_required : (has : Text → Bool) (is : List InputDef) → have_all has (each required_name is) ≡ gives_by has is
all_required has [] = refl
all_required has (i ∷ is) = on (all_required has is) (must_be_given i)
  where
    on : have_all has (each required_name is) ≡ gives_by has is → (b : Bool)
        → have_all has (cond b (i.name ∷ []) [] ++ each required_name is) ≡ ((not b || has i.name) && gives_by has is)
    on rest true = ap (λ b. has i.name && b) rest
    on rest false = rest

-- of names that differ as many are required as there are such inputs where all those are there
pub count_gives : (has : Text → Bool) (is : List InputDef) (ms : List Text) → all_differ ms ≡ true → ((n : Text) → has n ≡ has_text ms n)
    → (count_among (required_names is) ms == length (required_names is)) ≡ gives_by has is
count_gives has is ms differ same =
    let rs : List Text = required_names is in
    let both : count_among rs ms ≡ count_among ms rs = both_counts rs ms (differ_sorted rs (AreInOrder-sorted_texts (each required_name is))) differ in
    both_ways (count_among rs ms == length rs) (have_all (has_text ms) rs)
    (λ e. counted_all ms rs (sym both ∙ (Decides-eqb (count_among rs ms) (length rs)).0 e))
    (λ e. (Decides-eqb (count_among rs ms) (length rs)).1 (both ∙ all_counted ms rs e))
    ∙ sym (have_all-same has (has_text ms) same rs) ∙ all-sorted_texts has (each required_name is) ∙ all_required has is

-- ---- the fields of an object

gives_each-by : (is : List InputDef) (ms : Members) → gives_by (λ n. has_member n ms) is ≡ gives_each is ms
gives_each-by [] ms = refl
gives_each-by (i ∷ is) ms = ap (λ b. (not (must_be_given i) || has_member i.name ms) && b) (gives_each-by is ms)

pub has_member-names : (ms : List (Text × Val)) (n : Text) → has_member n (members_of ms) ≡ has_text (member_names ms) n
has_member-names [] n = refl
has_member-names (m ∷ ms) n = ap (λ b. bytes_eq m.0 n || b) (has_member-names ms n)

pub object_gives : (is : List InputDef) (ms : List (Text × Val)) (a b : ℕ) → all_differ (member_names ms) ≡ true → a ≡ count_among (required_names is) (member_names ms) → b ≡ length (required_names is)
    → (a == b) ≡ gives_each is (members_of ms)
object_gives is ms a b differ count all =
    (λ k. count k == all k) ∙ count_gives (λ n. has_member n (members_of ms)) is (member_names ms) differ (has_member-names ms) ∙ gives_each-by is (members_of ms)

-- the names of the fields from a place on
abbrev pub names_from : List Argument → ℕ → List Text
names_from items at = member_names (map argument_of (drop at items))

names_next : (items : List Argument) (at : ℕ) (f : Argument) → at < length items → f ≡ get_or items at f → names_from items at ≡ f.name ∷ names_from items (at + 1)
names_next items at f low is =
    ap (λ xs. member_names (map argument_of xs)) (drop-cons items at f low ∙ ap (λ x. x ∷ drop (suc at) items) (sym is)) ∙ ap (λ k. f.name ∷ names_from items k) (sym (add-one at))

differ_from : (items : List Argument) (at : ℕ) → all_differ (member_names (map argument_of items)) ≡ true → all_differ (names_from items at) ≡ true
differ_from items zero e = e
differ_from [] (suc at) e = e
differ_from (f ∷ items) (suc at) e = differ_from items at (and_right (not (has_text (member_names (map argument_of items)) f.name)) (all_differ (member_names (map argument_of items))) e)

-- of fields whose names differ none has the name of one before it
pub stands_once : (items : List Argument) (at : ℕ) (f : Argument) → at < length items → f ≡ get_or items at f → all_differ (member_names (map argument_of items)) ≡ true
    → has_member f.name (members_of (map argument_of (drop (at + 1) items))) ≡ false
stands_once items at f low is e =
    let here : all_differ (f.name ∷ names_from items (at + 1)) ≡ true = sym (ap all_differ (names_next items at f low is)) ∙ differ_from items at e in
    has_member-names (map argument_of (drop (at + 1) items)) f.name
    ∙ is_not (has_text (names_from items (at + 1)) f.name) (and_left (not (has_text (names_from items (at + 1)) f.name)) (all_differ (names_from items (at + 1))) here)

-- one more field is counted
pub count_next : (rs : List Text) (items : List Argument) (at : ℕ) (f : Argument) (old new whole : ℕ) → at < length items → f ≡ get_or items at f → new ≡ old + one_if (has_text rs f.name)
    → (old + count_among rs (names_from items at)) ≡ whole → (new + count_among rs (names_from items (at + 1))) ≡ whole
count_next rs items at f old new whole low is put e =
    let next : count_among rs (names_from items at) ≡ (one_if (has_text rs f.name) + count_among rs (names_from items (at + 1))) = ap (count_among rs) (names_next items at f low is) in
    omega (arith, put, e, next)

-- ---- names from the last to the first

map-drop : {X A : Type 0} (view : X → A) (i : ℕ) (xs : List X) → map view (drop i xs) ≡ drop i (map view xs)
map-drop view zero xs = refl
map-drop view (suc i) [] = refl
map-drop view (suc i) (x ∷ xs) = map-drop view i xs

pub names_before : (items : List Argument) (whole : List (Text × Val)) (k left : ℕ) (f : Argument) (n : Text) → k < length items → f ≡ get_or items k f → map argument_of items ≡ whole
    → left ≡ k + 1 → n ≡ f.name → member_names (drop k whole) ≡ n ∷ member_names (drop left whole)
names_before items whole k left f n low is same next named =
    ap (λ ms. member_names (drop k ms)) (sym same) ∙ ap member_names (sym (map-drop argument_of k items)) ∙ names_next items k f low is
    ∙ ap (λ ns. f.name ∷ ns) (ap member_names (map-drop argument_of (k + 1) items ∙ ap (drop (k + 1)) same) ∙ ap (λ j. member_names (drop j whole)) (sym next))
    ∙ ap (λ m. m ∷ member_names (drop left whole)) (sym named)

pub differ_before : (ns all : List Text) (n : Text) (is_new old new : Bool) → all ≡ n ∷ ns → is_new ≡ not (has_text ns n) → old ≡ all_differ ns → new ≡ (is_new && old) → new ≡ all_differ all
differ_before ns all n is_new old new e w o put = put ∙ (λ k. w k && o k) ∙ sym (ap all_differ e)

pub names_end : (ms : List (Text × Val)) (k : ℕ) → length ms ≤ k → member_names (drop k ms) ≡ []
names_end ms k all = ap member_names (drop_all k ms all)
