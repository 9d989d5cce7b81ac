-- Members of lists that are put in order or lose equal neighbours, of fields, and of the facts of rows.
use Rattle.std.proofs.Common.{◌≡◌, ◌+◌, ◌<◌, ℕ, zero, suc, Bool, true, false, true≢false, cond, ◌&&◌, List, [], ◌∷◌, ◌++◌, length, get_or, drop, map, Option, Some, None, Ordering, Less, Equal, Greater, bytes_eq, is_eq, append_assoc, refl, sym, ap, ◌∙◌, subst, inl, inr, arith}
use Rattle.std.proofs.lemmas.Cmp.{nat_list_cmp_total, on_total}
use Rattle.std.proofs.lemmas.List.{append-nil, at_drop_more}
use Rattle.std.proofs.lemmas.List.Kept.{Contains-dedup, Contains-from_dedup}
use Rattle.std.proofs.lemmas.List.Sorted.{Contains-permutation, IsPermutation-sym}
use Rattle.std.proofs.lemmas.Map.Keys.{sorted_from_all_adjacent}
use Rattle.std.proofs.lemmas.Map.Text.{is_eq-slice_cmp}
use Rattle.std.proofs.lemmas.Slice.Eq.{bytes_eq-Decides}
use Rattle.std.specs.Bool.{Decides}
use Rattle.std.specs.Cmp.{IsTotalOrder, decided}
use Rattle.std.specs.FinMap.Entries.{put as put_entry, by_order}
use Rattle.std.specs.List.{AllByRecursion, Contains, IsAllAdjacentAnswer, dedup}
use Rattle.std.specs.List.Sorted.{IsPermutation, IsStrictlySortedBy}
use Rattle.std.specs.Map.{keys_of}
use Rattle.std.specs.Ordering.{is_lt}
use Rattle.std.specs.Prelude.{◌⊎◌}
use Rattle.gql_order.specs.gql_plain.Order.{AreInOrder, member_at}
use Rattle.gql_order.specs.gql_plain.declared.plain.Plain.TheVariants.{Text as Words}
use Rattle.store_model.specs.store_record.Equal.{fields_eq, fields_eq-Decides}
use Rattle.store_model.specs.store_record.Keys.{Text}
use Rattle.store_model.specs.store_record.declared.field.Field.{Field}
use Rattle.store_model.specs.store_record.declared.field.Field.TheVariants.{Leaf}
use Rattle.store_model.proofs.Least.{Each, each_append}
use Rattle.store_model.proofs.Seated.{among_left, among_map, among_right, each_among, of_among}
use Rattle.store_model.specs.Alike.{Among}
use Rattle.store_model.specs.FactOrder.{text_cmp}
use Rattle.store_model.specs.FactRows.{IsFactRow, fact_at, facts_of, facts_of_row}
use Rattle.store_model.specs.Records.{typename}
use Rattle.store_model.specs.declared.facts.Fact.{Fact}
use Rattle.store_model.specs.declared.facts.FactRow.{FactRow}
use Rattle.store_report.proofs.SameMembers.{among_either, same_append, same_refl, same_sym, same_trans}
use Rattle.store_report.specs.Joining.{row_eq}
use Rattle.store_report.specs.ObjectRows.{HoldSame, object_facts}

-- ---- two words for a member

pub contains_among : {A : Type 0} (x : A) (xs : List A) (k : ℕ) → k < length xs → get_or xs k x ≡ x → Among x xs
contains_among x [] k lt is = absurd (omega arith)
contains_among x (y ∷ xs) zero lt is = inl is
contains_among x (y ∷ xs) (suc k) lt is = inr (contains_among x xs k (omega arith) is)

among_contains : {A : Type 0} (x : A) (xs : List A) → Among x xs → Contains xs x
among_contains x [] h = absurd h
among_contains x (y ∷ xs) (inl e) = (0, omega arith, e)
among_contains x (y ∷ xs) (inr h) = let c = among_contains x xs h in (suc c.0, omega (arith, c.1), c.2)

pub same_moved : {A : Type 0} (xs ys : List A) → IsPermutation xs ys → HoldSame ys xs
same_moved xs ys moved x = (
  λ h. let c = Contains-permutation ys xs x (IsPermutation-sym xs ys moved) (among_contains x ys h) in contains_among x xs c.0 c.1 c.2,
  λ h. let c = Contains-permutation xs ys x moved (among_contains x xs h) in contains_among x ys c.0 c.1 c.2,
)

pub same_dedup : {A : Type 0} (same : A → A → Bool) → ((x y : A) → Decides (same x y) (x ≡ y)) → (xs : List A) → HoldSame (dedup same xs) xs
same_dedup same decides xs x = (
  λ h. let c = Contains-from_dedup same xs x (among_contains x (dedup same xs) h) in contains_among x xs c.0 c.1 c.2,
  λ h. let c = Contains-dedup (decided same decides) (λ a b e. (decides a b).0 e) xs x (among_contains x xs h) in contains_among x (dedup same xs) c.0 c.1 c.2,
)

-- what holds of each of the members
pub each_same : {A : Type 0} (P : A → Type 0) (xs ys : List A) → HoldSame xs ys → Each P ys → Each P xs
each_same P xs ys same all = each_among P xs (λ x h. of_among P x ys all ((same x).0 h))

pub each_weaker : {A : Type 0} (P Q : A → Type 0) → ((x : A) → P x → Q x) → (xs : List A) → Each P xs → Each Q xs
each_weaker P Q f [] all = tt
each_weaker P Q f (x ∷ xs) all = (f x all.0, each_weaker P Q f xs all.1)

-- ---- lists that were found to rise

less_where : (r : Ordering) → true ≡ is_lt r → r ≡ Less
less_where Less e = refl
less_where Equal e = absurd (true≢false e)
less_where Greater e = absurd (true≢false e)

strict_so : {A : Type 0} (cmp : A → A → Ordering) → IsTotalOrder cmp → (xs : List A) → IsAllAdjacentAnswer (λ x y b. b ≡ is_lt (cmp x y)) xs true → IsStrictlySortedBy cmp xs
unfolding IsStrictlySortedBy
strict_so cmp o [] all = tt
strict_so cmp o (x ∷ xs) all = sorted_from_all_adjacent o (x ∷ xs) x (λ k lt. less_where (cmp (get_or (x ∷ xs) k x) (get_or (x ∷ xs) (k + 1) x)) (all k x lt))

pub strict_where : {A : Type 0} (cmp : A → A → Ordering) → IsTotalOrder cmp → (xs : List A) (found : Bool) → IsAllAdjacentAnswer (λ x y b. b ≡ is_lt (cmp x y)) xs found → found ≡ true → IsStrictlySortedBy cmp xs
strict_where cmp o xs found all e = strict_so cmp o xs (subst (IsAllAdjacentAnswer (λ x y b. b ≡ is_lt (cmp x y)) xs) e all)

pub rows_total : IsTotalOrder (λ (a b : FactRow). text_cmp a.id b.id)
rows_total = on_total (λ (r : FactRow). r.id) nat_list_cmp_total

pub fields_total : IsTotalOrder (λ (a b : Text × Field). text_cmp a.0 b.0)
fields_total = on_total (λ (e : Text × Field). e.0) nat_list_cmp_total

below_keys : (key : Text) (es : List (Text × Field)) → AllByRecursion (λ e. text_cmp key e.0 ≡ Less) es → AllByRecursion (λ k. text_cmp key k ≡ Less) (keys_of es)
below_keys key [] all = tt
below_keys key (e ∷ es) all = (all.0, below_keys key es all.1)

keys_strict : (es : List (Text × Field)) → IsStrictlySortedBy (λ a b. text_cmp a.0 b.0) es → AreInOrder (keys_of es)
unfolding IsStrictlySortedBy
keys_strict [] up = tt
keys_strict (e ∷ es) up = (below_keys e.0 es up.0, keys_strict es up.1)

pub keys_rise : (es : List (Text × Field)) (found : Bool) → IsAllAdjacentAnswer (λ x y b. b ≡ is_lt (text_cmp x.0 y.0)) es found → found ≡ true → AreInOrder (keys_of es)
keys_rise es found all e = keys_strict es (strict_where (λ a b. text_cmp a.0 b.0) fields_total es found all e)

-- ---- a key that is not there

pub member_next : (es : List (Text × Field)) (i : ℕ) (e : Text × Field) → i < length es → e ≡ get_or es i e → (key : Text) → bytes_eq e.0 key ≡ false
    → (found : Option Field) → member_at (drop i es) key ≡ found → member_at (drop (i + 1) es) key ≡ found
member_next es i e lt is key other found before =
    let rest = drop (i + 1) es in
    let first : member_at (drop i es) key ≡ member_at (get_or es i e ∷ rest) key = at_drop_more (λ (fs : List (Text × Field)). member_at fs key) es i e lt in
    let past : member_at (e ∷ rest) key ≡ member_at rest key = ap (λ b. cond b (Some e.1) (member_at rest key)) other in
    sym past ∙ ap (λ (x : Text × Field). member_at (x ∷ rest) key) is ∙ sym first ∙ before

abbrev IsOther : Text → Text × Field → Type 0
IsOther key e = bytes_eq e.0 key ≡ false

is_none : (f : Field) → Some f ≡ None → ⊥
is_none f e = subst IsThere e tt
  where
    IsThere : Option Field → Type 0
    IsThere None = ⊥
    IsThere (Some x) = Unit {0}

others_of : (key : Text) (es : List (Text × Field)) → member_at es key ≡ None → Each (IsOther key) es
others_of key [] none = tt
others_of key (e ∷ es) none = at (bytes_eq e.0 key) refl none (others_of key es)
  where
    at : (b : Bool) → bytes_eq e.0 key ≡ b → cond b (Some e.1) (member_at es key) ≡ None → (member_at es key ≡ None → Each (IsOther key) es) → Each (IsOther key) (e ∷ es)
    at true f h rest = absurd (is_none e.1 h)
    at false f h rest = (f, rest h)

none_of : (key : Text) (es : List (Text × Field)) → Each (IsOther key) es → member_at es key ≡ None
none_of key [] all = refl
none_of key (e ∷ es) all = ap (λ b. cond b (Some e.1) (member_at es key)) all.0 ∙ none_of key es all.1

pub apart_same : (xs ys : List (Text × Field)) → HoldSame xs ys → member_at ys typename ≡ None → member_at xs typename ≡ None
apart_same xs ys same none = none_of typename xs (each_same (IsOther typename) xs ys same (others_of typename ys none))

pub apart_append : (xs ys : List (Text × Field)) → member_at xs typename ≡ None → member_at ys typename ≡ None → member_at (xs ++ ys) typename ≡ None
apart_append xs ys none nor = none_of typename (xs ++ ys) (each_append (IsOther typename) xs ys (others_of typename xs none) (others_of typename ys nor))

-- ---- a key that is put among others

pub same_cons : {A : Type 0} (x : A) (xs ys : List A) → HoldSame xs ys → HoldSame (x ∷ xs) (x ∷ ys)
same_cons x xs ys same = same_append (x ∷ []) (x ∷ []) xs ys (same_refl (x ∷ [])) same

first_two : {A : Type 0} (z x y : A) (xs : List A) → Among z (x ∷ y ∷ xs) → Among z (y ∷ x ∷ xs)
first_two z x y xs (inl e) = inr (inl e)
first_two z x y xs (inr (inl e)) = inl e
first_two z x y xs (inr (inr h)) = inr (inr h)

same_two : {A : Type 0} (x y : A) (xs : List A) → HoldSame (x ∷ y ∷ xs) (y ∷ x ∷ xs)
same_two x y xs z = (first_two z x y xs, first_two z y x xs)

not_equal : (key other : Text) → text_cmp key other ≡ Equal → bytes_eq other key ≡ false → ⊥
not_equal key other e differs =
    let same : key ≡ other = (bytes_eq-Decides key other).0 (sym (is_eq-slice_cmp key other) ∙ ap is_eq e) in
    true≢false (sym ((bytes_eq-Decides other key).1 (sym same)) ∙ differs)

same_put : (key : Text) (value : Field) (es : List (Text × Field)) → Each (IsOther key) es → HoldSame (put_entry text_cmp key value es) ((key, value) ∷ es)
same_put key value [] all = same_refl ((key, value) ∷ [])
same_put key value (e ∷ es) all = at (text_cmp key e.0) refl (same_put key value es all.1)
  where
    at : (o : Ordering) → text_cmp key e.0 ≡ o → HoldSame (put_entry text_cmp key value es) ((key, value) ∷ es)
        → HoldSame (by_order o ((key, value) ∷ e ∷ es) ((e.0, value) ∷ es) (e ∷ put_entry text_cmp key value es)) ((key, value) ∷ e ∷ es)
    at Less f rest = same_refl ((key, value) ∷ e ∷ es)
    at Equal f rest = absurd (not_equal key e.0 f all.0)
    at Greater f rest =
        same_trans (e ∷ put_entry text_cmp key value es) (e ∷ (key, value) ∷ es) ((key, value) ∷ e ∷ es)
        (same_cons e (put_entry text_cmp key value es) ((key, value) ∷ es) rest) (same_two e (key, value) es)

-- ---- what is seen of members

pub among_from : {A B : Type 0} (f : A → B) (y : B) (xs : List A) (G : Type 0) → ((x : A) → Among x xs → f x ≡ y → G) → Among y (map f xs) → G
among_from f y [] G found h = absurd h
among_from f y (x ∷ xs) G found (inl e) = found x (inl refl) e
among_from f y (x ∷ xs) G found (inr h) = among_from f y xs G (λ z there e. found z (inr there) e) h

map_there : {A B : Type 0} (f : A → B) (y : B) (xs ys : List A) → ((x : A) → Among x xs → Among x ys) → Among y (map f xs) → Among y (map f ys)
map_there f y xs ys there h = among_from f y xs (Among y (map f ys)) (λ x in' e. subst (λ z. Among z (map f ys)) e (among_map f x ys (there x in'))) h

pub same_map : {A B : Type 0} (f : A → B) (xs ys : List A) → HoldSame xs ys → HoldSame (map f xs) (map f ys)
same_map f xs ys same y = (map_there f y xs ys (λ x. (same x).0), map_there f y ys xs (λ x. (same x).1))

map_append : {A B : Type 0} (f : A → B) (xs ys : List A) → map f (xs ++ ys) ≡ map f xs ++ map f ys
map_append f [] ys = refl
map_append f (x ∷ xs) ys = ap (λ zs. f x ∷ zs) (map_append f xs ys)

-- ---- the facts of a row

pub same_row : (r : FactRow) → IsFactRow r → HoldSame (facts_of_row r) (object_facts r.id r.type_name r.fields)
same_row r is =
    let name = Leaf (Words r.type_name) in
    same_map (fact_at r.id) (put_entry text_cmp typename name r.fields) ((typename, name) ∷ r.fields) (same_put typename name r.fields (others_of typename r.fields is.apart))

pub same_object : (id name : Text) (xs ys : List (Text × Field)) → HoldSame xs ys → HoldSame (object_facts id name xs) (object_facts id name ys)
same_object id name xs ys same =
    same_map (fact_at id) ((typename, Leaf (Words name)) ∷ xs) ((typename, Leaf (Words name)) ∷ ys) (same_cons (typename, Leaf (Words name)) xs ys same)

-- what is said twice is there
said_once : {A : Type 0} (z x : A) (xs ys : List A) → Among z xs ⊎ Among z (x ∷ ys) → Among x xs → Among z (xs ++ ys)
said_once z x xs ys (inl h) there = among_left z xs ys h
said_once z x xs ys (inr (inl e)) there = subst (λ w. Among w (xs ++ ys)) e (among_left x xs ys there)
said_once z x xs ys (inr (inr h)) there = among_right z xs ys h

said_twice : {A : Type 0} (z x : A) (xs ys : List A) → Among z xs ⊎ Among z ys → Among z (xs ++ (x ∷ ys))
said_twice z x xs ys (inl h) = among_left z xs (x ∷ ys) h
said_twice z x xs ys (inr h) = among_right z xs (x ∷ ys) (inr h)

same_twice : {A : Type 0} (x : A) (xs ys : List A) → Among x xs → HoldSame (xs ++ ys) (xs ++ (x ∷ ys))
same_twice x xs ys there z = (λ h. said_twice z x xs ys (among_either z xs ys h), λ h. said_once z x xs ys (among_either z xs (x ∷ ys) h) there)

-- the fields of a row behind those of another of the same id and type
more_fields : (r : FactRow) (xs : List (Text × Field)) → IsFactRow r → HoldSame (object_facts r.id r.type_name (xs ++ r.fields)) (object_facts r.id r.type_name xs ++ facts_of_row r)
more_fields r xs is =
    let before = object_facts r.id r.type_name xs in
    let name = fact_at r.id (typename, Leaf (Words r.type_name)) in
    let own = map (fact_at r.id) r.fields in
    subst (λ fs. HoldSame (name ∷ fs) (before ++ facts_of_row r)) (sym (map_append (fact_at r.id) xs r.fields))
    (same_trans (before ++ own) (before ++ (name ∷ own)) (before ++ facts_of_row r)
    (same_twice name before own (inl refl))
    (same_append before before (name ∷ own) (facts_of_row r) (same_refl before) (same_sym (facts_of_row r) (name ∷ own) (same_row r is))))

pub joined_fields : (id name : Text) (xs : List (Text × Field)) (r : FactRow) → id ≡ r.id → name ≡ r.type_name → IsFactRow r
    → HoldSame (object_facts id name (xs ++ r.fields)) (object_facts id name xs ++ facts_of_row r)
joined_fields id name xs r same_id same_name is =
    subst (λ k. HoldSame (object_facts k name (xs ++ r.fields)) (object_facts k name xs ++ facts_of_row r)) (sym same_id)
    (subst (λ n. HoldSame (object_facts r.id n (xs ++ r.fields)) (object_facts r.id n xs ++ facts_of_row r)) (sym same_name) (more_fields r xs is))

-- ---- the facts of rows

pub facts_append : (xs ys : List FactRow) → facts_of (xs ++ ys) ≡ facts_of xs ++ facts_of ys
facts_append [] ys = refl
facts_append (r ∷ rs) ys = ap (λ fs. facts_of_row r ++ fs) (facts_append rs ys) ∙ sym (append_assoc (facts_of_row r) (facts_of rs) (facts_of ys))

pub facts_push : (rows : List FactRow) (r : FactRow) → facts_of (rows ++ r ∷ []) ≡ facts_of rows ++ facts_of_row r
facts_push rows r = facts_append rows (r ∷ []) ∙ ap (λ fs. facts_of rows ++ fs) (append-nil (facts_of_row r))

-- a row of which the fields are known by their members
pub row_pushed : (rows : List FactRow) (r : FactRow) (given : List (Text × Field)) → IsFactRow r → HoldSame r.fields given
    → HoldSame (facts_of (rows ++ r ∷ [])) (facts_of rows ++ object_facts r.id r.type_name given)
row_pushed rows r given is same =
    subst (λ fs. HoldSame fs (facts_of rows ++ object_facts r.id r.type_name given)) (sym (facts_push rows r))
    (same_append (facts_of rows) (facts_of rows) (facts_of_row r) (object_facts r.id r.type_name given) (same_refl (facts_of rows))
    (same_trans (facts_of_row r) (object_facts r.id r.type_name r.fields) (object_facts r.id r.type_name given) (same_row r is) (same_object r.id r.type_name r.fields given same)))

facts_there : (f : Fact) (r : FactRow) (rows : List FactRow) → Among r rows → Among f (facts_of_row r) → Among f (facts_of rows)
facts_there f r [] h in' = absurd h
facts_there f r (s ∷ rows) (inl e) in' = among_left f (facts_of_row s) (facts_of rows) (subst (λ t. Among f (facts_of_row t)) (sym e) in')
facts_there f r (s ∷ rows) (inr h) in' = among_right f (facts_of_row s) (facts_of rows) (facts_there f r rows h in')

facts_from : (f : Fact) (rows all : List FactRow) → ((r : FactRow) → Among r rows → Among r all) → Among f (facts_of rows) → Among f (facts_of all)
facts_from f [] all there h = absurd h
facts_from f (r ∷ rows) all there h = at (among_either f (facts_of_row r) (facts_of rows) h) (facts_from f rows all (λ s in'. there s (inr in')))
  where
    at : Among f (facts_of_row r) ⊎ Among f (facts_of rows) → (Among f (facts_of rows) → Among f (facts_of all)) → Among f (facts_of all)
    at (inl k) rest = facts_there f r all (there r (inl refl)) k
    at (inr k) rest = rest k

pub same_facts : (rs ss : List FactRow) → HoldSame rs ss → HoldSame (facts_of rs) (facts_of ss)
same_facts rs ss same f = (facts_from f rs ss (λ r. (same r).0), facts_from f ss rs (λ r. (same r).1))

-- ---- equal rows

row_eq-sound : (a b : FactRow) → row_eq a b ≡ true → a ≡ b
row_eq-sound a b h =
    let id = (bytes_eq-Decides a.id b.id).0 (first (bytes_eq a.id b.id) (bytes_eq a.type_name b.type_name) (first (bytes_eq a.id b.id && bytes_eq a.type_name b.type_name) (fields_eq a.fields b.fields) h)) in
    let name = (bytes_eq-Decides a.type_name b.type_name).0 (second (bytes_eq a.id b.id) (bytes_eq a.type_name b.type_name) (first (bytes_eq a.id b.id && bytes_eq a.type_name b.type_name) (fields_eq a.fields b.fields) h)) in
    let fields = (fields_eq-Decides a.fields b.fields).0 (second (bytes_eq a.id b.id && bytes_eq a.type_name b.type_name) (fields_eq a.fields b.fields) h) in
    (λ i. record { id = id i; type_name = name i; fields = fields i })
  where
    first : (p q : Bool) → (p && q) ≡ true → p ≡ true
    first true q e = refl
    first false q e = e

    second : (p q : Bool) → (p && q) ≡ true → q ≡ true
    second true q e = e
    second false q e = absurd (true≢false (sym e))

row_eq-itself : (a : FactRow) → row_eq a a ≡ true
row_eq-itself a = λ i. (bytes_eq-Decides a.id a.id).1 refl i && (bytes_eq-Decides a.type_name a.type_name).1 refl i && (fields_eq-Decides a.fields a.fields).1 refl i

pub row_eq-Decides : (a b : FactRow) → Decides (row_eq a b) (a ≡ b)
row_eq-Decides a b = (row_eq-sound a b, λ p. subst (λ c. row_eq a c ≡ true) p (row_eq-itself a))
