-- Which keys there are, part by part.
use Rattle.std.proofs.Common.{◌≡◌, ℕ, ◌+◌, ◌<◌, ◌≤◌, Bool, true, false, not, cond, ◌&&◌, ◌||◌, List, [], ◌∷◌, ◌++◌, map, drop, length, get_or, add-one, bytes_eq, refl, ap, sym, ◌∙◌}
use Rattle.std.proofs.Math.Seq.{drop-cons}
use Rattle.std.proofs.lemmas.List.{drop_all}
use Rattle.std.specs.List.{list_all}
use Rattle.doc_sites.specs.gql_ast.SelectionView.{sel_before, sels_of}
use Rattle.doc_sites.specs.gql_ast.Sels.{Sels}
use Rattle.doc_sites.specs.gql_ast.declared.selection.Selection.{Selection}
use Rattle.doc_sites.specs.schema_types.FieldRules.{Key, is_good_key, is_one_key, keys_in}
use Rattle.doc_sites.specs.gql_graph.Rules.{each}
use Rattle.doc_sites.specs.schema_types.Sites.{typename}
use Rattle.doc_sites.specs.schema_tables.Types.{Text, Defs}
use Rattle.doc_sites.proofs.gql_graph_laws.TextSteps.{same_text, same_self}
use Rattle.doc_fields.specs.Heads.{all_of}
use Rattle.doc_fields.specs.Keys.{Sum, no_key, one_key, bad_keys, and_one, join_sums, key_sum, keys_at, sum_of, is_one}
use Rattle.doc_fields.proofs.RootKeys.{keys_law}
use Rattle.doc_fields.proofs.SameKeys.{swapped_text}

pub joined-none : (s : Sum) → join_sums s no_key ≡ s
joined-none no_key = refl
joined-none (one_key k) = refl
joined-none bad_keys = refl

bad_last : (b : Bool) (k : Text) → join_sums (cond b (one_key k) bad_keys) bad_keys ≡ bad_keys
bad_last true k = refl
bad_last false k = refl

same_two : (k l : Text) (c : Bool) → bytes_eq k l ≡ true → cond c (one_key k) bad_keys ≡ and_one k (cond c (one_key l) bad_keys)
same_two k l true e = sym (ap (λ (b : Bool). cond b (one_key k) bad_keys) e)
same_two k l false e = refl

other_two : (k l : Text) (c : Bool) → bytes_eq k l ≡ false → bad_keys ≡ and_one k (cond c (one_key l) bad_keys)
other_two k l true e = sym (ap (λ (b : Bool). cond b (one_key k) bad_keys) e)
other_two k l false e = refl

three : (k l m : Text) → join_sums (cond (bytes_eq k l) (one_key k) bad_keys) (one_key m) ≡ and_one k (cond (bytes_eq l m) (one_key l) bad_keys)
three k l m = on (bytes_eq k l) refl where
  on : (b : Bool) → bytes_eq k l ≡ b → join_sums (cond b (one_key k) bad_keys) (one_key m) ≡ and_one k (cond (bytes_eq l m) (one_key l) bad_keys)
  on true e = ap (λ (t : Text). cond (bytes_eq t m) (one_key k) bad_keys) (same_text k l e) ∙ same_two k l (bytes_eq l m) e
  on false e = other_two k l (bytes_eq l m) e

pub joined-assoc : (a b c : Sum) → join_sums (join_sums a b) c ≡ join_sums a (join_sums b c)
joined-assoc no_key b c = refl
joined-assoc bad_keys b c = refl
joined-assoc (one_key k) no_key c = refl
joined-assoc (one_key k) bad_keys c = refl
joined-assoc (one_key k) (one_key l) no_key = joined-none (cond (bytes_eq k l) (one_key k) bad_keys)
joined-assoc (one_key k) (one_key l) (one_key m) = three k l m
joined-assoc (one_key k) (one_key l) bad_keys = bad_last (bytes_eq k l) k

pub sum-append : (a b : List Key) → sum_of (a ++ b) ≡ join_sums (sum_of a) (sum_of b)
sum-append [] b = refl
sum-append (k ∷ a) b = ap (λ (s : Sum). join_sums (key_sum k) s) (sum-append a b) ∙ sym (joined-assoc (key_sum k) (sum_of a) (sum_of b))

-- ---- whether there is one

first_false : (a u r : Bool) → false ≡ (((a && false) && u) && r)
first_false true u r = refl
first_false false u r = refl

last_false : (a r : Bool) → false ≡ (((a && true) && false) && r)
last_false true r = refl
last_false false r = refl

one_more : (k : Text) (s : Sum) (r : Bool) → is_one (and_one k s) ≡ r → (b : Bool) → is_one (join_sums (cond b (one_key k) bad_keys) s) ≡ (((b && true) && true) && r)
one_more k s r e true = e
one_more k s r e false = refl

one_and_rest : (k : Text) (ks : List Key) → is_one (and_one k (sum_of ks)) ≡ list_all (is_good_key k) ks
one_and_rest k [] = refl
one_and_rest k (x ∷ ks) = on (bytes_eq x.0 typename) (bytes_eq x.1 typename) (one_and_rest k ks)
  where
    on : (t u : Bool) → is_one (and_one k (sum_of ks)) ≡ list_all (is_good_key k) ks
        → is_one (and_one k (join_sums (cond (t || u) bad_keys (one_key x.0)) (sum_of ks))) ≡ (((bytes_eq x.0 k && not t) && not u) && list_all (is_good_key k) ks)
    on true u e = first_false (bytes_eq x.0 k) (not u) (list_all (is_good_key k) ks)
    on false true e = last_false (bytes_eq x.0 k) (list_all (is_good_key k) ks)
    on false false e =
        ap is_one (sym (joined-assoc (one_key k) (one_key x.0) (sum_of ks)))
        ∙ one_more k (sum_of ks) (list_all (is_good_key k) ks) e (bytes_eq k x.0)
        ∙ ap (λ (b : Bool). ((b && true) && true) && list_all (is_good_key k) ks) (swapped_text k x.0)

pub is_one_sum : (ks : List Key) → is_one (sum_of ks) ≡ is_one_key ks
is_one_sum [] = refl
is_one_sum (k ∷ ks) = on (bytes_eq k.0 typename) (bytes_eq k.1 typename)
  where
    on : (t u : Bool) → is_one (join_sums (cond (t || u) bad_keys (one_key k.0)) (sum_of ks)) ≡ (((bytes_eq k.0 k.0 && not t) && not u) && list_all (is_good_key k.0) ks)
    on true u = first_false (bytes_eq k.0 k.0) (not u) (list_all (is_good_key k.0) ks)
    on false true = last_false (bytes_eq k.0 k.0) (list_all (is_good_key k.0) ks)
    on false false = one_and_rest k.0 ks ∙ sym (ap (λ (b : Bool). ((b && true) && true) && list_all (is_good_key k.0) ks) (same_self k.0))

-- ---- over all elements

pub each_sum : {A : Type 0} (f : A → List Key) (xs : List A) → all_of (λ x. sum_of (f x)) xs ≡ sum_of (each f xs)
each_sum f [] = refl
each_sum f (x ∷ xs) = ap (λ (s : Sum). join_sums (sum_of (f x)) s) (each_sum f xs) ∙ sym (sum-append (f x) (each f xs))

pub all_alike : {A : Type 0} (f g : A → Sum) → ((a : A) → f a ≡ g a) → (xs : List A) → all_of f xs ≡ all_of g xs
all_alike f g h [] = refl
all_alike f g h (x ∷ xs) = λ i. join_sums (h x i) (all_alike f g h xs i)

-- one more element
pub joined_next : {X A : Type 0} (view : X → A) (f : A → Sum) (xs : List X) (i : ℕ) (x : X) (old new whole : Sum) → i < length xs → x ≡ get_or xs i x
    → new ≡ join_sums old (f (view x)) → join_sums old (all_of f (map view (drop i xs))) ≡ whole → join_sums new (all_of f (map view (drop (i + 1) xs))) ≡ whole
joined_next {X = X} view f xs i x old new whole h is e w =
    let rest : Sum = all_of f (map view (drop (i + 1) xs)) in
    let same : drop i xs ≡ get_or xs i x ∷ drop (i + 1) xs = rw add-one (drop-cons xs i x h) in
    ap (λ (s : Sum). join_sums s rest) e ∙ joined-assoc old (f (view x)) rest ∙ ap (λ (y : X). join_sums old (join_sums (f (view y)) rest)) is
    ∙ sym (ap (λ (ys : List X). join_sums old (all_of f (map view ys))) same) ∙ w

-- all elements
pub joined_end : {X A : Type 0} (view : X → A) (f : A → Sum) (xs : List X) (i : ℕ) (old whole : Sum) → length xs ≤ i → join_sums old (all_of f (map view (drop i xs))) ≡ whole → old ≡ whole
joined_end {X = X} view f xs i old whole h w = sym (joined-none old) ∙ sym (ap (λ (ys : List X). join_sums old (all_of f (map view ys))) (drop_all i xs h)) ∙ w

-- one more selection of a set
pub keys_next : (defs : Defs) (root : Text) (xs : List Selection) (i : ℕ) (x : Selection) (old new whole : Sum) → i < length xs → x ≡ get_or xs i x
    → new ≡ join_sums old (sum_of (keys_at defs root x)) → join_sums old (sum_of (keys_in defs root (sels_of (drop i xs)))) ≡ whole → join_sums new (sum_of (keys_in defs root (sels_of (drop (i + 1) xs)))) ≡ whole
keys_next defs root xs i x old new whole h is e w =
    let rest : Sels = sels_of (drop (i + 1) xs) in
    let same : drop i xs ≡ get_or xs i x ∷ drop (i + 1) xs = rw add-one (drop-cons xs i x h) in
    ap (λ (s : Sum). join_sums s (sum_of (keys_in defs root rest))) e ∙ joined-assoc old (sum_of (keys_at defs root x)) (sum_of (keys_in defs root rest))
    ∙ ap (λ (s : Sum). join_sums old s) (sym (sum-append (keys_at defs root x) (keys_in defs root rest)) ∙ ap sum_of (sym (keys_law defs root x rest)))
    ∙ ap (λ (y : Selection). join_sums old (sum_of (keys_in defs root (sel_before y rest)))) is
    ∙ sym (ap (λ (ys : List Selection). join_sums old (sum_of (keys_in defs root (sels_of ys)))) same) ∙ w

-- all selections of a set
pub keys_end : (defs : Defs) (root : Text) (xs : List Selection) (i : ℕ) (old whole : Sum) → length xs ≤ i → join_sums old (sum_of (keys_in defs root (sels_of (drop i xs)))) ≡ whole → old ≡ whole
keys_end defs root xs i old whole h w = sym (joined-none old) ∙ sym (ap (λ (ys : List Selection). join_sums old (sum_of (keys_in defs root (sels_of ys)))) (drop_all i xs h)) ∙ w
