-- Whether there is one key depends only on which keys there are.
use Rattle.std.proofs.Common.{◌≡◌, Bool, true, false, true≢false, cond, not, ◌&&◌, ◌||◌, List, [], ◌∷◌, ◌++◌, bytes_eq, refl, ap, sym, ◌∙◌}
use Rattle.std.proofs.lemmas.List.Folds.{list_any-append}
use Rattle.std.specs.List.{list_any, list_all}
use Rattle.doc_sites.specs.gql_plain.Order.{has_text}
use Rattle.doc_sites.specs.schema_types.FieldRules.{Key, is_good_key, is_one_key}
use Rattle.doc_sites.specs.gql_graph.Rules.{each}
use Rattle.doc_sites.specs.gql_graph.Texts.{Text}
use Rattle.doc_sites.proofs.gql_graph_laws.TextSteps.{same_text, same_self}
use Rattle.doc_sites.proofs.gql_plain_laws.Booleans.{or_false, both_ways}

-- two lists have the same keys
abbrev pub HaveSame : List Key → List Key → Type 0
HaveSame ks ls = (p : Key → Bool) → list_any p ks ≡ list_any p ls

all_not : (p : Key → Bool) (ks : List Key) → list_all p ks ≡ not (list_any (λ k. not (p k)) ks)
all_not p [] = refl
all_not p (k ∷ ks) = ap (λ b. p k && b) (all_not p ks) ∙ on (p k) (list_any (λ l. not (p l)) ks)
  where
    on : (a b : Bool) → (a && not b) ≡ not (not a || b)
    on true b = refl
    on false b = refl

same_all : (p : Key → Bool) (ks ls : List Key) → HaveSame ks ls → list_all p ks ≡ list_all p ls
same_all p ks ls h = all_not p ks ∙ ap not (h (λ k. not (p k))) ∙ sym (all_not p ls)

first_of : (a b : Bool) → (a && b) ≡ true → a ≡ true
first_of true b h = refl
first_of false b h = h

-- the key of a good key
good_key : (first : Text) (k : Key) (ks : List Key) → list_all (is_good_key first) (k ∷ ks) ≡ true → k.0 ≡ first
good_key first k ks h =
    let good : is_good_key first k ≡ true = first_of (is_good_key first k) (list_all (is_good_key first) ks) h in
    same_text k.0 first (first_of (bytes_eq k.0 first) _ (first_of _ _ good))

one_way : (ks ls : List Key) → HaveSame ks ls → is_one_key ks ≡ true → is_one_key ls ≡ true
one_way [] ls h e = absurd (true≢false (sym e))
one_way (k ∷ ks) [] h e = absurd (true≢false (h (λ l. true)))
one_way (k ∷ ks) (l ∷ ls) h e =
    let there : list_all (is_good_key k.0) (l ∷ ls) ≡ true = sym (same_all (is_good_key k.0) (k ∷ ks) (l ∷ ls) h) ∙ e in
    ap (λ (t : Text). list_all (is_good_key t) (l ∷ ls)) (good_key k.0 l ls there) ∙ there

pub same_one_key : (ks ls : List Key) → HaveSame ks ls → is_one_key ks ≡ is_one_key ls
same_one_key ks ls h = both_ways (is_one_key ks) (is_one_key ls) (one_way ks ls h) (one_way ls ks (λ p. sym (h p)))

-- ---- the keys of fragments, by their names and one by one

or_self : (a : Bool) → (a || a) ≡ a
or_self true = refl
or_self false = refl

regroup : (a b c d : Bool) → ((a || b) || (c || d)) ≡ ((a || c) || (b || d))
regroup true b c d = refl
regroup false true true d = refl
regroup false true false d = refl
regroup false false c d = refl

pub swapped_text : (m n : Text) → bytes_eq m n ≡ bytes_eq n m
swapped_text m n = both_ways (bytes_eq m n) (bytes_eq n m) (λ h. ap (λ (t : Text). bytes_eq n t) (same_text m n h) ∙ same_self n) (λ h. ap (λ (t : Text). bytes_eq m t) (same_text n m h) ∙ same_self m)

-- two lists of each element
each_two : {A : Type 0} (p : Key → Bool) (f g : A → List Key) (xs : List A) → list_any p (each (λ x. f x ++ g x) xs) ≡ (list_any p (each f xs) || list_any p (each g xs))
each_two p f g [] = refl
each_two p f g (x ∷ xs) =
    list_any-append p (f x ++ g x) (each (λ y. f y ++ g y) xs)
    ∙ (λ i. list_any-append p (f x) (g x) i || each_two p f g xs i)
    ∙ regroup (list_any p (f x)) (list_any p (g x)) (list_any p (each f xs)) (list_any p (each g xs))
    ∙ sym (λ i. list_any-append p (f x) (each f xs) i || list_any-append p (g x) (each g xs) i)

none_of_each : {A B : Type 0} (xs : List A) → each {B = B} (λ x. []) xs ≡ []
none_of_each [] = refl
none_of_each (x ∷ xs) = none_of_each xs

-- the keys of one fragment, where its name is among those that are looked up
one_named : (p : Key → Bool) (takes : Bool) (name : Text) (keys : List Key) (ns : List Text)
    → list_any p (each (λ n. cond (takes && bytes_eq name n) keys []) ns) ≡ list_any p (cond (takes && has_text ns name) keys [])
one_named p false name keys [] = refl
one_named p true name keys [] = refl
one_named p false name keys (n ∷ ns) = one_named p false name keys ns
one_named p true name keys (n ∷ ns) =
    list_any-append p (cond (bytes_eq name n) keys []) (each (λ m. cond (bytes_eq name m) keys []) ns)
    ∙ (λ i. list_any p (cond (swapped_text name n i) keys []) || one_named p true name keys ns i)
    ∙ on (bytes_eq n name) (has_text ns name)
  where
    on : (a b : Bool) → (list_any p (cond a keys []) || list_any p (cond b keys [])) ≡ list_any p (cond (a || b) keys [])
    on true true = or_self (list_any p keys)
    on true false = or_false (list_any p keys)
    on false b = refl

-- the keys of all fragments, looked up by names
pub named_and_each : {F : Type 0} (takes : F → Bool) (name : F → Text) (keys : F → List Key) (ns : List Text) (p : Key → Bool) (fs : List F)
    → list_any p (each (λ n. each (λ f. cond (takes f && bytes_eq (name f) n) (keys f) []) fs) ns) ≡ list_any p (each (λ f. cond (takes f && has_text ns (name f)) (keys f) []) fs)
named_and_each takes name keys ns p [] = ap (list_any p) (none_of_each ns)
named_and_each takes name keys ns p (f ∷ fs) =
    each_two p (λ n. cond (takes f && bytes_eq (name f) n) (keys f) []) (λ n. each (λ g. cond (takes g && bytes_eq (name g) n) (keys g) []) fs) ns
    ∙ (λ i. one_named p (takes f) (name f) (keys f) ns i || named_and_each takes name keys ns p fs i)
    ∙ sym (list_any-append p (cond (takes f && has_text ns (name f)) (keys f) []) (each (λ g. cond (takes g && has_text ns (name g)) (keys g) []) fs))
