-- Whether two types have a possible type in common: the possible types of either tell it.
use Rattle.std.proofs.Common.{◌≡◌, Bool, true, false, true≢false, cond, ◌||◌, List, [], ◌∷◌, bytes_eq, refl, ap, sym, ◌∙◌}
use Rattle.std.specs.List.{filter, filter_map, list_any}
use Rattle.doc_sites.proofs.gql_plain_laws.Booleans.{both_ways, or_true}
use Rattle.doc_sites.specs.gql_plain.Order.{has_text, sorted_texts}
use Rattle.doc_sites.proofs.gql_plain_laws.SortedTexts.{has_text-sorted_texts}
use Rattle.doc_sites.specs.schema_tables.Types.{Text, Defs, applies, object_name, possible}
use Rattle.doc_sites.proofs.gql_graph_laws.TextSteps.{same_text, either_of, some_of}

-- some text passes
has_some : (p : Text → Bool) (ns : List Text) (m : Text) → has_text ns m ≡ true → p m ≡ true → list_any p ns ≡ true
has_some p [] m h e = absurd (true≢false (sym h))
has_some p (n ∷ ns) m h e = either_of (bytes_eq n m) (has_text ns m) h
    (λ g. ap (λ b. b || list_any p ns) (ap p (same_text n m g) ∙ e))
    (λ g. ap (λ b. p n || b) (has_some p ns m g e) ∙ or_true (p n))

-- a text that is left is one of all, and passes
filter_has : {P : Type 0} (q : Text → Bool) (ns : List Text) (m : Text) → has_text (filter q ns) m ≡ true → (has_text ns m ≡ true → q m ≡ true → P) → P
filter_has q [] m h f = absurd (true≢false (sym h))
filter_has {P = P} q (n ∷ ns) m h f = on (q n) refl h (λ g. filter_has {P = P} q ns m g (λ k e. f (ap (λ b. bytes_eq n m || b) k ∙ or_true (bytes_eq n m)) e))
  where
    on : (b : Bool) → q n ≡ b → has_text (cond b (n ∷ filter q ns) (filter q ns)) m ≡ true → (has_text (filter q ns) m ≡ true → P) → P
    on true e k rest = either_of (bytes_eq n m) (has_text (filter q ns) m) k
        (λ g. f (ap (λ b. b || has_text ns m) g) (ap q (sym (same_text n m g)) ∙ e))
        rest
    on false e k rest = rest k

-- a text that passes is left
left_by : (q : Text → Bool) (ns : List Text) (m : Text) → has_text ns m ≡ true → q m ≡ true → has_text (filter q ns) m ≡ true
left_by q [] m h e = h
left_by q (n ∷ ns) m h e = either_of (bytes_eq n m) (has_text ns m) h
    (λ g. ap (λ b. has_text (cond b (n ∷ filter q ns) (filter q ns)) m) (ap q (same_text n m g) ∙ e) ∙ ap (λ b. b || has_text (filter q ns) m) g)
    (λ g. further (q n) (left_by q ns m g e))
  where
    further : (b : Bool) → has_text (filter q ns) m ≡ true → has_text (cond b (n ∷ filter q ns) (filter q ns)) m ≡ true
    further true k = ap (λ b. bytes_eq n m || b) k ∙ or_true (bytes_eq n m)
    further false k = k

one_way : (p q : Text → Bool) (ns : List Text) → list_any p (sorted_texts (filter q ns)) ≡ true → list_any q (sorted_texts (filter p ns)) ≡ true
one_way p q ns h = some_of p (sorted_texts (filter q ns)) h (λ m k e. filter_has q ns m (sym (has_text-sorted_texts (filter q ns) m) ∙ k)
    (λ i g. has_some q (sorted_texts (filter p ns)) m (has_text-sorted_texts (filter p ns) m ∙ left_by p ns m i e) g))

either_list : (p q : Text → Bool) (ns : List Text) → list_any p (sorted_texts (filter q ns)) ≡ list_any q (sorted_texts (filter p ns))
either_list p q ns = both_ways (list_any p (sorted_texts (filter q ns))) (list_any q (sorted_texts (filter p ns))) (one_way p q ns) (one_way q p ns)

-- whether a possible type of one is one of the other
pub common_either : (defs : Defs) (of on : Text) → list_any (λ object. applies defs object on) (possible defs of) ≡ list_any (λ object. applies defs object of) (possible defs on)
common_either defs of on = either_list (λ object. applies defs object on) (λ object. applies defs object of) (filter_map object_name defs)
