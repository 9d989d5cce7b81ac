-- The keys of names and of those that they lead to.
use Rattle.std.proofs.Common.{◌≡◌, ℕ, zero, suc, ◌≤◌, Bool, true, false, cond, ◌||◌, List, [], ◌∷◌, Option, Some, None, option_map, bytes_eq, refl, ap, sym, subst, ◌∙◌, arith}
use Rattle.std.proofs.lemmas.List.{append-nil}
use Rattle.std.specs.List.{list_any}
use Rattle.doc_sites.specs.gql_plain.Order.{has_text}
use Rattle.doc_sites.specs.schema_types.NameRules.{fragment_named}
use Rattle.doc_sites.specs.gql_graph.Reached.{leads, any_leads}
use Rattle.doc_sites.specs.gql_graph.Rules.{each}
use Rattle.doc_sites.specs.schema_types.Sites.{FragmentAt}
use Rattle.doc_sites.specs.schema_tables.Types.{Text, Defs}
use Rattle.doc_sites.proofs.gql_graph_laws.LeastSteps.{each-append}
use Rattle.doc_sites.proofs.gql_graph_laws.TextSteps.{same_text}
use Rattle.doc_sites.proofs.gql_plain_laws.Booleans.{or_false}
use Rattle.doc_sites.proofs.gql_graph_laws.Listing.{has_either}
use Rattle.doc_sites.specs.schema_types.FieldRules.{Key, spreads_below}
use Rattle.doc_fields.specs.Fragments.{next_or_none, spreads_in, spreads_of}
use Rattle.doc_fields.specs.Heads.{all_of, below, kept_below, IsKnown, AreKnown, AreBelow}
use Rattle.doc_fields.specs.Keys.{Sum, join_sums, keys_view, next_at_root, sum_of}
use Rattle.doc_fields.specs.declared.below.KeysBelow.{KeysBelow}
use Rattle.doc_fields.specs.declared.keys.RootKeys.{RootKeys}
use Rattle.doc_fields.proofs.Sums.{sum-append}

-- ---- the names that a name leads to

abbrev pub names_below : (next : Text → List Text) → (steps : ℕ) → Text → List Text
names_below next zero n = n ∷ []
names_below next (suc k) n = n ∷ each (names_below next k) (next n)

each_has : (f : Text → List Text) (p : Text → Bool) (to : Text) → ((n : Text) → has_text (f n) to ≡ p n) → (ns : List Text) → has_text (each f ns) to ≡ list_any p ns
each_has f p to h [] = refl
each_has f p to h (n ∷ ns) = has_either (f n) (each f ns) to ∙ (λ i. h n i || each_has f p to h ns i)

names_lead : (next : Text → List Text) (k : ℕ) (n to : Text) → has_text (names_below next k n) to ≡ leads next k n to
names_lead next zero n to = or_false (bytes_eq n to)
names_lead next (suc k) n to = ap (λ (b : Bool). bytes_eq n to || b) (each_has (names_below next k) (λ m. leads next k m to) to (λ m. names_lead next k m to) (next n))

pub all_reached : (next : Text → List Text) (k : ℕ) (starts : List Text) (to : Text) → has_text (each (names_below next k) starts) to ≡ any_leads next k starts to
all_reached next k starts to = each_has (names_below next k) (λ m. leads next k m to) to (λ m. names_lead next k m to) starts

-- ---- their keys

each_below : (keys : Text → List Key) (f : Text → Sum) (g : Text → List Text) → ((n : Text) → f n ≡ sum_of (each keys (g n))) → (ns : List Text) → all_of f ns ≡ sum_of (each keys (each g ns))
each_below keys f g h [] = refl
each_below keys f g h (n ∷ ns) =
    (λ i. join_sums (h n i) (each_below keys f g h ns i))
    ∙ sym (sum-append (each keys (g n)) (each keys (each g ns))) ∙ ap sum_of (sym (each-append keys (g n) (each g ns)))

below_is : (next : Text → List Text) (keys : Text → List Key) (k : ℕ) (n : Text) → below next (λ m. sum_of (keys m)) k n ≡ sum_of (each keys (names_below next k n))
below_is next keys zero n = ap sum_of (sym (append-nil (keys n)))
below_is next keys (suc k) n =
    ap (λ (s : Sum). join_sums (sum_of (keys n)) s) (each_below keys (below next (λ m. sum_of (keys m)) k) (names_below next k) (below_is next keys k) (next n))
    ∙ sym (sum-append (keys n) (each keys (each (names_below next k) (next n))))

pub all_below : (next : Text → List Text) (keys : Text → List Key) (k : ℕ) (starts : List Text) → all_of (below next (λ m. sum_of (keys m)) k) starts ≡ sum_of (each keys (each (names_below next k) starts))
all_below next keys k starts = each_below keys (below next (λ m. sum_of (keys m)) k) (names_below next k) (below_is next keys k) starts

-- ---- what is known

pub known_some : (o : Option RootKeys) (keys : RootKeys) (s : Sum) → o ≡ Some keys → IsKnown (option_map keys_view o) s → keys_view keys ≡ s
known_some o keys s e h = subst (λ (p : Option RootKeys). IsKnown (option_map keys_view p) s) e h

pub known_kept : (o p : Option Sum) (s : Sum) → p ≡ o → IsKnown o s → IsKnown p s
known_kept o p s e h = subst (λ (q : Option Sum). IsKnown q s) (sym e) h

-- one more is known
pub known_put : (b : Bool) (new s : Sum) (old : Option Sum) → (b ≡ true → new ≡ s) → IsKnown old s → IsKnown (cond b (Some new) old) s
known_put true new s old f h = f refl
known_put false new s old f h = h

-- nothing is known
pub none_known : (b : KeysBelow) (f : Text → Sum) → ((n : Text) → kept_below b n ≡ None) → AreKnown b f
none_known b f e = λ n. known_kept None (kept_below b n) (f n) (e n) tt

-- more steps are wanted
pub below_more : (next : Text → List Text) (own : Text → Sum) (least more : ℕ) (b : KeysBelow) → least ≤ more → AreBelow next own least b → AreBelow next own more b
below_more next own least more b l h = λ k m. h k (omega (arith, l, m))

-- one more name, with those that it leads to
pub below_put : (next : Text → List Text) (own : Text → Sum) (least : ℕ) (old new : KeysBelow) (name : Text) (keys all : Sum)
    → AreBelow next own least old → ((n : Text) → kept_below new n ≡ cond (bytes_eq name n) (Some keys) (kept_below old n))
    → ((f : Text → Sum) → AreKnown old f → all ≡ all_of f (next name)) → keys ≡ join_sums (own name) all → AreBelow next own (suc least) new
below_put next own least old new name keys all h put found e zero m = absurd (omega (arith, m))
below_put next own least old new name keys all h put found e (suc k) m = λ n.
    known_kept (cond (bytes_eq name n) (Some keys) (kept_below old n)) (kept_below new n) (below next own (suc k) n) (put n)
    (known_put (bytes_eq name n) keys (below next own (suc k) n) (kept_below old n)
    (λ g. e ∙ ap (λ (s : Sum). join_sums (own name) s) (found (below next own k) (h k (omega (arith, m)))) ∙ ap (below next own (suc k)) (same_text name n g))
    (h (suc k) (omega (arith, m)) n))

-- what fragments spread at the root
pub spreads_at_once : (defs : Defs) (root : Text) (fs : List FragmentAt) (n : Text) → spreads_of defs root fs n ≡ next_at_root defs root fs n
spreads_at_once defs root fs n = on (fragment_named fs n) where
  on : (o : Option FragmentAt) → next_or_none (spreads_in defs root) o ≡ spreads_below defs root o
  on None = refl
  on (Some f) = refl
