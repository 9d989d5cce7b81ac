-- The keys at the root, from those of each selection and of each fragment.
use Rattle.std.proofs.Common.{◌≡◌, Bool, cond, ◌&&◌, ◌||◌, List, [], ◌∷◌, ◌++◌, Option, None, refl, ap, sym, ◌∙◌}
use Rattle.std.proofs.lemmas.List.Folds.{list_any-append}
use Rattle.std.specs.List.{list_any}
use Rattle.doc_sites.specs.gql_ast.SelectionView.{sel_before}
use Rattle.doc_sites.specs.gql_ast.Sels.{Sels}
use Rattle.doc_sites.specs.gql_ast.declared.document.Kind.TheVariants.{Subscription}
use Rattle.doc_sites.specs.gql_ast.declared.selection.Selection.{Selection}
use Rattle.doc_sites.specs.gql_ast.declared.selection.Selection.TheVariants as S
use Rattle.doc_sites.specs.schema_types.FieldRules.{is_one_key, keys_in, keys_of_fragment, many_keys, root_keys, spreads_at_root, subscription_wrong}
use Rattle.doc_sites.specs.gql_graph.Rules.{each}
use Rattle.doc_sites.specs.schema_types.Sites.{FragmentAt, OperationAt}
use Rattle.doc_sites.specs.schema_tables.Types.{Text, Defs, applies, root, same_kind}
use Rattle.doc_sites.specs.gql_ast.declared.document.Kind.{Kind}
use Rattle.doc_sites.specs.gql_ast.declared.document.Kind.TheVariants as K
use Rattle.doc_fields.specs.Heads.{keys_of_name}
use Rattle.doc_fields.specs.Keys.{keys_at, spreads_at, AreReached}
use Rattle.doc_fields.proofs.SameKeys.{named_and_each, same_one_key}

pub keys_law : (defs : Defs) (r : Text) (x : Selection) (t : Sels) → keys_in defs r (sel_before x t) ≡ keys_at defs r x ++ keys_in defs r t
keys_law defs r (S.Field a n xs ds s) t = refl
keys_law defs r (S.Spread n ds) t = refl
keys_law defs r (S.Inline o ds s) t = refl

pub spreads_law : (defs : Defs) (r : Text) (x : Selection) (t : Sels) → spreads_at_root defs r (sel_before x t) ≡ spreads_at defs r x ++ spreads_at_root defs r t
spreads_law defs r (S.Field a n xs ds s) t = refl
spreads_law defs r (S.Spread n ds) t = refl
spreads_law defs r (S.Inline o ds s) t = refl

pub each_alike : {A B : Type 0} (f g : A → List B) → ((a : A) → f a ≡ g a) → (xs : List A) → each f xs ≡ each g xs
each_alike f g h [] = refl
each_alike f g h (x ∷ xs) = λ i. h x i ++ each_alike f g h xs i

-- the keys of the fragments that are reached, by their names
pub one_root_key : (defs : Defs) (fs : List FragmentAt) (r : Text) (s : Sels) (ns : List Text) → AreReached defs fs r (spreads_at_root defs r s) ns
    → is_one_key (keys_in defs r s ++ each (keys_of_name defs r fs) ns) ≡ is_one_key (root_keys defs fs r s)
one_root_key defs fs r s ns same = same_one_key (keys_in defs r s ++ each (keys_of_name defs r fs) ns) (root_keys defs fs r s) (λ p.
    list_any-append p (keys_in defs r s) (each (keys_of_name defs r fs) ns)
    ∙ ap (λ (b : Bool). list_any p (keys_in defs r s) || b)
    (named_and_each (λ (f : FragmentAt). applies defs r f.on.name) (λ (f : FragmentAt). f.name.name) (λ (f : FragmentAt). keys_in defs r f.selections) ns p fs
    ∙ ap (list_any p) (each_alike _ (keys_of_fragment defs fs r s) (λ (f : FragmentAt). ap (λ (b : Bool). cond (applies defs r f.on.name && b) (keys_in defs r f.selections) []) (same f.name.name)) fs))
    ∙ sym (list_any-append p (keys_in defs r s) (each (keys_of_fragment defs fs r s) fs)))

-- without a root type nothing is said of subscriptions
rootless : (defs : Defs) (fs : List FragmentAt) (o : OperationAt) (k : Kind) → root defs Subscription ≡ None → cond (same_kind k Subscription) (many_keys defs fs o.selections (root defs k) o.name) [] ≡ []
rootless defs fs o K.Query e = refl
rootless defs fs o K.Mutation e = refl
rootless defs fs o K.Subscription e = ap (λ (r : Option Text). many_keys defs fs o.selections r o.name) e

pub no_root : (defs : Defs) (fs : List FragmentAt) (os : List OperationAt) → root defs Subscription ≡ None → each (subscription_wrong defs fs) os ≡ []
no_root defs fs [] e = refl
no_root defs fs (o ∷ os) e = ap (λ l. l ++ each (subscription_wrong defs fs) os) (rootless defs fs o o.kind e) ∙ no_root defs fs os e
