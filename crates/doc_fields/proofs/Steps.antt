-- Steps over the fragments, operations and selections of documents.
use Rattle.std.proofs.Common.{◌≡◌, ℕ, ◌+◌, ◌<◌, ◌≤◌, Bool, true, false, cond, List, [], ◌∷◌, ◌++◌, append_assoc, map, drop, length, get_or, add-one, Option, Some, None, option_copied, unwrap_or, bytes_eq, refl, ap, sym, subst, ◌∙◌}
use Rattle.std.proofs.Math.Seq.{drop-cons}
use Rattle.std.proofs.lemmas.List.{append-nil, drop_all}
use Rattle.std.specs.List.{slice_get}
use Rattle.doc_sites.specs.gql_ast.SelectionView.{sel_before, sels_of}
use Rattle.doc_sites.specs.gql_ast.Sels.{Sels}
use Rattle.doc_sites.specs.gql_ast.declared.selection.Selection.{Selection}
use Rattle.doc_sites.specs.schema_types.FieldRules.{condition_of_fragment}
use Rattle.doc_sites.specs.gql_graph.Graphs.{Holds, first_next, next_in}
use Rattle.doc_sites.specs.schema_types.NameRules.{fragments, fragment_named}
use Rattle.doc_sites.specs.gql_graph.Rules.{each}
use Rattle.doc_sites.specs.schema_types.Sites.{FragmentAt, DefinitionAt}
use Rattle.doc_sites.specs.gql_graph.Texts.{Text}
use Rattle.doc_sites.specs.gql_graph.declared.graph.Graph.{Graph}
use Rattle.doc_sites.proofs.DefinitionSteps.{over_fragments}
use Rattle.doc_sites.proofs.ListSteps.{collect_next}
use Rattle.doc_sites.specs.Definitions.{on_fragment}
use Rattle.doc_fields.specs.Fragments.{next_or_none, next_by_name, leading, condition_in}
use denote.Ref.{Bor}

-- one more fragment is put with what it leads to
pub pairs_step : {X Y : Type 0} (view : X → Y) (of : Y → List (Text × List Text)) (new : Graph) (pairs whole : List (Text × List Text)) (xs : List X) (i : ℕ) (x : X) → i < length xs → x ≡ get_or xs i x
    → Holds new (pairs ++ of (view x)) → pairs ++ each of (map view (drop i xs)) ≡ whole
    → (then : List (Text × List Text)) × Holds new then × (then ++ each of (map view (drop (i + 1) xs)) ≡ whole)
pairs_step view of new pairs whole xs i x h is k w = (pairs ++ of (view x), k, collect_next view of xs i x pairs (pairs ++ of (view x)) whole h is refl w)

-- all are put
pub pairs_all : {X Y : Type 0} (view : X → Y) (of : Y → List (Text × List Text)) (graph : Graph) (pairs whole : List (Text × List Text)) (xs : List X) (i : ℕ) → length xs ≤ i
    → Holds graph pairs → pairs ++ each of (map view (drop i xs)) ≡ whole → Holds graph whole
pairs_all {X = X} view of graph pairs whole xs i h k w =
    subst (λ (ps : List (Text × List Text)). Holds graph ps) (sym (append-nil pairs) ∙ sym (ap (λ (ys : List X). pairs ++ each of (map view ys)) (drop_all i xs h)) ∙ w) k

-- of several fragments of one name the first tells
next_leading : (next : FragmentAt → List Text) (fs : List FragmentAt) (n : Text) → next_in (each (leading next) fs) n ≡ next_by_name next fs n
next_leading next [] n = refl
next_leading next (f ∷ fs) n = on (bytes_eq f.name.name n) (next_leading next fs n) where
  on : (b : Bool) → next_in (each (leading next) fs) n ≡ next_by_name next fs n → unwrap_or (cond b (Some (next f)) (first_next (each (leading next) fs) n)) [] ≡ next_or_none next (cond b (Some f) (fragment_named fs n))
  on true e = refl
  on false e = e

pub next_among : (next : FragmentAt → List Text) (ds : List DefinitionAt) (n : Text) → next_in (each (on_fragment (leading next)) ds) n ≡ next_by_name next (fragments ds) n
next_among next ds n = ap (λ (ps : List (Text × List Text)). next_in ps n) (sym (over_fragments (leading next) ds)) ∙ next_leading next (fragments ds) n

-- the condition of a fragment is the first name that it leads to
pub first_condition : (xs : List (Bor Text)) (f : Option FragmentAt) (o : Option (Bor Text)) → o ≡ slice_get xs 0 → map (λ (n : Bor Text). n.now) xs ≡ next_or_none condition_in f
    → option_copied o ≡ condition_of_fragment f
first_condition [] None o e h = ap (λ (r : Option (Bor Text)). option_copied r) e
first_condition [] (Some f) o e h = cc
first_condition (x ∷ xs) None o e h = cc
first_condition (x ∷ xs) (Some f) o e h = ap (λ (r : Option (Bor Text)). option_copied r) e ∙ ap (λ (l : List Text). Some (get_or l 0 [])) h

-- one more selection of a set, of which something is collected
pub walks : {A : Type 0} (f : Sels → List A) (g : Selection → List A) → ((x : Selection) (t : Sels) → f (sel_before x t) ≡ g x ++ f t) → (xs : List Selection) (i : ℕ) (x : Selection) (old new whole : List A)
    → i < length xs → x ≡ get_or xs i x → new ≡ old ++ g x → old ++ f (sels_of (drop i xs)) ≡ whole → new ++ f (sels_of (drop (i + 1) xs)) ≡ whole
walks {A = A} f g law xs i x old new whole h is e w =
    let rest : Sels = sels_of (drop (i + 1) xs) in
    let same : drop i xs ≡ get_or xs i x ∷ drop (i + 1) xs = rw add-one (drop-cons xs i x h) in
    ap (λ (l : List A). l ++ f rest) e ∙ append_assoc old (g x) (f rest) ∙ ap (λ (l : List A). old ++ l) (sym (law x rest))
    ∙ ap (λ (y : Selection). old ++ f (sel_before y rest)) is ∙ sym (ap (λ (ys : List Selection). old ++ f (sels_of ys)) same) ∙ w
