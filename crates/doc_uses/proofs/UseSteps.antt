-- Uses of variables by the fragments that they stand in, and the names that these lead to.
use Rattle.std.proofs.Common.{◌≡◌, ℕ, suc, ◌+◌, ◌<◌, Bool, true, false, not, cond, ◌&&◌, List, [], ◌∷◌, ◌++◌, map, drop, length, get_or, add-one, Option, Some, bytes_eq, refl, ap, sym, ◌∙◌}
use Rattle.std.proofs.Math.Seq.{drop-cons}
use Rattle.std.proofs.lemmas.List.{append-nil, length-map}
use Rattle.doc_sites.specs.gql_plain.Order.{has_text}
use Rattle.doc_sites.specs.schema_types.ArgumentRules.{Use, is_allowed, local_names, use_wrong, variable_named}
use Rattle.doc_sites.specs.schema_types.NameRules.{spread_by, spreads_in, names_of_all, fragments}
use Rattle.doc_sites.specs.gql_graph.Reached.{any_leads}
use Rattle.doc_sites.specs.schema_rules.Rules.{each, wrong}
use Rattle.doc_sites.specs.schema_types.Sites.{FragmentAt, OperationAt, VariableAt, DefinitionAt, operation, fragment}
use Rattle.doc_sites.specs.gql_graph.Texts.{Text}
use Rattle.doc_sites.proofs.gql_graph_laws.LeastSteps.{each-append}
use Rattle.doc_uses.specs.UsesByName.{named_in, named_uses, uses_among}
use Rattle.doc_uses.specs.Parts.{fragment_name, free_use, free_uses, part_for, part_wrong, uses_wrong_in}

-- the uses in all fragments of a name
pub gathered_all : (uses : FragmentAt → List Use) (ds : List DefinitionAt) (n : Text) → each (λ d. named_in uses d n) ds ≡ uses_among uses (fragments ds) n
gathered_all uses [] n = refl
gathered_all uses (operation o ∷ ds) n = gathered_all uses ds n
gathered_all uses (fragment f ∷ ds) n = ap (λ (us : List Use). named_uses (part_for uses f) n ++ us) (gathered_all uses ds n)

as_many : (ds : List DefinitionAt) → length (each fragment_name ds) ≡ length (fragments ds)
as_many [] = refl
as_many (operation o ∷ ds) = as_many ds
as_many (fragment f ∷ ds) = ap suc (as_many ds)

-- as many names as fragments
pub count_names : {X : Type 0} (view : X → Text) (xs : List X) (ds : List DefinitionAt) → map view xs ≡ each fragment_name ds → length xs ≡ length (fragments ds)
count_names view xs ds e = sym (length-map xs view) ∙ ap length e ∙ as_many ds

free_if : (vs : List VariableAt) (b : Bool) (u : Use)
    → wrong (not b && not (is_allowed (variable_named vs u.name.name) u.place)) u.name.at ≡ each (use_wrong vs []) (cond b [] (u ∷ []))
free_if vs true u = refl
free_if vs false u = sym (append-nil (use_wrong vs [] u))

-- a local variable is never wrong
free_wrong : (vs : List VariableAt) (locals : List Text) (us : List Use) → each (use_wrong vs locals) us ≡ each (use_wrong vs []) (free_uses locals us)
free_wrong vs locals [] = refl
free_wrong vs locals (u ∷ us) =
    (λ k. free_if vs (has_text locals u.name.name) u k ++ free_wrong vs locals us k)
    ∙ sym (each-append (use_wrong vs []) (free_use locals u) (free_uses locals us))

part_is : (uses : FragmentAt → List Use) (fs : List FragmentAt) (o : OperationAt) (is_one : Text → Bool)
    → ((to : Text) → is_one to ≡ any_leads (spread_by fs) (length fs) (names_of_all (spreads_in o.sites)) to)
    → (f : FragmentAt) → part_wrong o.variables is_one (part_for uses f) ≡ uses_wrong_in uses fs o f
part_is uses fs o is_one h f =
    ap (λ (b : Bool). cond b (each (use_wrong o.variables []) (free_uses (local_names f) (uses f))) []) (h f.name.name)
    ∙ ap (λ (ps : List ℕ). cond (any_leads (spread_by fs) (length fs) (names_of_all (spreads_in o.sites)) f.name.name) ps [])
    (sym (free_wrong o.variables (local_names f) (uses f)))

-- what is wrong in the fragments that an operation reaches
pub parts_wrong : (uses : FragmentAt → List Use) (fs : List FragmentAt) (o : OperationAt) (is_one : Text → Bool)
    → ((to : Text) → is_one to ≡ any_leads (spread_by fs) (length fs) (names_of_all (spreads_in o.sites)) to)
    → (gs : List FragmentAt) → each (part_wrong o.variables is_one) (map (part_for uses) gs) ≡ each (uses_wrong_in uses fs o) gs
parts_wrong uses fs o is_one h [] = refl
parts_wrong uses fs o is_one h (g ∷ gs) = λ k. part_is uses fs o is_one h g k ++ parts_wrong uses fs o is_one h gs k

-- one more variable is put in front of those that are found by their names
pub variable_next : {X : Type 0} (view : X → VariableAt) (vs : List X) (i : ℕ) (x : X) (n : Text) (old new : Option VariableAt) → i < length vs → x ≡ get_or vs i x
    → old ≡ variable_named (map view (drop (i + 1) vs)) n → new ≡ cond (bytes_eq (view x).name.name n) (Some (view x)) old → new ≡ variable_named (map view (drop i vs)) n
variable_next {X = X} view vs i x n old new h is_x e put =
    let same : drop i vs ≡ get_or vs i x ∷ drop (i + 1) vs = rw add-one (drop-cons vs i x h) in
    put ∙ ap (λ (o : Option VariableAt). cond (bytes_eq (view x).name.name n) (Some (view x)) o) e
    ∙ ap (λ (y : X). cond (bytes_eq (view y).name.name n) (Some (view y)) (variable_named (map view (drop (i + 1) vs)) n)) is_x
    ∙ sym (ap (λ (ys : List X). variable_named (map view ys) n) same)
