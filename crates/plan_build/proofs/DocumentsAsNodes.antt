-- A response says to an operation of the documents what it says to the operation's expansion.
use Rattle.std.proofs.Common.{◌≡◌, ℕ, zero, suc, true, cond, List, [], ◌∷◌, ◌++◌, refl, sym, ap, subst, ◌∙◌, append_assoc, inl, inr}
use Rattle.std.specs.List.{AllByRecursion, AllZip}
use Rattle.plan_ir.specs.gql_ast.Sels.{Sels}
use Rattle.plan_build.proofs.BareNodes.{AreBare}
use Rattle.plan_build.proofs.ItemsAsNodes.{AlikeItems, Comes, bare_items, items}
use Rattle.plan_build.specs.Laws.{DocumentsAreNodes}
use Rattle.plan_build.specs.NodesMeaning.{Set, ask_of_node, collect_nodes, collect_nodes_in, nodes_say}
use Rattle.plan_ir.specs.Expansion.{expansion, name_or, operation_from, spreads_in, whole_operation}
use Rattle.plan_ir.specs.Nodes.{Nodes, end, field, inline, nodes_append}
use Rattle.plan_ir.specs.Substitution.{operation_scope}
use Rattle.relay_model.proofs.plan_collect_laws.Collects.{nodes_append-end, sels_append-end}
use Rattle.relay_model.proofs.plan_collect_laws.WholeForm.{Around, in-append, items_at_spread, setting}
use Rattle.relay_model.specs.plan_collect.Collecting.{applies, is_left_out, with_additions}
use Rattle.relay_model.specs.plan_collect.Printed.{printed_selections}
use Rattle.relay_model.specs.Collection.{Part, collect, collect_in, part_of}
use Rattle.relay_model.specs.Responses.{operation_says}
use Rattle.plan_ir.specs.schema_tables.Types.{Text, Defs, root}
use Rattle.plan_ir.specs.schema_types.Environments.{Values}
use Rattle.plan_ir.specs.schema_types.Sites.{OperationAt}
use Rattle.serde_json.specs.Data as J
use Rattle.plan_ir.proofs.store_model_laws.AlikeSays.{response_alike}
use Rattle.plan_ir.proofs.store_model_laws.SameItems.{AlikeItem, Holds, items_keep, zip_append}
use Rattle.plan_ir.specs.store_model.Alike.{Keeps, Related}
use Rattle.plan_ir.specs.store_model.Items.{Ask, Collect, Group, Item, Pointer, asked, asks, collect_all, groups_at, parts, pointers_on}
use Rattle.plan_ir.specs.store_model.Reaches.{types_of}
use Rattle.plan_ir.specs.store_model.Verdicts.{verdict}

-- ---- one set behind another

nodes-append : (defs : Defs) (T : Text) (env : Values) (s t : Nodes) → collect_nodes_in defs T env (nodes_append s t) ≡ collect_nodes_in defs T env s ++ collect_nodes_in defs T env t
nodes-append defs T env end t = refl
nodes-append defs T env (field r n xs ds c of s p rest) t =
    let first : List (Item Set) = cond (is_left_out env ds) [] (asked (record { ask = ask_of_node defs T env r n xs c; part = record { environment = env; nodes = s } }) ∷ []) in
    ap (λ z. first ++ z) (nodes-append defs T env rest t) ∙ sym (append_assoc first (collect_nodes_in defs T env rest) (collect_nodes_in defs T env t))
nodes-append defs T env (inline o ds s p rest) t =
    let first : List (Item Set) = cond (is_left_out env ds) [] (cond (applies defs o T) (collect_nodes_in defs T env s) []) in
    ap (λ z. first ++ z) (nodes-append defs T env rest t) ∙ sym (append_assoc first (collect_nodes_in defs T env rest) (collect_nodes_in defs T env t))

-- ---- parts

bare_collected : (w : Around) (T : Text) (k : ℕ) (env : Values) (s : Nodes) → AreBare s
    → AlikeItems w (collect_in k (setting w) T env (printed_selections s)) (collect_nodes_in w.project.defs T w.own s)
bare_collected w T zero env s h = bare_items w T zero env (items_at_spread zero w T env) s h
bare_collected w T (suc k) env s h = bare_items w T (suc k) env (items_at_spread (suc k) w T env) s h

-- items that are alike, by what they are equal to
alike_as : (w : Around) (xs us : List (Item Part)) (ys vs : List (Item Set)) → xs ≡ us → ys ≡ vs → AlikeItems w us vs → AlikeItems w xs ys
alike_as w xs us ys vs e f h = subst (λ zs. AlikeItems w zs ys) (sym e) (subst (λ zs. AlikeItems w us zs) (sym f) h)

part_items : (w : Around) (T : Text) (f : Part) (g : Set) → Comes w f g → AlikeItems w (collect (setting w) T f) (collect_nodes w.project.defs T g)
part_items w T f g (inl h) =
    let written : Sels = with_additions w.project.defs w.place h.around h.written in
    let whole : Nodes = expansion f.spreads w.project h.scope h.from h.around h.written in
    let first : List (Item Part) = collect_in f.spreads (setting w) T f.environment written in
    let then : List (Item Part) = collect_in f.spreads (setting w) T f.environment (printed_selections h.added) in
    let begin : List (Item Set) = collect_nodes_in w.project.defs T w.own whole in
    let last : List (Item Set) = collect_nodes_in w.project.defs T w.own h.added in
    alike_as w (collect (setting w) T f) (first ++ then) (collect_nodes w.project.defs T g) (begin ++ last)
    (ap (collect_in f.spreads (setting w) T f.environment) h.source ∙ in-append f.spreads w T f.environment written (printed_selections h.added))
    ((λ i. collect_nodes_in w.project.defs T (h.environment i) (h.nodes i)) ∙ nodes-append w.project.defs T w.own whole h.added)
    (zip_append (AlikeItem (Comes w)) first begin then last
    (items w T f.spreads h.scope f.environment h.means h.from h.around h.written)
    (bare_collected w T f.spreads f.environment h.added h.bare))
part_items w T f g (inr h) =
    alike_as w (collect (setting w) T f) (collect_in f.spreads (setting w) T f.environment (printed_selections g.nodes))
    (collect_nodes w.project.defs T g) (collect_nodes_in w.project.defs T w.own g.nodes)
    (ap (collect_in f.spreads (setting w) T f.environment) h.source)
    (λ i. collect_nodes_in w.project.defs T (h.environment i) g.nodes)
    (bare_collected w T f.spreads f.environment g.nodes h.bare)

parts_items : (w : Around) (T : Text) (fs : List Part) (gs : List Set) → AllZip (Comes w) fs gs
    → AlikeItems w (collect_all (collect (setting w)) T fs) (collect_all (collect_nodes w.project.defs) T gs)
parts_items w T [] [] h = tt
parts_items w T [] (g ∷ gs) h = absurd h
parts_items w T (f ∷ fs) [] h = absurd h
parts_items w T (f ∷ fs) (g ∷ gs) h =
    zip_append (AlikeItem (Comes w)) (collect (setting w) T f) (collect_nodes w.project.defs T g)
    (collect_all (collect (setting w)) T fs) (collect_all (collect_nodes w.project.defs) T gs) (part_items w T f g h.0) (parts_items w T fs gs h.1)

-- ---- what holds of all parts

abbrev Always : List Text → List Part → Type 0
Always types fs = Unit {0}

all_hold : {X : Type 0} (P : X → Type 0) → ((x : X) → P x) → (xs : List X) → AllByRecursion P xs
all_hold P f [] = tt
all_hold P f (x ∷ xs) = (f x, all_hold P f xs)

always_holds : (gather : Collect Part) (T : Text) (fs : List Part) → Holds Always gather T fs
always_holds gather T fs = record {
  groups =
      all_hold (λ (g : Group Part). AllByRecursion (λ a. Always (types_of a.form) (parts g)) (asks g))
      (λ g. all_hold (λ (a : Ask). Always (types_of a.form) (parts g)) (λ a. tt) (asks g)) (groups_at gather T fs);
  pointers = all_hold (λ (x : Pointer Part). x.inline ≡ true → Always (T ∷ []) (x.body ∷ [])) (λ x h. tt) (pointers_on gather T fs);
}

-- ---- the law

abbrev pub AllCome : Around → Related Part Set
AllCome w types fs gs = Always types fs × AllZip (Comes w) fs gs

pub kept : (w : Around) → Keeps (AllCome w) (AllCome w) (collect (setting w)) (collect_nodes w.project.defs)
kept w =
    items_keep (collect (setting w)) (collect_nodes w.project.defs) Always (Comes w) (Comes w)
    (λ T types fs here always. always_holds (collect (setting w)) T fs) (λ T types fs gs here always h. parts_items w T fs gs h)

pub operation_comes : (w : Around) (o : OperationAt) → Comes w (part_of (setting w) o) (record { environment = w.own; nodes = (whole_operation w.project o).expanded.selections })
operation_comes w o =
    inl (record {
      scope = operation_scope;
      means = λ n. refl;
      from = operation_from o;
      around = root w.project.defs o.kind;
      written = o.selections;
      added = end;
      bare = tt;
      source = sym (sels_append-end (with_additions w.project.defs w.place (root w.project.defs o.kind) o.selections));
      nodes = sym (nodes_append-end (expansion (spreads_in w.project) w.project operation_scope (operation_from o) (root w.project.defs o.kind) o.selections));
      environment = refl;
    })

says_the_same : (w : Around) (o : OperationAt) (response : J.Data)
    → operation_says w.project w.place o w.own response ≡ nodes_say w.project.defs (whole_operation w.project o).expanded w.own response
says_the_same w o response =
    ap verdict
    (response_alike (AllCome w) (collect (setting w)) (collect_nodes w.project.defs) (kept w) (name_or (root w.project.defs o.kind))
    (part_of (setting w) o ∷ []) (record { environment = w.own; nodes = (whole_operation w.project o).expanded.selections } ∷ [])
    (tt, (operation_comes w o, tt)) response)

pub documents_are_nodes : DocumentsAreNodes
documents_are_nodes p place o own response = says_the_same (record { project = p; place = place; own = own }) o response
