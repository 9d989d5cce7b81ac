-- Selections of documents give by the masked form, one by one, what they give with what is known of them.
use Rattle.std.proofs.Common.{◌≡◌, ℕ, zero, suc, ◌+◌, cond, List, [], ◌∷◌, Option, Some, None, option_map, refl, ap, sym, ◌∙◌, subst}
use Rattle.std.specs.List.{AllZip}
use Rattle.plan_ir.specs.gql_ast.Sels as sels
use Rattle.plan_ir.specs.gql_ast.Sels.{Sels}
use Rattle.plan_ir.specs.gql_ast.Value as v
use Rattle.plan_ir.specs.gql_ast.Value.{Val, Vals, Members}
use Rattle.plan_ir.specs.gql_ast.declared.directive.Directive.{Directive}
use Rattle.plan_ir.specs.gql_graph.Rules.{each}
use Rattle.plan_ir.specs.gql_plain.Tree as t
use Rattle.plan_build.proofs.CovarianceLists.{first_true, then_true}
use Rattle.plan_build.proofs.Substituted.{arguments-substituted, left-substituted}
use Rattle.plan_build.specs.Suited.{type_inside}
use Rattle.plan_ir.specs.Expansion.{Project, is_condition, is_printed, printed_conditions, printed_directives, response_key}
use Rattle.plan_ir.specs.ReaderMeaning.{scope_in}
use Rattle.plan_ir.specs.Substitution.{Arguments, Scope, arguments_in, scope_at_spread, substitute, substitute_in, value_or}
use Rattle.plan_read.proofs.KnownParts.{Entered, Known, gather, gather_in, gather_with, known_at, known_field, known_inside, known_pointer, known_spread, not_entered, types_inside}
use Rattle.plan_read.proofs.Zips.{zip_kept, zip_none, zip_where}
use Rattle.plan_read.specs.Constants.{AreConstant, HaveConstants, IsConstant}
use Rattle.plan_read.specs.Steps.{pointer_arguments}
use Rattle.plan_build.proofs.plan_collect_laws.Collects.{not_printed}
use Rattle.plan_build.proofs.plan_collect_laws.Evaluating.{Means, means_inside, value-substituted, value_of_name-substituted}
use Rattle.plan_build.specs.plan_collect.Collecting.{applies, environment_inside, is_left_out, local_value, with_locals}
use Rattle.plan_ir.specs.relay_marks.Connections.{connection_among, value_of_name}
use Rattle.plan_ir.specs.relay_marks.Locals.{Local, locals_of}
use Rattle.plan_build.specs.relay_model.Collection.{Part, ask_of, collect, collect_in, collect_with, connection_asked, enter_where, form_on, is_inline, is_open, scope_inside, spread_items}
use Rattle.plan_build.specs.relay_model.Readings.{masked_setting}
use Rattle.plan_ir.specs.schema_tables.Types.{Text}
use Rattle.plan_ir.specs.schema_trees.Located.{directives_nodes}
use Rattle.plan_ir.specs.schema_types.Environments.{Values, evaluation, items_evaluated, pairs_evaluated, with_new_pair, with_pair}
use Rattle.plan_ir.specs.schema_types.NameRules.{fragment_named}
use Rattle.plan_ir.specs.schema_types.Sites.{FragmentAt, arguments_nodes, condition_or, head_nodes, optional_name_nodes, selections_nodes}
use Rattle.plan_ir.proofs.constant_values_laws.ConstantValues.{constant_value}
use Rattle.plan_ir.proofs.store_model_laws.ItemReads.{GivesItems}
use Rattle.plan_ir.proofs.store_model_laws.SameItems.{AlikeItem, zip_append, zip_cond, zip_either}
use Rattle.plan_ir.specs.store_model.Items.{Item, asked, pointed}

-- ---- the values that a pointer gives

module _ (own env : Values) (scope : Scope) (means : Means own scope env) where
  given_value : (given default : Option Val) → IsConstant default → local_value [] env given default ≡ evaluation own (value_or (option_map (substitute scope) given) default)
  given_value (Some x) d c = sym (value-substituted own env scope means x)
  given_value None (Some x) c = constant_value [] own x c
  given_value None None c = refl

  pub scope_given : (ds : List Directive) (ls : List Local) → HaveConstants ls → with_locals [] env (each arguments_in ds) ls ≡ scope_in own (pointer_arguments scope ds ls)
  scope_given ds [] c = refl
  scope_given ds (l ∷ ls) c =
      let given : Arguments = each arguments_in ds in
      let value : local_value [] env (value_of_name given l.name) l.default ≡ evaluation own (value_or (value_of_name (substitute_in scope given) l.name) l.default) =
      given_value (value_of_name given l.name) l.default c.0
      ∙ ap (λ (g : Option Val). evaluation own (value_or g l.default)) (sym (value_of_name-substituted own env scope means given l.name)) in
      let rest = scope_given ds ls c.1 in
      λ i. with_pair l.name (value i) (rest i)

-- ---- items

-- the same selections, in an environment that their scope means
abbrev pub FromDocuments : (own : Values) → Part → Known → Type 0
FromDocuments own f x = (f ≡ x.part) × Means own x.scope x.part.environment

abbrev pub AlikeSeen : (own : Values) → List (Item Part) → List (Item Known) → Type 0
AlikeSeen own xs ys = AllZip (AlikeItem (FromDocuments own)) xs ys

module _ (p : Project) (own : Values) (T : Text) (k : ℕ) (collects : Text → List Directive → List (Item Part)) (enter : Entered) (scope : Scope) (env : Values) (means : Means own scope env)
    (entered : (u : Text) (us : List Text) (n : Text) (ds : List Directive)
    → AlikeSeen own (cond (is_left_out env ds) [] (collects n ds)) (cond (is_left_out own (printed_conditions scope ds)) [] (enter u us n ds))) where
  abbrev there : Sels → List (Item Part)
  there s = collect_with collects p.defs T k env s

  abbrev here : (from : ℕ) → (over : Option Text) → (type : Text) → (types : List Text) → Sels → List (Item Known)
  here from over u us s = gather_with enter p own T k scope env from over u us s

  left_out : (ds : List Directive) → is_left_out env ds ≡ is_left_out own (printed_directives scope ds)
  left_out ds = sym (left-substituted own env scope means is_printed not_printed ds)

  items_with : (from : ℕ) (over : Option Text) (u : Text) (us : List Text) (s : Sels) → AlikeSeen own (there s) (here from over u us s)
  items_with from over u us sels.end = tt
  items_with from over u us (sels.field a n xs ds s rest) =
      let next : ℕ = from + head_nodes a + arguments_nodes xs + directives_nodes ds + selections_nodes s in
      zip_kept (AlikeItem (FromDocuments own)) (is_left_out env ds) (is_left_out own (printed_directives scope ds)) (left_out ds)
      (asked (record { ask = ask_of p.defs T env a n xs ds; part = record { spreads = k; environment = env; selections = s } }) ∷ [])
      (known_field p own T k scope env from over a n xs ds s ∷ []) (there rest) (here next over u us rest) (
        record {
          ask = λ i. record {
            response = response_key a n;
            name = n;
            arguments = sym (arguments-substituted own env scope means xs) i;
            connection = option_map connection_asked (connection_among ds);
            form = form_on p.defs T n;
          };
          part = (refl, means);
        },
        tt,
      )
      (items_with next over u us rest)
  items_with from over u us (sels.spread n ds rest) =
      zip_append (AlikeItem (FromDocuments own)) (cond (is_left_out env ds) [] (collects n ds)) (cond (is_left_out own (printed_conditions scope ds)) [] (enter u us n ds))
      (there rest) (here (from + 2 + directives_nodes ds) over u us rest) (entered u us n ds) (items_with (from + 2 + directives_nodes ds) over u us rest)
  items_with from over u us (sels.inline o ds s rest) =
      let inner : ℕ = from + 1 + optional_name_nodes o + directives_nodes ds in
      let under : List (Item Known) = here inner (condition_or over o) (type_inside p.defs u o) (types_inside p.defs us o) s in
      zip_kept (AlikeItem (FromDocuments own)) (is_left_out env ds) (is_left_out own (printed_directives scope ds)) (left_out ds)
      (cond (applies p.defs o T) (there s) []) (cond (applies p.defs o T) under [])
      (there rest) (here (inner + selections_nodes s) over u us rest)
      (zip_where (AlikeItem (FromDocuments own)) (applies p.defs o T) (there s) under (items_with inner (condition_or over o) (type_inside p.defs u o) (types_inside p.defs us o) s))
      (items_with (inner + selections_nodes s) over u us rest)

-- ---- spreads

module _ (p : Project) (own : Values) (constant : AreConstant p) (T : Text) where
  abbrev collected : (spreads : ℕ) → Part → List (Item Part)
  collected k f = collect_in k (masked_setting p own) T f.environment f.selections

  abbrev gathered : (spreads : ℕ) → Known → List (Item Known)
  gathered k x = gather_in k p own T x.scope x.part.environment x.from x.over x.type x.types x.part.selections

  module _ (k : ℕ) (scope : Scope) (env : Values) (means : Means own scope env) (u : Text) (us : List Text) (ds : List Directive) where
    abbrev within : FragmentAt → Known
    within f = known_inside p own k scope env u us ds f

    spread_alike : (f : FragmentAt) → HaveConstants (locals_of f.directives) → AlikeSeen own (collected k (within f).part) (gathered k (within f))
        → AlikeSeen own (spread_items (masked_setting p own) k (collected k) env ds f) (known_spread (gathered k) p own k scope env u us ds f)
    spread_alike f c deeper =
        zip_either (AlikeItem (FromDocuments own)) (is_open ds) (collected k (within f).part)
        (pointed (record { fragment = f.name.name; scope = scope_inside (masked_setting p own) env ds f; inline = is_inline f; body = (within f).part }) ∷ [])
        (gathered k (within f)) (known_pointer p own k scope env u us ds f ∷ []) deeper (
          record {
            fragment = refl;
            scope = scope_given own env scope means ds (locals_of f.directives) c;
            inline = refl;
            body = λ e. (refl, means_inside own env scope means ds f);
          },
          tt,
        )

    found_alike : ((f : FragmentAt) → AlikeSeen own (collected k (within f).part) (gathered k (within f))) → (n : Text) (o : Option FragmentAt) → fragment_named p.fragments n ≡ o
        → AlikeSeen own (cond (is_left_out env ds) [] (enter_where (spread_items (masked_setting p own) k (collected k) env ds) p.defs T o))
        (cond (is_left_out own (printed_conditions scope ds)) [] (known_at k p own T scope env u us ds o))
    found_alike deeper n None e = zip_none (AlikeItem (FromDocuments own)) (is_left_out env ds) (is_left_out own (printed_conditions scope ds))
    found_alike deeper n (Some f) e =
        let there : List (Item Part) = spread_items (masked_setting p own) k (collected k) env ds f in
        let here : List (Item Known) = known_spread (gathered k) p own k scope env u us ds f in
        zip_cond (AlikeItem (FromDocuments own)) (is_left_out env ds) (is_left_out own (printed_conditions scope ds))
        (sym (left-substituted own env scope means is_condition (λ n e. e) ds)) [] (cond (applies p.defs (Some f.on.name) T) there []) [] (cond (applies p.defs (Some f.on.name) T) here []) tt
        (zip_where (AlikeItem (FromDocuments own)) (applies p.defs (Some f.on.name) T) there here (spread_alike f (constant n f e) (deeper f)))

  items : (k : ℕ) (scope : Scope) (env : Values) → Means own scope env → (from : ℕ) (over : Option Text) (u : Text) (us : List Text) (s : Sels)
      → AlikeSeen own (collect_in k (masked_setting p own) T env s) (gather_in k p own T scope env from over u us s)
  items zero scope env means =
      items_with p own T zero (λ n ds. []) not_entered scope env means (λ u us n ds. zip_none (AlikeItem (FromDocuments own)) (is_left_out env ds) (is_left_out own (printed_conditions scope ds)))
  items (suc k) scope env means =
      items_with p own T (suc k) (λ n ds. enter_where (spread_items (masked_setting p own) k (collected k) env ds) p.defs T (fragment_named p.fragments n))
      (λ u us n ds. known_at k p own T scope env u us ds (fragment_named p.fragments n)) scope env means
      (λ u us n ds. found_alike k scope env means u us ds
      (λ f. items k (scope_at_spread scope ds f) (environment_inside own env ds f) (means_inside own env scope means ds f)
      (known_inside p own k scope env u us ds f).from (known_inside p own k scope env u us ds f).over (known_inside p own k scope env u us ds f).type (known_inside p own k scope env u us ds f).types f.selections)
      n (fragment_named p.fragments n) refl)

pub document_items : (p : Project) (own : Values) → AreConstant p → GivesItems (collect (masked_setting p own)) (gather p own) (FromDocuments own) (FromDocuments own)
document_items p own constant T f x h =
    subst (λ (g : Part). AlikeSeen own (collect (masked_setting p own) T g) (gather p own T x)) (sym h.0)
    (items p own constant T x.part.spreads x.scope x.part.environment h.1 x.from x.over x.type x.types x.part.selections)
