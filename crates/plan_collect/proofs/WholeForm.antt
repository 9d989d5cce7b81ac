-- Collection by the whole form: what a spread gives, and sets one behind another.
use Rattle.std.proofs.Common.{◌≡◌, ℕ, zero, suc, Bool, true, false, cond, List, [], ◌∷◌, ◌++◌, Option, Some, refl, sym, ap, ◌∙◌, append_assoc}
use Rattle.std.specs.List.{AllZip}
use Rattle.plan_ir.specs.gql_ast.Sels as sels
use Rattle.plan_ir.specs.gql_ast.Sels.{Sels, sels_append}
use Rattle.plan_ir.specs.gql_ast.declared.directive.Directive.{Directive}
use Rattle.plan_ir.specs.gql_ast.declared.place.FilePlace.{FilePlace}
use Rattle.plan_ir.specs.Expansion.{Project}
use Rattle.plan_collect.specs.Collecting.{applies, is_left_out, with_additions}
use Rattle.plan_collect.specs.Collection.{Part, Setting, ask_of, collect_in, collect_with, enter_where, spread_items, whole_setting}
use Rattle.plan_ir.specs.schema_tables.Types.{Text, Defs}
use Rattle.plan_ir.specs.schema_types.Environments.{Values}
use Rattle.plan_ir.specs.schema_types.NameRules.{fragment_named}
use Rattle.plan_ir.specs.schema_types.Sites.{FragmentAt}
use Rattle.plan_ir.proofs.store_model_laws.SameItems.{zip_append}
use Rattle.plan_ir.specs.store_model.Items.{Item, asked}

-- what an operation is collected in: the project, a place for what is added, and the operation's own environment
pub record Around : Type 0 where
  pub project : Project
  pub place : FilePlace
  pub own : Values

abbrev pub setting : Around → Setting
setting w = whole_setting w.project w.place w.own

abbrev pub fragment_selections : Around → FragmentAt → Sels
fragment_selections w f = with_additions w.project.defs w.place (Some f.on.name) f.selections

-- ---- what one condition leaves out, and what is behind it

pub zip_kept : {X Y : Type 0} (r : X → Y → Type 0) (b c : Bool) → b ≡ c → (xs : List X) (ys : List Y) (more : List X) (others : List Y) → AllZip r xs ys → AllZip r more others
    → AllZip r (cond b [] xs ++ more) (cond c [] ys ++ others)
zip_kept r true true e xs ys more others here later = later
zip_kept r true false e xs ys more others here later = absurd cc
zip_kept r false true e xs ys more others here later = absurd cc
zip_kept r false false e xs ys more others here later = zip_append r xs ys more others here later

pub zip_where : {X Y : Type 0} (r : X → Y → Type 0) (b : Bool) (xs : List X) (ys : List Y) → AllZip r xs ys → AllZip r (cond b xs []) (cond b ys [])
zip_where r true xs ys h = h
zip_where r false xs ys h = tt

-- ---- spreads

-- what a fragment that is spread gives, where so many spreads may be entered inside it
abbrev pub items_of_spread : (spreads : ℕ) → Around → (object : Text) → Values → List Directive → Option FragmentAt → List (Item Part)
items_of_spread k w T env ds f = enter_where (spread_items (setting w) k (λ part. collect_in k (setting w) T part.environment part.selections) env ds) w.project.defs T f

-- what a spread gives, where it may be one of so many
abbrev pub items_at_spread : (spreads : ℕ) → Around → (object : Text) → Values → Text → List Directive → List (Item Part)
items_at_spread zero w T env n ds = []
items_at_spread (suc k) w T env n ds = items_of_spread k w T env ds (fragment_named w.project.fragments n)

-- ---- one set behind another

with-append : (enter : Text → List Directive → List (Item Part)) (defs : Defs) (T : Text) (k : ℕ) (env : Values) (s t : Sels)
    → collect_with enter defs T k env (sels_append s t) ≡ collect_with enter defs T k env s ++ collect_with enter defs T k env t
with-append enter defs T k env sels.end t = refl
with-append enter defs T k env (sels.field a n xs ds s rest) t =
    let first : List (Item Part) = cond (is_left_out env ds) [] (asked (record { ask = ask_of defs T env a n xs ds; part = record { spreads = k; environment = env; selections = s } }) ∷ []) in
    ap (λ z. first ++ z) (with-append enter defs T k env rest t)
    ∙ sym (append_assoc first (collect_with enter defs T k env rest) (collect_with enter defs T k env t))
with-append enter defs T k env (sels.spread n ds rest) t =
    let first : List (Item Part) = cond (is_left_out env ds) [] (enter n ds) in
    ap (λ z. first ++ z) (with-append enter defs T k env rest t)
    ∙ sym (append_assoc first (collect_with enter defs T k env rest) (collect_with enter defs T k env t))
with-append enter defs T k env (sels.inline o ds s rest) t =
    let first : List (Item Part) = cond (is_left_out env ds) [] (cond (applies defs o T) (collect_with enter defs T k env s) []) in
    ap (λ z. first ++ z) (with-append enter defs T k env rest t)
    ∙ sym (append_assoc first (collect_with enter defs T k env rest) (collect_with enter defs T k env t))

pub in-append : (k : ℕ) (w : Around) (T : Text) (env : Values) (s t : Sels)
    → collect_in k (setting w) T env (sels_append s t) ≡ collect_in k (setting w) T env s ++ collect_in k (setting w) T env t
in-append zero w T env s t = with-append (items_at_spread zero w T env) w.project.defs T zero env s t
in-append (suc k) w T env s t = with-append (items_at_spread (suc k) w T env) w.project.defs T (suc k) env s t
