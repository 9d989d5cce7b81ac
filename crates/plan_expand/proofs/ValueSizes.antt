-- The sizes that the code finds are those of the values with their local variables replaced.
use Rattle.std.proofs.Common.{◌≡◌, ℕ, ◌+◌, Bool, true, false, cond, List, [], ◌∷◌, ◌++◌, map, Option, Some, None, option_map, bytes_eq, refl, ap, sym, ◌∙◌, arith}
use Rattle.std.specs.Prelude.{max}
use Rattle.std.specs.List.{filter}
use Rattle.plan_ir.specs.gql_ast.Value.{Val, Vals, Members, variable, list, object, no_vals, val, no_members, member, members_depth, members_of, vals_depth}
use Rattle.plan_ir.specs.gql_ast.Value as v
use Rattle.plan_ir.specs.gql_ast.declared.directive.Directive.{Directive}
use Rattle.plan_ir.specs.gql_graph.Rules.{each}
use Rattle.plan_ir.specs.Expansion.{directives_such}
use Rattle.plan_ir.specs.relay_marks.Connections.{value_of_name}
use Rattle.plan_ir.specs.relay_marks.Locals.{locals_of}
use Rattle.plan_ir.specs.Sizes.{all_count, all_depth, arguments_count, arguments_depth, directives_count, directives_depth, members_count, val_count, vals_count}
use Rattle.plan_ir.specs.Substitution.{Scope, arguments_in, default_named, mark_local, operation_scope, scope_at_spread, scope_of_own, substitute, substitute_in, substitute_items, substitute_members, value_of_local, value_or}
use Rattle.plan_ir.specs.schema_tables.Types.{Text}
use Rattle.plan_ir.specs.schema_types.Sites.{FragmentAt}
use Rattle.plan_expand.proofs.DirectiveSteps.{same_arguments, same_value}
use Rattle.plan_expand.proofs.SizeLaws.{beside_assoc, nothing_beside}
use Rattle.plan_expand.specs.Measuring.{Sizes, directives_size, gift_size_or, sizes_at_spread, values_size}
use Rattle.plan_expand.specs.Sizes.{arguments_size, beside, default_size, items_size, members_size, nothing, one, own_sizes, size_in, size_of, within}
use Rattle.plan_expand.specs.declared.size.Size.{Size}

pub arguments_append : (sizes : Sizes) (xs ys : List (Text × Val)) → arguments_size sizes (xs ++ ys) ≡ beside (arguments_size sizes xs) (arguments_size sizes ys)
arguments_append sizes [] ys = sym (nothing_beside (arguments_size sizes ys))
arguments_append sizes (x ∷ xs) ys =
    ap (beside (size_in sizes x.1)) (arguments_append sizes xs ys) ∙ sym (beside_assoc (size_in sizes x.1) (arguments_size sizes xs) (arguments_size sizes ys))

-- it is known how large what stands in the place of each variable is
abbrev pub AreSizes : Sizes → Scope → Type 0
AreSizes sizes scope = (n : Text) → sizes n ≡ size_of (scope n)

abbrev vals_size : Vals → Size
vals_size vs = record { count = vals_count vs; depth = vals_depth vs }

abbrev fields_size : Members → Size
fields_size ms = record { count = members_count ms; depth = members_depth ms }

set_within : (a b : Size) (n : ℕ) → a ≡ b → n ≡ b.count → within a ≡ record { count = 1 + n; depth = b.depth + 1 }
set_within a b n e f =
    let c : b.count + 1 ≡ 1 + n = omega arith in
    ap within e ∙ (λ i. record { count = c i; depth = b.depth + 1 })

mutual
  value_is : (sizes : Sizes) (scope : Scope) → AreSizes sizes scope → (x : Val) → size_in sizes x ≡ size_of (substitute scope x)
  value_is sizes scope same (variable n) = same n
  value_is sizes scope same (v.int n) = refl
  value_is sizes scope same (v.text t) = refl
  value_is sizes scope same (v.truth b) = refl
  value_is sizes scope same v.null = refl
  value_is sizes scope same (v.enum n) = refl
  value_is sizes scope same (list vs) =
      set_within (items_size sizes vs) (vals_size (substitute_items scope vs)) (vals_count (substitute_items scope vs)) (items_is sizes scope same vs) refl
  value_is sizes scope same (object ms) =
      set_within (members_size sizes ms) (fields_size (substitute_members scope ms)) (members_count (substitute_members scope ms)) (members_is sizes scope same ms) refl

  items_is : (sizes : Sizes) (scope : Scope) → AreSizes sizes scope → (vs : Vals) → items_size sizes vs ≡ vals_size (substitute_items scope vs)
  items_is sizes scope same no_vals = refl
  items_is sizes scope same (val x vs) = λ i. beside (value_is sizes scope same x i) (items_is sizes scope same vs i)

  members_is : (sizes : Sizes) (scope : Scope) → AreSizes sizes scope → (ms : Members) → members_size sizes ms ≡ fields_size (substitute_members scope ms)
  members_is sizes scope same no_members = refl
  members_is sizes scope same (member n x ms) = λ i. beside (value_is sizes scope same x i) (members_is sizes scope same ms i)

abbrev pub pairs_size : List (Text × Val) → Size
pairs_size xs = record { count = arguments_count xs; depth = arguments_depth xs }

abbrev pub printed_size : List Directive → Size
printed_size ds = record { count = directives_count ds; depth = directives_depth ds }

pub arguments_is : (sizes : Sizes) (scope : Scope) → AreSizes sizes scope → (xs : List (Text × Val)) → arguments_size sizes xs ≡ pairs_size (substitute_in scope xs)
arguments_is sizes scope same [] = refl
arguments_is sizes scope same (x ∷ xs) = λ i. beside (value_is sizes scope same x.1 i) (arguments_is sizes scope same xs i)

shown_or_left : (scope : Scope) (b : Bool) (d : Directive) (ds : List Directive) (a r : Size) → a ≡ pairs_size (substitute_in scope d.arguments)
    → r ≡ printed_size (map (λ (e : Directive). record { name = e.name; arguments = substitute_in scope e.arguments }) ds)
    → beside (cond b a nothing) r ≡ printed_size (map (λ (e : Directive). record { name = e.name; arguments = substitute_in scope e.arguments }) (cond b (d ∷ ds) ds))
shown_or_left scope true d ds a r e f = λ i. beside (e i) (f i)
shown_or_left scope false d ds a r e f = nothing_beside r ∙ f

pub directives_is : (shows : Text → Bool) (sizes : Sizes) (scope : Scope) → AreSizes sizes scope → (ds : List Directive) → directives_size shows sizes ds ≡ printed_size (directives_such shows scope ds)
directives_is shows sizes scope same [] = refl
directives_is shows sizes scope same (d ∷ ds) =
    shown_or_left scope (shows d.name) d (filter (λ (e : Directive). shows e.name) ds) (arguments_size sizes d.arguments) (directives_size shows sizes ds)
    (arguments_is sizes scope same d.arguments) (directives_is shows sizes scope same ds)

-- ---- without local variables

pub own_is : AreSizes own_sizes operation_scope
own_is n = refl

-- a value by itself
pub own_value : (x : Val) → size_in own_sizes x ≡ size_of x
own_value x = value_is own_sizes operation_scope own_is x ∙ ap size_of (same_value x)

pub values_is : (ds : List Directive) → values_size own_sizes ds ≡ printed_size ds
values_is [] = refl
values_is (d ∷ ds) = λ i. beside ((arguments_is own_sizes operation_scope own_is d.arguments ∙ ap pairs_size (same_arguments d.arguments)) i) (values_is ds i)

marked_is : (n : Text) (o : Option (Option Val)) → one ≡ size_of (mark_local n o)
marked_is n None = refl
marked_is n (Some d) = refl

pub alone_is : (f : FragmentAt) → AreSizes own_sizes (scope_of_own f)
alone_is f n = marked_is n (default_named (locals_of f.directives) n)

-- ---- what a spread gives

named_if : (f : Val → Val) (b : Bool) (x : Val) (o p : Option Val) → p ≡ option_map f o → cond b (Some (f x)) p ≡ option_map f (cond b (Some x) o)
named_if f true x o p e = refl
named_if f false x o p e = e

named_is : (scope : Scope) (xs : List (Text × Val)) (n : Text) → value_of_name (substitute_in scope xs) n ≡ option_map (substitute scope) (value_of_name xs n)
named_is scope [] n = refl
named_is scope (x ∷ xs) n = named_if (substitute scope) (bytes_eq x.0 n) x.1 (value_of_name xs n) (value_of_name (substitute_in scope xs) n) (named_is scope xs n)

gift_is : (sizes : Sizes) (scope : Scope) → AreSizes sizes scope → (n : Text) (xs : List (Text × Val)) (o : Option (Option Val)) (a : Option Val) → value_of_name (substitute_in scope xs) n ≡ option_map (substitute scope) a
    → gift_size_or (option_map (size_in sizes) a) (option_map default_size o) ≡ size_of (value_of_local (substitute_in scope xs) n o)
gift_is sizes scope same n xs None a e = refl
gift_is sizes scope same n xs (Some d) None e = ap (λ (g : Option Val). size_of (value_or g d)) (sym e)
gift_is sizes scope same n xs (Some d) (Some x) e = value_is sizes scope same x ∙ ap (λ (g : Option Val). size_of (value_or g d)) (sym e)

pub spread_is : (sizes : Sizes) (scope : Scope) → AreSizes sizes scope → (ds : List Directive) (f : FragmentAt)
    → AreSizes (sizes_at_spread sizes ds (λ n. option_map default_size (default_named (locals_of f.directives) n))) (scope_at_spread scope ds f)
spread_is sizes scope same ds f n =
    gift_is sizes scope same n (each arguments_in ds) (default_named (locals_of f.directives) n) (value_of_name (each arguments_in ds) n) (named_is scope (each arguments_in ds) n)

-- the values that a spread gives
pub gifts_count : (xs : List (Text × Val)) → all_count (map (λ (x : Text × Val). x.1) xs) ≡ arguments_count xs
gifts_count [] = refl
gifts_count (x ∷ xs) = ap (λ (n : ℕ). val_count x.1 + n) (gifts_count xs)

pub gifts_depth : (xs : List (Text × Val)) → all_depth (map (λ (x : Text × Val). x.1) xs) ≡ arguments_depth xs
gifts_depth [] = refl
gifts_depth (x ∷ xs) = ap (max (v.val_depth x.1)) (gifts_depth xs)
