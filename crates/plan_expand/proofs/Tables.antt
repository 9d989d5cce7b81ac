-- Tables of names, of each name the first, and loops over what is put into them.
use Rattle.std.proofs.Common.{◌≡◌, ℕ, ◌+◌, ◌<◌, ◌≤◌, Bool, true, false, true≢false, cond, List, [], ◌∷◌, ◌++◌, map, drop, length, get_or, Option, Some, None, option_map, is_some, bytes_eq, refl, ap, sym, ◌∙◌}
use Rattle.std.proofs.lemmas.List.{drop_all, drop_more, map-append}
use Rattle.std.specs.Option.{option_or}
use Rattle.plan_ir.specs.gql_ast.Value.{Val}
use Rattle.plan_ir.specs.gql_ast.ValueView.{argument_of}
use Rattle.plan_ir.specs.gql_ast.declared.directive.Directive.{Directive}
use Rattle.plan_ir.specs.gql_ast.declared.value.Argument.{Argument}
use Rattle.plan_ir.specs.gql_graph.Rules.{each}
use Rattle.plan_ir.proofs.gql_graph_laws.TextSteps.{same_text}
use Rattle.doc_sites.specs.SitesView.{argument_of as located_argument, definition_of, directive_of}
use Rattle.doc_sites.specs.declared.site.ArgumentAt as kept
use Rattle.doc_sites.specs.declared.site.DirectiveAt.{DirectiveAt}
use Rattle.plan_ir.specs.relay_marks.Connections.{value_of_name}
use Rattle.plan_ir.specs.relay_marks.Locals.{Local, LocalObject, as_list, local_at, local_of, locals_at, locals_of, object_by, of_said, of_text, with_type_text}
use Rattle.plan_ir.specs.relay_marks.TypeTexts.{type_in}
use Rattle.plan_ir.specs.gql_ast.Ty.{Ty}
use Rattle.plan_ir.specs.Substitution.{Scope, arguments_at_spread, arguments_in, default_named, substitute, substitute_in}
use Rattle.plan_expand.specs.LocalsView.{default_under}
use Rattle.plan_expand.specs.ReadyView.{ready_fragment, ready_in}
use Rattle.plan_expand.specs.SizesView.{size_named}
use Rattle.plan_expand.specs.declared.size.Size.{Size}
use Rattle.plan_ir.specs.schema_types.NameRules.{fragment_named, fragments, operations}
use Rattle.plan_ir.specs.schema_types.Sites.{FragmentAt, OperationAt, DefinitionAt, operation, fragment}
use Rattle.plan_ir.specs.gql_ast.declared.place.FilePlace.{FilePlace}
use Rattle.doc_sites.specs.declared.site.DefinitionAt as Definition
use Rattle.plan_ir.specs.schema_tables.Types.{Text, Defs}
use Rattle.plan_ir.specs.schema_trees.Located.{Located}
use Rattle.plan_ir.specs.Expansion.{is_named, operation_named}
use Rattle.plan_expand.specs.OperationsView.{ready_operation, operation_in, operation_under}

-- ---- what is put under a name

pub or_none : {Y : Type 0} (o : Option Y) → o ≡ option_or o None
or_none None = refl
or_none (Some y) = refl

pub or_assoc : {Y : Type 0} (a b c : Option Y) → option_or (option_or a b) c ≡ option_or a (option_or b c)
or_assoc None b c = refl
or_assoc (Some y) b c = refl

some_mapped : {V Y : Type 0} (view : V → Y) (o : Option V) → is_some (option_map view o) ≡ is_some o
some_mapped view None = refl
some_mapped view (Some v) = refl

none_mapped : {V Y : Type 0} (view : V → Y) (o : Option V) → is_some o ≡ false → option_map view o ≡ None
none_mapped view None e = refl
none_mapped view (Some v) e = cc

keep_old : {Y : Type 0} (b : Bool) (old : Option Y) (y : Y) → (b ≡ true → is_some old ≡ true) → old ≡ option_or old (cond b (Some y) None)
keep_old true None y h = absurd (true≢false (sym (h refl)))
keep_old true (Some x) y h = refl
keep_old false old y h = or_none old

take_new : {Y : Type 0} (b : Bool) (old : Option Y) (y : Y) → (b ≡ true → old ≡ None) → cond b (Some y) old ≡ option_or old (cond b (Some y) None)
take_new true None y h = refl
take_new true (Some x) y h = never (h refl) where
  never : Some x ≡ None → Some y ≡ Some x
  never e = cc
take_new false old y h = or_none old

pub map_cond : {V Y : Type 0} (view : V → Y) (b : Bool) (v : V) (o : Option V) → option_map view (cond b (Some v) o) ≡ cond b (Some (view v)) (option_map view o)
map_cond view true v o = refl
map_cond view false v o = refl

-- the name is there already
pub name_stays : {V Y : Type 0} (view : V → Y) (old : Text → Option V) (name : Text) (y : Y) → is_some (old name) ≡ true
    → (n : Text) → option_map view (old n) ≡ option_or (option_map view (old n)) (cond (bytes_eq name n) (Some y) None)
name_stays view old name y h n =
    keep_old (bytes_eq name n) (option_map view (old n)) y (λ e. some_mapped view (old n) ∙ ap (λ (m : Text). is_some (old m)) (sym (same_text name n e)) ∙ h)

-- the name is new
pub name_comes : {V Y : Type 0} (view : V → Y) (old new : Text → Option V) (name : Text) (v : V) → is_some (old name) ≡ false → ((n : Text) → new n ≡ cond (bytes_eq name n) (Some v) (old n))
    → (n : Text) → option_map view (new n) ≡ option_or (option_map view (old n)) (cond (bytes_eq name n) (Some (view v)) None)
name_comes view old new name v h put n =
    ap (option_map view) (put n) ∙ map_cond view (bytes_eq name n) v (old n)
    ∙ take_new (bytes_eq name n) (option_map view (old n)) (view v) (λ e. ap (λ (m : Text). option_map view (old m)) (sym (same_text name n e)) ∙ none_mapped view (old name) h)

-- the same where values are kept as they are
pub plain_stays : {Y : Type 0} (old : Text → Option Y) (name : Text) (y : Y) → is_some (old name) ≡ true → (n : Text) → old n ≡ option_or (old n) (cond (bytes_eq name n) (Some y) None)
plain_stays old name y h n = keep_old (bytes_eq name n) (old n) y (λ e. ap (λ (m : Text). is_some (old m)) (sym (same_text name n e)) ∙ h)

no_some : {Y : Type 0} (o : Option Y) → is_some o ≡ false → o ≡ None
no_some None e = refl
no_some (Some y) e = cc

pub plain_comes : {Y : Type 0} (old new : Text → Option Y) (name : Text) (y : Y) → is_some (old name) ≡ false → ((n : Text) → new n ≡ cond (bytes_eq name n) (Some y) (old n))
    → (n : Text) → new n ≡ option_or (old n) (cond (bytes_eq name n) (Some y) None)
plain_comes old new name y h put n = put n ∙ take_new (bytes_eq name n) (old n) y (λ e. ap old (sym (same_text name n e)) ∙ no_some (old name) h)

-- ---- loops: what is found so far, and in what is left

pub or_next : {X Y : Type 0} (find : List X → Option Y) (one : X → Option Y) → ((x : X) (xs : List X) → find (x ∷ xs) ≡ option_or (one x) (find xs))
    → (xs : List X) (i : ℕ) (x : X) (old new whole : Option Y) → i < length xs → x ≡ get_or xs i x → new ≡ option_or old (one x)
    → option_or old (find (drop i xs)) ≡ whole → option_or new (find (drop (i + 1) xs)) ≡ whole
or_next {X = X} {Y = Y} find one law xs i x old new whole h is put w =
    let rest : Option Y = find (drop (i + 1) xs) in
    ap (λ (o : Option Y). option_or o rest) put ∙ or_assoc old (one x) rest
    ∙ ap (λ (y : X). option_or old (option_or (one y) rest)) is
    ∙ sym (ap (option_or old) (ap find (drop_more xs i x h) ∙ law (get_or xs i x) (drop (i + 1) xs))) ∙ w

pub or_end : {X Y : Type 0} (find : List X → Option Y) → find [] ≡ None → (xs : List X) (i : ℕ) (old whole : Option Y) → length xs ≤ i
    → option_or old (find (drop i xs)) ≡ whole → old ≡ whole
or_end {X = X} {Y = Y} find none xs i old whole h w = or_none old ∙ sym (ap (option_or old) (ap find (drop_all i xs h) ∙ none)) ∙ w

-- ---- arguments by their names

or_cond : {Y : Type 0} (b : Bool) (y : Y) (o : Option Y) → cond b (Some y) o ≡ option_or (cond b (Some y) None) o
or_cond true y o = refl
or_cond false y o = refl

pub named_append : (n : Text) (xs ys : List (Text × Val)) → value_of_name (xs ++ ys) n ≡ option_or (value_of_name xs n) (value_of_name ys n)
named_append n [] ys = refl
named_append n (x ∷ xs) ys =
    ap (λ (o : Option Val). cond (bytes_eq x.0 n) (Some x.1) o) (named_append n xs ys) ∙ or_cond (bytes_eq x.0 n) x.1 (option_or (value_of_name xs n) (value_of_name ys n))
    ∙ sym (or_assoc (cond (bytes_eq x.0 n) (Some x.1) None) (value_of_name xs n) (value_of_name ys n))
    ∙ ap (λ (o : Option Val). option_or o (value_of_name ys n)) (sym (or_cond (bytes_eq x.0 n) x.1 (value_of_name xs n)))

-- ---- sizes of arguments by their names

map_or : {X Y : Type 0} (f : X → Y) (a b : Option X) → option_map f (option_or a b) ≡ option_or (option_map f a) (option_map f b)
map_or f None b = refl
map_or f (Some x) b = refl

sized_if : {X Y : Type 0} (f : X → Y) (b : Bool) (x : X) (o : Option X) → option_map f (cond b (Some x) o) ≡ option_or (cond b (Some (f x)) None) (option_map f o)
sized_if f true x o = refl
sized_if f false x o = refl

-- one argument more
pub sized_before : (n : Text) (f : Val → Size) (x : Argument) (xs : List Argument)
    → option_map f (value_of_name (map argument_of (x ∷ xs)) n) ≡ option_or (size_named x.name (f (argument_of x).1) n) (option_map f (value_of_name (map argument_of xs) n))
sized_before n f x xs = sized_if f (bytes_eq x.name n) (argument_of x).1 (value_of_name (map argument_of xs) n)

-- one directive more
pub sized_directive_before : (n : Text) (f : Val → Size) (d : Directive) (ds : List Directive)
    → option_map f (value_of_name (each arguments_in (d ∷ ds)) n) ≡ option_or (option_map f (value_of_name (arguments_in d) n)) (option_map f (value_of_name (each arguments_in ds) n))
sized_directive_before n f d ds = ap (option_map f) (named_append n (arguments_in d) (each arguments_in ds)) ∙ map_or f (value_of_name (arguments_in d) n) (value_of_name (each arguments_in ds) n)

-- one argument more, its value replaced
pub argument_before : (n : Text) (scope : Scope) (x : Argument) (xs : List Argument)
    → value_of_name (substitute_in scope (map argument_of (x ∷ xs))) n
    ≡ option_or (value_of_name ((x.name, substitute scope (argument_of x).1) ∷ []) n) (value_of_name (substitute_in scope (map argument_of xs)) n)
argument_before n scope x xs = or_cond (bytes_eq x.name n) (substitute scope (argument_of x).1) (value_of_name (substitute_in scope (map argument_of xs)) n)

-- one directive more
pub directive_before : (n : Text) (scope : Scope) (d : Directive) (ds : List Directive)
    → value_of_name (arguments_at_spread scope (d ∷ ds)) n
    ≡ option_or (value_of_name (substitute_in scope (arguments_in d)) n) (value_of_name (arguments_at_spread scope ds) n)
directive_before n scope d ds =
    ap (λ (xs : List (Text × Val)). value_of_name xs n) (map-append (λ (x : Text × Val). (x.0, substitute scope x.1)) (arguments_in d) (each arguments_in ds))
    ∙ named_append n (substitute_in scope (arguments_in d)) (arguments_at_spread scope ds)

-- ---- local variables by their names

pub defaults_append : (n : Text) (xs ys : List Local) → default_named (xs ++ ys) n ≡ option_or (default_named xs n) (default_named ys n)
defaults_append n [] ys = refl
defaults_append n (x ∷ xs) ys =
    ap (λ (o : Option (Option Val)). cond (bytes_eq x.name n) (Some x.default) o) (defaults_append n xs ys) ∙ or_cond (bytes_eq x.name n) x.default (option_or (default_named xs n) (default_named ys n))
    ∙ sym (or_assoc (cond (bytes_eq x.name n) (Some x.default) None) (default_named xs n) (default_named ys n))
    ∙ ap (λ (o : Option (Option Val)). option_or o (default_named ys n)) (sym (or_cond (bytes_eq x.name n) x.default (default_named xs n)))

-- one argument more
pub local_before : (n : Text) (x : kept.ArgumentAt) (xs : List kept.ArgumentAt)
    → default_named (each local_at (map located_argument (x ∷ xs))) n
    ≡ option_or (default_named (local_at (located_argument x)) n) (default_named (each local_at (map located_argument xs)) n)
local_before n x xs = defaults_append n (local_at (located_argument x)) (each local_at (map located_argument xs))

-- one directive more
pub defining_before : (n : Text) (d : DirectiveAt) (ds : List DirectiveAt)
    → default_named (locals_of (map directive_of (d ∷ ds))) n ≡ option_or (default_named (locals_at (directive_of d)) n) (default_named (locals_of (map directive_of ds)) n)
defining_before n d ds = defaults_append n (locals_at (directive_of d)) (locals_of (map directive_of ds))

-- a local variable has the name of its argument

typed_name : (n : Text) (d : Option Val) (o : Option Ty) (l : Local) → with_type_text n d o ≡ Some l → l.name ≡ n
typed_name n d None l e = cc
typed_name n d (Some t) l e = let same : record { name = n; of = t; default = d } ≡ l = cc in ap (λ (x : Local). x.name) (sym same)

text_name : (n : Text) (d : Option Val) (o : Option Text) (l : Local) → of_text n d o ≡ Some l → l.name ≡ n
text_name n d None l e = cc
text_name n d (Some t) l e = typed_name n d (type_in t) l e

object_name : (n : Text) (o : Option LocalObject) (l : Local) → of_said n o ≡ Some l → l.name ≡ n
object_name n None l e = cc
object_name n (Some s) l e = text_name n s.default s.of l e

-- what an argument defines, by its name
pub local_is : (name : Text) (v : Val) (l : Local) (n : Text) → Some l ≡ local_of name v → default_under name l.default n ≡ default_named (as_list (local_of name v)) n
local_is name v l n e =
    ap (λ (m : Text). default_under m l.default n) (sym (object_name name (object_by v) l (sym e))) ∙ ap (λ (o : Option Local). default_named (as_list o) n) e

pub no_local_is : (name : Text) (v : Val) (n : Text) (old : Option (Option Val)) → None ≡ local_of name v → old ≡ option_or old (default_named (as_list (local_of name v)) n)
no_local_is name v n old e = or_none old ∙ ap (λ (o : Option Local). option_or old (default_named (as_list o) n)) e

-- ---- fragments by their names

fragment_if : (place : ℕ → FilePlace) (b : Bool) (f : FragmentAt) (o : Option FragmentAt)
    → option_map (ready_fragment place) (cond b (Some f) o) ≡ option_or (cond b (Some (ready_fragment place f)) None) (option_map (ready_fragment place) o)
fragment_if place true f o = refl
fragment_if place false f o = refl

-- one definition more
pub fragment_before : (place : ℕ → FilePlace) (n : Text) (d : Definition.DefinitionAt) (ds : List Definition.DefinitionAt)
    → option_map (ready_fragment place) (fragment_named (fragments (map definition_of (d ∷ ds))) n)
    ≡ option_or (ready_in place (definition_of d) n) (option_map (ready_fragment place) (fragment_named (fragments (map definition_of ds)) n))
fragment_before place n d ds = on (definition_of d) where
  on : (e : DefinitionAt)
      → option_map (ready_fragment place) (fragment_named (fragments (e ∷ map definition_of ds)) n)
      ≡ option_or (ready_in place e n) (option_map (ready_fragment place) (fragment_named (fragments (map definition_of ds)) n))
  on (operation o) = refl
  on (fragment f) = fragment_if place (bytes_eq f.name.name n) f (fragment_named (fragments (map definition_of ds)) n)

-- ---- operations by their names

operation_if : (defs : Defs) (place : ℕ → FilePlace) (n : Text) (o : OperationAt) (q : Option OperationAt) (m : Option Located)
    → option_map (ready_operation defs place) (cond (is_named n m) (Some o) q) ≡ option_or (operation_under m (ready_operation defs place o) n) (option_map (ready_operation defs place) q)
operation_if defs place n o q None = refl
operation_if defs place n o q (Some l) = sized_if (ready_operation defs place) (bytes_eq l.name n) o q

-- one definition more
pub operation_before : (defs : Defs) (place : ℕ → FilePlace) (n : Text) (d : Definition.DefinitionAt) (ds : List Definition.DefinitionAt)
    → option_map (ready_operation defs place) (operation_named (operations (map definition_of (d ∷ ds))) n)
    ≡ option_or (operation_in defs place (definition_of d) n) (option_map (ready_operation defs place) (operation_named (operations (map definition_of ds)) n))
operation_before defs place n d ds = on (definition_of d) where
  on : (e : DefinitionAt)
      → option_map (ready_operation defs place) (operation_named (operations (e ∷ map definition_of ds)) n)
      ≡ option_or (operation_in defs place e n) (option_map (ready_operation defs place) (operation_named (operations (map definition_of ds)) n))
  on (operation o) = operation_if defs place n o (operation_named (operations (map definition_of ds)) n) o.name
  on (fragment f) = refl
