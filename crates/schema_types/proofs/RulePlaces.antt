-- Each place where a rule of documents does not hold is that of a node of the documents.
use Rattle.std.proofs.Common.{◌≡◌, ℕ, ◌+◌, ◌<◌, ◌≤◌, not, List, [], ◌++◌, Option, Some, None, IfSome, arith}
use Rattle.std.specs.List.{AllByRecursion}
use Rattle.schema_rules.specs.gql_ast.TypeView.{ty_of}
use Rattle.schema_rules.specs.gql_ast.Value as v
use Rattle.schema_rules.specs.gql_ast.Value.{Val, Vals, Members, no_vals, val, no_members, member}
use Rattle.schema_rules.specs.gql_ast.Ty.{Ty}
use Rattle.schema_rules.specs.gql_ast.declared.document.Document.{Document}
use Rattle.schema_rules.specs.gql_ast.declared.document.Kind.TheVariants.{Subscription}
use Rattle.schema_rules.specs.gql_ast.declared.member.InputTree.{InputTree}
use Rattle.schema_rules.specs.declared.fault.Rule.{Rule}
use Rattle.schema_rules.specs.Rules.{each, repeated_names, first_broken}
use Rattle.schema_rules.specs.schema_tables.BuiltIn as known
use Rattle.schema_rules.specs.schema_tables.Types.{Text, Defs, root, same_kind}
use Rattle.schema_rules.proofs.schema_trees_laws.BelowSteps.{IfThere, all_append, all_each, all_map, all_filter, all_filter_map, below_append, below_wrong, below_cond, below_each, below_repeats, below_first}
use Rattle.schema_rules.specs.schema_trees.Located.{Located, value_nodes, values_nodes, members_nodes}
use Rattle.schema_rules.specs.schema_trees.Numbers.{Below}
use Rattle.schema_types.proofs.SiteNumberLaws.{all_below}
use Rattle.schema_types.specs.ArgumentRules as arguments
use Rattle.schema_types.specs.ArgumentRules.{Call, Directed, Use, Takes, inputs, free, unknown, Place}
use Rattle.schema_types.specs.DocumentRules.{name_rules, field_rules, argument_rules}
use Rattle.schema_types.specs.FieldRules as fields
use Rattle.schema_types.specs.NameRules as names
use Rattle.schema_types.specs.NameRules.{operations, fragments, sites_of, spreads_in}
use Rattle.schema_types.specs.SiteNumbers.{documents_nodes, HoldsArgument, HoldsDirective, HoldsVariable, HoldsSite, DefinitionBelow, DefinitionsBelow}
use Rattle.schema_types.specs.Sites.{ValueAt, ArgumentAt, DirectiveAt, VariableAt, Site, field, spread, inline, OperationAt, FragmentAt, DefinitionAt, operation, fragment, all_definitions}

value_some : (x : Val) → 0 < value_nodes x
value_some (v.variable n) = omega arith
value_some (v.int n) = omega arith
value_some (v.text t) = omega arith
value_some (v.truth b) = omega arith
value_some v.null = omega arith
value_some (v.enum n) = omega arith
value_some (v.list vs) = omega arith
value_some (v.object ms) = omega arith

module _ (m : ℕ) where
  abbrev pub NameIn : Located → Type 0
  NameIn n = n.at < m

  abbrev ValueIn : Val → ℕ → Type 0
  ValueIn x n = n + value_nodes x ≤ m

  abbrev pub ArgumentIn : ArgumentAt → Type 0
  ArgumentIn a = HoldsArgument (λ t n. n < m) ValueIn a

  abbrev pub DirectiveIn : DirectiveAt → Type 0
  DirectiveIn d = HoldsDirective (λ t n. n < m) ValueIn d

  abbrev VariableIn : VariableAt → Type 0
  VariableIn d = HoldsVariable (λ t n. n < m) ValueIn d

  abbrev pub SiteIn : Site → Type 0
  SiteIn s = HoldsSite (λ n. n < m) (λ t n. n < m) ValueIn s

  abbrev pub OperationIn : OperationAt → Type 0
  OperationIn o = DefinitionBelow m (operation o)

  abbrev pub FragmentIn : FragmentAt → Type 0
  FragmentIn f = DefinitionBelow m (fragment f)

  -- ---- the parts of definitions

  operation_in : (d : DefinitionAt) → DefinitionBelow m d → IfThere OperationIn (names.operation_of d)
  operation_in (operation o) h = h
  operation_in (fragment f) h = tt

  fragment_in : (d : DefinitionAt) → DefinitionBelow m d → IfThere FragmentIn (names.fragment_of d)
  fragment_in (operation o) h = tt
  fragment_in (fragment f) h = h

  pub operations_here : (ds : List DefinitionAt) → DefinitionsBelow m ds → AllByRecursion OperationIn (operations ds)
  operations_here ds h = all_filter_map (DefinitionBelow m) OperationIn names.operation_of operation_in ds h

  pub fragments_here : (ds : List DefinitionAt) → DefinitionsBelow m ds → AllByRecursion FragmentIn (fragments ds)
  fragments_here ds h = all_filter_map (DefinitionBelow m) FragmentIn names.fragment_of fragment_in ds h

  pub sites_here : (d : DefinitionAt) → DefinitionBelow m d → AllByRecursion SiteIn (sites_of d)
  sites_here (operation o) h = h.4
  sites_here (fragment f) h = h.3

  pub there_of : (o : Option Located) → IfSome o NameIn → IfThere NameIn o
  there_of None h = tt
  there_of (Some n) h = h

  repeated_here : (ns : List Located) → AllByRecursion NameIn ns → Below m (repeated_names ns)
  repeated_here ns h = below_repeats m [] ns h

  -- ---- V1 to V6

  nameless_below : (first : ℕ) (o : Option Located) → first < m → Below m (names.nameless first o)
  nameless_below first None h = (h, tt)
  nameless_below first (Some n) h = tt

  V1 : (ds : List DefinitionAt) → DefinitionsBelow m ds → Below m (names.operations_not_named ds)
  V1 ds h =
      below_append m _ _ (below_each m OperationIn names.without_name (λ o g. nameless_below o.first o.name g.0) (operations ds) (operations_here ds h))
      (repeated_here (names.operation_names ds)
      (all_filter_map OperationIn NameIn (λ (o : OperationAt). o.name) (λ o g. there_of o.name g.1) (operations ds) (operations_here ds h)))

  V2 : (ds : List DefinitionAt) → DefinitionsBelow m ds → Below m (names.fragments_not_unique ds)
  V2 ds h = repeated_here (names.fragment_names ds) (all_map FragmentIn NameIn (λ (f : FragmentAt). f.name) (λ f g. g.0) (fragments ds) (fragments_here ds h))

  condition_in : (s : Site) → SiteIn s → IfThere NameIn (names.condition_at s)
  condition_in (field around a n xs ds has_set) h = tt
  condition_in (spread around n ds) h = tt
  condition_in (inline around first on ds) h = there_of on h.1

  conditions_here : (d : DefinitionAt) → DefinitionBelow m d → AllByRecursion NameIn (names.conditions_in d)
  conditions_here (operation o) h = all_filter_map SiteIn NameIn names.condition_at condition_in o.sites h.4
  conditions_here (fragment f) h = (h.1, all_filter_map SiteIn NameIn names.condition_at condition_in f.sites h.3)

  V3 : (defs : Defs) (ds : List DefinitionAt) → DefinitionsBelow m ds → Below m (names.conditions_wrong defs ds)
  V3 defs ds h =
      below_each m (DefinitionBelow m) (λ d. each (names.not_composite defs) (names.conditions_in d))
      (λ d g. below_each m NameIn (names.not_composite defs) (λ n k. below_wrong m _ n.at k) (names.conditions_in d) (conditions_here d g)) ds h

  spread_in : (s : Site) → SiteIn s → IfThere NameIn (names.spread_at s)
  spread_in (field around a n xs ds has_set) h = tt
  spread_in (spread around n ds) h = h.0
  spread_in (inline around first on ds) h = tt

  spreads_here : (ss : List Site) → AllByRecursion SiteIn ss → AllByRecursion NameIn (spreads_in ss)
  spreads_here ss h = all_filter_map SiteIn NameIn names.spread_at spread_in ss h

  V4 : (ds : List DefinitionAt) → DefinitionsBelow m ds → Below m (names.fragments_not_there ds)
  V4 ds h =
      let there = names.names_of_all (names.fragment_names ds) in
      below_each m (DefinitionBelow m) (λ d. each (names.not_there there) (spreads_in (sites_of d)))
      (λ d g. below_each m NameIn (names.not_there there) (λ n k. below_wrong m _ n.at k) (spreads_in (sites_of d)) (spreads_here (sites_of d) (sites_here d g))) ds h

  V5 : (ds : List DefinitionAt) → DefinitionsBelow m ds → Below m (names.spreads_on_cycles ds)
  V5 ds h =
      below_each m FragmentIn (λ (f : FragmentAt). each (names.leads_back (fragments ds) f) (spreads_in f.sites))
      (λ f g. below_each m NameIn (names.leads_back (fragments ds) f) (λ n k. below_wrong m _ n.at k) (spreads_in f.sites) (spreads_here f.sites g.3))
      (fragments ds) (fragments_here ds h)

  without_root_below : (defs : Defs) (o : OperationAt) (n : Option Located) → IfSome n NameIn → Below m (names.without_root defs o n)
  without_root_below defs o None h = tt
  without_root_below defs o (Some n) h = below_wrong m _ n.at h

  V6 : (defs : Defs) (ds : List DefinitionAt) → DefinitionsBelow m ds → Below m (names.roots_missing defs ds)
  V6 defs ds h =
      below_each m OperationIn (λ (o : OperationAt). names.without_root defs o o.name) (λ o g. without_root_below defs o o.name g.1) (operations ds) (operations_here ds h)

  -- ---- V7 to V11

  pub each_site : (f : Site → List ℕ) → ((s : Site) → SiteIn s → Below m (f s)) → (ds : List DefinitionAt) → DefinitionsBelow m ds → Below m (each (λ d. each f (sites_of d)) ds)
  each_site f g ds h = below_each m (DefinitionBelow m) (λ d. each f (sites_of d)) (λ d k. below_each m SiteIn f g (sites_of d) (sites_here d k)) ds h

  V7 : (defs : Defs) (ds : List DefinitionAt) → DefinitionsBelow m ds → Below m (fields.fields_undefined defs ds)
  V7 defs ds h = each_site (fields.undefined_at defs) one ds h where
    one : (s : Site) → SiteIn s → Below m (fields.undefined_at defs s)
    one (field around a n xs ds has_set) g = below_wrong m _ n.at g.1
    one (spread around n ds) g = tt
    one (inline around first on ds) g = tt

  V8 : (defs : Defs) (ds : List DefinitionAt) → DefinitionsBelow m ds → Below m (fields.sets_wrong defs ds)
  V8 defs ds h = each_site (fields.set_wrong_at defs) one ds h where
    one : (s : Site) → SiteIn s → Below m (fields.set_wrong_at defs s)
    one (field around a n xs ds has_set) g = below_wrong m _ n.at g.1
    one (spread around n ds) g = tt
    one (inline around first on ds) g = tt

  V9 : (defs : Defs) (ds : List DefinitionAt) → DefinitionsBelow m ds → Below m (fields.floats_selected defs ds)
  V9 defs ds h = each_site (fields.float_at defs) one ds h where
    one : (s : Site) → SiteIn s → Below m (fields.float_at defs s)
    one (field around a n xs ds has_set) g = below_wrong m _ n.at g.1
    one (spread around n ds) g = tt
    one (inline around first on ds) g = tt

  V10 : (defs : Defs) (ds : List DefinitionAt) → DefinitionsBelow m ds → Below m (fields.conditions_never_apply defs ds)
  V10 defs ds h = each_site (fields.never_applies_at defs (fragments ds)) one ds h where
    one : (s : Site) → SiteIn s → Below m (fields.never_applies_at defs (fragments ds) s)
    one (field around a n xs directives has_set) g = tt
    one (spread around n directives) g = below_wrong m _ n.at g.0
    one (inline around first on directives) g = below_wrong m _ first g.0

  many_keys_below : (defs : Defs) (fs : List FragmentAt) (o : OperationAt) (r : Option Text) (n : Option Located) → IfSome n NameIn
      → Below m (fields.many_keys defs fs o.selections r n)
  many_keys_below defs fs o None n h = tt
  many_keys_below defs fs o (Some r) None h = tt
  many_keys_below defs fs o (Some r) (Some n) h = below_wrong m _ n.at h

  V11 : (defs : Defs) (ds : List DefinitionAt) → DefinitionsBelow m ds → Below m (fields.subscriptions_wrong defs ds)
  V11 defs ds h =
      below_each m OperationIn (fields.subscription_wrong defs (fragments ds))
      (λ o g. below_cond m (same_kind o.kind Subscription) (fields.many_keys defs (fragments ds) o.selections (root defs o.kind) o.name) []
      (many_keys_below defs (fragments ds) o (root defs o.kind) o.name g.1) tt)
      (operations ds) (operations_here ds h)

  -- ---- calls: names of fields and of directives, and what they are given

  abbrev CallIn : Call → Type 0
  CallIn c = NameIn c.name × AllByRecursion ArgumentIn c.arguments

  directive_calls_here : (defs : Defs) (ds : List DirectiveAt) → AllByRecursion DirectiveIn ds → AllByRecursion CallIn (arguments.directive_calls defs ds)
  directive_calls_here defs ds h = all_map DirectiveIn CallIn (arguments.directive_call defs) (λ d g. (g.0, g.1)) ds h

  calls_at_here : (defs : Defs) (s : Site) → SiteIn s → AllByRecursion CallIn (arguments.calls_at defs s)
  calls_at_here defs (field around a n xs ds has_set) h = ((h.1, h.2), directive_calls_here defs ds h.3)
  calls_at_here defs (spread around n ds) h = directive_calls_here defs ds h.1
  calls_at_here defs (inline around first on ds) h = directive_calls_here defs ds h.2

  calls_in_here : (defs : Defs) (ds : List DirectiveAt) (ss : List Site) → AllByRecursion DirectiveIn ds → AllByRecursion SiteIn ss → AllByRecursion CallIn (arguments.calls_in defs ds ss)
  calls_in_here defs ds ss h g =
      all_append CallIn _ _ (directive_calls_here defs ds h) (all_each SiteIn CallIn (arguments.calls_at defs) (calls_at_here defs) ss g)

  calls_here : (defs : Defs) (d : DefinitionAt) → DefinitionBelow m d → AllByRecursion CallIn (arguments.calls_of defs d)
  calls_here defs (operation o) h =
      all_append CallIn _ _
      (all_each VariableIn CallIn (λ (x : VariableAt). arguments.directive_calls defs x.directives) (λ x g. directive_calls_here defs x.directives g.2) o.variables h.2)
      (calls_in_here defs o.directives o.sites h.3 h.4)
  calls_here defs (fragment f) h = calls_in_here defs f.directives f.sites h.2 h.3

  argument_names_here : (xs : List ArgumentAt) → AllByRecursion ArgumentIn xs → AllByRecursion NameIn (arguments.argument_names xs)
  argument_names_here xs h = all_map ArgumentIn NameIn (λ (a : ArgumentAt). a.name) (λ a g. g.0) xs h

  not_taken_below : (t : Takes) (n : Located) → NameIn n → Below m (arguments.not_taken t n)
  not_taken_below (inputs is) n h = below_wrong m _ n.at h
  not_taken_below free n h = tt
  not_taken_below unknown n h = tt

  each_call : (defs : Defs) (f : Call → List ℕ) → ((c : Call) → CallIn c → Below m (f c)) → (ds : List DefinitionAt) → DefinitionsBelow m ds
      → Below m (each (λ d. each f (arguments.calls_of defs d)) ds)
  each_call defs f g ds h =
      below_each m (DefinitionBelow m) (λ d. each f (arguments.calls_of defs d)) (λ d k. below_each m CallIn f g (arguments.calls_of defs d) (calls_here defs d k)) ds h

  V12 : (defs : Defs) (ds : List DefinitionAt) → DefinitionsBelow m ds → Below m (arguments.arguments_wrong defs ds)
  V12 defs ds h =
      each_call defs arguments.arguments_of_call_wrong
      (λ c g. below_append m _ _
      (below_each m NameIn (arguments.not_taken c.takes) (not_taken_below c.takes) (arguments.argument_names c.arguments) (argument_names_here c.arguments g.1))
      (repeated_here (arguments.argument_names c.arguments) (argument_names_here c.arguments g.1))) ds h

  V13 : (defs : Defs) (ds : List DefinitionAt) → DefinitionsBelow m ds → Below m (arguments.arguments_missing defs ds)
  V13 defs ds h = each_call defs arguments.argument_missing (λ c g. below_wrong m _ c.name.at g.0) ds h

  value_first : (x : Val) (at : ℕ) → ValueIn x at → at < m
  value_first x at h = omega (arith, h, value_some x)

  default_unfit_below : (defs : Defs) (t : Ty) (o : Option ValueAt) → IfSome o (λ (x : ValueAt). ValueIn x.of x.at) → Below m (arguments.default_unfit defs t o)
  default_unfit_below defs t None h = tt
  default_unfit_below defs t (Some x) h = below_wrong m _ x.at (value_first x.of x.at h)

  defaults_unfit_below : (defs : Defs) (d : DefinitionAt) → DefinitionBelow m d → Below m (arguments.defaults_unfit defs d)
  defaults_unfit_below defs (operation o) h =
      below_each m VariableIn (λ (x : VariableAt). arguments.default_unfit defs (ty_of x.defined.of) x.default)
      (λ x g. default_unfit_below defs (ty_of x.defined.of) x.default g.1) o.variables h.2
  defaults_unfit_below defs (fragment f) h = tt

  V14 : (defs : Defs) (ds : List DefinitionAt) → DefinitionsBelow m ds → Below m (arguments.literals_unfit defs ds)
  V14 defs ds h =
      below_each m (DefinitionBelow m) (λ d. arguments.defaults_unfit defs d ++ each (arguments.arguments_unfit defs) (arguments.calls_of defs d)) one ds h
    where
      unfit : (c : Call) → CallIn c → Below m (arguments.arguments_unfit defs c)
      unfit c g = below_each m ArgumentIn (arguments.argument_unfit defs c.takes) (λ a k. below_wrong m _ a.value.at (value_first a.value.of a.value.at k.1)) c.arguments g.1

      one : (d : DefinitionAt) → DefinitionBelow m d → Below m (arguments.defaults_unfit defs d ++ each (arguments.arguments_unfit defs) (arguments.calls_of defs d))
      one d g =
          below_append m (arguments.defaults_unfit defs d) (each (arguments.arguments_unfit defs) (arguments.calls_of defs d)) (defaults_unfit_below defs d g)
          (below_each m CallIn (arguments.arguments_unfit defs) unfit (arguments.calls_of defs d) (calls_here defs d g))

  abbrev DirectedIn : Directed → Type 0
  DirectedIn d = AllByRecursion DirectiveIn d.directives

  directed_site : (s : Site) → SiteIn s → DirectedIn (arguments.directed_at s)
  directed_site (field around a n xs ds has_set) h = h.3
  directed_site (spread around n ds) h = h.1
  directed_site (inline around first on ds) h = h.2

  directed_here : (d : DefinitionAt) → DefinitionBelow m d → AllByRecursion DirectedIn (arguments.directed_in d)
  directed_here (operation o) h =
      all_append DirectedIn _ _ (all_map VariableIn DirectedIn arguments.directed_variable (λ x g. g.2) o.variables h.2)
      (h.3, all_map SiteIn DirectedIn arguments.directed_at directed_site o.sites h.4)
  directed_here (fragment f) h = (h.2, all_map SiteIn DirectedIn arguments.directed_at directed_site f.sites h.3)

  directed_below : (defs : Defs) (d : Directed) → DirectedIn d → Below m (arguments.directed_wrong defs d)
  directed_below defs d h =
      below_append m _ _ (below_each m DirectiveIn (arguments.stands_wrong defs d.location) (λ x g. below_wrong m (not (arguments.may_stand d.location (known.directive defs x.name.name))) x.name.at g.0) d.directives h)
      (repeated_here (arguments.names_once defs d.directives)
      (all_filter NameIn (λ (n : Located). arguments.stands_once (known.directive defs n.name)) _ (all_map DirectiveIn NameIn (λ (x : DirectiveAt). x.name) (λ x g. g.0) d.directives h)))

  V15 : (defs : Defs) (ds : List DefinitionAt) → DefinitionsBelow m ds → Below m (arguments.directives_wrong defs ds)
  V15 defs ds h =
      below_each m (DefinitionBelow m) (λ d. each (arguments.directed_wrong defs) (arguments.directed_in d))
      (λ d g. below_each m DirectedIn (arguments.directed_wrong defs) (directed_below defs) (arguments.directed_in d) (directed_here d g)) ds h

  -- ---- uses of variables

  abbrev UseIn : Use → Type 0
  UseIn u = NameIn u.name

  mutual
    uses_here : (defs : Defs) (from : ℕ) (x : Val) (p : Option Place) → from + value_nodes x ≤ m → AllByRecursion UseIn (arguments.uses_in defs from x p)
    uses_here defs from (v.variable n) p h = (omega (arith, h), tt)
    uses_here defs from (v.int n) p h = tt
    uses_here defs from (v.text t) p h = tt
    uses_here defs from (v.truth b) p h = tt
    uses_here defs from v.null p h = tt
    uses_here defs from (v.enum n) p h = tt
    uses_here defs from (v.list vs) p h = items_here defs (from + 1) vs (arguments.item_place p) (omega (arith, h))
    uses_here defs from (v.object ms) p h = members_here defs (from + 1) ms (arguments.fields_at defs p) (omega (arith, h))

    items_here : (defs : Defs) (from : ℕ) (vs : Vals) (p : Option Place) → from + values_nodes vs ≤ m → AllByRecursion UseIn (arguments.uses_in_items defs from vs p)
    items_here defs from no_vals p h = tt
    items_here defs from (val x vs) p h =
        all_append UseIn _ _ (uses_here defs from x p (omega (arith, h))) (items_here defs (from + value_nodes x) vs p (omega (arith, h)))

    members_here : (defs : Defs) (from : ℕ) (ms : Members) (is : Option (List InputTree)) → from + members_nodes ms ≤ m → AllByRecursion UseIn (arguments.uses_in_members defs from ms is)
    members_here defs from no_members is h = tt
    members_here defs from (member n x ms) is h =
        all_append UseIn _ _ (uses_here defs (from + 2) x (arguments.place_among is n) (omega (arith, h))) (members_here defs (from + (2 + value_nodes x)) ms is (omega (arith, h)))

  uses_of_here : (defs : Defs) (ds : List DirectiveAt) (ss : List Site) → AllByRecursion DirectiveIn ds → AllByRecursion SiteIn ss → AllByRecursion UseIn (arguments.uses_of defs ds ss)
  uses_of_here defs ds ss h g =
      all_each CallIn UseIn (arguments.uses_of_call defs)
      (λ c k. all_each ArgumentIn UseIn (arguments.uses_of_argument defs c.takes)
      (λ a l. uses_here defs a.value.at a.value.of (arguments.place_of_argument c.takes a.name.name) l.1) c.arguments k.1)
      (arguments.calls_in defs ds ss) (calls_in_here defs ds ss h g)

  uses_below : (vs : List VariableAt) (locals : List Text) (us : List Use) → AllByRecursion UseIn us → Below m (each (arguments.use_wrong vs locals) us)
  uses_below vs locals us h = below_each m UseIn (arguments.use_wrong vs locals) (λ u g. below_wrong m _ u.name.at g) us h

  V16 : (defs : Defs) (ds : List DefinitionAt) → DefinitionsBelow m ds → Below m (arguments.variables_wrong defs ds)
  V16 defs ds h = below_each m OperationIn (arguments.variables_of_wrong defs (fragments ds)) one (operations ds) (operations_here ds h) where
    inside : (o : OperationAt) (f : FragmentAt) → FragmentIn f → Below m (arguments.uses_wrong_in defs (fragments ds) o f)
    inside o f g = below_cond m _ (each (arguments.use_wrong o.variables (arguments.local_names f)) (arguments.uses_of defs f.directives f.sites)) []
        (uses_below o.variables (arguments.local_names f) (arguments.uses_of defs f.directives f.sites) (uses_of_here defs f.directives f.sites g.2 g.3)) tt

    one : (o : OperationAt) → OperationIn o → Below m (arguments.variables_of_wrong defs (fragments ds) o)
    one o g =
        below_append m _ _
        (below_append m _ _
        (below_append m _ _ (repeated_here _ (all_map VariableIn NameIn (λ (x : VariableAt). x.name) (λ x k. k.0) o.variables g.2))
        (below_each m VariableIn (arguments.not_input defs) (λ x k. below_wrong m _ x.name.at k.0) o.variables g.2))
        (uses_below o.variables [] (arguments.uses_of defs o.directives o.sites) (uses_of_here defs o.directives o.sites g.3 g.4)))
        (below_each m FragmentIn (arguments.uses_wrong_in defs (fragments ds) o) (inside o) (fragments ds) (fragments_here ds h))

  -- ---- the places of each rule

  pub name_rules_below : (defs : Defs) (ds : List DefinitionAt) → DefinitionsBelow m ds → AllByRecursion (λ (r : Rule × List ℕ). Below m r.1) (name_rules defs ds)
  name_rules_below defs ds h = (V1 ds h, (V2 ds h, (V3 defs ds h, (V4 ds h, (V5 ds h, (V6 defs ds h, tt))))))

  pub field_rules_below : (defs : Defs) (ds : List DefinitionAt) → DefinitionsBelow m ds → AllByRecursion (λ (r : Rule × List ℕ). Below m r.1) (field_rules defs ds)
  field_rules_below defs ds h = (V7 defs ds h, (V8 defs ds h, (V9 defs ds h, (V10 defs ds h, (V11 defs ds h, tt)))))

  pub argument_rules_below : (defs : Defs) (ds : List DefinitionAt) → DefinitionsBelow m ds → AllByRecursion (λ (r : Rule × List ℕ). Below m r.1) (argument_rules defs ds)
  argument_rules_below defs ds h = (V12 defs ds h, (V13 defs ds h, (V14 defs ds h, (V15 defs ds h, (V16 defs ds h, tt)))))

-- the first fault of documents by rules on names is at one of their nodes
pub name_fault_below : (defs : Defs) (ds : List Document) (r : Rule) (node : ℕ) → first_broken (name_rules defs (all_definitions defs ds)) ≡ Some (r, node) → node < documents_nodes ds
name_fault_below defs ds r node e =
    below_first (documents_nodes ds) (name_rules defs (all_definitions defs ds)) (name_rules_below (documents_nodes ds) defs (all_definitions defs ds) (all_below defs ds)) (r, node) e

-- by rules on fields
pub field_fault_below : (defs : Defs) (ds : List Document) (r : Rule) (node : ℕ) → first_broken (field_rules defs (all_definitions defs ds)) ≡ Some (r, node) → node < documents_nodes ds
field_fault_below defs ds r node e =
    below_first (documents_nodes ds) (field_rules defs (all_definitions defs ds)) (field_rules_below (documents_nodes ds) defs (all_definitions defs ds) (all_below defs ds)) (r, node) e

-- by rules on arguments, directives and variables
pub argument_fault_below : (defs : Defs) (ds : List Document) (r : Rule) (node : ℕ) → first_broken (argument_rules defs (all_definitions defs ds)) ≡ Some (r, node) → node < documents_nodes ds
argument_fault_below defs ds r node e =
    below_first (documents_nodes ds) (argument_rules defs (all_definitions defs ds)) (argument_rules_below (documents_nodes ds) defs (all_definitions defs ds) (all_below defs ds)) (r, node) e
