-- Each place where a rule of schemas does not hold is that of a node of the schema.
use Rattle.std.proofs.Common.{◌≡◌, ℕ, ◌<◌, Bool, true, false, cond, not, List, [], ◌∷◌, Option, Some, None, is_some, bytes_eq, filter, arith}
use Rattle.std.specs.List.{AllByRecursion, filter_map, list_any}
use Rattle.schema_trees.specs.gql_ast.TypeView.{ty_of}
use Rattle.schema_trees.specs.gql_ast.Value.{Val}
use Rattle.schema_trees.specs.gql_ast.declared.document.Kind.{Kind}
use Rattle.schema_trees.specs.gql_ast.declared.document.Kind.TheVariants.{Query}
use Rattle.schema_trees.specs.gql_ast.declared.member.FieldTree.{FieldTree}
use Rattle.schema_trees.specs.gql_ast.declared.member.InputTree.{InputTree}
use Rattle.schema_rules.specs.declared.fault.Rule.{Rule}
use Rattle.schema_rules.specs.Checked.{first_fault}
use Rattle.schema_rules.specs.Rules as rule
use Rattle.schema_rules.specs.Rules.{each, names_of, wrong, named_at, repeated_names, type_name_of, directive_name_of, fields_in, interfaces_in, union_members_in, enum_values_in, input_fields_in, inputs_in, roots_in, input_names, field_names, root_names, defined_name, has_effect}
use Rattle.schema_trees.specs.schema_tables.Types.{Text, Defs, type_named, fields_named, default_root, is_output_kind, is_input_kind, is_empty, built_in_scalars}
use Rattle.schema_trees.proofs.BelowSteps.{IfThere, all_append, all_each, all_map, all_filter, all_filter_map, below_append, below_wrong, below_each, below_every, below_repeats, below_first}
use Rattle.schema_trees.proofs.NumberLaws.{located_below}
use Rattle.schema_trees.specs.Located.{Located, InputAt, FieldAt, RootAt, DefAt, schema, scalar, object, interface, union, enum, input, directive, locate}
use Rattle.schema_trees.specs.Numbers.{HoldsInput, HoldsField, DefBelow, DefsBelow, Below, schema_nodes}

module _ (m : ℕ) where
  abbrev NameIn : Located → Type 0
  NameIn n = n.at < m

  abbrev InputIn : InputAt → Type 0
  InputIn i = HoldsInput (λ t n. n < m) (λ t n. n < m) i

  abbrev FieldIn : FieldAt → Type 0
  FieldIn f = HoldsField (λ t n. n < m) (λ t n. n < m) f

  abbrev RootIn : RootAt → Type 0
  RootIn r = r.name.at < m

  -- ---- the parts of definitions

  type_name_in : (d : DefAt) → DefBelow m d → IfThere NameIn (type_name_of d)
  type_name_in (schema at rs) h = tt
  type_name_in (scalar n) h = h
  type_name_in (object n is fs) h = h.0
  type_name_in (interface n is fs) h = h.0
  type_name_in (union n ms) h = h.0
  type_name_in (enum n vs) h = h.0
  type_name_in (input n fs) h = h.0
  type_name_in (directive n xs) h = tt

  directive_name_in : (d : DefAt) → DefBelow m d → IfThere NameIn (directive_name_of d)
  directive_name_in (schema at rs) h = tt
  directive_name_in (scalar n) h = tt
  directive_name_in (object n is fs) h = tt
  directive_name_in (interface n is fs) h = tt
  directive_name_in (union n ms) h = tt
  directive_name_in (enum n vs) h = tt
  directive_name_in (input n fs) h = tt
  directive_name_in (directive n xs) h = h.0

  defined_name_in : (d : DefAt) → DefBelow m d → AllByRecursion NameIn (defined_name d)
  defined_name_in (schema at rs) h = tt
  defined_name_in (scalar n) h = (h, tt)
  defined_name_in (object n is fs) h = (h.0, tt)
  defined_name_in (interface n is fs) h = (h.0, tt)
  defined_name_in (union n ms) h = (h.0, tt)
  defined_name_in (enum n vs) h = (h.0, tt)
  defined_name_in (input n fs) h = (h.0, tt)
  defined_name_in (directive n xs) h = (h.0, tt)

  fields_here : (d : DefAt) → DefBelow m d → AllByRecursion FieldIn (fields_in d)
  fields_here (schema at rs) h = tt
  fields_here (scalar n) h = tt
  fields_here (object n is fs) h = h.2
  fields_here (interface n is fs) h = h.2
  fields_here (union n ms) h = tt
  fields_here (enum n vs) h = tt
  fields_here (input n fs) h = tt
  fields_here (directive n xs) h = tt

  interfaces_here : (d : DefAt) → DefBelow m d → AllByRecursion NameIn (interfaces_in d)
  interfaces_here (schema at rs) h = tt
  interfaces_here (scalar n) h = tt
  interfaces_here (object n is fs) h = h.1
  interfaces_here (interface n is fs) h = h.1
  interfaces_here (union n ms) h = tt
  interfaces_here (enum n vs) h = tt
  interfaces_here (input n fs) h = tt
  interfaces_here (directive n xs) h = tt

  members_here : (d : DefAt) → DefBelow m d → AllByRecursion NameIn (union_members_in d)
  members_here (schema at rs) h = tt
  members_here (scalar n) h = tt
  members_here (object n is fs) h = tt
  members_here (interface n is fs) h = tt
  members_here (union n ms) h = h.1
  members_here (enum n vs) h = tt
  members_here (input n fs) h = tt
  members_here (directive n xs) h = tt

  enum_values_here : (d : DefAt) → DefBelow m d → AllByRecursion NameIn (enum_values_in d)
  enum_values_here (schema at rs) h = tt
  enum_values_here (scalar n) h = tt
  enum_values_here (object n is fs) h = tt
  enum_values_here (interface n is fs) h = tt
  enum_values_here (union n ms) h = tt
  enum_values_here (enum n vs) h = h.1
  enum_values_here (input n fs) h = tt
  enum_values_here (directive n xs) h = tt

  input_fields_here : (d : DefAt) → DefBelow m d → AllByRecursion InputIn (input_fields_in d)
  input_fields_here (schema at rs) h = tt
  input_fields_here (scalar n) h = tt
  input_fields_here (object n is fs) h = tt
  input_fields_here (interface n is fs) h = tt
  input_fields_here (union n ms) h = tt
  input_fields_here (enum n vs) h = tt
  input_fields_here (input n fs) h = h.1
  input_fields_here (directive n xs) h = tt

  arguments_here : (fs : List FieldAt) → AllByRecursion FieldIn fs → AllByRecursion InputIn (each (λ (f : FieldAt). f.arguments) fs)
  arguments_here fs h = all_each FieldIn InputIn (λ (f : FieldAt). f.arguments) (λ f g. g.1) fs h

  inputs_here : (d : DefAt) → DefBelow m d → AllByRecursion InputIn (inputs_in d)
  inputs_here (schema at rs) h = tt
  inputs_here (scalar n) h = tt
  inputs_here (object n is fs) h = arguments_here fs h.2
  inputs_here (interface n is fs) h = arguments_here fs h.2
  inputs_here (union n ms) h = tt
  inputs_here (enum n vs) h = tt
  inputs_here (input n fs) h = h.1
  inputs_here (directive n xs) h = h.1

  roots_here : (d : DefAt) → DefBelow m d → AllByRecursion RootIn (roots_in d)
  roots_here (schema at rs) h = h.1
  roots_here (scalar n) h = tt
  roots_here (object n is fs) h = tt
  roots_here (interface n is fs) h = tt
  roots_here (union n ms) h = tt
  roots_here (enum n vs) h = tt
  roots_here (input n fs) h = tt
  roots_here (directive n xs) h = tt

  field_names_here : (fs : List FieldAt) → AllByRecursion FieldIn fs → AllByRecursion NameIn (field_names fs)
  field_names_here fs h = all_map FieldIn NameIn (λ (f : FieldAt). f.name) (λ f g. g.0) fs h

  input_names_here : (is : List InputAt) → AllByRecursion InputIn is → AllByRecursion NameIn (input_names is)
  input_names_here is h = all_map InputIn NameIn (λ (i : InputAt). i.name) (λ i g. g.0) is h

  root_names_here : (rs : List RootAt) → AllByRecursion RootIn rs → AllByRecursion NameIn (root_names rs)
  root_names_here rs h = all_map RootIn NameIn (λ (r : RootAt). r.name) (λ r g. g) rs h

  repeated_here : (ns : List Located) → AllByRecursion NameIn ns → Below m (repeated_names ns)
  repeated_here ns h = below_repeats m [] ns h

  -- ---- the rules

  further_below : (seen : Bool) (ds : List DefAt) → DefsBelow m ds → Below m (rule.further_schemas seen ds)
  further_below seen [] h = tt
  further_below seen (schema at rs ∷ ds) h = below_append m (wrong seen at) (rule.further_schemas _ ds) (below_wrong m seen at h.0.0) (further_below _ ds h.1)
  further_below seen (scalar n ∷ ds) h = further_below seen ds h.1
  further_below seen (object n is fs ∷ ds) h = further_below seen ds h.1
  further_below seen (interface n is fs ∷ ds) h = further_below seen ds h.1
  further_below seen (union n ms ∷ ds) h = further_below seen ds h.1
  further_below seen (enum n vs ∷ ds) h = further_below seen ds h.1
  further_below seen (input n fs ∷ ds) h = further_below seen ds h.1
  further_below seen (directive n xs ∷ ds) h = further_below seen ds h.1

  kinds_below : (before : List Kind) (rs : List RootAt) → AllByRecursion RootIn rs → Below m (rule.repeated_kinds before rs)
  kinds_below before [] h = tt
  kinds_below before (r ∷ rs) h =
      below_append m (wrong (rule.has_kind before r.kind) r.name.at) (rule.repeated_kinds (r.kind ∷ before) rs)
      (below_wrong m (rule.has_kind before r.kind) r.name.at h.0) (kinds_below (r.kind ∷ before) rs h.1)

  S1 : (ds : List DefAt) → DefsBelow m ds → Below m (rule.names_not_unique ds)
  S1 ds h =
      let names = below_repeats m built_in_scalars (filter_map type_name_of ds) (all_filter_map (DefBelow m) NameIn type_name_of type_name_in ds h) in
      let directives = repeated_here (filter_map directive_name_of ds) (all_filter_map (DefBelow m) NameIn directive_name_of directive_name_in ds h) in
      let further = further_below _ ds h in
      let kinds = below_each m (DefBelow m) (λ d. rule.repeated_kinds [] (roots_in d)) (λ d g. kinds_below [] (roots_in d) (roots_here d g)) ds h in
      below_append m _ _ (below_append m _ _ (below_append m _ _ names directives) further) kinds

  used_here : (d : DefAt) → DefBelow m d → AllByRecursion NameIn (rule.used_in d)
  used_here d h =
      let outputs = all_map FieldIn NameIn (λ (f : FieldAt). named_at f.of) (λ f g. g.2) (fields_in d) (fields_here d h) in
      let ins = all_map InputIn NameIn (λ (i : InputAt). named_at i.of) (λ i g. g.1) (inputs_in d) (inputs_here d h) in
      all_append NameIn _ _ (all_append NameIn _ _ (all_append NameIn _ _ (all_append NameIn _ _ (root_names_here (roots_in d) (roots_here d h)) (interfaces_here d h)) (members_here d h)) outputs) ins

  S2 : (defs : Defs) (ds : List DefAt) → DefsBelow m ds → Below m (rule.types_not_defined defs ds)
  S2 defs ds h =
      below_each m (DefBelow m) (λ d. each (rule.not_defined defs) (rule.used_in d))
      (λ d g. below_each m NameIn (rule.not_defined defs) (λ n k. below_wrong m _ n.at k) (rule.used_in d) (used_here d g)) ds h

  objects_below : (defs : Defs) (ns : List Located) → AllByRecursion NameIn ns → Below m (each (rule.not_object defs) ns)
  objects_below defs ns h = below_each m NameIn (rule.not_object defs) (λ n k. below_wrong m _ n.at k) ns h

  roots_below : (defs : Defs) (rs : List RootAt) → 0 < m → AllByRecursion RootIn rs → Below m (rule.roots_wrong defs rs)
  roots_below defs rs some h =
      below_append m _ _
      (below_append m _ _ (below_wrong m (not (rule.gives_query rs)) rule.first_node some) (objects_below defs (root_names rs) (root_names_here rs h)))
      (repeated_here (root_names rs) (root_names_here rs h))

  default_roots_below : (defs : Defs) (ds : List DefAt) → 0 < m → DefsBelow m ds → Below m (rule.default_roots_wrong defs ds)
  default_roots_below defs ds some h =
      below_append m _ _ (below_wrong m (not (is_some (type_named defs (default_root Query)))) rule.first_node some)
      (below_each m NameIn (rule.default_root_wrong defs) (λ n k. below_wrong m _ n.at k) (filter_map type_name_of ds)
      (all_filter_map (DefBelow m) NameIn type_name_of type_name_in ds h))

  given_roots : (ds : List DefAt) → DefsBelow m ds → IfThere (AllByRecursion RootIn) (rule.roots_given ds)
  given_roots [] h = tt
  given_roots (schema at rs ∷ ds) h = h.0.1
  given_roots (scalar n ∷ ds) h = given_roots ds h.1
  given_roots (object n is fs ∷ ds) h = given_roots ds h.1
  given_roots (interface n is fs ∷ ds) h = given_roots ds h.1
  given_roots (union n ms ∷ ds) h = given_roots ds h.1
  given_roots (enum n vs ∷ ds) h = given_roots ds h.1
  given_roots (input n fs ∷ ds) h = given_roots ds h.1
  given_roots (directive n xs ∷ ds) h = given_roots ds h.1

  S3 : (defs : Defs) (ds : List DefAt) → 0 < m → DefsBelow m ds → Below m (rule.root_types_wrong defs ds)
  S3 defs ds some h = split (rule.roots_given ds) (given_roots ds h) where
    split : (o : Option (List RootAt)) → IfThere (AllByRecursion RootIn) o → Below m (rule.roots_wrong_in defs ds o)
    split None g = default_roots_below defs ds some h
    split (Some rs) g = roots_below defs rs some g

  defined_here : (d : DefAt) → DefBelow m d → AllByRecursion NameIn (rule.defined_names d)
  defined_here d h =
      all_append NameIn _ _
      (all_append NameIn _ _ (all_append NameIn _ _ (defined_name_in d h) (field_names_here (fields_in d) (fields_here d h))) (input_names_here (inputs_in d) (inputs_here d h)))
      (enum_values_here d h)

  S4 : (ds : List DefAt) → DefsBelow m ds → Below m (rule.names_reserved ds)
  S4 ds h =
      below_each m (DefBelow m) (λ d. each rule.reserved_name (rule.defined_names d))
      (λ d g. below_each m NameIn rule.reserved_name (λ n k. below_wrong m _ n.at k) (rule.defined_names d) (defined_here d g)) ds h

  S5 : (ds : List DefAt) → DefsBelow m ds → Below m (rule.members_not_unique ds)
  S5 ds h = below_each m (DefBelow m) rule.repeated_in one ds h where
    one : (d : DefAt) → DefBelow m d → Below m (rule.repeated_in d)
    one d g =
        let fields = repeated_here (field_names (fields_in d)) (field_names_here (fields_in d) (fields_here d g)) in
        let arguments = below_each m FieldIn (λ (f : FieldAt). repeated_names (input_names f.arguments))
        (λ f k. repeated_here (input_names f.arguments) (input_names_here f.arguments k.1)) (fields_in d) (fields_here d g) in
        let values = repeated_here (enum_values_in d) (enum_values_here d g) in
        let members = repeated_here (union_members_in d) (members_here d g) in
        let ins = repeated_here (input_names (input_fields_in d)) (input_names_here (input_fields_in d) (input_fields_here d g)) in
        let interfaces = repeated_here (interfaces_in d) (interfaces_here d g) in
        below_append m _ _ (below_append m _ _ (below_append m _ _ (below_append m _ _ (below_append m _ _ fields arguments) values) members) ins) interfaces

  S6 : (defs : Defs) (ds : List DefAt) → DefsBelow m ds → Below m (rule.kinds_wrong defs ds)
  S6 defs ds h = below_each m (DefBelow m) (rule.kinds_wrong_in defs) one ds h where
    one : (d : DefAt) → DefBelow m d → Below m (rule.kinds_wrong_in defs d)
    one d g =
        below_append m _ _
        (below_each m FieldIn (λ (f : FieldAt). rule.not_of is_output_kind defs f.of) (λ f k. below_wrong m _ f.of.at k.2) (fields_in d) (fields_here d g))
        (below_each m InputIn (λ (i : InputAt). rule.not_of is_input_kind defs i.of) (λ i k. below_wrong m _ i.of.at k.1) (inputs_in d) (inputs_here d g))

  S7 : (defs : Defs) (ds : List DefAt) → DefsBelow m ds → Below m (rule.interfaces_wrong defs ds)
  S7 defs ds h = below_each m (DefBelow m) (rule.implements_wrong_in defs) one ds h where
    both : (n : Located) (is : List Located) → NameIn n → AllByRecursion NameIn is → Below m (rule.implements_wrong defs n is)
    both n is g k =
        below_append m _ _ (below_each m NameIn (rule.cannot_implement defs n.name) (λ i l. below_wrong m _ i.at l) is k)
        (below_wrong m (list_any (rule.leaves_out defs (names_of is)) (names_of is)) n.at g)

    one : (d : DefAt) → DefBelow m d → Below m (rule.implements_wrong_in defs d)
    one (schema at rs) g = tt
    one (scalar n) g = tt
    one (object n is fs) g = both n is g.0 g.1
    one (interface n is fs) g = both n is g.0 g.1
    one (union n ms) g = tt
    one (enum n vs) g = tt
    one (input n fs) g = tt
    one (directive n xs) g = tt

  field_found_here : (fs : List FieldAt) (n : Text) → AllByRecursion FieldIn fs → IfThere FieldIn (rule.field_found fs n)
  field_found_here [] n h = tt
  field_found_here (f ∷ fs) n h = split (bytes_eq f.name.name n) (field_found_here fs n h.1) where
    split : (b : Bool) → IfThere FieldIn (rule.field_found fs n) → IfThere FieldIn (cond b (Some f) (rule.field_found fs n))
    split true g = h.0
    split false g = g

  input_found_here : (is : List InputAt) (n : Text) → AllByRecursion InputIn is → IfThere InputIn (rule.input_found is n)
  input_found_here [] n h = tt
  input_found_here (i ∷ is) n h = split (bytes_eq i.name.name n) (input_found_here is n h.1) where
    split : (b : Bool) → IfThere InputIn (rule.input_found is n) → IfThere InputIn (cond b (Some i) (rule.input_found is n))
    split true g = h.0
    split false g = g

  argument_below : (lacks : ℕ) (o : Option InputAt) (wanted : InputTree) → lacks < m → IfThere InputIn o → Below m (rule.argument_differs lacks o wanted)
  argument_below lacks None wanted h g = (h, tt)
  argument_below lacks (Some i) wanted h g = below_wrong m _ i.of.at g.1

  field_below : (defs : Defs) (lacks : ℕ) (o : Option FieldAt) (wanted : FieldTree) → lacks < m → IfThere FieldIn o → Below m (rule.field_differs defs lacks o wanted)
  field_below defs lacks None wanted h g = (h, tt)
  field_below defs lacks (Some f) wanted h g =
      below_append m _ _
      (below_append m _ _ (below_wrong m (not (rule.is_narrower defs f.of.of (ty_of wanted.of))) f.of.at g.2)
      (below_every m (rule.arguments_lack f) (λ w. argument_below f.name.at (rule.input_found f.arguments w.name) w g.0 (input_found_here f.arguments w.name g.1)) wanted.arguments))
      (below_each m InputIn (rule.further_argument wanted.arguments) (λ i k. below_wrong m _ i.name.at k.0) f.arguments g.1)

  S8 : (defs : Defs) (ds : List DefAt) → DefsBelow m ds → Below m (rule.interfaces_not_implemented defs ds)
  S8 defs ds h = below_each m (DefBelow m) (rule.not_implemented_in defs) one ds h where
    lacks : (n : Located) (fs : List FieldAt) → NameIn n → AllByRecursion FieldIn fs → (i : Located) → Below m (rule.lacks_of_interface defs n fs i)
    lacks n fs g k i =
        below_every m (λ (wanted : FieldTree). rule.field_differs defs n.at (rule.field_found fs wanted.name) wanted)
        (λ wanted. field_below defs n.at (rule.field_found fs wanted.name) wanted g (field_found_here fs wanted.name k)) (fields_named (type_named defs i.name))

    one : (d : DefAt) → DefBelow m d → Below m (rule.not_implemented_in defs d)
    one (schema at rs) g = tt
    one (scalar n) g = tt
    one (object n is fs) g = below_every m (rule.lacks_of_interface defs n fs) (lacks n fs g.0 g.2) is
    one (interface n is fs) g = below_every m (rule.lacks_of_interface defs n fs) (lacks n fs g.0 g.2) is
    one (union n ms) g = tt
    one (enum n vs) g = tt
    one (input n fs) g = tt
    one (directive n xs) g = tt

  S9 : (defs : Defs) (ds : List DefAt) → DefsBelow m ds → Below m (rule.members_missing defs ds)
  S9 defs ds h = below_each m (DefBelow m) (rule.empty_in defs) one ds h where
    one : (d : DefAt) → DefBelow m d → Below m (rule.empty_in defs d)
    one (schema at rs) g = tt
    one (scalar n) g = tt
    one (object n is fs) g = below_wrong m _ n.at g.0
    one (interface n is fs) g = below_wrong m _ n.at g.0
    one (union n ms) g = below_append m _ _ (below_wrong m (is_empty ms) n.at g.0) (objects_below defs ms g.1)
    one (enum n vs) g = below_wrong m _ n.at g.0
    one (input n fs) g = below_wrong m _ n.at g.0
    one (directive n xs) g = tt

  S10 : (defs : Defs) (ds : List DefAt) → DefsBelow m ds → Below m (rule.inputs_need_themselves defs ds)
  S10 defs ds h = below_each m (DefBelow m) (rule.needs_itself defs) one ds h where
    one : (d : DefAt) → DefBelow m d → Below m (rule.needs_itself defs d)
    one (schema at rs) g = tt
    one (scalar n) g = tt
    one (object n is fs) g = tt
    one (interface n is fs) g = tt
    one (union n ms) g = tt
    one (enum n vs) g = tt
    one (input n fs) g = below_wrong m _ n.at g.0
    one (directive n xs) g = tt

  S11 : (defs : Defs) (ds : List DefAt) → DefsBelow m ds → Below m (rule.defaults_wrong defs ds)
  S11 defs ds h = below_each m (DefBelow m) (λ d. each (rule.default_wrong defs) (inputs_in d)) (λ d g. below_each m InputIn (rule.default_wrong defs) one (inputs_in d) (inputs_here d g)) ds h where
    split : (i : InputAt) → InputIn i → (o : Option Val) → Below m (rule.default_wrong_of defs i o)
    split i g None = tt
    split i g (Some v) = below_wrong m _ i.name.at g.0

    one : (i : InputAt) → InputIn i → Below m (rule.default_wrong defs i)
    one i g = split i g i.default

  S12 : (defs : Defs) (ds : List DefAt) → DefsBelow m ds → Below m (rule.composites_in_lists defs ds)
  S12 defs ds h =
      below_each m (DefBelow m) (λ d. each (rule.in_lists defs) (fields_in d))
      (λ d g. below_each m FieldIn (rule.in_lists defs) (λ f k. below_wrong m _ f.of.at k.2) (fields_in d) (fields_here d g)) ds h

  -- the places of each rule
  pub rules_below : (defs : Defs) (ds : List DefAt) → 0 < m → DefsBelow m ds → AllByRecursion (λ (r : Rule × List ℕ). Below m r.1) (rule.rules defs ds)
  rules_below defs ds some h =
      (S1 ds h, (S2 defs ds h, (S3 defs ds some h, (S4 ds h, (S5 ds h, (S6 defs ds h, (S7 defs ds h, (S8 defs ds h, (S9 defs ds h, (S10 defs ds h, (S11 defs ds h, (S12 defs ds h, tt))))))))))))

-- the first fault of a schema is at one of its nodes
pub fault_below : (defs : Defs) (r : Rule) (node : ℕ) → first_fault defs ≡ Some (r, node) → node < schema_nodes defs
fault_below defs r node e =
    let m = schema_nodes defs in
    let ds = filter has_effect (locate defs) in
    let held = rules_below m defs ds (omega arith) (all_filter (DefBelow m) has_effect (locate defs) (located_below defs)) in
    below_first m (rule.rules defs ds) held (r, node) e
