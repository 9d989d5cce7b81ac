-- The text of an operation that is not too deep opens no more selection sets, lists and objects in one another than may be read.
use Rattle.std.proofs.Common.{◌≡◌, ◌≤◌, ℕ, ◌+◌, ◌-◌, false, leb, List, [], ◌∷◌, map, max, Option, Some, None, refl, sym, ap, subst, arith}
use Rattle.std.proofs.Math.Nat.{le-max_left, le-max_right, max-le}
use Rattle.std.proofs.lemmas.Bool.{leb-false, or_parts}
use Rattle.std.specs.List.{AllByRecursion}
use Rattle.plan_ir.specs.gql_ast.TypeView.{ty_of}
use Rattle.plan_ir.specs.gql_ast.Value.{Val, Vals, Members, variable, int, text, truth, null, enum, list, object, no_vals, val, no_members, member, members_of, members_depth, val_depth, vals_depth}
use Rattle.plan_ir.specs.gql_ast.ValueView.{value_of}
use Rattle.plan_ir.specs.gql_ast.declared.directive.Directive.{Directive}
use Rattle.plan_ir.specs.gql_ast.declared.value.ValueTree.{ValueTree}
use Rattle.plan_ir.specs.gql_ast.declared.variable.VariableDef.{VariableDef}
use Rattle.text_places.specs.gql_parse.Documents.{documents, spell_braces, spell_name, spell_on, spell_selections, spell_set, spell_variables, spell_variables_part}
use Rattle.plan_ir.proofs.gql_syntax_laws.ArgumentLaws.{arguments_depth_to}
use Rattle.plan_ir.proofs.gql_syntax_laws.BuiltTrees.{value_of-value_tree}
use Rattle.plan_ir.proofs.gql_syntax_laws.DirectiveLaws.{DirectivesWithin, directives_depth_to}
use Rattle.plan_ir.proofs.gql_syntax_laws.Standing.{level_mark}
use Rattle.plan_ir.proofs.gql_syntax_laws.TypeLaws.{type_depth_to}
use Rattle.plan_ir.proofs.gql_syntax_laws.ValueLaws.{value_depth_to}
use Rattle.plan_ir.specs.gql_syntax.FirstFault.{Shallow}
use Rattle.plan_ir.specs.gql_syntax.Spelling.{spell_arguments, spell_default, spell_directives, spell_value}
use Rattle.plan_ir.specs.gql_syntax.Texts.{nesting_limit}
use Rattle.plan_ir.specs.Expansion.{Whole}
use Rattle.plan_ir.specs.Nodes.{Nodes, end, field, inline, set_depth}
use Rattle.plan_ir.specs.OperationText.{by_name, used_variables}
use Rattle.plan_ir.specs.Sizes.{all_depth, arguments_depth, directives_depth, is_too_deep, nodes_value_depth, value_depth}
use Rattle.plan_ir.specs.Substitution.{Arguments}
use Rattle.plan_ir.specs.declared.expanded.Expanded.{Expanded}
use Rattle.plan_project.proofs.ReadTrees.{DefaultWithin, VariableWithin, VariablesWithin}
use Rattle.plan_text.proofs.OperationRead.{all-filter}
use Rattle.plan_text.proofs.ValuesRead.{all-by_name}
use Rattle.plan_text.specs.Documents.{document_parts}
use Rattle.plan_read.specs.plan_collect.Printed.{alias_of, printed_arguments, printed_default, printed_directives, printed_members, printed_pair, printed_selections, printed_value, printed_values, printed_variable}
use Rattle.plan_ir.specs.schema_tables.Types.{Text}

-- ---- the two of a maximum

left_within : (a b m : ℕ) → max a b ≤ m → a ≤ m
left_within a b m h = omega (arith, h, le-max_left a b)

right_within : (a b m : ℕ) → max a b ≤ m → b ≤ m
right_within a b m h = omega (arith, h, le-max_right a b)

-- ---- printed values are no deeper

abbrev PairWithin : ℕ → Text × Val → Type 0
PairWithin m x = val_depth x.1 ≤ m

pairs_depth : (xs : Arguments) (m : ℕ) → AllByRecursion (PairWithin m) xs → members_depth (members_of xs) ≤ m
pairs_depth [] m h = omega arith
pairs_depth (x ∷ xs) m h = max-le h.0 (pairs_depth xs m h.1)

sorted_depth : (xs : Arguments) (m : ℕ) → AllByRecursion (PairWithin m) xs → members_depth (members_of (by_name xs)) ≤ m
sorted_depth xs m h = pairs_depth (by_name xs) m (all-by_name (PairWithin m) xs h)

mutual
  value_within : (v : Val) (m : ℕ) → val_depth v ≤ m → val_depth (printed_value v) ≤ m
  value_within (variable n) m h = h
  value_within (int z) m h = h
  value_within (text t) m h = h
  value_within (truth b) m h = h
  value_within null m h = h
  value_within (enum n) m h = h
  value_within (list vs) m h = omega (arith, h, values_within vs (m - 1) (omega (arith, h)))
  value_within (object ms) m h = omega (arith, h, sorted_depth (printed_members ms) (m - 1) (members_within ms (m - 1) (omega (arith, h))))

  values_within : (vs : Vals) (m : ℕ) → vals_depth vs ≤ m → vals_depth (printed_values vs) ≤ m
  values_within no_vals m h = h
  values_within (val v vs) m h =
      max-le (value_within v m (left_within (val_depth v) (vals_depth vs) m h)) (values_within vs m (right_within (val_depth v) (vals_depth vs) m h))

  members_within : (ms : Members) (m : ℕ) → members_depth ms ≤ m → AllByRecursion (PairWithin m) (printed_members ms)
  members_within no_members m h = tt
  members_within (member n v ms) m h =
      (value_within v m (left_within (val_depth v) (members_depth ms) m h), members_within ms m (right_within (val_depth v) (members_depth ms) m h))

-- ---- printed arguments and directives are no deeper

same_depth : (xs : Arguments) → members_depth (members_of xs) ≡ arguments_depth xs
same_depth [] = refl
same_depth (x ∷ xs) = ap (λ n. max (val_depth x.1) n) (same_depth xs)

given_within : (xs : Arguments) (m : ℕ) → arguments_depth xs ≤ m → AllByRecursion (PairWithin m) (map printed_pair xs)
given_within [] m h = tt
given_within (x ∷ xs) m h =
    (value_within x.1 m (left_within (val_depth x.1) (arguments_depth xs) m h), given_within xs m (right_within (val_depth x.1) (arguments_depth xs) m h))

arguments_within : (xs : Arguments) (m : ℕ) → arguments_depth xs ≤ m → members_depth (members_of (printed_arguments xs)) ≤ m
arguments_within xs m h = sorted_depth (map printed_pair xs) m (given_within xs m h)

directives_within : (ds : List Directive) (m : ℕ) → directives_depth ds ≤ m → DirectivesWithin m (printed_directives ds)
directives_within [] m h = tt
directives_within (d ∷ ds) m h =
    (arguments_within d.arguments m (left_within (arguments_depth d.arguments) (directives_depth ds) m h), directives_within ds m (right_within (arguments_depth d.arguments) (directives_depth ds) m h))

written_within : (ds : List Directive) (m : ℕ) → DirectivesWithin m ds → DirectivesWithin m (printed_directives ds)
written_within [] m h = tt
written_within (d ∷ ds) m h = (arguments_within d.arguments m (subst (λ n. n ≤ m) (same_depth d.arguments) h.0), written_within ds m h.1)

module _ (limit : ℕ) where
  -- ---- variables

  default_to : (d : Option ValueTree) (ts : List ℕ) → DefaultWithin limit d → Shallow limit ts → Shallow limit (spell_default level_mark (printed_default d) ts)
  default_to None ts h k = k
  default_to (Some v) ts h k = (
    omega arith,
    subst (λ w. Shallow limit (spell_value level_mark w 0 ts)) (sym (value_of-value_tree (printed_value (value_of v))))
        (value_depth_to (printed_value (value_of v)) limit 0 ts (omega (arith, value_within (value_of v) limit h)) k),
  )

  variables_to : (vs : List VariableDef) (ts : List ℕ) → VariablesWithin limit vs → Shallow limit ts → Shallow limit (spell_variables level_mark (map printed_variable vs) ts)
  variables_to [] ts h k = k
  variables_to (v ∷ vs) ts h k =
      let more : List ℕ = spell_variables level_mark (map printed_variable vs) ts in
      let directives : List ℕ = spell_directives level_mark (printed_directives v.directives) more in
      let default : List ℕ = spell_default level_mark (printed_default v.default) directives in
      let a : Shallow limit directives = directives_depth_to (printed_directives v.directives) limit more (written_within v.directives limit h.0.2) (variables_to vs ts h.1 k) in
      let b : Shallow limit default = default_to v.default directives h.0.1 a in
      (omega arith, (omega arith, (omega arith, type_depth_to (ty_of v.of) limit 0 0 default (omega (arith, h.0.0)) b)))

  variables_part_to : (vs : List VariableDef) (ts : List ℕ) → VariablesWithin limit vs → Shallow limit ts
      → Shallow limit (spell_variables_part level_mark (map printed_variable vs) ts)
  variables_part_to [] ts h k = k
  variables_part_to (v ∷ vs) ts h k = (omega arith, variables_to (v ∷ vs) (0 ∷ ts) h (omega arith, k))

  -- ---- selection sets

  name_to : (a : Option Text) (n : Text) (ts : List ℕ) → Shallow limit ts → Shallow limit (spell_name level_mark a n ts)
  name_to None n ts h = (omega arith, h)
  name_to (Some a) n ts h = (omega arith, (omega arith, (omega arith, h)))

  on_to : (o : Option Text) (ts : List ℕ) → Shallow limit ts → Shallow limit (spell_on level_mark o ts)
  on_to None ts h = h
  on_to (Some n) ts h = (omega arith, (omega arith, h))

  braces_to : (s : Nodes) (level : ℕ) (ts : List ℕ) → set_depth s + level ≤ limit + 1 → Shallow limit ts
      → ((ts : List ℕ) → Shallow limit ts → Shallow limit (spell_selections level_mark (printed_selections s) level ts))
      → Shallow limit (spell_braces level_mark (printed_selections s) level (spell_selections level_mark (printed_selections s) level) ts)
  braces_to end level ts d h inside = h
  braces_to (field r n xs ds c of s p rest) level ts d h inside =
      (omega (arith, d, le-max_left (set_depth s + 1) (set_depth rest)), inside (0 ∷ ts) (omega arith, h))
  braces_to (inline o ds s p rest) level ts d h inside =
      (omega (arith, d, le-max_left (set_depth s + 1) (set_depth rest)), inside (0 ∷ ts) (omega arith, h))

  selections_to : (s : Nodes) (level : ℕ) (ts : List ℕ) → set_depth s + level ≤ limit + 1 → nodes_value_depth s ≤ limit → Shallow limit ts
      → Shallow limit (spell_selections level_mark (printed_selections s) level ts)
  selections_to end level ts d v h = h
  selections_to (field r n xs ds c of s p rest) level ts d v h =
      let inner : set_depth s + (level + 1) ≤ limit + 1 = omega (arith, d, le-max_left (set_depth s + 1) (set_depth rest)) in
      let outer : set_depth rest + level ≤ limit + 1 = omega (arith, d, le-max_right (set_depth s + 1) (set_depth rest)) in
      let own : ℕ = max (nodes_value_depth s) (nodes_value_depth rest) in
      let after : ℕ = max (directives_depth ds) own in
      let x : arguments_depth xs ≤ limit = left_within (arguments_depth xs) after limit v in
      let more : after ≤ limit = right_within (arguments_depth xs) after limit v in
      let y : directives_depth ds ≤ limit = left_within (directives_depth ds) own limit more in
      let most : own ≤ limit = right_within (directives_depth ds) own limit more in
      let within : nodes_value_depth s ≤ limit = left_within (nodes_value_depth s) (nodes_value_depth rest) limit most in
      let beside : nodes_value_depth rest ≤ limit = right_within (nodes_value_depth s) (nodes_value_depth rest) limit most in
      let behind : List ℕ = spell_selections level_mark (printed_selections rest) level ts in
      let set : List ℕ = spell_braces level_mark (printed_selections s) (level + 1) (spell_selections level_mark (printed_selections s) (level + 1)) behind in
      let directives : List ℕ = spell_directives level_mark (printed_directives ds) set in
      let a : Shallow limit set = braces_to s (level + 1) behind inner (selections_to rest level ts outer beside h) (λ us k. selections_to s (level + 1) us inner within k) in
      let b : Shallow limit directives = directives_depth_to (printed_directives ds) limit set (directives_within ds limit y) a in
      name_to (alias_of r n) n (spell_arguments level_mark (printed_arguments xs) directives)
      (arguments_depth_to (printed_arguments xs) limit directives (arguments_within xs limit x) b)
  selections_to (inline o ds s p rest) level ts d v h =
      let inner : set_depth s + (level + 1) ≤ limit + 1 = omega (arith, d, le-max_left (set_depth s + 1) (set_depth rest)) in
      let outer : set_depth rest + level ≤ limit + 1 = omega (arith, d, le-max_right (set_depth s + 1) (set_depth rest)) in
      let own : ℕ = max (nodes_value_depth s) (nodes_value_depth rest) in
      let y : directives_depth ds ≤ limit = left_within (directives_depth ds) own limit v in
      let most : own ≤ limit = right_within (directives_depth ds) own limit v in
      let within : nodes_value_depth s ≤ limit = left_within (nodes_value_depth s) (nodes_value_depth rest) limit most in
      let beside : nodes_value_depth rest ≤ limit = right_within (nodes_value_depth s) (nodes_value_depth rest) limit most in
      let behind : List ℕ = spell_selections level_mark (printed_selections rest) level ts in
      let set : List ℕ = spell_braces level_mark (printed_selections s) (level + 1) (spell_selections level_mark (printed_selections s) (level + 1)) behind in
      let a : Shallow limit set = braces_to s (level + 1) behind inner (selections_to rest level ts outer beside h) (λ us k. selections_to s (level + 1) us inner within k) in
      (omega arith, on_to o (spell_directives level_mark (printed_directives ds) set) (directives_depth_to (printed_directives ds) limit set (directives_within ds limit y) a))

  -- ---- operations

  operation_to : (e : Expanded) → VariablesWithin limit e.variables → directives_depth e.directives ≤ limit → set_depth e.selections ≤ limit → nodes_value_depth e.selections ≤ limit
      → Shallow limit (documents.levels (document_parts e))
  operation_to e v d s n =
      let set : List ℕ = spell_set level_mark (printed_selections e.selections) [] in
      let directives : List ℕ = spell_directives level_mark (printed_directives e.directives) set in
      let deep : set_depth e.selections + 1 ≤ limit + 1 = omega (arith, s) in
      let a : Shallow limit set = braces_to e.selections 1 [] deep tt (λ us k. selections_to e.selections 1 us deep n k) in
      let b : Shallow limit directives = directives_depth_to (printed_directives e.directives) limit set (directives_within e.directives limit d) a in
      (omega arith, (omega arith, variables_part_to (used_variables e) directives (all-filter (VariableWithin limit) _ e.variables v) b))

-- what E2 allows
pub shallow_text : (w : Whole) → VariablesWithin nesting_limit w.expanded.variables → is_too_deep w ≡ false → Shallow nesting_limit (documents.levels (document_parts w.expanded))
shallow_text w v e =
    let both = or_parts (leb 61 (set_depth w.expanded.selections)) (leb 61 (value_depth w)) e in
    let more : ℕ = max (nodes_value_depth w.expanded.selections) (all_depth w.gifts) in
    let sets : set_depth w.expanded.selections ≤ 60 = omega (arith, leb-false 61 (set_depth w.expanded.selections) both.0) in
    let values : value_depth w ≤ 60 = omega (arith, leb-false 61 (value_depth w) both.1) in
    let directives : directives_depth w.expanded.directives ≤ 60 = left_within (directives_depth w.expanded.directives) more 60 values in
    let inside : more ≤ 60 = right_within (directives_depth w.expanded.directives) more 60 values in
    operation_to 60 w.expanded v directives sets (left_within (nodes_value_depth w.expanded.selections) (all_depth w.gifts) 60 inside)
