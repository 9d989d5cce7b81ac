-- What stands in one another in a schema, by the numbers of what its tokens open.
use Rattle.std.proofs.Common.{◌≤◌, ℕ, ◌+◌, Bool, true, false, List, [], ◌∷◌, map, Option, Some, None, arith}
use Rattle.std.specs.List.{AllByRecursion}
use Rattle.gql_syntax.specs.gql_ast.Ty.{Ty}
use Rattle.gql_syntax.specs.gql_ast.TypeView.{ty_of}
use Rattle.gql_syntax.specs.gql_ast.ValueView.{value_of}
use Rattle.gql_syntax.specs.gql_ast.declared.directive.Directive.{Directive}
use Rattle.gql_syntax.specs.gql_ast.declared.schema.Root.{Root}
use Rattle.gql_syntax.specs.gql_ast.declared.value.ValueTree.{ValueTree}
use Rattle.gql_syntax.proofs.DirectiveLaws.{directives_depth_from}
use Rattle.gql_syntax.proofs.Standing.{level_mark}
use Rattle.gql_syntax.proofs.TypeLaws.{list_depth, type_depth_from}
use Rattle.gql_syntax.proofs.ValueLaws.{value_depth_from}
use Rattle.gql_syntax.specs.FirstFault.{Shallow}
use Rattle.gql_syntax.specs.Spelling.{spell_directives, spell_type, spell_default}
use Rattle.gql_sdl.specs.Schemas.{Description, WrittenInput, WrittenField, WrittenValue, Written, schema, scalar, object, interface, union, enum, input, directive, Described, spell_description, spell_input, spell_inputs, spell_argument_defs, spell_input_fields, spell_field, spell_fields, spell_fields_part, spell_enum_values, spell_enum_values_part, spell_roots, spell_leading, spell_further, spell_separated, spell_implements, spell_members_part, spell_repeatable, spell_written, spell_described, spell_definitions, location_word}
use Rattle.gql_syntax.specs.gql_lex.Toks as tok
use Rattle.gql_syntax.specs.gql_lex.Toks.{Tok}
use Rattle.gql_sdl.proofs.Complete.{DirectivesFit, DefaultFits, InputFits, FieldFits, ValueFits, WrittenFits}

module _ (limit : ℕ) where
  type-fits : (t : Ty) (ts : List ℕ) → Shallow limit (spell_type level_mark t 0 0 ts) → (list_depth t ≤ limit) × Shallow limit ts
  type-fits t ts h = let d = type_depth_from t limit 0 0 ts (omega arith) h in (omega (arith, d.0), d.1)

  description-fits : (d : Description) (ts : List ℕ) → Shallow limit (spell_description level_mark d ts) → Shallow limit ts
  description-fits None ts h = h
  description-fits (Some d) ts h = h.1

  default-fits : (v : Option ValueTree) (ts : List ℕ) → Shallow limit (spell_default level_mark v ts) → DefaultFits limit v × Shallow limit ts
  default-fits None ts h = (tt, h)
  default-fits (Some v) ts h = let d = value_depth_from (value_of v) limit 0 ts (omega arith) h.1 in (omega (arith, d.0), d.1)

  input-fits : (w : WrittenInput) (ts : List ℕ) → Shallow limit (spell_input level_mark w ts) → InputFits limit w × Shallow limit ts
  input-fits w ts h =
      let a = description-fits w.description _ h in
      let b = type-fits (ty_of w.input.of) _ a.1.1 in
      let c = default-fits w.input.default _ b.1 in
      let d = directives_depth_from w.input.directives limit ts c.1 in
      ((b.0, c.0, d.0), d.1)

  inputs-fit : (ws : List WrittenInput) (ts : List ℕ) → Shallow limit (spell_inputs level_mark ws ts) → AllByRecursion (InputFits limit) ws × Shallow limit ts
  inputs-fit [] ts h = (tt, h)
  inputs-fit (w ∷ ws) ts h = let a = input-fits w (spell_inputs level_mark ws ts) h in let b = inputs-fit ws ts a.1 in ((a.0, b.0), b.1)

  arguments-fit : (ws : List WrittenInput) (ts : List ℕ) → Shallow limit (spell_argument_defs level_mark ws ts) → AllByRecursion (InputFits limit) ws × Shallow limit ts
  arguments-fit [] ts h = (tt, h)
  arguments-fit (w ∷ ws) ts h = let a = inputs-fit (w ∷ ws) (0 ∷ ts) h.1 in (a.0, a.1.1)

  input_fields-fit : (ws : List WrittenInput) (ts : List ℕ) → Shallow limit (spell_input_fields level_mark ws ts) → AllByRecursion (InputFits limit) ws × Shallow limit ts
  input_fields-fit [] ts h = (tt, h)
  input_fields-fit (w ∷ ws) ts h = let a = inputs-fit (w ∷ ws) (0 ∷ ts) h.1 in (a.0, a.1.1)

  field-fits : (f : WrittenField) (ts : List ℕ) → Shallow limit (spell_field level_mark f ts) → FieldFits limit f × Shallow limit ts
  field-fits f ts h =
      let a = description-fits f.description _ h in
      let b = arguments-fit f.arguments _ a.1 in
      let c = type-fits (ty_of f.of) _ b.1.1 in
      let d = directives_depth_from f.directives limit ts c.1 in
      ((b.0, c.0, d.0), d.1)

  fields-fit : (fs : List WrittenField) (ts : List ℕ) → Shallow limit (spell_fields level_mark fs ts) → AllByRecursion (FieldFits limit) fs × Shallow limit ts
  fields-fit [] ts h = (tt, h)
  fields-fit (f ∷ fs) ts h = let a = field-fits f (spell_fields level_mark fs ts) h in let b = fields-fit fs ts a.1 in ((a.0, b.0), b.1)

  fields_part-fits : (fs : List WrittenField) (ts : List ℕ) → Shallow limit (spell_fields_part level_mark fs ts) → AllByRecursion (FieldFits limit) fs × Shallow limit ts
  fields_part-fits [] ts h = (tt, h)
  fields_part-fits (f ∷ fs) ts h = let a = fields-fit (f ∷ fs) (0 ∷ ts) h.1 in (a.0, a.1.1)

  values-fit : (vs : List WrittenValue) (ts : List ℕ) → Shallow limit (spell_enum_values level_mark vs ts) → AllByRecursion (ValueFits limit) vs × Shallow limit ts
  values-fit [] ts h = (tt, h)
  values-fit (v ∷ vs) ts h =
      let a = description-fits v.description _ h in
      let b = directives_depth_from v.value.directives limit (spell_enum_values level_mark vs ts) a.1 in
      let c = values-fit vs ts b.1 in
      ((b.0, c.0), c.1)

  values_part-fits : (vs : List WrittenValue) (ts : List ℕ) → Shallow limit (spell_enum_values_part level_mark vs ts) → AllByRecursion (ValueFits limit) vs × Shallow limit ts
  values_part-fits [] ts h = (tt, h)
  values_part-fits (v ∷ vs) ts h = let a = values-fit (v ∷ vs) (0 ∷ ts) h.1 in (a.0, a.1.1)

  roots-fit : (rs : List Root) (ts : List ℕ) → Shallow limit (spell_roots level_mark rs ts) → Shallow limit ts
  roots-fit [] ts h = h
  roots-fit (r ∷ rs) ts h = roots-fit rs ts h.1.1.1

  leading-fits : (s : Tok) (leading : Bool) (ts : List ℕ) → Shallow limit (spell_leading level_mark s leading ts) → Shallow limit ts
  leading-fits s true ts h = h.1
  leading-fits s false ts h = h

  further-fit : (s : Tok) (n : ℕ) (ns : List (List ℕ)) (ts : List ℕ) → Shallow limit (spell_further level_mark s n ns ts) → Shallow limit ts
  further-fit s n [] ts h = h
  further-fit s n (m ∷ ns) ts h = further-fit s n ns ts h.1.1

  separated-fit : (s : Tok) (n : ℕ) (leading : Bool) (ns : List (List ℕ)) (ts : List ℕ) → Shallow limit (spell_separated level_mark s n leading ns ts) → Shallow limit ts
  separated-fit s n leading [] ts h = h
  separated-fit s n leading (m ∷ ns) ts h = further-fit s n ns ts (leading-fits s leading _ h).1

  implements-fit : (leading : Bool) (ns : List (List ℕ)) (ts : List ℕ) → Shallow limit (spell_implements level_mark leading ns ts) → Shallow limit ts
  implements-fit leading [] ts h = h
  implements-fit leading (m ∷ ns) ts h = separated-fit tok.ampersand 1 leading (m ∷ ns) ts h.1

  members-fit : (leading : Bool) (ns : List (List ℕ)) (ts : List ℕ) → Shallow limit (spell_members_part level_mark leading ns ts) → Shallow limit ts
  members-fit leading [] ts h = h
  members-fit leading (m ∷ ns) ts h = separated-fit tok.bar 1 leading (m ∷ ns) ts h.1

  repeatable-fits : (r : Bool) (ts : List ℕ) → Shallow limit (spell_repeatable level_mark r ts) → Shallow limit ts
  repeatable-fits true ts h = h.1
  repeatable-fits false ts h = h

  fielded-fits : (leading : Bool) (is : List (List ℕ)) (ds : List Directive) (fs : List WrittenField) (ts : List ℕ)
      → Shallow limit (spell_implements level_mark leading is (spell_directives level_mark ds (spell_fields_part level_mark fs ts)))
      → (DirectivesFit limit ds × AllByRecursion (FieldFits limit) fs) × Shallow limit ts
  fielded-fits leading is ds fs ts h =
      let a = directives_depth_from ds limit (spell_fields_part level_mark fs ts) (implements-fit leading is _ h) in
      let b = fields_part-fits fs ts a.1 in
      ((a.0, b.0), b.1)

  written-fits : (n : ℕ) (w : Written) (ts : List ℕ) → Shallow limit (spell_written level_mark n w ts) → WrittenFits limit w × Shallow limit ts
  written-fits n (schema ds rs) ts h =
      let a = directives_depth_from ds limit (0 ∷ spell_roots level_mark rs (0 ∷ ts)) h.1 in (a.0, (roots-fit rs (0 ∷ ts) a.1.1).1)
  written-fits n (scalar m ds) ts h = let a = directives_depth_from ds limit ts h.1.1 in (a.0, a.1)
  written-fits n (object m leading is ds fs) ts h = fielded-fits leading is ds fs ts h.1.1
  written-fits n (interface m leading is ds fs) ts h = fielded-fits leading is ds fs ts h.1.1
  written-fits n (union m ds leading ms) ts h =
      let a = directives_depth_from ds limit (spell_members_part level_mark leading ms ts) h.1.1 in (a.0, members-fit leading ms ts a.1)
  written-fits n (enum m ds vs) ts h =
      let a = directives_depth_from ds limit (spell_enum_values_part level_mark vs ts) h.1.1 in let b = values_part-fits vs ts a.1 in ((a.0, b.0), b.1)
  written-fits n (input m ds ws) ts h =
      let a = directives_depth_from ds limit (spell_input_fields level_mark ws ts) h.1.1 in let b = input_fields-fit ws ts a.1 in ((a.0, b.0), b.1)
  written-fits n (directive m ws r leading ls) ts h =
      let a = arguments-fit ws _ h.1.1.1 in
      (a.0, separated-fit tok.bar 0 leading (map location_word ls) ts (repeatable-fits r _ a.1).1)

  described-fits : (above : ℕ) (d : Description) (w : Written) (ts : List ℕ) → Shallow limit (spell_described level_mark above d w ts) → WrittenFits limit w × Shallow limit ts
  described-fits above None w ts h = written-fits (above + 1) w ts h
  described-fits above (Some d) w ts h = written-fits 0 w ts h.1

  pub definitions-fit : (above : ℕ) (ds : List Described) → Shallow limit (spell_definitions level_mark above ds) → AllByRecursion (λ d. WrittenFits limit d.written) ds
  definitions-fit above [] h = tt
  definitions-fit above (d ∷ ds) h =
      let a = described-fits above d.description d.written (spell_definitions level_mark 0 ds) h in (a.0, definitions-fit 0 ds a.1)
