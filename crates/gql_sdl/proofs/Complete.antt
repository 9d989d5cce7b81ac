-- The machine of schemas reads what is spelled.
use Rattle.std.proofs.Common.{◌≡◌, ◌≤◌, ℕ, ◌+◌, Bool, true, false, cond, bytes_eq, List, [], ◌∷◌, ◌++◌, map, Option, Some, None, option_map, Ok, Err, refl, sym, ap, ◌∙◌, append_assoc, append-nil}
use Rattle.std.specs.List.{AllByRecursion}
use Rattle.gql_syntax.specs.gql_lex.Toks as tok
use Rattle.gql_syntax.specs.gql_lex.Toks.{Tok}
use Rattle.gql_syntax.specs.gql_ast.Ty.{Ty}
use Rattle.gql_syntax.specs.gql_ast.Ty as ty
use Rattle.gql_syntax.specs.gql_ast.TypeView.{ty_of}
use Rattle.gql_syntax.specs.gql_ast.Value.{Val, val_depth}
use Rattle.gql_syntax.specs.gql_ast.ValueView.{value_of}
use Rattle.gql_syntax.specs.gql_ast.declared.directive.Directive.{Directive}
use Rattle.gql_syntax.specs.gql_ast.declared.location.Location.{Location}
use Rattle.gql_syntax.specs.gql_ast.declared.schema.Root.{Root}
use Rattle.gql_syntax.specs.gql_ast.declared.value.ValueTree.{ValueTree}
use Rattle.gql_syntax.proofs.DirectiveLaws.{DirectivesWithin, NoParenAhead, directives_outcome}
use Rattle.gql_syntax.proofs.Outcomes.{outcome, outcome_from, outcome_same}
use Rattle.gql_syntax.proofs.TypeLaws.{list_depth, NotBang, typed_at, type_complete, reads_type as type_reads}
use Rattle.gql_syntax.proofs.ValueLaws.{value_complete}
use Rattle.gql_syntax.proofs.Standing.{token_mark}
use Rattle.gql_syntax.proofs.Shapes.{ShapedDirectives, ShapedDefault, ShapedType, ShapedValue}
use Rattle.gql_syntax.specs.Machine.{further, want, outer, want_type, whole}
use Rattle.gql_syntax.specs.Run.{unexpected}
use Rattle.gql_syntax.specs.Spelling.{spell_directives, spell_type, spell_default, spell_value}
use Rattle.gql_syntax.specs.Words.{on_word, IsEnumName}
use Rattle.gql_syntax.proofs.BuiltTrees.{type_tree-ty_of, value_tree-value_of}
use Rattle.gql_sdl.specs.Machine.{Fielded, an_object, an_interface, location_of, implements_word, Front, Heading, Fields, OpenField, Inputs, of_field, of_directive, of_object, OpenInput, TypedInput, Values, Typed, input_type, field_type, Owner, on_schema, on_scalar, on_fielded, on_union, on_enum, on_object, on_input, on_field, on_value, Listing, implementing, uniting, locating, State, head, entitled, directive_arguments, directive_on, listing, listing_more, roots, fields, field_arguments, inputs, input_colon, input_default, enum_values, in_directives, in_type, in_value, front_then, heading_then, heading_of, field_then, input_then, value_then, directives_of, open_root, typed_state, behind_default, advance, finish, no_front, listing_more_of, at_directives, after_directives, after_type}
use Rattle.gql_sdl.specs.Schemas.{location_word, Description, WrittenInput, WrittenField, WrittenValue, Written, schema, scalar, object, interface, union, enum, input, directive, Described, NotEmpty, spell_description, spell_input, spell_inputs, spell_argument_defs, spell_input_fields, spell_field, spell_fields, spell_fields_part, spell_enum_values, spell_enum_values_part, spell_roots, spell_further, spell_separated, spell_implements, spell_members_part, spell_repeatable, spell_written, spell_described, spell_definitions, spell_schema}
use Rattle.gql_sdl.proofs.Shapes.{ShapedInput, ShapedField, ShapedEnumValue, ShapedWritten}
use Rattle.gql_sdl.proofs.Seats.{Led, Neat, ShapedDescribed}
use Rattle.gql_sdl.proofs.Spellings.{kind_of-kind, location_of-location, enum_name-is_reserved}

-- ---- what may follow

-- a description, a name, or the end of what it stands in
abbrev pub Calm : List Tok → Type 0
Calm [] = Unit {0}
Calm (tok.text d ∷ ts) = Unit {0}
Calm (tok.name n ∷ ts) = Unit {0}
Calm (tok.close_paren ∷ ts) = Unit {0}
Calm (tok.close_brace ∷ ts) = Unit {0}
Calm (t ∷ ts) = ⊥

-- no directive, and no argument of one
abbrev pub Unled : List Tok → Type 0
Unled (tok.at_sign ∷ ts) = ⊥
Unled (tok.open_paren ∷ ts) = ⊥
Unled ts = Unit {0}

-- nothing that would make a type never null
abbrev pub Unbanged : List Tok → Type 0
Unbanged (tok.bang ∷ ts) = ⊥
Unbanged ts = Unit {0}

abbrev NoEquals : List Tok → Type 0
NoEquals (tok.equals ∷ ts) = ⊥
NoEquals ts = Unit {0}

-- what may follow a definition
abbrev pub Follows : List Tok → Type 0
Follows [] = Unit {0}
Follows (tok.text d ∷ ts) = Unit {0}
Follows (tok.name n ∷ ts) = bytes_eq n implements_word ≡ false
Follows (t ∷ ts) = ⊥

abbrev NoImplements : List Tok → Type 0
NoImplements (tok.name n ∷ ts) = bytes_eq n implements_word ≡ false
NoImplements ts = Unit {0}

calm-follows : (ts : List Tok) → Follows ts → Calm ts
calm-follows [] h = tt
calm-follows (tok.text d ∷ ts) h = tt
calm-follows (tok.name n ∷ ts) h = tt
calm-follows (t ∷ ts) h = absurd h

calm-unled : (ts : List Tok) → Calm ts → Unled ts
calm-unled [] h = tt
calm-unled (tok.text d ∷ ts) h = tt
calm-unled (tok.name n ∷ ts) h = tt
calm-unled (tok.close_paren ∷ ts) h = tt
calm-unled (tok.close_brace ∷ ts) h = tt
calm-unled (t ∷ ts) h = absurd h

no_paren : (ts : List Tok) → Unled ts → NoParenAhead ts
no_paren [] h = tt
no_paren (tok.open_paren ∷ ts) h = absurd h
no_paren (t ∷ ts) h = tt

directives-no_equals : (ds : List Directive) (ts : List Tok) → Calm ts → NoEquals (spell_directives token_mark ds ts)
directives-no_equals (d ∷ ds) ts h = tt
directives-no_equals [] [] h = tt
directives-no_equals [] (tok.text d ∷ ts) h = tt
directives-no_equals [] (tok.name n ∷ ts) h = tt
directives-no_equals [] (tok.close_paren ∷ ts) h = tt
directives-no_equals [] (tok.close_brace ∷ ts) h = tt
directives-no_equals [] (t ∷ ts) h = absurd h

directives-no_bang : (ds : List Directive) (ts : List Tok) → Calm ts → Unbanged (spell_directives token_mark ds ts)
directives-no_bang (d ∷ ds) ts h = tt
directives-no_bang [] [] h = tt
directives-no_bang [] (tok.text d ∷ ts) h = tt
directives-no_bang [] (tok.name n ∷ ts) h = tt
directives-no_bang [] (tok.close_paren ∷ ts) h = tt
directives-no_bang [] (tok.close_brace ∷ ts) h = tt
directives-no_bang [] (t ∷ ts) h = absurd h

default-no_bang : (v : Option ValueTree) (ds : List Directive) (ts : List Tok) → Calm ts → Unbanged (spell_default token_mark v (spell_directives token_mark ds ts))
default-no_bang None ds ts h = directives-no_bang ds ts h
default-no_bang (Some v) ds ts h = tt

-- where directives have ended and a calm token follows
abbrev settle_owner : Owner → List Directive → State
settle_owner (on_schema f) ds = in_directives (further true ds (on_schema f))
settle_owner (on_scalar f n) ds = head (front_then f (scalar n ds))
settle_owner (on_fielded h) ds = head (heading_then h ds [])
settle_owner (on_union f n) ds = head (front_then f (union n ds false []))
settle_owner (on_enum f n) ds = head (front_then f (enum n ds []))
settle_owner (on_object f n) ds = head (front_then f (input n ds []))
settle_owner (on_input i v) ds = inputs i.input.inputs (input_then i v ds) None
settle_owner (on_field a u) ds = fields a.field.fields (field_then a u ds) None
settle_owner (on_value v) ds = enum_values v.values (value_then v ds) None

module _ (limit : ℕ) where
  -- what the machine makes of the tokens
  abbrev pub on : State → List Tok → Option (List Described)
  on s ts = outcome (advance limit) finish s ts

  pub settles : (o : Owner) (ds : List Directive) (ts : List Tok) → Calm ts → on (in_directives (further true ds o)) ts ≡ on (settle_owner o ds) ts
  settles (on_schema f) ds ts h = refl
  settles (on_scalar f n) ds [] h = refl
  settles (on_scalar f n) ds (tok.text d ∷ ts) h = refl
  settles (on_scalar f n) ds (tok.name m ∷ ts) h = refl
  settles (on_scalar f n) ds (tok.close_paren ∷ ts) h = refl
  settles (on_scalar f n) ds (tok.close_brace ∷ ts) h = refl
  settles (on_fielded k) ds [] h = refl
  settles (on_fielded k) ds (tok.text d ∷ ts) h = refl
  settles (on_fielded k) ds (tok.name m ∷ ts) h = refl
  settles (on_fielded k) ds (tok.close_paren ∷ ts) h = refl
  settles (on_fielded k) ds (tok.close_brace ∷ ts) h = refl
  settles (on_union f n) ds [] h = refl
  settles (on_union f n) ds (tok.text d ∷ ts) h = refl
  settles (on_union f n) ds (tok.name m ∷ ts) h = refl
  settles (on_union f n) ds (tok.close_paren ∷ ts) h = refl
  settles (on_union f n) ds (tok.close_brace ∷ ts) h = refl
  settles (on_enum f n) ds [] h = refl
  settles (on_enum f n) ds (tok.text d ∷ ts) h = refl
  settles (on_enum f n) ds (tok.name m ∷ ts) h = refl
  settles (on_enum f n) ds (tok.close_paren ∷ ts) h = refl
  settles (on_enum f n) ds (tok.close_brace ∷ ts) h = refl
  settles (on_object f n) ds [] h = refl
  settles (on_object f n) ds (tok.text d ∷ ts) h = refl
  settles (on_object f n) ds (tok.name m ∷ ts) h = refl
  settles (on_object f n) ds (tok.close_paren ∷ ts) h = refl
  settles (on_object f n) ds (tok.close_brace ∷ ts) h = refl
  settles (on_input i v) ds [] h = refl
  settles (on_input i v) ds (tok.text d ∷ ts) h = refl
  settles (on_input i v) ds (tok.name m ∷ ts) h = refl
  settles (on_input i v) ds (tok.close_paren ∷ ts) h = refl
  settles (on_input i v) ds (tok.close_brace ∷ ts) h = refl
  settles (on_field a u) ds [] h = refl
  settles (on_field a u) ds (tok.text d ∷ ts) h = refl
  settles (on_field a u) ds (tok.name m ∷ ts) h = refl
  settles (on_field a u) ds (tok.close_paren ∷ ts) h = refl
  settles (on_field a u) ds (tok.close_brace ∷ ts) h = refl
  settles (on_value v) ds [] h = refl
  settles (on_value v) ds (tok.text d ∷ ts) h = refl
  settles (on_value v) ds (tok.name m ∷ ts) h = refl
  settles (on_value v) ds (tok.close_paren ∷ ts) h = refl
  settles (on_value v) ds (tok.close_brace ∷ ts) h = refl
  settles o ds (t ∷ ts) h = absurd h

  abbrev pub DirectivesFit : List Directive → Type 0
  DirectivesFit ds = DirectivesWithin limit ds

  abbrev pub DefaultFits : Option ValueTree → Type 0
  DefaultFits None = Unit {0}
  DefaultFits (Some v) = val_depth (value_of v) ≤ limit

  abbrev pub InputFits : WrittenInput → Type 0
  InputFits w = (list_depth (ty_of w.input.of) ≤ limit) × DefaultFits w.input.default × DirectivesFit w.input.directives

  abbrev pub FieldFits : WrittenField → Type 0
  FieldFits f = AllByRecursion InputFits f.arguments × (list_depth (ty_of f.of) ≤ limit) × DirectivesFit f.directives

  abbrev pub ValueFits : WrittenValue → Type 0
  ValueFits v = DirectivesFit v.value.directives

  abbrev pub WrittenFits : Written → Type 0
  WrittenFits (schema ds rs) = DirectivesFit ds
  WrittenFits (scalar n ds) = DirectivesFit ds
  WrittenFits (object n leading is ds fs) = DirectivesFit ds × AllByRecursion FieldFits fs
  WrittenFits (interface n leading is ds fs) = DirectivesFit ds × AllByRecursion FieldFits fs
  WrittenFits (union n ds leading ms) = DirectivesFit ds
  WrittenFits (enum n ds vs) = DirectivesFit ds × AllByRecursion ValueFits vs
  WrittenFits (input n ds ws) = DirectivesFit ds × AllByRecursion InputFits ws
  WrittenFits (directive n ws repeatable leading ls) = AllByRecursion InputFits ws

  reads_directives : (o : Owner) (ds : List Directive) (ts : List Tok) → ShapedDirectives true ds → DirectivesFit ds → Unled ts
      → on (directives_of o) (spell_directives token_mark ds ts) ≡ on (in_directives (further true ds o)) ts
  reads_directives o ds ts h f u = directives_outcome limit in_directives after_directives (advance limit) (λ r t. refl) finish (λ a. refl) ds [] true o ts (no_paren ts u) h f

  reads_type : (y : Typed) (t : Ty) (ts : List Tok) → ShapedType t → list_depth t ≤ limit → Unbanged ts
      → on (in_type (want_type limit (whole y))) (spell_type token_mark t 0 0 ts) ≡ on (typed_state y t) ts
  reads_type y t [] h f b =
      outcome_same (advance limit) finish (in_type (want_type limit (whole y))) (typed_at in_type typed_state (after_type limit) (advance limit) (λ r x. refl) t (whole y))
      (spell_type token_mark t 0 0 []) [] (type_reads in_type typed_state (after_type limit) (advance limit) (λ r x. refl) t limit (whole y) 0 0 [] h f)
      ∙ no_end y t
    where
      no_end : (y : Typed) (t : Ty) → on (typed_at in_type typed_state (after_type limit) (advance limit) (λ r x. refl) t (whole y)) [] ≡ on (typed_state y t) []
      no_end (input_type i) (ty.named n) = refl
      no_end (input_type i) (ty.list t) = refl
      no_end (input_type i) (ty.non_null t) = refl
      no_end (field_type a) (ty.named n) = refl
      no_end (field_type a) (ty.list t) = refl
      no_end (field_type a) (ty.non_null t) = refl
  reads_type y t (x ∷ ts) h f b =
      outcome_same (advance limit) finish (in_type (want_type limit (whole y))) (typed_state y t) (spell_type token_mark t 0 0 (x ∷ ts)) (x ∷ ts)
      (type_complete in_type typed_state (after_type limit) (advance limit) (λ r x. refl) passed t limit y 0 0 (x ∷ ts) (not_bang x b) h f)
    where
      passed : (y : Typed) (t : Ty) (x : Tok) → after_type limit y t x ≡ advance limit (typed_state y t) x
      passed (input_type i) t x = refl
      passed (field_type a) t x = refl

      not_bang : (x : Tok) → Unbanged (x ∷ ts) → NotBang x
      not_bang tok.bang b = absurd b
      not_bang x b = tt

  reads_value : (i : TypedInput) (v : Val) (ts : List Tok) → ShapedValue true v → val_depth v ≤ limit
      → on (in_value (want true limit (outer i))) (spell_value token_mark v 0 ts) ≡ on (behind_default i v) ts
  reads_value i v ts h f =
      outcome_same (advance limit) finish (in_value (want true limit (outer i))) (behind_default i v) (spell_value token_mark v 0 ts) ts
      (value_complete in_value behind_default (advance limit) (λ r t. refl) true limit (outer i) v 0 ts h f)

  -- ---- inputs

  reads_ending : (o : Owner) (ds : List Directive) (ts : List Tok) → ShapedDirectives true ds → DirectivesFit ds → Calm ts
      → on (directives_of o) (spell_directives token_mark ds ts) ≡ on (settle_owner o ds) ts
  reads_ending o ds ts h f c = reads_directives o ds ts h f (calm-unled ts c) ∙ settles o ds ts c

  default-skips : (i : TypedInput) (ts : List Tok) → NoEquals ts → on (input_default i) ts ≡ on (directives_of (on_input i None)) ts
  default-skips i [] h = refl
  default-skips i (tok.equals ∷ ts) h = absurd h
  default-skips i (t ∷ ts) h = refl

  reads_default : (i : TypedInput) (v : Option ValueTree) (ds : List Directive) (ts : List Tok) → ShapedDefault v → DefaultFits v → Calm ts
      → on (input_default i) (spell_default token_mark v (spell_directives token_mark ds ts)) ≡ on (directives_of (on_input i v)) (spell_directives token_mark ds ts)
  reads_default i None ds ts h f c = default-skips i (spell_directives token_mark ds ts) (directives-no_equals ds ts c)
  reads_default i (Some v) ds ts h f c =
      reads_value i (value_of v) (spell_directives token_mark ds ts) h f
      ∙ ap (λ v. on (directives_of (on_input i (Some v))) (spell_directives token_mark ds ts)) (value_tree-value_of v)

  input_named : (i : Inputs) (ws : List WrittenInput) (d : Description) (n : List ℕ) (ts : List Tok)
      → on (inputs i ws None) (spell_description token_mark d (tok.name n ∷ ts)) ≡ on (input_colon (record { inputs = i; before = ws; description = d; title = n })) ts
  input_named i ws None n ts = refl
  input_named i ws (Some d) n ts = refl

  reads_input : (i : Inputs) (ws : List WrittenInput) (w : WrittenInput) (ts : List Tok) → ShapedInput w → InputFits w → Calm ts
      → on (inputs i ws None) (spell_input token_mark w ts) ≡ on (inputs i (ws ++ w ∷ []) None) ts
  reads_input i ws w ts h f c =
      let o : OpenInput = record { inputs = i; before = ws; description = w.description; title = w.input.name } in
      let rest : List Tok = spell_default token_mark w.input.default (spell_directives token_mark w.input.directives ts) in
      input_named i ws w.description w.input.name (tok.colon ∷ spell_type token_mark (ty_of w.input.of) 0 0 rest)
      ∙ reads_type (input_type o) (ty_of w.input.of) rest h.0 f.0 (default-no_bang w.input.default w.input.directives ts c)
      ∙ ap (λ t. on (input_default (record { input = o; of = t })) rest) (type_tree-ty_of w.input.of)
      ∙ reads_default (record { input = o; of = w.input.of }) w.input.default w.input.directives ts h.1 f.1 c
      ∙ reads_ending (on_input (record { input = o; of = w.input.of }) w.input.default) w.input.directives ts h.2 f.2 c

  calm-inputs : (ws : List WrittenInput) (ts : List Tok) → Calm ts → Calm (spell_inputs token_mark ws ts)
  calm-inputs [] ts h = h
  calm-inputs (w ∷ ws) ts h = on_description w.description
    where
      on_description : (d : Description) → Calm (spell_description token_mark d (tok.name w.input.name ∷ tok.colon
          ∷ spell_type token_mark (ty_of w.input.of) 0 0 (spell_default token_mark w.input.default (spell_directives token_mark w.input.directives (spell_inputs token_mark ws ts)))))
      on_description None = tt
      on_description (Some d) = tt

  reads_inputs : (i : Inputs) (ws more : List WrittenInput) (ts : List Tok) → AllByRecursion ShapedInput more → AllByRecursion InputFits more → Calm ts
      → on (inputs i ws None) (spell_inputs token_mark more ts) ≡ on (inputs i (ws ++ more) None) ts
  reads_inputs i ws [] ts h f c = ap (λ ws. on (inputs i ws None) ts) (sym (append-nil ws))
  reads_inputs i ws (w ∷ more) ts h f c =
      reads_input i ws w (spell_inputs token_mark more ts) h.0 f.0 (calm-inputs more ts c)
      ∙ reads_inputs i (ws ++ w ∷ []) more ts h.1 f.1 c
      ∙ ap (λ ws. on (inputs i ws None) ts) (append_assoc ws (w ∷ []) more)

  -- ---- fields

  reads_field_arguments : (f : OpenField) (ws : List WrittenInput) (ts : List Tok) → AllByRecursion ShapedInput ws → AllByRecursion InputFits ws
      → on (field_arguments f) (spell_argument_defs token_mark ws (tok.colon ∷ ts))
      ≡ on (in_type (want_type limit (whole (field_type (record { field = f; arguments = ws }))))) ts
  reads_field_arguments f [] ts h k = refl
  reads_field_arguments f (w ∷ ws) ts h k = reads_inputs (of_field f) [] (w ∷ ws) (tok.close_paren ∷ tok.colon ∷ ts) h k tt

  field_named : (f : Fields) (fs : List WrittenField) (d : Description) (n : List ℕ) (ts : List Tok)
      → on (fields f fs None) (spell_description token_mark d (tok.name n ∷ ts)) ≡ on (field_arguments (record { fields = f; before = fs; description = d; title = n })) ts
  field_named f fs None n ts = refl
  field_named f fs (Some d) n ts = refl

  reads_field : (f : Fields) (fs : List WrittenField) (w : WrittenField) (ts : List Tok) → ShapedField w → FieldFits w → Calm ts
      → on (fields f fs None) (spell_field token_mark w ts) ≡ on (fields f (fs ++ w ∷ []) None) ts
  reads_field f fs w ts h k c =
      let o : OpenField = record { fields = f; before = fs; description = w.description; title = w.name } in
      let rest : List Tok = spell_directives token_mark w.directives ts in
      field_named f fs w.description w.name (spell_argument_defs token_mark w.arguments (tok.colon ∷ spell_type token_mark (ty_of w.of) 0 0 rest))
      ∙ reads_field_arguments o w.arguments (spell_type token_mark (ty_of w.of) 0 0 rest) h.0 k.0
      ∙ reads_type (field_type (record { field = o; arguments = w.arguments })) (ty_of w.of) rest h.1 k.1 (directives-no_bang w.directives ts c)
      ∙ ap (λ t. on (directives_of (on_field (record { field = o; arguments = w.arguments }) t)) rest) (type_tree-ty_of w.of)
      ∙ reads_ending (on_field (record { field = o; arguments = w.arguments }) w.of) w.directives ts h.2 k.2 c

  calm-fields : (fs : List WrittenField) (ts : List Tok) → Calm ts → Calm (spell_fields token_mark fs ts)
  calm-fields [] ts h = h
  calm-fields (f ∷ fs) ts h = on_description f.description
    where
      on_description : (d : Description) → Calm (spell_description token_mark d (tok.name f.name ∷ spell_argument_defs token_mark f.arguments
          (tok.colon ∷ spell_type token_mark (ty_of f.of) 0 0 (spell_directives token_mark f.directives (spell_fields token_mark fs ts)))))
      on_description None = tt
      on_description (Some d) = tt

  reads_fields : (f : Fields) (fs more : List WrittenField) (ts : List Tok) → AllByRecursion ShapedField more → AllByRecursion FieldFits more → Calm ts
      → on (fields f fs None) (spell_fields token_mark more ts) ≡ on (fields f (fs ++ more) None) ts
  reads_fields f fs [] ts h k c = ap (λ fs. on (fields f fs None) ts) (sym (append-nil fs))
  reads_fields f fs (w ∷ more) ts h k c =
      reads_field f fs w (spell_fields token_mark more ts) h.0 k.0 (calm-fields more ts c)
      ∙ reads_fields f (fs ++ w ∷ []) more ts h.1 k.1 c
      ∙ ap (λ fs. on (fields f fs None) ts) (append_assoc fs (w ∷ []) more)

  -- ---- values

  behind_value_name : (v : Values) (vs : List WrittenValue) (n : List ℕ) (d : Description) (ts : List Tok) → IsEnumName n
      → on (enum_values v vs None) (spell_description token_mark d (tok.name n ∷ ts))
      ≡ on (directives_of (on_value (record { values = v; before = vs; description = d; title = n }))) ts
  behind_value_name v vs n None ts h =
      ap (λ b. outcome_from (advance limit) finish (cond b (Err unexpected) (Ok (directives_of (on_value (record { values = v; before = vs; description = None; title = n }))))) ts)
      (enum_name-is_reserved n h)
  behind_value_name v vs n (Some d) ts h =
      ap (λ b. outcome_from (advance limit) finish (cond b (Err unexpected) (Ok (directives_of (on_value (record { values = v; before = vs; description = Some d; title = n }))))) ts)
      (enum_name-is_reserved n h)

  calm-values : (vs : List WrittenValue) (ts : List Tok) → Calm ts → Calm (spell_enum_values token_mark vs ts)
  calm-values [] ts h = h
  calm-values (v ∷ vs) ts h = on_description v.description
    where
      on_description : (d : Description) → Calm (spell_description token_mark d (tok.name v.value.name
          ∷ spell_directives token_mark v.value.directives (spell_enum_values token_mark vs ts)))
      on_description None = tt
      on_description (Some d) = tt

  reads_values : (v : Values) (vs more : List WrittenValue) (ts : List Tok) → AllByRecursion ShapedEnumValue more → AllByRecursion ValueFits more → Calm ts
      → on (enum_values v vs None) (spell_enum_values token_mark more ts) ≡ on (enum_values v (vs ++ more) None) ts
  reads_values v vs [] ts h k c = ap (λ vs. on (enum_values v vs None) ts) (sym (append-nil vs))
  reads_values v vs (w ∷ more) ts h k c =
      let rest : List Tok = spell_enum_values token_mark more ts in
      behind_value_name v vs w.value.name w.description (spell_directives token_mark w.value.directives rest) h.0.0
      ∙ reads_ending (on_value (record { values = v; before = vs; description = w.description; title = w.value.name })) w.value.directives rest h.0.1 k.0
      (calm-values more ts c)
      ∙ reads_values v (vs ++ w ∷ []) more ts h.1 k.1 c
      ∙ ap (λ vs. on (enum_values v vs None) ts) (append_assoc vs (w ∷ []) more)

  -- ---- roots

  reads_roots : (f : Front) (ds : List Directive) (rs more : List Root) (ts : List Tok)
      → on (roots f ds rs) (spell_roots token_mark more ts) ≡ on (roots f ds (rs ++ more)) ts
  reads_roots f ds rs [] ts = ap (λ rs. on (roots f ds rs) ts) (sym (append-nil rs))
  reads_roots f ds rs (r ∷ more) ts =
      ap (λ o. outcome_from (advance limit) finish (open_root f ds rs o) (tok.colon ∷ tok.name r.name ∷ spell_roots token_mark more ts)) (kind_of-kind r.kind)
      ∙ reads_roots f ds (rs ++ r ∷ []) more ts
      ∙ ap (λ rs. on (roots f ds rs) ts) (append_assoc rs (r ∷ []) more)

  -- ---- lists with separators

  reads_implements_further : (leading : Bool) (f : Front) (k : Fielded) (n : List ℕ) (is more : List (List ℕ)) (ts : List Tok)
      → on (listing_more leading (implementing f k n is)) (spell_further token_mark tok.ampersand 1 more ts) ≡ on (listing_more leading (implementing f k n (is ++ more))) ts
  reads_implements_further leading f k n is [] ts = ap (λ is. on (listing_more leading (implementing f k n is)) ts) (sym (append-nil is))
  reads_implements_further leading f k n is (m ∷ more) ts =
      reads_implements_further leading f k n (is ++ m ∷ []) more ts
      ∙ ap (λ is. on (listing_more leading (implementing f k n is)) ts) (append_assoc is (m ∷ []) more)

  reads_members_further : (leading : Bool) (f : Front) (n : List ℕ) (ds : List Directive) (ms more : List (List ℕ)) (ts : List Tok)
      → on (listing_more leading (uniting f n ds ms)) (spell_further token_mark tok.bar 1 more ts) ≡ on (listing_more leading (uniting f n ds (ms ++ more))) ts
  reads_members_further leading f n ds ms [] ts = ap (λ ms. on (listing_more leading (uniting f n ds ms)) ts) (sym (append-nil ms))
  reads_members_further leading f n ds ms (m ∷ more) ts =
      reads_members_further leading f n ds (ms ++ m ∷ []) more ts
      ∙ ap (λ ms. on (listing_more leading (uniting f n ds ms)) ts) (append_assoc ms (m ∷ []) more)

  -- a location behind those before it
  behind_locations : (leading : Bool) (f : Front) (n : List ℕ) (ws : List WrittenInput) (r : Bool) (ls : List Location) (l : Location) (ts : List Tok)
      → outcome_from (advance limit) finish (listing_more_of leading (option_map (λ l. locating f n ws r (ls ++ l ∷ [])) (location_of (location_word l)))) ts
      ≡ on (listing_more leading (locating f n ws r (ls ++ l ∷ []))) ts
  behind_locations leading f n ws r ls l ts =
      ap (λ o. outcome_from (advance limit) finish (listing_more_of leading (option_map (λ l. locating f n ws r (ls ++ l ∷ [])) o)) ts) (location_of-location l)

  reads_locations_further : (leading : Bool) (f : Front) (n : List ℕ) (ws : List WrittenInput) (r : Bool) (ls more : List Location) (ts : List Tok)
      → on (listing_more leading (locating f n ws r ls)) (spell_further token_mark tok.bar 0 (map location_word more) ts)
      ≡ on (listing_more leading (locating f n ws r (ls ++ more))) ts
  reads_locations_further leading f n ws r ls [] ts = ap (λ ls. on (listing_more leading (locating f n ws r ls)) ts) (sym (append-nil ls))
  reads_locations_further leading f n ws r ls (m ∷ more) ts =
      behind_locations leading f n ws r ls m (spell_further token_mark tok.bar 0 (map location_word more) ts)
      ∙ reads_locations_further leading f n ws r (ls ++ m ∷ []) more ts
      ∙ ap (λ ls. on (listing_more leading (locating f n ws r ls)) ts) (append_assoc ls (m ∷ []) more)

  reads_locations : (leading : Bool) (f : Front) (n : List ℕ) (ws : List WrittenInput) (r : Bool) (ls : List Location) (ts : List Tok) → NotEmpty ls
      → on (listing (locating f n ws r [])) (spell_separated token_mark tok.bar 0 leading (map location_word ls) ts) ≡ on (listing_more leading (locating f n ws r ls)) ts
  reads_locations leading f n ws r [] ts h = absurd h
  reads_locations true f n ws r (l ∷ ls) ts h =
      behind_locations true f n ws r [] l (spell_further token_mark tok.bar 0 (map location_word ls) ts) ∙ reads_locations_further true f n ws r (l ∷ []) ls ts
  reads_locations false f n ws r (l ∷ ls) ts h =
      behind_locations false f n ws r [] l (spell_further token_mark tok.bar 0 (map location_word ls) ts) ∙ reads_locations_further false f n ws r (l ∷ []) ls ts

  -- ---- definitions

  -- no more names, and what follows goes on behind the list
  abbrev NoSeparator : Listing → List Tok → Type 0
  NoSeparator (implementing f k n ns) (tok.ampersand ∷ ts) = ⊥
  NoSeparator (uniting f n ds ns) (tok.bar ∷ ts) = ⊥
  NoSeparator (locating f n ws r ls) (tok.bar ∷ ts) = ⊥
  NoSeparator l ts = Unit {0}

  implements-ends : (leading : Bool) (f : Front) (k : Fielded) (n : List ℕ) (is : List (List ℕ)) (ts : List Tok) → NoSeparator (implementing f k n is) ts
      → on (listing_more leading (implementing f k n is)) ts ≡ on (directives_of (on_fielded (heading_of f k n leading is))) ts
  implements-ends leading f k n is [] h = refl
  implements-ends leading f k n is (tok.ampersand ∷ ts) h = absurd h
  implements-ends leading f k n is (t ∷ ts) h = refl

  members-end : (leading : Bool) (f : Front) (n : List ℕ) (ds : List Directive) (ms : List (List ℕ)) (ts : List Tok) → NoSeparator (uniting f n ds ms) ts
      → on (listing_more leading (uniting f n ds ms)) ts ≡ on (head (front_then f (union n ds leading ms))) ts
  members-end leading f n ds ms [] h = refl
  members-end leading f n ds ms (tok.bar ∷ ts) h = absurd h
  members-end leading f n ds ms (t ∷ ts) h = refl

  locations-end : (leading : Bool) (f : Front) (n : List ℕ) (ws : List WrittenInput) (r : Bool) (ls : List Location) (ts : List Tok)
      → NoSeparator (locating f n ws r ls) ts
      → on (listing_more leading (locating f n ws r ls)) ts ≡ on (head (front_then f (directive n ws r leading ls))) ts
  locations-end leading f n ws r ls [] h = refl
  locations-end leading f n ws r ls (tok.bar ∷ ts) h = absurd h
  locations-end leading f n ws r ls (t ∷ ts) h = refl

  calm-no_bar : (f : Front) (n : List ℕ) (ds : List Directive) (ms : List (List ℕ)) (ts : List Tok) → Calm ts → NoSeparator (uniting f n ds ms) ts
  calm-no_bar f n ds ms [] h = tt
  calm-no_bar f n ds ms (tok.bar ∷ ts) h = absurd h
  calm-no_bar f n ds ms (t ∷ ts) h = tt

  calm-no_location : (f : Front) (n : List ℕ) (ws : List WrittenInput) (r : Bool) (ls : List Location) (ts : List Tok) → Calm ts → NoSeparator (locating f n ws r ls) ts
  calm-no_location f n ws r ls [] h = tt
  calm-no_location f n ws r ls (tok.bar ∷ ts) h = absurd h
  calm-no_location f n ws r ls (t ∷ ts) h = tt

  fields-no_implements : (ds : List Directive) (fs : List WrittenField) (ts : List Tok) → Follows ts
      → NoImplements (spell_directives token_mark ds (spell_fields_part token_mark fs ts))
  fields-no_implements (d ∷ ds) fs ts h = tt
  fields-no_implements [] (f ∷ fs) ts h = tt
  fields-no_implements [] [] [] h = tt
  fields-no_implements [] [] (tok.text d ∷ ts) h = tt
  fields-no_implements [] [] (tok.name n ∷ ts) h = h
  fields-no_implements [] [] (t ∷ ts) h = absurd h

  fields-no_separator : (f : Front) (k : Fielded) (n : List ℕ) (is : List (List ℕ)) (ds : List Directive) (fs : List WrittenField) (ts : List Tok) → Follows ts
      → NoSeparator (implementing f k n is) (spell_directives token_mark ds (spell_fields_part token_mark fs ts))
  fields-no_separator f k n is (d ∷ ds) fs ts h = tt
  fields-no_separator f k n is [] (e ∷ fs) ts h = tt
  fields-no_separator f k n is [] [] [] h = tt
  fields-no_separator f k n is [] [] (tok.text d ∷ ts) h = tt
  fields-no_separator f k n is [] [] (tok.name m ∷ ts) h = tt
  fields-no_separator f k n is [] [] (t ∷ ts) h = absurd h

  fields-unled : (fs : List WrittenField) (ts : List Tok) → Calm ts → Unled (spell_fields_part token_mark fs ts)
  fields-unled [] ts h = calm-unled ts h
  fields-unled (f ∷ fs) ts h = tt

  entitled-skips : (f : Front) (k : Fielded) (n : List ℕ) (ts : List Tok) → NoImplements ts
      → on (entitled f k n) ts ≡ on (directives_of (on_fielded (heading_of f k n false []))) ts
  entitled-skips f k n [] h = refl
  entitled-skips f k n (tok.name m ∷ ts) h =
      ap (λ b. outcome_from (advance limit) finish
      (cond b (Ok (listing (implementing f k n []))) (at_directives limit (on_fielded (heading_of f k n false [])) (tok.name m))) ts) h
  entitled-skips f k n (t ∷ ts) h = refl

  reads_implements : (f : Front) (k : Fielded) (n : List ℕ) (leading : Bool) (is : List (List ℕ)) (ds : List Directive) (fs : List WrittenField) (ts : List Tok)
      → Led leading is → Follows ts
      → on (entitled f k n) (spell_implements token_mark leading is (spell_directives token_mark ds (spell_fields_part token_mark fs ts)))
      ≡ on (directives_of (on_fielded (heading_of f k n leading is))) (spell_directives token_mark ds (spell_fields_part token_mark fs ts))
  reads_implements f k n true [] ds fs ts h c = absurd h
  reads_implements f k n false [] ds fs ts h c =
      entitled-skips f k n (spell_directives token_mark ds (spell_fields_part token_mark fs ts)) (fields-no_implements ds fs ts c)
  reads_implements f k n true (i ∷ is) ds fs ts h c =
      let rest : List Tok = spell_directives token_mark ds (spell_fields_part token_mark fs ts) in
      reads_implements_further true f k n (i ∷ []) is rest ∙ implements-ends true f k n (i ∷ is) rest (fields-no_separator f k n (i ∷ is) ds fs ts c)
  reads_implements f k n false (i ∷ is) ds fs ts h c =
      let rest : List Tok = spell_directives token_mark ds (spell_fields_part token_mark fs ts) in
      reads_implements_further false f k n (i ∷ []) is rest ∙ implements-ends false f k n (i ∷ is) rest (fields-no_separator f k n (i ∷ is) ds fs ts c)

  reads_fields_part : (h : Heading) (ds : List Directive) (fs : List WrittenField) (ts : List Tok) → AllByRecursion ShapedField fs → AllByRecursion FieldFits fs
      → Calm ts → on (in_directives (further true ds (on_fielded h))) (spell_fields_part token_mark fs ts) ≡ on (head (heading_then h ds fs)) ts
  reads_fields_part h ds [] ts k f c = settles (on_fielded h) ds ts c
  reads_fields_part h ds (e ∷ fs) ts k f c = reads_fields (record { heading = h; directives = ds }) [] (e ∷ fs) (tok.close_brace ∷ ts) k f tt

  reads_fielded : (f : Front) (k : Fielded) (n : List ℕ) (leading : Bool) (is : List (List ℕ)) (ds : List Directive) (fs : List WrittenField) (ts : List Tok)
      → Led leading is → ShapedDirectives true ds → DirectivesFit ds → AllByRecursion ShapedField fs → AllByRecursion FieldFits fs → Follows ts
      → on (entitled f k n) (spell_implements token_mark leading is (spell_directives token_mark ds (spell_fields_part token_mark fs ts)))
      ≡ on (head (heading_then (heading_of f k n leading is) ds fs)) ts
  reads_fielded f k n leading is ds fs ts l h d g e c =
      reads_implements f k n leading is ds fs ts l c
      ∙ reads_directives (on_fielded (heading_of f k n leading is)) ds (spell_fields_part token_mark fs ts) h d (fields-unled fs ts (calm-follows ts c))
      ∙ reads_fields_part (heading_of f k n leading is) ds fs ts g e (calm-follows ts c)

  reads_members : (f : Front) (n : List ℕ) (ds : List Directive) (leading : Bool) (ms : List (List ℕ)) (ts : List Tok) → Led leading ms → Calm ts
      → on (in_directives (further true ds (on_union f n))) (spell_members_part token_mark leading ms ts) ≡ on (head (front_then f (union n ds leading ms))) ts
  reads_members f n ds true [] ts h c = absurd h
  reads_members f n ds false [] ts h c = settles (on_union f n) ds ts c
  reads_members f n ds true (m ∷ ms) ts h c =
      reads_members_further true f n ds (m ∷ []) ms ts ∙ members-end true f n ds (m ∷ ms) ts (calm-no_bar f n ds (m ∷ ms) ts c)
  reads_members f n ds false (m ∷ ms) ts h c =
      reads_members_further false f n ds (m ∷ []) ms ts ∙ members-end false f n ds (m ∷ ms) ts (calm-no_bar f n ds (m ∷ ms) ts c)

  members-unled : (leading : Bool) (ms : List (List ℕ)) (ts : List Tok) → Calm ts → Unled (spell_members_part token_mark leading ms ts)
  members-unled leading [] ts h = calm-unled ts h
  members-unled leading (m ∷ ms) ts h = tt

  reads_values_part : (f : Front) (n : List ℕ) (ds : List Directive) (vs : List WrittenValue) (ts : List Tok) → AllByRecursion ShapedEnumValue vs
      → AllByRecursion ValueFits vs → Calm ts
      → on (in_directives (further true ds (on_enum f n))) (spell_enum_values_part token_mark vs ts) ≡ on (head (front_then f (enum n ds vs))) ts
  reads_values_part f n ds [] ts h k c = settles (on_enum f n) ds ts c
  reads_values_part f n ds (v ∷ vs) ts h k c = reads_values (record { front = f; title = n; directives = ds }) [] (v ∷ vs) (tok.close_brace ∷ ts) h k tt

  values-unled : (vs : List WrittenValue) (ts : List Tok) → Calm ts → Unled (spell_enum_values_part token_mark vs ts)
  values-unled [] ts h = calm-unled ts h
  values-unled (v ∷ vs) ts h = tt

  reads_input_fields : (f : Front) (n : List ℕ) (ds : List Directive) (ws : List WrittenInput) (ts : List Tok) → AllByRecursion ShapedInput ws
      → AllByRecursion InputFits ws → Calm ts
      → on (in_directives (further true ds (on_object f n))) (spell_input_fields token_mark ws ts) ≡ on (head (front_then f (input n ds ws))) ts
  reads_input_fields f n ds [] ts h k c = settles (on_object f n) ds ts c
  reads_input_fields f n ds (w ∷ ws) ts h k c = reads_inputs (of_object f n ds) [] (w ∷ ws) (tok.close_brace ∷ ts) h k tt

  inputs-unled : (ws : List WrittenInput) (ts : List Tok) → Calm ts → Unled (spell_input_fields token_mark ws ts)
  inputs-unled [] ts h = calm-unled ts h
  inputs-unled (w ∷ ws) ts h = tt

  reads_repeatable : (f : Front) (n : List ℕ) (ws : List WrittenInput) (r : Bool) (ts : List Tok)
      → on (directive_on f n ws false) (spell_repeatable token_mark r (tok.name on_word ∷ ts)) ≡ on (listing (locating f n ws r [])) ts
  reads_repeatable f n ws true ts = refl
  reads_repeatable f n ws false ts = refl

  arguments-skip : (f : Front) (n : List ℕ) (r : Bool) (ts : List Tok)
      → on (directive_arguments f n) (spell_repeatable token_mark r (tok.name on_word ∷ ts)) ≡ on (directive_on f n [] false) (spell_repeatable token_mark r (tok.name on_word ∷ ts))
  arguments-skip f n true ts = refl
  arguments-skip f n false ts = refl

  reads_directive_arguments : (f : Front) (n : List ℕ) (ws : List WrittenInput) (r : Bool) (ts : List Tok) → AllByRecursion ShapedInput ws → AllByRecursion InputFits ws
      → on (directive_arguments f n) (spell_argument_defs token_mark ws (spell_repeatable token_mark r (tok.name on_word ∷ ts)))
      ≡ on (listing (locating f n ws r [])) ts
  reads_directive_arguments f n [] r ts h k = arguments-skip f n r ts ∙ reads_repeatable f n [] r ts
  reads_directive_arguments f n (w ∷ ws) r ts h k =
      reads_inputs (of_directive f n) [] (w ∷ ws) (tok.close_paren ∷ spell_repeatable token_mark r (tok.name on_word ∷ ts)) h k tt
      ∙ reads_repeatable f n (w ∷ ws) r ts

  reads_schema : (f : Front) (ds : List Directive) (rs : List Root) (ts : List Tok) → NotEmpty rs
      → on (in_directives (further true ds (on_schema f))) (tok.open_brace ∷ spell_roots token_mark rs (tok.close_brace ∷ ts)) ≡ on (head (front_then f (schema ds rs))) ts
  reads_schema f ds [] ts h = absurd h
  reads_schema f ds (r ∷ rs) ts h = reads_roots f ds [] (r ∷ rs) (tok.close_brace ∷ ts)

  pub reads_written : (f : Front) (n : ℕ) (w : Written) (ts : List Tok) → ShapedWritten w → Neat w → WrittenFits w → Follows ts
      → on (head f) (spell_written token_mark n w ts) ≡ on (head (front_then f w)) ts
  reads_written f n (schema ds rs) ts h k d c =
      reads_directives (on_schema f) ds (tok.open_brace ∷ spell_roots token_mark rs (tok.close_brace ∷ ts)) h.0 d tt ∙ reads_schema f ds rs ts h.1
  reads_written f n (scalar m ds) ts h k d c = reads_ending (on_scalar f m) ds ts h d (calm-follows ts c)
  reads_written f n (object m leading is ds fs) ts h k d c = reads_fielded f an_object m leading is ds fs ts k h.0 d.0 h.1 d.1 c
  reads_written f n (interface m leading is ds fs) ts h k d c = reads_fielded f an_interface m leading is ds fs ts k h.0 d.0 h.1 d.1 c
  reads_written f n (union m ds leading ms) ts h k d c =
      reads_directives (on_union f m) ds (spell_members_part token_mark leading ms ts) h d (members-unled leading ms ts (calm-follows ts c))
      ∙ reads_members f m ds leading ms ts k (calm-follows ts c)
  reads_written f n (enum m ds vs) ts h k d c =
      reads_directives (on_enum f m) ds (spell_enum_values_part token_mark vs ts) h.0 d.0 (values-unled vs ts (calm-follows ts c))
      ∙ reads_values_part f m ds vs ts h.1 d.1 (calm-follows ts c)
  reads_written f n (input m ds ws) ts h k d c =
      reads_directives (on_object f m) ds (spell_input_fields token_mark ws ts) h.0 d.0 (inputs-unled ws ts (calm-follows ts c))
      ∙ reads_input_fields f m ds ws ts h.1 d.1 (calm-follows ts c)
  reads_written f n (directive m ws r leading ls) ts h k d c =
      reads_directive_arguments f m ws r (spell_separated token_mark tok.bar 0 leading (map location_word ls) ts) h.0 d
      ∙ reads_locations leading f m ws r ls ts h.1
      ∙ locations-end leading f m ws r ls ts (calm-no_location f m ws r ls ts (calm-follows ts c))

  reads_described : (ds : List Described) (above : ℕ) (d : Description) (w : Written) (ts : List Tok) → ShapedWritten w → Neat w → WrittenFits w → Follows ts
      → on (head (record { before = ds; description = None })) (spell_described token_mark above d w ts)
      ≡ on (head (record { before = ds ++ record { description = d; written = w } ∷ []; description = None })) ts
  reads_described ds above None w ts h k f c = reads_written (record { before = ds; description = None }) (above + 1) w ts h k f c
  reads_described ds above (Some d) w ts h k f c = reads_written (record { before = ds; description = Some d }) 0 w ts h k f c

  written-follows : (n : ℕ) (w : Written) (ts : List Tok) → Follows (spell_written token_mark n w ts)
  written-follows n (schema ds rs) ts = refl
  written-follows n (scalar m ds) ts = refl
  written-follows n (object m leading is ds fs) ts = refl
  written-follows n (interface m leading is ds fs) ts = refl
  written-follows n (union m ds leading ms) ts = refl
  written-follows n (enum m ds vs) ts = refl
  written-follows n (input m ds ws) ts = refl
  written-follows n (directive m ws r leading ls) ts = refl

  described-follows : (above : ℕ) (d : Description) (w : Written) (ts : List Tok) → Follows (spell_described token_mark above d w ts)
  described-follows above None w ts = written-follows (above + 1) w ts
  described-follows above (Some d) w ts = tt

  definitions-follow : (above : ℕ) (ds : List Described) → Follows (spell_definitions token_mark above ds)
  definitions-follow above [] = tt
  definitions-follow above (d ∷ ds) = described-follows above d.description d.written (spell_definitions token_mark 0 ds)

  reads_definitions : (above : ℕ) (before more : List Described) → AllByRecursion ShapedDescribed more → AllByRecursion (λ d. WrittenFits d.written) more
      → on (head (record { before = before; description = None })) (spell_definitions token_mark above more)
      ≡ on (head (record { before = before ++ more; description = None })) []
  reads_definitions above before [] h f = ap (λ ds. on (head (record { before = ds; description = None })) []) (sym (append-nil before))
  reads_definitions above before (d ∷ more) h f =
      reads_described before above d.description d.written (spell_definitions token_mark 0 more) h.0.0 h.0.1 f.0 (definitions-follow 0 more)
      ∙ reads_definitions 0 (before ++ d ∷ []) more h.1 f.1
      ∙ ap (λ ds. on (head (record { before = ds; description = None })) []) (append_assoc before (d ∷ []) more)

  pub reads_schemas : (v : List Described) → NotEmpty v → AllByRecursion ShapedDescribed v → AllByRecursion (λ d. WrittenFits d.written) v
      → on (head no_front) (spell_schema token_mark v) ≡ Some v
  reads_schemas [] n h f = absurd n
  reads_schemas (d ∷ ds) n h f = reads_definitions 1 [] (d ∷ ds) h f
