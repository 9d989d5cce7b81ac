-- The shapes of the schemas that the machine puts together, whatever the names in its tokens are. A schema of this shape that
-- is written with tokens such as texts have is formed.
use Rattle.std.proofs.Common.{ℕ, ◌+◌, Bool, true, false, List, [], ◌∷◌, map, Some, None}
use Rattle.std.specs.List.{AllByRecursion}
use Rattle.gql_syntax.specs.gql_lex.Toks as tok
use Rattle.gql_syntax.specs.gql_lex.Toks.{Tok}
use Rattle.gql_syntax.specs.gql_ast.TypeView.{ty_of}
use Rattle.gql_syntax.specs.gql_ast.declared.directive.Directive.{Directive}
use Rattle.gql_syntax.specs.gql_ast.declared.schema.Root.{Root}
use Rattle.gql_sdl.specs.Schemas.{Description, WrittenInput, WrittenField, WrittenValue, Written, schema, scalar, object, interface, union, enum, input, directive, Described, NotEmpty, FormedInput, FormedField, FormedEnumValue, FormedRoot, FormedNames, FormedWritten, spell_description, spell_input, spell_inputs, spell_argument_defs, spell_input_fields, spell_field, spell_fields, spell_fields_part, spell_enum_value, spell_enum_values, spell_enum_values_part, spell_roots, spell_leading, spell_further, spell_separated, spell_implements, spell_members_part, spell_repeatable, spell_written, spell_described, spell_definitions, location_word}
use Rattle.gql_syntax.specs.Formed.{FormedDirectives}
use Rattle.gql_syntax.proofs.Forms.{AreToks, directives_forms, type_forms, default_forms, directives_shape, type_shape, default_shape}
use Rattle.gql_syntax.proofs.Shapes.{ShapedDirectives, ShapedDefault, ShapedType}
use Rattle.gql_syntax.specs.Spelling.{Mark, spell_directives, spell_type, spell_default}
use Rattle.gql_syntax.specs.Words.{on_word, IsEnumName}

abbrev pub ShapedInput : WrittenInput → Type 0
ShapedInput w = ShapedType (ty_of w.input.of) × ShapedDefault w.input.default × ShapedDirectives true w.input.directives

abbrev pub ShapedField : WrittenField → Type 0
ShapedField f = AllByRecursion ShapedInput f.arguments × ShapedType (ty_of f.of) × ShapedDirectives true f.directives

abbrev pub ShapedEnumValue : WrittenValue → Type 0
ShapedEnumValue w = IsEnumName w.value.name × ShapedDirectives true w.value.directives

abbrev pub ShapedWritten : Written → Type 0
ShapedWritten (schema ds rs) = ShapedDirectives true ds × NotEmpty rs
ShapedWritten (scalar n ds) = ShapedDirectives true ds
ShapedWritten (object n leading is ds fs) = ShapedDirectives true ds × AllByRecursion ShapedField fs
ShapedWritten (interface n leading is ds fs) = ShapedDirectives true ds × AllByRecursion ShapedField fs
ShapedWritten (union n ds leading ms) = ShapedDirectives true ds
ShapedWritten (enum n ds vs) = ShapedDirectives true ds × AllByRecursion ShapedEnumValue vs
ShapedWritten (input n ds ws) = ShapedDirectives true ds × AllByRecursion ShapedInput ws
ShapedWritten (directive n ws repeatable leading ls) = AllByRecursion ShapedInput ws × NotEmpty ls

-- ---- trees that are written with tokens such as texts have

abbrev keep : Mark Tok
keep t level nodes = t

abbrev Spelt : (List Tok → List Tok) → Type 0 → Type 0
Spelt spell P = (ts : List Tok) → AreToks (spell ts) → P × AreToks ts

described_rest : (d : Description) (ts : List Tok) → AreToks (spell_description keep d ts) → AreToks ts
described_rest None ts h = h
described_rest (Some d) ts h = h.1

input_forms : (w : WrittenInput) → ShapedInput w → Spelt (spell_input keep w) (FormedInput w)
input_forms w p ts h =
    let directives = spell_directives keep w.input.directives ts in
    let behind = spell_type keep (ty_of w.input.of) 0 0 (spell_default keep w.input.default directives) in
    let r0 = described_rest w.description (tok.name w.input.name ∷ tok.colon ∷ behind) h in
    let r1 = type_forms (ty_of w.input.of) 0 0 p.0 (spell_default keep w.input.default directives) r0.1.1 in
    let r2 = default_forms w.input.default p.1 directives r1.1 in
    let r3 = directives_forms true w.input.directives p.2 ts r2.1 in
    ((r0.0, r1.0, r2.0, r3.0), r3.1)

inputs_forms : (ws : List WrittenInput) → AllByRecursion ShapedInput ws → Spelt (spell_inputs keep ws) (AllByRecursion FormedInput ws)
inputs_forms [] p ts h = (tt, h)
inputs_forms (w ∷ ws) p ts h =
    let r1 = input_forms w p.0 (spell_inputs keep ws ts) h in
    let r2 = inputs_forms ws p.1 ts r1.1 in
    ((r1.0, r2.0), r2.1)

argument_defs_forms : (ws : List WrittenInput) → AllByRecursion ShapedInput ws → Spelt (spell_argument_defs keep ws) (AllByRecursion FormedInput ws)
argument_defs_forms [] p ts h = (tt, h)
argument_defs_forms (w ∷ ws) p ts h = let r = inputs_forms (w ∷ ws) p (tok.close_paren ∷ ts) h.1 in (r.0, r.1.1)

input_fields_forms : (ws : List WrittenInput) → AllByRecursion ShapedInput ws → Spelt (spell_input_fields keep ws) (AllByRecursion FormedInput ws)
input_fields_forms [] p ts h = (tt, h)
input_fields_forms (w ∷ ws) p ts h = let r = inputs_forms (w ∷ ws) p (tok.close_brace ∷ ts) h.1 in (r.0, r.1.1)

field_forms : (f : WrittenField) → ShapedField f → Spelt (spell_field keep f) (FormedField f)
field_forms f p ts h =
    let directives = spell_directives keep f.directives ts in
    let behind = tok.colon ∷ spell_type keep (ty_of f.of) 0 0 directives in
    let r0 = described_rest f.description (tok.name f.name ∷ spell_argument_defs keep f.arguments behind) h in
    let r1 = argument_defs_forms f.arguments p.0 behind r0.1 in
    let r2 = type_forms (ty_of f.of) 0 0 p.1 directives r1.1.1 in
    let r3 = directives_forms true f.directives p.2 ts r2.1 in
    ((r0.0, r1.0, r2.0, r3.0), r3.1)

fields_forms : (fs : List WrittenField) → AllByRecursion ShapedField fs → Spelt (spell_fields keep fs) (AllByRecursion FormedField fs)
fields_forms [] p ts h = (tt, h)
fields_forms (f ∷ fs) p ts h =
    let r1 = field_forms f p.0 (spell_fields keep fs ts) h in
    let r2 = fields_forms fs p.1 ts r1.1 in
    ((r1.0, r2.0), r2.1)

fields_part_forms : (fs : List WrittenField) → AllByRecursion ShapedField fs → Spelt (spell_fields_part keep fs) (AllByRecursion FormedField fs)
fields_part_forms [] p ts h = (tt, h)
fields_part_forms (f ∷ fs) p ts h = let r = fields_forms (f ∷ fs) p (tok.close_brace ∷ ts) h.1 in (r.0, r.1.1)

value_forms : (w : WrittenValue) → ShapedEnumValue w → Spelt (spell_enum_value keep w) (FormedEnumValue w)
value_forms w p ts h =
    let r0 = described_rest w.description (tok.name w.value.name ∷ spell_directives keep w.value.directives ts) h in
    let r1 = directives_forms true w.value.directives p.1 ts r0.1 in
    ((r0.0, p.0, r1.0), r1.1)

values_forms : (ws : List WrittenValue) → AllByRecursion ShapedEnumValue ws → Spelt (spell_enum_values keep ws) (AllByRecursion FormedEnumValue ws)
values_forms [] p ts h = (tt, h)
values_forms (w ∷ ws) p ts h =
    let r1 = value_forms w p.0 (spell_enum_values keep ws ts) h in
    let r2 = values_forms ws p.1 ts r1.1 in
    ((r1.0, r2.0), r2.1)

values_part_forms : (ws : List WrittenValue) → AllByRecursion ShapedEnumValue ws → Spelt (spell_enum_values_part keep ws) (AllByRecursion FormedEnumValue ws)
values_part_forms [] p ts h = (tt, h)
values_part_forms (w ∷ ws) p ts h = let r = values_forms (w ∷ ws) p (tok.close_brace ∷ ts) h.1 in (r.0, r.1.1)

roots_forms : (rs : List Root) → Spelt (spell_roots keep rs) (AllByRecursion FormedRoot rs)
roots_forms [] ts h = (tt, h)
roots_forms (r ∷ rs) ts h = let s = roots_forms rs ts h.1.1.1 in ((h.1.1.0, s.0), s.1)

-- ---- lists with separators

leading_rest : (separator : Tok) (leading : Bool) (ts : List Tok) → AreToks (spell_leading keep separator leading ts) → AreToks ts
leading_rest separator false ts h = h
leading_rest separator true ts h = h.1

further_forms : (separator : Tok) (ns : List (List ℕ)) → Spelt (spell_further keep separator 1 ns) (FormedNames ns)
further_forms separator [] ts h = (tt, h)
further_forms separator (n ∷ ns) ts h = let r = further_forms separator ns ts h.1.1 in ((h.1.0, r.0), r.1)

separated_forms : (separator : Tok) (leading : Bool) (ns : List (List ℕ)) → Spelt (spell_separated keep separator 1 leading ns) (FormedNames ns)
separated_forms separator leading [] ts h = (tt, h)
separated_forms separator leading (n ∷ ns) ts h =
    let r0 = leading_rest separator leading (tok.name n ∷ spell_further keep separator 1 ns ts) h in
    let r1 = further_forms separator ns ts r0.1 in
    ((r0.0, r1.0), r1.1)

implements_forms : (leading : Bool) (ns : List (List ℕ)) → Spelt (spell_implements keep leading ns) (FormedNames ns)
implements_forms leading [] ts h = (tt, h)
implements_forms leading (n ∷ ns) ts h = separated_forms tok.ampersand leading (n ∷ ns) ts h.1

members_part_forms : (leading : Bool) (ns : List (List ℕ)) → Spelt (spell_members_part keep leading ns) (FormedNames ns)
members_part_forms leading [] ts h = (tt, h)
members_part_forms leading (n ∷ ns) ts h = separated_forms tok.bar leading (n ∷ ns) ts h.1

further_rest : (separator : Tok) (nodes : ℕ) (ns : List (List ℕ)) (ts : List Tok) → AreToks (spell_further keep separator nodes ns ts) → AreToks ts
further_rest separator nodes [] ts h = h
further_rest separator nodes (n ∷ ns) ts h = further_rest separator nodes ns ts h.1.1

separated_rest : (separator : Tok) (nodes : ℕ) (leading : Bool) (ns : List (List ℕ)) (ts : List Tok) → AreToks (spell_separated keep separator nodes leading ns ts) → AreToks ts
separated_rest separator nodes leading [] ts h = h
separated_rest separator nodes leading (n ∷ ns) ts h =
    let r0 = leading_rest separator leading (tok.name n ∷ spell_further keep separator nodes ns ts) h in
    further_rest separator nodes ns ts r0.1

repeatable_rest : (b : Bool) (ts : List Tok) → AreToks (spell_repeatable keep b ts) → AreToks ts
repeatable_rest false ts h = h
repeatable_rest true ts h = h.1

-- ---- definitions

fielded_forms : (leading : Bool) (is : List (List ℕ)) (ds : List Directive) (fs : List WrittenField) → ShapedDirectives true ds × AllByRecursion ShapedField fs
    → Spelt (λ ts. spell_implements keep leading is (spell_directives keep ds (spell_fields_part keep fs ts)))
    (FormedNames is × FormedDirectives true ds × AllByRecursion FormedField fs)
fielded_forms leading is ds fs p ts h =
    let r1 = implements_forms leading is (spell_directives keep ds (spell_fields_part keep fs ts)) h in
    let r2 = directives_forms true ds p.0 (spell_fields_part keep fs ts) r1.1 in
    let r3 = fields_part_forms fs p.1 ts r2.1 in
    ((r1.0, r2.0, r3.0), r3.1)

written_forms : (first : ℕ) (w : Written) → ShapedWritten w → Spelt (spell_written keep first w) (FormedWritten w)
written_forms first (schema ds rs) p ts h =
    let r1 = directives_forms true ds p.0 (tok.open_brace ∷ spell_roots keep rs (tok.close_brace ∷ ts)) h.1 in
    let r2 = roots_forms rs (tok.close_brace ∷ ts) r1.1.1 in
    ((r1.0, p.1, r2.0), r2.1.1)
written_forms first (scalar n ds) p ts h = let r = directives_forms true ds p ts h.1.1 in ((h.1.0, r.0), r.1)
written_forms first (object n leading is ds fs) p ts h =
    let r = fielded_forms leading is ds fs p ts h.1.1 in
    ((h.1.0, r.0.0, r.0.1, r.0.2), r.1)
written_forms first (interface n leading is ds fs) p ts h =
    let r = fielded_forms leading is ds fs p ts h.1.1 in
    ((h.1.0, r.0.0, r.0.1, r.0.2), r.1)
written_forms first (union n ds leading ms) p ts h =
    let r1 = directives_forms true ds p (spell_members_part keep leading ms ts) h.1.1 in
    let r2 = members_part_forms leading ms ts r1.1 in
    ((h.1.0, r1.0, r2.0), r2.1)
written_forms first (enum n ds vs) p ts h =
    let r1 = directives_forms true ds p.0 (spell_enum_values_part keep vs ts) h.1.1 in
    let r2 = values_part_forms vs p.1 ts r1.1 in
    ((h.1.0, r1.0, r2.0), r2.1)
written_forms first (input n ds ws) p ts h =
    let r1 = directives_forms true ds p.0 (spell_input_fields keep ws ts) h.1.1 in
    let r2 = input_fields_forms ws p.1 ts r1.1 in
    ((h.1.0, r1.0, r2.0), r2.1)
written_forms first (directive n ws repeatable leading ls) p ts h =
    let locations = spell_separated keep tok.bar 0 leading (map location_word ls) ts in
    let r1 = argument_defs_forms ws p.0 (spell_repeatable keep repeatable (tok.name on_word ∷ locations)) h.1.1.1 in
    let r2 = repeatable_rest repeatable (tok.name on_word ∷ locations) r1.1 in
    ((h.1.1.0, r1.0, p.1), separated_rest tok.bar 0 leading (map location_word ls) ts r2.1)

described_forms : (above : ℕ) (d : Description) (w : Written) → ShapedWritten w → Spelt (spell_described keep above d w) (FormedWritten w)
described_forms above None w p ts h = written_forms (above + 1) w p ts h
described_forms above (Some d) w p ts h = written_forms 0 w p ts h.1

pub definitions_forms : (above : ℕ) (ds : List Described) → AllByRecursion (λ d. ShapedWritten d.written) ds → AreToks (spell_definitions keep above ds)
    → AllByRecursion (λ d. FormedWritten d.written) ds
definitions_forms above [] p h = tt
definitions_forms above (d ∷ ds) p h =
    let r = described_forms above d.description d.written p.0 (spell_definitions keep 0 ds) h in
    (r.0, definitions_forms 0 ds p.1 r.1)

-- ---- what is formed has the shape

inputs_shape : (ws : List WrittenInput) → AllByRecursion FormedInput ws → AllByRecursion ShapedInput ws
inputs_shape [] f = tt
inputs_shape (w ∷ ws) f =
    ((type_shape (ty_of w.input.of) f.0.1, default_shape w.input.default f.0.2, directives_shape true w.input.directives f.0.3), inputs_shape ws f.1)

fields_shape : (fs : List WrittenField) → AllByRecursion FormedField fs → AllByRecursion ShapedField fs
fields_shape [] f = tt
fields_shape (w ∷ ws) f = ((inputs_shape w.arguments f.0.1, type_shape (ty_of w.of) f.0.2, directives_shape true w.directives f.0.3), fields_shape ws f.1)

values_shape : (vs : List WrittenValue) → AllByRecursion FormedEnumValue vs → AllByRecursion ShapedEnumValue vs
values_shape [] f = tt
values_shape (w ∷ ws) f = ((f.0.1, directives_shape true w.value.directives f.0.2), values_shape ws f.1)

pub written_shape : (w : Written) → FormedWritten w → ShapedWritten w
written_shape (schema ds rs) f = (directives_shape true ds f.0, f.1)
written_shape (scalar n ds) f = directives_shape true ds f.1
written_shape (object n leading is ds fs) f = (directives_shape true ds f.2, fields_shape fs f.3)
written_shape (interface n leading is ds fs) f = (directives_shape true ds f.2, fields_shape fs f.3)
written_shape (union n ds leading ms) f = directives_shape true ds f.1
written_shape (enum n ds vs) f = (directives_shape true ds f.1, values_shape vs f.2)
written_shape (input n ds ws) f = (directives_shape true ds f.1, inputs_shape ws f.2)
written_shape (directive n ws repeatable leading ls) f = (inputs_shape ws f.1, f.2)
