-- What the parts of the parser have read: from wherever a part stands, the machine goes on behind it.
use Rattle.std.specs.Prelude.{◌≡◌, ℕ, Bool, true, false, List, [], ◌∷◌, ◌++◌, Some, None, Result}
use Rattle.gql_syntax.specs.gql_lex.Sources.{Source}
use Rattle.gql_syntax.specs.gql_ast.declared.directive.Directive.{Directive}
use Rattle.gql_syntax.specs.gql_ast.declared.location.Location.{Location}
use Rattle.gql_syntax.specs.gql_ast.declared.schema.Root.{Root}
use Rattle.gql_syntax.specs.Answers.{node_count}
use Rattle.gql_syntax.specs.Machine.{further}
use Rattle.gql_syntax.specs.Nexts.{next_is, next_is_text, next_word}
use Rattle.gql_syntax.specs.Places.{Ahead}
pub use Rattle.gql_syntax.specs.Reads.{Anywhere, MayDefine, NoDirective}
use Rattle.gql_syntax.specs.Reads as reading
use Rattle.gql_syntax.specs.Run.{Stopped, run}
use Rattle.gql_syntax.specs.Texts.{nesting_limit}
use Rattle.gql_syntax.specs.declared.fault.Fault.{Fault}
use Rattle.gql_sdl.specs.Machine.{Front, Fielded, Fields, Inputs, of_field, of_directive, of_object, Values, on_schema, on_fielded, on_union, on_enum, on_object, on_value, Listing, implementing, uniting, locating, State, head, entitled, fields, field_arguments, inputs, input_colon, enum_values, roots, directive_arguments, directive_on, listing, listing_led, in_directives, directives_of, heading_of, front_then, heading_then, fielded_word, fielded_written, advance, finish, no_front}
use Rattle.gql_sdl.specs.Schemas.{Description, WrittenInput, WrittenField, WrittenValue, Written, schema, enum, union, directive, Described, spell_description, spell_separated, spell_implements, spell_fields_part, spell_written, definition_of, nodes_of, field_of, location_word}
use Rattle.gql_syntax.specs.Spelling.{spell_directives}
use Rattle.gql_syntax.specs.gql_ast.declared.schema.SchemaDef.{SchemaDef}
use Rattle.gql_sdl.specs.declared.definitions.TypeWithFields.{TypeWithFields}
use Rattle.std.specs.Prelude.{map}
use Rattle.gql_syntax.specs.gql_lex.Toks as tok

abbrev pub run_on : (size : ℕ) → State → Source → Result (List Described) Stopped
run_on size s ahead = run (advance nesting_limit) finish size s ahead

abbrev pub Read : {K W T : Type 0} → (May : K → Source → Type 0) → (from : K → State) → (to : K → W → State) → (spell : W → List ℕ → List ℕ) → (view : W → T) → (old new : Ahead) → T → Type 0
Read May from to spell view old new t = reading.Read run_on May from to spell view old new t

abbrev pub Fails : {K : Type 0} → (May : K → Source → Type 0) → (from : K → State) → Ahead → Fault → Type 0
Fails May from old f = reading.Fails run_on May from old f

abbrev pub Reads : {K W T : Type 0} → (May : K → Source → Type 0) → (from : K → State) → (to : K → W → State) → (spell : W → List ℕ → List ℕ) → (view : W → T) → (old new : Ahead) → Result T Fault → Type 0
Reads May from to spell view old new r = reading.Reads run_on May from to spell view old new r

-- ---- members

-- where a member stands, behind those before it
pub data Member : Type 0 where
  an_input : Inputs → List WrittenInput → Member
  a_field : Fields → List WrittenField → Member

-- a description or a name is wanted
abbrev pub open_member : Member → Description → State
open_member (an_input i ws) d = inputs i ws d
open_member (a_field f fs) d = fields f fs d

-- a description and a name
pub record Named : Type 0 where
  pub description : Description
  pub title : List ℕ

abbrev pub spell_named : Named → List ℕ → List ℕ
spell_named w ns = spell_description node_count w.description (2 ∷ ns)

abbrev pub name_member : Member → Named → State
name_member (an_input i ws) w = input_colon (record { inputs = i; before = ws; description = w.description; title = w.title })
name_member (a_field f fs) w = field_arguments (record { fields = f; before = fs; description = w.description; title = w.title })

-- what opens inputs, and what closes them
abbrev pub opener : Inputs → ℕ
opener (of_field f) = 40
opener (of_directive f n) = 40
opener (of_object f n ds) = 123

abbrev pub closer : Inputs → ℕ
closer (of_field f) = 41
closer (of_directive f n) = 41
closer (of_object f n ds) = 125

-- the members are not closed here
abbrev pub MayName : Member → Source → Type 0
MayName (an_input i ws) ahead = next_is (closer i) ahead ≡ false
MayName (a_field f fs) ahead = next_is 125 ahead ≡ false

-- inputs behind those before
pub record InputsAt : Type 0 where
  pub inputs : Inputs
  pub before : List WrittenInput

abbrev pub MayInput : InputsAt → Source → Type 0
MayInput k ahead = next_is (closer k.inputs) ahead ≡ false

abbrev pub inputs_at : InputsAt → State
inputs_at k = inputs k.inputs k.before None

abbrev pub input_at : InputsAt → WrittenInput → State
input_at k w = inputs k.inputs (k.before ++ w ∷ []) None

-- where inputs may be opened
abbrev pub before_inputs : Inputs → State
before_inputs (of_field f) = field_arguments f
before_inputs (of_directive f n) = directive_arguments f n
before_inputs (of_object f n ds) = in_directives (further true ds (on_object f n))

-- no directive follows where one might
abbrev pub Undirected : Inputs → Source → Type 0
Undirected (of_field f) ahead = Unit {0}
Undirected (of_directive f n) ahead = Unit {0}
Undirected (of_object f n ds) ahead = next_is 64 ahead ≡ false

abbrev pub MayOpen : (opening closing : ℕ) → Inputs → Source → Type 0
MayOpen opening closing i ahead = (opener i ≡ opening) × (closer i ≡ closing) × Undirected i ahead

abbrev pub MayClose : (closing : ℕ) → Inputs → Source → Type 0
MayClose closing i ahead = closer i ≡ closing

-- fields behind those before
pub record FieldsAt : Type 0 where
  pub fields : Fields
  pub before : List WrittenField

abbrev pub MayField : {K : Type 0} → K → Source → Type 0
MayField k ahead = next_is 125 ahead ≡ false

abbrev pub fields_at : FieldsAt → State
fields_at k = fields k.fields k.before None

abbrev pub field_at : FieldsAt → WrittenField → State
field_at k f = fields k.fields (k.before ++ f ∷ []) None

abbrev pub before_fields : Fields → State
before_fields f = in_directives (further true f.directives (on_fielded f.heading))

abbrev pub behind_fields : Fields → List WrittenField → State
behind_fields f fs = head (heading_then f.heading f.directives fs)

-- values behind those before
pub record ValuesAt : Type 0 where
  pub values : Values
  pub before : List WrittenValue

abbrev pub values_at : ValuesAt → State
values_at k = enum_values k.values k.before None

abbrev pub value_at : ValuesAt → WrittenValue → State
value_at k w = enum_values k.values (k.before ++ w ∷ []) None

abbrev pub behind_value_name : ValuesAt → Named → State
behind_value_name k w =
    directives_of (on_value (record { values = k.values; before = k.before; description = w.description; title = w.title }))

abbrev pub before_values : Values → State
before_values v = in_directives (further true v.directives (on_enum v.front v.title))

abbrev pub behind_values : Values → List WrittenValue → State
behind_values v vs = head (front_then v.front (enum v.title v.directives vs))

-- the roots of a schema
pub record RootsOf : Type 0 where
  pub front : Front
  pub directives : List Directive

pub record RootsAt : Type 0 where
  pub schema : RootsOf
  pub before : List Root

abbrev pub roots_at : RootsAt → State
roots_at k = roots k.schema.front k.schema.directives k.before

abbrev pub root_at : RootsAt → Root → State
root_at k r = roots k.schema.front k.schema.directives (k.before ++ r ∷ [])

abbrev pub unopened_roots : RootsOf → State
unopened_roots k = in_directives (further true k.directives (on_schema k.front))

abbrev pub closed_roots : RootsOf → List Root → State
closed_roots k rs = head (front_then k.front (schema k.directives rs))

-- ---- lists with separators

-- a list, and whether a separator stands in front of it
pub record Led (A : Type 0) : Type 0 where
  pub leading : Bool
  pub all : List A

-- each word behind a separator, but the first
abbrev pub spell_led : {W : Type 0} → (nodes : ℕ) → (word : W → List ℕ) → List W → List ℕ → List ℕ
spell_led nodes word ws ns = spell_separated node_count tok.bar nodes false (map word ws) ns

-- what names are listed for
pub data Names : Type 0 where
  for_type : Front → Fielded → List ℕ → Names
  for_union : Front → List ℕ → List Directive → Names

abbrev pub names_listing : Names → List (List ℕ) → Listing
names_listing (for_type f k n) ns = implementing f k n ns
names_listing (for_union f n ds) ns = uniting f n ds ns

abbrev pub names_separator : Names → ℕ
names_separator (for_type f k n) = 38
names_separator (for_union f n ds) = 124

abbrev pub MayList : (separator : ℕ) → Names → Source → Type 0
MayList separator k ahead = names_separator k ≡ separator

abbrev pub before_names : Names → State
before_names k = listing (names_listing k [])

-- the names are listed
abbrev pub behind_names : Names → Led (List ℕ) → State
behind_names (for_type f k n) w = directives_of (on_fielded (heading_of f k n w.leading w.all))
behind_names (for_union f n ds) w = head (front_then f (union n ds w.leading w.all))

abbrev pub spell_names : Led (List ℕ) → List ℕ → List ℕ
spell_names w ns = spell_separated node_count tok.bar 1 w.leading w.all ns

-- behind the separator in front, or where none stands
pub record NamesAt : Type 0 where
  pub names : Names
  pub leading : Bool

abbrev pub lead : (leading : Bool) → Listing → State
lead true l = listing_led l
lead false l = listing l

abbrev pub MayLead : (separator : ℕ) → (leading : Bool) → Source → Type 0
MayLead separator true ahead = Unit {0}
MayLead separator false ahead = next_is separator ahead ≡ false

abbrev pub MayNames : (separator : ℕ) → NamesAt → Source → Type 0
MayNames separator k ahead = (names_separator k.names ≡ separator) × MayLead separator k.leading ahead

abbrev pub led_names : NamesAt → State
led_names k = lead k.leading (names_listing k.names [])

abbrev pub behind_led_names : NamesAt → List (List ℕ) → State
behind_led_names k ns = behind_names k.names (record { leading = k.leading; all = ns })

-- a type that has its name
pub record Entitled : Type 0 where
  pub front : Front
  pub kind : Fielded
  pub title : List ℕ

abbrev pub before_implements : Entitled → State
before_implements k = entitled k.front k.kind k.title

abbrev pub behind_implements : Entitled → Led (List ℕ) → State
behind_implements k w = directives_of (on_fielded (heading_of k.front k.kind k.title w.leading w.all))

-- a union that has its directives
pub record Uniting : Type 0 where
  pub front : Front
  pub title : List ℕ
  pub directives : List Directive

abbrev pub before_union_members : Uniting → State
before_union_members k = in_directives (further true k.directives (on_union k.front k.title))

abbrev pub behind_union_members : Uniting → Led (List ℕ) → State
behind_union_members k w = head (front_then k.front (union k.title k.directives w.leading w.all))

-- a directive that has its arguments
pub record Locating : Type 0 where
  pub front : Front
  pub title : List ℕ
  pub arguments : List WrittenInput

abbrev pub before_repeatable : Locating → State
before_repeatable k = directive_on k.front k.title k.arguments false

abbrev pub set_repeatable : Locating → Bool → State
set_repeatable k repeatable = listing (locating k.front k.title k.arguments repeatable [])

-- and whether it may be repeated
pub record LocatingOn : Type 0 where
  pub directive : Locating
  pub repeatable : Bool

abbrev pub before_locations : LocatingOn → State
before_locations k = listing (locating k.directive.front k.directive.title k.directive.arguments k.repeatable [])

abbrev pub behind_locations : LocatingOn → Led Location → State
behind_locations k w = head (front_then k.directive.front (directive k.directive.title k.directive.arguments k.repeatable w.leading w.all))

-- behind the separator in front, or where none stands
pub record LocatingAt : Type 0 where
  pub on : LocatingOn
  pub leading : Bool

abbrev pub MayLocate : LocatingAt → Source → Type 0
MayLocate k ahead = MayLead 124 k.leading ahead

abbrev pub led_locating : LocatingAt → State
led_locating k = lead k.leading (locating k.on.directive.front k.on.directive.title k.on.directive.arguments k.on.repeatable [])

abbrev pub behind_led_locations : LocatingAt → List Location → State
behind_led_locations k ls = behind_locations k.on (record { leading = k.leading; all = ls })

abbrev pub spell_locations : Led Location → List ℕ → List ℕ
spell_locations w ns = spell_separated node_count tok.bar 0 w.leading (map location_word w.all) ns

-- ---- definitions

-- the word comes next
abbrev pub Begins : (word : List ℕ) → Front → Source → Type 0
Begins word f ahead = next_word ahead ≡ Some word

-- a description does not stand here, but before one it may not
abbrev pub MayDescribe : Front → Source → Type 0
MayDescribe f ahead = f.description ≡ None → (next_is_text ahead ≡ false) × MayDefine f.before ahead

abbrev pub behind_all : List Described → State
behind_all ds = head (record { before = ds; description = None })

abbrev pub behind_definition : List Described → Described → State
behind_definition ds d = head (record { before = ds ++ d ∷ []; description = None })

-- a type with fields, behind what stands before it
pub record FieldedAt : Type 0 where
  pub front : Front
  pub kind : Fielded

pub record WrittenFielded : Type 0 where
  pub title : List ℕ
  pub implements : Led (List ℕ)
  pub directives : List Directive
  pub fields : List WrittenField

abbrev pub MayFielded : FieldedAt → Source → Type 0
MayFielded k ahead = next_word ahead ≡ Some (fielded_word k.kind)

abbrev pub fielded_head : FieldedAt → State
fielded_head k = head k.front

abbrev pub fielded_end : FieldedAt → WrittenFielded → State
fielded_end k w = head (front_then k.front (fielded_written k.kind w.title w.implements.leading w.implements.all w.directives w.fields))

abbrev pub spell_fielded : (nodes : ℕ) → WrittenFielded → List ℕ → List ℕ
spell_fielded nodes w ns =
    nodes ∷ 1 ∷ spell_implements node_count w.implements.leading w.implements.all
    (spell_directives node_count w.directives (spell_fields_part node_count w.fields ns))

abbrev pub fielded_of : WrittenFielded → TypeWithFields
fielded_of w = record { name = w.title; implements = w.implements.all; directives = w.directives; fields = map field_of w.fields }

abbrev pub whole : Front → Written → State
whole f w = head (front_then f w)

-- so many nodes begin at the first token
abbrev pub spell_first : (nodes : ℕ) → Description → Written → List ℕ → List ℕ
spell_first nodes None w ns = spell_written node_count nodes w ns
spell_first nodes (Some d) w ns = nodes ∷ spell_written node_count 0 w ns

abbrev pub spell_definition : (nodes : ℕ) → Described → List ℕ → List ℕ
spell_definition nodes d ns = spell_first nodes d.description d.written ns

abbrev pub spell_all : (nodes : ℕ) → List Described → List ℕ → List ℕ
spell_all nodes [] ns = ns
spell_all nodes (d ∷ ds) ns = spell_definition nodes d (spell_all 1 ds ns)

abbrev pub start : Unit {0} → State
start u = head no_front

-- a schema has been read to the end of the text
abbrev pub ReadSchema : (old new : Ahead) → List SchemaDef → Type 0
ReadSchema old new ds = reading.ReadAll run_on (head no_front) nodes_of (map definition_of) old new ds

abbrev pub ReadsSchema : (old new : Ahead) → Result (List SchemaDef) Fault → Type 0
ReadsSchema old new r = reading.ReadsAll run_on (head no_front) nodes_of (map definition_of) old new r
