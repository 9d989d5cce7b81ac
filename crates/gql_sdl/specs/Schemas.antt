-- How schemas are written (GraphQL, October 2021, section 3). Each definition gives the tokens of a tree, and behind
-- them those that are given; `mark` says what is kept of a token, as for values.
use Rattle.std.specs.Prelude.{ℕ, ◌+◌, Bool, true, false, List, [], ◌∷◌, map, Option, Some, None, codes}
use Rattle.std.specs.List.{AllByRecursion}
use Rattle.gql_syntax.specs.gql_lex.Toks as tok
use Rattle.gql_syntax.specs.gql_lex.Toks.{Tok}
use Rattle.gql_syntax.specs.gql_ast.TypeView.{ty_of}
use Rattle.gql_syntax.specs.gql_ast.declared.directive.Directive.{Directive}
use Rattle.gql_syntax.specs.gql_ast.declared.location.Location.{Location}
use Rattle.gql_syntax.specs.gql_ast.declared.location.Location.TheVariants as L
use Rattle.gql_syntax.specs.gql_ast.declared.member.EnumValue.{EnumValue}
use Rattle.gql_syntax.specs.gql_ast.declared.member.FieldTree.{FieldTree}
use Rattle.gql_syntax.specs.gql_ast.declared.member.InputTree.{InputTree}
use Rattle.gql_syntax.specs.gql_ast.declared.schema.Root.{Root}
use Rattle.gql_syntax.specs.gql_ast.declared.schema.SchemaDef.{SchemaDef}
use Rattle.gql_syntax.specs.gql_ast.declared.schema.SchemaDef.TheVariants as S
use Rattle.gql_syntax.specs.gql_ast.declared.type_tree.TypeTree.{TypeTree}
use Rattle.gql_syntax.specs.FirstFault.{Grammar}
use Rattle.gql_syntax.specs.Formed.{FormedDirectives, FormedDefault, FormedType}
use Rattle.gql_syntax.specs.Spelling.{Mark, plain, spell_directives, spell_type, spell_default}
use Rattle.gql_syntax.specs.Words.{on_word, kind_word, IsName, IsEnumName}

abbrev pub location_word : Location → List ℕ
location_word L.Query = codes "QUERY"
location_word L.Mutation = codes "MUTATION"
location_word L.Subscription = codes "SUBSCRIPTION"
location_word L.Field = codes "FIELD"
location_word L.FragmentDefinition = codes "FRAGMENT_DEFINITION"
location_word L.FragmentSpread = codes "FRAGMENT_SPREAD"
location_word L.InlineFragment = codes "INLINE_FRAGMENT"
location_word L.VariableDefinition = codes "VARIABLE_DEFINITION"
location_word L.Schema = codes "SCHEMA"
location_word L.Scalar = codes "SCALAR"
location_word L.Object = codes "OBJECT"
location_word L.FieldDefinition = codes "FIELD_DEFINITION"
location_word L.ArgumentDefinition = codes "ARGUMENT_DEFINITION"
location_word L.Interface = codes "INTERFACE"
location_word L.Union = codes "UNION"
location_word L.Enum = codes "ENUM"
location_word L.EnumValue = codes "ENUM_VALUE"
location_word L.InputObject = codes "INPUT_OBJECT"
location_word L.InputFieldDefinition = codes "INPUT_FIELD_DEFINITION"

-- ---- members, with the descriptions that stand before them; a member begins with its name

abbrev pub Description : Type 0
Description = Option (List ℕ)

pub record WrittenInput : Type 0 where
  pub description : Description
  pub input : InputTree

pub record WrittenField : Type 0 where
  pub description : Description
  pub name : List ℕ
  pub arguments : List WrittenInput
  pub of : TypeTree
  pub directives : List Directive

pub record WrittenValue : Type 0 where
  pub description : Description
  pub value : EnumValue

-- none, or Text, or Block
abbrev pub spell_description : {X : Type 0} → Mark X → Description → List X → List X
spell_description mark None ts = ts
spell_description mark (Some d) ts = plain mark (tok.text d) 0 ∷ ts

-- Desc? Name `:` Type Default? Dirs?
abbrev pub spell_input : {X : Type 0} → Mark X → WrittenInput → List X → List X
spell_input mark w ts =
    spell_description mark w.description (plain mark (tok.name w.input.name) 2 ∷ plain mark tok.colon 0
    ∷ spell_type mark (ty_of w.input.of) 0 0 (spell_default mark w.input.default (spell_directives mark w.input.directives ts)))

abbrev pub spell_inputs : {X : Type 0} → Mark X → List WrittenInput → List X → List X
spell_inputs mark [] ts = ts
spell_inputs mark (w ∷ ws) ts = spell_input mark w (spell_inputs mark ws ts)

-- none, or `(` Input+ `)`
abbrev pub spell_argument_defs : {X : Type 0} → Mark X → List WrittenInput → List X → List X
spell_argument_defs mark [] ts = ts
spell_argument_defs mark (w ∷ ws) ts = plain mark tok.open_paren 0 ∷ spell_inputs mark (w ∷ ws) (plain mark tok.close_paren 0 ∷ ts)

-- none, or `{` Input+ `}`
abbrev pub spell_input_fields : {X : Type 0} → Mark X → List WrittenInput → List X → List X
spell_input_fields mark [] ts = ts
spell_input_fields mark (w ∷ ws) ts = plain mark tok.open_brace 0 ∷ spell_inputs mark (w ∷ ws) (plain mark tok.close_brace 0 ∷ ts)

-- Desc? Name (`(` Input+ `)`)? `:` Type Dirs?
abbrev pub spell_field : {X : Type 0} → Mark X → WrittenField → List X → List X
spell_field mark f ts =
    spell_description mark f.description (plain mark (tok.name f.name) 2 ∷ spell_argument_defs mark f.arguments
    (plain mark tok.colon 0 ∷ spell_type mark (ty_of f.of) 0 0 (spell_directives mark f.directives ts)))

abbrev pub spell_fields : {X : Type 0} → Mark X → List WrittenField → List X → List X
spell_fields mark [] ts = ts
spell_fields mark (f ∷ fs) ts = spell_field mark f (spell_fields mark fs ts)

-- none, or `{` Field+ `}`
abbrev pub spell_fields_part : {X : Type 0} → Mark X → List WrittenField → List X → List X
spell_fields_part mark [] ts = ts
spell_fields_part mark (f ∷ fs) ts = plain mark tok.open_brace 0 ∷ spell_fields mark (f ∷ fs) (plain mark tok.close_brace 0 ∷ ts)

-- Desc? EnumName Dirs?
abbrev pub spell_enum_value : {X : Type 0} → Mark X → WrittenValue → List X → List X
spell_enum_value mark w ts =
    spell_description mark w.description (plain mark (tok.name w.value.name) 2 ∷ spell_directives mark w.value.directives ts)

abbrev pub spell_enum_values : {X : Type 0} → Mark X → List WrittenValue → List X → List X
spell_enum_values mark [] ts = ts
spell_enum_values mark (w ∷ ws) ts = spell_enum_value mark w (spell_enum_values mark ws ts)

-- none, or `{` EnumValue+ `}`
abbrev pub spell_enum_values_part : {X : Type 0} → Mark X → List WrittenValue → List X → List X
spell_enum_values_part mark [] ts = ts
spell_enum_values_part mark (w ∷ ws) ts = plain mark tok.open_brace 0 ∷ spell_enum_values mark (w ∷ ws) (plain mark tok.close_brace 0 ∷ ts)

-- (Kind `:` Name)*
abbrev pub spell_roots : {X : Type 0} → Mark X → List Root → List X → List X
spell_roots mark [] ts = ts
spell_roots mark (r ∷ rs) ts =
    plain mark (tok.name (kind_word r.kind)) 1 ∷ plain mark tok.colon 0 ∷ plain mark (tok.name r.name) 1 ∷ spell_roots mark rs ts

-- ---- lists with `&` or `|` between, and perhaps one in front

abbrev pub spell_leading : {X : Type 0} → Mark X → Tok → (leading : Bool) → List X → List X
spell_leading mark separator false ts = ts
spell_leading mark separator true ts = plain mark separator 0 ∷ ts

-- each word behind a separator; a Name is a node, and a Location is none
abbrev pub spell_further : {X : Type 0} → Mark X → Tok → (nodes : ℕ) → List (List ℕ) → List X → List X
spell_further mark separator nodes [] ts = ts
spell_further mark separator nodes (n ∷ ns) ts = plain mark separator 0 ∷ plain mark (tok.name n) nodes ∷ spell_further mark separator nodes ns ts

abbrev pub spell_separated : {X : Type 0} → Mark X → Tok → (nodes : ℕ) → (leading : Bool) → List (List ℕ) → List X → List X
spell_separated mark separator nodes leading [] ts = ts
spell_separated mark separator nodes leading (n ∷ ns) ts =
    spell_leading mark separator leading (plain mark (tok.name n) nodes ∷ spell_further mark separator nodes ns ts)

-- none, or `implements` `&`? Name (`&` Name)*
abbrev pub spell_implements : {X : Type 0} → Mark X → (leading : Bool) → List (List ℕ) → List X → List X
spell_implements mark leading [] ts = ts
spell_implements mark leading (n ∷ ns) ts =
    plain mark (tok.name (codes "implements")) 0 ∷ spell_separated mark tok.ampersand 1 leading (n ∷ ns) ts

-- none, or `=` `|`? Name (`|` Name)*
abbrev pub spell_members_part : {X : Type 0} → Mark X → (leading : Bool) → List (List ℕ) → List X → List X
spell_members_part mark leading [] ts = ts
spell_members_part mark leading (n ∷ ns) ts = plain mark tok.equals 0 ∷ spell_separated mark tok.bar 1 leading (n ∷ ns) ts

abbrev pub spell_repeatable : {X : Type 0} → Mark X → Bool → List X → List X
spell_repeatable mark false ts = ts
spell_repeatable mark true ts = plain mark (tok.name (codes "repeatable")) 0 ∷ ts

-- ---- definitions

-- a definition as it is written, behind its description; `leading` says that a separator stands in front of a list
pub data Written : Type 0 where
  schema : List Directive → List Root → Written
  scalar : (name : List ℕ) → List Directive → Written
  object : (name : List ℕ) → (leading : Bool) → (implements : List (List ℕ)) → List Directive → List WrittenField → Written
  interface : (name : List ℕ) → (leading : Bool) → (implements : List (List ℕ)) → List Directive → List WrittenField → Written
  union : (name : List ℕ) → List Directive → (leading : Bool) → (members : List (List ℕ)) → Written
  enum : (name : List ℕ) → List Directive → List WrittenValue → Written
  input : (name : List ℕ) → List Directive → List WrittenInput → Written
  directive : (name : List ℕ) → List WrittenInput → (repeatable leading : Bool) → List Location → Written

pub record Described : Type 0 where
  pub description : Description
  pub written : Written

-- the tree forgets descriptions and the separators in front
abbrev pub inputs_of : List WrittenInput → List InputTree
inputs_of ws = map (λ (w : WrittenInput). w.input) ws

abbrev pub field_of : WrittenField → FieldTree
field_of f = record { name = f.name; arguments = inputs_of f.arguments; of = f.of; directives = f.directives }

abbrev pub values_of : List WrittenValue → List EnumValue
values_of ws = map (λ (w : WrittenValue). w.value) ws

abbrev pub written_of : Written → SchemaDef
written_of (schema ds rs) = S.Schema ds rs
written_of (scalar n ds) = S.Scalar n ds
written_of (object n leading is ds fs) = S.Object n is ds (map field_of fs)
written_of (interface n leading is ds fs) = S.Interface n is ds (map field_of fs)
written_of (union n ds leading ms) = S.Union n ds ms
written_of (enum n ds vs) = S.Enum n ds (values_of vs)
written_of (input n ds ws) = S.Input n ds (inputs_of ws)
written_of (directive n ws repeatable leading ls) = S.Directive n (inputs_of ws) repeatable ls

abbrev pub definition_of : Described → SchemaDef
definition_of d = written_of d.written

-- `first` nodes begin at the first token
abbrev pub spell_written : {X : Type 0} → Mark X → (first : ℕ) → Written → List X → List X
spell_written mark first (schema ds rs) ts =
    plain mark (tok.name (codes "schema")) first
    ∷ spell_directives mark ds (plain mark tok.open_brace 0 ∷ spell_roots mark rs (plain mark tok.close_brace 0 ∷ ts))
spell_written mark first (scalar n ds) ts =
    plain mark (tok.name (codes "scalar")) first ∷ plain mark (tok.name n) 1 ∷ spell_directives mark ds ts
spell_written mark first (object n leading is ds fs) ts =
    plain mark (tok.name (codes "type")) first ∷ plain mark (tok.name n) 1
    ∷ spell_implements mark leading is (spell_directives mark ds (spell_fields_part mark fs ts))
spell_written mark first (interface n leading is ds fs) ts =
    plain mark (tok.name (codes "interface")) first ∷ plain mark (tok.name n) 1
    ∷ spell_implements mark leading is (spell_directives mark ds (spell_fields_part mark fs ts))
spell_written mark first (union n ds leading ms) ts =
    plain mark (tok.name (codes "union")) first ∷ plain mark (tok.name n) 1
    ∷ spell_directives mark ds (spell_members_part mark leading ms ts)
spell_written mark first (enum n ds vs) ts =
    plain mark (tok.name (codes "enum")) first ∷ plain mark (tok.name n) 1
    ∷ spell_directives mark ds (spell_enum_values_part mark vs ts)
spell_written mark first (input n ds ws) ts =
    plain mark (tok.name (codes "input")) first ∷ plain mark (tok.name n) 1
    ∷ spell_directives mark ds (spell_input_fields mark ws ts)
spell_written mark first (directive n ws repeatable leading ls) ts =
    plain mark (tok.name (codes "directive")) first ∷ plain mark tok.at_sign 0 ∷ plain mark (tok.name n) 1
    ∷ spell_argument_defs mark ws (spell_repeatable mark repeatable (plain mark (tok.name on_word) 0
    ∷ spell_separated mark tok.bar 0 leading (map location_word ls) ts))

-- `above` nodes begin already at the first token, which is that of the description where there is one
abbrev pub spell_described : {X : Type 0} → Mark X → (above : ℕ) → Description → Written → List X → List X
spell_described mark above None w ts = spell_written mark (above + 1) w ts
spell_described mark above (Some d) w ts = plain mark (tok.text d) (above + 1) ∷ spell_written mark 0 w ts

abbrev pub spell_definitions : {X : Type 0} → Mark X → (above : ℕ) → List Described → List X
spell_definitions mark above [] = []
spell_definitions mark above (d ∷ ds) = spell_described mark above d.description d.written (spell_definitions mark 0 ds)

-- the schema itself begins at the first token too
abbrev pub spell_schema : {X : Type 0} → Mark X → List Described → List X
spell_schema mark ds = spell_definitions mark 1 ds

-- ---- which trees are schemas: all names are Names

abbrev pub NotEmpty : {A : Type 0} → List A → Type 0
NotEmpty [] = ⊥
NotEmpty (a ∷ more) = Unit {0}

abbrev pub FormedInput : WrittenInput → Type 0
FormedInput w = IsName w.input.name × FormedType (ty_of w.input.of) × FormedDefault w.input.default × FormedDirectives true w.input.directives

abbrev pub FormedField : WrittenField → Type 0
FormedField f = IsName f.name × AllByRecursion FormedInput f.arguments × FormedType (ty_of f.of) × FormedDirectives true f.directives

abbrev pub FormedEnumValue : WrittenValue → Type 0
FormedEnumValue w = IsName w.value.name × IsEnumName w.value.name × FormedDirectives true w.value.directives

abbrev pub FormedRoot : Root → Type 0
FormedRoot r = IsName r.name

abbrev pub FormedNames : List (List ℕ) → Type 0
FormedNames ns = AllByRecursion IsName ns

abbrev pub FormedWritten : Written → Type 0
FormedWritten (schema ds rs) = FormedDirectives true ds × NotEmpty rs × AllByRecursion FormedRoot rs
FormedWritten (scalar n ds) = IsName n × FormedDirectives true ds
FormedWritten (object n leading is ds fs) = IsName n × FormedNames is × FormedDirectives true ds × AllByRecursion FormedField fs
FormedWritten (interface n leading is ds fs) = IsName n × FormedNames is × FormedDirectives true ds × AllByRecursion FormedField fs
FormedWritten (union n ds leading ms) = IsName n × FormedDirectives true ds × FormedNames ms
FormedWritten (enum n ds vs) = IsName n × FormedDirectives true ds × AllByRecursion FormedEnumValue vs
FormedWritten (input n ds ws) = IsName n × FormedDirectives true ds × AllByRecursion FormedInput ws
FormedWritten (directive n ws repeatable leading ls) = IsName n × AllByRecursion FormedInput ws × NotEmpty ls

abbrev pub FormedSchema : List Described → Type 0
FormedSchema ds = NotEmpty ds × AllByRecursion (λ d. FormedWritten d.written) ds

-- ---- the grammar of schemas

abbrev pub schemas : Grammar (List Described)
schemas = record {
  tokens = spell_schema (λ t l n. t);
  levels = spell_schema (λ t l n. l);
  Formed = FormedSchema;
}

-- how many nodes begin at each token
abbrev pub nodes_of : List Described → List ℕ
nodes_of ds = spell_schema (λ t l n. n) ds
