-- The machine that reads schemas, one token at a time: what may come next, and all that is open, with what was read of it.
use Rattle.std.specs.Prelude.{ℕ, Bool, true, false, cond, bytes_eq, List, [], ◌∷◌, ◌++◌, map, Option, Some, None, option_map, Result, Ok, Err, codes}
use Rattle.gql_syntax.specs.gql_lex.Toks as tok
use Rattle.gql_syntax.specs.gql_lex.Toks.{Tok}
use Rattle.gql_syntax.specs.gql_ast.Ty.{Ty}
use Rattle.gql_syntax.specs.gql_ast.Value.{Val}
use Rattle.gql_syntax.specs.gql_ast.declared.directive.Directive.{Directive}
use Rattle.gql_syntax.specs.gql_ast.declared.document.Kind.{Kind}
use Rattle.gql_syntax.specs.gql_ast.declared.document.Kind.TheVariants as K
use Rattle.gql_syntax.specs.gql_ast.declared.location.Location.{Location}
use Rattle.gql_syntax.specs.gql_ast.declared.location.Location.TheVariants as L
use Rattle.gql_syntax.specs.gql_ast.declared.schema.Root.{Root}
use Rattle.gql_syntax.specs.gql_ast.declared.type_tree.TypeTree.{TypeTree}
use Rattle.gql_syntax.specs.gql_ast.declared.value.ValueTree.{ValueTree}
use Rattle.gql_syntax.specs.Machine.{Reading, want, outer, value_step, Directing, further, at_name, applied, arguing, with_arguments, directives_step, next_directive, Typing, want_type, whole, type_step}
use Rattle.gql_syntax.specs.Run.{Halt, unexpected}
use Rattle.gql_syntax.specs.Words.{on_word, kind_word, true_word, false_word, null_word}
use Rattle.gql_syntax.specs.Built.{type_tree, value_tree}
use Rattle.gql_sdl.specs.Schemas.{location_word, Description, WrittenInput, WrittenField, WrittenValue, Written, schema, scalar, object, interface, union, enum, input, directive, Described}

-- ---- words

-- the types with fields
pub data Fielded : Type 0 where
  an_object : Fielded
  an_interface : Fielded

-- the definitions that begin with a word and a name
pub data Titled : Type 0 where
  a_scalar : Titled
  with_fields : Fielded → Titled
  a_union : Titled
  an_enum : Titled
  an_input : Titled

-- the words that begin definitions
pub data Word : Type 0 where
  a_schema : Word
  titled : Titled → Word
  a_directive : Word

abbrev pub fielded_word : Fielded → List ℕ
fielded_word an_object = codes "type"
fielded_word an_interface = codes "interface"

abbrev pub titled_word : Titled → List ℕ
titled_word a_scalar = codes "scalar"
titled_word (with_fields k) = fielded_word k
titled_word a_union = codes "union"
titled_word an_enum = codes "enum"
titled_word an_input = codes "input"

abbrev pub word_text : Word → List ℕ
word_text a_schema = codes "schema"
word_text (titled k) = titled_word k
word_text a_directive = codes "directive"

-- what the first of these words that is the name stands for
abbrev pub find_by : {A : Type 0} → (word : A → List ℕ) → List A → List ℕ → Option A
find_by word [] n = None
find_by word (a ∷ more) n = cond (bytes_eq n (word a)) (Some a) (find_by word more n)

abbrev pub words : List Word
words =
    a_schema ∷ titled a_scalar ∷ titled (with_fields an_object) ∷ titled (with_fields an_interface) ∷ titled a_union ∷ titled an_enum
    ∷ titled an_input ∷ a_directive ∷ []

abbrev pub word_of : List ℕ → Option Word
word_of n = find_by word_text words n

abbrev pub kinds : List Kind
kinds = K.Query ∷ K.Mutation ∷ K.Subscription ∷ []

abbrev pub kind_of : List ℕ → Option Kind
kind_of n = find_by kind_word kinds n

abbrev pub executable_locations : List Location
executable_locations =
    L.Query ∷ L.Mutation ∷ L.Subscription ∷ L.Field ∷ L.FragmentDefinition ∷ L.FragmentSpread ∷ L.InlineFragment
    ∷ L.VariableDefinition ∷ []

abbrev pub type_system_locations : List Location
type_system_locations =
    L.Schema ∷ L.Scalar ∷ L.Object ∷ L.FieldDefinition ∷ L.ArgumentDefinition ∷ L.Interface ∷ L.Union ∷ L.Enum ∷ L.EnumValue
    ∷ L.InputObject ∷ L.InputFieldDefinition ∷ []

abbrev pub all_locations : List Location
all_locations = executable_locations ++ type_system_locations

abbrev pub location_of : List ℕ → Option Location
location_of n = find_by location_word all_locations n

abbrev pub implements_word : List ℕ
implements_word = codes "implements"

abbrev pub repeatable_word : List ℕ
repeatable_word = codes "repeatable"

-- the word is no name of an enum value
abbrev pub is_reserved : List ℕ → Bool
is_reserved n = cond (bytes_eq n true_word) true (cond (bytes_eq n false_word) true (bytes_eq n null_word))

-- ---- what is open

-- the definitions before this one, and its description
pub record Front : Type 0 where
  pub before : List Described
  pub description : Description

-- a type with fields, up to what it implements
pub record Heading : Type 0 where
  pub front : Front
  pub kind : Fielded
  pub title : List ℕ
  pub leading : Bool
  pub implements : List (List ℕ)

-- the fields of a type
pub record Fields : Type 0 where
  pub heading : Heading
  pub directives : List Directive

-- a field that has its name
pub record OpenField : Type 0 where
  pub fields : Fields
  pub before : List WrittenField
  pub description : Description
  pub title : List ℕ

-- what inputs stand in: the arguments of a field or of a directive, or the fields of an input object
pub data Inputs : Type 0 where
  of_field : OpenField → Inputs
  of_directive : Front → List ℕ → Inputs
  of_object : Front → List ℕ → List Directive → Inputs

-- an input that has its name
pub record OpenInput : Type 0 where
  pub inputs : Inputs
  pub before : List WrittenInput
  pub description : Description
  pub title : List ℕ

-- an input that has its type
pub record TypedInput : Type 0 where
  pub input : OpenInput
  pub of : TypeTree

-- a field that has its arguments
pub record ArguedField : Type 0 where
  pub field : OpenField
  pub arguments : List WrittenInput

-- the values of an enum type
pub record Values : Type 0 where
  pub front : Front
  pub title : List ℕ
  pub directives : List Directive

-- a value that has its name
pub record OpenValue : Type 0 where
  pub values : Values
  pub before : List WrittenValue
  pub description : Description
  pub title : List ℕ

-- what a type is wanted for
pub data Typed : Type 0 where
  input_type : OpenInput → Typed
  field_type : ArguedField → Typed

-- what directives stand on
pub data Owner : Type 0 where
  on_schema : Front → Owner
  on_scalar : Front → List ℕ → Owner
  on_fielded : Heading → Owner
  on_union : Front → List ℕ → Owner
  on_enum : Front → List ℕ → Owner
  on_object : Front → List ℕ → Owner
  on_input : TypedInput → Option ValueTree → Owner
  on_field : ArguedField → TypeTree → Owner
  on_value : OpenValue → Owner

-- lists with `&` or `|` between: what a type implements, the members of a union, the locations of a directive
pub data Listing : Type 0 where
  implementing : Front → Fielded → List ℕ → List (List ℕ) → Listing
  uniting : Front → List ℕ → List Directive → List (List ℕ) → Listing
  locating : Front → List ℕ → List WrittenInput → (repeatable : Bool) → List Location → Listing

abbrev pub listing_names : Listing → List (List ℕ)
listing_names (implementing f k n ns) = ns
listing_names (uniting f n ds ns) = ns
listing_names (locating f n ws repeatable ls) = map location_word ls

abbrev pub separator : Listing → Tok
separator (implementing f k n ns) = tok.ampersand
separator (uniting f n ds ns) = tok.bar
separator (locating f n ws repeatable ls) = tok.bar

-- one more name
abbrev pub listing_then : Listing → List ℕ → Option Listing
listing_then (implementing f k n ns) m = Some (implementing f k n (ns ++ m ∷ []))
listing_then (uniting f n ds ns) m = Some (uniting f n ds (ns ++ m ∷ []))
listing_then (locating f n ws repeatable ls) m = option_map (λ l. locating f n ws repeatable (ls ++ l ∷ [])) (location_of m)

pub data State : Type 0 where
  -- a description or the word of a definition
  head : Front → State
  -- the name behind the word
  title : Front → Titled → State
  -- `implements` may follow
  entitled : Front → Fielded → List ℕ → State
  -- `@` behind `directive`; the name; `(` or what follows it; `repeatable` or `on`
  directive_sign : Front → State
  directive_title : Front → State
  directive_arguments : Front → List ℕ → State
  directive_on : Front → List ℕ → List WrittenInput → (repeatable : Bool) → State
  -- the first name or a separator; the name behind that; a separator may follow; the name behind it
  listing : Listing → State
  listing_led : Listing → State
  listing_more : (leading : Bool) → Listing → State
  listing_next : (leading : Bool) → Listing → State
  -- a kind or `}`; the colon; the name
  roots : Front → List Directive → List Root → State
  root_colon : Front → List Directive → List Root → Kind → State
  root_name : Front → List Directive → List Root → Kind → State
  -- a description, a name or `}`; `(` or a colon; the colon
  fields : Fields → List WrittenField → Description → State
  field_arguments : OpenField → State
  field_colon : ArguedField → State
  -- a description, a name, `)` or `}`; the colon; `=` may follow
  inputs : Inputs → List WrittenInput → Description → State
  input_colon : OpenInput → State
  input_default : TypedInput → State
  -- a description, a name or `}`
  enum_values : Values → List WrittenValue → Description → State
  in_directives : Directing Owner → State
  in_type : Typing Typed → State
  in_value : Reading TypedInput → State

-- ---- what is whole

abbrev pub no_front : Front
no_front = record { before = []; description = None }

abbrev pub front_then : Front → Written → Front
front_then f w = record { before = f.before ++ record { description = f.description; written = w } ∷ []; description = None }

abbrev pub fielded_written : Fielded → List ℕ → (leading : Bool) → List (List ℕ) → List Directive → List WrittenField → Written
fielded_written an_object n leading is ds fs = object n leading is ds fs
fielded_written an_interface n leading is ds fs = interface n leading is ds fs

abbrev pub heading_then : Heading → List Directive → List WrittenField → Front
heading_then h ds fs = front_then h.front (fielded_written h.kind h.title h.leading h.implements ds fs)

abbrev pub heading_of : Front → Fielded → List ℕ → (leading : Bool) → List (List ℕ) → Heading
heading_of f k n leading is = record { front = f; kind = k; title = n; leading = leading; implements = is }

abbrev pub field_then : ArguedField → TypeTree → List Directive → List WrittenField
field_then a t ds =
    a.field.before ++ record { description = a.field.description; name = a.field.title; arguments = a.arguments; of = t; directives = ds } ∷ []

abbrev pub input_then : TypedInput → Option ValueTree → List Directive → List WrittenInput
input_then i v ds =
    i.input.before
    ++ record { description = i.input.description; input = record { name = i.input.title; of = i.of; default = v; directives = ds } } ∷ []

abbrev pub value_then : OpenValue → List Directive → List WrittenValue
value_then v ds = v.before ++ record { description = v.description; value = record { name = v.title; directives = ds } } ∷ []

-- ---- one token

-- directives that no variable may stand in
abbrev pub directives_of : Owner → State
directives_of o = in_directives (further true [] o)

abbrev pub describe : Description → List ℕ → (Description → State) → Result State Halt
describe None d to = Ok (to (Some d))
describe (Some e) d to = Err unexpected

abbrev pub begin_definition : Front → Option Word → Result State Halt
begin_definition f None = Err unexpected
begin_definition f (Some a_schema) = Ok (directives_of (on_schema f))
begin_definition f (Some (titled k)) = Ok (title f k)
begin_definition f (Some a_directive) = Ok (directive_sign f)

abbrev pub at_head : Front → Tok → Result State Halt
at_head f (tok.text d) = describe f.description d (λ d. head (record { before = f.before; description = d }))
at_head f (tok.name n) = begin_definition f (word_of n)
at_head f t = Err unexpected

abbrev pub entitle : Front → Titled → List ℕ → State
entitle f a_scalar n = directives_of (on_scalar f n)
entitle f (with_fields k) n = entitled f k n
entitle f a_union n = directives_of (on_union f n)
entitle f an_enum n = directives_of (on_enum f n)
entitle f an_input n = directives_of (on_object f n)

-- what stands between braces or parentheses is not nothing, and the last of it has what its description asks for
abbrev pub close : {A : Type 0} → List A → Description → State → Result State Halt
close [] d to = Err unexpected
close (a ∷ more) None to = Ok to
close (a ∷ more) (Some d) to = Err unexpected

abbrev pub at_fields : Fields → List WrittenField → Description → Tok → Result State Halt
at_fields f fs d (tok.text e) = describe d e (λ d. fields f fs d)
at_fields f fs d (tok.name n) = Ok (field_arguments (record { fields = f; before = fs; description = d; title = n }))
at_fields f fs d tok.close_brace = close fs d (head (heading_then f.heading f.directives fs))
at_fields f fs d t = Err unexpected

abbrev pub after_inputs : Inputs → List WrittenInput → State
after_inputs (of_field f) ws = field_colon (record { field = f; arguments = ws })
after_inputs (of_directive f n) ws = directive_on f n ws false
after_inputs (of_object f n ds) ws = head (front_then f (input n ds ws))

abbrev pub close_parens : Inputs → List WrittenInput → Description → Result State Halt
close_parens (of_object f n ds) ws d = Err unexpected
close_parens i ws d = close ws d (after_inputs i ws)

abbrev pub close_braces : Inputs → List WrittenInput → Description → Result State Halt
close_braces (of_object f n ds) ws d = close ws d (after_inputs (of_object f n ds) ws)
close_braces i ws d = Err unexpected

abbrev pub at_inputs : Inputs → List WrittenInput → Description → Tok → Result State Halt
at_inputs i ws d (tok.text e) = describe d e (λ d. inputs i ws d)
at_inputs i ws d (tok.name n) = Ok (input_colon (record { inputs = i; before = ws; description = d; title = n }))
at_inputs i ws d tok.close_paren = close_parens i ws d
at_inputs i ws d tok.close_brace = close_braces i ws d
at_inputs i ws d t = Err unexpected

abbrev pub open_value : Values → List WrittenValue → Description → List ℕ → Result State Halt
open_value v vs d n =
    cond (is_reserved n) (Err unexpected) (Ok (directives_of (on_value (record { values = v; before = vs; description = d; title = n }))))

abbrev pub at_values : Values → List WrittenValue → Description → Tok → Result State Halt
at_values v vs d (tok.text e) = describe d e (λ d. enum_values v vs d)
at_values v vs d (tok.name n) = open_value v vs d n
at_values v vs d tok.close_brace = close vs d (head (front_then v.front (enum v.title v.directives vs)))
at_values v vs d t = Err unexpected

abbrev pub open_root : Front → List Directive → List Root → Option Kind → Result State Halt
open_root f ds rs None = Err unexpected
open_root f ds rs (Some k) = Ok (root_colon f ds rs k)

abbrev pub at_roots : Front → List Directive → List Root → Tok → Result State Halt
at_roots f ds rs (tok.name n) = open_root f ds rs (kind_of n)
at_roots f ds rs tok.close_brace = close rs None (head (front_then f (schema ds rs)))
at_roots f ds rs t = Err unexpected

-- where directives have ended
abbrev pub after_directives : Owner → List Directive → Tok → Result State Halt
after_directives (on_schema f) ds tok.open_brace = Ok (roots f ds [])
after_directives (on_schema f) ds t = Err unexpected
after_directives (on_scalar f n) ds t = at_head (front_then f (scalar n ds)) t
after_directives (on_fielded h) ds tok.open_brace = Ok (fields (record { heading = h; directives = ds }) [] None)
after_directives (on_fielded h) ds t = at_head (heading_then h ds []) t
after_directives (on_union f n) ds tok.equals = Ok (listing (uniting f n ds []))
after_directives (on_union f n) ds t = at_head (front_then f (union n ds false [])) t
after_directives (on_enum f n) ds tok.open_brace = Ok (enum_values (record { front = f; title = n; directives = ds }) [] None)
after_directives (on_enum f n) ds t = at_head (front_then f (enum n ds [])) t
after_directives (on_object f n) ds tok.open_brace = Ok (inputs (of_object f n ds) [] None)
after_directives (on_object f n) ds t = at_head (front_then f (input n ds [])) t
after_directives (on_input i v) ds t = at_inputs i.input.inputs (input_then i v ds) None t
after_directives (on_field a u) ds t = at_fields a.field.fields (field_then a u ds) None t
after_directives (on_value v) ds t = at_values v.values (value_then v ds) None t

-- where directives may begin
abbrev pub at_directives : (limit : ℕ) → Owner → Tok → Result State Halt
at_directives limit o t = next_directive limit in_directives after_directives true [] o t

-- where a list with separators has ended
abbrev pub after_listing : (limit : ℕ) → (leading : Bool) → Listing → Tok → Result State Halt
after_listing limit leading (implementing f k n ns) t = at_directives limit (on_fielded (heading_of f k n leading ns)) t
after_listing limit leading (uniting f n ds ns) t = at_head (front_then f (union n ds leading ns)) t
after_listing limit leading (locating f n ws repeatable ls) t = at_head (front_then f (directive n ws repeatable leading ls)) t

abbrev pub is_separator : Listing → Tok → Bool
is_separator (implementing f k n ns) tok.ampersand = true
is_separator (uniting f n ds ns) tok.bar = true
is_separator (locating f n ws repeatable ls) tok.bar = true
is_separator l t = false

abbrev pub listing_more_of : (leading : Bool) → Option Listing → Result State Halt
listing_more_of leading None = Err unexpected
listing_more_of leading (Some l) = Ok (listing_more leading l)

abbrev pub listing_name : (leading : Bool) → Listing → Tok → Result State Halt
listing_name leading l (tok.name n) = listing_more_of leading (listing_then l n)
listing_name leading l t = Err unexpected

abbrev pub at_repeatable : Front → List ℕ → List WrittenInput → (repeatable : Bool) → Tok → Result State Halt
at_repeatable f n ws false (tok.name m) =
    cond (bytes_eq m repeatable_word) (Ok (directive_on f n ws true))
    (cond (bytes_eq m on_word) (Ok (listing (locating f n ws false []))) (Err unexpected))
at_repeatable f n ws true (tok.name m) = cond (bytes_eq m on_word) (Ok (listing (locating f n ws true []))) (Err unexpected)
at_repeatable f n ws repeatable t = Err unexpected

abbrev pub at_entitled : (limit : ℕ) → Front → Fielded → List ℕ → Tok → Result State Halt
at_entitled limit f k n (tok.name m) =
    cond (bytes_eq m implements_word) (Ok (listing (implementing f k n []))) (at_directives limit (on_fielded (heading_of f k n false [])) (tok.name m))
at_entitled limit f k n t = at_directives limit (on_fielded (heading_of f k n false [])) t

abbrev pub at_default : (limit : ℕ) → TypedInput → Tok → Result State Halt
at_default limit i tok.equals = Ok (in_value (want true limit (outer i)))
at_default limit i t = at_directives limit (on_input i None) t

abbrev pub typed_state : Typed → Ty → State
typed_state (input_type i) t = input_default (record { input = i; of = type_tree t })
typed_state (field_type a) t = directives_of (on_field a (type_tree t))

abbrev pub after_type : (limit : ℕ) → Typed → Ty → Tok → Result State Halt
after_type limit (input_type i) t x = at_default limit (record { input = i; of = type_tree t }) x
after_type limit (field_type a) t x = at_directives limit (on_field a (type_tree t)) x

abbrev pub behind_default : TypedInput → Val → State
behind_default i v = directives_of (on_input i (Some (value_tree v)))

abbrev pub advance : (limit : ℕ) → State → Tok → Result State Halt
advance limit (head f) t = at_head f t
advance limit (title f k) (tok.name n) = Ok (entitle f k n)
advance limit (title f k) t = Err unexpected
advance limit (entitled f k n) t = at_entitled limit f k n t
advance limit (directive_sign f) tok.at_sign = Ok (directive_title f)
advance limit (directive_sign f) t = Err unexpected
advance limit (directive_title f) (tok.name n) = Ok (directive_arguments f n)
advance limit (directive_title f) t = Err unexpected
advance limit (directive_arguments f n) tok.open_paren = Ok (inputs (of_directive f n) [] None)
advance limit (directive_arguments f n) t = at_repeatable f n [] false t
advance limit (directive_on f n ws repeatable) t = at_repeatable f n ws repeatable t
advance limit (listing l) t = cond (is_separator l t) (Ok (listing_led l)) (listing_name false l t)
advance limit (listing_led l) t = listing_name true l t
advance limit (listing_more leading l) t = cond (is_separator l t) (Ok (listing_next leading l)) (after_listing limit leading l t)
advance limit (listing_next leading l) t = listing_name leading l t
advance limit (roots f ds rs) t = at_roots f ds rs t
advance limit (root_colon f ds rs k) tok.colon = Ok (root_name f ds rs k)
advance limit (root_colon f ds rs k) t = Err unexpected
advance limit (root_name f ds rs k) (tok.name n) = Ok (roots f ds (rs ++ record { kind = k; name = n } ∷ []))
advance limit (root_name f ds rs k) t = Err unexpected
advance limit (fields f fs d) t = at_fields f fs d t
advance limit (field_arguments f) tok.open_paren = Ok (inputs (of_field f) [] None)
advance limit (field_arguments f) tok.colon = Ok (in_type (want_type limit (whole (field_type (record { field = f; arguments = [] })))))
advance limit (field_arguments f) t = Err unexpected
advance limit (field_colon a) tok.colon = Ok (in_type (want_type limit (whole (field_type a))))
advance limit (field_colon a) t = Err unexpected
advance limit (inputs i ws d) t = at_inputs i ws d t
advance limit (input_colon i) tok.colon = Ok (in_type (want_type limit (whole (input_type i))))
advance limit (input_colon i) t = Err unexpected
advance limit (input_default i) t = at_default limit i t
advance limit (enum_values v vs d) t = at_values v vs d t
advance limit (in_directives d) t = directives_step limit in_directives after_directives d t
advance limit (in_type y) t = type_step in_type typed_state (after_type limit) y t
advance limit (in_value r) t = value_step in_value behind_default r t

-- ---- the end

abbrev pub front_ends : List Described → Description → Option (List Described)
front_ends [] d = None
front_ends (e ∷ more) None = Some (e ∷ more)
front_ends (e ∷ more) (Some d) = None

abbrev pub finish_front : Front → Option (List Described)
finish_front f = front_ends f.before f.description

abbrev pub finish_directives : Owner → List Directive → Option (List Described)
finish_directives (on_schema f) ds = None
finish_directives (on_scalar f n) ds = finish_front (front_then f (scalar n ds))
finish_directives (on_fielded h) ds = finish_front (heading_then h ds [])
finish_directives (on_union f n) ds = finish_front (front_then f (union n ds false []))
finish_directives (on_enum f n) ds = finish_front (front_then f (enum n ds []))
finish_directives (on_object f n) ds = finish_front (front_then f (input n ds []))
finish_directives (on_input i v) ds = None
finish_directives (on_field a u) ds = None
finish_directives (on_value v) ds = None

abbrev pub finish_directing : Directing Owner → Option (List Described)
finish_directing (further c ds o) = finish_directives o ds
finish_directing (at_name c ds o) = None
finish_directing (applied a) = finish_directives a.on (with_arguments a [])
finish_directing (arguing r) = None

abbrev pub finish_listing : (leading : Bool) → Listing → Option (List Described)
finish_listing leading (implementing f k n ns) = finish_directives (on_fielded (heading_of f k n leading ns)) []
finish_listing leading (uniting f n ds ns) = finish_front (front_then f (union n ds leading ns))
finish_listing leading (locating f n ws repeatable ls) = finish_front (front_then f (directive n ws repeatable leading ls))

abbrev pub finish : State → Option (List Described)
finish (head f) = finish_front f
finish (entitled f k n) = finish_directives (on_fielded (heading_of f k n false [])) []
finish (listing_more leading l) = finish_listing leading l
finish (in_directives d) = finish_directing d
finish s = None
