-- What a payload says (this project's own): the facts of its objects, the pages of its connections, and its faults, each
-- where it stands. F is what stands below a field; the walk is a function of the response's own form.
use Rattle.std.specs.Prelude.{ℕ, ◌+◌, Bool, true, false, not, ◌&&◌, List, [], ◌∷◌, ◌++◌, map, cond, codes, bytes_eq, Option, Some, None, option_and_then, unwrap_or}
use Rattle.std.specs.Map.{lookup}
use Rattle.store_record.specs.gql_plain.Order.{has_text, sorted_texts}
use Rattle.store_record.specs.gql_plain.Tree.{null}
use Rattle.store_record.specs.gql_plain.declared.plain.Plain.{Plain}
use Rattle.store_record.specs.gql_plain.declared.plain.Plain.TheVariants.{Null, Text as Words}
use Rattle.serde_json.specs.Data as J
use Rattle.serde_json.specs.Find.{get_member, as_str}
use Rattle.store_record.specs.Keys.{Text, Arguments, client_id, is_generated, root}
use Rattle.store_record.specs.declared.field.Field.{Field}
use Rattle.store_record.specs.declared.field.Field.TheVariants.{Leaf, Link, Links}
use Rattle.store_model.specs.Events.{plain_of_data, plain_of_tree}
use Rattle.store_model.specs.Items.{Below, Form, typename, leaf, one, many, Ask, key_of, handle_of, Group, asks, parts, Collect, groups_at}
use Rattle.store_model.specs.Reaches.{types_of}
use Rattle.store_model.specs.Records.{typename as typename_key}
use Rattle.store_model.specs.declared.facts.Fact.{Fact}
use Rattle.store_model.specs.declared.facts.HandleFact.{HandleFact}
use Rattle.store_model.specs.declared.payload_fault.Cause.{Cause}
use Rattle.store_model.specs.declared.payload_fault.Cause.TheVariants.{NoData, Shape, NotWhole, IdShape, ReservedId, Typename}
use Rattle.store_model.specs.declared.payload_fault.PathStep.{PathStep}
use Rattle.store_model.specs.declared.payload_fault.PathStep.TheVariants.{Key, Index}
use Rattle.store_model.specs.declared.payload_fault.PayloadFault.{PayloadFault}

-- ---- what is said, and where

abbrev pub Path : Type 0
Path = List PathStep

-- a fact, and the path where it is said
pub record Put : Type 0 where
  pub fact : Fact
  pub path : Path

-- facts, pages and faults, in the order of the walk
pub record Report : Type 0 where
  pub puts : List Put
  pub pages : List HandleFact
  pub faults : List PayloadFault

abbrev pub no_report : Report
no_report = record { puts = []; pages = []; faults = [] }

abbrev pub both : Report → Report → Report
both a b = record { puts = a.puts ++ b.puts; pages = a.pages ++ b.pages; faults = a.faults ++ b.faults }

abbrev pub fault_at : Path → Cause → Report
fault_at path c = record { puts = []; pages = []; faults = record { path = path; cause = c } ∷ [] }

abbrev pub put_at : Text → Text → Field → Path → Report
put_at id key value path = record { puts = record { fact = record { id = id; key = key; value = value }; path = path } ∷ []; pages = []; faults = [] }

abbrev pub report_pages : List HandleFact → Report
report_pages pages = record { puts = []; pages = pages; faults = [] }

-- ---- the type and the id of an object

-- a text that is the name of a possible type
abbrev pub possible_name : List Text → Option Text → Option Text
possible_name types None = None
possible_name types (Some s) = cond (has_text types s) (Some s) None

abbrev pub first_of : List Text → Option Text
first_of [] = None
first_of (t ∷ ts) = Some t

-- the type of an object: under an abstract type the one that stands under `__typename`, else the one possible type
abbrev pub type_under : Bool → List Text → Option J.Data → Option Text
type_under true types name = possible_name types (option_and_then as_str name)
type_under false types name = first_of types

abbrev pub is_name_or_null : Text → Option J.Data → Bool
is_name_or_null T None = true
is_name_or_null T (Some J.null) = true
is_name_or_null T (Some (J.boolean b)) = false
is_name_or_null T (Some (J.number n)) = false
is_name_or_null T (Some (J.string s)) = bytes_eq s T
is_name_or_null T (Some (J.array ds)) = false
is_name_or_null T (Some (J.object ms)) = false

-- the response keys of groups
abbrev pub responses : {F : Type 0} → List (Group F) → List Text
responses gs = map (λ g. g.first.ask.response) gs

-- another type stands under `__typename`, where that is among the response keys
abbrev pub is_misnamed : Text → List Text → Option J.Data → Bool
is_misnamed T keys name = has_text keys typename_key && not (is_name_or_null T name)

abbrev pub id_of_text : Text → Path → Text → Text × Report
id_of_text made path [] = (made, fault_at path IdShape)
id_of_text made path (b ∷ bs) = cond {A = Text × Report} (is_generated (b ∷ bs)) (made, fault_at path ReservedId) (b ∷ bs, no_report)

abbrev pub id_of_value : Text → Path → Option J.Data → Text × Report
id_of_value made path None = (made, no_report)
id_of_value made path (Some J.null) = (made, no_report)
id_of_value made path (Some (J.boolean b)) = (made, fault_at path IdShape)
id_of_value made path (Some (J.number n)) = (made, fault_at path IdShape)
id_of_value made path (Some (J.string s)) = id_of_text made path s
id_of_value made path (Some (J.array ds)) = (made, fault_at path IdShape)
id_of_value made path (Some (J.object ms)) = (made, fault_at path IdShape)

-- the id under `id`, where the type has one; else, and with a fault, the id that is made for the object
abbrev pub id_under : Bool → Text → Path → Option J.Data → Text × Report
id_under true made path d = id_of_value made path d
id_under false made path d = (made, no_report)

-- ---- walks

-- the id that is made for an object, by its place in a list
abbrev pub Made : Type 0
Made = Option ℕ → Text

-- a value under a field: what the field becomes, and what the value says
abbrev pub Walk : Type 0 → Type 0
Walk F = Form → List F → Made → Path → Field × Report

-- an object, or null, under a field of objects: its id, and what it says
abbrev pub Element : Type 0 → Type 0
Element F = Below → List F → (made : Text) → Path → Option Text × Report

abbrev pub link_or_null : Option Text → Field
link_or_null None = Leaf Null
link_or_null (Some id) = Link id

abbrev pub link_of : Option Text × Report → Field × Report
link_of r = (link_or_null r.0, r.1)

abbrev pub no_shape : Path → Field × Report
no_shape path = (Leaf Null, fault_at path Shape)

-- a leaf is its value, whatever its shape
abbrev pub leaf_of : Option Plain → Path → Field × Report
leaf_of None path = (Leaf Null, fault_at path NotWhole)
leaf_of (Some value) path = (Leaf value, no_report)

-- a value that is neither an object, nor a list, nor null
abbrev pub scalar_under : {F : Type 0} → J.Data → Walk F
scalar_under d typename fs made path = (Leaf Null, no_report)
scalar_under d leaf fs made path = leaf_of (plain_of_data d) path
scalar_under d (one b) fs made path = no_shape path
scalar_under d (many b) fs made path = no_shape path

abbrev pub elements_under : {F : Type 0} → List (Element F) → Below → List F → Made → ℕ → Path → List (Option Text) × Report
elements_under [] b fs made n path = ([], no_report)
elements_under (e ∷ es) b fs made n path = (
  (e b fs (made (Some n)) (path ++ Index n ∷ [])).0 ∷ (elements_under es b fs made (n + 1) path).0,
  both (e b fs (made (Some n)) (path ++ Index n ∷ [])).1 (elements_under es b fs made (n + 1) path).1,
)

abbrev pub list_of : List (Option Text) × Report → Field × Report
list_of r = (Links r.0, r.1)

abbrev pub list_under : {F : Type 0} → J.Data → List (Element F) → Walk F
list_under d es typename fs made path = (Leaf Null, no_report)
list_under d es leaf fs made path = leaf_of (plain_of_data d) path
list_under d es (one b) fs made path = no_shape path
list_under d es (many b) fs made path = list_of (elements_under es b fs made 0 path)

abbrev pub object_under : {F : Type 0} → J.Data → Element F → Walk F
object_under d e typename fs made path = (Leaf Null, no_report)
object_under d e leaf fs made path = leaf_of (plain_of_data d) path
object_under d e (one b) fs made path = link_of (e b fs (made None) path)
object_under d e (many b) fs made path = no_shape path

-- ---- pages (Cursor Connections, sections 2 and 5)

-- the value of an argument, null where it is not given
abbrev pub value_of : Text → Arguments → Plain
value_of name arguments = plain_of_tree (unwrap_or (lookup (λ one. bytes_eq one name) arguments) null)

abbrev pub some_text : Option Text → List Text → List Text
some_text None ts = ts
some_text (Some t) ts = t ∷ ts

-- the keys of the connections that fields ask for
abbrev pub handles : List Ask → List Text
handles [] = []
handles (a ∷ rest) = some_text (handle_of a) (handles rest)

-- one page for each key, with the key and the arguments of one field
abbrev pub pages_for : Text → Ask → (page_type info_type : Text) → List Text → List HandleFact
pages_for id a page_type info_type [] = []
pages_for id a page_type info_type (key ∷ keys) =
    record { parent = id; handle_key = key; field_key = key_of a; after = value_of (codes "after") a.arguments; before = value_of (codes "before") a.arguments; page_type = page_type; info_type = info_type }
    ∷ pages_for id a page_type info_type keys

-- the type of the page information, by the groups that are collected on the page's type
abbrev pub info_in : {F : Type 0} → List (Group F) → Text
info_in [] = []
info_in (g ∷ gs) = cond (bytes_eq g.first.ask.response (codes "pageInfo")) (unwrap_or (first_of (types_of g.first.ask.form)) []) (info_in gs)

abbrev pub info_of : {F : Type 0} → Collect F → Option Text → List F → Text
info_of collect None fs = []
info_of collect (Some T) fs = info_in (groups_at collect T fs)

-- ---- objects

-- a field that is present: its fact, its pages, and what its value says
abbrev pub field_says : Text → Path → Ask → List HandleFact → Field × Report → Report
field_says id path a pages r = both (put_at id (key_of a) r.0 (path ++ Key a.response ∷ [])) (both (report_pages pages) r.1)

-- what stands under `__typename` is said once, as the type of the object
abbrev pub form_says : Form → Report → Report
form_says typename t = no_report
form_says leaf t = t
form_says (one b) t = t
form_says (many b) t = t

abbrev pub with_id : Text × Report → (Text → Report) → Option Text × Report
with_id i rest = (Some i.0, both i.1 (rest i.0))

-- an object with the fault Typename is not walked further
abbrev pub unless_misnamed : Bool → Path → Option Text × Report → Option Text × Report
unless_misnamed true path r = (None, fault_at (path ++ Key typename_key ∷ []) Typename)
unless_misnamed false path r = r

module _ {F : Type 0} (collect : Collect F) where
  -- the pages of a group's fields: one for each distinct key of their connections, in byte order
  abbrev pub pages_of : Text → Group F → List HandleFact
  pages_of id g =
      let page = first_of (types_of g.first.ask.form) in
      pages_for id g.first.ask (unwrap_or page []) (info_of collect page (parts g)) (sorted_texts (handles (asks g)))

  -- a group whose response key is absent says nothing
  abbrev pub group_says : Text → Path → Group F → Option (Walk F) → Report
  group_says id path g None = no_report
  group_says id path g (Some walk) =
      field_says id path g.first.ask (pages_of id g)
      (walk g.first.ask.form (parts g) (client_id id (key_of g.first.ask)) (path ++ Key g.first.ask.response ∷ []))

  abbrev pub groups_say : Text → Path → List (Text × Walk F) → List (Group F) → Report
  groups_say id path ws [] = no_report
  groups_say id path ws (g ∷ gs) =
      both (form_says g.first.ask.form (group_says id path g (lookup (λ k. bytes_eq k g.first.ask.response) ws))) (groups_say id path ws gs)

  -- an object whose type and id are known: the fact of its type name, and its fields
  abbrev pub fields_say : Text → Text → Path → List (Text × Walk F) → List (Group F) → Report
  fields_say id name path ws groups = both (put_at id typename_key (Leaf (Words name)) path) (groups_say id path ws groups)

  abbrev pub named_says : J.Members → List (Text × Walk F) → Below → Text → List (Group F) → Text → Path → Option Text × Report
  named_says ms ws b T groups made path =
      with_id (id_under (has_text b.identified T) made (path ++ Key (codes "id") ∷ []) (get_member (codes "id") ms)) (λ id. fields_say id T path ws groups)

  abbrev pub typed_says : J.Members → List (Text × Walk F) → Below → List F → Text → Path → Option Text → Option Text × Report
  typed_says ms ws b fs made path None = (None, fault_at (path ++ Key typename_key ∷ []) Typename)
  typed_says ms ws b fs made path (Some T) =
      unless_misnamed (not b.open_type && is_misnamed T (responses (groups_at collect T fs)) (get_member typename_key ms)) path
      (named_says ms ws b T (groups_at collect T fs) made path)

  abbrev pub object_says : J.Members → List (Text × Walk F) → Element F
  object_says ms ws b fs made path = typed_says ms ws b fs made path (type_under b.open_type b.types (get_member typename_key ms))

  abbrev pub no_object : Element F
  no_object b fs made path = (None, fault_at path Shape)

  -- each value is a walk; an object is a walk by those of its members
  abbrev mutual
    pub walk_of : J.Data → Walk F
    walk_of J.null = λ form fs made path. (Leaf Null, no_report)
    walk_of (J.boolean b) = scalar_under (J.boolean b)
    walk_of (J.number n) = scalar_under (J.number n)
    walk_of (J.string s) = scalar_under (J.string s)
    walk_of (J.array ds) = list_under (J.array ds) (elements_of ds)
    walk_of (J.object ms) = object_under (J.object ms) (object_says ms (walks_of ms))

    pub element_of : J.Data → Element F
    element_of J.null = λ b fs made path. (None, no_report)
    element_of (J.boolean b) = no_object
    element_of (J.number n) = no_object
    element_of (J.string s) = no_object
    element_of (J.array ds) = no_object
    element_of (J.object ms) = object_says ms (walks_of ms)

    pub elements_of : J.Items → List (Element F)
    elements_of J.no_items = []
    elements_of (J.item d ds) = element_of d ∷ elements_of ds

    pub walks_of : J.Members → List (Text × Walk F)
    walks_of J.no_members = []
    walks_of (J.member k d ms) = (k, walk_of d) ∷ walks_of ms

  -- the data of a response, at the root: its type is the operation's, its type name `__Root`
  abbrev pub root_says : Text → List F → Option J.Data → Report
  root_says T fs None = fault_at [] NoData
  root_says T fs (Some J.null) = fault_at [] NoData
  root_says T fs (Some (J.boolean b)) = fault_at [] Shape
  root_says T fs (Some (J.number n)) = fault_at [] Shape
  root_says T fs (Some (J.string s)) = fault_at [] Shape
  root_says T fs (Some (J.array ds)) = fault_at [] Shape
  root_says T fs (Some (J.object ms)) = fields_say root (codes "__Root") [] (walks_of ms) (groups_at collect T fs)

  abbrev pub response_says : (root_type : Text) → List F → J.Data → Report
  response_says T fs J.null = fault_at [] NoData
  response_says T fs (J.boolean b) = fault_at [] NoData
  response_says T fs (J.number n) = fault_at [] NoData
  response_says T fs (J.string s) = fault_at [] NoData
  response_says T fs (J.array ds) = fault_at [] NoData
  response_says T fs (J.object ms) = root_says T fs (get_member (codes "data") ms)
