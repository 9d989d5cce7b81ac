-- What the files that the words name hold, and what is at fault in them.
use Rattle.std.specs.Prelude.{◌≡◌, ℕ, ◌-◌, ◌^◌, List, [], ◌∷◌, ◌++◌, length, min, codes, cond, nat_le, slice_index_or, Option, Some, None, ⊤}
use Rattle.plan_project.specs.Projects.{IsFirstFault}
use Rattle.relay_io.specs.Files.{file_of}
use Rattle.plan_ir.specs.schema_tables.Types.{Text}
use Rattle.relay_machine.specs.Machine.{Project}
use Rattle.relay_forms.specs.Projects.{IsProjectOf}
use Rattle.relay_forms.specs.Rules.{rule_text}
use Rattle.relay_forms.specs.Words.{Form, file_names}
use Rattle.plan_project.specs.declared.fault.ProjectFault.{ProjectFault}

abbrev pub Files : Type 0
Files = List (Text × Text)

-- a file holds at most 4 MiB
abbrev pub max_file : ℕ
max_file = 2 ^ 22

-- all files hold at most 64 MiB
abbrev pub max_all : ℕ
max_all = 2 ^ 26

-- the bytes of the schema and of the documents; or, of all files, the first that is absent or too long
pub data Contents : Type 0 where
  absent : Contents
  too_long : (file : Text) → Contents
  readable : (schema : Text) → (texts : List Text) → Contents

-- a file of which so many bytes are left of all that are taken
abbrev pub within : (name : Text) → (left : ℕ) → Text → (Text → Contents) → Contents
within name left bytes next = cond (nat_le (length bytes) (min max_file left)) (next bytes) (too_long name)

abbrev pub take_file : (name : Text) → (left : ℕ) → Option Text → (Text → Contents) → Contents
take_file name left None next = absent
take_file name left (Some bytes) next = within name left bytes next

-- the documents of these names, after those that were read before
abbrev pub documents_from : Files → (schema : Text) → (before : List Text) → (left : ℕ) → (names : List Text) → Contents
documents_from files schema before left [] = readable schema before
documents_from files schema before left (name ∷ names) =
    take_file name left (file_of name files) (λ bytes. documents_from files schema (before ++ bytes ∷ []) (left - length bytes) names)

-- what the files of these names hold; the first is the schema
abbrev pub contents_under : (names : List Text) → Files → Contents
contents_under [] files = absent
contents_under (schema ∷ documents) files =
    take_file schema max_all (file_of schema files) (λ bytes. documents_from files bytes [] (max_all - length bytes) documents)

-- what the files of a form hold
abbrev pub contents_of : Form → Files → Contents
contents_of form files = contents_under (file_names form) files

-- the first that is absent or too long is absent
abbrev pub IsFirstAbsent : Option Files → Form → Type 0
IsFirstAbsent None form = ⊥
IsFirstAbsent (Some files) form = contents_of form files ≡ absent

-- the project that the files are
abbrev pub IsProject : Contents → Project → Type 0
IsProject absent project = ⊥
IsProject (too_long file) project = ⊥
IsProject (readable schema texts) project = IsProjectOf schema texts project

-- the name of a file by its number: the schema is 0, documents are numbered from 1
abbrev pub name_under : (names : List Text) → ℕ → Text
name_under names n = slice_index_or names n []

abbrev pub name_of : Form → ℕ → Text
name_of form n = name_under (file_names form) n

-- a rule is not met at a place of a file, by its number; the first that is told of a text, else of the schema, else of the documents
pub record BreaksRule (schema : Text) (texts : List Text) (n line column : ℕ) (rule : Text) : Type 0 where
  pub fault : ProjectFault
  pub first : IsFirstFault schema texts fault
  pub file_is : n ≡ fault.file
  pub line_is : line ≡ fault.line
  pub column_is : column ≡ fault.column
  pub rule_is : rule ≡ rule_text fault.rule

-- the fault of the project: the name of the file, the line and the column in it, and the rule
abbrev pub IsFault : Form → Contents → (file : Text) → (line column : ℕ) → (rule : Text) → Type 0
IsFault form absent file line column rule = ⊥
IsFault form (too_long name) file line column rule = (file ≡ name) × (line ≡ 1) × (column ≡ 1) × (rule ≡ codes "F1")
IsFault form (readable schema texts) file line column rule = (n : ℕ) × (file ≡ name_of form n) × BreaksRule schema texts n line column rule

-- the project that the files are, where they are told: they are this one and no other, and have no fault
abbrev pub IsTheProjectOf : Option Files → Form → Project → Type 0
IsTheProjectOf None form project = ⊤
IsTheProjectOf (Some files) form project =
    IsProject (contents_of form files) project × ((other : Project) → IsProject (contents_of form files) other → other ≡ project)
    × ((file : Text) (line column : ℕ) (rule : Text) → IsFault form (contents_of form files) file line column rule → ⊥)

-- the fault of the files, where they are told: they have this one and no other, and are no project
abbrev pub IsTheFaultOf : Option Files → Form → (file : Text) → (line column : ℕ) → (rule : Text) → Type 0
IsTheFaultOf None form file line column rule = ⊤
IsTheFaultOf (Some files) form file line column rule =
    IsFault form (contents_of form files) file line column rule
    × ((f : Text) (l c : ℕ) (r : Text) → IsFault form (contents_of form files) f l c r → ◌≡◌ {A = Text × ℕ × ℕ × Text} (f, l, c, r) (file, line, column, rule))
    × ((project : Project) → IsProject (contents_of form files) project → ⊥)
