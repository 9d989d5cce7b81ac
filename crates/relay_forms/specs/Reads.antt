-- What the reading of files tells of them, and why there is no project.
use Rattle.std.specs.Prelude.{◌≡◌, ◌⊎◌, ℕ, ◌+◌, ◌-◌, List, [], ◌∷◌, length, min, codes, Option, Some, None, ⊤}
use Rattle.plan_project.specs.Verdicts as plan
use Rattle.relay_io.specs.Files.{IsAbsent, IsTooLong}
use Rattle.plan_ir.specs.schema_tables.Types.{Text}
use Rattle.relay_forms.specs.Files.{Files, Contents, absent, too_long, readable, contents_under, documents_from, max_all, max_file, name_of, IsFirstAbsent, IsTheFaultOf}
use Rattle.relay_forms.specs.Rules.{rule_text}
use Rattle.relay_forms.specs.Words.{Form}
use Rattle.relay_forms.specs.declared.files.Closed.{Closed}
use Rattle.relay_forms.specs.declared.files.Closed.TheVariants.{Unread, TooLong, Fault, NoMemory}

-- the documents of these names, where files are told and so many bytes are left, are given so, whatever the schema is
abbrev pub GivesDocuments : Option Files → (left : ℕ) → (names : List Text) → ((schema : Text) → Contents) → Type 0
GivesDocuments None left names wanted = ⊤
GivesDocuments (Some files) left names wanted = (schema : Text) → documents_from files schema [] left names ≡ wanted schema

-- the files of a project, where files are told: the schema, and what documents of these names hold
abbrev pub GivesFiles : Option Files → (schema : Text × Text) → (names : List Text) → plan.Files → Type 0
GivesFiles files schema names [] = ⊥
GivesFiles files schema names (first ∷ documents) =
    (first ≡ schema) × GivesDocuments files (max_all - length schema.1) names (λ s. readable s (plan.texts_of documents)) × (length documents ≡ length names)

-- the files are told, and of the documents the first that is absent or too long is absent
abbrev pub IsDocumentAbsent : Option Files → (left : ℕ) → (names : List Text) → Type 0
IsDocumentAbsent None left names = ⊥
IsDocumentAbsent (Some files) left names = (schema : Text) → documents_from files schema [] left names ≡ absent

-- where these were read before, and so many bytes are left for those names, the documents are the same
abbrev pub GoesOn : Option Files → (left : ℕ) → (names before : List Text) → (left_now : ℕ) → (rest : List Text) → Type 0
GoesOn None left names before left_now rest = ⊤
GoesOn (Some files) left names before left_now rest =
    (schema : Text) → documents_from files schema [] left names ≡ documents_from files schema before left_now rest

-- why a file is not read; `rose`: a count of faults rose
abbrev pub IsFileClosedBy : Option Files → (left : ℕ) → (name : Text) → Closed → (rose : Type 0) → Type 0
IsFileClosedBy files left name Unread rose = rose ⊎ IsAbsent files name
IsFileClosedBy files left name (TooLong other) rose = (other.now ≡ name) × IsTooLong files name (min max_file left)
IsFileClosedBy files left name (Fault f) rose = ⊥
IsFileClosedBy files left name NoMemory rose = ⊤

-- why documents are not read
abbrev pub AreClosedBy : Option Files → (left : ℕ) → (names : List Text) → Closed → (rose : Type 0) → Type 0
AreClosedBy files left names Unread rose = rose ⊎ IsDocumentAbsent files left names
AreClosedBy files left names (TooLong name) rose = GivesDocuments files left names (λ schema. too_long name.now)
AreClosedBy files left names (Fault f) rose = ⊥
AreClosedBy files left names NoMemory rose = ⊤

-- ---- all files

-- the files of these names hold this, where they are told; the first is the schema
abbrev pub Hold : Option Files → (names : List Text) → Contents → Type 0
Hold None names contents = ⊤
Hold (Some files) names contents = contents_under names files ≡ contents

-- the files of these names, as they were read
abbrev pub AreRead : Option Files → (names : List Text) → plan.Files → Type 0
AreRead files names [] = ⊥
AreRead files names (schema ∷ documents) =
    Hold files names (readable schema.1 (plan.texts_of documents)) × (length documents + 1 ≡ length names)

-- the files are told, and of these the first that is absent or too long is absent
abbrev pub IsFirstAbsentUnder : Option Files → (names : List Text) → Type 0
IsFirstAbsentUnder None names = ⊥
IsFirstAbsentUnder (Some files) names = contents_under names files ≡ absent

-- why the files of these names are not read
abbrev pub AreUnreadBy : Option Files → (names : List Text) → Closed → (rose : Type 0) → Type 0
AreUnreadBy files names Unread rose = rose ⊎ IsFirstAbsentUnder files names
AreUnreadBy files names (TooLong name) rose = Hold files names (too_long name.now)
AreUnreadBy files names (Fault f) rose = ⊥
AreUnreadBy files names NoMemory rose = ⊤

-- why there is no project
abbrev pub IsClosedBy : Option Files → Form → Closed → (rose : Type 0) → Type 0
IsClosedBy files form Unread rose = rose ⊎ IsFirstAbsent files form
IsClosedBy files form (TooLong name) rose = IsTheFaultOf files form name.now 1 1 (codes "F1")
IsClosedBy files form (Fault f) rose = IsTheFaultOf files form (name_of form f.file) f.line f.column (rule_text f.rule)
IsClosedBy files form NoMemory rose = ⊤
