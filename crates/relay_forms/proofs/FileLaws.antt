-- Files are read one after another.
use Rattle.std.proofs.Common.{◌≡◌, ◌<◌, ◌≤◌, ◌+◌, ◌-◌, ℕ, suc, List, [], ◌∷◌, ◌++◌, map, length, min, get_or, drop, drop-cons, add-one, Bor, Bool, true, false, cond, nat_le, Option, Some, None, refl, sym, ap, subst, inl, inr, ◌∙◌, arith}
use Rattle.std.specs.Prelude.{IsSomeAnd}
use Rattle.std.proofs.lemmas.Bool.{leb-true, le-leb}
use Rattle.std.proofs.lemmas.List.{length_push}
use Rattle.plan_project.specs.Verdicts as plan
use Rattle.relay_io.specs.Files.{file_of, GivesFile, IsAbsent, IsTooLong}
use Rattle.plan_ir.specs.schema_tables.Types.{Text}
use Rattle.relay_forms.specs.Files.{Files, Contents, absent, too_long, readable, within, take_file, documents_from, contents_under, max_file, max_all}
use Rattle.relay_forms.specs.Reads.{GivesDocuments, GivesFiles, IsDocumentAbsent, GoesOn, IsFileClosedBy, AreClosedBy, Hold, AreRead, IsFirstAbsentUnder, AreUnreadBy}
use Rattle.relay_forms.specs.declared.files.Closed.{Closed}
use Rattle.relay_forms.specs.declared.files.Closed.TheVariants as C

-- ---- one file

module _ (name : Text) (left : ℕ) (next : Text → Contents) where
  within_is : (bytes : Text) → length bytes ≤ min max_file left → within name left bytes next ≡ next bytes
  within_is bytes h = ap (λ b. cond b (next bytes) (too_long name)) (le-leb (length bytes) (min max_file left) h)

  over_is : (bytes : Text) → min max_file left < length bytes → within name left bytes next ≡ too_long name
  over_is bytes h = by (nat_le (length bytes) (min max_file left)) refl
    where
      by : (b : Bool) → nat_le (length bytes) (min max_file left) ≡ b → within name left bytes next ≡ too_long name
      by true e = absurd (omega (arith, h, leb-true (length bytes) (min max_file left) e))
      by false e = ap (λ b. cond b (next bytes) (too_long name)) e

  pub found_is : (o : Option Text) (bytes : Text) → o ≡ Some bytes → length bytes ≤ min max_file left → take_file name left o next ≡ next bytes
  found_is o bytes e h = ap (λ x. take_file name left x next) e ∙ within_is bytes h

  pub found_none : (o : Option Text) → o ≡ None → take_file name left o next ≡ absent
  found_none o e = ap (λ x. take_file name left x next) e

  pub found_over : (o : Option Text) → IsSomeAnd o (λ bytes. min max_file left < length bytes) → take_file name left o next ≡ too_long name
  found_over None h = absurd h
  found_over (Some bytes) h = over_is bytes h

-- ---- the documents

pub goes_on-step : (files : Option Files) (left : ℕ) (names before : List Text) (left_now : ℕ) (name : Text) (rest : List Text) (bytes : Text)
    → GoesOn files left names before left_now (name ∷ rest) → GivesFile files name bytes → length bytes ≤ min max_file left_now
    → GoesOn files left names (before ++ bytes ∷ []) (left_now - length bytes) rest
goes_on-step None left names before left_now name rest bytes h given fits = tt
goes_on-step (Some files) left names before left_now name rest bytes h given fits = λ schema.
    h schema ∙ found_is name left_now (λ b. documents_from files schema (before ++ b ∷ []) (left_now - length b) rest) (file_of name files) bytes given fits

absent_here : (files : Option Files) (left : ℕ) (names before : List Text) (left_now : ℕ) (name : Text) (rest : List Text)
    → GoesOn files left names before left_now (name ∷ rest) → IsAbsent files name → IsDocumentAbsent files left names
absent_here None left names before left_now name rest h a = a
absent_here (Some files) left names before left_now name rest h a = λ schema.
    h schema ∙ found_none name left_now (λ b. documents_from files schema (before ++ b ∷ []) (left_now - length b) rest) (file_of name files) a

over_here : (files : Option Files) (left : ℕ) (names before : List Text) (left_now : ℕ) (name other : Text) (rest : List Text)
    → GoesOn files left names before left_now (name ∷ rest) → other ≡ name → IsTooLong files name (min max_file left_now)
    → GivesDocuments files left names (λ schema. too_long other)
over_here None left names before left_now name other rest h e o = tt
over_here (Some files) left names before left_now name other rest h e o = λ schema.
    h schema ∙ found_over name left_now (λ b. documents_from files schema (before ++ b ∷ []) (left_now - length b) rest) (file_of name files) o ∙ ap (λ n. too_long n) (sym e)

pub closed_here : (files : Option Files) (left : ℕ) (names before : List Text) (left_now : ℕ) (name : Text) (rest : List Text) (closed : Closed) (rose later : Type 0)
    → GoesOn files left names before left_now (name ∷ rest) → IsFileClosedBy files left_now name closed rose → (rose → later) → AreClosedBy files left names closed later
closed_here files left names before left_now name rest C.Unread rose later h x up = elim x [
  | inl r ↦ inl (up r)
  | inr a ↦ inr (absent_here files left names before left_now name rest h a)
]
closed_here files left names before left_now name rest (C.TooLong other) rose later h x up = over_here files left names before left_now name other.now rest h x.0 x.1
closed_here files left names before left_now name rest (C.Fault f) rose later h x up = x
closed_here files left names before left_now name rest C.NoMemory rose later h x up = tt

-- ---- the names in a slice

abbrev pub nows : List (Bor Text) → List Text
nows names = map (λ (w : Bor Text). w.now) names

names_drop : (names : List (Bor Text)) (i : ℕ) (d : Bor Text) → i < length names → nows (drop i names) ≡ (get_or names i d).now ∷ nows (drop (i + 1) names)
names_drop names i d within = ap nows (drop-cons names i d within ∙ (λ j. get_or names i d ∷ drop (sym (add-one i) j) names))

texts_more : (files : plan.Files) (file : Text × Text) → plan.texts_of (files ++ file ∷ []) ≡ plan.texts_of files ++ file.1 ∷ []
texts_more [] file = refl
texts_more (f ∷ files) file = ap (λ ts. f.1 ∷ ts) (texts_more files file)

-- the schema, and the documents of the first names; those of the rest are still to be read
abbrev pub KeepsFiles : Option Files → (schema : Text × Text) → (names : List Text) → (kept : plan.Files) → (left : ℕ) → (rest : List Text) → Type 0
KeepsFiles files schema names [] left rest = ⊥
KeepsFiles files schema names (first ∷ documents) left rest =
    (first ≡ schema) × GoesOn files (max_all - length schema.1) names (plan.texts_of documents) left rest × (length documents + length rest ≡ length names)

pub keeps_schema : (files : Option Files) (schema : Text × Text) (names : List Text) → KeepsFiles files schema names (schema ∷ []) (max_all - length schema.1) names
keeps_schema None schema names = (refl, tt, omega arith)
keeps_schema (Some files) schema names = (refl, λ s. refl, omega arith)

module _ (files fs : Option Files) (schema : Text × Text) (names : List (Bor Text)) (left_now i : ℕ) (d : Bor Text) (same : fs ≡ files) (within : i < length names) where
  abbrev next_name : Text
  next_name = (get_or names i d).now

  abbrev rest : List Text
  rest = nows (drop (i + 1) names)

  abbrev all_left : ℕ
  all_left = max_all - length schema.1

  pub keeps_more : (kept after : plan.Files) (len : ℕ) (file : Text × Text) → KeepsFiles files schema (nows names) kept left_now (nows (drop i names))
      → GivesFile fs next_name file.1 × (length file.1 ≤ min max_file left_now) → after ≡ kept ++ file ∷ [] → len ≡ length file.1
      → KeepsFiles files schema (nows names) after (left_now - len) rest
  keeps_more [] after len file h read pushed long = absurd h
  keeps_more (first ∷ documents) after len file h read pushed long =
      let goes = subst (GoesOn files all_left (nows names) (plan.texts_of documents) left_now) (names_drop names i d within) h.1 in
      let given = subst (λ f. GivesFile f next_name file.1) same read.0 in
      let next = goes_on-step files all_left (nows names) (plan.texts_of documents) left_now next_name rest file.1 goes given read.1 in
      let texts = subst (λ ts. GoesOn files all_left (nows names) ts (left_now - length file.1) rest) (sym (texts_more documents file)) next in
      let count : length (nows (drop i names)) ≡ suc (length rest) = ap length (names_drop names i d within) in
      let one_more : length (documents ++ file ∷ []) ≡ length documents + 1 = length_push documents file in
      let before = h.2 in
      subst (λ ks. KeepsFiles files schema (nows names) ks (left_now - len) rest) (sym pushed)
      (h.0, subst (λ k. GoesOn files all_left (nows names) (plan.texts_of (documents ++ file ∷ [])) (left_now - k) rest) (sym long) texts, omega (arith, before, count, one_more))

  pub next_closed : (kept : plan.Files) (closed : Closed) (rose later : Type 0) → KeepsFiles files schema (nows names) kept left_now (nows (drop i names))
      → IsFileClosedBy fs left_now next_name closed rose → (rose → later) → AreClosedBy files all_left (nows names) closed later
  next_closed [] closed rose later h x up = absurd h
  next_closed (first ∷ documents) closed rose later h x up =
      let goes = subst (GoesOn files all_left (nows names) (plan.texts_of documents) left_now) (names_drop names i d within) h.1 in
      let by = subst (λ f. IsFileClosedBy f left_now next_name closed rose) same x in
      closed_here files all_left (nows names) (plan.texts_of documents) left_now next_name rest closed rose later goes by up

-- all are read
pub keeps_all : (files : Option Files) (schema : Text × Text) (names : List Text) (kept : plan.Files) (left : ℕ) (rest : List Text) → rest ≡ []
    → KeepsFiles files schema names kept left rest → GivesFiles files schema names kept
keeps_all files schema names [] left rest e h = absurd h
keeps_all files schema names (first ∷ documents) left rest e h =
    let none : length rest ≡ 0 = ap length e in
    let count = h.2 in
    (h.0, told_all files (subst (GoesOn files (max_all - length schema.1) names (plan.texts_of documents) left) e h.1), omega (arith, count, none))
  where
    told_all : (fs : Option Files) → GoesOn fs (max_all - length schema.1) names (plan.texts_of documents) left []
        → GivesDocuments fs (max_all - length schema.1) names (λ s. readable s (plan.texts_of documents))
    told_all None g = tt
    told_all (Some told_files) g = g

-- ---- all files

-- after the schema
after_schema : (name : Text) (names : List Text) (schema : Text) (files : Files) → file_of name files ≡ Some schema → length schema ≤ min max_file max_all
    → contents_under (name ∷ names) files ≡ documents_from files schema [] (max_all - length schema) names
after_schema name names schema files e h = found_is name max_all (λ s. documents_from files s [] (max_all - length s) names) (file_of name files) schema e h

module _ (name : Text) (names : List Text) where
  abbrev all_names : List Text
  all_names = name ∷ names

  -- the schema is not read
  absent_schema : (files : Option Files) → IsAbsent files name → IsFirstAbsentUnder files all_names
  absent_schema None a = a
  absent_schema (Some files) a = found_none name max_all (λ s. documents_from files s [] (max_all - length s) names) (file_of name files) a

  over_schema : (files : Option Files) (other : Text) → other ≡ name → IsTooLong files name (min max_file max_all) → Hold files all_names (too_long other)
  over_schema None other e o = tt
  over_schema (Some files) other e o =
      found_over name max_all (λ s. documents_from files s [] (max_all - length s) names) (file_of name files) o ∙ ap (λ n. too_long n) (sym e)

  pub schema_closed : (files : Option Files) (closed : Closed) (rose : Type 0) → IsFileClosedBy files max_all name closed rose → AreUnreadBy files all_names closed rose
  schema_closed files C.Unread rose x = elim x [ inl r ↦ inl r | inr a ↦ inr (absent_schema files a) ]
  schema_closed files (C.TooLong other) rose x = over_schema files other.now x.0 x.1
  schema_closed files (C.Fault f) rose x = x
  schema_closed files C.NoMemory rose x = tt

  -- the schema was read, and then the documents are
  module _ (schema : Text × Text) where
    abbrev left_then : ℕ
    left_then = max_all - length schema.1

    absent_documents : (files : Option Files) → GivesFile files name schema.1 → length schema.1 ≤ min max_file max_all → IsDocumentAbsent files left_then names → IsFirstAbsentUnder files all_names
    absent_documents None e h a = a
    absent_documents (Some files) e h a = after_schema name names schema.1 files e h ∙ a schema.1

    held_documents : (files : Option Files) (wanted : Text → Contents) → GivesFile files name schema.1 → length schema.1 ≤ min max_file max_all
        → GivesDocuments files left_then names wanted → Hold files all_names (wanted schema.1)
    held_documents None wanted e h g = tt
    held_documents (Some files) wanted e h g = after_schema name names schema.1 files e h ∙ g schema.1

    closed_then : (files : Option Files) (closed : Closed) (rose later : Type 0) → GivesFile files name schema.1 → length schema.1 ≤ min max_file max_all
        → AreClosedBy files left_then names closed rose → (rose → later) → AreUnreadBy files all_names closed later
    closed_then files C.Unread rose later e h x up = elim x [ inl r ↦ inl (up r) | inr a ↦ inr (absent_documents files e h a) ]
    closed_then files (C.TooLong other) rose later e h x up = held_documents files (λ s. too_long other.now) e h x
    closed_then files (C.Fault f) rose later e h x up = x
    closed_then files C.NoMemory rose later e h x up = tt

    pub documents_closed : (files fs : Option Files) (closed : Closed) (rose later : Type 0) → fs ≡ files → GivesFile files name schema.1 × (length schema.1 ≤ min max_file max_all)
        → AreClosedBy fs left_then names closed rose → (rose → later) → AreUnreadBy files all_names closed later
    documents_closed files fs closed rose later same read x up =
        closed_then files closed rose later read.0 read.1 (subst (λ f. AreClosedBy f left_then names closed rose) same x) up

    pub all_read : (files fs : Option Files) (kept : plan.Files) → fs ≡ files → GivesFile files name schema.1 × (length schema.1 ≤ min max_file max_all)
        → GivesFiles fs schema names kept → AreRead files all_names kept
    all_read files fs [] same read g = absurd g
    all_read files fs (first ∷ documents) same read g =
        let texts = plan.texts_of documents in
        let given = subst (λ f. GivesDocuments f left_then names (λ s. readable s texts)) same g.1 in
        let held : Hold files all_names (readable schema.1 texts) = held_documents files (λ s. readable s texts) read.0 read.1 given in
        let many = g.2 in
        (subst (λ (s : Text × Text). Hold files all_names (readable s.1 texts)) (sym g.0) held, omega (arith, many))

-- there is a file for each name
pub as_many_files : (files : Option Files) (names : List Text) (kept : plan.Files) → AreRead files names kept → length kept ≡ length names
as_many_files files names [] o = absurd o
as_many_files files names (first ∷ documents) o = let many = o.1 in omega (arith, many)
