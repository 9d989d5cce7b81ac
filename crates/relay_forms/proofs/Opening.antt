-- The project that files are, or its fault, as they were read.
use Rattle.std.proofs.Common.{◌≡◌, ℕ, codes, List, [], ◌∷◌, Option, Some, None, refl, sym, ap, subst, inl, inr, ◌∙◌}
use Rattle.plan_ir.specs.gql_ast.declared.document.Document.{Document}
use Rattle.plan_ir.specs.gql_ast.declared.place.Placed.{Placed}
use Rattle.plan_project.specs.Verdicts as plan
use Rattle.plan_project.specs.declared.compiling.CompileFault.TheVariants.{Refused}
use Rattle.plan_project.specs.declared.fault.ProjectFault.{ProjectFault}
use Rattle.relay_machine.specs.Machine.{Project}
use Rattle.relay_forms.specs.Files.{IsTheProjectOf, IsTheFaultOf, Files, Contents, too_long, readable, name_of, BreaksRule, IsFault, IsFirstAbsent, IsProject}
use Rattle.relay_forms.specs.Projects.{project_shown}
use Rattle.relay_forms.specs.Reads.{Hold, AreRead, IsFirstAbsentUnder, AreUnreadBy, IsClosedBy}
use Rattle.relay_forms.specs.Rules.{rule_text}
use Rattle.relay_forms.specs.Words.{Form, file_names}
use Rattle.relay_forms.specs.declared.files.Closed.{Closed}
use Rattle.relay_forms.specs.declared.files.Closed.TheVariants as C
use Rattle.plan_ir.specs.schema_tables.Types.{Text, Defs}

-- a rule that is not met, by the number of the file, its line, its column and the rule's name
abbrev Place : Type 0
Place = ℕ × ℕ × ℕ × Text

same_place : (schema : Text) (texts : List Text) (m l c : ℕ) (r : Text) (f : ProjectFault) (b : BreaksRule schema texts m l c r) → b.fault ≡ f
    → ◌≡◌ {A = Place} (m, l, c, r) (f.file, f.line, f.column, rule_text f.rule)
same_place schema texts m l c r f b e = λ i. (
  (b.file_is ∙ ap (λ (x : ProjectFault). x.file) e) i,
  (b.line_is ∙ ap (λ (x : ProjectFault). x.line) e) i,
  (b.column_is ∙ ap (λ (x : ProjectFault). x.column) e) i,
  (b.rule_is ∙ ap (λ (x : ProjectFault). rule_text x.rule) e) i,
)

-- ---- what files hold

module _ (form : Form) where
  abbrev IsFaultThere : Contents → (file : Text) → (line column : ℕ) → (rule : Text) → Type 0
  IsFaultThere x file line column rule =
      IsFault form x file line column rule
      × ((f : Text) (l c : ℕ) (r : Text) → IsFault form x f l c r → ◌≡◌ {A = Text × ℕ × ℕ × Text} (f, l, c, r) (file, line, column, rule))
      × ((project : Project) → IsProject x project → ⊥)

  fault_held : (files : Option Files) (schema : Text) (texts : List Text) (f : ProjectFault) → Hold files (file_names form) (readable schema texts)
      → plan.IsTheFault schema texts f → IsTheFaultOf files form (name_of form f.file) f.line f.column (rule_text f.rule)
  fault_held None schema texts f e t = tt
  fault_held (Some files) schema texts f e t = subst (λ x. IsFaultThere x (name_of form f.file) f.line f.column (rule_text f.rule)) (sym e) (
    (f.file, refl, record { fault = f; first = t.is; file_is = refl; line_is = refl; column_is = refl; rule_is = refl }),
    (λ name l c r x.
        let same = same_place schema texts x.0 l c r f x.2 (t.only x.2.fault x.2.first) in
        λ i. ((x.1 ∙ ap (λ (p : Place). name_of form p.0) same) i, (same i).1, (same i).2, (same i).3)),
    (λ project accepted. t.none project.defs project.documents accepted),
  )

  too_long_held : (files : Option Files) (name : Text) → Hold files (file_names form) (too_long name) → IsTheFaultOf files form name 1 1 (codes "F1")
  too_long_held None name e = tt
  too_long_held (Some files) name e = subst (λ x. IsFaultThere x name 1 1 (codes "F1")) (sym e) (
    (refl, refl, refl, refl),
    (λ f l c r x. λ i. (x.0 i, x.1 i, x.2 i, x.3 i)),
    (λ project k. k),
  )

  project_held : (files : Option Files) (schema : Text) (texts : List Text) (parts : Defs × List (Placed Document)) → Hold files (file_names form) (readable schema texts)
      → plan.IsTheProject schema texts parts.0 parts.1 → IsTheProjectOf files form (project_shown parts)
  project_held None schema texts parts e t = tt
  project_held (Some files) schema texts parts e t =
      let P : Contents → Type 0 = λ x. IsProject x (project_shown parts) × ((other : Project) → IsProject x other → other ≡ project_shown parts)
      × ((file : Text) (line column : ℕ) (rule : Text) → IsFault form x file line column rule → ⊥) in
      subst P (sym e) (t.is, λ other accepted. ap project_shown (t.only other.defs other.documents accepted), λ file line column rule x. t.sound x.2.fault x.2.first)

  absent_held : (files : Option Files) → IsFirstAbsentUnder files (file_names form) → IsFirstAbsent files form
  absent_held None a = a
  absent_held (Some files) a = a

  closed_named : (files : Option Files) (closed : Closed) (rose : Type 0) → AreUnreadBy files (file_names form) closed rose → IsClosedBy files form closed rose
  closed_named files C.Unread rose x = elim x [ inl r ↦ inl r | inr a ↦ inr (absent_held files a) ]
  closed_named files (C.TooLong name) rose x = too_long_held files name.now x
  closed_named files (C.Fault f) rose x = absurd x
  closed_named files C.NoMemory rose x = tt

-- ---- as the files of a form were read

module _ (form : Form) (names : List Text) (are : file_names form ≡ names) (files : Option Files) where
  -- they are not read
  pub closed_unread : (closed : Closed) (rose : Type 0) → AreUnreadBy files names closed rose → IsClosedBy files form closed rose
  closed_unread closed rose x = closed_named form files closed rose (subst (λ ns. AreUnreadBy files ns closed rose) (sym are) x)

  -- `here` is what is checked of them
  module _ (here : plan.Files) where
    pub project_opened : (kept : plan.Files) (parts : Defs × List (Placed Document)) → here ≡ kept → AreRead files names kept → plan.AreTheProject here parts.0 parts.1
        → IsTheProjectOf files form (project_shown parts)
    project_opened [] parts same read found = absurd read
    project_opened (first ∷ documents) parts same read found =
        let texts = plan.texts_of documents in
        let held = subst (λ ns. Hold files ns (readable first.1 texts)) (sym are) read.0 in
        project_held form files first.1 texts parts held (subst (λ fs. plan.AreTheProject fs parts.0 parts.1) same found)

    pub fault_opened : (kept : plan.Files) (f : ProjectFault) → here ≡ kept → AreRead files names kept → plan.HaveTheFault here (Refused f)
        → IsTheFaultOf files form (name_of form f.file) f.line f.column (rule_text f.rule)
    fault_opened [] f same read found = absurd read
    fault_opened (first ∷ documents) f same read found =
        let texts = plan.texts_of documents in
        let held = subst (λ ns. Hold files ns (readable first.1 texts)) (sym are) read.0 in
        fault_held form files first.1 texts f held (subst (λ fs. plan.HaveTheFault fs (Refused f)) same found)
