-- What the top call owes, from the course that it took.
use Rattle.std.proofs.Common.{◌≡◌, ◌⊎◌, ◌↔◌, ◌≤◌, ◌+◌, ◌++◌, ℕ, List, [], length, take, Bool, true, false, IsTrue, IsFalse, Option, None, Some, refl, sym, ap, subst, inl, inr, ◌∙◌, arith, length-append}
use Rattle.std.specs.Io.KnownBytes.{IsAtEnd}
use Rattle.std.proofs.lemmas.Bool.{cases_eq}
use Rattle.std.proofs.lemmas.List.{append-nil, take_all}
use Rattle.bulk_laws.specs.BulkProject.{bulk_project}
use Rattle.relay_forms.specs.relay_io.Streams.{append, prepend}
use Rattle.plan_ir.specs.schema_tables.Types.{Text}
use Rattle.relay_forms.specs.relay_machine.Bulk.{bulk_summary}
use Rattle.relay_forms.specs.relay_machine.Machine.{Project}
use Rattle.relay_forms.specs.relay_machine.Printed.{project_fault}
use Rattle.relay_top.specs.Answers.{Course, unknown, refused, accepted, IsCourse, Answering, AnsweringBy, IsCall, Ran, Took, output_of, has_refusal_in, due, refuses, left_over, IsReadWhole, IsReadBy, IsEndedFor, IsScriptFor, IsUntouched, AnsweringBulk, IsAnswered, IsBulkCall}
use Rattle.relay_forms.specs.Files.{IsTheProjectOf, IsTheFaultOf, Files, Contents, absent, contents_of, IsProject, IsFault, IsFirstAbsent}
use Rattle.relay_forms.specs.Artifacts.{EndsLine}
use Rattle.relay_forms.specs.Scripts.{max_script}
use Rattle.relay_top.specs.Output.{output_text, AddsPartOf}
use Rattle.relay_forms.specs.Statuses.{IsDone}
use Rattle.relay_forms.specs.Words.{Asked, Form, run, compile, on_files, bulk}
use Rattle.relay_forms.specs.declared.status.Status.{Status}
use Rattle.relay_forms.specs.declared.status.Status.TheVariants.{Done, DoneWithRefusals, Usage, ProjectRefused, ReadFault, WriteFault, NoMemory, ScriptTooLong}
use Rattle.relay_top.proofs.Courses.{not_done, nothing_given}

all_given : (bytes taken : Text) (after : Option Text) → Some bytes ≡ prepend taken after → IsAtEnd after → (after ≡ Some []) × (taken ≡ bytes)
all_given bytes taken None is at_end = absurd (cc)
all_given bytes taken (Some xs) is at_end =
    let joined : bytes ≡ taken ++ xs = cc in
    (ap Some at_end, sym (joined ∙ ap (λ x. taken ++ x) at_end ∙ append-nil taken))

given_within : (bytes taken : Text) (after : Option Text) → Some bytes ≡ prepend taken after → length taken ≤ length bytes
given_within bytes taken None is = absurd (cc)
given_within bytes taken (Some xs) is =
    let joined : bytes ≡ taken ++ xs = cc in omega (arith, ap length joined, length-append taken xs)

no_course : (given : Contents) (project : Project) → given ≡ absent → IsProject given project → ⊥
no_course given project e is = let P : Contents → Type 0 = λ x. IsProject x project in subst P e is

no_faults : (form : Form) (given : Contents) (file : Text) (line column : ℕ) (rule : Text) → given ≡ absent → IsFault form given file line column rule → ⊥
no_faults form given file line column rule e is = let P : Contents → Type 0 = λ x. IsFault form x file line column rule in subst P e is

-- all of a script was read as far as the form reads it
read_whole : (form : Form) (taken : Text) (after : Option Text) (ended : Bool) → IsReadBy form taken → (IsTrue ended → IsAtEnd after) → IsEndedFor form ended → length taken ≤ max_script → IsReadWhole form taken after
read_whole (run buffer schema documents) taken after ended read end done within = (end done, within)
read_whole (compile schema documents) taken after ended read end done within = read

-- what was written is what is written of all of it
written_whole : (form : Form) (p : Project) (taken : Text) (ended : Bool) → IsEndedFor form ended → length taken ≤ max_script → output_of form p (take max_script taken) ended ≡ output_of form p taken true
written_whole (run buffer schema documents) p taken ended done within =
    ap (λ e. output_text p buffer (take max_script taken) e) done ∙ ap (λ t. output_text p buffer t true) (take_all max_script taken within)
written_whole (compile schema documents) p taken ended done within = refl

-- what was read of a script that is told: what the form leaves of it is left, and all of it would give no more
abbrev AreAll : Form → Project → (bytes taken : Text) → (after : Option Text) → Type 0
AreAll form p bytes taken after =
    (after ≡ Some (left_over form bytes)) × (output_of form p taken true ≡ output_of form p bytes true) × (has_refusal_in form p taken ≡ has_refusal_in form p bytes)

none_read : (bytes taken : Text) (after : Option Text) → Some bytes ≡ prepend taken after → taken ≡ [] → after ≡ Some bytes
none_read bytes taken after is none = sym (is ∙ ap (λ t. prepend t after) none ∙ sym (nothing_given after))

all_read : (form : Form) (p : Project) (bytes taken : Text) (after : Option Text) → Some bytes ≡ prepend taken after → IsReadWhole form taken after → AreAll form p bytes taken after
all_read (run buffer schema documents) p bytes taken after is read =
    let all = all_given bytes taken after is read.0 in
    (all.0, ap (λ t. output_of (run buffer schema documents) p t true) all.1, ap (λ t. has_refusal_in (run buffer schema documents) p t) all.1)
all_read (compile schema documents) p bytes taken after is read = (none_read bytes taken after is read, refl, refl)

-- no more than a script may have is read of one that is not too long
short_enough : (form : Form) (bytes taken : Text) (after : Option Text) → IsScriptFor form bytes → Some bytes ≡ prepend taken after → IsReadBy form taken → length taken ≤ max_script
short_enough (run buffer schema documents) bytes taken after within is read = let most = given_within bytes taken after is in omega (arith, most, within)
short_enough (compile schema documents) bytes taken after within is read = omega (arith, ap length read)

-- the answers by each form are among these
among_all : (form : Form) (status : Status) (script sink : Type 0) → AnsweringBy form status script sink
    → IsDone status ⊎ (((status ≡ ReadFault) × script) ⊎ (((status ≡ WriteFault) × sink) ⊎ ((status ≡ NoMemory) ⊎ (status ≡ ScriptTooLong))))
among_all (run buffer schema documents) status script sink answering = answering
among_all (compile schema documents) status script sink answering = elim answering [
  | inl done ↦ inl done
  | inr f ↦ elim f [ inl w ↦ inr (inr (inl w)) | inr m ↦ inr (inr (inr (inl m))) ]
]

-- a course that is answered so, with what it comes by
module _ (status : Status) (script sink : Type 0) (left left_now : Option Text) (reads reads_now : ℕ) (held held_now : Option Text) (puts puts_now : ℕ) where
  abbrev pub Called : Option Files → Form → Type 0 → Type 0
  Called files form vault = IsCall files form status vault script sink left left_now reads reads_now held held_now puts puts_now

  not_over : (form : Form) (course : Course) (taken : Text) (ended : Bool) → Took form course status left left_now taken ended → IsDone status → length taken ≤ max_script
  not_over form course taken ended took done = elim (cases_eq (length taken) (max_script + 1)) [
    | inl same ↦ absurd (elim (took.over same) [
      | inl e ↦ let d : ⊥ = subst IsDone e done in d
      | inr f ↦ elim f [ inl e ↦ let d : ⊥ = subst IsDone e done in d | inr e ↦ let d : ⊥ = subst IsDone e done in d ]
    ])
    | inr other ↦ omega (arith, other, took.most)
  ]

  abbrev IsWholeOf : Form → Project → Text → Type 0
  IsWholeOf form p taken =
      (left ≡ prepend taken left_now) × IsReadWhole form taken left_now × (held_now ≡ append held (due form (accepted p) taken true))
      × ((status ≡ DoneWithRefusals) ↔ IsTrue (refuses form (accepted p) taken))

  -- in a course that is accepted, where the work is done
  whole_of : (form : Form) (p : Project) → Ran form (accepted p) status left left_now reads reads_now held held_now puts puts_now → IsDone status → (taken : Text) × IsWholeOf form p taken
  whole_of form p r done =
      let within : length r.taken ≤ max_script = not_over form (accepted p) r.taken r.ended r.took done in
      let due_is : due form (accepted p) (take max_script r.taken) r.ended ≡ due form (accepted p) r.taken true = written_whole form p r.taken r.ended (r.took.done done) within in
      let added_is : r.added ≡ due form (accepted p) r.taken true =
      sym (append-nil r.added) ∙ ap (λ m. r.added ++ m) (sym (r.whole (inl done))) ∙ r.part ∙ due_is in
      (r.taken, (r.took.is, read_whole form r.taken left_now r.ended r.took.read r.took.end (r.took.done done) within, r.adds ∙ ap (append held) added_is, r.refusals done))

  abbrev IsDoneOf : Form → Project → Text → Type 0
  IsDoneOf form project bytes =
      (left_now ≡ Some (left_over form bytes)) × (held_now ≡ append held (due form (accepted project) bytes true))
      × ((status ≡ DoneWithRefusals) ↔ IsTrue (refuses form (accepted project) bytes))

  done_of : (form : Form) (p : Project) (bytes : Text) → left ≡ Some bytes → Ran form (accepted p) status left left_now reads reads_now held held_now puts puts_now → IsDone status
      → IsDoneOf form p bytes
  done_of form p bytes told r done =
      let w = whole_of form p r done in
      let all = all_read form p bytes w.0 left_now (sym told ∙ w.1.0) w.1.1 in
      let P : Bool → Type 0 = λ b. (status ≡ DoneWithRefusals) ↔ IsTrue b in
      (all.0, w.1.2 ∙ ap (append held) all.1, subst P all.2 w.1.3)

  whole_in : (files : Option Files) (form : Form) (vault : Type 0) (course : Course) → IsCourse files form course → Answering form course status (vault ⊎ IsFirstAbsent files form) script sink
      → Ran form course status left left_now reads reads_now held held_now puts puts_now
      → IsDone status → (project : Project) × IsTheProjectOf files form project × (taken : Text) × IsWholeOf form project taken
  whole_in files form vault unknown is answering r done = absurd (elim answering [
    | inl e ↦ let d : ⊥ = subst IsDone e.0 done in d
    | inr e ↦ let d : ⊥ = subst IsDone e done in d
  ])
  whole_in files form vault (refused f l k g) is answering r done = absurd (not_done status sink answering done)
  whole_in files form vault (accepted p) is answering r done = let w = whole_of form p r done in (p, is, w.0, w.1)

  pub owed_whole : (files : Option Files) (form : Form) (vault : Type 0) → Called files form vault → IsDone status
      → (project : Project) × IsTheProjectOf files form project
      × (taken : Text) × (left ≡ prepend taken left_now) × IsReadWhole form taken left_now × (held_now ≡ append held (due form (accepted project) taken true))
      × ((status ≡ DoneWithRefusals) ↔ IsTrue (refuses form (accepted project) taken))
  owed_whole files form vault w done =
      let d = whole_in files form vault w.0 w.1 w.2 w.3 done in
      (d.0, d.1, d.2, d.3.0, d.3.1, d.3.2, d.3.3)

  done_in : (files : Files) (form : Form) (vault : Type 0) (project : Project) (bytes : Text) (course : Course) → IsCourse (Some files) form course
      → Answering form course status (vault ⊎ IsFirstAbsent (Some files) form) script sink → Ran form course status left left_now reads reads_now held held_now puts puts_now
      → IsProject (contents_of form files) project → left ≡ Some bytes → IsDone status → IsDoneOf form project bytes
  done_in files form vault project bytes unknown is answering r has told done = absurd (elim answering [
    | inl e ↦ let d : ⊥ = subst IsDone e.0 done in d
    | inr e ↦ let d : ⊥ = subst IsDone e done in d
  ])
  done_in files form vault project bytes (refused f l k g) is answering r has told done = absurd (not_done status sink answering done)
  done_in files form vault project bytes (accepted p) is answering r has told done =
      let P : Project → Type 0 = λ q. IsDoneOf form q bytes in
      subst P (sym (is.1 project has)) (done_of form p bytes told r done)

  pub owed_done : (files : Files) (form : Form) (vault : Type 0) (project : Project) (bytes : Text) → Called (Some files) form vault
      → IsProject (contents_of form files) project → left ≡ Some bytes → IsDone status
      → (left_now ≡ Some (left_over form bytes)) × (held_now ≡ append held (due form (accepted project) bytes true)) × ((status ≡ DoneWithRefusals) ↔ IsTrue (refuses form (accepted project) bytes))
  owed_done files form vault project bytes w has told done = done_in files form vault project bytes w.0 w.1 w.2 w.3 has told done

  abbrev IsComplete : Form → Project → Text → Type 0
  IsComplete form project bytes = (status ≡ NoMemory) ⊎ (IsDone status × (left_now ≡ Some (left_over form bytes)) × (held_now ≡ append held (due form (accepted project) bytes true)))

  complete_in : (files : Files) (form : Form) (vault : Type 0) (project : Project) (bytes : Text) (course : Course) → IsCourse (Some files) form course
      → Answering form course status (vault ⊎ IsFirstAbsent (Some files) form) script sink → Ran form course status left left_now reads reads_now held held_now puts puts_now
      → IsProject (contents_of form files) project → left ≡ Some bytes → IsScriptFor form bytes → (vault → ⊥) → (script → ⊥) → (sink → ⊥) → IsComplete form project bytes
  complete_in files form vault project bytes unknown is answering r has told within a b c = elim answering [
    | inl e ↦ absurd (elim e.1 [ inl v ↦ a v | inr none ↦ no_course (contents_of form files) project none has ])
    | inr e ↦ inl e
  ]
  complete_in files form vault project bytes (refused f l k g) is answering r has told within a b c = absurd (is.2 project has)
  complete_in files form vault project bytes (accepted p) is answering r has told within a b c = elim (among_all form status script sink answering) [
    | inl done ↦ let d = done_in files form vault project bytes (accepted p) is answering r has told done in inr (done, d.0, d.1)
    | inr f ↦ elim f [
      | inl e ↦ absurd (b e.1)
      | inr f ↦ elim f [
        | inl e ↦ absurd (c e.1)
        | inr f ↦ elim f [
          | inl e ↦ inl e
          | inr e ↦ let over : length r.taken ≡ max_script + 1 = (r.took.too_long e).0 in
              let short : length r.taken ≤ max_script = short_enough form bytes r.taken left_now within (sym told ∙ r.took.is) r.took.read in
              absurd (omega (arith, over, short))
        ]
      ]
    ]
  ]

  pub owed_complete : (files : Files) (form : Form) (vault : Type 0) (project : Project) (bytes : Text) → Called (Some files) form vault
      → IsProject (contents_of form files) project → left ≡ Some bytes → IsScriptFor form bytes → (vault → ⊥) → (script → ⊥) → (sink → ⊥) → IsComplete form project bytes
  owed_complete files form vault project bytes w has told within a b c = complete_in files form vault project bytes w.0 w.1 w.2 w.3 has told within a b c

  abbrev IsFaulty : (file : Text) → (line column : ℕ) → (rule : Text) → Type 0 → Type 0
  IsFaulty file line column rule vault =
      ((status ≡ ProjectRefused) × (held_now ≡ append held (project_fault file line column rule)))
      ⊎ (((status ≡ ReadFault) × vault) ⊎ ((status ≡ WriteFault) ⊎ (status ≡ NoMemory)))

  abbrev Fault : Type 0
  Fault = Text × ℕ × ℕ × Text

  abbrev fault_text : Fault → Text
  fault_text x = project_fault x.0 x.1 x.2 x.3

  refused_whole : (form : Form) (x y : Fault) → x ≡ y → Ran form (refused y.0 y.1 y.2 y.3) status left left_now reads reads_now held held_now puts puts_now → status ≡ ProjectRefused
      → held_now ≡ append held (fault_text x)
  refused_whole form x y same r e =
      let added_is : r.added ≡ fault_text y = sym (append-nil r.added) ∙ ap (λ m. r.added ++ m) (sym (r.whole (inr (inl e)))) ∙ r.part in
      r.adds ∙ ap (append held) (added_is ∙ sym (ap fault_text same))

  faulty_in : (files : Files) (form : Form) (vault : Type 0) (file : Text) (line column : ℕ) (rule : Text) (course : Course) → IsCourse (Some files) form course
      → Answering form course status (vault ⊎ IsFirstAbsent (Some files) form) script sink → Ran form course status left left_now reads reads_now held held_now puts puts_now
      → IsFault form (contents_of form files) file line column rule → IsFaulty file line column rule vault
  faulty_in files form vault file line column rule unknown is answering r fault = elim answering [
    | inl e ↦ elim e.1 [ inl v ↦ inr (inl (e.0, v)) | inr none ↦ absurd (no_faults form (contents_of form files) file line column rule none fault) ]
    | inr e ↦ inr (inr (inr e))
  ]
  faulty_in files form vault file line column rule (refused f l k g) is answering r fault =
      elim answering [
        | inl e ↦ inl (e, refused_whole form (file, line, column, rule) (f, l, k, g) (is.1 file line column rule fault) r e)
        | inr h ↦ elim h [ inl e ↦ inr (inr (inl e.0)) | inr e ↦ inr (inr (inr e)) ]
      ]
  faulty_in files form vault file line column rule (accepted p) is answering r fault = absurd (is.2 file line column rule fault)

  pub owed_faulty : (files : Files) (form : Form) (vault : Type 0) (file : Text) (line column : ℕ) (rule : Text) → Called (Some files) form vault
      → IsFault form (contents_of form files) file line column rule → IsFaulty file line column rule vault
  owed_faulty files form vault file line column rule w fault = faulty_in files form vault file line column rule w.0 w.1 w.2 w.3 fault

  other_than : (this other : Status) → (this ≡ other → ⊥) → status ≡ other → status ≡ this → ⊥
  other_than this other differs e r = differs (sym r ∙ e)

  -- no answer that a course with an accepted project comes to is this one
  not_accepted : (this : Status) → (IsDone this → ⊥) → (this ≡ WriteFault → ⊥) → (this ≡ NoMemory → ⊥) → (this ≡ ScriptTooLong → ⊥) → (form : Form) (project : Project) (vault : Type 0)
      → Answering form (accepted project) status vault script sink → status ≡ this → (this ≡ ReadFault) × script
  not_accepted this a b c d form project vault answering e = elim (among_all form status script sink answering) [
    | inl done ↦ absurd (a (subst IsDone e done))
    | inr f ↦ elim f [
      | inl g ↦ (sym e ∙ g.0, g.1)
      | inr f ↦ elim f [
        | inl g ↦ absurd (b (sym e ∙ g.0))
        | inr f ↦ elim f [ inl g ↦ absurd (c (sym e ∙ g)) | inr g ↦ absurd (d (sym e ∙ g)) ]
      ]
    ]
  ]

  abbrev HasFault : Option Files → Form → Type 0
  HasFault files form =
      (file : Text) × (line : ℕ) × (column : ℕ) × (rule : Text) × IsTheFaultOf files form file line column rule × (held_now ≡ append held (project_fault file line column rule))

  abbrev IsUnread : Type 0
  IsUnread = IsUntouched left left_now reads reads_now

  refused_in : (files : Option Files) (form : Form) (vault : Type 0) (course : Course) → IsCourse files form course
      → Answering form course status (vault ⊎ IsFirstAbsent files form) script sink → Ran form course status left left_now reads reads_now held held_now puts puts_now
      → status ≡ ProjectRefused → HasFault files form × IsUnread
  refused_in files form vault unknown is answering r e = absurd (elim answering [
    | inl f ↦ other_than ProjectRefused ReadFault (λ x. cc) f.0 e
    | inr f ↦ other_than ProjectRefused NoMemory (λ x. cc) f e
  ])
  refused_in files form vault (refused f l k g) is answering r e =
      ((f, l, k, g, is, refused_whole form (f, l, k, g) (f, l, k, g) refl r e), r.unread)
  refused_in files form vault (accepted p) is answering r e =
      absurd (read_fault_is (not_accepted ProjectRefused (λ d. d) (λ x. cc) (λ x. cc) (λ x. cc) form p (vault ⊎ IsFirstAbsent files form) answering e).0)
    where
      read_fault_is : ProjectRefused ≡ ReadFault → ⊥
      read_fault_is x = cc

  pub owed_refused : (files : Option Files) (form : Form) (vault : Type 0) → Called files form vault → status ≡ ProjectRefused
      → (file : Text) × (line : ℕ) × (column : ℕ) × (rule : Text) × IsTheFaultOf files form file line column rule × (held_now ≡ append held (project_fault file line column rule))
  owed_refused files form vault w e = (refused_in files form vault w.0 w.1 w.2 w.3 e).0

  pub owed_unread : (files : Option Files) (form : Form) (vault : Type 0) → Called files form vault → status ≡ ProjectRefused → (left_now ≡ left) × (reads_now ≡ reads)
  owed_unread files form vault w e = (refused_in files form vault w.0 w.1 w.2 w.3 e).1

  unread_in : (files : Option Files) (form : Form) (vault : Type 0) (course : Course)
      → Answering form course status (vault ⊎ IsFirstAbsent files form) script sink → Ran form course status left left_now reads reads_now held held_now puts puts_now
      → status ≡ ReadFault → (script → ⊥) → IsUnread × IsUntouched held held_now puts puts_now
  unread_in files form vault unknown answering r e none = (r.unread, r.unwritten)
  unread_in files form vault (refused f l k g) answering r e none = absurd (elim answering [
    | inl h ↦ other_than ReadFault ProjectRefused (λ x. cc) h e
    | inr h ↦ elim h [ inl w ↦ other_than ReadFault WriteFault (λ x. cc) w.0 e | inr m ↦ other_than ReadFault NoMemory (λ x. cc) m e ]
  ])
  unread_in files form vault (accepted p) answering r e none =
      absurd (none (not_accepted ReadFault (λ d. d) (λ x. cc) (λ x. cc) (λ x. cc) form p (vault ⊎ IsFirstAbsent files form) answering e).1)

  -- the files could not be read
  pub owed_unopened : (files : Option Files) (form : Form) (vault : Type 0) → Called files form vault → status ≡ ReadFault → (script → ⊥)
      → (left_now ≡ left) × (reads_now ≡ reads) × (held_now ≡ held) × (puts_now ≡ puts)
  owed_unopened files form vault w e none = let d = unread_in files form vault w.0 w.2 w.3 e none in (d.0.0, d.0.1, d.1.0, d.1.1)

  usage_in : (files : Option Files) (form : Form) (vault : Type 0) (course : Course) → Answering form course status (vault ⊎ IsFirstAbsent files form) script sink → status ≡ Usage → ⊥
  usage_in files form vault unknown answering e = elim answering [ inl f ↦ other_than Usage ReadFault (λ x. cc) f.0 e | inr f ↦ other_than Usage NoMemory (λ x. cc) f e ]
  usage_in files form vault (refused f l k g) answering e = elim answering [
    | inl h ↦ other_than Usage ProjectRefused (λ x. cc) h e
    | inr h ↦ elim h [ inl w ↦ other_than Usage WriteFault (λ x. cc) w.0 e | inr m ↦ other_than Usage NoMemory (λ x. cc) m e ]
  ]
  usage_in files form vault (accepted p) answering e =
      read_fault_is (not_accepted Usage (λ d. d) (λ x. cc) (λ x. cc) (λ x. cc) form p (vault ⊎ IsFirstAbsent files form) answering e).0
    where
      read_fault_is : Usage ≡ ReadFault → ⊥
      read_fault_is x = cc

  -- the words are a form
  pub owed_usage : (files : Option Files) (form : Form) (vault : Type 0) → Called files form vault → status ≡ Usage → ⊥
  owed_usage files form vault w e = usage_in files form vault w.0 w.2 e

  scriptless_in : (schema : Text) (documents : List Text) (course : Course) → Ran (compile schema documents) course status left left_now reads reads_now held held_now puts puts_now → IsUnread
  scriptless_in schema documents unknown r = r.unread
  scriptless_in schema documents (refused f l k g) r = r.unread
  scriptless_in schema documents (accepted p) r = r.unread

  -- to compile, the script is not called
  pub owed_scriptless : (files : Option Files) (schema : Text) (documents : List Text) (vault : Type 0) → Called files (compile schema documents) vault → (left_now ≡ left) × (reads_now ≡ reads)
  owed_scriptless files schema documents vault w = scriptless_in schema documents w.0 w.3

  -- ---- a call by what is asked for

  abbrev pub Answered : Option Files → Asked → Type 0 → (looks looks_now : ℕ) → Type 0
  Answered files asked vault looks looks_now =
      IsAnswered files asked status vault script sink looks looks_now left left_now reads reads_now held held_now puts puts_now

  bulk_usage : AnsweringBulk status sink → status ≡ Usage → ⊥
  bulk_usage answers e = elim answers [
    | inl done ↦ other_than Usage Done (λ x. cc) done e
    | inr f ↦ elim f [
      | inl w ↦ other_than Usage WriteFault (λ x. cc) w.0 e
      | inr m ↦ other_than Usage NoMemory (λ x. cc) m e
    ]
  ]

  -- the words are a form
  pub any_usage : (files : Option Files) (asked : Asked) (vault : Type 0) (looks looks_now : ℕ) → Answered files asked vault looks looks_now → status ≡ Usage → ⊥
  any_usage files (on_files form) vault looks looks_now w e = owed_usage files form vault w.0 e
  any_usage files (bulk seed count) vault looks looks_now w e = bulk_usage w.answers e

  pub any_unread : (files : Option Files) (asked : Asked) (vault : Type 0) (looks looks_now : ℕ) → Answered files asked vault looks looks_now → status ≡ ProjectRefused
      → (left_now ≡ left) × (reads_now ≡ reads)
  any_unread files (on_files form) vault looks looks_now w e = owed_unread files form vault w.0 e
  any_unread files (bulk seed count) vault looks looks_now w e = w.unread

  no_read_fault : AnsweringBulk status sink → status ≡ ReadFault → ⊥
  no_read_fault answers e = elim answers [
    | inl done ↦ other_than ReadFault Done (λ x. cc) done e
    | inr f ↦ elim f [
      | inl w ↦ other_than ReadFault WriteFault (λ x. cc) w.0 e
      | inr m ↦ other_than ReadFault NoMemory (λ x. cc) m e
    ]
  ]

  pub any_unopened : (files : Option Files) (asked : Asked) (vault : Type 0) (looks looks_now : ℕ) → Answered files asked vault looks looks_now → status ≡ ReadFault → (script → ⊥)
      → (left_now ≡ left) × (reads_now ≡ reads) × (held_now ≡ held) × (puts_now ≡ puts)
  any_unopened files (on_files form) vault looks looks_now w e none = owed_unopened files form vault w.0 e none
  any_unopened files (bulk seed count) vault looks looks_now w e none = absurd (no_read_fault w.answers e)

  ran_ends : (form : Form) (course : Course) → Ran form course status left left_now reads reads_now held held_now puts puts_now
      → (status ≡ WriteFault) ⊎ ((added : Text) × (held_now ≡ append held added) × EndsLine added)
  ran_ends form course r = elim r.ends [ inl e ↦ inl e | inr e ↦ inr (r.added, r.adds, e) ]

  -- what is written ends a line
  pub any_ends : (files : Option Files) (asked : Asked) (vault : Type 0) (looks looks_now : ℕ) → Answered files asked vault looks looks_now
      → (status ≡ WriteFault) ⊎ ((added : Text) × (held_now ≡ append held added) × EndsLine added)
  any_ends files (on_files form) vault looks looks_now w = ran_ends form w.0.0 w.0.3
  any_ends files (bulk seed count) vault looks looks_now w =
      let s = w.wrote in elim s.ends [ inl e ↦ inl e | inr e ↦ inr (s.added, s.adds, e) ]

  untaken : IsUntouched left left_now reads reads_now → (taken : Text) × (left ≡ prepend taken left_now) × (reads_now ≤ reads + length taken + 1)
  untaken u = let few = u.1 in ([], sym u.0 ∙ nothing_given left_now, omega (arith, few))

  pub any_script_calls : (files : Option Files) (asked : Asked) (vault : Type 0) (looks looks_now : ℕ) → Answered files asked vault looks looks_now
      → (taken : Text) × (left ≡ prepend taken left_now) × (reads_now ≤ reads + length taken + 1)
  any_script_calls files (on_files form) vault looks looks_now w = let r = w.0.3 in (r.taken, r.took.is, r.reads_most)
  any_script_calls files (bulk seed count) vault looks looks_now w = untaken w.unread

  pub any_sink_calls : (files : Option Files) (asked : Asked) (vault : Type 0) (looks looks_now : ℕ) → Answered files asked vault looks looks_now
      → (added : Text) × (held_now ≡ append held added) × (puts_now ≤ puts + length added + 1)
  any_sink_calls files (on_files form) vault looks looks_now w = let r = w.0.3 in (r.added, r.adds, r.puts_most)
  any_sink_calls files (bulk seed count) vault looks looks_now w = let s = w.wrote in (s.added, s.adds, s.puts_most)

  -- a put failed
  write_fault_in : (form : Form) (course : Course) (vault : Type 0) → Answering form course status vault script sink → status ≡ WriteFault → sink
  write_fault_in form unknown vault answering e = absurd (elim answering [
    | inl f ↦ other_than WriteFault ReadFault (λ x. cc) f.0 e
    | inr f ↦ other_than WriteFault NoMemory (λ x. cc) f e
  ])
  write_fault_in form (refused f l k g) vault answering e = elim answering [
    | inl h ↦ absurd (other_than WriteFault ProjectRefused (λ x. cc) h e)
    | inr h ↦ elim h [ inl w ↦ w.1 | inr m ↦ absurd (other_than WriteFault NoMemory (λ x. cc) m e) ]
  ]
  write_fault_in form (accepted p) vault answering e = elim (among_all form status script sink answering) [
    | inl done ↦ let d : ⊥ = subst IsDone e done in absurd d
    | inr f ↦ elim f [
      | inl g ↦ absurd (other_than WriteFault ReadFault (λ x. cc) g.0 e)
      | inr f ↦ elim f [
        | inl g ↦ g.1
        | inr f ↦ elim f [
          | inl g ↦ absurd (other_than WriteFault NoMemory (λ x. cc) g e)
          | inr g ↦ absurd (other_than WriteFault ScriptTooLong (λ x. cc) g e)
        ]
      ]
    ]
  ]

  bulk_write_fault : AnsweringBulk status sink → status ≡ WriteFault → sink
  bulk_write_fault answers e = elim answers [
    | inl done ↦ absurd (other_than WriteFault Done (λ x. cc) done e)
    | inr f ↦ elim f [
      | inl w ↦ w.1
      | inr m ↦ absurd (other_than WriteFault NoMemory (λ x. cc) m e)
    ]
  ]

  pub any_write_fault : (files : Option Files) (asked : Asked) (vault : Type 0) (looks looks_now : ℕ) → Answered files asked vault looks looks_now → status ≡ WriteFault → sink
  any_write_fault files (on_files form) vault looks looks_now w e = write_fault_in form w.0.0 (vault ⊎ IsFirstAbsent files form) w.0.2 e
  any_write_fault files (bulk seed count) vault looks looks_now w e = bulk_write_fault w.answers e

  read_fault_in : (form : Form) (course : Course) (vault : Type 0) → Answering form course status vault script sink → status ≡ ReadFault → vault ⊎ script
  read_fault_in form unknown vault answering e = elim answering [
    | inl f ↦ inl f.1
    | inr f ↦ absurd (other_than ReadFault NoMemory (λ x. cc) f e)
  ]
  read_fault_in form (refused f l k g) vault answering e = absurd (elim answering [
    | inl h ↦ other_than ReadFault ProjectRefused (λ x. cc) h e
    | inr h ↦ elim h [ inl w ↦ other_than ReadFault WriteFault (λ x. cc) w.0 e | inr m ↦ other_than ReadFault NoMemory (λ x. cc) m e ]
  ])
  read_fault_in form (accepted p) vault answering e =
      inr (not_accepted ReadFault (λ d. d) (λ x. cc) (λ x. cc) (λ x. cc) form p vault answering e).1

  -- why a file or the script could not be read
  pub owed_read_fault : (files : Option Files) (form : Form) (vault : Type 0) → Called files form vault → status ≡ ReadFault → vault ⊎ (script ⊎ IsFirstAbsent files form)
  owed_read_fault files form vault w e = elim (read_fault_in form w.0 (vault ⊎ IsFirstAbsent files form) w.2 e) [
    | inl h ↦ elim h [ inl v ↦ inl v | inr a ↦ inr (inr a) ]
    | inr s ↦ inr (inl s)
  ]

  -- at each answer
  pub owed_part : (files : Option Files) (form : Form) (vault : Type 0) → Called files form vault
      → (course : Course) × IsCourse files form course × (taken : Text) × (ended : Bool) × Took form course status left left_now taken ended
      × AddsPartOf held held_now (due form course (take max_script taken) ended)
  owed_part files form vault w = let r = w.3 in (w.0, w.1, r.taken, r.ended, r.took, (r.added, r.more, r.adds, r.part))

  -- the script could not be read further, or is too long
  abbrev IsCut : Type 0
  IsCut = (status ≡ ReadFault) ⊎ (status ≡ ScriptTooLong)

  not_ended : (form : Form) (course : Course) (taken : Text) (ended : Bool) → Took form course status left left_now taken ended → IsCut → IsFalse ended
  not_ended form course taken ended took cut = elim cut [ inl e ↦ took.read_fault e | inr e ↦ (took.too_long e).1 ]

  streamed_in : (form : Form) (course : Course) (r : Ran form course status left left_now reads reads_now held held_now puts puts_now) → IsCut
      → Took form course status left left_now r.taken false × (held_now ≡ append held (due form course (take max_script r.taken) false))
  streamed_in form course r cut =
      let open_is : r.ended ≡ false = not_ended form course r.taken r.ended r.took cut in
      let all : r.more ≡ [] = r.whole (inr (inr cut)) in (
        subst (Took form course status left left_now r.taken) open_is r.took,
        r.adds ∙ ap (append held) (sym (append-nil r.added) ∙ ap (λ m. r.added ++ m) (sym all) ∙ r.part ∙ ap (due form course (take max_script r.taken)) open_is),
      )

  -- all that is due was written
  pub owed_streamed : (files : Option Files) (form : Form) (vault : Type 0) → Called files form vault → (status ≡ ReadFault) ⊎ (status ≡ ScriptTooLong)
      → (course : Course) × IsCourse files form course × (taken : Text) × Took form course status left left_now taken false × (held_now ≡ append held (due form course (take max_script taken) false))
  owed_streamed files form vault w cut = let d = streamed_in form w.0 w.3 cut in (w.0, w.1, w.3.taken, d.0, d.1)

  -- the script is too long exactly where it gave so many bytes
  pub owed_too_long : (files : Option Files) (form : Form) (vault : Type 0) → Called files form vault
      → (taken : Text) × (left ≡ prepend taken left_now) × (status ≡ ScriptTooLong → length taken ≡ max_script + 1)
      × (length taken ≡ max_script + 1 → (status ≡ ScriptTooLong) ⊎ (((status ≡ WriteFault) × sink) ⊎ (status ≡ NoMemory)))
  owed_too_long files form vault w =
      let r = w.3 in (
        r.taken,
        r.took.is,
        λ e. (r.took.too_long e).0,
        λ e. elim (r.took.over e) [
          | inl long ↦ inl long
          | inr f ↦ elim f [ inl fault ↦ inr (inl (fault, write_fault_in form w.0 (vault ⊎ IsFirstAbsent files form) w.2 fault)) | inr lacks ↦ inr (inr lacks) ]
        ],
      )

  -- ---- the summary

  abbrev IsSummed : (seed count : ℕ) → (looks looks_now : ℕ) → Type 0
  IsSummed seed count looks looks_now = IsBulkCall seed count status sink looks looks_now left left_now reads reads_now held held_now puts puts_now

  pub owed_bulk : (seed count looks looks_now : ℕ) → IsSummed seed count looks looks_now → status ≡ Done → held_now ≡ append held (bulk_summary bulk_project seed count)
  owed_bulk seed count looks looks_now w done =
      let s = w.wrote in s.adds ∙ ap (append held) (sym (append-nil s.added) ∙ ap (λ m. s.added ++ m) (sym (s.whole done)) ∙ s.part)

  pub owed_bulk_part : (seed count looks looks_now : ℕ) → IsSummed seed count looks looks_now → AddsPartOf held held_now (bulk_summary bulk_project seed count)
  owed_bulk_part seed count looks looks_now w = let s = w.wrote in (s.added, s.more, s.adds, s.part)

  -- where nothing fails and memory is had
  pub owed_bulk_complete : (seed count looks looks_now : ℕ) → IsSummed seed count looks looks_now → (sink → ⊥)
      → (status ≡ NoMemory) ⊎ ((status ≡ Done) × (held_now ≡ append held (bulk_summary bulk_project seed count)))
  owed_bulk_complete seed count looks looks_now w none = elim w.answers [
    | inl done ↦ inr (done, owed_bulk seed count looks looks_now w done)
    | inr f ↦ elim f [ inl h ↦ absurd (none h.1) | inr m ↦ inl m ]
  ]
