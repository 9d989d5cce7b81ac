-- The course of a call, from what its parts gave and took.
use Rattle.std.proofs.Common.{◌≡◌, ◌⊎◌, ◌↔◌, ◌≤◌, ◌+◌, ◌++◌, ℕ, List, [], length, take, true, false, IsTrue, Option, None, Some, refl, sym, ap, subst, inl, inr, ◌∙◌, arith}
use Rattle.std.proofs.lemmas.Bool.{false≢true}
use Rattle.relay_forms.specs.relay_io.Streams.{append, prepend}
use Rattle.relay_forms.proofs.relay_io_laws.Streaming.{append-none}
use Rattle.plan_ir.specs.schema_tables.Types.{Text}
use Rattle.relay_forms.specs.relay_machine.Machine.{Project, beginning}
use Rattle.relay_forms.specs.relay_machine.Printed.{project_fault}
use Rattle.relay_top.specs.Answers.{unknown, refused, accepted, due, AnsweringBy, Ran}
use Rattle.relay_forms.specs.Artifacts.{EndsLine, artifacts_text}
use Rattle.relay_forms.specs.Progress.{start}
use Rattle.relay_forms.specs.Scripts.{max_script}
use Rattle.relay_top.specs.Streamed.{Streamed}
use Rattle.relay_forms.specs.Statuses.{IsDone}
use Rattle.relay_forms.specs.Words.{Form, run, compile}
use Rattle.relay_forms.specs.declared.status.Status.{Status}
use Rattle.relay_forms.specs.declared.status.Status.TheVariants.{Done, DoneWithRefusals, ProjectRefused, ReadFault, WriteFault, NoMemory, ScriptTooLong}
use Rattle.relay_forms.proofs.ProgressLaws.{written_is, refused_is}

pub nothing_given : (told : Option Text) → told ≡ prepend [] told
nothing_given None = refl
nothing_given (Some xs) = refl

-- a script that is answered from the beginning on
pub ran_streamed : (buffer : ℕ) (schema : Text) (documents : List Text) (p : Project) (status : Status) (left left_now : Option Text) (reads reads_now : ℕ) (held held_now : Option Text) (puts puts_now : ℕ)
    → Streamed p buffer (start beginning 1) status left left_now reads reads_now held held_now puts puts_now
    → Ran (run buffer schema documents) (accepted p) status left left_now reads reads_now held held_now puts puts_now
ran_streamed buffer schema documents p status left left_now reads reads_now held held_now puts puts_now s = record {
  taken = s.taken;
  ended = s.is_ended;
  took = record { is = s.is; read = tt; end = s.end; short = s.short; most = s.most; over = s.over; too_long = s.too_long; read_fault = s.read_fault; done = s.done };
  reads_most = s.reads_most;
  unread = tt;
  added = s.put.part;
  adds = s.put.adds;
  puts_most = s.put.calls;
  unwritten = tt;
  ends = s.put.ends;
  more = s.put.rest;
  part = s.put.parts ∙ sym (written_is p buffer (take max_script s.taken) s.is_ended);
  whole = s.whole;
  refusals = subst (λ r. IsDone status → (status ≡ DoneWithRefusals) ↔ IsTrue r) (sym (refused_is p buffer s.taken)) s.refusals;
}

abbrev pub IsRefused : Status → Type 0 → Type 0
IsRefused status sink = (status ≡ ProjectRefused) ⊎ (((status ≡ WriteFault) × sink) ⊎ (status ≡ NoMemory))

not_after : (status other : Status) (sink : Type 0) → (ProjectRefused ≡ other → ⊥) → (WriteFault ≡ other → ⊥) → (NoMemory ≡ other → ⊥) → IsRefused status sink → status ≡ other → ⊥
not_after status other sink a b c form e = elim form [
  | inl r ↦ a (sym r ∙ e)
  | inr f ↦ elim f [ inl w ↦ b (sym w.0 ∙ e) | inr m ↦ c (sym m ∙ e) ]
]

pub not_done : (status : Status) (sink : Type 0) → IsRefused status sink → IsDone status → ⊥
not_done status sink form d = elim form [
  | inl r ↦ subst IsDone r d
  | inr f ↦ elim f [ inl w ↦ subst IsDone w.0 d | inr m ↦ subst IsDone m d ]
]

-- the line of the project's fault is put, as far as it is
pub ran_refused : (form : Form) (file : Text) (line column : ℕ) (rule : Text) (status : Status) (sink : Type 0) (left : Option Text) (reads : ℕ) (held held_now : Option Text) (puts puts_now : ℕ)
    → IsRefused status sink
    → (added : Text) × (held_now ≡ append held added) × (puts_now ≤ puts + length added + 1) × ((status ≡ WriteFault) ⊎ EndsLine added)
    × (more : Text) × (added ++ more ≡ project_fault file line column rule) × (status ≡ ProjectRefused → more ≡ [])
    → Ran form (refused file line column rule) status left left reads reads held held_now puts puts_now
ran_refused form file line column rule status sink left reads held held_now puts puts_now kind w = record {
  taken = [];
  ended = false;
  took = record {
    is = nothing_given left;
    read = refl;
    end = λ e. absurd (false≢true e);
    short = λ e. absurd (false≢true e);
    most = omega arith;
    over = λ e. absurd (omega (arith, e));
    too_long = λ e. absurd (not_after status ScriptTooLong sink (λ x. cc) (λ x. cc) (λ x. cc) kind e);
    read_fault = λ _. refl;
    done = λ d. absurd (not_done status sink kind d);
  };
  reads_most = omega arith;
  unread = (refl, refl);
  added = w.0;
  adds = w.1;
  puts_most = w.2;
  unwritten = tt;
  ends = w.3;
  more = w.4;
  part = w.5;
  whole = λ d. elim d [
    | inl done ↦ absurd (not_done status sink kind done)
    | inr f ↦ elim f [
      | inl e ↦ w.6 e
      | inr g ↦ absurd (elim g [
        | inl e ↦ not_after status ReadFault sink (λ x. cc) (λ x. cc) (λ x. cc) kind e
        | inr e ↦ not_after status ScriptTooLong sink (λ x. cc) (λ x. cc) (λ x. cc) kind e
      ])
    ]
  ];
  refusals = λ d. absurd (not_done status sink kind d);
}

-- nothing came to be known of the project
pub ran_unknown : (form : Form) (status : Status) (left : Option Text) (reads : ℕ) (held : Option Text) (puts : ℕ) → (status ≡ ReadFault) ⊎ (status ≡ NoMemory)
    → Ran form unknown status left left reads reads held held puts puts
ran_unknown form status left reads held puts kind = record {
  taken = [];
  ended = false;
  took = record {
    is = nothing_given left;
    read = refl;
    end = λ e. absurd (false≢true e);
    short = λ e. absurd (false≢true e);
    most = omega arith;
    over = λ e. absurd (omega (arith, e));
    too_long = λ e. absurd (elim kind [ inl r ↦ other r e | inr m ↦ other_too m e ]);
    read_fault = λ _. refl;
    done = λ d. absurd (not_done_then d);
  };
  reads_most = omega arith;
  unread = (refl, refl);
  added = [];
  adds = sym (append-none held);
  puts_most = omega arith;
  unwritten = (refl, refl);
  ends = inr (inl refl);
  more = [];
  part = refl;
  whole = λ _. refl;
  refusals = λ d. absurd (not_done_then d);
}
  where
    other : status ≡ ReadFault → status ≡ ScriptTooLong → ⊥
    other r e = cc

    other_too : status ≡ NoMemory → status ≡ ScriptTooLong → ⊥
    other_too m e = cc

    not_done_then : IsDone status → ⊥
    not_done_then d = elim kind [ inl r ↦ subst IsDone r d | inr m ↦ subst IsDone m d ]

-- an answer where artifact lines are put
abbrev pub IsCompiled : Status → Type 0 → Type 0
IsCompiled status sink = (status ≡ Done) ⊎ (((status ≡ WriteFault) × sink) ⊎ (status ≡ NoMemory))

-- the artifact lines are put, as far as they are
module _ (schema : Text) (documents : List Text) (p : Project) (status : Status) (sink : Type 0) (kind : IsCompiled status sink) where
  pub compiled_answers : AnsweringBy (compile schema documents) status ⊥ sink
  compiled_answers = elim kind [ inl d ↦ inl (subst IsDone (sym d) tt) | inr f ↦ inr f ]

  not_so : (other : Status) → (Done ≡ other → ⊥) → (WriteFault ≡ other → ⊥) → (NoMemory ≡ other → ⊥) → status ≡ other → ⊥
  not_so other a b c e = elim kind [
    | inl d ↦ a (sym d ∙ e)
    | inr f ↦ elim f [ inl w ↦ b (sym w.0 ∙ e) | inr m ↦ c (sym m ∙ e) ]
  ]

  done_is : IsDone status → status ≡ Done
  done_is done = elim kind [
    | inl d ↦ d
    | inr f ↦ absurd (elim f [ inl w ↦ subst IsDone w.0 done | inr m ↦ subst IsDone m done ])
  ]

  pub ran_compiled : (left : Option Text) (reads : ℕ) (held held_now : Option Text) (puts puts_now : ℕ)
      → (added : Text) × (held_now ≡ append held added) × (puts_now ≤ puts + length added + 1) × ((status ≡ WriteFault) ⊎ EndsLine added)
      × (more : Text) × (added ++ more ≡ artifacts_text p.defs p.documents) × (status ≡ Done → more ≡ [])
      → Ran (compile schema documents) (accepted p) status left left reads reads held held_now puts puts_now
  ran_compiled left reads held held_now puts puts_now w = record {
    taken = [];
    ended = false;
    took = record {
      is = nothing_given left;
      read = refl;
      end = λ e. absurd (false≢true e);
      short = λ e. absurd (false≢true e);
      most = omega arith;
      over = λ e. absurd (omega (arith, e));
      too_long = λ e. absurd (not_so ScriptTooLong (λ x. cc) (λ x. cc) (λ x. cc) e);
      read_fault = λ _. refl;
      done = λ _. tt;
    };
    reads_most = omega arith;
    unread = (refl, refl);
    added = w.0;
    adds = w.1;
    puts_most = w.2;
    unwritten = tt;
    ends = w.3;
    more = w.4;
    part = w.5;
    whole = λ d. elim d [
      | inl done ↦ w.6 (done_is done)
      | inr f ↦ absurd (elim f [
        | inl e ↦ not_so ProjectRefused (λ x. cc) (λ x. cc) (λ x. cc) e
        | inr g ↦ elim g [ inl e ↦ not_so ReadFault (λ x. cc) (λ x. cc) (λ x. cc) e | inr e ↦ not_so ScriptTooLong (λ x. cc) (λ x. cc) (λ x. cc) e ]
      ])
    ];
    refusals = λ done. (λ e. absurd (not_so DoneWithRefusals (λ x. cc) (λ x. cc) (λ x. cc) e), λ e. absurd (false≢true e));
  }
