-- How the answering of a script comes to its end.
use Rattle.std.proofs.Common.{◌≡◌, ◌⊎◌, ◌↔◌, ℕ, ◌+◌, ◌-◌, ◌≤◌, ◌++◌, [], length, take, Bool, true, false, IsTrue, Option, refl, sym, ap, subst, inl, inr, ◌∙◌, arith, append_assoc, length-append}
use Rattle.std.specs.Io.KnownBytes.{IsAtEnd}
use Rattle.std.proofs.lemmas.Bool.{false≢true}
use Rattle.std.proofs.lemmas.List.{append-nil, take_all}
use Rattle.plan_ir.specs.schema_tables.Types.{Text}
use Rattle.relay_forms.specs.relay_io.Streams.{append, prepend}
use Rattle.relay_forms.specs.relay_machine.Machine.{Project}
use Rattle.relay_forms.specs.Artifacts.{EndsLine}
use Rattle.relay_forms.specs.Progress.{Progress, after, ended, told, told_at_end, answers_of}
use Rattle.relay_forms.specs.Puts.{IsPut, IsPutInPart}
use Rattle.relay_forms.specs.Scripts.{max_script}
use Rattle.relay_forms.specs.Statuses.{IsDone}
use Rattle.relay_top.specs.Answers.{IsWhole}
use Rattle.relay_top.specs.Streamed.{Streamed}
use Rattle.relay_forms.specs.declared.status.Status.{Status}
use Rattle.relay_forms.specs.declared.status.Status.TheVariants.{DoneWithRefusals, ProjectRefused, ReadFault, WriteFault, NoMemory, ScriptTooLong}
use Rattle.relay_forms.proofs.Pieces.{added_more}
use Rattle.relay_forms.proofs.ProgressLaws.{after_piece, told_piece}
use Rattle.relay_forms.proofs.PutLaws.{put_both, stopped}
use Rattle.relay_forms.proofs.WholeLines.{both_end}

not_whole : (status : Status) → (status ≡ WriteFault) ⊎ (status ≡ NoMemory) → IsWhole status → ⊥
not_whole status kind whole = elim kind [
  | inl w ↦ elim whole [
    | inl d ↦ subst IsDone w d
    | inr f ↦ elim f [ inl e ↦ differ_refused w e | inr g ↦ elim g [ inl e ↦ differ_read w e | inr e ↦ differ_long w e ] ]
  ]
  | inr m ↦ elim whole [
    | inl d ↦ subst IsDone m d
    | inr f ↦ elim f [ inl e ↦ lacks_refused m e | inr g ↦ elim g [ inl e ↦ lacks_read m e | inr e ↦ lacks_long m e ] ]
  ]
]
  where
    differ_refused : status ≡ WriteFault → status ≡ ProjectRefused → ⊥
    differ_refused w e = cc

    differ_read : status ≡ WriteFault → status ≡ ReadFault → ⊥
    differ_read w e = cc

    differ_long : status ≡ WriteFault → status ≡ ScriptTooLong → ⊥
    differ_long w e = cc

    lacks_refused : status ≡ NoMemory → status ≡ ProjectRefused → ⊥
    lacks_refused m e = cc

    lacks_read : status ≡ NoMemory → status ≡ ReadFault → ⊥
    lacks_read m e = cc

    lacks_long : status ≡ NoMemory → status ≡ ScriptTooLong → ⊥
    lacks_long m e = cc

module _ (p : Project) (buffer : ℕ) (q : Progress) (left left_now : Option Text) (reads reads_now : ℕ) (held held_now : Option Text) (puts puts_now : ℕ) where
  -- what is due where the script goes on
  open_is : (given : Text) → answers_of p buffer q given false ≡ told p buffer q given
  open_is given = append-nil (told p buffer q given)

  -- a put failed, or memory was lacking
  pub streamed_stop : (status : Status) (given : Text) → (status ≡ WriteFault) ⊎ (status ≡ NoMemory) → left ≡ prepend given left_now → length given ≤ max_script + 1 → reads_now ≤ reads + length given + 1
      → IsPutInPart (told p buffer q (take max_script given)) (status ≡ WriteFault) held held_now puts puts_now
      → Streamed p buffer q status left left_now reads reads_now held held_now puts puts_now
  streamed_stop status given kind is most calls put = record {
    taken = given;
    is_ended = false;
    is = is;
    most = most;
    end = λ e. absurd (false≢true e);
    short = λ e. absurd (false≢true e);
    over = λ _. inr kind;
    too_long = λ e. absurd (not_whole status kind (inr (inr (inr e))));
    read_fault = λ _. refl;
    done = λ d. absurd (not_whole status kind (inl d));
    reads_most = calls;
    put = subst (λ t. IsPutInPart t (status ≡ WriteFault) held held_now puts puts_now) (sym (open_is (take max_script given))) put;
    whole = λ w. absurd (not_whole status kind w);
    refusals = λ d. absurd (not_whole status kind (inl d));
  }

  -- a reading failed: the answers of the lines that ended were put
  pub streamed_unread : (given : Text) → left ≡ prepend given left_now → length given ≤ max_script → reads_now ≤ reads + length given + 1
      → IsPut (told p buffer q (take max_script given)) held held_now puts puts_now
      → Streamed p buffer q ReadFault left left_now reads reads_now held held_now puts puts_now
  streamed_unread given is most calls put = record {
    taken = given;
    is_ended = false;
    is = is;
    most = omega (arith, most);
    end = λ e. absurd (false≢true e);
    short = λ e. absurd (false≢true e);
    over = λ e. absurd (omega (arith, e, most));
    too_long = λ e. absurd (cc);
    read_fault = λ _. refl;
    done = λ d. absurd d;
    reads_most = calls;
    put = record { part = told p buffer q (take max_script given); rest = []; parts = append-nil _ ∙ sym (open_is (take max_script given)); adds = put.adds; calls = omega (arith, put.calls); ends = inr put.ends };
    whole = λ _. refl;
    refusals = λ d. absurd d;
  }

  -- a byte more than a script has was given: the answers of the lines that ended before it were put
  pub streamed_too_long : (given : Text) → left ≡ prepend given left_now → length given ≡ max_script + 1 → reads_now ≤ reads + length given + 1
      → IsPut (told p buffer q (take max_script given)) held held_now puts puts_now
      → Streamed p buffer q ScriptTooLong left left_now reads reads_now held held_now puts puts_now
  streamed_too_long given is most calls put = record {
    taken = given;
    is_ended = false;
    is = is;
    most = omega (arith, most);
    end = λ e. absurd (false≢true e);
    short = λ e. absurd (false≢true e);
    over = λ _. inl refl;
    too_long = λ _. (most, refl);
    read_fault = λ _. refl;
    done = λ d. absurd d;
    reads_most = calls;
    put = record { part = told p buffer q (take max_script given); rest = []; parts = append-nil _ ∙ sym (open_is (take max_script given)); adds = put.adds; calls = omega (arith, put.calls); ends = inr put.ends };
    whole = λ _. refl;
    refusals = λ d. absurd d;
  }

  abbrev IsFinished : Status → Type 0
  IsFinished status = IsDone status ⊎ ((status ≡ WriteFault) ⊎ (status ≡ NoMemory))

  finished_whole : (status : Status) → IsFinished status → IsWhole status → IsDone status
  finished_whole status kind whole = elim kind [ inl d ↦ d | inr f ↦ absurd (not_whole status f whole) ]

  finished_other : (status other : Status) → (IsDone other → ⊥) → IsWhole other → IsFinished status → status ≡ other → ⊥
  finished_other status other none whole kind e = elim kind [ inl d ↦ none (subst IsDone e d) | inr f ↦ not_whole status f (subst IsWhole (sym e) whole) ]

  -- the script has ended: the answers of its lines were put, and the answer of a last line that no LF ends is put, as far as it is
  pub streamed_ended : (status : Status) (given : Text) (held_then : Option Text) (puts_then : ℕ) → IsFinished status → left ≡ prepend given left_now → length given ≤ max_script
      → IsAtEnd left_now → reads_now ≤ reads + length given + 1
      → IsPut (told p buffer q (take max_script given)) held held_then puts puts_then
      → (put : IsPutInPart (told_at_end p buffer (after p buffer q (take max_script given))) (status ≡ WriteFault) held_then held_now puts_then puts_now) × (IsDone status → put.rest ≡ [])
      → (IsDone status → (status ≡ DoneWithRefusals) ↔ IsTrue (ended p buffer (after p buffer q (take max_script given))).refused)
      → Streamed p buffer q status left left_now reads reads_now held held_now puts puts_now
  streamed_ended status given held_then puts_then kind is most at_end calls put last refusals =
      let all : take max_script given ≡ given = take_all max_script given most in
      let line = last.0 in
      let said : Text = told p buffer q (take max_script given) in
      record {
        taken = given;
        is_ended = true;
        is = is;
        most = omega (arith, most);
        end = λ _. at_end;
        short = λ _. most;
        over = λ e. absurd (omega (arith, e, most));
        too_long = λ e. absurd (finished_other status ScriptTooLong (λ d. d) (inr (inr (inr refl))) kind e);
        read_fault = λ e. absurd (finished_other status ReadFault (λ d. d) (inr (inr (inl refl))) kind e);
        done = λ _. refl;
        reads_most = calls;
        put = record {
          part = said ++ line.part;
          rest = line.rest;
          parts = append_assoc said line.part line.rest ∙ ap (λ t. said ++ t) line.parts;
          adds = added_more held held_then held_now said line.part put.adds line.adds;
          calls = omega (arith, put.calls, line.calls, length-append said line.part);
          ends = elim line.ends [ inl f ↦ inl f | inr e ↦ inr (both_end said line.part put.ends e) ];
        };
        whole = λ w. last.1 (finished_whole status kind w);
        refusals = subst (λ t. IsDone status → (status ≡ DoneWithRefusals) ↔ IsTrue (ended p buffer (after p buffer q t)).refused) all refusals;
      }

  -- ---- a piece more

  pub piece_after : (given more : Text) (taken : ℕ) → length given ≡ taken → taken ≤ max_script
      → after p buffer (after p buffer q (take max_script given)) (take (max_script - taken) more) ≡ after p buffer q (take max_script (given ++ more))
  piece_after given more taken is within =
      ap (λ k. after p buffer (after p buffer q (take max_script given)) (take (max_script - k) more)) (sym is) ∙ after_piece p buffer q max_script given more (omega (arith, is, within))

  piece_told : (given more : Text) (taken : ℕ) → length given ≡ taken → taken ≤ max_script
      → told p buffer q (take max_script (given ++ more)) ≡ told p buffer q (take max_script given) ++ told p buffer (after p buffer q (take max_script given)) (take (max_script - taken) more)
  piece_told given more taken is within =
      told_piece p buffer q max_script given more (omega (arith, is, within))
      ∙ ap (λ k. told p buffer q (take max_script given) ++ told p buffer (after p buffer q (take max_script given)) (take (max_script - k) more)) is

  pub piece_put : (given more : Text) (taken : ℕ) (h1 : Option Text) (c1 : ℕ) → length given ≡ taken → taken ≤ max_script → IsPut (told p buffer q (take max_script given)) held h1 puts c1
      → IsPut (told p buffer (after p buffer q (take max_script given)) (take (max_script - taken) more)) h1 held_now c1 puts_now
      → IsPut (told p buffer q (take max_script (given ++ more))) held held_now puts puts_now
  piece_put given more taken h1 c1 is within x y =
      subst (λ t. IsPut t held held_now puts puts_now) (sym (piece_told given more taken is within)) (put_both _ _ held h1 held_now puts c1 puts_now x y)

  pub piece_part : (given more : Text) (taken : ℕ) (h1 : Option Text) (c1 : ℕ) (fails : Type 0) → length given ≡ taken → taken ≤ max_script → IsPut (told p buffer q (take max_script given)) held h1 puts c1
      → IsPutInPart (told p buffer (after p buffer q (take max_script given)) (take (max_script - taken) more)) fails h1 held_now c1 puts_now
      → IsPutInPart (told p buffer q (take max_script (given ++ more))) fails held held_now puts puts_now
  piece_part given more taken h1 c1 fails is within x y =
      let said = told p buffer q (take max_script given) in
      let text = told p buffer (after p buffer q (take max_script given)) (take (max_script - taken) more) in
      stopped (told p buffer q (take max_script (given ++ more))) said text [] fails held h1 held_now puts c1 puts_now (piece_told given more taken is within ∙ sym (append-nil (said ++ text))) x y

  -- nothing came, and nothing was put
  pub none_put : (given more : Text) (h1 : Option Text) (c1 : ℕ) → more ≡ [] → held_now ≡ h1 → puts_now ≡ c1 → IsPut (told p buffer q (take max_script given)) held h1 puts c1
      → IsPut (told p buffer q (take max_script (given ++ more))) held held_now puts puts_now
  none_put given more h1 c1 none same calls x =
      let all : given ≡ given ++ more = sym (ap (λ t. given ++ t) none ∙ append-nil given) in
      let is = ap (λ t. told p buffer q (take max_script t)) all in
      record { adds = same ∙ x.adds ∙ ap (append held) is; calls = omega (arith, x.calls, calls, ap length is); ends = subst EndsLine is x.ends }
