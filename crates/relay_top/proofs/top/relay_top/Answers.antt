use Rattle.std.proofs.Common.{◌≡◌, ℕ, Option, Some, None, subst, ◌∙◌}
use Rattle.bulk_laws.proofs.Unrefused.{no_line_is_refused}
use Rattle.relay_forms.specs.relay_io.Causes.{Rose}
use Rattle.relay_top.specs.Answers.{IsAnswered}
use Rattle.relay_forms.specs.Files.{Files}
use Rattle.relay_forms.specs.FormShown.{asked_shown}
use Rattle.relay_forms.specs.Words.{Asked, Form, bulk, compile, on_files}
use Rattle.relay_forms.specs.declared.status.Status.TheVariants.{Usage}
use Rattle.relay_top.proofs.Owed.{any_ends, any_script_calls, any_sink_calls, any_unopened, any_unread, any_usage, any_write_fault, owed_bulk, owed_bulk_complete, owed_bulk_part, owed_complete, owed_done, owed_faulty, owed_part, owed_read_fault, owed_refused, owed_scriptless, owed_streamed, owed_too_long, owed_whole}
use Rattle.relay_top.proofs.top.relay_top.Goals as goal

asked_same : (a b : Asked) → Some a ≡ Some b → a ≡ b
asked_same a b h = cc

some_asked : (a : Asked) → ◌≡◌ {A = Option Asked} (Some a) None → ⊥
some_asked a h = cc

pub returns-in-Some-clause-answered : goal.returns-in-Some-clause-answered
returns-in-Some-clause-answered g c = λ asked h.
    let v = Rose (g.V.Vault.faults c.args.vault.now) (g.V.Vault.faults c.answer.new.vault) in
    let s = Rose (g.S.Source.faults c.args.script.now) (g.S.Source.faults c.answer.new.script) in
    let k = Rose (g.K.Sink.faults c.args.out.now) (g.K.Sink.faults c.answer.new.out) in
    let P : Option Files → Asked → Type 0 = λ files a. IsAnswered files a c.answer.result v s k (g.V.Vault.calls c.args.vault.now) (g.V.Vault.calls c.answer.new.vault) (g.S.Source.left c.args.script.now) (g.S.Source.left c.answer.new.script) (g.S.Source.calls c.args.script.now) (g.S.Source.calls c.answer.new.script)
    (g.K.Sink.contents c.args.out.now) (g.K.Sink.contents c.answer.new.out) (g.K.Sink.calls c.args.out.now) (g.K.Sink.calls c.answer.new.out) in
    let same = asked_same _ asked (c.in-Some.ensures.asked ∙ h) in
    subst (P (g.V.Vault.files c.args.vault.now)) same c.answer.ensures.ran

pub returns-in-Some-clause-usage : goal.returns-in-Some-clause-usage
returns-in-Some-clause-usage g c =
    let v = Rose (g.V.Vault.faults c.args.vault.now) (g.V.Vault.faults c.answer.new.vault) in
    let s = Rose (g.S.Source.faults c.args.script.now) (g.S.Source.faults c.answer.new.script) in
    let k = Rose (g.K.Sink.faults c.args.out.now) (g.K.Sink.faults c.answer.new.out) in
    let none : c.answer.result ≡ Usage → ⊥ = any_usage c.answer.result s k (g.S.Source.left c.args.script.now) (g.S.Source.left c.answer.new.script) (g.S.Source.calls c.args.script.now) (g.S.Source.calls c.answer.new.script)
    (g.K.Sink.contents c.args.out.now) (g.K.Sink.contents c.answer.new.out) (g.K.Sink.calls c.args.out.now) (g.K.Sink.calls c.answer.new.out) (g.V.Vault.files c.args.vault.now) (asked_shown c.in-Some.asked) v (g.V.Vault.calls c.args.vault.now) (g.V.Vault.calls c.answer.new.vault) c.answer.ensures.ran in
    let asked_is = c.in-Some.ensures.asked in
    (λ e. absurd (none e), λ e. absurd (some_asked _ (asked_is ∙ e)))

pub returns-in-Some-clause-untouched : goal.returns-in-Some-clause-untouched
returns-in-Some-clause-untouched g c = λ e.
    let v = Rose (g.V.Vault.faults c.args.vault.now) (g.V.Vault.faults c.answer.new.vault) in
    let s = Rose (g.S.Source.faults c.args.script.now) (g.S.Source.faults c.answer.new.script) in
    let k = Rose (g.K.Sink.faults c.args.out.now) (g.K.Sink.faults c.answer.new.out) in
    let none : c.answer.result ≡ Usage → ⊥ = any_usage c.answer.result s k (g.S.Source.left c.args.script.now) (g.S.Source.left c.answer.new.script) (g.S.Source.calls c.args.script.now) (g.S.Source.calls c.answer.new.script)
    (g.K.Sink.contents c.args.out.now) (g.K.Sink.contents c.answer.new.out) (g.K.Sink.calls c.args.out.now) (g.K.Sink.calls c.answer.new.out) (g.V.Vault.files c.args.vault.now) (asked_shown c.in-Some.asked) v (g.V.Vault.calls c.args.vault.now) (g.V.Vault.calls c.answer.new.vault) c.answer.ensures.ran in
    absurd (none e)

pub returns-in-Some-clause-whole : goal.returns-in-Some-clause-whole
returns-in-Some-clause-whole g c = λ form h done.
    let v = Rose (g.V.Vault.faults c.args.vault.now) (g.V.Vault.faults c.answer.new.vault) in
    let s = Rose (g.S.Source.faults c.args.script.now) (g.S.Source.faults c.answer.new.script) in
    let k = Rose (g.K.Sink.faults c.args.out.now) (g.K.Sink.faults c.answer.new.out) in
    let asked = on_files form in
    let P : Option Files → Asked → Type 0 = λ files a. IsAnswered files a c.answer.result v s k (g.V.Vault.calls c.args.vault.now) (g.V.Vault.calls c.answer.new.vault) (g.S.Source.left c.args.script.now) (g.S.Source.left c.answer.new.script) (g.S.Source.calls c.args.script.now) (g.S.Source.calls c.answer.new.script)
    (g.K.Sink.contents c.args.out.now) (g.K.Sink.contents c.answer.new.out) (g.K.Sink.calls c.args.out.now) (g.K.Sink.calls c.answer.new.out) in
    let same = asked_same _ asked (c.in-Some.ensures.asked ∙ h) in
    let ran = subst (P (g.V.Vault.files c.args.vault.now)) same c.answer.ensures.ran in
    owed_whole c.answer.result s k (g.S.Source.left c.args.script.now) (g.S.Source.left c.answer.new.script) (g.S.Source.calls c.args.script.now) (g.S.Source.calls c.answer.new.script)
    (g.K.Sink.contents c.args.out.now) (g.K.Sink.contents c.answer.new.out) (g.K.Sink.calls c.args.out.now) (g.K.Sink.calls c.answer.new.out)
    (g.V.Vault.files c.args.vault.now) form v ran.0 done

pub returns-in-Some-clause-done : goal.returns-in-Some-clause-done
returns-in-Some-clause-done g c = λ files form project bytes h told has left done.
    let v = Rose (g.V.Vault.faults c.args.vault.now) (g.V.Vault.faults c.answer.new.vault) in
    let s = Rose (g.S.Source.faults c.args.script.now) (g.S.Source.faults c.answer.new.script) in
    let k = Rose (g.K.Sink.faults c.args.out.now) (g.K.Sink.faults c.answer.new.out) in
    let asked = on_files form in
    let P : Option Files → Asked → Type 0 = λ files a. IsAnswered files a c.answer.result v s k (g.V.Vault.calls c.args.vault.now) (g.V.Vault.calls c.answer.new.vault) (g.S.Source.left c.args.script.now) (g.S.Source.left c.answer.new.script) (g.S.Source.calls c.args.script.now) (g.S.Source.calls c.answer.new.script)
    (g.K.Sink.contents c.args.out.now) (g.K.Sink.contents c.answer.new.out) (g.K.Sink.calls c.args.out.now) (g.K.Sink.calls c.answer.new.out) in
    let same = asked_same _ asked (c.in-Some.ensures.asked ∙ h) in
    let ran = subst (P (g.V.Vault.files c.args.vault.now)) same c.answer.ensures.ran in
    owed_done c.answer.result s k (g.S.Source.left c.args.script.now) (g.S.Source.left c.answer.new.script) (g.S.Source.calls c.args.script.now) (g.S.Source.calls c.answer.new.script)
    (g.K.Sink.contents c.args.out.now) (g.K.Sink.contents c.answer.new.out) (g.K.Sink.calls c.args.out.now) (g.K.Sink.calls c.answer.new.out)
    files form v project bytes (subst (λ files. P files asked) told ran).0 has left done

pub returns-in-Some-clause-complete : goal.returns-in-Some-clause-complete
returns-in-Some-clause-complete g c = λ files form project bytes h told has left within nv ns nk.
    let v = Rose (g.V.Vault.faults c.args.vault.now) (g.V.Vault.faults c.answer.new.vault) in
    let s = Rose (g.S.Source.faults c.args.script.now) (g.S.Source.faults c.answer.new.script) in
    let k = Rose (g.K.Sink.faults c.args.out.now) (g.K.Sink.faults c.answer.new.out) in
    let asked = on_files form in
    let P : Option Files → Asked → Type 0 = λ files a. IsAnswered files a c.answer.result v s k (g.V.Vault.calls c.args.vault.now) (g.V.Vault.calls c.answer.new.vault) (g.S.Source.left c.args.script.now) (g.S.Source.left c.answer.new.script) (g.S.Source.calls c.args.script.now) (g.S.Source.calls c.answer.new.script)
    (g.K.Sink.contents c.args.out.now) (g.K.Sink.contents c.answer.new.out) (g.K.Sink.calls c.args.out.now) (g.K.Sink.calls c.answer.new.out) in
    let same = asked_same _ asked (c.in-Some.ensures.asked ∙ h) in
    let ran = subst (P (g.V.Vault.files c.args.vault.now)) same c.answer.ensures.ran in
    owed_complete c.answer.result s k (g.S.Source.left c.args.script.now) (g.S.Source.left c.answer.new.script) (g.S.Source.calls c.args.script.now) (g.S.Source.calls c.answer.new.script)
    (g.K.Sink.contents c.args.out.now) (g.K.Sink.contents c.answer.new.out) (g.K.Sink.calls c.args.out.now) (g.K.Sink.calls c.answer.new.out)
    files form v project bytes (subst (λ files. P files asked) told ran).0 has left within nv ns nk

pub returns-in-Some-clause-faulty : goal.returns-in-Some-clause-faulty
returns-in-Some-clause-faulty g c = λ files form file line column rule h told fault.
    let v = Rose (g.V.Vault.faults c.args.vault.now) (g.V.Vault.faults c.answer.new.vault) in
    let s = Rose (g.S.Source.faults c.args.script.now) (g.S.Source.faults c.answer.new.script) in
    let k = Rose (g.K.Sink.faults c.args.out.now) (g.K.Sink.faults c.answer.new.out) in
    let asked = on_files form in
    let P : Option Files → Asked → Type 0 = λ files a. IsAnswered files a c.answer.result v s k (g.V.Vault.calls c.args.vault.now) (g.V.Vault.calls c.answer.new.vault) (g.S.Source.left c.args.script.now) (g.S.Source.left c.answer.new.script) (g.S.Source.calls c.args.script.now) (g.S.Source.calls c.answer.new.script)
    (g.K.Sink.contents c.args.out.now) (g.K.Sink.contents c.answer.new.out) (g.K.Sink.calls c.args.out.now) (g.K.Sink.calls c.answer.new.out) in
    let same = asked_same _ asked (c.in-Some.ensures.asked ∙ h) in
    let ran = subst (P (g.V.Vault.files c.args.vault.now)) same c.answer.ensures.ran in
    owed_faulty c.answer.result s k (g.S.Source.left c.args.script.now) (g.S.Source.left c.answer.new.script) (g.S.Source.calls c.args.script.now) (g.S.Source.calls c.answer.new.script)
    (g.K.Sink.contents c.args.out.now) (g.K.Sink.contents c.answer.new.out) (g.K.Sink.calls c.args.out.now) (g.K.Sink.calls c.answer.new.out)
    files form v file line column rule (subst (λ files. P files asked) told ran).0 fault

pub returns-in-Some-clause-refused : goal.returns-in-Some-clause-refused
returns-in-Some-clause-refused g c = λ form h is_refused.
    let v = Rose (g.V.Vault.faults c.args.vault.now) (g.V.Vault.faults c.answer.new.vault) in
    let s = Rose (g.S.Source.faults c.args.script.now) (g.S.Source.faults c.answer.new.script) in
    let k = Rose (g.K.Sink.faults c.args.out.now) (g.K.Sink.faults c.answer.new.out) in
    let asked = on_files form in
    let P : Option Files → Asked → Type 0 = λ files a. IsAnswered files a c.answer.result v s k (g.V.Vault.calls c.args.vault.now) (g.V.Vault.calls c.answer.new.vault) (g.S.Source.left c.args.script.now) (g.S.Source.left c.answer.new.script) (g.S.Source.calls c.args.script.now) (g.S.Source.calls c.answer.new.script)
    (g.K.Sink.contents c.args.out.now) (g.K.Sink.contents c.answer.new.out) (g.K.Sink.calls c.args.out.now) (g.K.Sink.calls c.answer.new.out) in
    let same = asked_same _ asked (c.in-Some.ensures.asked ∙ h) in
    let ran = subst (P (g.V.Vault.files c.args.vault.now)) same c.answer.ensures.ran in
    owed_refused c.answer.result s k (g.S.Source.left c.args.script.now) (g.S.Source.left c.answer.new.script) (g.S.Source.calls c.args.script.now) (g.S.Source.calls c.answer.new.script)
    (g.K.Sink.contents c.args.out.now) (g.K.Sink.contents c.answer.new.out) (g.K.Sink.calls c.args.out.now) (g.K.Sink.calls c.answer.new.out)
    (g.V.Vault.files c.args.vault.now) form v ran.0 is_refused

pub returns-in-Some-clause-part : goal.returns-in-Some-clause-part
returns-in-Some-clause-part g c = λ form h.
    let v = Rose (g.V.Vault.faults c.args.vault.now) (g.V.Vault.faults c.answer.new.vault) in
    let s = Rose (g.S.Source.faults c.args.script.now) (g.S.Source.faults c.answer.new.script) in
    let k = Rose (g.K.Sink.faults c.args.out.now) (g.K.Sink.faults c.answer.new.out) in
    let asked = on_files form in
    let P : Option Files → Asked → Type 0 = λ files a. IsAnswered files a c.answer.result v s k (g.V.Vault.calls c.args.vault.now) (g.V.Vault.calls c.answer.new.vault) (g.S.Source.left c.args.script.now) (g.S.Source.left c.answer.new.script) (g.S.Source.calls c.args.script.now) (g.S.Source.calls c.answer.new.script)
    (g.K.Sink.contents c.args.out.now) (g.K.Sink.contents c.answer.new.out) (g.K.Sink.calls c.args.out.now) (g.K.Sink.calls c.answer.new.out) in
    let same = asked_same _ asked (c.in-Some.ensures.asked ∙ h) in
    let ran = subst (P (g.V.Vault.files c.args.vault.now)) same c.answer.ensures.ran in
    owed_part c.answer.result s k (g.S.Source.left c.args.script.now) (g.S.Source.left c.answer.new.script) (g.S.Source.calls c.args.script.now) (g.S.Source.calls c.answer.new.script)
    (g.K.Sink.contents c.args.out.now) (g.K.Sink.contents c.answer.new.out) (g.K.Sink.calls c.args.out.now) (g.K.Sink.calls c.answer.new.out)
    (g.V.Vault.files c.args.vault.now) form v ran.0

pub returns-in-Some-clause-streamed : goal.returns-in-Some-clause-streamed
returns-in-Some-clause-streamed g c = λ form h cut.
    let v = Rose (g.V.Vault.faults c.args.vault.now) (g.V.Vault.faults c.answer.new.vault) in
    let s = Rose (g.S.Source.faults c.args.script.now) (g.S.Source.faults c.answer.new.script) in
    let k = Rose (g.K.Sink.faults c.args.out.now) (g.K.Sink.faults c.answer.new.out) in
    let asked = on_files form in
    let P : Option Files → Asked → Type 0 = λ files a. IsAnswered files a c.answer.result v s k (g.V.Vault.calls c.args.vault.now) (g.V.Vault.calls c.answer.new.vault) (g.S.Source.left c.args.script.now) (g.S.Source.left c.answer.new.script) (g.S.Source.calls c.args.script.now) (g.S.Source.calls c.answer.new.script)
    (g.K.Sink.contents c.args.out.now) (g.K.Sink.contents c.answer.new.out) (g.K.Sink.calls c.args.out.now) (g.K.Sink.calls c.answer.new.out) in
    let same = asked_same _ asked (c.in-Some.ensures.asked ∙ h) in
    let ran = subst (P (g.V.Vault.files c.args.vault.now)) same c.answer.ensures.ran in
    owed_streamed c.answer.result s k (g.S.Source.left c.args.script.now) (g.S.Source.left c.answer.new.script) (g.S.Source.calls c.args.script.now) (g.S.Source.calls c.answer.new.script)
    (g.K.Sink.contents c.args.out.now) (g.K.Sink.contents c.answer.new.out) (g.K.Sink.calls c.args.out.now) (g.K.Sink.calls c.answer.new.out)
    (g.V.Vault.files c.args.vault.now) form v ran.0 cut

pub returns-in-Some-clause-too_long : goal.returns-in-Some-clause-too_long
returns-in-Some-clause-too_long g c = λ form h.
    let v = Rose (g.V.Vault.faults c.args.vault.now) (g.V.Vault.faults c.answer.new.vault) in
    let s = Rose (g.S.Source.faults c.args.script.now) (g.S.Source.faults c.answer.new.script) in
    let k = Rose (g.K.Sink.faults c.args.out.now) (g.K.Sink.faults c.answer.new.out) in
    let asked = on_files form in
    let P : Option Files → Asked → Type 0 = λ files a. IsAnswered files a c.answer.result v s k (g.V.Vault.calls c.args.vault.now) (g.V.Vault.calls c.answer.new.vault) (g.S.Source.left c.args.script.now) (g.S.Source.left c.answer.new.script) (g.S.Source.calls c.args.script.now) (g.S.Source.calls c.answer.new.script)
    (g.K.Sink.contents c.args.out.now) (g.K.Sink.contents c.answer.new.out) (g.K.Sink.calls c.args.out.now) (g.K.Sink.calls c.answer.new.out) in
    let same = asked_same _ asked (c.in-Some.ensures.asked ∙ h) in
    let ran = subst (P (g.V.Vault.files c.args.vault.now)) same c.answer.ensures.ran in
    owed_too_long c.answer.result s k (g.S.Source.left c.args.script.now) (g.S.Source.left c.answer.new.script) (g.S.Source.calls c.args.script.now) (g.S.Source.calls c.answer.new.script)
    (g.K.Sink.contents c.args.out.now) (g.K.Sink.contents c.answer.new.out) (g.K.Sink.calls c.args.out.now) (g.K.Sink.calls c.answer.new.out)
    (g.V.Vault.files c.args.vault.now) form v ran.0

pub returns-in-Some-clause-read_fault : goal.returns-in-Some-clause-read_fault
returns-in-Some-clause-read_fault g c = λ form h fault.
    let v = Rose (g.V.Vault.faults c.args.vault.now) (g.V.Vault.faults c.answer.new.vault) in
    let s = Rose (g.S.Source.faults c.args.script.now) (g.S.Source.faults c.answer.new.script) in
    let k = Rose (g.K.Sink.faults c.args.out.now) (g.K.Sink.faults c.answer.new.out) in
    let asked = on_files form in
    let P : Option Files → Asked → Type 0 = λ files a. IsAnswered files a c.answer.result v s k (g.V.Vault.calls c.args.vault.now) (g.V.Vault.calls c.answer.new.vault) (g.S.Source.left c.args.script.now) (g.S.Source.left c.answer.new.script) (g.S.Source.calls c.args.script.now) (g.S.Source.calls c.answer.new.script)
    (g.K.Sink.contents c.args.out.now) (g.K.Sink.contents c.answer.new.out) (g.K.Sink.calls c.args.out.now) (g.K.Sink.calls c.answer.new.out) in
    let same = asked_same _ asked (c.in-Some.ensures.asked ∙ h) in
    let ran = subst (P (g.V.Vault.files c.args.vault.now)) same c.answer.ensures.ran in
    owed_read_fault c.answer.result s k (g.S.Source.left c.args.script.now) (g.S.Source.left c.answer.new.script) (g.S.Source.calls c.args.script.now) (g.S.Source.calls c.answer.new.script)
    (g.K.Sink.contents c.args.out.now) (g.K.Sink.contents c.answer.new.out) (g.K.Sink.calls c.args.out.now) (g.K.Sink.calls c.answer.new.out)
    (g.V.Vault.files c.args.vault.now) form v ran.0 fault

pub returns-in-Some-clause-vault_calls : goal.returns-in-Some-clause-vault_calls
returns-in-Some-clause-vault_calls g c = λ form h.
    let v = Rose (g.V.Vault.faults c.args.vault.now) (g.V.Vault.faults c.answer.new.vault) in
    let s = Rose (g.S.Source.faults c.args.script.now) (g.S.Source.faults c.answer.new.script) in
    let k = Rose (g.K.Sink.faults c.args.out.now) (g.K.Sink.faults c.answer.new.out) in
    let asked = on_files form in
    let P : Option Files → Asked → Type 0 = λ files a. IsAnswered files a c.answer.result v s k (g.V.Vault.calls c.args.vault.now) (g.V.Vault.calls c.answer.new.vault) (g.S.Source.left c.args.script.now) (g.S.Source.left c.answer.new.script) (g.S.Source.calls c.args.script.now) (g.S.Source.calls c.answer.new.script)
    (g.K.Sink.contents c.args.out.now) (g.K.Sink.contents c.answer.new.out) (g.K.Sink.calls c.args.out.now) (g.K.Sink.calls c.answer.new.out) in
    let same = asked_same _ asked (c.in-Some.ensures.asked ∙ h) in
    let ran = subst (P (g.V.Vault.files c.args.vault.now)) same c.answer.ensures.ran in
    ran.1

pub returns-in-Some-clause-unread : goal.returns-in-Some-clause-unread
returns-in-Some-clause-unread g c = λ is_refused.
    let v = Rose (g.V.Vault.faults c.args.vault.now) (g.V.Vault.faults c.answer.new.vault) in
    let s = Rose (g.S.Source.faults c.args.script.now) (g.S.Source.faults c.answer.new.script) in
    let k = Rose (g.K.Sink.faults c.args.out.now) (g.K.Sink.faults c.answer.new.out) in
    any_unread c.answer.result s k (g.S.Source.left c.args.script.now) (g.S.Source.left c.answer.new.script) (g.S.Source.calls c.args.script.now) (g.S.Source.calls c.answer.new.script)
    (g.K.Sink.contents c.args.out.now) (g.K.Sink.contents c.answer.new.out) (g.K.Sink.calls c.args.out.now) (g.K.Sink.calls c.answer.new.out)
    (g.V.Vault.files c.args.vault.now) (asked_shown c.in-Some.asked) v (g.V.Vault.calls c.args.vault.now) (g.V.Vault.calls c.answer.new.vault) c.answer.ensures.ran is_refused

pub returns-in-Some-clause-unopened : goal.returns-in-Some-clause-unopened
returns-in-Some-clause-unopened g c = λ fault none.
    let v = Rose (g.V.Vault.faults c.args.vault.now) (g.V.Vault.faults c.answer.new.vault) in
    let s = Rose (g.S.Source.faults c.args.script.now) (g.S.Source.faults c.answer.new.script) in
    let k = Rose (g.K.Sink.faults c.args.out.now) (g.K.Sink.faults c.answer.new.out) in
    any_unopened c.answer.result s k (g.S.Source.left c.args.script.now) (g.S.Source.left c.answer.new.script) (g.S.Source.calls c.args.script.now) (g.S.Source.calls c.answer.new.script)
    (g.K.Sink.contents c.args.out.now) (g.K.Sink.contents c.answer.new.out) (g.K.Sink.calls c.args.out.now) (g.K.Sink.calls c.answer.new.out)
    (g.V.Vault.files c.args.vault.now) (asked_shown c.in-Some.asked) v (g.V.Vault.calls c.args.vault.now) (g.V.Vault.calls c.answer.new.vault) c.answer.ensures.ran fault none

pub returns-in-Some-clause-ends : goal.returns-in-Some-clause-ends
returns-in-Some-clause-ends g c =
    let v = Rose (g.V.Vault.faults c.args.vault.now) (g.V.Vault.faults c.answer.new.vault) in
    let s = Rose (g.S.Source.faults c.args.script.now) (g.S.Source.faults c.answer.new.script) in
    let k = Rose (g.K.Sink.faults c.args.out.now) (g.K.Sink.faults c.answer.new.out) in
    any_ends c.answer.result s k (g.S.Source.left c.args.script.now) (g.S.Source.left c.answer.new.script) (g.S.Source.calls c.args.script.now) (g.S.Source.calls c.answer.new.script)
    (g.K.Sink.contents c.args.out.now) (g.K.Sink.contents c.answer.new.out) (g.K.Sink.calls c.args.out.now) (g.K.Sink.calls c.answer.new.out)
    (g.V.Vault.files c.args.vault.now) (asked_shown c.in-Some.asked) v (g.V.Vault.calls c.args.vault.now) (g.V.Vault.calls c.answer.new.vault) c.answer.ensures.ran

pub returns-in-Some-clause-script_calls : goal.returns-in-Some-clause-script_calls
returns-in-Some-clause-script_calls g c =
    let v = Rose (g.V.Vault.faults c.args.vault.now) (g.V.Vault.faults c.answer.new.vault) in
    let s = Rose (g.S.Source.faults c.args.script.now) (g.S.Source.faults c.answer.new.script) in
    let k = Rose (g.K.Sink.faults c.args.out.now) (g.K.Sink.faults c.answer.new.out) in
    any_script_calls c.answer.result s k (g.S.Source.left c.args.script.now) (g.S.Source.left c.answer.new.script) (g.S.Source.calls c.args.script.now) (g.S.Source.calls c.answer.new.script)
    (g.K.Sink.contents c.args.out.now) (g.K.Sink.contents c.answer.new.out) (g.K.Sink.calls c.args.out.now) (g.K.Sink.calls c.answer.new.out)
    (g.V.Vault.files c.args.vault.now) (asked_shown c.in-Some.asked) v (g.V.Vault.calls c.args.vault.now) (g.V.Vault.calls c.answer.new.vault) c.answer.ensures.ran

pub returns-in-Some-clause-sink_calls : goal.returns-in-Some-clause-sink_calls
returns-in-Some-clause-sink_calls g c =
    let v = Rose (g.V.Vault.faults c.args.vault.now) (g.V.Vault.faults c.answer.new.vault) in
    let s = Rose (g.S.Source.faults c.args.script.now) (g.S.Source.faults c.answer.new.script) in
    let k = Rose (g.K.Sink.faults c.args.out.now) (g.K.Sink.faults c.answer.new.out) in
    any_sink_calls c.answer.result s k (g.S.Source.left c.args.script.now) (g.S.Source.left c.answer.new.script) (g.S.Source.calls c.args.script.now) (g.S.Source.calls c.answer.new.script)
    (g.K.Sink.contents c.args.out.now) (g.K.Sink.contents c.answer.new.out) (g.K.Sink.calls c.args.out.now) (g.K.Sink.calls c.answer.new.out)
    (g.V.Vault.files c.args.vault.now) (asked_shown c.in-Some.asked) v (g.V.Vault.calls c.args.vault.now) (g.V.Vault.calls c.answer.new.vault) c.answer.ensures.ran

pub returns-in-Some-clause-write_fault : goal.returns-in-Some-clause-write_fault
returns-in-Some-clause-write_fault g c = λ fault.
    let v = Rose (g.V.Vault.faults c.args.vault.now) (g.V.Vault.faults c.answer.new.vault) in
    let s = Rose (g.S.Source.faults c.args.script.now) (g.S.Source.faults c.answer.new.script) in
    let k = Rose (g.K.Sink.faults c.args.out.now) (g.K.Sink.faults c.answer.new.out) in
    any_write_fault c.answer.result s k (g.S.Source.left c.args.script.now) (g.S.Source.left c.answer.new.script) (g.S.Source.calls c.args.script.now) (g.S.Source.calls c.answer.new.script)
    (g.K.Sink.contents c.args.out.now) (g.K.Sink.contents c.answer.new.out) (g.K.Sink.calls c.args.out.now) (g.K.Sink.calls c.answer.new.out)
    (g.V.Vault.files c.args.vault.now) (asked_shown c.in-Some.asked) v (g.V.Vault.calls c.args.vault.now) (g.V.Vault.calls c.answer.new.vault) c.answer.ensures.ran fault

pub returns-in-Some-clause-compile_unread : goal.returns-in-Some-clause-compile_unread
returns-in-Some-clause-compile_unread g c = λ schema documents h.
    let v = Rose (g.V.Vault.faults c.args.vault.now) (g.V.Vault.faults c.answer.new.vault) in
    let s = Rose (g.S.Source.faults c.args.script.now) (g.S.Source.faults c.answer.new.script) in
    let k = Rose (g.K.Sink.faults c.args.out.now) (g.K.Sink.faults c.answer.new.out) in
    let asked = on_files (compile schema documents) in
    let P : Option Files → Asked → Type 0 = λ files a. IsAnswered files a c.answer.result v s k (g.V.Vault.calls c.args.vault.now) (g.V.Vault.calls c.answer.new.vault) (g.S.Source.left c.args.script.now) (g.S.Source.left c.answer.new.script) (g.S.Source.calls c.args.script.now) (g.S.Source.calls c.answer.new.script)
    (g.K.Sink.contents c.args.out.now) (g.K.Sink.contents c.answer.new.out) (g.K.Sink.calls c.args.out.now) (g.K.Sink.calls c.answer.new.out) in
    let same = asked_same _ asked (c.in-Some.ensures.asked ∙ h) in
    let ran = subst (P (g.V.Vault.files c.args.vault.now)) same c.answer.ensures.ran in
    owed_scriptless c.answer.result s k (g.S.Source.left c.args.script.now) (g.S.Source.left c.answer.new.script) (g.S.Source.calls c.args.script.now) (g.S.Source.calls c.answer.new.script)
    (g.K.Sink.contents c.args.out.now) (g.K.Sink.contents c.answer.new.out) (g.K.Sink.calls c.args.out.now) (g.K.Sink.calls c.answer.new.out)
    (g.V.Vault.files c.args.vault.now) schema documents v ran.0

pub returns-in-Some-clause-bulk_unread : goal.returns-in-Some-clause-bulk_unread
returns-in-Some-clause-bulk_unread g c = λ seed count h.
    let v = Rose (g.V.Vault.faults c.args.vault.now) (g.V.Vault.faults c.answer.new.vault) in
    let s = Rose (g.S.Source.faults c.args.script.now) (g.S.Source.faults c.answer.new.script) in
    let k = Rose (g.K.Sink.faults c.args.out.now) (g.K.Sink.faults c.answer.new.out) in
    let asked = bulk seed count in
    let P : Option Files → Asked → Type 0 = λ files a. IsAnswered files a c.answer.result v s k (g.V.Vault.calls c.args.vault.now) (g.V.Vault.calls c.answer.new.vault) (g.S.Source.left c.args.script.now) (g.S.Source.left c.answer.new.script) (g.S.Source.calls c.args.script.now) (g.S.Source.calls c.answer.new.script)
    (g.K.Sink.contents c.args.out.now) (g.K.Sink.contents c.answer.new.out) (g.K.Sink.calls c.args.out.now) (g.K.Sink.calls c.answer.new.out) in
    let same = asked_same _ asked (c.in-Some.ensures.asked ∙ h) in
    let ran = subst (P (g.V.Vault.files c.args.vault.now)) same c.answer.ensures.ran in
    (ran.unopened, ran.unread.0, ran.unread.1)

pub returns-in-Some-clause-bulk_answers : goal.returns-in-Some-clause-bulk_answers
returns-in-Some-clause-bulk_answers g c = λ seed count h.
    let v = Rose (g.V.Vault.faults c.args.vault.now) (g.V.Vault.faults c.answer.new.vault) in
    let s = Rose (g.S.Source.faults c.args.script.now) (g.S.Source.faults c.answer.new.script) in
    let k = Rose (g.K.Sink.faults c.args.out.now) (g.K.Sink.faults c.answer.new.out) in
    let asked = bulk seed count in
    let P : Option Files → Asked → Type 0 = λ files a. IsAnswered files a c.answer.result v s k (g.V.Vault.calls c.args.vault.now) (g.V.Vault.calls c.answer.new.vault) (g.S.Source.left c.args.script.now) (g.S.Source.left c.answer.new.script) (g.S.Source.calls c.args.script.now) (g.S.Source.calls c.answer.new.script)
    (g.K.Sink.contents c.args.out.now) (g.K.Sink.contents c.answer.new.out) (g.K.Sink.calls c.args.out.now) (g.K.Sink.calls c.answer.new.out) in
    let same = asked_same _ asked (c.in-Some.ensures.asked ∙ h) in
    let ran = subst (P (g.V.Vault.files c.args.vault.now)) same c.answer.ensures.ran in
    ran.answers

pub returns-in-Some-clause-bulk_done : goal.returns-in-Some-clause-bulk_done
returns-in-Some-clause-bulk_done g c = λ seed count h done.
    let v = Rose (g.V.Vault.faults c.args.vault.now) (g.V.Vault.faults c.answer.new.vault) in
    let s = Rose (g.S.Source.faults c.args.script.now) (g.S.Source.faults c.answer.new.script) in
    let k = Rose (g.K.Sink.faults c.args.out.now) (g.K.Sink.faults c.answer.new.out) in
    let asked = bulk seed count in
    let P : Option Files → Asked → Type 0 = λ files a. IsAnswered files a c.answer.result v s k (g.V.Vault.calls c.args.vault.now) (g.V.Vault.calls c.answer.new.vault) (g.S.Source.left c.args.script.now) (g.S.Source.left c.answer.new.script) (g.S.Source.calls c.args.script.now) (g.S.Source.calls c.answer.new.script)
    (g.K.Sink.contents c.args.out.now) (g.K.Sink.contents c.answer.new.out) (g.K.Sink.calls c.args.out.now) (g.K.Sink.calls c.answer.new.out) in
    let same = asked_same _ asked (c.in-Some.ensures.asked ∙ h) in
    let ran = subst (P (g.V.Vault.files c.args.vault.now)) same c.answer.ensures.ran in (
      owed_bulk c.answer.result s k (g.S.Source.left c.args.script.now) (g.S.Source.left c.answer.new.script) (g.S.Source.calls c.args.script.now) (g.S.Source.calls c.answer.new.script)
          (g.K.Sink.contents c.args.out.now) (g.K.Sink.contents c.answer.new.out) (g.K.Sink.calls c.args.out.now) (g.K.Sink.calls c.answer.new.out)
          seed count (g.V.Vault.calls c.args.vault.now) (g.V.Vault.calls c.answer.new.vault) ran done,
      (no_line_is_refused seed count).0,
    )

pub returns-in-Some-clause-bulk_complete : goal.returns-in-Some-clause-bulk_complete
returns-in-Some-clause-bulk_complete g c = λ seed count h none.
    let v = Rose (g.V.Vault.faults c.args.vault.now) (g.V.Vault.faults c.answer.new.vault) in
    let s = Rose (g.S.Source.faults c.args.script.now) (g.S.Source.faults c.answer.new.script) in
    let k = Rose (g.K.Sink.faults c.args.out.now) (g.K.Sink.faults c.answer.new.out) in
    let asked = bulk seed count in
    let P : Option Files → Asked → Type 0 = λ files a. IsAnswered files a c.answer.result v s k (g.V.Vault.calls c.args.vault.now) (g.V.Vault.calls c.answer.new.vault) (g.S.Source.left c.args.script.now) (g.S.Source.left c.answer.new.script) (g.S.Source.calls c.args.script.now) (g.S.Source.calls c.answer.new.script)
    (g.K.Sink.contents c.args.out.now) (g.K.Sink.contents c.answer.new.out) (g.K.Sink.calls c.args.out.now) (g.K.Sink.calls c.answer.new.out) in
    let same = asked_same _ asked (c.in-Some.ensures.asked ∙ h) in
    let ran = subst (P (g.V.Vault.files c.args.vault.now)) same c.answer.ensures.ran in
    owed_bulk_complete c.answer.result s k (g.S.Source.left c.args.script.now) (g.S.Source.left c.answer.new.script) (g.S.Source.calls c.args.script.now) (g.S.Source.calls c.answer.new.script)
    (g.K.Sink.contents c.args.out.now) (g.K.Sink.contents c.answer.new.out) (g.K.Sink.calls c.args.out.now) (g.K.Sink.calls c.answer.new.out)
    seed count (g.V.Vault.calls c.args.vault.now) (g.V.Vault.calls c.answer.new.vault) ran none

pub returns-in-Some-clause-bulk_part : goal.returns-in-Some-clause-bulk_part
returns-in-Some-clause-bulk_part g c = λ seed count h.
    let v = Rose (g.V.Vault.faults c.args.vault.now) (g.V.Vault.faults c.answer.new.vault) in
    let s = Rose (g.S.Source.faults c.args.script.now) (g.S.Source.faults c.answer.new.script) in
    let k = Rose (g.K.Sink.faults c.args.out.now) (g.K.Sink.faults c.answer.new.out) in
    let asked = bulk seed count in
    let P : Option Files → Asked → Type 0 = λ files a. IsAnswered files a c.answer.result v s k (g.V.Vault.calls c.args.vault.now) (g.V.Vault.calls c.answer.new.vault) (g.S.Source.left c.args.script.now) (g.S.Source.left c.answer.new.script) (g.S.Source.calls c.args.script.now) (g.S.Source.calls c.answer.new.script)
    (g.K.Sink.contents c.args.out.now) (g.K.Sink.contents c.answer.new.out) (g.K.Sink.calls c.args.out.now) (g.K.Sink.calls c.answer.new.out) in
    let same = asked_same _ asked (c.in-Some.ensures.asked ∙ h) in
    let ran = subst (P (g.V.Vault.files c.args.vault.now)) same c.answer.ensures.ran in
    owed_bulk_part c.answer.result s k (g.S.Source.left c.args.script.now) (g.S.Source.left c.answer.new.script) (g.S.Source.calls c.args.script.now) (g.S.Source.calls c.answer.new.script)
    (g.K.Sink.contents c.args.out.now) (g.K.Sink.contents c.answer.new.out) (g.K.Sink.calls c.args.out.now) (g.K.Sink.calls c.answer.new.out)
    seed count (g.V.Vault.calls c.args.vault.now) (g.V.Vault.calls c.answer.new.vault) ran
