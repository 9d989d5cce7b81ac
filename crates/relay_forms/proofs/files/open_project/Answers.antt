use Rattle.std.proofs.Common.{◌∷◌, map, length, List, ℕ, Bor, ap, subst, arith}
use Rattle.plan_project.specs.Verdicts.{HaveTheFault}
use Rattle.std.proofs.lemmas.List.{length-map}
use Rattle.relay_io.specs.Causes.{Rose}
use Rattle.relay_forms.proofs.FileLaws.{as_many_files}
use Rattle.relay_forms.proofs.Opening.{closed_unread, project_opened, fault_opened}
use Rattle.relay_forms.proofs.files.open_project.Goals as goal

pub returns-in-Err-clause-closed : goal.returns-in-Err-clause-closed
returns-in-Err-clause-closed g c = λ form named.
    closed_unread form (c.args.schema.now ∷ map (λ (w : Bor (List ℕ)). w.now) c.args.documents.now) named (g.V.Vault.files c.args.vault.now) c.in-Err.closed
    (Rose (g.V.Vault.faults c.args.vault.now) (g.V.Vault.faults c.read_files.new.vault)) c.in-Err.ensures.closed

pub returns-in-Ok-compile-clause-project : goal.returns-in-Ok-compile-clause-project
returns-in-Ok-compile-clause-project g c = λ form named.
    project_opened form (c.args.schema.now ∷ map (λ (w : Bor (List ℕ)). w.now) c.args.documents.now) named (g.V.Vault.files c.args.vault.now) c.deref.result.now c.in-Ok.files.items
    c.in-Ok-compile.project c.deref.ensures.value c.in-Ok.ensures.files c.in-Ok-compile.ensures.project

pub returns-in-Err-Refused-clause-closed : goal.returns-in-Err-Refused-clause-closed
returns-in-Err-Refused-clause-closed g c = λ form named.
    fault_opened form (c.args.schema.now ∷ map (λ (w : Bor (List ℕ)). w.now) c.args.documents.now) named (g.V.Vault.files c.args.vault.now) c.deref.result.now c.in-Ok.files.items
    c.in-Err-Refused.fault c.deref.ensures.value c.in-Ok.ensures.files (subst (HaveTheFault c.deref.result.now) c.in-Err-Refused.field-0-is c.in-Err-Refused.ensures.fault)

pub compile-requires-clause-least : goal.compile-requires-clause-least
compile-requires-clause-least g c =
    let names = map (λ (w : Bor (List ℕ)). w.now) c.args.documents.now in
    let all = as_many_files (g.V.Vault.files c.args.vault.now) (c.args.schema.now ∷ names) c.in-Ok.files.items c.in-Ok.ensures.files in
    omega (arith, all, length-map c.args.documents.now (λ (w : Bor (List ℕ)). w.now), ap length c.deref.ensures.value, c.requires.least)

pub compile-requires-clause-most : goal.compile-requires-clause-most
compile-requires-clause-most g c =
    let names = map (λ (w : Bor (List ℕ)). w.now) c.args.documents.now in
    let all = as_many_files (g.V.Vault.files c.args.vault.now) (c.args.schema.now ∷ names) c.in-Ok.files.items c.in-Ok.ensures.files in
    omega (arith, all, length-map c.args.documents.now (λ (w : Bor (List ℕ)). w.now), ap length c.deref.ensures.value, c.requires.most)
