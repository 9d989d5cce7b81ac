use Rattle.std.proofs.Common.{map, List, ℕ, Bor, arith}
use Rattle.relay_io.specs.Causes.{Rose}
use Rattle.relay_forms.proofs.FileLaws.{schema_closed, documents_closed, all_read}
use Rattle.relay_forms.proofs.files.read_files.Goals as goal

pub returns-in-Err-clause-closed : goal.returns-in-Err-clause-closed
returns-in-Err-clause-closed g c =
    schema_closed c.args.schema.now (map (λ (w : Bor (List ℕ)). w.now) c.args.documents.now) (g.V.Vault.files c.args.vault.now) c.in-Err.closed
    (Rose (g.V.Vault.faults c.args.vault.now) (g.V.Vault.faults c.read_file.new.vault)) c.in-Err.ensures.closed

pub returns-in-Err-read_documents-clause-closed : goal.returns-in-Err-read_documents-clause-closed
returns-in-Err-read_documents-clause-closed g c =
    let later = c.read_file.ensures.later in
    documents_closed c.args.schema.now (map (λ (w : Bor (List ℕ)). w.now) c.args.documents.now) c.in-Ok.file (g.V.Vault.files c.args.vault.now) (g.V.Vault.files c.read_file.new.vault)
    c.in-Err-read_documents.closed
    (Rose (g.V.Vault.faults c.read_file.new.vault) (g.V.Vault.faults c.read_documents.new.vault)) (Rose (g.V.Vault.faults c.args.vault.now) (g.V.Vault.faults c.read_documents.new.vault))
    c.read_file.ensures.same c.in-Ok.ensures.bytes c.in-Err-read_documents.ensures.closed (λ r. omega (arith, later, r))

pub returns-in-Ok-read_documents-clause-files : goal.returns-in-Ok-read_documents-clause-files
returns-in-Ok-read_documents-clause-files g c =
    all_read c.args.schema.now (map (λ (w : Bor (List ℕ)). w.now) c.args.documents.now) c.in-Ok.file (g.V.Vault.files c.args.vault.now) (g.V.Vault.files c.read_file.new.vault)
    c.in-Ok-read_documents.files.items c.read_file.ensures.same c.in-Ok.ensures.bytes c.in-Ok-read_documents.ensures.files
