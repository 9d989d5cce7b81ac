use Rattle.std.proofs.Common.{◌≡◌, ◌≤◌, ◌+◌, drop}
use Rattle.relay_forms.proofs.FileLaws.{KeepsFiles, nows}
use Rattle.relay_forms.proofs.files.read_documents.Given as goal

abbrev pub invariant-names : goal.invariant-names
invariant-names g l = record {
  same : g.V.Vault.files l.vault ≡ g.V.Vault.files l.fn.vault;
  keeps : KeepsFiles (g.V.Vault.files l.fn.vault) l.fn.schema (nows l.names) l.files.items l.left (nows (drop l.name-index l.names));
  later : g.V.Vault.faults l.fn.vault ≤ g.V.Vault.faults l.vault;
  calls : g.V.Vault.calls l.vault ≤ g.V.Vault.calls l.fn.vault + l.name-index;
}
