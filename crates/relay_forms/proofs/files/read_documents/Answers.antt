use Rattle.std.proofs.Common.{rules, ◌≡◌, ◌++◌, ◌∷◌, [], length, drop, ap, ◌∙◌, arith}
use Rattle.std.proofs.lemmas.List.{drop_all}
use Rattle.relay_io.specs.Causes.{Rose}
use Rattle.relay_forms.proofs.FileLaws.{keeps_more, next_closed, keeps_all, nows}
use Rattle.relay_forms.proofs.files.read_documents.Goals as goal

pub returns-in-Err-clause-closed : goal.returns-in-Err-clause-closed
returns-in-Err-clause-closed g c =
    let later = c.names.invariant.later in
    next_closed (g.V.Vault.files c.args.vault.now) (g.V.Vault.files c.names.vault) c.args.schema c.args.names.now c.names.left c.names.name-index _ c.names.invariant.same c.names-test.true
    c.names.files.items c.in-Err.closed
    (Rose (g.V.Vault.faults c.names.vault) (g.V.Vault.faults c.read_file.new.vault)) (Rose (g.V.Vault.faults c.args.vault.now) (g.V.Vault.faults c.read_file.new.vault))
    c.names.invariant.keeps c.in-Err.ensures.closed (λ r. omega (arith, later, r))

pub names-preserved : goal.names-preserved
names-preserved g c =
    let pushed : c.push-in-names.new.self.items ≡ c.names.files.items ++ c.in-Ok.file ∷ [] = search rules in
    record {
      same = c.in-Ok.ensures.same ∙ c.names.invariant.same;
      keeps =
          keeps_more (g.V.Vault.files c.args.vault.now) (g.V.Vault.files c.names.vault) c.args.schema c.args.names.now c.names.left c.names.name-index _ c.names.invariant.same c.names-test.true
          c.names.files.items c.push-in-names.new.self.items (length c.as_bytes-taken.result.now) c.in-Ok.file c.names.invariant.keeps c.in-Ok.ensures.bytes pushed
          (ap length c.as_bytes-taken.ensures.value);
      later = let first = c.names.invariant.later in let then = c.in-Ok.ensures.later in omega (arith, first, then);
      calls = let before = c.names.invariant.calls in let one = c.in-Ok.ensures.counted in omega (arith, before, one);
    }

pub returns-clause-files : goal.returns-clause-files
returns-clause-files g c =
    let none = drop_all c.names.name-index c.args.names.now c.names-test.false in
    keeps_all (g.V.Vault.files c.args.vault.now) c.args.schema (nows c.args.names.now) c.names.files.items c.names.left (nows (drop c.names.name-index c.args.names.now)) (ap nows none)
    c.names.invariant.keeps
