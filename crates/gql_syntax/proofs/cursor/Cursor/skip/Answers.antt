use Rattle.std.proofs.Common.{◌≡◌, sym, ap, arith}
use Rattle.std.proofs.lemmas.Grind.{common_steps}
use Rattle.gql_syntax.proofs.Laying.{laid_last}
use Rattle.gql_syntax.proofs.Sources.{last_ok, last_err}
use Rattle.gql_syntax.proofs.cursor.Cursor.skip.Goals as goal

pub returns-in-Ok-None-clause-places : goal.returns-in-Ok-None-clause-places
returns-in-Ok-None-clause-places c =
    let e : c.args.self.now.source ≡ _ = ap (λ v. v.source) (sym c.self.view_is) in
    λ ns. laid_last c.args.nodes ns c.args.self.now (rw e (last_ok c.self.inside.next c.self.inside.lexer (grind (arith, common_steps))))

pub returns-in-Err-clause-places : goal.returns-in-Err-clause-places
returns-in-Err-clause-places c =
    let e : c.args.self.now.source ≡ _ = ap (λ v. v.source) (sym c.self.view_is) in
    λ ns. laid_last c.args.nodes ns c.args.self.now (rw e (last_err c.self.inside.next c.self.inside.lexer c.in-Err.field-0 c.in-Err.is))
