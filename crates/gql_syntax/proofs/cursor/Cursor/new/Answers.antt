use Rattle.std.proofs.Common.{ap, arith}
use Rattle.gql_syntax.proofs.Sources.{gives_source, in_order}
use Rattle.gql_syntax.proofs.cursor.Cursor.new.Goals as goal

pub invariant_of-result : goal.invariant_of-result
invariant_of-result c =
    let s = gives_source c.next-next.result c.next-next.new.self c.new-lexer.result c.next-next.ensures.gives in
    let t = ap (λ l. l.text) c.new.ensures in
    let a = ap (λ l. l.at) c.new.ensures in
    (t, rw (s, a) (in_order c.args.text.now 0 0 c.new-lexer.result (omega arith) c.new-lexer.ensures.describes))
