use Rattle.std.proofs.Common.{arith, sym, ◌∙◌}
use Rattle.gql_lex.proofs.Margins.{filled_more, filled_stop}
use Rattle.gql_lex.proofs.indents.filled_len.Goals as goal

pub returns-then-not-is_blank-clause-is : goal.returns-then-not-is_blank-clause-is
returns-then-not-is_blank-clause-is c = filled_stop c.args.lines.now c.end.len _ c.end-test.true c.end.invariant.within (sym c.is_blank.ensures ∙ c.if-not-is_blank.true) c.end.invariant.rest

pub end-preserved : goal.end-preserved
end-preserved c = record {
  within = omega (arith, c.end.invariant.within);
  rest = filled_more c.args.lines.now c.end.len _ c.end-test.true c.end.invariant.within (sym c.is_blank.ensures ∙ c.if-not-is_blank.false) c.end.invariant.rest;
}
