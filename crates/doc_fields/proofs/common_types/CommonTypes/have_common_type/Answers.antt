-- A pair that is known, one that has no type in common, and one that has.
use Rattle.std.proofs.Common.{sym, arith}
use Rattle.doc_fields.proofs.common_types.CommonTypes.have_common_type.Goals as goal

pub returns-then-knows-clause-answer : goal.returns-then-knows-clause-answer
returns-then-knows-clause-answer c = λ common. sym (c.knows.ensures c.args.schema.now common (grind arith))
