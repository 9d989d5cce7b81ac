-- A pair that is known.
use Rattle.std.proofs.Common.{◌≡◌, true, sym, ◌∙◌, arith}
use Rattle.doc_fields.proofs.CommonSteps.{lent_common}
use Rattle.doc_fields.proofs.common_types.CommonTypes.knows.Goals as goal

pub returns-in-Some : goal.returns-in-Some
returns-in-Some c = λ defs common yes.
    let w = lent_common defs c.args.of.now c.get.result _ c.in-Some.known c.in-Some.is c.get.ensures.value (common c.args.of.now) in
    let seen : c.contains.result ≡ true = grind (arith, yes) in
    w.2 c.args.on.now (sym (c.contains.ensures w.0 w.1) ∙ seen)
