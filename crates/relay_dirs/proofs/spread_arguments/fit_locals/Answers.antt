-- One that fits, and one that does not.
use Rattle.std.proofs.Common.{◌≡◌, Option, ap, sym, ◌∙◌, arith}
use Rattle.doc_uses.specs.doc_sites.SitesView.{argument_of}
use Rattle.gql_syntax.specs.gql_ast.ValueView.{value_of}
use Rattle.relay_marks.specs.Locals.{Local}
use Rattle.relay_rules.specs.Spreads.{fits_found, fits_local}
use Rattle.relay_dirs.proofs.SpreadSteps.{all_end, all_next, all_stop}
use Rattle.relay_dirs.proofs.spread_arguments.fit_locals.Goals as goal

pub returns-then-not-fits : goal.returns-then-not-fits
returns-then-not-fits c = λ ls s.
    let fits : c.in_ok-fits.fits ≡ fits_local c.args.schema.now ls (argument_of c.argument-item.result) =
    c.in_ok-fits.ensures ∙ ap (λ (o : Option Local). fits_found c.args.schema.now o (value_of c.argument-item.result.value.of.now)) (c.find-local.ensures ls s) in
    sym (all_stop argument_of (fits_local c.args.schema.now ls) c.args.given.now c.given.argument-index c.argument-item.result (omega arith) c.argument-item.is (sym fits ∙ c.if-not-fits.true)) ∙ c.given.invariant ls s

pub given-preserved : goal.given-preserved
given-preserved c = λ ls s.
    let fits : c.in_ok-fits.fits ≡ fits_local c.args.schema.now ls (argument_of c.argument-item.result) =
    c.in_ok-fits.ensures ∙ ap (λ (o : Option Local). fits_found c.args.schema.now o (value_of c.argument-item.result.value.of.now)) (c.find-local.ensures ls s) in
    sym (all_next argument_of (fits_local c.args.schema.now ls) c.args.given.now c.given.argument-index c.argument-item.result (omega arith) c.argument-item.is (sym fits ∙ c.if-not-fits.false)) ∙ c.given.invariant ls s

pub returns : goal.returns
returns c = λ ls s. all_end argument_of (fits_local c.args.schema.now ls) c.args.given.now c.given.argument-index (omega arith) ∙ c.given.invariant ls s
