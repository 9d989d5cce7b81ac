-- What the argument defines, or nothing.
use Rattle.std.proofs.Common.{option_map, ap, sym, ◌∙◌}
use Rattle.std.specs.Option.{option_or}
use Rattle.doc_sites.specs.SitesView.{argument_of}
use Rattle.plan_ir.specs.relay_marks.View.{local_view}
use Rattle.plan_expand.specs.LocalsView.{find_default}
use Rattle.plan_expand.proofs.Tables.{local_is, no_local_is}
use Rattle.plan_expand.proofs.locals.Locals.put_argument.Goals as goal

pub returns-in_ok-put-in-Some : goal.returns-in_ok-put-in-Some
returns-in_ok-put-in-Some c = λ n.
    c.in_ok-put-in-Some.ensures n
    ∙ ap (option_or (find_default c.args.self.now n)) (local_is (argument_of c.args.argument.now).name.name (argument_of c.args.argument.now).value.of (local_view c.in-Some.local) n
    (sym (ap (option_map local_view) c.in-Some.is) ∙ c.in_ok-local.ensures.read))

pub returns-in-None : goal.returns-in-None
returns-in-None c = λ n.
    no_local_is (argument_of c.args.argument.now).name.name (argument_of c.args.argument.now).value.of n (find_default c.args.self.now n)
    (sym (ap (option_map local_view) c.in-None.is) ∙ c.in_ok-local.ensures.read)
