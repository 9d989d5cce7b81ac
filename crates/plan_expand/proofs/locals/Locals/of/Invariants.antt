-- What is put and what is left are the whole.
use Rattle.std.proofs.Common.{◌≡◌, map, drop}
use Rattle.std.specs.Option.{option_or}
use Rattle.doc_sites.specs.SitesView.{directive_of}
use Rattle.plan_ir.specs.relay_marks.Locals.{locals_of}
use Rattle.plan_ir.specs.Substitution.{default_named}
use Rattle.plan_ir.specs.schema_tables.Types.{Text}
use Rattle.plan_expand.specs.LocalsView.{find_default}
use Rattle.plan_expand.proofs.locals.Locals.of.Given as goal

abbrev pub invariant-directives : goal.invariant-directives
invariant-directives l =
    (n : Text) → option_or (find_default l.locals n) (default_named (locals_of (map directive_of (drop l.directive-index l.directives))) n)
    ≡ default_named (locals_of (map directive_of l.directives)) n
