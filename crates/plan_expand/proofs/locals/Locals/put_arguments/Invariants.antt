-- What is put and what is left are the whole.
use Rattle.std.proofs.Common.{◌≡◌, map, drop}
use Rattle.std.specs.Option.{option_or}
use Rattle.plan_ir.specs.gql_graph.Rules.{each}
use Rattle.doc_sites.specs.SitesView.{argument_of}
use Rattle.plan_ir.specs.relay_marks.Locals.{local_at}
use Rattle.plan_ir.specs.Substitution.{default_named}
use Rattle.plan_ir.specs.schema_tables.Types.{Text}
use Rattle.plan_expand.specs.LocalsView.{find_default}
use Rattle.plan_expand.proofs.locals.Locals.put_arguments.Given as goal

abbrev pub invariant-arguments : goal.invariant-arguments
invariant-arguments l =
    (n : Text) → option_or (find_default l.self n) (default_named (each local_at (map argument_of (drop l.argument-index l.arguments))) n)
    ≡ option_or (find_default l.initial.self n) (default_named (each local_at (map argument_of l.arguments)) n)
