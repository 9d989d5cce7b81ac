-- The text that is given for a name says the operation of that name.
use Rattle.std.proofs.Common.{List, ap, ◌∙◌}
use Rattle.plan_ir.specs.gql_ast.declared.document.Document.{Document}
use Rattle.plan_ir.specs.gql_ast.declared.place.Placed.{Placed}
use Rattle.plan_project.proofs.TextsAreDocuments.{says_named}
use Rattle.plan_project.proofs.artifacts.Artifacts.text.Goals as goal
use Rattle.plan_project.specs.Expansions.{text_named}
use Rattle.plan_ir.specs.schema_tables.Types.{Defs}

pub returns-clause-named : goal.returns-clause-named
returns-clause-named c = c.in_ok-text.ensures ∙ ap (λ (p : Defs × List (Placed Document)). text_named p.0 p.1 c.args.name.now) c.args.self.now.same

pub returns-clause-says : goal.returns-clause-says
returns-clause-says c = says_named c.args.self.now.project.now.0 c.args.self.now.project.now.1 c.is_accepted.ensures c.args.name.now _ (returns-clause-named c)
