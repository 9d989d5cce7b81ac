-- What is made stands ready for the project.
use Rattle.std.proofs.Common.{List, sym, subst, ◌∙◌}
use Rattle.plan_ir.specs.gql_ast.declared.document.Document.{Document}
use Rattle.plan_ir.specs.gql_ast.declared.place.Placed.{Placed}
use Rattle.plan_project.proofs.planner.Planner.of.Goals as goal
use Rattle.plan_project.specs.Projects.{IsAcceptedProject}
use Rattle.plan_ir.specs.schema_tables.Types.{Defs}

pub returns-clause-ready : goal.returns-clause-ready
returns-clause-ready c =
    let e = c.in_ok-expander.expander in
    record {
      expander = c.in_ok-expander.ensures.ready;
      readers = c.in_ok-readers.ensures.ready;
      same_schema = c.in_ok-readers.ensures.schema ∙ sym c.in_ok-expander.ensures.schema;
      same_documents = c.in_ok-readers.ensures.documents ∙ sym c.in_ok-expander.ensures.documents;
      accepted = subst (λ (defs : Defs). IsAcceptedProject defs e.documents.now) (sym c.in_ok-expander.ensures.schema)
          (subst (λ (ps : List (Placed Document)). IsAcceptedProject c.args.schema.now ps) (sym c.in_ok-expander.ensures.documents) c.requires);
    }
