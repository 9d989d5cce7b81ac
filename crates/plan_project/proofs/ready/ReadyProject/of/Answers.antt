-- What is made stands ready for the project.
use Rattle.std.proofs.Common.{◌≡◌, sym, ◌∙◌}
use Rattle.plan_ir.specs.gql_graph.Rules.{first_broken}
use Rattle.plan_ir.specs.Projects.{definitions_in}
use Rattle.plan_project.proofs.ready.ReadyProject.of.Goals as goal
use Rattle.plan_project.specs.Expansions.{size_rules}

pub invariant_of-result : goal.invariant_of-result
invariant_of-result c =
    let e = c.in_ok-expander.expander in
    let s : e.schema.now ≡ c.project.inside.schema = c.in_ok-expander.ensures.schema in
    let d : e.documents.now ≡ c.project.inside.documents = c.in_ok-expander.ensures.documents in (
      c.in_ok-expander.ensures.ready,
      c.in_ok-definitions.ensures ∙ (λ i. definitions_in (sym s i) (sym d i)),
      (λ i. first_broken (size_rules (s i) (d i))) ∙ c.project.invariant.0.accepted.sizes,
    )
