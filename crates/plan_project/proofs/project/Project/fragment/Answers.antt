-- What the table has under a name is the fragment of that name, with its plan.
use Rattle.std.proofs.Common.{List, Option, option_copied, sym, subst}
use Rattle.plan_ir.specs.gql_ast.declared.document.Document.{Document}
use Rattle.plan_ir.specs.gql_ast.declared.place.Placed.{Placed}
use Rattle.plan_project.proofs.KeptPlans.{agree_so}
use Rattle.plan_project.proofs.project.Project.fragment.Goals as goal
use Rattle.plan_project.specs.Lookups.{Agree, IsFragment, KeepsFragment, ReadsFragment, fragment_in}
use Rattle.plan_project.specs.declared.operations.CompiledFragment.{CompiledFragment}
use Rattle.plan_ir.specs.schema_tables.Types.{Defs}
use Rattle.plan_ir.specs.schema_types.Sites.{FragmentAt}

pub returns-clause-kept : goal.returns-clause-kept
returns-clause-kept c =
    let p = c.self.inside in
    let n = c.args.name.now in
    let found = subst (λ (o : Option CompiledFragment). Agree (IsFragment p.schema p.documents n) (fragment_in p.schema p.documents n) o) (sym c.get.ensures.value) (c.self.invariant.2 n) in
    subst (λ (q : Defs × List (Placed Document)). Agree (KeepsFragment q.0 n) (fragment_in q.0 q.1 n) (option_copied c.get.result)) c.self.view_is
    (agree_so (IsFragment p.schema p.documents n) (KeepsFragment p.schema n) (λ (f : FragmentAt) (x : CompiledFragment) k. k.keeps) (fragment_in p.schema p.documents n) (option_copied c.get.result) found)

pub returns-clause-reads : goal.returns-clause-reads
returns-clause-reads c =
    let p = c.self.inside in
    let n = c.args.name.now in
    let found = subst (λ (o : Option CompiledFragment). Agree (IsFragment p.schema p.documents n) (fragment_in p.schema p.documents n) o) (sym c.get.ensures.value) (c.self.invariant.2 n) in
    subst (λ (q : Defs × List (Placed Document)). Agree (ReadsFragment q.0 q.1) (fragment_in q.0 q.1 n) (option_copied c.get.result)) c.self.view_is
    (agree_so (IsFragment p.schema p.documents n) (ReadsFragment p.schema p.documents) (λ (f : FragmentAt) (x : CompiledFragment) k. k.reads) (fragment_in p.schema p.documents n) (option_copied c.get.result) found)
