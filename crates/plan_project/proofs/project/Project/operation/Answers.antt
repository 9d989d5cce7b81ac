-- What the table has under a name is the operation of that name, with its plans.
use Rattle.std.proofs.Common.{List, Option, option_copied, sym, subst}
use Rattle.plan_ir.specs.gql_ast.declared.document.Document.{Document}
use Rattle.plan_ir.specs.gql_ast.declared.place.Placed.{Placed}
use Rattle.plan_project.proofs.KeptPlans.{agree_so}
use Rattle.plan_project.proofs.project.Project.operation.Goals as goal
use Rattle.plan_project.specs.Lookups.{Agree, IsOperation, KeepsOperation, Normalizes, ReadsOperation, operation_in}
use Rattle.plan_project.specs.declared.operations.Compiled.{Compiled}
use Rattle.plan_ir.specs.schema_tables.Types.{Defs}
use Rattle.plan_ir.specs.schema_types.Sites.{OperationAt}

pub returns-clause-kept : goal.returns-clause-kept
returns-clause-kept c =
    let p = c.self.inside in
    let n = c.args.name.now in
    let found = subst (λ (o : Option Compiled). Agree (IsOperation p.schema p.documents n) (operation_in p.schema p.documents n) o) (sym c.get.ensures.value) (c.self.invariant.1 n) in
    subst (λ (q : Defs × List (Placed Document)). Agree (KeepsOperation q.0 n) (operation_in q.0 q.1 n) (option_copied c.get.result)) c.self.view_is
    (agree_so (IsOperation p.schema p.documents n) (KeepsOperation p.schema n) (λ (o : OperationAt) (x : Compiled) k. k.keeps) (operation_in p.schema p.documents n) (option_copied c.get.result) found)

pub returns-clause-normal : goal.returns-clause-normal
returns-clause-normal c =
    let p = c.self.inside in
    let n = c.args.name.now in
    let found = subst (λ (o : Option Compiled). Agree (IsOperation p.schema p.documents n) (operation_in p.schema p.documents n) o) (sym c.get.ensures.value) (c.self.invariant.1 n) in
    subst (λ (q : Defs × List (Placed Document)). Agree (Normalizes q.0 q.1) (operation_in q.0 q.1 n) (option_copied c.get.result)) c.self.view_is
    (agree_so (IsOperation p.schema p.documents n) (Normalizes p.schema p.documents) (λ (o : OperationAt) (x : Compiled) k. k.normalizes) (operation_in p.schema p.documents n) (option_copied c.get.result) found)

pub returns-clause-reads : goal.returns-clause-reads
returns-clause-reads c =
    let p = c.self.inside in
    let n = c.args.name.now in
    let found = subst (λ (o : Option Compiled). Agree (IsOperation p.schema p.documents n) (operation_in p.schema p.documents n) o) (sym c.get.ensures.value) (c.self.invariant.1 n) in
    subst (λ (q : Defs × List (Placed Document)). Agree (ReadsOperation q.0 q.1) (operation_in q.0 q.1 n) (option_copied c.get.result)) c.self.view_is
    (agree_so (IsOperation p.schema p.documents n) (ReadsOperation p.schema p.documents) (λ (o : OperationAt) (x : Compiled) k. k.reads) (operation_in p.schema p.documents n) (option_copied c.get.result) found)
