use Rattle.std.proofs.Common.{◌≡◌, Some, option_copied, ap, sym, subst, ◌∙◌}
use Rattle.std.proofs.lemmas.Result.{IfOk-weaker}
use Rattle.plan_project.specs.Lookups.{KeepsOperation, operation_in}
use Rattle.line_engine.proofs.Names.{found_left}
use Rattle.line_engine.proofs.PlanLaws.{found_operation, found_there}
use Rattle.line_engine.proofs.engine.LineEngine.prepare.Goals as goal
use Rattle.line_engine.specs.Kept.{Kept}
use Rattle.line_engine.specs.Retained.{IsPrepared}
use Rattle.line_engine.specs.Stands.{StandsFor}
use Rattle.relay_machine.specs.Machine.{Project, State, retain_named, retain_operation}
use Rattle.plan_ir.specs.schema_types.Sites.{OperationAt}

pub returns-in-Some-clause-step : goal.returns-in-Some-clause-step
returns-in-Some-clause-step g c =
    let k : Kept = c.args.self.now in
    let n = c.args.n in
    let op = c.args.operation.now in
    let given = c.args.given.now in
    let called = c.as_str.result.now in
    let compiled = c.in-Some.compiled.now in
    let defs = c.self.inside.project.0 in
    let docs = c.self.inside.project.1 in
    let o : (o : OperationAt) × (operation_in defs docs called ≡ Some o) × KeepsOperation defs called o compiled =
    found_left (KeepsOperation defs called) (operation_in defs docs called) (option_copied c.operation.result) compiled c.operation.ensures.kept (ap option_copied c.in-Some.is) in
    IfOk-weaker c.prepare_operation.result
    (λ prepared. (p : Project) (s : State) (o : OperationAt) → StandsFor k p s → KeepsOperation p.defs compiled.name o compiled → operation_in p.defs p.documents compiled.name ≡ Some o
    → IsPrepared k p s n (λ name. retain_operation p s n name o given) prepared)
    (λ prepared. (p : Project) (s : State) → StandsFor k p s → IsPrepared k p s n (λ name. retain_named p s n name op (operation_in p.defs p.documents op) given) prepared)
    (λ prepared has p s stands.
    let schema : defs ≡ p.defs = ap (λ (x : Kept). x.defs) c.self.view_is ∙ stands.schema in
    let documents : docs ≡ p.documents = ap (λ (x : Kept). x.documents) c.self.view_is ∙ stands.documents in
    let keeps : KeepsOperation p.defs compiled.name o.0 compiled =
    subst (λ d. KeepsOperation d compiled.name o.0 compiled) schema (subst (λ t. KeepsOperation defs t o.0 compiled) (sym o.2.name) o.2) in
    let is : operation_in p.defs p.documents compiled.name ≡ Some o.0 = (λ i. operation_in (sym schema i) (sym documents i) (o.2.name i)) ∙ o.1 in
    let named : operation_in p.defs p.documents op ≡ Some o.0 = (λ i. operation_in (sym schema i) (sym documents i) (sym c.as_str.ensures i)) ∙ o.1 in
    subst (λ x. IsPrepared k p s n (λ name. retain_named p s n name op x given) prepared) (sym named) (has p s o.0 stands keeps is))
    c.prepare_operation.ensures.step

pub prepare_operation-requires-clause-there : goal.prepare_operation-requires-clause-there
prepare_operation-requires-clause-there g c =
    found_there c.self.inside.project c.as_str.result.now (option_copied c.operation.result) c.in-Some.compiled.now (ap option_copied c.in-Some.is) c.operation.ensures.kept
    c.args.self.now (ap (λ (x : Kept). x.defs) c.self.view_is) (ap (λ (x : Kept). x.documents) c.self.view_is)

pub prepare_operation-requires-clause-reaches : goal.prepare_operation-requires-clause-reaches
prepare_operation-requires-clause-reaches g c =
    found_operation c.self.inside.project c.as_str.result.now (option_copied c.operation.result) c.in-Some.compiled.now (ap option_copied c.in-Some.is) c.operation.ensures.kept
    c.args.self.now (ap (λ (x : Kept). x.defs) c.self.view_is) (ap (λ (x : Kept). x.documents) c.self.view_is) c.operation.ensures.normal c.operation.ensures.reads
