-- What stands below a step is less deep than the step.
use Rattle.std.proofs.Common.{◌≡◌, ℕ, ◌+◌, ◌<◌, Bool, List, Option, Some, None, ap, ◌∙◌, arith}
use Rattle.plan_ir.specs.gql_ast.Value.{Val}
use Rattle.plan_ir.specs.gql_plain.declared.ids.Conn.{Conn}
use Rattle.plan_ir.specs.Reader.{depth, done}
use Rattle.plan_ir.specs.ReaderMeaning.{ReaderPart, field_item}
use Rattle.plan_ir.specs.ReaderView.{step_of}
use Rattle.plan_ir.specs.declared.reader.ReaderPlan.{ReaderPlan}
use Rattle.plan_ir.specs.declared.reader.ReaderStep.{ReaderStep}
use Rattle.plan_ir.specs.declared.reader.ReaderStep.TheVariants as N
use Rattle.plan_ir.specs.schema_types.Environments.{Values}
use Rattle.plan_ir.specs.store_model.Items.{Ask, Item, Pointer, asked, pointed}
use Rattle.store_read.specs.FieldView.{asked_at, part_at, pointer_of}
use Rattle.store_read.specs.declared.field.FieldAt.{FieldAt}
use Rattle.plan_ir.specs.store_record.Keys.{Text}

item_depth : Item ReaderPart → ℕ
item_depth (asked a) = depth a.part.steps
item_depth (pointed p) = depth p.body.steps

pub typename_deep : (x : ReaderStep) (r : Text) (f : FieldAt) (a : Ask) (env : Values) → x ≡ N.Typename r → asked (asked_at f) ≡ field_item a env done → depth (part_at f.part).steps < depth (step_of x)
unfolding item_depth
typename_deep x r f a env is e =
    let none : depth (part_at f.part).steps ≡ 0 = ap item_depth e in
    let one : depth (step_of x) ≡ 1 = ap (λ (y : ReaderStep). depth (step_of y)) is ∙ omega arith in
    omega (arith, none, one)

pub leaf_deep : (x : ReaderStep) (r n : Text) (xs : List (Text × Val)) (f : FieldAt) (a : Ask) (env : Values) → x ≡ N.Leaf r n xs → asked (asked_at f) ≡ field_item a env done → depth (part_at f.part).steps < depth (step_of x)
unfolding item_depth
leaf_deep x r n xs f a env is e =
    let none : depth (part_at f.part).steps ≡ 0 = ap item_depth e in
    let one : depth (step_of x) ≡ 1 = ap (λ (y : ReaderStep). depth (step_of y)) is ∙ omega arith in
    omega (arith, none, one)

pub object_deep : (x : ReaderStep) (r n : Text) (xs : List (Text × Val)) (m : Bool) (ts is : List Text) (o : Bool) (c : Option Conn) (child : ReaderPlan) (p : ReaderPart) (env : Values)
    → x ≡ N.Object r n xs m ts is o c child → p ≡ record { environment = env; steps = child.steps } → depth p.steps < depth (step_of x)
object_deep x r n xs m ts is o c child p env same part =
    let low : depth p.steps ≡ depth child.steps = ap (λ (q : ReaderPart). depth q.steps) part in
    let more : depth (step_of x) ≡ depth child.steps + 2 = ap (λ (y : ReaderStep). depth (step_of y)) same ∙ omega arith in
    omega (arith, low, more)

pointer_low : (f : Text) (xs : List (Text × Val)) (inline : Option ReaderPlan) (env : Values) → depth (pointer_of env f xs inline).body.steps < depth (step_of (N.Pointer f xs inline))
pointer_low f xs None env = omega arith
pointer_low f xs (Some child) env = omega arith

pub pointer_deep : (x : ReaderStep) (f : Text) (xs : List (Text × Val)) (inline : Option ReaderPlan) (p : Pointer ReaderPart) (env : Values)
    → x ≡ N.Pointer f xs inline → p ≡ pointer_of env f xs inline → depth p.body.steps < depth (step_of x)
pointer_deep x f xs inline p env is e =
    let low : depth p.body.steps ≡ depth (pointer_of env f xs inline).body.steps = ap (λ (q : Pointer ReaderPart). depth q.body.steps) e in
    let same : depth (step_of x) ≡ depth (step_of (N.Pointer f xs inline)) = ap (λ (y : ReaderStep). depth (step_of y)) is in
    omega (arith, low, same, pointer_low f xs inline env)
