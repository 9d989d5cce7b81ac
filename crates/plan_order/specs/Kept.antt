-- A plan that is in order, where there is one.
use Rattle.std.specs.Prelude.{◌≡◌, Option, Some, None, is_some}
use Rattle.plan_ir.specs.Reader.{Reader}
use Rattle.plan_ir.specs.declared.reader.ReaderPlan.{ReaderPlan}
use Rattle.plan_order.specs.Alike.{ReadAlike}
use Rattle.plan_order.specs.HasOrder.{is_orderable}
use Rattle.plan_order.specs.Ordered.{IsOrdered}

-- it is in order, and reads alike
abbrev pub IsInOrderOf : Reader → Option ReaderPlan → Type 0
IsInOrderOf steps None = Unit {0}
IsInOrderOf steps (Some s) = IsOrdered s.steps × ReadAlike steps s.steps

-- there is one where the plan has an order
pub record IsOrderOf (steps : Reader) (found : Option ReaderPlan) : Type 0 where
  pub order : IsInOrderOf steps found
  pub there : is_some found ≡ is_orderable steps
