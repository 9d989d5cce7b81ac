-- Plans whose fields stand in byte order of their response keys, so that what they show can be written as it is met.
use Rattle.std.specs.Prelude.{◌≡◌, ◌⊎◌, codes, []}
use Rattle.std.specs.Cmp.Lexicographic.{slice_cmp}
use Rattle.std.specs.List.{AllByRecursion}
use Rattle.std.specs.Ordering.{nat_cmp}
use Rattle.std.specs.declared.cmp.Ordering.TheVariants.{Less}
use Rattle.plan_ir.specs.gql_plain.Order.{AreInOrder}
use Rattle.plan_ir.specs.Reader as r
use Rattle.plan_ir.specs.Reader.{Reader}
use Rattle.plan_order.specs.Responses.{fragments, responses}
use Rattle.plan_ir.specs.schema_tables.Types.{Text}

-- the response key stands before all that an object with pointers tells beside its fields, or behind all of it
abbrev pub IsApart : Text → Type 0
IsApart key = (slice_cmp nat_cmp key (codes "__fragments") ≡ Less) ⊎ (slice_cmp nat_cmp (codes "__owner") key ≡ Less)

-- the steps of one object: its fields rise by response key, its pointers by fragment
pub record IsInOrder (steps : Reader) : Type 0 where
  pub fields : AreInOrder (responses steps)
  pub pointers : AreInOrder (fragments steps)
  pub apart : (fragments steps ≡ []) ⊎ AllByRecursion IsApart (responses steps)

-- the plans below fields, and those of fragments that are read where they are spread
abbrev pub AreInOrderBelow : Reader → Type 0
AreInOrderBelow r.done = Unit {0}
AreInOrderBelow (r.typename n rest) = AreInOrderBelow rest
AreInOrderBelow (r.leaf n name xs rest) = AreInOrderBelow rest
AreInOrderBelow (r.object n name xs m ts is o c child rest) = (IsInOrder child × AreInOrderBelow child) × AreInOrderBelow rest
AreInOrderBelow (r.guarded g child rest) = AreInOrderBelow child × AreInOrderBelow rest
AreInOrderBelow (r.pointer f xs rest) = AreInOrderBelow rest
AreInOrderBelow (r.pointer_inline f xs child rest) = (IsInOrder child × AreInOrderBelow child) × AreInOrderBelow rest

abbrev pub IsOrdered : Reader → Type 0
IsOrdered steps = IsInOrder steps × AreInOrderBelow steps
