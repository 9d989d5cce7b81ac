-- Which plans have an order: for these alone there is a plan that reads alike and whose fields rise by response key.
use Rattle.std.specs.Prelude.{Bool, true, false, not, codes, List, [], ◌∷◌, ◌&&◌, ◌||◌}
use Rattle.std.specs.Cmp.Lexicographic.{slice_cmp}
use Rattle.std.specs.List.{list_all}
use Rattle.std.specs.Ordering.{is_lt, nat_cmp}
use Rattle.plan_ir.specs.gql_plain.Order.{has_text}
use Rattle.plan_ir.specs.Reader as r
use Rattle.plan_ir.specs.Reader.{Reader}
use Rattle.plan_order.specs.Responses.{fragments, responses}
use Rattle.plan_order.specs.Walk.{is_none}
use Rattle.plan_ir.specs.schema_tables.Types.{Text}

-- no text stands twice
abbrev pub distinct : List Text → Bool
distinct [] = true
distinct (text ∷ texts) = not (has_text texts text) && distinct texts

-- the response key stands before all that an object with pointers tells beside its fields, or behind all of it
abbrev pub stands_apart : Text → Bool
stands_apart key = is_lt (slice_cmp nat_cmp key (codes "__fragments")) || is_lt (slice_cmp nat_cmp (codes "__owner") key)

-- whether no step is behind a guard
abbrev pub is_unguarded : Reader → Bool
is_unguarded r.done = true
is_unguarded (r.typename n rest) = is_unguarded rest
is_unguarded (r.leaf n name xs rest) = is_unguarded rest
is_unguarded (r.object n name xs m ts is o c child rest) = is_unguarded rest
is_unguarded (r.guarded g child rest) = false
is_unguarded (r.pointer f xs rest) = is_unguarded rest
is_unguarded (r.pointer_inline f xs child rest) = is_unguarded rest

-- whether no guard stands right in a guard, so that each step has at most one around it
abbrev pub has_single_guards : Reader → Bool
has_single_guards r.done = true
has_single_guards (r.typename n rest) = has_single_guards rest
has_single_guards (r.leaf n name xs rest) = has_single_guards rest
has_single_guards (r.object n name xs m ts is o c child rest) = has_single_guards rest
has_single_guards (r.guarded g child rest) = has_single_guards rest && is_unguarded child
has_single_guards (r.pointer f xs rest) = has_single_guards rest
has_single_guards (r.pointer_inline f xs child rest) = has_single_guards rest

-- no response key and no fragment stands twice; where there is a pointer, each response key stands apart
abbrev pub keys_have_order : Reader → Bool
keys_have_order steps = distinct (responses steps) && distinct (fragments steps) && (is_none (fragments steps) || list_all stands_apart (responses steps))

-- the steps of one object: the keys have an order, and a guard that is copied to each step behind it at most doubles the steps
abbrev pub has_order : Reader → Bool
has_order steps = has_single_guards steps && keys_have_order steps

-- the plans below fields, and those of fragments that are read where they are spread
abbrev pub has_order_below : Reader → Bool
has_order_below r.done = true
has_order_below (r.typename n rest) = has_order_below rest
has_order_below (r.leaf n name xs rest) = has_order_below rest
has_order_below (r.object n name xs m ts is o c child rest) = has_order_below rest && (has_order_below child && has_order child)
has_order_below (r.guarded g child rest) = has_order_below rest && has_order_below child
has_order_below (r.pointer f xs rest) = has_order_below rest
has_order_below (r.pointer_inline f xs child rest) = has_order_below rest && (has_order_below child && has_order child)

abbrev pub is_orderable : Reader → Bool
is_orderable steps = has_order_below steps && has_order steps
