-- What a plan that reads asks of a record of a type, in an environment: its steps in order, those behind a guard where the guard lets them.
-- What it shows of records is read by the same walk as along documents.
use Rattle.std.specs.Prelude.{ℕ, ◌+◌, false, true, cond, List, [], ◌∷◌, ◌++◌, None, max}
use Rattle.relay_marks.specs.gql_ast.Value.{Val}
use Rattle.plan_ir.specs.NormalMeaning.{ask_step, below_step, guard_passes, object_form, typename_ask}
use Rattle.plan_ir.specs.Reader as r
use Rattle.plan_ir.specs.Reader.{Reader}
use Rattle.relay_marks.specs.schema_tables.Types.{Text}
use Rattle.relay_marks.specs.schema_types.Environments.{Values, evaluation, with_pair}
use Rattle.store_model.specs.Items.{Ask, Collect, Item, asked, pointed, leaf}
use Rattle.store_model.specs.Walks.{Found, Slots, read_at}

-- steps in the environment of their operation
pub record ReaderPart : Type 0 where
  pub environment : Values
  pub steps : Reader

-- ---- steps

-- the values of a fragment's local variables, in byte order of their names; of several of one name the first counts
abbrev pub scope_in : Values → List (Text × Val) → Values
scope_in env [] = []
scope_in env (x ∷ xs) = with_pair x.0 (evaluation env x.1) (scope_in env xs)

abbrev pub field_item : Ask → Values → Reader → Item ReaderPart
field_item a env child = asked (record { ask = a; part = record { environment = env; steps = child } })

-- the items that steps give on an object type, in order
abbrev pub collect_reading : Values → (object : Text) → Reader → List (Item ReaderPart)
collect_reading env T r.done = []
collect_reading env T (r.typename n rest) = field_item (typename_ask n) env r.done ∷ collect_reading env T rest
collect_reading env T (r.leaf n name xs rest) = field_item (ask_step env n name xs None leaf) env r.done ∷ collect_reading env T rest
collect_reading env T (r.object n name xs m ts is o c child rest) =
    field_item (ask_step env n name xs c (object_form m (below_step ts is o))) env child ∷ collect_reading env T rest
collect_reading env T (r.guarded g child rest) = cond (guard_passes env T g) (collect_reading env T child) [] ++ collect_reading env T rest
collect_reading env T (r.pointer f xs rest) =
    pointed (record { fragment = f; scope = scope_in env xs; inline = false; body = record { environment = env; steps = r.done } }) ∷ collect_reading env T rest
collect_reading env T (r.pointer_inline f xs child rest) =
    pointed (record { fragment = f; scope = scope_in env xs; inline = true; body = record { environment = env; steps = child } }) ∷ collect_reading env T rest

abbrev pub collect_reader : Collect ReaderPart
collect_reader T p = collect_reading p.environment T p.steps

-- ---- reading

-- how many records a read by these steps stands at one below another, the first one not counted
abbrev pub records_below : Reader → ℕ
records_below r.done = 0
records_below (r.typename n rest) = records_below rest
records_below (r.leaf n name xs rest) = records_below rest
records_below (r.object n name xs m ts is o c child rest) = max (records_below child + 1) (records_below rest)
records_below (r.guarded g child rest) = max (records_below child) (records_below rest)
records_below (r.pointer f xs rest) = records_below rest
records_below (r.pointer_inline f xs child rest) = max (records_below child + 1) (records_below rest)

-- what a plan shows at an id; `typed` gives a record's type from its type name
abbrev pub plan_reads : (typed : Text → Text) → (owner : Text) → Slots → Values → Reader → (types : List Text) → (id : Text) → Found
plan_reads typed owner m env steps types id =
    read_at collect_reader typed owner m (records_below steps + 1) types (record { environment = env; steps = steps } ∷ []) id
