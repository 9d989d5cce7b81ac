-- What a plan that normalizes asks of an object of a type, in an environment: its steps in order, those behind a guard where the guard lets
-- them. What a response says to a plan is said by the same walk as along documents.
use Rattle.std.specs.Prelude.{Bool, true, not, ◌&&◌, cond, List, [], ◌∷◌, ◌++◌, codes, bytes_eq, Option, Some, None, option_map}
use Rattle.std.specs.List.{list_all}
use Rattle.relay_marks.specs.gql_ast.Value.{Val}
use Rattle.relay_marks.specs.gql_ast.ValueView.{value_of}
use Rattle.store_model.specs.gql_plain.Names.{is_name}
use Rattle.store_model.specs.gql_plain.Order.{has_text}
use Rattle.store_model.specs.gql_plain.declared.ids.Conn.{Conn}
use Rattle.plan_ir.specs.Normal as n
use Rattle.plan_ir.specs.Normal.{Normal}
use Rattle.plan_ir.specs.declared.guard.Condition.{Condition}
use Rattle.plan_ir.specs.declared.guard.Guard.{Guard}
use Rattle.relay_marks.specs.schema_tables.Types.{Text}
use Rattle.relay_marks.specs.schema_types.Environments.{Values, arguments_in_environment, evaluation, is_true}
use Rattle.serde_json.specs.Data as J
use Rattle.store_model.specs.Items.{Ask, Below, Collect, Connection, Form, Item, asked, typename, leaf, one, many}
use Rattle.store_model.specs.Verdicts.{Verdict, says}

-- steps in the environment of their operation
pub record Plan : Type 0 where
  pub environment : Values
  pub steps : Normal

-- ---- guards

abbrev pub condition_passes : Values → Condition → Bool
condition_passes env c = cond c.skip (not (is_true (evaluation env (value_of c.value)))) (is_true (evaluation env (value_of c.value)))

abbrev pub type_passes : Option (List Text) → (object : Text) → Bool
type_passes None T = true
type_passes (Some ts) T = has_text ts T

abbrev pub guard_passes : Values → (object : Text) → Guard → Bool
guard_passes env T g = type_passes g.types T && list_all (condition_passes env) g.conditions

-- ---- steps

abbrev pub below_step : (types identified : List Text) → (open_type : Bool) → Below
below_step ts is o = record { types = ts; identified = is; open_type = o }

abbrev pub object_form : (many_objects : Bool) → Below → Form
object_form m b = cond m (many b) (one b)

abbrev pub connection_of_step : Conn → Connection
connection_of_step c = record { key = c.key; filters = c.filters }

abbrev pub typename_ask : Text → Ask
typename_ask r = record { response = r; name = codes "__typename"; arguments = []; connection = None; form = typename }

abbrev pub ask_step : Values → (response name : Text) → List (Text × Val) → Option Conn → Form → Ask
ask_step env r name xs c f = record { response = r; name = name; arguments = arguments_in_environment env xs; connection = option_map connection_of_step c; form = f }

abbrev pub item_of : Ask → Values → Normal → Item Plan
item_of a env child = asked (record { ask = a; part = record { environment = env; steps = child } })

-- the items that steps give on an object type, in order
abbrev pub collect_steps : Values → (object : Text) → Normal → List (Item Plan)
collect_steps env T n.done = []
collect_steps env T (n.typename r rest) = item_of (typename_ask r) env n.done ∷ collect_steps env T rest
collect_steps env T (n.leaf r name xs rest) = item_of (ask_step env r name xs None leaf) env n.done ∷ collect_steps env T rest
collect_steps env T (n.object r name xs m ts is o c child rest) =
    item_of (ask_step env r name xs c (object_form m (below_step ts is o))) env child ∷ collect_steps env T rest
collect_steps env T (n.guarded g child rest) = cond (guard_passes env T g) (collect_steps env T child) [] ++ collect_steps env T rest

abbrev pub collect_plan : Collect Plan
collect_plan T p = collect_steps p.environment T p.steps

-- what a response says to a plan, at a root type
abbrev pub plan_says : (root_type : Text) → Values → Normal → J.Data → Verdict
plan_says T env steps response = says collect_plan T (record { environment = env; steps = steps } ∷ []) response

-- ---- what every plan is like: the types below its steps are Names, and none of its fields is the type name of a record

abbrev pub are_names : List Text → Bool
are_names ts = list_all is_name ts

abbrev pub is_field_name : Text → Bool
is_field_name n = not (bytes_eq n (codes "__typename"))

abbrev pub is_formed : Normal → Bool
is_formed n.done = true
is_formed (n.typename r rest) = is_formed rest
is_formed (n.leaf r name xs rest) = is_field_name name && is_formed rest
is_formed (n.object r name xs m ts is o c child rest) = is_field_name name && (are_names ts && (is_formed child && is_formed rest))
is_formed (n.guarded g child rest) = is_formed child && is_formed rest
