-- What fields of plans ask, and what stands below them.
use Rattle.std.specs.Prelude.{◌≡◌, [], codes, Option, Some, None, option_map, option_copied}
use Rattle.plan_ir.specs.Normal.{Normal, done}
use Rattle.plan_ir.specs.NormalMeaning.{Plan, connection_of_step}
use Rattle.plan_groups.specs.declared.field.BelowAt.{BelowAt}
use Rattle.plan_groups.specs.declared.field.Call.{Call}
use Rattle.plan_groups.specs.declared.field.FieldAt.{FieldAt}
use Rattle.plan_groups.specs.declared.field.FormAt.{FormAt}
use Rattle.plan_groups.specs.declared.field.FormAt.TheVariants as F
use Rattle.plan_groups.specs.declared.field.PlanAt.{PlanAt}
use Rattle.plan_ir.specs.schema_tables.Types.{Text}
use Rattle.plan_ir.specs.schema_types.Environments.{Values, arguments_in_environment}
use Rattle.plan_ir.specs.store_model.Items.{Ask, Asked, Below, Form, key_of, typename, leaf, one, many}
use Rattle.plan_ir.specs.store_record.Keys.{Arguments}

abbrev pub steps_or_done : Option Normal → Normal
steps_or_done None = done
steps_or_done (Some steps) = steps

-- steps in their environment
abbrev pub plan_at : PlanAt → Plan
plan_at p = record { environment = p.env.now.values; steps = steps_or_done (option_copied p.steps) }

abbrev pub below_at : BelowAt → Below
below_at b = record { types = b.types.now; identified = b.identified.now; open_type = b.open_type }

abbrev pub form_at : FormAt → Form
form_at F.Typename = typename
form_at F.Leaf = leaf
form_at (F.One b) = one (below_at b)
form_at (F.Many b) = many (below_at b)

-- the name that is called, `__typename` where nothing is
abbrev pub name_called : Option Call → Text
name_called None = codes "__typename"
name_called (Some c) = c.name.now

abbrev pub arguments_called : Values → Option Call → Arguments
arguments_called env None = []
arguments_called env (Some c) = arguments_in_environment env c.arguments.now

-- what a field asks
abbrev pub ask_at : FieldAt → Ask
ask_at f = record { response = f.response.now; name = name_called f.call; arguments = arguments_called f.part.env.now.values f.call; connection = option_map connection_of_step (option_copied f.connection); form = form_at f.form }

-- the key that is kept with a field is the one that it is stored under
abbrev pub IsKept : FieldAt → Type 0
IsKept f = (key : Text) → option_copied f.key ≡ Some key → key ≡ key_of (ask_at f)

-- a field, and what stands below it
abbrev pub asked_at : FieldAt → Asked Plan
asked_at f = record { ask = ask_at f; part = plan_at f.part }
