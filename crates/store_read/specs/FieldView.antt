-- What fields and spreads of plans ask, and what stands below them.
use Rattle.std.specs.Prelude.{◌≡◌, true, false, Option, Some, None, option_map, option_copied}
use Rattle.plan_ir.specs.gql_ast.Value.{Val}
use Rattle.plan_groups.specs.FieldView.{arguments_called, form_at, name_called}
use Rattle.plan_ir.specs.NormalMeaning.{connection_of_step}
use Rattle.plan_ir.specs.Reader.{Reader, done}
use Rattle.plan_ir.specs.ReaderMeaning.{ReaderPart, scope_in}
use Rattle.plan_ir.specs.declared.reader.ReaderPlan.{ReaderPlan}
use Rattle.plan_ir.specs.gql_plain.Tree.{Tree}
use Rattle.plan_ir.specs.schema_tables.Types.{Text}
use Rattle.plan_ir.specs.schema_types.Environments.{Values, evaluation}
use Rattle.std.specs.Prelude.{List}
use Rattle.plan_ir.specs.store_model.Items.{Ask, Asked, Pointer, key_of}
use Rattle.store_read.specs.declared.field.FieldAt.{FieldAt}
use Rattle.store_read.specs.declared.field.PartAt.{PartAt}
use Rattle.store_read.specs.declared.spread.SpreadAt.{SpreadAt}

abbrev pub steps_or_done : Option Reader → Reader
steps_or_done None = done
steps_or_done (Some steps) = steps

-- steps in their environment
abbrev pub part_at : PartAt → ReaderPart
part_at p = record { environment = p.env.now.values; steps = steps_or_done (option_copied p.steps) }

-- what a field asks
abbrev pub ask_at : FieldAt → Ask
ask_at f = record { response = f.response.now; name = name_called f.call; arguments = arguments_called f.part.env.now.values f.call; connection = option_map connection_of_step (option_copied f.connection); form = form_at f.form }

-- the key that is kept with a field is the one that it is stored under
abbrev pub IsKept : FieldAt → Type 0
IsKept f = (key : Text) → option_copied f.key ≡ Some key → key ≡ key_of (ask_at f)

-- a field, and what stands below it
abbrev pub asked_at : FieldAt → Asked ReaderPart
asked_at f = record { ask = ask_at f; part = part_at f.part }

-- the pointer of a spread that is not followed
abbrev pub spread_at : SpreadAt → Pointer ReaderPart
spread_at s = record { fragment = s.fragment.now; scope = scope_in s.body.env.now.values s.arguments.now; inline = s.inline; body = part_at s.body }

-- the pointer of a step, by the plan of its fragment where that is read
abbrev pub pointer_of : Values → (fragment : Text) → List (Text × Val) → Option ReaderPlan → Pointer ReaderPart
pointer_of env f xs None = record { fragment = f; scope = scope_in env xs; inline = false; body = record { environment = env; steps = done } }
pointer_of env f xs (Some plan) = record { fragment = f; scope = scope_in env xs; inline = true; body = record { environment = env; steps = plan.steps } }

-- an argument with its value
abbrev pub evaluated_in : Values → Text × Val → Text × Tree
evaluated_in env x = (x.0, evaluation env x.1)
