-- What the parts of a response say to a plan, as the walk meets them.
use Rattle.std.specs.Prelude.{Bool, true, false, not, ◌&&◌, List, bytes_eq, Option}
use Rattle.std.specs.Map.{lookup}
use Rattle.plan_ir.specs.NormalMeaning.{Plan, collect_plan}
use Rattle.serde_json.specs.Data as J
use Rattle.serde_json.specs.Find.{get_member}
use Rattle.plan_ir.specs.store_model.Items.{Below, Form, typename, leaf, one, many, Group}
use Rattle.plan_ir.specs.store_model.Records.{typename as typename_key}
use Rattle.plan_ir.specs.store_model.Says.{Path, Report, form_says, group_says, is_misnamed, named_says, responses, unless_misnamed, walks_of}
use Rattle.plan_ir.specs.store_record.Keys.{Text}

abbrev pub is_typename : Form → Bool
is_typename typename = true
is_typename leaf = false
is_typename (one b) = false
is_typename (many b) = false

-- what the members of an object say to a group
abbrev pub group_told : Text → Path → J.Members → Group Plan → Report
group_told id path ms g =
    form_says g.first.ask.form (group_says collect_plan id path g (lookup (λ k. bytes_eq k g.first.ask.response) (walks_of collect_plan ms)))

-- what an object of a type says, by the groups of the type
abbrev pub object_told : J.Members → Below → Text → List (Group Plan) → (made : Text) → Path → Option Text × Report
object_told ms b T groups made path =
    unless_misnamed (not b.open_type && is_misnamed T (responses groups) (get_member typename_key ms)) path
    (named_says collect_plan ms (walks_of collect_plan ms) b T groups made path)
