-- How the logic stores plans and groups.
use Rattle.std.specs.Prelude.{◌≡◌, Bool, true, false, List, Option, ◌⊎◌, refl}
use Rattle.std.specs.Coded.{Coded, code_by, coded×, coded⊎, coded_ℕ, coded_bool, coded_list, coded_option}
use mathlib.Core.Logic.{inl, inr}
use Rattle.plan_ir.specs.gql_plain.Codes.{coded_members}
use Rattle.plan_ir.specs.Normal.{Normal}
use Rattle.plan_ir.specs.NormalCode.{coded_normal}
use Rattle.plan_ir.specs.NormalMeaning.{Plan}
use Rattle.plan_ir.specs.schema_types.Environments.{Values}
use Rattle.plan_ir.specs.store_model.Items.{Ask, Asked, Below, Connection, Form, typename, leaf, one, many, Group}
use Rattle.plan_ir.specs.store_record.Keys.{Text, Arguments}

abbrev pub coded_text : Coded Text
coded_text = coded_list coded_ℕ

abbrev pub coded_plan : Coded Plan
coded_plan = code_by (Values × Normal) (coded× coded_members coded_normal) (λ p. (p.environment, p.steps)) (λ q. record { environment = q.0; steps = q.1 }) (λ _. refl)

abbrev pub coded_below : Coded Below
coded_below =
    code_by (List Text × (List Text × Bool)) (coded× (coded_list coded_text) (coded× (coded_list coded_text) coded_bool))
    (λ b. (b.types, (b.identified, b.open_type))) (λ q. record { types = q.0; identified = q.1.0; open_type = q.1.1 }) (λ _. refl)

-- which of the four forms, and what an object leads to
abbrev pub form_parts : Form → Bool ⊎ (Bool × Below)
form_parts typename = inl true
form_parts leaf = inl false
form_parts (one b) = inr (false, b)
form_parts (many b) = inr (true, b)

abbrev pub form_made : Bool ⊎ (Bool × Below) → Form
form_made (inl true) = typename
form_made (inl false) = leaf
form_made (inr (false, b)) = one b
form_made (inr (true, b)) = many b

pub form_made-form_parts : (f : Form) → form_made (form_parts f) ≡ f
form_made-form_parts typename = refl
form_made-form_parts leaf = refl
form_made-form_parts (one b) = refl
form_made-form_parts (many b) = refl

abbrev pub coded_form : Coded Form
coded_form = code_by (Bool ⊎ (Bool × Below)) (coded⊎ coded_bool (coded× coded_bool coded_below)) form_parts form_made form_made-form_parts

abbrev pub coded_connection : Coded Connection
coded_connection =
    code_by (Text × Option (List Text)) (coded× coded_text (coded_option (coded_list coded_text))) (λ c. (c.key, c.filters)) (λ q. record { key = q.0; filters = q.1 }) (λ _. refl)

abbrev pub coded_ask : Coded Ask
coded_ask =
    code_by (Text × (Text × (Arguments × (Option Connection × Form)))) (coded× coded_text (coded× coded_text (coded× coded_members (coded× (coded_option coded_connection) coded_form))))
    (λ a. (a.response, (a.name, (a.arguments, (a.connection, a.form)))))
    (λ q. record { response = q.0; name = q.1.0; arguments = q.1.1.0; connection = q.1.1.1.0; form = q.1.1.1.1 }) (λ _. refl)

abbrev pub coded_asked : Coded (Asked Plan)
coded_asked = code_by (Ask × Plan) (coded× coded_ask coded_plan) (λ a. (a.ask, a.part)) (λ q. record { ask = q.0; part = q.1 }) (λ _. refl)

abbrev pub coded_group : Coded (Group Plan)
coded_group = code_by (Asked Plan × List (Asked Plan)) (coded× coded_asked (coded_list coded_asked)) (λ g. (g.first, g.others)) (λ q. record { first = q.0; others = q.1 }) (λ _. refl)
