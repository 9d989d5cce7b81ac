-- What a response says to a formed plan gives each record that it speaks of the name of its type.
use Rattle.std.proofs.Common.{◌≡◌, Bool, true, ◌&&◌, ◌||◌, List, [], ◌∷◌, ◌++◌, bytes_eq, refl, ap}
use Rattle.std.proofs.lemmas.Slice.Eq.{bytes_eq-Decides}
use Rattle.std.specs.List.{AllByRecursion, list_any}
use Rattle.plan_ir.specs.gql_plain.declared.plain.Plain.TheVariants.{Text as Words}
use Rattle.plan_ir.specs.Normal.{Normal}
use Rattle.plan_ir.specs.NormalMeaning.{Plan, collect_plan, is_field_name, is_formed}
use Rattle.plan_ir.specs.schema_types.Environments.{Values}
use Rattle.serde_json.specs.Data as J
use Rattle.plan_ir.specs.store_record.Keys.{Text}
use Rattle.plan_ir.specs.store_record.declared.field.Field.{Field}
use Rattle.plan_ir.specs.store_record.declared.field.Field.TheVariants.{Leaf}
use Rattle.plan_ir.proofs.store_model_laws.Least.{each_append}
use Rattle.plan_ir.specs.store_model.Items.{Form, typename, leaf, one, many, Ask, key_of, Group}
use Rattle.plan_ir.specs.store_model.Records.{typename as typename_key}
use Rattle.plan_ir.specs.store_model.Says.{Path, Put, Report, both, put_at, pages_of, field_says, form_says, response_says}
use Rattle.plan_ir.specs.store_model.declared.facts.HandleFact.{HandleFact}
use Rattle.store_norm.proofs.EachReport.{IsInvariant, response_holds}
use Rattle.store_norm.proofs.FormedSteps.{Formed, IsName, FieldOf, FormedField, steps_ask}
use Rattle.store_norm.proofs.TypeNameKeys.{any_left, any_right, field_key_is_no_typename}
use Rattle.store_report.specs.Gathering.{AreNamed, IsNamed}

-- a put for the type name of an id
abbrev names : Text → Put → Bool
names id q = bytes_eq q.fact.id id && bytes_eq q.fact.key typename_key

abbrev There : List Put → Text → Type 0
There puts id = list_any (names id) puts ≡ true

-- ids that are named in the part are named in the whole
abbrev Within : List Put → List Put → Type 0
Within puts whole = (id : Text) → There puts id → There whole id

-- wherever the puts stand, each of them is named there
abbrev Named : Report → Type 0
Named r = (whole : List Put) → Within r.puts whole → AllByRecursion (IsNamed whole) r.puts

-- the same, where the id is named
abbrev NamedUnder : Text → Report → Type 0
NamedUnder id r = (whole : List Put) → Within r.puts whole → There whole id → AllByRecursion (IsNamed whole) r.puts

within_left : (xs ys whole : List Put) → Within (xs ++ ys) whole → Within xs whole
within_left xs ys whole within id h = within id (any_left (names id) xs ys h)

within_right : (xs ys whole : List Put) → Within (xs ++ ys) whole → Within ys whole
within_right xs ys whole within id h = within id (any_right (names id) xs ys h)

joined : (a b : Report) → Named a → Named b → Named (both a b)
joined a b first second whole within =
    each_append (IsNamed whole) a.puts b.puts (first whole (within_left a.puts b.puts whole within)) (second whole (within_right a.puts b.puts whole within))

fields : (id : Text) (a b : Report) → NamedUnder id a → NamedUnder id b → NamedUnder id (both a b)
fields id a b first second whole within here =
    each_append (IsNamed whole) a.puts b.puts (first whole (within_left a.puts b.puts whole within) here) (second whole (within_right a.puts b.puts whole within) here)

-- the type name comes first, and the fields of the object stand under its id
object : (id T : Text) (path : Path) (r : Report) → IsName T → NamedUnder id r → Named (both (put_at id typename_key (Leaf (Words T)) path) r)
object id T path r is under whole within =
    let same = (bytes_eq-Decides id id).1 refl in
    let here = within id (ap (λ b. (b && bytes_eq typename_key typename_key) || list_any (names id) r.puts) same) in
    (record { name = λ e. (T, refl, is); there = here }, under whole (within_right (put_at id typename_key (Leaf (Words T)) path).puts r.puts whole within) here)

field_named : (id : Text) (path : Path) (a : Ask) (pages : List HandleFact) (r : Field × Report) → is_field_name a.name ≡ true → Named r.1 → NamedUnder id (field_says id path a pages r)
field_named id path a pages r is named whole within here = (
  record { name = λ e. absurd (field_key_is_no_typename a.name a.arguments is e); there = here },
  named whole (λ other h. within other (any_right (names other) (put_at id (key_of a) r.0 path).puts r.1.puts h)),
)

field : (id : Text) (path : Path) (g : Group Plan) (r : Field × Report) → FormedField g.first → Named r.1
    → NamedUnder id (form_says g.first.ask.form (field_says id path g.first.ask (pages_of collect_plan id g) r))
field id path g r sound named = at g.first.ask.form sound.0
  where
    said : Report
    said = field_says id path g.first.ask (pages_of collect_plan id g) r

    at : (form : Form) → FieldOf form g.first.ask.name → NamedUnder id (form_says form said)
    at typename is = λ whole within here. tt
    at leaf is = field_named id path g.first.ask (pages_of collect_plan id g) r is named
    at (one b) is = field_named id path g.first.ask (pages_of collect_plan id g) r is named
    at (many b) is = field_named id path g.first.ask (pages_of collect_plan id g) r is named

named_throughout : IsInvariant collect_plan Formed FormedField IsName Named NamedUnder
named_throughout = record {
  collected = λ T p formed. steps_ask p.environment T p.steps formed;
  types = λ a sound. sound.1;
  below = λ a sound. sound.2;
  nothing = λ whole within. tt;
  fault = λ path c whole within. tt;
  joined = joined;
  no_field = λ id whole within here. tt;
  fields = fields;
  field = field;
  object = object;
}

-- each put under `__typename` holds a Name, and each id has such a put
pub names_hold : (T : Text) (env : Values) (steps : Normal) (d : J.Data) → is_formed steps ≡ true
    → AreNamed (response_says collect_plan T (record { environment = env; steps = steps } ∷ []) d).puts
names_hold T env steps d formed =
    let plan : Plan = record { environment = env; steps = steps } in
    response_holds collect_plan Formed FormedField IsName Named NamedUnder named_throughout T (plan ∷ []) (formed, tt) refl d
    (response_says collect_plan T (plan ∷ []) d).puts (λ id h. h)
