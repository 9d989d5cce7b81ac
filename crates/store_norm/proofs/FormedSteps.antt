-- What formed plans ask for: the types below their fields are Names, and no field is the type name of a record.
use Rattle.std.proofs.Common.{◌≡◌, Bool, true, false, cond, List, [], ◌∷◌, refl}
use Rattle.std.proofs.lemmas.Bool.{and_parts}
use Rattle.std.specs.List.{AllByRecursion}
use Rattle.plan_ir.specs.gql_plain.Names.{is_name}
use Rattle.plan_ir.specs.Normal as n
use Rattle.plan_ir.specs.Normal.{Normal}
use Rattle.plan_ir.specs.NormalMeaning.{Plan, guard_passes, object_form, below_step, collect_steps, are_names, is_field_name, is_formed}
use Rattle.plan_ir.specs.schema_types.Environments.{Values}
use Rattle.plan_ir.specs.store_model.Items.{Asked, Below, Form, typename, leaf, one, many, asked_of}
use Rattle.plan_ir.specs.store_model.Reaches.{types_of}
use Rattle.plan_ir.specs.store_record.Keys.{Text}
use Rattle.store_norm.proofs.EachReport.{asked_append}

abbrev pub Formed : Plan → Type 0
Formed p = is_formed p.steps ≡ true

abbrev pub IsName : Text → Type 0
IsName T = is_name T ≡ true

-- a field of a record has a name that is not `__typename`
abbrev pub FieldOf : Form → Text → Type 0
FieldOf typename name = Unit {0}
FieldOf leaf name = is_field_name name ≡ true
FieldOf (one b) name = is_field_name name ≡ true
FieldOf (many b) name = is_field_name name ≡ true

abbrev pub FormedField : Asked Plan → Type 0
FormedField a = FieldOf a.ask.form a.ask.name × AllByRecursion IsName (types_of a.ask.form) × Formed a.part

each_name : (ts : List Text) → are_names ts ≡ true → AllByRecursion IsName ts
each_name [] h = tt
each_name (t ∷ ts) h = let both = and_parts (is_name t) (are_names ts) h in (both.0, each_name ts both.1)

object_field : (m : Bool) (b : Below) (name : Text) → is_field_name name ≡ true → FieldOf (object_form m b) name
object_field true b name is = is
object_field false b name is = is

object_types : (m : Bool) (b : Below) → AllByRecursion IsName b.types → AllByRecursion IsName (types_of (object_form m b))
object_types true b all = all
object_types false b all = all

pub steps_ask : (env : Values) (T : Text) (steps : Normal) → is_formed steps ≡ true → AllByRecursion FormedField (asked_of (collect_steps env T steps))
steps_ask env T n.done h = tt
steps_ask env T (n.typename r rest) h = ((tt, tt, refl), steps_ask env T rest h)
steps_ask env T (n.leaf r name xs rest) h =
    let both = and_parts (is_field_name name) (is_formed rest) h in
    ((both.0, tt, refl), steps_ask env T rest both.1)
steps_ask env T (n.object r name xs m ts is o c child rest) h =
    let both = and_parts (is_field_name name) _ h in
    let more = and_parts (are_names ts) _ both.1 in
    let plans = and_parts (is_formed child) (is_formed rest) more.1 in
    let below = below_step ts is o in
    ((object_field m below name both.0, object_types m below (each_name ts more.0), plans.0), steps_ask env T rest plans.1)
steps_ask env T (n.guarded g child rest) h =
    let both = and_parts (is_formed child) (is_formed rest) h in
    asked_append FormedField (cond (guard_passes env T g) (collect_steps env T child) []) (collect_steps env T rest)
    (at (guard_passes env T g) (steps_ask env T child both.0)) (steps_ask env T rest both.1)
  where
    at : (passes : Bool) → AllByRecursion FormedField (asked_of (collect_steps env T child))
        → AllByRecursion FormedField (asked_of (cond passes (collect_steps env T child) []))
    at true all = all
    at false all = tt
