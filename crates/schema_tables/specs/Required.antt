-- The names of inputs that have to be given, and how many of them are there.
use Rattle.std.specs.Prelude.{ℕ, ◌+◌, Bool, true, false, cond, not, ◌&&◌, List, [], ◌∷◌, map}
use Rattle.gql_ast.specs.Value.{Val}
use Rattle.gql_graph.specs.Rules.{each}
use Rattle.gql_graph.specs.Texts.{Text}
use Rattle.gql_graph.specs.gql_plain.Order.{has_text, sorted_texts}
use Rattle.schema_tables.specs.Views.{InputDef}
use Rattle.schema_tables.specs.Inputs.{must_be_given}

-- the name of an input that has to be given
abbrev pub required_name : InputDef → List Text
required_name i = cond (must_be_given i) (i.name ∷ []) []

-- the names of inputs that have to be given, distinct and in byte order
abbrev pub required_names : List InputDef → List Text
required_names is = sorted_texts (each required_name is)

abbrev pub one_if : Bool → ℕ
one_if true = 1
one_if false = 0

-- how many of the names are among those
abbrev pub count_among : (those : List Text) → List Text → ℕ
count_among those [] = 0
count_among those (n ∷ ns) = one_if (has_text those n) + count_among those ns

-- whether no name stands twice
abbrev pub all_differ : List Text → Bool
all_differ [] = true
all_differ (n ∷ ns) = not (has_text ns n) && all_differ ns

-- the names of the fields of an object
abbrev pub member_names : List (Text × Val) → List Text
member_names ms = map (λ (m : Text × Val). m.0) ms
