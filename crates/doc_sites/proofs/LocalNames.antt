-- The names of the local variables that directives define.
use Rattle.std.proofs.Common.{◌≡◌, Bool, true, false, cond, List, [], ◌∷◌, ◌++◌, bytes_eq, refl, ◌∙◌}
use Rattle.std.proofs.lemmas.List.{map-append}
use Rattle.std.specs.Prelude.{codes}
use Rattle.schema_types.specs.ArgumentRules.{argument_names, locals_in}
use Rattle.schema_types.specs.schema_trees.Located.{Located}
use Rattle.schema_types.specs.NameRules.{names_of_all}
use Rattle.schema_types.specs.schema_rules.Rules.{each, names_of}
use Rattle.schema_types.specs.Sites.{DirectiveAt}
use Rattle.doc_sites.specs.Locals.{located_locals}

locals_if : (b : Bool) (ns : List Located) → names_of (cond b ns []) ≡ cond b (names_of_all ns) []
locals_if true ns = refl
locals_if false ns = refl

-- the names of local variables
pub locals_names : (ds : List DirectiveAt) → names_of (each located_locals ds) ≡ each locals_in ds
locals_names [] = refl
locals_names (d ∷ ds) =
    map-append (λ (n : Located). n.name) (located_locals d) (each located_locals ds)
    ∙ (λ k. locals_if (bytes_eq d.name.name (codes "argumentDefinitions")) (argument_names d.arguments) k ++ locals_names ds k)

pub ruleset naming = (locals_names)
