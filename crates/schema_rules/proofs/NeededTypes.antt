-- What types need, by the definitions that define them.
use Rattle.std.proofs.Common.{◌≡◌, Bool, true, false, cond, List, [], ◌∷◌, Option, Some, unwrap_or, bytes_eq, refl}
use Rattle.std.specs.Option.{option_and_then}
use Rattle.schema_trees.specs.gql_ast.declared.schema.SchemaDef.{SchemaDef}
use Rattle.schema_trees.specs.gql_ast.declared.schema.SchemaDef.TheVariants as S
use Rattle.gql_graph.specs.Graphs.{next_in}
use Rattle.schema_rules.specs.Needing.{needing}
use Rattle.schema_rules.specs.Rules.{each, needs, needs_of}
use Rattle.schema_trees.specs.schema_tables.Types.{Text, Defs, input_fields_of}

first_or : (b : Bool) (d : SchemaDef) (ns : List Text) (rest : Option (List Text)) (more : Option SchemaDef) → ns ≡ needs_of (input_fields_of d) → unwrap_or rest [] ≡ needs_of (option_and_then input_fields_of more)
    → unwrap_or (cond b (Some ns) rest) [] ≡ needs_of (option_and_then input_fields_of (cond b (Some d) more))
first_or true d ns rest more is e = is
first_or false d ns rest more is e = e

-- of a name that several definitions define the first one tells what it needs
pub next_needing : (defs : Defs) (n : Text) → next_in (each needing defs) n ≡ needs defs n
next_needing [] n = refl
next_needing (S.Schema ds rs ∷ defs) n = next_needing defs n
next_needing (S.Scalar m ds ∷ defs) n = first_or (bytes_eq m n) (S.Scalar m ds) _ _ _ refl (next_needing defs n)
next_needing (S.Object m js ds gs ∷ defs) n = first_or (bytes_eq m n) (S.Object m js ds gs) _ _ _ refl (next_needing defs n)
next_needing (S.Interface m js ds gs ∷ defs) n = first_or (bytes_eq m n) (S.Interface m js ds gs) _ _ _ refl (next_needing defs n)
next_needing (S.Union m ds ns ∷ defs) n = first_or (bytes_eq m n) (S.Union m ds ns) _ _ _ refl (next_needing defs n)
next_needing (S.Enum m ds vs ∷ defs) n = first_or (bytes_eq m n) (S.Enum m ds vs) _ _ _ refl (next_needing defs n)
next_needing (S.Input m ds gs ∷ defs) n = first_or (bytes_eq m n) (S.Input m ds gs) _ _ _ refl (next_needing defs n)
next_needing (S.Directive m xs r ls ∷ defs) n = next_needing defs n
