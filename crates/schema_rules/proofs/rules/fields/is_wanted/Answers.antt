-- What has a place is there.
use Rattle.std.proofs.Common.{ℕ, List, Option, is_some, bytes_eq, ap, sym, subst, ◌∙◌}
use Rattle.schema_trees.specs.gql_ast.declared.member.InputTree.{InputTree}
use Rattle.schema_rules.proofs.FoundAt.{placed_is_there, input_named-first}
use Rattle.schema_rules.proofs.rules.fields.is_wanted.Goals as goal
use Rattle.schema_trees.specs.schema_tables.Indexes.{IsNameIndex, input_name, is_named}
use Rattle.schema_trees.specs.schema_tables.Places.{first_at}

pub find-requires : goal.find-requires
find-requires c = subst (λ (is : List InputTree). IsNameIndex input_name is c.args.places.now) (sym c.as_slice.ensures) c.requires

pub returns : goal.returns
returns c =
    c.is_some.ensures
    ∙ ap (λ (r : Option ℕ). is_some r) (c.find.ensures ∙ ap (λ (is : List InputTree). first_at (is_named input_name c.args.name.now) is) c.as_slice.ensures)
    ∙ placed_is_there (λ (i : InputTree). bytes_eq i.name c.args.name.now) c.args.wanted.now.arguments
    ∙ ap (λ (o : Option InputTree). is_some o) (sym (input_named-first c.args.wanted.now.arguments c.args.name.now))
