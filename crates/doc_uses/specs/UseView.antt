-- What places and uses of variables in the code stand for.
use Rattle.std.specs.Prelude.{List, Option, option_map, option_and_then}
use Rattle.doc_sites.specs.gql_ast.TypeView.{ty_of}
use Rattle.doc_sites.specs.gql_ast.declared.member.InputTree.{InputTree}
use Rattle.doc_sites.specs.schema_types.ArgumentRules as spec
use Rattle.doc_sites.specs.schema_types.ArgumentRules.{uses_in}
use Rattle.doc_sites.specs.schema_trees.LocatedView.{name_of}
use Rattle.doc_sites.specs.schema_types.Sites.{ArgumentAt}
use Rattle.doc_sites.specs.schema_tables.Types.{Text, Defs, base_of, inputs_of}
use Rattle.doc_uses.specs.declared.uses.Place.{Place}
use Rattle.doc_uses.specs.declared.uses.Use.{Use}

abbrev pub place_of : Place → spec.Place
place_of p = (ty_of p.of.now, p.has_default)

abbrev pub use_of : Use → spec.Use
use_of u = record { name = name_of u.name; place = option_map place_of u.place }

-- the name of the type of a place, and the input fields of a type of a name
abbrev pub name_of_place : Option spec.Place → Option Text
name_of_place p = option_map (λ (q : spec.Place). base_of q.0) p

abbrev pub fields_of_name : Defs → Option Text → Option (List InputTree)
fields_of_name defs of = option_and_then (λ n. inputs_of defs n) of

-- the variables in an argument at a place
abbrev pub uses_at : Defs → ArgumentAt → Option spec.Place → List spec.Use
uses_at defs a p = uses_in defs a.value.at a.value.of p
