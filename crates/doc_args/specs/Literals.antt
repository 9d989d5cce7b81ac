-- Literals that do not fit, by where they stand.
use Rattle.std.specs.Prelude.{ℕ, not, List, ◌++◌}
use Rattle.doc_uses.specs.gql_ast.TypeView.{ty_of}
use Rattle.doc_uses.specs.schema_types.ArgumentRules.{arguments_unfit, calls_of, default_unfit, defaults_unfit, names_differ}
use Rattle.gql_graph.specs.Rules.{each, wrong}
use Rattle.doc_uses.specs.schema_types.Sites.{ArgumentAt, VariableAt, DefinitionAt}
use Rattle.doc_uses.specs.schema_tables.Types.{Defs}

abbrev pub default_of_unfit : Defs → VariableAt → List ℕ
default_of_unfit defs v = default_unfit defs (ty_of v.defined.of) v.default

abbrev pub unfit_in : Defs → DefinitionAt → List ℕ
unfit_in defs d = defaults_unfit defs d ++ each (arguments_unfit defs) (calls_of defs d)

-- an argument for which no type is known
abbrev pub repeating : ArgumentAt → List ℕ
repeating a = wrong (not (names_differ a.value.of)) a.value.at
