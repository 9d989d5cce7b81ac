-- The variables that are used in operations and fragments, and those that operations define.
use Rattle.std.specs.Prelude.{List, map, None}
use Rattle.doc_uses.specs.schema_types.ArgumentRules.{Use, uses_of}
use Rattle.doc_uses.specs.schema_trees.Located.{Located}
use Rattle.doc_uses.specs.schema_types.Sites.{ArgumentAt, FragmentAt, OperationAt, VariableAt}
use Rattle.doc_uses.specs.schema_tables.Types.{Defs}
use Rattle.doc_uses.specs.UseView.{uses_at}

-- the variables in an argument for which no type is known
abbrev pub uses_unknown : Defs → ArgumentAt → List Use
uses_unknown defs a = uses_at defs a None

-- those in an operation itself, and in a fragment itself
abbrev pub uses_in_operation : Defs → OperationAt → List Use
uses_in_operation defs o = uses_of defs o.directives o.sites

abbrev pub uses_in_fragment : Defs → FragmentAt → List Use
uses_in_fragment defs f = uses_of defs f.directives f.sites

abbrev pub variable_names : List VariableAt → List Located
variable_names vs = map (λ (v : VariableAt). v.name) vs
