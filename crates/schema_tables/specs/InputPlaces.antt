-- The places of the names of inputs, and of those that have to be given.
use Rattle.std.specs.Prelude.{ℕ, Bool, ◌&&◌, List, bytes_eq}
use Rattle.gql_ast.specs.declared.member.InputTree.{InputTree}
use Rattle.gql_graph.specs.Texts.{Text}
use Rattle.schema_tables.specs.Indexes.{IsIndexOf}
pub use Rattle.schema_tables.specs.Indexes.{input_name}
use Rattle.schema_tables.specs.Inputs.{must_be_given}
use Rattle.schema_tables.specs.Types.{input_def}

abbrev pub is_named : Text → InputTree → Bool
is_named n i = bytes_eq i.name n

abbrev pub is_needed : Text → InputTree → Bool
is_needed n i = must_be_given (input_def i) && bytes_eq i.name n

-- the inputs are found by these places
pub record ArePlaced (is : List InputTree) (found needed : List ℕ) : Type 0 where
  pub names : IsIndexOf input_name is_named is found
  pub required : IsIndexOf input_name is_needed is needed
