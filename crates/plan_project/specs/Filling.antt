-- How the tables of operations and fragments are filled from the trees of the documents, of each name with the first.
use Rattle.std.specs.Prelude.{◌≡◌, true, cond, List, [], ◌∷◌, ◌++◌, map, Option, Some, None, is_some, bytes_eq}
use Rattle.plan_ir.specs.gql_ast.declared.document.Definition.{Definition}
use Rattle.plan_ir.specs.gql_ast.declared.document.Definition.TheVariants as D
use Rattle.plan_ir.specs.gql_ast.declared.document.Document.{Document}
use Rattle.plan_ir.specs.gql_ast.declared.document.Fragment.{Fragment}
use Rattle.plan_ir.specs.gql_ast.declared.document.Operation.{Operation}
use Rattle.plan_ir.specs.gql_ast.declared.place.Placed.{Placed}
use Rattle.plan_ir.specs.declared.form.Form.TheVariants as F
use Rattle.plan_project.specs.Lookups.{Agree, IsOperation, fragment_in, operation_in}
use Rattle.plan_project.specs.declared.operations.Compiled.{Compiled}
use Rattle.plan_project.specs.declared.operations.CompiledFragment.{CompiledFragment}
use Rattle.plan_read.specs.Plans.{reader_in}
use Rattle.plan_ir.specs.relay_marks.Locals.{locals_of_tree}
use Rattle.plan_ir.specs.relay_marks.View.{directives_of_all, local_view}
use Rattle.plan_ir.specs.schema_tables.Types.{Text, Defs, is_composite, possible}
use Rattle.plan_ir.specs.schema_types.Sites.{OperationAt}

-- ---- what is found first

-- all definitions, in the order of the files and of their texts
abbrev pub trees_in : List (Placed Document) → List Definition
trees_in [] = []
trees_in (p ∷ ps) = p.tree.definitions ++ trees_in ps

abbrev pub or_else : {X : Type 0} → Option X → Option X → Option X
or_else None later = later
or_else (Some x) later = Some x

-- the first that is found in a list
abbrev pub first_of : {X Y : Type 0} → (X → Option Y) → List X → Option Y
first_of find [] = None
first_of find (x ∷ xs) = or_else (find x) (first_of find xs)

-- an operation, where this is its name
abbrev pub operation_by : Text → (own : Option Text) → Operation → Option Operation
operation_by n None o = None
operation_by n (Some m) o = cond (bytes_eq m n) (Some o) None

abbrev pub operation_under : Text → Definition → Option Operation
operation_under n (D.Operation o) = operation_by n o.name o
operation_under n (D.Fragment f) = None

abbrev pub fragment_under : Text → Definition → Option Fragment
fragment_under n (D.Operation o) = None
fragment_under n (D.Fragment f) = cond (bytes_eq f.name n) (Some f) None

-- ---- what is put

-- what is kept of the operation of a name
pub record IsNamedOperation (defs : Defs) (ps : List (Placed Document)) (n : Text) (c : Compiled) : Type 0 where
  pub at : OperationAt
  pub there : operation_in defs ps n ≡ Some at
  pub is : IsOperation defs ps n at c

-- and of its tree
abbrev pub IsOperationOf : Defs → List (Placed Document) → Text → Operation → Compiled → Type 0
IsOperationOf defs ps n tree c = IsNamedOperation defs ps n c

-- what is kept of the tree of a fragment, and its plan
pub record IsFragmentOf (defs : Defs) (ps : List (Placed Document)) (n : Text) (tree : Fragment) (c : CompiledFragment) : Type 0 where
  pub name : c.name ≡ n
  pub on : c.on ≡ tree.on
  pub types : c.types ≡ cond (is_composite defs tree.on) (possible defs tree.on) []
  pub locals : map local_view c.locals ≡ locals_of_tree tree.directives
  pub bare : directives_of_all c.locals ≡ []
  pub planned : Some c.reader.value.steps ≡ reader_in defs ps F.Fragment n

-- a table that had what belongs to `o` under a name has now what belongs to the first of `o` and of what is found by the name
abbrev pub Takes : {X Y : Type 0} → (Text → X → Y → Type 0) → (find : Text → Option X) → (old new : Text → Option Y) → Type 0
Takes {X = X} P find old new = (n : Text) (o : Option X) → Agree (P n) o (old n) → Agree (P n) (or_else o (find n)) (new n)

-- what is found here, the documents have
abbrev pub AreOperations : Defs → List (Placed Document) → (Text → Option Operation) → Type 0
AreOperations defs ps find = (n : Text) → is_some (find n) ≡ true → is_some (operation_in defs ps n) ≡ true

abbrev pub AreFragments : Defs → List (Placed Document) → (Text → Option Fragment) → Type 0
AreFragments defs ps find = (n : Text) → is_some (find n) ≡ true → is_some (fragment_in defs ps n) ≡ true
