-- What passes the test of a name has this name.
use Rattle.std.proofs.Common.{◌≡◌, true, true≢false, sym, bytes_eq}
use Rattle.std.proofs.lemmas.Slice.Eq.{bytes_eq-Decides}
use Rattle.gql_ast.specs.declared.member.InputTree.{InputTree}
use Rattle.gql_ast.specs.declared.schema.SchemaDef.{SchemaDef}
use Rattle.gql_ast.specs.declared.schema.SchemaDef.TheVariants as S
use Rattle.schema_tables.proofs.Counting.{and_right}
use Rattle.schema_tables.specs.Indexes.{definition_name, is_named}
use Rattle.schema_tables.specs.InputPlaces.{input_name, is_needed}
use Rattle.schema_tables.specs.Inputs.{must_be_given}
use Rattle.schema_tables.specs.Objects.{names_object}
use Rattle.schema_tables.specs.Parts.{is_type, is_directive}
use Rattle.schema_tables.specs.Types.{Text, input_def}

same : (m n : Text) → bytes_eq m n ≡ true → m ≡ n
same m n e = (bytes_eq-Decides m n).0 e

pub has_that_name : {X : Type 0} (name : X → Text) (n : Text) (x : X) → is_named name n x ≡ true → name x ≡ n
has_that_name name n x e = same (name x) n e

pub needed_named : (n : Text) (i : InputTree) → is_needed n i ≡ true → input_name i ≡ n
needed_named n i e = same i.name n (and_right (must_be_given (input_def i)) (bytes_eq i.name n) e)

pub type_named : (n : Text) (d : SchemaDef) → is_type n d ≡ true → definition_name d ≡ n
type_named n (S.Schema ds rs) e = absurd (true≢false (sym e))
type_named n (S.Scalar m ds) e = same m n e
type_named n (S.Object m is ds fs) e = same m n e
type_named n (S.Interface m is ds fs) e = same m n e
type_named n (S.Union m ds ms) e = same m n e
type_named n (S.Enum m ds vs) e = same m n e
type_named n (S.Input m ds fs) e = same m n e
type_named n (S.Directive m xs r ls) e = absurd (true≢false (sym e))

pub directive_named : (n : Text) (d : SchemaDef) → is_directive n d ≡ true → definition_name d ≡ n
directive_named n (S.Schema ds rs) e = absurd (true≢false (sym e))
directive_named n (S.Scalar m ds) e = absurd (true≢false (sym e))
directive_named n (S.Object m is ds fs) e = absurd (true≢false (sym e))
directive_named n (S.Interface m is ds fs) e = absurd (true≢false (sym e))
directive_named n (S.Union m ds ms) e = absurd (true≢false (sym e))
directive_named n (S.Enum m ds vs) e = absurd (true≢false (sym e))
directive_named n (S.Input m ds fs) e = absurd (true≢false (sym e))
directive_named n (S.Directive m xs r ls) e = same m n e

pub object_named : (n : Text) (d : SchemaDef) → names_object n d ≡ true → definition_name d ≡ n
object_named n (S.Schema ds rs) e = absurd (true≢false (sym e))
object_named n (S.Scalar m ds) e = absurd (true≢false (sym e))
object_named n (S.Object m is ds fs) e = same m n e
object_named n (S.Interface m is ds fs) e = absurd (true≢false (sym e))
object_named n (S.Union m ds ms) e = absurd (true≢false (sym e))
object_named n (S.Enum m ds vs) e = absurd (true≢false (sym e))
object_named n (S.Input m ds fs) e = absurd (true≢false (sym e))
object_named n (S.Directive m xs r ls) e = absurd (true≢false (sym e))
