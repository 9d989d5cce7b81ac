-- The lines of artifacts (this project's own).
use Rattle.std.specs.Prelude.{codes}
use Rattle.plan_ir.specs.gql_plain.ToJson.{compact}
use Rattle.plan_ir.specs.gql_plain.Tree.{no_members, object}
use Rattle.plan_ir.specs.OperationText.{fragment_line, operation_line, text_member}
use Rattle.plan_text.specs.declared.artifact.Artifact.{Artifact}
use Rattle.plan_text.specs.declared.artifact.Artifact.TheVariants.{Operation, Fragment}
use Rattle.plan_ir.specs.schema_tables.Types.{Text}

abbrev pub line_of : Artifact → Text
line_of (Operation k n t) = operation_line k n t
line_of (Fragment n on) = fragment_line n on

-- `{"kind":KIND,"name":NAME,KEY:VALUE}`
abbrev pub three_texts : (kind name key value : Text) → Text
three_texts k n key v =
    compact (object (text_member (codes "kind") k (text_member (codes "name") n (text_member key v no_members))))
