-- Worked rows of what the laws of plans ask: an operation that stands in no document meets the rules that it needs, and fields that cannot merge
-- may be alike.
use Rattle.std.proofs.Common.{◌≡◌, ℕ, true≢false, List, [], ◌∷◌, Option, Some, None, codes, refl, ap, sym, ◌∙◌, inl, inr}
use Rattle.plan_ir.specs.gql_ast.Sels as sels
use Rattle.plan_ir.specs.gql_ast.Sels.{Sels}
use Rattle.plan_ir.specs.gql_ast.Ty as ty
use Rattle.plan_ir.specs.gql_ast.Value as v
use Rattle.plan_ir.specs.gql_ast.declared.document.Kind.TheVariants.{Query}
use Rattle.plan_ir.specs.gql_ast.declared.member.FieldTree.{FieldTree}
use Rattle.plan_ir.specs.gql_ast.declared.member.InputTree.{InputTree}
use Rattle.plan_ir.specs.gql_ast.declared.place.FilePlace.{FilePlace}
use Rattle.plan_ir.specs.gql_ast.declared.schema.SchemaDef.TheVariants as S
use Rattle.plan_ir.specs.gql_ast.declared.type_tree.TypeTree.{TypeTree}
use Rattle.plan_ir.specs.gql_ast.declared.type_tree.TypeTree.TheVariants as T
use Rattle.doc_merge.specs.Collected.{last_field}
use Rattle.doc_merge.specs.Faults.{field_differences}
use Rattle.doc_merge.specs.Gathering.{fields_in}
use Rattle.doc_merge.specs.Paths.{Path, paths}
use Rattle.plan_build.proofs.SuitedNodes.{fragment_holds}
use Rattle.plan_build.specs.FieldsAlike.{FieldsAreAlike}
use Rattle.plan_build.specs.Meeting.{FragmentMeets, OperationMeetsRules}
use Rattle.plan_ir.specs.Expansion.{Project}
use Rattle.plan_ir.specs.Nodes as nodes
use Rattle.plan_ir.specs.Nodes.{Nodes}
use Rattle.plan_ir.specs.declared.expanded.Expanded.{Expanded}
use Rattle.plan_ir.specs.schema_tables.Types.{Text, Defs}
use Rattle.plan_ir.specs.schema_types.Sites.{FragmentAt, OperationAt, fragment_at, operation_at}
use Rattle.plan_ir.specs.store_model.Alike.{Among}

-- ---- an operation that is made

abbrev some_id : TypeTree
some_id = T.NonNull (ty.named (codes "ID"))

abbrev id_member : FieldTree
id_member = record { name = codes "id"; arguments = []; of = some_id; directives = [] }

abbrev node_member : FieldTree
node_member = record {
  name = codes "node";
  arguments = record { name = codes "id"; of = some_id; default = None; directives = [] } ∷ [];
  of = T.Named (codes "Node");
  directives = [];
}

-- `type Query{node(id:ID!):Node} interface Node{id:ID!} type User implements Node{id:ID!}`
abbrev defs : Defs
defs =
    S.Object (codes "Query") [] [] (node_member ∷ [])
    ∷ S.Interface (codes "Node") [] [] (id_member ∷ [])
    ∷ S.Object (codes "User") (codes "Node" ∷ []) [] (id_member ∷ [])
    ∷ []

-- `fragment F on User{id}`, the one definition of the documents
abbrev F : FragmentAt
F = fragment_at defs 1 (record { name = codes "F"; on = codes "User"; directives = []; selections = sels.field None (codes "id") [] [] sels.end sels.end })

abbrev project : Project
project = record { defs = defs; fragments = F ∷ []; place = λ n. record { file = 1; line = 1; column = n } }

-- `query Q{node(id:$id){...F}}`
abbrev made : OperationAt
made = operation_at defs 1 (record {
  kind = Query;
  name = Some (codes "Q");
  variables = [];
  directives = [];
  selections = sels.field None (codes "node") ((codes "id", v.variable (codes "id")) ∷ []) [] (sels.spread (codes "F") [] sels.end) sels.end;
})

F_meets : FragmentMeets defs F
F_meets = (record { there = refl; bare = λ same. refl; plain = λ same. refl; alone = λ same. refl; connection = λ i. absurd (true≢false (sym i)); filled = λ i. absurd (true≢false (sym i)) }, tt, tt)

pub made_operation_meets : OperationMeetsRules project made
made_operation_meets = record {
  there = refl;
  selections = (record { there = refl; bare = λ same. cc; plain = λ same. refl; alone = λ same. cc; connection = λ i. absurd (true≢false (sym i)); filled = λ i. absurd (true≢false (sym i)) }, tt, tt);
  fragments = λ n f found. fragment_holds (FragmentMeets defs) (F ∷ []) n f (F_meets, tt) found;
}

-- ---- fields that are alike

abbrev at : ℕ → FilePlace
at n = record { file = 1; line = 1; column = n }

abbrev node_of : (id : Text) → ℕ → (rest : Nodes) → Nodes
node_of id n rest = nodes.field (codes "node") (codes "node") ((codes "id", v.text id) ∷ []) [] None (ty.named (codes "Node")) nodes.end (at n) rest

-- `query Q{node(id:"1") node(id:"2")}`, without the fields below
abbrev other_arguments : Expanded
other_arguments = record {
  kind = Some Query;
  name = codes "Q";
  root = codes "Query";
  variables = [];
  directives = [];
  selections = node_of (codes "1") 1 (node_of (codes "2") 2 nodes.end);
}

-- V24 forbids it
pub they_cannot_merge : field_differences defs other_arguments ≡ at 2 ∷ []
they_cannot_merge = refl

-- but both fields have one name
pub they_are_alike : FieldsAreAlike defs other_arguments
they_are_alike s u there back objects h k same = is_node s there ∙ sym (is_node u back)
  where
    is_node : (w : Path) → Among w (paths (fields_in defs other_arguments)) → (last_field w).signature.name ≡ codes "node"
    is_node w (inl is) = ap (λ (x : Path). (last_field x).signature.name) (sym is)
    is_node w (inr (inl is)) = ap (λ (x : Path). (last_field x).signature.name) (sym is)
    is_node w (inr (inr none)) = absurd none
