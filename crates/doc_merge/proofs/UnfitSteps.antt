-- Noting the values of a node, and then those of what stands in it.
use Rattle.std.proofs.Common.{◌≡◌, List, [], ◌++◌, Option, ap, sym, ◌∙◌}
use Rattle.plan_ir.specs.gql_ast.TypeView.{ty_of}
use Rattle.plan_ir.specs.gql_ast.declared.directive.Directive.{Directive}
use Rattle.plan_ir.specs.gql_ast.declared.place.FilePlace.{FilePlace}
use Rattle.plan_ir.specs.gql_ast.declared.type_tree.TypeTree.{TypeTree}
use Rattle.plan_ir.specs.gql_ast.declared.variable.VariableDef.{VariableDef}
use Rattle.plan_ir.specs.gql_plain.declared.ids.Conn.{Conn}
use Rattle.plan_ir.specs.Nodes.{Nodes}
use Rattle.plan_ir.specs.NodesView.{node_of}
use Rattle.plan_ir.specs.declared.node.Node.{Node}
use Rattle.plan_ir.specs.declared.node.Node.TheVariants as N
use Rattle.plan_ir.specs.schema_tables.Types.{Text, Defs, base_of}
use Rattle.plan_ir.specs.schema_tables.Views.{InputDef}
use Rattle.doc_merge.proofs.LeastSteps.{least-append}
use Rattle.doc_merge.specs.Gathering.{on_or}
use Rattle.doc_merge.specs.Places.{least_from}
use Rattle.doc_merge.specs.Signatures.{Argument}
use Rattle.doc_merge.specs.Values.{arguments_unfit, directives_unfit, field_inputs, nodes_unfit}

pub field_unfit : (defs : Defs) (vs : List VariableDef) (around : Text) (x : Node) (r n : Text) (xs : List Argument) (ds : List Directive) (k : Option Conn) (of : TypeTree) (s : Nodes) (p : FilePlace)
    → x ≡ N.Field r n xs ds k of s p → (o a b e : Option FilePlace) (is : Option (List InputDef)) (base : Text) → is ≡ field_inputs defs around n → base ≡ base_of (ty_of of)
    → a ≡ least_from o (arguments_unfit defs vs is p xs) → b ≡ least_from a (directives_unfit defs vs p ds) → e ≡ least_from b (nodes_unfit defs vs base s)
    → e ≡ least_from o (nodes_unfit defs vs around (node_of x))
field_unfit defs vs around x r n xs ds k of s p same o a b e is base known inside first second third =
    let as_ : List FilePlace = arguments_unfit defs vs (field_inputs defs around n) p xs in
    let bs : List FilePlace = directives_unfit defs vs p ds in
    let cs : List FilePlace = nodes_unfit defs vs (base_of (ty_of of)) s in
    let whole : least_from o (nodes_unfit defs vs around (node_of x)) ≡ least_from (least_from (least_from o as_) bs) cs =
    ap (λ (y : Node). least_from o (nodes_unfit defs vs around (node_of y))) same ∙ least-append o ((as_ ++ bs) ++ cs) [] ∙ least-append o (as_ ++ bs) cs
    ∙ ap (λ (q : Option FilePlace). least_from q cs) (least-append o as_ bs) in
    third ∙ ap (λ (t : Text). least_from b (nodes_unfit defs vs t s)) inside ∙ ap (λ (q : Option FilePlace). least_from q cs) second
    ∙ ap (λ (q : Option FilePlace). least_from (least_from q bs) cs) first
    ∙ ap (λ (js : Option (List InputDef)). least_from (least_from (least_from o (arguments_unfit defs vs js p xs)) bs) cs) known ∙ sym whole

pub inline_unfit : (defs : Defs) (vs : List VariableDef) (around : Text) (x : Node) (on : Option Text) (ds : List Directive) (s : Nodes) (p : FilePlace)
    → x ≡ N.Inline on ds s p → (o a e : Option FilePlace) (inner : Text) → inner ≡ on_or around on
    → a ≡ least_from o (directives_unfit defs vs p ds) → e ≡ least_from a (nodes_unfit defs vs inner s) → e ≡ least_from o (nodes_unfit defs vs around (node_of x))
inline_unfit defs vs around x on ds s p same o a e inner inside first second =
    let bs : List FilePlace = directives_unfit defs vs p ds in
    let cs : List FilePlace = nodes_unfit defs vs (on_or around on) s in
    let whole : least_from o (nodes_unfit defs vs around (node_of x)) ≡ least_from (least_from o bs) cs =
    ap (λ (y : Node). least_from o (nodes_unfit defs vs around (node_of y))) same ∙ least-append o (bs ++ cs) [] ∙ least-append o bs cs in
    second ∙ ap (λ (t : Text). least_from a (nodes_unfit defs vs t s)) inside ∙ ap (λ (q : Option FilePlace). least_from q cs) first ∙ sym whole
