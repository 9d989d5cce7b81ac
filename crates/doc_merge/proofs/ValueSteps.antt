-- Noting the values of one more node, directive or argument.
use Rattle.std.specs.Prelude.{option_copied}
use denote.Ref.{Bor}
use Rattle.std.proofs.Common.{◌≡◌, ℕ, cond, bytes_eq, Some, ◌+◌, ◌<◌, Bool, true, false, not, List, ◌++◌, map, drop, length, get_or, Option, refl, ap, sym, ◌∙◌}
use Rattle.std.proofs.lemmas.List.{append-nil}
use Rattle.plan_ir.specs.gql_ast.ValueView.{value_of, argument_of}
use Rattle.plan_ir.specs.gql_ast.declared.directive.Directive.{Directive}
use Rattle.plan_ir.specs.gql_ast.declared.place.FilePlace.{FilePlace}
use Rattle.plan_ir.specs.gql_ast.declared.value.Argument.{Argument}
use Rattle.plan_ir.specs.gql_ast.declared.variable.VariableDef.{VariableDef}
use Rattle.plan_ir.specs.Nodes.{Nodes}
use Rattle.plan_ir.specs.NodesView.{node_before, node_of, nodes_of}
use Rattle.plan_ir.specs.declared.node.Node.{Node}
use Rattle.plan_ir.specs.declared.node.Node.TheVariants as N
use Rattle.plan_ir.specs.schema_tables.Types.{Text, Defs}
use Rattle.plan_ir.specs.schema_tables.Views.{InputDef}
use Rattle.doc_merge.proofs.LeastSteps.{least-append}
use Rattle.doc_merge.proofs.NoteSteps.{drop_next}
use Rattle.doc_merge.specs.Places.{least_from, wrong}
use Rattle.doc_merge.specs.Values.{arguments_unfit, directive_inputs, directives_unfit, input_in, is_good_value, nodes_unfit, variable_named}

unfit_one : (defs : Defs) (vs : List VariableDef) (around : Text) (x : Node) (t : Nodes) → nodes_unfit defs vs around (node_before x t) ≡ nodes_unfit defs vs around (node_of x) ++ nodes_unfit defs vs around t
unfit_one defs vs around (N.Field r n xs ds c of s p) t = ap (λ (ps : List FilePlace). ps ++ nodes_unfit defs vs around t) (sym (append-nil _))
unfit_one defs vs around (N.Inline o ds s p) t = ap (λ (ps : List FilePlace). ps ++ nodes_unfit defs vs around t) (sym (append-nil _))

pub unfit_next : (defs : Defs) (vs : List VariableDef) (around : Text) (xs : List Node) (i : ℕ) (x : Node) (o p whole : Option FilePlace) → i < length xs → x ≡ get_or xs i x
    → p ≡ least_from o (nodes_unfit defs vs around (node_of x)) → least_from o (nodes_unfit defs vs around (nodes_of (drop i xs))) ≡ whole
    → least_from p (nodes_unfit defs vs around (nodes_of (drop (i + 1) xs))) ≡ whole
unfit_next defs vs around xs i x o p whole h is e w =
    ap (λ (q : Option FilePlace). least_from q (nodes_unfit defs vs around (nodes_of (drop (i + 1) xs)))) e
    ∙ sym (least-append o (nodes_unfit defs vs around (node_of x)) (nodes_unfit defs vs around (nodes_of (drop (i + 1) xs))))
    ∙ sym (ap (least_from o) (unfit_one defs vs around x (nodes_of (drop (i + 1) xs))))
    ∙ sym (ap (λ (ys : List Node). least_from o (nodes_unfit defs vs around (nodes_of ys))) (drop_next xs i x h is)) ∙ w

pub directive_next : (defs : Defs) (vs : List VariableDef) (at : FilePlace) (ds : List Directive) (i : ℕ) (d : Directive) (o p whole : Option FilePlace) → i < length ds → d ≡ get_or ds i d
    → p ≡ least_from o (arguments_unfit defs vs (directive_inputs defs d.name) at d.arguments) → least_from o (directives_unfit defs vs at (drop i ds)) ≡ whole
    → least_from p (directives_unfit defs vs at (drop (i + 1) ds)) ≡ whole
directive_next defs vs at ds i d o p whole h is e w =
    ap (λ (q : Option FilePlace). least_from q (directives_unfit defs vs at (drop (i + 1) ds))) e
    ∙ sym (least-append o (arguments_unfit defs vs (directive_inputs defs d.name) at d.arguments) (directives_unfit defs vs at (drop (i + 1) ds)))
    ∙ sym (ap (λ (es : List Directive). least_from o (directives_unfit defs vs at es)) (drop_next ds i d h is)) ∙ w

pub argument_next : (defs : Defs) (vs : List VariableDef) (is : Option (List InputDef)) (at : FilePlace) (xs : List Argument) (i : ℕ) (x : Argument) (good : Bool) (o p whole : Option FilePlace) → i < length xs
    → x ≡ get_or xs i x → good ≡ is_good_value defs vs (input_in is x.name) (value_of x.value) → p ≡ least_from o (wrong (not good) at)
    → least_from o (arguments_unfit defs vs is at (map argument_of (drop i xs))) ≡ whole → least_from p (arguments_unfit defs vs is at (map argument_of (drop (i + 1) xs))) ≡ whole
argument_next defs vs is at xs i x good o p whole h same g e w =
    ap (λ (q : Option FilePlace). least_from q (arguments_unfit defs vs is at (map argument_of (drop (i + 1) xs)))) (e ∙ ap (λ (b : Bool). least_from o (wrong (not b) at)) g)
    ∙ sym (least-append o (wrong (not (is_good_value defs vs (input_in is x.name) (value_of x.value))) at) (arguments_unfit defs vs is at (map argument_of (drop (i + 1) xs))))
    ∙ sym (ap (λ (ys : List Argument). least_from o (arguments_unfit defs vs is at (map argument_of ys))) (drop_next xs i x h same)) ∙ w

-- ---- variables by their names

pub variable_next : (vs : List VariableDef) (i : ℕ) (v : VariableDef) (n : Text) (old new : Option VariableDef) → i < length vs → v ≡ get_or vs i v → old ≡ variable_named (drop (i + 1) vs) n
    → new ≡ cond (bytes_eq v.name n) (Some v) old → new ≡ variable_named (drop i vs) n
variable_next vs i v n old new h e f g =
    g ∙ ap (λ (o : Option VariableDef). cond (bytes_eq v.name n) (Some v) o) f ∙ sym (ap (λ (us : List VariableDef). variable_named us n) (drop_next vs i v h e))

pub copied_cond : {X : Type 0} (b : Bool) (x : Bor X) (o : Option (Bor X)) → option_copied (cond b (Some x) o) ≡ cond b (Some x.now) (option_copied o)
copied_cond true x o = refl
copied_cond false x o = refl
