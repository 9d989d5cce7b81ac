-- Steps of the walk over expanded nodes.
use Rattle.std.proofs.Common.{◌≡◌, ℕ, zero, suc, ◌+◌, ◌<◌, ◌≤◌, List, [], ◌∷◌, ◌++◌, Option, drop, length, get_or, append_assoc, add-one, refl, ap, sym, ◌∙◌, arith}
use Rattle.std.proofs.Math.Seq.{drop-cons}
use Rattle.plan_ir.specs.Nodes as nodes
use Rattle.plan_ir.specs.Nodes.{Nodes, set_depth}
use Rattle.plan_ir.specs.NodesView.{node_before, node_of, nodes_of}
use Rattle.plan_ir.specs.declared.node.Node.{Node}
use Rattle.plan_ir.specs.declared.node.Node.TheVariants as N
use Rattle.plan_ir.specs.gql_ast.Ty.{Ty}
use Rattle.plan_ir.specs.gql_ast.declared.place.FilePlace.{FilePlace}
use Rattle.plan_ir.specs.schema_tables.Types.{Text, Defs, base_of}
use Rattle.doc_merge.specs.Gathering.{fields_before, fields_of, object_or_none, on_or}
use Rattle.doc_merge.specs.Merging.{Fields}
use Rattle.doc_merge.specs.Paths.{Pattern, Row, rows_of}
use Rattle.doc_merge.specs.Shapes.{shape_of}
use Rattle.doc_merge.specs.Signatures.{Argument}

-- ---- depths

before_deep : (x : Node) (t : Nodes) → set_depth (node_of x) ≤ set_depth (node_before x t)
before_deep (N.Field r n xs ds c of s p) t = omega arith
before_deep (N.Inline o ds s p) t = omega arith

rest_deep : (x : Node) (t : Nodes) → set_depth t ≤ set_depth (node_before x t)
rest_deep (N.Field r n xs ds c of s p) t = omega arith
rest_deep (N.Inline o ds s p) t = omega arith

node_deep : (xs : List Node) (i : ℕ) (d : Node) → i < length xs → set_depth (node_of (get_or xs i d)) ≤ set_depth (nodes_of xs)
node_deep [] i d h = absurd (omega arith)
node_deep (x ∷ xs) zero d h = before_deep x (nodes_of xs)
node_deep (x ∷ xs) (suc i) d h =
    let e : set_depth (node_of (get_or xs i d)) ≤ set_depth (nodes_of xs) = node_deep xs i d (omega arith) in
    omega (arith, e, rest_deep x (nodes_of xs))

-- a node is at most as deep as the set that it stands in
pub node_below : (xs : List Node) (whole : Nodes) (i : ℕ) (x : Node) → i < length xs → x ≡ get_or xs i x → nodes_of xs ≡ whole → set_depth (node_of x) ≤ set_depth whole
node_below xs whole i x h is e =
    let held : set_depth (node_of (get_or xs i x)) ≤ set_depth (nodes_of xs) = node_deep xs i x h in
    omega (arith, held, ap (λ (y : Node). set_depth (node_of y)) is, ap set_depth e)

pub inline_deep : (x : Node) (o : Option Text) (ds : List _) (s : Nodes) (p : _) → x ≡ N.Inline o ds s p → set_depth s < set_depth (node_of x)
inline_deep x o ds s p e = let deep : set_depth (node_of x) ≡ set_depth s + 1 = ap (λ (y : Node). set_depth (node_of y)) e ∙ omega arith in omega (arith, deep)

-- ---- the fields of a set

abbrev row_at : Defs → Pattern → (around r n : Text) → List Argument → Ty → Nodes → FilePlace → Row
row_at defs ps around r n xs of s p =
    (ps, record { key = r; parent = object_or_none defs around; shape = shape_of defs of; signature = record { name = n; arguments = xs }; place = p }, fields_of defs (base_of of) s)

pub rows_before : (defs : Defs) (ps : Pattern) (around : Text) (s : Nodes) (after : Fields)
    → rows_of ps (fields_before defs around s after) ≡ rows_of ps (fields_of defs around s) ++ rows_of ps after
rows_before defs ps around nodes.end after = refl
rows_before defs ps around (nodes.field r n xs ds c of s p rest) after = ap (λ (ws : List Row). row_at defs ps around r n xs of s p ∷ ws) (rows_before defs ps around rest after)
rows_before defs ps around (nodes.inline o ds s p rest) after =
    rows_before defs ps (on_or around o) s (fields_before defs around rest after)
    ∙ ap (λ (ws : List Row). rows_of ps (fields_of defs (on_or around o) s) ++ ws) (rows_before defs ps around rest after)
    ∙ sym (append_assoc (rows_of ps (fields_of defs (on_or around o) s)) (rows_of ps (fields_of defs around rest)) (rows_of ps after))
    ∙ ap (λ (ws : List Row). ws ++ rows_of ps after) (sym (rows_before defs ps (on_or around o) s (fields_of defs around rest)))

one_before : (defs : Defs) (ps : Pattern) (around : Text) (x : Node) (t : Nodes)
    → rows_of ps (fields_of defs around (node_before x t)) ≡ rows_of ps (fields_of defs around (node_of x)) ++ rows_of ps (fields_of defs around t)
one_before defs ps around (N.Field r n xs ds c of s p) t = refl
one_before defs ps around (N.Inline o ds s p) t = rows_before defs ps (on_or around o) s (fields_of defs around t)

-- one more node
pub rows_next : (defs : Defs) (ps : Pattern) (around : Text) (xs : List Node) (i : ℕ) (x : Node) (old new whole : List Row) → i < length xs → x ≡ get_or xs i x
    → new ≡ old ++ rows_of ps (fields_of defs around (node_of x)) → old ++ rows_of ps (fields_of defs around (nodes_of (drop i xs))) ≡ whole
    → new ++ rows_of ps (fields_of defs around (nodes_of (drop (i + 1) xs))) ≡ whole
rows_next defs ps around xs i x old new whole h is e w =
    let rest : List Row = rows_of ps (fields_of defs around (nodes_of (drop (i + 1) xs))) in
    let same : drop i xs ≡ get_or xs i x ∷ drop (i + 1) xs = rw add-one (drop-cons xs i x h) in
    ap (λ (ws : List Row). ws ++ rest) e
    ∙ append_assoc old (rows_of ps (fields_of defs around (node_of x))) rest
    ∙ ap (λ (ws : List Row). old ++ ws) (sym (one_before defs ps around x (nodes_of (drop (i + 1) xs))))
    ∙ ap (λ (y : Node). old ++ rows_of ps (fields_of defs around (node_before y (nodes_of (drop (i + 1) xs))))) is
    ∙ sym (ap (λ (ys : List Node). old ++ rows_of ps (fields_of defs around (nodes_of ys))) same) ∙ w
