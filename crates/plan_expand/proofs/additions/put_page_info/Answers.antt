-- Four leaves, and what each set gets.
use Rattle.std.proofs.Common.{ap, ◌∙◌}
use Rattle.std.specs.Prelude.{codes}
use Rattle.plan_ir.specs.Additions.{bare_field, leaf_on, type_on}
use Rattle.plan_ir.specs.Nodes.{Nodes, nodes_append}
use Rattle.plan_expand.proofs.AdditionSteps.{five_put, page_fields}
use Rattle.plan_expand.proofs.additions.put_page_info.Goals as goal

pub returns : goal.returns
returns c =
    c.in_ok-put_field_of.ensures
    ∙ ap (λ (s : Nodes). nodes_append c.args.nodes.now (bare_field (codes "pageInfo") (type_on c.args.adding.now.schema.now c.args.of.now (codes "pageInfo")) s c.args.place))
    (five_put _ _ _ _ _ _ _ _ _ _
    (c.in_ok-put_leaf.ensures ∙ ap (λ (ns : Nodes). nodes_append ns (leaf_on c.args.adding.now.schema.now c.base_on-info.result.now c.args.place (codes "endCursor"))) c.new-inside.ensures)
    c.in_ok-put_leaf-2.ensures c.in_ok-put_leaf-3.ensures c.in_ok-put_leaf-4.ensures c.in_ok-put_record.ensures)
    ∙ (λ i. nodes_append c.args.nodes.now
    (bare_field (codes "pageInfo") (type_on c.args.adding.now.schema.now c.args.of.now (codes "pageInfo"))
    (page_fields c.args.adding.now.schema.now (c.base_on-info.ensures i) (c.new-nothing.ensures i) c.args.place) c.args.place))
