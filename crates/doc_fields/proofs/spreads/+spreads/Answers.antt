-- What stands inside a selection is less deep than its set; one more selection.
use Rattle.std.proofs.Common.{◌<◌, arith}
use Rattle.doc_sites.specs.gql_ast.Sels.{depth}
use Rattle.doc_sites.specs.schema_types.FieldRules.{spreads_at_root}
use Rattle.doc_sites.specs.Firsts.{inside}
use Rattle.doc_sites.proofs.SiteSteps.{inside_below}
use Rattle.doc_fields.specs.Keys.{spreads_at}
use Rattle.doc_fields.proofs.RootKeys.{spreads_law}
use Rattle.doc_fields.proofs.Steps.{walks}
use Rattle.doc_fields.proofs.spreads.+spreads.Goals as goal

pub put_spreads-put_spreads_of-requires : goal.put_spreads-put_spreads_of-requires
put_spreads-put_spreads_of-requires t c =
    let less : depth (inside c.selection-item.result) < depth c.args.selections.now =
    inside_below _ _ c.selections.selection-index c.selection-item.result (omega arith) c.selection-item.is c.selections.invariant.0 in
    (omega arith, tt)

pub put_spreads-selections-preserved : goal.put_spreads-selections-preserved
put_spreads-selections-preserved t c = (
  c.selections.invariant.0,
  walks (spreads_at_root c.args.schema.now c.args.root.now) (spreads_at c.args.schema.now c.args.root.now) (spreads_law c.args.schema.now c.args.root.now) _ c.selections.selection-index c.selection-item.result _ _ _
      (omega arith) c.selection-item.is c.in_ok-put_spreads_of.ensures c.selections.invariant.1,
)
