-- What stands inside a selection is less deep than its set; one more selection, and all of them.
use Rattle.std.proofs.Common.{◌<◌, ap, ◌∙◌, arith}
use Rattle.doc_sites.specs.gql_ast.Sels.{depth}
use Rattle.doc_sites.specs.Firsts.{inside}
use Rattle.doc_sites.proofs.SiteSteps.{inside_below}
use Rattle.doc_fields.specs.Keys.{Sum, join_sums, keys_view}
use Rattle.doc_fields.proofs.Sums.{keys_next, keys_end}
use Rattle.doc_fields.proofs.keys.+keys.Goals as goal

pub keys_in-keys_at-more-requires : goal.keys_in-keys_at-more-requires
keys_in-keys_at-more-requires t c =
    let less : depth (inside c.selection-item.result) < depth c.args.selections.now =
    inside_below _ _ c.selections.selection-index c.selection-item.result (omega arith) c.selection-item.is c.selections.invariant.0 in
    (omega arith, tt)

pub keys_in-selections-preserved : goal.keys_in-selections-preserved
keys_in-selections-preserved t c = (
  c.selections.invariant.0,
  keys_next c.args.schema.now c.args.root.now _ c.selections.selection-index c.selection-item.result _ _ _
      (omega arith) c.selection-item.is (c.and-keys.ensures ∙ ap (λ (s : Sum). join_sums (keys_view c.selections.keys) s) c.keys_at-more.ensures) c.selections.invariant.1,
)

pub keys_in-returns : goal.keys_in-returns
keys_in-returns t c = keys_end c.args.schema.now c.args.root.now _ c.selections.selection-index _ _ (omega arith) c.selections.invariant.1
