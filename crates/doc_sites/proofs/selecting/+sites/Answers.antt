-- What stands inside a selection is less deep than its set; one more selection.
use Rattle.std.proofs.Common.{◌<◌, arith}
use Rattle.schema_types.specs.gql_ast.Sels.{depth}
use Rattle.doc_sites.specs.Firsts.{inside}
use Rattle.doc_sites.proofs.SiteSteps.{inside_below}
use Rattle.doc_sites.proofs.selecting.+sites.Goals as goal

pub put_sites-put_inside-requires : goal.put_sites-put_inside-requires
put_sites-put_inside-requires t c =
    let less : depth (inside c.selection-item.result) < depth c.args.selections.now =
    inside_below _ _ c.selections.selection-index c.selection-item.result (omega arith) c.selection-item.is c.selections.invariant.0 in
    (omega arith, tt)
