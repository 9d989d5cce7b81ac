use Rattle.std.proofs.Common.{ap, ◌∙◌, bytes_eq}
use Rattle.std.specs.List.{list_any}
use Rattle.store_watch.proofs.Named.{uses_rows}
use Rattle.store_watch.specs.declared.rows.Row.{Row}
use Rattle.store_watch.proofs.rows.is_used.Goals as goal

pub returns : goal.returns
returns c =
    let handle = c.args.handle.now in
    c.shows_handle.ensures ∙ ap (list_any (λ (r : Row). bytes_eq r.what.handle handle)) c.in_order.ensures ∙ uses_rows handle c.args.rows.now.entries
