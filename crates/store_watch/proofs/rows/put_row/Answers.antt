use Rattle.std.proofs.Common.{◌∙◌, string_bytes}
use Rattle.std.specs.String.{string_eq}
use Rattle.indexmap.proofs.CallerLemmas.{insert_entry-new}
use Rattle.store_watch.proofs.Named.{absent}
use Rattle.store_watch.proofs.rows.put_row.Goals as goal

pub returns-clause-put : goal.returns-clause-put
returns-clause-put c =
    let name = c.args.name in
    let rows = c.args.rows.now in
    c.in_ok-insert.ensures.entries ∙ insert_entry-new string_eq rows name c.args.row (absent (string_bytes name) rows.entries c.requires)
