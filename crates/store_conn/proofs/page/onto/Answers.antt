use Rattle.std.proofs.Common.{◌≡◌, option_map, ap, ◌∙◌, arith}
use Rattle.store_model.specs.Merge.{below, kept_connection}
use Rattle.store_conn.proofs.Cases.{onto_found, edges_found}
use Rattle.store_conn.proofs.page.onto.Goals as goal
use Rattle.store_conn.specs.Connections.{kept_of}

pub returns-clause-records : goal.returns-clause-records
returns-clause-records g c =
    let m = g.S.RecordSource.records c.args.source.now in
    let h = c.args.handle.now in
    let parent = c.args.parent.now in
    let found = c.in_ok-found.ensures.found ∙ ap (λ key. option_map kept_connection (below key parent m)) c.as_str.ensures in
    c.in_ok-changes.ensures.records ∙ onto_found h parent m c.args.server.now (below h.handle_key parent m) (option_map kept_of c.in_ok-found.found) found

pub returns-clause-looks : goal.returns-clause-looks
returns-clause-looks g c =
    let m = g.S.RecordSource.records c.args.source.now in
    let h = c.args.handle.now in
    let parent = c.args.parent.now in
    let found = c.in_ok-found.ensures.found ∙ ap (λ key. option_map kept_connection (below key parent m)) c.as_str.ensures in
    let asked = edges_found h parent m c.args.server.now (below h.handle_key parent m) (option_map kept_of c.in_ok-found.found) found in
    omega (arith, asked, c.connection_below.ensures.looks, c.onto_kept.ensures.looks)

pub returns-clause-few : goal.returns-clause-few
returns-clause-few g c =
    let m = g.S.RecordSource.records c.args.source.now in
    let h = c.args.handle.now in
    let parent = c.args.parent.now in
    let found = c.in_ok-found.ensures.found ∙ ap (λ key. option_map kept_connection (below key parent m)) c.as_str.ensures in
    let asked = edges_found h parent m c.args.server.now (below h.handle_key parent m) (option_map kept_of c.in_ok-found.found) found in
    omega (arith, asked, c.in_ok-changes.ensures.few)

pub returns-in_err-changes-clause-looks : goal.returns-in_err-changes-clause-looks
returns-in_err-changes-clause-looks g c =
    let m = g.S.RecordSource.records c.args.source.now in
    let h = c.args.handle.now in
    let parent = c.args.parent.now in
    let found = c.in_ok-found.ensures.found ∙ ap (λ key. option_map kept_connection (below key parent m)) c.as_str.ensures in
    let asked = edges_found h parent m c.args.server.now (below h.handle_key parent m) (option_map kept_of c.in_ok-found.found) found in
    omega (arith, asked, c.connection_below.ensures.looks, c.onto_kept.ensures.looks)
