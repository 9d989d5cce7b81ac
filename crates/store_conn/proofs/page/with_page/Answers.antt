use Rattle.std.proofs.Common.{◌≡◌, option_map, option_copied, ap, ◌∙◌, arith}
use Rattle.store_model.specs.Merge.{below}
use Rattle.store_conn.proofs.Cases.{server_found, server_asked}
use Rattle.store_conn.proofs.page.with_page.Goals as goal

pub returns-clause-records : goal.returns-clause-records
returns-clause-records g c =
    let m = g.S.RecordSource.records c.args.source.now in
    let h = c.args.handle.now in
    let parent = c.args.parent.now in
    let found = c.below-server.ensures.found ∙ ap (λ key. option_map (λ p. p.1) (below key parent m)) c.as_str.ensures in
    c.in_ok-changes.ensures.records ∙ server_found h parent m (below h.field_key parent m) (option_copied c.below-server.result) found

pub returns-clause-looks : goal.returns-clause-looks
returns-clause-looks g c =
    let m = g.S.RecordSource.records c.args.source.now in
    let h = c.args.handle.now in
    let parent = c.args.parent.now in
    let found = c.below-server.ensures.found ∙ ap (λ key. option_map (λ p. p.1) (below key parent m)) c.as_str.ensures in
    let asked = server_asked h parent m (below h.field_key parent m) (option_copied c.below-server.result) found in
    omega (arith, asked, c.below-server.ensures.looks, c.of_server.ensures.looks)

pub returns-clause-few : goal.returns-clause-few
returns-clause-few g c =
    let m = g.S.RecordSource.records c.args.source.now in
    let h = c.args.handle.now in
    let parent = c.args.parent.now in
    let found = c.below-server.ensures.found ∙ ap (λ key. option_map (λ p. p.1) (below key parent m)) c.as_str.ensures in
    let asked = server_asked h parent m (below h.field_key parent m) (option_copied c.below-server.result) found in
    omega (arith, asked, c.in_ok-changes.ensures.few)

pub returns-in_err-changes-clause-looks : goal.returns-in_err-changes-clause-looks
returns-in_err-changes-clause-looks g c =
    let m = g.S.RecordSource.records c.args.source.now in
    let h = c.args.handle.now in
    let parent = c.args.parent.now in
    let found = c.below-server.ensures.found ∙ ap (λ key. option_map (λ p. p.1) (below key parent m)) c.as_str.ensures in
    let asked = server_asked h parent m (below h.field_key parent m) (option_copied c.below-server.result) found in
    omega (arith, asked, c.below-server.ensures.looks, c.of_server.ensures.looks)
