use Rattle.std.proofs.Common.{◌≡◌, Equal, nat_cmp, rules, slice_index_or, sym, ap, ◌∙◌}
use Rattle.std.proofs.lemmas.Fn.{always_returns_same}
use Rattle.std.specs.Cmp.Lexicographic.{slice_cmp}
use Rattle.gql_ast.proofs.gql_plain_laws.Searches.{absent}
use Rattle.schema_tables.proofs.Indexing.{found_at, not_found}
use Rattle.schema_tables.proofs.index.find_place.Goals as goal
use Rattle.schema_tables.specs.Indexes.{name_at}

pub returns-in-Ok : goal.returns-in-Ok
returns-in-Ok g c =
    let facts = c.in-Ok.ensures in
    let equal = facts.position (λ at. slice_cmp nat_cmp (name_at g.T.Named.name c.args.items.now at) c.args.name.now) (always_returns_same _ _ _ (λ a r k called. (search rules, search rules))) in
    sym (found_at (name_at g.T.Named.name c.args.items.now) c.args.name.now c.args.places.now c.in-Ok.found 0 facts.bound c.requires (equal 0))

pub returns-in-Err : goal.returns-in-Err
returns-in-Err g c =
    let parted = c.in-Err.ensures.position (λ at. slice_cmp nat_cmp (name_at g.T.Named.name c.args.items.now at) c.args.name.now) (always_returns_same _ _ _ (λ a r k called. (search rules, search rules))) in
    sym (not_found (name_at g.T.Named.name c.args.items.now) c.args.name.now c.args.places.now
    (absent (name_at g.T.Named.name c.args.items.now) c.args.name.now c.args.places.now _ c.requires parted))
