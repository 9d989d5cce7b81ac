-- What is put and what is left are the whole; what stands inside a selection is less deep than its set.
use Rattle.std.proofs.Common.{◌≡◌, ◌+◌, ◌*◌, ◌++◌, map, drop}
use Rattle.std.specs.Prelude.{option_copied}
use Rattle.schema_types.specs.gql_ast.SelectionView.{sels_of}
use Rattle.schema_types.specs.gql_ast.Sels.{depth}
use Rattle.schema_types.specs.Sites.{sites, selections_nodes}
use Rattle.doc_sites.specs.Firsts.{inside}
use Rattle.doc_sites.specs.SitesView.{site_of}
use Rattle.doc_sites.proofs.selecting.+sites.Given as goal

abbrev pub decreases-put_sites : goal.decreases-put_sites
decreases-put_sites l = 2 * depth l.selections.now + 1

abbrev pub decreases-put_inside : goal.decreases-put_inside
decreases-put_inside l = 2 * depth (inside l.selection.now) + 2

abbrev pub invariant-put_sites-selections : goal.invariant-put_sites-selections
invariant-put_sites-selections l =
    (sels_of l.selection-items ≡ l.selections)
    × (map site_of l.sites.items ++ sites l.schema l.at (option_copied l.around) (sels_of (drop l.selection-index l.selection-items))
    ≡ map site_of l.initial.sites.items ++ sites l.schema l.initial.at (option_copied l.around) l.selections)
    × (l.at + selections_nodes (sels_of (drop l.selection-index l.selection-items)) ≡ l.initial.at + selections_nodes l.selections)
