-- As many as there are.
use Rattle.std.proofs.Common.{◌≡◌, List, length, map, ap, sym, ◌∙◌, arith}
use Rattle.std.proofs.lemmas.List.{length-map}
use Rattle.schema_types.specs.NameRules.{fragments}
use Rattle.schema_types.specs.Sites.{FragmentAt}
use Rattle.doc_sites.specs.SitesView.{definition_of}
use Rattle.doc_sites.proofs.spreads.count_fragments.Goals as goal

pub returns : goal.returns
returns c =
    let same : length c.in_ok-fragments.fragments.items ≡ length (fragments (map definition_of c.args.definitions.now)) =
    sym (length-map c.in_ok-fragments.fragments.items _) ∙ ap (λ (l : List FragmentAt). length l) c.in_ok-fragments.ensures in
    omega (arith, same)
