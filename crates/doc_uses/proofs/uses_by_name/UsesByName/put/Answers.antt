-- The uses that are left are put.
use Rattle.std.proofs.Common.{◌≡◌, List, ◌++◌, map, OnOk, ap, subst, ◌∙◌}
use Rattle.doc_sites.specs.schema_types.ArgumentRules as rules
use Rattle.doc_sites.specs.schema_types.Sites as spec
use Rattle.doc_sites.specs.SitesView.{fragment_of}
use Rattle.doc_uses.specs.Parts.{free_uses}
use Rattle.doc_uses.specs.UsesByName.{Gathers, named_uses}
use Rattle.doc_uses.specs.UseView.{use_of}
use Rattle.doc_uses.proofs.uses_by_name.UsesByName.put.Goals as goal

pub returns : goal.returns
returns c = λ tells g.
    let f : spec.FragmentAt = fragment_of c.args.fragment.now in
    let free : map use_of c.deref.result.now ≡ free_uses (rules.local_names f) (map use_of c.args.uses.now) = ap (map use_of) c.deref.ensures.value ∙ c.in_ok-free.ensures in
    subst (λ (us : List rules.Use). OnOk c.put_named.result (Gathers c.put_named.new.self (λ n. tells n ++ named_uses (f.name.name, us) n))) free (c.put_named.ensures tells g)
