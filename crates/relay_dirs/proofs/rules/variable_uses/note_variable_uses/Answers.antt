-- What is known is that of all fragments.
use Rattle.std.proofs.Common.{List, map}
use Rattle.constant_values.specs.schema_types.NameRules.{fragments}
use Rattle.constant_values.specs.schema_types.Sites.{FragmentAt}
use Rattle.doc_uses.specs.doc_sites.SitesView.{definition_of}
use Rattle.relay_dirs.proofs.rules.variable_uses.note_variable_uses.Goals as goal

pub returns : goal.returns
returns c = λ s.
    let fs : List FragmentAt = fragments (map definition_of c.args.definitions.now) in
    c.note_definitions.ensures fs s (c.in_ok-known.ensures fs s)
