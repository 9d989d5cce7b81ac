-- The selections of the definition.
use Rattle.std.proofs.Common.{◌≡◌, OnOk, List, subst}
use Rattle.constant_values.specs.gql_graph.Leasts.{least_from}
use Rattle.constant_values.specs.gql_graph.Rules.{each}
use Rattle.constant_values.specs.schema_types.Sites.{Site}
use Rattle.relay_rules.specs.Spreads.{given_wrong_at}
use Rattle.relay_dirs.proofs.rules.spreads.note_given_in.Goals as goal

pub returns : goal.returns
returns c = λ fs h.
    subst (λ (ss : List Site). OnOk c.note_given_among.result (c.note_given_among.new.least.at ≡ least_from c.args.least.now.at (each (given_wrong_at c.args.schema.now fs) ss)))
    c.sites-sites.ensures (c.note_given_among.ensures fs h)
