-- One more definition, and all of them.
use Rattle.std.proofs.Common.{ℕ, List, arith}
use Rattle.constant_values.specs.gql_graph.Rules.{each}
use Rattle.constant_values.proofs.gql_graph_laws.LeastSteps.{each_next}
use Rattle.constant_values.specs.schema_tables.Types.{Defs}
use Rattle.constant_values.specs.schema_types.NameRules.{sites_of}
use Rattle.constant_values.specs.schema_types.Sites.{FragmentAt, DefinitionAt}
use Rattle.doc_uses.specs.doc_sites.SitesView.{definition_of}
use Rattle.relay_rules.specs.Spreads.{given_wrong_at}
use Rattle.doc_uses.proofs.doc_sites_laws.ListSteps.{noted_end}
use Rattle.relay_dirs.proofs.rules.spreads.note_given.Goals as goal

abbrev in_definition : Defs → List FragmentAt → DefinitionAt → List ℕ
in_definition defs fs d = each (given_wrong_at defs fs) (sites_of d)

pub definitions-preserved : goal.definitions-preserved
definitions-preserved c = λ fs h.
    each_next definition_of (in_definition c.args.schema.now fs) c.args.definitions.now c.definitions.definition-index c.definition-item.result _ _ _ (omega arith) c.definition-item.is
    (c.in_ok-note_given_in.ensures fs h) (c.definitions.invariant fs h)

pub returns : goal.returns
returns c = λ fs h. noted_end definition_of (in_definition c.args.schema.now fs) c.args.definitions.now c.definitions.definition-index _ _ (omega arith) (c.definitions.invariant fs h)
