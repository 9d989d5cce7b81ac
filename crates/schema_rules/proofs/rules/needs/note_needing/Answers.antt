-- An input type.
use Rattle.std.proofs.Common.{◌≡◌, ℕ, OnOk, List, ap, sym, subst, ◌∙◌}
use Rattle.gql_graph.specs.Leasts.{least_from}
use Rattle.schema_trees.specs.LocatedView.{def_of}
use Rattle.gql_graph.specs.Reached.{any_leads}
use Rattle.schema_rules.specs.Rules.{wrong, needs, needs_itself}
use Rattle.gql_graph.specs.Texts.{Text}
use Rattle.schema_trees.specs.declared.located.DefAt.{DefAt}
use Rattle.schema_rules.proofs.rules.needs.note_needing.Goals as goal

pub returns-in-Input : goal.returns-in-Input
returns-in-Input c = λ defs t e never.
    let n : Text = c.in-Input.name.name.now in
    let same : wrong (any_leads (needs defs) c.args.steps (needs defs n) n) c.in-Input.name.at ≡ needs_itself defs (def_of c.args.definition.now) =
    ap (λ (steps : ℕ). wrong (any_leads (needs defs) steps (needs defs n) n) c.in-Input.name.at) e ∙ sym (ap (λ (d : DefAt). needs_itself defs (def_of d)) c.in-Input.is) in
    subst (λ (places : List ℕ). OnOk c.note_input.result (c.note_input.new.least.at ≡ least_from c.args.least.now.at places)) same (c.note_input.ensures (needs defs) t never)
