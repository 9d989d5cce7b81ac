-- An input type with what it needs.
use Rattle.std.proofs.Common.{◌≡◌, OnOk, List, [], ◌∷◌, ◌++◌, map, ap, sym, subst, ◌∙◌}
use Rattle.schema_trees.specs.gql_ast.declared.schema.SchemaDef.{SchemaDef}
use Rattle.gql_graph.specs.Graphs.{Holds}
use Rattle.schema_rules.specs.Needing.{needing}
use Rattle.gql_graph.specs.Texts.{Text}
use Rattle.schema_rules.proofs.rules.needs.put_needs.Goals as goal
use denote.Ref.{Bor}

pub returns-in_ok-needs_of-in-Input : goal.returns-in_ok-needs_of-in-Input
returns-in_ok-needs_of-in-Input c = λ pairs h.
    let links : List Text = map (λ (n : Bor Text). n.now) c.in_ok-needs_of-in-Input.field-0.items in
    let same : pairs ++ (c.as_str-in-Input.result.now, links) ∷ [] ≡ pairs ++ needing c.args.definition.now =
    ap (λ (n : Text). pairs ++ (n, links) ∷ []) c.as_str-in-Input.ensures ∙ ap (λ (ns : List Text). pairs ++ (c.in-Input.name, ns) ∷ []) c.in_ok-needs_of-in-Input.ensures
    ∙ sym (ap (λ (d : SchemaDef). pairs ++ needing d) c.in-Input.is) in
    subst (λ (ps : List (Text × List Text)). OnOk c.put-in-Input.result (Holds c.put-in-Input.new.self ps)) same (c.put-in-Input.ensures pairs h)
