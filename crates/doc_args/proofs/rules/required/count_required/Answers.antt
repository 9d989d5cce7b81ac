-- A name is counted where it is new and that of an argument that has to be given.
use Rattle.std.proofs.Common.{◌≡◌, ◌+◌, not, ◌&&◌, List, [], ◌∷◌, get_or, ap, ◌∙◌, arith}
use Rattle.gql_graph.specs.Texts.{Text}
use Rattle.gql_graph.specs.gql_plain.Order.{has_text}
use Rattle.doc_uses.proofs.schema_rules_laws.FoundAt.{get_or_own}
use Rattle.doc_uses.specs.schema_tables.Required.{one_if, required_names}
use Rattle.doc_uses.specs.schema_trees.declared.located.NameAt.{NameAt}
use Rattle.doc_args.proofs.Counts.{count_next, none_put, one_put}
use Rattle.doc_args.proofs.rules.required.count_required.Goals.{then-is_counted, else-is_counted}
use Rattle.doc_args.proofs.rules.required.count_required.Goals as goal

none : NameAt
none = record { name = record { ref_ptr = (0, 0); now = [] }; at = 0 }

pub names-preserved : goal.names-preserved
unfolding none
names-preserved c =
    let rs : List Text = required_names c.args.inputs.now in
    let name : NameAt = get_or c.args.names.now c.names.name-index none in
    let before : List Text = c.names.invariant.0 in
    let is : c.is_counted.result ≡ (not (has_text before name.name.now) && has_text rs name.name.now) =
    c.is_counted.ensures ∙ ap (λ b. b && has_text rs name.name.now) (c.in_ok-is_new.ensures.new_name before c.names.invariant.1) in
    let put : c.if-is_counted.count ≡ c.names.count + one_if (not (has_text before name.name.now) && has_text rs name.name.now) =
    elim c.if-is_counted.branch [
      | then-is_counted w ↦ one_put _ _ _ _ w.if-is_counted.true is w.count-is
      | else-is_counted w ↦ none_put _ _ _ _ w.if-is_counted.false is w.count-is
    ] in (
      name.name.now ∷ before,
      c.in_ok-is_new.ensures.known before c.names.invariant.1,
      count_next rs before c.args.names.now c.names.name-index name _ _ _ (omega arith) (get_or_own c.args.names.now c.names.name-index none (omega arith)) put c.names.invariant.2,
      elim c.if-is_counted.branch [
        | then-is_counted w ↦ omega (arith, w.count-is, c.names.invariant.3)
        | else-is_counted w ↦ omega (arith, w.count-is, c.names.invariant.3)
      ],
    )
