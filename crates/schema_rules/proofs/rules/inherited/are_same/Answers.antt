-- One more name is the same.
use Rattle.std.proofs.Common.{◌+◌, [], get_or, ap, sym, ◌∙◌, arith}
use Rattle.std.specs.Str.{bytes_eq}
use Rattle.gql_graph.proofs.TextSteps.{same_text}
use Rattle.schema_trees.specs.declared.located.NameAt.{NameAt}
use Rattle.schema_rules.proofs.InheritedSteps.{same_next, stands_in}
use Rattle.schema_rules.proofs.rules.inherited.are_same.Goals as goal

pub names-preserved : goal.names-preserved
names-preserved c =
    let xs = c.args.names.now in
    let ys = c.args.others.now in
    let i = c.names.name-index in
    let y = c.index-others-at.result in
    let x : NameAt = record { name = record { ref_ptr = (0, 0); now = [] }; at = 0 } in
    let n = (get_or xs i x).name.now in
    let e = same_text n c.as_str.result.now (stands_in (bytes_eq n c.as_str.result.now) (sym c.if-ne.ensures)) ∙ c.as_str.ensures ∙ c.index-others-at.is ∙ ap (λ k. get_or ys k y) c.names.invariant.0 in (
      ap (λ k. k + 1) c.names.invariant.0,
      c.names.invariant.1,
      λ f. c.names.invariant.2 (same_next xs ys i x y (omega arith) (omega (arith, c.names.invariant.1)) e f),
    )
