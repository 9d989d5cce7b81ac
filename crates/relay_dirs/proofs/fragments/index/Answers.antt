-- One more local variable in front.
use Rattle.std.proofs.Common.{◌≡◌, ◌+◌, ◌-◌, ◌<◌, length, map, drop, cond, Some, Option, option_map, bytes_eq, ap, ◌∙◌, arith}
use Rattle.std.proofs.lemmas.Map.Text.{btree_map_updates_str}
use Rattle.std.specs.BTreeMap.{get_by}
use Rattle.std.specs.Cmp.Lexicographic.{slice_cmp}
use Rattle.std.specs.Ordering.{nat_cmp}
use Rattle.std.specs.Prelude.{ℕ}
use Rattle.gql_syntax.specs.gql_ast.declared.variable.VariableDef.{VariableDef}
use Rattle.constant_values.specs.gql_graph.Texts.{Text}
use Rattle.constant_values.proofs.gql_graph_laws.Graphs.{map_cond}
use Rattle.relay_marks.specs.Locals.{local_named}
use Rattle.relay_marks.specs.View.{local_view}
use Rattle.relay_dirs.proofs.SpreadSteps.{local_next}
use Rattle.relay_dirs.proofs.fragments.index.Goals as goal
use denote.Ref.{Bor}

pub locals-preserved : goal.locals-preserved
locals-preserved c =
    let low : c.locals.left - 1 < length c.args.locals.now = omega (arith, c.locals.invariant.0) in
    let next : c.locals.left ≡ (c.locals.left - 1) + 1 = omega arith in (
      omega (arith, c.locals.invariant.0),
      λ n.
          let old : Option (Bor VariableDef) = get_by (λ k. slice_cmp nat_cmp n k.now) c.locals.by_name in
          local_next local_view c.args.locals.now (c.locals.left - 1) c.index-locals-left.result n (option_map (λ v. local_view v.now) old) _ low c.index-locals-left.is
          (c.locals.invariant.1 n ∙ ap (λ (k : ℕ). local_named (map local_view (drop k c.args.locals.now)) n) next)
          (ap (option_map (λ v. local_view v.now)) (btree_map_updates_str c.as_str.result.now c.locals.by_name c.insert.new.self _ c.in_ok-insert.ensures.updates n)
          ∙ map_cond (λ (v : Bor VariableDef). local_view v.now) (bytes_eq c.as_str.result.now n) _ old
          ∙ ap (λ (t : Text). cond (bytes_eq t n) (Some (local_view c.index-locals-left.result)) (option_map (λ v. local_view v.now) old)) c.as_str.ensures),
    )
