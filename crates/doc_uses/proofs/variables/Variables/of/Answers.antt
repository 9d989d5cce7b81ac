-- One more variable in front.
use Rattle.std.proofs.Common.{◌≡◌, ◌+◌, ◌-◌, ◌<◌, length, map, drop, Option, option_map, bytes_eq, ap, ◌∙◌, arith}
use Rattle.std.proofs.lemmas.Map.Text.{btree_map_updates_str}
use Rattle.std.specs.BTreeMap.{get_by}
use Rattle.std.specs.Cmp.Lexicographic.{slice_cmp}
use Rattle.std.specs.Ordering.{nat_cmp}
use Rattle.std.specs.Prelude.{ℕ}
use Rattle.doc_sites.specs.schema_types.ArgumentRules.{variable_named}
use Rattle.doc_sites.specs.SitesView.{variable_of}
use Rattle.doc_sites.specs.declared.site.VariableAt.{VariableAt}
use Rattle.doc_sites.proofs.gql_graph_laws.Graphs.{map_cond}
use Rattle.doc_uses.proofs.UseSteps.{variable_next}
use Rattle.doc_uses.proofs.variables.Variables.of.Goals as goal
use denote.Ref.{Bor}

pub variables-preserved : goal.variables-preserved
variables-preserved c =
    let low : c.variables.left - 1 < length c.args.operation.now.variables.items = omega (arith, c.variables.invariant.0) in
    let next : c.variables.left ≡ (c.variables.left - 1) + 1 = omega arith in (
      omega (arith, c.variables.invariant.0),
      λ n.
          let old : Option (Bor VariableAt) = get_by (λ k. slice_cmp nat_cmp n k.now) c.variables.by_name in
          variable_next variable_of c.args.operation.now.variables.items (c.variables.left - 1) c.index-variable.result.now n (option_map (λ v. variable_of v.now) old) _ low c.index-variable.ensures
          (c.variables.invariant.1 n ∙ ap (λ (k : ℕ). variable_named (map variable_of (drop k c.args.operation.now.variables.items)) n) next)
          (ap (option_map (λ v. variable_of v.now)) (btree_map_updates_str c.index-variable.result.now.name.name.now c.variables.by_name c.insert.new.self _ c.in_ok-insert.ensures.updates n)
          ∙ map_cond (λ (v : Bor VariableAt). variable_of v.now) (bytes_eq c.index-variable.result.now.name.name.now n) _ old),
    )
