-- One more variable in front.
use Rattle.std.proofs.Common.{◌≡◌, ℕ, ◌+◌, ◌-◌, ◌<◌, length, drop, List, Option, bytes_eq, cond, Some, ap, ◌∙◌, arith}
use Rattle.std.proofs.lemmas.Map.Text.{btree_map_updates_str}
use Rattle.std.specs.BTreeMap.{get_by}
use Rattle.std.specs.Cmp.Lexicographic.{slice_cmp}
use Rattle.std.specs.Ordering.{nat_cmp}
use Rattle.std.specs.Prelude.{option_copied}
use Rattle.plan_ir.specs.gql_ast.declared.variable.VariableDef.{VariableDef}
use Rattle.plan_ir.specs.schema_tables.Types.{Text}
use Rattle.doc_merge.specs.Values.{variable_named}
use Rattle.doc_merge.proofs.ValueSteps.{copied_cond, variable_next}
use Rattle.doc_merge.proofs.variables.Variables.of.Goals as goal
use denote.Ref.{Bor}

pub variables-preserved : goal.variables-preserved
variables-preserved c =
    let items : List VariableDef = c.as_slice-items.result.now in
    let low : c.variables.left - 1 < length items = omega (arith, c.variables.invariant.0) in
    let next : c.variables.left ≡ (c.variables.left - 1) + 1 = omega arith in (
      omega (arith, c.variables.invariant.0),
      λ n.
          let old : Option (Bor VariableDef) = get_by (λ k. slice_cmp nat_cmp n k.now) c.variables.by_name in
          variable_next items (c.variables.left - 1) c.index-items-left.result n (option_copied old) _ low c.index-items-left.is
          (c.variables.invariant.1 n ∙ ap (λ (k : ℕ). variable_named (drop k items) n) next)
          (ap option_copied (btree_map_updates_str c.as_str.result.now c.variables.by_name c.insert.new.self _ c.in_ok-insert.ensures.updates n)
          ∙ copied_cond (bytes_eq c.as_str.result.now n) _ old
          ∙ ap (λ (t : Text). cond (bytes_eq t n) (Some c.index-items-left.result) (option_copied old)) c.as_str.ensures),
    )

pub returns-clause-named : goal.returns-clause-named
returns-clause-named c = λ n.
    let none : c.variables.left ≡ 0 = omega arith in
    c.variables.invariant.1 n ∙ ap (λ (k : ℕ). variable_named (drop k c.as_slice-items.result.now) n) none ∙ ap (λ (vs : List VariableDef). variable_named vs n) c.as_slice-items.ensures
