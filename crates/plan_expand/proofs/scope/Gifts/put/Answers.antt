-- The name is there already, or it is new.
use Rattle.std.proofs.Common.{sym, ◌∙◌}
use Rattle.std.proofs.lemmas.Map.Text.{btree_map_updates_str}
use Rattle.std.specs.BTreeMap.{get_by}
use Rattle.std.specs.Cmp.Lexicographic.{slice_cmp}
use Rattle.std.specs.Ordering.{nat_cmp}
use Rattle.plan_ir.specs.gql_ast.ValueView.{value_of}
use Rattle.plan_expand.proofs.Tables.{name_comes, name_stays}
use Rattle.plan_expand.proofs.scope.Gifts.put.Goals as goal

pub returns-then-contains_key : goal.returns-then-contains_key
returns-then-contains_key c = λ n.
    name_stays value_of (λ m. get_by (λ k. slice_cmp nat_cmp m k.now) c.args.self.now.by_name) c.args.name.now _ (sym c.contains_key.ensures ∙ c.if-contains_key.true) n

pub returns : goal.returns
returns c = λ n.
    name_comes value_of (λ m. get_by (λ k. slice_cmp nat_cmp m k.now) c.args.self.now.by_name) (λ m. get_by (λ k. slice_cmp nat_cmp m k.now) c.insert.new.self) c.args.name.now _
    (sym c.contains_key.ensures ∙ c.if-contains_key.false)
    (λ m. btree_map_updates_str c.args.name.now c.args.self.now.by_name c.insert.new.self _ c.in_ok-insert.ensures.updates m) n
