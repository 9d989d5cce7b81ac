use Rattle.std.proofs.Common.{◌≡◌, ◌++◌, drop, map}
use Rattle.plan_ir.specs.gql_plain.ToJson.{trees_tokens}
use Rattle.plan_ir.specs.gql_plain.Tree.{trees_of}
use Rattle.relay_machine.specs.Refusals.{id_or_null}
use Rattle.relay_lines.proofs.values.write_ids.Given as goal

-- what is written, followed by the tokens of what is left, is the whole
abbrev pub invariant-ids : goal.invariant-ids
invariant-ids l = record {
  before : l.out.before ≡ l.initial.out.before;
  whole : l.out.tokens ++ trees_tokens (trees_of (map id_or_null (drop l.id-index l.ids)))
      ≡ l.initial.out.tokens ++ trees_tokens (trees_of (map id_or_null l.ids));
}
