use Rattle.std.proofs.Common.{◌≡◌, ◌++◌, drop, map}
use Rattle.plan_ir.specs.gql_plain.ToJson.{trees_tokens}
use Rattle.plan_ir.specs.gql_plain.Tree.{text, trees_of}
use Rattle.relay_lines.proofs.values.write_texts.Given as goal

-- what is written, followed by the tokens of what is left, is the whole
abbrev pub invariant-texts : goal.invariant-texts
invariant-texts l = record {
  before : l.out.before ≡ l.initial.out.before;
  whole : l.out.tokens ++ trees_tokens (trees_of (map text (drop l.text-index l.texts)))
      ≡ l.initial.out.tokens ++ trees_tokens (trees_of (map text l.texts));
}
