use Rattle.std.proofs.Common.{◌≡◌, ◌++◌, drop, map}
use Rattle.plan_ir.specs.gql_plain.ToJson.{trees_tokens}
use Rattle.plan_ir.specs.gql_plain.Tree.{trees_of}
use Rattle.relay_machine.specs.Refusals.{shown_step}
use Rattle.relay_lines.proofs.values.write_path.Given as goal

-- what is written, followed by the tokens of what is left, is the whole
abbrev pub invariant-steps : goal.invariant-steps
invariant-steps l = record {
  before : l.out.before ≡ l.initial.out.before;
  whole : l.out.tokens ++ trees_tokens (trees_of (map shown_step (drop l.step-index l.path)))
      ≡ l.initial.out.tokens ++ trees_tokens (trees_of (map shown_step l.path));
}
