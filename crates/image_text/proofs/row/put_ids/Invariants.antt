use Rattle.std.proofs.Common.{◌≡◌, ◌++◌, map, drop}
use Rattle.store_model.specs.gql_plain.ToJson.{trees_tokens}
use Rattle.store_model.specs.gql_plain.Tree.{trees_of}
use Rattle.image_text.specs.Lines.{id_or_null}
use Rattle.image_text.proofs.row.put_ids.Given as goal

-- what is written, followed by the tokens of what is left, is the whole
abbrev pub invariant-ids : goal.invariant-ids
invariant-ids l = record {
  begun : l.row.before ≡ l.initial.row.before;
  whole : l.row.tokens ++ trees_tokens (trees_of (map id_or_null (drop l.id-index l.id-items))) ≡ l.initial.row.tokens ++ trees_tokens (trees_of (map id_or_null l.id-items));
}
