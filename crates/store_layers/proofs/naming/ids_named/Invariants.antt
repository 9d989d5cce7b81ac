use Rattle.std.proofs.Common.{◌≡◌, ◌≤◌}
use Rattle.store_update.specs.gql_plain.Order.{has_text}
use Rattle.store_update.specs.store_record.Keys.{Text}
use Rattle.store_update.specs.store_model.Entries.{all_named}
use Rattle.store_layers.specs.Versions.{entries_within}
use Rattle.store_layers.proofs.naming.ids_named.Given as goal

abbrev pub invariant-layers : goal.invariant-layers
invariant-layers l = record {
  order : l.at ≤ l.end;
  named : (j : Text) → has_text l.named.items j ≡ has_text (all_named (entries_within 0 l.at l.entries.entries)) j;
}
