use Rattle.std.proofs.Common.{◌≡◌, ◌||◌, drop}
use Rattle.store_model.specs.gql_plain.Order.{has_text}
use Rattle.store_model.specs.store_record.Keys.{Text}
use Rattle.store_model.specs.Entries.{named_by_facts}
use Rattle.store_model.specs.FactRows.{facts_of}
use Rattle.store_sweeps.proofs.naming.put_named_by_rows.Given as goal

abbrev pub invariant-rows : goal.invariant-rows
invariant-rows l = (j : Text) → (has_text l.ids.items j || has_text (named_by_facts (facts_of (drop l.row-index l.rows))) j) ≡ (has_text l.fn.ids.items j || has_text (named_by_facts (facts_of l.rows)) j)
