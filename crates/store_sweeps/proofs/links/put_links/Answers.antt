use Rattle.std.proofs.Common.{◌++◌, refl, ap, ◌∙◌, arith}
use Rattle.store_model.specs.Entries.{ids_in}
use Rattle.store_model.specs.Leads.{ids_of_fields}
use Rattle.store_sweeps.proofs.Written.{written_next, written_end}
use Rattle.store_sweeps.proofs.links.put_links.Goals as goal

pub fields-preserved : goal.fields-preserved
fields-preserved c = written_next (λ f. ids_in f.1) (ids_of_fields) (λ f fs. refl) c.as_slice-field-items.result.now c.fields.field-index c.field-item.result c.fields.ids.items _ _ (omega arith) c.field-item.is (c.in_ok-put_links_of.ensures ∙ ap (λ f. c.fields.ids.items ++ ids_in f) c.field.ensures) c.fields.invariant

pub returns : goal.returns
returns c = written_end (λ f. ids_in f.1) (ids_of_fields) (λ f fs. refl) refl c.as_slice-field-items.result.now c.fields.field-index c.fields.ids.items _ (omega arith) c.fields.invariant ∙ ap (λ fields. c.args.ids.now.items ++ ids_of_fields fields) c.as_slice-field-items.ensures.items
