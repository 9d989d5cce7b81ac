use Rattle.std.proofs.Common.{◌||◌, [], ◌∷◌, bytes_eq, ap, sym, ◌∙◌}
use Rattle.store_model.specs.gql_plain.Order.{has_text}
use Rattle.store_model.specs.Leads.{ids_of_fields}
use Rattle.store_sweeps.proofs.NamedIds.{row_named}
use Rattle.store_sweeps.proofs.Written.{has_append, or_false, or_assoc}
use Rattle.store_sweeps.proofs.naming.put_named_by_row.Goals as goal

pub returns : goal.returns
returns c = λ j.
    let row = c.args.row.now in
    ap (λ ids. has_text ids j) c.in_ok-put_links.ensures
    ∙ has_append c.put_id.new.ids.items (ids_of_fields row.fields) j
    ∙ ap (λ b. b || has_text (ids_of_fields row.fields) j) (ap (λ ids. has_text ids j) c.in_ok-put_id.ensures ∙ has_append c.args.ids.now.items (row.id ∷ []) j ∙ ap (λ b. has_text c.args.ids.now.items j || b) (or_false (bytes_eq row.id j)))
    ∙ or_assoc (has_text c.args.ids.now.items j) (bytes_eq row.id j) (has_text (ids_of_fields row.fields) j)
    ∙ ap (λ b. has_text c.args.ids.now.items j || b) (sym (row_named row j c.requires))
