-- Collection along the syntax trees of documents, which plan_collect defines, since the text of an operation is held to it.
pub use Rattle.plan_collect.specs.Collection.{Part, Setting, ask_of, below_type, collect, collect_in, collect_with, connection_asked, enter_where, form_of_type, form_on, is_false, is_inline, is_open, part_inside, part_of, pointer_to, scope_inside, selections_of, spread_items}
