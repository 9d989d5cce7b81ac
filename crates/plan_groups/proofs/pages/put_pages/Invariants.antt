-- What is put and what is left are the whole.
use Rattle.std.proofs.Common.{◌≡◌, ◌++◌, drop}
use Rattle.plan_ir.specs.store_model.Says.{pages_for}
use Rattle.plan_groups.proofs.pages.put_pages.Given as goal

abbrev pub invariant-handles : goal.invariant-handles
invariant-handles l =
    l.pages.items ++ pages_for l.id l.group.first.ask l.page_type l.info_type (drop l.handle-index l.handles) ≡ l.initial.pages.items ++ pages_for l.id l.group.first.ask l.page_type l.info_type l.handles
