-- What was put and what is left are the whole.
use Rattle.plan_ir.specs.store_model.Says.{report_pages}
use Rattle.store_norm.proofs.TakeSteps.{Ends}
use Rattle.store_norm.proofs.taking.take_pages.Given as goal

abbrev pub invariant-pages : goal.invariant-pages
invariant-pages l = Ends l.initial.rows l.rows (report_pages l.page-iterator.rest.items) (report_pages l.initial.page-iterator.rest.items)
