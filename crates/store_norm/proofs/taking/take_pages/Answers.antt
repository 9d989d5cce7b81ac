-- One page more of those that are left.
use Rattle.std.proofs.Common.{rules, ◌≡◌, [], sym, ◌∙◌}
use Rattle.plan_ir.specs.NormalMeaning.{collect_plan}
use Rattle.plan_ir.specs.store_model.Says.{pages_of}
use Rattle.store_report.proofs.RowLoop.{no_items}
use Rattle.store_norm.proofs.TakeSteps.{pages_end, pages_taken}
use Rattle.store_norm.proofs.taking.take_pages.Goals as goal

pub pages-preserved : goal.pages-preserved
pages-preserved c =
    pages_taken c.args.rows.now c.pages.rows c.page.new.self c.in-Some.page c.pages.page-iterator.rest.items c.next.new.self.rest.items c.pages.invariant c.in-Some.ensures.steps.0
    c.in_ok-page.ensures.said

pub returns : goal.returns
returns c =
    let left = c.pages.page-iterator.rest in
    let gone : left.items ≡ [] = no_items left.items (sym left.ok.0 ∙ c.in-None.ensures.steps.0) in
    pages_end c.args.rows.now c.pages.rows left.items c.into_iter-page-iterator.result.rest.items (pages_of collect_plan c.args.id.now c.args.group.now) c.pages.invariant gone (search rules)
