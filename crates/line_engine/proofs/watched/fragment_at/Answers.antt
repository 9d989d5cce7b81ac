-- The plan of the fragment shows what the fragment does.
use Rattle.std.proofs.Common.{Some, sym, ap, ◌∙◌}
use Rattle.line_engine.proofs.Meanings.{fragment_is_found, fragment_is_shown}
use Rattle.line_engine.proofs.watched.fragment_at.Goals as goal
use Rattle.relay_machine.specs.relay_model.Readings.{with_marked}

pub returns-clause-shown : goal.returns-clause-shown
returns-clause-shown c = λ p h f n there keeps reads kept given are.
    fragment_is_shown c.args.held.now c.args.fragment.now c.args.scope.now.values c.args.handle.now c.args.id.now
    (record { handle = c.in_ok-copy.field-0; fragment = Some c.in_ok-copy-2.field-0; plan = c.in_ok-clone.field-0; types = c.in_ok-copy-3.field-0; env = c.in_ok-new.field-0; id = c.in_ok-copy-4.field-0 })
    c.in_ok-copy.ensures c.in_ok-clone.ensures.cases c.in_ok-copy-3.ensures (ap (λ e. e.root) c.in_ok-new.ensures.ok ∙ c.in_ok-env.ensures.root ∙ ap (λ e. e.root) c.deref.ensures)
    (ap (λ e. e.values) c.in_ok-new.ensures.ok ∙ c.in_ok-env.ensures.values ∙ ap (λ e. with_marked e.values c.args.scope.now.values) c.deref.ensures) c.in_ok-copy-4.ensures
    p h f n keeps reads kept given are there (ap Some c.in_ok-copy-2.ensures)

pub returns-clause-found : goal.returns-clause-found
returns-clause-found c = λ p h f n keeps reads kept given are m.
    sym
    (fragment_is_found c.args.held.now c.args.fragment.now c.args.scope.now.values c.args.handle.now c.args.id.now
    (record { handle = c.in_ok-copy.field-0; fragment = Some c.in_ok-copy-2.field-0; plan = c.in_ok-clone.field-0; types = c.in_ok-copy-3.field-0; env = c.in_ok-new.field-0; id = c.in_ok-copy-4.field-0 })
    c.in_ok-copy.ensures c.in_ok-clone.ensures.cases c.in_ok-copy-3.ensures (ap (λ e. e.root) c.in_ok-new.ensures.ok ∙ c.in_ok-env.ensures.root ∙ ap (λ e. e.root) c.deref.ensures)
    (ap (λ e. e.values) c.in_ok-new.ensures.ok ∙ c.in_ok-env.ensures.values ∙ ap (λ e. with_marked e.values c.args.scope.now.values) c.deref.ensures) c.in_ok-copy-4.ensures
    p h f n keeps reads kept given are m)
