-- The plan of the operation shows what the operation does.
use Rattle.std.proofs.Common.{None, refl, sym}
use Rattle.line_engine.proofs.Meanings.{operation_is_found, operation_is_shown}
use Rattle.line_engine.proofs.watched.whole_operation.Goals as goal

pub returns-clause-shown : goal.returns-clause-shown
returns-clause-shown c = λ p h is kept.
    operation_is_shown c.args.project.now c.args.held.now c.requires c.operation_held-compiled.result.now c.operation_held-compiled.ensures.is c.args.handle.now
    (record { handle = c.in_ok-copy.field-0; fragment = None; plan = c.in_ok-clone.field-0; types = c.in_ok-copy-2.field-0; env = c.in_ok-clone-2.field-0; id = c.in_ok-new.field-0 })
    c.in_ok-copy.ensures refl c.in_ok-clone.ensures.cases c.in_ok-copy-2.ensures c.in_ok-clone-2.ensures.cases c.in_ok-new.ensures
    p h is kept

pub returns-clause-found : goal.returns-clause-found
returns-clause-found c = λ p h is kept m.
    sym
    (operation_is_found c.args.project.now c.args.held.now c.requires c.operation_held-compiled.result.now c.operation_held-compiled.ensures.is c.args.handle.now
    (record { handle = c.in_ok-copy.field-0; fragment = None; plan = c.in_ok-clone.field-0; types = c.in_ok-copy-2.field-0; env = c.in_ok-clone-2.field-0; id = c.in_ok-new.field-0 })
    c.in_ok-copy.ensures refl c.in_ok-clone.ensures.cases c.in_ok-copy-2.ensures c.in_ok-clone-2.ensures.cases c.in_ok-new.ensures
    p h is kept m)

pub operation_held-compiled-requires : goal.operation_held-compiled-requires
operation_held-compiled-requires c = c.requires.there
