-- What is kept of the steps is that of one step more.
use Rattle.std.proofs.Common.{◌≡◌, [], ◌∷◌, ◌++◌, ap, ◌∙◌}
use Rattle.plan_ir.proofs.ReaderKeys.{keys_pushed}
use Rattle.plan_ir.proofs.ReaderLaws.{steps_of-append}
use Rattle.plan_ir.proofs.ReaderLevels.{levels_pushed}
use Rattle.plan_ir.proofs.reader.ReaderList.push.Goals as goal
use Rattle.plan_ir.specs.Reader.{reader_append}
use Rattle.plan_ir.specs.ReaderView.{step_of, steps_of}

pub invariant_of-self-2 : goal.invariant_of-self-2
invariant_of-self-2 c =
    let xs = c.self.inside.items.items in
    let grown : c.push_reserved.new.self.items ≡ xs ++ c.args.step ∷ [] = c.push_reserved.ensures.items ∙ ap (λ ys. ys ++ c.args.step ∷ []) c.in_ok-reserve.ensures.items in
    let keyed : c.push_reserved-2.new.self.items ≡ c.self.inside.keys.items ++ c.in_ok-key.key ∷ [] = c.push_reserved-2.ensures.items ∙ ap (λ ks. ks ++ c.in_ok-key.key ∷ []) c.in_ok-reserve-2.ensures.items in (
      keys_pushed xs c.push_reserved.new.self.items c.args.step c.self.inside.keys.items c.push_reserved-2.new.self.items c.in_ok-key.key c.self.invariant.0 c.in_ok-key.ensures keyed grown,
      levels_pushed xs c.push_reserved.new.self.items c.args.step c.self.inside.levels c.in-Some.levels c.self.invariant.1 c.in-Some.ensures grown,
    )

pub returns-clause-ok : goal.returns-clause-ok
returns-clause-ok c =
    let xs = c.self.inside.items.items in
    let grown : c.push_reserved.new.self.items ≡ xs ++ c.args.step ∷ [] = c.push_reserved.ensures.items ∙ ap (λ ys. ys ++ c.args.step ∷ []) c.in_ok-reserve.ensures.items in
    ap steps_of grown ∙ steps_of-append xs (c.args.step ∷ []) ∙ ap (λ s. reader_append s (step_of c.args.step)) c.self.view_is
