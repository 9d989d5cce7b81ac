use Rattle.std.proofs.Common.{List, [], ◌∷◌, map, refl, subst, arith}
use Rattle.image_text.specs.Lines.{command_row}
use Rattle.image_text.specs.Made.{IsCommandMade}
use Rattle.store_model.specs.declared.command.Command.{Command}
use Rattle.image_text.proofs.RowLaws.{carried, going, gone, one_left}
use Rattle.image_text.specs.Lines.{Row}
use Rattle.image_text.specs.Rows.{Adds}
use Rattle.image_text.proofs.entry.write_commands.Goals as goal

pub commands-preserved : goal.commands-preserved
commands-preserved c =
    let xs = c.as_slice-command-items.result.now in
    let i = c.commands.command-index in
    let x = c.command-item.result in
    let here = one_left xs i x c.commands-test.true c.command-item.is in
    record {
      rows = going {X = Command} (λ c. command_row c ∷ []) (λ cs. map command_row cs) refl (λ x xs. refl) xs i x c.args.out.items c.commands.out.items c.in_ok-out.out.items here c.commands.invariant.rows c.in_ok-out.ensures.row;
      made = carried (IsCommandMade) xs i x here c.commands.invariant.made c.in_ok-out.ensures.made;
    }

pub returns-clause-rows : goal.returns-clause-rows
returns-clause-rows c =
    let xs = c.as_slice-command-items.result.now in
    let all = gone {X = Command} (λ c. command_row c ∷ []) (λ cs. map command_row cs) refl (λ x xs. refl) xs c.commands.command-index c.args.out.items c.commands.out.items (omega (arith, c.commands-test.false)) c.commands.invariant.rows in
    let shown : List (Command) → List Row = λ cs. map command_row cs in
    subst (λ (ys : List (Command)). Adds (shown ys) c.args.out.items c.commands.out.items) (c.as_slice-command-items.ensures) all
