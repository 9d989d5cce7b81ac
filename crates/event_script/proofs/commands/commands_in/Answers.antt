use Rattle.std.proofs.Common.{sym, ◌∙◌}
use Rattle.event_script.proofs.CommandLists.{commands_more}
use Rattle.event_script.proofs.commands.commands_in.Goals as goal

pub items-preserved : goal.items-preserved
items-preserved c =
    commands_more _ c.items.commands c.put_last.new.commands c.deref-item-items.result.now c.items.item-index c.item-item.result c.in-Some.command
    c.items-test.true c.item-item.is (sym c.in-Some.is ∙ c.in_ok-command.ensures) c.in_ok-put_last.ensures c.items.invariant
