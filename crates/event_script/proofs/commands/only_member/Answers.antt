use Rattle.std.proofs.Common.{◌∙◌, sym}
use Rattle.event_script.proofs.OnlyMembers.{only_member-other, only_member-one}
use Rattle.event_script.proofs.commands.only_member.Goals as goal

pub returns-then-len-ne1 : goal.returns-then-len-ne1
returns-then-len-ne1 c = only_member-other c.args.members.now.entries (λ one. c.if-len-ne1.true (c.len.ensures.len ∙ one))

pub returns : goal.returns
returns c =
    only_member-one c.args.members.now.entries c.first_key_value.result (sym c.len.ensures.len ∙ c.if-len-ne1.false)
    c.first_key_value.ensures.variant c.first_key_value.ensures.first
