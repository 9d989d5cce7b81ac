use Rattle.std.proofs.Common.{sym, ap, ◌∙◌}
use Rattle.std.specs.List.{list_all}
use Rattle.image_rules.proofs.FactLaws.{all_rows}
use Rattle.image_text.specs.Images.{is_fact}
use Rattle.image_rules.proofs.entries.are_facts.Goals as goal

pub returns : goal.returns
returns c = c.are_rows.ensures ∙ sym (all_rows c.rows.result.now c.rows.ensures.order.each) ∙ ap (list_all is_fact) c.rows.ensures.facts
