use Rattle.std.proofs.Common.{◌≡◌, ◌++◌, sym, ◌∙◌}
use Rattle.line_engine.proofs.IdLaws.{has_both, has_first, has_second}
use Rattle.line_engine.proofs.collecting.joined.Goals as goal

pub returns-then-is_empty : goal.returns-then-is_empty
returns-then-is_empty c = λ j. has_first c.args.some c.args.more j (sym c.is_empty.ensures ∙ c.if-is_empty.true)

pub returns-then-is_empty-2 : goal.returns-then-is_empty-2
returns-then-is_empty-2 c = λ j. has_second c.args.some c.args.more j (sym c.is_empty-2.ensures ∙ c.if-is_empty-2.true)

pub returns : goal.returns
returns c = λ j.
    let first : c.put_ids.new.ids.items ≡ c.args.some = c.in_ok-put_ids.ensures ∙ (λ i. c.new-words.ensures.items i ++ c.as_slice.ensures i) in
    has_both c.args.some c.args.more j c.put_ids-2.new.ids.items c.in_ok-ids.ids (c.in_ok-put_ids-2.ensures ∙ (λ i. first i ++ c.as_slice-2.ensures i)) c.in_ok-ids.ensures
