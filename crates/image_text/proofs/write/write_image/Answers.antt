use Rattle.std.proofs.Common.{subst}
use Rattle.std.proofs.lemmas.Str.{IsUtf8-nil}
use Rattle.std.specs.Str.{IsUtf8}
use Rattle.image_text.proofs.ImageLaws.{all_adds}
use Rattle.image_text.specs.Lines.{image_text}
use Rattle.image_text.proofs.write.write_image.Goals as goal

pub returns-clause-text : goal.returns-clause-text
unfolding image_text
returns-clause-text c =
    (all_adds c.args.image.now c.new.ensures.items c.in_ok-head.ensures c.in_ok-records.ensures.rows c.in_ok-layers.ensures.rows c.in_ok-handles.ensures.rows c.in_ok-released.ensures.rows
    c.in_ok-watches.ensures.rows c.in_ok-marked.ensures c.in_ok-write_end.ensures).text

pub returns-clause-utf8 : goal.returns-clause-utf8
unfolding image_text
returns-clause-utf8 c =
    let all =
    all_adds c.args.image.now c.new.ensures.items c.in_ok-head.ensures c.in_ok-records.ensures.rows c.in_ok-layers.ensures.rows c.in_ok-handles.ensures.rows c.in_ok-released.ensures.rows
    c.in_ok-watches.ensures.rows c.in_ok-marked.ensures c.in_ok-write_end.ensures in
    subst IsUtf8 all.text (all.utf8 IsUtf8-nil)
