use Rattle.std.proofs.Common.{◌≡◌, ◌<◌, length, ap, ◌∙◌}
use Rattle.gql_syntax.specs.Nexts.{repeat}
use Rattle.gql_syntax.proofs.Laying.{insert_repeated}
use Rattle.gql_syntax.proofs.cursor.repeat_at.Goals as goal

pub returns : goal.returns
returns c =
    let v : c.places.inside.items.items ≡ c.args.places.now = c.places.view_is in
    let l : c.args.number < length c.places.inside.items.items = rw v c.requires in
    c.in_ok-insert.ensures.items ∙ insert_repeated c.args.number c.places.inside.items.items c.index-place.result.now c.index-place.ensures l ∙ ap (λ xs. repeat c.args.number xs) v
