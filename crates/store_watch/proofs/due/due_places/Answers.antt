use Rattle.std.proofs.Common.{◌≡◌, ap, ◌∙◌, filter}
use Rattle.std.proofs.lemmas.Result.{IfOk-weaker}
use Rattle.store_watch.proofs.Places.{passing_places}
use Rattle.store_watch.specs.Places.{passes_at}
use Rattle.store_watch.specs.Rows.{met_by}
use Rattle.store_watch.proofs.due.due_places.Goals as goal

pub returns : goal.returns
returns c =
    let test = met_by c.args.touched.now in
    let rows = c.args.rows.now in
    IfOk-weaker c.met_places.result _ _ (λ v is. is ∙ ap (filter (passes_at test rows)) c.deref.ensures.value
    ∙ passing_places test rows c.in_ok-places.places.items c.in_ok-places.ensures.rises (λ place h. c.in_ok-places.ensures.all place (c.in_ok-candidates.ensures place h))) c.met_places.ensures
