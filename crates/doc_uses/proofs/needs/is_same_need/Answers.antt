-- The names are one, and the places.
use Rattle.std.proofs.Common.{◌≡◌, arith}
use Rattle.std.proofs.lemmas.Slice.Eq.{bytes_eq-Decides}
use Rattle.doc_uses.proofs.needs.is_same_need.Goals as goal

pub returns : goal.returns
returns c = λ e.
    let names : c.args.one.now.name.name.now ≡ c.args.other.now.name.name.now = grind (arith, bytes_eq-Decides) in
    record { names = names; places = c.is_same_place.ensures e }
