-- The uses that are left are those of variables that are no local ones.
use Rattle.std.proofs.Common.{rules as common}
use Rattle.doc_uses.proofs.uses_by_name.without_locals.Goals as goal

pub returns : goal.returns
returns c =
    let free = c.in_ok-free.ensures _ c.in_ok-locals.ensures in
    search common
