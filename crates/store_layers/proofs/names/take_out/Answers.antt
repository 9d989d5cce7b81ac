use Rattle.std.proofs.Common.{sym, ap, ◌∙◌}
use Rattle.store_layers.proofs.Removed.{layers_removed}
use Rattle.store_layers.proofs.names.take_out.Goals as goal
use Rattle.store_layers.specs.Drafts.{left_of}
use Rattle.store_layers.specs.Versions.{layers_of}

pub returns-in-Some : goal.returns-in-Some
returns-in-Some c =
    let named = c.args.entries.now.entries in
    ap layers_of c.shift_remove_index.ensures.entries ∙ layers_removed named c.in-Some.at ∙ ap (λ gone. left_of gone (layers_of named)) (sym c.in-Some.is)
