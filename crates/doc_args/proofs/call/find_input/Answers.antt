use Rattle.std.proofs.Common.{◌∙◌}
use Rattle.doc_args.proofs.Counts.{named_among}
use Rattle.doc_args.proofs.call.find_input.Goals as goal

pub returns : goal.returns
returns c = c.find.ensures ∙ named_among c.args.inputs.now c.args.name.now
