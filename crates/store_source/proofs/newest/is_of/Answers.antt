use Rattle.std.proofs.Common.{ap, ◌∙◌}
use Rattle.std.specs.Prelude.{bytes_eq}
use Rattle.store_source.proofs.InMemory.{ties}
use Rattle.store_source.proofs.newest.is_of.Goals as goal

pub returns : goal.returns
returns c = c.eq.ensures ∙ ap (λ key. bytes_eq key c.args.id.now) c.key.ensures ∙ ties c.args.change.now.0 c.args.id.now
