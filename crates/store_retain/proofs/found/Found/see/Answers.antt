use Rattle.std.proofs.Common.{◌||◌, bytes_eq, ap, ◌∙◌, map}
use Rattle.plan_ir.specs.gql_plain.Order.{has_text}
use Rattle.store_retain.proofs.Sets.{any_text}
use Rattle.store_retain.specs.Steps.{Found}
use Rattle.store_retain.proofs.found.Found.see.Goals as goal

pub returns-clause-ids : goal.returns-clause-ids
returns-clause-ids c = λ j.
    ap (λ ks. has_text (map (λ k. k.now) ks) j) c.in_ok-insert.ensures.keys
    ∙ any_text (λ one. bytes_eq one j) c.self.inside.ids.keys c.args.id
    ∙ ap (λ (f : Found). has_text f.ids j || bytes_eq c.args.id.now j) c.self.view_is
