-- The handle is new.
use Rattle.std.proofs.Common.{◌≡◌, false, string_bytes, ◌∙◌}
use Rattle.std.specs.String.{string_eq}
use Rattle.indexmap.proofs.CallerLemmas.{insert_entry-new}
use Rattle.store_retain.proofs.KeptSteps.{absent, retained_is}
use Rattle.store_retain.proofs.retained.Retained.retain.Goals as goal
use Rattle.store_retain.specs.Kept.{is_live, retained}
use Rattle.store_retain.specs.KeptView.{live_of}

pub returns-clause-ok : goal.returns-clause-ok
returns-clause-ok c =
    let key = c.into_string.result in
    let free : is_live (live_of c.self.inside.live.entries) (string_bytes key) ≡ false = (λ i. is_live (c.self.view_is i).live (c.into_string.ensures i)) ∙ c.requires in
    retained_is c.self.inside.live.entries c.insert.new.self.entries c.self.inside.released key c.args.held
    (c.in_ok-insert.ensures.entries ∙ insert_entry-new string_eq c.self.inside.live key c.args.held (absent (string_bytes key) c.self.inside.live.entries free))
    ∙ (λ i. retained (c.into_string.ensures i) c.args.held (c.self.view_is i))
