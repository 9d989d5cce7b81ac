-- What stands below the first field, and below the others.
use Rattle.store_read.proofs.CacheSteps.{parts_made}
use Rattle.store_read.proofs.caching.parts_of.Goals as goal

pub returns : goal.returns
returns c =
    parts_made c.args.fields.now.first c.args.fields.now.others.items c.deref.result.now c.new-parts.result.items c.push.new.self.items c.put_parts.new.parts.items
    c.new-parts.ensures.items c.in_ok-push.ensures.items c.deref.ensures.value c.in_ok-put_parts.ensures
