-- The ways that trails stand for.
use Rattle.store_retain.specs.Ways.{Way}
use Rattle.store_retain.specs.declared.trail.Trail.{Trail}
use Rattle.store_retain.specs.declared.trail.TrailAt.{TrailAt}

abbrev pub way_of : Trail → Way
way_of t = record { on = t.on; response = t.response; key = t.key; handle = t.handle; types = t.types; below = t.below }

abbrev pub way_at : TrailAt → Way
way_at t = way_of t.trail.now
