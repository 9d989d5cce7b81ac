-- Which fields of a record are written.
use Rattle.plan_order.specs.Walk as walk
use Rattle.store_show.specs.declared.span.Span.{Span}
use Rattle.store_show.specs.declared.span.Span.TheVariants.{All, Before, Behind}

abbrev pub span_of : Span → walk.Span
span_of All = walk.whole
span_of Before = walk.before
span_of Behind = walk.behind
