use Rattle.std.proofs.Common.{◌≡◌, Bool, true, true≢false, Option, Some, None, option_copied, refl, sym, ap, ◌∙◌}
use Rattle.std.specs.Prelude.{is_some, not}
use Rattle.std.specs.Cmp.Lexicographic.{slice_cmp}
use Rattle.std.specs.FinMap.{find}
use Rattle.std.specs.Ordering.{nat_cmp}
use Rattle.store_source.proofs.Laid.{without_absent}
use Rattle.store_source.proofs.newest.without_changes.Goals as goal

none_there : {X : Type 0} (o : Option X) (b : Bool) → is_some o ≡ not b → b ≡ true → o ≡ None
none_there None b is so = refl
none_there (Some x) b is so = absurd (true≢false (is ∙ ap not so))

pub returns-then-is_none : goal.returns-then-is_none
returns-then-is_none c =
    let changes = c.args.changes.items in
    let q = c.args.id.now in
    let none = none_there c.newest_of.result c.is_none.result c.is_none.ensures c.if-is_none.true in
    without_absent changes q (ap (find (slice_cmp nat_cmp) q) (sym c.deref.ensures.value) ∙ sym c.newest_of.ensures ∙ ap option_copied none)
