use Rattle.std.proofs.Common.{◌≡◌, ◌+◌, drop}
use Rattle.std.specs.List.{prefix_len}
use Rattle.std.specs.Str.{bytes_eq}
use Rattle.store_update.proofs.touched.same_behind.Given as goal

abbrev pub invariant-later : goal.invariant-later
invariant-later l = record {
  count : l.count ≡ l.id-index;
  all : prefix_len (λ one. bytes_eq one l.first) l.later ≡ l.id-index + prefix_len (λ one. bytes_eq one l.first) (drop l.id-index l.later);
}
