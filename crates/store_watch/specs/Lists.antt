-- The numbers that an index has under ids.
use Rattle.std.specs.Prelude.{ℕ, List, [], String}
use Rattle.std.specs.BTreeMap.{BTreeMap, get_by_text}
use Rattle.std.specs.Option.{option_map_or}
use Rattle.std.specs.declared.vec.Vec.{Vec}

abbrev pub under : {A : Type 0} → BTreeMap (String A) (Vec ℕ A) → List ℕ → List ℕ
under lists id = option_map_or (λ v. v.items) (get_by_text lists id) []
