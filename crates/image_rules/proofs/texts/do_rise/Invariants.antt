use Rattle.std.proofs.Common.{◌≡◌, ◌-◌, ◌≤◌, drop, length, map}
use Rattle.image_text.specs.Images.{rise}
use Rattle.image_rules.proofs.texts.do_rise.Given as goal

abbrev pub invariant-texts : goal.invariant-texts
invariant-texts l = record {
  is : rise (map (λ t. t.now) l.texts) ≡ rise (map (λ t. t.now) (drop (l.at - 1) l.texts));
  within : 1 ≤ l.at;
}

abbrev pub decreases-texts : goal.decreases-texts
decreases-texts l = length l.texts - l.at
