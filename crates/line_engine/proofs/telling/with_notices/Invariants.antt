-- The lines so far, and those of the notices that are left; each is a text of its own.
use Rattle.std.proofs.Common.{◌≡◌, ◌++◌, drop, map}
use Rattle.line_engine.proofs.telling.with_notices.Given as goal
use Rattle.line_engine.specs.Notices.{names_of, told_lines}
use Rattle.line_engine.specs.Steps.{AreSingle, written}
use Rattle.store_watch.specs.Rows.{telling_of}

abbrev pub invariant-notices : goal.invariant-notices
invariant-notices l = record {
  text :
      written l.texts.items ++ told_lines (names_of l.watches) l.n (map telling_of (drop l.notice-index l.notice-items))
      ≡ written l.initial.texts.items ++ told_lines (names_of l.watches) l.n (map telling_of l.notice-items);
  single : AreSingle l.initial.texts.items → AreSingle l.texts.items;
}
