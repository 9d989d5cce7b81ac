-- What is put, with what is left, covers the whole.
use Rattle.std.proofs.Common.{◌++◌, map, drop}
use Rattle.doc_uses.specs.Needs.{Covers}
use Rattle.doc_uses.specs.UseView.{use_of}
use Rattle.doc_uses.proofs.needs.put_each.Given as goal

abbrev pub invariant-uses : goal.invariant-uses
invariant-uses l = Covers (map use_of l.all.items ++ map use_of (drop l.one-index l.uses)) (map use_of l.initial.all.items ++ map use_of l.uses)
